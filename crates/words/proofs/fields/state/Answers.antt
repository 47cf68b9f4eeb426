-- `words::fields::state` meets its contract, by the number.
use Rattle.rules.specs.declared.State.TheVariants.{Matching, Joining}
use Rattle.words.specs.Words.{state_by}
use borrow.Author.Tests.{ne_eqb}
use mathlib.Core.Path.{ap}
use native.Mathlib.Omega.{arith}
use Rattle.words.proofs.fields.state.Goals as goal

pub returns-in-1 : goal.returns-in-1
unfolding state_by
returns-in-1 c = rw c.in-1.is (ap Matching c.low.ensures)

pub returns-in-2 : goal.returns-in-2
unfolding state_by
returns-in-2 c = rw c.in-2.is (ap (λ n. Joining n (record { 0 = c.args.car }) (record { 0 = c.args.run })) c.low-in-2.ensures)

pub returns-in-3 : goal.returns-in-3
unfolding state_by
returns-in-3 c = rw c.in-3.is

pub returns-in_default : goal.returns-in_default
unfolding state_by
returns-in_default c = rw (ne_eqb c.args.number 1 (omega arith), ne_eqb c.args.number 2 (omega arith), ne_eqb c.args.number 3 (omega arith))
