-- `car_words::fields::state` meets its contract, by the number.
use Rattle.car_rules.specs.declared.State.TheVariants.{Asking, Confirmed, Joining}
use Rattle.car_words.proofs.StateLaws.{no_number}
use Rattle.car_words.specs.Words.{state_by}
use mathlib.Core.Path.{ap, ap₂}
use native.Mathlib.Omega.{arith}
use Rattle.car_words.proofs.fields.state.Goals as goal

pub returns-in-1 : goal.returns-in-1
unfolding state_by
returns-in-1 c = rw c.in-1.is (ap₂ Asking c.time.ensures c.at_most_count.ensures)

pub returns-in-2 : goal.returns-in-2
unfolding state_by
returns-in-2 c = rw c.in-2.is (ap Confirmed c.time-in-2.ensures)

pub returns-in-3 : goal.returns-in-3
unfolding state_by
returns-in-3 c = rw c.in-3.is (simp (c.at_most_count-in-3.ensures, c.time-in-3.ensures, c.time-in-3-2.ensures))

pub returns-in-4 : goal.returns-in-4
unfolding state_by
returns-in-4 c = rw c.in-4.is c.requesting.ensures

pub returns-in-5 : goal.returns-in-5
unfolding state_by
returns-in-5 c = rw c.in-5.is (ap (λ t. Joining t c.args.key) c.time-in-5.ensures)

pub returns-in-6 : goal.returns-in-6
unfolding state_by
returns-in-6 c = rw c.in-6.is

pub returns-in_default : goal.returns-in_default
returns-in_default c = no_number _ _ _ _ _ (omega arith) (omega arith) (omega arith) (omega arith) (omega arith) (omega arith)
