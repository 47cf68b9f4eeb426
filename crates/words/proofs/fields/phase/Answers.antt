-- `words::fields::phase` meets its contract, by the number.
use mathlib.Core.Path.{ap, ap₂, ◌∙◌}
use Rattle.rules.specs.declared.Phase.TheVariants.{Asked, Sounding, Reported, Awaiting, Ready, Success}
use Rattle.ends.specs.Words.{time_within}
use Rattle.words.proofs.PhaseLaws.{no_phase}
use Rattle.words.specs.Words.{phase_of}
use native.Mathlib.Omega.{arith}
use Rattle.words.proofs.fields.phase.Goals as goal

pub returns-in-1 : goal.returns-in-1
unfolding phase_of
returns-in-1 c = rw c.in-1.is (ap Sounding (c.time.ensures ∙ ap (λ t. time_within t c.args.left) c.sounding_time.ensures))

pub returns-in-2 : goal.returns-in-2
unfolding phase_of
returns-in-2 c = rw c.in-2.is (ap₂ Reported c.time-in-2.ensures c.at_most_count.ensures)

pub returns-in-3 : goal.returns-in-3
unfolding phase_of
returns-in-3 c = rw c.in-3.is (ap Awaiting c.time-in-3.ensures)

pub returns-in-4 : goal.returns-in-4
unfolding phase_of
returns-in-4 c = rw c.in-4.is (ap Ready c.time-in-4.ensures)

pub returns-in-5 : goal.returns-in-5
unfolding phase_of
returns-in-5 c = rw c.in-5.is c.counting.ensures

pub returns-in-6 : goal.returns-in-6
unfolding phase_of
returns-in-6 c = rw c.in-6.is c.counting-in-6.ensures

pub returns-in-7 : goal.returns-in-7
unfolding phase_of
returns-in-7 c = rw c.in-7.is (ap Success c.time-in-7.ensures)

pub returns-in_default : goal.returns-in_default
returns-in_default c = ap Asked c.time-in_default.ensures ∙ no_phase _ _ _ _ _ (omega arith) (omega arith) (omega arith) (omega arith) (omega arith) (omega arith) (omega arith)
