-- Document 01's reading of the answers that the code gives, and what each public function promises.
use Rattle.std.specs.Prelude.{ℕ, ◌≡◌, List}
use Rattle.messages.specs.declared.CarAddress.{CarAddress}
use Rattle.octets.specs.Octets.{splice}
use Rattle.ends.specs.Answers.{answer_of, summary}
use Rattle.ends.specs.Outcomes.{frames_of, joined}
use Rattle.car_rules.specs.declared.Car.{Car}
use Rattle.car_rules.specs.declared.Stepped.{Stepped}
use Rattle.car_rules.specs.Calls.{Call}
use Rattle.car_rules.specs.Invariant.{Invariant}
use Rattle.car_rules.specs.Rules.{configured, configuring, step, outcome}

-- the whole promise of a call: r, and the output from entry to exit
pub record Answers (c : Car) (x : Call) (entry exit : List ℕ) (r : Stepped) : Type 0 where
  pub car : r.car ≡ step c x
  pub answer : answer_of r.answer ≡ summary (outcome c x)
  pub octets : exit ≡ splice 0 (joined (frames_of (outcome c x))) entry
  pub kept : Invariant r.car

-- the whole promise of configuring
pub record Configures (address : CarAddress) (reference : ℕ) (r : Stepped) : Type 0 where
  pub car : r.car ≡ configured address reference
  pub answer : answer_of r.answer ≡ summary (configuring address reference)
  pub kept : Invariant r.car
