-- The tick call: what follows the elapsed time.
use Prim.Native.Nat.{ℕ}
use mathlib.Core.Path.{◌≡◌, sym, ap, ◌∙◌}
use mathlib.Core.List.{List}
use lib.ListN.{length}
use Rattle.messages.specs.declared.Refusal.{Refusal}
use Rattle.messages.specs.Answers.{checked_of}
use Rattle.messages.specs.Reading.{Checked, yes}
use Rattle.std.specs.Prelude.{Result, Ok}
use Rattle.ends.specs.Clock.{tick_time}
use Rattle.ends.specs.Outcomes.{Done, and_then}
use Rattle.car_rules.specs.declared.Car.{Car}
use Rattle.car_rules.specs.Calls.{tick}
use Rattle.car_rules.specs.Cars.{at_reading}
use Rattle.car_rules.specs.Constants.{least_output}
use Rattle.car_rules.specs.Rules.{rule}
use Rattle.car_rules.specs.Ticks.{tick_done}

module _ (c : Car) (t : ℕ) (out : List ℕ) (w : Result ℕ Refusal) (ew : checked_of w ≡ tick_time c.config.good least_output (length out) t c.clock) where
  follows : Checked ℕ → Checked (Done Car)
  follows x = and_then x (λ (e : ℕ). yes (tick_done e (at_reading t c) c.state))

  tick_follows : (v : Result ℕ Refusal) → w ≡ v → rule c (tick t (length out)) ≡ follows (checked_of v)
  unfolding rule follows
  tick_follows v told = ap follows (sym ew ∙ ap checked_of told)

  -- a time: d is the car with its reading
  pub tick_rule : (e : ℕ) → w ≡ Ok e → (d : Car) → d ≡ at_reading t c → rule c (tick t (length out)) ≡ yes (tick_done e d d.state)
  unfolding follows
  tick_rule e told d ed = tick_follows (Ok e) told ∙ sym (ap (λ (x : Car). yes (tick_done e x x.state)) ed)
