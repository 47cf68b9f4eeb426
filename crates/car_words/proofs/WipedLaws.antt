-- A car of zeros is badly configured, so that it answers 16 to everything.
use Prim.Native.Nat.{ℕ}
use mathlib.Core.Path.{◌≡◌, refl, ap, ◌∙◌}
use mathlib.Core.Bool.{false}
use mathlib.Core.List.{List}
use lib.ListN.{replicate}
use Rattle.messages.specs.Reading.{no}
use Rattle.ends.specs.Outcomes.{outcome_of}
use Rattle.car_rules.specs.declared.Car.{Car}
use Rattle.car_rules.specs.Calls.{Call}
use Rattle.car_rules.specs.Rules.{outcome}
use Rattle.car_rules.proofs.Refusals.{bad_refuses, bad_key}
use Rattle.car_words.specs.Words.{word_count, config_of, car_of}
use Rattle.car_words.specs.Wiped.{Wiped}

-- a badly configured car refuses every call with 16
bad_outcome : (c : Car) (x : Call) → c.config.good ≡ false → outcome c x ≡ no 16
unfolding outcome
bad_outcome c x h = ap outcome_of (bad_refuses c x h)

zeros_bad : (car_of (replicate word_count 0)).config.good ≡ false
unfolding car_of config_of
zeros_bad = refl

pub wiped : (v : List ℕ) → v ≡ replicate word_count 0 → Wiped v
wiped v e =
    let bad : (car_of v).config.good ≡ false = ap (λ (w : List ℕ). (car_of w).config.good) e ∙ zeros_bad in
    record { words = e; calls = λ x. bad_outcome (car_of v) x bad; query = bad_key (car_of v) bad }
