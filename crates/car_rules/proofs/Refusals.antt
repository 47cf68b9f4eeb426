-- "A refusal changes neither car nor output", and a bad configuration answers 16 to everything.
use Prim.Native.Nat.{ℕ}
use mathlib.Core.Path.{◌≡◌, refl, ap}
use mathlib.Core.Bool.{false}
use mathlib.Core.List.{List}
use native.Mathlib.Omega.{arith}
use Rattle.octets.specs.Octets.{splice}
use Rattle.messages.specs.Reading.{Checked, no, yes}
use Rattle.ends.specs.Clock.{tick_time}
use Rattle.ends.specs.Lists.{joins}
use Rattle.ends.specs.Outcomes.{Outcome, Done, frames_of, joined, next, outcome_of}
use Rattle.car_rules.specs.declared.Car.{Car}
use Rattle.car_rules.specs.Calls.{Call, start, frame, tick, link_up, terminate}
use Rattle.car_rules.specs.Frames.{frame_rule}
use Rattle.car_rules.specs.Rules.{rule, step, outcome, key_query}

same_car_lem : (c : Car) (w : Checked (Done Car)) (n : ℕ) → outcome_of w ≡ no n → next c w ≡ c
same_car_lem c (no k) n e = refl
same_car_lem c (yes d) n e = absurd (let z : ◌≡◌ {A = ℕ} 0 1 = cc in omega arith)

pub refused_car : (c : Car) (x : Call) (n : ℕ) → outcome c x ≡ no n → step c x ≡ c
unfolding outcome step
refused_car c x n e = same_car_lem c (rule c x) n e

pub refused_output : (c : Car) (x : Call) (n : ℕ) (out : List ℕ) → outcome c x ≡ no n → splice 0 (joined (frames_of (outcome c x))) out ≡ out
unfolding splice joins
refused_output c x n out e = ap (λ (u : Outcome). splice 0 (joined (frames_of u)) out) e

-- ---- a bad configuration

pub bad_refuses : (c : Car) (x : Call) → c.config.good ≡ false → rule c x ≡ no 16
unfolding rule frame_rule tick_time
bad_refuses c (start run random t room) g = rw g
bad_refuses c (frame s room) g = rw g
bad_refuses c (tick t room) g = rw g
bad_refuses c link_up g = rw g
bad_refuses c terminate g = rw g

pub bad_key : (c : Car) → c.config.good ≡ false → key_query c ≡ no 16
unfolding key_query
bad_key c g = rw g
