-- A call's promise, from what its rule comes to.
use Prim.Native.Nat.{ℕ}
use mathlib.Core.Path.{◌≡◌, refl, sym, subst}
use mathlib.Core.List.{List}
use Rattle.messages.specs.declared.Refusal.{Refusal}
use Rattle.messages.specs.Answers.{number_of}
use Rattle.messages.specs.Reading.{Checked, no, yes}
use Rattle.ends.specs.Outcomes.{Done}
use Rattle.car_rules.specs.declared.Car.{Car}
use Rattle.car_rules.specs.declared.Stepped.{Stepped}
use Rattle.car_rules.specs.Answers.{Answers}
use Rattle.car_rules.specs.Calls.{Call}
use Rattle.car_rules.specs.Invariant.{Invariant}
use Rattle.car_rules.specs.Rules.{rule, step, outcome}
use Rattle.car_rules.proofs.InvariantKept.{step_keeps}
use Rattle.car.specs.Steps.{refused_as, Comes, Gives}
use Rattle.car.proofs.ComesLaws.{comes_as, comes_gives, comes_refused}

-- the invariant is kept
pub kept_after : (c : Car) (x : Call) → Invariant c → (d : Car) → d ≡ step c x → Invariant d
kept_after c x i d e = subst Invariant (sym e) (step_keeps c x i)

module _ (c : Car) (x : Call) (i : Invariant c) (r : Stepped) where
  -- by what the rule gives
  pub promised : (w : Checked (Done Car)) (entry exit : List ℕ) → rule c x ≡ w → Comes c w entry exit r → Answers c x entry exit r
  unfolding step outcome
  promised w entry exit e h =
      let y = comes_as c (rule c x) w entry exit r e h in
      record { car = y.car; answer = y.answer; octets = y.octets; kept = kept_after c x i r.car y.car }

  -- an accepted call
  pub accepted : (d : Done Car) (entry exit : List ℕ) → rule c x ≡ yes d → Gives d entry exit r → Answers c x entry exit r
  accepted d entry exit e g = promised (rule c x) entry exit refl (comes_gives c (rule c x) d entry exit r e g)

  -- a refusal
  pub refuses : (why : Refusal) (out : List ℕ) → rule c x ≡ no (number_of why) → r ≡ refused_as c why → Answers c x out out r
  refuses why out e q = promised (rule c x) out out refl (comes_refused c (rule c x) why out r e q)
