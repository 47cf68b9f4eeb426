-- Proof that a message which was read has unicast addresses, and with it the car that a frame names: reading has tested them.
use Prim.Native.Nat.{ℕ}
use mathlib.Core.Path.{◌≡◌, refl, subst}
use mathlib.Core.Bool.{true}
use mathlib.Core.List.{List}
use mathlib.Core.Logic.{⊎_elim}
use mathlib.Core.Option.{Option, none, some}
use native.Mathlib.Omega.{arith}
use Rattle.messages.specs.declared.CarAddress.{CarAddress}
use Rattle.messages.specs.Table.{is_unicast}
use Rattle.messages.specs.Reading.{Checked, no, yes}
use Rattle.messages.proofs.LayoutLaws.{and_left}
use Rattle.amplitude.specs.Maps.{MapMessage, amp_map_req, amp_map_cnf, destination, source, is_addressed}
use Rattle.amplitude.specs.Reading.{read_rules, car_of}
use Rattle.amplitude.specs.Claims.{CarsUnicast}
use Rattle.amplitude.proofs.AcceptedLaws.{IsReq, IsCnf, accepted}

abbrev Addressed : MapMessage → Type 0
Addressed m = is_addressed (destination m) (source m) ≡ true

pub both_unicast : (s : List ℕ) (m : MapMessage) → read_rules s ≡ yes m → Addressed m
both_unicast s m q = ⊎_elim (λ (x : IsReq s m). subst Addressed x.same x.sized.addressed) (λ (x : IsCnf s m). subst Addressed x.same x.sized.addressed) (accepted s m q)

module _ (c : CarAddress) where
  none_named : ◌≡◌ {A = Option CarAddress} none (some c) → is_unicast c.0 ≡ true
  none_named e = absurd (let z : ◌≡◌ {A = ℕ} 0 1 = cc in omega arith)

  named : (s : List ℕ) (x : Checked MapMessage) → read_rules s ≡ x → car_of x ≡ some c → is_unicast c.0 ≡ true
  named s (no n) q e = none_named e
  named s (yes (amp_map_req d f vs)) q e =
      let same : record { 0 = f } ≡ c = cc in
      subst (λ (k : CarAddress). is_unicast k.0 ≡ true) same (and_left (is_unicast f) (is_unicast d) (both_unicast s (amp_map_req d f vs) q))
  named s (yes (amp_map_cnf d f x)) q e = none_named e

pub cars_unicast : CarsUnicast
cars_unicast s c e = named c s (read_rules s) refl e
