-- Proof that a car which a frame names has a unicast address: reading has tested it.
use Prim.Native.Nat.{ℕ}
use mathlib.Core.Path.{◌≡◌, refl, subst}
use mathlib.Core.Bool.{true, ◌&&◌}
use mathlib.Core.List.{List}
use mathlib.Core.Option.{Option, none, some}
use native.Mathlib.Omega.{arith}
use Rattle.messages.specs.Layout.{Values}
use Rattle.messages.specs.Table.{Kind, slac_parm_req, slac_parm_cnf, start_atten_char_ind, atten_char_ind, atten_char_rsp, mnbc_sound_ind, validate_req, validate_cnf, slac_match_req, slac_match_cnf, atten_profile_ind, is_unicast, payload, Message, addressed}
use Rattle.messages.specs.Reading.{Checked, no, yes, read_rules, car_in, car_of}
use Rattle.messages.specs.Writing.{is_addressed}
use Rattle.messages.specs.Claims.{CarsUnicast}
use Rattle.messages.specs.declared.Edition.{Edition}
use Rattle.messages.specs.declared.CarAddress.{CarAddress}
use Rattle.messages.proofs.LayoutLaws.{and_left, and_right}
use Rattle.messages.proofs.FrameLaws.{accepted}

module _ (c : CarAddress) where
  this : (a : ℕ) → is_unicast a ≡ true → some (record { 0 = a }) ≡ some c → is_unicast c.0 ≡ true
  this a u e = let same : record { 0 = a } ≡ c = cc in subst (λ (d : CarAddress). is_unicast d.0 ≡ true) same u

  none_named : ◌≡◌ {A = Option CarAddress} none (some c) → is_unicast c.0 ≡ true
  none_named e = absurd (let z : ◌≡◌ {A = ℕ} 0 1 = cc in omega arith)

  named_in : (e : Edition) (k : Kind) (g d f : ℕ) (vs : Values (payload e k g d f)) → addressed e k g d f vs ≡ true → car_in e k g d f vs ≡ some c → is_unicast c.0 ≡ true
  named_in e slac_parm_req g d f vs a q = this f (and_left (is_unicast f) _ a) q
  named_in e slac_parm_cnf g d f vs a q = none_named q
  named_in e start_atten_char_ind g d f vs a q = this f (and_left (is_unicast f) _ a) q
  named_in e atten_char_ind g d f vs a q = none_named q
  named_in e atten_char_rsp g d f vs a q = this f (and_left (is_unicast f) _ a) q
  named_in e mnbc_sound_ind g d f vs a q = this f (and_left (is_unicast f) _ a) q
  named_in e validate_req g d f vs a q = this f (and_left (is_unicast f) _ a) q
  named_in e validate_cnf g d f vs a q = none_named q
  named_in e slac_match_req g d f vs a q = this f (and_left (is_unicast f) _ a) q
  named_in e slac_match_cnf g d f vs a q = none_named q
  named_in e atten_profile_ind g d f vs a q = this vs.0 (and_right (is_unicast f && is_unicast d) _ a) q

  named : (e : Edition) (s : List ℕ) (x : Checked Message) → read_rules e s ≡ x → car_of x ≡ some c → is_unicast c.0 ≡ true
  named e s (no n) q r = none_named r
  named e s (yes m) q r =
      let x = accepted e s m q in
      named_in m.edition m.kind m.count m.dst m.src m.values (subst (λ (t : Message). is_addressed t ≡ true) x.same x.right) r

pub cars_unicast : CarsUnicast
cars_unicast e s c q = named c e s (read_rules e s) refl q
