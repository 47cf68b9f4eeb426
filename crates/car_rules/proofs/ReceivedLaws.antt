-- What a car receives comes from a unicast address: reading has tested it.
use Prim.Native.Nat.{ℕ}
use mathlib.Core.Path.{◌≡◌, refl}
use mathlib.Core.Bool.{true}
use mathlib.Core.List.{List}
use lib.ListN.{drop}
use Rattle.messages.specs.declared.Edition.{Edition}
use Rattle.messages.specs.declared.Edition.TheVariants.{Iso}
use Rattle.messages.specs.Layout.{Values, size, holds, read}
use Rattle.messages.specs.Table.{Kind, slac_parm_req, slac_parm_cnf, start_atten_char_ind, atten_char_ind, atten_char_rsp, mnbc_sound_ind, validate_req, validate_cnf, slac_match_req, slac_match_cnf, atten_profile_ind, head, is_unicast, payload, Message, addressed}
use Rattle.messages.specs.Reading.{Checked, no, yes, Form, kind_rules, frame_rules, read_rules}
use Rattle.messages.specs.Writing.{is_addressed}
use Rattle.messages.proofs.LayoutLaws.{and_left}
use Rattle.amplitude.specs.Maps.{MapMessage, amp_map_req, amp_map_cnf}
use Rattle.amplitude.specs.Reading as amplitude
use Rattle.amplitude.specs.Reading.{summary_of}
use Rattle.amplitude.proofs.NamedCars.{both_unicast}
use Rattle.ends.proofs.Logic.{OnYes, on_check, on_else}
use Rattle.car_rules.specs.Received.{Received, received_as, message_as, map_in, received}
use Rattle.ends.specs.Outcomes.{and_then}

abbrev Addressed : Message → Type 0
Addressed m = is_addressed m ≡ true

abbrev pub FromUnicast : Received → Type 0
FromUnicast y = is_unicast y.station.0 ≡ true

frame_addressed : (e : Edition) (x : Checked Form) (s : List ℕ) → OnYes Addressed (frame_rules e x s)
frame_addressed e (no n) s = tt
frame_addressed e (yes t) s =
    let d = (read 0 head s).0 in
    let f = (read 0 head s).1.0 in
    let p = drop (size head) s in
    let fs = payload e t.kind t.count d f in
    on_check Addressed (addressed e t.kind t.count d f (read 0 fs p)) 5 _ (λ a. on_check Addressed (holds 0 fs p) 6 _ (λ h. a))

unicast_as : (e : Edition) (k : Kind) (g d f : ℕ) (vs : Values (payload e k g d f)) → addressed e k g d f vs ≡ true → OnYes FromUnicast (received_as e k g d f vs)
unicast_as e slac_parm_req g d f vs a = tt
unicast_as e slac_parm_cnf g d f vs a = and_left (is_unicast f) (is_unicast d) a
unicast_as e start_atten_char_ind g d f vs a = tt
unicast_as e atten_char_ind g d f vs a = and_left (is_unicast f) (is_unicast d) a
unicast_as e atten_char_rsp g d f vs a = tt
unicast_as e mnbc_sound_ind g d f vs a = tt
unicast_as e validate_req g d f vs a = tt
unicast_as e validate_cnf g d f vs a = and_left (is_unicast f) (is_unicast d) a
unicast_as e slac_match_req g d f vs a = tt
unicast_as e slac_match_cnf g d f vs a = and_left (is_unicast f) (is_unicast d) a
unicast_as e atten_profile_ind g d f vs a = tt

unicast_in : (x : Checked Message) → OnYes Addressed x → OnYes FromUnicast (and_then x message_as)
unicast_in (no n) a = tt
unicast_in (yes m) a = unicast_as m.edition m.kind m.count m.dst m.src m.values a

unicast_map : (s : List ℕ) (z : Checked MapMessage) → amplitude.read_rules s ≡ z → OnYes FromUnicast (map_in (summary_of z))
unicast_map s (no n) e = tt
unicast_map s (yes (amp_map_req d f vs)) e = and_left (is_unicast f) (is_unicast d) (both_unicast s (amp_map_req d f vs) e)
unicast_map s (yes (amp_map_cnf d f x)) e = and_left (is_unicast f) (is_unicast d) (both_unicast s (amp_map_cnf d f x) e)

of_eleven : (s : List ℕ) → OnYes FromUnicast (and_then (read_rules Iso s) message_as)
unfolding read_rules
of_eleven s = unicast_in (read_rules Iso s) (frame_addressed Iso (kind_rules Iso s) s)

pub received_unicast : (s : List ℕ) → OnYes FromUnicast (received s)
unfolding received
received_unicast s = on_else message_as (map_in (summary_of (amplitude.read_rules s))) FromUnicast (read_rules Iso s) (of_eleven s) (unicast_map s (amplitude.read_rules s) refl)
