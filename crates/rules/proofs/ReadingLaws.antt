-- The group values of a frame of octets are octets, and a timer that is read fits one: the laws here that look into reading.
use Prim.Native.Nat.{ℕ, zero, suc, ◌+◌, ◌<◌}
use mathlib.Core.Path.{◌≡◌}
use mathlib.Core.Bool.{Bool, true, ◌&&◌}
use mathlib.Core.List.{List, [], ◌∷◌, ◌++◌}
use native.Mathlib.Omega.{arith}
use lib.Dec.{eqb, ltb}
use lib.ListN.{take, drop, replicate}
use borrow.Author.Tests.{ltb-true}
use Rattle.octets.specs.Octets.{value, low_value, part, Octets}
use Rattle.messages.specs.Layout.{Field, is, number, such, low, free, octets, reserved, Values, size, holds, filled, read}
use Rattle.messages.specs.Table.{Kind, slac_parm_req, slac_parm_cnf, start_atten_char_ind, atten_char_ind, atten_char_rsp, mnbc_sound_ind, validate_req, validate_cnf, slac_match_req, slac_match_cnf, atten_profile_ind, group_count, head, broadcast, timer_limit, payload, Message, addressed}
use Rattle.messages.specs.declared.Edition.{Edition}
use Rattle.messages.specs.Reading.{Checked, no, yes, Form, no_groups, beside_in, kind_rules, payload_rules, frame_rules, read_rules}
use Rattle.octets.proofs.OctetLaws.{octets_drop}
use Rattle.messages.proofs.LayoutLaws.{and_left, and_right}
use Rattle.rules.specs.Constants.{window_count}
use Rattle.ends.proofs.Logic.{split, OnYes, on_check}

take_octets : (n : ℕ) (s : List ℕ) → Octets s → Octets (take n s)
take_octets zero s o i = omega arith
take_octets (suc n) [] o i = omega arith
take_octets (suc n) (x ∷ xs) o zero = o zero
take_octets (suc n) (x ∷ xs) o (suc i) = take_octets n xs (λ j. o (suc j)) i

part_octets : (s : List ℕ) (at n : ℕ) → Octets s → Octets (part s at n)
part_octets s at n o = take_octets n (drop at s) (octets_drop at s o)

zero_octets : (n : ℕ) → Octets (replicate n 0)
zero_octets zero i = omega arith
zero_octets (suc n) zero = omega arith
zero_octets (suc n) (suc i) = zero_octets n i

both_octets : (a b : List ℕ) → Octets a → Octets b → Octets (a ++ b)
both_octets [] b o q i = q i
both_octets (x ∷ xs) b o q zero = o zero
both_octets (x ∷ xs) b o q (suc i) = both_octets xs b (λ j. o (suc j)) q i

filled_octets : (s : List ℕ) (at n z : ℕ) → Octets s → Octets (filled s at n z)
filled_octets s at n z o = both_octets (part s at n) (replicate z 0) (part_octets s at n o) (zero_octets z)

-- zeros in the place of group values
pub none_octets : Octets no_groups
unfolding no_groups
none_octets = zero_octets group_count

-- each run of octets among a layout's values
abbrev OctetValues : (fs : List Field) → Values fs → Type 0
OctetValues [] vs = Unit {0}
OctetValues (is n v ∷ fs) vs = OctetValues fs vs
OctetValues (number n ∷ fs) vs = OctetValues fs vs.1
OctetValues (such n p ∷ fs) vs = OctetValues fs vs.1
OctetValues (low n b ∷ fs) vs = OctetValues fs vs.1
OctetValues (free n b ∷ fs) vs = OctetValues fs vs.1
OctetValues (octets n z ∷ fs) vs = Octets vs.0 × OctetValues fs vs.1
OctetValues (reserved n ∷ fs) vs = OctetValues fs vs

values_octets : (fs : List Field) (at : ℕ) (s : List ℕ) → Octets s → OctetValues fs (read at fs s)
values_octets [] at s o = tt
values_octets (is n v ∷ fs) at s o = values_octets fs (at + n) s o
values_octets (number n ∷ fs) at s o = values_octets fs (at + n) s o
values_octets (such n p ∷ fs) at s o = values_octets fs (at + n) s o
values_octets (low n b ∷ fs) at s o = values_octets fs (at + n) s o
values_octets (free n b ∷ fs) at s o = values_octets fs (at + n) s o
values_octets (octets n z ∷ fs) at s o = (filled_octets s at n z o, values_octets fs (at + n) s o)
values_octets (reserved n ∷ fs) at s o = values_octets fs (at + n) s o

-- what reading octets gives: group values that are octets
abbrev OctetsOf : (e : Edition) (k : Kind) (g d f : ℕ) → Values (payload e k g d f) → Type 0
OctetsOf e k g d f vs = Octets (beside_in e k g d f vs).groups

abbrev pub OctetMessage : Message → Type 0
OctetMessage m = OctetsOf m.edition m.kind m.count m.dst m.src m.values

of_kind_lem : (e : Edition) (k : Kind) (g d f : ℕ) (vs : Values (payload e k g d f)) → OctetValues (payload e k g d f) vs → OctetsOf e k g d f vs
of_kind_lem e slac_parm_req g d f vs o = none_octets
of_kind_lem e slac_parm_cnf g d f vs o = none_octets
of_kind_lem e start_atten_char_ind g d f vs o = none_octets
of_kind_lem e atten_char_ind g d f vs o = o.0
of_kind_lem e atten_char_rsp g d f vs o = none_octets
of_kind_lem e mnbc_sound_ind g d f vs o = none_octets
of_kind_lem e validate_req g d f vs o = none_octets
of_kind_lem e validate_cnf g d f vs o = none_octets
of_kind_lem e slac_match_req g d f vs o = none_octets
of_kind_lem e slac_match_cnf g d f vs o = none_octets
of_kind_lem e atten_profile_ind g d f vs o = o.0

of_payload : (e : Edition) (k : Kind) (g d f : ℕ) (p : List ℕ) → Octets p → OnYes OctetMessage (payload_rules e k g d f p)
of_payload e k g d f p o =
    on_check OctetMessage (addressed e k g d f (read 0 (payload e k g d f) p)) 5 _ (λ a. on_check OctetMessage (holds 0 (payload e k g d f) p) 6 _ (λ b. of_kind_lem e k g d f (read 0 (payload e k g d f) p) (values_octets (payload e k g d f) 0 p o)))

of_frame : (e : Edition) (x : Checked Form) (s : List ℕ) → Octets s → OnYes OctetMessage (frame_rules e x s)
of_frame e (no n) s o = tt
of_frame e (yes t) s o = of_payload e t.kind t.count (read 0 head s).0 (read 0 head s).1.0 (drop (size head) s) (octets_drop (size head) s o)

-- of a frame of octets
pub read_octets : (e : Edition) (s : List ℕ) → Octets s → OnYes OctetMessage (read_rules e s)
unfolding read_rules
read_octets e s o = of_frame e (kind_rules e s) s o

-- ---- the timer

-- the timer of VALIDATE.REQ, and 0 of any other message
abbrev pub timer_in : (e : Edition) (k : Kind) (g d f : ℕ) → Values (payload e k g d f) → ℕ
timer_in e slac_parm_req g d f vs = 0
timer_in e slac_parm_cnf g d f vs = 0
timer_in e start_atten_char_ind g d f vs = 0
timer_in e atten_char_ind g d f vs = 0
timer_in e atten_char_rsp g d f vs = 0
timer_in e mnbc_sound_ind g d f vs = 0
timer_in e validate_req g d f vs = vs.0
timer_in e validate_cnf g d f vs = 0
timer_in e slac_match_req g d f vs = 0
timer_in e slac_match_cnf g d f vs = 0
timer_in e atten_profile_ind g d f vs = 0

-- reading limits it, also where a list's numbers are no octets
below_limit : (t d : ℕ) → ltb t (timer_limit d) ≡ true → t < window_count
below_limit t d h = split (eqb d broadcast) (λ a. ltb-true t 256 (rw a at h)) (λ a. let z : t < 1 = ltb-true t 1 (rw a at h) in omega arith)

limited : (a : Bool) (t d : ℕ) (b : Bool) → a && (ltb t (timer_limit d) && b) ≡ true → t < window_count
limited a t d b h = below_limit t d (and_left (ltb t (timer_limit d)) b (and_right a (ltb t (timer_limit d) && b) h))

abbrev TimerOf : (e : Edition) (k : Kind) (g d f : ℕ) → Values (payload e k g d f) → Type 0
TimerOf e k g d f vs = timer_in e k g d f vs < window_count

abbrev pub TimerMessage : Message → Type 0
TimerMessage m = TimerOf m.edition m.kind m.count m.dst m.src m.values

timer_kind : (e : Edition) (k : Kind) (g d f : ℕ) (p : List ℕ) → holds 0 (payload e k g d f) p ≡ true → TimerOf e k g d f (read 0 (payload e k g d f) p)
timer_kind e slac_parm_req g d f p h = omega arith
timer_kind e slac_parm_cnf g d f p h = omega arith
timer_kind e start_atten_char_ind g d f p h = omega arith
timer_kind e atten_char_ind g d f p h = omega arith
timer_kind e atten_char_rsp g d f p h = omega arith
timer_kind e mnbc_sound_ind g d f p h = omega arith
timer_kind e validate_req g d f p h = limited (eqb (value p 0 1) 0x00) (low_value p 1 1) d (holds 2 (is 1 0x01 ∷ []) p) h
timer_kind e validate_cnf g d f p h = omega arith
timer_kind e slac_match_req g d f p h = omega arith
timer_kind e slac_match_cnf g d f p h = omega arith
timer_kind e atten_profile_ind g d f p h = omega arith

timer_payload : (e : Edition) (k : Kind) (g d f : ℕ) (p : List ℕ) → OnYes TimerMessage (payload_rules e k g d f p)
timer_payload e k g d f p = on_check TimerMessage (addressed e k g d f (read 0 (payload e k g d f) p)) 5 _ (λ a. on_check TimerMessage (holds 0 (payload e k g d f) p) 6 _ (λ b. timer_kind e k g d f p b))

timer_frame : (e : Edition) (x : Checked Form) (s : List ℕ) → OnYes TimerMessage (frame_rules e x s)
timer_frame e (no n) s = tt
timer_frame e (yes t) s = timer_payload e t.kind t.count (read 0 head s).0 (read 0 head s).1.0 (drop (size head) s)

pub read_timer : (e : Edition) (s : List ℕ) → OnYes TimerMessage (read_rules e s)
unfolding read_rules
read_timer e s = timer_frame e (kind_rules e s) s
