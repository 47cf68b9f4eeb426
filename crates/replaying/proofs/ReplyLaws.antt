-- The octets of a reply in a log are those of a script's, and hold its fields.
use Prim.Native.Nat.{ℕ, ◌+◌, ◌-◌, ◌^◌, ◌<◌, ◌≤◌}
use mathlib.Core.Path.{◌≡◌, refl, sym, ap, ap₂, ◌∙◌}
use mathlib.Core.Bool.{Bool, ◌&&◌}
use mathlib.Core.List.{List, ◌++◌}
use native.Mathlib.Omega.{arith}
use lib.Dec.{eqb}
use lib.ListN.{length, take, drop, length-append, length-drop}
use lib.Seq.{take-add, drop-drop, length-take-le}
use Rattle.octets.specs.Octets.{low_value, low_bytes, part, Octets}
use Rattle.octets.proofs.OctetLaws.{low_lt, low_bytes_value}
use Rattle.messages.specs.Reading.{no, yes}
use Rattle.ends.specs.declared.Indication.{Indication}
use Rattle.ends.specs.declared.Indication.TheVariants.{Nothing, NoLink, LinkEstablished, Found, PotentiallyFound, NotFound, KeyGiven}
use Rattle.ends.specs.Answers.{indication_number}
use Rattle.ends.specs.Outcomes.{Outcome}
use Rattle.script.specs.Replies.{longest_reply, reply_head, call_reply}
use Rattle.session_log.specs.Meaning.{Item, length_in}
use Rattle.session_log.specs.Layout.{item_octets, numbers, numbers_at, octets_of, head_at, behind, item_at}
use Rattle.replaying.specs.Replaying.{recorded, same_octets, same_reply}
use Rattle.replaying.proofs.SameLaws.{same_sized, same_low}

-- ---- any reply

-- its numbers fit four octets each
pub record Narrow (x : Item) : Type 0 where
  pub first : x.first < 256 ^ 4
  pub second : x.second < 256 ^ 4
  pub size : length x.octets < 256 ^ 4

-- its octets: three numbers, and then its own
octets_in : (x : Item) → octets_of x ≡ low_bytes 4 x.first ++ (low_bytes 4 x.second ++ (low_bytes 4 (length x.octets) ++ x.octets))
unfolding numbers low_bytes
octets_in x = refl

-- the octets of two replies are the same where refusal, indication and frames are, and the other way round
pub same_replies : (x y : Item) → Narrow x → Narrow y → same_octets (octets_of x) (octets_of y) ≡ same_reply x y
same_replies x y p q =
    ap₂ same_octets (octets_in x) (octets_in y)
    ∙ same_low 4 x.first y.first _ _ p.first q.first
    ∙ ap (λ (d : Bool). eqb x.first y.first && d)
    (same_low 4 x.second y.second _ _ p.second q.second
    ∙ ap (λ (d : Bool). eqb x.second y.second && d)
    (same_low 4 (length x.octets) (length y.octets) x.octets y.octets p.size q.size ∙ same_sized x.octets y.octets))

-- ---- the reply at a place of a log

part_joined : (s : List ℕ) (at m n : ℕ) → part s at m ++ part s (at + m) n ≡ part s at (m + n)
part_joined s at m n = ap (λ (l : List ℕ). part s at m ++ take n l) (sym (drop-drop m at s)) ∙ sym (take-add m n (drop at s))

-- three numbers of four octets, and n octets behind them
parts_joined : (s : List ℕ) (at n : ℕ) → part s at 4 ++ (part s (at + 4) 4 ++ (part s (at + 4 + 4) 4 ++ part s (at + 4 + 4 + 4) n)) ≡ part s at (4 + (4 + (4 + n)))
parts_joined s at n =
    ap (λ (l : List ℕ). part s at 4 ++ (part s (at + 4) 4 ++ l)) (part_joined s (at + 4 + 4) 4 n)
    ∙ ap (λ (l : List ℕ). part s at 4 ++ l) (part_joined s (at + 4) 4 (4 + n))
    ∙ part_joined s at 4 (4 + (4 + n))

module _ (s : List ℕ) (at : ℕ) (o : Octets s) (h : behind s at ≤ length s) where
  own_length_lem : length (item_at s at).octets ≡ length_in (head_at s at)
  own_length_lem = length-take-le (length_in (head_at s at)) (drop (at + item_octets) s) (rw length-drop (omega arith))

  pub item_narrow : Narrow (item_at s at)
  unfolding numbers_at
  item_narrow = record { first = low_lt s at 4 o; second = low_lt s (at + 4) 4 o; size = rw own_length_lem (low_lt s (at + 4 + 4) 4 o) }

  -- its octets are the part of the log from its place to its end
  pub item_octets_lem : take (behind s at - at) (drop at s) ≡ octets_of (item_at s at)
  unfolding numbers_at
  item_octets_lem =
      let n : ℕ = low_value s (at + 4 + 4) 4 in
      let own : List ℕ = part s (at + item_octets) n in
      let size : behind s at - at ≡ 4 + (4 + (4 + n)) = omega arith in
      let place : at + 4 + 4 + 4 ≡ at + item_octets = omega arith in
      ap (part s at) size
      ∙ sym (parts_joined s at n)
      ∙ ap (λ (k : ℕ). part s at 4 ++ (part s (at + 4) 4 ++ (part s (at + 4 + 4) 4 ++ part s k n))) place
      ∙ sym (ap₂ (λ (a b : List ℕ). a ++ b) (low_bytes_value 4 at s o (omega arith))
      (ap₂ (λ (a b : List ℕ). a ++ b) (low_bytes_value 4 (at + 4) s o (omega arith))
      (ap (λ (a : List ℕ). a ++ own) (ap (low_bytes 4) own_length_lem ∙ low_bytes_value 4 (at + 4 + 4) s o (omega arith)))))
      ∙ sym (octets_in (item_at s at))

-- ---- the reply to a call

-- a script's octets of it are a log's
pub reply_octets_lem : (y : Outcome) → call_reply y ≡ octets_of (recorded y)
unfolding reply_head numbers low_bytes
reply_octets_lem (no n) = refl
reply_octets_lem (yes x) = refl

indication_narrow : (i : Indication) → indication_number i < 256 ^ 4
indication_narrow Nothing = omega arith
indication_narrow NoLink = omega arith
indication_narrow LinkEstablished = omega arith
indication_narrow Found = omega arith
indication_narrow PotentiallyFound = omega arith
indication_narrow NotFound = omega arith
indication_narrow KeyGiven = omega arith

-- the octets behind its first ones are fewer than the whole
few : (x : Item) → length (octets_of x) ≤ longest_reply → length x.octets < 256 ^ 4
few x h = let e : length (octets_of x) ≡ length (numbers _) + length x.octets = length-append (numbers _) x.octets in omega arith

pub recorded_narrow : (y : Outcome) → ((n : ℕ) → y ≡ no n → n < 256 ^ 4) → length (call_reply y) ≤ longest_reply → Narrow (recorded y)
recorded_narrow (no n) r h = record { first = r n refl; second = omega arith; size = omega arith }
recorded_narrow (yes x) r h = record { first = omega arith; second = indication_narrow x.indication; size = few (recorded (yes x)) (rw (sym (reply_octets_lem (yes x))) h) }
