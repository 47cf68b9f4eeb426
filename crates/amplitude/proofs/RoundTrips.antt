-- Proof of the two round trips, for both messages and every number of carriers.
use Prim.Native.Nat.{ℕ, zero, suc, ◌+◌, ◌%◌, ◌^◌, ◌≤◌, ◌<◌}
use mathlib.Core.Path.{◌≡◌, refl, sym, ap, ap₂, ◌∙◌, subst}
use mathlib.Core.Bool.{true, ◌&&◌}
use mathlib.Core.List.{List, [], ◌∷◌, ◌++◌, append_assoc, append-nil}
use mathlib.Core.Logic.{⊎_elim}
use native.Mathlib.Omega.{arith}
use borrow.Author.Tests.{le-leb, ltb-true, lt-ltb, eq-eqb}
use lib.Dec.{eqb, leb, ltb}
use lib.ListN.{length, get_or, take, drop, length-append}
use lib.Seq.{take-add, drop-drop}
use Rattle.octets.specs.Octets.{value, bytes, low_value, low_bytes, part, Octets}
use Rattle.messages.specs.Layout.{Values, size, holds, read, encode, zeroed}
use Rattle.messages.specs.Table.{head, is_unicast}
use Rattle.messages.specs.Reading.{Checked, yes, check}
use Rattle.octets.proofs.OctetLaws.{octets_drop, length_low, low_value_bytes, low_bytes_value, bytes_value, value_here, part_here}
use Rattle.octets.proofs.LoopLaws.{value_one}
use Rattle.messages.proofs.LayoutLaws.{and_left, and_right, Fits, holds_encode, read_encode, encode_read}
use Rattle.messages.proofs.TableLaws.{unicast_lt}
use Rattle.messages.proofs.CheckLaws.{pass, passed}
use Rattle.amplitude.specs.Halves.{halves, packed, octets_for, are_halves}
use Rattle.amplitude.specs.Maps.{MapMessage, amp_map_req, amp_map_cnf, type_of, destination, source, is_carriers, count_size, req_size, cnf_size, payload_size, filled, result_limit, is_limited, is_addressed, payload}
use Rattle.amplitude.specs.Reading.{dst_in, src_in, sized, map_octets, request_of, type_rules, read_rules}
use Rattle.amplitude.specs.Writing.{head_octets, padding, length_in, frame, write_rules}
use Rattle.amplitude.specs.Claims.{ReadsWritten, WritesRead}
use Rattle.amplitude.proofs.HalfLaws.{length_packed, halves_packed, spare_packed, packed_halves, halves_fit}
use Rattle.amplitude.proofs.ReadLaws.{carriers_in, map_in, result_in, sized_right, carriers_le, length_map, length_values}
use Rattle.amplitude.proofs.AcceptedLaws.{Headed, IsReq, IsCnf, accepted}
use Rattle.amplitude.proofs.WriteLaws.{length_head, length_frame}

-- ---- reading what was written

type_lt : (m : MapMessage) → type_of m < 2 ^ 16
type_lt (amp_map_req d f vs) = omega arith
type_lt (amp_map_cnf d f x) = omega arith

module _ (m : MapMessage) (a : is_addressed (destination m) (source m) ≡ true) where
  abbrev values : Values head
  values = (destination m, (source m, (type_of m, tt)))

  abbrev behind : List ℕ
  behind = payload m ++ padding (payload_size m)

  abbrev octets : List ℕ
  octets = head_octets m ++ behind

  head_fits : Fits head values
  head_fits =
      let t = type_lt m in
      (unicast_lt (destination m) (and_right (is_unicast (source m)) _ a), (unicast_lt (source m) (and_left (is_unicast (source m)) _ a), (omega arith, ((t, t), (omega arith, tt)))))

  head_read : read 0 head octets ≡ values
  head_read = read_encode head values [] behind head_fits

  dst_read : dst_in octets ≡ destination m
  dst_read = ap (λ (t : Values head). t.0) head_read

  src_read : src_in octets ≡ source m
  src_read = ap (λ (t : Values head). t.1.0) head_read

  whole : length octets ≡ length_in m
  unfolding frame
  whole = length_frame m

  typed : read_rules octets ≡ type_rules (type_of m) octets
  unfolding read_rules
  typed =
      pass (leb (size head) (length octets)) 1 _ (le-leb (size head) (length octets) (omega (arith, whole)))
      ∙ pass (holds 0 head octets) 2 _ (holds_encode head values [] behind head_fits)
      ∙ ap (λ (t : Values head). type_rules t.1.1.0 octets) head_read

  right : (x : Checked MapMessage) → sized (filled (payload_size m)) octets x ≡ x
  right x = sym (sized_right (filled (payload_size m)) octets x (record { whole = omega (arith, whole); padded = omega (arith, whole); addressed = ap₂ is_addressed dst_read src_read ∙ a }))

module _ (d f : ℕ) (vs : List ℕ) (a : is_addressed d f ≡ true) (c : is_carriers (length vs) ≡ true) (w : are_halves vs ≡ true) where
  abbrev req : MapMessage
  req = amp_map_req d f vs

  abbrev n : ℕ
  n = length vs

  abbrev s : List ℕ
  s = octets req a

  abbrev rest : List ℕ
  rest = packed vs ++ padding (req_size n)

  count_read : carriers_in s ≡ n
  count_read =
      ap₂ (λ (l : List ℕ) (k : ℕ). low_value (head_octets req ++ l) k count_size) (append_assoc (low_bytes count_size n) (packed vs) (padding (req_size n))) (sym (length_head req))
      ∙ low_value_bytes count_size n (head_octets req) rest (omega (arith, carriers_le n c))

  map_read : map_octets n s ≡ packed vs
  map_read =
      let pre = head_octets req ++ low_bytes count_size n in
      let e : s ≡ pre ++ rest = simp append_assoc in
      let l : length pre ≡ filled count_size = length-append (head_octets req) (low_bytes count_size n) ∙ ap₂ ◌+◌ (length_head req) (length_low count_size n) in
      ap₂ (λ (t : List ℕ) (k : ℕ). part t k (octets_for n)) e (sym l) ∙ part_here (packed vs) pre (padding (req_size n)) (octets_for n) (length_packed vs)

  req_read : read_rules s ≡ yes req
  req_read =
      typed req a
      ∙ pass (leb (filled count_size) (length s)) 1 _ (le-leb (filled count_size) (length s) (omega (arith, whole req a)))
      ∙ ap (λ (k : ℕ). request_of k s) count_read
      ∙ pass (is_carriers n) 6 _ c
      ∙ right req a _
      ∙ pass (eqb (get_or (halves (map_octets n s)) n 0) 0) 6 _ (eq-eqb (get_or (halves (map_octets n s)) n 0) 0 (ap (λ (l : List ℕ). get_or (halves l) n 0) map_read ∙ spare_packed vs w))
      ∙ ap₂ (λ (x y : ℕ). yes (amp_map_req x y (map_in n s))) (dst_read req a) (src_read req a)
      ∙ ap (λ (l : List ℕ). yes (amp_map_req d f l)) (ap (λ (l : List ℕ). take n (halves l)) map_read ∙ halves_packed vs w)

module _ (d f x : ℕ) (a : is_addressed d f ≡ true) (w : x < result_limit) where
  abbrev cnf : MapMessage
  cnf = amp_map_cnf d f x

  abbrev t : List ℕ
  t = octets cnf a

  result_read : result_in t ≡ x
  result_read =
      ap (λ (k : ℕ). value t k cnf_size) (sym (length_head cnf))
      ∙ value_here (x ∷ []) (head_octets cnf) (padding cnf_size) cnf_size refl
      ∙ sym (value_one (x ∷ []) 0)

  cnf_read : read_rules t ≡ yes cnf
  cnf_read =
      typed cnf a
      ∙ right cnf a _
      ∙ pass (ltb (result_in t) result_limit) 6 _ (lt-ltb (result_in t) result_limit (omega (arith, result_read)))
      ∙ ap₂ (λ (p q : ℕ). yes (amp_map_cnf p q (result_in t))) (dst_read cnf a) (src_read cnf a)
      ∙ ap (λ (k : ℕ). yes (amp_map_cnf d f k)) result_read

frame_read : (m : MapMessage) → is_addressed (destination m) (source m) ≡ true → is_limited m ≡ true → read_rules (frame m) ≡ yes m
unfolding frame
frame_read (amp_map_req d f vs) a w = req_read d f vs a (and_left (is_carriers (length vs)) _ w) (and_right (is_carriers (length vs)) _ w)
frame_read (amp_map_cnf d f x) a w = cnf_read d f x a (ltb-true x result_limit w)

pub reads_written : ReadsWritten
unfolding write_rules
reads_written m n ws e =
    let one = passed (is_addressed (destination m) (source m)) 5 _ ws e in
    let two = passed (is_limited m) 6 _ ws one.1 in
    let three = passed (leb (length_in m) n) 15 _ ws two.1 in
    let same : frame m ≡ ws = let w : yes (frame m) ≡ yes ws = three.1 in cc in
    ap read_rules (sym same) ∙ frame_read m one.0 two.0

-- ---- writing what was read

octets_take : (n : ℕ) (s : List ℕ) → Octets s → Octets (take n s)
octets_take zero s o i = omega arith
octets_take (suc n) [] o i = omega arith
octets_take (suc n) (x ∷ s) o zero = o 0
octets_take (suc n) (x ∷ s) o (suc i) = octets_take n s (λ j. o (suc j)) i

-- two parts side by side
joined : (s : List ℕ) (at m n : ℕ) → part s at m ++ part s (at + m) n ≡ part s at (m + n)
joined s at m n = ap (λ (l : List ℕ). part s at m ++ take n l) (sym (drop-drop m at s)) ∙ sym (take-add m n (drop at s))

-- the octets of a frame's head
head_parts : (s : List ℕ) → zeroed 0 head s ≡ take (size head) s
head_parts s =
    ap (λ (l : List ℕ). part s 0 6 ++ (part s 6 6 ++ (part s 12 3 ++ l)))
    (ap (λ (l : List ℕ). part s 15 2 ++ l) (append-nil (part s 17 2)) ∙ joined s 15 2 2)
    ∙ ap (λ (l : List ℕ). part s 0 6 ++ (part s 6 6 ++ l)) (joined s 12 3 4)
    ∙ ap (λ (l : List ℕ). part s 0 6 ++ l) (joined s 6 6 7)
    ∙ joined s 0 6 13

-- m is written as the octets of s that it was read from
abbrev Written : List ℕ → MapMessage → Type 0
Written s m = (n : ℕ) → write_rules m n ≡ check (leb (length_in m) n) 15 (yes (take (filled (payload_size m)) s ++ padding (payload_size m)))

-- by its tests and its parts
by_parts : (s : List ℕ) (m : MapMessage) → is_addressed (destination m) (source m) ≡ true → is_limited m ≡ true
    → head_octets m ≡ take (size head) s → payload m ≡ part s (size head) (payload_size m) → Written s m
unfolding write_rules frame
by_parts s m a w h p n =
    pass (is_addressed (destination m) (source m)) 5 _ a
    ∙ pass (is_limited m) 6 _ w
    ∙ ap (λ (l : List ℕ). check (leb (length_in m) n) 15 (yes l))
    (ap₂ (λ (x y : List ℕ). x ++ (y ++ padding (payload_size m))) h p
    ∙ sym (append_assoc (take (size head) s) (part s (size head) (payload_size m)) (padding (payload_size m)))
    ∙ ap (λ (l : List ℕ). l ++ padding (payload_size m)) (joined s 0 (size head) (payload_size m)))

module _ (s : List ℕ) (o : Octets s) (m : MapMessage) where
  head_same : (t : ℕ) → Headed s t → size head ≤ length s → encode head (dst_in s, (src_in s, (t, tt))) ≡ take (size head) s
  head_same t x h =
      ap (λ (k : ℕ). encode head (dst_in s, (src_in s, (k, tt)))) (sym x.type)
      ∙ encode_read s o head 0 h x.fixed
      ∙ head_parts s

  req_written : IsReq s m → Written s m
  req_written x =
      let k : ℕ = carriers_in s in
      let os : List ℕ = map_octets k s in
      let vs : List ℕ = map_in k s in
      let b : Octets os = octets_take (octets_for k) (drop (filled count_size) s) (octets_drop (filled count_size) s o) in
      let l : length vs ≡ k = length_values k s x.sized.whole in
      let q : packed vs ≡ os = packed_halves k os b (length_map k s x.sized.whole) x.spare in
      let c : low_bytes count_size (length vs) ≡ part s (size head) count_size = ap (low_bytes count_size) l ∙ low_bytes_value count_size (size head) s o (omega (arith, x.sized.whole)) in
      let p : low_bytes count_size (length vs) ++ packed vs ≡ part s (size head) (req_size (length vs)) =
      ap₂ ◌++◌ c q ∙ joined s (size head) count_size (octets_for k) ∙ ap (λ (i : ℕ). part s (size head) (req_size i)) (sym l) in
      subst (Written s) x.same
      (by_parts s (amp_map_req (dst_in s) (src_in s) vs) x.sized.addressed (ap₂ ◌&&◌ (ap is_carriers l ∙ x.carriers) (halves_fit k os b)) (head_same _ x.headed (omega (arith, x.sized.whole))) p)

  cnf_written : IsCnf s m → Written s m
  unfolding bytes
  cnf_written x =
      let r : ℕ = result_in s in
      let e : r % 256 ≡ r = omega (arith, x.limited) in
      let p : r ∷ [] ≡ part s (size head) cnf_size = ap (λ (k : ℕ). k ∷ []) (sym e) ∙ bytes_value cnf_size (size head) s o x.sized.whole in
      subst (Written s) x.same (by_parts s (amp_map_cnf (dst_in s) (src_in s) r) x.sized.addressed (lt-ltb r result_limit x.limited) (head_same _ x.headed (omega (arith, x.sized.whole))) p)

pub writes_read : WritesRead
writes_read s m o e = ⊎_elim (req_written s o m) (cnf_written s o m) (accepted s m e)
