-- Laws of the rules of writing, for the writers' proofs.
use Prim.Native.Nat.{ℕ, ◌+◌, ◌-◌, ◌≤◌}
use mathlib.Core.Path.{◌≡◌, refl, sym, ap, ap₂, ◌∙◌}
use mathlib.Core.Bool.{Bool, true, false}
use mathlib.Core.List.{List, [], ◌∷◌, ◌++◌}
use native.Mathlib.Omega.{arith}
use borrow.Author.Tests.{le-leb, leb-true}
use lib.Dec.{leb, ltb}
use lib.ListN.{length, length-append, length-replicate}
use lib.Seq.{sets}
use Rattle.octets.specs.Octets.{bytes, low_bytes}
use Rattle.messages.specs.Layout.{size}
use Rattle.messages.specs.Table.{head, padded_size}
use Rattle.messages.specs.Reading.{no, yes, check}
use Rattle.messages.specs.Writing.{length_of}
use Rattle.octets.proofs.OctetLaws.{bytes_zero, length_low, sets_append}
use Rattle.messages.proofs.LayoutLaws.{and_left, and_right, length_encode}
use Rattle.messages.proofs.CheckLaws.{pass, passed}
use Rattle.amplitude.specs.Halves.{packed, octets_for, are_halves}
use Rattle.amplitude.specs.Maps.{MapMessage, amp_map_req, amp_map_cnf, type_of, destination, source, carrier_limit, is_carriers, count_size, req_size, cnf_size, payload_size, filled, result_limit, is_map, is_limited, is_addressed, payload}
use Rattle.amplitude.specs.Writing.{head_octets, padding, length_in, frame, write_rules}
use Rattle.amplitude.specs.Answers.{result_of}
use Rattle.amplitude.specs.Private.{judged}
use Rattle.amplitude.proofs.HalfLaws.{length_packed}
use Rattle.amplitude.proofs.AnswerLaws.{Gives, refuses, gives}
use Rattle.amplitude.proofs.ReadLaws.{carriers_le, map_end}

-- ---- a frame's parts

length_payload : (m : MapMessage) → length (payload m) ≡ payload_size m
length_payload (amp_map_req d f vs) = length-append (low_bytes count_size (length vs)) (packed vs) ∙ ap₂ ◌+◌ (length_low count_size (length vs)) (length_packed vs)
length_payload (amp_map_cnf d f x) = refl

module _ (m : MapMessage) where
  abbrev p : ℕ
  p = payload_size m

  pub length_head : length (head_octets m) ≡ size head
  length_head = length_encode head (destination m, (source m, (type_of m, tt))) tt

  pub length_frame : length (frame m) ≡ length_in m
  unfolding frame
  length_frame =
      length-append (head_octets m) (payload m ++ padding p)
      ∙ ap₂ ◌+◌ length_head (length-append (payload m) (padding p) ∙ ap₂ ◌+◌ (length_payload m) (length-replicate (length_in m - filled p) 0))
      ∙ omega arith

  -- head, payload and padding, each stored behind the one before
  pub frame_stored : (l : List ℕ) → sets (sets (sets l 0 (head_octets m)) (size head) (payload m)) (filled p) (bytes (length_in m - filled p) 0) ≡ sets l 0 (frame m)
  unfolding frame
  frame_stored l =
      let h = head_octets m in
      let q = payload m in
      let z = padding p in
      let a : size head ≡ 0 + length h = omega (arith, length_head) in
      let b : filled p ≡ size head + length q = omega (arith, length_payload m) in
      ap₂ (λ (k : ℕ) (ws : List ℕ). sets (sets (sets l 0 h) (size head) q) k ws) b (bytes_zero (length_in m - filled p))
      ∙ sym (sets_append q z (sets l 0 h) (size head))
      ∙ ap (λ (k : ℕ). sets (sets l 0 h) k (q ++ z)) a
      ∙ sym (sets_append h (q ++ z) l 0)

-- a request's head, count, values and padding, each stored behind the one before, as the code stores them
module _ (d f : ℕ) (vs l : List ℕ) where
  abbrev req : MapMessage
  req = amp_map_req d f vs

  abbrev headed : List ℕ
  headed = sets l 0 (head_octets req)

  abbrev counted : List ℕ
  counted = sets headed (size head) (low_bytes count_size (length vs))

  payload_stored : sets counted (filled count_size) (packed vs) ≡ sets headed (size head) (payload req)
  payload_stored =
      ap (λ (k : ℕ). sets counted (size head + k) (packed vs)) (sym (length_low count_size (length vs)))
      ∙ sym (sets_append (low_bytes count_size (length vs)) (packed vs) headed (size head))

  pub req_stored : (k w : ℕ) → k ≡ octets_for (length vs) → w ≡ length_in req
      → sets (sets counted (filled count_size) (packed vs)) (filled count_size + k) (bytes (w - (filled count_size + k)) 0) ≡ sets l 0 (frame req)
  req_stored k w e h =
      ap₂ (λ (t : List ℕ) (j : ℕ). sets t j (bytes (w - j) 0)) payload_stored (map_end (length vs) k e)
      ∙ ap (λ (j : ℕ). sets (sets headed (size head) (payload req)) (filled (payload_size req)) (bytes (j - filled (payload_size req)) 0)) h
      ∙ frame_stored req l

-- the length of its frame, as the code finds it
pub req_length : (n k w : ℕ) → k ≡ octets_for n → w ≡ padded_size (filled count_size + k) → w ≡ padded_size (filled (req_size n))
req_length n k w e h = h ∙ ap padded_size (map_end n k e)

-- the values of a map fit half-octets
pub map_halves : (vs : List ℕ) → is_map vs ≡ true → are_halves vs ≡ true
map_halves vs h = and_right (is_carriers (length vs)) (are_halves vs) h

-- and there are no more than there can be carriers
pub map_few : (vs : List ℕ) → is_map vs ≡ true → length vs ≤ carrier_limit
map_few vs h = carriers_le (length vs) (and_left (is_carriers (length vs)) (are_halves vs) h)

-- the octet of a result
pub result_octet : (b : Bool) → bytes cnf_size (result_of b) ≡ result_of b ∷ []
unfolding bytes
result_octet true = refl
result_octet false = refl

pub result_limited : (b : Bool) → true ≡ ltb (result_of b) result_limit
result_limited true = refl
result_limited false = refl

-- ---- what writing answers

-- writing passes its tests
pub record Right (a b : Bool) (w n k : ℕ) : Type 0 where
  pub addressed : a ≡ true
  pub limited : b ≡ true
  pub room : w ≤ n
  pub same : k ≡ w

pub right : (a b : Bool) (w n k : ℕ) → yes k ≡ judged a b w n → Right a b w n k
right a b w n k e =
    let one = passed a 5 _ k (sym e) in
    let two = passed b 6 _ k one.1 in
    let three = passed (leb w n) 15 _ k two.1 in
    let q : yes w ≡ yes k = three.1 in
    record { addressed = one.0; limited = two.0; room = leb-true w n three.0; same = cc }

-- the answer is the rule's, where it goes by the message's tests and its length
module _ (m : MapMessage) (l : List ℕ) (a b : Bool) (w : ℕ) (p : a ≡ is_addressed (destination m) (source m)) (q : b ≡ is_limited m) (e : w ≡ length_in m) where
  by_tests : (x y z : Bool) → check x 5 (check y 6 (check z 15 (yes w))) ≡ length_of (check x 5 (check y 6 (check z 15 (yes (frame m)))))
  by_tests true true true = ap yes (e ∙ sym (length_frame m))
  by_tests true true false = refl
  by_tests true false z = refl
  by_tests false y z = refl

  judges : judged a b w (length l) ≡ length_of (write_rules m (length l))
  unfolding write_rules
  judges =
      ap₂ (λ (x y : Bool). judged x y w (length l)) p q
      ∙ by_tests (is_addressed (destination m) (source m)) (is_limited m) (leb w (length l))
      ∙ ap (λ (k : ℕ). length_of (check (is_addressed (destination m) (source m)) 5 (check (is_limited m) 6 (check (leb k (length l)) 15 (yes (frame m)))))) e

  pub refused : (n : ℕ) → no n ≡ judged a b w (length l) → Gives (write_rules m (length l)) (no n) l l
  refused n h = refuses (write_rules m (length l)) n l (h ∙ judges)

  pub written : (k : ℕ) (exit : List ℕ) → yes k ≡ judged a b w (length l) → exit ≡ sets l 0 (frame m) → Gives (write_rules m (length l)) (yes k) l exit
  unfolding write_rules
  written k exit h s =
      let r = right a b w (length l) k h in
      let room : length_in m ≤ length l = omega (arith, r.room) in
      gives (write_rules m (length l)) (frame m) l exit k
      (pass (is_addressed (destination m) (source m)) 5 _ (sym p ∙ r.addressed) ∙ pass (is_limited m) 6 _ (sym q ∙ r.limited) ∙ pass (leb (length_in m) (length l)) 15 _ (le-leb (length_in m) (length l) room))
      (r.same ∙ e ∙ sym (length_frame m))
      (omega (arith, length_frame m)) s
