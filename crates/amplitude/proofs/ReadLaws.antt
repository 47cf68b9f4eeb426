-- Laws of the rule of reading, for the readers' proofs.
use Prim.Native.Nat.{ℕ, ◌+◌, ◌-◌, ◌≤◌}
use mathlib.Core.Path.{◌≡◌, sym, ap, ap₂, ◌∙◌, subst}
use mathlib.Core.Bool.{true}
use mathlib.Core.List.{List}
use native.Mathlib.Omega.{arith}
use borrow.Author.Tests.{le-leb, leb-true, eq-eqb}
use lib.Dec.{eqb, leb}
use lib.ListN.{length, get_or, take, drop, length-take}
use Rattle.octets.specs.Octets.{value, low_value}
use Rattle.messages.specs.Layout.{size}
use Rattle.messages.specs.Table.{head, padded_size}
use Rattle.messages.specs.Reading as messages
use Rattle.messages.specs.Reading.{Checked, no, yes, check}
use Rattle.octets.proofs.OctetLaws.{length_part}
use Rattle.messages.proofs.LayoutLaws.{and_right}
use Rattle.messages.proofs.CheckLaws.{pass, passed}
use Rattle.messages.proofs.ReadLaws.{after_type, after_refusal}
use Rattle.amplitude.specs.Halves.{halves, octets_for}
use Rattle.amplitude.specs.Maps.{MapMessage, amp_map_req, carrier_limit, is_carriers, count_size, req_size, cnf_size, filled, is_addressed}
use Rattle.amplitude.specs.Reading.{dst_in, src_in, sized, map_octets, request_of, type_rules, read_rules, requested, summary_of}
use Rattle.amplitude.proofs.HalfLaws.{length_halves}

-- ---- what stands in a frame

-- AMLEN
abbrev pub carriers_in : List ℕ → ℕ
carriers_in s = low_value s (size head) count_size

-- the values of n carriers
abbrev pub map_in : ℕ → List ℕ → List ℕ
map_in n s = take n (halves (map_octets n s))

-- the result
abbrev pub result_in : List ℕ → ℕ
result_in s = value s (size head) cnf_size

-- ---- length and addresses

-- a frame whose head and payload take n octets: its length and its addresses are right
pub record Sized (n : ℕ) (s : List ℕ) : Type 0 where
  pub whole : n ≤ length s
  pub padded : length s ≤ padded_size n
  pub addressed : is_addressed (dst_in s) (src_in s) ≡ true

module _ {A : Type 0} (n : ℕ) (s : List ℕ) (x : Checked A) where
  by_addresses : n ≤ length s → length s ≤ padded_size n → sized n s x ≡ check (is_addressed (dst_in s) (src_in s)) 5 x
  by_addresses h w = pass (leb n (length s)) 1 _ (le-leb n (length s) h) ∙ pass (leb (length s) (padded_size n)) 4 _ (le-leb (length s) (padded_size n) w)

  -- then what follows decides
  pub sized_right : Sized n s → x ≡ sized n s x
  sized_right p = sym (by_addresses p.whole p.padded ∙ pass (is_addressed (dst_in s) (src_in s)) 5 _ p.addressed)

  pub sized_is : (a : A) → sized n s x ≡ yes a → Sized n s × (x ≡ yes a)
  sized_is a e =
      let one = passed (leb n (length s)) 1 _ a e in
      let two = passed (leb (length s) (padded_size n)) 4 _ a one.1 in
      let three = passed (is_addressed (dst_in s) (src_in s)) 5 _ a two.1 in
      (record { whole = leb-true n (length s) one.0; padded = leb-true (length s) (padded_size n) two.0; addressed = three.0 }, three.1)

-- its addresses
abbrev pub found : ℕ → List ℕ → Checked (ℕ × ℕ)
found n s = sized n s (yes (dst_in s, src_in s))

-- a frame with the addresses d and f
pub record Found (n : ℕ) (s : List ℕ) (d f : ℕ) : Type 0 where
  pub sized : Sized n s
  pub dst : d ≡ dst_in s
  pub src : f ≡ src_in s

pub found_is : (n : ℕ) (s : List ℕ) (d f : ℕ) → yes (d, f) ≡ found n s → Found n s d f
found_is n s d f e =
    let these : ℕ × ℕ = (d, f) in
    let those : ℕ × ℕ = (dst_in s, src_in s) in
    let p = sized_is n s (yes those) these (sym e) in
    let same : those ≡ these = let w : yes those ≡ yes these = p.1 in cc in
    record { sized = p.0; dst = sym (ap (λ (x : ℕ × ℕ). x.0) same); src = sym (ap (λ (x : ℕ × ℕ). x.1) same) }

-- ---- the values of a request

-- there are not many
pub carriers_le : (n : ℕ) → is_carriers n ≡ true → n ≤ carrier_limit
carriers_le n a = leb-true n carrier_limit (and_right (leb 1 n) (leb n carrier_limit) a)

-- the part of a frame that holds them, in k octets, as the code lends it
abbrev pub lent : ℕ → List ℕ → List ℕ
lent k s = take ((filled count_size + k) - filled count_size) (drop (filled count_size) s)

pub map_lent : (n k : ℕ) (s : List ℕ) → k ≡ octets_for n → lent k s ≡ map_octets n s
map_lent n k s e = ap (λ (j : ℕ). take j (drop (filled count_size) s)) (let q : (filled count_size + k) - filled count_size ≡ octets_for n = omega arith in q)

-- where it ends
pub map_end : (n k : ℕ) → k ≡ octets_for n → filled count_size + k ≡ filled (req_size n)
map_end n k e = omega arith

module _ (n : ℕ) (s : List ℕ) (h : filled (req_size n) ≤ length s) where
  pub length_map : length (map_octets n s) ≡ octets_for n
  length_map = length_part s (filled count_size) (octets_for n) (omega arith)

  pub length_values : length (map_in n s) ≡ n
  length_values = rw length-take (omega (arith, length_halves (map_octets n s), length_map))

-- ---- a request, test by test

module _ (s : List ℕ) (n : ℕ) where
  -- behind the last value
  abbrev spare : ℕ
  spare = get_or (halves (map_octets n s)) n 0

  -- what follows length and addresses
  abbrev rest : Checked MapMessage
  rest = check (eqb spare 0) 6 (yes (amp_map_req (dst_in s) (src_in s) (map_in n s)))

  module _ (a : is_carriers n ≡ true) (k : ℕ) (e : k ≡ octets_for n) where
    abbrev end : ℕ
    end = filled count_size + k

    begins : sized end s rest ≡ request_of n s
    begins = ap (λ (j : ℕ). sized j s rest) (map_end n k e) ∙ sym (pass (is_carriers n) 6 _ a)

    module _ (d f : ℕ) (q : yes (d, f) ≡ found end s) (z : ℕ) (v : z ≡ get_or (halves (lent k s)) n 0) where
      of_rest : rest ≡ request_of n s
      of_rest = sized_right end s rest (found_is end s d f q).sized ∙ begins

      is_spare : z ≡ spare
      is_spare = v ∙ ap (λ (l : List ℕ). get_or (halves l) n 0) (map_lent n k s e)

      pub request_right : z ≡ 0 → yes (requested d f n) ≡ summary_of (request_of n s)
      request_right t =
          let p = found_is end s d f q in
          let l = length_values n s (subst (λ (j : ℕ). j ≤ length s) (map_end n k e) p.sized.whole) in
          ap₂ (λ (x y : ℕ). yes (requested x y n)) p.dst p.src
          ∙ ap (λ (j : ℕ). yes (requested (dst_in s) (src_in s) j)) (sym l)
          ∙ sym (ap summary_of (sym of_rest ∙ pass (eqb spare 0) 6 _ (eq-eqb spare 0 (sym is_spare ∙ t))))

-- ---- by the type

-- behind the head, by the type that it names, or as it refuses
module _ (s : List ℕ) where
  abbrev by_type : ℕ → Checked MapMessage
  by_type t = type_rules t s

  pub reads_typed : (t : ℕ) → yes t ≡ messages.type_rules s → summary_of (type_rules t s) ≡ summary_of (read_rules s)
  unfolding read_rules
  reads_typed t q = ap summary_of (after_type by_type s t q)

  pub reads_refused : (n : ℕ) → no n ≡ messages.type_rules s → no n ≡ summary_of (read_rules s)
  unfolding read_rules
  reads_refused n q = ap summary_of (after_refusal by_type s n q)
