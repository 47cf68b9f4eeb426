-- Events and replies: each law once over an item, and once over a list of them.
use Prim.Native.Nat.{ℕ, zero, suc, ◌+◌, ◌≤◌}
use mathlib.Core.Path.{◌≡◌, refl, sym, ap, ap₂, ◌∙◌}
use mathlib.Core.Bool.{true, ◌&&◌}
use mathlib.Core.List.{List, [], ◌∷◌, ◌++◌, append_assoc}
use native.Mathlib.Omega.{arith}
use borrow.Author.Tests.{le-leb, leb-true, eq-eqb, eqb-true}
use lib.Dec.{leb}
use lib.ListN.{length, take, length-append}
use lib.Seq.{drop_at, take-append_seam}
use Rattle.octets.specs.Octets.{part, Octets}
use Rattle.messages.proofs.LayoutLaws.{and_left, and_right}
use Rattle.ends.specs.Lists.{joins, All}
use Rattle.session_log.specs.Meaning.{Item, head_of, first_in, second_in, length_in, item_of}
use Rattle.session_log.specs.Layout.{item_octets, numbers, numbers_at, octets_of, list_octets, head_at, behind, item_at, items_at}
use Rattle.session_log.specs.Reading.{ends_at}
use Rattle.session_log.proofs.NumberLaws.{Narrow, length_numbers, numbers_read, part_joined, part_length, numbers_written}

-- ---- reading what was written

pub length_octets : (x : Item) → length (octets_of x) ≡ item_octets + length x.octets
length_octets x = length-append (numbers (head_of x)) x.octets ∙ ap (λ (k : ℕ). k + length x.octets) (length_numbers (head_of x))

-- an item x that stands in s at a place
module _ (x : Item) (s pre rest : List ℕ) (at : ℕ) (e : s ≡ pre ++ (octets_of x ++ rest)) (place : at ≡ length pre) (narrow : All Narrow (head_of x)) where
  head_stands : head_at s at ≡ head_of x
  head_stands =
      ap₂ (λ (l : List ℕ) (k : ℕ). numbers_at l k 3) (e ∙ ap (λ (l : List ℕ). pre ++ l) (append_assoc (numbers (head_of x)) x.octets rest)) place
      ∙ numbers_read (head_of x) pre (x.octets ++ rest) narrow

  octets_stand : part s (at + item_octets) (length x.octets) ≡ x.octets
  octets_stand =
      let front : length (pre ++ numbers (head_of x)) ≡ at + item_octets = length-append pre (numbers (head_of x)) ∙ omega (arith, place, length_numbers (head_of x)) in
      let whole : s ≡ (pre ++ numbers (head_of x)) ++ (x.octets ++ rest) =
      e ∙ ap (λ (l : List ℕ). pre ++ l) (append_assoc (numbers (head_of x)) x.octets rest) ∙ sym (append_assoc pre (numbers (head_of x)) (x.octets ++ rest)) in
      ap (λ (l : List ℕ). part l (at + item_octets) (length x.octets)) whole
      ∙ ap (take (length x.octets)) (drop_at (pre ++ numbers (head_of x)) (x.octets ++ rest) (at + item_octets) front)
      ∙ take-append_seam x.octets rest

  item_stands : item_at s at ≡ x
  item_stands = ap (λ (h : List ℕ). item_of h (part s (at + item_octets) (length_in h))) head_stands ∙ ap (item_of (head_of x)) octets_stand

  behind_stands : behind s at ≡ at + length (octets_of x)
  behind_stands = ap (λ (h : List ℕ). at + item_octets + length_in h) head_stands ∙ omega (arith, length_octets x)

-- items that stand in s from a place
pub items_stand : (xs : List Item) (s pre rest : List ℕ) (at : ℕ) → s ≡ pre ++ (list_octets xs ++ rest) → at ≡ length pre → All (λ (x : Item). All Narrow (head_of x)) xs → items_at s (length xs) at ≡ xs
unfolding joins items_at
items_stand [] s pre rest at e place n = refl
items_stand (x ∷ xs) s pre rest at e place n =
    let one : s ≡ pre ++ (octets_of x ++ (list_octets xs ++ rest)) = e ∙ ap (λ (l : List ℕ). pre ++ l) (append_assoc (octets_of x) (list_octets xs) rest) in
    let more : s ≡ (pre ++ octets_of x) ++ (list_octets xs ++ rest) = one ∙ sym (append_assoc pre (octets_of x) (list_octets xs ++ rest)) in
    let next : behind s at ≡ length (pre ++ octets_of x) = behind_stands x s pre (list_octets xs ++ rest) at one place n.0 ∙ omega (arith, place, length-append pre (octets_of x)) in
    ap₂ (λ (y : Item) (ys : List Item). y ∷ ys) (item_stands x s pre (list_octets xs ++ rest) at one place n.0) (items_stand xs s (pre ++ octets_of x) rest (behind s at) more next n.1)

-- they end behind their octets
pub ends_stand : (xs : List Item) (s pre rest : List ℕ) (at e : ℕ) → s ≡ pre ++ (list_octets xs ++ rest) → at ≡ length pre → All (λ (x : Item). All Narrow (head_of x)) xs → e ≡ at + length (list_octets xs) → ends_at s (length xs) at e ≡ true
unfolding joins ends_at
ends_stand [] s pre rest at e whole place n end = eq-eqb at e (omega arith)
ends_stand (x ∷ xs) s pre rest at e whole place n end =
    let one : s ≡ pre ++ (octets_of x ++ (list_octets xs ++ rest)) = whole ∙ ap (λ (l : List ℕ). pre ++ l) (append_assoc (octets_of x) (list_octets xs) rest) in
    let more : s ≡ (pre ++ octets_of x) ++ (list_octets xs ++ rest) = one ∙ sym (append_assoc pre (octets_of x) (list_octets xs ++ rest)) in
    let there : behind s at ≡ at + length (octets_of x) = behind_stands x s pre (list_octets xs ++ rest) at one place n.0 in
    let front : length (pre ++ octets_of x) ≡ length pre + length (octets_of x) = length-append pre (octets_of x) in
    let size : length s ≡ length (pre ++ octets_of x) + length (list_octets xs ++ rest) = ap length more ∙ length-append (pre ++ octets_of x) (list_octets xs ++ rest) in
    let sum : length (octets_of x ++ list_octets xs) ≡ length (octets_of x) + length (list_octets xs) = length-append (octets_of x) (list_octets xs) in
    ap₂ ◌&&◌
    (le-leb (behind s at) (length s) (omega (arith, there, front, size, place)))
    (ends_stand xs s (pre ++ octets_of x) rest (behind s at) e more (there ∙ omega (arith, place, front)) n.1 (omega (arith, there, sum, end)))

-- ---- writing what was read

-- the item at a place whose octets are all in s
module _ (s : List ℕ) (at : ℕ) (h : behind s at ≤ length s) where
  pub head_at_lem : head_of (item_at s at) ≡ head_at s at
  unfolding numbers_at
  head_at_lem = ap (λ (k : ℕ). first_in (head_at s at) ∷ second_in (head_at s at) ∷ k ∷ []) (part_length s (at + item_octets) (length_in (head_at s at)) h)

  item_written : Octets s → octets_of (item_at s at) ≡ part s at (item_octets + length_in (head_at s at))
  item_written o =
      ap (λ (l : List ℕ). numbers l ++ part s (at + item_octets) (length_in (head_at s at))) head_at_lem
      ∙ ap (λ (l : List ℕ). l ++ part s (at + item_octets) (length_in (head_at s at))) (numbers_written 3 at s o (omega arith))
      ∙ part_joined s at item_octets (length_in (head_at s at))

module _ (s : List ℕ) (n at e : ℕ) (h : ends_at s (suc n) at e ≡ true) where
  -- a list that ends somewhere: its first item is in s, and so are the others
  pub ends_first : behind s at ≤ length s
  unfolding ends_at
  ends_first = leb-true (behind s at) (length s) (and_left (leb (behind s at) (length s)) (ends_at s n (behind s at) e) h)

  pub ends_rest : ends_at s n (behind s at) e ≡ true
  unfolding ends_at
  ends_rest = and_right (leb (behind s at) (length s)) (ends_at s n (behind s at) e) h

-- n items from `at` to e, and the octets that they have
pub record Standing (s : List ℕ) (n at e : ℕ) : Type 0 where
  pub size : ℕ
  pub ends : e ≡ at + size
  pub octets : list_octets (items_at s n at) ≡ part s at size

pub items_written : (s : List ℕ) (n at e : ℕ) → Octets s → ends_at s n at e ≡ true → Standing s n at e
unfolding joins items_at ends_at
items_written s zero at e o h = record { size = 0; ends = (let q = eqb-true at e h in omega arith); octets = refl }
items_written s (suc n) at e o h =
    let rest = items_written s n (behind s at) e o (ends_rest s n at e h) in
    let own : ℕ = item_octets + length_in (head_at s at) in
    let place : behind s at ≡ at + own = omega arith in
    record {
      size = own + rest.size;
      ends = omega (arith, rest.ends);
      octets =
          ap₂ (λ (a b : List ℕ). a ++ b) (item_written s at (ends_first s n at e h) o) (rest.octets ∙ ap (λ (k : ℕ). part s k rest.size) place)
          ∙ part_joined s at own rest.size;
    }

pub length_items : (s : List ℕ) (n at : ℕ) → length (items_at s n at) ≡ n
unfolding items_at
length_items s zero at = refl
length_items s (suc n) at = ap suc (length_items s n (behind s at))
