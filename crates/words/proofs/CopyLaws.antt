-- The steps of the loops over a record's sums, and a spread out of its octets and into them.
use Prim.Native.Nat.{ℕ, zero, suc, ◌+◌, ◌≤◌, ◌<◌}
use mathlib.Core.Path.{◌≡◌, refl, sym, ap, ap₂, ◌∙◌}
use mathlib.Core.List.{List, [], ◌∷◌, ◌++◌, map}
use borrow.Rule.Slice.PartMut.{put_mid}
use native.Mathlib.Omega.{arith}
use native.Mathlib.Numerals.{add-one}
use lib.ListN.{length, get_or, take, drop, set, length-set, length-take, length-drop, length-append, get_or-eq_default}
use lib.Seq.{sets, take-suc, take-suc-set, take_all, get_or-drop, drop-drop, take_at, drop_at}
use Rattle.octets.specs.Octets.{part}
use Rattle.octets.proofs.OctetLaws.{part_take, sets_append, sets_whole, sets_lent}
use Rattle.messages.specs.Table.{group_count}
use Rattle.rules.specs.declared.Spread.{Spread}
use Rattle.words.specs.Words.{spread_width, only_first, spread_of}
use Rattle.words.specs.Written.{spread_octets}

-- ---- a copy out of a slice, each element changed

module _ (f : ℕ → ℕ) where
  map_snoc : (xs : List ℕ) (x : ℕ) → map f (xs ++ (x ∷ [])) ≡ map f xs ++ (f x ∷ [])
  map_snoc [] x = refl
  map_snoc (y ∷ xs) x = ap (λ (l : List ℕ). f y ∷ l) (map_snoc xs x)

  -- so many elements of s from `at` are copied
  pub record Changed (s : List ℕ) (at n : ℕ) (r : List ℕ) (i : ℕ) : Type 0 where
    pub turns : i ≤ n
    pub size : length r ≡ n
    pub done : take i r ≡ map f (part s at i)

  pub changed_next : (s : List ℕ) (at n : ℕ) (r : List ℕ) (i v : ℕ) → Changed s at n r i → i < n → at + n ≤ length s → v ≡ f (get_or s (at + i) 0) → Changed s at n (set r i v) (i + 1)
  changed_next s at n r i v c h k e =
      let l : i < length r = omega (arith, c.size) in
      let b : i < length (drop at s) = rw length-drop (omega arith) in
      record {
        turns = omega arith;
        size = length-set r i v ∙ c.size;
        done =
            ap (λ (m : ℕ). take m (set r i v)) (add-one i)
            ∙ take-suc-set r i v l
            ∙ ap₂ (λ (x : List ℕ) (y : ℕ). x ++ (y ∷ [])) c.done (e ∙ ap f (sym (get_or-drop at s i 0)))
            ∙ sym (map_snoc (part s at i) (get_or (drop at s) i 0))
            ∙ ap (map f) (sym (take-suc (drop at s) i 0 b))
            ∙ ap (λ (m : ℕ). map f (take m (drop at s))) (sym (add-one i));
      }

  pub changed_end : (s : List ℕ) (at n : ℕ) (r : List ℕ) (i : ℕ) → Changed s at n r i → n ≤ i → r ≡ map f (part s at n)
  changed_end s at n r i c h =
      let e : i ≡ n = omega (arith, c.turns) in
      sym (take_all i r (omega (arith, c.size))) ∙ c.done ∙ ap (λ (k : ℕ). map f (part s at k)) e

-- ---- the first of a list, and 0 for the others

pub length_first : (g : ℕ) (s : List ℕ) → length (only_first g s) ≡ length s
unfolding only_first
length_first g [] = refl
length_first zero (x ∷ s) = ap suc (length_first zero s)
length_first (suc g) (x ∷ s) = ap suc (length_first g s)

-- none is more than it was
pub first_less : (g : ℕ) (s : List ℕ) (i : ℕ) → get_or (only_first g s) i 0 ≤ get_or s i 0
unfolding only_first
first_less g [] i = omega arith
first_less zero (x ∷ s) zero = omega arith
first_less zero (x ∷ s) (suc i) = first_less zero s i
first_less (suc g) (x ∷ s) zero = omega arith
first_less (suc g) (x ∷ s) (suc i) = first_less g s i

-- the others are 0
pub first_past : (g : ℕ) (s : List ℕ) (i : ℕ) → g ≤ i → get_or (only_first g s) i 0 ≡ 0
unfolding only_first
first_past g [] i h = refl
first_past zero (x ∷ s) zero h = refl
first_past zero (x ∷ s) (suc i) h = first_past zero s i (omega arith)
first_past (suc g) (x ∷ s) zero h = absurd (omega arith)
first_past (suc g) (x ∷ s) (suc i) h = first_past g s i (omega arith)

-- nothing changes where the others are 0
pub first_back : (g : ℕ) (s : List ℕ) → ((i : ℕ) → g ≤ i → get_or s i 0 ≡ 0) → only_first g s ≡ s
unfolding only_first
first_back g [] h = refl
first_back zero (x ∷ s) h = ap₂ (λ (y : ℕ) (l : List ℕ). y ∷ l) (sym (h 0 (omega arith))) (first_back zero s (λ i k. h (suc i) (omega arith)))
first_back (suc g) (x ∷ s) h = ap (λ (l : List ℕ). x ∷ l) (first_back g s (λ i k. h (suc i) (omega arith)))

first_set : (i : ℕ) (s : List ℕ) → only_first (suc i) (set s i 0) ≡ only_first i s
unfolding only_first
first_set i [] = refl
first_set zero (x ∷ s) = refl
first_set (suc i) (x ∷ s) = ap (λ (l : List ℕ). x ∷ l) (first_set i s)

-- those from the first g to i are cleared
pub record Cutting (s : List ℕ) (g n : ℕ) (r : List ℕ) (i : ℕ) : Type 0 where
  pub size : length r ≡ n
  pub left : only_first i r ≡ only_first g s

module _ (s : List ℕ) (g n : ℕ) (r : List ℕ) (i : ℕ) (c : Cutting s g n r i) where
  pub cutting_next : Cutting s g n (set r i 0) (i + 1)
  cutting_next = record {
    size = length-set r i 0 ∙ c.size;
    left = ap (λ (k : ℕ). only_first k (set r i 0)) (add-one i) ∙ first_set i r ∙ c.left;
  }

  pub cutting_end : n ≤ i → r ≡ only_first g s
  cutting_end h =
      let past : (k : ℕ) → i ≤ k → get_or r k 0 ≡ 0 = λ k b. let l : length r ≤ k = omega (arith, c.size) in get_or-eq_default r 0 l in
      sym (first_back i r past) ∙ c.left

-- ---- a spread

-- values copied over a whole array
pub groups_copied : (x l r : List ℕ) (at : ℕ) → at + group_count ≤ length x → length l ≡ group_count → r ≡ sets l 0 (part x at group_count) → r ≡ part x at group_count
groups_copied x l r at h k e =
    let m : length (part x at group_count) ≡ group_count = rw (length-take, length-drop) (omega arith) in
    e ∙ sets_whole (part x at group_count) l (m ∙ sym k)

-- the same out of a part of n octets
pub groups_read : (x l r : List ℕ) (at n : ℕ) → n ≡ group_count → at + group_count ≤ length x → length l ≡ group_count → r ≡ sets l 0 (part (take n (drop at x)) 0 group_count)
    → r ≡ part x at group_count
groups_read x l r at n m h k e = groups_copied x l r at h k (e ∙ ap (sets l 0) (part_take n (drop at x) 0 group_count (omega arith)))

-- values stored in a part of n octets
pub groups_stored : (v x w : List ℕ) (at n : ℕ) → n ≡ group_count → at + group_count ≤ length x → length v ≡ group_count → w ≡ sets (take n (drop at x)) 0 (part v 0 group_count)
    → put_mid at n x w ≡ sets x at v
groups_stored v x w at n m h k e =
    ap (put_mid at n x) (e ∙ ap (sets (take n (drop at x)) 0) (take_all group_count v (omega arith)))
    ∙ sets_lent at n x v (omega arith) (omega arith)

-- a run copied over a part of its length
pub run_stored : (v x w : List ℕ) (at n : ℕ) → n ≡ length v → at + length v ≤ length x → w ≡ v → put_mid at n x w ≡ sets x at v
run_stored v x w at n m h e =
    let l : length v ≡ length (take n (drop at x)) = rw (length-take, length-drop) (omega arith) in
    ap (put_mid at n x) (e ∙ sym (sets_whole v (take n (drop at x)) l)) ∙ sets_lent at n x v (omega arith) (omega arith)

-- read in its two parts
pub spread_read : (x : List ℕ) (at : ℕ) (r : Spread) → r.least ≡ part x at group_count → r.greatest ≡ part x (at + group_count) group_count → r ≡ spread_of (part x at spread_width)
unfolding spread_of
spread_read x at r el eg =
    let l : r.least ≡ part (part x at spread_width) 0 group_count = el ∙ sym (part_take spread_width (drop at x) 0 group_count (omega arith)) in
    let g : r.greatest ≡ part (part x at spread_width) group_count group_count =
    eg ∙ ap (take group_count) (sym (drop-drop group_count at x)) ∙ sym (part_take spread_width (drop at x) group_count group_count (omega arith)) in
    λ i. record { least = l i; greatest = g i }

-- a spread with a value for each group
pub record Sized (r : Spread) : Type 0 where
  pub least : length r.least ≡ group_count
  pub greatest : length r.greatest ≡ group_count

-- stored in its two parts
pub spread_stored : (r : Spread) (x y z : List ℕ) (at : ℕ) → Sized r → y ≡ sets x at r.least → z ≡ sets y (at + group_count) r.greatest → z ≡ sets x at (spread_octets r)
spread_stored r x y z at k ey ez =
    ez
    ∙ ap (λ (o : List ℕ). sets o (at + group_count) r.greatest) ey
    ∙ ap (λ (n : ℕ). sets (sets x at r.least) (at + n) r.greatest) (sym k.least)
    ∙ sym (sets_append r.least r.greatest x at)

-- as many octets as it has values
pub length_spread : (r : Spread) → Sized r → length (spread_octets r) ≡ spread_width
length_spread r k = rw length-append (omega (arith, k.least, k.greatest))

-- a spread's octets are that spread
pub spread_back : (r : Spread) → Sized r → spread_of (spread_octets r) ≡ r
unfolding spread_of
spread_back r k =
    let l : part (spread_octets r) 0 group_count ≡ r.least = take_at r.least r.greatest group_count k.least in
    let g : part (spread_octets r) group_count group_count ≡ r.greatest =
    ap (take group_count) (drop_at r.least r.greatest group_count k.least) ∙ take_all group_count r.greatest (omega (arith, k.greatest)) in
    λ i. record { least = l i; greatest = g i }
