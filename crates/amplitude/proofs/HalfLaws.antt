-- The laws of half-octets, each proved once over the length of a run.
use Prim.Native.Nat.{ℕ, zero, suc, ◌+◌, ◌*◌, ◌/◌, ◌%◌, ◌<◌, ◌≤◌}
use mathlib.Core.Path.{◌≡◌, refl, sym, ap, ap₂, ◌∙◌}
use mathlib.Core.Bool.{true, ◌&&◌}
use mathlib.Core.List.{List, [], ◌∷◌}
use native.Mathlib.Omega.{arith}
use borrow.Author.Tests.{ltb-true, lt-ltb}
use lib.ListN.{length, get_or, take}
use lib.Seq.{length-take-le, get_or-take}
use Rattle.octets.specs.Octets.{Octets}
use Rattle.messages.proofs.LayoutLaws.{and_left, and_right}
use Rattle.amplitude.specs.Runs.{every}
use Rattle.amplitude.specs.Halves.{halves, packed, octets_for, is_half, are_halves}
use Rattle.amplitude.proofs.RunLaws.{every_at}

-- ---- the halves of octets

pub length_halves : (os : List ℕ) → length (halves os) ≡ 2 * length os
unfolding halves
length_halves [] = refl
length_halves (o ∷ os) = omega (arith, length_halves os)

half_low : (os : List ℕ) (j : ℕ) → get_or (halves os) (2 * j) 0 ≡ get_or os j 0 % 16
unfolding halves
half_low [] j = refl
half_low (o ∷ os) zero = refl
half_low (o ∷ os) (suc j) = let e : 2 * suc j ≡ suc (suc (2 * j)) = omega arith in rw e (half_low os j)

half_high : (os : List ℕ) (j : ℕ) → get_or (halves os) (2 * j + 1) 0 ≡ get_or os j 0 / 16
unfolding halves
half_high [] j = refl
half_high (o ∷ os) zero = refl
half_high (o ∷ os) (suc j) = let e : 2 * suc j + 1 ≡ suc (suc (2 * j + 1)) = omega arith in rw e (half_high os j)

pub half_even : (os : List ℕ) (k : ℕ) → k % 2 ≡ 0 → get_or os (k / 2) 0 % 16 ≡ get_or (halves os) k 0
half_even os k h = sym (half_low os (k / 2)) ∙ ap (λ (j : ℕ). get_or (halves os) j 0) (let e : 2 * (k / 2) ≡ k = omega arith in e)

pub half_odd : (os : List ℕ) (k : ℕ) → (k % 2 ≡ 0 → ⊥) → get_or os (k / 2) 0 / 16 ≡ get_or (halves os) k 0
half_odd os k h = sym (half_high os (k / 2)) ∙ ap (λ (j : ℕ). get_or (halves os) j 0) (let e : 2 * (k / 2) + 1 ≡ k = omega arith in e)

-- the first n of them
pub length_first : (os : List ℕ) (n : ℕ) → n ≤ 2 * length os → length (take n (halves os)) ≡ n
length_first os n h = length-take-le n (halves os) (omega (arith, length_halves os))

pub first_at : (os : List ℕ) (n i x : ℕ) → i < n → x ≡ get_or (halves os) i 0 → x ≡ get_or (take n (halves os)) i 0
first_at os n i x h e = e ∙ sym (get_or-take n (halves os) i 0 h)

-- ---- the octets of values

pub length_packed : (vs : List ℕ) → length (packed vs) ≡ octets_for (length vs)
unfolding packed
length_packed [] = refl
length_packed (a ∷ []) = refl
length_packed (a ∷ b ∷ vs) = omega (arith, length_packed vs)

pub pair_of : (vs : List ℕ) (j : ℕ) → get_or (packed vs) j 0 ≡ get_or vs (2 * j) 0 + 16 * get_or vs (2 * j + 1) 0
unfolding packed
pair_of [] j = refl
pair_of (a ∷ []) zero = omega arith
pair_of (a ∷ []) (suc j) = let e : 2 * suc j ≡ suc (suc (2 * j)) = omega arith in let f : 2 * suc j + 1 ≡ suc (suc (2 * j + 1)) = omega arith in rw (f, e)
pair_of (a ∷ b ∷ vs) zero = refl
pair_of (a ∷ b ∷ vs) (suc j) = let e : 2 * suc j ≡ suc (suc (2 * j)) = omega arith in let f : 2 * suc j + 1 ≡ suc (suc (2 * j + 1)) = omega arith in rw (f, e) (pair_of vs j)

-- a value of a map, 0 past the last one
pub half_lt : (vs : List ℕ) (i : ℕ) → are_halves vs ≡ true → get_or vs i 0 < 16
half_lt vs i h = ltb-true (get_or vs i 0) 16 (every_at is_half vs 0 i refl h)

-- ---- there and back

-- the halves of the octets of some values are these values
pub halves_packed : (vs : List ℕ) → are_halves vs ≡ true → take (length vs) (halves (packed vs)) ≡ vs
unfolding halves packed every
halves_packed [] h = refl
halves_packed (a ∷ []) h =
    let x : a < 16 = ltb-true a 16 (and_left (is_half a) true h) in
    let e : a % 16 ≡ a = omega arith in
    ap (λ (y : ℕ). y ∷ []) e
halves_packed (a ∷ b ∷ vs) h =
    let x : a < 16 = ltb-true a 16 (and_left (is_half a) _ h) in
    let g = and_right (is_half a) (is_half b && every is_half vs) h in
    let y : b < 16 = ltb-true b 16 (and_left (is_half b) (every is_half vs) g) in
    let e : (a + 16 * b) % 16 ≡ a = omega arith in
    let f : (a + 16 * b) / 16 ≡ b = omega arith in
    ap₂ (λ (u v : ℕ). u ∷ (v ∷ take (length vs) (halves (packed vs)))) e f
    ∙ ap (λ (l : List ℕ). a ∷ (b ∷ l)) (halves_packed vs (and_right (is_half b) (every is_half vs) g))

-- behind the last of them stands zero
pub spare_packed : (vs : List ℕ) → are_halves vs ≡ true → get_or (halves (packed vs)) (length vs) 0 ≡ 0
unfolding halves packed every
spare_packed [] h = refl
spare_packed (a ∷ []) h = let x : a < 16 = ltb-true a 16 (and_left (is_half a) true h) in omega arith
spare_packed (a ∷ b ∷ vs) h = spare_packed vs (and_right (is_half b) (every is_half vs) (and_right (is_half a) (is_half b && every is_half vs) h))

-- the first n halves of as many octets as they take are packed into these octets, where zero stands behind them
pub packed_halves : (n : ℕ) (os : List ℕ) → Octets os → length os ≡ octets_for n → get_or (halves os) n 0 ≡ 0 → packed (take n (halves os)) ≡ os
unfolding halves packed
packed_halves zero [] o l z = refl
packed_halves zero (x ∷ os) o l z = absurd (omega arith)
packed_halves (suc zero) [] o l z = absurd (omega arith)
packed_halves (suc zero) (x ∷ []) o l z = let e : x % 16 ≡ x = omega arith in ap (λ (y : ℕ). y ∷ []) e
packed_halves (suc zero) (x ∷ y ∷ os) o l z = absurd (omega arith)
packed_halves (suc (suc n)) [] o l z = absurd (omega arith)
packed_halves (suc (suc n)) (x ∷ os) o l z =
    let e : x % 16 + 16 * (x / 16) ≡ x = omega arith in
    ap₂ (λ (y : ℕ) (t : List ℕ). y ∷ t) e (packed_halves n os (λ i. o (suc i)) (omega arith) z)

-- and fit half-octets
pub halves_fit : (n : ℕ) (os : List ℕ) → Octets os → are_halves (take n (halves os)) ≡ true
unfolding halves every
halves_fit zero os o = refl
halves_fit (suc n) [] o = refl
halves_fit (suc zero) (x ∷ os) o = ap₂ ◌&&◌ (lt-ltb (x % 16) 16 (omega arith)) refl
halves_fit (suc (suc n)) (x ∷ os) o =
    ap₂ ◌&&◌ (lt-ltb (x % 16) 16 (omega arith))
    (ap₂ ◌&&◌ (lt-ltb (x / 16) 16 (let b : x < 256 = o 0 in omega arith)) (halves_fit n os (λ i. o (suc i))))
