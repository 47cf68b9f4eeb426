-- Laws of our levels: a signed number is turned once, here, into how far it lies below 0.
use Prim.Native.Nat.{ℕ, zero, suc, ◌+◌, ◌*◌, ◌-◌, ◌^◌, ◌<◌}
use mathlib.Core.Path.{◌≡◌, refl, sym, ap, ap₂, ◌∙◌}
use mathlib.Core.Bool.{Bool, true, false, cond, false≢true}
use mathlib.Core.List.{List, [], ◌∷◌}
use native.Mathlib.Omega.{arith}
use borrow.Author.Tests.{ltb-true}
use lib.Dec.{leb, ltb}
use lib.IntN.{ℤ, pos, negsuc, nat_abs, sub_ℕ, ◌+ℤ◌, neg_ℤ-neg_ℤ}
use lib.ListN.{length, get_or}
use lib.Signed.{mag}
use mir.Syntax.{w16}
use mir.Val.{to_z, of_z}
use mir.Facts.{to_z-of_z}
use Rattle.amplitude.specs.Reductions.{positive, reduction, reductions, is_level, are_levels}
use Rattle.amplitude.proofs.RunLaws.{every_at}

-- a signed number as its bits, read back
abbrev bits16 : ℤ → ℤ
bits16 z = to_z w16 (of_z w16 z)

-- a level that is handed to a function arrives as it was
arrives : (z : ℤ) → mag z < 2 ^ 15 → bits16 z ≡ z
arrives z h = to_z-of_z {w = w16} (record { sfits = h })

-- ---- its range and its reduction, by how far it lies below 0

pub level_arrives : (z : ℤ) (b : Bool) → mag z < 2 ^ 15 → b ≡ is_level (bits16 z) → b ≡ is_level z
level_arrives z b f e = e ∙ ap is_level (arrives z f)

-- how far a level lies below 0; 255 for one above it
abbrev pub depth_of : ℤ → ℕ
depth_of (pos zero) = 0
depth_of (pos (suc n)) = 255
depth_of (negsuc n) = suc n

level_depth : (z : ℤ) → leb (depth_of z) 128 ≡ is_level z
level_depth (pos zero) = refl
level_depth (pos (suc n)) = refl
level_depth (negsuc n) = refl

-- a level is one where it lies at most 128 below 0
pub level_tested : (z : ℤ) (d : ℕ) → mag z < 2 ^ 15 → d ≡ depth_of (bits16 z) → leb d 128 ≡ is_level z
level_tested z d f e = ap (λ (k : ℕ). leb k 128) (e ∙ ap depth_of (arrives z f)) ∙ level_depth z

-- n less m where it is positive
positive_sub : (n m : ℕ) → positive (sub_ℕ n m) ≡ n - m
positive_sub n m = go (ltb n m) refl
  where
    go : (b : Bool) → ltb n m ≡ b → positive (cond b (negsuc (m - suc n)) (pos (n - m))) ≡ n - m
    go true e = let h : n < m = ltb-true n m e in omega arith
    go false e = refl

reduction_depth : (a : ℕ) (z : ℤ) → is_level z ≡ true → reduction a z ≡ (50 + 2 * a) - nat_abs z
unfolding reduction
reduction_depth a z h = ap (λ (x : ℤ). positive (z +ℤ x)) (neg_ℤ-neg_ℤ (pos (50 + 2 * a))) ∙ go z h
  where
    go : (x : ℤ) → is_level x ≡ true → positive (x +ℤ pos (50 + 2 * a)) ≡ (50 + 2 * a) - nat_abs x
    go (pos zero) e = omega arith
    go (pos (suc n)) e = absurd (false≢true e)
    go (negsuc n) e = positive_sub (50 + 2 * a) (suc n)

-- a level d below 0 and a value that arrives as v
pub lowered_by : (a : ℕ) (z : ℤ) (d v : ℕ) → mag z < 2 ^ 15 → is_level z ≡ true → d ≡ nat_abs (bits16 z) → v ≡ a → (50 + 2 * v) - d ≡ reduction a z
lowered_by a z d v f h e k =
    let g : d ≡ nat_abs z = e ∙ ap nat_abs (arrives z f) in
    ap₂ (λ (x y : ℕ). (50 + 2 * x) - y) k g ∙ sym (reduction_depth a z h)

-- ---- runs of levels

pub length_reductions : (vs : List ℕ) (ls : List ℤ) → length vs ≡ length ls → length (reductions vs ls) ≡ length vs
unfolding reductions
length_reductions [] ls e = refl
length_reductions (v ∷ vs) [] e = absurd (omega arith)
length_reductions (v ∷ vs) (l ∷ ls) e = ap suc (length_reductions vs ls (omega arith))

reduction_at : (vs : List ℕ) (ls : List ℤ) (i : ℕ) (d : ℤ) → i < length vs → length vs ≡ length ls
    → reduction (get_or vs i 0) (get_or ls i d) ≡ get_or (reductions vs ls) i 0
unfolding reductions
reduction_at [] ls i d h e = absurd (omega arith)
reduction_at (v ∷ vs) [] i d h e = absurd (omega arith)
reduction_at (v ∷ vs) (l ∷ ls) zero d h e = refl
reduction_at (v ∷ vs) (l ∷ ls) (suc i) d h e = reduction_at vs ls i d (omega arith) (omega arith)

-- one of them, as it arrives at a function
pub level_at : (ls : List ℤ) (i : ℕ) → mag (get_or ls i (pos 0)) < 2 ^ 15 → are_levels ls ≡ true → is_level (bits16 (get_or ls i (pos 0))) ≡ true
level_at ls i f h = ap is_level (arrives (get_or ls i (pos 0)) f) ∙ every_at is_level ls (pos 0) i refl h

pub reduced_at : (vs : List ℕ) (ls : List ℤ) (i x : ℕ) → i < length vs → length vs ≡ length ls → mag (get_or ls i (pos 0)) < 2 ^ 15
    → x ≡ reduction (get_or vs i 0) (bits16 (get_or ls i (pos 0))) → x ≡ get_or (reductions vs ls) i 0
reduced_at vs ls i x h e f q = q ∙ ap (reduction (get_or vs i 0)) (arrives (get_or ls i (pos 0)) f) ∙ reduction_at vs ls i (pos 0) h e
