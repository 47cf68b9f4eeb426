-- Octets are the same where the numbers are that they hold.
use Prim.Native.Nat.{ℕ, zero, suc, ◌+◌, ◌*◌, ◌^◌, ◌/◌, ◌%◌, ◌<◌}
use mathlib.Core.Path.{◌≡◌, refl, sym, ap, ap₂, ◌∙◌}
use mathlib.Core.Bool.{Bool, true, false, ◌&&◌, false≢true}
use mathlib.Core.List.{List, [], ◌∷◌, ◌++◌}
use native.Mathlib.Omega.{arith}
use native.Mathlib.Nat.{pow-suc, pow-zero, div-lt_iff_lt-mul, div-add-mod'}
use borrow.Author.Tests.{eqb-true, eq-eqb}
use lib.Dec.{eqb}
use lib.ListN.{length}
use lib.Pointwise.{pointwise}
use Rattle.octets.specs.Octets.{low_bytes}
use Rattle.messages.proofs.LayoutLaws.{and_left, and_right}
use Rattle.replaying.specs.Replaying.{same_octets}

-- ---- tests

-- two tests that imply each other are one
either_way : (a b : Bool) → (a ≡ true → b ≡ true) → (b ≡ true → a ≡ true) → a ≡ b
either_way true b f g = sym (f refl)
either_way false true f g = g refl
either_way false false f g = refl

and_assoc : (a b c : Bool) → (a && b) && c ≡ a && (b && c)
and_assoc true b c = refl
and_assoc false b c = refl

-- ---- the same octets

pub same_equal : (s t : List ℕ) → same_octets s t ≡ true → s ≡ t
unfolding same_octets
same_equal [] [] e = refl
same_equal [] (y ∷ t) e = absurd (false≢true e)
same_equal (x ∷ s) [] e = absurd (false≢true e)
same_equal (x ∷ s) (y ∷ t) e = ap₂ (λ (a : ℕ) (l : List ℕ). a ∷ l) (eqb-true x y (and_left (eqb x y) (same_octets s t) e)) (same_equal s t (and_right (eqb x y) (same_octets s t) e))

-- they are as many
pub same_sized : (s t : List ℕ) → eqb (length s) (length t) && same_octets s t ≡ same_octets s t
same_sized s t =
    either_way (eqb (length s) (length t) && same_octets s t) (same_octets s t)
    (and_right (eqb (length s) (length t)) (same_octets s t))
    (λ e. ap₂ ◌&&◌ (eq-eqb (length s) (length t) (ap length (same_equal s t e))) e)

-- numbers are the same where their lowest octets are, and what is left of them
low_octet : (a b : ℕ) → eqb (a % 256) (b % 256) && eqb (a / 256) (b / 256) ≡ eqb a b
low_octet a b =
    either_way (eqb (a % 256) (b % 256) && eqb (a / 256) (b / 256)) (eqb a b)
    (λ e.
    let m = eqb-true (a % 256) (b % 256) (and_left (eqb (a % 256) (b % 256)) (eqb (a / 256) (b / 256)) e) in
    let d = eqb-true (a / 256) (b / 256) (and_right (eqb (a % 256) (b % 256)) (eqb (a / 256) (b / 256)) e) in
    eq-eqb a b (sym (div-add-mod' a 256) ∙ ap₂ (λ (x y : ℕ). x * 256 + y) d m ∙ div-add-mod' b 256))
    (λ e.
    let q = eqb-true a b e in
    ap₂ ◌&&◌ (eq-eqb (a % 256) (b % 256) (ap (λ (k : ℕ). k % 256) q)) (eq-eqb (a / 256) (b / 256) (ap (λ (k : ℕ). k / 256) q)))

-- octets that start with a number each
pub same_low : (n a b : ℕ) (u v : List ℕ) → a < 256 ^ n → b < 256 ^ n → same_octets (low_bytes n a ++ u) (low_bytes n b ++ v) ≡ eqb a b && same_octets u v
unfolding same_octets low_bytes
same_low zero a b u v p q =
    let z : a ≡ b = omega (arith, rw pow-zero at p, rw pow-zero at q) in
    sym (ap (λ (d : Bool). d && same_octets u v) (eq-eqb a b z))
same_low (suc n) a b u v p q =
    let h : a / 256 < 256 ^ n = (div-lt_iff_lt-mul {k = 256} {x = a} {y = 256 ^ n} (omega arith)).1 (rw pow-suc at p) in
    let k : b / 256 < 256 ^ n = (div-lt_iff_lt-mul {k = 256} {x = b} {y = 256 ^ n} (omega arith)).1 (rw pow-suc at q) in
    ap (λ (d : Bool). eqb (a % 256) (b % 256) && d) (same_low n (a / 256) (b / 256) u v h k)
    ∙ sym (and_assoc (eqb (a % 256) (b % 256)) (eqb (a / 256) (b / 256)) (same_octets u v))
    ∙ ap (λ (d : Bool). d && same_octets u v) (low_octet a b)

-- the test of two runs of octets
pub same_pointwise : (a b : List ℕ) → pointwise eqb a b ≡ same_octets a b
unfolding same_octets
same_pointwise [] [] = refl
same_pointwise [] (y ∷ b) = refl
same_pointwise (x ∷ a) [] = refl
same_pointwise (x ∷ a) (y ∷ b) = ap (λ (d : Bool). eqb x y && d) (same_pointwise a b)
