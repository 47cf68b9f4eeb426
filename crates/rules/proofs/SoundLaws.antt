-- Laws of the set of sound counts.
use Prim.Native.Nat.{ℕ, ◌+◌, ◌*◌, ◌^◌, ◌/◌, ◌%◌, ◌<◌}
use mathlib.Core.Path.{◌≡◌, sym, ap₂, ◌∙◌}
use mathlib.Core.Bool.{false}
use native.Mathlib.Omega.{arith}
use native.Mathlib.Nat.{mod-lt, zero-lt-suc}
use lib.Pow.{pow_pos, pow-lt, split}
use lib.Bits.{bit_and, bit_or, and_block, and_mask, and_zero_r, or_disjoint, or_lt}
use borrow.Author.Tests.{eqb-false}
use Rattle.rules.specs.Sounds.{is_in, marked}

-- a digit that is 0
apart : (k h : ℕ) → is_in k h ≡ false → bit_and h (2 ^ k) ≡ 0
unfolding is_in
apart k h e =
    let z : h / 2 ^ k % 2 ≡ 0 = omega (arith, mod-lt (h / 2 ^ k) (zero-lt-suc 1), eqb-false (h / 2 ^ k % 2) 1 e) in
    let one : bit_and (h / 2 ^ k) 1 ≡ 0 = and_mask (h / 2 ^ k) 1 ∙ z in
    let b : bit_and (h / 2 ^ k * 2 ^ k + h % 2 ^ k) (1 * 2 ^ k + 0) ≡ bit_and (h / 2 ^ k) 1 * 2 ^ k + bit_and (h % 2 ^ k) 0 =
    and_block k (h / 2 ^ k) 1 (h % 2 ^ k) 0 (mod-lt h (pow_pos k)) (pow_pos k) in
    let p : 1 * 2 ^ k + 0 ≡ 2 ^ k = omega arith in
    sym (ap₂ bit_and (split h k) p) ∙ b ∙ rw (one, and_zero_r (h % 2 ^ k)) (omega arith)

-- marking is a bitwise or
pub marked_or : (k h : ℕ) → is_in k h ≡ false → marked k h ≡ bit_or h (2 ^ k)
unfolding marked
marked_or k h e = sym (or_disjoint h (2 ^ k) (apart k h e))

-- the set stays one of counts below n
pub marked_below : (n k h : ℕ) → k < n → h < 2 ^ n → is_in k h ≡ false → marked k h < 2 ^ n
marked_below n k h l b e = rw (marked_or k h e) (or_lt n h (2 ^ k) b (pow-lt l))
