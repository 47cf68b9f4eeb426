-- Laws of the set of sound counts: what the test, the mark and the number of ones mean.
use Prim.Native.Nat.{ℕ, suc, ◌+◌, ◌*◌, ◌-◌, ◌^◌, ◌/◌, ◌%◌, ◌<◌, ◌≤◌}
use mathlib.Core.Path.{◌≡◌, sym, ap, ap₂, ◌∙◌}
use mathlib.Core.Bool.{true, false, not, ◌&&◌}
use native.Mathlib.Omega.{arith}
use native.Mathlib.Nat.{mod-lt, zero-lt-suc, div-eq_of_lt, pow-suc, lt_of_lt_of_le}
use lib.Dec.{eqb, ltb}
use lib.Pow.{pow_pos, pow_mono, pow-lt, pow-add, shl-shr, shl_exact}
use lib.Pow as pow
use lib.Bits.{bit_and, bit_or, and_block, and_mask, and_zero_r, or_add_and, or_shr, or_mod, or_zero_r}
use lib.Count.{ones, ones_step, ones_cat}
use borrow.Author.Tests.{eqb-true, eqb-false, eq-eqb, ne_eqb, ltb-true, ltb-false, lt-ltb, le-ltb}
use Rattle.rules.specs.Sounds.{is_in, marked}
use Rattle.messages.proofs.LayoutLaws.{and_left, and_right}
use Rattle.ends.proofs.Logic.{split}
use Rattle.rules.proofs.SoundLaws.{marked_or}
use Rattle.records.specs.Heard.{set_size, marking}

-- ---- the test

-- a digit of a number that is too small to have it
pub beyond : (n k h : ℕ) → n ≤ k → h < 2 ^ n → false ≡ is_in k h
unfolding is_in
beyond n k h l b =
    let z : h / 2 ^ k ≡ 0 = div-eq_of_lt (lt_of_lt_of_le b (pow_mono l)) in
    sym (ne_eqb (h / 2 ^ k % 2) 1 (λ (e : h / 2 ^ k % 2 ≡ 1). omega arith))

-- a set has no digit past those that it can hold
pub past_set : (k h : ℕ) → set_size ≤ k → h < 2 ^ set_size → ltb k set_size ≡ is_in k h
past_set k h l b = le-ltb k set_size l ∙ beyond set_size k h l b

-- a digit that is not 1
even : (k h : ℕ) → is_in k h ≡ false → h / 2 ^ k % 2 ≡ 0
unfolding is_in
even k h e = omega (arith, mod-lt (h / 2 ^ k) (zero-lt-suc 1), eqb-false (h / 2 ^ k % 2) 1 e)

-- ---- the mark

-- the digit k of h, at its place
digit : (k h : ℕ) → bit_and h (2 ^ k) ≡ h / 2 ^ k % 2 * 2 ^ k
digit k h =
    let b : bit_and (h / 2 ^ k * 2 ^ k + h % 2 ^ k) (1 * 2 ^ k + 0) ≡ bit_and (h / 2 ^ k) 1 * 2 ^ k + bit_and (h % 2 ^ k) 0 =
    and_block k (h / 2 ^ k) 1 (h % 2 ^ k) 0 (mod-lt h (pow_pos k)) (pow_pos k) in
    let p : 1 * 2 ^ k + 0 ≡ 2 ^ k = omega arith in
    sym (ap₂ bit_and (pow.split h k) p) ∙ b ∙ rw (and_mask (h / 2 ^ k) 1, and_zero_r (h % 2 ^ k)) (omega arith)

-- a bitwise or with a count that is in the set changes nothing
or_same : (k h : ℕ) → is_in k h ≡ true → bit_or h (2 ^ k) ≡ h
unfolding is_in
or_same k h e =
    let a : bit_and h (2 ^ k) ≡ 2 ^ k = digit k h ∙ rw (eqb-true (h / 2 ^ k % 2) 1 e) (omega arith) in
    omega (arith, or_add_and h (2 ^ k))

-- the code's bitwise or is the mark of a count that the set can hold
pub or_marking : (k h : ℕ) → k < set_size → bit_or h (1 * 2 ^ k % 2 ^ 16) ≡ marking k h
unfolding marking
or_marking k h l =
    let p : 1 * 2 ^ k % 2 ^ 16 ≡ 2 ^ k = shl_exact {a = 1} 1 k 16 (omega arith) (omega arith) ∙ omega arith in
    ap (bit_or h) p ∙ split (is_in k h)
    (λ e. or_same k h e ∙ sym (rw (lt-ltb k set_size l, e)))
    (λ e. sym (marked_or k h e) ∙ sym (rw (lt-ltb k set_size l, e)))

-- no such count: nothing is marked
pub not_marking : (k h : ℕ) → set_size ≤ k → h ≡ marking k h
unfolding marking
not_marking k h l = sym (rw (le-ltb k set_size l))

-- a count below n that is not in the set
pub new_marking : (n k h : ℕ) → n ≤ set_size → ltb k n && not (is_in k h) ≡ true → marking k h ≡ marked k h
unfolding marking
new_marking n k h l e =
    let below : k < set_size = omega (arith, ltb-true k n (and_left (ltb k n) _ e)) in
    rw (lt-ltb k set_size below, and_right (ltb k n) _ e)

-- ---- what a marked set holds

-- one count more
pub ones_marked : (k h : ℕ) → is_in k h ≡ false → ones (marked k h) ≡ suc (ones h)
unfolding marked
ones_marked k h e =
    let a = h / 2 ^ k in
    let r = h % 2 ^ k in
    let z : a % 2 ≡ 0 = even k h e in
    let l : r < 2 ^ k = mod-lt h (pow_pos k) in
    let more : h + 2 ^ k ≡ (a + 1) * 2 ^ k + r = omega (arith, pow.split h k) in
    let half : (a + 1) / 2 ≡ a / 2 = omega arith in
    let odd : (a + 1) % 2 ≡ 1 = omega arith in
    let up : ones (a + 1) ≡ 1 + ones (a / 2) = ones_step (a + 1) ∙ ap₂ (λ (x y : ℕ). x + ones y) odd half in
    let low : ones a ≡ 0 + ones (a / 2) = ones_step a ∙ ap (λ (x : ℕ). x + ones (a / 2)) z in
    let was : ones h ≡ ones a + ones r = ap ones (sym (pow.split h k)) ∙ ones_cat k a r l in
    let is : ones (h + 2 ^ k) ≡ ones (a + 1) + ones r = ap ones more ∙ ones_cat k (a + 1) r l in
    omega arith

-- the digits of a power of two
power_same : (k : ℕ) → 2 ^ k / 2 ^ k % 2 ≡ 1
power_same k = ap (λ (x : ℕ). x % 2) (sym (ap (λ (x : ℕ). x / 2 ^ k) (let p : 1 * 2 ^ k ≡ 2 ^ k = omega arith in p)) ∙ shl-shr 1 k)

-- above its place: 0
power_above : (j k : ℕ) → k < j → 2 ^ k / 2 ^ j % 2 ≡ 0
power_above j k h = ap (λ (x : ℕ). x % 2) (div-eq_of_lt (pow-lt h))

-- a power of two above 1 is even
even_power : (n : ℕ) → 2 ^ suc n % 2 ≡ 0
even_power n = let p : 2 ^ suc n ≡ 2 ^ n * 2 = pow-suc 2 n in omega arith

-- below its place: 0
power_below : (j k : ℕ) → j < k → 2 ^ k / 2 ^ j % 2 ≡ 0
power_below j k h =
    let d = k - suc j in
    let e : k ≡ suc d + j = omega arith in
    ap (λ (x : ℕ). 2 ^ x / 2 ^ j % 2) e
    ∙ ap (λ (x : ℕ). x / 2 ^ j % 2) (pow-add 2 (suc d) j)
    ∙ ap (λ (x : ℕ). x % 2) (shl-shr (2 ^ suc d) j)
    ∙ even_power d

-- so 0 at every other place
power_other : (j k : ℕ) → (j ≡ k → ⊥) → 2 ^ k / 2 ^ j % 2 ≡ 0
power_other j k n = split (ltb j k)
    (λ h. power_below j k (ltb-true j k h))
    (λ h. power_above j k (omega (arith, ltb-false j k h)))

-- a digit of a bitwise or is the or of the digits
digit_or : (j k h : ℕ) → bit_or h (2 ^ k) / 2 ^ j % 2 ≡ bit_or (h / 2 ^ j % 2) (2 ^ k / 2 ^ j % 2)
digit_or j k h = ap (λ (x : ℕ). x % 2) (or_shr h (2 ^ k) j) ∙ or_mod (h / 2 ^ j) (2 ^ k / 2 ^ j) 1

-- the count itself is in it then
pub in_same : (k h : ℕ) → is_in k h ≡ false → is_in k (marked k h) ≡ true
unfolding is_in
in_same k h e =
    eq-eqb (marked k h / 2 ^ k % 2) 1 (ap (λ (x : ℕ). x / 2 ^ k % 2) (marked_or k h e) ∙ digit_or k k h ∙ ap₂ bit_or (even k h e) (power_same k))

-- and every other count as before
pub in_other : (j k h : ℕ) → is_in k h ≡ false → (j ≡ k → ⊥) → is_in j (marked k h) ≡ is_in j h
unfolding is_in
in_other j k h e n =
    ap (λ (x : ℕ). eqb x 1)
    (ap (λ (x : ℕ). x / 2 ^ j % 2) (marked_or k h e) ∙ digit_or j k h ∙ ap (bit_or (h / 2 ^ j % 2)) (power_other j k n) ∙ or_zero_r (h / 2 ^ j % 2))
