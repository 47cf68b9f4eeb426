-- A mean by one multiplication and one shift, for every number of profiles that the table has and every sum that they can have.
use Prim.Native.Nat.{ℕ, zero, suc, ◌+◌, ◌-◌, ◌*◌, ◌^◌, ◌/◌, ◌%◌, ◌<◌, ◌≤◌}
use mathlib.Core.Path.{◌≡◌, ap, sym, ◌∙◌}
use mathlib.Core.List.{List, [], ◌∷◌}
use native.Mathlib.Omega.{arith}
use native.Mathlib.Nat.{div-zero, div-lt_iff_lt-mul, div-add-mod', mod-lt, mul-zero, mul-le-mul_left, mul-le-mul_right, add-zero, add-suc, suc-add, le_of_suc-le-suc, not-suc-le-zero}
use lib.ListN.{get_or}
use Rattle.rules.specs.Replies.{mean}
use Rattle.records.specs.Means.{most_profiles, Summed, reciprocal}

-- a sum's mean over n profiles, by one product of a sum and half of n with a factor, and one shift
record Scales (n sum factor : ℕ) : Type 0 where
  pub room : (sum + n / 2) * factor < 2 ^ 24
  pub same : (sum + n / 2) * factor / 2 ^ 16 ≡ mean n sum

-- the reciprocal times n is 65,536 and r more, with r below n; so a quotient of at most 255 and any remainder add less than 65,536
scales_some : (n sum : ℕ) → 1 ≤ n → n ≤ most_profiles → (sum + n / 2) / n ≤ 255 → Scales n sum (reciprocal n)
unfolding reciprocal mean
scales_some n sum low high few =
    let x : ℕ = sum + n / 2 in
    let m : ℕ = (65535 + n) / n in
    let q : ℕ = x / n in
    let t : ℕ = x % n in
    let k : ℕ = (65535 + n) % n in
    let whole : m * n + k ≡ 65535 + n = div-add-mod' (65535 + n) n in
    let k< : k < n = mod-lt (65535 + n) low in
    let t< : t < n = mod-lt x low in
    let parts : q * n + t ≡ x = div-add-mod' x n in
    let great : 4096 ≤ m = omega (arith, mul-le-mul_left m high) in
    let r : ℕ = n - 1 - k in
    let exact : m * n ≡ 65536 + r = omega arith in
    let product : (q * n + t) * m ≡ x * m = ap (λ (y : ℕ). y * m) parts in
    let times : q * (m * n) ≡ q * (65536 + r) = ap (λ (y : ℕ). q * y) exact in
    let small : suc t * m ≤ n * m = mul-le-mul_right m t< in
    let few_r : q * r ≤ 255 * r = mul-le-mul_right r few in
    let rest : q * r + t * m < 65536 = omega arith in
    let sums : x * m ≡ 65536 * q + (q * r + t * m) = omega arith in
    record { room = omega arith; same = omega arith }

-- of no profile the mean is 0
scales_none : (sum : ℕ) → Scales 0 sum (reciprocal 0)
unfolding reciprocal mean
scales_none sum =
    let x : ℕ = sum + 0 / 2 in
    let z : x * (65535 / 0) ≡ 0 = ap (λ (y : ℕ). x * y) (div-zero 65535) ∙ mul-zero x in
    record { room = omega (arith, z); same = ap (λ (y : ℕ). y / 2 ^ 16) z ∙ sym (div-zero x) }

-- a sum of n octets, and half of n, make a quotient of at most 255
few_some : (n sum : ℕ) → 1 ≤ n → sum ≤ 255 * n → (sum + n / 2) / n ≤ 255
few_some n sum low few =
    let halves : n / 2 * 2 + n % 2 ≡ n = div-add-mod' n 2 in
    let below : sum + n / 2 < 256 * n = omega arith in
    let quotient : (sum + n / 2) / n < 256 = (div-lt_iff_lt-mul low).1 below in
    omega arith

scales : (n sum : ℕ) → n ≤ most_profiles → sum ≤ 255 * n → Scales n sum (reciprocal n)
scales zero sum high few = scales_none sum
scales (suc n) sum high few = scales_some (suc n) sum (omega arith) high (few_some (suc n) sum (omega arith) few)

-- at each sum of n profiles, with half of n and with n's reciprocal
pub mean_scales : (n half factor : ℕ) (sums : List ℕ) → half ≡ n / 2 → factor ≡ reciprocal n → Summed n sums → (i : ℕ)
    → ((get_or sums i 0 + half) * factor < 2 ^ 24) × ((get_or sums i 0 + half) * factor / 2 ^ 16 ≡ mean n (get_or sums i 0))
mean_scales n half factor sums h e few i =
    let w : Scales n (get_or sums i 0) (reciprocal n) = scales n (get_or sums i 0) few.0 (few.1 i) in
    rw (h, e) (w.room, w.same)

-- the reciprocals of k numbers from n on
abbrev pub reciprocals : ℕ → ℕ → List ℕ
reciprocals zero n = []
reciprocals (suc k) n = reciprocal n ∷ reciprocals k (suc n)

-- in such a table each stands at its number's place
pub reciprocal_at : (k n i : ℕ) → i < k → get_or (reciprocals k n) i 0 ≡ reciprocal (n + i)
reciprocal_at zero n i h = absurd (not-suc-le-zero h)
reciprocal_at (suc k) n zero h = ap reciprocal (sym (add-zero n))
reciprocal_at (suc k) n (suc i) h = reciprocal_at k (suc n) i (le_of_suc-le-suc h) ∙ ap reciprocal (suc-add n i ∙ sym (add-suc n i))
