-- How many reports are kept: what holds of them, and the steps of the loop that counts them.
use Prim.Native.Nat.{ℕ, zero, suc, ◌+◌, ◌-◌, ◌≤◌, ◌<◌}
use mathlib.Core.Path.{◌≡◌, refl, sym, ap, ap₂, ◌∙◌}
use mathlib.Core.Bool.{Bool, true, false}
use mathlib.Core.List.{List, [], ◌∷◌}
use native.Mathlib.Omega.{arith}
use lib.ListN.{length, get_or, take, drop, drop_of_length-le}
use Rattle.messages.specs.Table.{is_unicast}
use Rattle.ends.specs.Lists.{All}
use Rattle.ends.proofs.ListLaws.{drop_next}
use Rattle.ends.proofs.Logic.{split}
use Rattle.car_rules.specs.declared.Report.{Report}
use Rattle.car_rules.specs.Constants.{station_count}
use Rattle.car_words.specs.Words.{count_in}

-- whether a report's station is unicast
abbrev is_unicast_report : Report → Bool
is_unicast_report r = is_unicast r.station.0

abbrev UnicastReport : Report → Type 0
UnicastReport r = is_unicast_report r ≡ true

-- ---- what is kept

-- no more than there are
pub count_few : (n : ℕ) (rs : List Report) → count_in n rs ≤ length rs
unfolding count_in
count_few n [] = omega arith
count_few zero (r ∷ rs) = omega arith
count_few (suc n) (r ∷ rs) =
    let ih : count_in n rs ≤ length rs = count_few n rs in
    split (is_unicast_report r) (λ u. rw u (omega arith)) (λ u. rw u (omega arith))

-- each from a unicast station
pub count_unicast : (n : ℕ) (rs : List Report) → All UnicastReport (take (count_in n rs) rs)
unfolding count_in
count_unicast n [] = tt
count_unicast zero (r ∷ rs) = tt
count_unicast (suc n) (r ∷ rs) = split (is_unicast_report r) (λ u. rw u (u, count_unicast n rs)) (λ u. rw u tt)

-- reports from unicast stations are all kept
pub count_back : (n : ℕ) (rs : List Report) → n ≤ length rs → All UnicastReport (take n rs) → count_in n rs ≡ n
unfolding count_in
count_back zero [] h u = refl
count_back (suc n) [] h u = absurd (omega arith)
count_back zero (r ∷ rs) h u = refl
count_back (suc n) (r ∷ rs) h u = rw u.0 (ap suc (count_back n rs (omega arith) u.1))

-- ---- counted one by one

count_one : (n : ℕ) (r : Report) (rs : List Report) → is_unicast_report r ≡ true → count_in (suc n) (r ∷ rs) ≡ suc (count_in n rs)
unfolding count_in
count_one n r rs u = rw u

count_other : (n : ℕ) (r : Report) (rs : List Report) → is_unicast_report r ≡ false → count_in n (r ∷ rs) ≡ 0
unfolding count_in
count_other zero r rs u = refl
count_other (suc n) r rs u = rw u

count_none : (rs : List Report) → count_in 0 rs ≡ 0
unfolding count_in
count_none [] = refl
count_none (r ∷ rs) = refl

-- before the report at i: those before it are kept, and those from it on are left to count
pub record Counting (most : ℕ) (rs : List Report) (i : ℕ) : Type 0 where
  pub left : count_in most rs ≡ i + count_in (most - i) (drop i rs)

pub counting_start : (most : ℕ) (rs : List Report) → Counting most rs 0
counting_start most rs =
    let m : most ≡ most - 0 = omega arith in
    let e : count_in most rs ≡ count_in (most - 0) rs = ap (λ (n : ℕ). count_in n rs) m in
    record { left = omega arith }

pub counting_end : (most : ℕ) (rs : List Report) (i : ℕ) → Counting most rs i → i ≡ station_count → length rs ≡ station_count → station_count ≡ count_in most rs
unfolding count_in
counting_end most rs i k h l =
    let b : length rs ≤ i = omega arith in
    let z : count_in (most - i) (drop i rs) ≡ 0 = ap (count_in (most - i)) (drop_of_length-le rs b) in
    omega (arith, k.left)

-- so many reports are kept as may be
pub counting_most : (most : ℕ) (rs : List Report) (i : ℕ) → Counting most rs i → most ≤ i → i ≡ count_in most rs
counting_most most rs i k h =
    let m : most - i ≡ 0 = omega arith in
    omega (arith, k.left, ap (λ (n : ℕ). count_in n (drop i rs)) m, count_none (drop i rs))

module _ (most : ℕ) (rs : List Report) (i : ℕ) (z : Report) (k : Counting most rs i) (h : i < length rs) (u : Bool) (e : u ≡ is_unicast_report (get_or rs i z)) where
  -- the report at i is not kept
  pub counting_other : u ≡ false → i ≡ count_in most rs
  counting_other f =
      let none : count_in (most - i) (drop i rs) ≡ 0 = ap (count_in (most - i)) (drop_next rs i z h) ∙ count_other (most - i) (get_or rs i z) (drop (i + 1) rs) (sym e ∙ f) in
      omega (arith, k.left)

  -- it is
  pub counting_next : i < most → u ≡ true → Counting most rs (i + 1)
  counting_next b t =
      let m : most - i ≡ suc (most - (i + 1)) = omega arith in
      let one : count_in (most - i) (drop i rs) ≡ suc (count_in (most - (i + 1)) (drop (i + 1) rs)) = ap₂ count_in m (drop_next rs i z h) ∙ count_one (most - (i + 1)) (get_or rs i z) (drop (i + 1) rs) (sym e ∙ t) in
      record { left = omega (arith, k.left) }
