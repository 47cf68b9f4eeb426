-- What the invariant says of a record's profiles, its sums and its report's values.
use Prim.Native.Nat.{ℕ, zero, suc, ◌+◌, ◌*◌, ◌<◌, ◌≤◌}
use mathlib.Core.Path.{◌≡◌, refl, ap, ◌∙◌}
use mathlib.Core.Bool.{Bool}
use mathlib.Core.List.{List, [], ◌∷◌, map}
use native.Mathlib.Omega.{arith}
use native.Mathlib.Nat.{div-eq_of_lt}
use lib.ListN.{get_or}
use Rattle.rules.specs.declared.Phase.{Phase}
use Rattle.rules.specs.declared.Phase.TheVariants.{Asked, Sounding, Reported, Awaiting, Ready, Counting, Success}
use Rattle.rules.specs.declared.Record.{Record}
use Rattle.messages.specs.declared.Edition.{Edition}
use Rattle.octets.specs.Octets.{value}
use Rattle.rules.specs.Records.{groups_in}
use Rattle.rules.specs.Replies.{mean}
use Rattle.rules.specs.Constants.{sounds_per_try}
use Rattle.rules.proofs.TryLaws.{sounds_most}
use Rattle.records.specs.Means.{most_profiles, Summed}
use Rattle.rules.specs.Invariant.{InPhase, GoodRecord}

-- in every phase at most all profiles are counted
phase_most : (e : Edition) (l : Bool) (p : Phase) (n : ℕ) → InPhase e l p n → n ≤ sounds_per_try e l
phase_most e l (Asked t) n h = omega arith
phase_most e l (Sounding t) n h = omega arith
phase_most e l (Reported t k) n h = h.1.1.1
phase_most e l (Awaiting t) n h = h.1.1
phase_most e l (Ready t) n h = h.1.1
phase_most e l (Counting t k b) n h = h.1.1.1
phase_most e l (Success t) n h = h.1.1

-- so the sums of a good record are those of at most as many profiles as the table of reciprocals has
pub good_summed : (e : Edition) (r : Record) → GoodRecord e r → Summed r.profiles r.sums
good_summed e r g = (omega (arith, phase_most e r.later r.phase r.profiles g.phase, sounds_most e r.later), g.sums)

-- and each is at most that of all of them
pub summed_most : (n : ℕ) (sums : List ℕ) → Summed n sums → (i : ℕ) → get_or sums i 0 ≤ 255 * most_profiles
summed_most n sums g i = omega (arith, g.0, g.1 i)

-- ---- the values of a report

-- the mean of nothing is 0
none_mean : (n : ℕ) → 0 < n → mean n 0 ≡ 0
unfolding mean
none_mean n h = div-eq_of_lt (omega arith)

-- so where no sum is, no value is
none_mapped : (f : ℕ → ℕ) (s : List ℕ) (i : ℕ) → f 0 ≡ 0 → get_or s i 0 ≡ 0 → get_or (map f s) i 0 ≡ 0
none_mapped f [] i z h = refl
none_mapped f (x ∷ s) zero z h = ap f h ∙ z
none_mapped f (x ∷ s) (suc i) z h = none_mapped f s i z h

-- a run of zeros is the number 0
none_value : (s : List ℕ) (at n : ℕ) → ((i : ℕ) → at ≤ i → get_or s i 0 ≡ 0) → value s at n ≡ 0
unfolding value
none_value s at zero h = refl
none_value s at (suc n) h = omega (arith, none_value s at n h, h (at + n) (omega arith))

-- the values past the record's count are zero
pub past_values : (e : Edition) (r : Record) (n : ℕ) → GoodRecord e r → 0 < r.profiles → value (map (mean r.profiles) r.sums) (groups_in e r.groups) n ≡ 0
past_values e r n g h = none_value _ _ n (λ i k. none_mapped (mean r.profiles) r.sums i (none_mean r.profiles h) (g.past i k))
