-- Any words, sums and spread mean a station that every call can take.
use Prim.Native.Nat.{ℕ, zero, suc, ◌*◌, ◌^◌, ◌≤◌, ◌<◌, ◌%◌, min}
use mathlib.Core.Path.{◌≡◌, refl, sym, subst}
use mathlib.Core.Bool.{Bool, true, false}
use mathlib.Core.List.{List, [], ◌∷◌, map, zip_with}
use native.Mathlib.Omega.{arith}
use borrow.Author.Tests.{le-leb}
use lib.Dec.{eqb}
use lib.ListN.{length, get_or, drop, length-take, length-map}
use Rattle.messages.specs.declared.Edition.{Edition}
use Rattle.messages.specs.declared.Edition.TheVariants.{Iso, Sae}
use Rattle.messages.specs.Table.{group_count, is_unicast}
use Rattle.messages.proofs.LayoutLaws.{and_right}
use Rattle.rules.specs.declared.Phase.{Phase}
use Rattle.rules.specs.declared.Phase.TheVariants.{Asked}
use Rattle.rules.specs.declared.Record.{Record}
use Rattle.rules.specs.declared.Station.{Station}
use Rattle.rules.specs.Constants.{asked_time, sounds_per_try, record_count}
use Rattle.rules.specs.Invariant.{Reportable, InPhase, TryFits, GroupsFit, GoodRecord, GoodConfiguration, Invariant}
use Rattle.ends.specs.Lists.{All}
use Rattle.rules.specs.Records.{is_held}
use Rattle.rules.specs.Rules.{may_reply, free_record, configured}
use Rattle.rules.proofs.InvariantKept.{config_good, configured_keeps}
use Rattle.rules.proofs.TryLaws.{sounding_lasts, some_sounds}
use Rattle.ends.specs.Words.{time_within, runs}
use Rattle.words.specs.Words.{edition_in, some_of, later_of, counting_of, phases_of, phase_of, profiles_of, groups_of, most_sum, sums_of, record_of, word_runs, sum_runs, spread_runs, given, records_of, config_of, state_of, station_of}
use Rattle.rules.specs.Numbers.{pilot_of}
use Rattle.words.proofs.CopyLaws.{length_first, first_less, first_past}

-- what holds of all of a list and of what stands past it
all_get_d : {A : Type 0} (P : A → Type 0) (xs : List A) (i : ℕ) (z : A) → All P xs → P z → P (get_or xs i z)
all_get_d P [] i z h k = k
all_get_d P (x ∷ xs) zero z h k = h.0
all_get_d P (x ∷ xs) (suc i) z h k = all_get_d P xs i z h.1 k

-- ---- a record

limited : (n : ℕ) (s : List ℕ) (i : ℕ) → get_or (map (min (most_sum n)) s) i 0 ≤ 255 * n
limited n [] i = omega arith
limited n (x ∷ s) zero = omega arith
limited n (x ∷ s) (suc i) = limited n s i

sums_limited : (n g : ℕ) (s : List ℕ) (i : ℕ) → get_or (sums_of n g s) i 0 ≤ 255 * n
unfolding sums_of
sums_limited n g s i = omega (arith, first_less g (map (min (most_sum n)) s) i, limited n s i)

-- none past the first g groups
sums_past : (n g : ℕ) (s : List ℕ) (i : ℕ) → g ≤ i → get_or (sums_of n g s) i 0 ≡ 0
unfolding sums_of
sums_past n g s i h = first_past g (map (min (most_sum n)) s) i h

later_meant : (e : Edition) (n : ℕ) → TryFits e (later_of e n)
later_meant Iso n = refl
later_meant Sae n = tt

groups_meant : (e : Edition) (n g : ℕ) → GroupsFit e n (groups_of e n g)
groups_meant Iso n g = refl
groups_meant Sae zero g = refl
groups_meant Sae (suc n) g = rw (le-leb 1 (some_of group_count g) (omega arith), le-leb (some_of group_count g) group_count (omega arith))

heard_limited : (e : Edition) (l : Bool) (n : ℕ) → n % 2 ^ sounds_per_try e l < 2 ^ sounds_per_try e l
heard_limited Iso l n = omega arith
heard_limited Sae false n = omega arith
heard_limited Sae true n = omega arith

module _ (e : Edition) (l : Bool) where
  -- the profiles suit a phase
  abbrev Suits : ℕ → Phase → Type 0
  Suits m p = InPhase e l p (profiles_of e l p m)

  asked_limited : (t m : ℕ) → Suits m (Asked (time_within asked_time t))
  unfolding profiles_of
  asked_limited t m = ((omega arith, omega arith), refl)

  -- they suit each where its time and its retries or toggles do
  phases_limited : (t n m : ℕ) → All (Suits m) (phases_of e l t n)
  unfolding profiles_of
  phases_limited t n m =
      let lasts = sounding_lasts e l in
      let some = some_sounds e l in
      let r : Reportable (sounds_per_try e l) (some_of (sounds_per_try e l) m) = (omega arith, omega arith) in
      let counting : (b : Bool) → Suits m (counting_of t n b) = λ b. ((omega arith, omega arith), (omega arith, r)) in
      (asked_limited t m, (((omega arith, omega arith), omega arith), (((omega arith, omega arith), (omega arith, r)), (((omega arith, omega arith), r), (((omega arith, omega arith), r), (counting false, (counting true, (((omega arith, omega arith), r), tt))))))))

  phase_limited : (k t n m : ℕ) → Suits m (phase_of e l k t n)
  unfolding phase_of
  phase_limited k t n m = all_get_d (Suits m) (phases_of e l t n) k (Asked (time_within asked_time t)) (phases_limited t n m) (asked_limited t m)

module _ (e : Edition) where
  pub record_meant : (w s x : List ℕ) → GoodRecord e (record_of e w s x)
  unfolding record_of is_held
  record_meant w s x =
      let later = later_of e (get_or w 8 0) in
      record {
        sums = λ i. sums_limited _ _ s i;
        past = λ i h. sums_past _ _ s i h;
        try = later_meant e (get_or w 8 0);
        groups = groups_meant e _ (get_or w 9 0);
        phase = phase_limited e later (get_or w 3 0) (get_or w 4 0) (get_or w 5 0) (get_or w 7 0);
        heard = heard_limited e later (get_or w 6 0);
        car = λ h. and_right (eqb (get_or w 0 0) 1) (is_unicast (get_or w 1 0)) h;
      }

  all_zip : (xs ys zs : List (List ℕ)) → All (GoodRecord e) (zip_with given (zip_with (record_of e) xs ys) zs)
  unfolding zip_with
  all_zip [] ys zs = tt
  all_zip (x ∷ xs) [] zs = tt
  all_zip (x ∷ xs) (y ∷ ys) [] = tt
  all_zip (x ∷ xs) (y ∷ ys) (z ∷ zs) = (record_meant x y z, all_zip xs ys zs)

pub records_meant : (w s x : List ℕ) → All (GoodRecord (edition_in w)) (records_of w s x)
unfolding records_of
records_meant w s x = all_zip (edition_in w) (word_runs w) (sum_runs s) (spread_runs x)

-- ---- the configuration and the station

config_meant : (w : List ℕ) → GoodConfiguration (config_of w)
unfolding config_of
config_meant w = config_good _ (λ g. and_right (eqb (get_or w 0 0) 1) (may_reply (record { 0 = get_or w 1 0 }) (record { 0 = get_or w 2 0 }) (record { 0 = get_or w 3 0 })) g)

pub meant : (w s x : List ℕ) → Invariant (station_of w s x)
unfolding station_of
meant w s x = record { config = config_meant w; records = records_meant w s x }

-- a station read part by part
pub unpacked : (w s x : List ℕ) (z : Station) → z.config ≡ config_of w → z.state ≡ state_of w → z.pilot ≡ pilot_of (get_or w 10 0) → z.clock ≡ get_or w 11 0 % 2 ^ 32 → z.records ≡ records_of w s x
    → (z ≡ station_of w s x) × Invariant z
unfolding station_of
unpacked w s x z a b c d e =
    let same : z ≡ station_of w s x = λ i. record { config = a i; state = b i; pilot = c i; clock = d i; records = e i } in
    (same, subst Invariant (sym same) (meant w s x))

-- ---- the record at a place

free_good : (e : Edition) → GoodRecord e free_record
unfolding configured
free_good e = (configured_keeps (record { 0 = 0 }) (record { 0 = 0 }) (record { 0 = 0 }) (record { 0 = 0; 1 = 0 }) false e 0).records.0

-- past the last a free one
pub at_meant : (w s x : List ℕ) (i : ℕ) → GoodRecord (edition_in w) (get_or (records_of w s x) i free_record)
at_meant w s x i = all_get_d (GoodRecord (edition_in w)) (records_of w s x) i free_record (records_meant w s x) (free_good (edition_in w))

-- ---- how much there is

-- a run is no longer than its width
all_few : (n k : ℕ) (l : List ℕ) → All (λ (x : List ℕ). length x ≤ k) (runs n k l)
unfolding runs
all_few zero k l = tt
all_few (suc n) k l = (omega (arith, length-take k l), all_few n k (drop k l))

zip_few : (e : Edition) (k : ℕ) (xs ys zs : List (List ℕ)) → All (λ (y : List ℕ). length y ≤ k) ys → All (λ (r : Record). length r.sums ≤ k) (zip_with given (zip_with (record_of e) xs ys) zs)
unfolding zip_with record_of sums_of
zip_few e k [] ys zs h = tt
zip_few e k (x ∷ xs) [] zs h = tt
zip_few e k (x ∷ xs) (y ∷ ys) [] h = tt
zip_few e k (x ∷ xs) (y ∷ ys) (z ∷ zs) h = (rw (length_first, length-map) h.0, zip_few e k xs ys zs h.1)

-- each record has a sum for each group at most
pub sums_few : (w s x : List ℕ) → All (λ (r : Record). length r.sums ≤ group_count) (records_of w s x)
unfolding records_of
sums_few w s x = zip_few (edition_in w) group_count (word_runs w) (sum_runs s) (spread_runs x) (all_few record_count group_count s)
