-- A record in its words, sums and spread: the one at a place, one stored at a place, and a record's own words.
use Prim.Native.Nat.{ℕ, zero, suc, ◌+◌, ◌*◌, ◌^◌, ◌≤◌, ◌<◌, ◌%◌, min}
use mathlib.Core.Path.{◌≡◌, refl, sym, ap, ap₂, ◌∙◌}
use mathlib.Core.Bool.{Bool, true, false, ◌&&◌}
use mathlib.Core.List.{List, [], ◌∷◌, map, zip_with}
use native.Mathlib.Omega.{arith}
use borrow.Author.Tests.{leb-true}
use native.Mathlib.Nat.{add-zero}
use lib.Dec.{eqb, leb}
use lib.ListN.{length, get_or, take, drop, set, length-drop}
use lib.Seq.{sets, drop-drop}
use Rattle.octets.specs.Octets.{part}
use Rattle.messages.specs.Table.{group_count, is_unicast}
use Rattle.messages.specs.declared.Edition.{Edition}
use Rattle.messages.specs.declared.Edition.TheVariants.{Iso, Sae}
use Rattle.messages.specs.declared.CarAddress.{CarAddress}
use Rattle.rules.specs.declared.Phase.{Phase}
use Rattle.rules.specs.declared.Phase.TheVariants.{Asked, Sounding, Reported, Awaiting, Ready, Counting, Success}
use Rattle.rules.specs.declared.Record.{Record}
use Rattle.rules.specs.Constants.{sounds_per_try, record_count}
use Rattle.rules.specs.Invariant.{InPhase, TryFits, GroupsFit, GoodRecord}
use Rattle.rules.specs.Numbers.{edition_of}
use Rattle.rules.specs.Records.{is_held, groups_in}
use Rattle.rules.specs.Validation.{validates, is_validating}
use Rattle.ends.specs.Words.{runs}
use Rattle.words.specs.Words.{head_count, width, word_count, sum_count, spread_width, spread_count, config_of, edition_in, later_of, phase_of, profiles_of, groups_of, most_sum, only_first, sums_of, spread_of, record_of, word_runs, sum_runs, spread_runs, by_spread, given, records_of}
use Rattle.ends.specs.Words.{flag_of}
use Rattle.words.specs.Written.{phase_number, phase_count, words_of, spread_octets}
use Rattle.records.specs.Timers.{time_of}
use Rattle.ends.proofs.WordLaws.{flag_and, word_at}
use Rattle.ends.proofs.RunLaws.{drop_sets, get_d_before, length_runs, runs_at, runs_sets, length_zip, zip_set, zip_at}
use Rattle.messages.proofs.LayoutLaws.{and_left, and_right}
use Rattle.words.proofs.CopyLaws.{first_back, Sized, spread_back}

-- where the words of the record at a place begin
abbrev pub place : ℕ → ℕ
place i = head_count + width * i

-- a record put in its place leaves the edition
pub edition_kept : (w v : List ℕ) (i : ℕ) → edition_in (sets w (place i) v) ≡ edition_in w
unfolding config_of
edition_kept w v i = ap edition_of (get_d_before v w (place i) 13 0 (omega arith))

-- ---- by place

module _ (w s x : List ℕ) where
  length_by_spread : length (by_spread w s) ≡ record_count
  length_by_spread = length_zip (record_of (edition_in w)) (word_runs w) (sum_runs s) record_count (length_runs record_count width (drop head_count w)) (length_runs record_count group_count s)

  pub length_records : length (records_of w s x) ≡ record_count
  unfolding records_of
  length_records = length_zip given (by_spread w s) (spread_runs x) record_count length_by_spread (length_runs record_count spread_width x)

  -- the record at a place is that of its words, its sums and its spread
  pub record_at : (i : ℕ) (d : Record) → i < record_count
      → get_or (records_of w s x) i d ≡ record_of (edition_in w) (part w (place i) width) (part s (group_count * i) group_count) (part x (spread_width * i) spread_width)
  unfolding records_of
  record_at i d h =
      let made = record_of (edition_in w) in
      zip_at given (by_spread w s) (spread_runs x) i (made [] []) [] d
      (rw length_by_spread h) (length_by_spread ∙ sym (length_runs record_count spread_width x))
      ∙ ap₂ given
      (zip_at made (word_runs w) (sum_runs s) i [] [] (made [] [])
      (rw (length_runs record_count width (drop head_count w)) h) (length_runs record_count width (drop head_count w) ∙ sym (length_runs record_count group_count s))
      ∙ ap₂ made (runs_at record_count width i (drop head_count w) [] h ∙ ap (take width) (drop-drop (width * i) head_count w)) (runs_at record_count group_count i s [] h))
      (runs_at record_count spread_width i x [] h)

  -- the words, sums and spread of a record put in its place are that record put in its place
  pub record_put : (v t y : List ℕ) (i : ℕ) → i < record_count → length w ≡ word_count → length s ≡ sum_count → length x ≡ spread_count → length v ≡ width → length t ≡ group_count → length y ≡ spread_width
      → records_of (sets w (place i) v) (sets s (group_count * i) t) (sets x (spread_width * i) y) ≡ set (records_of w s x) i (record_of (edition_in w) v t y)
  unfolding records_of
  record_put v t y i h lw ls lx lv lt ly =
      ap (λ (e : Edition). zip_with given (zip_with (record_of e) (word_runs (sets w (place i) v)) (sum_runs (sets s (group_count * i) t))) (spread_runs (sets x (spread_width * i) y))) (edition_kept w v i)
      ∙ ap₂ (zip_with given)
      (ap₂ (zip_with (record_of (edition_in w)))
      (ap (runs record_count width) (drop_sets v w head_count (width * i)) ∙ runs_sets record_count width i (drop head_count w) v lv (rw length-drop (omega arith)))
      (runs_sets record_count group_count i s t lt (omega arith))
      ∙ zip_set (record_of (edition_in w)) (word_runs w) (sum_runs s) i v t)
      (runs_sets record_count spread_width i x y ly (omega arith))
      ∙ zip_set given (by_spread w s) (spread_runs x) i (record_of (edition_in w) v t) y

module _ (w s x : List ℕ) (i : ℕ) (d : Record) (h : i < record_count) where
  pub held_at : is_held (get_or (records_of w s x) i d) ≡ eqb (get_or w (place i) 0) 1 && is_unicast (get_or w (place i + 1) 0)
  unfolding is_held record_of
  held_at = rw (record_at w s x i d h, word_at w (place i) width 0 (omega arith), word_at w (place i) width 1 (omega arith), add-zero)

  pub car_at : (get_or (records_of w s x) i d).car.0 ≡ get_or w (place i + 1) 0
  unfolding record_of
  car_at = rw (record_at w s x i d h, word_at w (place i) width 1 (omega arith))

  pub phase_at : (get_or (records_of w s x) i d).phase ≡ phase_of (edition_in w) (later_of (edition_in w) (get_or w (place i + 8) 0)) (get_or w (place i + 3) 0) (get_or w (place i + 4) 0) (get_or w (place i + 5) 0)
  unfolding record_of
  phase_at = rw (record_at w s x i d h, word_at w (place i) width 8 (omega arith), word_at w (place i) width 3 (omega arith), word_at w (place i) width 4 (omega arith), word_at w (place i) width 5 (omega arith))

  -- whether it validates, by what is read of its words
  pub validating_at : (e : Edition) (l held b : Bool) (p : Phase) → e ≡ edition_in w → l ≡ later_of e (get_or w (place i + 8) 0) → p ≡ phase_of e l (get_or w (place i + 3) 0) (get_or w (place i + 4) 0) (get_or w (place i + 5) 0)
      → held ≡ is_held (get_or (records_of w s x) i d) → b ≡ validates p → held && b ≡ is_validating (get_or (records_of w s x) i d)
  unfolding is_validating
  validating_at e l held b p ee el ep eh eb = ap₂ (λ (y z : Bool). y && z) eh (eb ∙ ap validates (rw (ep, el, ee) (sym phase_at)))

-- ---- a record's own words, and back

-- a flag alone
pub flag_back : (b : Bool) → eqb (flag_of b) 1 ≡ b
flag_back true = refl
flag_back false = refl

later_back : (e : Edition) (l : Bool) → TryFits e l → later_of e (flag_of l) ≡ l
later_back Iso l h = sym h
later_back Sae l h = flag_back l

heard_back : (e : Edition) (l : Bool) (n : ℕ) → n < 2 ^ sounds_per_try e l → n % 2 ^ sounds_per_try e l ≡ n
heard_back Iso l n h = omega arith
heard_back Sae false n h = omega arith
heard_back Sae true n h = omega arith

groups_back : (e : Edition) (n g : ℕ) → GroupsFit e n g → groups_of e n g ≡ g
groups_back Iso n g h = sym h
groups_back Sae zero g h = sym h
groups_back Sae (suc n) g h = omega (arith, leb-true 1 g (and_left (leb 1 g) (leb g group_count) h), leb-true g group_count (and_right (leb 1 g) (leb g group_count) h))

module _ (e : Edition) (l : Bool) where
  phase_back : (p : Phase) (n : ℕ) → InPhase e l p n → phase_of e l (phase_number p) (time_of p) (phase_count p) ≡ p
  unfolding phase_of
  phase_back (Asked t) n h = ap Asked (omega arith)
  phase_back (Sounding t) n h = ap Sounding (omega arith)
  phase_back (Reported t k) n h = ap₂ Reported (omega arith) (omega arith)
  phase_back (Awaiting t) n h = ap Awaiting (omega arith)
  phase_back (Ready t) n h = ap Ready (omega arith)
  phase_back (Counting t k false) n h = ap₂ (λ (x y : ℕ). Counting x y false) (omega arith) (omega arith)
  phase_back (Counting t k true) n h = ap₂ (λ (x y : ℕ). Counting x y true) (omega arith) (omega arith)
  phase_back (Success t) n h = ap Success (omega arith)

  profiles_back : (p : Phase) (n : ℕ) → InPhase e l p n → profiles_of e l p n ≡ n
  unfolding profiles_of
  profiles_back (Asked t) n h = sym h.1
  profiles_back (Sounding t) n h = omega arith
  profiles_back (Reported t k) n h = omega arith
  profiles_back (Awaiting t) n h = omega arith
  profiles_back (Ready t) n h = omega arith
  profiles_back (Counting t k b) n h = omega arith
  profiles_back (Success t) n h = omega arith

limit_back : (n : ℕ) (s : List ℕ) → ((i : ℕ) → get_or s i 0 ≤ 255 * n) → map (min (most_sum n)) s ≡ s
limit_back n [] h = refl
limit_back n (x ∷ s) h =
    let e : min (most_sum n) x ≡ x = omega (arith, h 0) in
    ap₂ (λ (y : ℕ) (l : List ℕ). y ∷ l) e (limit_back n s (λ i. h (suc i)))

sums_back : (n g : ℕ) (s : List ℕ) → ((i : ℕ) → get_or s i 0 ≤ 255 * n) → ((i : ℕ) → g ≤ i → get_or s i 0 ≡ 0) → sums_of n g s ≡ s
unfolding sums_of
sums_back n g s h k = ap (only_first g) (limit_back n s h) ∙ first_back g s k

-- a good record's words, sums and spread are that record
pub record_back : (e : Edition) (r : Record) → GoodRecord e r → Sized r.spread → record_of e (words_of r) r.sums (spread_octets r.spread) ≡ r
unfolding record_of words_of is_held
record_back e r g z =
    let later = later_of e (flag_of r.later) in
    let phase = phase_of e later (phase_number r.phase) (time_of r.phase) (phase_count r.phase) in
    let profiles = profiles_of e later phase r.profiles in
    let groups = groups_of e profiles r.groups in
    let l : later ≡ r.later = later_back e r.later g.try in
    let p : phase ≡ r.phase = ap (λ (b : Bool). phase_of e b (phase_number r.phase) (time_of r.phase) (phase_count r.phase)) l ∙ phase_back e r.later r.phase r.profiles g.phase in
    let n : profiles ≡ r.profiles = ap₂ (λ (b : Bool) (q : Phase). profiles_of e b q r.profiles) l p ∙ profiles_back e r.later r.phase r.profiles g.phase in
    let c : groups ≡ r.groups = ap (λ (k : ℕ). groups_of e k r.groups) n ∙ groups_back e r.profiles r.groups g.groups in
    let m : sums_of profiles (groups_in e groups) r.sums ≡ r.sums =
    ap₂ (λ (k j : ℕ). sums_of k (groups_in e j) r.sums) n c ∙ sums_back r.profiles (groups_in e r.groups) r.sums g.sums g.past in
    let b : eqb (flag_of r.held) 1 && is_unicast r.car.0 ≡ r.held = flag_and r.held (is_unicast r.car.0) g.car in
    let d : r.heard % 2 ^ sounds_per_try e later ≡ r.heard = ap (λ (b : Bool). r.heard % 2 ^ sounds_per_try e b) l ∙ heard_back e r.later r.heard g.heard in
    let x : spread_of (spread_octets r.spread) ≡ r.spread = spread_back r.spread z in
    λ i. record { car = r.car; run = r.run; held = b i; phase = p i; heard = d i; profiles = n i; sums = m i; spread = x i; later = l i; groups = c i }

-- ---- a record read field by field

module _ (w s x : List ℕ) (i : ℕ) (d : Record) (h : i < record_count) where
  -- it is the record at its place
  pub read_is : (e : Edition) (r : Record)
      → e ≡ edition_in w
      → r.held ≡ is_held (get_or (records_of w s x) i d)
      → r.car ≡ (get_or (records_of w s x) i d).car
      → r.run.0 ≡ get_or w (place i + 2) 0
      → r.later ≡ later_of e (get_or w (place i + 8) 0)
      → r.phase ≡ phase_of e r.later (get_or w (place i + 3) 0) (get_or w (place i + 4) 0) (get_or w (place i + 5) 0)
      → r.heard ≡ get_or w (place i + 6) 0 % 2 ^ sounds_per_try e r.later
      → r.profiles ≡ profiles_of e r.later r.phase (get_or w (place i + 7) 0)
      → r.groups ≡ groups_of e r.profiles (get_or w (place i + 9) 0)
      → r.sums ≡ sums_of r.profiles (groups_in e r.groups) (part s (group_count * i) group_count)
      → r.spread ≡ spread_of (part x (spread_width * i) spread_width)
      → r ≡ get_or (records_of w s x) i d
  unfolding is_held record_of
  read_is e r ee eh ec er el ep es en eg em ex =
      let v = part w (place i) width in
      let own = part s (group_count * i) group_count in
      let b = record_at w s x i d h in
      let word : (j : ℕ) → j < width → get_or w (place i + j) 0 ≡ get_or v j 0 = λ j k. sym (word_at w (place i) width j k) in
      let made = record_of e v own (part x (spread_width * i) spread_width) in
      let held : r.held ≡ made.held = eh ∙ ap is_held b in
      let car : r.car.0 ≡ made.car.0 = ap (λ (c : CarAddress). c.0) ec ∙ ap (λ (q : Record). q.car.0) b in
      let run : r.run.0 ≡ made.run.0 = er ∙ word 2 (omega arith) in
      let later : r.later ≡ made.later = el ∙ ap (later_of e) (word 8 (omega arith)) in
      let phase : r.phase ≡ made.phase = ep ∙ rw (later, word 3 (omega arith), word 4 (omega arith), word 5 (omega arith)) in
      let heard : r.heard ≡ made.heard = es ∙ ap₂ (λ (n : ℕ) (l : Bool). n % 2 ^ sounds_per_try e l) (word 6 (omega arith)) later in
      let profiles : r.profiles ≡ made.profiles = en ∙ ap₂ (λ (l : Bool) (p : Phase). profiles_of e l p (get_or w (place i + 7) 0)) later phase ∙ ap (profiles_of e made.later made.phase) (word 7 (omega arith)) in
      let groups : r.groups ≡ made.groups = eg ∙ ap₂ (groups_of e) profiles (word 9 (omega arith)) in
      let sums : r.sums ≡ made.sums = em ∙ ap₂ (λ (n g : ℕ). sums_of n (groups_in e g) own) profiles groups in
      let same : r ≡ made =
      λ j. record { car = record { 0 = car j }; run = record { 0 = run j }; held = held j; phase = phase j; heard = heard j; profiles = profiles j; sums = sums j; spread = ex j; later = later j; groups = groups j } in
      same ∙ ap (λ (q : Edition). record_of q v own (part x (spread_width * i) spread_width)) ee ∙ sym b
