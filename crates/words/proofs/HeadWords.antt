-- The head's words and the whole station: a station's own words are that station.
use Prim.Native.Nat.{ℕ, ◌+◌, ◌*◌, ◌^◌, ◌≤◌, ◌<◌, ◌%◌}
use mathlib.Core.Path.{◌≡◌, refl, sym, ap, ap₂, subst, ◌∙◌}
use mathlib.Core.Bool.{true, ◌&&◌}
use mathlib.Core.List.{List, zip_with}
use native.Mathlib.Omega.{arith}
use borrow.Author.Tests.{lt-ltb, ne_eqb}
use lib.Dec.{eqb}
use lib.ListN.{length, get_or, drop, set}
use lib.Seq.{sets, set_out, get_or-drop}
use Rattle.messages.specs.Table.{group_count}
use Rattle.messages.specs.declared.Edition.{Edition}
use Rattle.messages.specs.declared.Edition.TheVariants.{Iso, Sae}
use Rattle.rules.specs.declared.Configuration.{Configuration}
use Rattle.rules.specs.declared.Pilot.{Pilot}
use Rattle.rules.specs.declared.Pilot.TheVariants.{A, B, C, D, E, F}
use Rattle.rules.specs.declared.Record.{Record}
use Rattle.rules.specs.declared.State.{State}
use Rattle.rules.specs.declared.State.TheVariants.{Unmatched, Matching, Joining, Matched}
use Rattle.rules.specs.declared.Station.{Station}
use Rattle.rules.specs.Constants.{record_count}
use Rattle.rules.specs.Invariant.{GoodRecord, GoodConfiguration, Invariant}
use Rattle.ends.specs.Lists.{All}
use Rattle.rules.specs.Rules.{may_reply, car_in}
use Rattle.words.specs.Words.{head_count, width, word_count, sum_count, spread_width, spread_count, record_of, sum_runs, spread_runs, given, records_of, config_of, edition_in, state_by, state_of, station_of, with_records, in_state}
use Rattle.rules.specs.Numbers.{pilot_of, edition_of, state_number}
use Rattle.ends.specs.Words.{flag_of, runs}
use Rattle.words.specs.Written.{state_time, state_run, state_place, state_words, TimesFit, Fits, pilot_number, edition_number, words_of, spread_octets, head_of}
use Rattle.ends.proofs.RunLaws.{drop_behind, get_d_before, get_d_front, get_d_stored}
use Rattle.words.proofs.CopyLaws.{Sized, length_spread}
use Rattle.words.proofs.RecordWords.{place, length_records, record_put, flag_back, record_back}
use Rattle.ends.proofs.WordLaws.{flag_and}

-- ---- what the head says

-- two lists with the same head
abbrev pub SameHead : List ℕ → List ℕ → Type 0
SameHead v w = (j : ℕ) → j < head_count → get_or v j 0 ≡ get_or w j 0

-- where what stands behind the state begins
abbrev state_end : ℕ
state_end = state_place + length (state_words Unmatched A 0)

-- two lists whose heads are the same before the state and behind it have the same configuration
config_kept : (v w : List ℕ) → ((j : ℕ) → j < state_place → get_or v j 0 ≡ get_or w j 0) → ((j : ℕ) → state_end + j < head_count → get_or v (state_end + j) 0 ≡ get_or w (state_end + j) 0) → config_of v ≡ config_of w
unfolding config_of
config_kept v w e f = rw (e 0 (omega arith), e 1 (omega arith), e 2 (omega arith), e 3 (omega arith), e 4 (omega arith), e 5 (omega arith), f 0 (omega arith), f 1 (omega arith), f 2 (omega arith))

module _ (v w : List ℕ) (e : SameHead v w) where
  pub config_same : config_of v ≡ config_of w
  config_same = config_kept v w (λ j h. e j (omega arith)) (λ j h. e (state_end + j) h)

  state_same : state_of v ≡ state_of w
  state_same = rw (e 6 (omega arith), e 7 (omega arith), e 8 (omega arith), e 9 (omega arith))

  -- they mean the same station but for the records
  pub station_same : (s x t y : List ℕ) (rs : List Record) → records_of v s x ≡ rs → station_of v s x ≡ with_records (station_of w t y) rs
  unfolding station_of
  station_same s x t y rs q =
      let p : pilot_of (get_or v 10 0) ≡ pilot_of (get_or w 10 0) = ap pilot_of (e 10 (omega arith)) in
      let k : get_or v 11 0 % 2 ^ 32 ≡ get_or w 11 0 % 2 ^ 32 = ap (λ (n : ℕ). n % 2 ^ 32) (e 11 (omega arith)) in
      λ i. record { config = config_same i; state = state_same i; pilot = p i; clock = k i; records = q i }

-- ---- one record stored

module _ (w s x : List ℕ) (i : ℕ) (r : Record) (g : GoodRecord (edition_in w) r) where
  -- inside
  pub stored : i < record_count → length w ≡ word_count → length s ≡ sum_count → length x ≡ spread_count → length r.sums ≡ group_count → Sized r.spread
      → (v t y : List ℕ) → v ≡ sets w (place i) (words_of r) → t ≡ sets s (group_count * i) r.sums → y ≡ sets x (spread_width * i) (spread_octets r.spread)
      → station_of v t y ≡ with_records (station_of w s x) (set (records_of w s x) i r)
  unfolding words_of
  stored h lw ls lx k z v t y ev et ey =
      station_same v w (λ j l. ap (λ (u : List ℕ). get_or u j 0) ev ∙ get_d_before (words_of r) w (place i) j 0 (omega arith)) t y s x (set (records_of w s x) i r)
      (ap₂ (λ (a b : List ℕ). records_of a b y) ev et
      ∙ ap (records_of (sets w (place i) (words_of r)) (sets s (group_count * i) r.sums)) ey
      ∙ record_put w s x (words_of r) r.sums (spread_octets r.spread) i h lw ls lx refl k (length_spread r.spread z)
      ∙ ap (set (records_of w s x) i) (record_back (edition_in w) r g z))

  -- past the last place
  pub not_stored : record_count ≤ i → station_of w s x ≡ with_records (station_of w s x) (set (records_of w s x) i r)
  unfolding station_of
  not_stored h = ap (with_records (station_of w s x)) (sym (set_out (records_of w s x) i r (rw (length_records w s x) h)))

-- ---- a station's own words

good_back : (o : Configuration) → GoodConfiguration o → o.good ≡ true → may_reply o.address o.modem o.nid ≡ true
good_back o g h = rw (g.address h, g.modem h, ne_eqb o.address.0 o.modem.0 (g.different h), lt-ltb o.nid.0 (2 ^ 54) (g.nid h))

state_back : (st : State) → state_time st < 2 ^ 32 → state_by (state_number st) (state_time st) (car_in st).0 (state_run st) ≡ st
unfolding state_by
state_back Unmatched h = refl
state_back (Matching t) h = ap Matching (omega arith)
state_back (Joining t c run) h = ap (λ (n : ℕ). Joining n c run) (omega arith)
state_back (Matched c) h = refl

pilot_back : (p : Pilot) → pilot_of (pilot_number p) ≡ p
unfolding pilot_of
pilot_back A = refl
pilot_back B = refl
pilot_back C = refl
pilot_back D = refl
pilot_back E = refl
pilot_back F = refl

edition_back : (e : Edition) → edition_of (edition_number e) ≡ e
unfolding edition_of
edition_back Iso = refl
edition_back Sae = refl

-- the station of its head and its records
pub station_back : (z : Station) (s x : List ℕ) → GoodConfiguration z.config → Fits z.config z.state z.clock
    → with_records (station_of (head_of z.config z.state z.pilot z.clock) s x) z.records ≡ z
unfolding station_of config_of head_of
station_back z s x g fit =
    let o = z.config in
    let h = fit.0.0 in
    let k = fit.0.1 in
    let l = fit.1 in
    let b : eqb (flag_of o.good) 1 && may_reply o.address o.modem o.nid ≡ o.good = flag_and o.good (may_reply o.address o.modem o.nid) (good_back o g) in
    let f : eqb (flag_of o.exempt) 1 ≡ o.exempt = flag_back o.exempt in
    let e : z.clock % 2 ^ 32 ≡ z.clock = omega arith in
    let m : o.carriers % 2 ^ 32 ≡ o.carriers = omega arith in
    λ i. record {
      config = record { good = b i; address = o.address; modem = o.modem; nid = o.nid; nmk = o.nmk; exempt = f i; edition = edition_back o.edition i; carriers = m i };
      state = state_back z.state h i;
      pilot = pilot_back z.pilot i;
      clock = e i;
      records = z.records;
    }

-- with that head stored
module _ (z : Station) (w v : List ℕ) (l : head_count ≤ length w) (e : v ≡ sets w 0 (head_of z.config z.state z.pilot z.clock)) where
  same_head : SameHead v (head_of z.config z.state z.pilot z.clock)
  unfolding head_of
  same_head j b = ap (λ (u : List ℕ). get_or u j 0) e ∙ get_d_front (head_of z.config z.state z.pilot z.clock) w j 0 l b

  -- its records are good in the words' edition
  pub records_good : Invariant z → All (GoodRecord (edition_in v)) z.records
  unfolding config_of head_of
  records_good k =
      let same : edition_in v ≡ z.config.edition = ap edition_of (same_head 13 (omega arith)) ∙ edition_back z.config.edition in
      subst (λ (x : Edition). All (GoodRecord x) z.records) (sym same) k.records

  -- and then its records
  pub packed : (s x : List ℕ) (y : Station) → GoodConfiguration z.config → Fits z.config z.state z.clock → y ≡ with_records (station_of v s x) z.records → y ≡ z
  packed s x y g k f =
      let head = head_of z.config z.state z.pilot z.clock in
      f
      ∙ ap (λ (u : Station). with_records u z.records) (station_same v head same_head s x s x (records_of v s x) refl)
      ∙ station_back z s x g k

-- ---- another state, with the pilot state and the clock

module _ (w v : List ℕ) (st : State) (p : Pilot) (n : ℕ) (l : head_count ≤ length w) (e : v ≡ sets w state_place (state_words st p n)) where
  -- a word of theirs
  state_word : (j : ℕ) → j < length (state_words st p n) → get_or v (state_place + j) 0 ≡ get_or (state_words st p n) j 0
  state_word j h = ap (λ (u : List ℕ). get_or u (state_place + j) 0) e ∙ get_d_stored (state_words st p n) w state_place j 0 (omega arith) h

  -- what stands behind them is as it was
  behind : (k : ℕ) → state_end ≤ k → drop k v ≡ drop k w
  behind k h = ap (drop k) e ∙ drop_behind (state_words st p n) w state_place k h

  -- and so is the configuration
  config_put : config_of v ≡ config_of w
  config_put =
      config_kept v w (λ j h. ap (λ (u : List ℕ). get_or u j 0) e ∙ get_d_before (state_words st p n) w state_place j 0 h)
      (λ j h. sym (get_or-drop state_end v j 0) ∙ ap (λ (u : List ℕ). get_or u j 0) (behind state_end (omega arith)) ∙ get_or-drop state_end w j 0)

  pub state_put : (s x : List ℕ) → TimesFit st n → station_of v s x ≡ in_state st p n (station_of w s x)
  unfolding station_of records_of
  state_put s x fit =
      let h = fit.0 in
      let k = fit.1 in
      let d : drop head_count v ≡ drop head_count w = behind head_count (omega arith) in
      let q : state_of v ≡ st = rw (state_word 0 (omega arith), state_word 1 (omega arith), state_word 2 (omega arith), state_word 3 (omega arith)) (state_back st h) in
      let m : pilot_of (get_or v 10 0) ≡ p = ap pilot_of (state_word 4 (omega arith)) ∙ pilot_back p in
      let c : get_or v 11 0 % 2 ^ 32 ≡ n = omega (arith, state_word 5 (omega arith)) in
      λ i. record {
        config = config_put i;
        state = q i;
        pilot = m i;
        clock = c i;
        records = zip_with given (zip_with (record_of (config_put i).edition) (runs record_count width (d i)) (sum_runs s)) (spread_runs x);
      }
