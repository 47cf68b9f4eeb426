-- The steps of the loops over all records, out of the words, sums and spread and into them.
use Prim.Native.Nat.{ℕ, ◌+◌, ◌≤◌, ◌<◌}
use mathlib.Core.Path.{◌≡◌, refl, sym, ap, subst, ◌∙◌}
use mathlib.Core.List.{List}
use native.Mathlib.Omega.{arith}
use lib.ListN.{length, get_or, take, set, length-set}
use Rattle.messages.specs.declared.Edition.{Edition}
use Rattle.rules.specs.declared.Record.{Record}
use Rattle.rules.specs.declared.Station.{Station}
use Rattle.rules.specs.Constants.{record_count}
use Rattle.rules.specs.Invariant.{GoodRecord}
use Rattle.ends.specs.Lists.{All}
use Rattle.words.specs.Words.{edition_in, records_of, station_of, with_records}
use Rattle.ends.proofs.ListLaws.{all_at}
use Rattle.ends.proofs.WordLaws.{take_more, take_whole}
use Rattle.words.proofs.RecordWords.{length_records}

-- ---- out

-- the records before i are read
pub record ReadSo (w s x : List ℕ) (rs : List Record) (i : ℕ) : Type 0 where
  pub size : length rs ≡ record_count
  pub done : take i rs ≡ take i (records_of w s x)

module _ (w s x : List ℕ) (rs : List Record) (i : ℕ) (q : ReadSo w s x rs i) where
  pub read_next : (r z : Record) → i < record_count → r ≡ get_or (records_of w s x) i z → ReadSo w s x (set rs i r) (i + 1)
  read_next r z h e =
      let l : i < length (records_of w s x) = rw (length_records w s x) h in
      record {
        size = length-set rs i r ∙ q.size;
        done = ap (λ (y : Record). take (i + 1) (set rs i y)) e ∙ take_more rs (records_of w s x) i z q.done (omega (arith, q.size)) l;
      }

  pub read_end : record_count ≤ i → rs ≡ records_of w s x
  read_end h = take_whole rs (records_of w s x) i q.done (omega (arith, q.size)) (omega (arith, length_records w s x))

-- ---- in

-- the records before i are stored, and nothing else has changed
pub record StoredSo (rs : List Record) (w₀ s₀ x₀ w s x : List ℕ) (i : ℕ) : Type 0 where
  pub words : length w ≡ length w₀
  pub sums : length s ≡ length s₀
  pub spread : length x ≡ length x₀
  pub station : station_of w s x ≡ with_records (station_of w₀ s₀ x₀) (records_of w s x)
  pub done : take i (records_of w s x) ≡ take i rs

pub stored_start : (rs : List Record) (w s x : List ℕ) → StoredSo rs w s x w s x 0
unfolding station_of
stored_start rs w s x = record { words = refl; sums = refl; spread = refl; station = refl; done = refl }

module _ (rs : List Record) (w₀ s₀ x₀ w s x : List ℕ) (i : ℕ) (q : StoredSo rs w₀ s₀ x₀ w s x i) where
  -- the records are still good in the words' edition
  pub stored_good : (z : Record) → All (GoodRecord (edition_in w₀)) rs → i < length rs → GoodRecord (edition_in w) (get_or rs i z)
  unfolding station_of
  stored_good z g h =
      let same : edition_in w ≡ edition_in w₀ = ap (λ (u : Station). u.config.edition) q.station in
      subst (λ (e : Edition). GoodRecord e (get_or rs i z)) (sym same) (all_at (GoodRecord (edition_in w₀)) rs i z g h)

  pub stored_next : (v t y : List ℕ) (z : Record) → i < record_count → i < length rs → length v ≡ length w → length t ≡ length s → length y ≡ length x
      → station_of v t y ≡ with_records (station_of w s x) (set (records_of w s x) i (get_or rs i z)) → StoredSo rs w₀ s₀ x₀ v t y (i + 1)
  unfolding station_of
  stored_next v t y z h k lv lt ly e =
      let new : records_of v t y ≡ set (records_of w s x) i (get_or rs i z) = ap (λ (u : Station). u.records) e in
      let l : i < length (records_of w s x) = rw (length_records w s x) h in
      record {
        words = lv ∙ q.words;
        sums = lt ∙ q.sums;
        spread = ly ∙ q.spread;
        station = e ∙ ap (λ (u : Station). with_records u (set (records_of w s x) i (get_or rs i z))) q.station ∙ ap (with_records (station_of w₀ s₀ x₀)) (sym new);
        done = ap (take (i + 1)) new ∙ take_more (records_of w s x) rs i z q.done l k;
      }

  pub stored_end : record_count ≤ i → length rs ≡ record_count → station_of w s x ≡ with_records (station_of w₀ s₀ x₀) rs
  stored_end h k = q.station ∙ ap (with_records (station_of w₀ s₀ x₀)) (take_whole (records_of w s x) rs i q.done (omega (arith, length_records w s x)) (omega arith))
