-- The steps of the loops over all reports, out of the words and into them.
use Prim.Native.Nat.{ℕ, ◌+◌, ◌^◌, ◌≤◌, ◌<◌}
use mathlib.Core.Path.{◌≡◌, refl, sym, ap, ◌∙◌}
use mathlib.Core.List.{List, []}
use native.Mathlib.Omega.{arith}
use lib.ListN.{length, get_or, take, set, length-set}
use lib.Seq.{sets, length-sets}
use Rattle.octets.specs.Octets.{part}
use Rattle.ends.proofs.RunLaws.{get_d_before}
use Rattle.car_rules.specs.declared.Report.{Report}
use Rattle.car_rules.specs.Constants.{station_count}
use Rattle.car_words.specs.Words.{width, word_count, report_of, reports_in}
use Rattle.car_words.specs.Written.{SameHead, words_of, ReportsStored}
use Rattle.ends.proofs.WordLaws.{take_more, take_whole}
use Rattle.car_words.proofs.ReportWords.{place, length_reports, report_at, report_put, report_back}

-- ---- out

-- the reports before i are read
pub record ReadSo (w : List ℕ) (rs : List Report) (i : ℕ) : Type 0 where
  pub size : length rs ≡ station_count
  pub done : take i rs ≡ take i (reports_in w)

module _ (w : List ℕ) (rs : List Report) (i : ℕ) (q : ReadSo w rs i) where
  pub read_next : (r : Report) → i < station_count → r ≡ report_of (part w (place i) width) → ReadSo w (set rs i r) (i + 1)
  read_next r h e =
      let l : i < length (reports_in w) = rw (length_reports w) h in
      record {
        size = length-set rs i r ∙ q.size;
        done = ap (λ (x : Report). take (i + 1) (set rs i x)) (e ∙ sym (report_at w i h)) ∙ take_more rs (reports_in w) i (report_of []) q.done (omega (arith, q.size)) l;
      }

  pub read_end : station_count ≤ i → rs ≡ reports_in w
  read_end h = take_whole rs (reports_in w) i q.done (omega (arith, q.size)) (omega (arith, length_reports w))

-- ---- in

-- the reports before i are stored, and the head is the same
pub record StoredSo (rs : List Report) (w₀ w : List ℕ) (i : ℕ) : Type 0 where
  pub size : length w ≡ length w₀
  pub head : SameHead w w₀
  pub done : take i (reports_in w) ≡ take i rs

pub stored_start : (rs : List Report) (w : List ℕ) → StoredSo rs w w 0
stored_start rs w = record { size = refl; head = λ j h. refl; done = refl }

module _ (rs : List Report) (w₀ w : List ℕ) (i : ℕ) (q : StoredSo rs w₀ w i) where
  pub stored_next : (z : Report) (own v : List ℕ) → i < station_count → i < length rs → length w ≡ word_count → own ≡ words_of (get_or rs i z) → (get_or rs i z).total < 2 ^ 16 → v ≡ sets w (place i) own
      → StoredSo rs w₀ v (i + 1)
  stored_next z own v h k lw eo b e =
      let l : i < length (reports_in w) = rw (length_reports w) h in
      let new : reports_in v ≡ set (reports_in w) i (get_or rs i z) =
      ap reports_in e ∙ report_put w own i h lw (ap length eo) ∙ ap (set (reports_in w) i) (ap report_of eo ∙ report_back (get_or rs i z) b) in
      record {
        size = ap length e ∙ length-sets w (place i) own ∙ q.size;
        head = λ j a. ap (λ (u : List ℕ). get_or u j 0) e ∙ get_d_before own w (place i) j 0 (omega arith) ∙ q.head j a;
        done = ap (take (i + 1)) new ∙ take_more (reports_in w) rs i z q.done l k;
      }

  pub stored_end : station_count ≤ i → length rs ≡ station_count → ReportsStored rs w₀ w
  stored_end h k = record { head = q.head; reports = take_whole (reports_in w) rs i q.done (omega (arith, length_reports w)) (omega arith) }
