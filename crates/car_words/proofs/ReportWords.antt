-- A report in its words: the one at a place, one stored at a place, and a report's own words.
use Prim.Native.Nat.{ℕ, ◌+◌, ◌*◌, ◌^◌, ◌<◌, ◌%◌}
use mathlib.Core.Path.{◌≡◌, sym, ap, ◌∙◌}
use mathlib.Core.List.{List, [], map}
use native.Mathlib.Omega.{arith}
use native.Mathlib.Nat.{add-zero}
use lib.ListN.{length, get_or, take, drop, set, length-drop, length-map, get_or-map}
use lib.Seq.{sets, drop-drop}
use Rattle.octets.specs.Octets.{part}
use Rattle.ends.specs.Words.{runs}
use Rattle.ends.proofs.RunLaws.{drop_sets, length_runs, runs_at, runs_sets, map_set}
use Rattle.car_rules.specs.declared.Report.{Report}
use Rattle.car_rules.specs.Constants.{station_count}
use Rattle.car_words.specs.Words.{head_count, width, word_count, report_of, reports_in}
use Rattle.car_words.specs.Written.{words_of}
use Rattle.ends.proofs.WordLaws.{word_at}

-- where the words of the report at a place begin
abbrev pub place : ℕ → ℕ
place i = head_count + width * i

-- ---- by place

module _ (w : List ℕ) where
  pub length_reports : length (reports_in w) ≡ station_count
  unfolding reports_in
  length_reports = length-map (runs station_count width (drop head_count w)) report_of ∙ length_runs station_count width (drop head_count w)

  -- the report at a place is that of its words
  pub report_at : (i : ℕ) → i < station_count → get_or (reports_in w) i (report_of []) ≡ report_of (part w (place i) width)
  unfolding reports_in
  report_at i h =
      get_or-map report_of (runs station_count width (drop head_count w)) i []
      ∙ ap report_of (runs_at station_count width i (drop head_count w) [] h ∙ ap (take width) (drop-drop (width * i) head_count w))

  -- the words of a report put in its place are that report put in its place
  pub report_put : (v : List ℕ) (i : ℕ) → i < station_count → length w ≡ word_count → length v ≡ width → reports_in (sets w (place i) v) ≡ set (reports_in w) i (report_of v)
  unfolding reports_in
  report_put v i h lw lv =
      ap (map report_of)
      (ap (runs station_count width) (drop_sets v w head_count (width * i)) ∙ runs_sets station_count width i (drop head_count w) v lv (rw length-drop (omega arith)))
      ∙ map_set report_of (runs station_count width (drop head_count w)) i v

  -- a report read field by field
  pub read_is : (at : ℕ) (x : Report) → x.station.0 ≡ get_or w at 0 → x.total ≡ get_or w (at + 1) 0 % 2 ^ 16 → x ≡ report_of (part w at width)
  unfolding report_of
  read_is at x es et =
      let station : x.station.0 ≡ get_or (part w at width) 0 0 = es ∙ ap (λ (n : ℕ). get_or w n 0) (sym (add-zero at)) ∙ sym (word_at w at width 0 (omega arith)) in
      let total : x.total ≡ get_or (part w at width) 1 0 % 2 ^ 16 = et ∙ ap (λ (n : ℕ). n % 2 ^ 16) (sym (word_at w at width 1 (omega arith))) in
      λ j. record { station = record { 0 = station j }; total = total j }

-- ---- a report's own words, and back

pub report_back : (r : Report) → r.total < 2 ^ 16 → report_of (words_of r) ≡ r
unfolding report_of
report_back r h =
    let e : r.total % 2 ^ 16 ≡ r.total = omega arith in
    λ i. record { station = r.station; total = e i }
