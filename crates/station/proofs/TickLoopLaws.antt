-- The loop of a tick over the records: its invariant, and its steps.
use Prim.Native.Nat.{ℕ, ◌+◌, ◌*◌, ◌-◌, ◌≤◌, ◌<◌}
use mathlib.Core.Path.{◌≡◌, refl, sym, ap, ◌∙◌, subst}
use mathlib.Core.Bool.{Bool, true, false, cond}
use mathlib.Core.List.{List, [], ◌∷◌}
use native.Mathlib.Omega.{arith}
use lib.ListN.{length, take, drop, get_or, set}
use borrow.Rule.Slice.PartMut.{put_mid}
use Rattle.rules.specs.declared.Configuration.{Configuration}
use Rattle.rules.specs.declared.Record.{Record}
use Rattle.rules.specs.Replies.{report_of, is_report, frame_to}
use Rattle.rules.specs.Ticks.{tick_record, tick_frames, frames_of_all}
use Rattle.rules.specs.Invariant.{GoodRecord}
use Rattle.ends.proofs.ListLaws.{all_at}
use Rattle.records.specs.declared.changes.Kept.{Kept}
use Rattle.records.specs.Timers.{after_tick}
use Rattle.records.proofs.FillLaws.{Filled, fill_none, fill_next, fill_all}
use Rattle.records.proofs.TimerLaws.{reporting, reporting_some, sending_held}
use Rattle.station.specs.Reports.{report_size, Sendable, Writes, Ready, Ticks}
use Rattle.station.proofs.SentLoopLaws.{Sending, send_none, send_all, send_quiet, one_of, send_room, part_room, send_one}
use Rattle.station.proofs.BothLaws.{reports_few}

-- after i records of l: those stored, and the reports of k of them, of m octets in all, written over the output at entry
pub record Ticking (o : Configuration) (b : Bool) (e : ℕ) (l : List Record) (entry out : List ℕ) (rs : List Record) (k m i : ℕ) : Type 0 where
  pub records : Filled (tick_record b e) l rs i
  pub reports : Sending (tick_frames is_report o b e) report_size l entry out k m i

-- before the first record
pub tick_none : (o : Configuration) (b : Bool) (e : ℕ) (l : List Record) (out : List ℕ) → Ticking o b e l out out l 0 0 0
tick_none o b e l out = record { records = fill_none (tick_record b e) l l refl; reports = send_none (tick_frames is_report o b e) report_size l out }

-- past the last one
pub tick_all : (o : Configuration) (b : Bool) (e : ℕ) (l : List Record) (entry out : List ℕ) (rs : List Record) (k m i : ℕ)
    → Ticking o b e l entry out rs k m i → length l ≤ i → Ticks o b e l entry out (record { records = rs; reports = k; octets = m })
tick_all o b e l entry out rs k m i w h = record {
  records = fill_all (tick_record b e) l rs i w.records h;
  sent = send_all (tick_frames is_report o b e) report_size l entry out k m i w.reports h;
  few = w.reports.few;
}

-- a turn: the record at i
module _ (o : Configuration) (b : Bool) (e : ℕ) (l : List Record) (entry out : List ℕ) (rs : List Record) (k m i : ℕ) (w : Ticking o b e l entry out rs k m i) (h : i < length l) (ready : Ready o l entry)
    (z : Record) (t : Kept) (et : t ≡ after_tick b e (get_or l i z)) where
  -- the record is a good one
  good : GoodRecord o.edition (get_or l i z)
  good = all_at (GoodRecord o.edition) l i z ready.good h

  -- what it comes to is stored
  stored : Filled (tick_record b e) l (set rs i t.kept) (i + 1)
  unfolding after_tick
  stored = subst (λ (x : Kept). Filled (tick_record b e) l (set rs i x.kept) (i + 1)) (sym et) (fill_next (tick_record b e) l rs i z w.records h)

  -- what it reports
  reported : (g : Bool) → t.reports ≡ g → tick_frames is_report o b e (get_or l i z) ≡ cond g (frame_to o (get_or l i z).car (report_of (get_or l i z)) ∷ []) []
  reported g q =
      reporting o b e (get_or l i z)
      ∙ ap (λ (x : Bool). cond x (frame_to o (get_or l i z).car (report_of (get_or l i z)) ∷ []) []) (ap (λ (x : Kept). x.reports) (sym et) ∙ q)

  -- a record that does not report
  pub tick_waits : t.reports ≡ false → Ticking o b e l entry out (set rs i t.kept) k m (i + 1)
  tick_waits q = record { records = stored; reports = send_quiet (tick_frames is_report o b e) report_size l entry out k m i w.reports z h (reported false q) }

  -- a record that reports
  module _ (q : t.reports ≡ true) where
    -- can be sent to
    pub tick_sendable : Sendable o (get_or l i z)
    unfolding after_tick
    tick_sendable =
        let r : (after_tick b e (get_or l i z)).reports ≡ true = ap (λ (x : Kept). x.reports) (sym et) ∙ q in
        record { address = ready.address; car = good.car (sending_held is_report b e (get_or l i z) r); good = good }

    -- some profile is counted
    pub tick_some : 0 < (get_or l i z).profiles
    unfolding after_tick
    tick_some = reporting_some o.edition b e (get_or l i z) good (ap (λ (x : Kept). x.reports) (sym et) ∙ q)

    room : report_size * length (frames_of_all is_report o b e l) ≤ length entry
    room = omega (arith, reports_few o b e l, ready.room)

    -- it is one of as many reports as have room
    pub tick_count : k + 1 ≤ length out
    tick_count = omega (arith, one_of (tick_frames is_report o b e) report_size l entry out k m i w.reports z h _ (reported true q) room, room, w.reports.long)

    -- and has room
    pub tick_room : m + report_size ≤ length out
    tick_room = send_room (tick_frames is_report o b e) report_size l entry out k m i w.reports z h _ (reported true q) room

    pub tick_part : report_size ≤ length (take (length out - m) (drop m out))
    tick_part = part_room (tick_frames is_report o b e) report_size l entry out k m i w.reports z h _ (reported true q) room

    -- its report was written
    pub tick_reports : (ys : List ℕ) (x : ℕ)
        → Writes x (frame_to o (get_or l i z).car (report_of (get_or l i z))) (take (length out - m) (drop m out)) ys × (x ≤ report_size)
        → length ys ≡ length (take (length out - m) (drop m out))
        → Ticking o b e l entry (put_mid m (length out - m) out ys) (set rs i t.kept) (k + 1) (m + x) (i + 1)
    tick_reports ys x wrote len = record { records = stored; reports = send_one (tick_frames is_report o b e) report_size l entry out k m i w.reports z h _ (reported true q) room ys x wrote.0 wrote.1 len }
