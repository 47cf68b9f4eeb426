-- The records ticked so far, and their reports.
use Prim.Native.Nat.{◌<◌}
use native.Mathlib.Omega.{arith}
use borrow.Author.Rules.{rules}
use lib.ListN.{length}
use Rattle.rules.proofs.IndexLaws.{passed}
use Rattle.station.proofs.TickLoopLaws.{tick_none, tick_all, tick_count, tick_room, tick_part, tick_sendable, tick_some, tick_waits, tick_reports}
use Rattle.station.proofs.all_records.tick_all.Goals as goal
use Rattle.station.proofs.all_records.tick_all.Goals.{then-t, else-t}

pub loop-i-init : goal.loop-i-init
loop-i-init c = tick_none _ _ _ _ _

pub bounds-after-i : goal.bounds-after-i
bounds-after-i c =
    let inside : c.loop-i.i < length c.args.records = search rules in
    omega (arith, inside, c.loop-i.invariant.records.long)

pub slice_bounds-write_report-count : goal.slice_bounds-write_report-count
slice_bounds-write_report-count c =
    let inside : c.loop-i.i < length c.args.records = search rules in
    omega (arith, tick_room _ _ _ _ _ _ _ _ _ _ c.loop-i.invariant inside c.requires _ _ c.tick_record-t.ensures c.if-t.true)

pub slice_bounds-write_report-start : goal.slice_bounds-write_report-start
slice_bounds-write_report-start c =
    let inside : c.loop-i.i < length c.args.records = search rules in
    omega (arith, tick_room _ _ _ _ _ _ _ _ _ _ c.loop-i.invariant inside c.requires _ _ c.tick_record-t.ensures c.if-t.true)

pub write_report-report-requires : goal.write_report-report-requires
write_report-report-requires c =
    let inside : c.loop-i.i < length c.args.records = search rules in
    let w = c.loop-i.invariant in
    let h = inside in (
      tick_sendable _ _ _ _ _ _ _ _ _ _ w h c.requires _ _ c.tick_record-t.ensures c.if-t.true,
      (tick_some _ _ _ _ _ _ _ _ _ _ w h c.requires _ _ c.tick_record-t.ensures c.if-t.true, tick_part _ _ _ _ _ _ _ _ _ _ w h c.requires _ _ c.tick_record-t.ensures c.if-t.true),
    )

pub overflow_add-octets : goal.overflow_add-octets
overflow_add-octets c =
    let inside : c.loop-i.i < length c.args.records = search rules in
    omega (arith, tick_room _ _ _ _ _ _ _ _ _ _ c.loop-i.invariant inside c.requires _ _ c.tick_record-t.ensures c.if-t.true, c.write_report-report.ensures.1)

pub overflow_add-sent : goal.overflow_add-sent
overflow_add-sent c =
    let inside : c.loop-i.i < length c.args.records = search rules in
    omega (arith, tick_count _ _ _ _ _ _ _ _ _ _ c.loop-i.invariant inside c.requires _ _ c.tick_record-t.ensures c.if-t.true)

pub loop-i-preserved : goal.loop-i-preserved
loop-i-preserved c =
    let inside : c.loop-i.i < length c.args.records = search rules in
    let w = c.loop-i.invariant in
    let h = inside in
    elim c.if-t.branch [
      | then-t b ↦ rw (b.out-is, b.sent-is, b.octets-is) (tick_reports _ _ _ _ _ _ _ _ _ _ w h c.requires _ _ c.tick_record-t.ensures b.if-t.true b.write_report-report.new.out b.write_report-report.result b.write_report-report.ensures b.write_report-report.auto.out)
      | else-t b ↦ rw (b.out-is, b.sent-is, b.octets-is) (tick_waits _ _ _ _ _ _ _ _ _ _ w h c.requires _ _ c.tick_record-t.ensures b.if-t.false)
    ]

pub shape_of-out : goal.shape_of-out
shape_of-out c = c.loop-i.invariant.reports.long

pub returns : goal.returns
returns c = tick_all _ _ _ _ _ _ _ _ _ _ c.loop-i.invariant (search (rules, passed))
