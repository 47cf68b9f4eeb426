-- By what the message comes to.
use Rattle.messages.specs.Reading.{yes}
use Rattle.messages.specs.declared.Refusal.{Refusal}
use Rattle.records.specs.Requests.{kept_of}
use Rattle.records.specs.declared.changes.Kept.{Kept}
use Rattle.rules.specs.Invariant.{GoodRecord}
use Rattle.rules.specs.Frames.{keeps}
use Rattle.rules.specs.Replies.{report_of}
use Rattle.rules.specs.Stations.{done}
use Rattle.ends.specs.declared.Indication.TheVariants.{Nothing}
use Rattle.rules.specs.declared.Record.{Record}
use Rattle.std.specs.Prelude.{Result}
use Rattle.station.specs.Frames.{Counted, KeepsGood, settled}
use Rattle.words.specs.Words.{edition_in, station_of}
use Rattle.lahzavar.proofs.FrameLaws.{comes_as, comes_refused, comes_silent}
use lib.ListN.{set}
use mathlib.Core.Bool.{Bool, cond}
use mathlib.Core.List.{[], ◌∷◌}
use mathlib.Core.Path.{sym, ap, ◌∙◌, subst}
use Rattle.lahzavar.proofs.frames.settle.Goals as goal

pub put_record-requires : goal.put_record-requires
put_record-requires c =
    subst (GoodRecord _) (sym c.owned.ensures) (subst (λ (x : Result Kept Refusal). KeepsGood (edition_in c.args.words.now) c.args.car (kept_of x)) c.in-Ok.is c.requires.1).0

pub report-requires : goal.report-requires
report-requires c =
    let a = c.args in
    let left = c.in-Ok.left in
    let good = subst (λ (x : Result Kept Refusal). KeepsGood (edition_in a.words.now) a.car (kept_of x)) c.in-Ok.is c.requires.1 in
    (c.requires.0, (good.0, subst (λ (b : Bool). Counted (cond b (report_of left.kept ∷ []) []) left.kept.profiles) c.if-left.true good.1))

pub returns-in-Err : goal.returns-in-Err
returns-in-Err c =
    let a = c.args in
    comes_refused _ c.in-Err.refusal a.words.now a.sums.now a.spread.now a.out.now c.refused.result (ap (λ (x : Result Kept Refusal). settled (station_of a.words.now a.sums.now a.spread.now) a.i a.car (kept_of x)) c.in-Err.is) c.refused.ensures

pub returns-then-left : goal.returns-then-left
returns-then-left c =
    let a = c.args in
    let s = station_of a.words.now a.sums.now a.spread.now in
    let left = c.in-Ok.left in
    comes_as _ _ a.words.now a.sums.now a.spread.now a.out.now _ _ _ _ c.report.result
    (sym (ap (λ (x : Result Kept Refusal). settled s a.i a.car (kept_of x)) c.in-Ok.is
    ∙ ap (λ (b : Bool). settled s a.i a.car (keeps left.kept (cond b (report_of left.kept ∷ []) []))) c.if-left.true))
    c.report.ensures

pub returns-else-left : goal.returns-else-left
returns-else-left c =
    let a = c.args in
    let s = station_of a.words.now a.sums.now a.spread.now in
    let left = c.in-Ok.left in
    comes_as _ _ a.words.now a.sums.now a.spread.now a.out.now _ _ _ _ c.silent.result
    (ap (λ (k : Record). yes (done s.state (set s.records a.i k) [] Nothing)) c.owned.ensures
    ∙ sym (ap (λ (x : Result Kept Refusal). settled s a.i a.car (kept_of x)) c.in-Ok.is
    ∙ ap (λ (b : Bool). settled s a.i a.car (keeps left.kept (cond b (report_of left.kept ∷ []) []))) c.if-left.false))
    (comes_silent a.words.now a.sums.now a.spread.now a.out.now _ _ _ a.i _ c.silent.result c.put_record.ensures c.silent.ensures)
