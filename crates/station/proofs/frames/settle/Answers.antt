-- By what the message comes to.
use Prim.Native.Nat.{◌<◌}
use Rattle.messages.specs.Reading.{yes}
use Rattle.messages.specs.declared.Refusal.{Refusal}
use Rattle.records.specs.Requests.{kept_of}
use Rattle.records.specs.declared.changes.Kept.{Kept}
use Rattle.rules.specs.Records.{owned}
use Rattle.rules.specs.Invariant.{GoodRecord}
use Rattle.rules.specs.Replies.{report_of, frames_to}
use Rattle.rules.specs.Stations.{done}
use Rattle.rules.specs.declared.Record.{Record}
use Rattle.ends.specs.declared.Indication.TheVariants.{Nothing}
use Rattle.std.specs.Prelude.{Result}
use Rattle.station.proofs.ComesLaws.{comes_as, comes_refused, comes_silent}
use Rattle.station.proofs.OwnLaws.{settled_report}
use Rattle.station.specs.Frames.{Counted, KeepsGood, settled}
use Rattle.rules.specs.Frames.{keeps}
use mathlib.Core.Bool.{Bool, cond}
use lib.ListN.{set}
use mathlib.Core.List.{List, [], ◌∷◌}
use mathlib.Core.Path.{refl, sym, ap, ap₂, ◌∙◌, subst}
use Rattle.station.proofs.frames.settle.Goals as goal

pub report-requires : goal.report-requires
unfolding owned
report-requires c =
    let a = c.args in
    let left = c.in-Ok.left in
    let good = subst (λ (x : Result Kept Refusal). KeepsGood a.station.config.edition a.car (kept_of x)) c.in-Ok.is c.requires.2 in
    let some = subst (λ (b : Bool). Counted (cond b (report_of left.kept ∷ []) []) left.kept.profiles) c.if-left.true good.1 in
    (c.requires.1, subst (λ (r : Record). GoodRecord a.station.config.edition r × (0 < r.profiles)) (sym c.owned-r.ensures) (good.0, some))

pub returns-in-Err : goal.returns-in-Err
returns-in-Err c =
    let a = c.args in
    comes_refused a.station _ _ a.out.now c.refused.result (ap (λ (x : Result Kept Refusal). settled a.station a.i a.car (kept_of x)) c.in-Err.is) c.refused.ensures

pub returns-then-left : goal.returns-then-left
returns-then-left c =
    let a = c.args in
    let left = c.in-Ok.left in
    let own = c.owned-r.ensures in
    comes_as a.station _ _ a.out.now _ c.report.result
    (ap₂ (λ (l : List Record) (k : Record). yes (done a.station.state l (frames_to a.station.config a.car (report_of k ∷ [])) Nothing))
    (c.with_record-next.ensures ∙ ap (set a.station.records a.i) own) own
    ∙ settled_report a.station a.i a.car left.kept
    ∙ sym (ap (λ (x : Result Kept Refusal). settled a.station a.i a.car (kept_of x)) c.in-Ok.is
    ∙ ap (λ (b : Bool). settled a.station a.i a.car (keeps left.kept (cond b (report_of left.kept ∷ []) []))) c.if-left.true))
    c.report.ensures

pub returns-else-left : goal.returns-else-left
returns-else-left c =
    let a = c.args in
    let left = c.in-Ok.left in
    comes_as a.station _ _ a.out.now _ c.without_frames.result
    (sym (ap (λ (x : Result Kept Refusal). settled a.station a.i a.car (kept_of x)) c.in-Ok.is
    ∙ ap (λ (b : Bool). settled a.station a.i a.car (keeps left.kept (cond b (report_of left.kept ∷ []) []))) c.if-left.false))
    (comes_silent a.station _ _ _ a.out.now c.without_frames.result (c.with_record-next.ensures ∙ ap (set a.station.records a.i) c.owned-r.ensures) refl c.without_frames.ensures)
