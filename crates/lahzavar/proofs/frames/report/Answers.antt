-- The record put back, and its report.
use Prim.Native.Nat.{◌^◌, ◌<◌}
use Rattle.messages.specs.Reading.{yes}
use Rattle.messages.specs.Table as table
use Rattle.messages.specs.Writing as writing
use Rattle.rules.specs.Replies.{frame_to}
use Rattle.rules.specs.Stations.{done}
use Rattle.rules.specs.declared.Configuration.{Configuration}
use Rattle.ends.specs.declared.Indication.TheVariants.{Nothing}
use Rattle.words.specs.Words.{edition_in, station_of}
use lib.ListN.{length, set}
use mathlib.Core.List.{[], ◌∷◌}
use Rattle.messages.specs.Answers.{message_of, besides}
use Rattle.messages.specs.Table.{group_count}
use Rattle.rules.specs.declared.Record.{Record}
use Rattle.rules.specs.Invariant.{GoodRecord}
use Rattle.rules.specs.Records.{owned}
use Rattle.rules.specs.Replies.{report_of, message_to}
use Rattle.station.proofs.OwnLaws.{settled_report}
use Rattle.ends.proofs.SendLaws.{writable_as}
use Rattle.station.proofs.SendLaws.{report_beside, report_writable}
use Rattle.records.proofs.ProfileLaws.{good_summed}
use Rattle.lahzavar.proofs.FrameLaws.{comes_as, config_here}
use native.Mathlib.Omega.{arith}
use mathlib.Core.Path.{◌≡◌, sym, ap, ap₂, ◌∙◌, subst}
use borrow.Author.Rules.{rules}
use Rattle.lahzavar.proofs.frames.report.Goals as goal

pub values-values-requires : goal.values-values-requires
unfolding owned
values-values-requires c =
    let good : GoodRecord (edition_in c.args.words.now) c.owned-r.result × (0 < c.owned-r.result.profiles) = subst (λ (r : Record). GoodRecord (edition_in c.args.words.now) r × (0 < r.profiles)) (sym c.owned-r.ensures) c.requires.1 in
    good_summed _ _ good.0

-- the run is a 64-bit number
run_fits : (c : goal.After-sent-arg-4-1) → c.args.left.run.0 < 2 ^ 64
run_fits c = search rules

-- the profiles counted are an octet
count_fits : (c : goal.After-sent-arg-4-1) → c.args.left.profiles < 2 ^ 8
count_fits c = search rules

-- and there is a sum for each group
groups_fit : (c : goal.After-sent-arg-4-1) → length c.args.left.sums ≡ group_count
groups_fit c = search rules

pub sent-requires : goal.sent-requires
unfolding owned station_of
sent-requires c =
    let good : GoodRecord (edition_in c.args.words.now) c.owned-r.result × (0 < c.owned-r.result.profiles) = subst (λ (r : Record). GoodRecord (edition_in c.args.words.now) r × (0 < r.profiles)) (sym c.owned-r.ensures) c.requires.1 in
    let is-report : message_of c.config_of-config.result.edition c.report-message.result (besides c.values-values.result c.no_ids-ids.result) ≡ message_to (station_of c.args.words.now c.args.sums.now c.args.spread.now).config c.args.car (report_of (owned c.args.car c.args.left)) = let a = c.args in
    ap (message_of c.config_of-config.result.edition c.report-message.result) (report_beside _ _ _ c.values-values.ensures c.no_ids-ids.ensures)
    ∙ c.report-message.ensures
    ∙ ap₂ (λ (o : Configuration) (k : Record). message_to o a.car (report_of k)) (config_here a.words.now a.sums.now a.spread.now a.car _ c.config_of-config.ensures) c.owned-r.ensures in
    let a = c.args in (
      good.0,
      writable_as _ _ (length a.out.now) is-report
          (report_writable (station_of a.words.now a.sums.now a.spread.now).config a.car (length a.out.now) (c.requires.0.kept.config.address c.requires.0.good) c.requires.0.car (owned a.car a.left) c.requires.1.0 c.requires.1.1 (groups_fit c) (run_fits c) (count_fits c) (omega (arith, c.requires.0.room))),
    )

pub returns : goal.returns
unfolding frame_to
returns c =
    let is-report : message_of c.config_of-config.result.edition c.report-message.result (besides c.values-values.result c.no_ids-ids.result) ≡ message_to (station_of c.args.words.now c.args.sums.now c.args.spread.now).config c.args.car (report_of (owned c.args.car c.args.left)) = let a = c.args in
    ap (message_of c.config_of-config.result.edition c.report-message.result) (report_beside _ _ _ c.values-values.ensures c.no_ids-ids.ensures)
    ∙ c.report-message.ensures
    ∙ ap₂ (λ (o : Configuration) (k : Record). message_to o a.car (report_of k)) (config_here a.words.now a.sums.now a.spread.now a.car _ c.config_of-config.ensures) c.owned-r.ensures in
    let a = c.args in
    let s = station_of a.words.now a.sums.now a.spread.now in
    comes_as _ _ a.words.now a.sums.now a.spread.now a.out.now _ _ _ _ c.sent.result
    (ap₂ (λ (k : Record) (m : table.Message). yes (done s.state (set s.records a.i k) (writing.frame m ∷ []) Nothing)) c.owned-r.ensures is-report
    ∙ settled_report s a.i a.car a.left)
    c.sent.ensures
