-- The message written, with the group values.
use Prim.Native.Nat.{◌^◌, ◌<◌}
use Rattle.std.specs.Prelude.{ℕ, Result}
use Rattle.std.specs.Result.{result_unwrap_or}
use Rattle.messages.specs.declared.Refusal.{Refusal}
use lib.ListN.{length}
use mathlib.Core.Path.{◌≡◌, ap, ◌∙◌}
use Rattle.messages.specs.Table.{group_count}
use Rattle.records.proofs.ProfileLaws.{good_summed}
use Rattle.station.proofs.SendLaws.{report_beside}
use Rattle.station.proofs.ReportLaws.{written_long, writes_report}
use borrow.Author.Rules.{rules}
use Rattle.station.proofs.reports.write_report.Goals as goal

pub values-values-requires : goal.values-values-requires
values-values-requires c = good_summed _ _ c.requires.0.good

pub returns : goal.returns
returns c =
    let groups_fit : length c.args.r.sums ≡ group_count = search rules in
    let count_fits : c.args.r.profiles < 2 ^ 8 = search rules in
    let run_fits : c.args.r.run.0 < 2 ^ 64 = search rules in
    let is = written_long c.args.config c.args.r c.report-message.result _ c.args.out.now _ c.write-written.result c.requires.0 c.requires.1.0 run_fits count_fits groups_fit c.report-message.ensures (report_beside _ c.no_ids-ids.result _ c.values-values.ensures c.no_ids-ids.ensures) c.requires.1.1 c.write-written.ensures.result_value c.write-written.ensures.out_after in
    writes_report c.args.config c.args.r c.report-message.result _ c.args.out.now _ c.write-written.result c.requires.0 c.requires.1.0 run_fits count_fits groups_fit c.report-message.ensures (report_beside _ c.no_ids-ids.result _ c.values-values.ensures c.no_ids-ids.ensures) c.requires.1.1 c.write-written.ensures.result_value c.write-written.ensures.out_after _ (c.unwrap_or.ensures ∙ ap (λ (w : Result ℕ Refusal). result_unwrap_or w 0) is)
