-- `station::sending::report` meets its contract: the message is the report.
use Prim.Native.Nat.{◌^◌, ◌<◌}
use Rattle.messages.specs.Answers.{message_of, besides}
use Rattle.messages.specs.Reading.{yes}
use Rattle.messages.specs.Table as table
use Rattle.messages.specs.Writing as writing
use Rattle.rules.specs.Replies.{report_of, message_to, frame_to}
use Rattle.rules.specs.Stations.{done}
use Rattle.ends.specs.declared.Indication.TheVariants.{Nothing}
use Rattle.station.proofs.ComesLaws.{comes_as}
use lib.ListN.{length}
use mathlib.Core.List.{[], ◌∷◌}
use Rattle.messages.specs.Table.{group_count}
use Rattle.ends.proofs.SendLaws.{writable_as}
use Rattle.station.proofs.SendLaws.{report_beside, report_writable}
use Rattle.records.proofs.ProfileLaws.{good_summed}
use native.Mathlib.Omega.{arith}
use mathlib.Core.Path.{◌≡◌, ap, ◌∙◌}
use borrow.Author.Rules.{rules}
use Rattle.station.proofs.sending.report.Goals as goal

pub values-values-requires : goal.values-values-requires
values-values-requires c = good_summed c.args.station.config.edition c.args.r c.requires.1.0

-- the run is a 64-bit number
run_fits : (c : goal.After-sent-arg-1) → c.args.r.run.0 < 2 ^ 64
run_fits c = search rules

-- the profiles counted are an octet
count_fits : (c : goal.After-sent-arg-1) → c.args.r.profiles < 2 ^ 8
count_fits c = search rules

-- and there is a sum for each group
groups_fit : (c : goal.After-sent-arg-1) → length c.args.r.sums ≡ group_count
groups_fit c = let r = c.well_formed.1.1.1.0 in search (rules, r)

pub sent-requires : goal.sent-requires
sent-requires c =
    let is-report : message_of c.args.station.config.edition c.report-message.result (besides c.values-values.result c.no_ids-ids.result) ≡ message_to c.args.station.config c.args.car (report_of c.args.r) = ap (message_of c.args.station.config.edition c.report-message.result) (report_beside _ _ _ c.values-values.ensures c.no_ids-ids.ensures) ∙ c.report-message.ensures in
    let a = c.args in
    writable_as _ _ (length a.out.now) is-report
    (report_writable a.station.config a.car (length a.out.now) (c.requires.0.kept.config.address c.requires.0.good) c.requires.0.car a.r c.requires.1.0 c.requires.1.1 (groups_fit c) (run_fits c) (count_fits c) (omega (arith, c.requires.0.room)))

pub returns : goal.returns
unfolding frame_to
returns c =
    let is-report : message_of c.args.station.config.edition c.report-message.result (besides c.values-values.result c.no_ids-ids.result) ≡ message_to c.args.station.config c.args.car (report_of c.args.r) = ap (message_of c.args.station.config.edition c.report-message.result) (report_beside _ _ _ c.values-values.ensures c.no_ids-ids.ensures) ∙ c.report-message.ensures in
    let a = c.args in
    comes_as a.station _ _ a.out.now _ c.sent.result
    (ap (λ (m : table.Message). yes (done a.station.state a.records (writing.frame m ∷ []) Nothing)) is-report)
    c.sent.ensures
