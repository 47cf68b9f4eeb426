-- By the elapsed time; then the state.
use mathlib.Core.Path.{◌≡◌}
use lib.ListN.{length}
use Rattle.rules.specs.Constants.{record_count}
use Rattle.station.proofs.StepLaws.{accepted, refuses}
use Rattle.ends.proofs.ListLaws.{length_mapped}
use Rattle.station.proofs.TickLaws.{tick_refused, tick_rule, tick_shared, tick_ready}
use borrow.Author.Rules.{rules}
use Rattle.station.proofs.tick.Goals as goal

-- a station has as many records as the count says
count : (c : goal.After-run-arg-1) → length c.args.station.records ≡ record_count
count c = search (rules, length_mapped)

pub run-requires : goal.run-requires
run-requires c =
    let time = c.in-Ok.ensures in
    tick_ready c.args.station c.args.reading _ c.args.out.now c.requires (count c) time

pub returns-in-Err : goal.returns-in-Err
returns-in-Err c =
    let time = c.in-Err.ensures in
    refuses _ _ c.requires _ _ _ (tick_refused c.args.station c.args.reading _ _ time) c.refused.ensures

pub returns-in-Ok : goal.returns-in-Ok
returns-in-Ok c =
    let time = c.in-Ok.ensures in
    accepted _ _ c.requires _ _ _ _ _ tt (tick_shared c.args.station c.args.reading _ _ time) (tick_rule c.args.station c.args.reading _ _ time) c.run.ensures
