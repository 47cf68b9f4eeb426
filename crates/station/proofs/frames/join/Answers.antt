-- `station::frames::join` meets its contract: by the verdict at the car's own record, or 11.
use Rattle.messages.specs.Reading.{yes}
use Rattle.messages.specs.declared.Refusal.TheVariants.{NoRecord}
use Rattle.ends.proofs.ListLaws.{length_mapped}
use Rattle.records.proofs.PlaceLaws.{OwnAt, found, not_own}
use Rattle.records.specs.declared.find.Found.TheVariants.{Own}
use Rattle.ends.specs.Constants.{joining_time}
use Rattle.rules.specs.Constants.{record_count}
use Rattle.rules.specs.Frames.{confirmed}
use Rattle.rules.specs.declared.Record.{Record}
use Rattle.rules.specs.declared.State.TheVariants.{Joining}
use Rattle.station.proofs.ComesLaws.{comes_as, comes_refused}
use Rattle.station.proofs.MatchLaws.{join_none, join_own}
use borrow.Author.Rules.{rules}
use lib.ListN.{length}
use mathlib.Core.List.{List}
use mathlib.Core.Path.{◌≡◌, sym, ap, ◌∙◌}
use native.Mathlib.Omega.{arith}
use borrow.Enum.Refused.{opened}
use Rattle.station.proofs.frames.join.Goals as goal

pub returns-in_default : goal.returns-in_default
returns-in_default c = let a = c.args in comes_refused a.station _ NoRecord a.out.now c.refused.result (join_none a.station a.car a.run a.ids.first a.ids.second (not_own a.car a.station.records c.find.result c.find.ensures (opened c.in_default.in_default-own.keys2))) c.refused.ensures

-- how many records there are
count : (c : goal.In-Own) → length c.args.station.records ≡ record_count
count c = search (rules, length_mapped)

pub offset_bounds-station-i : goal.offset_bounds-station-i
offset_bounds-station-i c =
    let here : OwnAt c.args.car c.args.station.records c.in-Own.i = found c.args.car c.args.station.records c.find.result (Own c.in-Own.i) c.find.ensures c.in-Own.is in
    omega (arith, count c, here.inside)

pub bounds-station-i : goal.bounds-station-i
bounds-station-i c =
    let here : OwnAt c.args.car c.args.station.records c.in-Own.i = found c.args.car c.args.station.records c.find.result (Own c.in-Own.i) c.find.ensures c.in-Own.is in
    omega (arith, count c, here.inside)

pub returns-in-Err : goal.returns-in-Err
returns-in-Err c =
    let here : OwnAt c.args.car c.args.station.records c.in-Own.i = found c.args.car c.args.station.records c.find.result (Own c.in-Own.i) c.find.ensures c.in-Own.is in
    let a = c.args in
    comes_refused a.station _ _ a.out.now c.refused-in-Err.result (join_own a.station a.car a.run a.ids.first a.ids.second _ _ _ here c.in-Err.ensures) c.refused-in-Err.ensures

pub returns-in-Ok : goal.returns-in-Ok
returns-in-Ok c =
    let here : OwnAt c.args.car c.args.station.records c.in-Own.i = found c.args.car c.args.station.records c.find.result (Own c.in-Own.i) c.find.ensures c.in-Own.is in
    let a = c.args in
    comes_as a.station _ _ a.out.now _ c.match_cnf.result
    (ap (λ (l : List Record). yes (confirmed a.station.config (Joining joining_time a.car a.run) l a.car a.run a.ids.first a.ids.second)) c.free_all-free.ensures
    ∙ sym (join_own a.station a.car a.run a.ids.first a.ids.second _ _ (yes tt) here c.in-Ok.ensures))
    c.match_cnf.ensures
