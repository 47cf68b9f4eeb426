-- `station::frames::at_own` meets its contract: the car's own record, or 8 or 11.
use Rattle.messages.specs.Reading.{beside_of, read_rules}
use Rattle.receiving.specs.AtRecord.{own_rule}
use Rattle.receiving.specs.Judge.{own_message_of}
use Rattle.ends.proofs.ListLaws.{length_mapped, all_at}
use Rattle.rules.specs.Constants.{record_count}
use Rattle.rules.specs.Invariant.{GoodRecord}
use Rattle.station.proofs.ComesLaws.{comes_as, comes_refused}
use Rattle.station.proofs.OwnLaws.{OwnHere, own_here, change_own, not_placed, own_settled}
use Rattle.station.proofs.KeptLaws.{kept_good}
use lib.ListN.{length}
use mathlib.Core.Path.{◌≡◌, sym}
use native.Mathlib.Omega.{arith}
use borrow.Author.Rules.{rules}
use Rattle.station.proofs.frames.at_own.Goals as goal

-- how many records there are
count : (c : goal.In-Ok) → length c.args.station.records ≡ record_count
count c = search (rules, length_mapped)

pub offset_bounds-station-i : goal.offset_bounds-station-i
offset_bounds-station-i c =
    let here : OwnHere c.args.station c.args.car c.in-Ok.i = own_here c.args.station c.args.car _ (sym c.in-Ok.ensures) in
    omega (arith, count c, here.own.inside)

pub bounds-station-i : goal.bounds-station-i
bounds-station-i c =
    let here : OwnHere c.args.station c.args.car c.in-Ok.i = own_here c.args.station c.args.car _ (sym c.in-Ok.ensures) in
    omega (arith, count c, here.own.inside)

pub at_record-kept-requires : goal.at_record-kept-requires
at_record-kept-requires c =
    let here : OwnHere c.args.station c.args.car c.in-Ok.i = own_here c.args.station c.args.car _ (sym c.in-Ok.ensures) in
    all_at (GoodRecord c.args.station.config.edition) c.args.station.records c.in-Ok.i _ c.requires.0.kept.records here.own.inside

pub settle-requires : goal.settle-requires
settle-requires c =
    let here : OwnHere c.args.station c.args.car c.in-Ok.i = own_here c.args.station c.args.car _ (sym c.in-Ok.ensures) in
    let a = c.args in
    (here.own.inside, c.requires.0, kept_good a.station.config.edition a.car c.requires.0.car a.message _ _ c.at_record-kept.result c.at_record-kept.ensures (all_at (GoodRecord c.args.station.config.edition) c.args.station.records c.in-Ok.i _ c.requires.0.kept.records here.own.inside) c.requires.1)

pub returns-in-Ok : goal.returns-in-Ok
returns-in-Ok c =
    let here : OwnHere c.args.station c.args.car c.in-Ok.i = own_here c.args.station c.args.car _ (sym c.in-Ok.ensures) in
    let a = c.args in
    let e = a.station.config.edition in
    let b = beside_of (read_rules e a.octets.now) in
    comes_as a.station _ _ a.out.now _ c.settle.result
    (own_settled a.station a.car (own_message_of a.message b) (own_rule e a.message b) (change_own e a.car a.message b _) _ _ _ here.state here.own c.at_record-kept.ensures) c.settle.ensures

pub returns-in-Err : goal.returns-in-Err
returns-in-Err c =
    let a = c.args in
    let e = a.station.config.edition in
    let b = beside_of (read_rules e a.octets.now) in
    comes_refused a.station _ _ a.out.now c.refused.result
    (not_placed a.station a.car (own_message_of a.message b) (own_rule e a.message b) (change_own e a.car a.message b _) _ (sym c.in-Err.ensures)) c.refused.ensures
