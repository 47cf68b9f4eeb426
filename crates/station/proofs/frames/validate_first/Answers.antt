-- `station::frames::validate_first` meets its contract: answered at the car's own record, or 8 or 11.
use Prim.Native.Nat.{ℕ, ◌<◌}
use Rattle.messages.specs.Table.{result_limit}
use Rattle.ends.proofs.ListLaws.{length_mapped}
use Rattle.rules.specs.Constants.{record_count}
use Rattle.rules.specs.Frames.{first_rule}
use Rattle.rules.specs.Received.{validate_first}
use Rattle.rules.specs.Validation.{first_result}
use Rattle.rules.specs.declared.Record.{Record}
use Rattle.station.proofs.ComesLaws.{comes_as, comes_refused}
use Rattle.station.proofs.OwnLaws.{OwnHere, own_here, change_first, not_placed, own_settled}
use Rattle.station.proofs.ResultLaws.{first_answered, first_limited}
use lib.ListN.{length}
use mathlib.Core.Path.{◌≡◌, sym, subst}
use native.Mathlib.Omega.{arith}
use borrow.Author.Rules.{rules}
use Rattle.station.proofs.frames.validate_first.Goals as goal

-- how many records there are
count : (c : goal.In-Ok) → length c.args.station.records ≡ record_count
count c = search (rules, length_mapped)

pub offset_bounds-station-i : goal.offset_bounds-station-i
offset_bounds-station-i c =
    let here : OwnHere c.args.station c.args.car c.in-Ok.i = own_here c.args.station c.args.car _ (sym c.in-Ok.ensures) in
    omega (arith, count c, here.own.inside)

pub bounds-station-i : goal.bounds-station-i
bounds-station-i c =
    let here : OwnHere c.args.station c.args.car c.in-Ok.i = own_here c.args.station c.args.car _ (sym c.in-Ok.ensures) in
    omega (arith, count c, here.own.inside)

pub confirm-requires : goal.confirm-requires
confirm-requires c =
    let here : OwnHere c.args.station c.args.car c.in-Ok.i = own_here c.args.station c.args.car _ (sym c.in-Ok.ensures) in
    (here.own.inside, (c.requires, subst (λ (x : ℕ). x < result_limit) (sym c.first_result-result.ensures) (first_limited _ _)))

pub returns-in-Ok : goal.returns-in-Ok
returns-in-Ok c =
    let here : OwnHere c.args.station c.args.car c.in-Ok.i = own_here c.args.station c.args.car _ (sym c.in-Ok.ensures) in
    let a = c.args in
    let x = first_result a.station.config.exempt a.station.records in
    comes_as a.station _ _ a.out.now _ c.confirm.result
    (own_settled a.station a.car validate_first (λ (r : Record). first_rule x r r.phase) (change_first a.station.config.edition a.car x) _ _ _ here.state here.own
    (first_answered _ _ _ _ c.validate_first-validated.ensures c.first_result-result.ensures)) c.confirm.ensures

pub returns-in-Err : goal.returns-in-Err
returns-in-Err c =
    let a = c.args in
    let x = first_result a.station.config.exempt a.station.records in
    comes_refused a.station _ _ a.out.now c.refused.result
    (not_placed a.station a.car validate_first (λ (r : Record). first_rule x r r.phase) (change_first a.station.config.edition a.car x) _ (sym c.in-Err.ensures)) c.refused.ensures
