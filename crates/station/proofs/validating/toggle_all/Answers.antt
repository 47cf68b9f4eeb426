-- The records toggled so far.
use Prim.Native.Nat.{◌<◌}
use mathlib.Core.Path.{refl}
use native.Mathlib.Omega.{arith}
use borrow.Author.Rules.{rules}
use lib.ListN.{length}
use Rattle.rules.specs.Validation.{toggled_record}
use Rattle.rules.proofs.IndexLaws.{passed}
use Rattle.records.proofs.FillLaws.{fill_none, fill_next, fill_all}
use Rattle.station.proofs.validating.toggle_all.Goals as goal

pub loop-i-init : goal.loop-i-init
loop-i-init c = fill_none _ _ _ refl

-- the turn's place is in the list
inside : (c : goal.After-toggled) → c.loop-i.i < length c.args.records
inside c = search rules

pub bounds-rs-i : goal.bounds-rs-i
bounds-rs-i c = omega (arith, inside c)

pub loop-i-preserved : goal.loop-i-preserved
loop-i-preserved c =
    rw c.toggled.ensures (fill_next (toggled_record c.args.turn) c.args.records c.loop-i.rs c.loop-i.i _ c.loop-i.invariant (inside c))

pub returns : goal.returns
returns c =
    fill_all (toggled_record c.args.turn) c.args.records c.loop-i.rs c.loop-i.i c.loop-i.invariant (search (rules, passed))
