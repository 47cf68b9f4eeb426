-- The records freed so far.
use Prim.Native.Nat.{◌<◌}
use mathlib.Core.Path.{refl}
use native.Mathlib.Omega.{arith}
use borrow.Author.Rules.{rules}
use lib.ListN.{length}
use Rattle.rules.specs.Records.{freed}
use Rattle.rules.proofs.IndexLaws.{passed}
use Rattle.records.proofs.FillLaws.{fill_none, fill_next, fill_all}
use Rattle.station.proofs.freeing.free_all.Goals as goal

pub loop-i-init : goal.loop-i-init
loop-i-init c = fill_none freed _ _ refl

-- the turn's place is in the list
inside : (c : goal.After-freed) → c.loop-i.i < length c.args.records
inside c = search rules

pub bounds-rs-i : goal.bounds-rs-i
bounds-rs-i c = omega (arith, inside c)

pub loop-i-preserved : goal.loop-i-preserved
loop-i-preserved c =
    rw c.freed.ensures (fill_next freed c.args.records c.loop-i.rs c.loop-i.i _ c.loop-i.invariant (inside c))

pub returns : goal.returns
returns c =
    fill_all freed c.args.records c.loop-i.rs c.loop-i.i c.loop-i.invariant (search (rules, passed))
