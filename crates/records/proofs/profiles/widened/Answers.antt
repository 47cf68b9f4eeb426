-- `records::profiles::widened` meets its contract: the loop takes each value into the least and the greatest in turn.
use Prim.Native.Nat.{min, max}
use Rattle.rules.proofs.IndexLaws.{passed}
use Rattle.rules.specs.Records.{widened}
use Rattle.records.proofs.LoopLaws.{merging_start, merging_next, merging_end}
use borrow.Author.Rules.{rules}
use Rattle.records.proofs.profiles.widened.Goals as goal

pub loop-i-init : goal.loop-i-init
loop-i-init c = (merging_start min _ _, merging_start max _ _)

pub loop-i-preserved : goal.loop-i-preserved
loop-i-preserved c =
    (merging_next min c.loop-i.i c.loop-i.least _ _ _ c.loop-i.invariant.0 (search rules) (search rules) c.min.ensures, merging_next max c.loop-i.i c.loop-i.greatest _ _ _ c.loop-i.invariant.1 (search rules) (search rules) c.max.ensures)

pub returns : goal.returns
unfolding widened
returns c =
    rw (merging_end min c.loop-i.i c.loop-i.least _ _ c.loop-i.invariant.0 (search (rules, passed)), merging_end max c.loop-i.i c.loop-i.greatest _ _ c.loop-i.invariant.1 (search (rules, passed)))
