-- `records::profiles::added` meets its contract: the loop adds each value in turn.
use Prim.Native.Nat.{ℕ, ◌+◌}
use Rattle.records.proofs.LoopLaws.{merging_start, merging_next, merging_end, room_next}
use Rattle.rules.proofs.IndexLaws.{passed}
use borrow.Author.Rules.{rules}
use lib.ListN.{get_or}
use mathlib.Core.Path.{ap}
use native.Mathlib.Omega.{arith}
use Rattle.records.proofs.profiles.added.Goals as goal

pub loop-i-init : goal.loop-i-init
loop-i-init c = (merging_start ◌+◌ _ _, λ k l. c.requires k)

pub overflow_add-sums : goal.overflow_add-sums
overflow_add-sums c = omega (arith, c.loop-i.invariant.1 c.loop-i.i (omega arith), c.from.ensures)

pub loop-i-preserved : goal.loop-i-preserved
loop-i-preserved c = (merging_next ◌+◌ c.loop-i.i c.loop-i.sums _ _ _ c.loop-i.invariant.0 (search rules) (search rules) (ap (λ (v : ℕ). get_or c.loop-i.sums c.loop-i.i 0 + v) c.from.ensures), room_next _ c.loop-i.i _ c.loop-i.sums c.loop-i.invariant.1)

pub returns : goal.returns
returns c = merging_end ◌+◌ c.loop-i.i c.loop-i.sums _ _ c.loop-i.invariant.0 (search (rules, passed))
