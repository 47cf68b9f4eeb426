-- The sum so far, capped.
use mathlib.Core.Path.{refl}
use native.Mathlib.Omega.{arith}
use Rattle.session_log.proofs.JudgeLaws.{summed_start, summed_next, summed_end}
use Rattle.session_log.proofs.writer.end_of.Goals as goal

pub loop-head-init : goal.loop-head-init
loop-head-init c = summed_start c.args.heads.now c.args.from c.requires

pub overflow_add-end : goal.overflow_add-end
overflow_add-end c = let z = c.loop-head.invariant.capped in omega arith

pub loop-head-preserved : goal.loop-head-preserved
loop-head-preserved c = summed_next c.loop-head.invariant (omega arith) refl c.min-end.ensures

pub returns : goal.returns
returns c = summed_end c.loop-head.invariant (omega arith)
