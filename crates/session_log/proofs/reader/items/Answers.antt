-- The walk, from item to item.
use native.Mathlib.Omega.{arith}
use Rattle.std.proofs.lemmas.Result.{err_from_is_err_and}
use Rattle.session_log.proofs.WalkLaws.{judging_start, judging_end, judging_within, judging_small, judging_past, judging_next}
use Rattle.session_log.proofs.reader.items.Goals as goal

pub loop-i-init : goal.loop-i-init
loop-i-init c = judging_start c.requires

pub item_at-requires : goal.item_at-requires
item_at-requires c = judging_within c.loop-i.invariant (omega arith)

pub returns-in_err-item_at : goal.returns-in_err-item_at
returns-in_err-item_at c =
    let p = err_from_is_err_and c.from_residual.result c.from_residual.ensures.1 in
    rw (p.1, p.2) (judging_past c.loop-i.invariant (omega arith) _ c.in_err-item_at.ensures)

pub behind-at-requires : goal.behind-at-requires
behind-at-requires c = judging_small c.loop-i.invariant (omega arith)

pub loop-i-preserved : goal.loop-i-preserved
loop-i-preserved c = rw c.behind-at.ensures (judging_next c.loop-i.invariant (omega arith) c.in_ok-item_at.ensures)

pub returns : goal.returns
returns c = judging_end c.loop-i.invariant (omega arith)
