-- The items one after the other.
use native.Mathlib.Omega.{arith}
use Rattle.session_log.proofs.PutLaws.{putting_start, putting_end, putting_within, putting_short, putting_next}
use Rattle.session_log.proofs.writer.put_items.Goals as goal

pub loop-head-init : goal.loop-head-init
loop-head-init c = putting_start c.args.out.now c.requires

pub put_item-requires : goal.put_item-requires
put_item-requires c =
    let z = putting_short c.loop-head.invariant (omega arith) in
    (putting_within c.loop-head.invariant (omega arith), omega arith)

pub loop-head-preserved : goal.loop-head-preserved
loop-head-preserved c = putting_next c.loop-head.invariant (omega arith) c.put_item.ensures

pub shape_of-out : goal.shape_of-out
shape_of-out c = c.loop-head.invariant.same_length

pub returns : goal.returns
returns c = putting_end c.loop-head.invariant (omega arith)
