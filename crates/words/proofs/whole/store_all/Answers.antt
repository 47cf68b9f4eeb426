-- `words::whole::store_all` meets its contract: the records before i are stored.
use Rattle.words.proofs.WholeLaws.{stored_start, stored_good, stored_next, stored_end}
use borrow.Author.Rules.{rules}
use native.Mathlib.Omega.{arith}
use Rattle.words.proofs.whole.store_all.Goals as goal

pub loop-i-init : goal.loop-i-init
loop-i-init c = stored_start _ _ _ _

pub put_record-requires : goal.put_record-requires
put_record-requires c =
    stored_good c.args.records c.args.words.now c.args.sums.now c.args.spread.now c.loop-i.words c.loop-i.sums c.loop-i.spread c.loop-i.i c.loop-i.invariant _ c.requires (search rules)

pub loop-i-preserved : goal.loop-i-preserved
loop-i-preserved c =
    stored_next c.args.records c.args.words.now c.args.sums.now c.args.spread.now c.loop-i.words c.loop-i.sums c.loop-i.spread c.loop-i.i c.loop-i.invariant _ _ _ _ (omega arith) (search rules) (search rules) (search rules) (search rules) c.put_record.ensures

pub returns : goal.returns
returns c = stored_end _ _ _ _ _ _ _ _ c.loop-i.invariant c.loop-i-test.false (search rules)
