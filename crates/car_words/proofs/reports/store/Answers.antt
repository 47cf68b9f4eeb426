-- `car_words::reports::store` meets its contract: the reports before i are stored.
use Rattle.car_words.proofs.WholeLaws.{stored_start, stored_next, stored_end}
use borrow.Author.Rules.{rules}
use native.Mathlib.Omega.{arith}
use Rattle.car_words.proofs.reports.store.Goals as goal

pub loop-i-init : goal.loop-i-init
loop-i-init c = stored_start _ _

pub loop-i-preserved : goal.loop-i-preserved
loop-i-preserved c =
    stored_next c.args.reports c.args.words.now c.loop-i.words c.loop-i.i c.loop-i.invariant _ _ _ (omega arith) (search rules) (search rules) c.report_words.ensures.0 c.report_words.ensures.1 c.put_words.ensures

pub returns : goal.returns
returns c = stored_end _ _ _ _ c.loop-i.invariant c.loop-i-test.false (search rules)
