-- `car_words::reports::read` meets its contract: the reports before i are read.
use Rattle.car_words.proofs.WholeLaws.{read_next, read_end}
use borrow.Author.Rules.{rules}
use native.Mathlib.Omega.{arith}
use Rattle.car_words.proofs.reports.read.Goals as goal

pub loop-i-init : goal.loop-i-init
loop-i-init c = record { size = search rules; done = search rules }

pub loop-i-preserved : goal.loop-i-preserved
loop-i-preserved c =
    read_next c.args.words.now c.loop-i.rs c.loop-i.i c.loop-i.invariant _ (omega arith) c.report_at.ensures

pub returns : goal.returns
returns c = read_end _ _ _ c.loop-i.invariant c.loop-i-test.false
