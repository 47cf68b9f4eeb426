-- `car_words::reports::count` meets its contract: the reports passed are kept.
use Rattle.car_words.proofs.CountLaws.{counting_start, counting_most, counting_other, counting_next, counting_end}
use borrow.Author.Rules.{rules}
use native.Mathlib.Omega.{arith}
use Rattle.car_words.proofs.reports.count.Goals as goal
use Rattle.car_words.proofs.reports.count.Goals.{then-most-i-via-then-most-i, then-most-i-via-else-most-i+then-not-is_unicast}

pub loop-i-init : goal.loop-i-init
loop-i-init c = counting_start _ _

pub returns-then-most-i : goal.returns-then-most-i
returns-then-most-i c = elim c.then-most-i.branch [
  | then-most-i-via-then-most-i w ↦ counting_most _ _ _ c.loop-i.invariant w.if-most-i.true
  | then-most-i-via-else-most-i+then-not-is_unicast w ↦ counting_other _ _ _ _ c.loop-i.invariant (search rules) _ w.is_unicast.ensures w.if-not-is_unicast.true
]

pub loop-i-preserved : goal.loop-i-preserved
loop-i-preserved c = counting_next _ _ _ _ c.loop-i.invariant (search rules) _ c.is_unicast.ensures c.if-most-i.false c.if-not-is_unicast.false

pub returns : goal.returns
returns c = counting_end _ _ _ c.loop-i.invariant (omega arith) (search rules)
