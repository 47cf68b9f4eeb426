-- `words::search::held_count` meets its contract: the records passed are counted.
use Rattle.words.proofs.SearchLaws.{counting_start, counting_held, counting_free, counting_end}
use Rattle.words.proofs.search.held_count.Goals as goal
use Rattle.words.proofs.search.held_count.Goals.{then-is_held, else-is_held}

pub loop-i-init : goal.loop-i-init
loop-i-init c = counting_start _

pub loop-i-preserved : goal.loop-i-preserved
loop-i-preserved c =
    let a = c.args in
    let e = c.is_held.ensures in
    elim c.if-is_held.branch [
      | then-is_held w ↦ rw w.n-is (counting_held a.words.now c.loop-i.i c.loop-i.n c.loop-i.invariant c.loop-i-test.true _ e w.if-is_held.true)
      | else-is_held w ↦ rw w.n-is (counting_free a.words.now c.loop-i.i c.loop-i.n c.loop-i.invariant c.loop-i-test.true _ e w.if-is_held.false)
    ]

pub returns : goal.returns
returns c = counting_end _ _ _ c.loop-i.invariant c.loop-i-test.false
