-- `words::whole::free_all` meets its contract: the records before i are freed.
use Rattle.words.proofs.FreeLaws.{freed_start, freed_next, freed_end}
use borrow.Author.Rules.{rules}
use Rattle.words.proofs.whole.free_all.Goals as goal

pub loop-i-init : goal.loop-i-init
loop-i-init c = freed_start _

pub loop-i-preserved : goal.loop-i-preserved
loop-i-preserved c = freed_next _ _ _ c.loop-i.invariant c.loop-i-test.true (search rules)

pub returns : goal.returns
returns c = λ s x. freed_end _ _ s x _ c.loop-i.invariant c.loop-i-test.false
