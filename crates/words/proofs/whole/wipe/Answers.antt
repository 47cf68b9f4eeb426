-- `words::whole::wipe` meets its contract: words, sums and spread are zeros of their number.
use Rattle.words.proofs.WipedLaws.{wiped}
use borrow.Author.Rules.{rules}
use Rattle.words.proofs.whole.wipe.Goals as goal

pub returns : goal.returns
returns c = wiped _ _ _ (search (rules, c.fill.ensures.after, c.told-words)) (search (rules, c.fill-2.ensures.after, c.told-sums)) (search (rules, c.fill-3.ensures.after, c.told-spread))
