-- `car_words::wipe` meets its contract: the words are zeros of their number.
use Rattle.car_words.proofs.WipedLaws.{wiped}
use borrow.Author.Rules.{rules}
use Rattle.car_words.proofs.wipe.Goals as goal

pub returns : goal.returns
returns c = wiped _ (search rules)
