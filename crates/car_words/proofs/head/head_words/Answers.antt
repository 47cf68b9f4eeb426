-- `car_words::head::head_words` meets its contract.
use Rattle.car_words.specs.Written.{head_of}
use borrow.Author.Rules.{rules}
use Rattle.car_words.proofs.head.head_words.Goals as goal

pub returns : goal.returns
unfolding head_of
returns c = search rules
