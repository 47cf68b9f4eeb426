-- `words::head::head_words` meets its contract.
use Rattle.words.specs.Written.{head_of}
use borrow.Author.Rules.{rules}
use Rattle.words.proofs.head.head_words.Goals as goal

pub returns : goal.returns
unfolding head_of
returns c = search rules
