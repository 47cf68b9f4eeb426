-- `words::one_record::record_words` meets its contract.
use Rattle.words.specs.Written.{words_of}
use borrow.Author.Rules.{rules}
use Rattle.words.proofs.one_record.record_words.Goals as goal

pub returns : goal.returns
unfolding words_of
returns c = search rules
