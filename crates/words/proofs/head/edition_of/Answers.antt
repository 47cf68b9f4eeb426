-- `words::head::edition_of` meets its contract.
use Rattle.words.specs.Words.{config_of}
use Rattle.words.proofs.head.edition_of.Goals as goal

pub returns : goal.returns
unfolding config_of
returns c = c.edition_of.ensures
