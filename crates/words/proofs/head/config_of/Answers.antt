-- `words::head::config_of` meets its contract: the identity, and what it leaves out.
use Rattle.words.specs.Words.{config_of}
use Rattle.words.proofs.head.config_of.Goals as goal

pub returns : goal.returns
unfolding config_of
returns c = simp (c.identity_of.ensures, c.low.ensures)
