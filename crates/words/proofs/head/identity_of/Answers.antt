-- `words::head::identity_of` meets its contract, by the first word.
use borrow.Author.Tests.{ne_eqb}
use Rattle.words.specs.Words.{config_of}
use Rattle.words.proofs.head.identity_of.Goals as goal
use Rattle.words.proofs.head.identity_of.Goals.{then-words-eq1, else-words-eq1}

pub returns : goal.returns
unfolding config_of
returns c = elim c.if-words-eq1.branch [
  | then-words-eq1 w ↦ simp (w.result-is, w.if-words-eq1.true, w.may_reply.ensures, c.edition_of.ensures)
  | else-words-eq1 w ↦ simp (w.result-is, ne_eqb _ _ w.if-words-eq1.false, c.edition_of.ensures)
]
