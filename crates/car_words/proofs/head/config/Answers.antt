-- `car_words::head::config` meets its contract, by the first word.
use borrow.Author.Tests.{ne_eqb}
use Rattle.car_words.specs.Words.{config_of}
use Rattle.car_words.proofs.head.config.Goals as goal

pub returns-then-words-eq1 : goal.returns-then-words-eq1
unfolding config_of
returns-then-words-eq1 c = simp (c.if-words-eq1.true, c.is_good.ensures, c.low-reference.ensures)

pub returns-else-words-eq1 : goal.returns-else-words-eq1
unfolding config_of
returns-else-words-eq1 c = simp (ne_eqb _ _ c.if-words-eq1.false, c.low-reference.ensures)
