-- `rules::edition_of` meets its contract, by the number.
use Rattle.rules.specs.Numbers.{edition_of}
use borrow.Author.Tests.{eq-eqb, ne_eqb}
use Rattle.rules.proofs.edition_of.Goals as goal

pub returns-then-number-eq1 : goal.returns-then-number-eq1
unfolding edition_of
returns-then-number-eq1 c = rw (eq-eqb _ _ c.if-number-eq1.true)

pub returns-else-number-eq1 : goal.returns-else-number-eq1
unfolding edition_of
returns-else-number-eq1 c = rw (ne_eqb _ _ c.if-number-eq1.false)
