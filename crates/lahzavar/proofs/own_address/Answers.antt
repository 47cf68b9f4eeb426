-- `lahzavar::own_address` meets its contract, by the number.
use borrow.Author.Tests.{le-leb, lt-leb}
use Rattle.lahzavar.proofs.own_address.Goals as goal

pub returns-then-edition-le1 : goal.returns-then-edition-le1
returns-then-edition-le1 c = rw (le-leb _ 1 c.if-edition-le1.true)

pub returns-else-edition-le1 : goal.returns-else-edition-le1
returns-else-edition-le1 c = rw (lt-leb _ 1 c.if-edition-le1.false)
