-- Its test is the definition's.
use Rattle.rules.specs.Records.{same_car, is_held, holds}
use borrow.Author.Rules.{rules}
use Rattle.rules.proofs.holds.Goals as goal

pub returns : goal.returns
unfolding holds is_held same_car
returns c = search rules
