-- `words::copies::sums_at` meets its contract: all sums are limited, and those of the first groups left.
use Rattle.words.specs.Words.{only_first, sums_of}
use mathlib.Core.Path.{ap, ◌∙◌}
use Rattle.words.proofs.copies.sums_at.Goals as goal

pub returns : goal.returns
unfolding sums_of
returns c = c.only_first.ensures ∙ ap (only_first c.args.groups) c.limited_at.ensures
