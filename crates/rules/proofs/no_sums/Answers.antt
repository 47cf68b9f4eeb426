-- `rules::no_sums` meets its contract.
use mathlib.Core.Path.{refl}
use Rattle.rules.specs.Records.{no_sums}
use Rattle.rules.proofs.no_sums.Goals as goal

pub returns : goal.returns
unfolding no_sums
returns c = refl
