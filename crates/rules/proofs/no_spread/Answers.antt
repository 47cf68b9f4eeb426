-- `rules::no_spread` meets its contract.
use mathlib.Core.Path.{refl}
use Rattle.rules.specs.Records.{no_spread}
use Rattle.rules.proofs.no_spread.Goals as goal

pub returns : goal.returns
unfolding no_spread
returns c = refl
