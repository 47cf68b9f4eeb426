-- `car_words::unpack` meets its contract: any words mean a car with the invariant.
use Rattle.car_words.proofs.Meant.{unpacked}
use mathlib.Core.Path.{refl}
use Rattle.car_words.proofs.unpack.Goals as goal

pub returns : goal.returns
returns c = unpacked c.args.words.now _ c.config.ensures c.state_of.ensures c.low.ensures refl refl c.read-reports.ensures c.count.ensures
