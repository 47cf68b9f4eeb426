-- `car_words::pack` meets its contract: the head and the reports are stored.
use Rattle.car_words.proofs.HeadWords.{packed}
use native.Mathlib.Omega.{arith}
use Rattle.car_words.proofs.pack.Goals as goal

pub returns : goal.returns
returns c =
    let p = c.put.ensures in
    packed c.args.car c.args.words.now _ _ c.requires p.1.0 p.1.1 (omega arith) p.0 c.store.ensures
