-- `words::whole::pack` meets its contract: the head and the records are stored.
use Rattle.words.proofs.HeadWords.{records_good, packed}
use native.Mathlib.Omega.{arith}
use Rattle.words.proofs.whole.pack.Goals as goal

pub store_all-requires : goal.store_all-requires
store_all-requires c =
    records_good c.args.station c.args.words.now _ (omega arith) c.put.ensures.0 c.requires

pub returns : goal.returns
returns c =
    let put = c.put.ensures in
    packed c.args.station c.args.words.now _ (omega arith) put.0 c.args.sums.now c.args.spread.now _ c.requires.config put.1 c.store_all.ensures
