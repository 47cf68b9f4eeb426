-- `words::copies::spread_at` meets its contract: the least values, and the greatest behind them.
use Rattle.words.proofs.CopyLaws.{spread_read}
use Rattle.words.proofs.copies.spread_at.Goals as goal

pub returns : goal.returns
returns c = let a = c.args in spread_read a.spread.now a.at _ c.groups_at.ensures c.groups_at-2.ensures
