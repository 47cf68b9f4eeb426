-- `words::copies::put_spread` meets its contract: the least values are stored, and the greatest behind them.
use Rattle.words.proofs.CopyLaws.{spread_stored}
use borrow.Author.Rules.{rules}
use Rattle.words.proofs.copies.put_spread.Goals as goal

pub returns : goal.returns
returns c = spread_stored c.args.own c.args.spread.now _ _ c.args.at (record { least = search rules; greatest = search rules }) c.put_groups.ensures c.put_groups-2.ensures
