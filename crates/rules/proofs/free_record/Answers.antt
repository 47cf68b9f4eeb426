-- `rules::free_record` meets its contract: a fresh record, freed.
use Rattle.rules.specs.Records.{freed, fresh}
use Rattle.rules.specs.Rules.{free_record}
use Rattle.rules.proofs.free_record.Goals as goal

pub returns : goal.returns
unfolding free_record freed fresh
returns c = rw (c.no_sums.ensures, c.no_spread.ensures)
