-- `rules::configure` meets its contract.
use Rattle.rules.proofs.ConfigureLaws.{promised_good, promised_bad}
use Rattle.rules.proofs.configure.Goals as goal

pub returns-then-good : goal.returns-then-good
returns-then-good c = let a = c.args in rw c.silent-answer.ensures (promised_good a.address a.modem a.nid a.nmk a.exempt a.edition a.carriers _ _ c.is_good-good.ensures c.free_records.ensures c.if-good.true)

pub returns-else-good : goal.returns-else-good
returns-else-good c = let a = c.args in promised_bad a.address a.modem a.nid a.nmk a.exempt a.edition a.carriers _ _ c.is_good-good.ensures c.free_records.ensures c.if-good.false
