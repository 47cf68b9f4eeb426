-- By whether the configuration is good.
use mathlib.Core.Path.{sym, ◌∙◌}
use Rattle.rules.proofs.IndexLaws.{told_good, told_bad}
use Rattle.rules.proofs.query.Goals as goal

pub returns-then-station : goal.returns-then-station
returns-then-station c = let a = c.args in c.told_in.ensures ∙ told_good a.station a.car c.if-station.true

pub returns-else-station : goal.returns-else-station
returns-else-station c = let a = c.args in sym (told_bad a.station a.car c.if-station.false)
