-- By the count's test.
use Rattle.records.proofs.TimerLaws.{some_left}
use Rattle.records.proofs.timers.first_report.Goals as goal

pub returns-else-r-eq0 : goal.returns-else-r-eq0
returns-else-r-eq0 c = some_left _ _ _ _ _ c.if-r-eq0.false c.report.ensures
