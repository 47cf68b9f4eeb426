-- The state's number and its car, unless the configuration is bad.
use Rattle.rules.specs.Rules.{inspection}
use Rattle.rules.proofs.inspect.Goals as goal

pub returns-then-config : goal.returns-then-config
unfolding inspection
returns-then-config c = rw (c.if-config.true, c.state_number.ensures, c.car_in.ensures)

pub returns-else-config : goal.returns-else-config
unfolding inspection
returns-else-config c = rw c.if-config.false
