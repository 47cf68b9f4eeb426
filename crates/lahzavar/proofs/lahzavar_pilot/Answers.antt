-- `lahzavar::lahzavar_pilot` meets its contract, by the number.
use Rattle.lahzavar.proofs.LentLaws.{no_pilot_lent}
use Rattle.rules.specs.declared.Configuration.{Configuration}
use Rattle.words.specs.Words.{station_of}
use mathlib.Core.Path.{ap}
use Rattle.lahzavar.proofs.lahzavar_pilot.Goals as goal

pub returns-then-pilot-gt5 : goal.returns-then-pilot-gt5
unfolding station_of
returns-then-pilot-gt5 c = no_pilot_lent _ _ _ _ _ _ _ (ap (λ (o : Configuration). o.good) c.config_of.ensures) c.if-pilot-gt5.true c.no_pilot.ensures
