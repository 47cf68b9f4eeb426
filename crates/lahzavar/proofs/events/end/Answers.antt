-- By the state that there was.
use mathlib.Core.Path.{ap, ◌∙◌}
use Rattle.rules.specs.Events.{lost}
use Rattle.lahzavar.proofs.EventLaws.{frees_as}
use Rattle.lahzavar.proofs.events.end.Goals as goal

pub returns : goal.returns
returns c = frees_as _ _ _ _ _ _ _ _ (c.lost-indication.ensures ∙ ap lost c.state_of.ensures) c.free.ensures
