-- By the state, and by the place that was found.
use mathlib.Core.Path.{sym, ◌∙◌}
use Rattle.station.proofs.OwnLaws.{other_state, place_own, place_none}
use borrow.Enum.Refused.{opened}
use Rattle.station.proofs.frames.own_place.Goals as goal

pub returns-in_default : goal.returns-in_default
returns-in_default c = other_state c.args.state _ (opened c.in_default.in_default-own.keys2)

pub returns-in-Own : goal.returns-in-Own
returns-in-Own c = place_own c.args.state _ _ _ c.in-Matching.is (sym c.find.ensures ∙ c.in-Own.is)

pub returns-in_default-find : goal.returns-in_default-find
returns-in_default-find c = place_none c.args.state _ _ c.find.result c.in-Matching.is c.find.ensures (opened c.in_default-find.in_default-find-own.keys2)
