-- By the state: 8, or the answer in Matched.
use Rattle.lahzavar.proofs.MapLaws.{map_refused, map_answered}
use borrow.Enum.Refused.{opened}
use Rattle.lahzavar.proofs.maps.map_req.Goals as goal

pub returns-in_default : goal.returns-in_default
returns-in_default c = λ s z ready. map_refused _ s z _ _ _ c.state_of.ensures _ _ (opened c.in_default.in_default-own.keys2) c.refused.ensures

pub returns : goal.returns
returns c = λ s z ready. map_answered _ s z _ _ _ c.state_of.ensures _ _ _ _ _ _ c.in-Matched.is c.config_of-config.ensures c.answer.ensures c.answered.ensures ready
