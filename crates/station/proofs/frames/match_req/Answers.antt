-- `station::frames::match_req` meets its contract, by the state.
use Rattle.messages.specs.declared.Refusal.TheVariants.{WrongState, NoRecord}
use mathlib.Core.Path.{ap, ◌∙◌}
use Rattle.messages.specs.Reading.{yes}
use Rattle.rules.specs.Frames.{confirmed}
use Rattle.rules.specs.declared.State.{State}
use Rattle.station.proofs.ComesLaws.{comes_as, comes_refused}
use Rattle.station.proofs.MatchLaws.{match_matching, match_again, match_other, match_elsewhere}
use Rattle.station.proofs.frames.match_req.Goals as goal

pub returns-in-Matching : goal.returns-in-Matching
returns-in-Matching c = let a = c.args in comes_as a.station _ _ a.out.now _ c.join.result (match_matching a.station a.car a.run a.ids.first a.ids.second _ c.in-Matching.is) c.join.ensures

pub returns-then-eq : goal.returns-then-eq
returns-then-eq c = let a = c.args in comes_as a.station _ _ a.out.now _ c.match_cnf.result (ap (λ (t : State). yes (confirmed a.station.config t a.station.records a.car a.run a.ids.first a.ids.second)) c.in-Joining.is ∙ match_again a.station a.car a.run a.ids.first a.ids.second _ _ _ c.in-Joining.is (cc)) c.match_cnf.ensures

pub returns-else-eq : goal.returns-else-eq
returns-else-eq c = let a = c.args in comes_refused a.station _ NoRecord a.out.now c.refused.result (match_other a.station a.car a.run a.ids.first a.ids.second _ _ _ c.in-Joining.is (cc)) c.refused.ensures

pub returns-in_default : goal.returns-in_default
returns-in_default c = let a = c.args in comes_refused a.station _ WrongState a.out.now c.refused-in_default.result (match_elsewhere a.station a.car a.run a.ids.first a.ids.second c.in_default.in_default-own.keys3) c.refused-in_default.ensures
