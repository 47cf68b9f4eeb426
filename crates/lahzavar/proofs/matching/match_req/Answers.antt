-- By the state.
use mathlib.Core.Path.{refl, sym, ap₂, ◌∙◌}
use mathlib.Core.Bool.{Bool, ◌&&◌}
use Rattle.messages.specs.declared.Refusal.TheVariants.{NoRecord, WrongState}
use Rattle.lahzavar.proofs.FrameLaws.{comes_as, comes_refused}
use Rattle.lahzavar.proofs.MatchLaws.{ready_kept, comes_again, in_matching, in_joining, of_another, elsewhere}
use Rattle.lahzavar.proofs.matching.match_req.Goals as goal

pub confirm-requires : goal.confirm-requires
confirm-requires c =
    let a = c.args in
    (λ x y. ready_kept a.words.now a.words.now refl a.sums.now a.spread.now x y a.out.now a.car c.requires.0, c.requires.1)

pub returns-in-Matching : goal.returns-in-Matching
returns-in-Matching c =
    let a = c.args in
    comes_as _ _ a.words.now a.sums.now a.spread.now a.out.now _ _ _ _ c.join.result
    (in_matching a.words.now a.sums.now a.spread.now a.car a.run _ _ _ c.state_of.ensures _ c.in-Matching.is) c.join.ensures

pub returns-then-eq : goal.returns-then-eq
returns-then-eq c =
    let a = c.args in
    let state = c.state_of.ensures in
    comes_as _ _ a.words.now a.sums.now a.spread.now a.out.now _ _ _ _ c.confirm.result
    (in_joining a.words.now a.sums.now a.spread.now a.car a.run _ _ _ state _ _ _ c.in-Joining.is (sym (ap₂ (λ (x y : Bool). x && y) c.eq.ensures c.eq-in-Joining.ensures) ∙ c.if-eq.true))
    (comes_again a.words.now a.sums.now a.spread.now a.out.now _ _ c.confirm.result a.car a.run a.octets.now _ refl c.confirm.ensures refl _ (sym state ∙ c.in-Joining.is))

pub returns-else-eq : goal.returns-else-eq
returns-else-eq c =
    let a = c.args in
    comes_refused _ NoRecord a.words.now a.sums.now a.spread.now a.out.now c.refused.result
    (of_another a.words.now a.sums.now a.spread.now a.car a.run _ _ _ c.state_of.ensures _ _ _ c.in-Joining.is (sym (ap₂ (λ (x y : Bool). x && y) c.eq.ensures c.eq-in-Joining.ensures) ∙ c.if-eq.false)) c.refused.ensures

pub returns-in_default : goal.returns-in_default
returns-in_default c =
    let a = c.args in
    comes_refused _ WrongState a.words.now a.sums.now a.spread.now a.out.now c.refused-in_default.result
    (elsewhere a.words.now a.sums.now a.spread.now a.car a.run _ _ _ c.state_of.ensures c.in_default.in_default-own.keys3) c.refused-in_default.ensures
