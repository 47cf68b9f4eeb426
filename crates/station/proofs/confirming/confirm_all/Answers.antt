-- The confirmations sent so far.
use Prim.Native.Nat.{◌<◌}
use native.Mathlib.Omega.{arith}
use borrow.Author.Rules.{rules}
use lib.ListN.{length}
use Rattle.rules.proofs.IndexLaws.{passed}
use Rattle.station.proofs.SentLoopLaws.{send_none, send_all}
use Rattle.station.proofs.ConfirmLaws.{confirm_none, confirm_sendable, confirm_limited, confirm_room, confirm_part, confirm_one}
use Rattle.station.proofs.confirming.confirm_all.Goals as goal
use Rattle.station.proofs.confirming.confirm_all.Goals.{in-Some, in_default}

pub loop-i-init : goal.loop-i-init
loop-i-init c = send_none _ _ _ _

pub overflow_mul-at : goal.overflow_mul-at
overflow_mul-at c =
    let inside : c.loop-i.i < length c.args.records = search rules in
    omega (arith, confirm_room _ _ _ _ _ _ _ _ c.loop-i.invariant _ inside _ c.confirmation_of.ensures c.requires _ c.in-Some.is)

pub slice_bounds-confirm-count : goal.slice_bounds-confirm-count
slice_bounds-confirm-count c =
    let inside : c.loop-i.i < length c.args.records = search rules in
    omega (arith, confirm_room _ _ _ _ _ _ _ _ c.loop-i.invariant _ inside _ c.confirmation_of.ensures c.requires _ c.in-Some.is)

pub slice_bounds-confirm-start : goal.slice_bounds-confirm-start
slice_bounds-confirm-start c =
    let inside : c.loop-i.i < length c.args.records = search rules in
    omega (arith, confirm_room _ _ _ _ _ _ _ _ c.loop-i.invariant _ inside _ c.confirmation_of.ensures c.requires _ c.in-Some.is)

pub confirm-requires : goal.confirm-requires
confirm-requires c =
    let inside : c.loop-i.i < length c.args.records = search rules in
    (confirm_sendable _ _ _ _ _ _ _ _ c.loop-i.invariant _ inside _ c.confirmation_of.ensures c.requires _ c.in-Some.is, (confirm_limited _ _ _ _ _ _ _ _ c.loop-i.invariant _ inside _ c.confirmation_of.ensures c.requires _ c.in-Some.is, confirm_part _ _ _ _ _ _ _ _ c.loop-i.invariant _ inside _ c.confirmation_of.ensures c.requires _ c.in-Some.is))

pub overflow_add-sent : goal.overflow_add-sent
overflow_add-sent c =
    let inside : c.loop-i.i < length c.args.records = search rules in
    omega (arith, confirm_room _ _ _ _ _ _ _ _ c.loop-i.invariant _ inside _ c.confirmation_of.ensures c.requires _ c.in-Some.is)

pub loop-i-preserved : goal.loop-i-preserved
loop-i-preserved c =
    let inside : c.loop-i.i < length c.args.records = search rules in
    let w = c.loop-i.invariant in
    let h = inside in
    elim c.match-confirmation_of.branch [
      | in_default b ↦ rw (b.out-is, b.sent-is) (confirm_none _ _ _ _ _ _ _ _ w _ h _ c.confirmation_of.ensures b.in_default.is)
      | in-Some b ↦ rw (b.out-is, b.sent-is) (confirm_one _ _ _ _ _ _ _ _ w _ h _ c.confirmation_of.ensures c.requires _ b.in-Some.is b.confirm.new.out b.confirm.ensures b.confirm.auto.out)
    ]

pub shape_of-out : goal.shape_of-out
shape_of-out c = c.loop-i.invariant.long

pub returns : goal.returns
returns c = send_all _ _ _ _ _ _ _ _ c.loop-i.invariant (search (rules, passed))
