-- From event to event.
use native.Mathlib.Omega.{arith}
use Rattle.replaying.proofs.WalkLaws.{going_start, going_end, going_stand, going_differs, going_next}
use borrow.Author.Rules.{rules}
use Rattle.replaying.proofs.first_difference.Goals as goal

pub loop-i-init : goal.loop-i-init
loop-i-init c =
    let a = c.args in
    (going_start a.station a.log.now a.count a.events a.replies c.requires.0.kept c.requires.1, search rules)

pub one_event-requires : goal.one_event-requires
one_event-requires c =
    let a = c.args in (
      record { kept = c.loop-i.invariant.0.kept; output = c.loop-i.invariant.1.0 },
      going_stand a.station a.log.now a.count a.events a.replies c.loop-i.s c.loop-i.event c.loop-i.reply c.loop-i.i c.loop-i.invariant.0 (omega arith),
    )

pub returns-in_default : goal.returns-in_default
returns-in_default c =
    let a = c.args in
    going_differs a.station a.log.now a.count a.events a.replies c.loop-i.s c.loop-i.event c.loop-i.reply c.loop-i.i c.loop-i.invariant.0 (omega arith) c.one_event.result c.one_event.ensures c.in_default.is

pub behind-event-requires : goal.behind-event-requires
behind-event-requires c =
    let a = c.args in
    let p = going_stand a.station a.log.now a.count a.events a.replies c.loop-i.s c.loop-i.event c.loop-i.reply c.loop-i.i c.loop-i.invariant.0 (omega arith) in
    omega arith

pub behind-reply-requires : goal.behind-reply-requires
behind-reply-requires c =
    let a = c.args in
    let p = going_stand a.station a.log.now a.count a.events a.replies c.loop-i.s c.loop-i.event c.loop-i.reply c.loop-i.i c.loop-i.invariant.0 (omega arith) in
    omega arith

pub loop-i-preserved : goal.loop-i-preserved
loop-i-preserved c =
    let a = c.args in (
      rw (c.behind-event.ensures, c.behind-reply.ensures)
          (going_next a.station a.log.now a.count a.events a.replies c.loop-i.s c.loop-i.event c.loop-i.reply c.loop-i.i c.loop-i.invariant.0 (omega arith) c.one_event.result c.one_event.ensures c.in-Some.next c.in-Some.is),
      search rules,
    )

pub returns : goal.returns
returns c =
    let a = c.args in
    going_end a.station a.log.now a.count a.events a.replies c.loop-i.s c.loop-i.event c.loop-i.reply c.loop-i.i c.loop-i.invariant.0 (omega arith)
