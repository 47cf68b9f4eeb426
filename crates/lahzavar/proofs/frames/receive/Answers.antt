-- By what judging gives: refused as one of the eleven messages, or the car's request.
use mathlib.Core.Path.{refl}
use Rattle.lahzavar.proofs.FrameLaws.{frame_unread, frame_lent, frame_ready, frame_octets_lem}
use Rattle.lahzavar.proofs.frames.receive.Goals as goal

pub unread-requires : goal.unread-requires
unread-requires c =
    let a = c.args in
    let us = c.identity_of-us.ensures in
    frame_unread a.words.now a.sums.now a.spread.now a.octets.now a.out.now _ c.judge.result us c.judge.ensures _ c.in-Err.is

pub parm_req-requires : goal.parm_req-requires
parm_req-requires c =
    let a = c.args in
    let us = c.identity_of-us.ensures in
    frame_ready a.words.now a.sums.now a.spread.now a.octets.now a.out.now _ c.judge.result us c.judge.ensures _ c.in-Ok.is _ refl

pub at_own-requires : goal.at_own-requires
at_own-requires c =
    let a = c.args in
    let us = c.identity_of-us.ensures in
    (frame_ready a.words.now a.sums.now a.spread.now a.octets.now a.out.now _ c.judge.result us c.judge.ensures _ c.in-Ok.is _ c.in-Own.is, frame_octets_lem a.words.now a.sums.now a.spread.now a.octets.now a.out.now _ c.judge.result us c.judge.ensures _ c.in-Ok.is _ c.in-Own.is (λ i. (c.shared_slice_known-1.given i).fits))

pub match_req-requires : goal.match_req-requires
match_req-requires c =
    let a = c.args in
    let us = c.identity_of-us.ensures in
    (frame_ready a.words.now a.sums.now a.spread.now a.octets.now a.out.now _ c.judge.result us c.judge.ensures _ c.in-Ok.is _ c.in-Match.is, frame_octets_lem a.words.now a.sums.now a.spread.now a.octets.now a.out.now _ c.judge.result us c.judge.ensures _ c.in-Ok.is _ c.in-Match.is (λ i. (c.shared_slice_known-1.given i).fits))

pub validate_first-requires : goal.validate_first-requires
validate_first-requires c =
    let a = c.args in
    let us = c.identity_of-us.ensures in
    frame_ready a.words.now a.sums.now a.spread.now a.octets.now a.out.now _ c.judge.result us c.judge.ensures _ c.in-Ok.is _ refl

pub returns-in-Err : goal.returns-in-Err
returns-in-Err c = let a = c.args in c.unread.ensures a.sums.now a.spread.now

pub returns-in-Parm : goal.returns-in-Parm
returns-in-Parm c =
    let a = c.args in
    let us = c.identity_of-us.ensures in
    frame_lent a.words.now a.sums.now a.spread.now a.octets.now a.out.now _ c.judge.result us c.judge.ensures _ c.in-Ok.is _ c.in-Parm.is _ _ _ _ c.parm_req.result c.parm_req.ensures

pub returns-in-Own : goal.returns-in-Own
returns-in-Own c =
    let a = c.args in
    let us = c.identity_of-us.ensures in
    frame_lent a.words.now a.sums.now a.spread.now a.octets.now a.out.now _ c.judge.result us c.judge.ensures _ c.in-Ok.is _ c.in-Own.is _ _ _ _ c.at_own.result c.at_own.ensures

pub returns-in-Match : goal.returns-in-Match
returns-in-Match c =
    let a = c.args in
    let us = c.identity_of-us.ensures in
    frame_lent a.words.now a.sums.now a.spread.now a.octets.now a.out.now _ c.judge.result us c.judge.ensures _ c.in-Ok.is _ c.in-Match.is _ _ _ _ c.match_req.result c.match_req.ensures

pub returns-in-ValidateFirst : goal.returns-in-ValidateFirst
returns-in-ValidateFirst c =
    let a = c.args in
    let us = c.identity_of-us.ensures in
    frame_lent a.words.now a.sums.now a.spread.now a.octets.now a.out.now _ c.judge.result us c.judge.ensures _ c.in-Ok.is _ c.in-ValidateFirst.is _ _ _ _ c.validate_first.result c.validate_first.ensures
