-- By the two tests of the head, and the room; then the frame.
use Rattle.std.proofs.lemmas.Result.{err_from_is_err_and}
use Prim.Native.Nat.{◌≤◌}
use borrow.Author.Rules.{rules}
use lib.ListN.{length}
use mathlib.Core.Path.{◌≡◌, ap, ap₂, ◌∙◌}
use native.Mathlib.Omega.{arith}
use Rattle.messages.proofs.WriteLaws.{refused, too_short, full_message, limited_most, writes, written}
use Rattle.messages.specs.Answers.{message_of, besides}
use Rattle.messages.specs.Reading.{yes}
use Rattle.messages.specs.Table.{written_size}
use Rattle.messages.specs.Writing.{length_in}
use Rattle.messages.proofs.write.Goals as goal

pub written_size-written-requires : goal.written_size-written-requires
written_size-written-requires c =
    let j = c.in_ok-head.ensures in
    omega (arith, j.heads.count, limited_most (message_of c.args.edition c.args.message (besides c.args.groups c.args.ids)) j.limited)

pub put_frame-requires : goal.put_frame-requires
put_frame-requires c =
    let m = message_of c.args.edition c.args.message (besides c.args.groups c.args.ids) in
    let j = c.in_ok-head.ensures in
    let n : c.written_size-written.result ≡ length_in m = c.written_size-written.ensures ∙ ap₂ written_size j.heads.kind j.heads.count in
    (j.heads, record { most = limited_most m j.limited; frame = omega (arith, n, c.if-out-written.false) })

pub returns-in_err-head : goal.returns-in_err-head
returns-in_err-head c =
    let p = err_from_is_err_and c.from_residual.result c.from_residual.ensures.1 in
    let r = refused (message_of c.args.edition c.args.message (besides c.args.groups c.args.ids)) c.args.out.now _ c.in_err-head.ensures in
    rw (p.1, p.2) (record { result_value = r.0; out_after = r.1 })

pub returns-then-out-written : goal.returns-then-out-written
returns-then-out-written c =
    let m = message_of c.args.edition c.args.message (besides c.args.groups c.args.ids) in
    let j = c.in_ok-head.ensures in
    let n : c.written_size-written.result ≡ length_in m = c.written_size-written.ensures ∙ ap₂ written_size j.heads.kind j.heads.count in
    let r = too_short m c.args.out.now j.addressed j.limited (omega (arith, n, c.if-out-written.true)) in
    record { result_value = r.0; out_after = r.1 }

pub returns : goal.returns
returns c =
    let m = message_of c.args.edition c.args.message (besides c.args.groups c.args.ids) in
    let j = c.in_ok-head.ensures in
    let n : c.written_size-written.result ≡ length_in m = c.written_size-written.ensures ∙ ap₂ written_size j.heads.kind j.heads.count in
    let room : length_in m ≤ length c.args.out.now = omega (arith, n, c.if-out-written.false) in
    let full = full_message c.args.edition c.args.message (besides c.args.groups c.args.ids) (search rules) (limited_most m j.limited) in
    let w = written m full c.args.out.now (writes m c.args.out.now j.addressed j.limited room) room in
    record { result_value = ap yes n ∙ w.0; out_after = c.put_frame.ensures ∙ w.1 }
