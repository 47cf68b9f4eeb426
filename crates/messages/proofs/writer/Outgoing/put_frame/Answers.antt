-- Head, payload and padding, each in a part behind the one before.
use borrow.Author.Rules.{rules}
use Prim.Native.Nat.{◌-◌}
use borrow.Rule.Slice.PartMut.{put_mid, same_len_mid}
use lib.ListN.{length-take, length-drop}
use native.Mathlib.Omega.{arith}
use Rattle.messages.proofs.WriteLaws.{full_message, parts_fit, payload_fits, frame_put}
use Rattle.messages.specs.Answers.{besides}
use Rattle.messages.specs.Private.{means}
use Rattle.messages.specs.Layout.{size}
use Rattle.messages.specs.Table.{head}
use Rattle.messages.proofs.writer.Outgoing.put_frame.Goals as goal

pub slice_bounds-put_payload-end : goal.slice_bounds-put_payload-end
slice_bounds-put_payload-end c =
    let o = c.args.self in
    let full = full_message o.edition o.message (besides o.groups o.ids) (search rules) c.requires.1.most in
    omega (arith, parts_fit (means o) full c.args.head c.requires.0 c.args.out.now c.filled_size-filled.result c.written_size-written.result c.filled_size-filled.ensures c.written_size-written.ensures c.requires.1.frame, same_len_mid 0 (size head) c.args.out.now c.put_head.new.out c.put_head.auto.out)

pub put_payload-requires : goal.put_payload-requires
put_payload-requires c =
    let o = c.args.self in
    let full = full_message o.edition o.message (besides o.groups o.ids) (search rules) c.requires.1.most in
    record { most = c.requires.1.most; payload = rw (length-take, length-drop) (omega (arith, payload_fits (means o) full c.args.head c.requires.0 c.args.out.now c.filled_size-filled.result c.written_size-written.result c.filled_size-filled.ensures c.written_size-written.ensures c.requires.1.frame, parts_fit (means o) full c.args.head c.requires.0 c.args.out.now c.filled_size-filled.result c.written_size-written.result c.filled_size-filled.ensures c.written_size-written.ensures c.requires.1.frame, same_len_mid 0 (size head) c.args.out.now c.put_head.new.out c.put_head.auto.out)) }

pub slice_bounds-put_number-end : goal.slice_bounds-put_number-end
slice_bounds-put_number-end c =
    let o = c.args.self in
    let full = full_message o.edition o.message (besides o.groups o.ids) (search rules) c.requires.1.most in
    omega (arith, parts_fit (means o) full c.args.head c.requires.0 c.args.out.now c.filled_size-filled.result c.written_size-written.result c.filled_size-filled.ensures c.written_size-written.ensures c.requires.1.frame, same_len_mid 0 (size head) c.args.out.now c.put_head.new.out c.put_head.auto.out, same_len_mid (size head) (c.filled_size-filled.result - size head) (put_mid 0 (size head) c.args.out.now c.put_head.new.out) c.put_payload.new.out c.put_payload.auto.out)

pub returns : goal.returns
returns c =
    let o = c.args.self in
    let full = full_message o.edition o.message (besides o.groups o.ids) (search rules) c.requires.1.most in
    frame_put (means o) full c.args.head c.requires.0 c.args.out.now c.filled_size-filled.result c.written_size-written.result c.filled_size-filled.ensures c.written_size-written.ensures c.requires.1.frame c.put_head.new.out c.put_payload.new.out c.put_number.new.out c.number.result c.number.ensures c.put_head.ensures c.put_payload.ensures c.put_number.ensures
