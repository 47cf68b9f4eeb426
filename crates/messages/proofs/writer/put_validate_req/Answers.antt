-- The fields one after another.
use Rattle.messages.proofs.WriteLaws.{store_encode}
use Rattle.messages.specs.Table.{payload, validate_req}
use Rattle.messages.proofs.writer.put_validate_req.Goals as goal

pub returns : goal.returns
returns c =
    let a = c.args in
    λ e d f. rw (c.put_number-2.ensures, c.put_low_number.ensures, c.from.ensures, c.put_number.ensures) (store_encode (payload e validate_req 0 d f) (a.timer, tt) 0 a.out.now tt)
