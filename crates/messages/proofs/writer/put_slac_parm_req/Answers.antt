-- The fields one after another.
use Rattle.messages.proofs.WriteLaws.{store_encode}
use Rattle.messages.specs.Table.{payload, slac_parm_req}
use Rattle.messages.proofs.writer.put_slac_parm_req.Goals as goal

pub returns : goal.returns
returns c =
    let a = c.args in
    λ e d f. rw (c.put_number-2.ensures, c.put_number.ensures) (store_encode (payload e slac_parm_req 0 d f) (a.run, tt) 0 a.out.now tt)
