-- The fields one after another.
use Rattle.messages.proofs.WriteLaws.{store_encode}
use Rattle.messages.specs.Table.{payload, slac_parm_cnf}
use Rattle.messages.proofs.writer.put_slac_parm_cnf.Goals as goal

pub returns : goal.returns
returns c =
    let a = c.args in
    λ f. rw (c.put_number-6.ensures, c.put_number-5.ensures, c.put_number-4.ensures, c.put_number-3.ensures, c.put_number-2.ensures, c.put_number.ensures, c.resp_type.ensures, c.forwarding_to.ensures) (store_encode (payload a.edition slac_parm_cnf 0 a.car f) (a.attempt, (a.run, tt)) 0 a.out.now tt)
