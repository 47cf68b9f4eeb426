-- The fields one after another.
use Rattle.messages.proofs.WriteLaws.{store_encode}
use Rattle.messages.specs.Table.{head}
use Rattle.messages.proofs.heads.put_head.Goals as goal

pub returns : goal.returns
returns c =
    let a = c.args in
    rw (c.put_number-4.ensures, c.put_low_number.ensures, c.put_number-3.ensures, c.put_number-2.ensures, c.put_number.ensures) (store_encode head (a.dst, (a.src, (a.number, tt))) 0 a.out.now tt)
