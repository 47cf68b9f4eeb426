-- The fields one after another.
use Rattle.messages.proofs.WriteLaws.{store_encode}
use Rattle.messages.specs.Table.{payload, start_atten_char_ind}
use Rattle.messages.proofs.writer.put_start_atten_char_ind.Goals as goal

pub returns : goal.returns
returns c =
    let a = c.args in
    λ d. rw (c.put_number-5.ensures, c.put_number-4.ensures, c.put_number-3.ensures, c.put_number-2.ensures, c.put_number.ensures, c.resp_type.ensures, c.forwarding_to.ensures) (store_encode (payload a.edition start_atten_char_ind 0 d a.car) (a.attempt, (a.run, tt)) 0 a.out.now tt)
