-- The fields one after another.
use borrow.Author.Rules.{rules}
use Rattle.messages.proofs.WriteLaws.{store_encode}
use Rattle.messages.specs.Table.{payload, atten_char_rsp}
use Rattle.messages.proofs.writer.put_atten_char_rsp.Goals as goal

pub returns : goal.returns
returns c =
    let a = c.args in
    λ e d. rw (c.put_number-4.ensures, c.put_id-2.ensures, c.put_id.ensures, c.put_number-3.ensures, c.put_number-2.ensures, c.put_number.ensures) (store_encode (payload e atten_char_rsp 0 d a.car) (a.run, (a.ids.first, (a.ids.second, tt))) 0 a.out.now (search rules, (search rules, tt)))
