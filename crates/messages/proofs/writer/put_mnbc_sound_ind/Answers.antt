-- The fields one after another.
use borrow.Author.Rules.{rules}
use Rattle.messages.proofs.WriteLaws.{store_encode}
use Rattle.messages.specs.Table.{payload, mnbc_sound_ind}
use Rattle.messages.proofs.writer.put_mnbc_sound_ind.Goals as goal

pub returns : goal.returns
returns c =
    let a = c.args in
    λ e d f. rw (c.put_number-6.ensures, c.put_number-5.ensures, c.put_number-4.ensures, c.put_number-3.ensures, c.put_number-2.ensures, c.from.ensures, c.put_id.ensures, c.put_number.ensures) (store_encode (payload e mnbc_sound_ind 0 d f) (a.first, (a.count, (a.run, (a.random.0, (a.random.1, tt))))) 0 a.out.now (search rules, tt))
