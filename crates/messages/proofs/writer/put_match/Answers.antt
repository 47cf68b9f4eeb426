-- The fields one after another.
use borrow.Author.Rules.{rules}
use mathlib.Core.List.{[]}
use Rattle.messages.proofs.WriteLaws.{store_encode}
use Rattle.messages.specs.Table.{match_fields}
use Rattle.messages.proofs.writer.put_match.Goals as goal

pub returns : goal.returns
returns c =
    let a = c.args in
    λ e. rw (c.put_number-6.ensures, c.put_number-5.ensures, c.put_number-4.ensures, c.put_id-2.ensures, c.put_number-3.ensures, c.put_id.ensures, c.put_number-2.ensures, c.put_number.ensures) (store_encode (match_fields e a.mvflength a.car a.station []) (a.ids.first, (a.ids.second, (a.run, tt))) 0 a.out.now (search rules, (search rules, tt)))
