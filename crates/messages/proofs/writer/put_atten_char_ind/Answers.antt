-- The fields one after another.
use borrow.Author.Rules.{rules}
use Rattle.messages.proofs.WriteLaws.{store_encode}
use lib.ListN.{length}
use mathlib.Core.Path.{◌≡◌}
use native.Mathlib.Omega.{arith}
use Rattle.messages.specs.Table.{group_count, payload, atten_char_ind}
use Rattle.messages.proofs.writer.put_atten_char_ind.Goals as goal

pub returns : goal.returns
returns c =
    let a = c.args in
    λ e f. rw (c.put_groups.ensures, c.put_number-5.ensures, c.put_number-4.ensures, c.from.ensures, c.put_id-2.ensures, c.put_id.ensures, c.put_number-3.ensures, c.put_number-2.ensures, c.put_number.ensures) (store_encode (payload e atten_char_ind a.count a.car f) (a.run, (a.ids.first, (a.ids.second, (a.sounds, (a.groups, tt))))) 0 a.out.now (search rules, (search rules, (let n : length a.groups ≡ group_count = search rules in omega (arith, c.requires), tt))))
