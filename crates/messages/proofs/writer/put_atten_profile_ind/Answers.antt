-- The fields one after another.
use borrow.Author.Rules.{rules}
use Rattle.messages.proofs.WriteLaws.{store_encode}
use lib.ListN.{length}
use mathlib.Core.Path.{◌≡◌}
use native.Mathlib.Omega.{arith}
use Rattle.messages.specs.Table.{group_count, payload, atten_profile_ind}
use Rattle.messages.proofs.writer.put_atten_profile_ind.Goals as goal

pub returns : goal.returns
returns c =
    let a = c.args in
    λ e d f. rw (c.put_groups.ensures, c.put_number-3.ensures, c.put_number-2.ensures, c.put_number.ensures) (store_encode (payload e atten_profile_ind a.count d f) (a.car, (a.groups, tt)) 0 a.out.now (let n : length a.groups ≡ group_count = search rules in omega (arith, c.requires), tt))
