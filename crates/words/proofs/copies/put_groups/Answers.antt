-- `words::copies::put_groups` meets its contract: a part is filled.
use Prim.Native.Nat.{◌+◌, ◌-◌}
use native.Mathlib.Omega.{arith}
use Rattle.messages.specs.Table.{group_count}
use Rattle.words.proofs.CopyLaws.{groups_stored}
use borrow.Author.Rules.{rules}
use Rattle.words.proofs.copies.put_groups.Goals as goal

pub returns : goal.returns
returns c = groups_stored c.args.own c.args.spread.now _ c.args.at (c.args.at + group_count - c.args.at) (omega arith) (omega arith) (search rules) c.copy.ensures
