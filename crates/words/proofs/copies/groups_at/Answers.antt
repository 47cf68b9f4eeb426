-- `words::copies::groups_at` meets its contract: the whole array is filled.
use Prim.Native.Nat.{◌+◌, ◌-◌}
use native.Mathlib.Omega.{arith}
use Rattle.messages.specs.Table.{group_count}
use Rattle.words.proofs.CopyLaws.{groups_read}
use borrow.Author.Rules.{rules}
use Rattle.words.proofs.copies.groups_at.Goals as goal

pub returns : goal.returns
returns c = groups_read c.args.spread.now _ _ c.args.at (c.args.at + group_count - c.args.at) (omega arith) (omega arith) (search rules) c.copy.ensures
