-- `words::copies::limited_at` meets its contract: so many sums are copied, each at most the most.
use Prim.Native.Nat.{min}
use Rattle.octets.specs.Octets.{part}
use Rattle.messages.specs.Table.{group_count}
use Rattle.words.proofs.CopyLaws.{changed_next, changed_end}
use borrow.Author.Rules.{rules}
use mathlib.Core.List.{map}
use mathlib.Core.Path.{ap, ◌∙◌}
use native.Mathlib.Omega.{arith}
use Rattle.words.proofs.copies.limited_at.Goals as goal

pub loop-i-init : goal.loop-i-init
loop-i-init c = record { turns = search rules; size = search rules; done = search rules }

pub loop-i-preserved : goal.loop-i-preserved
loop-i-preserved c =
    let a = c.args in
    changed_next _ a.sums.now a.at group_count c.loop-i.r c.loop-i.i _ c.loop-i.invariant (omega arith) (omega arith) (omega (arith, c.min.ensures))

pub returns : goal.returns
returns c =
    let a = c.args in
    changed_end _ a.sums.now a.at group_count _ _ c.loop-i.invariant (omega arith) ∙ ap (λ m. map (min m) (part a.sums.now a.at group_count)) c.most_sum-most.ensures
