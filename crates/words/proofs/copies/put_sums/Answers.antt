-- `words::copies::put_sums` meets its contract: so much is copied so far.
use Rattle.ends.proofs.CopyLaws.{copied_start, copied_next, copied_end}
use native.Mathlib.Omega.{arith}
use borrow.Author.Rules.{rules}
use lib.ListN.{length}
use Prim.Native.Nat.{◌<◌, ◌≤◌}
use Rattle.rules.proofs.IndexLaws.{passed}
use Rattle.words.proofs.copies.put_sums.Goals as goal

pub loop-i-init : goal.loop-i-init
loop-i-init c = copied_start _ _ _

pub loop-i-preserved : goal.loop-i-preserved
loop-i-preserved c =
    let inside : c.loop-i.i < length c.args.own.now = search rules in
    copied_next _ _ _ _ _ c.loop-i.invariant inside

pub returns : goal.returns
returns c =
    let all : length c.args.own.now ≤ c.loop-i.i = search (rules, passed) in
    copied_end _ _ _ _ _ c.loop-i.invariant all
