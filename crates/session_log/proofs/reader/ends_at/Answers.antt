-- The walk, from item to item.
use borrow.Author.Tests.{lt-leb, le-leb}
use native.Mathlib.Omega.{arith}
use mathlib.Core.Path.{sym, ap, ◌∙◌}
use Prim.Native.Nat.{ℕ}
use lib.Dec.{leb}
use lib.ListN.{length}
use Rattle.session_log.proofs.WalkLaws.{walked_start, walked_end, walked_past, walked_next}
use Rattle.session_log.proofs.reader.ends_at.Goals as goal

pub loop-i-init : goal.loop-i-init
loop-i-init c = walked_start c.args.log.now c.args.count c.args.from c.args.end c.requires.1

pub behind-at-requires : goal.behind-at-requires
behind-at-requires c = c.loop-i.invariant.small

pub returns-then-at-log : goal.returns-then-at-log
returns-then-at-log c =
    walked_past c.loop-i.invariant (omega arith)
    (ap (λ (k : ℕ). leb k (length c.args.log.now)) (sym c.behind-at.ensures) ∙ lt-leb _ _ c.if-at-log.true)

pub loop-i-preserved : goal.loop-i-preserved
loop-i-preserved c =
    let next = c.behind-at.ensures in
    rw next
    (walked_next c.loop-i.invariant (omega arith) c.requires.0
    (ap (λ (k : ℕ). leb k (length c.args.log.now)) (sym next) ∙ le-leb _ _ c.if-at-log.false))

pub returns : goal.returns
returns c = walked_end c.loop-i.invariant (omega arith)
