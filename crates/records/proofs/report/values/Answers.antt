-- The means stored so far.
use Prim.Native.Nat.{◌+◌, ◌*◌, ◌^◌, ◌<◌, ◌/◌}
use mathlib.Core.Path.{◌≡◌, ◌∙◌}
use native.Mathlib.Omega.{arith}
use borrow.Author.Rules.{rules}
use lib.ListN.{length, get_or}
use Rattle.rules.specs.Replies.{mean}
use Rattle.rules.proofs.IndexLaws.{passed}
use Rattle.records.proofs.FillLaws.{fill_none, fill_next, fill_all}
use Rattle.records.proofs.MeanLaws.{mean_scales}
use Rattle.records.proofs.report.values.Goals as goal

pub loop-i-init : goal.loop-i-init
loop-i-init c = fill_none (mean c.args.r.profiles) c.args.r.sums _ (search rules)

inside : (c : goal.After-scaled) → c.loop-i.i < length c.args.r.sums
inside c = search rules

pub scaled-requires : goal.scaled-requires
scaled-requires c = (mean_scales c.args.r.profiles c.from-half.result c.reciprocal_of-factor.result c.args.r.sums c.from-half.ensures c.reciprocal_of-factor.ensures c.requires c.loop-i.i).0

pub bounds-values-i : goal.bounds-values-i
bounds-values-i c = omega (arith, inside c)

pub loop-i-preserved : goal.loop-i-preserved
loop-i-preserved c =
    rw (c.scaled.ensures ∙ (mean_scales c.args.r.profiles c.from-half.result c.reciprocal_of-factor.result c.args.r.sums c.from-half.ensures c.reciprocal_of-factor.ensures c.requires c.loop-i.i).1)
    (fill_next (mean c.args.r.profiles) c.args.r.sums c.loop-i.values c.loop-i.i 0 c.loop-i.invariant (inside c))

pub returns : goal.returns
returns c =
    fill_all (mean c.args.r.profiles) c.args.r.sums c.loop-i.values c.loop-i.i c.loop-i.invariant (search (rules, passed))
