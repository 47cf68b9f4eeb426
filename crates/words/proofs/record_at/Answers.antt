-- `words::record_at` meets its contract: the record is read at a place that there is.
use Rattle.rules.specs.Invariant.{GoodRecord}
use Rattle.rules.specs.Rules.{free_record}
use Rattle.words.specs.Words.{edition_in, records_of}
use Rattle.words.proofs.Meant.{at_meant}
use lib.ListN.{get_or}
use mathlib.Core.Path.{◌≡◌, sym, ap, ◌∙◌, subst}
use Prim.Native.Nat.{ℕ}
use Rattle.words.proofs.record_at.Goals as goal

pub returns : goal.returns
returns c =
    let a = c.args in
    let e : _ ≡ get_or (records_of a.words.now a.sums.now a.spread.now) _ free_record = c.read.ensures ∙ ap (λ (k : ℕ). get_or (records_of a.words.now a.sums.now a.spread.now) k free_record) c.min.ensures in
    (e, subst (GoodRecord (edition_in a.words.now)) (sym e) (at_meant a.words.now a.sums.now a.spread.now _))
