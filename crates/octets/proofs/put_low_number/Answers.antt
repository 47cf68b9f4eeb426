-- `octets::put_low_number` meets its contract: what is still to be written, from octet i on.
use Prim.Native.Nat.{ℕ, ◌+◌, ◌-◌, ◌%◌, ◌/◌}
use lib.ListN.{length, length-set}
use lib.Seq.{sets}
use mathlib.Core.List.{List}
use mathlib.Core.Path.{◌≡◌, sym, ap, ◌∙◌}
use native.Mathlib.Omega.{arith}
use Rattle.octets.specs.Octets.{low_bytes}
use Rattle.octets.proofs.LoopLaws.{low_bytes_none, put_low_more}
use Rattle.octets.proofs.put_low_number.Goals as goal

pub loop-i-preserved : goal.loop-i-preserved
loop-i-preserved c =
    let a = c.args in
    let l = c.loop-i in
    let put = c.put_behind.ensures in (
      ap length put ∙ length-set l.out (a.at + l.i) (l.w % 256) ∙ l.invariant.0,
      ap (λ (o : List ℕ). sets o (a.at + (l.i + 1)) (low_bytes (a.n - (l.i + 1)) (l.w / 256))) put ∙ put_low_more l.out a.at l.i a.n l.w (omega arith) ∙ l.invariant.1,
    )

pub returns : goal.returns
returns c =
    let a = c.args in
    let l = c.loop-i in
    let e : 0 ≡ a.n - l.i = omega arith in
    sym (low_bytes_none l.out (a.at + l.i) l.w) ∙ ap (λ (k : ℕ). sets l.out (a.at + l.i) (low_bytes k l.w)) e ∙ l.invariant.1
