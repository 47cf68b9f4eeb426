-- `octets::put_number` meets its contract: what is still to be written, from the last octet on.
use Prim.Native.Nat.{ℕ, ◌+◌, ◌-◌, ◌%◌, ◌/◌}
use lib.ListN.{length, length-set}
use lib.Seq.{sets}
use mathlib.Core.List.{List}
use mathlib.Core.Path.{◌≡◌, sym, ap, ◌∙◌}
use native.Mathlib.Omega.{arith}
use Rattle.octets.specs.Octets.{bytes}
use Rattle.octets.proofs.LoopLaws.{bytes_none, put_more}
use Rattle.octets.proofs.put_number.Goals as goal

pub loop-i-preserved : goal.loop-i-preserved
loop-i-preserved c =
    let a = c.args in
    let l = c.loop-i in
    let put = c.put_behind.ensures in
    let j : ℕ = l.i - 1 in
    let e : j + 1 ≡ l.i = omega arith in (
      ap length put ∙ length-set l.out (a.at + j) (l.w % 256) ∙ l.invariant.0,
      ap (λ (o : List ℕ). sets o a.at (bytes j (l.w / 256))) put ∙ put_more l.out a.at j l.w ∙ ap (λ (k : ℕ). sets l.out a.at (bytes k l.w)) e ∙ l.invariant.1,
    )

pub returns : goal.returns
returns c =
    let l = c.loop-i in
    let e : 0 ≡ l.i = omega arith in
    sym (bytes_none l.out c.args.at l.w) ∙ ap (λ (k : ℕ). sets l.out c.args.at (bytes k l.w)) e ∙ l.invariant.1
