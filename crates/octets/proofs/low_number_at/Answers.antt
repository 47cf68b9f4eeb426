-- `octets::low_number_at` meets its contract: the number of the octets passed so far, from the last one on.
use Prim.Native.Nat.{◌+◌, ◌-◌, min}
use mathlib.Core.Path.{◌≡◌, sym, ap, ◌∙◌}
use native.Mathlib.Omega.{arith}
use Rattle.octets.specs.Octets.{low_value}
use Rattle.octets.proofs.LoopLaws.{low_none, low_more, low_room}
use Rattle.octets.proofs.low_number_at.Goals as goal

pub loop-i-init : goal.loop-i-init
loop-i-init c =
    let a = c.args in
    let e : 0 ≡ min a.n 8 - c.min-i.result = omega arith in
    sym (low_none a.s.now (a.at + c.min-i.result)) ∙ ap (low_value a.s.now (a.at + c.min-i.result)) e

pub overflow_mul-v : goal.overflow_mul-v
overflow_mul-v c = omega (arith, c.loop-i.invariant, low_room c.args.s.now c.args.at c.loop-i.i (min c.args.n 8) (λ i. (c.type_inv.s i).fits) (omega arith) (omega arith) (omega arith))

pub overflow_add-v : goal.overflow_add-v
overflow_add-v c = omega (arith, c.loop-i.invariant, low_room c.args.s.now c.args.at c.loop-i.i (min c.args.n 8) (λ i. (c.type_inv.s i).fits) (omega arith) (omega arith) (omega arith))

pub loop-i-preserved : goal.loop-i-preserved
loop-i-preserved c = let e = low_more c.args.s.now c.args.at c.loop-i.i (min c.args.n 8) (omega arith) (omega arith) in cc
