-- `octets::number_by_octets` meets its contract: the number of the octets passed so far.
use mathlib.Core.Path.{sym}
use native.Mathlib.Omega.{arith}
use Rattle.octets.proofs.LoopLaws.{value_none, value_more, value_room}
use Rattle.octets.proofs.number_by_octets.Goals as goal

pub loop-i-init : goal.loop-i-init
loop-i-init c = sym (value_none c.args.s.now c.args.at)

pub overflow_mul-v : goal.overflow_mul-v
overflow_mul-v c = omega (arith, c.loop-i.invariant, value_room c.args.s.now c.args.at c.loop-i.i c.args.n (λ i. (c.type_inv.s i).fits) (omega arith) (omega arith))

pub overflow_add-v : goal.overflow_add-v
overflow_add-v c = omega (arith, c.loop-i.invariant, value_room c.args.s.now c.args.at c.loop-i.i c.args.n (λ i. (c.type_inv.s i).fits) (omega arith) (omega arith))

pub loop-i-preserved : goal.loop-i-preserved
loop-i-preserved c = cc (value_more c.args.s.now c.args.at c.loop-i.i)
