-- The invariant says which values are stored.
use Prim.Native.Nat.{◌<◌}
use mathlib.Core.Path.{refl}
use native.Mathlib.Omega.{arith}
use lib.ListN.{length, take}
use Rattle.amplitude.specs.Halves.{halves}
use Rattle.amplitude.proofs.RunLaws.{stored_more, stored_all}
use Rattle.amplitude.proofs.HalfLaws.{length_first, first_at}
use Rattle.amplitude.proofs.halves.unpack.Goals as goal

pub loop-i-init : goal.loop-i-init
loop-i-init c = record { size = refl; same = refl }

pub loop-i-preserved : goal.loop-i-preserved
loop-i-preserved c =
    let a = c.args in
    let h : c.loop-i.i < length (take a.n (halves a.s.now)) = omega (arith, c.loop-i-test.true, length_first a.s.now a.n c.requires.0) in
    stored_more (take a.n (halves a.s.now)) a.out.now 0 c.loop-i.out c.loop-i.i c.loop-i.i c.half_at.result h (omega arith) (first_at a.s.now a.n c.loop-i.i c.half_at.result c.loop-i-test.true c.half_at.ensures) c.loop-i.invariant

pub returns : goal.returns
returns c =
    let a = c.args in
    stored_all (take a.n (halves a.s.now)) a.out.now 0 c.loop-i.out c.loop-i.i (omega (arith, c.loop-i-test.false, length_first a.s.now a.n c.requires.0)) c.loop-i.invariant
