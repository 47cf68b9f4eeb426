-- The invariant says which octets are stored.
use Prim.Native.Nat.{◌<◌, ◌+◌}
use mathlib.Core.Path.{refl}
use native.Mathlib.Omega.{arith}
use lib.ListN.{length}
use Rattle.amplitude.specs.Halves.{packed}
use Rattle.amplitude.proofs.RunLaws.{stored_more, stored_all}
use Rattle.amplitude.proofs.HalfLaws.{length_packed}
use Rattle.amplitude.proofs.halves.pack.Goals as goal

pub loop-i-init : goal.loop-i-init
loop-i-init c = record { size = refl; same = refl }

pub loop-i-preserved : goal.loop-i-preserved
loop-i-preserved c =
    let a = c.args in
    let h : c.loop-i.i < length (packed a.values.now) = omega (arith, c.loop-i-test.true, c.octets_for-i-end.ensures, length_packed a.values.now) in
    stored_more (packed a.values.now) a.out.now a.at c.loop-i.out c.loop-i.i (a.at + c.loop-i.i) c.pair_at.result h refl c.pair_at.ensures c.loop-i.invariant

pub returns : goal.returns
returns c =
    let a = c.args in
    stored_all (packed a.values.now) a.out.now a.at c.loop-i.out c.loop-i.i (omega (arith, c.loop-i-test.false, c.octets_for-i-end.ensures, length_packed a.values.now)) c.loop-i.invariant
