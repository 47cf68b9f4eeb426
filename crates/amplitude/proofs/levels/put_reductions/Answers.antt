-- The invariant says which reductions are stored.
use Prim.Native.Nat.{◌<◌}
use mathlib.Core.Path.{refl}
use native.Mathlib.Omega.{arith}
use lib.ListN.{length}
use Rattle.amplitude.specs.Reductions.{reductions}
use Rattle.amplitude.proofs.RunLaws.{stored_more, stored_all}
use Rattle.amplitude.proofs.HalfLaws.{half_lt}
use Rattle.amplitude.proofs.LevelLaws.{level_at, length_reductions, reduced_at}
use Rattle.amplitude.proofs.levels.put_reductions.Goals as goal

pub loop-i-init : goal.loop-i-init
loop-i-init c = record { size = refl; same = refl }

pub lowered-requires : goal.lowered-requires
lowered-requires c =
    let i = c.loop-i.i in
    (half_lt c.args.values.now i c.requires.values_value.0, level_at c.args.levels.now i c.lowered-arg-1.given c.requires.values_value.1)

pub loop-i-preserved : goal.loop-i-preserved
loop-i-preserved c =
    let vs = c.args.values.now in
    let ls = c.args.levels.now in
    let t = c.loop-i-test.true in
    let h : c.loop-i.i < length (reductions vs ls) = omega (arith, t, length_reductions vs ls c.requires.values_len.0) in
    stored_more (reductions vs ls) c.args.out.now 0 c.loop-i.out c.loop-i.i c.loop-i.i c.lowered.result h (omega arith) (reduced_at vs ls c.loop-i.i c.lowered.result t c.requires.values_len.0 c.lowered-arg-1.given c.lowered.ensures) c.loop-i.invariant

pub returns : goal.returns
returns c =
    let vs = c.args.values.now in
    let ls = c.args.levels.now in
    stored_all (reductions vs ls) c.args.out.now 0 c.loop-i.out c.loop-i.i (omega (arith, c.loop-i-test.false, length_reductions vs ls c.requires.values_len.0)) c.loop-i.invariant
