-- A mean is the nearest whole number, and a half goes up.
use Prim.Native.Nat.{ℕ, ◌+◌, ◌*◌, ◌/◌, ◌%◌, ◌<◌}
use mathlib.Core.Path.{◌≡◌}
use native.Mathlib.Omega.{arith}
use native.Mathlib.Nat.{div-add-mod', mod-lt, mul_comm}
use Rattle.rules.specs.Replies.{mean}
use Rattle.rules.specs.Nearest.{MeansAreNearest}

pub means_are_nearest : MeansAreNearest
unfolding mean
means_are_nearest count sum low =
    let x : ℕ = sum + count / 2 in
    let parts : x / count * count + x % count ≡ x = div-add-mod' x count in
    let rest : x % count < count = mod-lt x low in
    let turned : count * (x / count) ≡ x / count * count = mul_comm count (x / count) in
    let halves : count / 2 * 2 + count % 2 ≡ count = div-add-mod' count 2 in
    let odd : count % 2 < 2 = mod-lt count (omega arith) in
    record { above = omega arith; below = omega arith }
