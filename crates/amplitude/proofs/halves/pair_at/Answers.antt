-- Two values of four binary digits fit an octet.
use Prim.Native.Nat.{ℕ, ◌+◌, ◌*◌}
use mathlib.Core.Path.{sym, ap₂, ◌∙◌}
use native.Mathlib.Omega.{arith}
use Rattle.amplitude.proofs.HalfLaws.{half_lt, pair_of}
use Rattle.amplitude.proofs.halves.pair_at.Goals as goal

pub overflow_mul-result : goal.overflow_mul-result
overflow_mul-result c =
    omega (arith, c.octet_at.ensures, c.octet_at-2.ensures, half_lt c.args.values.now (2 * c.args.k) c.requires.0, half_lt c.args.values.now (2 * c.args.k + 1) c.requires.0)

pub overflow_add-result : goal.overflow_add-result
overflow_add-result c =
    omega (arith, c.octet_at.ensures, c.octet_at-2.ensures, half_lt c.args.values.now (2 * c.args.k) c.requires.0, half_lt c.args.values.now (2 * c.args.k + 1) c.requires.0)

pub returns : goal.returns
returns c =
    let a = c.args in
    ap₂ (λ (x y : ℕ). x + 16 * y) c.octet_at.ensures c.octet_at-2.ensures ∙ sym (pair_of a.values.now a.k)
