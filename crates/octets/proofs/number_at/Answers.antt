-- `octets::number_at` meets its contract, by the width of the number.
use Prim.Native.Nat.{min}
use mathlib.Core.Path.{◌≡◌, ap, ◌∙◌}
use native.Mathlib.Omega.{arith}
use Rattle.octets.specs.Octets.{value}
use Rattle.octets.proofs.ArrayLaws.{pair_value, four_value, eight_value}
use Rattle.octets.proofs.number_at.Goals as goal

pub returns-in-2 : goal.returns-in-2
returns-in-2 c =
    let e : 2 ≡ min c.args.n 8 = omega arith in
    c.from.ensures ∙ c.from_be_bytes.ensures ∙ pair_value c.octets_at.result c.args.s.now c.args.at c.octets_at.ensures ∙ ap (value c.args.s.now c.args.at) e

pub returns-in-4 : goal.returns-in-4
returns-in-4 c =
    let e : 4 ≡ min c.args.n 8 = omega arith in
    c.from-in-4.ensures ∙ c.from_be_bytes-in-4.ensures ∙ four_value c.octets_at-in-4.result c.args.s.now c.args.at c.octets_at-in-4.ensures ∙ ap (value c.args.s.now c.args.at) e

pub returns-in-8 : goal.returns-in-8
returns-in-8 c =
    let e : 8 ≡ min c.args.n 8 = omega arith in
    c.from_be_bytes-in-8.ensures ∙ eight_value c.octets_at-in-8.result c.args.s.now c.args.at c.octets_at-in-8.ensures ∙ ap (value c.args.s.now c.args.at) e
