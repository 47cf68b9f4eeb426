-- `octets::number_of_six` meets its contract: the number of four octets and of the two behind them.
use Prim.Native.Nat.{ℕ, ◌+◌, ◌*◌}
use mathlib.Core.Path.{ap₂, ◌∙◌}
use Rattle.octets.proofs.ArrayLaws.{six_value}
use Rattle.octets.proofs.number_of_six.Goals as goal

pub returns : goal.returns
returns c =
    ap₂ (λ (x y : ℕ). x * 65536 + y) (c.from.ensures ∙ c.from_be_bytes.ensures) (c.from-2.ensures ∙ c.from_be_bytes-2.ensures)
    ∙ six_value c.octets_at.result c.args.s.now c.args.at c.octets_at.ensures
