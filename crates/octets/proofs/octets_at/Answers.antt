-- `octets::octets_at` meets its contract: the octets that are there, and zeros behind them.
use lib.ListN.{get_or}
use mathlib.Core.List.{List}
use Prim.Native.Nat.{ℕ}
use mathlib.Core.Path.{ap, ◌∙◌}
use Rattle.octets.proofs.ArrayLaws.{found}
use Rattle.octets.proofs.octets_at.Goals as goal

pub returns : goal.returns
returns g c = λ i h. ap (λ (l : List ℕ). get_or l i 0) c.copy.ensures ∙ found c.args.s.now c.args.at g.row.N i h
