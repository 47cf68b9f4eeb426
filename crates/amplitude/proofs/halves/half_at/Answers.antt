-- The low half for an even place, the high one for an odd one.
use mathlib.Core.Path.{ap, ◌∙◌}
use Prim.Native.Nat.{ℕ, ◌/◌, ◌%◌}
use Rattle.amplitude.proofs.HalfLaws.{half_even, half_odd}
use Rattle.amplitude.proofs.halves.half_at.Goals as goal

pub returns-then-k-eq0 : goal.returns-then-k-eq0
returns-then-k-eq0 c = let a = c.args in ap (λ (o : ℕ). o % 16) c.octet_at-octet.ensures ∙ half_even a.s.now a.k c.if-k-eq0.true

pub returns-else-k-eq0 : goal.returns-else-k-eq0
returns-else-k-eq0 c = let a = c.args in ap (λ (o : ℕ). o / 16) c.octet_at-octet.ensures ∙ half_odd a.s.now a.k c.if-k-eq0.false
