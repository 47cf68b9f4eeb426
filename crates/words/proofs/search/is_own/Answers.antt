-- `words::search::is_own` meets its contract: by the record's car.
use mathlib.Core.Path.{◌∙◌, refl, sym}
use Rattle.words.proofs.SearchLaws.{holds_by}
use Rattle.words.proofs.search.is_own.Goals as goal

pub returns-then-eq : goal.returns-then-eq
returns-then-eq c s x = holds_by _ _ _ _ _ (c.car_at.ensures s x) (sym c.eq.ensures ∙ c.if-eq.true) (c.is_held.ensures s x)

pub returns-else-eq : goal.returns-else-eq
returns-else-eq c s x = c.if-eq.false ∙ holds_by _ _ _ _ _ (c.car_at.ensures s x) (sym c.eq.ensures ∙ c.if-eq.false) refl
