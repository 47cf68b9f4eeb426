-- `words::one_record::is_validating` meets its contract: held, and by the phase that is read of its words.
use Rattle.words.proofs.RecordWords.{validating_at}
use mathlib.Core.Path.{refl, sym, ◌∙◌}
use Rattle.words.proofs.one_record.is_validating.Goals as goal

pub returns-then-is_held : goal.returns-then-is_held
returns-then-is_held c = λ s x. validating_at c.args.words.now s x c.args.i _ c.requires _ _ _ _ _ c.edition_of-edition.ensures c.later-later.ensures c.phase-phase.ensures (sym c.if-is_held.true ∙ c.is_held.ensures s x) c.validates.ensures

pub returns-else-is_held : goal.returns-else-is_held
returns-else-is_held c = λ s x. c.if-is_held.false ∙ validating_at c.args.words.now s x c.args.i _ c.requires _ _ _ _ _ c.edition_of-edition.ensures c.later-later.ensures c.phase-phase.ensures (sym c.if-is_held.false ∙ c.is_held.ensures s x) refl
