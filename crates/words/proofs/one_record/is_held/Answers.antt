-- `words::one_record::is_held` meets its contract: the record at the place is that of its words.
use borrow.Author.Tests.{ne_eqb}
use Rattle.words.proofs.RecordWords.{held_at}
use mathlib.Core.Path.{sym, ◌∙◌}
use Rattle.words.proofs.one_record.is_held.Goals as goal

pub returns-then-words-at-eq1 : goal.returns-then-words-at-eq1
returns-then-words-at-eq1 c = λ s x. c.is_unicast.ensures ∙ sym (held_at c.args.words.now s x c.args.i _ c.requires ∙ rw c.if-words-at-eq1.true)

pub returns-else-words-at-eq1 : goal.returns-else-words-at-eq1
returns-else-words-at-eq1 c = λ s x. sym (held_at c.args.words.now s x c.args.i _ c.requires ∙ rw (ne_eqb _ 1 c.if-words-at-eq1.false))
