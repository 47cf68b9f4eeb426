-- `words::one_record::put_record` meets its contract: the words, sums and spread put in place are the record put in place.
use Rattle.words.proofs.HeadWords.{stored, not_stored}
use Rattle.words.proofs.RecordWords.{place}
use lib.Seq.{sets}
use mathlib.Core.Path.{ap, ◌∙◌}
use borrow.Author.Rules.{rules}
use Rattle.words.proofs.one_record.put_record.Goals as goal

pub returns-then-i-lt-RECORDS : goal.returns-then-i-lt-RECORDS
returns-then-i-lt-RECORDS c =
    let a = c.args in
    stored a.words.now a.sums.now a.spread.now a.i a.r c.requires c.if-i-lt-RECORDS.true (search rules) (search rules) (search rules) (search rules) (record { least = search rules; greatest = search rules }) _ _ _
    (c.put_words.ensures ∙ ap (sets a.words.now (place a.i)) c.record_words.ensures)
    c.put_sums.ensures
    c.put_spread.ensures

pub returns-else-i-lt-RECORDS : goal.returns-else-i-lt-RECORDS
returns-else-i-lt-RECORDS c =
    let a = c.args in
    not_stored a.words.now a.sums.now a.spread.now a.i a.r c.requires c.if-i-lt-RECORDS.false
