-- `words::search::any_validates` meets its contract: each place is asked.
use Rattle.std.proofs.Common.{rules, tests, refl, sym, ap, ◌∙◌}
use Rattle.std.proofs.lemmas.Iterator.{YieldsList-from_range}
use Rattle.std.proofs.lemmas.Iterator.Search.{any_from_yields_List}
use Rattle.rules.specs.Validation.{is_validating, any_validates}
use Rattle.std.specs.List.{range_with_len}
use Rattle.rules.specs.Constants.{record_count}
use Rattle.words.proofs.SearchLaws.{at, by_place, any_by_place}
use Rattle.words.proofs.search.any_validates.Goals as goal

pub returns : goal.returns
returns c = λ s x.
    any_from_yields_List (λ i. is_validating (at c.args.words.now s x i)) _ _ _ c.any.ensures.ran (YieldsList-from_range 0 record_count record_count refl refl) (λ i b q k. search (rules, tests))
    ∙ any_by_place (at c.args.words.now s x) (range_with_len 0 record_count)
    ∙ sym (ap any_validates (by_place c.args.words.now s x))
