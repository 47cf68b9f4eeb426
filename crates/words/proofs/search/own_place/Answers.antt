-- Each place is asked.
use Rattle.std.proofs.Common.{rules, tests, refl, sym, ap, ◌∙◌}
use Rattle.std.proofs.lemmas.Iterator.{YieldsList-from_range}
use Rattle.std.proofs.lemmas.Iterator.Search.{find_from_yields_List}
use Rattle.rules.specs.Records.{holds}
use Rattle.records.specs.Places.{own_place}
use Rattle.rules.specs.Constants.{record_count}
use Rattle.words.proofs.SearchLaws.{at, by_place, place_as, place_by_place}
use Rattle.words.proofs.search.own_place.Goals as goal

pub returns : goal.returns
returns c = λ s x.
    place_as c.find.result _ (find_from_yields_List (λ i. holds c.args.car (at c.args.words.now s x i)) _ _ c.find.result c.find.ensures.ran (YieldsList-from_range 0 record_count record_count refl refl) (λ i b q k. search (rules, tests)))
    ∙ place_by_place (holds c.args.car) (at c.args.words.now s x) record_count
    ∙ sym (ap (own_place c.args.car) (by_place c.args.words.now s x))
