-- By the two searches.
use Rattle.std.proofs.Common.{ℕ, sym, ap, ap₂, ◌∙◌}
use Rattle.std.specs.Prelude.{Option}
use Rattle.records.specs.Places.{free_place, or_free, place_of}
use Rattle.words.specs.Words.{records_of}
use Rattle.words.proofs.search.find.Goals as goal

pub returns-in-Some : goal.returns-in-Some
unfolding place_of
returns-in-Some c = λ s x. ap (λ (p : Option ℕ). or_free p (free_place (records_of c.args.words.now s x))) (c.in-Some.ensures s x)

pub returns-in-Some-free_place : goal.returns-in-Some-free_place
unfolding place_of
returns-in-Some-free_place c = λ s x. ap₂ or_free (sym c.in_default.is ∙ c.own_place.ensures s x) (c.in-Some-free_place.ensures s x)

pub returns-in-None : goal.returns-in-None
unfolding place_of
returns-in-None c = λ s x. ap₂ or_free (sym c.in_default.is ∙ c.own_place.ensures s x) (c.in-None.ensures s x)
