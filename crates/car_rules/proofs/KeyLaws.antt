-- The key query, by the tests that its code makes.
use mathlib.Core.Path.{◌≡◌, refl, sym, ap, ◌∙◌}
use mathlib.Core.Bool.{true}
use mathlib.Core.List.{[], ◌∷◌}
use types.Run.{OneOf, miss}
use denote.Enum.Declared.{tag_of}
use Rattle.messages.specs.Reading.{no}
use Rattle.messages.proofs.CheckLaws.{pass}
use Rattle.car_rules.specs.declared.Car.{Car}
use Rattle.car_rules.specs.declared.State.{State}
use Rattle.car_rules.specs.declared.State.TheVariants.{Idle, Asking, Confirmed, Sounding, Requesting, Joining, Matched}
use Rattle.car_rules.specs.Rules.{key_in, key_query}
use Rattle.car_rules.specs.contracts.State.{the_type}

no_key : (st : State) → OneOf (0 ∷ 1 ∷ 2 ∷ 3 ∷ 4 ∷ []) (tag_of the_type st) → key_in st ≡ no 8
no_key Idle o = refl
no_key (Asking t n) o = refl
no_key (Confirmed t) o = refl
no_key (Sounding k t g) o = refl
no_key (Requesting t n s) o = refl
no_key (Joining t key) o = absurd (miss (0 ∷ 1 ∷ 2 ∷ 3 ∷ 4 ∷ []) 5 tt o)
no_key (Matched key) o = absurd (miss (0 ∷ 1 ∷ 2 ∷ 3 ∷ 4 ∷ []) 6 tt o)

module _ (c : Car) (g : c.config.good ≡ true) where
  pub key_in_lem : (st : State) → c.state ≡ st → key_in st ≡ key_query c
  unfolding key_query
  key_in_lem st e = sym (pass c.config.good 16 _ g ∙ ap key_in e)

  pub key_elsewhere : OneOf (0 ∷ 1 ∷ 2 ∷ 3 ∷ 4 ∷ []) (tag_of the_type c.state) → no 8 ≡ key_query c
  key_elsewhere o = sym (no_key c.state o) ∙ key_in_lem c.state refl
