-- Lists: the elements that pass a test, lists back to back, and another order.
use Rattle.std.specs.Prelude.{◌≡◌, Bool, cond, List, [], ◌∷◌, ◌++◌}

module _ {A : Type 0} where
  -- the elements that pass the test, in their order
  unfoldable pub only : (A → Bool) → List A → List A
  only b [] = []
  only b (x ∷ xs) = cond (b x) (x ∷ only b xs) (only b xs)

  -- what holds of every element
  abbrev pub All : (A → Type 0) → List A → Type 0
  All P [] = Unit {0}
  All P (x ∷ xs) = P x × All P xs

  -- ys is xs in another order: the first of xs stands somewhere in ys, and what is left of each is in another order
  abbrev pub Permuted : List A → List A → Type 0
  Permuted [] ys = ys ≡ []
  Permuted (x ∷ xs) ys = (p : List A) × ((q : List A) × ((ys ≡ p ++ (x ∷ q)) × Permuted xs (p ++ q)))

module _ {A B : Type 0} where
  -- the lists that the elements give, back to back
  unfoldable pub joins : (A → List B) → List A → List B
  joins f [] = []
  joins f (x ∷ xs) = f x ++ joins f xs
