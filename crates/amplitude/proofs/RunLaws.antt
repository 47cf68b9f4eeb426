-- The steps of the loops over a run, each once over its length: testing every element, and storing one after another.
use Prim.Native.Nat.{ℕ, zero, suc, ◌+◌, ◌<◌, ◌≤◌}
use mathlib.Core.Path.{◌≡◌, sym, ap, ap₂, ◌∙◌}
use mathlib.Core.Bool.{Bool, true, ◌&&◌, and-true, and_assoc}
use mathlib.Core.List.{List, [], ◌∷◌}
use native.Mathlib.Numerals.{add-one}
use lib.ListN.{length, get_or, take, drop, set, length-set, drop_of_length-le}
use lib.Seq.{drop-cons, sets, take_all}
use Rattle.octets.proofs.LoopLaws.{copy_in_more}
use Rattle.messages.proofs.LayoutLaws.{and_left, and_right}
use Rattle.amplitude.specs.Runs.{every}

-- ---- testing every element

module _ {A : Type 0} (p : A → Bool) (xs : List A) where
  -- b says whether the first i elements pass, and the others are left
  abbrev pub Tested : Bool → ℕ → Type 0
  Tested b i = every p xs ≡ (b && every p (drop i xs))

  pub tested_more : (d : A) (b t : Bool) (i : ℕ) → i < length xs → t ≡ p (get_or xs i d) → Tested b i → Tested (b && t) (i + 1)
  unfolding every
  tested_more d b t i h q e =
      e
      ∙ ap (λ (l : List A). b && every p l) (drop-cons xs i d h)
      ∙ sym (and_assoc b (p (get_or xs i d)) (every p (drop (suc i) xs)))
      ∙ ap₂ (λ (u : Bool) (k : ℕ). (b && u) && every p (drop k xs)) (sym q) (sym (add-one i))

  pub tested_all : (b : Bool) (i : ℕ) → length xs ≤ i → Tested b i → b ≡ every p xs
  unfolding every
  tested_all b i h e = sym (e ∙ ap (λ (l : List A). b && every p l) (drop_of_length-le xs {i = i} h) ∙ and-true b)

-- an element that stands in a run whose every element passes, or past its end a default that passes
pub every_at : {A : Type 0} (p : A → Bool) (xs : List A) (d : A) (i : ℕ) → p d ≡ true → every p xs ≡ true → p (get_or xs i d) ≡ true
unfolding every
every_at p [] d i t h = t
every_at p (x ∷ xs) d zero t h = and_left (p x) (every p xs) h
every_at p (x ∷ xs) d (suc i) t h = every_at p xs d i t (and_right (p x) (every p xs) h)

-- ---- storing one element after another

-- the first i elements of src stand in out from `at`, which was out₀ before
pub record Stored (src out₀ : List ℕ) (at : ℕ) (out : List ℕ) (i : ℕ) : Type 0 where
  pub size : length out ≡ length out₀
  pub same : out ≡ sets out₀ at (take i src)

module _ (src out₀ : List ℕ) (at : ℕ) where
  pub stored_more : (out : List ℕ) (i k x : ℕ) → i < length src → k ≡ at + i → x ≡ get_or src i 0 → Stored src out₀ at out i → Stored src out₀ at (set out k x) (i + 1)
  stored_more out i k x h p v e = record { size = length-set out k x ∙ e.size; same = rw (e.same, p, v) (copy_in_more src out₀ at i h) }

  pub stored_all : (out : List ℕ) (i : ℕ) → length src ≤ i → Stored src out₀ at out i → out ≡ sets out₀ at src
  stored_all out i h e = e.same ∙ ap (sets out₀ at) (take_all i src h)
