-- A list filled from the front with what each element of another gives: the loops' invariant and its steps.
use Prim.Native.Nat.{ℕ, ◌+◌, ◌≤◌, ◌<◌}
use mathlib.Core.Path.{◌≡◌, refl, sym, ap, ◌∙◌}
use mathlib.Core.List.{List, [], ◌∷◌, ◌++◌, map}
use native.Mathlib.Omega.{arith}
use native.Mathlib.Numerals.{add-one}
use lib.ListN.{length, take, get_or, set, length-set}
use lib.Seq.{take-suc, take-suc-set, take_all}

-- out has what f gives of the first i elements of s
pub record Filled {A B : Type 0} (f : A → B) (s : List A) (out : List B) (i : ℕ) : Type 0 where
  pub turns : i ≤ length s
  pub long : length out ≡ length s
  pub front : take i out ≡ map f (take i s)

module _ {A B : Type 0} (f : A → B) where
  -- what two lists back to back give
  map_append : (xs ys : List A) → map f (xs ++ ys) ≡ map f xs ++ map f ys
  map_append [] ys = refl
  map_append (x ∷ xs) ys = ap (λ (t : List B). f x ∷ t) (map_append xs ys)

  -- one element more
  pub map_next : (s : List A) (i : ℕ) (z : A) → i < length s → map f (take (i + 1) s) ≡ map f (take i s) ++ (f (get_or s i z) ∷ [])
  map_next s i z h = rw (add-one, take-suc s i z) (map_append (take i s) (get_or s i z ∷ []))

  -- before the first turn
  pub fill_none : (s : List A) (out : List B) → length out ≡ length s → Filled f s out 0
  fill_none s out e = record { turns = omega arith; long = e; front = refl }

  -- a turn: the next element's is stored
  pub fill_next : (s : List A) (out : List B) (i : ℕ) (z : A) → Filled f s out i → i < length s → Filled f s (set out i (f (get_or s i z))) (i + 1)
  fill_next s out i z w h =
      let v : B = f (get_or s i z) in
      record {
        turns = omega arith;
        long = length-set out i v ∙ w.long;
        front =
            ap (λ (k : ℕ). take k (set out i v)) (add-one i)
            ∙ take-suc-set out i v (omega (arith, w.long))
            ∙ ap (λ (t : List B). t ++ (v ∷ [])) w.front
            ∙ sym (map_next s i z h);
      }

  -- past the last element
  pub fill_all : (s : List A) (out : List B) (i : ℕ) → Filled f s out i → length s ≤ i → out ≡ map f s
  fill_all s out i w h =
      sym (take_all i out (omega (arith, w.long)))
      ∙ w.front
      ∙ ap (map f) (take_all i s h)
