-- The steps of the loops over the groups and over the records, each once over the length.
use Prim.Native.Nat.{ℕ, ◌+◌, ◌≤◌, ◌<◌}
use mathlib.Core.Path.{◌≡◌, refl, sym, ap₂, ◌∙◌}
use mathlib.Core.List.{List, [], ◌∷◌, ◌++◌, append_assoc, append-nil}
use native.Mathlib.Omega.{arith}
use native.Mathlib.Numerals.{add-one}
use lib.ListN.{length, take, drop, get_or, set, length-set, drop_of_length-le}
use lib.Seq.{take-suc-set, drop-set-lt, take_all, get_or-set_other}
use Rattle.rules.specs.Records.{merged}
use Rattle.ends.proofs.ListLaws.{drop_next}

-- ---- one element more

-- the elements before i + 1, with the one at i stored
take_next : {A : Type 0} (l : List A) (i : ℕ) (v : A) → i < length l → take (i + 1) (set l i v) ≡ take i l ++ (v ∷ [])
take_next l i v h = rw add-one (take-suc-set l i v h)

-- a store leaves the elements behind it
drop_stored : {A : Type 0} (l : List A) (i : ℕ) (v : A) → drop (i + 1) (set l i v) ≡ drop (i + 1) l
drop_stored l i v = drop-set-lt (i + 1) l i v (omega arith)

-- ---- a value of each group put together with what the group has

module _ (f : ℕ → ℕ → ℕ) where
  -- s with the values from i on still to be taken in
  unfoldable pub to_merge : ℕ → List ℕ → List ℕ → List ℕ
  to_merge i s vs = take i s ++ merged f (drop i s) (drop i vs)

  -- before the value at i: what is left to do, and the array's length
  pub record Merging (i : ℕ) (s vs s₀ : List ℕ) : Type 0 where
    pub turns : i ≤ length s₀
    pub size : length s ≡ length s₀
    pub left : to_merge i s vs ≡ merged f s₀ vs

  -- before the first turn
  pub merging_start : (s vs : List ℕ) → Merging 0 s vs s
  unfolding to_merge
  merging_start s vs = record { turns = omega arith; size = refl; left = refl }

  -- the value at i taken in leaves the same to do
  merge_next : (i : ℕ) (s vs : List ℕ) → i < length s → i < length vs → to_merge (i + 1) (set s i (f (get_or s i 0) (get_or vs i 0))) vs ≡ to_merge i s vs
  unfolding to_merge merged
  merge_next i s vs h k =
      let v : ℕ = f (get_or s i 0) (get_or vs i 0) in
      ap₂ (λ (x y : List ℕ). x ++ merged f y (drop (i + 1) vs)) (take_next s i v h) (drop_stored s i v)
      ∙ append_assoc (take i s) (v ∷ []) (merged f (drop (i + 1) s) (drop (i + 1) vs))
      ∙ sym (ap₂ (λ (x y : List ℕ). take i s ++ merged f x y) (drop_next s i 0 h) (drop_next vs i 0 k))

  -- a turn: the value at i is taken in
  pub merging_next : (i : ℕ) (s vs s₀ : List ℕ) (v : ℕ) → Merging i s vs s₀ → i < length s₀ → i < length vs → v ≡ f (get_or s i 0) (get_or vs i 0) → Merging (i + 1) (set s i v) vs s₀
  merging_next i s vs s₀ v a h k e =
      let l : i < length s = omega (arith, a.size) in
      record {
        turns = omega arith;
        size = length-set s i _ ∙ a.size;
        left = rw e (merge_next i s vs l k ∙ a.left);
      }

  -- past the last group
  pub merging_end : (i : ℕ) (s vs s₀ : List ℕ) → Merging i s vs s₀ → length s₀ ≤ i → s ≡ merged f s₀ vs
  unfolding to_merge merged
  merging_end i s vs s₀ a h =
      let l : length s ≤ i = omega (arith, a.size) in
      sym (rw (drop_of_length-le s l, take_all i s l) (append-nil s)) ∙ a.left

-- ---- room in the sums

-- from i on each sum is so much at most
abbrev pub Room : ℕ → ℕ → List ℕ → Type 0
Room most i s = (k : ℕ) → i ≤ k → get_or s k 0 ≤ most

-- what is stored at i does not matter behind it
pub room_next : (most i v : ℕ) (s : List ℕ) → Room most i s → Room most (i + 1) (set s i v)
room_next most i v s h j m = rw (get_or-set_other s i j v 0 (λ (q : j ≡ i). omega arith)) (h j (omega arith))
