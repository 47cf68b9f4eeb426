-- Words: what a number in one may mean, and runs of them.
use Rattle.std.specs.Prelude.{ℕ, zero, suc, min, max, Bool, true, false, List, [], ◌∷◌, take, drop}

-- 1 for what is so, 0 for what is not
abbrev pub flag_of : Bool → ℕ
flag_of true = 1
flag_of false = 0

-- a time left: from 1 to its start value
abbrev pub time_within : ℕ → ℕ → ℕ
time_within start n = min start (max 1 n)

module _ {A : Type 0} where
  -- n runs of k elements each, side by side
  unfoldable pub runs : ℕ → ℕ → List A → List (List A)
  runs zero k l = []
  runs (suc n) k l = take k l ∷ runs n k (drop k l)
