-- A set of sound counts as a number: count k is in it where its binary digit k is 1.
use Rattle.std.specs.Prelude.{ℕ, ◌+◌, ◌^◌, ◌/◌, ◌%◌, Bool, eqb}

-- "heard already"
unfoldable pub is_in : ℕ → ℕ → Bool
is_in k h = eqb (h / 2 ^ k % 2) 1

-- "count marked heard", of a count that is not in the set
unfoldable pub marked : ℕ → ℕ → ℕ
marked k h = h + 2 ^ k
