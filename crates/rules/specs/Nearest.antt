-- That a mean is the nearest whole number, and that a half goes up.
use Rattle.std.specs.Prelude.{ℕ, ◌+◌, ◌*◌, ◌<◌, ◌≤◌}
use Rattle.rules.specs.Replies.{mean}

-- m is nearest to the sum divided by the count
pub record Nearest (count sum m : ℕ) : Type 0 where
  -- at most a half above it
  pub above : 2 * (count * m) ≤ 2 * sum + count
  -- and less than a half below it
  pub below : 2 * sum < 2 * (count * m) + count

-- a mean is nearest, for every sum and every count but 0
abbrev pub MeansAreNearest : Type 0
MeansAreNearest = (count sum : ℕ) → 0 < count → Nearest count sum (mean count sum)
