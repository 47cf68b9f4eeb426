-- A mean without a division by the count: the table of reciprocals.
use Rattle.std.specs.Prelude.{ℕ, ◌+◌, ◌*◌, ◌/◌, ◌≤◌, List, get_or}

-- the most profiles whose reciprocal the table has
abbrev pub most_profiles : ℕ
most_profiles = 16

-- the sums of so many profiles, at most as many as the table has
abbrev pub Summed : ℕ → List ℕ → Type 0
Summed n sums = (n ≤ most_profiles) × ((i : ℕ) → get_or sums i 0 ≤ 255 * n)

-- 65,536 divided by n, rounded up; 0 for 0
unfoldable pub reciprocal : ℕ → ℕ
reciprocal n = (65535 + n) / n
