-- The reduction call: by how much the power of each carrier is to be lowered.
use Rattle.std.specs.Prelude.{ℕ, zero, suc, ◌+◌, ◌*◌, Bool, true, false, List, [], ◌∷◌, eqb, leb, ltb, ℤ, pos, negsuc, neg_ℤ, ◌-ℤ◌, length}
use Rattle.messages.specs.Reading.{Checked, yes, check}
use Rattle.amplitude.specs.Runs.{every}
use Rattle.amplitude.specs.Maps.{is_map}

-- the most that a value a allows, in dBm/Hz: "-50 - 2 * a"
abbrev pub limit : ℕ → ℤ
limit a = neg_ℤ (pos (50 + 2 * a))

-- a number "where that is positive, else 0"
abbrev pub positive : ℤ → ℕ
positive (pos n) = n
positive (negsuc n) = 0

-- for value a and our own level l: "l - (-50 - 2 * a) where that is positive, else 0"
unfoldable pub reduction : ℕ → ℤ → ℕ
reduction a l = positive (l -ℤ limit a)

-- "one reduction per carrier"
unfoldable pub reductions : List ℕ → List ℤ → List ℕ
reductions [] ls = []
reductions (a ∷ vs) [] = []
reductions (a ∷ vs) (l ∷ ls) = reduction a l ∷ reductions vs ls

-- a level "from -128 to 0" (negsuc n is -(n + 1))
abbrev pub is_level : ℤ → Bool
is_level (pos zero) = true
is_level (pos (suc n)) = false
is_level (negsuc n) = ltb n 128

-- each level is
abbrev pub are_levels : List ℤ → Bool
are_levels = every is_level

-- a request's values and our levels, for a slice of n octets: "a count of values outside 1 to 1,155 or a value over 15 (6), not as many levels (24), a level outside -128 to 0 (16), the slice too short (15)"
unfoldable pub reduce_rules : List ℕ → List ℤ → ℕ → Checked (List ℕ)
reduce_rules vs ls n =
    check (is_map vs) 6
    (check (eqb (length vs) (length ls)) 24
    (check (are_levels ls) 16
    (check (leb (length vs) n) 15
    (yes (reductions vs ls)))))
