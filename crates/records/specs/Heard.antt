-- Marking a count in a set of sound counts, for every count and every set.
use Rattle.std.specs.Prelude.{ℕ, not, cond, ◌&&◌, ltb}
use Rattle.rules.specs.Sounds.{is_in, marked}

-- how many counts a set can hold
abbrev pub set_size : ℕ
set_size = 16

-- a count that the set can hold and does not is marked; any other leaves the set as it is
unfoldable pub marking : ℕ → ℕ → ℕ
marking k h = cond (ltb k set_size && not (is_in k h)) (marked k h) h
