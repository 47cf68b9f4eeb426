-- "Two carriers an octet, the earlier one in the low half": values of four binary digits in octets.
use Rattle.std.specs.Prelude.{ℕ, ◌+◌, ◌*◌, ◌/◌, ◌%◌, Bool, List, [], ◌∷◌, ltb}
use Rattle.amplitude.specs.Runs.{every}

-- the half-octets of some octets
unfoldable pub halves : List ℕ → List ℕ
halves [] = []
halves (o ∷ os) = (o % 16) ∷ ((o / 16) ∷ halves os)

-- the octets of some values, an odd number's last high half zero
unfoldable pub packed : List ℕ → List ℕ
packed [] = []
packed (a ∷ []) = a ∷ []
packed (a ∷ b ∷ vs) = (a + 16 * b) ∷ packed vs

-- how many octets n values take: "n / 2 rounded up"
abbrev pub octets_for : ℕ → ℕ
octets_for n = (n + 1) / 2

-- a value that fits a half-octet
abbrev pub is_half : ℕ → Bool
is_half v = ltb v 16

-- each value does
abbrev pub are_halves : List ℕ → Bool
are_halves = every is_half
