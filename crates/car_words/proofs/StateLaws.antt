-- The state of a number that is none of the six.
use Prim.Native.Nat.{ℕ}
use mathlib.Core.Path.{◌≡◌}
use borrow.Author.Tests.{ne_eqb}
use Rattle.car_rules.specs.declared.Key.{Key}
use Rattle.car_rules.specs.declared.State.TheVariants.{Idle}
use Rattle.car_words.specs.Words.{state_by}

-- a number that is no state's
pub no_number : (k t n x : ℕ) (key : Key) → (k ≡ 1 → ⊥) → (k ≡ 2 → ⊥) → (k ≡ 3 → ⊥) → (k ≡ 4 → ⊥) → (k ≡ 5 → ⊥) → (k ≡ 6 → ⊥) → Idle ≡ state_by k t n x key
unfolding state_by
no_number k t n x key a b c d e f = rw (ne_eqb k 1 a, ne_eqb k 2 b, ne_eqb k 3 c, ne_eqb k 4 d, ne_eqb k 5 e, ne_eqb k 6 f)
