-- The phase of its number, the profiles of a phase and the group count, where the code takes several cases as one.
use Prim.Native.Nat.{ℕ, zero, suc}
use mathlib.Core.Path.{◌≡◌, refl}
use mathlib.Core.Bool.{Bool}
use Rattle.messages.specs.declared.Edition.{Edition}
use Rattle.rules.specs.declared.Phase.TheVariants.{Asked}
use Rattle.rules.specs.Constants.{asked_time}
use Rattle.ends.specs.Words.{time_within}
use Rattle.words.specs.Words.{phase_of}

-- a number that is no other phase's
pub no_phase : (e : Edition) (l : Bool) (k t n : ℕ) → (k ≡ 1 → ⊥) → (k ≡ 2 → ⊥) → (k ≡ 3 → ⊥) → (k ≡ 4 → ⊥) → (k ≡ 5 → ⊥) → (k ≡ 6 → ⊥) → (k ≡ 7 → ⊥) → Asked (time_within asked_time t) ≡ phase_of e l k t n
unfolding phase_of
no_phase e l zero t n a b c d x f g = refl
no_phase e l (suc zero) t n a b c d x f g = absurd (a refl)
no_phase e l (suc (suc zero)) t n a b c d x f g = absurd (b refl)
no_phase e l (suc (suc (suc zero))) t n a b c d x f g = absurd (c refl)
no_phase e l (suc (suc (suc (suc zero)))) t n a b c d x f g = absurd (d refl)
no_phase e l (suc (suc (suc (suc (suc zero))))) t n a b c d x f g = absurd (x refl)
no_phase e l (suc (suc (suc (suc (suc (suc zero)))))) t n a b c d x f g = absurd (f refl)
no_phase e l (suc (suc (suc (suc (suc (suc (suc zero))))))) t n a b c d x f g = absurd (g refl)
no_phase e l (suc (suc (suc (suc (suc (suc (suc (suc k)))))))) t n a b c d x f g = refl
