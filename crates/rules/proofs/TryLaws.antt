-- What holds of the times and counts of every try, in either edition.
use Prim.Native.Nat.{ℕ, zero, suc, ◌<◌, ◌≤◌}
use mathlib.Core.Path.{◌≡◌, refl}
use mathlib.Core.Bool.{Bool, true, false}
use native.Mathlib.Omega.{arith}
use Rattle.messages.specs.declared.Edition.{Edition}
use Rattle.messages.specs.declared.Edition.TheVariants.{Iso, Sae}
use Rattle.messages.specs.Table.{is_attempt, is_count}
use Rattle.rules.specs.Constants.{sounding_time, sounds_per_try, pair_of}
use Rattle.rules.specs.Records.{groups_in}
use Rattle.rules.specs.Invariant.{GroupsFit}

-- Sounding lasts
pub sounding_lasts : (e : Edition) (later : Bool) → 0 < sounding_time e later
sounding_lasts Iso later = omega arith
sounding_lasts Sae false = omega arith
sounding_lasts Sae true = omega arith

-- a try has sounds
pub some_sounds : (e : Edition) (later : Bool) → 0 < sounds_per_try e later
some_sounds Iso later = omega arith
some_sounds Sae false = omega arith
some_sounds Sae true = omega arith

-- none has more than a later one of the SAE edition
pub sounds_most : (e : Edition) (later : Bool) → sounds_per_try e later ≤ sounds_per_try Sae true
sounds_most Iso later = omega arith
sounds_most Sae false = omega arith
sounds_most Sae true = omega arith

-- a try's pair is one of the edition's
pub pair_right : (e : Edition) (later : Bool) → is_attempt e (pair_of e later) ≡ true
pair_right Iso later = refl
pair_right Sae false = refl
pair_right Sae true = refl

-- the groups of a record that counts some profile
pub groups_right_lem : (e : Edition) (n g : ℕ) → 0 < n → GroupsFit e n g → is_count e (groups_in e g) ≡ true
groups_right_lem Iso n g h k = refl
groups_right_lem Sae zero g h k = absurd (omega arith)
groups_right_lem Sae (suc n) g h k = k
