-- What a first VALIDATE.REQ is answered, by the tests that the code makes.
use Prim.Native.Nat.{ℕ, ◌<◌}
use mathlib.Core.Path.{◌≡◌, refl, ap, ◌∙◌}
use mathlib.Core.Bool.{Bool, true, false, ◌||◌}
use mathlib.Core.List.{List, [], ◌∷◌}
use Rattle.std.specs.List.{list_any}
use native.Mathlib.Omega.{arith}
use Rattle.messages.specs.Table.{result_limit}
use Rattle.messages.specs.Reading.{Checked}
use Rattle.rules.specs.declared.Record.{Record}
use Rattle.rules.specs.Frames.{Kept, first_rule}
use Rattle.rules.specs.Validation.{is_validating, any_validates, first_result}
use Rattle.records.specs.Validation.{result_by}

-- whether any record is ready or counting, in the library's word
pub any_validating : (rs : List Record) → list_any is_validating rs ≡ any_validates rs
unfolding any_validates
any_validating [] = refl
any_validating (r ∷ rs) = ap (λ (b : Bool). is_validating r || b) (any_validating rs)

-- by whether any record is ready or counting
pub first_by : (exempt any : Bool) (rs : List Record) (x : ℕ) → any ≡ any_validates rs → x ≡ result_by exempt any → x ≡ first_result exempt rs
unfolding first_result
first_by exempt any rs x e q = q ∙ ap (result_by exempt) e

limited : (x y : Bool) → result_by x y < result_limit
limited true y = omega arith
limited false true = omega arith
limited false false = omega arith

-- a result that VALIDATE.CNF can have
pub first_limited : (exempt : Bool) (rs : List Record) → first_result exempt rs < result_limit
unfolding first_result
first_limited exempt rs = limited exempt (any_validates rs)

-- the rule at a record with the result that the code found
pub first_answered : (x y : ℕ) (r : Record) (w : Checked Kept) → w ≡ first_rule x r r.phase → x ≡ y → w ≡ first_rule y r r.phase
first_answered x y r w e q = e ∙ ap (λ (k : ℕ). first_rule k r r.phase) q
