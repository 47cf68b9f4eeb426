-- The reading of the query's answers is injective.
use Prim.Native.Nat.{ℕ}
use mathlib.Core.Path.{◌≡◌, ap}
use native.Mathlib.Omega.{arith}
use Rattle.std.specs.Prelude.{Result, Ok, Err}
use Rattle.messages.specs.declared.Refusal.{Refusal}
use Rattle.messages.specs.Answers.{number_of}
use Rattle.messages.proofs.Distinct.{numbers_differ}
use Rattle.rules.specs.declared.Heard.{Heard}
use Rattle.rules.specs.Rules.{Told}
use Rattle.rules.specs.Answers.{heard_of}
use Rattle.ends.proofs.AnswerLaws.{no_same, yes_same}

pub heard_injective : (a b : Result Heard Refusal) → heard_of a ≡ heard_of b → a ≡ b
heard_injective (Err x) (Err y) e = ap (λ (z : Refusal). Err z) (numbers_differ x y (no_same (number_of x) (number_of y) e))
heard_injective (Err x) (Ok b) e = absurd (let z : ◌≡◌ {A = ℕ} 0 1 = cc in omega arith)
heard_injective (Ok a) (Err y) e = absurd (let z : ◌≡◌ {A = ℕ} 0 1 = cc in omega arith)
heard_injective (Ok a) (Ok b) e = ap (λ (t : Told). Ok (record { sounds = t.sounds; spread = t.spread })) (yes_same _ _ e)
