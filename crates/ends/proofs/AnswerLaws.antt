-- The reading of the answers is injective: an answer is known by what it says.
use Rattle.std.proofs.Common.{◌≡◌, ℕ, ap, arith}
use Rattle.messages.specs.Reading.{Checked, no, yes}
use Rattle.messages.specs.Answers.{number_of}
use Rattle.messages.proofs.Distinct.{numbers_differ}
use Rattle.std.specs.Prelude.{Result, Ok, Err}
use Rattle.messages.specs.declared.Refusal.{Refusal}
use Rattle.ends.specs.declared.Done.{Done}
use Rattle.ends.specs.Answers.{Summary, answer_of}

pub no_same : {A : Type 0} (n k : ℕ) → ◌≡◌ {A = Checked A} (no n) (no k) → n ≡ k
no_same n k e = cc

pub yes_same : {A : Type 0} (x y : A) → ◌≡◌ {A = Checked A} (yes x) (yes y) → x ≡ y
yes_same x y e = cc

pub answer_injective : (a b : Result Done Refusal) → answer_of a ≡ answer_of b → a ≡ b
answer_injective (Err x) (Err y) e = ap (λ (z : Refusal). Err z) (numbers_differ x y (no_same (number_of x) (number_of y) e))
answer_injective (Err x) (Ok b) e = absurd (let z : ◌≡◌ {A = ℕ} 0 1 = cc in omega arith)
answer_injective (Ok a) (Err y) e = absurd (let z : ◌≡◌ {A = ℕ} 0 1 = cc in omega arith)
answer_injective (Ok a) (Ok b) e = ap (λ (x : Summary). Ok (record { frames = x.frames; octets = x.octets; indication = x.indication })) (yes_same _ _ e)
