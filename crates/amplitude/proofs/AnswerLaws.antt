-- Laws of answers: what a call gives and leaves in what was lent to it, by its rule.
use Prim.Native.Nat.{ℕ, ◌≤◌}
use mathlib.Core.Path.{◌≡◌, refl, sym, ap, ◌∙◌}
use mathlib.Core.List.{List}
use native.Mathlib.Omega.{arith}
use lib.ListN.{length}
use lib.Seq.{sets}
use Rattle.octets.specs.Octets.{splice}
use Rattle.messages.specs.Reading.{Checked, no, yes}
use Rattle.messages.specs.Writing.{length_of, octets_of}
use Rattle.octets.proofs.OctetLaws.{sets_splice}

-- the answer k, and an output that went from entry to exit, are what the rule x says
abbrev pub Gives : Checked (List ℕ) → Checked ℕ → List ℕ → List ℕ → Type 0
Gives x k entry exit = (k ≡ length_of x) × (exit ≡ splice 0 (octets_of x) entry)

-- a refusal leaves the output as it was
pub refuses : (x : Checked (List ℕ)) (n : ℕ) (entry : List ℕ) → no n ≡ length_of x → Gives x (no n) entry entry
unfolding splice
refuses (no k) n entry e = (e, refl)
refuses (yes ws) n entry e = absurd (let z : ◌≡◌ {A = ℕ} 0 1 = cc in omega arith)

-- octets that were stored
pub gives : (x : Checked (List ℕ)) (ws entry exit : List ℕ) (k : ℕ) → x ≡ yes ws → k ≡ length ws → length ws ≤ length entry → exit ≡ sets entry 0 ws → Gives x (yes k) entry exit
gives x ws entry exit k e l h w = (
  ap yes l ∙ sym (ap length_of e),
  w ∙ sets_splice ws entry 0 (omega arith) ∙ sym (ap (λ (y : Checked (List ℕ)). splice 0 (octets_of y) entry) e),
)
