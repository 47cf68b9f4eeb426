-- Laws of the reduction call in a script: which octets are one, and its reply.
use Prim.Native.Nat.{ℕ, ◌+◌, ◌-◌, ◌/◌}
use mathlib.Core.Path.{◌≡◌, refl, ap, ap₂, ◌∙◌}
use mathlib.Core.List.{List, append-nil}
use native.Mathlib.Omega.{arith}
use lib.IntN.{ℤ}
use lib.ListN.{length, take}
use Rattle.octets.specs.Octets.{part, splice}
use Rattle.std.specs.Prelude.{Result}
use Rattle.messages.specs.Answers.{checked_of}
use Rattle.messages.specs.Reading.{Checked, no, yes}
use Rattle.messages.specs.Writing.{length_of, octets_of}
use Rattle.messages.specs.declared.Refusal.{Refusal}
use Rattle.amplitude.specs.Reductions.{reduce_rules}
use Rattle.ends.specs.declared.Done.{Done}
use Rattle.ends.specs.declared.Indication.TheVariants.{Nothing}
use Rattle.ends.specs.Answers.{answer_of}
use Rattle.ends.specs.Lists.{joins}
use Rattle.ends.specs.Sending.{sent_of, told_of, Says}
use Rattle.ends.proofs.SendLaws.{says_written}
use Rattle.script.specs.Layout.{values_start, value_count_in, levels_at, values_in, levels_in}
use Rattle.script.specs.Replies.{reply_with, call_reply, query_reply}

-- the octets s, and the number n of their values as the code reads it
module _ (s : List ℕ) {n : ℕ} (e : n ≡ value_count_in s) where
  -- where the levels start, and how many there are
  abbrev start : ℕ
  start = values_start + n

  abbrev count : ℕ
  count = (length s - start) / 2

  -- ---- the call

  -- the values, and the levels, as the code lends them
  values_same : part s values_start (start - values_start) ≡ values_in s
  values_same = ap (part s values_start) (let k : start - values_start ≡ value_count_in s = omega (arith, e) in k)

  levels_same : (ls : List ℤ) → take count ls ≡ levels_at s start count → take count ls ≡ levels_in s
  levels_same ls r = r ∙ ap (λ (k : ℕ). levels_at s (values_start + k) ((length s - (values_start + k)) / 2)) e

  -- what is told of the reductions
  pub reductions_said : (ls : List ℤ) (out exit : List ℕ) (a : Result ℕ Refusal) (r : Result Done Refusal) → take count ls ≡ levels_at s start count
      → checked_of a ≡ length_of (reduce_rules (part s values_start (start - values_start)) (take count ls) (length out))
      → exit ≡ splice 0 (octets_of (reduce_rules (part s values_start (start - values_start)) (take count ls) (length out))) out
      → answer_of r ≡ told_of Nothing (checked_of a)
      → Says (sent_of Nothing (reduce_rules (values_in s) (levels_in s) (length out))) out exit r
  reductions_said ls out exit a r l f o t =
      let same = ap₂ (λ (vs : List ℕ) (ms : List ℤ). reduce_rules vs ms (length out)) values_same (levels_same ls l) in
      says_written (reduce_rules (values_in s) (levels_in s) (length out)) Nothing out exit a r (f ∙ ap length_of same) (o ∙ ap (λ (x : Checked (List ℕ)). splice 0 (octets_of x) out) same) t

-- ---- the reply

-- the reply to one frame without an indication is the reply to its octets
pub reply_same : (w : Checked (List ℕ)) → call_reply (sent_of Nothing w) ≡ query_reply (λ (ws : List ℕ). ws) w
unfolding joins
reply_same (no n) = refl
reply_same (yes ws) = ap (reply_with 0 0) (append-nil ws)
