-- What reading's steps answer is what its rules say.
use Prim.Native.Nat.{ℕ}
use mathlib.Core.Path.{◌≡◌, refl, ap, ap₂, ◌∙◌}
use mathlib.Core.List.{List}
use native.Mathlib.Omega.{arith}
use lib.ListN.{length}
use Rattle.messages.specs.Reading.{Checked, no, yes}
use Rattle.ends.specs.Outcomes.{and_then}
use Rattle.ends.proofs.AnswerLaws.{no_same}
use Rattle.session_log.specs.Meaning.{Log}
use Rattle.session_log.specs.Layout.{events_start}
use Rattle.session_log.specs.Reading.{count_in, replies_in, ends_at, part_rules, field_rules, log_in, read_rules}
use Rattle.session_log.specs.Answers.{places_in, places_of}
use Rattle.session_log.specs.Private.{told, Listed}
use Rattle.session_log.proofs.LogLaws.{parts}

-- ---- the items stand in the log

module _ (s : List ℕ) (p : part_rules s ≡ yes tt) {n : ℕ} (en : n ≡ count_in s) where
  pub events_listed : Listed s n events_start
  events_listed = record { short = (parts s p).short; end = replies_in s; ends = ap (λ (k : ℕ). ends_at s k events_start (replies_in s)) en ∙ (parts s p).replies }

  pub replies_listed : {r : ℕ} → r ≡ replies_in s → Listed s n r
  replies_listed {r} er = record { short = (parts s p).short; end = length s; ends = ap₂ (λ (k a : ℕ). ends_at s k a (length s)) en er ∙ (parts s p).ends }

-- ---- the whole

module _ (s : List ℕ) where
  places_told : (w : Checked Log) → yes tt ≡ told w → yes (places_in s) ≡ places_of s w
  places_told (no n) e = absurd (let z : ◌≡◌ {A = ℕ} 0 1 = cc in omega arith)
  places_told (yes l) e = refl

  places_refused : (w : Checked Log) (n : ℕ) → no n ≡ told w → no n ≡ places_of s w
  places_refused (no k) n e = ap no (no_same n k e)
  places_refused (yes l) n e = absurd (let z : ◌≡◌ {A = ℕ} 0 1 = cc in omega arith)

  pub fields_right : yes tt ≡ told (field_rules (log_in s)) → yes (places_in s) ≡ places_of s (field_rules (log_in s))
  fields_right = places_told (field_rules (log_in s))

  pub fields_refused : (n : ℕ) → no n ≡ told (field_rules (log_in s)) → no n ≡ places_of s (field_rules (log_in s))
  fields_refused = places_refused (field_rules (log_in s))

  pub parts_right : yes tt ≡ part_rules s → places_of s (field_rules (log_in s)) ≡ places_of s (read_rules s)
  unfolding read_rules
  parts_right e = ap (λ (w : Checked (Unit {0})). places_of s (and_then w (λ (_ : Unit {0}). field_rules (log_in s)))) e

  pub parts_refused : (n : ℕ) → no n ≡ part_rules s → no n ≡ places_of s (read_rules s)
  unfolding read_rules
  parts_refused n e = ap (λ (w : Checked (Unit {0})). places_of s (and_then w (λ (_ : Unit {0}). field_rules (log_in s)))) e
