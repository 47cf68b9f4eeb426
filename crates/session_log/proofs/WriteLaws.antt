-- What writing's steps answer and write is what its rules say.
use Prim.Native.Nat.{ℕ, ◌≤◌, ◌<◌, min}
use mathlib.Core.Path.{◌≡◌, refl, sym, ap, ◌∙◌}
use mathlib.Core.List.{List}
use native.Mathlib.Omega.{arith}
use borrow.Author.Tests.{le-leb, lt-leb}
use lib.Dec.{leb}
use lib.ListN.{length}
use lib.Seq.{sets}
use Rattle.octets.specs.Octets.{splice}
use Rattle.octets.proofs.OctetLaws.{sets_splice}
use Rattle.messages.specs.Reading.{Checked, no, yes, check}
use Rattle.messages.specs.Writing.{length_of, octets_of}
use Rattle.messages.proofs.CheckLaws.{pass, fail}
use Rattle.ends.specs.Outcomes.{and_then}
use Rattle.ends.proofs.AnswerLaws.{no_same}
use Rattle.session_log.specs.Meaning.{Log}
use Rattle.session_log.specs.Layout.{log_octets}
use Rattle.session_log.specs.Writing.{Given, log_of, total_of, meaning_rules, write_rules}
use Rattle.session_log.specs.Private.{told, too_long}
use Rattle.session_log.proofs.LogLaws.{Meant, meant, meant_passed, length_log}

module _ (g : Given) (l : List ℕ) where
  -- what a refusal gives: its cause, and the output as it was
  abbrev pub Refuses : ℕ → Type 0
  Refuses n = (no n ≡ length_of (write_rules g (length l))) × (l ≡ splice 0 (octets_of (write_rules g (length l))) l)

  refuses : (n : ℕ) → no n ≡ write_rules g (length l) → Refuses n
  unfolding splice
  refuses n e = (ap length_of e, ap (λ (x : Checked (List ℕ)). splice 0 (octets_of x) l) e)

  told_no : (w : Checked Log) (n : ℕ) → no n ≡ told w → no n ≡ w
  told_no (no k) n e = ap no (no_same n k e)
  told_no (yes x) n e = absurd (let z : ◌≡◌ {A = ℕ} 0 1 = cc in omega arith)

  told_yes : (w : Checked Log) → yes tt ≡ told w → (m : Log) × (w ≡ yes m)
  told_yes (no k) e = absurd (let z : ◌≡◌ {A = ℕ} 0 1 = cc in omega arith)
  told_yes (yes x) e = (x, refl)

  pub write_refused : (n : ℕ) → no n ≡ told (meaning_rules g) → Refuses n
  unfolding write_rules
  write_refused n e = refuses n (ap (λ (w : Checked Log). and_then w (λ (m : Log). check (leb (total_of g) (length l)) 15 (yes (log_octets m)))) (told_no (meaning_rules g) n e))

  module _ (e : yes tt ≡ told (meaning_rules g)) where
    pub facts : Meant g
    facts = let m = told_yes (meaning_rules g) e in (meant g m.0 m.1).0

    from15 : check (leb (total_of g) (length l)) 15 (yes (log_octets (log_of g))) ≡ write_rules g (length l)
    unfolding write_rules
    from15 = ap (λ (w : Checked Log). and_then w (λ (m : Log). check (leb (total_of g) (length l)) 15 (yes (log_octets m)))) (sym (meant_passed g facts))

    -- the total that the code finds is the log's
    pub total_found : {n : ℕ} → n ≡ min (total_of g) too_long → n ≡ total_of g
    total_found en = let z = facts.short in omega arith

    pub write_short : {n : ℕ} → n ≡ min (total_of g) too_long → length l < n → Refuses 15
    write_short en h = refuses 15 (sym (fail (leb (total_of g) (length l)) 15 _ (lt-leb (total_of g) (length l) (let z = total_found en in omega arith))) ∙ from15)

    pub write_right : {n : ℕ} → n ≡ min (total_of g) too_long → n ≤ length l
        → (yes n ≡ length_of (write_rules g (length l))) × (sets l 0 (log_octets (log_of g)) ≡ splice 0 (octets_of (write_rules g (length l))) l)
    write_right {n} en h =
        let t : n ≡ total_of g = total_found en in
        let size : length (log_octets (log_of g)) ≡ total_of g = length_log g facts in
        let w : yes (log_octets (log_of g)) ≡ write_rules g (length l) = sym (pass (leb (total_of g) (length l)) 15 _ (le-leb (total_of g) (length l) (omega arith))) ∙ from15 in (
          ap yes (t ∙ sym size) ∙ ap length_of w,
          sets_splice (log_octets (log_of g)) l 0 (omega arith) ∙ ap (λ (x : Checked (List ℕ)). splice 0 (octets_of x) l) w,
        )
