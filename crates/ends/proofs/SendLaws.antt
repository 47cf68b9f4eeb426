-- Sending: what writing gives is what is told, and what can be written is sent.
use Rattle.std.proofs.Common.{◌≡◌, ℕ, List, [], ◌∷◌, length, sym, refl, ap, ◌∙◌, subst, append-nil}
use Rattle.messages.specs.Answers.{checked_of}
use Rattle.octets.specs.Octets.{splice}
use Rattle.messages.specs.Reading.{Checked, no, yes}
use Rattle.messages.specs.Table.{Message}
use Rattle.messages.specs.Writing.{frame, write_rules, length_of, octets_of}
use Rattle.messages.proofs.WriteLaws.{writes}
use Rattle.std.specs.Prelude.{Result, Ok, Err}
use Rattle.messages.specs.declared.Refusal.{Refusal}
use Rattle.ends.specs.declared.Done.{Done}
use Rattle.ends.specs.declared.Indication.{Indication}
use Rattle.ends.specs.Lists.{joins}
use Rattle.ends.specs.Outcomes.{frames_of, joined}
use Rattle.ends.specs.Answers.{Summary, answer_of, summary}
use Rattle.ends.specs.Sending.{sent_of, told_of, sending, Says, Writable}

told_sent : (x : Indication) (w : Checked (List ℕ)) → summary (sent_of x w) ≡ told_of x (length_of w)
unfolding joins
told_sent x (no n) = refl
told_sent x (yes ws) = ap (λ (n : ℕ). yes (let y : Summary = record { frames = 1; octets = n; indication = x } in y)) (ap length (append-nil ws))

octets_sent : (x : Indication) (w : Checked (List ℕ)) → octets_of w ≡ joined (frames_of (sent_of x w))
unfolding joins
octets_sent x (no n) = refl
octets_sent x (yes ws) = sym (append-nil ws)

-- what was written, whatever the message, is said
pub says_written : (w : Checked (List ℕ)) (x : Indication) (entry exit : List ℕ) (a : Result ℕ Refusal) (r : Result Done Refusal) → checked_of a ≡ length_of w → exit ≡ splice 0 (octets_of w) entry → answer_of r ≡ told_of x (checked_of a) → Says (sent_of x w) entry exit r
says_written w x entry exit a r ea eo e = record {
  answer = e ∙ ap (told_of x) ea ∙ sym (told_sent x w);
  octets = eo ∙ ap (λ (ws : List ℕ). splice 0 ws entry) (octets_sent x w);
}

-- a message in other words
pub writable_as : (m k : Message) (n : ℕ) → m ≡ k → Writable k n → Writable m n
writable_as m k n e w = subst (λ (x : Message). Writable x n) (sym e) w

-- what can be written is written, and sent
module _ (m : Message) (out : List ℕ) (w : Writable m (length out)) where
  pub written_as : write_rules m (length out) ≡ yes (frame m)
  written_as = sym (writes m out w.addressed w.limited w.room)

  pub written_octets : (exit : List ℕ) → exit ≡ splice 0 (octets_of (write_rules m (length out))) out → exit ≡ splice 0 (frame m) out
  written_octets exit e = e ∙ ap (λ (x : Checked (List ℕ)). splice 0 (octets_of x) out) written_as

  pub sends_writable : (x : Indication) → sending m x (length out) ≡ yes (record { frames = frame m ∷ []; indication = x })
  sends_writable x = ap (sent_of x) written_as
