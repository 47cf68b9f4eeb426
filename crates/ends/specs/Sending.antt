-- Sending a message: its frame at the output's first octet, with an indication.
use Rattle.std.specs.Prelude.{◌≡◌, ℕ, ◌≤◌, true, List, [], ◌∷◌, length, Result}
use Rattle.octets.specs.Octets.{splice}
use Rattle.messages.specs.Reading.{Checked, yes}
use Rattle.messages.specs.Table.{Message}
use Rattle.messages.specs.Writing.{is_addressed, is_limited, length_in, write_rules}
use Rattle.messages.specs.declared.Refusal.{Refusal}
use Rattle.ends.specs.declared.Done.{Done}
use Rattle.ends.specs.declared.Indication.{Indication}
use Rattle.ends.specs.Outcomes.{Outcome, frames_of, joined, and_then}
use Rattle.ends.specs.Answers.{Summary, answer_of, summary}

-- one frame that was written and an indication, or what writing refuses
abbrev pub sent_of : Indication → Checked (List ℕ) → Outcome
sent_of x w = and_then w (λ (ws : List ℕ). yes (record { frames = ws ∷ []; indication = x }))

-- what is told of the octets that were written, or of the refusal
abbrev pub told_of : Indication → Checked ℕ → Checked Summary
told_of x w = and_then w (λ (n : ℕ). yes (record { frames = 1; octets = n; indication = x }))

-- a message to an output of n octets
abbrev pub sending : Message → Indication → ℕ → Outcome
sending m x n = sent_of x (write_rules m n)

-- r tells of an outcome, and the output from entry to exit holds its frames
pub record Says (o : Outcome) (entry exit : List ℕ) (r : Result Done Refusal) : Type 0 where
  pub answer : answer_of r ≡ summary o
  pub octets : exit ≡ splice 0 (joined (frames_of o)) entry

-- the whole promise of sending: r, and the output from entry to exit
abbrev pub Sends : Message → Indication → (entry exit : List ℕ) → Result Done Refusal → Type 0
Sends m x entry exit r = Says (sending m x (length entry)) entry exit r

-- a message that an output of n octets takes
pub record Writable (m : Message) (n : ℕ) : Type 0 where
  pub addressed : is_addressed m ≡ true
  pub limited : is_limited m ≡ true
  pub room : length_in m ≤ n
