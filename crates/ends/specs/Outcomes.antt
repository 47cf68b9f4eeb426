-- What a call gives: the number of a refusal, or frames as octets and an indication.
use Rattle.std.specs.Prelude.{ℕ, cond, List, [], ◌==◌}
use Rattle.messages.specs.Reading.{Checked, no, yes}
use Rattle.ends.specs.declared.Indication.{Indication}
use Rattle.ends.specs.Lists.{joins}

-- the frames that a call reports, each as its octets, and its indication
pub record Sent : Type 0 where
  pub frames : List (List ℕ)
  pub indication : Indication

-- "number given back", or what was sent
abbrev pub Outcome : Type 0
Outcome = Checked Sent

-- the frames of an outcome: a refusal has none
abbrev pub frames_of : Outcome → List (List ℕ)
frames_of (no n) = []
frames_of (yes x) = x.frames

-- frames "back to back"
abbrev pub joined : List (List ℕ) → List ℕ
joined fs = joins (λ (f : List ℕ). f) fs

module _ {A B : Type 0} where
  -- what follows an answer: a refusal stays as it is
  abbrev pub and_then : Checked A → (A → Checked B) → Checked B
  and_then (no n) f = no n
  and_then (yes x) f = f x

module _ {A B : Type 0} where
  -- what follows what was read; another reading in the place of refusal 3, "type not in the table"
  abbrev pub or_else : Checked A → (A → Checked B) → Checked B → Checked B
  or_else (yes x) f y = f x
  or_else (no n) f y = cond (n == 3) y (no n)

-- what an accepted call does: what it leaves, and what it gives
pub record Done (S : Type 0) : Type 0 where
  pub after : S
  pub sent : Sent

module _ {S : Type 0} where
  -- what a call leaves of s: "each refusal changes neither station nor output"
  abbrev pub next : S → Checked (Done S) → S
  next s (no n) = s
  next s (yes d) = d.after

  -- what a call gives
  abbrev pub outcome_of : Checked (Done S) → Outcome
  outcome_of (no n) = no n
  outcome_of (yes d) = yes d.sent
