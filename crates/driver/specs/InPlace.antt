-- What a call on a lent station promises.
use Rattle.std.specs.Prelude.{ℕ, ◌≡◌, List, Result}
use Rattle.octets.specs.Octets.{splice}
use Rattle.messages.specs.declared.Refusal.{Refusal}
use Rattle.ends.specs.declared.Done.{Done}
use Rattle.rules.specs.declared.Station.{Station}
use Rattle.rules.specs.Calls.{Call}
use Rattle.ends.specs.Outcomes.{frames_of, joined}
use Rattle.rules.specs.Rules.{step, outcome}
use Rattle.ends.specs.Answers.{answer_of, summary}
use Rattle.rules.specs.Invariant.{Invariant}

-- the whole promise of a call x: the lent station from s to t, the output from entry to exit, and the answer r
pub record InPlace (s : Station) (x : Call) (entry exit : List ℕ) (t : Station) (r : Result Done Refusal) : Type 0 where
  -- the station is left as the rules step it
  pub station : t ≡ step s x
  -- the answer says what the rules give
  pub answer : answer_of r ≡ summary (outcome s x)
  -- the output holds the outcome's frames from its first octet, and is else as it was
  pub octets : exit ≡ splice 0 (joined (frames_of (outcome s x))) entry
  -- the invariant is kept
  pub kept : Invariant t
