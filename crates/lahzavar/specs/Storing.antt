-- Storing what a call by value came to.
use Rattle.std.specs.Prelude.{ℕ, ◌≡◌, List}
use Rattle.rules.specs.declared.Stepped.{Stepped}
use Rattle.ends.specs.Answers.{answer_of}
use Rattle.words.specs.Words.{station_of}
use Rattle.lahzavar.specs.declared.Answered.{Answered}
use Rattle.lahzavar.specs.Answers.{said_of}

-- the words, sums and spread from w, s and z to v, t and y: the station of an accepted call, or unchanged
pub record Settles (x : Stepped) (w s z v t y : List ℕ) (r : Answered) : Type 0 where
  pub answer : r ≡ said_of (answer_of x.answer)
  pub stored : r.refusal ≡ 0 → station_of v t y ≡ x.station
  pub kept : (r.refusal ≡ 0 → ⊥) → (v ≡ w) × ((t ≡ s) × (y ≡ z))
