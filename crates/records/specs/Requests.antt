-- What the code's answers at a record say in the rules' words.
use Rattle.std.specs.Prelude.{ℕ, cond, [], ◌∷◌, Result, Ok, Err}
use Rattle.messages.specs.declared.Edition.{Edition}
use Rattle.messages.specs.declared.Refusal.{Refusal}
use Rattle.messages.specs.Answers.{number_of}
use Rattle.messages.specs.Reading.{Checked, no, yes}
use Rattle.rules.specs.declared.Record.{Record}
use Rattle.rules.specs.Frames.{Kept, start_rule, sound_rule, rsp_rule}
use Rattle.rules.specs.Replies.{confirmation, report_of}
use Rattle.records.specs.declared.changes.Kept as code
use Rattle.records.specs.declared.requests.RunMessage.{RunMessage}
use Rattle.records.specs.declared.requests.RunMessage.TheVariants.{Start, Sound, Rsp}

module _ {A B : Type 0} where
  -- a refusal by its number, or what f makes of what is given
  abbrev pub checked_by : (A → B) → Result A Refusal → Checked B
  checked_by f (Ok x) = yes (f x)
  checked_by f (Err x) = no (number_of x)

-- a record as it is left, and its report where it reports
abbrev pub left_by : code.Kept → Kept
left_by k = record { kept = k.kept; replies = cond k.reports (report_of k.kept ∷ []) [] }

-- what a message comes to: a refusal leaves the record as it was
abbrev pub kept_of : Result code.Kept Refusal → Checked Kept
kept_of = checked_by left_by

-- what the first VALIDATE.REQ comes to, with the result that it is answered
abbrev pub validated_of : ℕ → Result Record Refusal → Checked Kept
validated_of result = checked_by (λ (r : Record). record { kept = r; replies = confirmation 0 result ∷ [] })

-- whether a message is accepted
abbrev pub verdict_of : Result (Unit {0}) Refusal → Checked (Unit {0})
verdict_of = checked_by (λ (x : Unit {0}). x)

-- in an edition, START, SOUND and RSP at a record
abbrev pub run_rule : Edition → RunMessage → Record → Checked Kept
run_rule e (Start a) r = start_rule e a.0 r r.phase
run_rule e (Sound k) r = sound_rule e k r r.phase
run_rule e Rsp r = rsp_rule r r.phase
