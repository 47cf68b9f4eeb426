-- What a message does at its car's record, and where a PARM.REQ's record goes.
use Rattle.std.specs.Prelude.{ℕ, Bool, not, [], ◌∷◌}
use Rattle.messages.specs.declared.Edition.{Edition}
use Rattle.messages.specs.declared.RunId.{RunId}
use Rattle.messages.specs.Reading.{Checked, no, yes, check, Beside}
use Rattle.rules.specs.declared.Record.{Record}
use Rattle.rules.specs.Records.{is_empty}
use Rattle.rules.specs.Frames.{Kept, Place, own_place, free_place, is_later, profile_rule, second_rule, at_run}
use Rattle.records.specs.declared.find.Found.{Found}
use Rattle.records.specs.declared.find.Found.TheVariants as found
use Rattle.records.specs.Requests.{run_rule}
use Rattle.receiving.specs.declared.judge.OwnMessage.{OwnMessage}
use Rattle.receiving.specs.declared.judge.OwnMessage.TheVariants.{Run, Profile, ValidateSecond}

-- where PARM.REQ's record goes, with admission open or closed: "a car with a record restarts it, even after admission closed. Else 9, 10, or the first free record."
abbrev pub place_rule : Found → Bool → Checked ℕ
place_rule (found.Own i) is_open = yes i
place_rule (found.Free i) is_open = check is_open 9 (yes i)
place_rule found.Nothing is_open = check is_open 9 (no 10)

-- the sort of place that was found
abbrev pub place_found : Found → Place
place_found (found.Own i) = own_place
place_found (found.Free i) = free_place
place_found found.Nothing = free_place

-- whether it makes a later try there
abbrev pub later_at : Edition → Found → Bool
later_at e p = is_later e (place_found p)

-- before that 21, where its run is empty
abbrev pub admission_rule : RunId → Found → Bool → Checked ℕ
admission_rule run p is_open = check (not (is_empty run)) 21 (place_rule p is_open)

-- in an edition, START, SOUND, RSP, PROFILE or the second VALIDATE.REQ at a record, with b beside it
abbrev pub own_rule : Edition → OwnMessage → Beside → Record → Checked Kept
own_rule e (Run run m) b r = at_run run (r ∷ []) (run_rule e m)
own_rule e (Profile n) b r = profile_rule e n b.groups r r.phase
own_rule e (ValidateSecond timer) b r = second_rule timer r r.phase
