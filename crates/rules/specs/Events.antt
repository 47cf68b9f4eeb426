-- Pilot, terminate and link up.
use Rattle.std.specs.Prelude.{Bool, true, false, List, [], map}
use Rattle.messages.specs.Reading.{Checked, no, yes}
use Rattle.ends.specs.declared.Indication.{Indication}
use Rattle.ends.specs.declared.Indication.TheVariants.{Nothing, NoLink, LinkEstablished}
use Rattle.rules.specs.declared.Pilot.{Pilot}
use Rattle.rules.specs.declared.Pilot.TheVariants.{A, B, C, D, E, F}
use Rattle.rules.specs.declared.Record.{Record}
use Rattle.rules.specs.declared.Turn.{Turn}
use Rattle.rules.specs.declared.State.{State}
use Rattle.rules.specs.declared.State.TheVariants.{Unmatched, Matching, Joining, Matched}
use Rattle.rules.specs.Constants.{admission_time}
use Rattle.rules.specs.Records.{freed}
use Rattle.rules.specs.Validation.{toggled_record}
use Rattle.rules.specs.Stations.{Inner, Done, done}

-- "B, C or D"
unfoldable pub plugged : Pilot → Bool
plugged A = false
plugged B = true
plugged C = true
plugged D = true
plugged E = false
plugged F = false

-- "no link" if it was Matching or Joining
unfoldable pub lost : State → Indication
lost Unmatched = Nothing
lost (Matching a) = NoLink
lost (Joining l c run) = NoLink
lost (Matched c) = Nothing

-- "Unmatched, records free", with the indication
abbrev pub ended : Inner → Done
ended i = done Unmatched (map freed i.records) [] (lost i.state)

-- a pilot change, by whether the pilot was and is at B, C or D, and what it means for a toggle
unfoldable pub pilot_done : Bool → Bool → Turn → Inner → Done
pilot_done false true w i = done (Matching admission_time) (map freed i.records) [] Nothing
pilot_done true false w i = ended i
pilot_done false false w i = ended i
pilot_done true true w i = done i.state (map (toggled_record w) i.records) [] Nothing

-- "the pilot is at B"
unfoldable pub is_b : Pilot → Bool
is_b A = false
is_b B = true
is_b C = false
is_b D = false
is_b E = false
is_b F = false

-- link up: "in Joining, Matched and link established; else 8"; "Matched keeps the car of Joining"
unfoldable pub link_rule : State → List Record → Checked Done
link_rule Unmatched rs = no 8
link_rule (Matching a) rs = no 8
link_rule (Joining l c run) rs = yes (done (Matched c) rs [] LinkEstablished)
link_rule (Matched c) rs = no 8
