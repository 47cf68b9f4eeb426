-- What an event of the code is, at the station's end.
use Rattle.std.specs.Prelude.{◌≡◌, ℕ, true, List, Option, Some, None, ⊤}
use Rattle.std.proofs.Math.Option as math
use Rattle.std.proofs.Math.Option.{none, some}
use Rattle.rules.specs.Calls.{Call, frame, tick, pilot, terminate, link_up}
use Rattle.script.specs.declared.doing.Call as code_call
use Rattle.script.specs.declared.doing.Call.TheVariants.{Frame, Tick, Pilot, Terminate, LinkUp}
use Rattle.script.specs.declared.doing.Event as code_event
use Rattle.script.specs.declared.doing.Event.TheVariants as code
use Rattle.script.specs.Events.{call, query}
use Rattle.script.specs.Layout.{Event, service, reduction, inspection, values_in, levels_in, is_reduction}

-- the call that one of the code is, with the reading t, the room and the octets s
abbrev pub call_as : ℕ → ℕ → List ℕ → code_call.Call → Call
call_as t room s Frame = frame s room
call_as t room s Tick = tick t room
call_as t room s (Pilot p) = pilot p t
call_as t room s Terminate = terminate
call_as t room s LinkUp = link_up

-- the event
abbrev pub event_as : ℕ → ℕ → List ℕ → code_event.Event → Event
event_as t room s (code.Call x) = call (call_as t room s x)
event_as t room s (code.Query c) = query (service c)
event_as t room s code.Reduction = query (reduction (values_in s) (levels_in s) room)
event_as t room s code.Inspection = query inspection

-- the event, where there is one
abbrev pub event_in : ℕ → ℕ → List ℕ → Option code_event.Event → math.Option Event
event_in t room s None = none
event_in t room s (Some x) = some (event_as t room s x)

-- the octets are those of a reduction, where the event is one
abbrev pub Fitting : List ℕ → code_event.Event → Type 0
Fitting s (code.Call x) = ⊤
Fitting s (code.Query c) = ⊤
Fitting s code.Reduction = is_reduction s ≡ true
Fitting s code.Inspection = ⊤
