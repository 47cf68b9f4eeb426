-- What an event of the code is, at the car's end.
use Rattle.std.specs.Prelude.{ℕ, List, Option, Some, None}
use Rattle.std.proofs.Math.Option as math
use Rattle.std.proofs.Math.Option.{none, some}
use Rattle.car_rules.specs.Calls.{Call, start, frame, tick, terminate, link_up}
use Rattle.script.specs.declared.car_doing.Call as code_call
use Rattle.script.specs.declared.car_doing.Call.TheVariants.{Frame, Tick, Start, Terminate, LinkUp}
use Rattle.script.specs.declared.car_doing.Event as code_event
use Rattle.script.specs.declared.car_doing.Event.TheVariants as code
use Rattle.script.specs.Events.{call, query}
use Rattle.script.specs.CarLayout.{Event}

-- the call that one of the code is, with the reading t, the room and the octets s
abbrev pub call_as : ℕ → ℕ → List ℕ → code_call.Call → Call
call_as t room s Frame = frame s room
call_as t room s Tick = tick t room
call_as t room s (Start run random) = start run random t room
call_as t room s Terminate = terminate
call_as t room s LinkUp = link_up

-- the event
abbrev pub event_as : ℕ → ℕ → List ℕ → code_event.Event → Event
event_as t room s (code.Call x) = call (call_as t room s x)
event_as t room s code.Query = query tt

-- the event, where there is one
abbrev pub event_in : ℕ → ℕ → List ℕ → Option code_event.Event → math.Option Event
event_in t room s None = none
event_in t room s (Some x) = some (event_as t room s x)
