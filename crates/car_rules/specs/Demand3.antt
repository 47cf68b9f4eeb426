-- Demand 3 of the car: foreign frames change nothing, whatever else it gets.
use Rattle.std.specs.Prelude.{◌≡◌, Bool, true, false, not, cond, ◌&&◌, List, [], ◌∷◌, map}
use Rattle.messages.specs.declared.StationAddress.{StationAddress}
use Rattle.messages.specs.Reading.{Checked, no, yes}
use Rattle.ends.specs.Lists.{only}
use Rattle.ends.specs.Outcomes.{Outcome}
use Rattle.car_rules.specs.declared.Car.{Car}
use Rattle.car_rules.specs.declared.State.{State}
use Rattle.car_rules.specs.declared.State.TheVariants.{Idle, Asking, Confirmed, Sounding, Requesting, Joining, Matched}
use Rattle.car_rules.specs.Calls.{Call, start, frame, tick, link_up, terminate}
use Rattle.car_rules.specs.Frames.{same_station, of_our_run}
use Rattle.car_rules.specs.Received.{StationMessage, parm_cnf, report, match_cnf, untaken, Received, received, is_for_us}
use Rattle.car_rules.specs.Rules.{step, outcome, after, key_query}

-- ---- foreign frames

-- "in Requesting, Joining and Matched from the chosen station; in Idle every frame call is one" that is foreign
unfoldable pub is_ours : State → StationAddress → Bool
is_ours Idle s = false
is_ours (Asking t n) s = true
is_ours (Confirmed t) s = true
is_ours (Sounding k t g) s = true
is_ours (Requesting t n d) s = same_station s d
is_ours (Joining t key) s = same_station s key.station
is_ours (Matched key) s = same_station s key.station

-- "PARM.CNF, ATTEN_CHAR.IND or MATCH.CNF"
unfoldable pub is_of_matching : StationMessage → Bool
is_of_matching parm_cnf = true
is_of_matching (report k vs) = true
is_of_matching (match_cnf nid nmk) = true
is_of_matching untaken = false

-- one of these "to us and not from us, with the run that the car has when it comes"
unfoldable pub is_own : Car → Checked Received → Bool
is_own c (no n) = false
is_own c (yes x) = is_of_matching x.message && is_for_us c.config x && of_our_run c x.run && is_ours c.state x.station

-- "a foreign frame: every frame call, with any output, unless its octets read as" one of its own
unfoldable pub is_foreign : Car → Call → Bool
is_foreign c (start run random t room) = false
is_foreign c (frame s room) = not (is_own c (received s))
is_foreign c (tick t room) = false
is_foreign c link_up = false
is_foreign c terminate = false

-- ---- some of them left out

-- a call, and whether it is left out
pub record Marked : Type 0 where
  pub call : Call
  pub left_out : Bool

-- all calls
abbrev pub all : List Marked → List Call
all xs = map (λ (x : Marked). x.call) xs

-- those that are not left out
abbrev pub rest : List Marked → List Call
rest xs = all (only (λ (x : Marked). not x.left_out) xs)

-- "leave out any of the foreign frames": foreign when it comes, to the car that gets all calls
abbrev pub OnlyForeign : Car → List Marked → Type 0
OnlyForeign c [] = Unit {0}
OnlyForeign c (x ∷ xs) = (x.left_out ≡ true → is_foreign c x.call ≡ true) × OnlyForeign (step c x.call) xs

-- what each call gives
unfoldable pub outcomes : Car → List Call → List Outcome
outcomes c [] = []
outcomes c (x ∷ xs) = outcome c x ∷ outcomes (step c x) xs

-- what "every other call" gives the car that gets all
unfoldable pub others : Car → List Marked → List Outcome
others c [] = []
others c (x ∷ xs) = cond x.left_out (others (step c x.call) xs) (outcome c x.call ∷ others (step c x.call) xs)

-- ---- demand 3, whole

-- a car that gets all calls, and one that gets those that are not left out
pub record Same (c : Car) (xs : List Marked) : Type 0 where
  -- "every other call gives the same frame, indication or refusal, octet for octet"
  pub gives : others c xs ≡ outcomes c (rest xs)
  -- "the car ends the same in every field"
  pub car : after c (all xs) ≡ after c (rest xs)
  -- and the key query gives the same "key or refusal"
  pub key : key_query (after c (all xs)) ≡ key_query (after c (rest xs))

-- of the car c, for every list of calls with any of the foreign frames left out
pub record Demand3 (c : Car) : Type 0 where
  pub foreign_frames : (xs : List Marked) → OnlyForeign c xs → Same c xs
