-- What starting a car's script and carrying an event out promise.
use Rattle.std.specs.Prelude.{ℕ, List, Option}
use Rattle.std.proofs.Math.Option as math
use Rattle.std.proofs.Math.Option.{some}
use Rattle.car_rules.specs.declared.Car.{Car}
use Rattle.car_rules.specs.Calls.{Call}
use Rattle.car_rules.specs.Invariant.{Invariant}
use Rattle.car_rules.specs.Rules.{configured, configuring, step, outcome, key_query}
use Rattle.script.specs.declared.Happened.{Happened}
use Rattle.script.specs.declared.Started.{Started}
use Rattle.script.specs.CarLayout.{address_in, reference_in, Event}
use Rattle.script.specs.Replies.{call_reply, query_reply, key_octets}
use Rattle.script.specs.Ends.{StartsAs, after, reply_to, CarriedOut, HappensAs}

-- the whole promise of starting by the head h
abbrev pub Starts : List ℕ → Started Car → Type 0
Starts h r = StartsAs Invariant (configured (address_in h) (reference_in h)) (configuring (address_in h) (reference_in h)) r.first r.answer

-- the reply to an event: a key query's is the station, its NID and its NMK
abbrev pub reply : Car → math.Option Event → List ℕ
reply c x = reply_to (λ (y : Call). call_reply (outcome c y)) (λ (_ : Unit {0}). query_reply key_octets (key_query c)) x

-- the promise of an event x that is carried out: r, and the output from entry to exit
abbrev pub CarriesOut : Car → Event → (entry exit : List ℕ) → Happened Car → Type 0
CarriesOut c x entry exit r = CarriedOut Invariant (after step c (some x)) (reply c (some x)) entry exit r.left r.octets

-- the whole promise of an event x, or none: r, and the output from entry to exit
abbrev pub Happens : Car → math.Option Event → (entry exit : List ℕ) → Option (Happened Car) → Type 0
Happens c x entry exit r = HappensAs Invariant x (after step c x) (reply c x) entry exit r
