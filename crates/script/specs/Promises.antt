-- What starting a station's script and carrying an event out promise.
use Rattle.std.specs.Prelude.{ℕ, ◌≡◌, true, false, List, Option, Some, None}
use Rattle.std.proofs.Math.Option as math
use Rattle.std.proofs.Math.Option.{some}
use Rattle.amplitude.specs.Reductions.{reduce_rules}
use Rattle.rules.specs.declared.Station.{Station}
use Rattle.rules.specs.Calls.{Call}
use Rattle.rules.specs.Rules as rules
use Rattle.rules.specs.Rules.{configured, configuring, step, outcome, query}
use Rattle.rules.specs.Invariant.{Invariant}
use Rattle.script.specs.declared.Started.{Started}
use Rattle.script.specs.declared.Happened.{Happened}
use Rattle.script.specs.Layout.{address_in, modem_in, nid_in, nmk_in, exempt_in, edition_in, carriers_in, Question, service, reduction, inspection, Event}
use Rattle.script.specs.Replies.{call_reply, query_reply, told_octets, inspected_octets}
use Rattle.script.specs.Ends.{StartsAs, after, reply_to, CarriedOut, HappensAs}

-- the whole promise of starting by the head h, any octets: whether a head keeps to the layout is asked beside it
abbrev pub Starts : List ℕ → Started Station → Type 0
Starts h r = StartsAs Invariant (configured (address_in h) (modem_in h) (nid_in h) (nmk_in h) (exempt_in h) (edition_in h) (carriers_in h)) (configuring (address_in h) (modem_in h) (nid_in h) (carriers_in h)) r.first r.answer

-- the reply to what changes no station: what the query tells, the reductions, or what the inspection tells
abbrev pub answer_to : Station → Question → List ℕ
answer_to s (service c) = query_reply told_octets (query s c)
answer_to s (reduction vs ls n) = query_reply (λ (ws : List ℕ). ws) (reduce_rules vs ls n)
answer_to s inspection = query_reply inspected_octets (rules.inspection s.config s.state)

-- the reply to an event
abbrev pub reply : Station → math.Option Event → List ℕ
reply s x = reply_to (λ (y : Call). call_reply (outcome s y)) (answer_to s) x

-- the promise of an event x that is carried out: r, and the output from entry to exit
abbrev pub CarriesOut : Station → Event → (entry exit : List ℕ) → Happened Station → Type 0
CarriesOut s x entry exit r = CarriedOut Invariant (after step s (some x)) (reply s (some x)) entry exit r.left r.octets

-- the whole promise of an event x, or none: r, and the output from entry to exit
abbrev pub Happens : Station → math.Option Event → (entry exit : List ℕ) → Option (Happened Station) → Type 0
Happens s x entry exit r = HappensAs Invariant x (after step s x) (reply s x) entry exit r
