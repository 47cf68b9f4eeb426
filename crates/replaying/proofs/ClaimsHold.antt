-- The claims hold.
use Prim.Native.Nat.{ℕ, zero, suc, ◌≤◌}
use mathlib.Core.Path.{◌≡◌, refl, ap, ap₂, subst}
use mathlib.Core.Bool.{Bool, true, not, ◌&&◌, ◌||◌}
use mathlib.Core.List.{List, [], ◌∷◌}
use mathlib.Core.Option.{none, some}
use native.Mathlib.Omega.{arith}
use borrow.Author.Tests.{leb-true, lt-ltb}
use lib.Dec.{eqb, leb, ltb}
use lib.ListN.{length, get_or}
use Rattle.octets.specs.Octets.{value}
use Rattle.messages.specs.Reading.{Checked, yes}
use Rattle.messages.proofs.CheckLaws.{passed}
use Rattle.messages.proofs.LayoutLaws.{and_left}
use Rattle.ends.specs.Lists.{All}
use Rattle.ends.specs.Outcomes.{outcome_of}
use Rattle.rules.specs.Calls.{Call, frame, tick, pilot, terminate, link_up}
use Rattle.rules.specs.Constants.{least_output}
use Rattle.rules.specs.Numbers.{pilot_of}
use Rattle.rules.specs.Rules.{configured, outcome}
use Rattle.rules.specs.Stations.{Done, shared, inner}
use Rattle.rules.proofs.Refusals.{refused_station, bad_refuses}
use Rattle.script.specs.Events.{call, given}
use Rattle.script.specs.Layout.{kinds}
use Rattle.session_log.specs.Meaning.{Item, Log, head_of}
use Rattle.session_log.specs.Reading.{own_length, is_timed, is_sized, is_pilot, part_rules, event_rules, item_rules, field_rules, log_in, read_rules}
use Rattle.replaying.specs.Replaying.{station_of, call_in, call_of, recorded}
use Rattle.replaying.specs.Claims.{EventsAreCalls, BadRefuses}
use Rattle.replaying.proofs.WalkLaws.{then_yes}
use Rattle.replaying.proofs.ReadLaws.{fields}

-- ---- every event is a call

-- by kind, reading and octets, where the length and a pilot change's octet are as the kind asks
call_by : (k t : ℕ) (s : List ℕ) → k ≤ 4 → (eqb k 0 || eqb (length s) (own_length k)) ≡ true → (not (eqb k 2) || leb (get_or s 0 0) 5) ≡ true → (x : Call) × (call_in (get_or (kinds t least_output s) k none) ≡ some x)
unfolding kinds value
call_by zero t s few size octet = (frame s least_output, refl)
call_by (suc zero) t s few size octet = (tick t least_output, ap (λ (b : Bool). call_in (given b (call (tick t least_output)))) size)
call_by (suc (suc zero)) t s few size octet =
    let small : ltb (value s 0 1) 6 ≡ true = lt-ltb (value s 0 1) 6 (let q = leb-true (get_or s 0 0) 5 octet in omega arith) in
    (pilot (pilot_of (value s 0 1)) t, ap (λ (b : Bool). call_in (given b (call (pilot (pilot_of (value s 0 1)) t)))) (ap₂ ◌&&◌ size small))
call_by (suc (suc (suc zero))) t s few size octet = (terminate, ap (λ (b : Bool). call_in (given b (call terminate))) size)
call_by (suc (suc (suc (suc zero)))) t s few size octet = (link_up, ap (λ (b : Bool). call_in (given b (call link_up))) size)
call_by (suc (suc (suc (suc (suc k))))) t s few size octet = absurd (omega arith)

one_call : (e : Item) → event_rules (head_of e) true (get_or e.octets 0 0) ≡ yes tt → (x : Call) × (call_of e ≡ some x)
unfolding event_rules call_of
one_call e h =
    let one = passed (leb e.first 4) 9 _ tt h in
    let two = passed (is_timed (head_of e)) 10 _ tt one.1 in
    let three = passed (is_sized (head_of e) && true) 11 _ tt two.1 in
    let four = passed (is_pilot (head_of e) (get_or e.octets 0 0)) 12 (yes tt) tt three.1 in
    call_by e.first e.second e.octets (leb-true e.first 4 one.0) (and_left (is_sized (head_of e)) true three.0) four.0

all_calls : (es : List Item) → item_rules event_rules es ≡ yes tt → All (λ (e : Item). (x : Call) × (call_of e ≡ some x)) es
unfolding item_rules
all_calls [] h = tt
all_calls (e ∷ es) h =
    let two = then_yes (event_rules (head_of e) true (get_or e.octets 0 0)) (λ (_ : Unit {0}). item_rules event_rules es) tt h in
    (one_call e two.0, all_calls es two.1)

pub events_are_calls : EventsAreCalls
unfolding read_rules
events_are_calls s l e =
    let two = then_yes (part_rules s) (λ (_ : Unit {0}). field_rules (log_in s)) l e in
    let right = fields s (log_in s) l two.1 in
    subst (λ (m : Log). All (λ (e : Item). (x : Call) × (call_of e ≡ some x)) m.events) right.1 (all_calls (log_in s).events right.0)

-- ---- a bad configuration

pub bad_refuses_each : BadRefuses
unfolding configured outcome
bad_refuses_each c bad x =
    let w = bad_refuses (shared (station_of c)) (inner (station_of c)) x bad in
    (refused_station (station_of c) x 16 (ap outcome_of w), ap (λ (d : Checked Done). recorded (outcome_of d)) w)
