-- Demand 3: cars do not disturb each other. One statement over the rules, in octets.
use Rattle.std.specs.Prelude.{ℕ, ◌+◌, ◌≡◌, Bool, true, false, not, ◌&&◌, ◌||◌, List, [], ◌∷◌, ◌++◌, eqb}
use Rattle.std.proofs.Math.Option.{Option, none, some}
use Rattle.messages.specs.declared.CarAddress.{CarAddress}
use Rattle.messages.specs.declared.Edition.{Edition}
use Rattle.octets.specs.Octets.{value}
use Rattle.messages.specs.Layout.{size}
use Rattle.messages.specs.Table.{Kind, slac_parm_req, validate_req, slac_match_req, type_of, head, Message}
use Rattle.messages.specs.Reading.{Checked, no, yes, read_rules, car_of}
use Rattle.amplitude.specs.Reading as amplitude
use Rattle.rules.specs.declared.Station.{Station}
use Rattle.ends.specs.Lists.{only, All, Permuted}
use Rattle.rules.specs.Calls.{Call, frame, tick, pilot, terminate, link_up}
use Rattle.ends.specs.Outcomes.{Outcome, frames_of}
use Rattle.rules.specs.Constants.{failure_result}
use Rattle.rules.specs.Records.{same_car, mine}
use Rattle.rules.specs.Events.{plugged}
use Rattle.rules.specs.Rules.{step, outcome, after}

-- ---- its words

-- c is the car that a call names: the call is one of the car's own frames
unfoldable pub is_car : CarAddress → Option CarAddress → Bool
is_car c none = false
is_car c (some d) = same_car c d

-- "other cars' frames: frame calls whose octets name another car; those that name none stay"
unfoldable pub is_other : CarAddress → Option CarAddress → Bool
is_other c none = false
is_other c (some d) = not (same_car c d)

-- "accepted": not refused
unfoldable pub accepted : Outcome → Bool
accepted (no n) = false
accepted (yes x) = true

-- refused with 10: all records held, none by this car
unfoldable pub is_ten : Outcome → Bool
is_ten (no n) = eqb n 10
is_ten (yes x) = false

-- what was read is this message
unfoldable pub is_read : Kind → Checked Message → Bool
is_read k (no n) = false
is_read k (yes m) = eqb (type_of k) (type_of m.kind)

-- the one of two cars that there is
abbrev pub either_car : Option CarAddress → Option CarAddress → Option CarAddress
either_car none y = y
either_car (some c) y = some c

module _ (e : Edition) where
  -- the car that "octets name": frame calls alone name one, and only if they can be read in the station's edition, as one of the eleven messages or of amplitude maps
  unfoldable pub named : Call → Option CarAddress
  named (frame s room) = either_car (car_of (read_rules e s)) (amplitude.car_of (amplitude.read_rules s))
  named (tick t room) = none
  named (pilot p t) = none
  named terminate = none
  named link_up = none

  -- the calls without other cars' frames
  abbrev pub without : CarAddress → List Call → List Call
  without c xs = only (λ (x : Call). not (is_other c (named x))) xs

  -- a frame that reads as this message: "parameter request" is PARM.REQ, "validate request" VALIDATE.REQ of either kind, "match request" MATCH.REQ
  unfoldable pub is_kind : Kind → Call → Bool
  is_kind k (frame s room) = is_read k (read_rules e s)
  is_kind k (tick t room) = false
  is_kind k (pilot p t) = false
  is_kind k terminate = false
  is_kind k link_up = false

  -- such a request, accepted
  unfoldable pub is_accepted : Kind → Call → Outcome → Bool
  is_accepted k x u = is_kind k x && accepted u

  -- such a request of car c's own, accepted
  unfoldable pub is_own_accepted : CarAddress → Kind → Call → Outcome → Bool
  is_own_accepted c k x u = is_kind k x && is_car c (named x) && accepted u

-- some of these frames, each a VALIDATE.CNF, has this result: it stands in the third octet behind the head
unfoldable pub any_result : ℕ → List (List ℕ) → Bool
any_result result [] = false
any_result result (f ∷ fs) = eqb (value f (size head + 2) 1) result || any_result result fs

-- some has the result 03
abbrev pub any_failure : List (List ℕ) → Bool
any_failure fs = any_result failure_result fs

-- "a reply to a car: a frame that a call reports with it as destination"
unfoldable pub is_to : CarAddress → List ℕ → Bool
is_to c f = eqb (value f 0 6) c.0

-- the replies to car c among the frames that a call reports
abbrev pub replies_in : CarAddress → Outcome → List (List ℕ)
replies_in c u = only (is_to c) (frames_of u)

-- all replies to car c, in order
unfoldable pub replies : CarAddress → Station → List Call → List (List ℕ)
replies c s [] = []
replies c s (x ∷ xs) = replies_in c (outcome s x) ++ replies c (step s x) xs

-- ---- part one: other cars' frames make no difference to a car

-- "plug-in: an accepted pilot change from A, E or F to B, C or D"
unfoldable pub is_plug_in : Station → Call → Bool
is_plug_in s (frame f room) = false
is_plug_in s (tick t room) = false
is_plug_in s (pilot p t) = accepted (outcome s (pilot p t)) && not (plugged s.pilot) && plugged p
is_plug_in s terminate = false
is_plug_in s link_up = false

module _ (e : Edition) where
  -- what can end the comparison for every car: match requests, "pilot loss: one to A, E or F", and terminate
  unfoldable pub is_end : Call → Bool
  is_end (frame s room) = is_kind e slac_match_req (frame s room)
  is_end (tick t room) = false
  is_end (pilot p t) = not (plugged p)
  is_end terminate = true
  is_end link_up = false

  -- the call, with this outcome, ends the comparison for car c: one of these accepted, or a parameter request of c refused with 10
  unfoldable pub ends_for : CarAddress → Call → Outcome → Bool
  ends_for c x u = (is_end x && accepted u) || (is_kind e slac_parm_req x && is_car c (named e x) && is_ten u)

  -- "it now also names an accepted validate request, of any car and of either kind"
  unfoldable pub ends_early : CarAddress → Call → Outcome → Bool
  ends_early c x u = ends_for c x u || is_accepted e validate_req x u

  -- more than is asked: of the validate requests only one of c's own that is answered 03 ends it
  unfoldable pub ends : CarAddress → Call → Outcome → Bool
  ends c x u = ends_for c x u || (is_kind e validate_req x && is_car c (named e x) && any_failure (frames_of u))

-- the calls since a plug-in until one that ends the comparison; one that is the last inside may stand behind them
pub data Lasts (is_over is_last : Call → Outcome → Bool) : Station → List Call → Type 0 where
  begun : {s : Station} → Lasts is_over is_last s []
  further : {s : Station} {x : Call} {xs : List Call} → is_over x (outcome s x) ≡ false → Lasts is_over is_last (step s x) xs → Lasts is_over is_last s (x ∷ xs)
  matched : {s : Station} {x : Call} → is_last x (outcome s x) ≡ true → Lasts is_over is_last s (x ∷ [])

module _ (e : Edition) where
  -- the comparison for car c as document 01 asks for it: its own accepted match or validate request is the last call inside
  abbrev pub Shorter : CarAddress → Station → List Call → Type 0
  Shorter c = Lasts (ends_early e c) (λ (x : Call) (u : Outcome). is_own_accepted e c slac_match_req x u || is_own_accepted e c validate_req x u)

  -- the comparison for car c as far as it goes: its own accepted match request is the last call inside
  abbrev pub Longer : CarAddress → Station → List Call → Type 0
  Longer c = Lasts (ends e c) (is_own_accepted e c slac_match_req)

-- two stations, each with its calls: the same replies to car c, and the same record of its own
pub record SameFor (c : CarAddress) (s : Station) (xs : List Call) (t : Station) (ys : List Call) : Type 0 where
  pub replied : replies c s xs ≡ replies c t ys
  pub own : mine c (after s xs).records ≡ mine c (after t ys).records

-- calls `before`, a plug-in, calls `since` that last so long: without other cars' frames the same since the plug-in
abbrev pub Undisturbed : (Edition → CarAddress → Station → List Call → Type 0) → Station → CarAddress → List Call → Call → List Call → Type 0
Undisturbed Window s₀ c before plug since =
    is_plug_in (after s₀ before) plug ≡ true
    → Window s₀.config.edition c (step (after s₀ before) plug) since
    → SameFor c (step (after s₀ before) plug) since (step (after s₀ (without s₀.config.edition c before)) plug) (without s₀.config.edition c since)

-- ---- part two: the order of different cars' frames in a row makes no difference

-- a call with what it gave
pub record Event : Type 0 where
  pub call : Call
  pub gave : Outcome

-- the calls with what each gave, in the order that they came
unfoldable pub events : Station → List Call → List Event
events s [] = []
events s (x ∷ xs) = record { call = x; gave = outcome s x } ∷ events (step s x) xs

-- a frame call
unfoldable pub is_frame : Call → Bool
is_frame (frame s room) = true
is_frame (tick t room) = false
is_frame (pilot p t) = false
is_frame terminate = false
is_frame link_up = false

module _ (e : Edition) where
  -- what a row is made of: a frame that is no accepted match or validate request and is not refused with 10
  unfoldable pub moves : Event → Bool
  moves v = is_frame v.call && not (is_accepted e slac_match_req v.call v.gave) && not (is_accepted e validate_req v.call v.gave) && not (is_ten v.gave)

  -- "in a row: with no call but frames between"
  abbrev pub AllMove : List Event → Type 0
  AllMove vs = All (λ (v : Event). moves v ≡ true) vs

  -- another order of calls, or of events by their calls, that keeps each car's own frames in order
  pub record Reordered {A : Type 0} (call : A → Call) (row row' : List A) : Type 0 where
    pub permuted : Permuted row row'
    pub own_kept : (c : CarAddress) → only (λ (x : A). is_car c (named e (call x))) row ≡ only (λ (x : A). is_car c (named e (call x))) row'

-- the same outcome of two ticks, their frames in any order
abbrev pub SameFrames : Outcome → Outcome → Type 0
SameFrames (no n) (no k) = n ≡ k
SameFrames (no n) (yes y) = ⊥
SameFrames (yes x) (no k) = ⊥
SameFrames (yes x) (yes y) = Permuted x.frames y.frames × (x.indication ≡ y.indication)

-- the same outcome of two calls: a tick's frames in any order
abbrev pub Alike : Call → Outcome → Outcome → Type 0
Alike (frame s room) u v = u ≡ v
Alike (tick t room) u v = SameFrames u v
Alike (pilot p t) u v = u ≡ v
Alike terminate u v = u ≡ v
Alike link_up u v = u ≡ v

-- the same outcomes, call by call
abbrev pub AllAlike : List Event → List Event → Type 0
AllAlike [] [] = Unit {0}
AllAlike [] (f ∷ fs) = ⊥
AllAlike (e ∷ es) [] = ⊥
AllAlike (e ∷ es) (f ∷ fs) = Alike e.call e.gave f.gave × AllAlike es fs

-- from station s, the row in the order row': each of its calls gives what it gave, each later call the same, and each car ends with the same record
pub record SameInOrder (s : Station) (row row' last : List Call) : Type 0 where
  pub row_gives : Reordered s.config.edition (λ (v : Event). v.call) (events s row) (events s row')
  pub last_gives : AllAlike (events (after s row) last) (events (after s row') last)
  pub own : (c : CarAddress) → mine c (after (after s row) last).records ≡ mine c (after (after s row') last).records

-- calls `first`, a row, calls `last`
abbrev pub OrderFree : Station → List Call → List Call → List Call → List Call → Type 0
OrderFree s₀ first row row' last =
    AllMove s₀.config.edition (events (after s₀ first) row)
    → Reordered s₀.config.edition (λ (x : Call). x) row row'
    → SameInOrder (after s₀ first) row row' last

-- ---- demand 3, whole

-- of the station s₀, for every car and every list of calls
pub record Demand3 (s₀ : Station) : Type 0 where
  pub undisturbed : (c : CarAddress) (before : List Call) (plug : Call) (since : List Call) → Undisturbed Longer s₀ c before plug since
  pub undisturbed_shorter : (c : CarAddress) (before : List Call) (plug : Call) (since : List Call) → Undisturbed Shorter s₀ c before plug since
  pub order_free : (first row row' last : List Call) → OrderFree s₀ first row row' last
