-- Laws of what a station receives: the car is the one that the frame names, and a unicast one; PARM.REQ, VALIDATE.REQ and MATCH.REQ are what they read as, and a request with a map is none of them.
use Prim.Native.Nat.{ℕ, zero, suc, ◌+◌, ◌-◌, ◌<◌, ◌≤◌}
use mathlib.Core.Path.{◌≡◌, refl, sym, ◌∙◌, ap, subst}
use mathlib.Core.Bool.{Bool, true, false, cond}
use mathlib.Core.List.{List, [], ◌∷◌, ◌++◌}
use mathlib.Core.Option.{Option, some}
use native.Mathlib.Omega.{arith}
use lib.Dec.{eqb, leb}
use lib.ListN.{length, get_or, take, drop, replicate, length-append, length-take, length-drop, length-replicate}
use Rattle.octets.specs.Octets.{value, Octets}
use Rattle.messages.specs.declared.Edition.{Edition}
use Rattle.messages.specs.Layout.{Values, size, fits, read}
use Rattle.messages.specs.Table.{Kind, slac_parm_req, slac_parm_cnf, start_atten_char_ind, atten_char_ind, atten_char_rsp, mnbc_sound_ind, validate_req, validate_cnf, slac_match_req, slac_match_cnf, atten_profile_ind, group_count, is_count, count_at, head, is_unicast, broadcast, payload, Message, is_counted}
use Rattle.messages.specs.Reading.{Checked, no, yes, beside_in, beside_of, car_of, read_rules}
use Rattle.messages.specs.declared.CarAddress.{CarAddress}
use Rattle.octets.proofs.OctetLaws.{octets_drop}
use Rattle.messages.proofs.FrameLaws.{accepted, groups_from, atten_profile_ind_groups, count_most, stands_room, stands_read}
use Rattle.messages.proofs.LayoutLaws.{to_fits, read_fits}
use Rattle.messages.proofs.TableLaws.{size_payload}
use Rattle.messages.proofs.NamedCars.{cars_unicast}
use Rattle.amplitude.specs.Maps.{MapMessage, amp_map_req, amp_map_cnf}
use Rattle.amplitude.specs.Reading as amplitude
use Rattle.amplitude.specs.Reading.{summary_of}
use Rattle.amplitude.proofs.NamedCars as maps
use Rattle.rules.specs.declared.Configuration.{Configuration}
use Rattle.rules.specs.Constants.{window_count, least_output}
use Rattle.rules.specs.Received.{validate_first, validate_second, Request, for_record, match_req, map_req, Received, received_as, message_as, map_in, received, is_for_us}
use Rattle.ends.specs.Outcomes.{and_then, or_else}
use Rattle.rules.specs.FromOctets.{CountedValues, IsId, Holds, OctetRequest}
use Rattle.rules.specs.Frames.{admitted}
use Rattle.rules.specs.Demand3.{either_car, is_read}
use Rattle.ends.proofs.Logic.{OnYes, on_check, on_else}
use Rattle.rules.proofs.ReadingLaws.{OctetMessage, read_octets, timer_in, TimerMessage, read_timer}
use Rattle.rules.proofs.RuleLaws.{is_ask, is_validate}

-- ---- the answers are those of reading

abbrev pub is_match : Request → Bool
is_match (for_record m) = false
is_match (match_req run a b) = true
is_match (map_req n) = false

abbrev pub asks_in : Request → Bool
asks_in (for_record m) = is_ask m
asks_in (match_req run a b) = false
asks_in (map_req n) = false

abbrev pub validates_in : Request → Bool
validates_in (for_record m) = is_validate m
validates_in (match_req run a b) = false
validates_in (map_req n) = false

-- what was received, and what reading the octets gave, as one of the eleven messages and as one of amplitude maps
pub record ReadAs (x : Checked Message) (z : Checked MapMessage) (y : Received) : Type 0 where
  pub car : either_car (car_of x) (amplitude.car_of z) ≡ some y.car
  pub unicast : is_unicast y.car.0 ≡ true
  pub matching : is_read slac_match_req x ≡ is_match y.request
  pub asking : is_read slac_parm_req x ≡ asks_in y.request
  pub validating : is_read validate_req x ≡ validates_in y.request

-- what was received of a frame
abbrev pub FrameAs : Edition → List ℕ → Received → Type 0
FrameAs e s = ReadAs (read_rules e s) (amplitude.read_rules s)

-- a car that is named is a unicast one
abbrev Unicasts : Option CarAddress → Type 0
Unicasts x = (c : CarAddress) → x ≡ some c → is_unicast c.0 ≡ true

abbrev NamesUnicast : Checked Message → Type 0
NamesUnicast x = Unicasts (car_of x)

validation_read : (z : Checked MapMessage) (e : Edition) (b : Bool) (t g d f : ℕ) (vs : Values (payload e validate_req g d f)) → NamesUnicast (yes (record { edition = e; kind = validate_req; count = g; dst = d; src = f; values = vs }))
    → ReadAs (yes (record { edition = e; kind = validate_req; count = g; dst = d; src = f; values = vs })) z (record { car = record { 0 = f }; dst = d; src = f; request = for_record (cond b (validate_second t) validate_first) })
unfolding is_read
validation_read z e true t g d f vs u = record { car = refl; unicast = u _ refl; matching = refl; asking = refl; validating = refl }
validation_read z e false t g d f vs u = record { car = refl; unicast = u _ refl; matching = refl; asking = refl; validating = refl }

read_as_kind : (z : Checked MapMessage) (e : Edition) (k : Kind) (g d f : ℕ) (vs : Values (payload e k g d f)) → NamesUnicast (yes (record { edition = e; kind = k; count = g; dst = d; src = f; values = vs }))
    → OnYes (ReadAs (yes (record { edition = e; kind = k; count = g; dst = d; src = f; values = vs })) z) (received_as e k g d f vs)
unfolding is_read
read_as_kind z e slac_parm_req g d f vs u = record { car = refl; unicast = u _ refl; matching = refl; asking = refl; validating = refl }
read_as_kind z e slac_parm_cnf g d f vs u = tt
read_as_kind z e start_atten_char_ind g d f vs u = record { car = refl; unicast = u _ refl; matching = refl; asking = refl; validating = refl }
read_as_kind z e atten_char_ind g d f vs u = tt
read_as_kind z e atten_char_rsp g d f vs u = record { car = refl; unicast = u _ refl; matching = refl; asking = refl; validating = refl }
read_as_kind z e mnbc_sound_ind g d f vs u = record { car = refl; unicast = u _ refl; matching = refl; asking = refl; validating = refl }
read_as_kind z e validate_req g d f vs u = validation_read z e (eqb d broadcast) vs.0 g d f vs u
read_as_kind z e validate_cnf g d f vs u = tt
read_as_kind z e slac_match_req g d f vs u = record { car = refl; unicast = u _ refl; matching = refl; asking = refl; validating = refl }
read_as_kind z e slac_match_cnf g d f vs u = tt
read_as_kind z e atten_profile_ind g d f vs u = record { car = refl; unicast = u _ refl; matching = refl; asking = refl; validating = refl }

read_as_map : (n : ℕ) (z : Checked MapMessage) → Unicasts (amplitude.car_of z) → OnYes (ReadAs (no n) z) (map_in (summary_of z))
unfolding is_read
read_as_map n (no x) u = tt
read_as_map n (yes (amp_map_req d f vs)) u = record { car = refl; unicast = u _ refl; matching = refl; asking = refl; validating = refl }
read_as_map n (yes (amp_map_cnf d f x)) u = tt

read_as_in : (x : Checked Message) (z : Checked MapMessage) → NamesUnicast x → Unicasts (amplitude.car_of z) → OnYes (ReadAs x z) (or_else x message_as (map_in (summary_of z)))
read_as_in (no n) z u v = on_else message_as (map_in (summary_of z)) (ReadAs (no n) z) (no n) tt (read_as_map n z v)
read_as_in (yes m) z u v = read_as_kind z m.edition m.kind m.count m.dst m.src m.values u

received_read : (e : Edition) (s : List ℕ) → OnYes (FrameAs e s) (received e s)
unfolding received
received_read e s = read_as_in (read_rules e s) (amplitude.read_rules s) (cars_unicast e s) (maps.cars_unicast s)

-- what no state and no record refuses is what was received
admitted_on : (P : Received → Type 0) (o : Configuration) (room : ℕ) (x : Checked Received) → OnYes P x → OnYes P (admitted o room x)
unfolding admitted
admitted_on P o room (no n) h = on_check P o.good 16 _ (λ g. on_check P (leb least_output room) 15 (no n) (λ k. tt))
admitted_on P o room (yes y) h = on_check P o.good 16 _ (λ g. on_check P (leb least_output room) 15 _ (λ k. on_check P (is_for_us o y) 7 (yes y) (λ l. h)))

pub read_as : (e : Edition) (o : Configuration) (room : ℕ) (s : List ℕ) → OnYes (FrameAs e s) (admitted o room (received e s))
read_as e o room s = admitted_on (FrameAs e s) o room (received e s) (received_read e s)

-- ---- what stands behind the counted values

pub zeros_at : (n i : ℕ) → get_or (replicate {A = ℕ} n 0) i 0 ≡ 0
zeros_at zero i = refl
zeros_at (suc n) zero = refl
zeros_at (suc n) (suc i) = zeros_at n i

past_count : (g z : ℕ) (l : List ℕ) (i : ℕ) → g ≤ i → get_or (take g l ++ replicate z 0) i 0 ≡ 0
past_count zero z l i h = zeros_at z i
past_count (suc g) z [] i h = zeros_at z i
past_count (suc g) z (x ∷ l) zero h = absurd (omega arith)
past_count (suc g) z (x ∷ l) (suc i) h = past_count g z l i (omega arith)

-- ---- what holds of a profile, of a timer and of identifiers

module _ (P : ℕ → List ℕ → Type 0) (Q : ℕ → Type 0) (R : List ℕ → List ℕ → Type 0) where
  abbrev OfReceived : Received → Type 0
  OfReceived y = Holds P Q R y.request

  abbrev ValuesAs : (e : Edition) (k : Kind) (g d f : ℕ) → Values (payload e k g d f) → Type 0
  ValuesAs e k g d f vs =
      (k ≡ atten_profile_ind → P g (beside_in e k g d f vs).groups)
      × ((k ≡ validate_req → Q (timer_in e k g d f vs))
      × (k ≡ slac_match_req → R (beside_in e k g d f vs).first (beside_in e k g d f vs).second))

  abbrev ValuesMessage : Message → Type 0
  ValuesMessage m = ValuesAs m.edition m.kind m.count m.dst m.src m.values

  values_validation : (b : Bool) (t : ℕ) → Q t → Holds P Q R (for_record (cond b (validate_second t) validate_first))
  values_validation true t h = h
  values_validation false t h = tt

  values_as : (e : Edition) (k : Kind) (g d f : ℕ) (vs : Values (payload e k g d f)) → ValuesAs e k g d f vs → OnYes OfReceived (received_as e k g d f vs)
  values_as e slac_parm_req g d f vs h = tt
  values_as e slac_parm_cnf g d f vs h = tt
  values_as e start_atten_char_ind g d f vs h = tt
  values_as e atten_char_ind g d f vs h = tt
  values_as e atten_char_rsp g d f vs h = tt
  values_as e mnbc_sound_ind g d f vs h = tt
  values_as e validate_req g d f vs h = values_validation (eqb d broadcast) vs.0 (h.1.0 refl)
  values_as e validate_cnf g d f vs h = tt
  values_as e slac_match_req g d f vs h = h.1.1 refl
  values_as e slac_match_cnf g d f vs h = tt
  values_as e atten_profile_ind g d f vs h = h.0 refl

  values_in_lem : (x : Checked Message) → ((m : Message) → x ≡ yes m → ValuesMessage m) → OnYes OfReceived (and_then x message_as)
  values_in_lem (no n) h = tt
  values_in_lem (yes m) h = values_as m.edition m.kind m.count m.dst m.src m.values (h m refl)

  values_map : (z : Checked MapMessage) → OnYes OfReceived (map_in (summary_of z))
  values_map (no n) = tt
  values_map (yes (amp_map_req d f vs)) = tt
  values_map (yes (amp_map_cnf d f x)) = tt

  values_received : (e : Edition) (s : List ℕ) → ((m : Message) → read_rules e s ≡ yes m → ValuesMessage m) → OnYes OfReceived (received e s)
  unfolding received
  values_received e s h = on_else message_as (map_in (summary_of (amplitude.read_rules s))) OfReceived (read_rules e s) (values_in_lem (read_rules e s) h) (values_map (amplitude.read_rules s))

  pub admitted_values : (e : Edition) (o : Configuration) (room : ℕ) (s : List ℕ) → ((m : Message) → read_rules e s ≡ yes m → ValuesMessage m) → OnYes OfReceived (admitted o room (received e s))
  admitted_values e o room s h = admitted_on OfReceived o room (received e s) (values_received e s h)

-- ---- of the group values of a frame

module _ (e : Edition) (s : List ℕ) (m : Message) (q : read_rules e s ≡ yes m) (k : m.kind ≡ atten_profile_ind) where
  abbrev groups_of : List ℕ
  groups_of = (beside_in m.edition m.kind m.count m.dst m.src m.values).groups

  -- they are the counted octets, and zeros behind them
  groups_are : groups_of ≡ groups_from m.count (drop (size head + 8) s)
  groups_are = sym (stands_read e s m m.count refl (sym q) atten_profile_ind_groups k ∙ ap (λ (x : Checked Message). (beside_of x).groups) q)

  count_right : is_count e m.count ≡ true
  count_right =
      let a = accepted e s m q in
      let h : is_counted e (count_at m.kind) m.count ≡ true = subst (λ (x : Message). is_counted e (count_at x.kind) x.count ≡ true) a.same a.found.counts in
      subst (λ (j : Kind). is_counted e (count_at j) m.count ≡ true) k h

  -- a profile has a value for each group
  long_profile : length groups_of ≡ group_count
  long_profile =
      let room = stands_room e s m m.count refl (sym q) atten_profile_ind_groups k in
      let most = count_most e s m m.count refl (sym q) in
      ap length groups_are ∙ rw (length-append, length-take, length-drop, length-replicate) (omega arith)

  past_profile : (i : ℕ) → m.count ≤ i → get_or groups_of i 0 ≡ 0
  past_profile i h = ap (λ (l : List ℕ). get_or l i 0) groups_are ∙ past_count m.count (group_count - m.count) (drop (size head + 8) s) i h

-- ---- of the identifiers of a frame

module _ (e : Edition) (g d f : ℕ) where
  ids_fit : (vs : Values (payload e slac_match_req g d f)) → fits (payload e slac_match_req g d f) vs ≡ true → IsId e vs.0 × IsId e vs.1.0
  ids_fit vs h =
      let w = to_fits (payload e slac_match_req g d f) vs h in
      (record { long = w.1.1.0.0; right = w.1.1.0.1 }, record { long = w.1.1.1.1.0.0; right = w.1.1.1.1.0.1 })

  ids_of : (k : Kind) (vs : Values (payload e k g d f)) → k ≡ slac_match_req → fits (payload e k g d f) vs ≡ true → IsId e (beside_in e k g d f vs).first × IsId e (beside_in e k g d f vs).second
  ids_of k vs q =
      subst (λ (j : Kind). (xs : Values (payload e j g d f)) → fits (payload e j g d f) xs ≡ true → IsId e (beside_in e j g d f xs).first × IsId e (beside_in e j g d f xs).second) (sym q) ids_fit vs

ids_right_lem : (e : Edition) (s : List ℕ) (m : Message) → Octets s → read_rules e s ≡ yes m → m.kind ≡ slac_match_req
    → IsId e (beside_in m.edition m.kind m.count m.dst m.src m.values).first × IsId e (beside_in m.edition m.kind m.count m.dst m.src m.values).second
ids_right_lem e s m o q =
    let a = accepted e s m q in
    let t = a.form in
    let p = drop (size head) s in
    let fs = payload e t.kind t.count (value s 0 6) (value s 6 6) in
    let room : 0 + size fs ≤ length p = rw (length-drop, size_payload e t.kind t.count (value s 0 6) (value s 6 6)) (omega (arith, a.found.filled)) in
    subst (λ (x : Message). x.kind ≡ slac_match_req → IsId e (beside_in x.edition x.kind x.count x.dst x.src x.values).first × IsId e (beside_in x.edition x.kind x.count x.dst x.src x.values).second)
    a.same
    (λ k. ids_of e t.count (value s 0 6) (value s 6 6) t.kind (read 0 fs p) k (read_fits p (octets_drop (size head) s o) fs 0 room a.holding))

-- ---- what octets can ask for

of_read : (P : Message → Type 0) (x : Checked Message) → OnYes P x → (m : Message) → x ≡ yes m → P m
of_read P x h m q = subst (OnYes P) q h

timer_right : (e : Edition) (s : List ℕ) (m : Message) → read_rules e s ≡ yes m → TimerMessage m
timer_right e s = of_read TimerMessage (read_rules e s) (read_timer e s)

pub admitted_octets : (e : Edition) (o : Configuration) (room : ℕ) (s : List ℕ) → Octets s → OnYes (λ (y : Received). OctetRequest e y.request) (admitted o room (received e s))
admitted_octets e o room s h = admitted_values (CountedValues e) (λ (t : ℕ). t < 256) (λ (a b : List ℕ). IsId e a × IsId e b) e o room s
    (λ m q. (
      λ k. record { count = count_right e s m q k; octets = of_read OctetMessage (read_rules e s) (read_octets e s h) m q; past = past_profile e s m q k },
      (λ v. timer_right e s m q, λ v. ids_right_lem e s m h q v),
    ))

-- a profile has a value for each group
abbrev Long : ℕ → List ℕ → Type 0
Long g vs = length vs ≡ group_count

abbrev pub LongRequest : Request → Type 0
LongRequest m = Holds Long (λ (t : ℕ). Unit {0}) (λ (a b : List ℕ). Unit {0}) m

pub admitted_long : (e : Edition) (o : Configuration) (room : ℕ) (s : List ℕ) → OnYes (λ (y : Received). LongRequest y.request) (admitted o room (received e s))
admitted_long e o room s = admitted_values Long (λ (t : ℕ). Unit {0}) (λ (a b : List ℕ). Unit {0}) e o room s (λ m q. (λ k. long_profile e s m q k, (λ v. tt, λ v. tt)))

-- a timer counts one of the windows
abbrev pub TimedRequest : Request → Type 0
TimedRequest m = Holds (λ (g : ℕ) (vs : List ℕ). Unit {0}) (λ (t : ℕ). t < window_count) (λ (a b : List ℕ). Unit {0}) m

pub admitted_timed : (e : Edition) (o : Configuration) (room : ℕ) (s : List ℕ) → OnYes (λ (y : Received). TimedRequest y.request) (admitted o room (received e s))
admitted_timed e o room s = admitted_values (λ (g : ℕ) (vs : List ℕ). Unit {0}) (λ (t : ℕ). t < window_count) (λ (a b : List ℕ). Unit {0}) e o room s (λ m q. (λ k. tt, (λ v. timer_right e s m q, λ v. tt)))
