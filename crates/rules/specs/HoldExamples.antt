-- How near a car comes to the longest hold, and that HoldTime's calls are not none: computed examples, here with ticks of up to a second, in crate `hold_examples` with one each millisecond.
use Rattle.std.specs.Prelude.{ℕ, zero, suc, ◌+◌, ◌*◌, ◌-◌, ◌/◌, ◌≡◌, Bool, true, false, List, [], ◌∷◌, ◌++◌, length}
use Rattle.messages.specs.declared.Edition.{Edition}
use Rattle.messages.specs.declared.Edition.TheVariants.{Iso, Sae}
use Rattle.messages.specs.Table.{start_atten_char_ind, validate_req, broadcast}
use Rattle.rules.specs.declared.Pilot.TheVariants.{B}
use Rattle.rules.specs.declared.Station.{Station}
use Rattle.rules.specs.Constants.{asked_time, sounding_time, pair_of, reported_time, awaiting_time, ready_time, window_step, window_count, success_time, least_output}
use Rattle.rules.specs.Calls.{Call, tick, pilot}
use Rattle.rules.specs.Records.{mine}
use Rattle.rules.specs.Rules.{step, after}
use Rattle.rules.specs.HoldTime.{asks, is_holder, any_readied, Unasked, ticked, held_for, try_time, validating_time, longest_hold}
use Rattle.rules.specs.Exceptions.{station_in, car, sent, request, profile, response, validate}

-- ---- what a car does

-- a call at once; 1 ms less than a time; or the longest tick, with which the time fires late
pub data Act : Type 0 where
  call : Call → Act
  almost : ℕ → Act
  late : Act

module _ (e : ℕ) where
  -- so many ticks of the longest span e from reading t on
  abbrev long_ticks : ℕ → ℕ → List Call
  long_ticks t zero = []
  long_ticks t (suc n) = tick (t + e) least_output ∷ long_ticks (t + e) n

  -- the calls from reading t on
  abbrev pub play : ℕ → List Act → List Call
  play t [] = []
  play t (call x ∷ xs) = x ∷ play t xs
  play t (almost d ∷ xs) = long_ticks t ((d - 1) / e) ++ (tick (t + (d - 1)) least_output ∷ play (t + (d - 1)) xs)
  play t (late ∷ xs) = tick (t + e) least_output ∷ play (t + e) xs

  -- what the car does, and then the longest tick
  abbrev pub to_the_end : List Act → List Call
  to_the_end acts = play 0 (acts ++ (late ∷ []))

-- START of car 1 in a try, and its second VALIDATE.REQ with the longest window
abbrev start_in : Edition → Bool → Call
start_in e later = sent (record { edition = e; kind = start_atten_char_ind; count = 0; dst = broadcast; src = (car 1).0; values = (pair_of e later, (1, tt)) })

abbrev validate_longest : Call
validate_longest = sent (record { edition = Iso; kind = validate_req; count = 0; dst = broadcast; src = (car 1).0; values = (window_count - 1, tt) })

-- each message of car 1 comes 1 ms before its phase's time is over, and each time that fires has 1 ms left when the longest tick comes
abbrev pub slow : Edition → Bool → List Act
slow e later =
    almost asked_time ∷ call (start_in e later) ∷ call (profile 1) ∷ almost (sounding_time e later) ∷ late
    ∷ almost reported_time ∷ late ∷ almost reported_time ∷ late
    ∷ almost reported_time ∷ call (response 1) ∷ almost awaiting_time ∷ []

-- and the same of a validation
abbrev pub slower : List Act
slower = slow Iso false ++ (call (validate 1) ∷ almost ready_time ∷ call validate_longest ∷ almost (window_step * window_count) ∷ late ∷ almost success_time ∷ [])

-- ---- the examples

-- the longest tick of these
abbrev pub second : ℕ
second = 1000

-- the station of an edition after some calls and a request of car 1
abbrev pub asked : Edition → List Call → Station
asked e before = step (after (station_in e) before) (request 1)

-- the car still holds its record, and one more tick frees it, so many milliseconds short of the limits; a validate request of it was answered 01, or none
pub record NearLimit (e : ℕ) (edition : Edition) (before : List Call) (acts : List Act) (readied : Bool) (short : ℕ) : Type 0 where
  pub asks_first : asks (car 1) (after (station_in edition) before) (request 1) ≡ true
  pub unasked : Unasked (car 1) e (asked edition before) (to_the_end e acts)
  pub is_readied_lem : any_readied (car 1) (asked edition before) (to_the_end e acts) ≡ readied
  pub still_held_lem : length (mine (car 1) (after (asked edition before) (play e 0 acts)).records) ≡ 1
  pub so_far : ticked (asked edition before) (play e 0 acts) + e + short ≡ longest_hold edition (is_holder (car 1) (after (station_in edition) before)) readied e
  pub is_freed : length (mine (car 1) (after (asked edition before) (to_the_end e acts)).records) ≡ 0
  pub in_all : held_for (car 1) (asked edition before) (to_the_end e acts) + short ≡ longest_hold edition (is_holder (car 1) (after (station_in edition) before)) readied e

-- what comes out
pub record HoldExamples : Type 0 where
  -- "B is 11,600 with ISO, 11,200 in a first and 12,000 in a later try of SAE", and 10,400 + 25,600
  pub iso_time : try_time Iso false ≡ 11600
  pub first_time : try_time Sae false ≡ 11200
  pub later_time : try_time Sae true ≡ 12000
  pub validation_time : validating_time ≡ 36000
  -- 1 ms short for each of the times that pass, with ticks of up to a second
  pub iso : NearLimit second Iso (pilot B 0 ∷ []) (slow Iso false) false 6
  pub sae_first : NearLimit second Sae (pilot B 0 ∷ []) (slow Sae false) false 6
  pub sae_later : NearLimit second Sae (pilot B 0 ∷ request 1 ∷ []) (slow Sae true) false 6
  pub validated : NearLimit second Iso (pilot B 0 ∷ []) slower true 9
