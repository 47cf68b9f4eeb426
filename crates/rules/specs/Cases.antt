-- The proved table of the bench cases P1 to P12, of validation's V1 to V10, of requests with an empty run, of the SAE edition's S1 to S9 and of amplitude maps' M6 (`amplitude` has the other M cases): octets, readings and states, and what must come out.
use Rattle.std.specs.Prelude.{ℕ, zero, suc, ◌+◌, ◌*◌, ◌-◌, ◌≡◌, Bool, true, false, List, [], ◌∷◌, ◌++◌, map, length, replicate, take}
use Rattle.messages.specs.declared.Edition.{Edition}
use Rattle.messages.specs.declared.Edition.TheVariants.{Iso, Sae}
use Rattle.messages.specs.Table.{Message, slac_parm_req, broadcast, group_count}
use Rattle.messages.specs.Reading.{Checked, no, yes, read_rules}
use Rattle.ends.specs.declared.Indication.TheVariants.{Nothing, NoLink, LinkEstablished}
use Rattle.rules.specs.declared.Phase.{Phase}
use Rattle.rules.specs.declared.Phase.TheVariants.{Asked, Sounding, Reported, Awaiting, Ready, Counting, Success}
use Rattle.rules.specs.declared.Pilot.{Pilot}
use Rattle.rules.specs.declared.Pilot.TheVariants.{A, B, C, D}
use Rattle.rules.specs.declared.Record.{Record}
use Rattle.rules.specs.declared.State.{State}
use Rattle.rules.specs.declared.State.TheVariants.{Unmatched, Matching, Joining, Matched}
use Rattle.rules.specs.declared.Station.{Station}
use Rattle.rules.specs.Constants.{record_count, least_output}
use Rattle.ends.specs.FirstFrames.{request, p1, p2}
use Rattle.ends.specs.Lists.{only}
use Rattle.rules.specs.Calls.{Call, frame, tick, pilot, link_up}
use Rattle.ends.specs.Outcomes.{Outcome}
use Rattle.rules.specs.Records.{is_held, no_spread}
use Rattle.rules.specs.Rules.{free_record, step, outcome, after}

-- ---- what a row asks, and what comes out

-- octets to read, or calls to run
pub data Question : Type 0 where
  -- octets to read in an edition
  reading : Edition → List ℕ → Question
  -- a station, and the calls that it gets
  running : Station → List Call → Question

-- what comes out of either
pub data Result : Type 0 where
  -- what reading gives
  reads : Checked Message → Result
  -- what each call gives; then the state, the last reading and the held records
  runs : List Outcome → State → ℕ → List Record → Result

-- what each call gives
abbrev outcomes : Station → List Call → List Outcome
outcomes s [] = []
outcomes s (x ∷ xs) = outcome s x ∷ outcomes (step s x) xs

-- what comes out
unfoldable pub result_of : Question → Result
result_of (reading e s) = reads (read_rules e s)
result_of (running s xs) = runs (outcomes s xs) (after s xs).state (after s xs).clock (only is_held (after s xs).records)

-- a case: what is asked, and what must come out
pub record Row : Type 0 where
  pub asked : Question
  pub expected : Result

-- ---- the station and the cars of the table

-- a station 02:00:00:00:00:AA with the modem 02:00:00:00:00:BB, in an edition, by whether validation is not required, and records of which the first are given
abbrev station_that : Edition → Bool → State → Pilot → ℕ → List Record → Station
station_that e exempt st p t rs = record {
  config = record { good = true; address = record { 0 = 0x0200000000AA }; modem = record { 0 = 0x0200000000BB }; nid = record { 0 = 5 }; nmk = record { 0 = 1; 1 = 2 }; exempt = exempt; edition = e; carriers = 6 };
  state = st;
  pilot = p;
  clock = t;
  records = rs ++ replicate (record_count - length rs) free_record;
}

-- the same, where validation is required, in the ISO edition; and in the SAE edition, where it is not
abbrev station : State → Pilot → ℕ → List Record → Station
station = station_that Iso false

abbrev sae_station : State → Pilot → ℕ → List Record → Station
sae_station = station_that Sae true

-- a held record of the car 02:00:00:00:00:n in the run 01..08, so many profiles counted, each group's sum the same
abbrev held : ℕ → Phase → ℕ → ℕ → ℕ → Record
held n p heard profiles sum = record { car = record { 0 = 0x020000000000 + n }; run = record { 0 = 0x0102030405060708 }; held = true; phase = p; heard = heard; profiles = profiles; sums = replicate group_count sum; spread = no_spread; later = false; groups = 0 }

-- a held record of the car of P1 in another run: sounds heard, profiles counted
abbrev older : Record
older = record { car = record { 0 = 0x020000000001 }; run = record { 0 = 9 }; held = true; phase = Sounding 100; heard = 7; profiles = 3; sums = replicate group_count 30; spread = record { least = replicate group_count 10; greatest = replicate group_count 10 }; later = false; groups = 0 }

-- the first g groups with the value v, the others zero
abbrev groups_with : ℕ → ℕ → List ℕ
groups_with g v = replicate g v ++ replicate (group_count - g) 0

-- a held record of the car 02:00:00:00:00:n in the SAE edition, in a first or a later try, before a profile is counted
abbrev untried : ℕ → Bool → Phase → ℕ → Record
untried n later p heard = record { car = record { 0 = 0x020000000000 + n }; run = record { 0 = 0x0102030405060708 }; held = true; phase = p; heard = heard; profiles = 0; sums = replicate group_count 0; spread = no_spread; later = later; groups = 0 }

-- the same in a first try, after some profiles of g groups, each with the value 10
abbrev tried : ℕ → ℕ → Phase → ℕ → Record
tried n g p profiles = record { car = record { 0 = 0x020000000000 + n }; run = record { 0 = 0x0102030405060708 }; held = true; phase = p; heard = 0; profiles = profiles; sums = groups_with g (10 * profiles); spread = record { least = groups_with g 10; greatest = groups_with g 10 }; later = false; groups = g }

-- n other cars, from 02:00:00:00:00:02 on
abbrev others : ℕ → List Record
others zero = []
others (suc n) = held (2 + n) (Asked 400) 0 0 0 ∷ others n

-- ---- octets

-- PROFILE of the car of P1, from the modem, with the value v in each of g groups
abbrev profile_of : ℕ → ℕ → List ℕ
profile_of g v =
    0x02 ∷ 0x00 ∷ 0x00 ∷ 0x00 ∷ 0x00 ∷ 0xAA ∷ 0x02 ∷ 0x00 ∷ 0x00 ∷ 0x00 ∷ 0x00 ∷ 0xBB ∷ 0x88 ∷ 0xE1 ∷ 0x01 ∷ 0x86 ∷ 0x60 ∷ 0x00 ∷ 0x00
    ∷ 0x02 ∷ 0x00 ∷ 0x00 ∷ 0x00 ∷ 0x00 ∷ 0x01 ∷ g ∷ 0x00 ∷ replicate g v

-- the report to the car n: sounds used, and the value v in each of g groups
abbrev report_to : ℕ → ℕ → ℕ → ℕ → List ℕ
report_to n g used v =
    0x02 ∷ 0x00 ∷ 0x00 ∷ 0x00 ∷ 0x00 ∷ n ∷ 0x02 ∷ 0x00 ∷ 0x00 ∷ 0x00 ∷ 0x00 ∷ 0xAA ∷ 0x88 ∷ 0xE1 ∷ 0x01 ∷ 0x6E ∷ 0x60 ∷ 0x00 ∷ 0x00
    ∷ 0x00 ∷ 0x00 ∷ 0x02 ∷ 0x00 ∷ 0x00 ∷ 0x00 ∷ 0x00 ∷ n ∷ 0x01 ∷ 0x02 ∷ 0x03 ∷ 0x04 ∷ 0x05 ∷ 0x06 ∷ 0x07 ∷ 0x08
    ∷ replicate 34 0x00 ++ (used ∷ g ∷ replicate g v)

-- the request of the car 02:00:00:00:00:n with an empty run
abbrev empty_of : ℕ → List ℕ
empty_of n = take 21 (request n) ++ replicate 39 0x00

-- the head of a frame from the car 02:00:00:00:00:n to us, and from us to it, with the type's low octet
abbrev to_us : ℕ → ℕ → List ℕ
to_us n type = 0x02 ∷ 0x00 ∷ 0x00 ∷ 0x00 ∷ 0x00 ∷ 0xAA ∷ 0x02 ∷ 0x00 ∷ 0x00 ∷ 0x00 ∷ 0x00 ∷ n ∷ 0x88 ∷ 0xE1 ∷ 0x01 ∷ type ∷ 0x60 ∷ 0x00 ∷ 0x00 ∷ []

abbrev from_us : ℕ → ℕ → List ℕ
from_us n type = 0x02 ∷ 0x00 ∷ 0x00 ∷ 0x00 ∷ 0x00 ∷ n ∷ 0x02 ∷ 0x00 ∷ 0x00 ∷ 0x00 ∷ 0x00 ∷ 0xAA ∷ 0x88 ∷ 0xE1 ∷ 0x01 ∷ type ∷ 0x60 ∷ 0x00 ∷ 0x00 ∷ []

-- the first VALIDATE.REQ of the car n, and its second with a timer
abbrev first_of : ℕ → List ℕ
first_of n = to_us n 0x78 ++ (0x00 ∷ 0x00 ∷ 0x01 ∷ [])

abbrev second_of : ℕ → ℕ → List ℕ
second_of n timer =
    0xFF ∷ 0xFF ∷ 0xFF ∷ 0xFF ∷ 0xFF ∷ 0xFF ∷ 0x02 ∷ 0x00 ∷ 0x00 ∷ 0x00 ∷ 0x00 ∷ n ∷ 0x88 ∷ 0xE1 ∷ 0x01 ∷ 0x78 ∷ 0x60 ∷ 0x00 ∷ 0x00
    ∷ 0x00 ∷ timer ∷ 0x01 ∷ []

-- VALIDATE.CNF to the car n, in 60 octets: toggles and result
abbrev cnf_to : ℕ → ℕ → ℕ → List ℕ
cnf_to n toggles result = from_us n 0x79 ++ (0x00 ∷ toggles ∷ result ∷ replicate 38 0x00)

-- octets 4-57 of both match messages with the car of P1, each octet of the two identifiers the same
abbrev match_octets : ℕ → ℕ → List ℕ
match_octets a b =
    replicate 17 a ++ (0x02 ∷ 0x00 ∷ 0x00 ∷ 0x00 ∷ 0x00 ∷ 0x01 ∷ replicate 17 b)
    ++ (0x02 ∷ 0x00 ∷ 0x00 ∷ 0x00 ∷ 0x00 ∷ 0xAA ∷ 0x01 ∷ 0x02 ∷ 0x03 ∷ 0x04 ∷ 0x05 ∷ 0x06 ∷ 0x07 ∷ 0x08 ∷ [])

-- MATCH.REQ of the car of P1, and MATCH.CNF to it, with identifiers
abbrev match_req_with : ℕ → ℕ → List ℕ
match_req_with a b = to_us 1 0x7C ++ (0x00 ∷ 0x00 ∷ 0x3E ∷ 0x00 ∷ match_octets a b ++ replicate 8 0x00)

abbrev match_cnf_with : ℕ → ℕ → List ℕ
match_cnf_with a b =
    from_us 1 0x7D ++ (0x00 ∷ 0x00 ∷ 0x56 ∷ 0x00 ∷ match_octets a b ++ replicate 8 0x00)
    ++ (0x05 ∷ replicate 7 0x00 ++ (replicate 7 0x00 ++ (0x01 ∷ replicate 7 0x00 ++ (0x02 ∷ []))))

-- the same with no identifiers
abbrev match_req : List ℕ
match_req = match_req_with 0x00 0x00

abbrev match_cnf : List ℕ
match_cnf = match_cnf_with 0x00 0x00

-- PARM.CNF to the car of P1 in the SAE edition, with a try's pair
abbrev sae_cnf : ℕ → ℕ → List ℕ
sae_cnf sounds timeout =
    0x02 ∷ 0x00 ∷ 0x00 ∷ 0x00 ∷ 0x00 ∷ 0x01 ∷ 0x02 ∷ 0x00 ∷ 0x00 ∷ 0x00 ∷ 0x00 ∷ 0xAA ∷ 0x88 ∷ 0xE1 ∷ 0x01 ∷ 0x65 ∷ 0x60 ∷ 0x00 ∷ 0x00
    ∷ 0xFF ∷ 0xFF ∷ 0xFF ∷ 0xFF ∷ 0xFF ∷ 0xFF ∷ sounds ∷ timeout ∷ 0x00 ∷ replicate 6 0x00
    ++ (0x00 ∷ 0x00 ∷ 0x01 ∷ 0x02 ∷ 0x03 ∷ 0x04 ∷ 0x05 ∷ 0x06 ∷ 0x07 ∷ 0x08 ∷ replicate 16 0x00)

-- START of the car of P1 in the SAE edition, with a try's pair
abbrev sae_start : ℕ → ℕ → List ℕ
sae_start sounds timeout =
    0xFF ∷ 0xFF ∷ 0xFF ∷ 0xFF ∷ 0xFF ∷ 0xFF ∷ 0x02 ∷ 0x00 ∷ 0x00 ∷ 0x00 ∷ 0x00 ∷ 0x01 ∷ 0x88 ∷ 0xE1 ∷ 0x01 ∷ 0x6A ∷ 0x60 ∷ 0x00 ∷ 0x00
    ∷ 0x00 ∷ 0x00 ∷ sounds ∷ timeout ∷ 0x00 ∷ replicate 6 0x00 ++ (0x01 ∷ 0x02 ∷ 0x03 ∷ 0x04 ∷ 0x05 ∷ 0x06 ∷ 0x07 ∷ 0x08 ∷ [])

-- SOUND of the car of P1 with a count, and a SENDER_ID that is not zero
abbrev sae_sound : ℕ → List ℕ
sae_sound count =
    0xFF ∷ 0xFF ∷ 0xFF ∷ 0xFF ∷ 0xFF ∷ 0xFF ∷ 0x02 ∷ 0x00 ∷ 0x00 ∷ 0x00 ∷ 0x00 ∷ 0x01 ∷ 0x88 ∷ 0xE1 ∷ 0x01 ∷ 0x76 ∷ 0x60 ∷ 0x00 ∷ 0x00
    ∷ 0x00 ∷ 0x00 ∷ replicate 17 0x5A ++ (count ∷ 0x01 ∷ 0x02 ∷ 0x03 ∷ 0x04 ∷ 0x05 ∷ 0x06 ∷ 0x07 ∷ 0x08 ∷ replicate 24 0x00)

-- AMP_MAP.REQ of the car 02:00:00:00:00:n, five or six carriers as AMLEN says, and AMP_MAP.CNF for success to the car of P1, in 60 octets
abbrev map_req_of : ℕ → ℕ → List ℕ
map_req_of n carriers = to_us n 0x1C ++ (carriers ∷ 0x00 ∷ 0xE0 ∷ 0x0E ∷ 0x00 ∷ [])

abbrev map_cnf : List ℕ
map_cnf = from_us 1 0x1D ++ replicate 41 0x00

-- AMP_MAP.CNF of the car of P1 to us
abbrev map_cnf_to_us : List ℕ
map_cnf_to_us = to_us 1 0x1D ++ (0x00 ∷ [])

-- ---- the table

-- accepted, with these frames and no indication
abbrev sends : List (List ℕ) → Outcome
sends fs = yes (record { frames = fs; indication = Nothing })

-- P1, read
abbrev p1_read : Checked Message
p1_read = yes (record { edition = Iso; kind = slac_parm_req; count = 0; dst = broadcast; src = 0x020000000001; values = (0x0102030405060708, tt) })

-- the car of P1 after ten profiles, in a phase
abbrev heard : Phase → Record
heard p = held 1 p 0 10 100

-- matched with the car of P1
abbrev matched : State
matched = Matched (record { 0 = 0x020000000001 })

-- joined with it
abbrev joining : State
joining = Joining 12000 (record { 0 = 0x020000000001 }) (record { 0 = 0x0102030405060708 })

-- P1 to P12, V1 to V10, empty runs, S1 to S9, M6
unfoldable pub table : List Row
table =
    -- P1, P3 to P6: the request whole, and cut to or extended to a length
    record { asked = reading Iso p1; expected = reads p1_read }
    ∷ record { asked = reading Iso (take 29 p1); expected = reads p1_read }
    ∷ record { asked = reading Iso (take 28 p1); expected = reads (no 1) }
    ∷ record { asked = reading Iso (p1 ++ (0x00 ∷ [])); expected = reads (no 4) }
    ∷ record { asked = reading Iso (take 18 p1); expected = reads (no 1) }
    -- P2: its reply, just after plug-in
    ∷ record {
      asked = running (station Unmatched A 0 []) (pilot B 7 ∷ frame p1 least_output ∷ []);
      expected = runs (sends [] ∷ sends (p2 ∷ []) ∷ []) (Matching 50000) 7 (held 1 (Asked 400) 0 0 0 ∷ []);
    }
    -- P7: profiles 10 and 11 in a group: reports 11, used 2
    ∷ record {
      asked = running (station (Matching 50000) B 0 (held 1 (Sounding 600) 0 0 0 ∷ [])) (frame (profile_of group_count 10) least_output ∷ frame (profile_of group_count 11) least_output ∷ tick 600 least_output ∷ []);
      expected = runs (sends [] ∷ sends [] ∷ sends (report_to 1 group_count 2 11 ∷ []) ∷ []) (Matching 49400) 600 (record { car = record { 0 = 0x020000000001 }; run = record { 0 = 0x0102030405060708 }; held = true; phase = Reported 200 2; heard = 0; profiles = 2; sums = replicate group_count 21; spread = record { least = replicate group_count 10; greatest = replicate group_count 11 }; later = false; groups = 0 } ∷ []);
    }
    -- P8: last 4,294,967,290, now 4: elapsed 10
    ∷ record {
      asked = running (station (Matching 50000) B 4294967290 (held 1 (Asked 400) 0 0 0 ∷ [])) (tick 4 least_output ∷ []);
      expected = runs (sends [] ∷ []) (Matching 49990) 4 (held 1 (Asked 390) 0 0 0 ∷ []);
    }
    -- P9: elapsed 60,000 taken, 60,001: 14
    ∷ record { asked = running (station Unmatched A 0 []) (tick 60000 least_output ∷ []); expected = runs (sends [] ∷ []) Unmatched 60000 [] }
    ∷ record { asked = running (station Unmatched A 0 []) (tick 60001 least_output ∷ []); expected = runs (no 14 ∷ []) Unmatched 0 [] }
    -- P10: one car more than there are records: 10; a held car again: restarted
    ∷ record {
      asked = running (station (Matching 50000) B 0 (older ∷ others (record_count - 1))) (frame (request (record_count + 1)) least_output ∷ frame p1 least_output ∷ []);
      expected = runs (no 10 ∷ sends (p2 ∷ []) ∷ []) (Matching 50000) 0 (held 1 (Asked 400) 0 0 0 ∷ others (record_count - 1));
    }
    -- P11: Asked, 400 left: tick 399 keeps it, one more frees it
    ∷ record {
      asked = running (station (Matching 50000) B 0 (held 1 (Asked 400) 0 0 0 ∷ [])) (tick 399 least_output ∷ []);
      expected = runs (sends [] ∷ []) (Matching 49601) 399 (held 1 (Asked 1) 0 0 0 ∷ []);
    }
    ∷ record {
      asked = running (station (Matching 50000) B 0 (held 1 (Asked 400) 0 0 0 ∷ [])) (tick 399 least_output ∷ tick 400 least_output ∷ []);
      expected = runs (sends [] ∷ sends [] ∷ []) (Matching 49600) 400 [];
    }
    -- P12: no profile in 600: freed, no report
    ∷ record {
      asked = running (station (Matching 50000) B 0 (held 1 (Sounding 600) 3 0 0 ∷ [])) (tick 600 least_output ∷ []);
      expected = runs (sends [] ∷ []) (Matching 49400) 600 [];
    }
    -- V1: first REQ in Awaiting: CNF 01 in 60 octets; a second car's: CNF 03 and its record unchanged
    ∷ record {
      asked = running (station (Matching 50000) B 0 (heard (Awaiting 10000) ∷ held 2 (Awaiting 9000) 0 10 100 ∷ [])) (frame (first_of 1) least_output ∷ frame (first_of 2) least_output ∷ []);
      expected = runs (sends (cnf_to 1 0 1 ∷ []) ∷ sends (cnf_to 2 0 3 ∷ []) ∷ []) (Matching 50000) 0 (heard (Ready 400) ∷ held 2 (Awaiting 9000) 0 10 100 ∷ []);
    }
    -- V2: B-C-B twice in a window of 1,000: CNF 02 with 2; MATCH.REQ then accepted, before it 12
    ∷ record {
      asked = running (station (Matching 50000) B 0 (heard (Ready 400) ∷ [])) (frame (second_of 1 9) least_output ∷ pilot C 0 ∷ pilot B 0 ∷ pilot C 0 ∷ pilot B 0 ∷ frame match_req least_output ∷ tick 1000 least_output ∷ frame match_req least_output ∷ []);
      expected = runs (sends [] ∷ sends [] ∷ sends [] ∷ sends [] ∷ sends [] ∷ no 12 ∷ sends (cnf_to 1 2 2 ∷ []) ∷ sends (match_cnf ∷ []) ∷ []) joining 1000 [];
    }
    -- V3: the pilot at C when the window ends: CNF 03, freed
    ∷ record {
      asked = running (station (Matching 50000) B 0 (heard (Ready 400) ∷ [])) (frame (second_of 1 9) least_output ∷ pilot C 0 ∷ tick 1000 least_output ∷ []);
      expected = runs (sends [] ∷ sends [] ∷ sends (cnf_to 1 0 3 ∷ []) ∷ []) (Matching 49000) 1000 [];
    }
    -- V4: B-C-D-C-B: CNF 02 with 0
    ∷ record {
      asked = running (station (Matching 50000) B 0 (heard (Ready 400) ∷ [])) (frame (second_of 1 9) least_output ∷ pilot C 0 ∷ pilot D 0 ∷ pilot C 0 ∷ pilot B 0 ∷ tick 1000 least_output ∷ []);
      expected = runs (sends [] ∷ sends [] ∷ sends [] ∷ sends [] ∷ sends [] ∷ sends (cnf_to 1 0 2 ∷ []) ∷ []) (Matching 49000) 1000 (heard (Success 10000) ∷ []);
    }
    -- V5: no second REQ in 400: freed, nothing sent
    ∷ record {
      asked = running (station (Matching 50000) B 0 (heard (Ready 400) ∷ [])) (tick 400 least_output ∷ []);
      expected = runs (sends [] ∷ []) (Matching 49600) 400 [];
    }
    -- V6: not required: CNF 04, Awaiting's time unchanged, MATCH.REQ accepted
    ∷ record {
      asked = running (station_that Iso true (Matching 50000) B 0 (heard (Awaiting 9000) ∷ [])) (frame (first_of 1) least_output ∷ []);
      expected = runs (sends (cnf_to 1 0 4 ∷ []) ∷ []) (Matching 50000) 0 (heard (Awaiting 9000) ∷ []);
    }
    ∷ record {
      asked = running (station_that Iso true (Matching 50000) B 0 (heard (Awaiting 9000) ∷ [])) (frame (first_of 1) least_output ∷ frame match_req least_output ∷ []);
      expected = runs (sends (cnf_to 1 0 4 ∷ []) ∷ sends (match_cnf ∷ []) ∷ []) joining 0 [];
    }
    -- V7: second REQ at pilot C, then B: CNF 02 with 0
    ∷ record {
      asked = running (station (Matching 50000) C 0 (heard (Ready 400) ∷ [])) (frame (second_of 1 0) least_output ∷ pilot B 0 ∷ tick 100 least_output ∷ []);
      expected = runs (sends [] ∷ sends [] ∷ sends (cnf_to 1 0 2 ∷ []) ∷ []) (Matching 49900) 100 (heard (Success 10000) ∷ []);
    }
    -- V8: B-C-C-B: 1, and nothing of another car's record
    ∷ record {
      asked = running (station (Matching 50000) B 0 (heard (Ready 400) ∷ held 2 (Success 9000) 0 10 100 ∷ [])) (frame (second_of 1 9) least_output ∷ pilot C 0 ∷ pilot C 0 ∷ pilot B 0 ∷ tick 1000 least_output ∷ []);
      expected = runs (sends [] ∷ sends [] ∷ sends [] ∷ sends [] ∷ sends (cnf_to 1 1 2 ∷ []) ∷ []) (Matching 49000) 1000 (heard (Success 10000) ∷ held 2 (Success 8000) 0 10 100 ∷ []);
    }
    -- V9: no pilot change: CNF 02 with 0, MATCH.REQ accepted
    ∷ record {
      asked = running (station (Matching 50000) B 0 (heard (Ready 400) ∷ [])) (frame (second_of 1 9) least_output ∷ tick 1000 least_output ∷ frame match_req least_output ∷ []);
      expected = runs (sends [] ∷ sends (cnf_to 1 0 2 ∷ []) ∷ sends (match_cnf ∷ []) ∷ []) joining 1000 [];
    }
    -- V10: admission closed, the last record fails: CNF 03 and "no link" in one tick
    ∷ record {
      asked = running (station (Matching 0) C 0 (heard (Counting 1000 0 false) ∷ [])) (tick 1000 least_output ∷ []);
      expected = runs (yes (record { frames = cnf_to 1 0 3 ∷ []; indication = NoLink }) ∷ []) Unmatched 1000 [];
    }
    -- an empty run, of a car with a record and of one without: 21, where all records are held and where admission is closed; the record is left
    ∷ record {
      asked = running (station (Matching 50000) B 0 (older ∷ others (record_count - 1))) (frame (empty_of 1) least_output ∷ frame (empty_of (record_count + 1)) least_output ∷ []);
      expected = runs (no 21 ∷ no 21 ∷ []) (Matching 50000) 0 (older ∷ others (record_count - 1));
    }
    ∷ record {
      asked = running (station (Matching 0) B 0 (older ∷ [])) (frame (empty_of 1) least_output ∷ frame (empty_of 2) least_output ∷ []);
      expected = runs (no 21 ∷ no 21 ∷ []) (Matching 0) 0 (older ∷ []);
    }
    -- S1: a first request, and again: the first and the later try's pair
    ∷ record {
      asked = running (sae_station Unmatched A 0 []) (pilot B 0 ∷ frame p1 least_output ∷ frame p1 least_output ∷ []);
      expected = runs (sends [] ∷ sends (sae_cnf 0x08 0x02 ∷ []) ∷ sends (sae_cnf 0x10 0x0A ∷ []) ∷ []) (Matching 50000) 0 (untried 1 true (Asked 400) 0 ∷ []);
    }
    -- S2: START with the other try's pair: 22; with no try's: 6; with its own: Sounding, 200 or 1,000
    ∷ record {
      asked = running (sae_station (Matching 50000) B 0 (untried 1 false (Asked 400) 0 ∷ [])) (frame (sae_start 0x10 0x0A) least_output ∷ frame (sae_start 0x0A 0x06) least_output ∷ frame (sae_start 0x08 0x0A) least_output ∷ frame (sae_start 0x08 0x02) least_output ∷ []);
      expected = runs (no 22 ∷ no 6 ∷ no 6 ∷ sends [] ∷ []) (Matching 50000) 0 (untried 1 false (Sounding 200) 0 ∷ []);
    }
    ∷ record {
      asked = running (sae_station (Matching 50000) B 0 (untried 1 true (Asked 400) 0 ∷ [])) (frame (sae_start 0x08 0x02) least_output ∷ frame (sae_start 0x10 0x0A) least_output ∷ []);
      expected = runs (no 22 ∷ sends [] ∷ []) (Matching 50000) 0 (untried 1 true (Sounding 1000) 0 ∷ []);
    }
    -- S3: eight profiles of 20 groups: the eighth gives a report of 91 octets, used 8
    ∷ record {
      asked = running (sae_station (Matching 50000) B 0 (untried 1 false (Sounding 200) 0 ∷ [])) (replicate 8 (frame (profile_of 20 10) least_output));
      expected = runs (replicate 7 (sends []) ++ (sends (report_to 1 20 8 10 ∷ []) ∷ [])) (Matching 50000) 0 (tried 1 20 (Reported 200 2) 8 ∷ []);
    }
    -- S4: a profile of 21 groups after one of 20: 23
    ∷ record {
      asked = running (sae_station (Matching 50000) B 0 (untried 1 false (Sounding 200) 0 ∷ [])) (frame (profile_of 20 10) least_output ∷ frame (profile_of 21 10) least_output ∷ []);
      expected = runs (sends [] ∷ no 23 ∷ []) (Matching 50000) 0 (tried 1 20 (Sounding 200) 1 ∷ []);
    }
    -- S5: count 0 and 59: 6, also in a frame cut behind the count; a frame cut before it: 1
    ∷ record { asked = reading Sae (profile_of 0 10); expected = reads (no 6) }
    ∷ record { asked = reading Sae (profile_of 59 10); expected = reads (no 6) }
    ∷ record { asked = reading Sae (take 26 (profile_of 59 10)); expected = reads (no 6) }
    ∷ record { asked = reading Sae (take 25 (profile_of 59 10)); expected = reads (no 1) }
    ∷ record { asked = reading Sae (take 71 (report_to 1 0 8 10)); expected = reads (no 6) }
    ∷ record { asked = reading Sae (take 70 (report_to 1 0 8 10)); expected = reads (no 1) }
    -- S6: two reports in one tick, 20 and 58 groups, back to back
    ∷ record {
      asked = running (sae_station (Matching 50000) B 0 (tried 1 20 (Sounding 200) 1 ∷ tried 2 58 (Sounding 200) 1 ∷ [])) (tick 200 least_output ∷ []);
      expected = runs (sends (report_to 1 20 1 10 ∷ report_to 2 58 1 10 ∷ []) ∷ []) (Matching 49800) 200 (tried 1 20 (Reported 200 2) 1 ∷ tried 2 58 (Reported 200 2) 1 ∷ []);
    }
    -- S7: sound count 8 in a first try: 13, in a later one accepted
    ∷ record {
      asked = running (sae_station (Matching 50000) B 0 (untried 1 false (Sounding 200) 0 ∷ [])) (frame (sae_sound 8) least_output ∷ []);
      expected = runs (no 13 ∷ []) (Matching 50000) 0 (untried 1 false (Sounding 200) 0 ∷ []);
    }
    ∷ record {
      asked = running (sae_station (Matching 50000) B 0 (untried 1 true (Sounding 1000) 0 ∷ [])) (frame (sae_sound 8) least_output ∷ []);
      expected = runs (sends [] ∷ []) (Matching 50000) 0 (untried 1 true (Sounding 1000) 0x100 ∷ []);
    }
    -- S8: MATCH.REQ with identifiers: MATCH.CNF repeats them, also when it is sent again
    ∷ record {
      asked = running (sae_station (Matching 50000) B 0 (tried 1 20 (Awaiting 10000) 8 ∷ [])) (frame (match_req_with 0x31 0x32) least_output ∷ frame (match_req_with 0x33 0x34) least_output ∷ []);
      expected = runs (sends (match_cnf_with 0x31 0x32 ∷ []) ∷ sends (match_cnf_with 0x33 0x34 ∷ []) ∷ []) joining 0 [];
    }
    -- S9: a START of the SAE edition at an ISO station: 6
    ∷ record {
      asked = running (station (Matching 50000) B 0 (held 1 (Asked 400) 0 0 0 ∷ [])) (frame (sae_start 0x08 0x02) least_output ∷ []);
      expected = runs (no 6 ∷ []) (Matching 50000) 0 (held 1 (Asked 400) 0 0 0 ∷ []);
    }
    -- M6: matched car, n ours: CNF 00, also with the pilot at C; another car: 11; other n: 24; a CNF: 17
    ∷ record {
      asked = running (station joining B 0 []) (link_up ∷ frame (map_req_of 1 6) least_output ∷ pilot C 0 ∷ frame (map_req_of 1 6) least_output ∷ frame (map_req_of 2 6) least_output ∷ frame (map_req_of 1 5) least_output ∷ frame map_cnf_to_us least_output ∷ []);
      expected = runs (yes (record { frames = []; indication = LinkEstablished }) ∷ sends (map_cnf ∷ []) ∷ sends [] ∷ sends (map_cnf ∷ []) ∷ no 11 ∷ no 24 ∷ no 17 ∷ []) matched 0 [];
    }
    -- in Matching: 8; in Joining too, and after a pilot loss
    ∷ record {
      asked = running (station (Matching 50000) B 0 (heard (Awaiting 10000) ∷ [])) (frame (map_req_of 1 6) least_output ∷ frame match_req least_output ∷ frame (map_req_of 1 6) least_output ∷ []);
      expected = runs (no 8 ∷ sends (match_cnf ∷ []) ∷ no 8 ∷ []) joining 0 [];
    }
    ∷ record {
      asked = running (station matched C 0 []) (pilot A 0 ∷ frame (map_req_of 1 6) least_output ∷ []);
      expected = runs (sends [] ∷ no 8 ∷ []) Unmatched 0 [];
    }
    ∷ []

-- every row of the table comes out as it must
abbrev pub AllHold : Type 0
AllHold = map (λ (r : Row). result_of r.asked) table ≡ map (λ (r : Row). r.expected) table
