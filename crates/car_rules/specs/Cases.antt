-- The proved table of the car's cases C1 to C10: calls, and the octets, indications and states that must come out.
use Rattle.std.specs.Prelude.{ℕ, zero, suc, ◌+◌, ◌-◌, ◌≡◌, true, List, [], ◌∷◌, ◌++◌, map, length, drop, replicate}
use Rattle.messages.specs.declared.Random.{Random}
use Rattle.messages.specs.declared.RunId.{RunId}
use Rattle.messages.specs.declared.StationAddress.{StationAddress}
use Rattle.messages.specs.Table.{group_count}
use Rattle.messages.specs.Reading.{Checked, no, yes}
use Rattle.ends.specs.declared.Indication.{Indication}
use Rattle.ends.specs.declared.Indication.TheVariants.{Nothing, NoLink, LinkEstablished, Found, PotentiallyFound, NotFound, KeyGiven}
use Rattle.ends.specs.FirstFrames.{request, p1, p2}
use Rattle.ends.specs.Outcomes.{Outcome}
use Rattle.car_rules.specs.declared.Car.{Car}
use Rattle.car_rules.specs.declared.Key.{Key}
use Rattle.car_rules.specs.declared.Report.{Report}
use Rattle.car_rules.specs.declared.State.{State}
use Rattle.car_rules.specs.declared.State.TheVariants.{Idle, Asking, Confirmed, Sounding, Requesting, Joining, Matched}
use Rattle.car_rules.specs.Calls.{Call, start, frame, tick, link_up}
use Rattle.car_rules.specs.Cars.{reports_of, no_reports}
use Rattle.car_rules.specs.Constants.{frame_count, station_count, least_output}
use Rattle.car_rules.specs.Rules.{configured, after, key_query}
use Rattle.car_rules.specs.Demand3.{outcomes}

-- ---- what a row asks, and what comes out

-- what each call gives; then the state, the last reading, the reports and what the key query gives
pub data Result : Type 0 where
  runs : List Outcome → State → ℕ → List Report → Checked Key → Result

-- what comes out of some calls
unfoldable pub result_of : Car → List Call → Result
result_of c xs = runs (outcomes c xs) (after c xs).state (after c xs).clock (reports_of (after c xs)) (key_query (after c xs))

-- a case: a car and the calls that it gets, and what must come out
pub record Row : Type 0 where
  pub car : Car
  pub calls : List Call
  pub expected : Result

-- ---- the car and the stations of the table

-- the run 01..08
abbrev run : RunId
run = record { 0 = 0x0102030405060708 }

-- the random value 21..30
abbrev random : Random
random = record { 0 = 0x2122232425262728; 1 = 0x292A2B2C2D2E2F30 }

-- the car 02:00:00:00:00:01, just configured
abbrev fresh : Car
fresh = configured (record { 0 = 0x020000000001 }) 0

-- this car with a reference, in a state and with some reports
abbrev car : ℕ → State → List Report → Car
car reference st rs = record {
  config = record { good = true; address = record { 0 = 0x020000000001 }; reference = reference };
  state = st;
  clock = 0;
  run = run;
  random = random;
  reports = rs ++ drop (length rs) no_reports;
  count = length rs;
}

-- the station 02:00:00:00:00:n
abbrev station : ℕ → StationAddress
station n = record { 0 = 0x020000000000 + n }

-- its report, as it is kept
abbrev reported : ℕ → ℕ → Report
reported n total = record { station = station n; total = total }

-- reports of n other stations, from 02:00:00:00:00:10 on
abbrev others : ℕ → List Report
others zero = []
others (suc n) = reported (0x10 + n) 290 ∷ others n

-- the NID 01..07, low octet first, and the NMK 11..20 of the station 02:00:00:00:00:AA
abbrev key : Key
key = record { station = station 0xAA; nid = record { 0 = 0x07060504030201 }; nmk = record { 0 = 0x1112131415161718; 1 = 0x191A1B1C1D1E1F20 } }

-- ---- octets that the car sends

-- START
abbrev start_frame : List ℕ
start_frame =
    0xFF ∷ 0xFF ∷ 0xFF ∷ 0xFF ∷ 0xFF ∷ 0xFF ∷ 0x02 ∷ 0x00 ∷ 0x00 ∷ 0x00 ∷ 0x00 ∷ 0x01 ∷ 0x88 ∷ 0xE1 ∷ 0x01 ∷ 0x6A ∷ 0x60 ∷ 0x00 ∷ 0x00
    ∷ 0x00 ∷ 0x00 ∷ 0x0A ∷ 0x06 ∷ 0x01 ∷ 0x02 ∷ 0x00 ∷ 0x00 ∷ 0x00 ∷ 0x00 ∷ 0x01 ∷ 0x01 ∷ 0x02 ∷ 0x03 ∷ 0x04 ∷ 0x05 ∷ 0x06 ∷ 0x07 ∷ 0x08 ∷ replicate 22 0x00

-- SOUND with the count k
abbrev sound_frame : ℕ → List ℕ
sound_frame k =
    0xFF ∷ 0xFF ∷ 0xFF ∷ 0xFF ∷ 0xFF ∷ 0xFF ∷ 0x02 ∷ 0x00 ∷ 0x00 ∷ 0x00 ∷ 0x00 ∷ 0x01 ∷ 0x88 ∷ 0xE1 ∷ 0x01 ∷ 0x76 ∷ 0x60 ∷ 0x00 ∷ 0x00
    ∷ replicate 19 0x00 ++ (k ∷ 0x01 ∷ 0x02 ∷ 0x03 ∷ 0x04 ∷ 0x05 ∷ 0x06 ∷ 0x07 ∷ 0x08 ∷ replicate 8 0x00
    ++ (0x21 ∷ 0x22 ∷ 0x23 ∷ 0x24 ∷ 0x25 ∷ 0x26 ∷ 0x27 ∷ 0x28 ∷ 0x29 ∷ 0x2A ∷ 0x2B ∷ 0x2C ∷ 0x2D ∷ 0x2E ∷ 0x2F ∷ 0x30 ∷ []))

-- RSP to the station n
abbrev rsp_to : ℕ → List ℕ
rsp_to n =
    0x02 ∷ 0x00 ∷ 0x00 ∷ 0x00 ∷ 0x00 ∷ n ∷ 0x02 ∷ 0x00 ∷ 0x00 ∷ 0x00 ∷ 0x00 ∷ 0x01 ∷ 0x88 ∷ 0xE1 ∷ 0x01 ∷ 0x6F ∷ 0x60 ∷ 0x00 ∷ 0x00
    ∷ 0x00 ∷ 0x00 ∷ 0x02 ∷ 0x00 ∷ 0x00 ∷ 0x00 ∷ 0x00 ∷ 0x01 ∷ 0x01 ∷ 0x02 ∷ 0x03 ∷ 0x04 ∷ 0x05 ∷ 0x06 ∷ 0x07 ∷ 0x08 ∷ replicate 35 0x00

-- MATCH.REQ to the station n
abbrev match_to : ℕ → List ℕ
match_to n =
    0x02 ∷ 0x00 ∷ 0x00 ∷ 0x00 ∷ 0x00 ∷ n ∷ 0x02 ∷ 0x00 ∷ 0x00 ∷ 0x00 ∷ 0x00 ∷ 0x01 ∷ 0x88 ∷ 0xE1 ∷ 0x01 ∷ 0x7C ∷ 0x60 ∷ 0x00 ∷ 0x00
    ∷ 0x00 ∷ 0x00 ∷ 0x3E ∷ 0x00 ∷ replicate 17 0x00 ++ (0x02 ∷ 0x00 ∷ 0x00 ∷ 0x00 ∷ 0x00 ∷ 0x01 ∷ replicate 17 0x00
    ++ (0x02 ∷ 0x00 ∷ 0x00 ∷ 0x00 ∷ 0x00 ∷ n ∷ 0x01 ∷ 0x02 ∷ 0x03 ∷ 0x04 ∷ 0x05 ∷ 0x06 ∷ 0x07 ∷ 0x08 ∷ replicate 8 0x00))

-- ---- octets that the car gets, beside P2

-- a report of the station n in the run 01..07, r: sounds used, the value v in the first group and w in the others
abbrev report_from : ℕ → ℕ → ℕ → ℕ → ℕ → List ℕ
report_from n r used v w =
    0x02 ∷ 0x00 ∷ 0x00 ∷ 0x00 ∷ 0x00 ∷ 0x01 ∷ 0x02 ∷ 0x00 ∷ 0x00 ∷ 0x00 ∷ 0x00 ∷ n ∷ 0x88 ∷ 0xE1 ∷ 0x01 ∷ 0x6E ∷ 0x60 ∷ 0x00 ∷ 0x00
    ∷ 0x00 ∷ 0x00 ∷ 0x02 ∷ 0x00 ∷ 0x00 ∷ 0x00 ∷ 0x00 ∷ 0x01 ∷ 0x01 ∷ 0x02 ∷ 0x03 ∷ 0x04 ∷ 0x05 ∷ 0x06 ∷ 0x07 ∷ r
    ∷ replicate 34 0x00 ++ (used ∷ group_count ∷ v ∷ replicate (group_count - 1) w)

-- MATCH.CNF of the station n
abbrev match_from : ℕ → List ℕ
match_from n =
    0x02 ∷ 0x00 ∷ 0x00 ∷ 0x00 ∷ 0x00 ∷ 0x01 ∷ 0x02 ∷ 0x00 ∷ 0x00 ∷ 0x00 ∷ 0x00 ∷ n ∷ 0x88 ∷ 0xE1 ∷ 0x01 ∷ 0x7D ∷ 0x60 ∷ 0x00 ∷ 0x00
    ∷ 0x00 ∷ 0x00 ∷ 0x56 ∷ 0x00 ∷ replicate 17 0x00 ++ (0x02 ∷ 0x00 ∷ 0x00 ∷ 0x00 ∷ 0x00 ∷ 0x01 ∷ replicate 17 0x00
    ++ (0x02 ∷ 0x00 ∷ 0x00 ∷ 0x00 ∷ 0x00 ∷ n ∷ 0x01 ∷ 0x02 ∷ 0x03 ∷ 0x04 ∷ 0x05 ∷ 0x06 ∷ 0x07 ∷ 0x08 ∷ replicate 8 0x00
    ++ (0x01 ∷ 0x02 ∷ 0x03 ∷ 0x04 ∷ 0x05 ∷ 0x06 ∷ 0x07 ∷ 0x00
    ∷ 0x11 ∷ 0x12 ∷ 0x13 ∷ 0x14 ∷ 0x15 ∷ 0x16 ∷ 0x17 ∷ 0x18 ∷ 0x19 ∷ 0x1A ∷ 0x1B ∷ 0x1C ∷ 0x1D ∷ 0x1E ∷ 0x1F ∷ 0x20 ∷ [])))

-- ---- calls, and what they give

-- a frame
abbrev gets : List ℕ → Call
gets s = frame s least_output

-- a tick
abbrev at : ℕ → Call
at t = tick t least_output

-- n ticks from t on, 40 ms apart
abbrev ticks : ℕ → ℕ → List Call
ticks zero t = []
ticks (suc n) t = at t ∷ ticks n (t + 40)

-- start
abbrev starts : ℕ → Call
starts t = start run random t least_output

-- accepted, with nothing sent
abbrev silent : Outcome
silent = yes (record { frames = []; indication = Nothing })

-- accepted, with one frame and no indication
abbrev sends : List ℕ → Outcome
sends f = yes (record { frames = f ∷ []; indication = Nothing })

-- accepted, with an indication alone
abbrev tells : Indication → Outcome
tells x = yes (record { frames = []; indication = x })

-- accepted, with MATCH.REQ to the station n and an indication
abbrev chooses : ℕ → Indication → Outcome
chooses n x = yes (record { frames = match_to n ∷ []; indication = x })

-- in Requesting, to the station n
abbrev requesting : ℕ → State
requesting n = Requesting 200 2 (station n)

-- all frames sent, so long left to gather
abbrev gathering : ℕ → State
gathering g = Sounding frame_count 40 g

-- a car with a reference gets one report, with the value v in the first group and w in the others, and chooses
abbrev choosing : ℕ → ℕ → ℕ → ℕ → Outcome → State → Row
choosing reference v w total gives st = record {
  car = car reference (gathering 1) [];
  calls = gets (report_from 0xAA 0x08 10 v w) ∷ at 1 ∷ [];
  expected = runs (sends (rsp_to 0xAA) ∷ gives ∷ []) st 1 (reported 0xAA total ∷ []) (no 8);
}

-- ---- the table

-- C1 to C10
unfoldable pub table : List Row
table =
    -- C1: start sends P1's octets
    record { car = fresh; calls = starts 7 ∷ []; expected = runs (sends p1 ∷ []) (Asking 200 2) 7 [] (no 8) }
    -- C2: the reply P2 takes it to Confirmed; 99 ms later nothing is sent, one more sends the first START
    ∷ record { car = fresh; calls = starts 7 ∷ gets p2 ∷ []; expected = runs (sends p1 ∷ silent ∷ []) (Confirmed 100) 7 [] (no 8) }
    ∷ record {
      car = fresh;
      calls = starts 7 ∷ gets p2 ∷ at 106 ∷ at 107 ∷ [];
      expected = runs (sends p1 ∷ silent ∷ silent ∷ sends start_frame ∷ []) (Sounding 1 40 1200) 107 [] (no 8);
    }
    -- C3: the frames in steps of 40 ms from the first START on, the last a SOUND with count 0; then none until 1,200
    ∷ record {
      car = fresh;
      calls = starts 7 ∷ gets p2 ∷ ticks frame_count 107 ++ (at 1306 ∷ []);
      expected = runs
          (sends p1 ∷ silent ∷ map sends (start_frame ∷ start_frame ∷ start_frame ∷ sound_frame 9 ∷ sound_frame 8 ∷ sound_frame 7 ∷ sound_frame 6 ∷ sound_frame 5 ∷ sound_frame 4 ∷ sound_frame 3 ∷ sound_frame 2 ∷ sound_frame 1 ∷ sound_frame 0 ∷ []) ++ (silent ∷ []))
          (gathering 1) 1306 [] (no 8);
    }
    -- C4: totals 579: found; 580 and 1,159: potentially found; 1,160: not found, Idle
    ∷ choosing 0 9 10 579 (chooses 0xAA Found) (requesting 0xAA)
    ∷ choosing 0 10 10 580 (chooses 0xAA PotentiallyFound) (requesting 0xAA)
    ∷ choosing 0 19 20 1159 (chooses 0xAA PotentiallyFound) (requesting 0xAA)
    ∷ choosing 0 20 20 1160 (tells NotFound) Idle
    -- with reference 26: 2,087 found, 2,088 potentially found
    ∷ choosing 26 35 36 2087 (chooses 0xAA Found) (requesting 0xAA)
    ∷ choosing 26 36 36 2088 (chooses 0xAA PotentiallyFound) (requesting 0xAA)
    -- C5: equal totals: MATCH.REQ goes to the first that reported
    ∷ record {
      car = car 0 (gathering 1) [];
      calls = gets (report_from 0xAA 0x08 10 5 5) ∷ gets (report_from 0xAB 0x08 10 5 5) ∷ at 1 ∷ [];
      expected = runs (sends (rsp_to 0xAA) ∷ sends (rsp_to 0xAB) ∷ chooses 0xAA Found ∷ []) (requesting 0xAA) 1 (reported 0xAA 290 ∷ reported 0xAB 290 ∷ []) (no 8);
    }
    -- a smaller total of the second: to the second
    ∷ record {
      car = car 0 (gathering 1) [];
      calls = gets (report_from 0xAA 0x08 10 5 5) ∷ gets (report_from 0xAB 0x08 10 4 5) ∷ at 1 ∷ [];
      expected = runs (sends (rsp_to 0xAA) ∷ sends (rsp_to 0xAB) ∷ chooses 0xAB Found ∷ []) (requesting 0xAB) 1 (reported 0xAA 290 ∷ reported 0xAB 289 ∷ []) (no 8);
    }
    -- a later, smaller report of a station that has reported changes nothing and is answered
    ∷ record {
      car = car 0 (gathering 1) (reported 0xAA 290 ∷ reported 0xAB 289 ∷ []);
      calls = gets (report_from 0xAA 0x08 10 3 3) ∷ at 1 ∷ [];
      expected = runs (sends (rsp_to 0xAA) ∷ chooses 0xAB Found ∷ []) (requesting 0xAB) 1 (reported 0xAA 290 ∷ reported 0xAB 289 ∷ []) (no 8);
    }
    -- C6: one station more than are kept: 18; one of those that are kept is answered
    ∷ record {
      car = car 0 (gathering 1) (others station_count);
      calls = gets (report_from 0xAA 0x08 10 5 5) ∷ gets (report_from 0x10 0x08 10 5 5) ∷ [];
      expected = runs (no 18 ∷ sends (rsp_to 0x10) ∷ []) (gathering 1) 0 (others station_count) (no 8);
    }
    -- a report of no sounds: 20, and the same station's next report is its first
    ∷ record {
      car = car 0 (gathering 1) [];
      calls = gets (report_from 0xAA 0x08 0 3 3) ∷ gets (report_from 0xAA 0x08 1 5 5) ∷ [];
      expected = runs (no 20 ∷ sends (rsp_to 0xAA) ∷ []) (gathering 1) 0 (reported 0xAA 290 ∷ []) (no 8);
    }
    -- another run: 11
    ∷ record { car = car 0 (gathering 1) []; calls = gets (report_from 0xAA 0x09 10 5 5) ∷ []; expected = runs (no 11 ∷ []) (gathering 1) 0 [] (no 8) }
    -- PARM.REQ of another car: 19
    ∷ record { car = car 0 (gathering 1) []; calls = gets (request 0x02) ∷ []; expected = runs (no 19 ∷ []) (gathering 1) 0 [] (no 8) }
    -- C7: no report in 1,200: Idle, "no link"
    ∷ record { car = car 0 (gathering 1200) []; calls = at 1200 ∷ []; expected = runs (tells NoLink ∷ []) Idle 1200 [] (no 8) }
    -- no PARM.CNF: three PARM.REQ in all, 200 ms apart, then "no link"
    ∷ record {
      car = fresh;
      calls = starts 7 ∷ at 206 ∷ at 207 ∷ at 407 ∷ at 606 ∷ at 607 ∷ [];
      expected = runs (sends p1 ∷ silent ∷ sends p1 ∷ sends p1 ∷ silent ∷ tells NoLink ∷ []) Idle 607 [] (no 8);
    }
    -- C8: MATCH.CNF of another station than the chosen: 11
    ∷ record { car = car 0 (requesting 0xAA) []; calls = gets (match_from 0xAB) ∷ []; expected = runs (no 11 ∷ []) (requesting 0xAA) 0 [] (no 8) }
    -- of the chosen: "key given", and the key query gives its NID and NMK
    ∷ record { car = car 0 (requesting 0xAA) []; calls = gets (match_from 0xAA) ∷ []; expected = runs (tells KeyGiven ∷ []) (Joining 12000 key) 0 [] (yes key) }
    -- link up: "link established"
    ∷ record { car = car 0 (requesting 0xAA) []; calls = gets (match_from 0xAA) ∷ link_up ∷ []; expected = runs (tells KeyGiven ∷ tells LinkEstablished ∷ []) (Matched key) 0 [] (yes key) }
    -- C9: in Requesting a report of the chosen station is answered by RSP, another's is 11
    ∷ record {
      car = car 0 (requesting 0xAA) (reported 0xAA 290 ∷ []);
      calls = gets (report_from 0xAA 0x08 10 3 3) ∷ gets (report_from 0xAB 0x08 10 3 3) ∷ [];
      expected = runs (sends (rsp_to 0xAA) ∷ no 11 ∷ []) (requesting 0xAA) 0 (reported 0xAA 290 ∷ []) (no 8);
    }
    -- C10: 1,199 ms after the first START nothing is chosen, one more chooses
    ∷ record {
      car = car 0 (gathering 1200) (reported 0xAA 290 ∷ []);
      calls = at 1199 ∷ at 1200 ∷ [];
      expected = runs (silent ∷ chooses 0xAA Found ∷ []) (requesting 0xAA) 1200 (reported 0xAA 290 ∷ []) (no 8);
    }
    -- also where a frame is due: the second START goes at 1,160, the third would at 1,200
    ∷ record {
      car = car 0 (Sounding 1 40 1200) (reported 0xAA 290 ∷ []);
      calls = at 1160 ∷ at 1199 ∷ at 1200 ∷ [];
      expected = runs (sends start_frame ∷ silent ∷ chooses 0xAA Found ∷ []) (requesting 0xAA) 1200 (reported 0xAA 290 ∷ []) (no 8);
    }
    ∷ []

-- every row of the table comes out as it must
abbrev pub AllHold : Type 0
AllHold = map (λ (r : Row). result_of r.car r.calls) table ≡ map (λ (r : Row). r.expected) table
