-- The station's times, in milliseconds, and its counts, with their names in ISO 15118-3 (tables 3 and A.1); where SAE J2931/4 has its own, by edition and by whether the try is a later one.
use Rattle.std.specs.Prelude.{ℕ, ◌*◌, Bool, true, false}
use Rattle.ends.specs.Constants.{response_time, sound_count}
use Rattle.messages.specs.declared.Edition.{Edition}
use Rattle.messages.specs.declared.Edition.TheVariants.{Iso, Sae}
use Rattle.messages.specs.Table.{atten_char_ind, group_count, iso_attempt, first_attempt, later_attempt, written_size}

-- admission's time: the greatest TT_EVSE_SLAC_init
abbrev pub admission_time : ℕ
admission_time = 50000

-- Asked's time: TT_match_sequence
abbrev pub asked_time : ℕ
asked_time = 400

-- Sounding's time: TT_EVSE_match_MNBC; SAE: "200 in a first try and 1,000 in a later one"
abbrev pub sounding_time : Edition → Bool → ℕ
sounding_time Iso later = 600
sounding_time Sae false = 200
sounding_time Sae true = 1000

-- how many sounds there are, and at how many profiles Sounding closes: C_EV_match_MNBC; SAE: "at 8 or 16"
abbrev pub sounds_per_try : Edition → Bool → ℕ
sounds_per_try Iso later = sound_count
sounds_per_try Sae false = 8
sounds_per_try Sae true = 16

-- NUM_SOUNDS and Time_Out: "that try's pair"
abbrev pub pair_of : Edition → Bool → ℕ
pair_of Iso later = iso_attempt
pair_of Sae false = first_attempt
pair_of Sae true = later_attempt

-- Reported's time: TT_match_response
abbrev pub reported_time : ℕ
reported_time = response_time

-- Awaiting's time: TT_EVSE_match_session
abbrev pub awaiting_time : ℕ
awaiting_time = 10000

-- ready's time: TT_match_sequence, as Asked's
abbrev pub ready_time : ℕ
ready_time = asked_time

-- a step of the window: the timer counts steps of 100, from one on
abbrev pub window_step : ℕ
window_step = 100

-- how many windows there are: the timer is an octet
abbrev pub window_count : ℕ
window_count = 256

-- success's time: TT_EVSE_match_session, as Awaiting's
abbrev pub success_time : ℕ
success_time = awaiting_time

-- the most toggles that a CNF can tell
abbrev pub most_toggles : ℕ
most_toggles = 255

-- results that the station sends: "01 ready, 02 success, 03 failure, 04 not required"
abbrev pub ready_result : ℕ
ready_result = 1

abbrev pub success_result : ℕ
success_result = 2

abbrev pub failure_result : ℕ
failure_result = 3

abbrev pub not_required_result : ℕ
not_required_result = 4

-- how many records a station has: at least C_EVSE_match_parallel
abbrev pub record_count : ℕ
record_count = 16

-- the least output of a frame or tick call: a report of every record, each with all group values
abbrev pub least_output : ℕ
least_output = written_size atten_char_ind group_count * record_count
