-- The car's times, in milliseconds, and its counts, with their names in ISO 15118-3 (tables 3 and A.1).
use Rattle.std.specs.Prelude.{ℕ, ◌+◌}
use Rattle.ends.specs.Constants.{sound_count}
use Rattle.messages.specs.Table.{slac_match_req, written_size}

-- from the first PARM.CNF to the first START: TP_match_sequence
abbrev pub confirmed_time : ℕ
confirmed_time = 100

-- from one START or M-SOUND to the next: TP_EV_batch_msg_interval
abbrev pub spacing : ℕ
spacing = 40

-- how long reports are gathered from the first START on: TT_EV_atten_results
abbrev pub gather_time : ℕ
gather_time = 1200

-- how many STARTs are sent: C_EV_start_atten_char_inds
abbrev pub start_count : ℕ
start_count = 3

-- "its 13 frames": the STARTs and then the M-SOUNDs
abbrev pub frame_count : ℕ
frame_count = start_count + sound_count

-- "reports of ten stations are kept"
abbrev pub station_count : ℕ
station_count = 10

-- the mean attenuation over the reference from which a station is no longer found: C_EV_match_signalattn_direct
abbrev pub direct_limit : ℕ
direct_limit = 10

-- the one from which it is no longer potentially found: C_EV_match_signalattn_indirect
abbrev pub indirect_limit : ℕ
indirect_limit = 20

-- the greatest reference
abbrev pub most_reference : ℕ
most_reference = 255

-- the least output of a start, a frame or a tick: a MATCH.REQ
abbrev pub least_output : ℕ
least_output = written_size slac_match_req 0
