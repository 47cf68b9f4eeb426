-- Times, in milliseconds, and counts of both ends, with their names in ISO 15118-3 (tables 3 and A.1).
use Rattle.std.specs.Prelude.{ℕ}

-- how often a request or a report is sent again: C_EV_match_retry
abbrev pub retry_count : ℕ
retry_count = 2

-- how many M-SOUNDs a car sends: C_EV_match_MNBC
abbrev pub sound_count : ℕ
sound_count = 10

-- the wait for a response: TT_match_response
abbrev pub response_time : ℕ
response_time = 200

-- the wait for the link: TT_match_join
abbrev pub joining_time : ℕ
joining_time = 12000

-- the longest gap between two readings that a tick takes
abbrev pub longest_gap : ℕ
longest_gap = 60000
