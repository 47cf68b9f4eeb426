-- Document 01's numbers and values for each case of the answers that the code gives.
use Rattle.std.specs.Prelude.{ℕ, List, Result, Ok, Err}
use Rattle.messages.specs.Reading.{Checked, no, yes}
use Rattle.session_log.specs.declared.Cause.{Cause}
use Rattle.session_log.specs.declared.Cause.TheVariants.{TooLong, TooShort, CountsDiffer, EventsElsewhere, RepliesElsewhere, EndElsewhere, TooWide, BadSetting, BadKind, BadReading, BadEventLength, BadPilot, BadIndication, BadReplyLength, OutputTooShort}
use Rattle.session_log.specs.declared.Places.{Places}
use Rattle.session_log.specs.Meaning.{Log}
use Rattle.session_log.specs.Layout.{events_start}
use Rattle.session_log.specs.Reading.{count_in, replies_in}

-- the number of a cause
abbrev pub number_of : Cause → ℕ
number_of TooLong = 1
number_of TooShort = 2
number_of CountsDiffer = 3
number_of EventsElsewhere = 4
number_of RepliesElsewhere = 5
number_of EndElsewhere = 6
number_of TooWide = 7
number_of BadSetting = 8
number_of BadKind = 9
number_of BadReading = 10
number_of BadEventLength = 11
number_of BadPilot = 12
number_of BadIndication = 13
number_of BadReplyLength = 14
number_of OutputTooShort = 15

-- how many events the log s has, where they start, and where the replies start
abbrev pub places_in : List ℕ → Places
places_in s = record { count = count_in s; events = events_start; replies = replies_in s }

-- where the lists of the log stand that the octets s were read as
abbrev pub places_of : List ℕ → Checked Log → Checked Places
places_of s (no n) = no n
places_of s (yes l) = yes (places_in s)

-- what was answered: a value, such as the places of reading and the octets' number of writing, or a cause by its number
abbrev pub answer_of : {A : Type 0} → Result A Cause → Checked A
answer_of (Err x) = no (number_of x)
answer_of (Ok a) = yes a
