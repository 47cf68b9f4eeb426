-- Document 01's numbers and values for each case of the answers that the code gives.
use Rattle.std.specs.Prelude.{ℕ, List, Result, Ok, Err}
use Rattle.messages.specs.Table as table
use Rattle.messages.specs.Table.{broadcast}
use Rattle.messages.specs.Reading.{Checked, no, yes, Beside}
use Rattle.messages.specs.declared.Edition.{Edition}
use Rattle.messages.specs.declared.Ids.{Ids}
use Rattle.messages.specs.declared.Refusal.{Refusal}
use Rattle.messages.specs.declared.Refusal.TheVariants.{TooShort, BadHead, UnknownType, TooLong, BadAddress, BadOctet, NotForUs, WrongState, AdmissionClosed, RecordsFull, NoRecord, WrongPhase, BadSoundCount, TickGap, OutputTooShort, BadConfiguration, OnlyForCars, ReportsFull, OnlyForStations, NoSounds, EmptyRun, OtherTry, OtherGroupCount, OtherCarrierCount}
use Rattle.messages.specs.declared.Message.{Message}
use Rattle.messages.specs.declared.Message.TheVariants.{SlacParmReq, SlacParmCnf, StartAttenCharInd, AttenCharInd, AttenCharRsp, MnbcSoundInd, ValidateReq, ValidateCnf, SlacMatchReq, SlacMatchCnf, AttenProfileInd}

-- "numbers given back instead of an answer"
abbrev pub number_of : Refusal → ℕ
number_of TooShort = 1
number_of BadHead = 2
number_of UnknownType = 3
number_of TooLong = 4
number_of BadAddress = 5
number_of BadOctet = 6
number_of NotForUs = 7
number_of WrongState = 8
number_of AdmissionClosed = 9
number_of RecordsFull = 10
number_of NoRecord = 11
number_of WrongPhase = 12
number_of BadSoundCount = 13
number_of TickGap = 14
number_of OutputTooShort = 15
number_of BadConfiguration = 16
number_of OnlyForCars = 17
number_of ReportsFull = 18
number_of OnlyForStations = 19
number_of NoSounds = 20
number_of EmptyRun = 21
number_of OtherTry = 22
number_of OtherGroupCount = 23
number_of OtherCarrierCount = 24

-- the message that a value of the code means in an edition, with what stands beside its numbers
abbrev pub message_of : Edition → Message → Beside → table.Message
message_of e (SlacParmReq car run) b = record { edition = e; kind = table.slac_parm_req; count = 0; dst = broadcast; src = car.0; values = (run.0, tt) }
message_of e (SlacParmCnf station car attempt run) b = record { edition = e; kind = table.slac_parm_cnf; count = 0; dst = car.0; src = station.0; values = (attempt.0, (run.0, tt)) }
message_of e (StartAttenCharInd car attempt run) b = record { edition = e; kind = table.start_atten_char_ind; count = 0; dst = broadcast; src = car.0; values = (attempt.0, (run.0, tt)) }
message_of e (AttenCharInd station car run sounds count) b = record { edition = e; kind = table.atten_char_ind; count = count; dst = car.0; src = station.0; values = (run.0, (b.first, (b.second, (sounds, (b.groups, tt))))) }
message_of e (AttenCharRsp car station run) b = record { edition = e; kind = table.atten_char_rsp; count = 0; dst = station.0; src = car.0; values = (run.0, (b.first, (b.second, tt))) }
message_of e (MnbcSoundInd car count run random) b = record { edition = e; kind = table.mnbc_sound_ind; count = 0; dst = broadcast; src = car.0; values = (b.first, (count, (run.0, (random.0, (random.1, tt))))) }
message_of e (ValidateReq car timer receiver) b = record { edition = e; kind = table.validate_req; count = 0; dst = receiver.0; src = car.0; values = (timer, tt) }
message_of e (ValidateCnf station toggles car result) b = record { edition = e; kind = table.validate_cnf; count = 0; dst = car.0; src = station.0; values = (toggles, (result, tt)) }
message_of e (SlacMatchReq car station run) b = record { edition = e; kind = table.slac_match_req; count = 0; dst = station.0; src = car.0; values = (b.first, (b.second, (run.0, tt))) }
message_of e (SlacMatchCnf station car run nid nmk) b = record { edition = e; kind = table.slac_match_cnf; count = 0; dst = car.0; src = station.0; values = (b.first, (b.second, (run.0, (nid.0, (nmk.0, (nmk.1, tt)))))) }
message_of e (AttenProfileInd modem station car count) b = record { edition = e; kind = table.atten_profile_ind; count = count; dst = station.0; src = modem.0; values = (car.0, (b.groups, tt)) }

-- what stands beside a value of the code
abbrev pub besides : List ℕ → Ids → Beside
besides groups ids = record { groups = groups; first = ids.first; second = ids.second }

module _ {A : Type 0} where
  -- what a function answered: a refusal's number, or the value
  abbrev pub checked_of : Result A Refusal → Checked A
  checked_of (Err x) = no (number_of x)
  checked_of (Ok a) = yes a

-- what reading answered, with what stands beside
abbrev pub answer_of : Edition → Result Message Refusal → Beside → Checked table.Message
answer_of e (Err x) b = no (number_of x)
answer_of e (Ok m) b = yes (message_of e m b)
