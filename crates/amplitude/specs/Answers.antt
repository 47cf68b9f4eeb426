-- Document 01's reading of the answers that the code gives.
use Rattle.std.specs.Prelude.{ℕ, Bool, true, false, Result, Ok, Err}
use Rattle.messages.specs.Reading.{Checked, no, yes}
use Rattle.messages.specs.Answers.{number_of}
use Rattle.amplitude.specs.Reading.{Summary, requested, confirmed}
use Rattle.messages.specs.declared.Refusal.{Refusal}
use Rattle.amplitude.specs.declared.MapMessage.{MapMessage}
use Rattle.amplitude.specs.declared.MapMessage.TheVariants.{AmpMapReq, AmpMapCnf}

-- "00 success or 01 failure"
abbrev pub result_of : Bool → ℕ
result_of true = 0
result_of false = 1

-- what reading answered
abbrev pub answer_of : Result MapMessage Refusal → Checked Summary
answer_of (Ok (AmpMapReq receiver sender carriers)) = yes (requested receiver.0 sender.0 carriers)
answer_of (Ok (AmpMapCnf receiver sender success)) = yes (confirmed receiver.0 sender.0 (result_of success))
answer_of (Err x) = no (number_of x)
