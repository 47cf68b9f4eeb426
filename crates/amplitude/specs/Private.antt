-- What the contracts of private functions cite, and no public one.
use Rattle.std.specs.Prelude.{ℕ, Bool, leb, Result, Ok, Err}
use Rattle.messages.specs.Reading.{Checked, no, yes, check}
use Rattle.messages.specs.Answers.{number_of}
use Rattle.messages.specs.declared.Refusal.{Refusal}
use Rattle.amplitude.specs.declared.reader.Addresses.{Addresses}

-- the destination and the source that were found in a frame
abbrev pub addresses_of : Result Addresses Refusal → Checked (ℕ × ℕ)
addresses_of (Ok p) = yes (p.receiver.0, p.sender.0)
addresses_of (Err x) = no (number_of x)

-- what writing answers by its two tests, the octets of the frame, and those of the output
abbrev pub judged : Bool → Bool → ℕ → ℕ → Checked ℕ
judged addressed limited whole room = check addressed 5 (check limited 6 (check (leb whole room) 15 (yes whole)))
