-- What AMP_MAP.REQ in Matched is answered.
use Rattle.std.specs.Prelude.{ℕ, true, eqb}
use Rattle.messages.specs.declared.CarAddress.{CarAddress}
use Rattle.messages.specs.Reading.{check}
use Rattle.amplitude.specs.Maps.{MapMessage, amp_map_cnf}
use Rattle.amplitude.specs.Writing.{write_rules}
use Rattle.amplitude.specs.Answers.{result_of}
use Rattle.ends.specs.declared.Indication.TheVariants.{Nothing}
use Rattle.ends.specs.Outcomes.{Outcome}
use Rattle.ends.specs.Sending.{sent_of}
use Rattle.rules.specs.declared.Configuration.{Configuration}
use Rattle.rules.specs.Records.{same_car}

-- AMP_MAP.CNF for success to car c
abbrev pub confirmation : Configuration → CarAddress → MapMessage
confirmation o c = amp_map_cnf c.0 o.address.0 (result_of true)

-- sent, or what writing it to an output of n octets refuses
abbrev pub confirms : Configuration → CarAddress → ℕ → Outcome
confirms o c n = sent_of Nothing (write_rules (confirmation o c) n)

-- to car c with so many carriers, where the car d is matched: 11, 24, or AMP_MAP.CNF
abbrev pub map_answer : Configuration → CarAddress → CarAddress → ℕ → ℕ → Outcome
map_answer o d c carriers n = check (same_car c d) 11 (check (eqb carriers o.carriers) 24 (confirms o c n))
