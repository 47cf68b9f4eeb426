-- MATCH.REQ in octets, and the MATCH.CNF that repeats its identifiers.
use Rattle.std.specs.Prelude.{ℕ, List}
use Rattle.messages.specs.declared.Edition.{Edition}
use Rattle.messages.specs.declared.RunId.{RunId}
use Rattle.messages.specs.Reading.{beside_of, read_rules}
use Rattle.rules.specs.Received.{Request, match_req}
use Rattle.rules.specs.Replies.{Reply, match_cnf}

-- the identifiers of the request s
abbrev pub first_id : Edition → List ℕ → List ℕ
first_id e s = (beside_of (read_rules e s)).first

abbrev pub second_id : Edition → List ℕ → List ℕ
second_id e s = (beside_of (read_rules e s)).second

-- a request of a run
abbrev pub asking : Edition → RunId → List ℕ → Request
asking e run s = match_req run (first_id e s) (second_id e s)

-- its reply
abbrev pub confirming : Edition → RunId → List ℕ → Reply
confirming e run s = match_cnf run (first_id e s) (second_id e s)
