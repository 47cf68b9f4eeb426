-- What a first VALIDATE.REQ is answered, and what a tick confirms of one record, as the code gives it.
use Rattle.std.specs.Prelude.{ℕ, Bool, cond, List, [], ◌∷◌, Option, None, Some}
use Rattle.rules.specs.Constants.{ready_result, failure_result, not_required_result}
use Rattle.rules.specs.Replies.{Reply, confirmation}
use Rattle.records.specs.declared.validation.Confirmation.{Confirmation}

-- by whether validation is not required, and whether any record is ready or counting
abbrev pub result_by : Bool → Bool → ℕ
result_by exempt any = cond exempt not_required_result (cond any failure_result ready_result)

-- the replies that a confirmation says: none, or VALIDATE.CNF
abbrev pub confirmation_of : Option Confirmation → List Reply
confirmation_of None = []
confirmation_of (Some c) = confirmation c.toggles c.result ∷ []
