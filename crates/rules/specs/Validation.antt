-- Validation by pilot toggles: who is validated, what a first request is answered, and what a pilot change does to a record that counts.
use Rattle.std.specs.Prelude.{ℕ, ◌+◌, min, Bool, true, false, cond, ◌&&◌, ◌||◌, List, [], ◌∷◌}
use Rattle.rules.specs.declared.Phase.{Phase}
use Rattle.rules.specs.declared.Phase.TheVariants.{Asked, Sounding, Reported, Awaiting, Ready, Counting, Success}
use Rattle.rules.specs.declared.Pilot.{Pilot}
use Rattle.rules.specs.declared.Pilot.TheVariants.{A, B, C, D, E, F}
use Rattle.rules.specs.declared.Record.{Record}
use Rattle.rules.specs.declared.Turn.{Turn}
use Rattle.rules.specs.declared.Turn.TheVariants.{Begins, Ends, Stays, Breaks}
use Rattle.rules.specs.Constants.{ready_result, failure_result, not_required_result, most_toggles}
use Rattle.rules.specs.Records.{is_held, in_phase}

-- "ready or counting"
unfoldable pub validates : Phase → Bool
validates (Asked t) = false
validates (Sounding t) = false
validates (Reported t n) = false
validates (Awaiting t) = false
validates (Ready t) = true
validates (Counting t k b) = true
validates (Success t) = false

-- a held record that is ready or counting
unfoldable pub is_validating : Record → Bool
is_validating r = is_held r && validates r.phase

-- "any record is ready or counting"
unfoldable pub any_validates : List Record → Bool
any_validates [] = false
any_validates (r ∷ rs) = is_validating r || any_validates rs

-- what a first request is answered in Awaiting: "where validation is not required, 04; else, where any record is ready or counting, 03", else 01
unfoldable pub first_result : Bool → List Record → ℕ
first_result exempt rs = cond exempt not_required_result (cond (any_validates rs) failure_result ready_result)

-- ---- toggles

-- a pilot change from B
unfoldable pub from_b : Pilot → Turn
from_b A = Breaks
from_b B = Stays
from_b C = Begins
from_b D = Breaks
from_b E = Breaks
from_b F = Breaks

-- a pilot change from C
unfoldable pub from_c : Pilot → Turn
from_c A = Breaks
from_c B = Ends
from_c C = Stays
from_c D = Breaks
from_c E = Breaks
from_c F = Breaks

-- a pilot change from D
unfoldable pub from_d : Pilot → Turn
from_d A = Breaks
from_d B = Breaks
from_d C = Breaks
from_d D = Stays
from_d E = Breaks
from_d F = Breaks

-- "B to C begins a toggle; C to B ends one; the same state again changes nothing; any other change leaves none begun"
unfoldable pub turn : Pilot → Pilot → Turn
turn A q = Breaks
turn B q = from_b q
turn C q = from_c q
turn D q = from_d q
turn E q = Breaks
turn F q = Breaks

-- "the count goes up by one, at most to 255", where a toggle is begun
unfoldable pub one_more : Bool → ℕ → ℕ
one_more b k = cond b (min most_toggles (k + 1)) k

-- a counting phase after a pilot change
unfoldable pub counts : Turn → ℕ → ℕ → Bool → Phase
counts Begins t k b = Counting t k true
counts Ends t k b = Counting t (one_more b k) false
counts Stays t k b = Counting t k b
counts Breaks t k b = Counting t k false

-- "each record that counts"
unfoldable pub toggled_phase : Turn → Phase → Phase
toggled_phase w (Asked t) = Asked t
toggled_phase w (Sounding t) = Sounding t
toggled_phase w (Reported t n) = Reported t n
toggled_phase w (Awaiting t) = Awaiting t
toggled_phase w (Ready t) = Ready t
toggled_phase w (Counting t k b) = counts w t k b
toggled_phase w (Success t) = Success t

-- a record after a pilot change among B, C and D
unfoldable pub toggled_record : Turn → Record → Record
toggled_record w r = cond (is_held r) (in_phase (toggled_phase w r.phase) r) r
