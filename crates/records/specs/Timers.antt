-- What a tick does to one record, as the code gives it: the record afterwards, and whether it reports.
use Rattle.std.specs.Prelude.{ℕ, ◌-◌, Bool, true, false, cond, List, [], ◌∷◌, eqb}
use Rattle.rules.specs.declared.Phase.{Phase}
use Rattle.rules.specs.declared.Phase.TheVariants.{Asked, Sounding, Reported, Awaiting, Ready, Counting, Success}
use Rattle.rules.specs.declared.Record.{Record}
use Rattle.ends.specs.Constants.{retry_count}
use Rattle.rules.specs.Records.{is_held}
use Rattle.ends.specs.Lists.{only}
use Rattle.rules.specs.Replies.{Reply, is_report}
use Rattle.rules.specs.Ticks.{Ticked, runs_out, window_ends, reports, tick_phase, record_of, replies_of, tick_record}
use Rattle.records.specs.declared.changes.Kept.{Kept}

-- something is sent
abbrev pub any_sent : List Reply → Bool
any_sent [] = false
any_sent (t ∷ ts) = true

-- what a record sends after e milliseconds, by whether the pilot is at B
unfoldable pub tick_replies : Bool → ℕ → Record → List Reply
tick_replies b e r = cond (is_held r) (replies_of (tick_phase b e r r.phase)) []

-- the record after e milliseconds, and whether it reports
unfoldable pub after_tick : Bool → ℕ → Record → Kept
after_tick b e r = record { kept = tick_record b e r; reports = any_sent (only is_report (tick_replies b e r)) }

-- the same of a held record, by what its phase comes to
unfoldable pub after_held : Record → Ticked → Kept
after_held r x = record { kept = record_of r x; reports = any_sent (only is_report (replies_of x)) }

-- ---- a phase by its time

-- the time left in a phase
abbrev pub time_of : Phase → ℕ
time_of (Asked t) = t
time_of (Sounding t) = t
time_of (Reported t n) = t
time_of (Awaiting t) = t
time_of (Ready t) = t
time_of (Counting t k b) = t
time_of (Success t) = t

-- the phase with so much left
abbrev pub with_left : ℕ → Phase → Phase
with_left left (Asked t) = Asked left
with_left left (Sounding t) = Sounding left
with_left left (Reported t n) = Reported left n
with_left left (Awaiting t) = Awaiting left
with_left left (Ready t) = Ready left
with_left left (Counting t k b) = Counting left k b
with_left left (Success t) = Success left

-- what a held record comes to when the time of its phase fires, by whether the pilot is at B
abbrev pub fired_of : Bool → Record → Phase → Ticked
fired_of b r (Asked t) = runs_out
fired_of b r (Sounding t) = cond (eqb r.profiles 0) runs_out (reports retry_count r)
fired_of b r (Reported t n) = cond (eqb n 0) runs_out (reports (n - 1) r)
fired_of b r (Awaiting t) = runs_out
fired_of b r (Ready t) = runs_out
fired_of b r (Counting t k g) = window_ends b k r
fired_of b r (Success t) = runs_out
