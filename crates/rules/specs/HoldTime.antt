-- No record kept for ever: how long a car holds a record that it does not restart. One statement over the rules, in octets.
use Rattle.std.specs.Prelude.{ℕ, ◌+◌, ◌*◌, ◌<◌, ◌≤◌, ◌≡◌, Bool, true, false, cond, ◌&&◌, ◌||◌, List, [], ◌∷◌, ltb, length}
use Rattle.messages.specs.declared.CarAddress.{CarAddress}
use Rattle.messages.specs.declared.Edition.{Edition}
use Rattle.messages.specs.Table.{slac_parm_req, validate_req}
use Rattle.ends.specs.Clock.{elapsed}
use Rattle.ends.specs.Constants.{retry_count}
use Rattle.ends.specs.Outcomes.{frames_of}
use Rattle.rules.specs.declared.Record.{Record}
use Rattle.rules.specs.declared.Station.{Station}
use Rattle.rules.specs.Constants.{asked_time, sounding_time, reported_time, awaiting_time, ready_time, window_step, window_count, success_time, ready_result}
use Rattle.rules.specs.Calls.{Call, frame, tick, pilot, terminate, link_up}
use Rattle.rules.specs.Records.{mine}
use Rattle.rules.specs.Rules.{step, outcome, after}
use Rattle.rules.specs.Demand3.{named, is_car, accepted, is_kind, is_own_accepted, any_result}

-- ---- its words

-- "an accepted PARM.REQ of c"
unfoldable pub asks : CarAddress → Station → Call → Bool
asks c s x = is_own_accepted s.config.edition c slac_parm_req x (outcome s x)

-- "a later try": car c holds a record, which its PARM.REQ restarts
unfoldable pub is_holder : CarAddress → Station → Bool
is_holder c s = ltb 0 (length (mine c s.records))

-- "a validate request of c answered 01"
unfoldable pub is_readied : CarAddress → Station → Call → Bool
is_readied c s x = is_kind s.config.edition validate_req x && is_car c (named s.config.edition x) && any_result ready_result (frames_of (outcome s x))

-- "where one was answered 01 since"
unfoldable pub any_readied : CarAddress → Station → List Call → Bool
any_readied c s [] = false
any_readied c s (x ∷ xs) = is_readied c s x || any_readied c (step s x) xs

-- how many milliseconds a call spans: "the elapsed times of the accepted ticks", every other call none
unfoldable pub spans : Station → Call → ℕ
spans s (frame f room) = 0
spans s (tick t room) = cond (accepted (outcome s (tick t room))) (elapsed t s.clock) 0
spans s (pilot p t) = 0
spans s terminate = 0
spans s link_up = 0

-- "no PARM.REQ of c is accepted and no accepted tick spans more than e"
abbrev pub Unasked : CarAddress → ℕ → Station → List Call → Type 0
Unasked c e s [] = Unit {0}
Unasked c e s (x ∷ xs) = (asks c s x ≡ false) × (spans s x ≤ e) × Unasked c e (step s x) xs

-- "the sum of the elapsed times of the accepted ticks"
unfoldable pub ticked : Station → List Call → ℕ
ticked s [] = 0
ticked s (x ∷ xs) = spans s x + ticked (step s x) xs

-- a time counts where the car has a record
abbrev pub while_held : List Record → ℕ → ℕ
while_held [] d = 0
while_held (r ∷ own) d = d

-- the sum of those that come while car c holds a record: "up to and with the tick that frees it"
unfoldable pub held_for : CarAddress → Station → List Call → ℕ
held_for c s [] = 0
held_for c s (x ∷ xs) = while_held (mine c s.records) (spans s x) + held_for c (step s x) xs

-- ---- the bound

-- "B" without a validation, by edition and try: each phase's time, Reported's for the report and each retry
abbrev pub try_time : Edition → Bool → ℕ
try_time edition later = asked_time + sounding_time edition later + (retry_count + 1) * reported_time + awaiting_time

-- "10,400 + 25,600": ready's and success's times, and the longest window
abbrev pub validating_time : ℕ
validating_time = ready_time + window_step * window_count + success_time

-- where a validate request was answered 01, that "is added to B and one more e": the window may fire late
abbrev pub added_hold : Bool → ℕ → ℕ
added_hold false e = 0
added_hold true e = validating_time + e

-- "B + 4e": e for each other time that may fire late, Sounding's, Reported's for each retry, and the last phase's
abbrev pub longest_hold : Edition → Bool → Bool → ℕ → ℕ
longest_hold edition later readied e = try_time edition later + (retry_count + 2) * e + added_hold readied e

-- ---- the claim

-- from station s on, while car c asks no more
pub record HeldShort (most : ℕ) (c : CarAddress) (e : ℕ) (s : Station) (since : List Call) : Type 0 where
  -- up to and with the tick that frees the record
  pub held : held_for c s since < most
  -- "while c holds a record": one e less, since that tick is yet to come
  pub still : 0 < length (mine c (after s since).records) → ticked s since + e < most

-- of the station s₀: calls `before`, an accepted request of car c, calls `since`, whatever they are
abbrev pub HoldTime : Station → Type 0
HoldTime s₀ = (c : CarAddress) (e : ℕ) (before : List Call) (ask : Call) (since : List Call)
    → asks c (after s₀ before) ask ≡ true
    → Unasked c e (step (after s₀ before) ask) since
    → HeldShort (longest_hold s₀.config.edition (is_holder c (after s₀ before)) (any_readied c (step (after s₀ before) ask) since) e) c e (step (after s₀ before) ask) since
