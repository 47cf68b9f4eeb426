-- With which result a tick confirms to one record's car.
use Prim.Native.Nat.{ℕ, ◌<◌}
use mathlib.Core.Path.{◌≡◌, subst}
use mathlib.Core.Bool.{Bool, true, false, cond}
use mathlib.Core.List.{List, [], ◌∷◌}
use native.Mathlib.Omega.{arith}
use lib.Dec.{eqb, leb}
use Rattle.messages.specs.Table.{result_limit}
use Rattle.rules.specs.declared.Phase.{Phase}
use Rattle.rules.specs.declared.Phase.TheVariants.{Asked, Sounding, Reported, Awaiting, Ready, Counting, Success}
use Rattle.rules.specs.declared.Record.{Record}
use Rattle.ends.specs.Lists.{only}
use Rattle.rules.specs.Records.{is_held}
use Rattle.rules.specs.Replies.{Reply, parm_cnf, match_cnf, report, confirmation, report_of, is_confirmation}
use Rattle.rules.specs.Ticks.{Ticked, window_ends, tick_phase, replies_of}
use Rattle.records.specs.Timers.{tick_replies, time_of, fired_of}
use Rattle.records.proofs.TimerLaws.{by_time}

-- the result of the first confirmation
abbrev result_in : List Reply → ℕ
result_in [] = 0
result_in (parm_cnf later run ∷ ts) = 0
result_in (match_cnf run a b ∷ ts) = 0
result_in (report run n g vs ∷ ts) = 0
result_in (confirmation k x ∷ ts) = x

-- the replies are confirmed with a result that VALIDATE.CNF can have, or not at all
abbrev Limited : List Reply → Type 0
Limited ts = result_in (only is_confirmation ts) < result_limit

either_limited : (g : Bool) (x y : Ticked) → Limited (replies_of x) → Limited (replies_of y) → Limited (replies_of (cond g x y))
either_limited true x y f h = f
either_limited false x y f h = h

fired_limited : (b : Bool) (r : Record) (p : Phase) → Limited (replies_of (fired_of b r p))
unfolding only replies_of window_ends report_of is_confirmation
fired_limited b r (Asked t) = omega arith
fired_limited b r (Sounding t) = either_limited (eqb r.profiles 0) _ _ (omega arith) (omega arith)
fired_limited b r (Reported t n) = either_limited (eqb n 0) _ _ (omega arith) (omega arith)
fired_limited b r (Awaiting t) = omega arith
fired_limited b r (Ready t) = omega arith
fired_limited true r (Counting t k g) = omega arith
fired_limited false r (Counting t k g) = omega arith
fired_limited b r (Success t) = omega arith

phase_limited : (b : Bool) (e : ℕ) (r : Record) (p : Phase) → Limited (replies_of (tick_phase b e r p))
unfolding only replies_of
phase_limited b e r p = rw (by_time b e r p) (either_limited (leb (time_of p) e) _ _ (fired_limited b r p) (omega arith))

held_limited : (g : Bool) (ts : List Reply) → Limited ts → Limited (cond g ts [])
unfolding only
held_limited true ts h = h
held_limited false ts h = omega arith

-- a tick confirms with a result that VALIDATE.CNF can have
pub result_limited : (b : Bool) (e : ℕ) (r : Record) (k x : ℕ) → only is_confirmation (tick_replies b e r) ≡ confirmation k x ∷ [] → x < result_limit
unfolding tick_replies
result_limited b e r k x q = subst (λ (ts : List Reply). result_in ts < result_limit) q (held_limited (is_held r) _ (phase_limited b e r r.phase))
