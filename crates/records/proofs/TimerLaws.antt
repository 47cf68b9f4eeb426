-- A tick at one record: a phase by its time, and what it sends.
use Prim.Native.Nat.{ℕ, ◌+◌, ◌-◌, ◌≤◌, ◌<◌}
use mathlib.Core.Path.{◌≡◌, refl, sym, ap, subst, ◌∙◌}
use mathlib.Core.Bool.{Bool, true, false, cond}
use mathlib.Core.List.{List, [], ◌∷◌}
use native.Mathlib.Omega.{arith}
use borrow.Author.Tests.{ne_eqb, eqb-false}
use lib.Dec.{eqb, leb}
use lib.ListN.{length}
use Rattle.messages.specs.declared.Edition.{Edition}
use Rattle.rules.specs.declared.Configuration.{Configuration}
use Rattle.rules.specs.declared.Phase.{Phase}
use Rattle.rules.specs.declared.Phase.TheVariants.{Asked, Sounding, Reported, Awaiting, Ready, Counting, Success}
use Rattle.rules.specs.declared.Record.{Record}
use Rattle.rules.specs.Records.{is_held}
use Rattle.ends.specs.Lists.{only}
use Rattle.rules.specs.Replies.{Reply, confirmation, report_of, is_report, is_confirmation, frame_to, frames_to}
use Rattle.rules.specs.Ticks.{Ticked, waits, fires, window_ends, tick_phase, replies_of, tick_frames}
use Rattle.rules.specs.Invariant.{InPhase, GoodRecord}
use Rattle.ends.proofs.Logic.{split, clash}
use Rattle.records.specs.declared.changes.Kept.{Kept}
use Rattle.records.specs.Timers.{any_sent, tick_replies, after_tick, after_held, time_of, with_left, fired_of}

-- ---- a phase by its time

-- a time fires, or the phase is left with what remains
pub by_time : (b : Bool) (e : ℕ) (r : Record) (p : Phase) → tick_phase b e r p ≡ fires e (time_of p) (fired_of b r p) (waits (with_left (time_of p - e) p) r)
unfolding tick_phase
by_time b e r (Asked t) = refl
by_time b e r (Sounding t) = refl
by_time b e r (Reported t n) = refl
by_time b e r (Awaiting t) = refl
by_time b e r (Ready t) = refl
by_time b e r (Counting t k g) = refl
by_time b e r (Success t) = refl

-- what is chosen where a count is not used up
pub some_left : (r : Record) (n : ℕ) (x y : Ticked) (t : Kept) → (n ≡ 0 → ⊥) → t ≡ after_held r y → t ≡ after_held r (cond (eqb n 0) x y)
some_left r n x y t e q = q ∙ ap (λ (b : Bool). after_held r (cond b x y)) (sym (ne_eqb n 0 e))

-- ---- what is sent

-- what a tick sends is the record's report, one confirmation, or nothing
pub record Sends (r : Record) (ts : List Reply) : Type 0 where
  pub report : only is_report ts ≡ cond (any_sent (only is_report ts)) (report_of r ∷ []) []
  pub one : length (only is_report ts) + length (only is_confirmation ts) ≤ 1

sends_nothing : (r : Record) → Sends r []
unfolding only
sends_nothing r = record { report = refl; one = omega arith }

sends_report : (r : Record) → Sends r (report_of r ∷ [])
unfolding only report_of is_report is_confirmation
sends_report r = record { report = refl; one = omega arith }

sends_confirmation : (r : Record) (k x : ℕ) → Sends r (confirmation k x ∷ [])
unfolding only is_report is_confirmation
sends_confirmation r k x = record { report = refl; one = omega arith }

-- one of two, by a test
sends_either : (r : Record) (g : Bool) (x y : Ticked) → Sends r (replies_of x) → Sends r (replies_of y) → Sends r (replies_of (cond g x y))
sends_either r true x y f h = f
sends_either r false x y f h = h

-- the end of a window
sends_window : (g : Bool) (k : ℕ) (r : Record) → Sends r (replies_of (window_ends g k r))
unfolding window_ends replies_of
sends_window true k r = sends_confirmation r k _
sends_window false k r = sends_confirmation r 0 _

-- each phase: it fires, or waits with nothing sent
sends_fired : (b : Bool) (r : Record) (p : Phase) → Sends r (replies_of (fired_of b r p))
unfolding replies_of
sends_fired b r (Asked t) = sends_nothing r
sends_fired b r (Sounding t) = sends_either r (eqb r.profiles 0) _ _ (sends_nothing r) (sends_report r)
sends_fired b r (Reported t n) = sends_either r (eqb n 0) _ _ (sends_nothing r) (sends_report r)
sends_fired b r (Awaiting t) = sends_nothing r
sends_fired b r (Ready t) = sends_nothing r
sends_fired b r (Counting t k g) = sends_window b k r
sends_fired b r (Success t) = sends_nothing r

sends_phase : (b : Bool) (e : ℕ) (r : Record) (p : Phase) → Sends r (replies_of (tick_phase b e r p))
unfolding replies_of
sends_phase b e r p = subst (λ (x : Ticked). Sends r (replies_of x)) (sym (by_time b e r p)) (sends_either r (leb (time_of p) e) _ _ (sends_fired b r p) (sends_nothing r))

-- held or free
pub sends_tick : (b : Bool) (e : ℕ) (r : Record) → Sends r (tick_replies b e r)
unfolding tick_replies
sends_tick b e r = split (is_held r) (λ h. rw h (sends_phase b e r r.phase)) (λ h. rw h (sends_nothing r))

-- the frames of one sort are those of its replies
pub frames_sent : (p : Reply → Bool) (o : Configuration) (b : Bool) (e : ℕ) (r : Record) → tick_frames p o b e r ≡ frames_to o r.car (only p (tick_replies b e r))
unfolding tick_frames tick_replies only
frames_sent p o b e r = split (is_held r) (λ h. rw h) (λ h. rw h)

-- the report's frame or none
one_frame : (o : Configuration) (r : Record) (g : Bool) → frames_to o r.car (cond g (report_of r ∷ []) []) ≡ cond g (frame_to o r.car (report_of r) ∷ []) []
one_frame o r true = refl
one_frame o r false = refl

-- the report of a record, by whether it reports
pub reporting : (o : Configuration) (b : Bool) (e : ℕ) (r : Record) → tick_frames is_report o b e r ≡ cond (after_tick b e r).reports (frame_to o r.car (report_of r) ∷ []) []
unfolding after_tick
reporting o b e r = frames_sent is_report o b e r ∙ ap (frames_to o r.car) (sends_tick b e r).report ∙ one_frame o r (any_sent (only is_report (tick_replies b e r)))

-- a record that sends something is held
pub sending_held : (p : Reply → Bool) (b : Bool) (e : ℕ) (r : Record) → any_sent (only p (tick_replies b e r)) ≡ true → is_held r ≡ true
unfolding tick_replies only
sending_held p b e r q = split (is_held r) (λ h. h) (λ h. clash (any_sent (only p (tick_replies b e r))) q (rw h))

-- a record that reports counts some profile
some_in : (ed : Edition) (b : Bool) (e : ℕ) (r : Record) (p : Phase) → InPhase ed r.later p r.profiles → any_sent (only is_report (replies_of (tick_phase b e r p))) ≡ true → 0 < r.profiles
unfolding tick_phase replies_of only
some_in ed b e r (Asked t) h q = clash (any_sent (only is_report (replies_of (tick_phase b e r (Asked t))))) q (split (leb t e) (λ a. rw a) (λ a. rw a))
some_in ed b e r (Sounding t) h q = split (eqb r.profiles 0)
    (λ z. clash (any_sent (only is_report (replies_of (tick_phase b e r (Sounding t))))) q (split (leb t e) (λ a. rw (a, z)) (λ a. rw a)))
    (λ z. omega (arith, eqb-false r.profiles 0 z))
some_in ed b e r (Reported t n) h q = h.1.1.0
some_in ed b e r (Awaiting t) h q = h.1.0
some_in ed b e r (Ready t) h q = h.1.0
some_in ed b e r (Counting t k g) h q = h.1.1.0
some_in ed b e r (Success t) h q = h.1.0

pub reporting_some : (ed : Edition) (b : Bool) (e : ℕ) (r : Record) → GoodRecord ed r → any_sent (only is_report (tick_replies b e r)) ≡ true → 0 < r.profiles
unfolding tick_replies
reporting_some ed b e r g q =
    let held : is_held r ≡ true = sending_held is_report b e r q in
    some_in ed b e r r.phase g.phase (sym (ap (λ (x : Bool). any_sent (only is_report (cond x (replies_of (tick_phase b e r r.phase)) []))) held) ∙ q)
