-- The longest that a record may still be held, and how each rule at one record lowers it. HoldTimeHolds looks at phases nowhere else.
use Prim.Native.Nat.{ℕ, zero, suc, ◌+◌, ◌*◌, ◌-◌, ◌<◌, ◌≤◌}
use mathlib.Core.Path.{◌≡◌, refl, ◌∙◌, ap}
use mathlib.Core.Bool.{Bool, true, false}
use mathlib.Core.List.{List, ◌∷◌, []}
use native.Mathlib.Omega.{arith}
use native.Mathlib.Nat.{suc-mul}
use lib.Dec.{eqb, leb}
use borrow.Author.Tests.{leb-false, eqb-true, eqb-false}
use Rattle.messages.specs.declared.CarAddress.{CarAddress}
use Rattle.messages.specs.declared.Edition.{Edition}
use Rattle.messages.specs.declared.Edition.TheVariants.{Iso, Sae}
use Rattle.messages.specs.declared.RunId.{RunId}
use Rattle.rules.specs.declared.Configuration.{Configuration}
use Rattle.rules.specs.declared.Phase.{Phase}
use Rattle.rules.specs.declared.Phase.TheVariants.{Asked, Sounding, Reported, Awaiting, Ready, Counting, Success}
use Rattle.rules.specs.declared.Record.{Record}
use Rattle.rules.specs.declared.Turn.{Turn}
use Rattle.rules.specs.declared.Turn.TheVariants.{Begins, Ends, Stays, Breaks}
use Rattle.ends.specs.Constants.{retry_count}
use Rattle.rules.specs.Constants.{sounding_time, reported_time, awaiting_time, window_step, window_count, success_time, ready_result}
use Rattle.rules.specs.Records.{fresh, in_phase, with_heard, counted}
use Rattle.rules.specs.Replies.{Reply, confirmation, frames_to}
use Rattle.rules.specs.Validation.{counts, toggled_phase}
use Rattle.rules.specs.Frames.{Kept, Place, own_place, free_place, is_later, start_rule, sound_rule, profile_rule, rsp_rule, answered, first_rule, second_rule}
use Rattle.rules.specs.Ticks.{Ticked, now_free, still_held, window_ends, tick_phase}
use Rattle.rules.specs.Demand3.{any_result}
use Rattle.rules.specs.HoldTime.{added_hold, longest_hold}
use Rattle.ends.proofs.Logic.{split, clash, OnYes, on_cond}
use Rattle.rules.proofs.PhaseLaws.{OfKept, on_start, on_sound, on_profile, on_rsp, on_first, on_second}
use Rattle.rules.proofs.TryLaws.{sounding_lasts}
use Rattle.rules.proofs.ValidationLaws.{tells_ready}

-- ---- one record

-- a phase's own time
abbrev time_in : Phase → ℕ
time_in (Asked t) = t
time_in (Sounding t) = t
time_in (Reported t n) = t
time_in (Awaiting t) = t
time_in (Ready t) = t
time_in (Counting t k b) = t
time_in (Success t) = t

-- a record whose time has not run out
abbrev pub Live : Record → Type 0
Live r = 0 < time_in r.phase

-- in an edition, by whether the car may yet be made ready, with ticks of at most e
module _ (ed : Edition) (v : Bool) (e : ℕ) where
  -- the longest left in each phase: its time, e where it may fire late, and the longest of what follows
  abbrev success_left : ℕ → ℕ
  success_left t = t + e

  abbrev counting_left : ℕ → ℕ
  counting_left t = t + e + success_left success_time

  abbrev ready_left : ℕ → ℕ
  ready_left t = t + counting_left (window_step * window_count)

  abbrev awaiting_left : ℕ → ℕ
  awaiting_left t = t + e + added_hold v e

  abbrev reported_left : ℕ → ℕ → ℕ
  reported_left t n = t + n * (reported_time + e) + awaiting_left awaiting_time

  abbrev sounding_left : ℕ → ℕ
  sounding_left t = t + e + reported_left reported_time retry_count

  abbrev asked_left : Bool → ℕ → ℕ
  asked_left later t = t + sounding_left (sounding_time ed later)

  -- in a first or a later try
  abbrev phase_left : Bool → Phase → ℕ
  phase_left later (Asked t) = asked_left later t
  phase_left later (Sounding t) = sounding_left t
  phase_left later (Reported t n) = reported_left t n
  phase_left later (Awaiting t) = awaiting_left t
  phase_left later (Ready t) = ready_left t
  phase_left later (Counting t k b) = counting_left t
  phase_left later (Success t) = success_left t

  abbrev pub time_left : Record → ℕ
  time_left r = phase_left r.later r.phase

  -- from one to the other in d milliseconds
  abbrev pub Lower : ℕ → Record → Record → Type 0
  Lower d r q = Live q × (d + time_left q ≤ time_left r)

  more_in : (later : Bool) (p : Phase) → 0 < time_in p → e < phase_left later p
  more_in later (Asked t) h = omega arith
  more_in later (Sounding t) h = omega arith
  more_in later (Reported t n) h = omega arith
  more_in later (Awaiting t) h = omega arith
  more_in later (Ready t) h = omega arith
  more_in later (Counting t k b) h = omega arith
  more_in later (Success t) h = omega arith

  -- a held record's time may yet fire late
  pub more_left : (r : Record) → Live r → e < time_left r
  more_left r h = more_in r.later r.phase h

  pub same_left : (r : Record) → Live r → Lower 0 r r
  same_left r h = (h, omega arith)

  -- ---- a request

  fresh_left : (later : Bool) (c : CarAddress) (run : RunId) → Live (fresh later c run) × (time_left (fresh later c run) ≤ longest_hold ed later v e)
  unfolding fresh
  fresh_left later c run = (omega arith, omega arith)

-- Sounding's time is that of the try
abbrev pub try_at : Place → Bool
try_at own_place = true
try_at free_place = false

sounding_try : (ed : Edition) (p : Place) → sounding_time ed (is_later ed p) ≡ sounding_time ed (try_at p)
sounding_try Iso p = refl
sounding_try Sae own_place = refl
sounding_try Sae free_place = refl

-- a record taken or restarted
pub request_left : (ed : Edition) (v : Bool) (e : ℕ) (p : Place) (c : CarAddress) (run : RunId) → Live (fresh (is_later ed p) c run) × (time_left ed v e (fresh (is_later ed p) c run) ≤ longest_hold ed (try_at p) v e)
request_left ed v e p c run = let h = fresh_left ed v e (is_later ed p) c run in (h.0, omega (arith, h.1, sounding_try ed p))

-- ---- a frame at its car's record

-- replies to car c that, unless it may be made ready, do not answer 01
abbrev pub Unready : Bool → Configuration → CarAddress → List Reply → Type 0
Unready v o c ts = v ≡ false → any_result ready_result (frames_to o c ts) ≡ false

module _ (ed : Edition) (v : Bool) (e : ℕ) (r : Record) (h : Live r) where
  abbrev Left : Record → Type 0
  Left = Lower ed v e 0 r

  -- in the phase p
  left_in : (p : Phase) → r.phase ≡ p → time_left ed v e r ≡ phase_left ed v e r.later p
  left_in p q = ap (phase_left ed v e r.later) q

  pub start_lower : (k : ℕ) → OnYes (OfKept Left) (start_rule ed k r r.phase)
  unfolding in_phase
  start_lower k = on_start (OfKept Left) ed r k r.phase
      (λ t q. (sounding_lasts ed r.later, omega (arith, left_in (Asked t) q)))
      (λ t q. same_left ed v e r h)

  pub sound_lower : (k : ℕ) → OnYes (OfKept Left) (sound_rule ed k r r.phase)
  unfolding with_heard
  sound_lower k = on_sound (OfKept Left) ed r k r.phase (λ a b. same_left ed v e r h)

  pub profile_lower : (g : ℕ) (vs : List ℕ) → OnYes (OfKept Left) (profile_rule ed g vs r r.phase)
  unfolding counted in_phase
  profile_lower g vs = on_profile (OfKept Left) ed r g vs r.phase
      (λ t q k a. (omega arith, omega (arith, left_in (Sounding t) q)))
      (λ t q k a. same_left ed v e r h)

  pub rsp_lower : OnYes (OfKept Left) (rsp_rule r r.phase)
  unfolding in_phase
  rsp_lower = on_rsp (OfKept Left) ed r r.phase (λ t n q. (omega arith, omega (arith, left_in (Reported t n) q)))

  -- the record is made ready only where the car may be
  pub first_lower : (o : Configuration) (c : CarAddress) (result : ℕ) → OnYes (λ (k : Kept). Unready v o c k.replies → Left k.kept) (first_rule result r r.phase)
  unfolding answered in_phase
  first_lower o c result = on_first (λ (k : Kept). Unready v o c k.replies → Left k.kept) ed r result r.phase
      (λ t q n. on_cond Left (eqb result ready_result) _ _
      (λ a. split v
      (λ b. let z : added_hold v e ≡ added_hold true e = ap (λ (x : Bool). added_hold x e) b in (omega arith, omega (arith, left_in (Awaiting t) q)))
      (λ b. clash (any_result ready_result (frames_to o c (confirmation 0 result ∷ []))) (ap (λ (k : ℕ). any_result ready_result (frames_to o c (confirmation 0 k ∷ []))) (eqb-true result ready_result a) ∙ tells_ready o c) (n b)))
      (λ a. (omega (arith, h), omega (arith, left_in (Awaiting t) q))))

  pub second_lower : (timer : ℕ) → timer < window_count → OnYes (OfKept Left) (second_rule timer r r.phase)
  unfolding in_phase
  second_lower timer k = on_second (OfKept Left) ed r timer r.phase (λ t q. (omega arith, omega (arith, left_in (Ready t) q)))

-- ---- a tick of d milliseconds, and a pilot change, at a held record

-- one retry less
one_less : (n x : ℕ) → (n ≡ 0 → ⊥) → n * x ≡ (n - 1) * x + x
one_less zero x h = absurd (h refl)
one_less (suc n) x h = rw (suc-mul, pred_suc n)
  where
    pred_suc : (k : ℕ) → suc k - 1 ≡ k
    pred_suc k = omega arith

module _ (ed : Edition) (v : Bool) (e : ℕ) where
  -- from the phase p of a first or a later try to what the tick leaves
  abbrev Ticks : ℕ → Bool → Phase → Ticked → Type 0
  Ticks d later p (now_free ts) = d < phase_left ed v e later p
  Ticks d later p (still_held n ts) = Live n × (d + time_left ed v e n ≤ phase_left ed v e later p)

  abbrev pub TickLower : ℕ → Record → Ticked → Type 0
  TickLower d r x = Ticks d r.later r.phase x

  module _ (d : ℕ) (r : Record) (k : d ≤ e) where
    -- a window that is over
    window_from : (g : Bool) (t n : ℕ) (b : Bool) → 0 < t → Ticks d r.later (Counting t n b) (window_ends g n r)
    unfolding window_ends in_phase
    window_from true t n b h = (omega arith, omega arith)
    window_from false t n b h = omega arith

    tick_from : (g : Bool) (p : Phase) → 0 < time_in p → Ticks d r.later p (tick_phase g d r p)
    unfolding tick_phase in_phase
    tick_from g (Asked t) h = split (leb t d)
        (λ a. rw a (omega arith))
        (λ a. let z = leb-false t d a in rw a (omega arith, omega arith))
    tick_from g (Sounding t) h = split (leb t d)
        (λ a. rw a (split (eqb r.profiles 0) (λ b. rw b (omega arith)) (λ b. rw b (omega arith, omega arith))))
        (λ a. let z = leb-false t d a in rw a (omega arith, omega arith))
    tick_from g (Reported t n) h = split (leb t d)
        (λ a. rw a (split (eqb n 0) (λ b. rw b (omega arith)) (λ b. let y = one_less n (reported_time + e) (eqb-false n 0 b) in rw b (omega arith, omega arith))))
        (λ a. let z = leb-false t d a in rw a (omega arith, omega arith))
    tick_from g (Awaiting t) h = split (leb t d)
        (λ a. rw a (omega arith))
        (λ a. let z = leb-false t d a in rw a (omega arith, omega arith))
    tick_from g (Ready t) h = split (leb t d)
        (λ a. rw a (omega arith))
        (λ a. let z = leb-false t d a in rw a (omega arith, omega arith))
    tick_from g (Counting t n b) h = split (leb t d)
        (λ a. rw a (window_from g t n b h))
        (λ a. let z = leb-false t d a in rw a (omega arith, omega arith))
    tick_from g (Success t) h = split (leb t d)
        (λ a. rw a (omega arith))
        (λ a. let z = leb-false t d a in rw a (omega arith, omega arith))

    pub tick_lower : (g : Bool) → Live r → TickLower d r (tick_phase g d r r.phase)
    tick_lower g h = tick_from g r.phase h

  -- a pilot change leaves every time as it is
  abbrev Turned : Bool → Phase → Phase → Type 0
  Turned later p q = (0 < time_in q) × (0 + phase_left ed v e later q ≤ phase_left ed v e later p)

  counts_from : (later : Bool) (w : Turn) (t k : ℕ) (b : Bool) → 0 < t → Turned later (Counting t k b) (counts w t k b)
  unfolding counts
  counts_from later Begins t k b h = (h, omega arith)
  counts_from later Ends t k b h = (h, omega arith)
  counts_from later Stays t k b h = (h, omega arith)
  counts_from later Breaks t k b h = (h, omega arith)

  turn_from : (later : Bool) (w : Turn) (p : Phase) → 0 < time_in p → Turned later p (toggled_phase w p)
  unfolding toggled_phase
  turn_from later w (Asked t) h = (h, omega arith)
  turn_from later w (Sounding t) h = (h, omega arith)
  turn_from later w (Reported t n) h = (h, omega arith)
  turn_from later w (Awaiting t) h = (h, omega arith)
  turn_from later w (Ready t) h = (h, omega arith)
  turn_from later w (Counting t k b) h = counts_from later w t k b h
  turn_from later w (Success t) h = (h, omega arith)

  pub turn_lower : (w : Turn) (r : Record) → Live r → Lower ed v e 0 r (in_phase (toggled_phase w r.phase) r)
  unfolding in_phase
  turn_lower w r h = turn_from r.later w r.phase h
