-- The head's words and the whole car: a car's own words are that car.
use Prim.Native.Nat.{ℕ, ◌^◌, ◌≤◌, ◌<◌, ◌%◌, min}
use mathlib.Core.Path.{◌≡◌, refl, ap, ap₂, ◌∙◌}
use mathlib.Core.Bool.{true}
use mathlib.Core.List.{List}
use native.Mathlib.Omega.{arith}
use borrow.Author.Tests.{le-leb}
use lib.ListN.{length, get_or}
use lib.Seq.{sets}
use Rattle.ends.proofs.RunLaws.{get_d_front}
use Rattle.car_rules.specs.declared.Car.{Car}
use Rattle.car_rules.specs.declared.Configuration.{Configuration}
use Rattle.car_rules.specs.declared.State.{State}
use Rattle.car_rules.specs.declared.State.TheVariants.{Idle, Asking, Confirmed, Sounding, Requesting, Joining, Matched}
use Rattle.car_rules.specs.Constants.{frame_count, most_reference}
use Rattle.car_rules.specs.Invariant.{InState, GoodConfiguration, Invariant}
use Rattle.car_rules.specs.Rules.{is_good}
use Rattle.car_words.specs.Words.{head_count, reports_in, count_in, config_of, requesting_of, state_by, state_of, car_of}
use Rattle.car_words.specs.Written.{SameHead, ReportsStored, state_number, state_time, state_count, state_next, state_key, head_of}
use Rattle.ends.proofs.WordLaws.{flag_and}
use Rattle.car_words.proofs.ReportWords.{length_reports}
use Rattle.car_words.proofs.CountLaws.{count_back}

-- ---- what the head says

module _ (v w : List ℕ) (e : SameHead v w) where
  config_same : config_of v ≡ config_of w
  unfolding config_of
  config_same = rw (e 0 (omega arith), e 1 (omega arith), e 2 (omega arith))

  state_same : state_of v ≡ state_of w
  state_same = rw (e 3 (omega arith), e 4 (omega arith), e 5 (omega arith), e 6 (omega arith), e 7 (omega arith), e 8 (omega arith), e 9 (omega arith), e 10 (omega arith))

-- ---- a car's own words

good_back : (o : Configuration) → GoodConfiguration o → o.good ≡ true → is_good o.address o.reference ≡ true
good_back o g h = rw (g.address h, le-leb o.reference most_reference (g.reference h))

config_back : (x : Car) → GoodConfiguration x.config → x.config.reference < 2 ^ 32 → config_of (head_of x) ≡ x.config
unfolding config_of head_of
config_back x g h =
    let o = x.config in
    let r : o.reference % 2 ^ 32 ≡ o.reference = omega arith in
    rw r (λ i. record { good = flag_and o.good (is_good o.address o.reference) (good_back o g) i; address = o.address; reference = o.reference })

state_back : (st : State) → InState st → state_by (state_number st) (state_time st) (state_count st) (state_next st) (state_key st) ≡ st
unfolding state_by requesting_of
state_back Idle h = refl
state_back (Asking t n) h = ap₂ Asking (omega arith) (omega arith)
state_back (Confirmed t) h = ap Confirmed (omega arith)
state_back (Sounding k t g) h =
    let sent : min frame_count k ≡ k = omega arith in
    rw sent (ap₂ (Sounding k) (omega arith) (omega arith))
state_back (Requesting t n s) h = rw h.1.1 (ap₂ (λ (u m : ℕ). Requesting u m s) (omega arith) (omega arith))
state_back (Joining t key) h = ap (λ (u : ℕ). Joining u key) (omega arith)
state_back (Matched key) h = refl

-- a car's head stored, and then its reports
pub packed : (x : Car) (w v u : List ℕ) → Invariant x → x.config.reference < 2 ^ 32 → x.clock < 2 ^ 32 → head_count ≤ length w
    → v ≡ sets w 0 (head_of x) → ReportsStored x.reports v u → car_of u ≡ x
unfolding car_of head_of
packed x w v u g h k b e s =
    let same : SameHead u (head_of x) = λ j a. s.head j a ∙ ap (λ (m : List ℕ). get_or m j 0) e ∙ get_d_front (head_of x) w j 0 b a in
    let config : config_of u ≡ x.config = config_same u (head_of x) same ∙ config_back x g.config h in
    let state : state_of u ≡ x.state = state_same u (head_of x) same ∙ state_back x.state g.state in
    let clock : get_or u 11 0 % 2 ^ 32 ≡ x.clock = rw (same 11 (omega arith)) (omega arith) in
    let run : get_or u 12 0 ≡ x.run.0 = same 12 (omega arith) in
    let first : get_or u 13 0 ≡ x.random.0 = same 13 (omega arith) in
    let second : get_or u 14 0 ≡ x.random.1 = same 14 (omega arith) in
    let few : x.count ≤ length x.reports = omega (arith, g.count, length_reports u, ap length s.reports) in
    let count : count_in (get_or u 15 0) (reports_in u) ≡ x.count = ap₂ count_in (same 15 (omega arith)) s.reports ∙ count_back x.count x.reports few g.reports in
    λ i. record { config = config i; state = state i; clock = clock i; run = record { 0 = run i }; random = record { 0 = first i; 1 = second i }; reports = s.reports i; count = count i }
