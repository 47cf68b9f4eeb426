-- Demand 3 of the car holds: a foreign frame is refused by any car, and so changes nothing.
use Prim.Native.Nat.{ℕ}
use mathlib.Core.Path.{◌≡◌, refl, sym, ap, ◌∙◌, subst}
use mathlib.Core.Bool.{Bool, true, false, ◌&&◌}
use mathlib.Core.List.{List, [], ◌∷◌}
use lib.Dec.{leb}
use borrow.Author.Tests.{not-true}
use Rattle.messages.specs.declared.CarAddress.{CarAddress}
use Rattle.messages.specs.declared.StationAddress.{StationAddress}
use Rattle.messages.specs.Reading.{Checked, no, yes}
use Rattle.ends.specs.Lists.{only}
use Rattle.ends.specs.Outcomes.{Outcome, Done, outcome_of}
use Rattle.ends.proofs.Logic.{clash, OnYes, on_check}
use Rattle.car_rules.specs.declared.Car.{Car}
use Rattle.car_rules.specs.declared.State.{State}
use Rattle.car_rules.specs.declared.State.TheVariants.{Idle, Asking, Confirmed, Sounding, Requesting, Joining, Matched}
use Rattle.car_rules.specs.Calls.{Call, start, frame, tick, link_up, terminate}
use Rattle.car_rules.specs.Constants.{least_output}
use Rattle.car_rules.specs.Frames.{Effect, effect_in, of_our_run, from_chosen, is_expected, state_rule, frame_rule}
use Rattle.car_rules.specs.Received.{StationMessage, parm_cnf, report, match_cnf, untaken, Received, received, is_for_us}
use Rattle.car_rules.specs.Rules.{configured, rule, step, outcome, after, key_query}
use Rattle.car_rules.specs.Demand3.{is_of_matching, is_ours, is_own, is_foreign, Marked, all, rest, OnlyForeign, outcomes, others, Same, Demand3}
use Rattle.ends.proofs.Logic.{on_then}
use Rattle.car_rules.proofs.Refusals.{refused_car}

-- ---- a foreign frame is refused

-- an answer is never given
abbrev Never : Done Car → Type 0
Never d = ⊥

-- a message that demand 3 means, and demand 3 and refusal 11 mean the same stations
abbrev Agrees : State → StationMessage → StationAddress → Effect → Type 0
Agrees st m s x = (is_of_matching m ≡ true) × (is_ours st s ≡ from_chosen st s)

-- where a state takes the message it is so
ours : (st : State) (m : StationMessage) (s : StationAddress) → OnYes (Agrees st m s) (effect_in st m)
unfolding is_of_matching is_ours from_chosen effect_in
ours Idle m s = tt
ours (Asking t n) parm_cnf s = (refl, refl)
ours (Asking t n) (report k vs) s = tt
ours (Asking t n) (match_cnf nid nmk) s = tt
ours (Asking t n) untaken s = tt
ours (Confirmed t) parm_cnf s = (refl, refl)
ours (Confirmed t) (report k vs) s = tt
ours (Confirmed t) (match_cnf nid nmk) s = tt
ours (Confirmed t) untaken s = tt
ours (Sounding k t g) parm_cnf s = (refl, refl)
ours (Sounding k t g) (report n vs) s = (refl, refl)
ours (Sounding k t g) (match_cnf nid nmk) s = tt
ours (Sounding k t g) untaken s = tt
ours (Requesting t n d) parm_cnf s = tt
ours (Requesting t n d) (report k vs) s = (refl, refl)
ours (Requesting t n d) (match_cnf nid nmk) s = (refl, refl)
ours (Requesting t n d) untaken s = tt
ours (Joining t key) m s = tt
ours (Matched key) m s = tt

behind : (a b d e : Bool) → a ≡ true → b ≡ true → a && b && d && e ≡ false → d && e ≡ false
behind true true d e p q h = h
behind true false d e p q h = clash false q refl
behind false b d e p q h = clash false p refl

module _ (c : Car) where
  state_refuses : (y : Received) → is_for_us c.config y ≡ true → is_own c (yes y) ≡ false → OnYes Never (state_rule c y)
  unfolding is_own state_rule
  state_refuses y f h = on_then Never (effect_in c.state y.message) _ (λ x e.
      let agree = subst (OnYes (Agrees c.state y.message y.station)) e (ours c.state y.message y.station) in
      let b = of_our_run c y.run in
      let other : is_expected c y ≡ false = ap (λ (d : Bool). b && d) (sym agree.1) ∙ behind (is_of_matching y.message) (is_for_us c.config y) b _ agree.0 f h in
      on_check Never (is_expected c y) 11 _ (λ t. clash _ t other))

  frame_refuses : (room : ℕ) (x : Checked Received) → is_own c x ≡ false → OnYes Never (frame_rule c room x)
  unfolding frame_rule
  frame_refuses room x h = on_check Never c.config.good 16 _ (λ g. on_check Never (leb least_output room) 15 _ (λ r. on_then Never x _
      (λ y e. on_check Never (is_for_us c.config y) 7 _ (λ f. state_refuses y f (ap (is_own c) (sym e) ∙ h)))))

  call_refuses : (x : Call) → is_foreign c x ≡ true → OnYes Never (rule c x)
  unfolding is_foreign rule
  call_refuses (start run random t room) h = clash false h refl
  call_refuses (frame s room) h = frame_refuses room (received s) (not-true _ h)
  call_refuses (tick t room) h = clash false h refl
  call_refuses link_up h = clash false h refl
  call_refuses terminate h = clash false h refl

refusal : (w : Checked (Done Car)) → OnYes Never w → (n : ℕ) × (outcome_of w ≡ no n)
refusal (no n) h = (n, refl)
refusal (yes d) h = absurd h

pub foreign_refused : (c : Car) (x : Call) → is_foreign c x ≡ true → (n : ℕ) × (outcome c x ≡ no n)
unfolding outcome
foreign_refused c x h = refusal (rule c x) (call_refuses c x h)

-- ---- some of them left out

same_ends : (c : Car) (xs : List Marked) → others c xs ≡ outcomes c (rest xs) → after c (all xs) ≡ after c (rest xs) → Same c xs
same_ends c xs g e = record { gives = g; car = e; key = ap key_query e }

same_next : (c : Car) (x : Call) (b : Bool) (xs : List Marked) → (b ≡ true → is_foreign c x ≡ true) → Same (step c x) xs → Same c (record { call = x; left_out = b } ∷ xs)
unfolding others outcomes only
same_next c x true xs f s =
    let r = foreign_refused c x (f refl) in
    let e : step c x ≡ c = refused_car c x r.0 r.1 in
    same_ends c _ (s.gives ∙ ap (λ (d : Car). outcomes d (rest xs)) e) (s.car ∙ ap (λ (d : Car). after d (rest xs)) e)
same_next c x false xs f s = same_ends c _ (ap (λ (us : List Outcome). outcome c x ∷ us) s.gives) s.car

same : (c : Car) (xs : List Marked) → OnlyForeign c xs → Same c xs
unfolding others outcomes only
same c [] h = same_ends c [] refl refl
same c (x ∷ xs) h = same_next c x.call x.left_out xs h.0 (same (step c x.call) xs h.1)

pub foreign_frames_change_nothing : (a : CarAddress) (r : ℕ) → Demand3 (configured a r)
foreign_frames_change_nothing a r = record { foreign_frames = same (configured a r) }
