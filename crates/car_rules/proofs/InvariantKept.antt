-- The invariant: configuring gives it, and every call keeps it.
use Prim.Native.Nat.{ℕ, zero, suc, ◌-◌, ◌<◌, ◌≤◌}
use mathlib.Core.Path.{◌≡◌, subst}
use mathlib.Core.Bool.{true, false, not, cond}
use mathlib.Core.List.{List, [], ◌∷◌}
use native.Mathlib.Numerals.{add-one}
use native.Mathlib.Omega.{arith}
use lib.Dec.{eqb, leb, ltb}
use lib.ListN.{take, set}
use borrow.Author.Tests.{ltb-true, leb-true, leb-false}
use Rattle.messages.specs.declared.CarAddress.{CarAddress}
use Rattle.messages.specs.declared.Random.{Random}
use Rattle.messages.specs.declared.RunId.{RunId}
use Rattle.messages.specs.declared.StationAddress.{StationAddress}
use Rattle.messages.specs.Table.{is_unicast}
use Rattle.messages.specs.Reading.{Checked, no, yes}
use Rattle.messages.proofs.LayoutLaws.{and_left, and_right}
use Rattle.ends.specs.declared.Indication.{Indication}
use Rattle.ends.specs.declared.Indication.TheVariants.{Found, PotentiallyFound}
use Rattle.ends.specs.Clock.{tick_time}
use Rattle.ends.specs.Constants.{retry_count}
use Rattle.ends.specs.Lists.{All}
use Rattle.ends.specs.Outcomes.{Done, next}
use Rattle.ends.proofs.Logic.{OnYes, on_check}
use Rattle.car_rules.specs.declared.Car.{Car}
use Rattle.car_rules.specs.declared.Report.{Report}
use Rattle.car_rules.specs.declared.State.{State}
use Rattle.car_rules.specs.declared.State.TheVariants.{Idle, Asking, Confirmed, Sounding, Requesting, Joining, Matched}
use Rattle.car_rules.specs.Calls.{Call, start, frame, tick, link_up, terminate}
use Rattle.car_rules.specs.Cars.{reports_of, in_state, at_reading, begun, kept}
use Rattle.car_rules.specs.Choice.{least, limit, requests, decided, chosen_of, choice}
use Rattle.car_rules.specs.Constants.{direct_limit, indirect_limit, spacing, gather_time, frame_count, station_count, most_reference, least_output}
use Rattle.car_rules.specs.Frames.{Effect, confirms, stays, gathers, repeats, joins, effect_in, is_expected, has_reported, gathered, effect_rule, state_rule, frame_rule}
use Rattle.car_rules.specs.Received.{Received, received, is_for_us}
use Rattle.car_rules.specs.Ticks.{asks_again, requests_again, next_frame, tick_done}
use Rattle.car_rules.specs.Rules.{configured, is_idle, link_rule, rule, step}
use Rattle.car_rules.specs.Invariant.{Within, InState, UnicastReport, Invariant}
use Rattle.ends.proofs.Logic.{on_cond, on_then}
use Rattle.car_rules.proofs.ReceivedLaws.{FromUnicast, received_unicast}

-- what an accepted call leaves
abbrev Keeps : Done Car → Type 0
Keeps d = Invariant d.after

-- ---- reports

all_kept : (rs : List Report) (n : ℕ) (r : Report) → UnicastReport r → All UnicastReport (take n rs) → All UnicastReport (take (suc n) (set rs n r))
all_kept [] n r u h = tt
all_kept (q ∷ rs) zero r u h = (u, tt)
all_kept (q ∷ rs) (suc n) r u h = (h.0, all_kept rs n r u h.1)

pub least_unicast : (r : Report) (rs : List Report) → UnicastReport r → All UnicastReport rs → UnicastReport (least r rs)
unfolding least
least_unicast r [] u h = u
least_unicast r (q ∷ rs) u h = least_unicast (cond (ltb q.total r.total) q r) rs (on_cond UnicastReport (ltb q.total r.total) q r (λ t. h.0) (λ t. u)) h.1

-- ---- what is left of a time that does not fire

left : (e t most : ℕ) → Within t most → leb t e ≡ false → Within (t - e) most
left e t most w h = let k : e < t = leb-false t e h in (omega arith, omega arith)

module _ (c : Car) (i : Invariant c) where
  -- ---- the parts of a car

  state_keeps : (st : State) → InState st → Invariant (in_state st c)
  state_keeps st h = record { config = i.config; state = h; count = i.count; reports = i.reports }

  reading_keeps : (t : ℕ) → Invariant (at_reading t c)
  reading_keeps t = record { config = i.config; state = i.state; count = i.count; reports = i.reports }

  begun_keeps : (run : RunId) (random : Random) (t : ℕ) → Invariant (begun run random t c)
  begun_keeps run random t = record { config = i.config; state = i.state; count = omega arith; reports = tt }

  report_keeps : (r : Report) → UnicastReport r → c.count < station_count → Invariant (kept r c)
  report_keeps r u h = record { config = i.config; state = i.state; count = omega arith; reports = rw add-one (all_kept c.reports c.count r u i.reports) }

  -- ---- the choice

  requests_keeps : (s : StationAddress) (x : Indication) → is_unicast s.0 ≡ true → Keeps (requests c s x)
  requests_keeps s x u = state_keeps _ ((omega arith, omega arith), (omega arith, u))

  decided_keeps : (r : Report) → UnicastReport r → Keeps (decided c r)
  decided_keeps r u =
      on_cond Keeps (ltb r.total (limit direct_limit c.config.reference)) _ _
      (λ b. requests_keeps r.station Found u)
      (λ b. on_cond Keeps (ltb r.total (limit indirect_limit c.config.reference)) _ _ (λ d. requests_keeps r.station PotentiallyFound u) (λ d. state_keeps Idle tt))

  chosen_keeps : (rs : List Report) → All UnicastReport rs → Keeps (chosen_of c rs)
  chosen_keeps [] h = state_keeps Idle tt
  chosen_keeps (r ∷ rs) h = decided_keeps (least r rs) (least_unicast r rs h.0 h.1)

  -- ---- ticks

  asks_keeps : (n : ℕ) → n ≤ retry_count → Keeps (asks_again c n)
  asks_keeps zero h = state_keeps Idle tt
  asks_keeps (suc n) h = state_keeps _ ((omega arith, omega arith), omega arith)

  requests_again_keeps : (s : StationAddress) (n : ℕ) → n ≤ retry_count → is_unicast s.0 ≡ true → Keeps (requests_again c s n)
  requests_again_keeps s zero h u = state_keeps Idle tt
  requests_again_keeps s (suc n) h u = state_keeps _ ((omega arith, omega arith), (omega arith, u))

  next_keeps : (e k t g : ℕ) → k ≤ frame_count → Within t spacing → Within g gather_time → Keeps (next_frame e c k t g)
  next_keeps e k t g h v w =
      on_cond Keeps (ltb k frame_count) _ _
      (λ b. on_cond Keeps (leb t e) _ _
      (λ d. state_keeps _ (omega (arith, ltb-true k frame_count b), ((omega arith, omega arith), w)))
      (λ d. state_keeps _ (h, (left e t spacing v d, w))))
      (λ b. state_keeps _ (h, (v, w)))

  tick_keeps : (e : ℕ) (st : State) → InState st → Keeps (tick_done e c st)
  unfolding tick_done choice
  tick_keeps e Idle h = i
  tick_keeps e (Asking t n) h = on_cond Keeps (leb t e) _ _ (λ b. asks_keeps n h.1) (λ b. state_keeps _ (left e t _ h.0 b, h.1))
  tick_keeps e (Confirmed t) h = on_cond Keeps (leb t e) _ _ (λ b. state_keeps _ (omega arith, ((omega arith, omega arith), (omega arith, omega arith)))) (λ b. state_keeps _ (left e t _ h b))
  tick_keeps e (Sounding k t g) h = on_cond Keeps (leb g e) _ _ (λ b. chosen_keeps (reports_of c) i.reports) (λ b. next_keeps e k t (g - e) h.0 h.1.0 (left e g _ h.1.1 b))
  tick_keeps e (Requesting t n s) h = on_cond Keeps (leb t e) _ _ (λ b. requests_again_keeps s n h.1.0 h.1.1) (λ b. state_keeps _ (left e t _ h.0 b, h.1))
  tick_keeps e (Joining t key) h = on_cond Keeps (leb t e) _ _ (λ b. state_keeps Idle tt) (λ b. state_keeps _ (left e t _ h b))
  tick_keeps e (Matched key) h = i

  -- ---- frames

  gathered_keeps : (s : StationAddress) (vs : List ℕ) → is_unicast s.0 ≡ true → OnYes Keeps (gathered c s vs)
  gathered_keeps s vs u =
      on_cond (OnYes Keeps) (has_reported s (reports_of c)) _ _ (λ b. i)
      (λ b. on_check Keeps (ltb c.count station_count) 18 _ (λ d. report_keeps _ u (ltb-true c.count station_count d)))

  effect_keeps : (s : StationAddress) (x : Effect) → is_unicast s.0 ≡ true → OnYes Keeps (effect_rule c s x)
  unfolding effect_rule
  effect_keeps s confirms u = state_keeps _ (omega arith, omega arith)
  effect_keeps s stays u = i
  effect_keeps s (gathers k vs) u = on_check Keeps (not (eqb k 0)) 20 _ (λ b. gathered_keeps s vs u)
  effect_keeps s (repeats k) u = on_check Keeps (not (eqb k 0)) 20 _ (λ b. i)
  effect_keeps s (joins nid nmk) u = state_keeps _ (omega arith, omega arith)

  received_keeps : (y : Received) → FromUnicast y → OnYes Keeps (state_rule c y)
  unfolding state_rule
  received_keeps y u = on_then Keeps (effect_in c.state y.message) _
      (λ x e. on_check Keeps (is_expected c y) 11 _ (λ b. effect_keeps y.station x u))

  frame_keeps : (room : ℕ) (x : Checked Received) → OnYes FromUnicast x → OnYes Keeps (frame_rule c room x)
  unfolding frame_rule
  frame_keeps room x u = on_check Keeps c.config.good 16 _ (λ g. on_check Keeps (leb least_output room) 15 _ (λ r. on_then Keeps x _
      (λ y e. on_check Keeps (is_for_us c.config y) 7 _ (λ f. received_keeps y (subst (OnYes FromUnicast) e u)))))

  -- ---- the calls

  link_keeps : (st : State) → OnYes Keeps (link_rule c st)
  unfolding link_rule
  link_keeps Idle = tt
  link_keeps (Asking t n) = tt
  link_keeps (Confirmed t) = tt
  link_keeps (Sounding k t g) = tt
  link_keeps (Requesting t n s) = tt
  link_keeps (Joining t key) = state_keeps (Matched key) tt
  link_keeps (Matched key) = tt

rule_keeps : (c : Car) (x : Call) → Invariant c → OnYes Keeps (rule c x)
unfolding rule
rule_keeps c (start run random t room) i = on_check Keeps c.config.good 16 _ (λ g. on_check Keeps (leb least_output room) 15 _ (λ r. on_check Keeps (is_idle c.state) 8 _
    (λ h. state_keeps (begun run random t c) (begun_keeps c i run random t) _ ((omega arith, omega arith), omega arith))))
rule_keeps c (frame s room) i = frame_keeps c i room (received s) (received_unicast s)
rule_keeps c (tick t room) i = on_then Keeps (tick_time c.config.good least_output room t c.clock) _ (λ e h. tick_keeps (at_reading t c) (reading_keeps c i t) e c.state i.state)
rule_keeps c link_up i = on_check Keeps c.config.good 16 _ (λ g. link_keeps c i c.state)
rule_keeps c terminate i = on_check Keeps c.config.good 16 _ (λ g. state_keeps c i Idle tt)

keeps_next : (c : Car) (w : Checked (Done Car)) → Invariant c → OnYes Keeps w → Invariant (next c w)
keeps_next c (no n) i h = i
keeps_next c (yes d) i h = h

pub step_keeps : (c : Car) (x : Call) → Invariant c → Invariant (step c x)
unfolding step
step_keeps c x i = keeps_next c (rule c x) i (rule_keeps c x i)

-- ---- configuring

pub configured_keeps : (a : CarAddress) (r : ℕ) → Invariant (configured a r)
unfolding configured
configured_keeps a r =
    let x = is_unicast a.0 in
    let y = leb r most_reference in
    record { config = record { address = λ g. and_left x y g; reference = λ g. leb-true r most_reference (and_right x y g) }; state = tt; count = omega arith; reports = tt }
