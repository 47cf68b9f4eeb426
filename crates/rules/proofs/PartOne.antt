-- Demand 3, part one, for the longer window: other cars' frames make no difference to a car.
use Prim.Native.Nat.{ℕ, ◌<◌}
use mathlib.Core.Path.{◌≡◌, refl, sym, ◌∙◌, ap, subst}
use mathlib.Core.Bool.{Bool, true, false, not, ◌&&◌, and-true}
use mathlib.Core.List.{List, [], ◌∷◌, ◌++◌}
use lib.ListN.{length}
use borrow.Author.Tests.{not-true, not-false}
use Rattle.messages.specs.declared.CarAddress.{CarAddress}
use Rattle.messages.specs.declared.Edition.{Edition}
use Rattle.messages.specs.Table.{slac_parm_req, validate_req, slac_match_req}
use Rattle.messages.specs.Reading.{Checked, no, yes}
use Rattle.messages.proofs.LayoutLaws.{and_left, and_right}
use Rattle.rules.specs.declared.Configuration.{Configuration}
use Rattle.rules.specs.declared.Station.{Station}
use Rattle.ends.specs.Lists.{only, All}
use Rattle.rules.specs.Calls.{Call, frame, tick, pilot, terminate, link_up}
use Rattle.ends.specs.Outcomes.{Outcome, frames_of, next, outcome_of}
use Rattle.rules.specs.Stations.{Shared, Inner, shared, inner, build}
use Rattle.rules.specs.Records.{same_car}
use Rattle.rules.specs.Received.{Received, received}
use Rattle.rules.specs.Validation.{turn}
use Rattle.rules.specs.Events.{plugged, is_b}
use Rattle.rules.specs.Frames.{state_rule, admitted, frame_rule}
use Rattle.rules.specs.Ticks.{tick_elapsed}
use Rattle.rules.specs.Rules.{rule, shared_step, step, outcome, after}
use Rattle.rules.specs.Demand3.{named, is_car, is_other, without, accepted, is_ten, is_kind, is_own_accepted, any_failure, replies_in, replies, is_plug_in, is_end, ends_for, ends, begun, further, matched, Longer, SameFor, Undisturbed}
use Rattle.ends.proofs.Logic.{split, clash, or_left, or_right, OnYes}
use Rattle.ends.proofs.ListLaws.{only_yes, only_no}
use Rattle.rules.proofs.RecordLaws.{same_eq}
use Rattle.rules.proofs.ReceivedLaws.{is_match, asks_in, validates_in, FrameAs}
use Rattle.rules.proofs.ReplyLaws.{Unicast}
use Rattle.rules.proofs.Reached.{unicast_next, unicast_after, length_after}
use Rattle.rules.proofs.EditionLaws.{read_in, edition_step, edition_after}
use Rattle.rules.proofs.Near.{Near, BothGet, stays}
use Rattle.rules.proofs.NearEvents.{elapsed_near, pilot_near, terminate_near, link_near, plugs_in, plug_in, plugged_near}
use Rattle.rules.proofs.NearFrames.{own_frame, FirstGets, passes, other_frame, Ends, end_frame}

-- ---- a frame

-- the words of the demand, said of what was received
module _ (e : Edition) (c : CarAddress) (s : List ℕ) (room : ℕ) (y : Received) (t : FrameAs e s y) where
  is_other_lem : is_other c (named e (frame s room)) ≡ not (same_car c y.car)
  unfolding named is_other
  is_other_lem = rw t.car

  pub is_car_lem : is_car c (named e (frame s room)) ≡ same_car c y.car
  unfolding named is_car
  is_car_lem = rw t.car

  is_match_lem : is_kind e slac_match_req (frame s room) ≡ is_match y.request
  unfolding is_kind
  is_match_lem = t.matching

  pub is_ask_lem : is_kind e slac_parm_req (frame s room) ≡ asks_in y.request
  unfolding is_kind
  is_ask_lem = t.asking

  pub is_validate_lem : is_kind e validate_req (frame s room) ≡ validates_in y.request
  unfolding is_kind
  is_validate_lem = t.validating

  -- the call does not end the comparison
  lasts_match : (u : Outcome) → ends e c (frame s room) u ≡ false → is_match y.request && accepted u ≡ false
  unfolding ends ends_for is_end
  lasts_match u g = ap (λ q. q && accepted u) (sym is_match_lem) ∙ or_left _ _ (or_left _ _ g)

  -- said of car c's own requests
  pub own_part : (k b : Bool) → same_car c y.car ≡ true → k && is_car c (named e (frame s room)) && b ≡ false → k && b ≡ false
  own_part k b p g = sym (rw (is_car_lem, p) (ap (λ q. q && b) (and-true k))) ∙ g

  lasts_ask : (u : Outcome) → same_car c y.car ≡ true → ends e c (frame s room) u ≡ false → asks_in y.request && is_ten u ≡ false
  unfolding ends ends_for
  lasts_ask u p g = ap (λ q. q && is_ten u) (sym is_ask_lem) ∙ own_part (is_kind e slac_parm_req (frame s room)) (is_ten u) p (or_right (is_end e (frame s room) && accepted u) _ (or_left _ _ g))

  lasts_validate : (u : Outcome) → same_car c y.car ≡ true → ends e c (frame s room) u ≡ false → validates_in y.request && any_failure (frames_of u) ≡ false
  unfolding ends
  lasts_validate u p g = ap (λ q. q && any_failure (frames_of u)) (sym is_validate_lem) ∙ own_part (is_kind e validate_req (frame s room)) (any_failure (frames_of u)) p (or_right (ends_for e c (frame s room) u) _ g)

-- one that both get
both_frame : (e : Edition) (o : Configuration) (c : CarAddress) (i j : Inner) (s : List ℕ) (room : ℕ) (w : Checked Received) → OnYes (FrameAs e s) w → Near c i j
    → is_other c (named e (frame s room)) ≡ false → ends e c (frame s room) (outcome_of (frame_rule o i w)) ≡ false → BothGet c i j (frame_rule o i w) (frame_rule o j w)
both_frame e o c i j s room (no n) t h f g = stays c i j n n h
both_frame e o c i j s room (yes y) t h f g =
    let p : same_car c y.car ≡ true = not-false _ (sym (is_other_lem e c s room y t) ∙ f) in
    let q : c ≡ y.car = same_eq c y.car p in
    let a : is_match y.request && accepted (outcome_of (state_rule o i.state i.records y.car y.request)) ≡ false = lasts_match e c s room y t _ g in
    let b : asks_in y.request && is_ten (outcome_of (state_rule o i.state i.records y.car y.request)) ≡ false = lasts_ask e c s room y t _ p g in
    let d : validates_in y.request && any_failure (frames_of (outcome_of (state_rule o i.state i.records y.car y.request))) ≡ false = lasts_validate e c s room y t _ p g in
    rw (← q) (own_frame o c y.request i j h (rw (← q) at a) (rw (← q) at b) (rw (← q) at d))

-- one that only the first gets
skip_frame : (e : Edition) (o : Configuration) (c : CarAddress) (i j : Inner) (s : List ℕ) (room : ℕ) (w : Checked Received) → OnYes (FrameAs e s) w → Near c i j
    → is_other c (named e (frame s room)) ≡ true → ends e c (frame s room) (outcome_of (frame_rule o i w)) ≡ false → FirstGets c i j (frame_rule o i w)
skip_frame e o c i j s room (no n) t h f g = passes c i j n h
skip_frame e o c i j s room (yes y) t h f g =
    other_frame o c y.car t.unicast (not-true _ (sym (is_other_lem e c s room y t) ∙ f)) i j h y.request (lasts_match e c s room y t _ g)

-- the car's own accepted match request
match_frame : (e : Edition) (o : Configuration) (c : CarAddress) (i j : Inner) (s : List ℕ) (room : ℕ) (w : Checked Received) → OnYes (FrameAs e s) w → Near c i j
    → is_kind e slac_match_req (frame s room) && is_car c (named e (frame s room)) && accepted (outcome_of (frame_rule o i w)) ≡ true
    → (is_other c (named e (frame s room)) ≡ false) × Ends c i j (frame_rule o i w) (frame_rule o j w)
unfolding accepted
match_frame e o c i j s room (no n) t h g = clash false (and_right (is_kind e slac_match_req (frame s room) && is_car c (named e (frame s room))) false g) refl
match_frame e o c i j s room (yes y) t h g =
    let ab : is_kind e slac_match_req (frame s room) && is_car c (named e (frame s room)) ≡ true = and_left _ _ g in
    let p : same_car c y.car ≡ true = sym (is_car_lem e c s room y t) ∙ and_right (is_kind e slac_match_req (frame s room)) _ ab in
    let q : c ≡ y.car = same_eq c y.car p in
    let m : is_match y.request ≡ true = sym (is_match_lem e c s room y t) ∙ and_left _ _ ab in
    let a : accepted (outcome_of (state_rule o i.state i.records y.car y.request)) ≡ true = and_right (is_kind e slac_match_req (frame s room) && is_car c (named e (frame s room))) _ g in
    (is_other_lem e c s room y t ∙ rw p, rw (← q) (end_frame o c y.request i j h (rw m (rw (← q) at a))))

-- ---- a call

both_call : (e : Edition) (o : Shared) → o.config.edition ≡ e → (c : CarAddress) (i j : Inner) (x : Call) → Near c i j → All Unicast i.records → All Unicast j.records
    → is_other c (named e x) ≡ false → ends e c x (outcome_of (rule o i x)) ≡ false → BothGet c i j (rule o i x) (rule o j x)
unfolding rule ends ends_for is_end
both_call e o w c i j (frame s room) h q q' f g = both_frame e o.config c i j s room (admitted o.config room (received o.config.edition s)) (read_in e o.config w room s) h f g
both_call e o w c i j (tick t room) h q q' f g = elapsed_near o.config c (is_b o.pilot) i j (tick_elapsed o t room) q q' h
both_call e o w c i j (pilot p t) h q q' f g = pilot_near c i j h o.config.good (plugged o.pilot) (plugged p) (turn o.pilot p) (or_left _ _ (or_left _ _ g))
both_call e o w c i j terminate h q q' f g = terminate_near c i j h o.config.good (or_left _ _ (or_left _ _ g))
both_call e o w c i j link_up h q q' f g = link_near c i j h o.config.good

-- other cars' calls are frames
skip_call : (e : Edition) (o : Shared) → o.config.edition ≡ e → (c : CarAddress) (i j : Inner) (x : Call) → Near c i j → is_other c (named e x) ≡ true → ends e c x (outcome_of (rule o i x)) ≡ false → FirstGets c i j (rule o i x)
unfolding rule named is_other
skip_call e o w c i j (frame s room) h f g = skip_frame e o.config c i j s room (admitted o.config room (received o.config.edition s)) (read_in e o.config w room s) h f g
skip_call e o w c i j (tick t room) h f g = clash true refl (sym f)
skip_call e o w c i j (pilot p t) h f g = clash true refl (sym f)
skip_call e o w c i j terminate h f g = clash true refl (sym f)
skip_call e o w c i j link_up h f g = clash true refl (sym f)

skip_shared : (e : Edition) (o : Shared) (c : CarAddress) (x : Call) → is_other c (named e x) ≡ true → shared_step o x ≡ o
unfolding shared_step named is_other
skip_shared e o c (frame s room) f = refl
skip_shared e o c (tick t room) f = clash true refl (sym f)
skip_shared e o c (pilot p t) f = clash true refl (sym f)
skip_shared e o c terminate f = clash true refl (sym f)
skip_shared e o c link_up f = clash true refl (sym f)

match_call : (e : Edition) (o : Shared) → o.config.edition ≡ e → (c : CarAddress) (i j : Inner) (x : Call) → Near c i j → is_own_accepted e c slac_match_req x (outcome_of (rule o i x)) ≡ true
    → (is_other c (named e x) ≡ false) × Ends c i j (rule o i x) (rule o j x)
unfolding rule is_kind is_own_accepted
match_call e o w c i j (frame s room) h g = match_frame e o.config c i j s room (admitted o.config room (received o.config.edition s)) (read_in e o.config w room s) h g
match_call e o w c i j (tick t room) h g = clash true refl (sym g)
match_call e o w c i j (pilot p t) h g = clash true refl (sym g)
match_call e o w c i j terminate h g = clash true refl (sym g)
match_call e o w c i j link_up h g = clash true refl (sym g)

-- ---- the calls since the plug-in

without_yes : (e : Edition) (c : CarAddress) (x : Call) (xs : List Call) → is_other c (named e x) ≡ false → without e c (x ∷ xs) ≡ x ∷ without e c xs
without_yes e c x xs f = only_yes (λ (x : Call). not (is_other c (named e x))) x xs (rw f)

without_no : (e : Edition) (c : CarAddress) (x : Call) (xs : List Call) → is_other c (named e x) ≡ true → without e c (x ∷ xs) ≡ without e c xs
without_no e c x xs f = only_no (λ (x : Call). not (is_other c (named e x))) x xs (rw f)

since_plug : (e : Edition) (c : CarAddress) {s : Station} {xs : List Call} → Longer e c s xs → s.config.edition ≡ e → (j : Inner) → Near c (inner s) j → All Unicast s.records → All Unicast j.records
    → SameFor c s xs (build (shared s) j) (without e c xs)
unfolding replies step outcome only
since_plug e c (begun {s}) w j h q q' = record { replied = refl; own = h.alone.own }
since_plug e c (further {s} {x} {xs} g l) w j h q q' = split (is_other c (named e x))
    (λ f.
    let p : FirstGets c (inner s) j (rule (shared s) (inner s) x) = skip_call e (shared s) w c (inner s) j x h f g in
    let r : SameFor c (step s x) xs (build (shared_step (shared s) x) j) (without e c xs) = since_plug e c l (edition_step e s x w) j p.near (unicast_next (shared s) (inner s) x q) q' in
    let n : SameFor c (step s x) xs (build (shared s) j) (without e c xs) = subst (λ (o : Shared). SameFor c (step s x) xs (build o j) (without e c xs)) (skip_shared e (shared s) c x f) r in
    subst (λ (l : List Call). SameFor c s (x ∷ xs) (build (shared s) j) l) (sym (without_no e c x xs f))
    (record { replied = ap (λ q. q ++ replies c (step s x) xs) p.sent ∙ n.replied; own = n.own }))
    (λ f.
    let p : BothGet c (inner s) j (rule (shared s) (inner s) x) (rule (shared s) j x) = both_call e (shared s) w c (inner s) j x h q q' f g in
    let i' : Inner = next j (rule (shared s) j x) in
    let r : SameFor c (step s x) xs (build (shared_step (shared s) x) i') (without e c xs) = since_plug e c l (edition_step e s x w) i' p.near (unicast_next (shared s) (inner s) x q) (unicast_next (shared s) j x q') in
    subst (λ (l : List Call). SameFor c s (x ∷ xs) (build (shared s) j) l) (sym (without_yes e c x xs f))
    (record { replied = ap (λ q. q ++ replies c (step s x) xs) p.sent ∙ ap (λ q. replies_in c (outcome_of (rule (shared s) j x)) ++ q) r.replied; own = r.own }))
since_plug e c (matched {s} {x} g) w j h q q' =
    let p : (is_other c (named e x) ≡ false) × Ends c (inner s) j (rule (shared s) (inner s) x) (rule (shared s) j x) = match_call e (shared s) w c (inner s) j x h g in
    subst (λ (l : List Call). SameFor c s (x ∷ []) (build (shared s) j) l) (sym (without_yes e c x [] p.0))
    (record { replied = ap (λ q. q ++ []) p.1.sent; own = p.1.own })

-- ---- the calls before, and the plug-in

shared_after : (e : Edition) (c : CarAddress) (s t : Station) (xs : List Call) → shared s ≡ shared t → shared (after s xs) ≡ shared (after t (without e c xs))
unfolding step only
shared_after e c s t [] q = q
shared_after e c s t (x ∷ xs) q = split (is_other c (named e x))
    (λ f. shared_after e c (step s x) t xs (skip_shared e (shared s) c x f ∙ q) ∙ ap (λ l. shared (after t l)) (sym (without_no e c x xs f)))
    (λ f. shared_after e c (step s x) (step t x) xs (ap (λ o. shared_step o x) q) ∙ ap (λ l. shared (after t l)) (sym (without_yes e c x xs f)))

-- a plug-in makes the same of every station
pub plug_call : (o : Shared) (i : Inner) (x : Call) → is_plug_in (build o i) x ≡ true → (k : Inner) → next k (rule o k x) ≡ plugs_in k
unfolding is_plug_in rule outcome
plug_call o i (frame s room) h k = clash true refl (sym h)
plug_call o i (tick t room) h k = clash true refl (sym h)
plug_call o i (pilot p t) h k = plug_in o.config.good (plugged o.pilot) (plugged p) (turn o.pilot p) i h k
plug_call o i terminate h k = clash true refl (sym h)
plug_call o i link_up h k = clash true refl (sym h)

pub undisturbed : (s₀ : Station) → 0 < length s₀.records → All Unicast s₀.records → (c : CarAddress) (before : List Call) (plug : Call) (since : List Call) → Undisturbed Longer s₀ c before plug since
unfolding step
undisturbed s₀ z q c before plug since h l =
    let e : Edition = s₀.config.edition in
    let s₁ : Station = after s₀ before in
    let t₁ : Station = after s₀ (without e c before) in
    let w : (k : Inner) → next k (rule (shared s₁) k plug) ≡ plugs_in k = plug_call (shared s₁) (inner s₁) plug h in
    let n : Near c (inner (step s₁ plug)) (next (inner t₁) (rule (shared s₁) (inner t₁) plug)) = rw (w (inner s₁), w (inner t₁)) (plugged_near c (inner s₁) (inner t₁) (rw (length_after s₀ (without e c before)) z)) in
    subst (λ (o : Shared). SameFor c (step s₁ plug) since (build (shared_step o plug) (next (inner t₁) (rule o (inner t₁) plug))) (without e c since))
    (shared_after e c s₀ s₀ before refl)
    (since_plug e c l (edition_step e s₁ plug (edition_after e s₀ before refl)) (next (inner t₁) (rule (shared s₁) (inner t₁) plug)) n (unicast_next (shared s₁) (inner s₁) plug (unicast_after s₀ before q)) (unicast_next (shared s₁) (inner t₁) plug (unicast_after s₀ (without e c before) q)))
