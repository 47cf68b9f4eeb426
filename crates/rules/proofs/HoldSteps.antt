-- How each call lowers what is left of a car's own record, and that an accepted request starts it.
use Prim.Native.Nat.{ℕ, zero, suc, ◌-◌, ◌<◌, ◌≤◌}
use mathlib.Core.Path.{◌≡◌, refl, sym, ◌∙◌, ap, subst}
use mathlib.Core.Bool.{Bool, true, false, not, cond, ◌&&◌}
use mathlib.Core.List.{List, [], ◌∷◌, map}
use native.Mathlib.Omega.{arith}
use lib.Dec.{leb, ltb}
use lib.ListN.{length}
use borrow.Author.Tests.{lt-ltb}
use Rattle.messages.specs.declared.CarAddress.{CarAddress}
use Rattle.messages.specs.declared.Edition.{Edition}
use Rattle.messages.specs.declared.RunId.{RunId}
use Rattle.messages.specs.Table.{slac_parm_req, validate_req}
use Rattle.messages.specs.Reading.{Checked, no, yes, check}
use Rattle.messages.proofs.LayoutLaws.{and_left, and_right}
use Rattle.rules.specs.declared.Configuration.{Configuration}
use Rattle.rules.specs.declared.Record.{Record}
use Rattle.rules.specs.declared.State.{State}
use Rattle.rules.specs.declared.State.TheVariants.{Unmatched, Matching, Joining, Matched}
use Rattle.rules.specs.declared.Station.{Station}
use Rattle.rules.specs.declared.Turn.{Turn}
use Rattle.ends.specs.Clock.{elapsed, tick_time}
use Rattle.ends.specs.Constants.{longest_gap}
use Rattle.ends.specs.Lists.{only, All}
use Rattle.ends.specs.Outcomes.{Outcome, frames_of, and_then, next, outcome_of}
use Rattle.rules.specs.Constants.{ready_result, least_output}
use Rattle.rules.specs.Calls.{Call, frame, tick, pilot, terminate, link_up}
use Rattle.rules.specs.Stations.{Shared, Inner, shared, inner, Done}
use Rattle.rules.specs.Records.{same_car, same_run, is_empty, is_held, holds, mine, free_places, none_held, owned, freed, fresh, in_phase}
use Rattle.rules.specs.Replies.{Reply, frames_to}
use Rattle.rules.specs.Received.{RecordMessage, parm_req, start, sound, profile, rsp, validate_first, validate_second, Request, for_record, match_req, map_req, Received, received}
use Rattle.rules.specs.Validation.{first_result, turn, toggled_phase, toggled_record}
use Rattle.rules.specs.Events.{plugged, is_b, ended, pilot_done, link_rule}
use Rattle.rules.specs.Frames.{Kept, own_place, free_place, Change, put_back, is_later, profile_rule, second_rule, at_own, at_run, requested, parm_rule, change_rule, match_rule, changed, confirmed, state_rule, admitted, frame_rule}
use Rattle.rules.specs.Ticks.{tick_elapsed, Ticked, now_free, still_held, tick_phase, record_of, tick_record, all_frames, admission_done, joining_done, tick_done}
use Rattle.rules.specs.Rules.{rule, step, outcome}
use Rattle.rules.specs.Reachable.{HeldIn, Reachable}
use Rattle.rules.specs.Demand3.{named, is_car, accepted, is_kind, is_own_accepted, any_result}
use Rattle.rules.specs.HoldTime.{asks, is_holder, is_readied, spans, longest_hold}
use Rattle.ends.proofs.Logic.{split, clash, OnYes, on_check}
use Rattle.ends.proofs.ListLaws.{only_none, only_yes, only_no}
use Rattle.rules.proofs.RecordLaws.{same_eq, holds_held, holds_same, holds_free, owned_holds, freed_free, Ready, own_then, mine_put, mine_put_other, mine_freed, Keeping, mine_map, tick_keeping, phase_holds, turn_keeping, none_mine}
use Rattle.rules.proofs.RuleLaws.{on_map, change_ready, is_ask, is_validate}
use Rattle.rules.proofs.PhaseLaws.{OfKept}
use Rattle.rules.proofs.ReceivedLaws.{asks_in, validates_in, FrameAs, read_as, TimedRequest, admitted_timed}
use Rattle.rules.proofs.PartOne.{is_car_lem, is_ask_lem, is_validate_lem, own_part}
use Rattle.rules.proofs.TimeLeft.{Live, time_left, Lower, more_left, same_left, request_left, start_lower, sound_lower, profile_lower, rsp_lower, first_lower, second_lower, TickLower, tick_lower, turn_lower}

-- ---- a car's own records, before and after

-- their time has not run out
abbrev pub Fit : List Record → Type 0
Fit [] = Unit {0}
Fit (r ∷ own) = Live r

module _ (ed : Edition) (v : Bool) (e : ℕ) where
  -- from one to the other in d milliseconds: none is taken, and what is left falls by d, or the record is freed
  abbrev pub Falls : ℕ → List Record → List Record → Type 0
  Falls d [] own' = own' ≡ []
  Falls d (r ∷ own) [] = d < time_left ed v e r
  Falls d (r ∷ own) (q ∷ own') = Lower ed v e d r q

  -- at most as much is left as of a request in this try that has just been accepted
  abbrev pub Started : Bool → List Record → Type 0
  Started later [] = Unit {0}
  Started later (r ∷ own) = Live r × (time_left ed v e r ≤ longest_hold ed later v e)

  falls_same : (own : List Record) → Fit own → Falls 0 own own
  falls_same [] h = refl
  falls_same (r ∷ own) h = same_left ed v e r h

  falls_freed : (own : List Record) → Fit own → Falls 0 own []
  falls_freed [] h = refl
  falls_freed (r ∷ own) h = omega (arith, more_left ed v e r h)

  pub falls_fit : (d : ℕ) (own own' : List Record) → Falls d own own' → Fit own'
  falls_fit d [] own' f = subst Fit (sym f) tt
  falls_fit d (r ∷ own) [] f = tt
  falls_fit d (r ∷ own) (q ∷ own') f = f.0

-- ---- an accepted call, or a refused one

refused_on : (P : Done → Type 0) (w : Checked Done) → accepted (outcome_of w) ≡ false → OnYes P w
unfolding accepted
refused_on P (no n) h = tt
refused_on P (yes z) h = clash true refl h

-- what holds of the records that an accepted call leaves
abbrev Leaves : (List Record → Type 0) → CarAddress → Done → Type 0
Leaves Q c z = Q (mine c z.after.records)

accepted_on : (Q : List Record → Type 0) (c : CarAddress) (i : Inner) (w : Checked Done) → accepted (outcome_of w) ≡ true → OnYes (Leaves Q c) w → Q (mine c (next i w).records)
unfolding accepted
accepted_on Q c i (no n) h k = clash false h refl
accepted_on Q c i (yes z) h k = k

-- a car's message at its own records
own_change : (Q : List Record → Type 0) (o : Configuration) (st : State) (rs : List Record) (c : CarAddress) (w : Checked Change) → OnYes (λ (x : Change). Ready x.place (free_places rs) (mine c rs)) w
    → OnYes (λ (x : Change). Q (own_then x.place (owned c x.kept) (mine c rs))) w → OnYes (Leaves Q c) (and_then w (λ (x : Change). yes (changed o st rs c x)))
own_change Q o st rs c (no n) p h = tt
own_change Q o st rs c (yes x) p h = subst Q (sym (mine_put c x.kept x.place rs p)) h

-- ---- the request

module _ (ed : Edition) (v : Bool) (e : ℕ) where
  abbrev StartedBy : CarAddress → List Record → Change → Type 0
  StartedBy c own x = Started ed v e (ltb 0 (length own)) (own_then x.place (owned c x.kept) own)

  parm_starts : (c : CarAddress) (run : RunId) (a free : ℕ) (own : List Record) → OnYes (StartedBy c own) (parm_rule ed c run a free own)
  unfolding parm_rule requested owned
  parm_starts c run a free (r ∷ own) =
      subst (λ (later : Bool). Started ed v e later (fresh (is_later ed own_place) c run ∷ own)) (sym (lt-ltb 0 (length (r ∷ own)) (omega arith))) (request_left ed v e own_place c run)
  parm_starts c run a free [] = on_check (StartedBy c []) (ltb 0 a) 9 _ (λ g. on_check (StartedBy c []) (ltb 0 free) 10 _ (λ h. request_left ed v e free_place c run))

  change_starts : (c : CarAddress) (m : RecordMessage) (a free result : ℕ) (own : List Record) → is_ask m ≡ true → OnYes (StartedBy c own) (change_rule ed c m a free result own)
  unfolding change_rule
  change_starts c (parm_req run) a free result own h = on_check (StartedBy c own) (not (is_empty run)) _ _ (λ n. parm_starts c run a free own)
  change_starts c (start run k) a free result own h = clash false h refl
  change_starts c (sound run k) a free result own h = clash false h refl
  change_starts c (profile g vs) a free result own h = clash false h refl
  change_starts c (rsp run) a free result own h = clash false h refl
  change_starts c validate_first a free result own h = clash false h refl
  change_starts c (validate_second timer) a free result own h = clash false h refl

all_three : (a b d : Bool) → a && b && d ≡ true → (a ≡ true) × (b ≡ true) × (d ≡ true)
all_three a b d h = let k : a && b ≡ true = and_left (a && b) d h in (and_left a b k, and_right a b k, and_right (a && b) d h)

module _ (v : Bool) (e : ℕ) where
  -- in a station of this configuration that had these records
  abbrev StartedIn : Configuration → CarAddress → List Record → List Record → Type 0
  StartedIn o c rs own' = Started o.edition v e (ltb 0 (length (mine c rs))) own'

  state_starts : (o : Configuration) (st : State) (rs : List Record) (c : CarAddress) (m : Request) → asks_in m ≡ true → OnYes (Leaves (StartedIn o c rs) c) (state_rule o st rs c m)
  unfolding state_rule
  state_starts o Unmatched rs c m h = tt
  state_starts o (Matching a) rs c (for_record m) h =
      let x : ℕ = first_result o.exempt rs in
      own_change (StartedIn o c rs) o (Matching a) rs c (change_rule o.edition c m a (free_places rs) x (mine c rs)) (change_ready o.edition c m a (free_places rs) x (mine c rs)) (change_starts o.edition v e c m a (free_places rs) x (mine c rs) h)
  state_starts o (Matching a) rs c (match_req run x y) h = clash false h refl
  state_starts o (Matching a) rs c (map_req n) h = tt
  state_starts o (Joining l d k) rs c (for_record m) h = tt
  state_starts o (Joining l d k) rs c (match_req run x y) h = clash false h refl
  state_starts o (Joining l d k) rs c (map_req n) h = tt
  state_starts o (Matched d) rs c (for_record m) h = tt
  state_starts o (Matched d) rs c (match_req run x y) h = tt
  state_starts o (Matched d) rs c (map_req n) h = clash false h refl

  frame_starts : (c : CarAddress) (o : Configuration) (i : Inner) (f : List ℕ) (room : ℕ) (w : Checked Received) → OnYes (FrameAs o.edition f) w
      → is_kind o.edition slac_parm_req (frame f room) && is_car c (named o.edition (frame f room)) && accepted (outcome_of (frame_rule o i w)) ≡ true
      → StartedIn o c i.records (mine c (next i (frame_rule o i w)).records)
  unfolding accepted
  frame_starts c o i f room (no n) t h = clash false (all_three (is_kind o.edition slac_parm_req (frame f room)) (is_car c (named o.edition (frame f room))) false h).2 refl
  frame_starts c o i f room (yes y) t h =
      let w : Checked Done = state_rule o i.state i.records y.car y.request in
      let k = all_three (is_kind o.edition slac_parm_req (frame f room)) (is_car c (named o.edition (frame f room))) (accepted (outcome_of w)) h in
      let a : asks_in y.request ≡ true = sym (is_ask_lem o.edition c f room y t) ∙ k.0 in
      let b : same_car c y.car ≡ true = sym (is_car_lem o.edition c f room y t) ∙ k.1 in
      subst (λ (d : CarAddress). StartedIn o d i.records (mine d (next i w).records)) (sym (same_eq c y.car b))
      (accepted_on (StartedIn o y.car i.records) y.car i w k.2 (state_starts o i.state i.records y.car y.request a))

  pub ask_starts : (c : CarAddress) (s : Station) (x : Call) → asks c s x ≡ true → Started s.config.edition v e (is_holder c s) (mine c (step s x).records)
  unfolding asks is_own_accepted is_holder outcome step rule is_kind
  ask_starts c s (frame f room) h = frame_starts c s.config (inner s) f room (admitted s.config room (received s.config.edition f)) (read_as s.config.edition s.config room f) h
  ask_starts c s (tick t room) h = clash false h refl
  ask_starts c s (pilot p t) h = clash false h refl
  ask_starts c s terminate h = clash false h refl
  ask_starts c s link_up h = clash false h refl

-- ---- the lists that a tick or a pilot change leaves

only_all : (b : Record → Bool) (rs : List Record) → All (λ (r : Record). b r ≡ true) (only b rs)
unfolding only
only_all b [] = tt
only_all b (r ∷ rs) = split (b r) (λ g. rw g (g, only_all b rs)) (λ g. rw g (only_all b rs))

mine_one : (c : CarAddress) (r : Record) → holds c r ≡ true → mine c (r ∷ []) ≡ r ∷ []
mine_one c r h = only_yes (holds c) r [] h ∙ ap (λ (l : List Record). r ∷ l) (only_none (holds c))

mine_gone : (c : CarAddress) (r : Record) → is_held r ≡ false → mine c (r ∷ []) ≡ []
mine_gone c r h = only_no (holds c) r [] (holds_free c r h) ∙ only_none (holds c)

admission_records : (a : ℕ) (b : Bool) (rs : List Record) (fs : List (List ℕ)) → (admission_done a b rs fs).after.records ≡ rs
unfolding admission_done
admission_records zero true rs fs = refl
admission_records zero false rs fs = refl
admission_records (suc a) b rs fs = refl

joining_records : (b : Bool) (l : ℕ) (c : CarAddress) (run : RunId) (rs : List Record) → (joining_done b l c run rs).after.records ≡ rs
unfolding joining_done
joining_records true l c run rs = refl
joining_records false l c run rs = refl

-- an accepted tick's time
tick_time_lem : (o : Shared) (t room : ℕ) → OnYes (λ (d : ℕ). d ≡ elapsed t o.clock) (tick_elapsed o t room)
unfolding tick_time
tick_time_lem o t room =
    on_check (λ (d : ℕ). d ≡ elapsed t o.clock) o.config.good 16 _ (λ g.
    on_check (λ (d : ℕ). d ≡ elapsed t o.clock) (leb least_output room) 15 _ (λ h.
    on_check (λ (d : ℕ). d ≡ elapsed t o.clock) (leb (elapsed t o.clock) longest_gap) 14 _ (λ k. refl)))

-- ---- a call from a station in which car c asks no more

module _ (ed : Edition) (v : Bool) (e : ℕ) (c : CarAddress) where
  -- what a call leaves of the car's own records
  abbrev After : ℕ → List Record → Done → Type 0
  After d rs z = Falls ed v e d (mine c rs) (mine c z.after.records)

  next_falls : (i : Inner) (w : Checked Done) → Fit (mine c i.records) → OnYes (After 0 i.records) w → Falls ed v e 0 (mine c i.records) (mine c (next i w).records)
  next_falls i (no n) h k = falls_same ed v e (mine c i.records) h
  next_falls i (yes z) h k = k

  freed_falls : (rs : List Record) → Fit (mine c rs) → Falls ed v e 0 (mine c rs) (mine c (map freed rs))
  freed_falls rs h = subst (λ (l : List Record). Falls ed v e 0 (mine c rs) l) (sym (mine_freed c rs)) (falls_freed ed v e (mine c rs) h)

  -- where the car has no record, time may pass
  none_falls : (d : ℕ) (own : List Record) → own ≡ [] → Falls ed v e d own own
  none_falls d own h = subst (λ (l : List Record). Falls ed v e d l l) (sym h) refl

  -- ---- each record changed

  module _ (d : ℕ) (g : Record → Record) (k : Keeping g) (f : (r : Record) → holds c r ≡ true → Live r → Falls ed v e d (r ∷ []) (mine c (g r ∷ []))) where
    own_map : (own : List Record) → length own ≤ 1 → All (λ (r : Record). holds c r ≡ true) own → Fit own → Falls ed v e d own (mine c (map g own))
    own_map [] l a h = only_none (holds c)
    own_map (r ∷ []) l a h = f r a.0 h
    own_map (r ∷ q ∷ own) l a h = absurd (omega arith)

    map_falls : (rs : List Record) → length (mine c rs) ≤ 1 → Fit (mine c rs) → Falls ed v e d (mine c rs) (mine c (map g rs))
    map_falls rs l h = subst (λ (q : List Record). Falls ed v e d (mine c rs) q) (sym (mine_map g k c rs)) (own_map (mine c rs) l (only_all (holds c) rs) h)

  ticked_falls : (d : ℕ) (r : Record) (x : Ticked) → holds c r ≡ true → TickLower ed v e d r x → Falls ed v e d (r ∷ []) (mine c (record_of r x ∷ []))
  unfolding record_of owned
  ticked_falls d r (now_free ts) g h = subst (λ (l : List Record). Falls ed v e d (r ∷ []) l) (sym (mine_gone c (freed r) (freed_free r))) h
  ticked_falls d r (still_held n ts) g h =
      let k : holds c (owned r.car n) ≡ true = subst (λ (b : CarAddress). holds b (owned r.car n) ≡ true) (sym (same_eq c r.car (holds_same c r g))) (owned_holds r.car n) in
      subst (λ (l : List Record). Falls ed v e d (r ∷ []) l) (sym (mine_one c (owned r.car n) k)) h

  tick_falls : (b : Bool) (d : ℕ) → d ≤ e → (r : Record) → holds c r ≡ true → Live r → Falls ed v e d (r ∷ []) (mine c (tick_record b d r ∷ []))
  unfolding tick_record
  tick_falls b d k r g h = rw (holds_held c r g) (ticked_falls d r (tick_phase b d r r.phase) g (tick_lower ed v e d r k b h))

  turn_falls : (w : Turn) (r : Record) → holds c r ≡ true → Live r → Falls ed v e 0 (r ∷ []) (mine c (toggled_record w r ∷ []))
  unfolding toggled_record
  turn_falls w r g h =
      let q : Record = in_phase (toggled_phase w r.phase) r in
      rw (holds_held c r g) (subst (λ (l : List Record). Falls ed v e 0 (r ∷ []) l) (sym (mine_one c q (phase_holds c (toggled_phase w r.phase) r ∙ g))) (turn_lower ed v e w r h))

  -- ---- ticks

  state_tick : (o : Configuration) (b : Bool) (d : ℕ) (st : State) (rs : List Record) → d ≤ e → HeldIn st rs → length (mine c rs) ≤ 1 → Fit (mine c rs) → After d rs (tick_done o b d st rs)
  unfolding tick_done
  state_tick o b d Unmatched rs k g l h = none_falls d (mine c rs) (none_mine c rs g)
  state_tick o b d (Matching a) rs k g l h =
      let ts : List Record = map (tick_record b d) rs in
      subst (λ (q : List Record). Falls ed v e d (mine c rs) (mine c q)) (sym (admission_records (a - d) (none_held ts) ts (all_frames o b d rs)))
      (map_falls d (tick_record b d) (tick_keeping b d) (tick_falls b d k) rs l h)
  state_tick o b d (Joining t u run) rs k g l h = subst (λ (q : List Record). Falls ed v e d (mine c rs) (mine c q)) (sym (joining_records (leb t d) (t - d) u run rs)) (none_falls d (mine c rs) (none_mine c rs g))
  state_tick o b d (Matched u) rs k g l h = none_falls d (mine c rs) (none_mine c rs g)

  module _ (o : Configuration) (b : Bool) (i : Inner) (g : HeldIn i.state i.records) (l : length (mine c i.records) ≤ 1) (h : Fit (mine c i.records)) where
    abbrev tick_of : Checked ℕ → Checked Done
    tick_of w = and_then w (λ (d : ℕ). yes (tick_done o b d i.state i.records))

    call_tick : (t : ℕ) (w : Checked ℕ) → OnYes (λ (d : ℕ). d ≡ t) w → cond (accepted (outcome_of (tick_of w))) t 0 ≤ e
        → Falls ed v e (cond (accepted (outcome_of (tick_of w))) t 0) (mine c i.records) (mine c (next i (tick_of w)).records)
    unfolding accepted
    call_tick t (no n) q k = falls_same ed v e (mine c i.records) h
    call_tick t (yes d) q k = subst (λ (x : ℕ). After x i.records (tick_done o b d i.state i.records)) q (state_tick o b d i.state i.records (subst (λ (x : ℕ). x ≤ e) (sym q) k) g l h)

  -- ---- pilot and link up

  pilot_falls : (was is : Bool) (w : Turn) (i : Inner) → length (mine c i.records) ≤ 1 → Fit (mine c i.records) → After 0 i.records (pilot_done was is w i)
  unfolding pilot_done
  pilot_falls false true w i l h = freed_falls i.records h
  pilot_falls true false w i l h = freed_falls i.records h
  pilot_falls false false w i l h = freed_falls i.records h
  pilot_falls true true w i l h = map_falls 0 (toggled_record w) (turn_keeping w) (turn_falls w) i.records l h

  link_falls : (st : State) (rs : List Record) → Fit (mine c rs) → OnYes (After 0 rs) (link_rule st rs)
  unfolding link_rule
  link_falls Unmatched rs h = tt
  link_falls (Matching a) rs h = tt
  link_falls (Joining l u run) rs h = falls_same ed v e (mine c rs) h
  link_falls (Matched u) rs h = tt

-- ---- frames

module _ (v : Bool) (e : ℕ) (c : CarAddress) (o : Configuration) where
  abbrev OwnAfter : List Record → Change → Type 0
  OwnAfter own x = Falls o.edition v e 0 own (own_then x.place (owned c x.kept) own)

  -- at the car's own record, given U of the replies
  module _ (U : List Reply → Type 0) where
    abbrev LowerIf : Record → Kept → Type 0
    LowerIf r k = U k.replies → Lower o.edition v e 0 r k.kept

    abbrev FallsIf : List Record → Change → Type 0
    FallsIf own x = U x.replies → OwnAfter own x

    -- where nothing need be given
    plain : (r : Record) (w : Checked Kept) → OnYes (OfKept (Lower o.edition v e 0 r)) w → OnYes (LowerIf r) w
    plain r (no n) h = tt
    plain r (yes k) h = λ u. h

    back_falls : (r : Record) (own : List Record) (w : Checked Kept) → OnYes (LowerIf r) w → OnYes (FallsIf (r ∷ own)) (put_back w)
    unfolding owned
    back_falls r own (no n) h = tt
    back_falls r own (yes k) h = h

    at_own_lem : (own : List Record) (f : Record → Checked Kept) → ((r : Record) → Live r → OnYes (LowerIf r) (f r)) → Fit own → OnYes (FallsIf own) (put_back (at_own own f))
    at_own_lem [] f g h = tt
    at_own_lem (r ∷ own) f g h = back_falls r own (f r) (g r h)

    at_run_lem : (run : RunId) (own : List Record) (f : Record → Checked Kept) → ((r : Record) → Live r → OnYes (OfKept (Lower o.edition v e 0 r)) (f r)) → Fit own → OnYes (FallsIf own) (put_back (at_run run own f))
    at_run_lem run own f g h = at_own_lem own (λ (r : Record). check (same_run run r.run) 11 (f r)) (λ r l. on_check (LowerIf r) (same_run run r.run) 11 (f r) (λ s. plain r (f r) (g r l))) h

  -- the replies of a validate request, unless the car may be made ready, do not answer 01
  abbrev Calm : RecordMessage → List (List ℕ) → Type 0
  Calm m fs = v ≡ false → is_validate m && any_result ready_result fs ≡ false

  abbrev CalmReplies : RecordMessage → List Reply → Type 0
  CalmReplies m ts = Calm m (frames_to o c ts)

  change_falls : (m : RecordMessage) (a free result : ℕ) (own : List Record) → is_ask m ≡ false → TimedRequest (for_record m) → Fit own → OnYes (FallsIf (CalmReplies m) own) (change_rule o.edition c m a free result own)
  unfolding change_rule
  change_falls (parm_req run) a free result own n q h = clash true refl n
  change_falls (start run k) a free result own n q h = at_run_lem (CalmReplies (start run k)) run own _ (λ r l. start_lower o.edition v e r l k) h
  change_falls (sound run k) a free result own n q h = at_run_lem (CalmReplies (sound run k)) run own _ (λ r l. sound_lower o.edition v e r l k) h
  change_falls (profile g vs) a free result own n q h = at_own_lem (CalmReplies (profile g vs)) own _ (λ r l. plain (CalmReplies (profile g vs)) r (profile_rule o.edition g vs r r.phase) (profile_lower o.edition v e r l g vs)) h
  change_falls (rsp run) a free result own n q h = at_run_lem (CalmReplies (rsp run)) run own _ (λ r l. rsp_lower o.edition v e r l) h
  change_falls validate_first a free result own n q h = at_own_lem (CalmReplies validate_first) own _ (λ r l. first_lower o.edition v e r l o c result) h
  change_falls (validate_second timer) a free result own n q h = at_own_lem (CalmReplies (validate_second timer)) own _ (λ r l. plain (CalmReplies (validate_second timer)) r (second_rule timer r r.phase) (second_lower o.edition v e r l timer q)) h

  -- what is given of the frames that the call reports
  given : (st : State) (rs : List Record) (m : RecordMessage) (w : Checked Change) → Calm m (frames_of (outcome_of (and_then w (λ (x : Change). yes (changed o st rs c x))))) → OnYes (FallsIf (CalmReplies m) (mine c rs)) w → OnYes (OwnAfter (mine c rs)) w
  given st rs m (no n) u h = tt
  given st rs m (yes x) u h = h u

  -- the car's own message, unless it asks
  own_falls : (a : ℕ) (rs : List Record) (m : RecordMessage) → Fit (mine c rs) → is_ask m ≡ false → TimedRequest (for_record m) → Calm m (frames_of (outcome_of (state_rule o (Matching a) rs c (for_record m))))
      → OnYes (After o.edition v e c 0 rs) (state_rule o (Matching a) rs c (for_record m))
  unfolding state_rule
  own_falls a rs m h n q u =
      let x : ℕ = first_result o.exempt rs in
      let w : Checked Change = change_rule o.edition c m a (free_places rs) x (mine c rs) in
      own_change (Falls o.edition v e 0 (mine c rs)) o (Matching a) rs c w (change_ready o.edition c m a (free_places rs) x (mine c rs))
      (given (Matching a) rs m w u (change_falls m a (free_places rs) x (mine c rs) n q h))

  -- another car's
  other_falls : (st : State) (rs : List Record) (d : CarAddress) → same_car c d ≡ false → Fit (mine c rs) → (w : Checked Change) → OnYes (After o.edition v e c 0 rs) (and_then w (λ (x : Change). yes (changed o st rs d x)))
  other_falls st rs d n h (no k) = tt
  other_falls st rs d n h (yes x) = subst (λ (l : List Record). Falls o.edition v e 0 (mine c rs) l) (sym (mine_put_other d x.kept x.place c rs n)) (falls_same o.edition v e (mine c rs) h)

  match_falls : (st : State) (rs : List Record) (d : CarAddress) (run : RunId) (x y : List ℕ) (w : Checked (Unit {0})) → Fit (mine c rs)
      → OnYes (After o.edition v e c 0 rs) (and_then w (λ (u : Unit {0}). yes (confirmed o st (map freed rs) d run x y)))
  match_falls st rs d run x y (no n) h = tt
  match_falls st rs d run x y (yes u) h = freed_falls o.edition v e c rs h

  -- what is known of a request of car d with this outcome: car c does not ask, and is not made ready unless it may be
  record QuietRequest (d : CarAddress) (m : Request) (u : Outcome) : Type 0 where
    unasked : same_car c d ≡ true → asks_in m && accepted u ≡ false
    unready : same_car c d ≡ true → v ≡ false → validates_in m && any_result ready_result (frames_of u) ≡ false

  record_falls : (a : ℕ) (rs : List Record) (d : CarAddress) (m : RecordMessage) → Fit (mine c rs) → TimedRequest (for_record m)
      → QuietRequest d (for_record m) (outcome_of (state_rule o (Matching a) rs d (for_record m))) → OnYes (After o.edition v e c 0 rs) (state_rule o (Matching a) rs d (for_record m))
  record_falls a rs d m h q u = split (same_car c d)
      (λ g. split (is_ask m)
      (λ k. refused_on (After o.edition v e c 0 rs) (state_rule o (Matching a) rs d (for_record m)) (subst (λ (b : Bool). b && accepted (outcome_of (state_rule o (Matching a) rs d (for_record m))) ≡ false) k (u.unasked g)))
      (λ k. subst (λ (b : CarAddress). Calm m (frames_of (outcome_of (state_rule o (Matching a) rs b (for_record m)))) → OnYes (After o.edition v e c 0 rs) (state_rule o (Matching a) rs b (for_record m))) (same_eq c d g) (own_falls a rs m h k q) (u.unready g)))
      (λ g. unfold state_rule in other_falls (Matching a) rs d g h (change_rule o.edition d m a (free_places rs) (first_result o.exempt rs) (mine d rs)))

  state_falls : (st : State) (rs : List Record) (d : CarAddress) (m : Request) → Fit (mine c rs) → TimedRequest m → QuietRequest d m (outcome_of (state_rule o st rs d m)) → OnYes (After o.edition v e c 0 rs) (state_rule o st rs d m)
  unfolding state_rule
  state_falls Unmatched rs d m h q u = tt
  state_falls (Matching a) rs d (for_record m) h q u = record_falls a rs d m h q u
  state_falls (Matching a) rs d (match_req run x y) h q u = match_falls _ rs d run x y (match_rule run (mine d rs)) h
  state_falls (Matching a) rs d (map_req n) h q u = tt
  state_falls (Joining l b k) rs d (for_record m) h q u = tt
  state_falls (Joining l b k) rs d (match_req run x y) h q u = on_check (After o.edition v e c 0 rs) (same_car d b && same_run run k) 11 _ (λ g. falls_same o.edition v e (mine c rs) h)
  state_falls (Joining l b k) rs d (map_req n) h q u = tt
  state_falls (Matched b) rs d (for_record m) h q u = tt
  state_falls (Matched b) rs d (match_req run x y) h q u = tt
  state_falls (Matched b) rs d (map_req n) h q u = on_map (After o.edition v e c 0 rs) o b rs d n (falls_same o.edition v e (mine c rs) h)

  -- a frame's words, said of what was received
  abbrev own_ask : List ℕ → ℕ → Outcome → Bool
  own_ask f room u = is_kind o.edition slac_parm_req (frame f room) && is_car c (named o.edition (frame f room)) && accepted u

  abbrev own_readied : List ℕ → ℕ → Outcome → Bool
  own_readied f room u = is_kind o.edition validate_req (frame f room) && is_car c (named o.edition (frame f room)) && any_result ready_result (frames_of u)

  quiet_read : (f : List ℕ) (room : ℕ) (y : Received) → FrameAs o.edition f y → (u : Outcome) → own_ask f room u ≡ false → (v ≡ false → own_readied f room u ≡ false) → QuietRequest y.car y.request u
  quiet_read f room y t u a b = record {
    unasked = λ p. ap (λ (x : Bool). x && accepted u) (sym (is_ask_lem o.edition c f room y t)) ∙ own_part o.edition c f room y t (is_kind o.edition slac_parm_req (frame f room)) (accepted u) p a;
    unready = λ p n. ap (λ (x : Bool). x && any_result ready_result (frames_of u)) (sym (is_validate_lem o.edition c f room y t))
        ∙ own_part o.edition c f room y t (is_kind o.edition validate_req (frame f room)) (any_result ready_result (frames_of u)) p (b n);
  }

  frame_falls : (i : Inner) (f : List ℕ) (room : ℕ) (w : Checked Received) → OnYes (FrameAs o.edition f) w → OnYes (λ (y : Received). TimedRequest y.request) w → Fit (mine c i.records)
      → own_ask f room (outcome_of (frame_rule o i w)) ≡ false → (v ≡ false → own_readied f room (outcome_of (frame_rule o i w)) ≡ false)
      → Falls o.edition v e 0 (mine c i.records) (mine c (next i (frame_rule o i w)).records)
  frame_falls i f room (no n) t q h a b = falls_same o.edition v e (mine c i.records) h
  frame_falls i f room (yes y) t q h a b =
      let w : Checked Done = state_rule o i.state i.records y.car y.request in
      next_falls o.edition v e c i w h (state_falls i.state i.records y.car y.request h q (quiet_read f room y t (outcome_of w) a b))

-- ---- every call

pub step_falls : (v : Bool) (e : ℕ) (c : CarAddress) (s : Station) (x : Call) → Reachable s → asks c s x ≡ false → (v ≡ false → is_readied c s x ≡ false) → spans s x ≤ e → Fit (mine c s.records)
    → Falls s.config.edition v e (spans s x) (mine c s.records) (mine c (step s x).records)
unfolding asks is_own_accepted is_readied spans outcome step rule
step_falls v e c s (frame f room) g n m k h =
    let ed = s.config.edition in
    frame_falls v e c s.config (inner s) f room (admitted s.config room (received ed f)) (read_as ed s.config room f) (admitted_timed ed s.config room f) h n m
step_falls v e c s (tick t room) g n m k h =
    call_tick s.config.edition v e c s.config (is_b s.pilot) (inner s) g.held (g.one c) h (elapsed t s.clock) (tick_elapsed (shared s) t room) (tick_time_lem (shared s) t room) k
step_falls v e c s (pilot p t) g n m k h =
    let ed = s.config.edition in
    let w : Turn = turn s.pilot p in
    next_falls ed v e c (inner s) (rule (shared s) (inner s) (pilot p t)) h
    (on_check (After ed v e c 0 s.records) s.config.good 16 (yes (pilot_done (plugged s.pilot) (plugged p) w (inner s))) (λ q. pilot_falls ed v e c (plugged s.pilot) (plugged p) w (inner s) (g.one c) h))
step_falls v e c s terminate g n m k h =
    let ed = s.config.edition in
    next_falls ed v e c (inner s) (rule (shared s) (inner s) terminate) h (on_check (After ed v e c 0 s.records) s.config.good 16 (yes (ended (inner s))) (λ q. freed_falls ed v e c s.records h))
step_falls v e c s link_up g n m k h =
    let ed = s.config.edition in
    next_falls ed v e c (inner s) (rule (shared s) (inner s) link_up) h (on_check (After ed v e c 0 s.records) s.config.good 16 (link_rule s.state s.records) (λ q. link_falls ed v e c s.state s.records h))
