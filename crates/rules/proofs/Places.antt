-- Demand 3, part two: two stations that differ only in the places of their records, and the same call on both.
use Prim.Native.Nat.{ℕ, zero, suc, ◌-◌}
use mathlib.Core.Path.{◌≡◌, refl, sym, ◌∙◌, subst}
use mathlib.Core.Bool.{Bool, true, false, ◌&&◌}
use mathlib.Core.List.{List, [], ◌∷◌, map}
use lib.Dec.{eqb, leb}
use lib.ListN.{length, length-map}
use Rattle.messages.specs.declared.CarAddress.{CarAddress}
use Rattle.messages.specs.declared.RunId.{RunId}
use Rattle.messages.specs.Reading.{Checked, no, yes}
use Rattle.rules.specs.declared.Configuration.{Configuration}
use Rattle.rules.specs.declared.Record.{Record}
use Rattle.rules.specs.declared.State.{State}
use Rattle.rules.specs.declared.State.TheVariants.{Unmatched, Matching, Joining, Matched}
use Rattle.rules.specs.declared.Station.{Station}
use Rattle.rules.specs.declared.Turn.{Turn}
use Rattle.ends.specs.Constants.{joining_time}
use Rattle.ends.specs.Lists.{only, Permuted}
use Rattle.rules.specs.Calls.{Call, frame, tick, pilot, terminate, link_up}
use Rattle.ends.specs.Outcomes.{and_then, next, outcome_of}
use Rattle.rules.specs.Stations.{Shared, Inner, shared, inner, build, Done}
use Rattle.rules.specs.Records.{same_car, same_run, is_held, mine, free_places, none_held, freed}
use Rattle.rules.specs.Replies.{Reply, is_report, is_confirmation}
use Rattle.rules.specs.Received.{Request, for_record, match_req, map_req, Received, received}
use Rattle.rules.specs.Validation.{first_result, turn, toggled_record}
use Rattle.rules.specs.Events.{plugged, is_b, ended, pilot_done, link_rule}
use Rattle.rules.specs.Frames.{Place, Change, change_rule, match_rule, put, changed, confirmed, map_rule, state_rule, admitted, frame_rule}
use Rattle.rules.specs.Ticks.{tick_elapsed, tick_record, tick_frames, frames_of_all, all_frames, admission_done, joining_done, tick_done}
use Rattle.rules.specs.Rules.{rule, step, outcome, after}
use Rattle.rules.specs.Demand3.{events, Alike, AllAlike}
use Rattle.ends.proofs.Logic.{split, OnYes, check_both}
use Rattle.ends.proofs.ListLaws.{permuted_append, joins_permuted, joins_only}
use Rattle.rules.proofs.RecordLaws.{same_eq, Ready, ready_takes, same_put, mine_put_other, length_put, mine_freed, Keeping, same_map, tick_keeping, turn_keeping, same_held, same_none, same_free}
use Rattle.rules.proofs.RuleLaws.{change_ready}
use Rattle.rules.proofs.ReplyLaws.{frames_free}
use Rattle.rules.proofs.ValidationLaws.{same_result}

-- ---- records at other places

pub record Places (rs qs : List Record) : Type 0 where
  pub own : (c : CarAddress) → mine c rs ≡ mine c qs
  pub sizes : length rs ≡ length qs

module _ (rs qs : List Record) (h : Places rs qs) where
  places_free : free_places rs ≡ free_places qs
  places_free = same_free rs qs h.own h.sizes

  places_map : (f : Record → Record) → ((c : CarAddress) → mine c (map f rs) ≡ mine c (map f qs)) → Places (map f rs) (map f qs)
  places_map f e = record { own = e; sizes = length-map rs f ∙ h.sizes ∙ sym (length-map qs f) }

  places_freed : Places (map freed rs) (map freed qs)
  places_freed = places_map freed (λ c. mine_freed c rs ∙ sym (mine_freed c qs))

  places_each : (g : Record → Record) → Keeping g → Places (map g rs) (map g qs)
  places_each g k = places_map g (λ c. same_map g k c rs qs (h.own c))

  places_put : (c : CarAddress) (p : Place) (r : Record) → Ready p (free_places rs) (mine c rs) → Places (put c p r rs) (put c p r qs)
  places_put c p r w = record {
    own = λ d. split (same_car d c)
        (λ e. rw (same_eq d c e) (same_put c r p rs qs (h.own c) w (rw (← places_free) (ready_takes p (free_places rs) (mine c rs) w))))
        (λ e. mine_put_other c r p d rs e ∙ h.own d ∙ sym (mine_put_other c r p d qs e));
    sizes = length_put c r p rs ∙ h.sizes ∙ sym (length_put c r p qs);
  }

  places_sort : (p : Reply → Bool) (o : Configuration) (b : Bool) (e : ℕ) → Permuted (frames_of_all p o b e rs) (frames_of_all p o b e qs)
  places_sort p o b e =
      rw (joins_only (tick_frames p o b e) is_held (frames_free p o b e) rs, joins_only (tick_frames p o b e) is_held (frames_free p o b e) qs)
      (joins_permuted (tick_frames p o b e) (only is_held rs) (only is_held qs) (same_held rs qs h.own))

  -- a tick's frames are the same, in another order
  places_frames : (o : Configuration) (b : Bool) (e : ℕ) → Permuted (all_frames o b e rs) (all_frames o b e qs)
  unfolding all_frames
  places_frames o b e =
      permuted_append (frames_of_all is_report o b e rs) (frames_of_all is_report o b e qs) (frames_of_all is_confirmation o b e rs) (frames_of_all is_confirmation o b e qs)
      (places_sort is_report o b e) (places_sort is_confirmation o b e)

-- ---- one call on both

-- state and records: the same state, the records at other places
pub record Moved (i j : Inner) : Type 0 where
  pub places : Places i.records j.records
  pub states : i.state ≡ j.state

-- what the call x does on both
record Follows (x : Call) (i j : Inner) (a b : Checked Done) : Type 0 where
  moved : Moved (next i a) (next j b)
  gave : Alike x (outcome_of a) (outcome_of b)

-- where it gives the very same
record Agrees (i j : Inner) (a b : Checked Done) : Type 0 where
  moved : Moved (next i a) (next j b)
  gave : outcome_of a ≡ outcome_of b

module _ (st : State) (rs qs : List Record) (h : Places rs qs) where
  abbrev first : Inner
  first = record { state = st; records = rs }

  abbrev second : Inner
  second = record { state = st; records = qs }

  here : Moved first second
  here = record { places = h; states = refl }

  refuse : (n : ℕ) → Agrees first second (no n) (no n)
  refuse n = record { moved = here; gave = refl }

  agree_changed : (o : Configuration) (c : CarAddress) (w : Checked Change) → OnYes (λ (x : Change). Ready x.place (free_places rs) (mine c rs)) w
      → Agrees first second (and_then w (λ (x : Change). yes (changed o st rs c x))) (and_then w (λ (x : Change). yes (changed o st qs c x)))
  agree_changed o c (no n) r = refuse n
  agree_changed o c (yes x) r = record { moved = record { places = places_put rs qs h c x.place x.kept r; states = refl }; gave = refl }

  agree_matched : (o : Configuration) (c : CarAddress) (run : RunId) (x y : List ℕ) (w : Checked (Unit {0}))
      → Agrees first second (and_then w (λ (v : Unit {0}). yes (confirmed o (Joining joining_time c run) (map freed rs) c run x y)))
      (and_then w (λ (v : Unit {0}). yes (confirmed o (Joining joining_time c run) (map freed qs) c run x y)))
  agree_matched o c run x y (no n) = refuse n
  agree_matched o c run x y (yes v) = record { moved = record { places = places_freed rs qs h; states = refl }; gave = refl }

module _ (o : Configuration) (rs qs : List Record) (h : Places rs qs) where
  agree_state : (st : State) (c : CarAddress) (m : Request) → Agrees (first st rs qs h) (second st rs qs h) (state_rule o st rs c m) (state_rule o st qs c m)
  unfolding state_rule map_rule
  agree_state Unmatched c m = refuse Unmatched rs qs h 8
  agree_state (Matching a) c (for_record m) =
      rw (← h.own c, ← places_free rs qs h, ← same_result o.exempt rs qs h.own)
      (agree_changed (Matching a) rs qs h o c (change_rule o.edition c m a (free_places rs) (first_result o.exempt rs) (mine c rs)) (change_ready o.edition c m a (free_places rs) (first_result o.exempt rs) (mine c rs)))
  agree_state (Matching a) c (match_req run x y) = rw (← h.own c) (agree_matched (Matching a) rs qs h o c run x y (match_rule run (mine c rs)))
  agree_state (Matching a) c (map_req n) = refuse (Matching a) rs qs h 8
  agree_state (Joining l d k) c (for_record m) = refuse (Joining l d k) rs qs h 8
  agree_state (Joining l d k) c (match_req run x y) =
      check_both (Agrees (first (Joining l d k) rs qs h) (second (Joining l d k) rs qs h)) (same_car c d && same_run run k) 11
      (yes (confirmed o (Joining l d k) rs c run x y)) (yes (confirmed o (Joining l d k) qs c run x y)) (refuse (Joining l d k) rs qs h 11)
      (λ e. record { moved = here (Joining l d k) rs qs h; gave = refl })
  agree_state (Joining l d k) c (map_req n) = refuse (Joining l d k) rs qs h 8
  agree_state (Matched d) c (for_record m) = refuse (Matched d) rs qs h 8
  agree_state (Matched d) c (match_req run x y) = refuse (Matched d) rs qs h 8
  agree_state (Matched d) c (map_req n) =
      check_both (Agrees (first (Matched d) rs qs h) (second (Matched d) rs qs h)) (same_car c d) 11 _ _ (refuse (Matched d) rs qs h 11)
      (λ e. check_both (Agrees (first (Matched d) rs qs h) (second (Matched d) rs qs h)) (eqb n o.carriers) 24 _ _ (refuse (Matched d) rs qs h 24)
      (λ k. record { moved = here (Matched d) rs qs h; gave = refl }))

  agree_frame : (st : State) (w : Checked Received) → Agrees (first st rs qs h) (second st rs qs h) (frame_rule o (first st rs qs h) w) (frame_rule o (second st rs qs h) w)
  agree_frame st (no n) = refuse st rs qs h n
  agree_frame st (yes y) = agree_state st y.car y.request

  agree_pilot : (st : State) (was is : Bool) (w : Turn) → Agrees (first st rs qs h) (second st rs qs h) (yes (pilot_done was is w (first st rs qs h))) (yes (pilot_done was is w (second st rs qs h)))
  unfolding pilot_done
  agree_pilot st false true w = record { moved = record { places = places_freed rs qs h; states = refl }; gave = refl }
  agree_pilot st true false w = record { moved = record { places = places_freed rs qs h; states = refl }; gave = refl }
  agree_pilot st false false w = record { moved = record { places = places_freed rs qs h; states = refl }; gave = refl }
  agree_pilot st true true w = record { moved = record { places = places_each rs qs h (toggled_record w) (turn_keeping w); states = refl }; gave = refl }

  agree_link : (st : State) → Agrees (first st rs qs h) (second st rs qs h) (link_rule st rs) (link_rule st qs)
  unfolding link_rule
  agree_link Unmatched = refuse Unmatched rs qs h 8
  agree_link (Matching a) = refuse (Matching a) rs qs h 8
  agree_link (Joining l c run) = record { moved = record { places = h; states = refl }; gave = refl }
  agree_link (Matched d) = refuse (Matched d) rs qs h 8

-- ---- ticks

tick_admission : (t room : ℕ) (i j : Inner) (a : ℕ) (b : Bool) (rs qs : List Record) (fs gs : List (List ℕ)) → Places rs qs → Permuted fs gs
    → Follows (tick t room) i j (yes (admission_done a b rs fs)) (yes (admission_done a b qs gs))
unfolding admission_done
tick_admission t room i j zero true rs qs fs gs h p = record { moved = record { places = h; states = refl }; gave = (p, refl) }
tick_admission t room i j zero false rs qs fs gs h p = record { moved = record { places = h; states = refl }; gave = (p, refl) }
tick_admission t room i j (suc a) b rs qs fs gs h p = record { moved = record { places = h; states = refl }; gave = (p, refl) }

tick_joining : (t room : ℕ) (i j : Inner) (b : Bool) (l : ℕ) (c : CarAddress) (run : RunId) (rs qs : List Record) → Places rs qs
    → Follows (tick t room) i j (yes (joining_done b l c run rs)) (yes (joining_done b l c run qs))
unfolding joining_done
tick_joining t room i j true l c run rs qs h = record { moved = record { places = h; states = refl }; gave = (refl, refl) }
tick_joining t room i j false l c run rs qs h = record { moved = record { places = h; states = refl }; gave = (refl, refl) }

tick_state : (t room : ℕ) (o : Configuration) (b : Bool) (e : ℕ) (i j : Inner) (st : State) (rs qs : List Record) → Places rs qs → Follows (tick t room) i j (yes (tick_done o b e st rs)) (yes (tick_done o b e st qs))
unfolding tick_done
tick_state t room o b e i j Unmatched rs qs h = record { moved = record { places = h; states = refl }; gave = (refl, refl) }
tick_state t room o b e i j (Matching a) rs qs h =
    let k : Places (map (tick_record b e) rs) (map (tick_record b e) qs) = places_each rs qs h (tick_record b e) (tick_keeping b e) in
    rw (← same_none (map (tick_record b e) rs) (map (tick_record b e) qs) k.own)
    (tick_admission t room i j (a - e) (none_held (map (tick_record b e) rs)) (map (tick_record b e) rs) (map (tick_record b e) qs) (all_frames o b e rs) (all_frames o b e qs) k (places_frames rs qs h o b e))
tick_state t room o b e i j (Joining l c run) rs qs h = tick_joining t room i j (leb l e) (l - e) c run rs qs h
tick_state t room o b e i j (Matched c) rs qs h = record { moved = record { places = h; states = refl }; gave = (refl, refl) }

tick_elapsed_lem : (t room : ℕ) (o : Configuration) (b : Bool) (st : State) (rs qs : List Record) → (h : Places rs qs) → (w : Checked ℕ)
    → Follows (tick t room) (first st rs qs h) (second st rs qs h) (and_then w (λ (e : ℕ). yes (tick_done o b e st rs))) (and_then w (λ (e : ℕ). yes (tick_done o b e st qs)))
tick_elapsed_lem t room o b st rs qs h (no n) = record { moved = here st rs qs h; gave = refl }
tick_elapsed_lem t room o b st rs qs h (yes e) = tick_state t room o b e (first st rs qs h) (second st rs qs h) st rs qs h

-- ---- every call

follows_in : (o : Shared) (st : State) (rs qs : List Record) (h : Places rs qs) (x : Call) → Follows x (first st rs qs h) (second st rs qs h) (rule o (first st rs qs h) x) (rule o (second st rs qs h) x)
unfolding rule
follows_in o st rs qs h (frame s room) = let a = agree_frame o.config rs qs h st (admitted o.config room (received o.config.edition s)) in record { moved = a.moved; gave = a.gave }
follows_in o st rs qs h (tick t room) = tick_elapsed_lem t room o.config (is_b o.pilot) st rs qs h (tick_elapsed o t room)
follows_in o st rs qs h (pilot p t) =
    let a = check_both (Agrees (first st rs qs h) (second st rs qs h)) o.config.good 16 _ _ (refuse st rs qs h 16) (λ g. agree_pilot o.config rs qs h st (plugged o.pilot) (plugged p) (turn o.pilot p)) in
    record { moved = a.moved; gave = a.gave }
follows_in o st rs qs h terminate =
    let a = check_both (Agrees (first st rs qs h) (second st rs qs h)) o.config.good 16 (yes (ended (first st rs qs h))) (yes (ended (second st rs qs h))) (refuse st rs qs h 16)
    (λ g. record { moved = record { places = places_freed rs qs h; states = refl }; gave = refl }) in
    record { moved = a.moved; gave = a.gave }
follows_in o st rs qs h link_up =
    let a = check_both (Agrees (first st rs qs h) (second st rs qs h)) o.config.good 16 _ _ (refuse st rs qs h 16) (λ g. agree_link o.config rs qs h st) in
    record { moved = a.moved; gave = a.gave }

-- ---- stations

-- two stations that differ only in the places of their records
pub record Like (s t : Station) : Type 0 where
  pub places : Places s.records t.records
  pub states : s.state ≡ t.state
  pub shares : shared s ≡ shared t

pub like_refl : (s : Station) → Like s s
like_refl s = record { places = record { own = λ c. refl; sizes = refl }; states = refl; shares = refl }

pub like_trans : (s t u : Station) → Like s t → Like t u → Like s u
like_trans s t u p q = record {
  places = record { own = λ c. p.places.own c ∙ q.places.own c; sizes = p.places.sizes ∙ q.places.sizes };
  states = p.states ∙ q.states;
  shares = p.shares ∙ q.shares;
}

pub record Both (x : Call) (s t : Station) : Type 0 where
  pub like : Like (step s x) (step t x)
  pub gave : Alike x (outcome s x) (outcome t x)

both_in : (o : Shared) (st : State) (rs qs : List Record) (h : Places rs qs) (x : Call) → Both x (build o (first st rs qs h)) (build o (second st rs qs h))
unfolding step outcome
both_in o st rs qs h x =
    let f = follows_in o st rs qs h x in
    record { like = record { places = f.moved.places; states = f.moved.states; shares = refl }; gave = f.gave }

-- the same call on both
pub follows : (s t : Station) (x : Call) → Like s t → Both x s t
follows s t x h =
    subst (λ (o : Shared). Both x s (build o (inner t))) h.shares
    (subst (λ (st : State). Both x s (build (shared s) (record { state = st; records = t.records }))) h.states
    (both_in (shared s) s.state s.records t.records h.places x))

-- the same calls on both
pub follows_all : (s t : Station) (xs : List Call) → Like s t → AllAlike (events s xs) (events t xs) × Like (after s xs) (after t xs)
unfolding events
follows_all s t [] h = (tt, h)
follows_all s t (x ∷ xs) h =
    let b : Both x s t = follows s t x h in
    let r : AllAlike (events (step s x) xs) (events (step t x) xs) × Like (after (step s x) xs) (after (step t x) xs) = follows_all (step s x) (step t x) xs b.like in
    ((b.gave, r.0), r.1)
