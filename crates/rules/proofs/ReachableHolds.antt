-- Every station that calls can reach from a configured one is as specs/Reachable says.
use Prim.Native.Nat.{ℕ, zero, suc, ◌-◌}
use mathlib.Core.Path.{◌≡◌, refl, sym, ◌∙◌, ap, subst}
use mathlib.Core.Bool.{Bool, true, false, cond, ◌&&◌}
use mathlib.Core.List.{List, [], map}
use native.Mathlib.Omega.{arith}
use lib.Dec.{leb}
use lib.ListN.{replicate}
use Rattle.messages.specs.declared.CarAddress.{CarAddress}
use Rattle.messages.specs.declared.Edition.{Edition}
use Rattle.messages.specs.declared.ModemAddress.{ModemAddress}
use Rattle.messages.specs.declared.Nid.{Nid}
use Rattle.messages.specs.declared.Nmk.{Nmk}
use Rattle.messages.specs.declared.RunId.{RunId}
use Rattle.messages.specs.declared.StationAddress.{StationAddress}
use Rattle.messages.specs.Reading.{Checked, no, yes, check}
use Rattle.rules.specs.declared.Configuration.{Configuration}
use Rattle.rules.specs.declared.Pilot.{Pilot}
use Rattle.rules.specs.declared.Record.{Record}
use Rattle.rules.specs.declared.State.{State}
use Rattle.rules.specs.declared.State.TheVariants.{Unmatched, Matching, Joining, Matched}
use Rattle.rules.specs.declared.Station.{Station}
use Rattle.rules.specs.declared.Turn.{Turn}
use Rattle.rules.specs.Constants.{record_count}
use Rattle.rules.specs.Calls.{Call, frame, tick, pilot, terminate, link_up}
use Rattle.ends.specs.Lists.{All}
use Rattle.ends.specs.Outcomes.{and_then, next}
use Rattle.rules.specs.Stations.{Shared, Inner, shared, inner, Done}
use Rattle.rules.specs.Records.{same_car, same_run, mine, free_places, none_held, freed}
use Rattle.rules.specs.Received.{Request, for_record, match_req, map_req, Received, received}
use Rattle.rules.specs.Validation.{first_result, turn, toggled_record}
use Rattle.rules.specs.Events.{plugged, is_b, ended, pilot_done, link_rule}
use Rattle.rules.specs.Frames.{Change, change_rule, match_rule, changed, confirmed, state_rule, admitted, frame_rule}
use Rattle.rules.specs.Ticks.{tick_elapsed, tick_record, all_frames, admission_done, joining_done, tick_done}
use Rattle.rules.specs.Rules.{free_record, configured, rule, takes_reading, takes_pilot, shared_step, step, after}
use Rattle.rules.specs.Reachable.{HeldIn, Reachable}
use Rattle.ends.proofs.Logic.{clash, OnYes, on_check}
use Rattle.rules.proofs.RecordLaws.{Keeping, turn_keeping, mine_none, none_freed, none_each}
use Rattle.rules.proofs.ValidationLaws.{free_busy}
use Rattle.rules.proofs.Reached.{one_next}
use Rattle.rules.proofs.Always.{after_all}
use Rattle.rules.proofs.RuleLaws.{on_map}
use Rattle.rules.proofs.OneValidates.{one_validates}
use Rattle.rules.proofs.InvariantKept.{config_same}
use Rattle.rules.proofs.SpreadLaws.{Wide, step_wide, wide_free, all_ordered}
use Rattle.rules.proofs.Refusals.{bad_refuses}
use Rattle.rules.proofs.Demand3Holds.{one_record, mine_free}

-- ---- records are held in Matching only

abbrev Held : Done → Type 0
Held d = HeldIn d.after.state d.after.records

held_change : (o : Configuration) (a : ℕ) (rs : List Record) (c : CarAddress) (w : Checked Change) → OnYes Held (and_then w (λ (x : Change). yes (changed o (Matching a) rs c x)))
held_change o a rs c (no n) = tt
held_change o a rs c (yes x) = tt

held_match : (o : Configuration) (l : ℕ) (rs : List Record) (c : CarAddress) (run : RunId) (x y : List ℕ) (w : Checked (Unit {0})) → OnYes Held (and_then w (λ (u : Unit {0}). yes (confirmed o (Joining l c run) (map freed rs) c run x y)))
held_match o l rs c run x y (no n) = tt
held_match o l rs c run x y (yes u) = none_freed rs

held_state : (o : Configuration) (st : State) (rs : List Record) (c : CarAddress) (m : Request) → HeldIn st rs → OnYes Held (state_rule o st rs c m)
unfolding state_rule
held_state o Unmatched rs c m h = tt
held_state o (Matching a) rs c (for_record m) h = held_change o a rs c (change_rule o.edition c m a (free_places rs) (first_result o.exempt rs) (mine c rs))
held_state o (Matching a) rs c (match_req run x y) h = held_match o _ rs c run x y (match_rule run (mine c rs))
held_state o (Matching a) rs c (map_req n) h = tt
held_state o (Joining l d k) rs c (for_record m) h = tt
held_state o (Joining l d k) rs c (match_req run x y) h = on_check Held (same_car c d && same_run run k) 11 (yes (confirmed o (Joining l d k) rs c run x y)) (λ e. h)
held_state o (Joining l d k) rs c (map_req n) h = tt
held_state o (Matched d) rs c (for_record m) h = tt
held_state o (Matched d) rs c (match_req run x y) h = tt
held_state o (Matched d) rs c (map_req n) h = on_map Held o d rs c n h

held_frame : (o : Configuration) (i : Inner) (w : Checked Received) → HeldIn i.state i.records → OnYes Held (frame_rule o i w)
held_frame o i (no n) h = tt
held_frame o i (yes y) h = held_state o i.state i.records y.car y.request h

held_admission : (a : ℕ) (b : Bool) (rs : List Record) (fs : List (List ℕ)) → none_held rs ≡ b → Held (admission_done a b rs fs)
unfolding admission_done
held_admission zero true rs fs e = e
held_admission zero false rs fs e = tt
held_admission (suc a) b rs fs e = tt

held_joining : (b : Bool) (l : ℕ) (c : CarAddress) (run : RunId) (rs : List Record) → none_held rs ≡ true → Held (joining_done b l c run rs)
unfolding joining_done
held_joining true l c run rs h = h
held_joining false l c run rs h = h

held_tick : (o : Configuration) (b : Bool) (e : ℕ) (st : State) (rs : List Record) → HeldIn st rs → Held (tick_done o b e st rs)
unfolding tick_done
held_tick o b e Unmatched rs h = h
held_tick o b e (Matching a) rs h = held_admission (a - e) (none_held (map (tick_record b e) rs)) (map (tick_record b e) rs) (all_frames o b e rs) refl
held_tick o b e (Joining l c run) rs h = held_joining (leb l e) (l - e) c run rs h
held_tick o b e (Matched c) rs h = h

held_elapsed : (o : Configuration) (b : Bool) (i : Inner) (w : Checked ℕ) → HeldIn i.state i.records → OnYes Held (and_then w (λ (e : ℕ). yes (tick_done o b e i.state i.records)))
held_elapsed o b i (no n) h = tt
held_elapsed o b i (yes e) h = held_tick o b e i.state i.records h

-- no record held, none held after a change of each
held_each : (g : Record → Record) → Keeping g → (st : State) (rs : List Record) → HeldIn st rs → HeldIn st (map g rs)
held_each g k Unmatched rs h = none_each g k rs h
held_each g k (Matching a) rs h = tt
held_each g k (Joining l c run) rs h = none_each g k rs h
held_each g k (Matched c) rs h = none_each g k rs h

held_pilot : (was is : Bool) (w : Turn) (i : Inner) → HeldIn i.state i.records → Held (pilot_done was is w i)
unfolding pilot_done
held_pilot false true w i h = tt
held_pilot true false w i h = none_freed i.records
held_pilot false false w i h = none_freed i.records
held_pilot true true w i h = held_each (toggled_record w) (turn_keeping w) i.state i.records h

held_link : (st : State) (rs : List Record) → HeldIn st rs → OnYes Held (link_rule st rs)
unfolding link_rule
held_link Unmatched rs h = tt
held_link (Matching a) rs h = tt
held_link (Joining l c run) rs h = h
held_link (Matched c) rs h = tt

held_rule : (o : Shared) (i : Inner) (x : Call) → HeldIn i.state i.records → OnYes Held (rule o i x)
unfolding rule
held_rule o i (frame s room) h = held_frame o.config i (admitted o.config room (received o.config.edition s)) h
held_rule o i (tick t room) h = held_elapsed o.config (is_b o.pilot) i (tick_elapsed o t room) h
held_rule o i (pilot p t) h = on_check Held o.config.good 16 (yes (pilot_done (plugged o.pilot) (plugged p) (turn o.pilot p) i)) (λ g. held_pilot (plugged o.pilot) (plugged p) (turn o.pilot p) i h)
held_rule o i terminate h = on_check Held o.config.good 16 (yes (ended i)) (λ g. none_freed i.records)
held_rule o i link_up h = on_check Held o.config.good 16 (link_rule i.state i.records) (λ g. held_link i.state i.records h)

-- ---- where the station is Unmatched

abbrev Stays : Done → Type 0
Stays d = d.after.state ≡ Unmatched

unmatched_frame : (o : Configuration) (rs : List Record) (w : Checked Received) → OnYes Stays (frame_rule o (record { state = Unmatched; records = rs }) w)
unfolding state_rule
unmatched_frame o rs (no n) = tt
unmatched_frame o rs (yes y) = tt

unmatched_elapsed : (o : Configuration) (b : Bool) (rs : List Record) (w : Checked ℕ) → OnYes Stays (and_then w (λ (e : ℕ). yes (tick_done o b e Unmatched rs)))
unfolding tick_done
unmatched_elapsed o b rs (no n) = tt
unmatched_elapsed o b rs (yes e) = refl

unmatched_pilot : (g was is : Bool) (w : Turn) (q : Pilot) (t : ℕ) (o : Shared) (rs : List Record) → plugged q ≡ is → plugged (cond g (takes_pilot q t o) o).pilot ≡ false
    → OnYes Stays (check g 16 (yes (pilot_done was is w (record { state = Unmatched; records = rs }))))
unfolding pilot_done takes_pilot
unmatched_pilot false was is w q t o rs e p = tt
unmatched_pilot true true true w q t o rs e p = refl
unmatched_pilot true false true w q t o rs e p = clash (plugged q) e p
unmatched_pilot true true false w q t o rs e p = refl
unmatched_pilot true false false w q t o rs e p = refl

-- every call but a plug-in leaves it so
unmatched_rule : (o : Shared) (rs : List Record) (x : Call) → plugged (shared_step o x).pilot ≡ false → OnYes Stays (rule o (record { state = Unmatched; records = rs }) x)
unfolding rule link_rule shared_step
unmatched_rule o rs (frame s room) p = unmatched_frame o.config rs (admitted o.config room (received o.config.edition s))
unmatched_rule o rs (tick t room) p = unmatched_elapsed o.config (is_b o.pilot) rs (tick_elapsed o t room)
unmatched_rule o rs (pilot q t) p = unmatched_pilot o.config.good (plugged o.pilot) (plugged q) (turn o.pilot q) q t o rs refl p
unmatched_rule o rs terminate p = on_check Stays o.config.good 16 (yes (ended (record { state = Unmatched; records = rs }))) (λ g. refl)
unmatched_rule o rs link_up p = on_check Stays o.config.good 16 (no 8) (λ g. tt)

-- a pilot loss makes it so
loss_pilot : (g was is : Bool) (w : Turn) (q : Pilot) (t : ℕ) (o : Shared) (i : Inner) → plugged q ≡ is → plugged (cond g (takes_pilot q t o) o).pilot ≡ false → (plugged o.pilot ≡ false → i.state ≡ Unmatched)
    → (next i (check g 16 (yes (pilot_done was is w i)))).state ≡ Unmatched
unfolding pilot_done takes_pilot
loss_pilot false was is w q t o i e p h = h p
loss_pilot true true true w q t o i e p h = clash (plugged q) e p
loss_pilot true false true w q t o i e p h = clash (plugged q) e p
loss_pilot true true false w q t o i e p h = refl
loss_pilot true false false w q t o i e p h = refl

on_next : (i : Inner) (w : Checked Done) → i.state ≡ Unmatched → OnYes Stays w → (next i w).state ≡ Unmatched
on_next i (no n) e h = e
on_next i (yes d) e h = h

stays_unmatched : (o : Shared) (i : Inner) (x : Call) → plugged (shared_step o x).pilot ≡ false → i.state ≡ Unmatched → (next i (rule o i x)).state ≡ Unmatched
stays_unmatched o i x p e = on_next i (rule o i x) e (subst (λ (st : State). OnYes Stays (rule o (record { state = st; records = i.records }) x)) (sym e) (unmatched_rule o i.records x p))

same_pilot : (w : Checked ℕ) (t : ℕ) (o : Shared) → (takes_reading w t o).pilot ≡ o.pilot
unfolding takes_reading
same_pilot (no n) t o = refl
same_pilot (yes e) t o = refl

unplugged_next : (o : Shared) (i : Inner) (x : Call) → (plugged o.pilot ≡ false → i.state ≡ Unmatched) → plugged (shared_step o x).pilot ≡ false → (next i (rule o i x)).state ≡ Unmatched
unfolding rule shared_step
unplugged_next o i (frame s room) h p = stays_unmatched o i (frame s room) p (h p)
unplugged_next o i (tick t room) h p = stays_unmatched o i (tick t room) p (h (ap plugged (sym (same_pilot (tick_elapsed o t room) t o)) ∙ p))
unplugged_next o i (pilot q t) h p = loss_pilot o.config.good (plugged o.pilot) (plugged q) (turn o.pilot q) q t o i refl p h
unplugged_next o i terminate h p = stays_unmatched o i terminate p (h p)
unplugged_next o i link_up h p = stays_unmatched o i link_up p (h p)

-- ---- every station

held_next : (i : Inner) (w : Checked Done) → HeldIn i.state i.records → OnYes Held w → HeldIn (next i w).state (next i w).records
held_next i (no n) h k = h
held_next i (yes d) h k = k

step_reaches : (s : Station) (x : Call) → Reachable s → All Wide (step s x).records → Reachable (step s x)
unfolding step
step_reaches s x h w = record {
  one = one_next (shared s) (inner s) x h.one;
  held = held_next (inner s) (rule (shared s) (inner s) x) h.held (held_rule (shared s) (inner s) x h.held);
  validating = one_validates (shared s) (inner s) x h.validating;
  unplugged = unplugged_next (shared s) (inner s) x h.unplugged;
  bad = λ g.
      let b : s.config.good ≡ false = ap (λ (o : Configuration). o.good) (sym (config_same (shared s) x)) ∙ g in
      ap (λ (w : Checked Done). (next (inner s) w).state) (bad_refuses (shared s) (inner s) x b) ∙ h.bad b;
  ordered = all_ordered (step s x).records w;
}

configured_reachable : (a : StationAddress) (m : ModemAddress) (nid : Nid) (nmk : Nmk) (exempt : Bool) (e : Edition) (carriers : ℕ) → Reachable (configured a m nid nmk exempt e carriers)
unfolding configured
configured_reachable a m nid nmk exempt e carriers =
    let rs = replicate record_count free_record in
    let h : none_held rs ≡ true = mine_none _ (λ c. mine_free c record_count) in
    record { one = λ c. one_record a m nid nmk exempt e carriers [] c; held = h; validating = omega (arith, free_busy rs h); unplugged = λ p. refl; bad = λ g. refl; ordered = all_ordered rs (wide_free record_count) }

-- reachable, and what the order of each group's values rests on
abbrev pub Reaches : Station → Type 0
Reaches s = Reachable s × All Wide s.records

pub reaches_next : (s : Station) (x : Call) → Reaches s → Reaches (step s x)
reaches_next s x h = let w = step_wide s x h.1 in (step_reaches s x h.0 w, w)

pub configured_reaches : (a : StationAddress) (m : ModemAddress) (nid : Nid) (nmk : Nmk) (exempt : Bool) (e : Edition) (carriers : ℕ) → Reaches (configured a m nid nmk exempt e carriers)
unfolding configured
configured_reaches a m nid nmk exempt e carriers = (configured_reachable a m nid nmk exempt e carriers, wide_free record_count)

pub reachable : (address : StationAddress) (modem : ModemAddress) (nid : Nid) (nmk : Nmk) (exempt : Bool) (e : Edition) (carriers : ℕ) (xs : List Call) → Reachable (after (configured address modem nid nmk exempt e carriers) xs)
reachable a m nid nmk exempt e carriers xs = (after_all Reaches reaches_next (configured a m nid nmk exempt e carriers) xs (configured_reaches a m nid nmk exempt e carriers)).0
