-- What the four changes of the record list keep, every call keeps.
use Prim.Native.Nat.{ℕ, zero, suc, ◌-◌}
use mathlib.Core.Path.{◌≡◌, refl}
use mathlib.Core.Bool.{Bool, true, false, ◌&&◌}
use mathlib.Core.List.{List, [], ◌∷◌, map}
use lib.Dec.{leb}
use Rattle.messages.specs.declared.CarAddress.{CarAddress}
use Rattle.messages.specs.declared.RunId.{RunId}
use Rattle.messages.specs.Table.{is_unicast}
use Rattle.messages.specs.Reading.{Checked, no, yes}
use Rattle.rules.specs.declared.Configuration.{Configuration}
use Rattle.rules.specs.declared.Record.{Record}
use Rattle.rules.specs.declared.State.{State}
use Rattle.rules.specs.declared.State.TheVariants.{Unmatched, Matching, Joining, Matched}
use Rattle.rules.specs.declared.Station.{Station}
use Rattle.rules.specs.declared.Turn.{Turn}
use Rattle.rules.specs.Calls.{Call, frame, tick, pilot, terminate, link_up}
use Rattle.ends.specs.Outcomes.{and_then, next}
use Rattle.rules.specs.Stations.{Shared, Inner, Done}
use Rattle.rules.specs.Records.{same_car, same_run, mine, free_places, none_held, freed}
use Rattle.rules.specs.Received.{RecordMessage, Request, for_record, match_req, map_req, Received, received}
use Rattle.rules.specs.Validation.{first_result, turn, toggled_record}
use Rattle.rules.specs.Events.{plugged, is_b, ended, pilot_done, link_rule}
use Rattle.rules.specs.Frames.{Change, change_rule, match_rule, put, changed, confirmed, state_rule, admitted, frame_rule}
use Rattle.rules.specs.Ticks.{tick_elapsed, tick_record, all_frames, admission_done, joining_done, tick_done}
use Rattle.rules.specs.Rules.{rule, step, after}
use Rattle.ends.proofs.Logic.{OnYes, on_check}
use Rattle.rules.proofs.ReceivedLaws.{FrameAs, read_as}
use Rattle.rules.proofs.RuleLaws.{on_map}

-- what a frame's request must meet, where it is not refused before a record is looked at
abbrev pub Meets : (Request → Type 0) → Configuration → Call → Type 0
Meets F o (frame s room) = OnYes (λ (y : Received). F y.request) (admitted o room (received o.edition s))
Meets F o (tick t room) = Unit {0}
Meets F o (pilot p t) = Unit {0}
Meets F o terminate = Unit {0}
Meets F o link_up = Unit {0}

module _ (P : List Record → Type 0) (F : Request → Type 0) (o : Shared)
    (puts : (c : CarAddress) → is_unicast c.0 ≡ true → (m : RecordMessage) → F (for_record m) → (a : ℕ) (exempt : Bool) (rs : List Record) → P rs
    → OnYes (λ (x : Change). P (put c x.place x.kept rs)) (change_rule o.config.edition c m a (free_places rs) (first_result exempt rs) (mine c rs)))
    (ticks : (b : Bool) (e : ℕ) (rs : List Record) → P rs → P (map (tick_record b e) rs))
    (turns : (w : Turn) (rs : List Record) → P rs → P (map (toggled_record w) rs))
    (frees : (rs : List Record) → P rs → P (map freed rs)) where
  abbrev Keeps : Done → Type 0
  Keeps d = P d.after.records

  of_change : (st : State) (rs : List Record) (c : CarAddress) (w : Checked Change) → OnYes (λ (x : Change). P (put c x.place x.kept rs)) w
      → OnYes Keeps (and_then w (λ (x : Change). yes (changed o.config st rs c x)))
  of_change st rs c (no n) h = tt
  of_change st rs c (yes x) h = h

  of_match : (st : State) (rs : List Record) (c : CarAddress) (run : RunId) (a b : List ℕ) (w : Checked (Unit {0})) → P rs
      → OnYes Keeps (and_then w (λ (x : Unit {0}). yes (confirmed o.config st (map freed rs) c run a b)))
  of_match st rs c run a b (no n) h = tt
  of_match st rs c run a b (yes x) h = frees rs h

  of_state : (st : State) (rs : List Record) (c : CarAddress) (m : Request) → is_unicast c.0 ≡ true → F m → P rs → OnYes Keeps (state_rule o.config st rs c m)
  unfolding state_rule
  of_state Unmatched rs c m u f h = tt
  of_state (Matching a) rs c (for_record m) u f h = of_change _ rs c (change_rule o.config.edition c m a (free_places rs) (first_result o.config.exempt rs) (mine c rs)) (puts c u m f a o.config.exempt rs h)
  of_state (Matching t) rs c (match_req run a b) u f h = of_match _ rs c run a b (match_rule run (mine c rs)) h
  of_state (Matching t) rs c (map_req n) u f h = tt
  of_state (Joining l d k) rs c (for_record m) u f h = tt
  of_state (Joining l d k) rs c (match_req run a b) u f h = on_check Keeps (same_car c d && same_run run k) 11 _ (λ e. h)
  of_state (Joining l d k) rs c (map_req n) u f h = tt
  of_state (Matched d) rs c (for_record m) u f h = tt
  of_state (Matched d) rs c (match_req run a b) u f h = tt
  of_state (Matched d) rs c (map_req n) u f h = on_map Keeps o.config d rs c n h

  of_frame : (i : Inner) (s : List ℕ) (w : Checked Received) → OnYes (FrameAs o.config.edition s) w → OnYes (λ (y : Received). F y.request) w → P i.records
      → OnYes Keeps (frame_rule o.config i w)
  of_frame i s (no n) t f h = tt
  of_frame i s (yes y) t f h = of_state i.state i.records y.car y.request t.unicast f h

  of_admission : (a : ℕ) (b : Bool) (rs : List Record) (fs : List (List ℕ)) → P rs → Keeps (admission_done a b rs fs)
  unfolding admission_done
  of_admission zero true rs fs h = h
  of_admission zero false rs fs h = h
  of_admission (suc a) b rs fs h = h

  of_joining : (b : Bool) (l : ℕ) (c : CarAddress) (run : RunId) (rs : List Record) → P rs → Keeps (joining_done b l c run rs)
  unfolding joining_done
  of_joining true l c run rs h = h
  of_joining false l c run rs h = h

  of_tick : (b : Bool) (e : ℕ) (st : State) (rs : List Record) → P rs → Keeps (tick_done o.config b e st rs)
  unfolding tick_done
  of_tick b e Unmatched rs h = h
  of_tick b e (Matching a) rs h = of_admission (a - e) (none_held (map (tick_record b e) rs)) (map (tick_record b e) rs) (all_frames o.config b e rs) (ticks b e rs h)
  of_tick b e (Joining l c run) rs h = of_joining (leb l e) (l - e) c run rs h
  of_tick b e (Matched c) rs h = h

  of_elapsed : (b : Bool) (i : Inner) (w : Checked ℕ) → P i.records → OnYes Keeps (and_then w (λ (e : ℕ). yes (tick_done o.config b e i.state i.records)))
  of_elapsed b i (no n) h = tt
  of_elapsed b i (yes e) h = of_tick b e i.state i.records h

  of_pilot : (b p : Bool) (w : Turn) (i : Inner) → P i.records → Keeps (pilot_done b p w i)
  unfolding pilot_done
  of_pilot false true w i h = frees i.records h
  of_pilot true false w i h = frees i.records h
  of_pilot false false w i h = frees i.records h
  of_pilot true true w i h = turns w i.records h

  of_link : (st : State) (rs : List Record) → P rs → OnYes Keeps (link_rule st rs)
  unfolding link_rule
  of_link Unmatched rs h = tt
  of_link (Matching a) rs h = tt
  of_link (Joining l c run) rs h = h
  of_link (Matched c) rs h = tt

  of_rule : (i : Inner) (x : Call) → Meets F o.config x → P i.records → OnYes Keeps (rule o i x)
  unfolding rule
  of_rule i (frame s room) f h = of_frame i s (admitted o.config room (received o.config.edition s)) (read_as o.config.edition o.config room s) f h
  of_rule i (tick t room) f h = of_elapsed (is_b o.pilot) i (tick_elapsed o t room) h
  of_rule i (pilot p t) f h = on_check Keeps o.config.good 16 (yes (pilot_done (plugged o.pilot) (plugged p) (turn o.pilot p) i)) (λ g. of_pilot (plugged o.pilot) (plugged p) (turn o.pilot p) i h)
  of_rule i terminate f h = on_check Keeps o.config.good 16 (yes (ended i)) (λ g. frees i.records h)
  of_rule i link_up f h = on_check Keeps o.config.good 16 (link_rule i.state i.records) (λ g. of_link i.state i.records h)

  of_next : (i : Inner) (w : Checked Done) → P i.records → OnYes Keeps w → P (next i w).records
  of_next i (no n) h k = h
  of_next i (yes d) h k = k

  pub always : (i : Inner) (x : Call) → Meets F o.config x → P i.records → P (next i (rule o i x)).records
  always i x f h = of_next i (rule o i x) h (of_rule i x f h)

-- only a frame has a request
pub meets_frame : (F : Request → Type 0) (o : Configuration) (x : Call) → ((s : List ℕ) (room : ℕ) → x ≡ frame s room → OnYes (λ (y : Received). F y.request) (admitted o room (received o.edition s))) → Meets F o x
meets_frame F o (frame s room) h = h s room refl
meets_frame F o (tick t room) h = tt
meets_frame F o (pilot p t) h = tt
meets_frame F o terminate h = tt
meets_frame F o link_up h = tt

-- where every request will do
module _ (F : Request → Type 0) (f : (m : Request) → F m) where
  every_yes : (w : Checked Received) → OnYes (λ (y : Received). F y.request) w
  every_yes (no n) = tt
  every_yes (yes y) = f y.request

  pub meets_every : (o : Configuration) (x : Call) → Meets F o x
  meets_every o x = meets_frame F o x (λ s room e. every_yes (admitted o room (received o.edition s)))

abbrev pub AnyRequest : Request → Type 0
AnyRequest m = Unit {0}

pub meets_any : (o : Configuration) (x : Call) → Meets AnyRequest o x
meets_any = meets_every AnyRequest (λ m. tt)

-- what every single call keeps, every list of calls keeps
pub after_all : (P : Station → Type 0) → ((s : Station) (x : Call) → P s → P (step s x)) → (s : Station) (xs : List Call) → P s → P (after s xs)
after_all P h s [] p = p
after_all P h s (x ∷ xs) p = after_all P h (step s x) xs (h s x p)
