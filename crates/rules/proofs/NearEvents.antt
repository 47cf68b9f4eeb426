-- Demand 3, part one: ticks, pilot, terminate and link up, which both stations get.
use Prim.Native.Nat.{ℕ, zero, suc, ◌-◌, ◌<◌}
use mathlib.Core.Path.{◌≡◌, refl, sym, ◌∙◌, ap}
use mathlib.Core.Bool.{Bool, true, false, not, ◌&&◌}
use mathlib.Core.List.{List, [], map}
use native.Mathlib.Omega.{arith}
use lib.ListN.{length}
use Rattle.messages.specs.declared.CarAddress.{CarAddress}
use Rattle.messages.specs.Reading.{Checked, no, yes, check}
use Rattle.rules.specs.declared.Configuration.{Configuration}
use Rattle.rules.specs.declared.Record.{Record}
use Rattle.rules.specs.declared.State.{State}
use Rattle.rules.specs.declared.State.TheVariants.{Unmatched, Matching}
use Rattle.rules.specs.declared.Turn.{Turn}
use Rattle.ends.specs.declared.Indication.{Indication}
use Rattle.ends.specs.declared.Indication.TheVariants.{Nothing}
use Rattle.ends.specs.Lists.{only, All, joins}
use Rattle.ends.specs.Outcomes.{and_then, next, outcome_of}
use Rattle.rules.specs.Stations.{Inner, done}
use Rattle.rules.specs.Constants.{admission_time}
use Rattle.rules.specs.Records.{mine, none_held, freed}
use Rattle.rules.specs.Validation.{toggled_record}
use Rattle.rules.specs.Events.{ended, pilot_done, link_rule}
use Rattle.rules.specs.Ticks.{tick_record, all_frames, admission_done, tick_done}
use Rattle.rules.specs.Demand3.{accepted, is_to}
use Rattle.ends.proofs.Logic.{clash, check_both}
use Rattle.rules.proofs.RecordLaws.{none_mine, none_map, tick_keeping, turn_keeping}
use Rattle.rules.proofs.ReplyLaws.{Unicast, sent_tick}
use Rattle.rules.proofs.Near.{Alone, Ahead, both, late, out, Near, BothGet, stays, alone_none, alone_map, alone_freed}

-- ---- ticks

module _ (c : CarAddress) (rs rs' : List Record) (fs fs' : List (List ℕ)) (h : Alone c rs rs') (s : only (is_to c) fs ≡ only (is_to c) fs') where
  -- admission runs down in both
  both_admission : (i j : Inner) (a : ℕ) (b b' : Bool) → none_held rs ≡ b → none_held rs' ≡ b' → BothGet c i j (yes (admission_done a b rs fs)) (yes (admission_done a b' rs' fs'))
  unfolding admission_done
  both_admission i j zero true true p q = record { near = record { alone = h; states = out (none_mine c rs' q) }; sent = s }
  both_admission i j zero false false p q = record { near = record { alone = h; states = both }; sent = s }
  both_admission i j zero false true p q = record { near = record { alone = h; states = late refl (none_mine c rs' q) }; sent = s }
  both_admission i j zero true false p q = clash (none_held rs') (alone_none c rs rs' h (none_mine c rs p)) q
  both_admission i j (suc a) b b' p q = record { near = record { alone = h; states = both }; sent = s }

  -- the second is Unmatched already
  late_admission : (i j : Inner) (a : ℕ) (b : Bool) (x : Indication) → a ≡ 0 → mine c rs' ≡ [] → BothGet c i j (yes (admission_done a b rs fs)) (yes (done Unmatched rs' fs' x))
  unfolding admission_done
  late_admission i j zero true x z m = record { near = record { alone = h; states = out m }; sent = s }
  late_admission i j zero false x z m = record { near = record { alone = h; states = late refl m }; sent = s }
  late_admission i j (suc a) b x z m = absurd (omega arith)

module _ (o : Configuration) (c : CarAddress) (b : Bool) (e : ℕ) (i j : Inner) (rs rs' : List Record) (f : All Unicast rs) (f' : All Unicast rs') (h : Alone c rs rs') where
  tick_near : (st st' : State) → Ahead (mine c rs') st st' → BothGet c i j (yes (tick_done o b e st rs)) (yes (tick_done o b e st' rs'))
  unfolding tick_done all_frames joins only
  tick_near st st' (both {a}) =
      both_admission c (map (tick_record b e) rs) (map (tick_record b e) rs') (all_frames o b e rs) (all_frames o b e rs')
      (alone_map c rs rs' h (tick_record b e) (tick_keeping b e))
      (sent_tick o c b e rs f ∙ ap (all_frames o b e) h.own ∙ sym (sent_tick o c b e rs' f'))
      i j (a - e) (none_held (map (tick_record b e) rs)) (none_held (map (tick_record b e) rs')) refl refl
  tick_near st st' (late {a} z m) =
      late_admission c (map (tick_record b e) rs) rs' (all_frames o b e rs) []
      (record { own = none_map (tick_record b e) (tick_keeping b e) c rs (h.own ∙ m) ∙ sym m; others = h.others; sized = h.sized })
      (sent_tick o c b e rs f ∙ ap (all_frames o b e) (h.own ∙ m))
      i j (a - e) (none_held (map (tick_record b e) rs)) Nothing (omega arith) m
  tick_near st st' (out m) = record { near = record { alone = h; states = out m }; sent = refl }

pub elapsed_near : (o : Configuration) (c : CarAddress) (b : Bool) (i j : Inner) (w : Checked ℕ) → All Unicast i.records → All Unicast j.records → Near c i j
    → BothGet c i j (and_then w (λ (e : ℕ). yes (tick_done o b e i.state i.records))) (and_then w (λ (e : ℕ). yes (tick_done o b e j.state j.records)))
elapsed_near o c b i j (no n) f f' h = stays c i j n n h
elapsed_near o c b i j (yes e) f f' h = tick_near o c b e i j i.records j.records f f' h.alone i.state j.state h.states

-- ---- pilot, terminate and link up

-- car c has no record where it had none
ahead_then : {own own' : List Record} (st st' : State) → Ahead own st st' → (own ≡ [] → own' ≡ []) → Ahead own' st st'
ahead_then st st' both k = both
ahead_then st st' (late z m) k = late z (k m)
ahead_then st st' (out m) k = out (k m)

-- what a plug-in makes of any station
abbrev pub plugs_in : Inner → Inner
plugs_in i = record { state = Matching admission_time; records = map freed i.records }

pub plug_in : (g was is : Bool) (w : Turn) (i : Inner) → accepted (outcome_of (check g 16 (yes (pilot_done was is w i)))) && not was && is ≡ true
    → (k : Inner) → next k (check g 16 (yes (pilot_done was is w k))) ≡ plugs_in k
unfolding pilot_done accepted
plug_in true false true w i e k = refl
plug_in true false false w i e k = clash true refl (sym e)
plug_in true true is w i e k = clash true refl (sym e)
plug_in false was is w i e k = clash true refl (sym e)

-- and so any two stations are near
pub plugged_near : (c : CarAddress) (i j : Inner) → 0 < length j.records → Near c (plugs_in i) (plugs_in j)
plugged_near c i j z = record { alone = alone_freed c i.records j.records z; states = both }

module _ (c : CarAddress) (i j : Inner) (h : Near c i j) where
  pub pilot_near : (g was is : Bool) (w : Turn) → not is && accepted (outcome_of (check g 16 (yes (pilot_done was is w i)))) ≡ false
      → BothGet c i j (check g 16 (yes (pilot_done was is w i))) (check g 16 (yes (pilot_done was is w j)))
  unfolding pilot_done accepted
  pilot_near false was is w e = stays c i j 16 16 h
  pilot_near true true true w e = record {
    near = record {
      alone = alone_map c i.records j.records h.alone (toggled_record w) (turn_keeping w);
      states = ahead_then i.state j.state h.states (none_map (toggled_record w) (turn_keeping w) c j.records);
    };
    sent = refl;
  }
  pilot_near true false true w e = record { near = plugged_near c i j h.alone.sized; sent = refl }
  pilot_near true true false w e = clash true refl e
  pilot_near true false false w e = clash true refl e

  pub terminate_near : (g : Bool) → accepted (outcome_of (check g 16 (yes (ended i)))) ≡ false → BothGet c i j (check g 16 (yes (ended i))) (check g 16 (yes (ended j)))
  unfolding accepted
  terminate_near false e = stays c i j 16 16 h
  terminate_near true e = clash true refl e

link_states : (c : CarAddress) (i j : Inner) (own : List Record) (st st' : State) → Near c i j → Ahead own st st' → BothGet c i j (link_rule st i.records) (link_rule st' j.records)
unfolding link_rule
link_states c i j own st st' h both = stays c i j 8 8 h
link_states c i j own st st' h (late z m) = stays c i j 8 8 h
link_states c i j own st st' h (out m) = stays c i j 8 8 h

pub link_near : (c : CarAddress) (i j : Inner) → Near c i j → (g : Bool) → BothGet c i j (check g 16 (link_rule i.state i.records)) (check g 16 (link_rule j.state j.records))
link_near c i j h g =
    check_both (BothGet c i j) g 16 (link_rule i.state i.records) (link_rule j.state j.records) (stays c i j 16 16 h)
    (λ e. link_states c i j (mine c j.records) i.state j.state h h.states)
