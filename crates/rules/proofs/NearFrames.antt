-- Demand 3, part one: a frame of the car itself, which both stations get, and one of another car, which only the first gets.
use Prim.Native.Nat.{ℕ, zero, suc, ◌≤◌}
use mathlib.Core.Path.{◌≡◌, refl, sym, ◌∙◌, ap, subst}
use mathlib.Core.Bool.{Bool, true, false, ◌&&◌}
use mathlib.Core.List.{List, [], ◌∷◌, map}
use native.Mathlib.Omega.{arith}
use Rattle.messages.specs.declared.CarAddress.{CarAddress}
use Rattle.messages.specs.declared.RunId.{RunId}
use Rattle.messages.specs.Table.{is_unicast}
use Rattle.messages.specs.Reading.{Checked, no, yes, check}
use Rattle.rules.specs.declared.Configuration.{Configuration}
use Rattle.rules.specs.declared.Record.{Record}
use Rattle.rules.specs.declared.State.{State}
use Rattle.rules.specs.declared.State.TheVariants.{Unmatched, Matching, Joining, Matched}
use Rattle.ends.specs.Constants.{joining_time}
use Rattle.ends.specs.Outcomes.{frames_of, and_then, next, outcome_of}
use Rattle.rules.specs.Stations.{Inner, Done}
use Rattle.rules.specs.Records.{same_car, same_run, mine, free_places, freed}
use Rattle.rules.specs.Replies.{confirmation, frames_to}
use Rattle.rules.specs.Received.{RecordMessage, Request, for_record, match_req, map_req}
use Rattle.rules.specs.Validation.{first_result}
use Rattle.rules.specs.Frames.{Change, change_rule, match_rule, changed, confirmed, state_rule}
use Rattle.rules.specs.Demand3.{accepted, is_ten, any_failure, replies_in}
use Rattle.ends.proofs.Logic.{clash, OnYes}
use Rattle.ends.proofs.ListLaws.{only_none}
use Rattle.rules.proofs.RecordLaws.{Ready, takes, mine_freed}
use Rattle.rules.proofs.RuleLaws.{is_ask, is_validate, refused_ten, SameResult, change_ready, change_same, change_closed, match_none}
use Rattle.rules.proofs.ReceivedLaws.{is_match, asks_in, validates_in}
use Rattle.rules.proofs.ReplyLaws.{sent_other}
use Rattle.rules.proofs.ValidationLaws.{fewer_result, fails}
use Rattle.rules.proofs.Near.{Alone, Ahead, both, late, out, not_matched, Near, BothGet, stays, alone_takes, alone_put, alone_other}

-- refused with 10, of a change and of its outcome
pub ten_change : (o : Configuration) (st : State) (rs : List Record) (c : CarAddress) (w : Checked Change) → is_ten (outcome_of (and_then w (λ (x : Change). yes (changed o st rs c x)))) ≡ refused_ten w
unfolding is_ten
ten_change o st rs c (no n) = refl
ten_change o st rs c (yes x) = refl

-- ---- a frame of car c itself

on_takes : (c : CarAddress) (rs rs' : List Record) → Alone c rs rs' → (w : Checked Change) → OnYes (λ (x : Change). Ready x.place (free_places rs) (mine c rs)) w → OnYes (λ (x : Change). takes x.place ≤ free_places rs') w
on_takes c rs rs' h (no n) r = tt
on_takes c rs rs' h (yes x) r = alone_takes c rs rs' h x.place r

module _ (o : Configuration) (c : CarAddress) (a : ℕ) (rs rs' : List Record) (h : Alone c rs rs') where
  abbrev first : Inner
  first = record { state = Matching a; records = rs }

  abbrev second : Inner
  second = record { state = Matching a; records = rs' }

  near_here : Near c first second
  near_here = record { alone = h; states = both }

  own_changed : (b : ℕ) (w : Checked Change) → OnYes (λ (x : Change). Ready x.place (free_places rs) (mine c rs)) w
      → BothGet c first second (and_then w (λ (x : Change). yes (changed o (Matching b) rs c x))) (and_then w (λ (x : Change). yes (changed o (Matching b) rs' c x)))
  own_changed b (no n) r = stays c first second n n near_here
  own_changed b (yes x) r = record { near = record { alone = alone_put c rs rs' h x.place x.kept r; states = both }; sent = refl }

  -- where a first validate request is not answered 03, it is answered the same
  same_answer : (m : RecordMessage) (w : Checked Change) → is_validate m && any_failure (frames_of (outcome_of (and_then w (λ (x : Change). yes (changed o (Matching a) rs c x))))) ≡ false
      → OnYes (SameResult m (first_result o.exempt rs) (first_result o.exempt rs')) w
  same_answer m (no n) v = tt
  same_answer m (yes x) v = λ p e. fewer_result c o.exempt rs rs' h.own h.others
      (λ f. clash (any_failure (frames_to o c x.replies)) (ap (λ ts. any_failure (frames_to o c ts)) (e ∙ ap (λ k. confirmation 0 k ∷ []) f) ∙ fails o c) (rw p at v))

  own_record : (m : RecordMessage) → is_ask m && is_ten (outcome_of (state_rule o (Matching a) rs c (for_record m))) ≡ false
      → is_validate m && any_failure (frames_of (outcome_of (state_rule o (Matching a) rs c (for_record m)))) ≡ false
      → BothGet c first second (state_rule o (Matching a) rs c (for_record m)) (state_rule o (Matching a) rs' c (for_record m))
  unfolding state_rule
  own_record m t v =
      let x : ℕ = first_result o.exempt rs in
      let w : Checked Change = change_rule o.edition c m a (free_places rs) x (mine c rs) in
      let r : OnYes (λ (x : Change). Ready x.place (free_places rs) (mine c rs)) w = change_ready o.edition c m a (free_places rs) x (mine c rs) in
      let e : w ≡ change_rule o.edition c m a (free_places rs') (first_result o.exempt rs') (mine c rs) =
      change_same o.edition c m a (free_places rs) (free_places rs') x (first_result o.exempt rs') (mine c rs)
      (ap (λ q. is_ask m && q) (sym (ten_change o _ rs c w)) ∙ t) (on_takes c rs rs' h w r) (same_answer m w v) in
      rw (← h.own, ← e) (own_changed _ w r)

  own_matched : (run : RunId) (x y : List ℕ) (w : Checked (Unit {0})) → accepted (outcome_of (and_then w (λ (v : Unit {0}). yes (confirmed o (Joining joining_time c run) (map freed rs) c run x y)))) ≡ false
      → BothGet c first second (and_then w (λ (v : Unit {0}). yes (confirmed o (Joining joining_time c run) (map freed rs) c run x y)))
      (and_then w (λ (v : Unit {0}). yes (confirmed o (Joining joining_time c run) (map freed rs') c run x y)))
  unfolding accepted
  own_matched run x y (no n) t = stays c first second n n near_here
  own_matched run x y (yes v) t = clash true refl t

-- with no record of the car and admission closed, the second station Unmatched
late_state : (o : Configuration) (c : CarAddress) (m : Request) (rs : List Record) (a : ℕ) → a ≡ 0 → mine c rs ≡ [] → (n : ℕ) × (state_rule o (Matching a) rs c m ≡ no n)
unfolding state_rule
late_state o c (for_record m) rs zero z e = let r = change_closed o.edition c m (free_places rs) (first_result o.exempt rs) in (r.0, rw (e, r.1))
late_state o c (for_record m) rs (suc a) z e = absurd (omega arith)
late_state o c (match_req run x y) rs a z e = (11, rw (e, match_none run))
late_state o c (map_req n) rs a z e = (8, refl)

own_state : (o : Configuration) (c : CarAddress) (m : Request) (st st' : State) (rs rs' : List Record) → Alone c rs rs' → Ahead (mine c rs') st st'
    → is_match m && accepted (outcome_of (state_rule o st rs c m)) ≡ false → asks_in m && is_ten (outcome_of (state_rule o st rs c m)) ≡ false
    → validates_in m && any_failure (frames_of (outcome_of (state_rule o st rs c m))) ≡ false
    → BothGet c (record { state = st; records = rs }) (record { state = st'; records = rs' }) (state_rule o st rs c m) (state_rule o st' rs' c m)
unfolding state_rule
own_state o c (for_record m) st st' rs rs' h (both {a}) p t v = own_record o c a rs rs' h m t v
own_state o c (match_req run x y) st st' rs rs' h (both {a}) p t v = rw (← h.own) (own_matched o c a rs rs' h run x y (match_rule run (mine c rs)) p)
own_state o c (map_req n) st st' rs rs' h (both {a}) p t v = stays c _ _ 8 8 (record { alone = h; states = both })
own_state o c m st st' rs rs' h (late {a} z e) p t v =
    let r = late_state o c m rs a z (h.own ∙ e) in
    rw r.1 (stays c _ _ r.0 8 (record { alone = h; states = late z e }))
own_state o c m st st' rs rs' h (out e) p t v = stays c _ _ 8 8 (record { alone = h; states = out e })

pub own_frame : (o : Configuration) (c : CarAddress) (m : Request) (i j : Inner) → Near c i j
    → is_match m && accepted (outcome_of (state_rule o i.state i.records c m)) ≡ false → asks_in m && is_ten (outcome_of (state_rule o i.state i.records c m)) ≡ false
    → validates_in m && any_failure (frames_of (outcome_of (state_rule o i.state i.records c m))) ≡ false
    → BothGet c i j (state_rule o i.state i.records c m) (state_rule o j.state j.records c m)
own_frame o c m i j h p t v = own_state o c m i.state j.state i.records j.records h.alone h.states p t v

-- ---- a frame of another car d

-- the second station does not get it
pub record FirstGets (c : CarAddress) (i j : Inner) (a : Checked Done) : Type 0 where
  pub near : Near c (next i a) j
  pub sent : replies_in c (outcome_of a) ≡ []

pub passes : (c : CarAddress) (i j : Inner) (n : ℕ) → Near c i j → FirstGets c i j (no n)
passes c i j n h = record { near = h; sent = only_none _ }

module _ (o : Configuration) (c d : CarAddress) (u : is_unicast d.0 ≡ true) (f : same_car c d ≡ false) (i j : Inner) (h : Near c i j) where
  other_changed : (st : State) → i.state ≡ st → (w : Checked Change) → FirstGets c i j (and_then w (λ (x : Change). yes (changed o st i.records d x)))
  other_changed st e (no n) = passes c i j n h
  other_changed st e (yes x) = record {
    near = record {
      alone = alone_other c i.records j.records h.alone d x.place x.kept f;
      states = subst (λ (q : State). Ahead (mine c j.records) q j.state) e h.states;
    };
    sent = sent_other o c d x.replies u f;
  }

  other_matched : (st : State) (rs : List Record) (run : RunId) (x y : List ℕ) (w : Checked (Unit {0})) → accepted (outcome_of (and_then w (λ (v : Unit {0}). yes (confirmed o st rs d run x y)))) ≡ false
      → FirstGets c i j (and_then w (λ (v : Unit {0}). yes (confirmed o st rs d run x y)))
  unfolding accepted
  other_matched st rs run x y (no n) t = passes c i j n h
  other_matched st rs run x y (yes v) t = clash true refl t

  other_again : (st : State) (rs : List Record) (run : RunId) (x y : List ℕ) (b : Bool) → accepted (outcome_of (check b 11 (yes (confirmed o st rs d run x y)))) ≡ false → FirstGets c i j (check b 11 (yes (confirmed o st rs d run x y)))
  unfolding accepted
  other_again st rs run x y false t = passes c i j 11 h
  other_again st rs run x y true t = clash true refl t

  other_state : (m : Request) (st : State) → i.state ≡ st → is_match m && accepted (outcome_of (state_rule o st i.records d m)) ≡ false → FirstGets c i j (state_rule o st i.records d m)
  unfolding state_rule
  other_state m Unmatched e t = passes c i j 8 h
  other_state (for_record m) (Matching a) e t = other_changed _ e (change_rule o.edition d m a (free_places i.records) (first_result o.exempt i.records) (mine d i.records))
  other_state (match_req run x y) (Matching a) e t = other_matched (Joining joining_time d run) (map freed i.records) run x y (match_rule run (mine d i.records)) t
  other_state (map_req n) (Matching a) e t = passes c i j 8 h
  other_state (for_record m) (Joining l b k) e t = passes c i j 8 h
  other_state (match_req run x y) (Joining l b k) e t = other_again (Joining l b k) i.records run x y (same_car d b && same_run run k) t
  other_state (map_req n) (Joining l b k) e t = passes c i j 8 h
  other_state m (Matched b) e t = absurd (not_matched (mine c j.records) i.state j.state b h.states e)

  pub other_frame : (m : Request) → is_match m && accepted (outcome_of (state_rule o i.state i.records d m)) ≡ false → FirstGets c i j (state_rule o i.state i.records d m)
  other_frame m t = other_state m i.state refl t

-- ---- car c's own accepted match request

pub record Ends (c : CarAddress) (i j : Inner) (a b : Checked Done) : Type 0 where
  pub own : mine c (next i a).records ≡ mine c (next j b).records
  pub sent : replies_in c (outcome_of a) ≡ replies_in c (outcome_of b)

end_matched : (o : Configuration) (c : CarAddress) (i j : Inner) (rs rs' : List Record) (run : RunId) (x y : List ℕ) (w : Checked (Unit {0}))
    → accepted (outcome_of (and_then w (λ (v : Unit {0}). yes (confirmed o (Joining joining_time c run) (map freed rs) c run x y)))) ≡ true
    → Ends c i j (and_then w (λ (v : Unit {0}). yes (confirmed o (Joining joining_time c run) (map freed rs) c run x y)))
    (and_then w (λ (v : Unit {0}). yes (confirmed o (Joining joining_time c run) (map freed rs') c run x y)))
unfolding accepted
end_matched o c i j rs rs' run x y (no n) t = clash true refl (sym t)
end_matched o c i j rs rs' run x y (yes v) t = record { own = mine_freed c rs ∙ sym (mine_freed c rs'); sent = refl }

end_state : (o : Configuration) (c : CarAddress) (m : Request) (i j : Inner) (st st' : State) (rs rs' : List Record) → Alone c rs rs' → Ahead (mine c rs') st st'
    → is_match m && accepted (outcome_of (state_rule o st rs c m)) ≡ true → Ends c i j (state_rule o st rs c m) (state_rule o st' rs' c m)
unfolding state_rule accepted
end_state o c (for_record m) i j st st' rs rs' h g t = clash true refl (sym t)
end_state o c (map_req n) i j st st' rs rs' h g t = clash true refl (sym t)
end_state o c (match_req run x y) i j st st' rs rs' h (both {a}) t = rw (← h.own) (end_matched o c i j rs rs' run x y (match_rule run (mine c rs)) t)
end_state o c (match_req run x y) i j st st' rs rs' h (late {a} z e) t = clash true refl (sym (rw (h.own ∙ e, match_none run) at t))
end_state o c (match_req run x y) i j st st' rs rs' h (out e) t = clash true refl (sym t)

pub end_frame : (o : Configuration) (c : CarAddress) (m : Request) (i j : Inner) → Near c i j → is_match m && accepted (outcome_of (state_rule o i.state i.records c m)) ≡ true
    → Ends c i j (state_rule o i.state i.records c m) (state_rule o j.state j.records c m)
end_frame o c m i j h t = end_state o c m i j i.state j.state i.records j.records h.alone h.states t
