-- The tick call: what follows the elapsed time, and what it comes to in each state.
use Prim.Native.Nat.{ℕ, zero, suc, ◌+◌, ◌*◌, ◌-◌, ◌≤◌}
use mathlib.Core.Path.{◌≡◌, refl, sym, ap, ap₂, ◌∙◌, subst}
use mathlib.Core.Bool.{Bool, true, false, not, cond, ◌&&◌, ◌||◌}
use mathlib.Core.List.{List, [], ◌∷◌, map}
use native.Mathlib.Omega.{arith}
use borrow.Author.Tests.{le-leb, lt-leb}
use denote.Enum.Declared.{tag_of}
use lib.Dec.{eqb, leb, eqb-suc-zero}
use lib.ListN.{length, take, drop}
use types.Run.{OneOf, miss}
use borrow.Rule.Slice.PartMut.{put_mid}
use Rattle.messages.specs.declared.CarAddress.{CarAddress}
use Rattle.messages.specs.declared.RunId.{RunId}
use Rattle.messages.specs.Reading.{Checked, no, yes}
use Rattle.ends.proofs.ClockLaws.{time_open}
use Rattle.ends.specs.declared.Indication.{Indication}
use Rattle.ends.specs.declared.Indication.TheVariants.{Nothing, NoLink}
use Rattle.rules.specs.declared.Configuration.{Configuration}
use Rattle.rules.specs.declared.Record.{Record}
use Rattle.rules.specs.declared.State.{State}
use Rattle.rules.specs.declared.State.TheVariants.{Unmatched, Matching, Joining, Matched}
use Rattle.rules.specs.declared.Station.{Station}
use Rattle.rules.specs.declared.Stepped.{Stepped}
use Rattle.rules.specs.Constants.{record_count, least_output}
use Rattle.rules.specs.Calls.{tick}
use Rattle.ends.specs.Outcomes.{and_then}
use Rattle.std.specs.List.{list_any}
use Rattle.ends.specs.Lists.{only}
use Rattle.rules.specs.Records.{is_held, none_held}
use Rattle.rules.specs.Stations.{Done, shared, inner, done}
use Rattle.rules.specs.Events.{is_b}
use Rattle.rules.specs.Ticks.{tick_elapsed, tick_record, all_frames, admission_done, joining_done, tick_done}
use Rattle.rules.specs.Rules.{rule, takes_reading, shared_step}
use Rattle.rules.specs.Invariant.{Invariant}
use Rattle.rules.specs.contracts.State.{the_type}
use Rattle.ends.proofs.Logic.{clash}
use Rattle.station.specs.declared.all_records.TickedRecords.{TickedRecords}
use Rattle.station.specs.declared.ticks.Passed.{Passed}
use Rattle.station.specs.Passing.{passing}
use Rattle.station.specs.Steps.{done_as, shared_as, anew, Gives}
use Rattle.station.specs.Reports.{confirmation_size, Ready, Ticks, Confirms}
use Rattle.station.proofs.StepLaws.{framed, no_frames, gives_as}
use Rattle.station.proofs.BothLaws.{both_count, both_size, both_octets}

-- ---- the admission's end

-- one more record, asked whether it is held
one_asked : (b : Bool) (r : Record) (l : List Record) (a : Bool) → not a ≡ eqb (length l) 0 → not (b || a) ≡ eqb (length (cond b (r ∷ l) l)) 0
one_asked true r l a e = sym (eqb-suc-zero (length l))
one_asked false r l a e = e

-- whether no record is held, in the library's word
pub none_asked : (rs : List Record) → not (list_any is_held rs) ≡ none_held rs
unfolding only
none_asked [] = refl
none_asked (r ∷ rs) = one_asked (is_held r) r (only is_held rs) (list_any is_held rs) (none_asked rs)

-- ---- what follows the elapsed time

module _ (s : Station) (t room : ℕ) where
  follows : Checked ℕ → Checked Done
  follows w = and_then w (λ (e : ℕ). yes (tick_done s.config (is_b s.pilot) e s.state s.records))

  -- a refusal
  pub tick_refused : (n : ℕ) → no n ≡ tick_elapsed (shared s) t room → rule (shared s) (inner s) (tick t room) ≡ no n
  unfolding rule follows
  tick_refused n h = sym (ap follows h)

  module _ (e : ℕ) (h : yes e ≡ tick_elapsed (shared s) t room) where
    -- what the rule gives
    pub tick_rule : rule (shared s) (inner s) (tick t room) ≡ yes (tick_done s.config (is_b s.pilot) e s.state s.records)
    unfolding rule follows
    tick_rule = sym (ap follows h)

    -- and the reading is taken
    pub tick_shared : shared_step (shared s) (tick t room) ≡ shared_as s s.pilot t
    unfolding shared_step takes_reading
    tick_shared = sym (ap (λ (w : Checked ℕ). takes_reading w t (shared s)) h)

-- the station's records can be ticked where the time is taken
pub tick_ready : (s : Station) (t e : ℕ) (out : List ℕ) → Invariant s → length s.records ≡ record_count → yes e ≡ tick_elapsed (shared s) t (length out) → Ready s.config s.records out
tick_ready s t e out i n h =
    let w : (s.config.good ≡ true) × (least_output ≤ length out) = time_open s.config.good least_output (length out) t s.clock e h in
    record { address = i.config.address w.0; good = i.records; room = omega (arith, w.1) }

-- ---- a state in which nothing is sent

module _ (s : Station) (t e : ℕ) (r : Stepped) (out : List ℕ) where
  -- the tick's result
  abbrev Ticked : Type 0
  Ticked = Gives (shared_as s s.pilot t) (tick_done s.config (is_b s.pilot) e s.state s.records) out out r

  -- the answer of a station in state st, which indicates x
  abbrev Read : State → Indication → Type 0
  Read st x = r ≡ done_as (anew s s.pilot t st s.records) 0 0 x

  -- the state as the code finds it, by what its rule gives
  pub tick_reads : (was st : State) (x : Indication) → s.state ≡ was → tick_done s.config (is_b s.pilot) e was s.records ≡ done st s.records [] x → Read st x → Ticked
  tick_reads was st x told q er =
      gives_as _ _ _ _ out out r refl
      (sym (ap (λ (y : State). tick_done s.config (is_b s.pilot) e y s.records) told ∙ q))
      (no_frames s s.pilot t st s.records x _ r out refl er)

-- ---- what a tick makes of a state by itself

-- it stays
pub passing_same : (e : ℕ) (st : State) → OneOf (0 ∷ 1 ∷ 3 ∷ []) (tag_of the_type st) → record { state = st; indication = Nothing } ≡ passing e st
passing_same e Unmatched k = refl
passing_same e (Matching t) k = refl
passing_same e (Joining l c run) k = absurd (miss (0 ∷ 1 ∷ 3 ∷ []) 2 tt k)
passing_same e (Matched c) k = refl

module _ (e l : ℕ) (c : CarAddress) (run : RunId) (left : ℕ) (el : left ≡ l - e) where
  abbrev fired : Passed
  fired = record { state = Unmatched; indication = NoLink }

  abbrev running : ℕ → Passed
  running n = record { state = Joining n c run; indication = Nothing }

  -- Joining's time fires
  pub passing_fires : left ≡ 0 → fired ≡ passing e (Joining l c run)
  passing_fires z = sym (ap (λ (b : Bool). cond b fired (running (l - e))) (le-leb l e (omega arith)))

  -- it runs down
  pub passing_runs : (left ≡ 0 → ⊥) → running left ≡ passing e (Joining l c run)
  passing_runs z = ap running el ∙ sym (ap (λ (b : Bool). cond b fired (running (l - e))) (lt-leb l e (omega arith)))

-- what is done where so much has passed, and nothing is sent
abbrev done_with : List Record → Passed → Done
done_with rs p = done p.state rs [] p.indication

-- Joining's rule, by whether its time fires
joining_passes : (b : Bool) (n : ℕ) (c : CarAddress) (run : RunId) (rs : List Record) → joining_done b n c run rs ≡ done_with rs (cond b (record { state = Unmatched; indication = NoLink }) (record { state = Joining n c run; indication = Nothing }))
unfolding joining_done
joining_passes true n c run rs = refl
joining_passes false n c run rs = refl

-- elsewhere than in Matching it is what the rule gives
state_passes : (o : Configuration) (b : Bool) (e : ℕ) (st : State) (rs : List Record) → OneOf (0 ∷ 2 ∷ 3 ∷ []) (tag_of the_type st) → tick_done o b e st rs ≡ done_with rs (passing e st)
unfolding tick_done
state_passes o b e Unmatched rs k = refl
state_passes o b e (Matching t) rs k = absurd (miss (0 ∷ 2 ∷ 3 ∷ []) 1 tt k)
state_passes o b e (Joining l c run) rs k = joining_passes (leb l e) (l - e) c run rs
state_passes o b e (Matched c) rs k = refl

-- the same of what the code gives
pub passed_done : (o : Configuration) (b : Bool) (e : ℕ) (st : State) (rs : List Record) (p : Passed) → p ≡ passing e st → OneOf (0 ∷ 2 ∷ 3 ∷ []) (tag_of the_type st) → tick_done o b e st rs ≡ done p.state rs [] p.indication
passed_done o b e st rs p ep k = state_passes o b e st rs k ∙ ap (done_with rs) (sym ep)

-- ---- Matching

-- the state that the code finds is the station's
pub tick_matching : (s : Station) (t e a : ℕ) (entry exit : List ℕ) (r : Stepped) → s.state ≡ Matching a
    → Gives (shared_as s s.pilot t) (tick_done s.config (is_b s.pilot) e (Matching a) s.records) entry exit r
    → Gives (shared_as s s.pilot t) (tick_done s.config (is_b s.pilot) e s.state s.records) entry exit r
tick_matching s t e a entry exit r told g = subst (λ (y : State). Gives (shared_as s s.pilot t) (tick_done s.config (is_b s.pilot) e y s.records) entry exit r) (sym told) g

-- admission, by whether it is closed with no record held
admission_over : (a : ℕ) (b : Bool) (rs : List Record) (fs : List (List ℕ)) → eqb a 0 && b ≡ true → admission_done a b rs fs ≡ done Unmatched rs fs NoLink
unfolding admission_done
admission_over zero true rs fs h = refl
admission_over zero false rs fs h = clash false h refl
admission_over (suc a) b rs fs h = clash (eqb (suc a) 0 && b) h (ap (λ (x : Bool). x && b) (eqb-suc-zero a))

-- and else
admission_held : (a : ℕ) (b : Bool) (rs : List Record) (fs : List (List ℕ)) → eqb a 0 && b ≡ false → admission_done a b rs fs ≡ done (Matching a) rs fs Nothing
unfolding admission_done
admission_held zero true rs fs h = clash true refl h
admission_held zero false rs fs h = refl
admission_held (suc a) b rs fs h = refl

-- the records ticked, their reports and then their confirmations written, which left the part behind the reports as ys
module _ (s : Station) (t e a : ℕ) (b : Bool) (eb : b ≡ is_b s.pilot) (k : TickedRecords) (entry out : List ℕ) (ready : Ready s.config s.records entry) (w : Ticks s.config b e s.records entry out k) (long : length out ≡ length entry)
    (ys : List ℕ) (c : ℕ) (v : Confirms s.config b e s.records (take (length out - k.octets) (drop k.octets out)) ys c)
    (left : ℕ) (el : left ≡ a - e) (none : Bool) (en : none ≡ none_held k.records) (n : Station) (r : Stepped) where
  abbrev behind : ℕ
  behind = k.octets

  -- the output at the end
  abbrev exit : List ℕ
  exit = put_mid behind (length out - behind) out ys

  -- the answer of a station in state st, which indicates x, with the frames
  abbrev Sends : State → Indication → Type 0
  Sends st x = (n ≡ anew s s.pilot t st k.records) × (r ≡ done_as n (k.reports + c) (behind + confirmation_size * c) x)

  -- by what admission comes to
  sends : (st : State) (x : Indication) → ((fs : List (List ℕ)) → admission_done left none k.records fs ≡ done st k.records fs x)
      → Sends st x → Gives (shared_as s s.pilot t) (tick_done s.config (is_b s.pilot) e (Matching a) s.records) entry exit r
  unfolding tick_done
  sends st x q p =
      let fs : List (List ℕ) = all_frames s.config b e s.records in
      gives_as _ _ _ _ entry exit r refl
      (sym (q fs)
      ∙ ap₂ (λ (m : ℕ) (h : Bool). admission_done m h k.records fs) el en
      ∙ ap (λ (rs : List Record). admission_done (a - e) (none_held rs) rs fs) w.records
      ∙ ap (λ (h : Bool). admission_done (a - e) (none_held (map (tick_record h e) s.records)) (map (tick_record h e) s.records) (all_frames s.config h e s.records)) eb)
      (framed s s.pilot t st k.records fs x n r (k.reports + c) (behind + confirmation_size * c) entry exit p.0 p.1
      (both_count s.config b e s.records entry out k.reports k.octets ready w.sent w.few long ys c v)
      (both_size s.config b e s.records entry out k.reports k.octets ready w.sent w.few long ys c v)
      (both_octets s.config b e s.records entry out k.reports k.octets ready w.sent w.few long ys c v))

  -- admission is closed, and no record is held
  pub admission_ends : eqb left 0 && none ≡ true → Sends Unmatched NoLink → Gives (shared_as s s.pilot t) (tick_done s.config (is_b s.pilot) e (Matching a) s.records) entry exit r
  admission_ends h p = sends Unmatched NoLink (λ fs. admission_over left none k.records fs h) p

  -- it is open, or a record is held
  pub admission_stays : eqb left 0 && none ≡ false → Sends (Matching left) Nothing → Gives (shared_as s s.pilot t) (tick_done s.config (is_b s.pilot) e (Matching a) s.records) entry exit r
  admission_stays h p = sends (Matching left) Nothing (λ fs. admission_held left none k.records fs h) p
