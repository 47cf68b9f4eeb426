-- How many records are ready or counting: only an accepted validate request adds one, and none where there is one.
use Prim.Native.Nat.{ℕ, ◌+◌, ◌-◌, ◌<◌, ◌≤◌}
use mathlib.Core.Path.{◌≡◌, refl, sym, ap, subst}
use mathlib.Core.Bool.{Bool, true, false, cond}
use mathlib.Core.List.{List, [], ◌∷◌, map}
use native.Mathlib.Omega.{arith}
use lib.Dec.{eqb, leb}
use borrow.Author.Tests.{eqb-true}
use Rattle.messages.specs.declared.CarAddress.{CarAddress}
use Rattle.messages.specs.declared.Edition.{Edition}
use Rattle.messages.specs.declared.RunId.{RunId}
use Rattle.messages.specs.Reading.{Checked, no, yes, check}
use Rattle.rules.specs.declared.Phase.{Phase}
use Rattle.rules.specs.declared.Phase.TheVariants.{Asked, Sounding, Reported, Awaiting, Ready, Counting, Success}
use Rattle.rules.specs.declared.Record.{Record}
use Rattle.rules.specs.declared.Turn.{Turn}
use Rattle.rules.specs.declared.Turn.TheVariants.{Begins, Ends, Stays, Breaks}
use Rattle.rules.specs.Constants.{ready_result}
use Rattle.ends.specs.Lists.{only}
use Rattle.rules.specs.Calls.{Call}
use Rattle.ends.specs.Outcomes.{next}
use Rattle.rules.specs.Stations.{Shared, Inner}
use Rattle.rules.specs.Records.{same_run, is_held, holds, mine, free_places, owned, freed, update, insert, fresh, in_phase, with_heard, counted}
use Rattle.rules.specs.Replies.{Reply}
use Rattle.rules.specs.Received.{RecordMessage, parm_req, start, sound, profile, rsp, validate_first, validate_second, Request, for_record}
use Rattle.rules.specs.Validation.{validates, is_validating, any_validates, first_result, counts, toggled_phase, toggled_record}
use Rattle.rules.specs.Frames.{Kept, Place, own_place, free_place, Change, put_back, start_rule, sound_rule, profile_rule, rsp_rule, answered, first_rule, second_rule, at_own, at_run, change_rule, put}
use Rattle.rules.specs.Ticks.{Ticked, now_free, still_held, window_ends, tick_phase, record_of, tick_record}
use Rattle.rules.specs.Rules.{rule}
use Rattle.ends.proofs.Logic.{split, OnYes, on_check, on_cond}
use Rattle.ends.proofs.ListLaws.{only_none, only_yes, only_no}
use Rattle.rules.proofs.RecordLaws as places
use Rattle.rules.proofs.RecordLaws.{holds_held, owned_holds, freed_free, none_freed}
use Rattle.rules.proofs.RuleLaws.{on_own, on_back, is_validate, change_ready}
use Rattle.rules.proofs.PhaseLaws.{OfKept, OfChange, on_start, on_sound, on_profile, on_rsp, on_first, on_second, on_parm}
use Rattle.rules.proofs.ReceivedLaws.{validates_in}
use Rattle.rules.proofs.ValidationLaws.{held_validates, free_validates, busy, busy_none, free_busy}
use Rattle.rules.proofs.Always.{always, meets_every, Meets}

-- ---- one record

-- 1 of a phase that is ready or counting
abbrev load : Phase → ℕ
load p = cond (validates p) 1 0

-- of a record, 0 if it is free
abbrev weight : Record → ℕ
weight r = cond (is_validating r) 1 0

held_weight : (r : Record) → is_held r ≡ true → weight r ≡ load r.phase
held_weight r h = ap (λ b. cond b 1 0) (held_validates r h)

free_weight : (r : Record) → is_held r ≡ false → weight r ≡ 0
free_weight r h = ap (λ b. cond b 1 0) (free_validates r h)

owned_weight : (c : CarAddress) (r : Record) → weight (owned c r) ≡ load r.phase
unfolding is_validating is_held owned
owned_weight c r = refl

-- ---- a record put at its place

busy_cons : (r : Record) (rs : List Record) → busy (r ∷ rs) ≡ weight r + busy rs
unfolding only
busy_cons r rs = split (is_validating r) (λ g. rw g (omega arith)) (λ g. rw g (omega arith))

-- of the first of a car's own records
abbrev load_of : List Record → ℕ
load_of [] = 0
load_of (r ∷ rs) = load r.phase

module _ (c : CarAddress) (n : Record) (h : holds c n ≡ true) where
  busy_update : (rs : List Record) → busy (update c n rs) + load_of (mine c rs) ≤ busy rs + weight n
  unfolding update
  busy_update [] = rw (only_none (holds c)) (omega arith)
  busy_update (r ∷ rs) = split (holds c r)
      (λ g. rw (g, only_yes (holds c) r rs g) (omega (arith, busy_cons n rs, busy_cons r rs, held_weight r (holds_held c r g))))
      (λ g. rw (g, only_no (holds c) r rs g) (omega (arith, busy_cons r (update c n rs), busy_cons r rs, busy_update rs)))

busy_insert : (n : Record) (rs : List Record) → busy (insert n rs) ≤ busy rs + weight n
unfolding insert
busy_insert n [] = omega arith
busy_insert n (r ∷ rs) = split (is_held r)
    (λ g. rw g (omega (arith, busy_cons r (insert n rs), busy_cons r rs, busy_insert n rs)))
    (λ g. rw g (omega (arith, busy_cons n rs, busy_cons r rs)))

busy_put : (c : CarAddress) (k : Record) (p : Place) (rs : List Record) → places.Ready p (free_places rs) (mine c rs) → busy (put c p k rs) + load_of (mine c rs) ≤ busy rs + load k.phase
unfolding put
busy_put c k own_place rs w = omega (arith, busy_update c (owned c k) (owned_holds c k) rs, owned_weight c k)
busy_put c k free_place rs w = rw w.0 (omega (arith, busy_insert (owned c k) rs, owned_weight c k))

-- ---- a frame at its car's record

module _ (e : Edition) (room : ℕ) (r : Record) where
  -- the record is ready or counting only if it was, or if there is room for one more
  abbrev Light : Record → Type 0
  Light n = load n.phase ≤ load r.phase + room

  start_light : (k : ℕ) → OnYes (OfKept Light) (start_rule e k r r.phase)
  unfolding in_phase validates
  start_light k = on_start (OfKept Light) e r k r.phase (λ t q. omega arith) (λ t q. omega arith)

  sound_light : (k : ℕ) → OnYes (OfKept Light) (sound_rule e k r r.phase)
  unfolding with_heard
  sound_light k = on_sound (OfKept Light) e r k r.phase (λ a b. omega arith)

  profile_light : (g : ℕ) (vs : List ℕ) → OnYes (OfKept Light) (profile_rule e g vs r r.phase)
  unfolding counted in_phase validates
  profile_light g vs = on_profile (OfKept Light) e r g vs r.phase (λ t q k a. omega arith) (λ t q k a. omega arith)

  rsp_light : OnYes (OfKept Light) (rsp_rule r r.phase)
  unfolding in_phase validates
  rsp_light = on_rsp (OfKept Light) e r r.phase (λ t n q. omega arith)

  first_light : (result : ℕ) → (result ≡ ready_result → 0 < room) → OnYes (OfKept Light) (first_rule result r r.phase)
  unfolding answered in_phase validates
  first_light result h = on_first (OfKept Light) e r result r.phase (λ t q. on_cond Light (eqb result ready_result) _ _ (λ a. omega (arith, h (eqb-true result ready_result a))) (λ a. omega arith))

  second_light : (timer : ℕ) → OnYes (OfKept Light) (second_rule timer r r.phase)
  unfolding in_phase validates
  second_light timer = on_second (OfKept Light) e r timer r.phase (λ t q. let n : load r.phase ≡ 1 = ap load q in omega arith)

-- and at its car's own records
module _ (e : Edition) (room : ℕ) (own : List Record) where
  abbrev LightOwn : Record → Type 0
  LightOwn k = load k.phase ≤ load_of own + room

  light_first : (r : Record) (rs : List Record) (w : Checked Kept) → own ≡ r ∷ rs → OnYes (OfKept (Light e room r)) w → OnYes (OfKept LightOwn) w
  light_first r rs w q h = subst (λ (l : List Record). OnYes (λ (k : Kept). load k.kept.phase ≤ load_of l + room) w) (sym q) h

  light_own : (f : Record → Checked Kept) → ((r : Record) → OnYes (OfKept (Light e room r)) (f r)) → OnYes (OfChange LightOwn) (put_back (at_own own f))
  light_own f h = on_back (λ (k : Record) (ts : List Reply). LightOwn k) (at_own own f) (on_own (OfKept LightOwn) own f (λ r rs q. light_first r rs (f r) q (h r)))

  light_run : (run : RunId) (f : Record → Checked Kept) → ((r : Record) → OnYes (OfKept (Light e room r)) (f r)) → OnYes (OfChange LightOwn) (put_back (at_run run own f))
  light_run run f h = light_own (λ (r : Record). check (same_run run r.run) 11 (f r)) (λ r. on_check (OfKept (Light e room r)) (same_run run r.run) 11 (f r) (λ s. h r))

  light_fresh : (later : Bool) (c : CarAddress) (run : RunId) → LightOwn (fresh later c run)
  unfolding fresh validates
  light_fresh later c run = omega arith

  light_change : (c : CarAddress) (m : RecordMessage) (a free result : ℕ) → (is_validate m ≡ true → result ≡ ready_result → 0 < room) → OnYes (OfChange LightOwn) (change_rule e c m a free result own)
  unfolding change_rule
  light_change c (parm_req run) a free result h = on_parm LightOwn e c run a free result own (λ p. light_fresh _ c run)
  light_change c (start run k) a free result h = light_run run (λ (r : Record). start_rule e k r r.phase) (λ r. start_light e room r k)
  light_change c (sound run k) a free result h = light_run run (λ (r : Record). sound_rule e k r r.phase) (λ r. sound_light e room r k)
  light_change c (profile g vs) a free result h = light_own (λ (r : Record). profile_rule e g vs r r.phase) (λ r. profile_light e room r g vs)
  light_change c (rsp run) a free result h = light_run run (λ (r : Record). rsp_rule r r.phase) (rsp_light e room)
  light_change c validate_first a free result h = light_own (λ (r : Record). first_rule result r r.phase) (λ r. first_light e room r result (h refl))
  light_change c (validate_second timer) a free result h = light_own (λ (r : Record). second_rule timer r r.phase) (λ r. second_light e room r timer)

-- ---- each record changed

busy_map : (g : Record → Record) → ((r : Record) → weight (g r) ≤ weight r) → (rs : List Record) → busy (map g rs) ≤ busy rs
busy_map g h [] = omega arith
busy_map g h (r ∷ rs) = omega (arith, busy_cons r rs, busy_cons (g r) (map g rs), h r, busy_map g h rs)

-- what a tick leaves of a held record
abbrev load_then : Ticked → ℕ
load_then (now_free ts) = 0
load_then (still_held n ts) = load n.phase

then_weight : (r : Record) (x : Ticked) → weight (record_of r x) ≡ load_then x
unfolding record_of
then_weight r (now_free ts) = free_weight (freed r) (freed_free r)
then_weight r (still_held n ts) = owned_weight r.car n

window_light : (b : Bool) (k : ℕ) (r : Record) → load_then (window_ends b k r) ≤ 1
unfolding window_ends in_phase validates
window_light true k r = omega arith
window_light false k r = omega arith

tick_light : (b : Bool) (e : ℕ) (r : Record) (p : Phase) → load_then (tick_phase b e r p) ≤ load p
unfolding tick_phase in_phase validates
tick_light b e r (Asked t) = split (leb t e) (λ a. rw a (omega arith)) (λ a. rw a (omega arith))
tick_light b e r (Sounding t) = split (leb t e) (λ a. rw a (split (eqb r.profiles 0) (λ z. rw z (omega arith)) (λ z. rw z (omega arith)))) (λ a. rw a (omega arith))
tick_light b e r (Reported t n) = split (leb t e) (λ a. rw a (split (eqb n 0) (λ z. rw z (omega arith)) (λ z. rw z (omega arith)))) (λ a. rw a (omega arith))
tick_light b e r (Awaiting t) = split (leb t e) (λ a. rw a (omega arith)) (λ a. rw a (omega arith))
tick_light b e r (Ready t) = split (leb t e) (λ a. rw a (omega arith)) (λ a. rw a (omega arith))
tick_light b e r (Counting t k g) = split (leb t e) (λ a. rw a (window_light b k r)) (λ a. rw a (omega arith))
tick_light b e r (Success t) = split (leb t e) (λ a. rw a (omega arith)) (λ a. rw a (omega arith))

tick_weight : (b : Bool) (e : ℕ) (r : Record) → weight (tick_record b e r) ≤ weight r
unfolding tick_record
tick_weight b e r = split (is_held r)
    (λ g. rw g (omega (arith, then_weight r (tick_phase b e r r.phase), tick_light b e r r.phase, held_weight r g)))
    (λ g. rw g (omega arith))

counts_light : (w : Turn) (t k : ℕ) (b : Bool) → load (counts w t k b) ≤ 1
unfolding counts validates
counts_light Begins t k b = omega arith
counts_light Ends t k b = omega arith
counts_light Stays t k b = omega arith
counts_light Breaks t k b = omega arith

turn_light : (w : Turn) (p : Phase) → load (toggled_phase w p) ≤ load p
unfolding toggled_phase validates
turn_light w (Asked t) = omega arith
turn_light w (Sounding t) = omega arith
turn_light w (Reported t n) = omega arith
turn_light w (Awaiting t) = omega arith
turn_light w (Ready t) = omega arith
turn_light w (Counting t k b) = counts_light w t k b
turn_light w (Success t) = omega arith

phase_weight : (p : Phase) (r : Record) → is_held r ≡ true → weight (in_phase p r) ≡ load p
unfolding is_held in_phase
phase_weight p r h = held_weight (in_phase p r) h

turn_weight : (w : Turn) (r : Record) → weight (toggled_record w r) ≤ weight r
unfolding toggled_record
turn_weight w r = split (is_held r)
    (λ g. rw g (omega (arith, phase_weight (toggled_phase w r.phase) r g, turn_light w r.phase, held_weight r g)))
    (λ g. rw g (omega arith))

-- ---- every call

-- at most so many records are ready or counting
abbrev pub Few : ℕ → List Record → Type 0
Few n rs = busy rs ≤ n

-- what a request may be, if it is to leave no more: a validate request only where there may be one
abbrev pub Allows : ℕ → Request → Type 0
Allows n m = validates_in m ≡ true → 0 < n

ready_none : (exempt : Bool) (rs : List Record) → first_result exempt rs ≡ ready_result → busy rs ≤ 0
unfolding first_result
ready_none true rs e = absurd (omega arith)
ready_none false rs e = split (any_validates rs) (λ g. absurd (let z : 3 ≡ 1 = rw g at e in omega arith)) (λ g. busy_none rs g)

few_put : (e : Edition) (n : ℕ) (c : CarAddress) (rs : List Record) → Few n rs → (w : Checked Change) → OnYes (λ (x : Change). places.Ready x.place (free_places rs) (mine c rs)) w → OnYes (OfChange (LightOwn e (n - busy rs) (mine c rs))) w
    → OnYes (λ (x : Change). Few n (put c x.place x.kept rs)) w
few_put e n c rs h (no k) r l = tt
few_put e n c rs h (yes x) r l = omega (arith, busy_put c x.kept x.place rs r)

few_change : (e : Edition) (n : ℕ) (c : CarAddress) (m : RecordMessage) → Allows n (for_record m) → (a : ℕ) (exempt : Bool) (rs : List Record) → Few n rs
    → OnYes (λ (x : Change). Few n (put c x.place x.kept rs)) (change_rule e c m a (free_places rs) (first_result exempt rs) (mine c rs))
few_change e n c m f a exempt rs h = few_put e n c rs h (change_rule e c m a (free_places rs) (first_result exempt rs) (mine c rs)) (change_ready e c m a (free_places rs) (first_result exempt rs) (mine c rs))
    (light_change e (n - busy rs) (mine c rs) c m a (free_places rs) (first_result exempt rs) (λ v q. omega (arith, f v, ready_none exempt rs q)))

pub few_next : (n : ℕ) (o : Shared) (i : Inner) (x : Call) → Meets (Allows n) o.config x → Few n i.records → Few n (next i (rule o i x)).records
few_next n o = always (Few n) (Allows n) o
    (λ c u. few_change o.config.edition n c)
    (λ b e rs h. omega (arith, busy_map (tick_record b e) (tick_weight b e) rs))
    (λ w rs h. omega (arith, busy_map (toggled_record w) (turn_weight w) rs))
    (λ rs h. omega (arith, free_busy (map freed rs) (none_freed rs)))

-- at most one, whatever comes
pub one_validates : (o : Shared) (i : Inner) (x : Call) → Few 1 i.records → Few 1 (next i (rule o i x)).records
one_validates o i x = few_next 1 o i x (meets_every (Allows 1) (λ m v. omega arith) o.config x)
