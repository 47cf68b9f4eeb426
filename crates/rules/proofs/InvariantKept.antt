-- The invariant: configuring gives it, and every call keeps it.
use Prim.Native.Nat.{ℕ, zero, suc, ◌+◌, ◌*◌, ◌-◌, ◌^◌, ◌<◌, ◌≤◌}
use mathlib.Core.Path.{◌≡◌, refl, sym, subst}
use mathlib.Core.Bool.{Bool, true, false, not, cond, ◌&&◌, ◌||◌}
use mathlib.Core.List.{List, [], ◌∷◌}
use native.Mathlib.Omega.{arith}
use native.Mathlib.Nat.{one-le-pow}
use lib.Dec.{eqb, leb, ltb}
use lib.ListN.{get_or}
use borrow.Author.Tests.{not-true, eqb-true, eqb-false, ltb-true, leb-false}
use Rattle.messages.specs.declared.CarAddress.{CarAddress}
use Rattle.messages.specs.declared.Edition.{Edition}
use Rattle.messages.specs.declared.Edition.TheVariants.{Iso, Sae}
use Rattle.messages.specs.declared.ModemAddress.{ModemAddress}
use Rattle.messages.specs.declared.Nid.{Nid}
use Rattle.messages.specs.declared.Nmk.{Nmk}
use Rattle.messages.specs.declared.RunId.{RunId}
use Rattle.messages.specs.declared.StationAddress.{StationAddress}
use Rattle.octets.specs.Octets.{Octets}
use Rattle.messages.specs.Table.{is_count, is_unicast, group_count}
use Rattle.messages.specs.Reading.{Checked, no, yes}
use Rattle.messages.proofs.LayoutLaws.{and_left, and_right}
use Rattle.rules.specs.declared.Configuration.{Configuration}
use Rattle.rules.specs.declared.Phase.{Phase}
use Rattle.rules.specs.declared.Phase.TheVariants.{Asked, Sounding, Reported, Awaiting, Ready, Counting, Success}
use Rattle.rules.specs.declared.Record.{Record}
use Rattle.rules.specs.declared.Station.{Station}
use Rattle.rules.specs.declared.Turn.{Turn}
use Rattle.rules.specs.declared.Turn.TheVariants.{Begins, Ends, Stays, Breaks}
use Rattle.ends.specs.Constants.{retry_count}
use Rattle.rules.specs.Constants.{sounds_per_try, reported_time, ready_time, window_step, success_time, ready_result, record_count}
use Rattle.ends.specs.Lists.{All}
use Rattle.rules.specs.Calls.{Call, frame, tick, pilot, terminate, link_up}
use Rattle.rules.specs.Stations.{Shared, shared, inner}
use Rattle.rules.specs.Records.{is_held, holds, mine, free_places, owned, freed, no_sums, fresh, in_phase, with_heard, merged, added, fits_groups, groups_kept, groups_in, counted}
use Rattle.rules.specs.Received.{RecordMessage, parm_req, start, sound, profile, rsp, validate_first, validate_second, for_record}
use Rattle.rules.specs.Validation.{first_result, one_more, counts, toggled_phase, toggled_record}
use Rattle.rules.specs.Frames.{Place, Change, is_later, start_rule, sound_rule, profile_rule, rsp_rule, answered, first_rule, second_rule, change_rule}
use Rattle.rules.specs.Ticks.{Ticked, now_free, still_held, window_ends, tick_elapsed, tick_phase, record_of, tick_record}
use Rattle.amplitude.specs.Maps.{is_carriers}
use Rattle.rules.specs.Rules.{may_reply, free_record, configured, takes_reading, takes_pilot, shared_step, step}
use Rattle.rules.specs.FromOctets.{CountedValues, OctetRequest}
use Rattle.rules.specs.Invariant.{Within, Reportable, InPhase, TryFits, GroupsFit, GoodRecord, GoodConfiguration, Invariant, OctetCall}
use Rattle.ends.proofs.Logic.{split, clash, OnYes, on_cond}
use Rattle.ends.proofs.ListLaws.{all_map, all_only, all_replicate}
use Rattle.rules.proofs.RecordLaws.{freed_free}
use Rattle.rules.proofs.PhaseLaws.{OfKept, OfChange, on_start, on_sound, on_profile, on_rsp, on_first, on_second, on_parm, back_own, back_run}
use Rattle.rules.proofs.ReceivedLaws.{zeros_at, admitted_octets}
use Rattle.rules.proofs.Reached.{all_change}
use Rattle.rules.proofs.Always.{Meets, always, meets_frame}
use Rattle.rules.proofs.SoundLaws.{marked_below}
use Rattle.rules.proofs.TryLaws.{sounding_lasts, some_sounds}

-- ---- one record, in an edition

-- a record that counts no profile
no_groups_lem : (e : Edition) → GroupsFit e 0 0
no_groups_lem Iso = refl
no_groups_lem Sae = refl

-- a first try, and what a request makes
pub first_fits : (e : Edition) → TryFits e false
first_fits Iso = refl
first_fits Sae = tt

pub request_fits : (e : Edition) (p : Place) → TryFits e (is_later e p)
request_fits Iso p = refl
request_fits Sae p = tt

module _ (e : Edition) where
  -- what does not concern the car
  record Fit (r : Record) : Type 0 where
    sums : (i : ℕ) → get_or r.sums i 0 ≤ 255 * r.profiles
    past : (i : ℕ) → groups_in e r.groups ≤ i → get_or r.sums i 0 ≡ 0
    try : TryFits e r.later
    groups : GroupsFit e r.profiles r.groups
    phase : InPhase e r.later r.phase r.profiles
    heard : r.heard < 2 ^ sounds_per_try e r.later

  fit : (r : Record) → GoodRecord e r → Fit r
  fit r g = record { sums = g.sums; past = g.past; try = g.try; groups = g.groups; phase = g.phase; heard = g.heard }

  good_owned : (c : CarAddress) (r : Record) → is_unicast c.0 ≡ true → Fit r → GoodRecord e (owned c r)
  unfolding owned
  good_owned c r u f = record { sums = f.sums; past = f.past; try = f.try; groups = f.groups; phase = f.phase; heard = f.heard; car = λ h. u }

  good_freed : (r : Record) → Fit r → GoodRecord e (freed r)
  unfolding freed
  good_freed r f = record { sums = f.sums; past = f.past; try = f.try; groups = f.groups; phase = f.phase; heard = f.heard; car = λ h. clash (is_held (freed r)) h (freed_free r) }

  fit_fresh : (later : Bool) (c : CarAddress) (run : RunId) → TryFits e later → Fit (fresh later c run)
  unfolding fresh no_sums
  fit_fresh later c run t = record {
    sums = λ i. omega (arith, zeros_at group_count i);
    past = λ i h. zeros_at group_count i;
    try = t;
    groups = no_groups_lem e;
    phase = ((omega arith, omega arith), refl);
    heard = one-le-pow (sounds_per_try e later) 2 (omega arith);
  }

  -- a request's record
  pub fresh_good : (later : Bool) (c : CarAddress) (run : RunId) → TryFits e later → is_unicast c.0 ≡ true → GoodRecord e (owned c (fresh later c run))
  fresh_good later c run t u = good_owned c (fresh later c run) u (fit_fresh later c run t)

sums_added : (xs vs : List ℕ) (n i : ℕ) → ((j : ℕ) → get_or xs j 0 ≤ 255 * n) → Octets vs → get_or (added xs vs) i 0 ≤ 255 * (n + 1)
unfolding merged
sums_added [] vs n i a b = omega arith
sums_added (x ∷ xs) [] n i a b = omega (arith, a i)
sums_added (x ∷ xs) (v ∷ vs) n zero a b = omega (arith, a zero, b zero)
sums_added (x ∷ xs) (v ∷ vs) n (suc i) a b = sums_added xs vs n i (λ j. a (suc j)) (λ j. b (suc j))

-- where there is neither a sum nor a value, there is none
none_added : (xs vs : List ℕ) (i : ℕ) → get_or xs i 0 ≡ 0 → get_or vs i 0 ≡ 0 → get_or (added xs vs) i 0 ≡ 0
unfolding merged
none_added [] vs i a b = refl
none_added (x ∷ xs) [] i a b = a
none_added (x ∷ xs) (v ∷ vs) zero a b = omega (arith, a, b)
none_added (x ∷ xs) (v ∷ vs) (suc i) a b = none_added xs vs i a b

-- ---- a frame at its car's record

-- the groups of a record that counts a profile are those of the profile
kept_in : (e : Edition) (g : ℕ) → is_count e g ≡ true → groups_in e (groups_kept e g) ≡ g
kept_in Iso g h = sym (eqb-true g group_count h)
kept_in Sae g h = refl

-- which has one more
groups_fit : (e : Edition) (n g : ℕ) → is_count e g ≡ true → GroupsFit e (n + 1) (groups_kept e g)
groups_fit Iso n g h = refl
groups_fit Sae n g h = subst (λ (k : ℕ). GroupsFit Sae k g) (let q : suc n ≡ n + 1 = omega arith in q) h

-- and no fewer than the record had
no_fewer : (e : Edition) (g count : ℕ) → is_count e g ≡ true → fits_groups g count ≡ true → groups_in e count ≤ g
unfolding fits_groups
no_fewer Iso g count h k = omega (arith, eqb-true g group_count h)
no_fewer Sae g count h k = split (eqb count 0)
    (λ a. omega (arith, eqb-true count 0 a))
    (λ a. omega (arith, eqb-true g count (subst (λ (b : Bool). b || eqb g count ≡ true) a k)))

module _ (e : Edition) (r : Record) (f : Fit e r) where
  in_phase_lem : (p : Phase) → r.phase ≡ p → InPhase e r.later p r.profiles
  in_phase_lem p q = subst (λ (x : Phase). InPhase e r.later x r.profiles) q f.phase

  fit_phase : (p : Phase) → InPhase e r.later p r.profiles → Fit e (in_phase p r)
  unfolding in_phase
  fit_phase p h = record { sums = f.sums; past = f.past; try = f.try; groups = f.groups; phase = h; heard = f.heard }

  start_fit : (k : ℕ) → OnYes (OfKept (Fit e)) (start_rule e k r r.phase)
  start_fit k = on_start (OfKept (Fit e)) e r k r.phase
      (λ t q. let z = (in_phase_lem (Asked t) q).1 in fit_phase (Sounding _) ((sounding_lasts e r.later, omega arith), omega (arith, some_sounds e r.later)))
      (λ t q. f)

  sound_fit : (k : ℕ) → OnYes (OfKept (Fit e)) (sound_rule e k r r.phase)
  unfolding with_heard
  sound_fit k = on_sound (OfKept (Fit e)) e r k r.phase
      (λ a b. record { sums = f.sums; past = f.past; try = f.try; groups = f.groups; phase = f.phase; heard = marked_below (sounds_per_try e r.later) k r.heard a f.heard b })

  -- a profile counted, in a phase
  counted_fit : (g : ℕ) (vs : List ℕ) (p : Phase) → CountedValues e g vs → fits_groups g r.groups ≡ true → InPhase e r.later p (r.profiles + 1) → Fit e (in_phase p (counted (groups_kept e g) vs r))
  unfolding counted in_phase
  counted_fit g vs p o k h = record {
    sums = λ i. sums_added r.sums vs r.profiles i f.sums o.octets;
    past = λ i b.
        let c = kept_in e g o.count in
        none_added r.sums vs i (f.past i (omega (arith, no_fewer e g r.groups o.count k))) (o.past i (omega arith));
    try = f.try;
    groups = groups_fit e r.profiles g o.count;
    phase = h;
    heard = f.heard;
  }

  profile_fit : (g : ℕ) (vs : List ℕ) → CountedValues e g vs → OnYes (OfKept (Fit e)) (profile_rule e g vs r r.phase)
  unfolding counted in_phase
  profile_fit g vs o = on_profile (OfKept (Fit e)) e r g vs r.phase
      (λ t q k a.
      let h = in_phase_lem (Sounding t) q in
      counted_fit g vs (Reported reported_time retry_count) o k ((omega arith, omega arith), (omega arith, (omega arith, omega arith))))
      (λ t q k a.
      let h = in_phase_lem (Sounding t) q in
      counted_fit g vs r.phase o k (subst (λ (x : Phase). InPhase e r.later x (r.profiles + 1)) (sym q) (h.0, omega (arith, eqb-false (r.profiles + 1) (sounds_per_try e r.later) a))))

  rsp_fit : OnYes (OfKept (Fit e)) (rsp_rule r r.phase)
  rsp_fit = on_rsp (OfKept (Fit e)) e r r.phase (λ t n q. fit_phase (Awaiting _) ((omega arith, omega arith), (in_phase_lem (Reported t n) q).1.1))

  first_fit : (result : ℕ) → OnYes (OfKept (Fit e)) (first_rule result r r.phase)
  unfolding answered
  first_fit result = on_first (OfKept (Fit e)) e r result r.phase
      (λ t q. on_cond (Fit e) (eqb result ready_result) _ r (λ a. fit_phase (Ready ready_time) ((omega arith, omega arith), (in_phase_lem (Awaiting t) q).1)) (λ a. f))

  second_fit : (timer : ℕ) → timer < 256 → OnYes (OfKept (Fit e)) (second_rule timer r r.phase)
  second_fit timer o = on_second (OfKept (Fit e)) e r timer r.phase (λ t q. fit_phase (Counting (window_step * (timer + 1)) 0 false) ((omega arith, omega arith), (omega arith, (in_phase_lem (Ready t) q).1)))

module _ (e : Edition) (own : List Record) (g : All (GoodRecord e) own) where
  change_fit : (c : CarAddress) (m : RecordMessage) → OctetRequest e (for_record m) → (a free result : ℕ) → OnYes (OfChange (Fit e)) (change_rule e c m a free result own)
  unfolding change_rule
  change_fit c (parm_req run) o a free result = on_parm (Fit e) e c run a free result own (λ p. fit_fresh e _ c run (request_fits e p))
  change_fit c (start run k) o a free result = back_run (GoodRecord e) (Fit e) own g run (λ (r : Record). start_rule e k r r.phase) (λ r q. start_fit e r (fit e r q) k)
  change_fit c (sound run k) o a free result = back_run (GoodRecord e) (Fit e) own g run (λ (r : Record). sound_rule e k r r.phase) (λ r q. sound_fit e r (fit e r q) k)
  change_fit c (profile n vs) o a free result = back_own (GoodRecord e) (Fit e) own g (λ (r : Record). profile_rule e n vs r r.phase) (λ r q. profile_fit e r (fit e r q) n vs o)
  change_fit c (rsp run) o a free result = back_run (GoodRecord e) (Fit e) own g run (λ (r : Record). rsp_rule r r.phase) (λ r q. rsp_fit e r (fit e r q))
  change_fit c validate_first o a free result = back_own (GoodRecord e) (Fit e) own g (λ (r : Record). first_rule result r r.phase) (λ r q. first_fit e r (fit e r q) result)
  change_fit c (validate_second timer) o a free result = back_own (GoodRecord e) (Fit e) own g (λ (r : Record). second_rule timer r r.phase) (λ r q. second_fit e r (fit e r q) timer o)

-- as its car's own, the record of a change is a good one
abbrev GoodChange : Edition → CarAddress → Change → Type 0
GoodChange e c x = GoodRecord e (owned c x.kept)

own_good : (e : Edition) (c : CarAddress) → is_unicast c.0 ≡ true → (w : Checked Change) → OnYes (OfChange (Fit e)) w → OnYes (GoodChange e c) w
own_good e c u (no n) h = tt
own_good e c u (yes x) h = good_owned e c x.kept u h

-- what a message at its car's records leaves
pub change_good : (e : Edition) (c : CarAddress) → is_unicast c.0 ≡ true → (own : List Record) → All (GoodRecord e) own → (m : RecordMessage) → OctetRequest e (for_record m) → (a free result : ℕ) → OnYes (λ (x : Change). GoodRecord e (owned c x.kept)) (change_rule e c m a free result own)
change_good e c u own g m o a free result = own_good e c u (change_rule e c m a free result own) (change_fit e own g c m o a free result)

-- ---- a tick at one record

abbrev FitTicked : Edition → Ticked → Type 0
FitTicked e (now_free ts) = Unit {0}
FitTicked e (still_held n ts) = Fit e n

module _ (e : Edition) (b : Bool) (d : ℕ) (r : Record) (f : Fit e r) where
  -- what is left of a time that does not fire
  left : (t most : ℕ) → Within t most → leb t d ≡ false → Within (t - d) most
  left t most w h = let k : d < t = leb-false t d h in (omega arith, omega arith)

  window_fit : (g : Bool) (k : ℕ) → Reportable (sounds_per_try e r.later) r.profiles → FitTicked e (window_ends g k r)
  unfolding window_ends
  window_fit true k h = fit_phase e r f (Success success_time) ((omega arith, omega arith), h)
  window_fit false k h = tt

  tick_fit : (p : Phase) → r.phase ≡ p → FitTicked e (tick_phase b d r p)
  unfolding tick_phase
  tick_fit (Asked t) q =
      let h = in_phase_lem e r f (Asked t) q in
      split (leb t d) (λ a. rw a tt) (λ a. rw a (fit_phase e r f (Asked (t - d)) (left t _ h.0 a, h.1)))
  tick_fit (Sounding t) q =
      let h = in_phase_lem e r f (Sounding t) q in
      split (leb t d)
      (λ a. rw a (split (eqb r.profiles 0)
      (λ b. rw b tt)
      (λ b. rw b (fit_phase e r f (Reported reported_time retry_count) ((omega arith, omega arith), (omega arith, (omega (arith, eqb-false r.profiles 0 b), omega arith)))))))
      (λ a. rw a (fit_phase e r f (Sounding (t - d)) (left t _ h.0 a, h.1)))
  tick_fit (Reported t n) q =
      let h = in_phase_lem e r f (Reported t n) q in
      split (leb t d)
      (λ a. rw a (split (eqb n 0)
      (λ b. rw b tt)
      (λ b. rw b (fit_phase e r f (Reported reported_time _) ((omega arith, omega arith), (omega arith, h.1.1))))))
      (λ a. rw a (fit_phase e r f (Reported (t - d) n) (left t _ h.0 a, h.1)))
  tick_fit (Awaiting t) q =
      let h = in_phase_lem e r f (Awaiting t) q in
      split (leb t d) (λ a. rw a tt) (λ a. rw a (fit_phase e r f (Awaiting (t - d)) (left t _ h.0 a, h.1)))
  tick_fit (Ready t) q =
      let h = in_phase_lem e r f (Ready t) q in
      split (leb t d) (λ a. rw a tt) (λ a. rw a (fit_phase e r f (Ready (t - d)) (left t _ h.0 a, h.1)))
  tick_fit (Counting t k g) q =
      let h = in_phase_lem e r f (Counting t k g) q in
      split (leb t d)
      (λ a. rw a (window_fit b k h.1.1))
      (λ a. rw a (fit_phase e r f (Counting (t - d) k g) (left t _ h.0 a, h.1)))
  tick_fit (Success t) q =
      let h = in_phase_lem e r f (Success t) q in
      split (leb t d) (λ a. rw a tt) (λ a. rw a (fit_phase e r f (Success (t - d)) (left t _ h.0 a, h.1)))

  ticked_good : is_unicast r.car.0 ≡ true → (x : Ticked) → FitTicked e x → GoodRecord e (record_of r x)
  unfolding record_of
  ticked_good u (now_free ts) h = good_freed e r f
  ticked_good u (still_held n ts) h = good_owned e r.car n u h

tick_good : (e : Edition) (b : Bool) (d : ℕ) (r : Record) → GoodRecord e r → GoodRecord e (tick_record b d r)
unfolding tick_record
tick_good e b d r g = split (is_held r)
    (λ h. rw h (ticked_good e b d r (fit e r g) (g.car h) (tick_phase b d r r.phase) (tick_fit e b d r (fit e r g) r.phase refl)))
    (λ h. rw h g)

-- ---- a pilot change at one record

counts_fit : (e : Edition) (l : Bool) (w : Turn) (t k : ℕ) (b : Bool) (n : ℕ) → InPhase e l (Counting t k b) n → InPhase e l (counts w t k b) n
unfolding counts one_more
counts_fit e l Begins t k b n h = h
counts_fit e l Ends t k true n h = (h.0, (omega arith, h.1.1))
counts_fit e l Ends t k false n h = h
counts_fit e l Stays t k b n h = h
counts_fit e l Breaks t k b n h = h

turn_fit : (e : Edition) (l : Bool) (w : Turn) (p : Phase) (n : ℕ) → InPhase e l p n → InPhase e l (toggled_phase w p) n
unfolding toggled_phase
turn_fit e l w (Asked t) n h = h
turn_fit e l w (Sounding t) n h = h
turn_fit e l w (Reported t k) n h = h
turn_fit e l w (Awaiting t) n h = h
turn_fit e l w (Ready t) n h = h
turn_fit e l w (Counting t k b) n h = counts_fit e l w t k b n h
turn_fit e l w (Success t) n h = h

good_phase : (e : Edition) (p : Phase) (r : Record) → GoodRecord e r → is_unicast r.car.0 ≡ true → InPhase e r.later p r.profiles → GoodRecord e (in_phase p r)
unfolding in_phase
good_phase e p r g u h = record { sums = g.sums; past = g.past; try = g.try; groups = g.groups; phase = h; heard = g.heard; car = λ k. u }

turn_good : (e : Edition) (w : Turn) (r : Record) → GoodRecord e r → GoodRecord e (toggled_record w r)
unfolding toggled_record
turn_good e w r g = split (is_held r)
    (λ h. rw h (good_phase e (toggled_phase w r.phase) r g (g.car h) (turn_fit e r.later w r.phase r.profiles g.phase)))
    (λ h. rw h g)

-- ---- the station

octet_meets : (o : Configuration) (x : Call) → OctetCall x → Meets (OctetRequest o.edition) o x
octet_meets o x h = meets_frame (OctetRequest o.edition) o x (λ s room e. admitted_octets o.edition o room s (subst OctetCall e h))

-- no call changes the configuration
reading_config : (w : Checked ℕ) (t : ℕ) (o : Shared) → (takes_reading w t o).config ≡ o.config
unfolding takes_reading
reading_config (no n) t o = refl
reading_config (yes e) t o = refl

pilot_config : (b : Bool) (o q : Shared) → q.config ≡ o.config → (cond b q o).config ≡ o.config
pilot_config true o q e = e
pilot_config false o q e = refl

pub config_same : (o : Shared) (x : Call) → (shared_step o x).config ≡ o.config
unfolding shared_step takes_pilot
config_same o (frame s room) = refl
config_same o (tick t room) = reading_config (tick_elapsed o t room) t o
config_same o (pilot p t) = pilot_config o.config.good o _ refl
config_same o terminate = refl
config_same o link_up = refl

pub step_keeps : (s : Station) (x : Call) → OctetCall x → Invariant s → Invariant (step s x)
unfolding step
step_keeps s x h i = record {
  config = subst GoodConfiguration (sym (config_same (shared s) x)) i.config;
  records = let e = s.config.edition in
      let kept = always (All (GoodRecord e)) (OctetRequest e) (shared s)
      (λ c u m o a x rs g. all_change (GoodRecord e) c rs g (change_rule e c m a (free_places rs) (first_result x rs) (mine c rs)) (change_good e c u (mine c rs) (all_only (GoodRecord e) (holds c) rs g) m o a (free_places rs) (first_result x rs)))
      (λ b d rs g. all_map (GoodRecord e) (tick_record b d) (tick_good e b d) rs g)
      (λ w rs g. all_map (GoodRecord e) (toggled_record w) (turn_good e w) rs g)
      (λ rs g. all_map (GoodRecord e) freed (λ r q. good_freed e r (fit e r q)) rs g)
      (inner s) x (octet_meets s.config x h) i.records in
      subst (λ (o : Configuration). All (GoodRecord o.edition) (step s x).records) (sym (config_same (shared s) x)) kept;
}

-- ---- configuring

-- a configuration that is marked good only where replies can be sent
pub config_good : (o : Configuration) → (o.good ≡ true → may_reply o.address o.modem o.nid ≡ true) → GoodConfiguration o
config_good o h =
    let x = is_unicast o.address.0 in
    let y = is_unicast o.modem.0 in
    let z = not (eqb o.address.0 o.modem.0) in
    let w = ltb o.nid.0 (2 ^ 54) in
    record {
      address = λ g. and_left x y (and_left (x && y) z (and_left (x && y && z) w (h g)));
      modem = λ g. and_right x y (and_left (x && y) z (and_left (x && y && z) w (h g)));
      different = λ g. eqb-false o.address.0 o.modem.0 (not-true _ (and_right (x && y) z (and_left (x && y && z) w (h g))));
      nid = λ g. ltb-true o.nid.0 (2 ^ 54) (and_right (x && y && z) w (h g));
    }

pub configured_keeps : (address : StationAddress) (modem : ModemAddress) (nid : Nid) (nmk : Nmk) (exempt : Bool) (edition : Edition) (carriers : ℕ) → Invariant (configured address modem nid nmk exempt edition carriers)
unfolding configured free_record
configured_keeps a m nid nmk exempt e carriers = record {
  config = config_good _ (λ g. and_left (may_reply a m nid) (is_carriers carriers) g);
  records = all_replicate (GoodRecord e) free_record (good_freed e _ (fit_fresh e _ _ _ (first_fits e))) record_count;
}
