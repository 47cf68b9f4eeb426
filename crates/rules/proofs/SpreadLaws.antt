-- In every group of a record that counts a profile, the least value is at most the greatest.
use Prim.Native.Nat.{ℕ, zero, suc, min, max, ◌≤◌}
use mathlib.Core.Path.{◌≡◌, refl, ◌∙◌, ap}
use mathlib.Core.Bool.{Bool, true, false, cond}
use mathlib.Core.List.{List, [], ◌∷◌}
use native.Mathlib.Omega.{arith}
use lib.Dec.{eqb, leb}
use lib.ListN.{length, get_or, replicate}
use Rattle.messages.specs.declared.CarAddress.{CarAddress}
use Rattle.messages.specs.declared.Edition.{Edition}
use Rattle.messages.specs.declared.RunId.{RunId}
use Rattle.messages.specs.Table.{group_count}
use Rattle.rules.specs.declared.Phase.{Phase}
use Rattle.rules.specs.declared.Phase.TheVariants.{Asked, Sounding, Reported, Awaiting, Ready, Counting, Success}
use Rattle.rules.specs.declared.Record.{Record}
use Rattle.rules.specs.declared.Spread.{Spread}
use Rattle.rules.specs.declared.Station.{Station}
use Rattle.rules.specs.declared.Turn.{Turn}
use Rattle.ends.specs.Constants.{retry_count}
use Rattle.rules.specs.Constants.{ready_result}
use Rattle.ends.specs.Lists.{All}
use Rattle.ends.specs.Outcomes.{next}
use Rattle.rules.specs.Calls.{Call}
use Rattle.rules.specs.Stations.{Shared, Inner, shared, inner}
use Rattle.rules.specs.Records.{is_held, holds, mine, free_places, owned, freed, no_spread, fresh, in_phase, with_heard, merged, widened, groups_kept, counted}
use Rattle.rules.specs.Received.{RecordMessage, parm_req, start, sound, profile, rsp, validate_first, validate_second, for_record}
use Rattle.rules.specs.Validation.{first_result, toggled_record}
use Rattle.rules.specs.Frames.{Change, start_rule, sound_rule, profile_rule, rsp_rule, answered, first_rule, second_rule, change_rule, put}
use Rattle.rules.specs.Ticks.{Ticked, now_free, still_held, runs_out, waits, reports, window_ends, fires, tick_phase, record_of, tick_record}
use Rattle.rules.specs.Rules.{free_record, rule, step}
use Rattle.rules.specs.Reachable.{Ordered}
use Rattle.ends.proofs.Logic.{OnYes, on_cond}
use Rattle.ends.proofs.ListLaws.{all_map, all_only, all_replicate}
use Rattle.rules.proofs.PhaseLaws.{OfKept, OfChange, on_start, on_sound, on_profile, on_rsp, on_first, on_second, on_parm, back_own, back_run}
use Rattle.rules.proofs.ReceivedLaws.{LongRequest, admitted_long}
use Rattle.rules.proofs.Reached.{all_change}
use Rattle.rules.proofs.Always.{always, meets_frame}

-- ---- one record

-- a spread that has both values of each group
pub record Whole (x : Spread) : Type 0 where
  least : length x.least ≡ group_count
  greatest : length x.greatest ≡ group_count

abbrev pub Wide : Record → Type 0
Wide r = Whole r.spread × Ordered r

pub merged_length : (f : ℕ → ℕ → ℕ) (xs vs : List ℕ) → length (merged f xs vs) ≡ length xs
unfolding merged
merged_length f [] vs = refl
merged_length f (x ∷ xs) [] = refl
merged_length f (x ∷ xs) (v ∷ vs) = ap suc (merged_length f xs vs)

-- each value is at least the least of its group and at most the greatest
merged_ordered : (xs ys vs : List ℕ) (i : ℕ) → length xs ≡ length vs → length ys ≡ length vs → get_or (merged min xs vs) i 0 ≤ get_or (merged max ys vs) i 0
unfolding merged
merged_ordered [] ys vs i a b = omega arith
merged_ordered (x ∷ xs) ys [] i a b = absurd (omega arith)
merged_ordered (x ∷ xs) [] (v ∷ vs) i a b = absurd (omega arith)
merged_ordered (x ∷ xs) (y ∷ ys) (v ∷ vs) zero a b = omega arith
merged_ordered (x ∷ xs) (y ∷ ys) (v ∷ vs) (suc i) a b = merged_ordered xs ys vs i (omega arith) (omega arith)

wide_fresh : (later : Bool) (c : CarAddress) (run : RunId) → Wide (fresh later c run)
unfolding fresh no_spread
wide_fresh later c run = (record { least = refl; greatest = refl }, λ h. absurd (omega arith))

wide_counted : (g : ℕ) (vs : List ℕ) (r : Record) → length vs ≡ group_count → Wide r → Wide (counted g vs r)
unfolding counted widened
wide_counted g vs r l (w, o) = (
  record { least = merged_length min r.spread.least vs ∙ w.least; greatest = merged_length max r.spread.greatest vs ∙ w.greatest },
  λ h i. merged_ordered r.spread.least r.spread.greatest vs i (omega arith) (omega arith),
)

wide_owned : (c : CarAddress) (r : Record) → Wide r → Wide (owned c r)
unfolding owned
wide_owned c r w = w

wide_freed : (r : Record) → Wide r → Wide (freed r)
unfolding freed
wide_freed r w = w

wide_phase : (p : Phase) (r : Record) → Wide r → Wide (in_phase p r)
unfolding in_phase
wide_phase p r w = w

-- ---- a frame at its car's record

module _ (e : Edition) (r : Record) (w : Wide r) where
  start_wide : (k : ℕ) → OnYes (OfKept Wide) (start_rule e k r r.phase)
  start_wide k = on_start (OfKept Wide) e r k r.phase (λ t q. wide_phase _ r w) (λ t q. w)

  sound_wide : (k : ℕ) → OnYes (OfKept Wide) (sound_rule e k r r.phase)
  unfolding with_heard
  sound_wide k = on_sound (OfKept Wide) e r k r.phase (λ a b. w)

  profile_wide : (g : ℕ) (vs : List ℕ) → length vs ≡ group_count → OnYes (OfKept Wide) (profile_rule e g vs r r.phase)
  profile_wide g vs l = let n = wide_counted (groups_kept e g) vs r l w in on_profile (OfKept Wide) e r g vs r.phase (λ t q k a. wide_phase _ (counted (groups_kept e g) vs r) n) (λ t q k a. n)

  rsp_wide : OnYes (OfKept Wide) (rsp_rule r r.phase)
  rsp_wide = on_rsp (OfKept Wide) e r r.phase (λ t n q. wide_phase _ r w)

  first_wide : (result : ℕ) → OnYes (OfKept Wide) (first_rule result r r.phase)
  unfolding answered
  first_wide result = on_first (OfKept Wide) e r result r.phase (λ t q. on_cond Wide (eqb result ready_result) _ r (λ a. wide_phase _ r w) (λ a. w))

  second_wide : (timer : ℕ) → OnYes (OfKept Wide) (second_rule timer r r.phase)
  second_wide timer = on_second (OfKept Wide) e r timer r.phase (λ t q. wide_phase _ r w)

module _ (e : Edition) (own : List Record) (g : All Wide own) where
  change_wide : (c : CarAddress) (m : RecordMessage) → LongRequest (for_record m) → (a free result : ℕ) → OnYes (OfChange Wide) (change_rule e c m a free result own)
  unfolding change_rule
  change_wide c (parm_req run) l a free result = on_parm Wide e c run a free result own (λ p. wide_fresh _ c run)
  change_wide c (start run k) l a free result = back_run Wide Wide own g run (λ (r : Record). start_rule e k r r.phase) (λ r w. start_wide e r w k)
  change_wide c (sound run k) l a free result = back_run Wide Wide own g run (λ (r : Record). sound_rule e k r r.phase) (λ r w. sound_wide e r w k)
  change_wide c (profile n vs) l a free result = back_own Wide Wide own g (λ (r : Record). profile_rule e n vs r r.phase) (λ r w. profile_wide e r w n vs l)
  change_wide c (rsp run) l a free result = back_run Wide Wide own g run (λ (r : Record). rsp_rule r r.phase) (rsp_wide e)
  change_wide c validate_first l a free result = back_own Wide Wide own g (λ (r : Record). first_rule result r r.phase) (λ r w. first_wide e r w result)
  change_wide c (validate_second timer) l a free result = back_own Wide Wide own g (λ (r : Record). second_rule timer r r.phase) (λ r w. second_wide e r w timer)

put_wide : (e : Edition) (c : CarAddress) (m : RecordMessage) → LongRequest (for_record m) → (a : ℕ) (exempt : Bool) (rs : List Record) → All Wide rs
    → OnYes (λ (x : Change). All Wide (put c x.place x.kept rs)) (change_rule e c m a (free_places rs) (first_result exempt rs) (mine c rs))
unfolding owned
put_wide e c m l a exempt rs g = all_change Wide c rs g (change_rule e c m a (free_places rs) (first_result exempt rs) (mine c rs)) (change_wide e (mine c rs) (all_only Wide (holds c) rs g) c m l a (free_places rs) (first_result exempt rs))

-- ---- a tick and a pilot change at one record

abbrev WideTicked : Ticked → Type 0
WideTicked (now_free ts) = Unit {0}
WideTicked (still_held n ts) = Wide n

module _ (b : Bool) (e : ℕ) (r : Record) (w : Wide r) where
  window_wide : (g : Bool) (k : ℕ) → WideTicked (window_ends g k r)
  unfolding window_ends
  window_wide true k = wide_phase _ r w
  window_wide false k = tt

  -- a time that fires or not
  fires_wide : (t : ℕ) (x : Ticked) (p : Phase) → WideTicked x → WideTicked (fires e t x (waits p r))
  fires_wide t x p h = on_cond WideTicked (leb t e) x _ (λ a. h) (λ a. wide_phase p r w)

  -- freed, or reported again
  again_wide : (n k : ℕ) → WideTicked (cond (eqb n 0) runs_out (reports k r))
  again_wide n k = on_cond WideTicked (eqb n 0) runs_out _ (λ a. tt) (λ a. wide_phase _ r w)

  tick_wide : (p : Phase) → WideTicked (tick_phase b e r p)
  unfolding tick_phase
  tick_wide (Asked t) = fires_wide t runs_out _ tt
  tick_wide (Sounding t) = fires_wide t _ _ (again_wide r.profiles retry_count)
  tick_wide (Reported t n) = fires_wide t _ _ (again_wide n _)
  tick_wide (Awaiting t) = fires_wide t runs_out _ tt
  tick_wide (Ready t) = fires_wide t runs_out _ tt
  tick_wide (Counting t k g) = fires_wide t _ _ (window_wide b k)
  tick_wide (Success t) = fires_wide t runs_out _ tt

  ticked_wide : (x : Ticked) → WideTicked x → Wide (record_of r x)
  unfolding record_of
  ticked_wide (now_free ts) h = wide_freed r w
  ticked_wide (still_held n ts) h = wide_owned r.car n h

  record_wide : Wide (tick_record b e r)
  unfolding tick_record
  record_wide = on_cond Wide (is_held r) _ r (λ h. ticked_wide (tick_phase b e r r.phase) (tick_wide r.phase)) (λ h. w)

turn_wide : (t : Turn) (r : Record) → Wide r → Wide (toggled_record t r)
unfolding toggled_record
turn_wide t r w = on_cond Wide (is_held r) _ r (λ h. wide_phase _ r w) (λ h. w)

-- ---- every call

wide_next : (o : Shared) (i : Inner) (x : Call) → All Wide i.records → All Wide (next i (rule o i x)).records
wide_next o i x = always (All Wide) LongRequest o
    (λ c u. put_wide o.config.edition c)
    (λ b e. all_map Wide (tick_record b e) (record_wide b e))
    (λ t. all_map Wide (toggled_record t) (turn_wide t))
    (all_map Wide freed wide_freed)
    i x (meets_frame LongRequest o.config x (λ s room e. admitted_long o.config.edition o.config room s))

pub step_wide : (s : Station) (x : Call) → All Wide s.records → All Wide (step s x).records
unfolding step
step_wide s x g = wide_next (shared s) (inner s) x g

pub wide_free : (n : ℕ) → All Wide (replicate n free_record)
unfolding free_record
wide_free n = all_replicate Wide _ (wide_freed _ (wide_fresh _ _ _)) n

pub all_ordered : (rs : List Record) → All Wide rs → All Ordered rs
all_ordered [] g = tt
all_ordered (r ∷ rs) g = (g.0.1, all_ordered rs g.1)
