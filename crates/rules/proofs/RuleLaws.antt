-- Laws of what concerns a car's record: where its record goes, and what the number of free places and a first validate request's result decide.
use Prim.Native.Nat.{ℕ, ◌≤◌}
use mathlib.Core.Path.{◌≡◌, refl}
use mathlib.Core.Bool.{Bool, true, false, not, ◌&&◌}
use mathlib.Core.List.{List, [], ◌∷◌}
use lib.Dec.{eqb, ltb}
use borrow.Author.Tests.{ltb-true, lt-ltb}
use Rattle.messages.specs.declared.CarAddress.{CarAddress}
use Rattle.messages.specs.declared.Edition.{Edition}
use Rattle.messages.specs.declared.RunId.{RunId}
use Rattle.messages.specs.Reading.{Checked, no, yes, check}
use Rattle.rules.specs.declared.Configuration.{Configuration}
use Rattle.ends.specs.declared.Indication.TheVariants.{Nothing}
use Rattle.rules.specs.declared.Phase.{Phase}
use Rattle.rules.specs.declared.Phase.TheVariants as phases
use Rattle.rules.specs.declared.Record.{Record}
use Rattle.rules.specs.declared.State.TheVariants.{Matched}
use Rattle.rules.specs.Records.{same_car, same_run, is_empty}
use Rattle.rules.specs.Replies.{Reply, confirmation, map_cnf_to}
use Rattle.rules.specs.Stations.{Done, done}
use Rattle.rules.specs.Received.{RecordMessage, parm_req, start, sound, profile, rsp, validate_first, validate_second}
use Rattle.rules.specs.Frames.{Kept, free_place, Change, put_back, is_later, start_rule, sound_rule, profile_rule, rsp_rule, first_rule, second_rule, at_own, at_run, requested, parm_rule, change_rule, match_rule, map_rule}
use Rattle.ends.proofs.Logic.{clash, OnYes, on_check}
use Rattle.rules.proofs.RecordLaws.{Ready, takes}

-- what holds of each answer at the car's record
module _ {A : Type 0} (P : A → Type 0) where
  pub on_own : (own : List Record) (f : Record → Checked A) → ((r : Record) (rs : List Record) → own ≡ r ∷ rs → OnYes P (f r)) → OnYes P (at_own own f)
  on_own [] f h = tt
  on_own (r ∷ rs) f h = h r rs refl

  pub on_run : (run : RunId) (own : List Record) (f : Record → Checked A) → ((r : Record) (rs : List Record) → own ≡ r ∷ rs → OnYes P (f r)) → OnYes P (at_run run own f)
  on_run run own f h = on_own own (λ (r : Record). check (same_run run r.run) 11 (f r)) (λ r rs e. on_check P (same_run run r.run) 11 (f r) (λ s. h r rs e))

-- and of the change that puts the record back
pub on_back : (P : Record → List Reply → Type 0) (w : Checked Kept) → OnYes (λ (k : Kept). P k.kept k.replies) w → OnYes (λ (x : Change). P x.kept x.replies) (put_back w)
on_back P (no n) h = tt
on_back P (yes k) h = h

-- what holds of the same state and records holds behind AMP_MAP.REQ
pub on_map : (P : Done → Type 0) (o : Configuration) (d : CarAddress) (rs : List Record) (c : CarAddress) (n : ℕ) → P (done (Matched d) rs (map_cnf_to o c ∷ []) Nothing) → OnYes P (map_rule o d rs c n)
unfolding map_rule
on_map P o d rs c n h = on_check P (same_car c d) 11 _ (λ a. on_check P (eqb n o.carriers) 24 _ (λ b. h))

-- ---- the place is ready

abbrev IsReady : ℕ → List Record → Change → Type 0
IsReady free own x = Ready x.place free own

back_ready : (free : ℕ) (own : List Record) (w : Checked Kept) → OnYes (IsReady free own) (put_back w)
back_ready free own (no n) = tt
back_ready free own (yes k) = tt

parm_ready : (e : Edition) (c : CarAddress) (run : RunId) (a free : ℕ) (own : List Record) → OnYes (IsReady free own) (parm_rule e c run a free own)
unfolding parm_rule requested
parm_ready e c run a free (r ∷ own) = tt
parm_ready e c run a free [] = on_check (IsReady free []) (ltb 0 a) 9 _ (λ g. on_check (IsReady free []) (ltb 0 free) 10 _ (λ h. (refl, ltb-true 0 free h)))

pub change_ready : (e : Edition) (c : CarAddress) (m : RecordMessage) (a free result : ℕ) (own : List Record) → OnYes (λ (x : Change). Ready x.place free own) (change_rule e c m a free result own)
unfolding change_rule
change_ready e c (parm_req run) a free result own = on_check (IsReady free own) (not (is_empty run)) _ _ (λ n. parm_ready e c run a free own)
change_ready e c (start run k) a free result own = back_ready free own (at_run run own (λ (r : Record). start_rule e k r r.phase))
change_ready e c (sound run k) a free result own = back_ready free own (at_run run own (λ (r : Record). sound_rule e k r r.phase))
change_ready e c (profile g vs) a free result own = back_ready free own (at_own own (λ (r : Record). profile_rule e g vs r r.phase))
change_ready e c (rsp run) a free result own = back_ready free own (at_run run own (λ (r : Record). rsp_rule r r.phase))
change_ready e c validate_first a free result own = back_ready free own (at_own own (λ (r : Record). first_rule result r r.phase))
change_ready e c (validate_second timer) a free result own = back_ready free own (at_own own (λ (r : Record). second_rule timer r r.phase))

-- ---- the number of free places decides only 10, the result only what a first validate request is answered

abbrev pub is_ask : RecordMessage → Bool
is_ask (parm_req run) = true
is_ask (start run k) = false
is_ask (sound run k) = false
is_ask (profile g vs) = false
is_ask (rsp run) = false
is_ask validate_first = false
is_ask (validate_second timer) = false

abbrev pub is_validate : RecordMessage → Bool
is_validate (parm_req run) = false
is_validate (start run k) = false
is_validate (sound run k) = false
is_validate (profile g vs) = false
is_validate (rsp run) = false
is_validate validate_first = true
is_validate (validate_second timer) = true

abbrev pub refused_ten : Checked Change → Bool
refused_ten (no n) = eqb n 10
refused_ten (yes x) = false

parm_same : (e : Edition) (c : CarAddress) (run : RunId) (a free free' : ℕ) (own : List Record)
    → refused_ten (parm_rule e c run a free own) ≡ false → OnYes (λ (x : Change). takes x.place ≤ free') (parm_rule e c run a free own)
    → parm_rule e c run a free own ≡ parm_rule e c run a free' own
unfolding parm_rule requested
parm_same e c run a free free' (r ∷ own) t k = refl
parm_same e c run a free free' [] t k = go (ltb 0 a) (ltb 0 free) t k
  where
    go : (x y : Bool)
        → refused_ten (check x 9 (check y 10 (yes (requested (is_later e free_place) c run free_place)))) ≡ false
        → OnYes (λ (z : Change). takes z.place ≤ free') (check x 9 (check y 10 (yes (requested (is_later e free_place) c run free_place))))
        → check x 9 (check y 10 (yes (requested (is_later e free_place) c run free_place))) ≡ check x 9 (check (ltb 0 free') 10 (yes (requested (is_later e free_place) c run free_place)))
    go false y t k = refl
    go true false t k = clash true refl t
    go true true t k = rw (lt-ltb 0 free' k)

-- where the change confirms the one result, the other is the same
abbrev pub SameResult : RecordMessage → ℕ → ℕ → Change → Type 0
SameResult m result result' x = is_validate m ≡ true → x.replies ≡ confirmation 0 result ∷ [] → result ≡ result'

first_same : (result result' : ℕ) (r : Record) (p : Phase) → OnYes (SameResult validate_first result result') (put_back (first_rule result r p)) → put_back (first_rule result r p) ≡ put_back (first_rule result' r p)
unfolding first_rule
first_same result result' r (phases.Asked t) v = refl
first_same result result' r (phases.Sounding t) v = refl
first_same result result' r (phases.Reported t n) v = refl
first_same result result' r (phases.Awaiting t) v = rw (← v refl refl)
first_same result result' r (phases.Ready t) v = refl
first_same result result' r (phases.Counting t n b) v = refl
first_same result result' r (phases.Success t) v = refl

validate_same : (result result' : ℕ) (own : List Record) → OnYes (SameResult validate_first result result') (put_back (at_own own (λ (r : Record). first_rule result r r.phase)))
    → put_back (at_own own (λ (r : Record). first_rule result r r.phase)) ≡ put_back (at_own own (λ (r : Record). first_rule result' r r.phase))
validate_same result result' [] v = refl
validate_same result result' (r ∷ own) v = first_same result result' r r.phase v

-- a request that 21 refuses is refused whatever is free
unempty_same : (e : Edition) (c : CarAddress) (run : RunId) (b : Bool) (a free free' : ℕ) (own : List Record)
    → refused_ten (check b 21 (parm_rule e c run a free own)) ≡ false → OnYes (λ (x : Change). takes x.place ≤ free') (check b 21 (parm_rule e c run a free own))
    → check b 21 (parm_rule e c run a free own) ≡ check b 21 (parm_rule e c run a free' own)
unempty_same e c run true a free free' own t k = parm_same e c run a free free' own t k
unempty_same e c run false a free free' own t k = refl

pub change_same : (e : Edition) (c : CarAddress) (m : RecordMessage) (a free free' result result' : ℕ) (own : List Record)
    → is_ask m && refused_ten (change_rule e c m a free result own) ≡ false → OnYes (λ (x : Change). takes x.place ≤ free') (change_rule e c m a free result own)
    → OnYes (SameResult m result result') (change_rule e c m a free result own)
    → change_rule e c m a free result own ≡ change_rule e c m a free' result' own
unfolding change_rule
change_same e c (parm_req run) a free free' result result' own t k v = unempty_same e c run (not (is_empty run)) a free free' own t k
change_same e c (start run p) a free free' result result' own t k v = refl
change_same e c (sound run n) a free free' result result' own t k v = refl
change_same e c (profile g vs) a free free' result result' own t k v = refl
change_same e c (rsp run) a free free' result result' own t k v = refl
change_same e c validate_first a free free' result result' own t k v = validate_same result result' own v
change_same e c (validate_second timer) a free free' result result' own t k v = refl

-- what is refused after a test is refused
still_no : (b : Bool) (m n : ℕ) → (k : ℕ) × (check {A = Change} b m (no n) ≡ no k)
still_no true m n = (n, refl)
still_no false m n = (m, refl)

-- admission closed, and no record: whatever comes is refused
pub change_closed : (e : Edition) (c : CarAddress) (m : RecordMessage) (free result : ℕ) → (n : ℕ) × (change_rule e c m 0 free result [] ≡ no n)
unfolding change_rule parm_rule
change_closed e c (parm_req run) free result = still_no (not (is_empty run)) _ _
change_closed e c (start run k) free result = (11, refl)
change_closed e c (sound run k) free result = (11, refl)
change_closed e c (profile g vs) free result = (11, refl)
change_closed e c (rsp run) free result = (11, refl)
change_closed e c validate_first free result = (11, refl)
change_closed e c (validate_second timer) free result = (11, refl)

pub match_none : (run : RunId) → match_rule run [] ≡ no 11
unfolding match_rule
match_none run = refl
