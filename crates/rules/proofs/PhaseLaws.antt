-- What holds of each record that a message leaves: each rule's phases are told apart here, once.
use Prim.Native.Nat.{ℕ, ◌+◌, ◌*◌, ◌<◌}
use mathlib.Core.Path.{◌≡◌, refl, subst}
use mathlib.Core.Bool.{true, false, not}
use mathlib.Core.List.{List, [], ◌∷◌}
use lib.Dec.{eqb, ltb}
use borrow.Author.Tests.{not-true, ltb-true}
use Rattle.messages.specs.declared.CarAddress.{CarAddress}
use Rattle.messages.specs.declared.Edition.{Edition}
use Rattle.messages.specs.declared.RunId.{RunId}
use Rattle.messages.specs.Reading.{Checked}
use Rattle.rules.specs.declared.Phase.{Phase}
use Rattle.rules.specs.declared.Phase.TheVariants.{Asked, Sounding, Reported, Awaiting, Ready, Counting, Success}
use Rattle.rules.specs.declared.Record.{Record}
use Rattle.ends.specs.Constants.{retry_count}
use Rattle.rules.specs.Constants.{sounding_time, sounds_per_try, pair_of, awaiting_time, window_step}
use Rattle.ends.specs.Lists.{All}
use Rattle.rules.specs.Records.{is_empty, fresh, in_phase, reported, with_heard, fits_groups, groups_kept, counted}
use Rattle.rules.specs.Sounds.{is_in, marked}
use Rattle.rules.specs.Replies.{Reply, confirmation, report_of}
use Rattle.rules.specs.Received.{parm_req}
use Rattle.rules.specs.Frames.{Kept, Change, put_back, start_rule, sound_rule, profile_rule, rsp_rule, answered, first_rule, second_rule, at_own, at_run, Place, own_place, free_place, is_later, requested, parm_rule, change_rule}
use Rattle.ends.proofs.Logic.{OnYes, on_check, on_cond}
use Rattle.rules.proofs.RuleLaws.{on_own, on_run, on_back}

-- ---- at one record

module _ (P : Record → Type 0) where
  -- the record that is kept
  abbrev pub OfKept : Kept → Type 0
  OfKept k = P k.kept

  -- the record of a change
  abbrev pub OfChange : Change → Type 0
  OfChange x = P x.kept

-- the record kept, and what is sent
abbrev left : Record → List Reply → Kept
left r ts = record { kept = r; replies = ts }

module _ (P : Kept → Type 0) (e : Edition) (r : Record) where
  pub on_start : (k : ℕ) (p : Phase) → ((t : ℕ) → p ≡ Asked t → P (left (in_phase (Sounding (sounding_time e r.later)) r) [])) → ((t : ℕ) → p ≡ Sounding t → P (left r [])) → OnYes P (start_rule e k r p)
  unfolding start_rule
  on_start a (Asked t) h k = on_check P (eqb a (pair_of e r.later)) 22 _ (λ q. h t refl)
  on_start a (Sounding t) h k = on_check P (eqb a (pair_of e r.later)) 22 _ (λ q. k t refl)
  on_start a (Reported t n) h k = tt
  on_start a (Awaiting t) h k = tt
  on_start a (Ready t) h k = tt
  on_start a (Counting t n b) h k = tt
  on_start a (Success t) h k = tt

  pub on_sound : (k : ℕ) (p : Phase) → (k < sounds_per_try e r.later → is_in k r.heard ≡ false → P (left (with_heard (marked k r.heard) r) [])) → OnYes P (sound_rule e k r p)
  unfolding sound_rule
  on_sound k (Asked t) h = tt
  on_sound k (Sounding t) h = on_check P (ltb k (sounds_per_try e r.later)) 13 _ (λ a. on_check P (not (is_in k r.heard)) 13 _ (λ b. h (ltb-true k (sounds_per_try e r.later) a) (not-true _ b)))
  on_sound k (Reported t n) h = tt
  on_sound k (Awaiting t) h = tt
  on_sound k (Ready t) h = tt
  on_sound k (Counting t n b) h = tt
  on_sound k (Success t) h = tt

  pub on_profile : (g : ℕ) (vs : List ℕ) (p : Phase)
      → ((t : ℕ) → p ≡ Sounding t → fits_groups g r.groups ≡ true → eqb (r.profiles + 1) (sounds_per_try e r.later) ≡ true → P (left (reported retry_count (counted (groups_kept e g) vs r)) (report_of (counted (groups_kept e g) vs r) ∷ [])))
      → ((t : ℕ) → p ≡ Sounding t → fits_groups g r.groups ≡ true → eqb (r.profiles + 1) (sounds_per_try e r.later) ≡ false → P (left (counted (groups_kept e g) vs r) []))
      → OnYes P (profile_rule e g vs r p)
  unfolding profile_rule
  on_profile g vs (Asked t) h k = tt
  on_profile g vs (Sounding t) h k = on_check P (fits_groups g r.groups) 23 _ (λ q. on_cond (OnYes P) (eqb (r.profiles + 1) (sounds_per_try e r.later)) _ _ (λ a. h t refl q a) (λ a. k t refl q a))
  on_profile g vs (Reported t n) h k = tt
  on_profile g vs (Awaiting t) h k = tt
  on_profile g vs (Ready t) h k = tt
  on_profile g vs (Counting t n b) h k = tt
  on_profile g vs (Success t) h k = tt

  pub on_rsp : (p : Phase) → ((t n : ℕ) → p ≡ Reported t n → P (left (in_phase (Awaiting awaiting_time) r) [])) → OnYes P (rsp_rule r p)
  unfolding rsp_rule
  on_rsp (Asked t) h = tt
  on_rsp (Sounding t) h = tt
  on_rsp (Reported t n) h = h t n refl
  on_rsp (Awaiting t) h = tt
  on_rsp (Ready t) h = tt
  on_rsp (Counting t n b) h = tt
  on_rsp (Success t) h = tt

  pub on_first : (result : ℕ) (p : Phase) → ((t : ℕ) → p ≡ Awaiting t → P (left (answered result r) (confirmation 0 result ∷ []))) → OnYes P (first_rule result r p)
  unfolding first_rule
  on_first result (Asked t) h = tt
  on_first result (Sounding t) h = tt
  on_first result (Reported t n) h = tt
  on_first result (Awaiting t) h = h t refl
  on_first result (Ready t) h = tt
  on_first result (Counting t n b) h = tt
  on_first result (Success t) h = tt

  pub on_second : (timer : ℕ) (p : Phase) → ((t : ℕ) → p ≡ Ready t → P (left (in_phase (Counting (window_step * (timer + 1)) 0 false) r) [])) → OnYes P (second_rule timer r p)
  unfolding second_rule
  on_second timer (Asked t) h = tt
  on_second timer (Sounding t) h = tt
  on_second timer (Reported t n) h = tt
  on_second timer (Awaiting t) h = tt
  on_second timer (Ready t) h = h t refl
  on_second timer (Counting t n b) h = tt
  on_second timer (Success t) h = tt

-- ---- at the car's records

on_request : (P : Record → Type 0) (e : Edition) (c : CarAddress) (run : RunId) (a free : ℕ) (own : List Record) → ((p : Place) → P (fresh (is_later e p) c run)) → OnYes (OfChange P) (parm_rule e c run a free own)
unfolding parm_rule requested
on_request P e c run a free (r ∷ own) h = h own_place
on_request P e c run a free [] h = on_check (OfChange P) (ltb 0 a) 9 _ (λ g. on_check (OfChange P) (ltb 0 free) 10 _ (λ k. h free_place))

pub on_parm : (P : Record → Type 0) (e : Edition) (c : CarAddress) (run : RunId) (a free result : ℕ) (own : List Record) → ((p : Place) → P (fresh (is_later e p) c run)) → OnYes (OfChange P) (change_rule e c (parm_req run) a free result own)
unfolding change_rule
on_parm P e c run a free result own h = on_check (OfChange P) (not (is_empty run)) _ _ (λ n. on_request P e c run a free own h)

-- what holds of each record before, and of the one put back
module _ (G P : Record → Type 0) (own : List Record) (g : All G own) where
  first_of : (r : Record) (rs : List Record) → own ≡ r ∷ rs → G r
  first_of r rs e = (subst (All G) e g).0

  pub back_own : (f : Record → Checked Kept) → ((r : Record) → G r → OnYes (OfKept P) (f r)) → OnYes (OfChange P) (put_back (at_own own f))
  back_own f h = on_back (λ (r : Record) (ts : List Reply). P r) (at_own own f) (on_own (OfKept P) own f (λ r rs e. h r (first_of r rs e)))

  pub back_run : (run : RunId) (f : Record → Checked Kept) → ((r : Record) → G r → OnYes (OfKept P) (f r)) → OnYes (OfChange P) (put_back (at_run run own f))
  back_run run f h = on_back (λ (r : Record) (ts : List Reply). P r) (at_run run own f) (on_run (OfKept P) run own f (λ r rs e. h r (first_of r rs e)))
