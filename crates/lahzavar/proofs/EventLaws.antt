-- Pilot, terminate and link up on lent words, by the tests that the code makes.
use Prim.Native.Nat.{ℕ}
use mathlib.Core.Path.{◌≡◌, refl, sym, ap, ap₂, subst, ◌∙◌}
use mathlib.Core.Bool.{Bool, true, false, cond, ◌&&◌}
use mathlib.Core.List.{List, [], ◌∷◌, map}
use denote.Enum.Declared.{tag_of}
use types.Run.{OneOf}
use Rattle.messages.specs.declared.CarAddress.{CarAddress}
use Rattle.messages.specs.declared.Refusal.{Refusal}
use Rattle.messages.specs.declared.Refusal.TheVariants.{BadConfiguration, WrongState}
use Rattle.messages.specs.declared.RunId.{RunId}
use Rattle.messages.specs.Answers.{number_of}
use Rattle.messages.specs.Reading.{Checked, no, yes}
use Rattle.octets.specs.Octets.{splice}
use Rattle.ends.specs.declared.Indication.{Indication}
use Rattle.ends.specs.declared.Indication.TheVariants.{Nothing, LinkEstablished}
use Rattle.ends.specs.Lists.{joins}
use Rattle.ends.specs.Outcomes.{Outcome, next, outcome_of}
use Rattle.ends.proofs.Logic.{split}
use Rattle.rules.specs.declared.Configuration.{Configuration}
use Rattle.rules.specs.declared.Pilot.{Pilot}
use Rattle.rules.specs.declared.State.{State}
use Rattle.rules.specs.declared.State.TheVariants.{Unmatched, Matching, Joining, Matched}
use Rattle.rules.specs.declared.Station.{Station}
use Rattle.rules.specs.Calls.{Call, pilot, terminate, link_up}
use Rattle.rules.specs.Constants.{admission_time}
use Rattle.rules.specs.Events.{plugged, lost, pilot_done}
use Rattle.rules.specs.Records.{freed}
use Rattle.rules.specs.Rules.{rule, shared_step, takes_pilot, step, outcome}
use Rattle.rules.specs.Stations.{Shared, Done, shared, inner, build}
use Rattle.rules.specs.Validation.{turn}
use Rattle.rules.proofs.Refusals.{refused_station, refused_output, bad_refuses}
use Rattle.rules.specs.contracts.State.{the_type}
use Rattle.station.specs.Steps.{shared_as}
use Rattle.station.proofs.EventLaws.{pilot_shared, pilot_rule, terminate_rule, link_joining, link_elsewhere, same_shared}
use Rattle.words.specs.Words.{config_of, state_of, pilot_in, clock_in, records_of, station_of, with_records, in_state}
use Rattle.lahzavar.specs.declared.Answered.{Answered}
use Rattle.lahzavar.specs.Answers.{said_of, answered}
use Rattle.lahzavar.specs.Events.{InWords, Frees}
use Rattle.lahzavar.specs.Lent.{Leaves, Lent}

-- what an accepted call without a frame is answered
abbrev pub silent : Indication → Answered
silent x = said_of (yes (record { frames = 0; octets = 0; indication = x }))

-- ---- a call, by what its rule gives

module _ (w s z : List ℕ) (x : Call) (r : Answered) where
  -- an accepted call
  pub accepted_lent : (entry exit v t y : List ℕ) (o : Shared) (d : Done) → shared_step (shared (station_of w s z)) x ≡ o → rule (shared (station_of w s z)) (inner (station_of w s z)) x ≡ yes d
      → Leaves (build o d.after) (yes d.sent) w s z entry exit v t y r → Lent x w s z entry exit v t y r
  unfolding step outcome
  accepted_lent entry exit v t y o d eo ed h =
      subst (λ (q : Outcome). Leaves (step (station_of w s z) x) q w s z entry exit v t y r) (sym (ap outcome_of ed))
      (subst (λ (n : Station). Leaves n (yes d.sent) w s z entry exit v t y r) (sym (ap₂ (λ (p : Shared) (u : Checked Done). build p (next (inner (station_of w s z)) u)) eo ed)) h)

  -- a refusal
  pub refused_lent : (out : List ℕ) (n : Refusal) → rule (shared (station_of w s z)) (inner (station_of w s z)) x ≡ no (number_of n) → r ≡ said_of (no (number_of n)) → Lent x w s z out out w s z r
  unfolding outcome
  refused_lent out n e q =
      let none : outcome (station_of w s z) x ≡ no (number_of n) = ap outcome_of e in
      record {
        station = sym (refused_station (station_of w s z) x (number_of n) none);
        answer = q ∙ sym (ap answered none);
        octets = sym (refused_output (station_of w s z) x (number_of n) out none);
        kept = λ h. (refl, (refl, refl));
      }

-- a bad configuration
pub unconfigured : (x : Call) (w : List ℕ) (o : Configuration) (r : Answered) → o ≡ config_of w → o.good ≡ false → r ≡ said_of (no (number_of BadConfiguration)) → InWords x w w r
unfolding station_of
unconfigured x w o r eo g q s z = refused_lent w s z x r [] BadConfiguration (bad_refuses (shared (station_of w s z)) (inner (station_of w s z)) x (sym (ap (λ (c : Configuration). c.good) eo) ∙ g)) q

-- every record freed, and then the state, the pilot state and the clock stored
pub frees : (w u v : List ℕ) (st : State) (p : Pilot) (n : ℕ) (x : Indication) (r : Answered) → ((s z : List ℕ) → station_of u s z ≡ with_records (station_of w s z) (map freed (records_of w s z)))
    → ((s z : List ℕ) → station_of v s z ≡ in_state st p n (station_of u s z)) → r ≡ silent x → Frees st p n x w v r
unfolding station_of splice joins
frees w u v st p n x r a b q s z = record { station = b s z ∙ ap (in_state st p n) (a s z); answer = q; octets = refl; kept = λ h. absurd (h (ap (λ (k : Answered). k.refusal) q)) }

-- with another indication in other words
pub frees_as : (w v : List ℕ) (st : State) (p : Pilot) (n : ℕ) (x y : Indication) (r : Answered) → x ≡ y → Frees st p n x w v r → Frees st p n y w v r
frees_as w v st p n x y r e h = subst (λ (k : Indication). Frees st p n k w v r) e h

-- ---- the calls of words that are well configured

module _ (w v : List ℕ) (o : Configuration) (r : Answered) (eo : o ≡ config_of w) (g : o.good ≡ true) where
  good : (s z : List ℕ) → (station_of w s z).config.good ≡ true
  unfolding station_of
  good s z = sym (ap (λ (c : Configuration). c.good) eo) ∙ g

  -- terminate, with the pilot state and the clock that there are
  pub terminates : (p : Pilot) (n : ℕ) → p ≡ pilot_in w → n ≡ clock_in w → Frees Unmatched p n (lost (state_of w)) w v r → InWords terminate w v r
  unfolding station_of
  terminates p n ep en f s z =
      let here : Frees Unmatched (pilot_in w) (clock_in w) (lost (state_of w)) w v r = subst (λ (k : ℕ). Frees Unmatched (pilot_in w) k (lost (state_of w)) w v r) en (subst (λ (q : Pilot). Frees Unmatched q n (lost (state_of w)) w v r) ep f) in
      accepted_lent w s z terminate r [] [] v s z _ _ (same_shared (shared (station_of w s z))).0 (terminate_rule (station_of w s z) (good s z)) (here s z)

  module _ (st : State) (es : st ≡ state_of w) where
    -- link up in Joining
    pub links : (l : ℕ) (c : CarAddress) (run : RunId) (p : Pilot) (n : ℕ) → st ≡ Joining l c run → p ≡ pilot_in w → n ≡ clock_in w → ((s z : List ℕ) → station_of v s z ≡ in_state (Matched c) p n (station_of w s z)) → r ≡ silent LinkEstablished
        → InWords link_up w v r
    unfolding station_of splice joins
    links l c run p n e ep en b q s z =
        accepted_lent w s z link_up r [] [] v s z _ _ (same_shared (shared (station_of w s z))).1 (link_joining (station_of w s z) (good s z) l c run (sym es ∙ e))
        (record {
          station = b s z ∙ ap₂ (λ (a : Pilot) (k : ℕ). in_state (Matched c) a k (station_of w s z)) ep en;
          answer = q;
          octets = refl;
          kept = λ h. absurd (h (ap (λ (k : Answered). k.refusal) q));
        })

  module _ (p : Pilot) (t : ℕ) (s z : List ℕ) where
    -- a pilot change, by where the pilot was and is
    changes : (was is : Bool) → plugged (pilot_in w) ≡ was → plugged p ≡ is
        → Leaves (build (shared_as (station_of w s z) p (cond (was && is) (clock_in w) t)) (pilot_done was is (turn (pilot_in w) p) (inner (station_of w s z))).after) (yes (pilot_done was is (turn (pilot_in w) p) (inner (station_of w s z))).sent) w s z [] [] v s z r
        → Lent (pilot p t) w s z [] [] v s z r
    unfolding station_of takes_pilot
    changes was is a b h =
        accepted_lent w s z (pilot p t) r [] [] v s z _ _
        (pilot_shared (station_of w s z) (good s z) p t ∙ ap₂ (λ (x y : Bool). shared_as (station_of w s z) p (cond (x && y) (clock_in w) t)) a b)
        (pilot_rule (station_of w s z) (good s z) p t ∙ ap₂ (λ (x y : Bool). yes (pilot_done x y (turn (pilot_in w) p) (inner (station_of w s z)))) a b)
        h

    -- to A, E or F
    pub unplugs : plugged p ≡ false → Frees Unmatched p t (lost (state_of w)) w v r → Lent (pilot p t) w s z [] [] v s z r
    unfolding station_of pilot_done
    unplugs b f = split (plugged (pilot_in w)) (λ a. changes true false a b (f s z)) (λ a. changes false false a b (f s z))

    -- from there to B, C or D
    pub plugs : (q : Pilot) → q ≡ pilot_in w → plugged q ≡ false → plugged p ≡ true → Frees (Matching admission_time) p t Nothing w v r → Lent (pilot p t) w s z [] [] v s z r
    unfolding station_of pilot_done
    plugs q eq a b f = changes false true (sym (ap plugged eq) ∙ a) b (f s z)

-- link up elsewhere
pub not_linked : (w : List ℕ) (o : Configuration) (r : Answered) → o ≡ config_of w → o.good ≡ true → (st : State) → st ≡ state_of w → OneOf (0 ∷ 1 ∷ 3 ∷ []) (tag_of the_type st) → r ≡ said_of (no 8) → InWords link_up w w r
unfolding station_of
not_linked w o r eo g st es k q s z =
    refused_lent w s z link_up r [] WrongState
    (link_elsewhere (station_of w s z) (sym (ap (λ (c : Configuration). c.good) eo) ∙ g) (subst (λ (x : State). OneOf (0 ∷ 1 ∷ 3 ∷ []) (tag_of the_type x)) es k))
    q
