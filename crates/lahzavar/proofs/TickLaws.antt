-- A tick on lent words, by the tests that the code makes.
use Prim.Native.Nat.{ℕ}
use mathlib.Core.Path.{◌≡◌, refl, ap, ap₂, subst, ◌∙◌}
use mathlib.Core.Bool.{Bool}
use mathlib.Core.List.{List, [], ◌∷◌}
use denote.Enum.Declared.{tag_of}
use lib.ListN.{length}
use types.Run.{OneOf}
use Rattle.messages.specs.declared.Refusal.{Refusal}
use Rattle.messages.specs.Answers.{number_of}
use Rattle.messages.specs.Reading.{no, yes}
use Rattle.octets.specs.Octets.{splice}
use Rattle.ends.specs.Clock.{tick_time}
use Rattle.ends.specs.Lists.{joins}
use Rattle.rules.specs.declared.Configuration.{Configuration}
use Rattle.rules.specs.declared.Pilot.{Pilot}
use Rattle.rules.specs.declared.State.{State}
use Rattle.rules.specs.Calls.{tick}
use Rattle.rules.specs.Constants.{least_output}
use Rattle.rules.specs.Stations.{shared}
use Rattle.rules.specs.Ticks.{tick_elapsed}
use Rattle.rules.specs.contracts.State.{the_type}
use Rattle.station.specs.declared.ticks.Passed.{Passed}
use Rattle.station.specs.Passing.{passing}
use Rattle.station.proofs.TickLaws.{tick_refused, tick_rule, tick_shared, passed_done}
use Rattle.words.specs.Words.{config_of, identity, state_of, pilot_in, clock_in, station_of, in_state}
use Rattle.lahzavar.specs.declared.Answered.{Answered}
use Rattle.lahzavar.specs.Answers.{said_of}
use Rattle.lahzavar.specs.Events.{Passes}
use Rattle.lahzavar.specs.Lent.{Lent}
use Rattle.lahzavar.proofs.EventLaws.{silent, accepted_lent, refused_lent}

-- the elapsed time, by what is read of the words
pub tick_here : (w s z : List ℕ) (o : Configuration) (last room t : ℕ) → o ≡ identity (config_of w) → last ≡ clock_in w → tick_time o.good least_output room t last ≡ tick_elapsed (shared (station_of w s z)) t room
unfolding station_of
tick_here w s z o last room t eo el = ap₂ (λ (b : Bool) (n : ℕ). tick_time b least_output room t n) (ap (λ (c : Configuration). c.good) eo) el

-- a refusal
pub tick_not_taken : (w s z out : List ℕ) (t : ℕ) (x : Refusal) (r : Answered) → no (number_of x) ≡ tick_elapsed (shared (station_of w s z)) t (length out) → r ≡ said_of (no (number_of x)) → Lent (tick t (length out)) w s z out out w s z r
tick_not_taken w s z out t x r h q = refused_lent w s z (tick t (length out)) r out x (tick_refused (station_of w s z) t (length out) (number_of x) h) q

-- the state stored with the pilot state that there is and the reading
pub passes : (w v : List ℕ) (p k : Passed) (t : ℕ) (a : Pilot) (r : Answered) → p ≡ k → a ≡ pilot_in w → ((s z : List ℕ) → station_of v s z ≡ in_state p.state a t (station_of w s z)) → r ≡ silent p.indication → Passes k t w v r
unfolding splice joins
passes w v p k t a r e ea b q =
    subst (λ (x : Passed). Passes x t w v r) e
    (λ s z out. record {
      station = b s z ∙ ap (λ (x : Pilot). in_state p.state x t (station_of w s z)) ea;
      answer = q;
      octets = refl;
      kept = λ h. absurd (h (ap (λ (x : Answered). x.refusal) q));
    })

-- elsewhere than in Matching
pub passes_lent : (w s z v out : List ℕ) (t e : ℕ) (st : State) (r : Answered) → yes e ≡ tick_elapsed (shared (station_of w s z)) t (length out) → st ≡ state_of w → OneOf (0 ∷ 2 ∷ 3 ∷ []) (tag_of the_type st) → Passes (passing e st) t w v r
    → Lent (tick t (length out)) w s z out out v s z r
unfolding station_of
passes_lent w s z v out t e st r h es k f =
    let here : OneOf (0 ∷ 2 ∷ 3 ∷ []) (tag_of the_type (state_of w)) = subst (λ (x : State). OneOf (0 ∷ 2 ∷ 3 ∷ []) (tag_of the_type x)) es k in
    accepted_lent w s z (tick t (length out)) r out out v s z _ _ (tick_shared (station_of w s z) t (length out) e h)
    (tick_rule (station_of w s z) t (length out) e h ∙ ap yes (passed_done _ _ e (state_of w) _ (passing e st) (ap (passing e) es) here))
    (f s z out)
