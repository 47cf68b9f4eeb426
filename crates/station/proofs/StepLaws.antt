-- A call's promise, from what the code comes to.
use Prim.Native.Nat.{ℕ}
use mathlib.Core.Path.{◌≡◌, refl, sym, ap, ap₂, ◌∙◌, subst}
use mathlib.Core.Bool.{false}
use mathlib.Core.List.{List, []}
use lib.ListN.{length}
use Rattle.messages.specs.declared.Refusal.{Refusal}
use Rattle.messages.specs.declared.Refusal.TheVariants.{BadConfiguration}
use Rattle.octets.specs.Octets.{splice}
use Rattle.messages.specs.Reading.{Checked, no, yes}
use Rattle.messages.specs.Answers.{number_of}
use Rattle.ends.specs.declared.Indication.{Indication}
use Rattle.rules.specs.declared.Pilot.{Pilot}
use Rattle.rules.specs.declared.Record.{Record}
use Rattle.rules.specs.declared.State.{State}
use Rattle.rules.specs.declared.Station.{Station}
use Rattle.rules.specs.declared.Stepped.{Stepped}
use Rattle.ends.specs.Lists.{joins}
use Rattle.rules.specs.Calls.{Call}
use Rattle.ends.specs.Outcomes.{frames_of, joined, next, outcome_of}
use Rattle.rules.specs.Stations.{Shared, Done, shared, inner, build, done}
use Rattle.rules.specs.Rules.{rule, shared_step, step, outcome}
use Rattle.rules.specs.Invariant.{Invariant, OctetCall}
use Rattle.ends.specs.Answers.{Summary, answer_of, summary}
use Rattle.rules.specs.Answers.{Answers}
use Rattle.rules.proofs.Refusals.{refused_station, refused_output}
use Rattle.rules.proofs.Refusals.{bad_refuses}
use Rattle.rules.proofs.InvariantKept.{step_keeps}
use Rattle.station.specs.Steps.{refused_as, done_as, shared_as, anew, Gives}

module _ (s : Station) (x : Call) (i : Invariant s) (r : Stepped) where
  -- an accepted call
  pub accepted : (entry exit : List ℕ) (o : Shared) (d : Done) → OctetCall x → shared_step (shared s) x ≡ o → rule (shared s) (inner s) x ≡ yes d
      → Gives o d entry exit r → Answers s x entry exit r
  unfolding step outcome
  accepted entry exit o d h eo ed g =
      let st : r.station ≡ step s x = g.station ∙ sym (ap₂ (λ (p : Shared) (w : Checked Done). build p (next (inner s) w)) eo ed) in
      record {
        station = st;
        answer = g.answer ∙ sym (ap (λ (w : Checked Done). summary (outcome_of w)) ed);
        octets = g.octets ∙ sym (ap (λ (w : Checked Done). splice 0 (joined (frames_of (outcome_of w))) entry) ed);
        kept = subst Invariant (sym st) (step_keeps s x h i);
      }

  -- a refusal
  pub refuses : (out : List ℕ) (why : Refusal) → rule (shared s) (inner s) x ≡ no (number_of why) → r ≡ refused_as s why → Answers s x out out r
  unfolding outcome
  refuses out why e q =
      let n : outcome s x ≡ no (number_of why) = ap outcome_of e in
      let st : r.station ≡ s = ap (λ (y : Stepped). y.station) q in
      record {
        station = st ∙ sym (refused_station s x (number_of why) n);
        answer = ap (λ (y : Stepped). answer_of y.answer) q ∙ sym (ap summary n);
        octets = sym (refused_output s x (number_of why) out n);
        kept = subst Invariant (sym st) i;
      }

  -- a bad configuration
  pub unconfigured : (out : List ℕ) → s.config.good ≡ false → r ≡ refused_as s BadConfiguration → Answers s x out out r
  unconfigured out h q = refuses out BadConfiguration (bad_refuses (shared s) (inner s) x h) q

-- an answer's numbers and its indication
abbrev summed : ℕ → ℕ → Indication → Summary
summed m c x = record { frames = m; octets = c; indication = x }

-- the station put together from its parts, and the frames that stand in the output
pub framed : (s : Station) (p : Pilot) (t : ℕ) (st : State) (rs : List Record) (fs : List (List ℕ)) (x : Indication) (n : Station) (r : Stepped) (k b : ℕ) (entry exit : List ℕ)
    → n ≡ anew s p t st rs → r ≡ done_as n k b x → k ≡ length fs → b ≡ length (joined fs) → exit ≡ splice 0 (joined fs) entry → Gives (shared_as s p t) (done st rs fs x) entry exit r
framed s p t st rs fs x n r k b entry exit en er ek eb eo = record {
  station = ap (λ (y : Stepped). y.station) er ∙ en;
  answer = ap (λ (y : Stepped). answer_of y.answer) er ∙ ap₂ (λ (m c : ℕ). yes (summed m c x)) ek eb;
  octets = eo;
}

-- the same with no frame
pub no_frames : (s : Station) (p : Pilot) (t : ℕ) (st : State) (rs : List Record) (x : Indication) (n : Station) (r : Stepped) (out : List ℕ)
    → n ≡ anew s p t st rs → r ≡ done_as n 0 0 x → Gives (shared_as s p t) (done st rs [] x) out out r
unfolding splice joins
no_frames s p t st rs x n r out en er = framed s p t st rs [] x n r 0 0 out out en er refl refl refl

-- the same of another shared part and another rule's result
pub gives_as : (o q : Shared) (d e : Done) (entry exit : List ℕ) (r : Stepped) → o ≡ q → d ≡ e → Gives o d entry exit r → Gives q e entry exit r
gives_as o q d e entry exit r eo ed g = subst (λ (y : Done). Gives q y entry exit r) ed (subst (λ (y : Shared). Gives y d entry exit r) eo g)
