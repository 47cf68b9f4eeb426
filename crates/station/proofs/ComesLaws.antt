-- What a frame comes to: a refusal, records put back, the call's promise.
use Prim.Native.Nat.{ℕ}
use mathlib.Core.Path.{◌≡◌, refl, sym, ap, ◌∙◌, subst}
use mathlib.Core.List.{List, [], ◌∷◌}
use denote.Enum.Declared.{tag_of}
use types.Run.{OneOf, miss}
use Rattle.messages.specs.declared.CarAddress.{CarAddress}
use Rattle.messages.specs.declared.Refusal.{Refusal}
use Rattle.messages.specs.Answers.{number_of}
use Rattle.octets.specs.Octets.{Octets, splice}
use Rattle.messages.specs.Reading.{Checked, no, yes}
use Rattle.rules.specs.declared.Configuration.{Configuration}
use Rattle.ends.specs.declared.Indication.TheVariants.{Nothing}
use Rattle.rules.specs.declared.Record.{Record}
use Rattle.rules.specs.declared.State.{State}
use Rattle.rules.specs.declared.State.TheVariants.{Unmatched, Matching, Joining, Matched}
use Rattle.rules.specs.declared.Station.{Station}
use Rattle.rules.specs.declared.Stepped.{Stepped}
use Rattle.rules.specs.Calls as calls
use Rattle.ends.specs.Lists.{joins}
use Rattle.rules.specs.Received.{RecordMessage, for_record}
use Rattle.rules.specs.Stations.{Done, shared, inner, done}
use Rattle.rules.specs.Frames.{state_rule}
use Rattle.rules.specs.Rules.{rule, shared_step, step, outcome}
use Rattle.rules.specs.Invariant.{Invariant}
use Rattle.ends.specs.Answers.{answer_of}
use Rattle.rules.specs.Answers.{Answers}
use Rattle.rules.proofs.InvariantKept.{step_keeps}
use Rattle.rules.specs.contracts.State.{the_type}
use Rattle.station.specs.Steps.{refused_as, done_as, anew}
use Rattle.station.specs.Frames.{Comes}

-- the same rule in other words
pub comes_as : (s : Station) (x y : Checked Done) (entry exit : List ℕ) (r : Stepped) → x ≡ y → Comes s x entry exit r → Comes s y entry exit r
comes_as s x y entry exit r e h = subst (λ (z : Checked Done). Comes s z entry exit r) e h

-- a refusal
pub comes_refused : (s : Station) (x : Checked Done) (n : Refusal) (out : List ℕ) (r : Stepped) → x ≡ no (number_of n) → r ≡ refused_as s n → Comes s x out out r
unfolding splice joins
comes_refused s x n out r e q = comes_as s (no (number_of n)) x out out r (sym e) (record {
  station = ap (λ (y : Stepped). y.station) q;
  answer = ap (λ (y : Stepped). answer_of y.answer) q;
  octets = refl;
})

-- records put back, and nothing sent
pub comes_silent : (s : Station) (rs qs : List Record) (n : Station) (out : List ℕ) (r : Stepped) → qs ≡ rs → n ≡ anew s s.pilot s.clock s.state qs → r ≡ done_as n 0 0 Nothing
    → Comes s (yes (done s.state rs [] Nothing)) out out r
unfolding splice joins
comes_silent s rs qs n out r e f q = record {
  station = ap (λ (y : Stepped). y.station) q ∙ f ∙ ap (λ (l : List Record). anew s s.pilot s.clock s.state l) e;
  answer = ap (λ (y : Stepped). answer_of y.answer) q;
  octets = refl;
}

-- the frame call's promise
pub promised : (s : Station) (octets : List ℕ) (room : ℕ) (x : Checked Done) (entry exit : List ℕ) (r : Stepped) → Invariant s → Octets octets
    → rule (shared s) (inner s) (calls.frame octets room) ≡ x → Comes s x entry exit r → Answers s (calls.frame octets room) entry exit r
unfolding step outcome shared_step
promised s octets room x entry exit r i o e h =
    let w = comes_as s x (rule (shared s) (inner s) (calls.frame octets room)) entry exit r (sym e) h in
    record { station = w.station; answer = w.answer; octets = w.octets; kept = subst Invariant (sym w.station) (step_keeps s (calls.frame octets room) o i) }

-- ---- states that do not take it

-- a state that is not Matching takes no message at a record
pub state_other : (o : Configuration) (st : State) (rs : List Record) (c : CarAddress) (m : RecordMessage) → OneOf (0 ∷ 2 ∷ 3 ∷ []) (tag_of the_type st) → state_rule o st rs c (for_record m) ≡ no 8
unfolding state_rule
state_other o Unmatched rs c m t = refl
state_other o (Matching a) rs c m t = absurd (miss (0 ∷ 2 ∷ 3 ∷ []) 1 tt t)
state_other o (Joining l d k) rs c m t = refl
state_other o (Matched d) rs c m t = refl
