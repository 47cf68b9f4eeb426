-- Messages at the car's own record, in the rules' words.
use Prim.Native.Nat.{ℕ}
use mathlib.Core.Path.{◌≡◌, refl, sym, ap, ap₂, ◌∙◌}
use mathlib.Core.List.{List, [], ◌∷◌}
use denote.Enum.Declared.{tag_of}
use types.Run.{OneOf, miss}
use lib.ListN.{get_or, set}
use Rattle.messages.specs.declared.CarAddress.{CarAddress}
use Rattle.messages.specs.declared.Edition.{Edition}
use Rattle.messages.specs.Reading.{Checked, no, yes, Beside}
use Rattle.ends.specs.declared.Indication.TheVariants as indication
use Rattle.rules.specs.declared.Record.{Record}
use Rattle.rules.specs.declared.State.{State}
use Rattle.rules.specs.declared.State.TheVariants.{Unmatched, Matching, Joining, Matched}
use Rattle.rules.specs.declared.Station.{Station}
use Rattle.ends.specs.Outcomes.{and_then}
use Rattle.rules.specs.Records.{mine, free_places, owned}
use Rattle.rules.specs.Received.{RecordMessage, validate_first, for_record}
use Rattle.rules.specs.Validation.{first_result}
use Rattle.rules.specs.Replies.{Reply, report_of, frames_to}
use Rattle.rules.specs.Stations.{done}
use Rattle.rules.specs.Frames.{Kept, keeps, Change, at_own, put_back, first_rule, change_rule, put, changed, state_rule}
use Rattle.records.specs.declared.requests.RunMessage.TheVariants.{Start, Sound, Rsp}
use Rattle.records.specs.declared.find.Found.{Found}
use Rattle.records.specs.declared.find.Found.TheVariants.{Own, Free, Nothing}
use Rattle.rules.specs.contracts.State as state
use Rattle.records.specs.contracts.find.Found as place
use Rattle.records.specs.Places.{place_of}
use Rattle.records.proofs.PlaceLaws.{OwnAt, found}
use Rattle.receiving.specs.declared.judge.OwnMessage.{OwnMessage}
use Rattle.receiving.specs.declared.judge.OwnMessage.TheVariants.{Run, Profile, ValidateSecond}
use Rattle.receiving.specs.Judge.{own_message_of}
use Rattle.receiving.specs.AtRecord.{own_rule}
use Rattle.receiving.proofs.JudgeLaws.{no_yes}
use Rattle.station.specs.Frames.{settled, own_place}

-- a message at the car's own record comes to the rule f there, whatever else is looked at
abbrev pub AtOwn : Edition → CarAddress → RecordMessage → ℕ → (Record → Checked Kept) → Type 0
AtOwn e c m result f = (a free : ℕ) (own : List Record) → change_rule e c m a free result own ≡ put_back (at_own own f)

-- each of the code's messages, with any result
pub change_own : (e : Edition) (c : CarAddress) (m : OwnMessage) (b : Beside) (result : ℕ) → AtOwn e c (own_message_of m b) result (own_rule e m b)
unfolding change_rule
change_own e c (Run run (Start t)) b result a free own = refl
change_own e c (Run run (Sound k)) b result a free own = refl
change_own e c (Run run Rsp) b result a free own = refl
change_own e c (Profile n) b result a free own = refl
change_own e c (ValidateSecond timer) b result a free own = refl

-- the first VALIDATE.REQ, with its result
pub change_first : (e : Edition) (c : CarAddress) (result : ℕ) → AtOwn e c validate_first result (λ (r : Record). first_rule result r r.phase)
unfolding change_rule
change_first e c result a free own = refl

-- a report is the same of the car's own record
report_owned : (c : CarAddress) (r : Record) → report_of (owned c r) ≡ report_of r
unfolding report_of owned
report_owned c r = refl

-- so it is what the rule sends
pub settled_report : (s : Station) (i : ℕ) (c : CarAddress) (k : Record)
    → yes (done s.state (set s.records i (owned c k)) (frames_to s.config c (report_of (owned c k) ∷ [])) indication.Nothing) ≡ settled s i c (keeps k (report_of k ∷ []))
settled_report s i c k = ap (λ (t : Reply). yes (done s.state (set s.records i (owned c k)) (frames_to s.config c (t ∷ [])) indication.Nothing)) (report_owned c k)

-- a refusal's number is the same in any answer
abbrev number_in : Checked ℕ → ℕ
number_in (no n) = n
number_in (yes i) = 0

same_refusal : {A : Type 0} (k n : ℕ) → ◌≡◌ {A = Checked ℕ} (no k) (no n) → ◌≡◌ {A = Checked A} (no k) (no n)
same_refusal k n e = ap no (ap number_in e)

-- a state that takes no message at a record
pub other_state : (st : State) (p : Found) → OneOf (0 ∷ 2 ∷ 3 ∷ []) (tag_of state.the_type st) → no 8 ≡ own_place st p
unfolding own_place
other_state Unmatched p o = refl
other_state (Matching a) p o = absurd (miss (0 ∷ 2 ∷ 3 ∷ []) 1 tt o)
other_state (Joining l c run) p o = refl
other_state (Matched c) p o = refl

-- Matching, by the place that was found
pub place_own : (st : State) (p : Found) (a i : ℕ) → st ≡ Matching a → p ≡ Own i → yes i ≡ own_place st p
unfolding own_place
place_own st p a i es ep = sym (ap₂ own_place es ep)

other_place : (a : ℕ) (p : Found) → OneOf (1 ∷ 2 ∷ []) (tag_of place.the_type p) → no 11 ≡ own_place (Matching a) p
unfolding own_place
other_place a (Own i) o = absurd (miss (1 ∷ 2 ∷ []) 0 tt o)
other_place a (Free i) o = refl
other_place a Nothing o = refl

pub place_none : (st : State) (a : ℕ) (p q : Found) → st ≡ Matching a → q ≡ p → OneOf (1 ∷ 2 ∷ []) (tag_of place.the_type q) → no 11 ≡ own_place st p
place_none st a p q es ep o = other_place a q o ∙ sym (ap₂ own_place es (sym ep))

-- the place in an answer
abbrev place_in : ℕ → Checked ℕ → ℕ
place_in k (no n) = k
place_in k (yes i) = i

-- the place of the car's own record
pub placed : (st : State) (p : Found) (i : ℕ) → own_place st p ≡ yes i → ((a : ℕ) × (st ≡ Matching a)) × (p ≡ Own i)
unfolding own_place
placed Unmatched p i e = no_yes 8 i e
placed (Matching a) (Own k) i e = ((a, refl), ap Own (ap (place_in k) e))
placed (Matching a) (Free k) i e = no_yes 11 i e
placed (Matching a) Nothing i e = no_yes 11 i e
placed (Joining l c run) p i e = no_yes 8 i e
placed (Matched c) p i e = no_yes 8 i e

-- the station's state and the car's own record, where its place was found
pub record OwnHere (s : Station) (c : CarAddress) (i : ℕ) : Type 0 where
  pub state : (a : ℕ) × (s.state ≡ Matching a)
  pub own : OwnAt c s.records i

pub own_here : (s : Station) (c : CarAddress) (i : ℕ) → own_place s.state (place_of c s.records) ≡ yes i → OwnHere s c i
own_here s c i e =
    let w = placed s.state (place_of c s.records) i e in
    record { state = w.0; own = found c s.records (place_of c s.records) (Own i) refl w.1 }

module _ (s : Station) (c : CarAddress) (m : RecordMessage) (f : Record → Checked Kept) (at : AtOwn s.config.edition c m (first_result s.config.exempt s.records) f) where
  -- by the car's records
  at_own_lem : (a : ℕ) → s.state ≡ Matching a → (own : List Record) → mine c s.records ≡ own
      → state_rule s.config s.state s.records c (for_record m) ≡ and_then (put_back (at_own own f)) (λ (x : Change). yes (changed s.config s.state s.records c x))
  unfolding state_rule
  at_own_lem a e own q =
      ap (λ (st : State). state_rule s.config st s.records c (for_record m)) e
      ∙ ap₂ (λ (x : Checked Change) (st : State). and_then x (λ (z : Change). yes (changed s.config st s.records c z)))
      (at a (free_places s.records) (mine c s.records) ∙ ap (λ (l : List Record). put_back (at_own l f)) q) (sym e)

  -- 11
  pub own_none : (a : ℕ) → s.state ≡ Matching a → mine c s.records ≡ [] → state_rule s.config s.state s.records c (for_record m) ≡ no 11
  own_none a e q = at_own_lem a e [] q

  refused_in : (n : ℕ) (st : State) (p : Found) → s.state ≡ st → place_of c s.records ≡ p → own_place st p ≡ no n → state_rule s.config s.state s.records c (for_record m) ≡ no n
  unfolding own_place state_rule
  refused_in n Unmatched p es ep e = ap (λ (st : State). state_rule s.config st s.records c (for_record m)) es ∙ same_refusal _ n e
  refused_in n (Matching a) (Own i) es ep e = no_yes n i (sym e)
  refused_in n (Matching a) (Free i) es ep e = own_none a es (found c s.records _ (Free i) refl ep).mine ∙ same_refusal _ n e
  refused_in n (Matching a) Nothing es ep e = own_none a es (found c s.records _ Nothing refl ep).mine ∙ same_refusal _ n e
  refused_in n (Joining l d run) p es ep e = ap (λ (st : State). state_rule s.config st s.records c (for_record m)) es ∙ same_refusal _ n e
  refused_in n (Matched d) p es ep e = ap (λ (st : State). state_rule s.config st s.records c (for_record m)) es ∙ same_refusal _ n e

  -- 8 and 11
  pub not_placed : (n : ℕ) → own_place s.state (place_of c s.records) ≡ no n → state_rule s.config s.state s.records c (for_record m) ≡ no n
  not_placed n e = refused_in n s.state (place_of c s.records) refl refl e

  -- a store at the own place is an update
  settle_put : (i : ℕ) → OwnAt c s.records i → (x : Checked Kept) → settled s i c x ≡ and_then (put_back x) (λ (z : Change). yes (changed s.config s.state s.records c z))
  unfolding put
  settle_put i w (no n) = refl
  settle_put i w (yes k) = ap (λ (l : List Record). yes (done s.state l (frames_to s.config c k.replies) indication.Nothing)) (w.put (owned c k.kept))

  -- what the rule gives at the record is what the frame gives
  pub own_settled : (i : ℕ) (d : Record) (x : Checked Kept) → ((a : ℕ) × (s.state ≡ Matching a)) → OwnAt c s.records i → x ≡ f (get_or s.records i d) → settled s i c x ≡ state_rule s.config s.state s.records c (for_record m)
  own_settled i d x e w q =
      ap (settled s i c) q
      ∙ settle_put i w (f (get_or s.records i d))
      ∙ sym (at_own_lem e.0 e.1 _ (w.mine d))
