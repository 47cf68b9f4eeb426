-- Demand 3, part one, for the window that document 01 asks for: it is one of the longer windows.
use Prim.Native.Nat.{ℕ, ◌<◌}
use mathlib.Core.Path.{◌≡◌, refl, sym, ◌∙◌, ap}
use mathlib.Core.Bool.{Bool, true, false, ◌&&◌, and-false}
use mathlib.Core.List.{List, map}
use lib.Dec.{eqb}
use lib.ListN.{length}
use borrow.Author.Tests.{eqb-true}
use Rattle.messages.specs.declared.CarAddress.{CarAddress}
use Rattle.messages.specs.declared.Edition.{Edition}
use Rattle.messages.specs.Table.{Kind, slac_parm_req, validate_req, slac_match_req, type_of, Message}
use Rattle.messages.specs.Reading.{Checked, no, yes, read_rules}
use Rattle.messages.proofs.LayoutLaws.{and_left}
use Rattle.rules.specs.declared.Configuration.{Configuration}
use Rattle.rules.specs.declared.Phase.{Phase}
use Rattle.rules.specs.declared.Phase.TheVariants.{Asked, Sounding, Reported, Awaiting, Ready, Counting, Success}
use Rattle.rules.specs.declared.Record.{Record}
use Rattle.rules.specs.declared.State.{State}
use Rattle.rules.specs.declared.State.TheVariants.{Unmatched, Matching, Joining, Matched}
use Rattle.rules.specs.declared.Station.{Station}
use Rattle.ends.specs.Lists.{All}
use Rattle.rules.specs.Calls.{Call, frame, tick, pilot, terminate, link_up}
use Rattle.ends.specs.Outcomes.{Outcome, frames_of, and_then, next, outcome_of}
use Rattle.rules.specs.Stations.{Shared, Inner, shared, inner, Done}
use Rattle.rules.specs.Records.{mine, free_places, freed}
use Rattle.rules.specs.Replies.{Reply, frames_to}
use Rattle.rules.specs.Received.{RecordMessage, parm_req, start, sound, profile, rsp, validate_first, validate_second, Request, for_record, match_req, map_req, Received, received}
use Rattle.rules.specs.Validation.{any_validates, first_result}
use Rattle.rules.specs.Frames.{Kept, Change, put_back, first_rule, second_rule, at_own, change_rule, changed, state_rule, admitted, frame_rule}
use Rattle.rules.specs.Rules.{rule, step, outcome, after}
use Rattle.rules.specs.Demand3.{named, is_car, accepted, is_read, is_kind, is_accepted, is_own_accepted, any_result, any_failure, is_end, ends_for, ends_early, ends, begun, further, matched, Shorter, Longer, Undisturbed}
use Rattle.ends.proofs.Logic.{split, clash, or_left, or_right, OnYes}
use Rattle.rules.proofs.RecordLaws.{none_freed}
use Rattle.rules.proofs.RuleLaws.{on_own, on_back, is_validate}
use Rattle.rules.proofs.ReceivedLaws.{validates_in, FrameAs}
use Rattle.rules.proofs.ReplyLaws.{Unicast}
use Rattle.rules.proofs.ValidationLaws.{none_busy, free_busy, fails_not}
use Rattle.rules.proofs.Always.{Meets}
use Rattle.rules.proofs.EditionLaws.{read_in, edition_step, edition_after}
use Rattle.rules.proofs.OneValidates.{Few, Allows, few_next}
use Rattle.rules.proofs.PartOne.{plug_call, undisturbed}

-- ---- where no record is ready or counting, no validate request is answered 03

module _ (o : Configuration) (c : CarAddress) (exempt : Bool) (rs : List Record) (e : any_validates rs ≡ false) where
  abbrev Calm : List Reply → Type 0
  Calm ts = any_failure (frames_to o c ts) ≡ false

  abbrev CalmKept : Kept → Type 0
  CalmKept k = Calm k.replies

  abbrev CalmChange : Change → Type 0
  CalmChange x = Calm x.replies

  first_calm : (r : Record) (p : Phase) → OnYes CalmKept (first_rule (first_result exempt rs) r p)
  unfolding first_rule
  first_calm r (Asked t) = tt
  first_calm r (Sounding t) = tt
  first_calm r (Reported t n) = tt
  first_calm r (Awaiting t) = fails_not o c exempt rs e
  first_calm r (Ready t) = tt
  first_calm r (Counting t n b) = tt
  first_calm r (Success t) = tt

  second_calm : (timer : ℕ) (r : Record) (p : Phase) → OnYes CalmKept (second_rule timer r p)
  unfolding second_rule any_result
  second_calm timer r (Asked t) = tt
  second_calm timer r (Sounding t) = tt
  second_calm timer r (Reported t n) = tt
  second_calm timer r (Awaiting t) = tt
  second_calm timer r (Ready t) = refl
  second_calm timer r (Counting t n b) = tt
  second_calm timer r (Success t) = tt

  own_calm : (own : List Record) (f : Record → Checked Kept) → ((r : Record) → OnYes CalmKept (f r)) → OnYes CalmChange (put_back (at_own own f))
  own_calm own f h = on_back (λ (r : Record) (ts : List Reply). Calm ts) (at_own own f) (on_own CalmKept own f (λ r l q. h r))

  change_calm : (m : RecordMessage) (a free : ℕ) (own : List Record) → is_validate m ≡ true → OnYes CalmChange (change_rule o.edition c m a free (first_result exempt rs) own)
  unfolding change_rule
  change_calm (parm_req run) a free own v = clash true refl (sym v)
  change_calm (start run k) a free own v = clash true refl (sym v)
  change_calm (sound run k) a free own v = clash true refl (sym v)
  change_calm (profile g vs) a free own v = clash true refl (sym v)
  change_calm (rsp run) a free own v = clash true refl (sym v)
  change_calm validate_first a free own v = own_calm own (λ (r : Record). first_rule (first_result exempt rs) r r.phase) (λ r. first_calm r r.phase)
  change_calm (validate_second timer) a free own v = own_calm own (λ (r : Record). second_rule timer r r.phase) (λ r. second_calm timer r r.phase)

calm_changed : (o : Configuration) (st : State) (rs : List Record) (c : CarAddress) (w : Checked Change) → OnYes (λ (x : Change). any_failure (frames_to o c x.replies) ≡ false) w
    → any_failure (frames_of (outcome_of (and_then w (λ (x : Change). yes (changed o st rs c x))))) ≡ false
unfolding any_result
calm_changed o st rs c (no n) h = refl
calm_changed o st rs c (yes x) h = h

calm_state : (o : Configuration) (st : State) (rs : List Record) (c : CarAddress) (m : Request) → validates_in m ≡ true → any_validates rs ≡ false → any_failure (frames_of (outcome_of (state_rule o st rs c m))) ≡ false
unfolding state_rule any_result
calm_state o Unmatched rs c m v e = refl
calm_state o (Matching a) rs c (for_record m) v e = calm_changed o (Matching a) rs c (change_rule o.edition c m a (free_places rs) (first_result o.exempt rs) (mine c rs)) (change_calm o c o.exempt rs e m a (free_places rs) (mine c rs) v)
calm_state o (Matching a) rs c (match_req run x y) v e = clash true refl (sym v)
calm_state o (Matching a) rs c (map_req n) v e = clash true refl (sym v)
calm_state o (Joining l d k) rs c (for_record m) v e = refl
calm_state o (Joining l d k) rs c (match_req run x y) v e = clash true refl (sym v)
calm_state o (Joining l d k) rs c (map_req n) v e = clash true refl (sym v)
calm_state o (Matched d) rs c (for_record m) v e = refl
calm_state o (Matched d) rs c (match_req run x y) v e = clash true refl (sym v)
calm_state o (Matched d) rs c (map_req n) v e = clash true refl (sym v)

calm_frame : (e : Edition) (o : Configuration) (i : Inner) (s : List ℕ) (w : Checked Received) → OnYes (FrameAs e s) w → is_read validate_req (read_rules e s) ≡ true → any_validates i.records ≡ false
    → any_failure (frames_of (outcome_of (frame_rule o i w))) ≡ false
unfolding any_result
calm_frame e o i s (no n) t k f = refl
calm_frame e o i s (yes y) t k f = calm_state o i.state i.records y.car y.request (sym t.validating ∙ k) f

calm_call : (e : Edition) (o : Shared) → o.config.edition ≡ e → (i : Inner) (x : Call) → Few 0 i.records → is_kind e validate_req x ≡ true → any_failure (frames_of (outcome_of (rule o i x))) ≡ false
unfolding is_kind rule
calm_call e o w i (frame s room) h k = calm_frame e o.config i s (admitted o.config room (received o.config.edition s)) (read_in e o.config w room s) k (none_busy i.records h)
calm_call e o w i (tick t room) h k = clash true refl (sym k)
calm_call e o w i (pilot p t) h k = clash true refl (sym k)
calm_call e o w i terminate h k = clash true refl (sym k)
calm_call e o w i link_up h k = clash true refl (sym k)

-- ---- and none gets so but by an accepted validate request

refused_stays : (i : Inner) (w : Checked Done) → accepted (outcome_of w) ≡ false → next i w ≡ i
unfolding accepted
refused_stays i (no n) e = refl
refused_stays i (yes d) e = clash true refl e

others_frame : (e : Edition) (s : List ℕ) (w : Checked Received) → OnYes (FrameAs e s) w → is_read validate_req (read_rules e s) ≡ false → OnYes (λ (y : Received). Allows 0 y.request) w
others_frame e s (no n) t k = tt
others_frame e s (yes y) t k = λ v. clash (validates_in y.request) v (sym t.validating ∙ k)

others_meet : (e : Edition) (o : Configuration) → o.edition ≡ e → (x : Call) → is_kind e validate_req x ≡ false → Meets (Allows 0) o x
unfolding is_kind
others_meet e o w (frame s room) k = others_frame e s (admitted o room (received o.edition s)) (read_in e o w room s) k
others_meet e o w (tick t room) k = tt
others_meet e o w (pilot p t) k = tt
others_meet e o w terminate k = tt
others_meet e o w link_up k = tt

still_none : (e : Edition) (o : Shared) → o.config.edition ≡ e → (i : Inner) (x : Call) → is_accepted e validate_req x (outcome_of (rule o i x)) ≡ false → Few 0 i.records → Few 0 (next i (rule o i x)).records
unfolding is_accepted
still_none e o w i x q h = split (is_kind e validate_req x)
    (λ k. rw (refused_stays i (rule o i x) (rw k at q)) h)
    (λ k. few_next 0 o i x (others_meet e o.config w x k) h)

-- ---- the windows

goes_on : (e : Edition) (c : CarAddress) (x : Call) (u : Outcome) → ends_for e c x u ≡ false → (is_kind e validate_req x ≡ true → any_failure (frames_of u) ≡ false) → ends e c x u ≡ false
unfolding ends
goes_on e c x u q f = rw q (split (is_kind e validate_req x) (λ k. rw (k, f k) (and-false (is_car c (named e x)))) (λ k. rw k))

-- a validate request is no other request
one_kind : (k : Kind) (x : Checked Message) → is_read validate_req x ≡ true → is_read k x ≡ eqb (type_of k) (type_of validate_req)
unfolding is_read
one_kind k (no n) e = clash true refl (sym e)
one_kind k (yes m) e = ap (eqb (type_of k)) (sym (eqb-true (type_of validate_req) (type_of m.kind) e))

validate_lasts : (e : Edition) (c : CarAddress) (x : Call) (u : Outcome) → is_kind e validate_req x ≡ true → ends_for e c x u ≡ false
unfolding ends_for is_end is_kind
validate_lasts e c (frame s room) u k = rw (one_kind slac_match_req (read_rules e s) k, one_kind slac_parm_req (read_rules e s) k)
validate_lasts e c (tick t room) u k = clash true refl (sym k)
validate_lasts e c (pilot p t) u k = clash true refl (sym k)
validate_lasts e c terminate u k = clash true refl (sym k)
validate_lasts e c link_up u k = clash true refl (sym k)

longer : (e : Edition) (c : CarAddress) {s : Station} {xs : List Call} → Shorter e c s xs → s.config.edition ≡ e → Few 0 s.records → Longer e c s xs
unfolding step outcome ends_early is_own_accepted
longer e c (begun {s}) w h = begun
longer e c (further {s} {x} {xs} q l) w h =
    further (goes_on e c x (outcome s x) (or_left _ _ q) (calm_call e (shared s) w (inner s) x h))
    (longer e c l (edition_step e s x w) (still_none e (shared s) w (inner s) x (or_right (ends_for e c x (outcome s x)) _ q) h))
longer e c (matched {s} {x} q) w h = split (is_own_accepted e c slac_match_req x (outcome s x))
    (λ g. matched g)
    (λ g.
    let v : is_kind e validate_req x && is_car c (named e x) && accepted (outcome s x) ≡ true = rw g at q in
    let k : is_kind e validate_req x ≡ true = and_left _ _ (and_left _ _ v) in
    further (goes_on e c x (outcome s x) (validate_lasts e c x (outcome s x) k) (calm_call e (shared s) w (inner s) x h)) begun)

pub undisturbed_shorter : (s₀ : Station) → 0 < length s₀.records → All Unicast s₀.records → (c : CarAddress) (before : List Call) (plug : Call) (since : List Call) → Undisturbed Shorter s₀ c before plug since
unfolding step
undisturbed_shorter s₀ z q c before plug since h l =
    let e : Edition = s₀.config.edition in
    let s₁ : Station = after s₀ before in
    let f : Few 0 (step s₁ plug).records = rw (plug_call (shared s₁) (inner s₁) plug h (inner s₁)) (free_busy (map freed s₁.records) (none_freed s₁.records)) in
    undisturbed s₀ z q c before plug since h (longer e c l (edition_step e s₁ plug (edition_after e s₀ before refl)) f)
