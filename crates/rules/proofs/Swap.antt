-- Demand 3, part two: two frames of a row that name different cars change places.
use Prim.Native.Nat.{ℕ, ◌+◌, ◌≤◌}
use mathlib.Core.Path.{◌≡◌, refl, sym, ◌∙◌, ap, subst}
use mathlib.Core.Bool.{Bool, true, false, not, ◌&&◌, and-false}
use lib.Dec.{eqb}
use mathlib.Core.List.{List, map}
use native.Mathlib.Omega.{arith}
use lib.ListN.{length}
use borrow.Author.Tests.{not-true}
use Rattle.messages.specs.declared.CarAddress.{CarAddress}
use Rattle.messages.specs.declared.Edition.{Edition}
use Rattle.messages.specs.declared.RunId.{RunId}
use Rattle.messages.specs.Table.{validate_req, slac_match_req}
use Rattle.messages.specs.Reading.{Checked, no, yes, check}
use Rattle.messages.proofs.LayoutLaws.{and_left, and_right}
use Rattle.rules.specs.declared.Configuration.{Configuration}
use Rattle.rules.specs.declared.Record.{Record}
use Rattle.rules.specs.declared.State.{State}
use Rattle.rules.specs.declared.State.TheVariants.{Unmatched, Matching, Joining, Matched}
use Rattle.rules.specs.declared.Station.{Station}
use Rattle.ends.specs.Constants.{joining_time}
use Rattle.rules.specs.Calls.{Call, frame, tick, pilot, terminate, link_up}
use Rattle.ends.specs.Outcomes.{Outcome, and_then, next, outcome_of}
use Rattle.rules.specs.Stations.{Inner, inner, Done}
use Rattle.rules.specs.Records.{same_car, same_run, mine, free_places, freed}
use Rattle.rules.specs.Received.{RecordMessage, Request, for_record, match_req, map_req, Received, received}
use Rattle.rules.specs.Validation.{first_result}
use Rattle.rules.specs.Frames.{Change, change_rule, match_rule, put, changed, confirmed, map_rule, state_rule, admitted, frame_rule}
use Rattle.rules.specs.Rules.{rule, shared_step, step, outcome}
use Rattle.rules.specs.Demand3.{named, is_car, accepted, is_ten, is_kind, is_accepted, is_frame, moves}
use Rattle.ends.proofs.Logic.{split, clash, OnYes}
use Rattle.rules.proofs.RecordLaws.{same_refl, same_eq, same_swap, Ready, takes, ready_takes, same_put, mine_put_other, length_put, free_put}
use Rattle.rules.proofs.RuleLaws.{is_ask, is_validate, refused_ten, SameResult, change_ready, change_same}
use Rattle.rules.proofs.ReceivedLaws.{is_match, validates_in, FrameAs}
use Rattle.rules.proofs.EditionLaws.{read_in}
use Rattle.rules.proofs.NearFrames.{ten_change}
use Rattle.rules.proofs.Places.{Places, Moved, Like}

-- ---- what a change does to the records

-- the records after it: a refusal changes nothing
abbrev then : CarAddress → Checked Change → List Record → List Record
then c (no n) rs = rs
then c (yes x) rs = put c x.place x.kept rs

-- how many free places it takes
abbrev needed : Checked Change → ℕ
needed (no n) = 0
needed (yes x) = takes x.place

-- its place is ready
abbrev IsReady : CarAddress → List Record → Checked Change → Type 0
IsReady c rs w = OnYes (λ (x : Change). Ready x.place (free_places rs) (mine c rs)) w

needed_on : (w : Checked Change) (k : ℕ) → needed w ≤ k → OnYes (λ (x : Change). takes x.place ≤ k) w
needed_on (no n) k h = tt
needed_on (yes x) k h = h

ready_needed : (c : CarAddress) (w : Checked Change) (rs : List Record) → IsReady c rs w → needed w ≤ free_places rs
ready_needed c (no n) rs r = omega arith
ready_needed c (yes x) rs r = ready_takes x.place (free_places rs) (mine c rs) r

then_free : (c : CarAddress) (w : Checked Change) (rs : List Record) → needed w ≤ free_places rs → free_places (then c w rs) + needed w ≡ free_places rs
then_free c (no n) rs h = omega arith
then_free c (yes x) rs h = free_put c x.kept x.place rs h

then_other : (c d : CarAddress) (w : Checked Change) (rs : List Record) → same_car d c ≡ false → mine d (then c w rs) ≡ mine d rs
then_other c d (no n) rs h = refl
then_other c d (yes x) rs h = mine_put_other c x.kept x.place d rs h

then_own : (c : CarAddress) (w : Checked Change) (rs qs : List Record) → mine c rs ≡ mine c qs → IsReady c rs w → needed w ≤ free_places qs → mine c (then c w rs) ≡ mine c (then c w qs)
then_own c (no n) rs qs e r h = e
then_own c (yes x) rs qs e r h = same_put c x.kept x.place rs qs e r h

then_length : (c : CarAddress) (w : Checked Change) (rs : List Record) → length (then c w rs) ≡ length rs
then_length c (no n) rs = refl
then_length c (yes x) rs = length_put c x.kept x.place rs

-- two changes of different cars, in either order
then_both : (c d : CarAddress) (w v : Checked Change) (rs : List Record) → same_car c d ≡ false → IsReady c rs w → IsReady d (then c w rs) v
    → Places (then d v (then c w rs)) (then c w (then d v rs))
then_both c d w v rs f r r' =
    let g : same_car d c ≡ false = same_swap c d f in
    let a : needed w ≤ free_places rs = ready_needed c w rs r in
    let b : needed v ≤ free_places (then c w rs) = ready_needed d v (then c w rs) r' in
    let p : free_places (then c w rs) + needed w ≡ free_places rs = then_free c w rs a in
    let q : free_places (then d v rs) + needed v ≡ free_places rs = then_free d v rs (omega arith) in
    record {
      own = λ x. split (same_car x c)
          (λ e. rw (same_eq x c e) (then_other d c v (then c w rs) f ∙ then_own c w rs (then d v rs) (sym (then_other d c v rs f)) r (omega arith)))
          (λ e. split (same_car x d)
          (λ k. rw (same_eq x d k) (then_own d v (then c w rs) rs (then_other c d w rs g) r' (omega arith) ∙ sym (then_other c d w (then d v rs) g)))
          (λ k. then_other d x v (then c w rs) k ∙ then_other c x w rs e ∙ sym (then_other d x v rs k) ∙ sym (then_other c x w (then d v rs) e)));
      sizes = then_length d v (then c w rs) ∙ then_length c w rs ∙ sym (then_length d v rs) ∙ sym (then_length c w (then d v rs));
    }

-- ---- what a frame of a row does: one change, whatever the other cars' records

abbrev doing : Configuration → State → CarAddress → Checked Change → List Record → Checked Done
doing o st c w rs = and_then w (λ (x : Change). yes (changed o st rs c x))

record Effect (o : Configuration) (st : State) (c : CarAddress) (m : Request) (rs : List Record) : Type 0 where
  change : Checked Change
  ready : IsReady c rs change
  same : (qs : List Record) → mine c qs ≡ mine c rs → needed change ≤ free_places qs → state_rule o st qs c m ≡ doing o st c change qs

refuses : (o : Configuration) (st : State) (c : CarAddress) (m : Request) (rs : List Record) (n : ℕ) → ((qs : List Record) → mine c qs ≡ mine c rs → state_rule o st qs c m ≡ no n) → Effect o st c m rs
refuses o st c m rs n h = record { change = no n; ready = tt; same = λ qs e k. h qs e }

match_effect : (o : Configuration) (a : ℕ) (c : CarAddress) (run : RunId) (x y : List ℕ) (rs : List Record) (w : Checked (Unit {0})) → match_rule run (mine c rs) ≡ w
    → accepted (outcome_of (and_then w (λ (v : Unit {0}). yes (confirmed o (Joining joining_time c run) (map freed rs) c run x y)))) ≡ false → Effect o (Matching a) c (match_req run x y) rs
unfolding state_rule accepted
match_effect o a c run x y rs (no n) e t = refuses o (Matching a) c (match_req run x y) rs n (λ qs k. rw (k, e))
match_effect o a c run x y rs (yes v) e t = clash true refl t

again_effect : (o : Configuration) (l : ℕ) (d : CarAddress) (k : RunId) (c : CarAddress) (run : RunId) (x y : List ℕ) (rs : List Record) (b : Bool) → same_car c d && same_run run k ≡ b
    → accepted (outcome_of (check b 11 (yes (confirmed o (Joining l d k) rs c run x y)))) ≡ false → Effect o (Joining l d k) c (match_req run x y) rs
unfolding state_rule accepted
again_effect o l d k c run x y rs false e t = refuses o (Joining l d k) c (match_req run x y) rs 11 (λ qs q. rw e)
again_effect o l d k c run x y rs true e t = clash true refl t

-- what a row asks of a request and its outcome: no accepted match or validate request, and not refused with 10
abbrev calm : Request → Outcome → Type 0
calm m u = (is_match m && accepted u ≡ false) × ((validates_in m && accepted u ≡ false) × (is_ten u ≡ false))

-- a refused validate request is refused whatever the result
refused_same : (o : Configuration) (st : State) (c : CarAddress) (m : RecordMessage) (rs : List Record) (result result' : ℕ) (w : Checked Change) → is_validate m && accepted (outcome_of (doing o st c w rs)) ≡ false
    → OnYes (SameResult m result result') w
unfolding accepted
refused_same o st c m rs result result' (no n) v = tt
refused_same o st c m rs result result' (yes x) v = λ p e. clash (is_validate m && true) (rw p) v

-- a state in which a frame can change a record
abbrev Changes : State → Type 0
Changes Unmatched = Unit {0}
Changes (Matching a) = Unit {0}
Changes (Joining l c run) = Unit {0}
Changes (Matched c) = ⊥

effect : (o : Configuration) (st : State) (c : CarAddress) (m : Request) (rs : List Record) → Changes st → calm m (outcome_of (state_rule o st rs c m)) → Effect o st c m rs
unfolding state_rule
effect o Unmatched c m rs k h = refuses o Unmatched c m rs 8 (λ qs e. refl)
effect o (Matching a) c (for_record m) rs j h =
    let x : ℕ = first_result o.exempt rs in
    let w : Checked Change = change_rule o.edition c m a (free_places rs) x (mine c rs) in
    let f : is_ask m && refused_ten w ≡ false = rw (sym (ten_change o (Matching a) rs c w) ∙ h.1.1) (and-false (is_ask m)) in
    record {
      change = w;
      ready = change_ready o.edition c m a (free_places rs) x (mine c rs);
      same = λ qs e k. rw (
        e,
        ← change_same o.edition c m a (free_places rs) (free_places qs) x (first_result o.exempt qs) (mine c rs) f (needed_on w (free_places qs) k) (refused_same o (Matching a) c m rs x (first_result o.exempt qs) w h.1.0),
      );
    }
effect o (Matching a) c (match_req run x y) rs j h = match_effect o a c run x y rs (match_rule run (mine c rs)) refl h.0
effect o (Matching a) c (map_req n) rs j h = refuses o (Matching a) c (map_req n) rs 8 (λ qs e. refl)
effect o (Joining l d k) c (for_record m) rs j h = refuses o (Joining l d k) c (for_record m) rs 8 (λ qs e. refl)
effect o (Joining l d k) c (match_req run x y) rs j h = again_effect o l d k c run x y rs (same_car c d && same_run run k) refl h.0
effect o (Joining l d k) c (map_req n) rs j h = refuses o (Joining l d k) c (map_req n) rs 8 (λ qs e. refl)
effect o (Matched d) c m rs j h = absurd j

-- ---- two frames

-- x and then y, and y and then x
record Crossed (i : Inner) (a₁ a₂ b₁ b₂ : Checked Done) : Type 0 where
  first : outcome_of a₁ ≡ outcome_of b₂
  second : outcome_of a₂ ≡ outcome_of b₁
  moved : Moved (next (next i a₁) a₂) (next (next i b₁) b₂)

abbrev at : Configuration → CarAddress → Request → Inner → Checked Done
at o c m i = state_rule o i.state i.records c m

next_doing : (o : Configuration) (st : State) (c : CarAddress) (w : Checked Change) (rs : List Record) → next (record { state = st; records = rs }) (doing o st c w rs) ≡ record { state = st; records = then c w rs }
next_doing o st c (no n) rs = refl
next_doing o st c (yes x) rs = refl

outcome_doing : (o : Configuration) (st : State) (c : CarAddress) (w : Checked Change) (rs qs : List Record) → outcome_of (doing o st c w rs) ≡ outcome_of (doing o st c w qs)
outcome_doing o st c (no n) rs qs = refl
outcome_doing o st c (yes x) rs qs = refl

swap_changes : (o : Configuration) (st : State) (rs : List Record) (c d : CarAddress) (m l : Request) → Changes st → same_car c d ≡ false
    → calm m (outcome_of (state_rule o st rs c m)) → calm l (outcome_of (at o d l (next (record { state = st; records = rs }) (state_rule o st rs c m))))
    → Crossed (record { state = st; records = rs }) (state_rule o st rs c m) (at o d l (next (record { state = st; records = rs }) (state_rule o st rs c m)))
    (state_rule o st rs d l) (at o c m (next (record { state = st; records = rs }) (state_rule o st rs d l)))
swap_changes o st rs c d m l k f h₁ h₂ =
    let i : Inner = record { state = st; records = rs } in
    let E : Effect o st c m rs = effect o st c m rs k h₁ in
    let w : Checked Change = E.change in
    let a : needed w ≤ free_places rs = ready_needed c w rs E.ready in
    let e₁ : state_rule o st rs c m ≡ doing o st c w rs = E.same rs refl a in
    let n₁ : next i (state_rule o st rs c m) ≡ record { state = st; records = then c w rs } = ap (next i) e₁ ∙ next_doing o st c w rs in
    let h₃ : calm l (outcome_of (state_rule o st (then c w rs) d l)) = subst (λ (q : Inner). calm l (outcome_of (at o d l q))) n₁ h₂ in
    let D : Effect o st d l (then c w rs) = effect o st d l (then c w rs) k h₃ in
    let v : Checked Change = D.change in
    let b : needed v ≤ free_places (then c w rs) = ready_needed d v (then c w rs) D.ready in
    let p : free_places (then c w rs) + needed w ≡ free_places rs = then_free c w rs a in
    let od : mine d rs ≡ mine d (then c w rs) = sym (then_other c d w rs (same_swap c d f)) in
    let e₂ : state_rule o st (then c w rs) d l ≡ doing o st d v (then c w rs) = D.same (then c w rs) refl b in
    let e₃ : state_rule o st rs d l ≡ doing o st d v rs = D.same rs od (omega arith) in
    let n₃ : next i (state_rule o st rs d l) ≡ record { state = st; records = then d v rs } = ap (next i) e₃ ∙ next_doing o st d v rs in
    let q : free_places (then d v rs) + needed v ≡ free_places rs = then_free d v rs (omega arith) in
    let e₄ : state_rule o st (then d v rs) c m ≡ doing o st c w (then d v rs) = E.same (then d v rs) (then_other d c v rs f) (omega arith) in
    record {
      first = ap outcome_of e₁ ∙ outcome_doing o st c w rs (then d v rs) ∙ sym (ap (λ q. outcome_of (at o c m q)) n₃ ∙ ap outcome_of e₄);
      second = ap (λ q. outcome_of (at o d l q)) n₁ ∙ ap outcome_of e₂ ∙ outcome_doing o st d v (then c w rs) rs ∙ sym (ap outcome_of e₃);
      moved =
          rw (n₁, e₂, next_doing o st d v (then c w rs), n₃, e₄, next_doing o st c w (then d v rs))
          (record { places = then_both c d w v rs f E.ready D.ready; states = refl });
    }

-- in Matched no frame changes anything
pub matched_stays : (o : Configuration) (b : CarAddress) (rs : List Record) (c : CarAddress) (m : Request) → next (record { state = Matched b; records = rs }) (state_rule o (Matched b) rs c m) ≡ record { state = Matched b; records = rs }
unfolding state_rule map_rule
matched_stays o b rs c (for_record m) = refl
matched_stays o b rs c (match_req run x y) = refl
matched_stays o b rs c (map_req n) = split (same_car c b) (λ e. rw e (split (eqb n o.carriers) (λ k. rw k) (λ k. rw k))) (λ e. rw e)

swap_matched : (o : Configuration) (b : CarAddress) (rs : List Record) (c d : CarAddress) (m l : Request)
    → Crossed (record { state = Matched b; records = rs }) (state_rule o (Matched b) rs c m) (at o d l (next (record { state = Matched b; records = rs }) (state_rule o (Matched b) rs c m)))
    (state_rule o (Matched b) rs d l) (at o c m (next (record { state = Matched b; records = rs }) (state_rule o (Matched b) rs d l)))
swap_matched o b rs c d m l =
    let i : Inner = record { state = Matched b; records = rs } in
    let p : next i (at o c m i) ≡ i = matched_stays o b rs c m in
    let q : next i (at o d l i) ≡ i = matched_stays o b rs d l in
    let x : next (next i (at o c m i)) (at o d l i) ≡ i = ap (λ (k : Inner). next k (at o d l i)) p ∙ q in
    let y : next (next i (at o d l i)) (at o c m i) ≡ i = ap (λ (k : Inner). next k (at o c m i)) q ∙ p in
    let here : Moved i i = record { places = record { own = λ c. refl; sizes = refl }; states = refl } in
    rw (p, q) (record { first = refl; second = refl; moved = subst (λ (k : Inner). Moved k (next (next i (at o d l i)) (at o c m i))) (sym x) (subst (Moved i) (sym y) here) })

swap_state : (o : Configuration) (st : State) (rs : List Record) (c d : CarAddress) (m l : Request) → same_car c d ≡ false
    → calm m (outcome_of (state_rule o st rs c m)) → calm l (outcome_of (at o d l (next (record { state = st; records = rs }) (state_rule o st rs c m))))
    → Crossed (record { state = st; records = rs }) (state_rule o st rs c m) (at o d l (next (record { state = st; records = rs }) (state_rule o st rs c m)))
    (state_rule o st rs d l) (at o c m (next (record { state = st; records = rs }) (state_rule o st rs d l)))
swap_state o Unmatched rs c d m l f h₁ h₂ = swap_changes o Unmatched rs c d m l tt f h₁ h₂
swap_state o (Matching a) rs c d m l f h₁ h₂ = swap_changes o (Matching a) rs c d m l tt f h₁ h₂
swap_state o (Joining t b k) rs c d m l f h₁ h₂ = swap_changes o (Joining t b k) rs c d m l tt f h₁ h₂
swap_state o (Matched b) rs c d m l f h₁ h₂ = swap_matched o b rs c d m l

-- two calls that do not name the same car
abbrev pub Apart : Edition → Call → Call → Type 0
Apart e x y = (c : CarAddress) → is_car c (named e x) ≡ true → is_car c (named e y) ≡ false

swap_frame : (o : Configuration) (i : Inner) (w v : Checked Received) → OnYes (λ (y : Received). OnYes (λ (z : Received). same_car y.car z.car ≡ false) v) w
    → OnYes (λ (y : Received). calm y.request (outcome_of (frame_rule o i w))) w → OnYes (λ (z : Received). calm z.request (outcome_of (frame_rule o (next i (frame_rule o i w)) v))) v
    → Crossed i (frame_rule o i w) (frame_rule o (next i (frame_rule o i w)) v) (frame_rule o i v) (frame_rule o (next i (frame_rule o i v)) w)
swap_frame o i (no n) v f h g = record { first = refl; second = refl; moved = record { places = record { own = λ c. refl; sizes = refl }; states = refl } }
swap_frame o i (yes y) (no n) f h g = record { first = refl; second = refl; moved = record { places = record { own = λ c. refl; sizes = refl }; states = refl } }
swap_frame o i (yes y) (yes z) f h g = swap_state o i.state i.records y.car z.car y.request z.request f h g

-- the words of the demand, said of what was received
apart_received : (e : Edition) (s s' : List ℕ) (room room' : ℕ) → Apart e (frame s room) (frame s' room') → (w v : Checked Received) → OnYes (FrameAs e s) w → OnYes (FrameAs e s') v
    → OnYes (λ (y : Received). OnYes (λ (z : Received). same_car y.car z.car ≡ false) v) w
unfolding named is_car
apart_received e s s' room room' f (no n) v t t' = tt
apart_received e s s' room room' f (yes y) (no n) t t' = tt
apart_received e s s' room room' f (yes y) (yes z) t t' =
    let g : is_car y.car (named e (frame s' room')) ≡ false = f y.car (rw t.car (same_refl y.car)) in
    rw t'.car at g

calm_received : (e : Edition) (s : List ℕ) (room : ℕ) (u : Outcome) (w : Checked Received) → OnYes (FrameAs e s) w → moves e (record { call = frame s room; gave = u }) ≡ true → OnYes (λ (y : Received). calm y.request u) w
unfolding moves is_frame is_accepted is_kind
calm_received e s room u (no n) t h = tt
calm_received e s room u (yes y) t h =
    let a : Bool = is_kind e slac_match_req (frame s room) && accepted u in
    let b : Bool = is_kind e validate_req (frame s room) && accepted u in
    let ab : not a && not b ≡ true = and_left (not a && not b) (not (is_ten u)) h in
    let p : a ≡ false = not-true a (and_left (not a) (not b) ab) in
    let q : b ≡ false = not-true b (and_right (not a) (not b) ab) in
    (rw t.matching at p, (rw t.validating at q, not-true _ (and_right (not a && not b) (not (is_ten u)) h)))

-- ---- two calls of a row

pub record Swapped (s : Station) (x y : Call) : Type 0 where
  pub first : outcome s x ≡ outcome (step s y) x
  pub second : outcome (step s x) y ≡ outcome s y
  pub like : Like (step (step s x) y) (step (step s y) x)

pub swap : (e : Edition) (s : Station) (x y : Call) → s.config.edition ≡ e → Apart e x y → moves e (record { call = x; gave = outcome s x }) ≡ true → moves e (record { call = y; gave = outcome (step s x) y }) ≡ true → Swapped s x y
unfolding outcome step shared_step rule moves is_frame
swap e s (frame x n) (frame y k) q f h g =
    let o : Configuration = s.config in
    let w : Checked Received = admitted o n (received o.edition x) in
    let v : Checked Received = admitted o k (received o.edition y) in
    let W : Crossed (inner s) (frame_rule o (inner s) w) (frame_rule o (next (inner s) (frame_rule o (inner s) w)) v) (frame_rule o (inner s) v) (frame_rule o (next (inner s) (frame_rule o (inner s) v)) w) =
    swap_frame o (inner s) w v (apart_received e x y n k f w v (read_in e o q n x) (read_in e o q k y)) (calm_received e x n _ w (read_in e o q n x) h) (calm_received e y k _ v (read_in e o q k y) g) in
    record { first = W.first; second = W.second; like = record { places = W.moved.places; states = W.moved.states; shares = refl } }
swap e s (frame x n) (tick t m) q f h g = clash true refl (sym g)
swap e s (frame x n) (pilot p t) q f h g = clash true refl (sym g)
swap e s (frame x n) terminate q f h g = clash true refl (sym g)
swap e s (frame x n) link_up q f h g = clash true refl (sym g)
swap e s (tick t n) y q f h g = clash true refl (sym h)
swap e s (pilot p t) y q f h g = clash true refl (sym h)
swap e s terminate y q f h g = clash true refl (sym h)
swap e s link_up y q f h g = clash true refl (sym h)
