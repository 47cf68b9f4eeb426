-- MATCH.REQ on lent words, by the tests that the code makes.
use Prim.Native.Nat.{ℕ, ◌^◌, ◌<◌, min}
use mathlib.Core.Path.{◌≡◌, sym, ap, ap₂, subst, ◌∙◌}
use mathlib.Core.Bool.{true, false, ◌&&◌}
use mathlib.Core.List.{List, [], ◌∷◌, map}
use denote.Enum.Declared.{tag_of}
use lib.Dec.{eqb}
use lib.ListN.{length, get_or}
use types.Run.{OneOf}
use Rattle.messages.specs.declared.CarAddress.{CarAddress}
use Rattle.messages.specs.declared.RunId.{RunId}
use Rattle.messages.specs.Reading.{Checked, no, yes}
use Rattle.messages.specs.Table.{Message}
use Rattle.messages.specs.Writing.{frame}
use Rattle.octets.specs.Octets.{splice}
use Rattle.std.specs.Prelude.{Result, Option, Some, None}
use Rattle.ends.specs.declared.Done as ends
use Rattle.messages.specs.declared.Refusal.{Refusal}
use Rattle.ends.specs.declared.Indication.TheVariants.{Nothing}
use Rattle.ends.specs.Answers.{answer_of, summary}
use Rattle.ends.specs.Outcomes.{Outcome, frames_of, joined}
use Rattle.ends.specs.Sending.{sending, Sends, Writable}
use Rattle.ends.proofs.SendLaws.{sends_writable}
use Rattle.rules.specs.declared.Configuration.{Configuration}
use Rattle.rules.specs.declared.Pilot.{Pilot}
use Rattle.rules.specs.declared.Record.{Record}
use Rattle.rules.specs.declared.State.{State}
use Rattle.rules.specs.declared.State.TheVariants.{Matching, Joining}
use Rattle.rules.specs.declared.Station.{Station}
use Rattle.rules.specs.Frames.{match_rule, confirmed, state_rule}
use Rattle.rules.specs.FromOctets.{OctetRequest}
use Rattle.rules.specs.Received.{match_req}
use Rattle.rules.specs.Records.{freed}
use Rattle.rules.specs.Replies.{message_to, frames_to}
use Rattle.rules.specs.Stations.{Done, shared, build, done}
use Rattle.rules.specs.contracts.State.{the_type}
use Rattle.records.specs.Places.{own_place}
use Rattle.records.proofs.PlaceLaws.{own_found, own_missing}
use Rattle.station.specs.Frames.{Ready, join_rule}
use Rattle.station.proofs.MatchLaws.{joins, join_none, join_own, match_matching, match_again, match_other, match_elsewhere}
use Rattle.station.proofs.SendLaws.{match_cnf_writable}
use Rattle.words.proofs.Meant.{meant}
use Rattle.words.specs.Words.{last_place, config_of, edition_in, state_of, pilot_in, clock_in, records_of, station_of, with_records, in_state}
use Rattle.lahzavar.specs.declared.Answered.{Answered}
use Rattle.lahzavar.specs.Answers.{said_of}
use Rattle.lahzavar.specs.Frames.{Comes, Replies}
use Rattle.lahzavar.specs.Matching.{first_id, second_id, asking, confirming}
use Rattle.lahzavar.proofs.FrameLaws.{own_read}

-- ---- MATCH.CNF

-- a message sent that can be written
pub replied : (m k : Message) (entry exit : List ℕ) (a : Result ends.Done Refusal) (r : Answered) → m ≡ k → Writable k (length entry) → Sends m Nothing entry exit a → r ≡ said_of (answer_of a) → Replies (frame k ∷ []) entry exit r
replied m k entry exit a r e h sends q =
    let sent : sending m Nothing (length entry) ≡ yes (record { frames = frame k ∷ []; indication = Nothing }) = ap (λ (x : Message). sending x Nothing (length entry)) e ∙ sends_writable k entry h Nothing in
    (q ∙ ap said_of (sends.answer ∙ ap summary sent), sends.octets ∙ ap (λ (u : Outcome). splice 0 (joined (frames_of u)) entry) sent)

-- it can be written: o is the configuration of the words, whose key has fields of 64 binary digits
pub confirmable : (w s z f out : List ℕ) (c : CarAddress) (run : RunId) (o : Configuration) → o ≡ config_of w → Ready (station_of w s z) c out → OctetRequest (edition_in w) (asking (edition_in w) run f)
    → run.0 < 2 ^ 64 → (o.nmk.0 < 2 ^ 64) × (o.nmk.1 < 2 ^ 64) → Writable (message_to (config_of w) c (confirming (edition_in w) run f)) (length out)
unfolding station_of
confirmable w s z f out c run o e q i u k =
    let key : ((config_of w).nmk.0 < 2 ^ 64) × ((config_of w).nmk.1 < 2 ^ 64) = subst (λ (x : Configuration). (x.nmk.0 < 2 ^ 64) × (x.nmk.1 < 2 ^ 64)) e k in
    match_cnf_writable (config_of w) c (length out) (q.kept.config.address q.good) q.car run _ _ i.0 i.1 u (q.kept.config.nid q.good) key.0 key.1 q.room

-- ---- with the same configuration

module _ (w v : List ℕ) (e : config_of v ≡ config_of w) where
  -- a reply can be sent
  pub ready_kept : (s z x y out : List ℕ) (c : CarAddress) → Ready (station_of w s z) c out → Ready (station_of v x y) c out
  unfolding station_of
  ready_kept s z x y out c q = record { good = ap (λ (o : Configuration). o.good) e ∙ q.good; kept = meant v x y; car = q.car; room = q.room }

  -- and octets can ask for it
  pub octets_kept : (run : RunId) (f : List ℕ) → OctetRequest (edition_in w) (asking (edition_in w) run f) → OctetRequest (edition_in v) (asking (edition_in v) run f)
  octets_kept run f q = subst (λ (o : Configuration). OctetRequest o.edition (asking o.edition run f)) (sym e) q

-- ---- what a state and some records come to, with a reply

-- every record freed and another state stored: the configuration is as it was
pub config_joined : (w u v : List ℕ) (st : State) (p : Pilot) (n : ℕ) → ((x y : List ℕ) → station_of u x y ≡ with_records (station_of w x y) (map freed (records_of w x y))) → ((x y : List ℕ) → station_of v x y ≡ in_state st p n (station_of u x y)) → config_of v ≡ config_of w
unfolding station_of
config_joined w u v st p n h g = ap (λ (k : Station). k.config) (g [] [] ∙ ap (in_state st p n) (h [] []))

module _ (w s z entry exit v : List ℕ) (r : Answered) where
  comes_replied : (st : State) (rs : List Record) (fs : List (List ℕ)) → station_of v s z ≡ build (shared (station_of w s z)) (record { state = st; records = rs }) → Replies fs entry exit r
      → Comes (yes (done st rs fs Nothing)) w s z entry exit v s z r
  comes_replied st rs fs e q = record { station = e; answer = q.0; octets = q.1; kept = λ h. absurd (h (ap (λ (a : Answered). a.refusal) q.0)) }

  module _ (c : CarAddress) (run : RunId) (f : List ℕ) (o : Configuration) (eo : o ≡ config_of w) (q : Replies (frames_to o c (confirming o.edition run f ∷ [])) entry exit r) where
    -- the replies of the station of the words
    here : Replies (frames_to (station_of w s z).config c (confirming (edition_in w) run f ∷ [])) entry exit r
    unfolding station_of
    here = subst (λ (x : Configuration). Replies (frames_to x c (confirming x.edition run f ∷ [])) entry exit r) eo q

    -- what is confirmed in a state, with some records
    abbrev given : State → List Record → Checked Done
    given st rs = yes (confirmed (station_of w s z).config st rs c run (first_id (edition_in w) f) (second_id (edition_in w) f))

    -- every record freed, and another state stored
    pub comes_joined : (u : List ℕ) (st : State) (p : Pilot) (n : ℕ) → p ≡ pilot_in w → n ≡ clock_in w → ((x y : List ℕ) → station_of u x y ≡ with_records (station_of w x y) (map freed (records_of w x y)))
        → ((x y : List ℕ) → station_of v x y ≡ in_state st p n (station_of u x y)) → Comes (given st (map freed (station_of w s z).records)) w s z entry exit v s z r
    unfolding station_of
    comes_joined u st p n ep en h g =
        comes_replied st (map freed (records_of w s z)) _
        (g s z ∙ ap (in_state st p n) (h s z) ∙ ap₂ (λ (x : Pilot) (k : ℕ). in_state st x k (with_records (station_of w s z) (map freed (records_of w s z)))) ep en)
        here

    -- nothing stored
    pub comes_again : v ≡ w → (st : State) → state_of w ≡ st → Comes (given st (station_of w s z).records) w s z entry exit v s z r
    unfolding station_of
    comes_again e st es = comes_replied st (records_of w s z) _ (ap (λ (x : List ℕ). station_of x s z) e ∙ ap (λ (x : State). in_state x (pilot_in w) (clock_in w) (station_of w s z)) es) here

-- ---- by what is read of the words

module _ (w s z : List ℕ) (c : CarAddress) (run : RunId) (a b : List ℕ) where
  module _ (p : Option ℕ) (ep : (u h : List ℕ) → p ≡ own_place c (records_of w u h)) where
    -- 11 where the car holds no record
    pub join_missing : p ≡ None → join_rule (station_of w s z) c run a b ≡ no 11
    unfolding station_of
    join_missing o = join_none (station_of w s z) c run a b (own_missing c (records_of w s z) p (ep s z) o)

    -- at the car's record, by its verdict
    pub join_verdict : (i : ℕ) (d r : Record) (x : Checked (Unit {0})) → p ≡ Some i → r ≡ get_or (records_of w s z) (min i last_place) d → x ≡ match_rule run (r ∷ []) → join_rule (station_of w s z) c run a b ≡ joins (station_of w s z) c run a b x
    unfolding station_of
    join_verdict i d r x e er ex = join_own (station_of w s z) c run a b i d x (own_found c (records_of w s z) p i (ep s z) e) (ex ∙ ap (λ (k : Record). match_rule run (k ∷ [])) (own_read w s z c p i d r ep e er))

  -- the rule
  abbrev rule_of : Checked Done
  rule_of = state_rule (station_of w s z).config (station_of w s z).state (station_of w s z).records c (match_req run a b)

  module _ (st : State) (es : st ≡ state_of w) where
    pub in_matching : (t : ℕ) → st ≡ Matching t → join_rule (station_of w s z) c run a b ≡ rule_of
    unfolding station_of
    in_matching t e = match_matching (station_of w s z) c run a b t (sym es ∙ e)

    pub in_joining : (l : ℕ) (d : CarAddress) (k : RunId) → st ≡ Joining l d k → eqb c.0 d.0 && eqb run.0 k.0 ≡ true → yes (confirmed (station_of w s z).config (Joining l d k) (station_of w s z).records c run a b) ≡ rule_of
    unfolding station_of
    in_joining l d k e h = match_again (station_of w s z) c run a b l d k (sym es ∙ e) h

    pub of_another : (l : ℕ) (d : CarAddress) (k : RunId) → st ≡ Joining l d k → eqb c.0 d.0 && eqb run.0 k.0 ≡ false → rule_of ≡ no 11
    unfolding station_of
    of_another l d k e h = match_other (station_of w s z) c run a b l d k (sym es ∙ e) h

    pub elsewhere : OneOf (0 ∷ 3 ∷ []) (tag_of the_type st) → rule_of ≡ no 8
    unfolding station_of
    elsewhere t = match_elsewhere (station_of w s z) c run a b (subst (λ (x : State). OneOf (0 ∷ 3 ∷ []) (tag_of the_type x)) es t)
