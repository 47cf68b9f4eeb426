-- A frame on lent words and sums: what its parts come to, and the call's promise.
use Prim.Native.Nat.{ℕ, min}
use mathlib.Core.Path.{◌≡◌, refl, sym, ap, ap₂, ◌∙◌, subst}
use mathlib.Core.Bool.{Bool}
use mathlib.Core.List.{List, [], ◌∷◌}
use denote.Enum.Declared.{tag_of}
use lib.Dec.{ltb}
use native.Mathlib.Omega.{arith}
use lib.ListN.{length, get_or, set}
use types.Run.{OneOf}
use Rattle.messages.specs.declared.CarAddress.{CarAddress}
use Rattle.messages.specs.declared.Refusal.{Refusal}
use Rattle.messages.specs.declared.RunId.{RunId}
use Rattle.messages.specs.Answers.{number_of}
use Rattle.octets.specs.Octets.{Octets, splice}
use Rattle.messages.specs.Reading.{Checked, no, yes, beside_of, read_rules}
use Rattle.rules.specs.declared.Configuration.{Configuration}
use Rattle.ends.specs.declared.Indication.TheVariants.{Nothing}
use Rattle.rules.specs.declared.Record.{Record}
use Rattle.rules.specs.declared.State.{State}
use Rattle.rules.specs.declared.State.TheVariants.{Matching}
use Rattle.ends.specs.Answers.{answer_of, summary}
use Rattle.rules.specs.Calls as calls
use Rattle.rules.specs.Frames.{Kept, keeps, state_rule}
use Rattle.ends.specs.Lists.{joins}
use Rattle.ends.specs.Outcomes.{Outcome, frames_of, joined, and_then}
use Rattle.ends.specs.Sending as sending
use Rattle.ends.specs.Sending.{Writable}
use Rattle.ends.proofs.SendLaws.{sends_writable}
use Rattle.messages.specs.Table.{Message}
use Rattle.messages.specs.Writing.{frame}
use Rattle.std.specs.Prelude.{Result, Ok, Err, Option, Some, None}
use Rattle.ends.specs.declared.Done as ends
use Rattle.messages.specs.Answers.{checked_of}
use Rattle.rules.specs.Received.{RecordMessage, parm_req, Request, for_record}
use Rattle.rules.specs.FromOctets.{OctetRequest}
use Rattle.rules.specs.Records.{fresh}
use Rattle.rules.specs.Replies.{parm_cnf}
use Rattle.rules.specs.Rules.{rule, shared_step, step, outcome}
use Rattle.rules.specs.Stations.{Done, shared, inner}
use Rattle.rules.specs.Validation.{first_result}
use Rattle.rules.specs.contracts.State.{the_type}
use Rattle.records.specs.declared.find.Found.{Found}
use Rattle.records.specs.Places.{own_place, place_of}
use Rattle.records.proofs.PlaceLaws.{own_found, own_missing}
use Rattle.receiving.specs.declared.judge.Asking as judge
use Rattle.receiving.specs.declared.judge.Request as code
use Rattle.receiving.specs.AtRecord.{later_at, admission_rule}
use Rattle.station.specs.Frames.{Ready, settled}
use Rattle.receiving.specs.Judge.{Asking, request_of, judged_of, judge_rule}
use Rattle.station.proofs.ComesLaws.{state_other}
use Rattle.station.proofs.OwnLaws.{AtOwn, own_none, own_settled}
use Rattle.station.proofs.ParmLaws.{parm_answered}
use Rattle.receiving.proofs.JudgeLaws.{taken, decided, decided_taken, frame_decided, judges, judged_octets}
use Rattle.words.proofs.RecordWords.{length_records}
use Rattle.words.specs.Words.{last_place, config_of, identity, edition_in, state_of, records_of, station_of, with_records}
use Rattle.words.proofs.Meant.{meant}
use Rattle.lahzavar.specs.declared.Answered.{Answered}
use Rattle.lahzavar.specs.Answers.{said_of, answered}
use Rattle.lahzavar.specs.Frames.{Comes, Stores}
use Rattle.lahzavar.specs.Lent.{Lent}
use Rattle.lahzavar.proofs.IdentityLaws.{judged_by_lem}

-- ---- what the parts come to

-- the same rule in other words
pub comes_as : (x x' : Checked Done) (w s z entry exit v t y : List ℕ) (r : Answered) → x ≡ x' → Comes x w s z entry exit v t y r → Comes x' w s z entry exit v t y r
comes_as x x' w s z entry exit v t y r e h = subst (λ (u : Checked Done). Comes u w s z entry exit v t y r) e h

-- a refusal
pub comes_refused : (x : Checked Done) (n : Refusal) (w s z out : List ℕ) (r : Answered) → x ≡ no (number_of n) → r ≡ said_of (no (number_of n)) → Comes x w s z out out w s z r
unfolding splice joins
comes_refused x n w s z out r e q = comes_as (no (number_of n)) x w s z out out w s z r (sym e) (record { station = refl; answer = q; octets = refl; kept = λ h. (refl, (refl, refl)) })

-- a record stored at place i, and some frames sent
pub comes_stored : (w s z entry exit v t y : List ℕ) (i : ℕ) (k : Record) (fs : List (List ℕ)) (r : Answered) → station_of v t y ≡ with_records (station_of w s z) (set (records_of w s z) i k)
    → r ≡ answered (yes (record { frames = fs; indication = Nothing })) → exit ≡ splice 0 (joined fs) entry
    → Stores i k fs w s z entry exit v t y r
unfolding station_of
comes_stored w s z entry exit v t y i k fs r p q e = record { station = p; answer = q; octets = e; kept = λ h. absurd (h (ap (λ (a : Answered). a.refusal) q)) }

-- the same with no frame
pub comes_silent : (w s z out v t y : List ℕ) (i : ℕ) (k : Record) (r : Answered) → station_of v t y ≡ with_records (station_of w s z) (set (records_of w s z) i k)
    → r ≡ said_of (yes (record { frames = 0; octets = 0; indication = Nothing })) → Stores i k [] w s z out out v t y r
unfolding splice joins
comes_silent w s z out v t y i k r p q = comes_stored w s z out out v t y i k [] r p q refl

-- a record stored at place i, and a message sent that can be written
pub comes_sent : (w s z entry exit v t y : List ℕ) (i : ℕ) (k : Record) (m : Message) (a : Result ends.Done Refusal) (r : Answered) → Writable m (length entry) → station_of v t y ≡ with_records (station_of w s z) (set (records_of w s z) i k)
    → sending.Sends m Nothing entry exit a → r ≡ said_of (answer_of a) → Stores i k (frame m ∷ []) w s z entry exit v t y r
comes_sent w s z entry exit v t y i k m a r h p e q =
    let sent : sending.sending m Nothing (length entry) ≡ yes (record { frames = frame m ∷ []; indication = Nothing }) = sends_writable m entry h Nothing in
    comes_stored w s z entry exit v t y i k (frame m ∷ []) r p
    (q ∙ ap said_of (e.answer ∙ ap summary sent))
    (e.octets ∙ ap (λ (u : Outcome). splice 0 (joined (frames_of u)) entry) sent)

-- ---- what a car's request comes to, by what is read of the words

-- the place of the car's own record is none past the last, so that its own record is read there
pub own_read : (w s z : List ℕ) (c : CarAddress) (p : Option ℕ) (i : ℕ) (d r : Record) → ((u h : List ℕ) → p ≡ own_place c (records_of w u h)) → p ≡ Some i → r ≡ get_or (records_of w s z) (min i last_place) d → r ≡ get_or (records_of w s z) i d
own_read w s z c p i d r ep t e =
    let inside = (own_found c (records_of w s z) p i (ep s z) t).inside in
    let same : min i last_place ≡ i = omega (arith, inside, length_records w s z) in
    e ∙ ap (λ (k : ℕ). get_or (records_of w s z) k d) same

module _ (w s z : List ℕ) (c : CarAddress) where
  -- the rule of a request
  abbrev rule_of : Request → Checked Done
  rule_of m = state_rule (station_of w s z).config (station_of w s z).state (station_of w s z).records c m

  -- the configuration
  pub config_here : (o : Configuration) → o ≡ config_of w → o ≡ (station_of w s z).config
  unfolding station_of
  config_here o e = e

  module _ (st : State) (es : st ≡ state_of w) where
    -- 8 where the state is not Matching
    pub takes_none : (m : RecordMessage) → OneOf (0 ∷ 2 ∷ 3 ∷ []) (tag_of the_type st) → rule_of (for_record m) ≡ no 8
    unfolding station_of
    takes_none m t = ap (λ (q : State). state_rule (config_of w) q (records_of w s z) c (for_record m)) (sym es) ∙ state_other (config_of w) st (records_of w s z) c m t

    module _ (a : ℕ) (t : st ≡ Matching a) (p : Found) (ep : (u h : List ℕ) → p ≡ place_of c (records_of w u h)) where
      -- PARM.REQ, by what is answered of the place
      pub takes_parm : (run : RunId) (later : Bool) (x k : Result ℕ Refusal) → later ≡ later_at (edition_in w) p → checked_of x ≡ admission_rule run p (ltb 0 a) → x ≡ k
          → rule_of (for_record (parm_req run)) ≡ and_then (checked_of k) (λ (i : ℕ). settled (station_of w s z) i c (keeps (fresh later c run) (parm_cnf later run ∷ [])))
      unfolding station_of
      takes_parm run later x k el ex ek =
          parm_answered (config_of w) (state_of w) (records_of w s z) c run a (sym es ∙ t) p (ep s z) x ex
          ∙ ap₂ (λ (y : Result ℕ Refusal) (b : Bool). and_then (checked_of y) (λ (i : ℕ). settled (station_of w s z) i c (keeps (fresh b c run) (parm_cnf b run ∷ [])))) ek (sym el)

    module _ (a : ℕ) (t : st ≡ Matching a) (p : Option ℕ) (ep : (u h : List ℕ) → p ≡ own_place c (records_of w u h)) where
      module _ (m : RecordMessage) (f : Record → Checked Kept) (at : AtOwn (edition_in w) c m (first_result (config_of w).exempt (records_of w s z)) f) where
        -- 11 where the car holds no record
        pub takes_missing : p ≡ None → rule_of (for_record m) ≡ no 11
        unfolding station_of
        takes_missing o = own_none (station_of w s z) c m f at a (sym es ∙ t) (own_missing c (records_of w s z) p (ep s z) o)

        -- a message at the car's own record
        pub takes_own : (i : ℕ) (d r : Record) (x : Checked Kept) → p ≡ Some i → r ≡ get_or (records_of w s z) (min i last_place) d → x ≡ f r → settled (station_of w s z) i c x ≡ rule_of (for_record m)
        unfolding station_of
        takes_own i d r x e er ex = own_settled (station_of w s z) c m f at i d x (a, sym es ∙ t) (own_found c (records_of w s z) p i (ep s z) e) (ex ∙ ap f (own_read w s z c p i d r ep e er))

-- ---- the call

-- the promise, from what the rule comes to
pub ruled_lent : (w s z octets out exit v t y : List ℕ) (r : Answered) (x : Checked Done) → rule (shared (station_of w s z)) (inner (station_of w s z)) (calls.frame octets (length out)) ≡ x
    → Comes x w s z out exit v t y r → Lent (calls.frame octets (length out)) w s z out exit v t y r
unfolding step outcome shared_step
ruled_lent w s z octets out exit v t y r x e h = comes_as x (rule (shared (station_of w s z)) (inner (station_of w s z)) (calls.frame octets (length out))) w s z out exit v t y r (sym e) h

module _ (w s z octets out : List ℕ) (o : Configuration) (j : Result judge.Asking Refusal) (eo : o ≡ identity (config_of w))
    (ej : judged_of j (beside_of (read_rules o.edition octets)) ≡ judge_rule o (length out) octets) where
  -- what judging gives of the configuration of the words
  judged_words : (k : Result judge.Asking Refusal) → j ≡ k → judge_rule (config_of w) (length out) octets ≡ judged_of k (beside_of (read_rules (edition_in w) octets))
  judged_words k t =
      sym (judged_by_lem (config_of w) (length out) octets)
      ∙ sym (ap (λ (p : Configuration). judge_rule p (length out) octets) eo)
      ∙ sym ej
      ∙ ap₂ (λ (x : Result judge.Asking Refusal) (p : Configuration). judged_of x (beside_of (read_rules p.edition octets))) t eo

  -- a refusal
  pub frame_unread : (x : Refusal) → j ≡ Err x → judge_rule (config_of w) (length out) octets ≡ no (number_of x)
  frame_unread x t = judged_words (Err x) t

  module _ (a : judge.Asking) (t : j ≡ Ok a) (m : code.Request) (em : a.request ≡ m) where
    -- the request
    abbrev asked : Asking
    asked = record { car = a.car; request = request_of m (beside_of (read_rules (edition_in w) octets)) }

    decided_here : decided (station_of w s z).config (length out) octets ≡ yes asked
    unfolding station_of
    decided_here = decided_taken (config_of w) (length out) octets asked (judged_words (Ok a) t ∙ ap (λ (q : code.Request). judged_of (Ok (record { car = a.car; request = q })) (beside_of (read_rules (edition_in w) octets))) em)

    -- the promise, from what its rule comes to
    pub frame_lent : (exit v u y : List ℕ) (r : Answered) → Comes (taken (station_of w s z) asked) w s z out exit v u y r → Lent (calls.frame octets (length out)) w s z out exit v u y r
    frame_lent exit v u y r h = ruled_lent w s z octets out exit v u y r _ (frame_decided (station_of w s z) octets (length out) (yes asked) decided_here) h

    -- a reply to its car can be sent
    pub frame_ready : Ready (station_of w s z) a.car out
    frame_ready =
        let shown = judges (station_of w s z).config (length out) octets asked decided_here in
        record { good = shown.good; kept = meant w s z; car = shown.car; room = shown.room }

    -- and it is one that octets can ask for
    pub frame_octets_lem : Octets octets → OctetRequest (edition_in w) asked.request
    unfolding station_of
    frame_octets_lem h = judged_octets (station_of w s z).config (length out) octets asked h decided_here
