-- AMP_MAP.REQ by the state, and frames that are none of the eleven messages, in the rules' words.
use Prim.Native.Nat.{ℕ}
use mathlib.Core.Path.{◌≡◌, refl, sym, ap, ◌∙◌, subst}
use mathlib.Core.Bool.{true, false}
use mathlib.Core.List.{List, [], ◌∷◌}
use denote.Enum.Declared.{tag_of}
use lib.Dec.{eqb}
use lib.ListN.{length}
use types.Run.{OneOf, miss}
use Rattle.messages.specs.declared.CarAddress.{CarAddress}
use Rattle.messages.specs.Reading.{Checked, no, yes}
use Rattle.std.specs.Prelude.{Result}
use Rattle.messages.specs.declared.Refusal.{Refusal}
use Rattle.ends.specs.declared.Done as code
use Rattle.ends.specs.Outcomes.{and_then, next, outcome_of}
use Rattle.ends.specs.Sending.{Says}
use Rattle.rules.specs.declared.State.{State}
use Rattle.rules.specs.declared.State.TheVariants.{Unmatched, Matching, Joining, Matched}
use Rattle.rules.specs.declared.Station.{Station}
use Rattle.rules.specs.Received.{map_req}
use Rattle.rules.specs.Stations.{Inner, Done, shared, inner, build}
use Rattle.rules.specs.Calls as calls
use Rattle.rules.specs.Frames.{map_rule, state_rule}
use Rattle.rules.specs.Invariant.{Invariant}
use Rattle.rules.specs.Rules.{rule}
use Rattle.rules.specs.contracts.State.{the_type}
use Rattle.rules.proofs.Swap.{matched_stays}
use Rattle.receiving.specs.Judge.{Asking, judge_rule, map_judge_rule}
use Rattle.receiving.specs.Maps.{map_answer}
use Rattle.receiving.proofs.JudgeLaws.{decided, decided_refused, decided_map, taken, frame_decided, judges}
use Rattle.receiving.proofs.MapLaws.{says_as, map_ruled}
use Rattle.station.specs.Frames.{Ready, Comes}

module _ (s : Station) (c : CarAddress) (n : ℕ) where
  abbrev asked : State → Checked Done
  asked st = state_rule s.config st s.records c (map_req n)

  map_in_lem : (st : State) → OneOf (0 ∷ 1 ∷ 2 ∷ []) (tag_of the_type st) → asked st ≡ no 8
  unfolding state_rule
  map_in_lem Unmatched t = refl
  map_in_lem (Matching a) t = refl
  map_in_lem (Joining l d k) t = refl
  map_in_lem (Matched d) t = absurd (miss (0 ∷ 1 ∷ 2 ∷ []) 3 tt t)

  -- 8
  pub map_elsewhere : OneOf (0 ∷ 1 ∷ 2 ∷ []) (tag_of the_type s.state) → asked s.state ≡ no 8
  map_elsewhere t = map_in_lem s.state t

  -- in Matched nothing changes, and the answer is the rule's
  module _ (entry exit : List ℕ) (a : Result code.Done Refusal) (w : Ready s c entry) (d : CarAddress) (e : s.state ≡ Matched d) where
    rule_here : asked s.state ≡ map_rule s.config d s.records c n
    unfolding state_rule
    rule_here = ap asked e

    -- no state and no record changes
    stays : next (inner s) (asked s.state) ≡ inner s
    stays = subst (λ (st : State). next (let i : Inner = record { state = st; records = s.records } in i) (asked st) ≡ record { state = st; records = s.records }) (sym e) (matched_stays s.config d s.records c (map_req n))

    -- the answer is the rule's
    ruled : map_answer s.config d c n (length entry) ≡ outcome_of (asked s.state)
    ruled = map_ruled s.config d c n (length entry) (w.kept.config.address w.good) w.car w.room s.records ∙ ap outcome_of (sym rule_here)

    pub map_matched : Says (map_answer s.config d c n (length entry)) entry exit a → Comes s (asked s.state) entry exit (record { station = s; answer = a })
    map_matched h =
        let q = says_as _ (outcome_of (asked s.state)) entry exit a ruled h in
        record { station = ap (build (shared s)) (sym stays); answer = q.answer; octets = q.octets }

-- ---- a frame that was refused with n as one of the eleven messages

module _ (s : Station) (octets out : List ℕ) (n : ℕ) (e : judge_rule s.config (length out) octets ≡ no n) where
  -- its rule
  abbrev ruled_frame : Checked Done
  ruled_frame = rule (shared s) (inner s) (calls.frame octets (length out))

  -- another refusal than 3 stays
  pub unread_refused : eqb n 3 ≡ false → ruled_frame ≡ no n
  unread_refused h = frame_decided s octets (length out) (no n) (decided_refused s.config (length out) octets n e h)

  -- at 3 it is what it is as a message of amplitude maps
  module _ (h : eqb n 3 ≡ true) (w : Checked Asking) (q : w ≡ map_judge_rule s.config octets) where
    as_map : decided s.config (length out) octets ≡ w
    as_map = decided_map s.config (length out) octets n e h ∙ sym q

    pub unread_map : ruled_frame ≡ and_then w (taken s)
    unread_map = frame_decided s octets (length out) w as_map

    -- and a reply to its car can be sent
    pub unread_ready : Invariant s → (y : Asking) → w ≡ yes y → Ready s y.car out
    unread_ready i y t =
        let shown = judges s.config (length out) octets y (as_map ∙ t) in
        record { good = shown.good; kept = i; car = shown.car; room = shown.room }
