-- What the parts of the frame call need and give.
use Rattle.std.specs.Prelude.{ℕ, ◌<◌, ◌≤◌, ◌≡◌, true, List, [], ◌∷◌, map, length, set}
use Rattle.messages.specs.declared.CarAddress.{CarAddress}
use Rattle.messages.specs.declared.Edition.{Edition}
use Rattle.messages.specs.declared.RunId.{RunId}
use Rattle.octets.specs.Octets.{splice}
use Rattle.messages.specs.Reading.{Checked, no, yes}
use Rattle.messages.specs.Table.{is_unicast}
use Rattle.ends.specs.declared.Indication.TheVariants.{Nothing}
use Rattle.rules.specs.declared.State.{State}
use Rattle.rules.specs.declared.State.TheVariants.{Unmatched, Matching, Joining, Matched}
use Rattle.rules.specs.declared.Station.{Station}
use Rattle.rules.specs.declared.Stepped.{Stepped}
use Rattle.ends.specs.Constants.{joining_time}
use Rattle.rules.specs.Constants.{least_output}
use Rattle.ends.specs.Outcomes.{frames_of, joined, and_then, next, outcome_of}
use Rattle.rules.specs.Stations.{Done, shared, inner, build, done}
use Rattle.rules.specs.Records.{mine, owned, freed}
use Rattle.rules.specs.Replies.{Reply, frames_to}
use Rattle.rules.specs.Frames.{Kept, match_rule, confirmed}
use Rattle.rules.specs.Invariant.{GoodRecord, Invariant}
use Rattle.ends.specs.Answers.{answer_of, summary}
use Rattle.records.specs.declared.find.Found.{Found}
use Rattle.records.specs.declared.find.Found.TheVariants as found

-- a reply to car c can be sent
pub record Ready (s : Station) (c : CarAddress) (out : List ℕ) : Type 0 where
  pub good : s.config.good ≡ true
  pub kept : Invariant s
  pub car : is_unicast c.0 ≡ true
  pub room : least_output ≤ length out

-- r and the output from entry to exit are what a frame's rule comes to, refused or accepted
pub record Comes (s : Station) (x : Checked Done) (entry exit : List ℕ) (r : Stepped) : Type 0 where
  pub station : r.station ≡ build (shared s) (next (inner s) x)
  pub answer : answer_of r.answer ≡ summary (outcome_of x)
  pub octets : exit ≡ splice 0 (joined (frames_of (outcome_of x))) entry

-- a record that sends something counts some profile
abbrev pub Counted : List Reply → ℕ → Type 0
Counted [] n = Unit {0}
Counted (t ∷ ts) n = 0 < n

-- the record that a message leaves is a good one, as car c's own
abbrev pub KeepsGood : Edition → CarAddress → Checked Kept → Type 0
KeepsGood e c (no n) = Unit {0}
KeepsGood e c (yes k) = GoodRecord e (owned c k.kept) × Counted k.replies k.kept.profiles

-- where a car's own record stands: 8, then 11
unfoldable pub own_place : State → Found → Checked ℕ
own_place Unmatched p = no 8
own_place (Matching a) (found.Own i) = yes i
own_place (Matching a) (found.Free i) = no 11
own_place (Matching a) found.Nothing = no 11
own_place (Joining l c run) p = no 8
own_place (Matched c) p = no 8

-- car c's record back at place i, and its replies
abbrev pub settled : Station → ℕ → CarAddress → Checked Kept → Checked Done
settled s i c x = and_then x (λ (k : Kept). yes (done s.state (set s.records i (owned c k.kept)) (frames_to s.config c k.replies) Nothing))

-- MATCH.REQ in Matching
abbrev pub join_rule : Station → CarAddress → RunId → List ℕ → List ℕ → Checked Done
join_rule s c run a b =
    and_then (match_rule run (mine c s.records))
    (λ (x : Unit {0}). yes (confirmed s.config (Joining joining_time c run) (map freed s.records) c run a b))
