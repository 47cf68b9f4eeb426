-- No call writes more than the least output, so the 32 binary digits of an answer's octets are their whole number.
use Prim.Native.Nat.{ℕ, zero, suc, ◌+◌, ◌*◌, ◌-◌, ◌≤◌}
use mathlib.Core.Path.{◌≡◌, refl, sym, ap, subst, ◌∙◌}
use mathlib.Core.Bool.{Bool, true, false, not, ◌&&◌}
use mathlib.Core.List.{List, [], ◌∷◌, ◌++◌, map}
use native.Mathlib.Omega.{arith}
use lib.Dec.{eqb, leb, ltb}
use lib.ListN.{length, take, length-append, length-map, length-replicate, length-take}
use Rattle.messages.specs.declared.CarAddress.{CarAddress}
use Rattle.messages.specs.declared.Edition.{Edition}
use Rattle.messages.specs.declared.RunId.{RunId}
use Rattle.messages.specs.Layout.{Field, is, number, such, low, free, octets, reserved, Values, size, encode}
use Rattle.octets.specs.Octets.{bytes, low_bytes}
use Rattle.messages.specs.Reading.{Checked, no, yes, beside_of, read_rules}
use Rattle.messages.specs.Table.{Message, atten_char_ind, slac_match_req, group_count, id_octets, type_of, head, payload, filled_size, written_size}
use Rattle.messages.specs.Writing as writing
use Rattle.messages.specs.Writing.{head_octets, payload_octets, padding}
use Rattle.octets.proofs.OctetLaws.{length_bytes, length_low}
use Rattle.rules.specs.declared.Configuration.{Configuration}
use Rattle.rules.specs.declared.Phase.{Phase}
use Rattle.rules.specs.declared.Phase.TheVariants.{Asked, Sounding, Reported, Awaiting, Ready, Counting, Success}
use Rattle.rules.specs.declared.Record.{Record}
use Rattle.rules.specs.declared.Turn.{Turn}
use Rattle.rules.specs.declared.State.{State}
use Rattle.rules.specs.declared.State.TheVariants.{Unmatched, Matching, Joining, Matched}
use Rattle.rules.specs.Calls.{Call, frame, tick, pilot, terminate, link_up}
use Rattle.ends.specs.Constants.{joining_time}
use Rattle.rules.specs.Constants.{record_count, least_output}
use Rattle.rules.specs.Events.{plugged, is_b, ended, pilot_done, link_rule}
use Rattle.rules.specs.Validation.{first_result, turn}
use Rattle.rules.specs.Frames.{Kept, Change, put_back, start_rule, sound_rule, profile_rule, rsp_rule, first_rule, second_rule, at_own, at_run, requested, parm_rule, change_rule, match_rule, changed, confirmed, state_rule, admitted}
use Rattle.ends.specs.Lists.{All, only, joins}
use Rattle.ends.specs.Outcomes.{Outcome, frames_of, joined, and_then, outcome_of}
use Rattle.rules.specs.Received.{RecordMessage, parm_req, start, sound, profile, rsp, validate_first, validate_second, Request, for_record, match_req, map_req, Received, received}
use Rattle.rules.specs.Records.{same_car, same_run, is_empty, is_held, holds, mine, free_places, freed, groups_kept, counted}
use Rattle.rules.specs.Replies.{Reply, parm_cnf, match_cnf, report, confirmation, is_report, is_confirmation, mean, report_of, message_to, frame_to, frames_to, map_cnf_to}
use Rattle.rules.specs.Rules.{rule, outcome}
use Rattle.rules.specs.Stations.{Shared, Inner, shared, inner, Done}
use Rattle.rules.specs.Ticks.{tick_elapsed, window_ends, tick_phase, replies_of, tick_frames, frames_of_all, all_frames, admission_done, joining_done, tick_done}
use Rattle.ends.proofs.ListLaws.{all_only, joins_append}
use Rattle.ends.proofs.Logic.{split, OnYes, on_check}
use Rattle.messages.proofs.FrameLaws.{slac_match_req_ids, stands_read}
use Rattle.messages.proofs.WriteLaws.{whole_none}
use Rattle.rules.specs.FromOctets.{Holds}
use Rattle.rules.proofs.RuleLaws.{on_own, on_run, on_map}
use Rattle.amplitude.specs.Writing as map_writing
use Rattle.amplitude.proofs.WriteLaws.{length_frame}
use Rattle.receiving.specs.Maps as maps
use Rattle.rules.proofs.PhaseLaws.{on_start, on_sound, on_profile, on_rsp, on_first, on_second}
use Rattle.rules.proofs.ReceivedLaws.{admitted_values}
use Rattle.rules.proofs.SpreadLaws.{merged_length}
use Rattle.words.specs.Words.{station_of}
use Rattle.words.proofs.Meant.{sums_few}
use Rattle.words.proofs.RecordWords.{length_records}
use Rattle.lahzavar.specs.Answers.{answered}

-- ---- the length of a frame

-- how many octets a layout takes at most, by the runs of octets among its values
abbrev room_of : (fs : List Field) → Values fs → ℕ
room_of [] vs = 0
room_of (is n v ∷ fs) vs = n + room_of fs vs
room_of (number n ∷ fs) vs = n + room_of fs vs.1
room_of (such n p ∷ fs) vs = n + room_of fs vs.1
room_of (low n b ∷ fs) vs = n + room_of fs vs.1
room_of (free n b ∷ fs) vs = length vs.0 + room_of fs vs.1
room_of (octets n z ∷ fs) vs = length vs.0 + room_of fs vs.1
room_of (reserved n ∷ fs) vs = n + room_of fs vs

encode_short : (fs : List Field) (vs : Values fs) → length (encode fs vs) ≤ room_of fs vs
encode_short [] vs = omega arith
encode_short (is n v ∷ fs) vs = omega (arith, length-append (bytes n v) (encode fs vs), length_bytes n v, encode_short fs vs)
encode_short (number n ∷ fs) vs = omega (arith, length-append (bytes n vs.0) (encode fs vs.1), length_bytes n vs.0, encode_short fs vs.1)
encode_short (such n p ∷ fs) vs = omega (arith, length-append (bytes n vs.0) (encode fs vs.1), length_bytes n vs.0, encode_short fs vs.1)
encode_short (low n b ∷ fs) vs = omega (arith, length-append (low_bytes n vs.0) (encode fs vs.1), length_low n vs.0, encode_short fs vs.1)
encode_short (free n b ∷ fs) vs = omega (arith, length-append vs.0 (encode fs vs.1), encode_short fs vs.1)
encode_short (octets n z ∷ fs) vs = omega (arith, length-append (take n vs.0) (encode fs vs.1), length-take n vs.0, encode_short fs vs.1)
encode_short (reserved n ∷ fs) vs = omega (arith, length-append (bytes n 0) (encode fs vs), length_bytes n 0, encode_short fs vs)

frame_short : (m : Message) → length (writing.frame m) ≤ size head + (room_of (payload m.edition m.kind m.count m.dst m.src) m.values + (written_size m.kind m.count - filled_size m.kind m.count))
unfolding writing.frame
frame_short m = omega (
  arith,
  length-append (head_octets m) (payload_octets m ++ padding m.kind m.count),
  length-append (payload_octets m) (padding m.kind m.count),
  encode_short head (m.dst, (m.src, (type_of m.kind, tt))),
  encode_short (payload m.edition m.kind m.count m.dst m.src) m.values,
  length-replicate {A = ℕ} (written_size m.kind m.count - filled_size m.kind m.count) 0,
)

-- ---- replies

abbrev report_size : ℕ
report_size = written_size atten_char_ind group_count

-- two identifiers, neither longer than one is
abbrev ShortIds : List ℕ → List ℕ → Type 0
ShortIds a b = (length a ≤ id_octets) × (length b ≤ id_octets)

-- a report has a value for each group at most
abbrev Fits : Reply → Type 0
Fits (parm_cnf later run) = Unit {0}
Fits (match_cnf run a b) = ShortIds a b
Fits (report run n g vs) = length vs ≤ group_count
Fits (confirmation k x) = Unit {0}

-- one reply at most
abbrev One : List Reply → Type 0
One [] = Unit {0}
One (t ∷ []) = Fits t
One (t ∷ (u ∷ ts)) = ⊥

module _ (o : Configuration) (c : CarAddress) where
  reply_short : (t : Reply) → Fits t → length (frame_to o c t) ≤ report_size
  unfolding frame_to
  reply_short (parm_cnf later run) h = omega (arith, frame_short (message_to o c (parm_cnf later run)))
  reply_short (match_cnf run a b) h = omega (arith, frame_short (message_to o c (match_cnf run a b)))
  reply_short (report run n g vs) h = omega (arith, frame_short (message_to o c (report run n g vs)), whole_none.first)
  reply_short (confirmation k x) h = omega (arith, frame_short (message_to o c (confirmation k x)))

  replies_short : (ts : List Reply) → One ts → length (joined (frames_to o c ts)) ≤ report_size
  unfolding joins
  replies_short [] h = omega arith
  replies_short (t ∷ []) h = omega (arith, length-append (frame_to o c t) [], reply_short t h)
  replies_short (t ∷ (u ∷ ts)) h = absurd h

  -- reports and confirmations among them, side by side
  sorts_short : (ts : List Reply) → One ts → length (joined (frames_to o c (only is_report ts))) + length (joined (frames_to o c (only is_confirmation ts))) ≤ report_size
  unfolding joins only is_report is_confirmation
  sorts_short [] h = omega arith
  sorts_short (parm_cnf later run ∷ []) h = omega arith
  sorts_short (match_cnf run a b ∷ []) h = omega arith
  sorts_short (report run n g vs ∷ []) h = omega (arith, replies_short (report run n g vs ∷ []) h)
  sorts_short (confirmation k x ∷ []) h = omega (arith, replies_short (confirmation k x ∷ []) h)
  sorts_short (t ∷ (u ∷ ts)) h = absurd h

-- a record with a sum for each group at most
abbrev Sums : Record → Type 0
Sums r = length r.sums ≤ group_count

report_fits : (r : Record) → Sums r → Fits (report_of r)
unfolding report_of
report_fits r h = omega (arith, length-map r.sums (mean r.profiles))

-- ---- a tick

-- what the end of a window sends
window_one : (g : Bool) (k : ℕ) (r : Record) → One (replies_of (window_ends g k r))
unfolding window_ends replies_of
window_one true k r = tt
window_one false k r = tt

-- what a tick sends of one record
tick_one : (b : Bool) (e : ℕ) (r : Record) → Sums r → (p : Phase) → One (replies_of (tick_phase b e r p))
unfolding tick_phase replies_of
tick_one b e r h (Asked t) = split (leb t e) (λ a. rw a tt) (λ a. rw a tt)
tick_one b e r h (Sounding t) = split (leb t e)
    (λ a. rw a (split (eqb r.profiles 0) (λ g. rw g tt) (λ g. rw g (report_fits r h))))
    (λ a. rw a tt)
tick_one b e r h (Reported t n) = split (leb t e)
    (λ a. rw a (split (eqb n 0) (λ g. rw g tt) (λ g. rw g (report_fits r h))))
    (λ a. rw a tt)
tick_one b e r h (Awaiting t) = split (leb t e) (λ a. rw a tt) (λ a. rw a tt)
tick_one b e r h (Ready t) = split (leb t e) (λ a. rw a tt) (λ a. rw a tt)
tick_one b e r h (Counting t k g) = split (leb t e) (λ a. rw a (window_one b k r)) (λ a. rw a tt)
tick_one b e r h (Success t) = split (leb t e) (λ a. rw a tt) (λ a. rw a tt)

module _ (o : Configuration) (b : Bool) (e : ℕ) where
  record_short : (r : Record) → Sums r → length (joined (tick_frames is_report o b e r)) + length (joined (tick_frames is_confirmation o b e r)) ≤ report_size
  unfolding tick_frames joins
  record_short r h = split (is_held r)
      (λ g. rw g (sorts_short o r.car (replies_of (tick_phase b e r r.phase)) (tick_one b e r h r.phase)))
      (λ g. rw g (omega arith))

  -- one record more, of one sort
  more : (p : Reply → Bool) (r : Record) (rs : List Record) → length (joined (frames_of_all p o b e (r ∷ rs))) ≡ length (joined (tick_frames p o b e r)) + length (joined (frames_of_all p o b e rs))
  unfolding joins
  more p r rs = ap length (joins_append (λ (f : List ℕ). f) (tick_frames p o b e r) (frames_of_all p o b e rs)) ∙ length-append (joined (tick_frames p o b e r)) (joined (frames_of_all p o b e rs))

  both_short : (rs : List Record) → All Sums rs → length (joined (frames_of_all is_report o b e rs)) + length (joined (frames_of_all is_confirmation o b e rs)) ≤ report_size * length rs
  unfolding joins
  both_short [] h = omega arith
  both_short (r ∷ rs) h = omega (arith, more is_report r rs, more is_confirmation r rs, record_short r h.0, both_short rs h.1)

  frames_short : (rs : List Record) → All Sums rs → length (joined (all_frames o b e rs)) ≤ report_size * length rs
  unfolding all_frames
  frames_short rs h =
      let x = frames_of_all is_report o b e rs in
      let y = frames_of_all is_confirmation o b e rs in
      omega (arith, both_short rs h, ap length (joins_append (λ (f : List ℕ). f) x y), length-append (joined x) (joined y))

-- ---- a frame at its car's record

abbrev OneKept : Kept → Type 0
OneKept k = One k.replies

abbrev OneChange : Change → Type 0
OneChange x = One x.replies

counted_sums : (g : ℕ) (vs : List ℕ) (r : Record) → Sums r → Sums (counted g vs r)
unfolding counted
counted_sums g vs r h = omega (arith, merged_length ◌+◌ r.sums vs)

profile_one : (e : Edition) (g : ℕ) (vs : List ℕ) (r : Record) → Sums r → OnYes OneKept (profile_rule e g vs r r.phase)
profile_one e g vs r h = on_profile OneKept e r g vs r.phase (λ t q f a. report_fits (counted (groups_kept e g) vs r) (counted_sums (groups_kept e g) vs r h)) (λ t q f a. tt)

back_one : (w : Checked Kept) → OnYes OneKept w → OnYes OneChange (put_back w)
back_one (no n) h = tt
back_one (yes k) h = h

parm_one : (e : Edition) (c : CarAddress) (run : RunId) (a n : ℕ) (own : List Record) → OnYes OneChange (parm_rule e c run a n own)
unfolding parm_rule requested
parm_one e c run a n (r ∷ own) = tt
parm_one e c run a n [] = on_check OneChange (ltb 0 a) 9 _ (λ g. on_check OneChange (ltb 0 n) 10 _ (λ h. tt))

change_one : (e : Edition) (c : CarAddress) (m : RecordMessage) (a n x : ℕ) (own : List Record) → All Sums own → OnYes OneChange (change_rule e c m a n x own)
unfolding change_rule
change_one e c (parm_req run) a n x own g = on_check OneChange (not (is_empty run)) 21 _ (λ q. parm_one e c run a n own)
change_one e c (start run k) a n x own g = back_one (at_run run own (λ (r : Record). start_rule e k r r.phase)) (on_run OneKept run own (λ (r : Record). start_rule e k r r.phase) (λ r rs q. on_start OneKept e r k r.phase (λ t p. tt) (λ t p. tt)))
change_one e c (sound run k) a n x own g = back_one (at_run run own (λ (r : Record). sound_rule e k r r.phase)) (on_run OneKept run own (λ (r : Record). sound_rule e k r r.phase) (λ r rs q. on_sound OneKept e r k r.phase (λ b d. tt)))
change_one e c (profile k vs) a n x own g = back_one (at_own own (λ (r : Record). profile_rule e k vs r r.phase)) (on_own OneKept own (λ (r : Record). profile_rule e k vs r r.phase) (λ r rs q. profile_one e k vs r (subst (All Sums) q g).0))
change_one e c (rsp run) a n x own g = back_one (at_run run own (λ (r : Record). rsp_rule r r.phase)) (on_run OneKept run own (λ (r : Record). rsp_rule r r.phase) (λ r rs q. on_rsp OneKept e r r.phase (λ t k p. tt)))
change_one e c validate_first a n x own g = back_one (at_own own (λ (r : Record). first_rule x r r.phase)) (on_own OneKept own (λ (r : Record). first_rule x r r.phase) (λ r rs q. on_first OneKept e r x r.phase (λ t p. tt)))
change_one e c (validate_second k) a n x own g = back_one (at_own own (λ (r : Record). second_rule k r r.phase)) (on_own OneKept own (λ (r : Record). second_rule k r r.phase) (λ r rs q. on_second OneKept e r k r.phase (λ t p. tt)))

-- ---- the identifiers of a request

module _ (e : Edition) (s : List ℕ) (m : Message) (q : read_rules e s ≡ yes m) (k : m.kind ≡ slac_match_req) where
  ids_short : ShortIds (beside_of (yes m)).first (beside_of (yes m)).second
  ids_short = (
    subst (λ (l : List ℕ). length l ≤ id_octets) (stands_read e s m m.count refl (sym q) slac_match_req_ids.0 k ∙ ap (λ (x : Checked Message). (beside_of x).first) q) (rw length-take (omega arith)),
    subst (λ (l : List ℕ). length l ≤ id_octets) (stands_read e s m m.count refl (sym q) slac_match_req_ids.1 k ∙ ap (λ (x : Checked Message). (beside_of x).second) q) (rw length-take (omega arith)),
  )

-- what a request has: identifiers that are short
abbrev ShortRequest : Request → Type 0
ShortRequest m = Holds (λ (g : ℕ) (vs : List ℕ). Unit {0}) (λ (t : ℕ). Unit {0}) ShortIds m

admitted_short : (o : Configuration) (room : ℕ) (s : List ℕ) → OnYes (λ (y : Received). ShortRequest y.request) (admitted o room (received o.edition s))
admitted_short o room s = admitted_values (λ (g : ℕ) (vs : List ℕ). Unit {0}) (λ (t : ℕ). Unit {0}) ShortIds o.edition o room s (λ m q. (λ k. tt, (λ k. tt, λ k. ids_short o.edition s m q k)))

-- ---- the calls

abbrev Little : Done → Type 0
Little d = length (joined d.sent.frames) ≤ least_output

on_then : {A B : Type 0} (P : A → Type 0) (Q : B → Type 0) (w : Checked A) (f : A → Checked B) → OnYes P w → ((x : A) → P x → OnYes Q (f x)) → OnYes Q (and_then w f)
on_then P Q (no n) f h k = tt
on_then P Q (yes x) f h k = k x h

-- what holds of every answer
any : {A : Type 0} (w : Checked A) → OnYes (λ (x : A). Unit {0}) w
any (no n) = tt
any (yes x) = tt

replies_little : (o : Configuration) (c : CarAddress) (ts : List Reply) → One ts → length (joined (frames_to o c ts)) ≤ least_output
replies_little o c ts h = omega (arith, replies_short o c ts h)

-- AMP_MAP.CNF has 60 octets
map_little : (o : Configuration) (c : CarAddress) → length (joined (map_cnf_to o c ∷ [])) ≤ least_output
unfolding map_cnf_to joins
map_little o c = omega (arith, length-append (map_writing.frame (maps.confirmation o c)) [], length_frame (maps.confirmation o c))

state_little : (o : Configuration) (st : State) (rs : List Record) (c : CarAddress) (m : Request) → ShortRequest m → All Sums rs → OnYes Little (state_rule o st rs c m)
unfolding state_rule
state_little o Unmatched rs c m d g = tt
state_little o (Matching a) rs c (for_record m) d g =
    on_then OneChange Little (change_rule o.edition c m a (free_places rs) (first_result o.exempt rs) (mine c rs)) (λ (x : Change). yes (changed o (Matching a) rs c x))
    (change_one o.edition c m a (free_places rs) (first_result o.exempt rs) (mine c rs) (all_only Sums (holds c) rs g)) (λ x h. replies_little o c x.replies h)
state_little o (Matching a) rs c (match_req run p q) d g =
    on_then (λ (x : Unit {0}). Unit {0}) Little (match_rule run (mine c rs)) (λ (x : Unit {0}). yes (confirmed o (Joining joining_time c run) (map freed rs) c run p q))
    (any (match_rule run (mine c rs))) (λ x h. replies_little o c (match_cnf run p q ∷ []) d)
state_little o (Matching a) rs c (map_req n) d g = tt
state_little o (Joining l u k) rs c (for_record m) d g = tt
state_little o (Joining l u k) rs c (match_req run p q) d g = on_check Little (same_car c u && same_run run k) 11 (yes (confirmed o (Joining l u k) rs c run p q)) (λ e. replies_little o c (match_cnf run p q ∷ []) d)
state_little o (Joining l u k) rs c (map_req n) d g = tt
state_little o (Matched u) rs c (for_record m) d g = tt
state_little o (Matched u) rs c (match_req run p q) d g = tt
state_little o (Matched u) rs c (map_req n) d g = on_map Little o u rs c n (map_little o c)

admission_little : (a : ℕ) (b : Bool) (rs : List Record) (fs : List (List ℕ)) → length (joined fs) ≤ least_output → Little (admission_done a b rs fs)
unfolding admission_done
admission_little zero true rs fs h = h
admission_little zero false rs fs h = h
admission_little (suc a) b rs fs h = h

joining_little : (b : Bool) (l : ℕ) (c : CarAddress) (run : RunId) (rs : List Record) → Little (joining_done b l c run rs)
unfolding joining_done joins
joining_little true l c run rs = omega arith
joining_little false l c run rs = omega arith

tick_little : (o : Configuration) (b : Bool) (e : ℕ) (st : State) (rs : List Record) → All Sums rs → length rs ≡ record_count → Little (tick_done o b e st rs)
unfolding tick_done joins
tick_little o b e Unmatched rs g n = omega arith
tick_little o b e (Matching a) rs g n = admission_little _ _ _ _ (omega (arith, frames_short o b e rs g))
tick_little o b e (Joining l c run) rs g n = joining_little _ _ c run rs
tick_little o b e (Matched c) rs g n = omega arith

pilot_little : (a b : Bool) (w : Turn) (i : Inner) → Little (pilot_done a b w i)
unfolding pilot_done joins
pilot_little true true w i = omega arith
pilot_little true false w i = omega arith
pilot_little false true w i = omega arith
pilot_little false false w i = omega arith

link_little : (st : State) (rs : List Record) → OnYes Little (link_rule st rs)
unfolding link_rule joins
link_little Unmatched rs = tt
link_little (Matching a) rs = tt
link_little (Joining l c run) rs = omega arith
link_little (Matched c) rs = tt

rule_little : (o : Shared) (i : Inner) (x : Call) → All Sums i.records → length i.records ≡ record_count → OnYes Little (rule o i x)
unfolding rule joins
rule_little o i (frame s room) g n =
    on_then (λ (y : Received). ShortRequest y.request) Little (admitted o.config room (received o.config.edition s)) (λ (y : Received). state_rule o.config i.state i.records y.car y.request)
    (admitted_short o.config room s) (λ y h. state_little o.config i.state i.records y.car y.request h g)
rule_little o i (tick t room) g n =
    on_then (λ (e : ℕ). Unit {0}) Little (tick_elapsed o t room) (λ (e : ℕ). yes (tick_done o.config (is_b o.pilot) e i.state i.records))
    (any (tick_elapsed o t room)) (λ e h. tick_little o.config (is_b o.pilot) e i.state i.records g n)
rule_little o i (pilot p t) g n = on_check Little o.config.good 16 (yes (pilot_done (plugged o.pilot) (plugged p) (turn o.pilot p) i)) (λ e. pilot_little (plugged o.pilot) (plugged p) (turn o.pilot p) i)
rule_little o i terminate g n = on_check Little o.config.good 16 (yes (ended i)) (λ e. omega arith)
rule_little o i link_up g n = on_check Little o.config.good 16 (link_rule i.state i.records) (λ e. link_little i.state i.records)

outcome_little : (w : Checked Done) → OnYes Little w → length (joined (frames_of (outcome_of w))) ≤ least_output
unfolding joins
outcome_little (no n) h = omega arith
outcome_little (yes d) h = h

-- a call on a lent station writes no more than the least output
pub octets_fit : (w s z : List ℕ) (x : Call) → length (joined (frames_of (outcome (station_of w s z) x))) ≤ least_output
unfolding outcome station_of
octets_fit w s z x = outcome_little (rule (shared (station_of w s z)) (inner (station_of w s z)) x) (rule_little (shared (station_of w s z)) (inner (station_of w s z)) x (sums_few w s z) (length_records w s z))

said_exact : (o : Outcome) → length (joined (frames_of o)) ≤ least_output → (answered o).octets ≡ length (joined (frames_of o))
unfolding joins
said_exact (no n) h = refl
said_exact (yes x) h = omega arith

-- the answer's octets are their whole number
pub octets_exact : (w s z : List ℕ) (x : Call) → (answered (outcome (station_of w s z) x)).octets ≡ length (joined (frames_of (outcome (station_of w s z) x)))
octets_exact w s z x = said_exact (outcome (station_of w s z) x) (octets_fit w s z x)
