-- What an event comes to at either end, from what its call or its query gives, and its reply.
use Prim.Native.Nat.{ℕ, ◌+◌, ◌-◌, ◌≤◌}
use mathlib.Core.Path.{◌≡◌, refl, sym, ap, ap₂, ◌∙◌, subst}
use mathlib.Core.List.{List, [], ◌++◌}
use native.Mathlib.Omega.{arith}
use borrow.Rule.Slice.PartMut.{put_mid}
use lib.ListN.{length, take, drop, length-append}
use Rattle.octets.specs.Octets.{splice}
use Rattle.messages.specs.Reading.{Checked, no, yes}
use Rattle.std.specs.Prelude.{Result}
use Rattle.messages.specs.declared.Refusal.{Refusal}
use Rattle.ends.specs.declared.Done.{Done}
use Rattle.ends.specs.Answers.{Summary, answer_of, summary, indication_number}
use Rattle.ends.specs.Lists.{joins}
use Rattle.ends.specs.Outcomes.{Outcome, frames_of, joined}
use Rattle.ends.specs.Sending.{Says}
use Rattle.rules.specs.Answers as station
use Rattle.rules.specs.Calls as station_calls
use Rattle.rules.specs.Invariant as station_kept
use Rattle.rules.specs.Rules as station_rules
use Rattle.rules.specs.declared.Station.{Station}
use Rattle.rules.specs.declared.Stepped as station_stepped
use Rattle.car_rules.specs.Answers as car
use Rattle.car_rules.specs.Calls as car_calls
use Rattle.car_rules.specs.Invariant as car_kept
use Rattle.car_rules.specs.Rules as car_rules
use Rattle.car_rules.specs.declared.Car.{Car}
use Rattle.car_rules.specs.declared.Stepped as car_stepped
use Rattle.script.specs.Events.{most_octets}
use Rattle.script.specs.Replies.{reply_octets, longest_reply, call_reply}
use Rattle.script.specs.Ends.{CarriedOut}
use Rattle.script.specs.Private.{RoomReady, head_of, frame_octets, Fits, Answered}
use Rattle.script.proofs.OutputLaws.{length_head, splice_front, part_length, splice_part, splice_none}

-- ---- a call's reply

-- a reply to a call is its first octets and its frames
reply_parts : (y : Outcome) → head_of (summary y) ++ joined (frames_of y) ≡ call_reply y
unfolding joins
reply_parts (no n) = refl
reply_parts (yes x) = refl

head_length : (y : Outcome) → length (head_of (summary y)) ≡ reply_octets
head_length (no n) = length_head n 0 0
head_length (yes x) = length_head 0 (indication_number x.indication) (length (joined x.frames))

frames_length : (y : Outcome) → frame_octets (summary y) ≡ length (joined (frames_of y))
unfolding joins
frames_length (no n) = refl
frames_length (yes x) = refl

-- ---- a call

-- what a call gives that is lent an output: it leaves s, and a is the answer to its outcome y
pub record Gives {S : Type 0} (Kept : S → Type 0) (last : S) (y : Outcome) (entry exit : List ℕ) (s : S) (a : Result Done Refusal) : Type 0 where
  pub left : s ≡ last
  pub answer : answer_of a ≡ summary y
  pub octets : exit ≡ splice 0 (joined (frames_of y)) entry
  pub kept : Kept s

-- the calls of a station and of a car
pub of_station : {s : Station} {x : station_calls.Call} {entry exit : List ℕ} {t : station_stepped.Stepped} → station.Answers s x entry exit t → Gives station_kept.Invariant (station_rules.step s x) (station_rules.outcome s x) entry exit t.station t.answer
of_station h = record { left = h.station; answer = h.answer; octets = h.octets; kept = h.kept }

pub of_car : {c : Car} {x : car_calls.Call} {entry exit : List ℕ} {t : car_stepped.Stepped} → car.Answers c x entry exit t → Gives car_kept.Invariant (car_rules.step c x) (car_rules.outcome c x) entry exit t.car t.answer
of_car h = record { left = h.car; answer = h.answer; octets = h.octets; kept = h.kept }

-- what changes no station
pub of_said : {s : Station} {y : Outcome} {entry exit : List ℕ} {a : Result Done Refusal} → station_kept.Invariant s → Says y entry exit a → Gives station_kept.Invariant s y entry exit s a
of_said k h = record { left = refl; answer = h.answer; octets = h.octets; kept = k }

module _ {S : Type 0} {Kept : S → Type 0} {last t : S} {y : Outcome} {part back : List ℕ} {a : Result Done Refusal} (g : Gives Kept last y part back t a) where
  -- the frames fit in the part that was lent
  frames_fit : length back ≡ length part → length (joined (frames_of y)) ≤ length part
  unfolding splice
  frames_fit same = omega (arith, simp length-append at (ap length g.octets))

  -- the reply fits
  fits : {mid : List ℕ} → length back ≡ length part → length part ≤ most_octets → longest_reply ≤ length mid → Fits (answer_of a) mid
  fits same few long =
      let n : frame_octets (answer_of a) ≡ length (joined (frames_of y)) = ap frame_octets g.answer ∙ frames_length y in
      record { frames = omega (arith, n, frames_fit same); output = long }

  -- the frames stand behind the reply's first octets
  replied : {d mid exit : List ℕ} {s : S} {n : ℕ} → longest_reply ≤ length d → mid ≡ splice reply_octets (joined (frames_of y)) d → (s ≡ t) × Answered (answer_of a) mid exit n → CarriedOut Kept last (call_reply y) d exit s n
  replied {d} {mid} long m (e, h) = record {
    left = e ∙ g.left;
    octets =
        h.octets
        ∙ ap (λ (w : Checked Summary). reply_octets + frame_octets w) g.answer
        ∙ ap₂ (λ (i j : ℕ). i + j) (sym (head_length y)) (frames_length y)
        ∙ sym (length-append (head_of (summary y)) (joined (frames_of y)))
        ∙ ap length (reply_parts y);
    output =
        h.output
        ∙ ap (λ (w : Checked Summary). splice 0 (head_of w) mid) g.answer
        ∙ splice_front d mid (joined (frames_of y)) (head_of (summary y)) reply_octets (head_length y) (omega arith) m
        ∙ ap (λ (w : List ℕ). splice 0 w d) (reply_parts y);
    kept = subst Kept (sym e) g.kept;
  }

-- a call that is lent no output leaves one as it is
module _ {S : Type 0} {Kept : S → Type 0} {last t : S} {y : Outcome} {a : Result Done Refusal} (d : List ℕ) (g : Gives Kept last y [] [] t a) where
  none_put : d ≡ splice 0 (joined (frames_of y)) d
  none_put = splice_none d (joined (frames_of y)) 0 (let z : length (joined (frames_of y)) ≡ 0 = omega (arith, frames_fit g refl) in z)

pub station_alone : {s : Station} {x : station_calls.Call} {d : List ℕ} {t : station_stepped.Stepped} → station.Answers s x [] [] t → station.Answers s x d d t
station_alone {d = d} h = record { station = h.station; answer = h.answer; octets = none_put d (of_station h); kept = h.kept }

pub car_alone : {c : Car} {x : car_calls.Call} {d : List ℕ} {t : car_stepped.Stepped} → car.Answers c x [] [] t → car.Answers c x d d t
car_alone {d = d} h = record { car = h.car; answer = h.answer; octets = none_put d (of_car h); kept = h.kept }

-- the part of an output behind a reply's first octets that a room lends
abbrev pub behind : ℕ → List ℕ → List ℕ
behind room d = take (reply_octets + room - reply_octets) (drop reply_octets d)

-- it is as long as the room
pub behind_length : {K : Type 0} {room : ℕ} {d : List ℕ} → RoomReady K room d → length (behind room d) ≡ room
behind_length {room = room} {d = d} r = part_length d reply_octets (reply_octets + room - reply_octets) (omega arith) ∙ omega arith

-- a call that is lent that part
module _ {S : Type 0} {Kept : S → Type 0} {K : Type 0} {last t : S} {y : Outcome} {room : ℕ} {d back : List ℕ} {a : Result Done Refusal} (r : RoomReady K room d) (g : Gives Kept last y (behind room d) back t a) (same : length back ≡ length (behind room d)) where
  -- its reply fits
  pub lent_fits : {mid : List ℕ} → longest_reply ≤ length mid → Fits (answer_of a) mid
  lent_fits = fits g same (omega (arith, behind_length r))

  -- its frames stand in that part
  pub lent : {exit : List ℕ} {s : S} {n : ℕ} → (s ≡ t) × Answered (answer_of a) (put_mid reply_octets (reply_octets + room - reply_octets) d back) exit n → CarriedOut Kept last (call_reply y) d exit s n
  lent = replied g r.ready.output (splice_part d (joined (frames_of y)) back reply_octets (reply_octets + room - reply_octets) (omega arith) g.octets same)
