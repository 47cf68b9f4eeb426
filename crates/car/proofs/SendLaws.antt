-- Sending: each of a car's messages can be written, and it stands in the output.
use Prim.Native.Nat.{ℕ, ◌-◌, ◌^◌, ◌<◌, ◌≤◌}
use mathlib.Core.Path.{◌≡◌, refl, sym, ap, ap₂, ◌∙◌, subst}
use mathlib.Core.Bool.{true, ◌&&◌}
use mathlib.Core.List.{List, [], ◌∷◌}
use native.Mathlib.Omega.{arith}
use lib.Dec.{eqb, ltb}
use lib.ListN.{length}
use Rattle.messages.specs.declared.Edition.TheVariants.{Iso}
use Rattle.messages.specs.declared.Message.{Message}
use Rattle.messages.specs.declared.Message.TheVariants.{StartAttenCharInd, AttenCharRsp, MnbcSoundInd, SlacMatchReq}
use Rattle.messages.specs.declared.StationAddress.{StationAddress}
use Rattle.messages.specs.Answers.{message_of}
use Rattle.octets.specs.Octets.{splice}
use Rattle.messages.specs.Reading.{Beside, no_beside}
use Rattle.messages.specs.Table as table
use Rattle.messages.specs.Table.{iso_attempt, is_unicast, broadcast}
use Rattle.messages.specs.Writing.{is_addressed, length_in}
use Rattle.messages.proofs.WriteLaws.{Typed, head_in, headed, whole_none, none_right}
use Rattle.std.specs.Prelude.{Result}
use Rattle.messages.specs.declared.Refusal.{Refusal}
use Rattle.ends.specs.declared.Done.{Done}
use Rattle.ends.specs.declared.Indication.{Indication}
use Rattle.ends.specs.Answers.{summary}
use Rattle.ends.specs.Outcomes.{Outcome, frames_of, joined}
use Rattle.ends.specs.Sending.{Sends, Writable}
use Rattle.ends.proofs.SendLaws.{sends_writable}
use Rattle.car_rules.specs.declared.Car.{Car}
use Rattle.car_rules.specs.declared.Stepped.{Stepped}
use Rattle.car_rules.specs.Constants.{start_count, frame_count, least_output}
use Rattle.car_rules.specs.Sending.{Sending, start, sound, rsp, match_req, message_from, frame_from, sounding_frame, done}
use Rattle.ends.proofs.Logic.{on_cond}
use Rattle.car.specs.Steps.{Gives, Ready, sent_by}
use Rattle.car.proofs.ComesLaws.{gives_as}

-- ---- what is sent

-- one frame, with zeros beside its numbers
pub one_sent : (c : Car) (m : Message) (b : Beside) (x : Indication) (entry exit : List ℕ) (a : Result Done Refusal) → b ≡ no_beside → Writable (message_of Iso m no_beside) (length entry) → Sends (message_of Iso m b) x entry exit a
    → Gives (sent_by c (message_of Iso m no_beside) x) entry exit (record { car = c; answer = a })
one_sent c m b x entry exit a e w h =
    let s : Sends (message_of Iso m no_beside) x entry exit a = subst (λ (y : Beside). Sends (message_of Iso m y) x entry exit a) e h in
    record {
      car = refl;
      answer = s.answer ∙ ap summary (sends_writable (message_of Iso m no_beside) entry w x);
      octets = s.octets ∙ ap (λ (u : Outcome). splice 0 (joined (frames_of u)) entry) (sends_writable (message_of Iso m no_beside) entry w x);
    }

-- it is the one that the rules name
pub sent_as : (c : Car) (m : table.Message) (s : Sending) (x : Indication) (entry exit : List ℕ) (r : Stepped) → m ≡ message_from c s → Gives (sent_by c m x) entry exit r → Gives (done c (s ∷ []) x) entry exit r
unfolding frame_from
sent_as c m s x entry exit r e g = gives_as (done c (s ∷ []) x) (sent_by c m x) entry exit r (sym (ap (λ (k : table.Message). sent_by c k x) e)) g

-- ---- each can be written

-- what the types of a car's numbers say
pub record Fits (c : Car) : Type 0 where
  pub run : c.run.0 < 2 ^ 64
  pub low : c.random.0 < 2 ^ 64
  pub high : c.random.1 < 2 ^ 64

module _ (c : Car) (f : Fits c) (out : List ℕ) (y : Ready c out) where
  -- by its addresses, its numbers and its length; none has an NID
  writable : (m : Message) → Typed m → (head_in Iso m no_beside).limited ≡ true → is_addressed (message_of Iso m no_beside) ≡ true → length_in (message_of Iso m no_beside) ≤ least_output → Writable (message_of Iso m no_beside) (length out)
  writable m t l a h = record {
    addressed = a;
    limited = sym ((headed Iso no_beside whole_none (head_in Iso m no_beside) m m refl t refl).limited a) ∙ l;
    room = omega (arith, h, y.room);
  }

  -- a message to all
  to_all_lem : is_unicast c.config.address.0 && eqb broadcast broadcast ≡ true
  to_all_lem = rw y.address

  -- Sounding's frames
  pub sounding_writable : (k : ℕ) → k < frame_count → Writable (message_from c (sounding_frame k)) (length out)
  sounding_writable k h =
      on_cond (λ (s : Sending). Writable (message_from c s) (length out)) (ltb k start_count) start (sound (frame_count - 1 - k))
      (λ b. writable (StartAttenCharInd c.config.address (record { 0 = iso_attempt }) c.run) f.run refl to_all_lem (omega arith))
      (λ b. writable (MnbcSoundInd c.config.address (frame_count - 1 - k) c.run c.random) (omega arith, f.run, f.low, f.high) (none_right Iso) to_all_lem (omega arith))

  module _ (s : StationAddress) (u : is_unicast s.0 ≡ true) where
    -- a message to a station
    to_station : is_unicast c.config.address.0 && is_unicast s.0 ≡ true
    to_station = rw (y.address, u)

    pub rsp_writable : Writable (message_from c (rsp s)) (length out)
    rsp_writable = writable (AttenCharRsp c.config.address s c.run) f.run (ap₂ ◌&&◌ (none_right Iso) (none_right Iso)) to_station (omega arith)

    pub match_req_writable : Writable (message_from c (match_req s)) (length out)
    match_req_writable = writable (SlacMatchReq c.config.address s c.run) f.run (ap₂ ◌&&◌ (none_right Iso) (none_right Iso)) to_station (omega arith)
