-- The loop over the records that sends their confirmations: its steps.
use Prim.Native.Nat.{ℕ, ◌+◌, ◌*◌, ◌-◌, ◌≤◌, ◌<◌}
use mathlib.Core.Path.{◌≡◌, sym, ap, ◌∙◌, subst}
use mathlib.Core.Bool.{Bool}
use mathlib.Core.List.{List, [], ◌∷◌}
use native.Mathlib.Omega.{arith}
use lib.ListN.{length, take, drop, get_or}
use borrow.Rule.Slice.PartMut.{put_mid}
use Rattle.messages.specs.Table.{result_limit}
use Rattle.rules.specs.declared.Configuration.{Configuration}
use Rattle.rules.specs.declared.Record.{Record}
use Rattle.ends.specs.Lists.{only}
use Rattle.rules.specs.Replies.{confirmation, is_confirmation, frame_to, frames_to}
use Rattle.rules.specs.Ticks.{tick_frames}
use Rattle.rules.specs.Invariant.{GoodRecord}
use Rattle.ends.proofs.ListLaws.{all_at}
use Rattle.records.specs.declared.validation.Confirmation.{Confirmation}
use Rattle.std.specs.Prelude.{Option, None, Some}
use Rattle.records.specs.Timers.{any_sent, tick_replies}
use Rattle.records.specs.Validation.{confirmation_of}
use Rattle.records.proofs.TimerLaws.{frames_sent, sending_held}
use Rattle.records.proofs.ValidationLaws.{result_limited}
use Rattle.station.specs.Reports.{confirmation_size, Sendable, Writes, Confirmable}
use Rattle.station.proofs.SentLoopLaws.{Sending, send_quiet, send_room, part_room, send_one}

-- after i records of l: their confirmations are written over the output at entry
abbrev pub Confirming : Configuration → Bool → ℕ → List Record → List ℕ → List ℕ → ℕ → ℕ → Type 0
Confirming o b e l entry out k i = Sending (tick_frames is_confirmation o b e) confirmation_size l entry out k (confirmation_size * k) i

-- a turn: the record at i, and what the code found to confirm
module _ (o : Configuration) (b : Bool) (e : ℕ) (l : List Record) (entry out : List ℕ) (k i : ℕ) (w : Confirming o b e l entry out k i) (z : Record) (h : i < length l)
    (x : Option Confirmation) (ex : confirmation_of x ≡ only is_confirmation (tick_replies b e (get_or l i z))) where
  -- what it sends
  confirms : (y : Option Confirmation) → x ≡ y → tick_frames is_confirmation o b e (get_or l i z) ≡ frames_to o (get_or l i z).car (confirmation_of y)
  confirms y q = frames_sent is_confirmation o b e (get_or l i z) ∙ ap (frames_to o (get_or l i z).car) (sym ex ∙ ap confirmation_of q)

  -- nothing
  pub confirm_none : x ≡ None → Confirming o b e l entry out k (i + 1)
  confirm_none q = send_quiet (tick_frames is_confirmation o b e) confirmation_size l entry out k (confirmation_size * k) i w z h (confirms None q)

  -- toggles with a result
  module _ (ready : Confirmable o b e l entry) (y : Confirmation) (q : x ≡ Some y) where
    abbrev n : ℕ
    n = y.toggles

    abbrev m : ℕ
    m = y.result

    told : only is_confirmation (tick_replies b e (get_or l i z)) ≡ confirmation n m ∷ []
    told = sym ex ∙ ap confirmation_of q

    -- they can be sent
    pub confirm_sendable : Sendable o (get_or l i z)
    confirm_sendable =
        let good : GoodRecord o.edition (get_or l i z) = all_at (GoodRecord o.edition) l i z ready.good h in
        record { address = ready.address; car = good.car (sending_held is_confirmation b e (get_or l i z) (ap any_sent told)); good = good }

    -- with a result that the message can have
    pub confirm_limited : m < result_limit
    confirm_limited = result_limited b e (get_or l i z) n m told

    -- and have room
    pub confirm_room : confirmation_size * k + confirmation_size ≤ length out
    confirm_room = send_room (tick_frames is_confirmation o b e) confirmation_size l entry out k (confirmation_size * k) i w z h _ (confirms _ q) ready.room

    pub confirm_part : confirmation_size ≤ length (take (length out - confirmation_size * k) (drop (confirmation_size * k) out))
    confirm_part = part_room (tick_frames is_confirmation o b e) confirmation_size l entry out k (confirmation_size * k) i w z h _ (confirms _ q) ready.room

    -- they were written
    pub confirm_one : (ys : List ℕ)
        → Writes confirmation_size (frame_to o (get_or l i z).car (confirmation n m)) (take (length out - confirmation_size * k) (drop (confirmation_size * k) out)) ys
        → length ys ≡ length (take (length out - confirmation_size * k) (drop (confirmation_size * k) out))
        → Confirming o b e l entry (put_mid (confirmation_size * k) (length out - confirmation_size * k) out ys) (k + 1) (i + 1)
    confirm_one ys wrote len =
        subst (λ (x : ℕ). Sending (tick_frames is_confirmation o b e) confirmation_size l entry (put_mid (confirmation_size * k) (length out - confirmation_size * k) out ys) (k + 1) x (i + 1)) (let one : confirmation_size * k + confirmation_size ≡ confirmation_size * (k + 1) = omega arith in one)
        (send_one (tick_frames is_confirmation o b e) confirmation_size l entry out k (confirmation_size * k) i w z h _ (confirms _ q) ready.room ys confirmation_size wrote (omega arith) len)
