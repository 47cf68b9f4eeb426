-- Laws of replies: a frame to a car has its address as destination, so the replies to a car are those made for it.
use Prim.Native.Nat.{ℕ}
use mathlib.Core.Path.{◌≡◌, refl, ◌∙◌, ap, ap₂}
use mathlib.Core.Bool.{Bool, true, false}
use mathlib.Core.List.{List, [], ◌∷◌, ◌++◌}
use lib.Dec.{eqb}
use Rattle.messages.specs.declared.CarAddress.{CarAddress}
use Rattle.octets.specs.Octets.{value}
use Rattle.messages.specs.Table.{is_unicast}
use Rattle.messages.proofs.TableLaws.{unicast_lt}
use Rattle.messages.proofs.RoundTrips.{frame_destination}
use Rattle.rules.specs.declared.Configuration.{Configuration}
use Rattle.rules.specs.declared.Record.{Record}
use Rattle.ends.specs.Lists.{only, All, joins}
use Rattle.rules.specs.Records.{same_car, is_held, holds, mine}
use Rattle.rules.specs.Replies.{Reply, parm_cnf, match_cnf, report, confirmation, is_report, is_confirmation, message_to, frame_to, frames_to}
use Rattle.rules.specs.Ticks.{tick_phase, replies_of, tick_frames, frames_of_all, all_frames}
use Rattle.rules.specs.Demand3.{is_to}
use Rattle.ends.proofs.Logic.{split}
use Rattle.ends.proofs.ListLaws.{only_append}
use Rattle.rules.proofs.RecordLaws.{same_refl, same_eq, same_swap, holds_held, holds_same, not_same}

-- octets 0 to 5 of a reply are its car's address
reply_to_lem : (o : Configuration) (c : CarAddress) (t : Reply) → is_unicast c.0 ≡ true → value (frame_to o c t) 0 6 ≡ c.0
unfolding frame_to
reply_to_lem o c (parm_cnf later run) h = frame_destination (message_to o c (parm_cnf later run)) (unicast_lt c.0 h)
reply_to_lem o c (match_cnf run a b) h = frame_destination (message_to o c (match_cnf run a b)) (unicast_lt c.0 h)
reply_to_lem o c (report run n g vs) h = frame_destination (message_to o c (report run n g vs)) (unicast_lt c.0 h)
reply_to_lem o c (confirmation k x) h = frame_destination (message_to o c (confirmation k x)) (unicast_lt c.0 h)

to_same : (o : Configuration) (c d : CarAddress) (t : Reply) → is_unicast d.0 ≡ true → is_to c (frame_to o d t) ≡ same_car d c
unfolding is_to same_car
to_same o c d t h = ap (λ (k : ℕ). eqb k c.0) (reply_to_lem o d t h)

pub sent_own : (o : Configuration) (c : CarAddress) (ts : List Reply) → is_unicast c.0 ≡ true → only (is_to c) (frames_to o c ts) ≡ frames_to o c ts
unfolding only
sent_own o c [] h = refl
sent_own o c (t ∷ ts) h = rw (to_same o c c t h ∙ same_refl c) (ap (λ q. frame_to o c t ∷ q) (sent_own o c ts h))

pub sent_other : (o : Configuration) (c d : CarAddress) (ts : List Reply) → is_unicast d.0 ≡ true → same_car c d ≡ false → only (is_to c) (frames_to o d ts) ≡ []
unfolding only
sent_other o c d [] f h = refl
sent_other o c d (t ∷ ts) f h = rw (to_same o c d t f ∙ same_swap c d h) (sent_other o c d ts f h)

-- ---- ticks

-- every held record's car is a unicast one
abbrev pub Unicast : Record → Type 0
Unicast r = is_held r ≡ true → is_unicast r.car.0 ≡ true

module _ (p : Reply → Bool) (o : Configuration) (c : CarAddress) (b : Bool) (e : ℕ) where
  frames_own : (r : Record) → Unicast r → holds c r ≡ true → only (is_to c) (tick_frames p o b e r) ≡ tick_frames p o b e r
  unfolding tick_frames
  frames_own r f h =
      let q : c ≡ r.car = same_eq c r.car (holds_same c r h) in
      rw (holds_held c r h) (rw q (sent_own o r.car (only p (replies_of (tick_phase b e r r.phase))) (f (holds_held c r h))))

  frames_other : (r : Record) → Unicast r → holds c r ≡ false → only (is_to c) (tick_frames p o b e r) ≡ []
  unfolding tick_frames only
  frames_other r f h = split (is_held r)
      (λ g. rw g (sent_other o c r.car (only p (replies_of (tick_phase b e r r.phase))) (f g) (not_same c r g h)))
      (λ g. rw g)

  sent_sort : (rs : List Record) → All Unicast rs → only (is_to c) (frames_of_all p o b e rs) ≡ frames_of_all p o b e (mine c rs)
  unfolding only joins
  sent_sort [] f = refl
  sent_sort (r ∷ rs) f = only_append (is_to c) (tick_frames p o b e r) (frames_of_all p o b e rs) ∙ split (holds c r)
      (λ g. rw (g, frames_own r f.0 g, sent_sort rs f.1))
      (λ g. rw (g, frames_other r f.0 g) (sent_sort rs f.1))

-- a tick's frames to car c are those of its own record
pub sent_tick : (o : Configuration) (c : CarAddress) (b : Bool) (e : ℕ) (rs : List Record) → All Unicast rs → only (is_to c) (all_frames o b e rs) ≡ all_frames o b e (mine c rs)
unfolding all_frames
sent_tick o c b e rs f = only_append (is_to c) (frames_of_all is_report o b e rs) (frames_of_all is_confirmation o b e rs) ∙ ap₂ ◌++◌ (sent_sort is_report o c b e rs f) (sent_sort is_confirmation o c b e rs f)

-- a record that is not held sends nothing
pub frames_free : (p : Reply → Bool) (o : Configuration) (b : Bool) (e : ℕ) (r : Record) → is_held r ≡ false → tick_frames p o b e r ≡ []
unfolding tick_frames
frames_free p o b e r h = rw h
