-- What starting a script and carrying an event out leave at either end, of a station or of a car.
use Rattle.std.specs.Prelude.{ℕ, ◌≡◌, Bool, true, false, cond, ◌&&◌, List, [], leb, length, get_or}
use Rattle.std.specs.Prelude as std
use Rattle.std.specs.Prelude.{Some, None}
use Rattle.std.proofs.Math.Option.{Option, none, some}
use Rattle.octets.specs.Octets.{splice}
use Rattle.ends.specs.Outcomes.{Outcome}
use Rattle.script.specs.declared.Happened.{Happened}
use Rattle.script.specs.declared.Started.{Started}
use Rattle.script.specs.Events.{Event, call, query, most_octets, event_in}
use Rattle.script.specs.Replies.{number, longest_reply, refusal_number}

-- s is the first station or car, and the octets are those of the answer to configuring, whose outcome is y
pub record StartsAs {S : Type 0} (Kept : S → Type 0) (first : S) (y : Outcome) (s : S) (octets : List ℕ) : Type 0 where
  pub left : s ≡ first
  pub answer : octets ≡ number (refusal_number y)
  pub kept : Kept s

module _ {S : Type 0} where
  -- the whole promise of starting by a head that keeps to the layout or does not: a start there, and nothing else
  abbrev pub BeginsAs : (head : Bool) → (Started S → Type 0) → std.Option (Started S) → Type 0
  BeginsAs head Starts None = head ≡ false
  BeginsAs head Starts (Some r) = (head ≡ true) × Starts r

-- the event of the kind k with a reading, a room and the octets s, with an output of n octets: none is carried out where the longest reply would not fit, or where the room is over the most octets
abbrev pub carried_out_as : {A : Type 0} → (ℕ → ℕ → List ℕ → List (Option A)) → (k t room : ℕ) → List ℕ → ℕ → Option A
carried_out_as kinds k t room s n = cond (leb longest_reply n && leb room most_octets) (get_or (kinds t room s) k none) none

-- the event that the octets e are, with an output of n octets: none is carried out where the longest reply would not fit
abbrev pub carried_out : {A : Type 0} → (ℕ → ℕ → List ℕ → List (Option A)) → List ℕ → ℕ → Option A
carried_out kinds e n = cond (leb longest_reply n) (event_in kinds e) none

module _ {S C Q : Type 0} where
  -- a station or a car after an event
  abbrev pub after : (S → C → S) → S → Option (Event C Q) → S
  after step s none = s
  after step s (some (call x)) = step s x
  after step s (some (query q)) = s

module _ {C Q : Type 0} where
  -- the reply to an event, by the replies to calls and to queries: none is given where none is carried out
  abbrev pub reply_to : (C → List ℕ) → (Q → List ℕ) → Option (Event C Q) → List ℕ
  reply_to f g none = []
  reply_to f g (some (call x)) = f x
  reply_to f g (some (query q)) = g q

-- what an event leaves of a station or a car, `last`, and its reply: s and n octets, and the output from entry to exit
pub record CarriedOut {S : Type 0} (Kept : S → Type 0) (last : S) (reply entry exit : List ℕ) (s : S) (n : ℕ) : Type 0 where
  pub left : s ≡ last
  pub octets : n ≡ length reply
  pub output : exit ≡ splice 0 reply entry
  pub kept : Kept s

module _ {S A : Type 0} (Kept : S → Type 0) where
  -- the whole promise of an event or none, which leaves `last` and has a reply: what is no event is not carried out, and leaves the output as it was
  abbrev pub HappensAs : Option A → (last : S) → (reply entry exit : List ℕ) → std.Option (Happened S) → Type 0
  HappensAs none last reply entry exit None = exit ≡ entry
  HappensAs none last reply entry exit (Some h) = ⊥
  HappensAs (some x) last reply entry exit None = ⊥
  HappensAs (some x) last reply entry exit (Some h) = CarriedOut Kept last reply entry exit h.left h.octets
