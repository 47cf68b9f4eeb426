-- One event: its call, its reply, and whether the recorded one is the same.
use Prim.Native.Nat.{ℕ, zero, suc, ◌+◌, ◌-◌, ◌≤◌}
use mathlib.Core.Path.{◌≡◌, refl, sym, ap, ap₂, ◌∙◌}
use mathlib.Core.Bool.{Bool, true, false, cond, ◌&&◌}
use mathlib.Core.List.{List}
use mathlib.Core.Option.{Option, none, some}
use native.Mathlib.Omega.{arith}
use borrow.Author.Tests.{le-leb}
use lib.Dec.{eqb, ltb}
use lib.ListN.{length, get_or, take, drop, length-append}
use lib.Seq.{take-append_seam}
use lib.Pointwise.{pointwise}
use Rattle.std.specs.Prelude.{IfSome, Some, None}
use Rattle.std.specs.Bool.{then_some}
use Rattle.octets.specs.Octets.{value, low_bytes, splice, Octets}
use Rattle.rules.specs.declared.Station.{Station}
use Rattle.rules.specs.Invariant.{Invariant}
use Rattle.rules.specs.Calls.{Call, frame, tick, pilot, terminate, link_up}
use Rattle.rules.specs.Constants.{least_output}
use Rattle.rules.specs.Numbers.{pilot_of}
use Rattle.rules.specs.Rules.{step, outcome}
use Rattle.script.specs.declared.Happened.{Happened}
use Rattle.script.specs.Ends as ends
use Rattle.script.specs.Ends.{carried_out_as, CarriedOut}
use Rattle.script.specs.Events.{call, given}
use Rattle.script.specs.Layout.{Event, kinds}
use Rattle.script.specs.Promises.{reply, Happens}
use Rattle.script.specs.Replies.{longest_reply}
use Rattle.session_log.specs.Meaning.{Item, first_in, second_in}
use Rattle.session_log.specs.Layout.{numbers, octets_of, head_at, behind, item_at}
use Rattle.replaying.specs.Replaying.{call_in, call_of, recorded, same_octets, after, is_reply}
use Rattle.replaying.specs.Private.{Stand, Turned}
use Rattle.replaying.proofs.ReplyLaws.{Narrow, same_replies, item_narrow, item_octets_lem, reply_octets_lem, recorded_narrow}
use Rattle.replaying.proofs.SameLaws.{same_pointwise}
use Rattle.replaying.proofs.RefusalLaws.{refusal_narrow}

-- ---- the call

-- the event of a script that is a call
abbrev pub event_as : Option Call → Option Event
event_as none = none
event_as (some x) = some (call x)

call_in_lem : (w : Option Call) → call_in (event_as w) ≡ w
call_in_lem none = refl
call_in_lem (some x) = refl

given_call : (b : Bool) (x : Call) → (w : Option Call) × (given b (call x) ≡ event_as w)
given_call true x = (some x, refl)
given_call false x = (none, refl)

-- an event of a kind that a log has is a call
kind_call : (t room : ℕ) (s : List ℕ) (k : ℕ) → k ≤ 4 → (w : Option Call) × (get_or (kinds t room s) k none ≡ event_as w)
unfolding kinds
kind_call t room s zero h = (some (frame s room), refl)
kind_call t room s (suc zero) h = given_call (eqb (length s) 0) (tick t room)
kind_call t room s (suc (suc zero)) h = given_call (eqb (length s) 1 && ltb (value s 0 1) 6) (pilot (pilot_of (value s 0 1)) t)
kind_call t room s (suc (suc (suc zero))) h = given_call (eqb (length s) 0) terminate
kind_call t room s (suc (suc (suc (suc zero)))) h = given_call (eqb (length s) 0) link_up
kind_call t room s (suc (suc (suc (suc (suc k))))) h = absurd (omega arith)

-- the event that is carried out is the call of the log's event
pub event_as_lem : (s : List ℕ) (event : ℕ) → first_in (head_at s event) ≤ 4 → {k t n : ℕ} {x : List ℕ} → k ≡ first_in (head_at s event) → t ≡ second_in (head_at s event) → x ≡ (item_at s event).octets → longest_reply ≤ n → carried_out_as kinds k t least_output x n ≡ event_as (call_of (item_at s event))
unfolding call_of
event_as_lem s event few {k} {t} {n} {x} ek et ex h =
    let e : Item = item_at s event in
    let (w, q) = kind_call e.second least_output e.octets e.first few in
    ap (λ (d : Bool). cond (d && true) (get_or (kinds t least_output x) k none) none) (le-leb longest_reply n h)
    ∙ ap₂ (λ (a b : ℕ). get_or (kinds b least_output x) a none) ek et
    ∙ ap (λ (l : List ℕ). get_or (kinds e.second least_output l) e.first none) ex
    ∙ q
    ∙ ap event_as (sym (ap call_in q ∙ call_in_lem w))

-- ---- the reply

-- octets written from the first on stand there
module _ (ws d out : List ℕ) (e : out ≡ splice 0 ws d) where
  pub written_fits : length ws ≤ length out
  unfolding splice
  written_fits = omega (arith, simp length-append at (ap length e))

  written_front : take (length ws) out ≡ ws
  unfolding splice
  written_front = ap (take (length ws)) e ∙ take-append_seam ws (drop (0 + length ws) d)

-- a reply's octets are those of a recorded one where the fields are the same
compared : (s : Station) (w : Option Call) (r : Item) → Narrow r → length (reply s (event_as w)) ≤ longest_reply → same_octets (reply s (event_as w)) (octets_of r) ≡ is_reply s w r
unfolding same_octets numbers low_bytes
compared s none r n h = refl
compared s (some x) r n h = ap (λ (l : List ℕ). same_octets l (octets_of r)) (reply_octets_lem (outcome s x)) ∙ same_replies (recorded (outcome s x)) r (recorded_narrow (outcome s x) (refusal_narrow s x) h) n

after_call : (s : Station) (w : Option Call) → ends.after step s (event_as w) ≡ after s w
after_call s none = refl
after_call s (some x) = refl

kept_then : (b : Bool) (z : Station) → Invariant z → IfSome (then_some b z) Invariant
kept_then true z k = k
kept_then false z k = tt

-- what an event that was carried out leaves
pub carried : (station : Station) (entry out : List ℕ) (h : Happened Station) (w : Option Event) → Happens station w entry out (Some h) → CarriedOut Invariant (ends.after step station w) (reply station w) entry out h.left h.octets
carried station entry out h none done = absurd done
carried station entry out h (some x) done = done

-- what is not carried out is no call
none_carried : (station : Station) (entry out : List ℕ) (w : Option Call) → Happens station (event_as w) entry out None → w ≡ none
none_carried station entry out none done = refl
none_carried station entry out (some x) done = absurd done

module _ (station : Station) (s : List ℕ) (event place : ℕ) (o : Octets s) (p : Stand s event place) where
  -- the turn of an event: its reply is held to the part of the log that has the recorded one
  pub turned : (entry out : List ℕ) (h : Happened Station) {b : Bool} {end : ℕ} → length out ≡ longest_reply → Happens station (event_as (call_of (item_at s event))) entry out (Some h) → end ≡ behind s place → b ≡ pointwise eqb (take h.octets out) (take (end - place) (drop place s)) → Turned station (item_at s event) (item_at s place) (then_some b h.left)
  turned entry out h {b} {end} size happened ends e =
      let w : Option Call = call_of (item_at s event) in
      let done = carried station entry out h (event_as w) happened in
      let ws : List ℕ = reply station (event_as w) in
      let same : b ≡ is_reply station w (item_at s place) =
      e
      ∙ same_pointwise (take h.octets out) (take (end - place) (drop place s))
      ∙ ap₂ same_octets (ap (λ (n : ℕ). take n out) done.octets ∙ written_front ws entry out done.output) (ap (λ (n : ℕ). take (n - place) (drop place s)) ends ∙ item_octets_lem s place o p.reply_ends)
      ∙ compared station w (item_at s place) (item_narrow s place o p.reply_ends) (let f = written_fits ws entry out done.output in omega arith) in
      record {
        left = ap₂ then_some same (done.left ∙ after_call station w);
        kept = kept_then b h.left done.kept;
      }

  -- the turn of an event that is not carried out: no reply is the one to it
  pub unturned : (entry out : List ℕ) → Happens station (event_as (call_of (item_at s event))) entry out None → Turned station (item_at s event) (item_at s place) None
  unturned entry out done =
      let none_here : call_of (item_at s event) ≡ none = none_carried station entry out (call_of (item_at s event)) done in
      record {
        left = sym (ap (λ (w : Option Call). then_some (is_reply station w (item_at s place)) (after station w)) none_here);
        kept = tt;
      }
