-- Replies, from what the functions write one behind the other.
use Prim.Native.Nat.{ℕ, ◌+◌, ◌*◌, ◌≤◌}
use mathlib.Core.Path.{◌≡◌, refl, sym, ap, ap₂, ◌∙◌}
use mathlib.Core.List.{List, ◌++◌}
use native.Mathlib.Omega.{arith}
use lib.ListN.{length, length-append}
use lib.Seq.{sets, take_all}
use Rattle.octets.specs.Octets.{bytes, low_bytes, part, splice}
use Rattle.octets.proofs.OctetLaws.{length_low, sets_append}
use Rattle.messages.specs.Reading.{no}
use Rattle.messages.specs.Table.{group_count}
use Rattle.rules.specs.declared.Heard.{Heard}
use Rattle.rules.specs.declared.Inspected.{Inspected}
use Rattle.car_rules.specs.declared.Key.{Key}
use Rattle.script.specs.Events.{most_octets}
use Rattle.script.specs.Replies.{number, reply_octets, longest_reply, reply_head, reply_with, key_octets}
use Rattle.script.specs.Private.{Answered, heard_octets, state_octets, Replied}
use Rattle.script.proofs.OutputLaws.{length_head, put_behind}

module _ (n : ℕ) {k : ℕ} {entry exit : List ℕ} (h : Replied (reply_head n 0 0) entry exit k) where
  -- a refusal is the answer to a call
  pub refused_answered : Answered (no n) entry exit k
  refused_answered = record { octets = h.octets ∙ length_head n 0 0; output = h.output }

-- the octets of a query's answer, behind the first ones
pub told_replied : (ws : List ℕ) {k : ℕ} {entry mid exit : List ℕ} → length ws ≡ k → k ≤ most_octets → longest_reply ≤ length entry → mid ≡ splice 0 (reply_head 0 0 k) entry → exit ≡ sets mid reply_octets ws → Replied (reply_with 0 0 ws) entry exit (reply_octets + k)
told_replied ws {k} {entry} e few long m h =
    let whole : reply_head 0 0 k ++ ws ≡ reply_with 0 0 ws = ap (λ (i : ℕ). reply_head 0 0 i ++ ws) (sym e) in
    record {
      octets = ap₂ (λ (i j : ℕ). i + j) (sym (length_head 0 0 k)) (sym e) ∙ sym (length-append (reply_head 0 0 k) ws) ∙ ap length whole;
      output =
          h
          ∙ ap (λ (l : List ℕ). sets l reply_octets ws) m
          ∙ put_behind entry (reply_head 0 0 k) ws reply_octets (length_head 0 0 k) (omega arith)
          ∙ ap (λ (l : List ℕ). splice 0 l entry) whole;
    }

-- what the service query tells, where each group has its values
module _ (t : Heard) (least : length t.spread.least ≡ group_count) (greatest : length t.spread.greatest ≡ group_count) where
  -- one run behind the other
  pub told_put : (d : List ℕ)
      → sets (sets (sets d reply_octets (number t.sounds)) (reply_octets + 4) (part t.spread.least 0 group_count)) (reply_octets + 4 + group_count) (part t.spread.greatest 0 group_count) ≡ sets d reply_octets (heard_octets t)
  told_put d =
      let sounds : List ℕ = sets d reply_octets (number t.sounds) in
      let whole : (l : List ℕ) → length l ≡ group_count → part l 0 group_count ≡ l = λ l e. take_all group_count l (omega arith) in
      ap₂ (λ (l m : List ℕ). sets (sets sounds (reply_octets + 4) l) (reply_octets + 4 + group_count) m) (whole t.spread.least least) (whole t.spread.greatest greatest)
      ∙ ap (λ (k : ℕ). sets (sets sounds (reply_octets + 4) t.spread.least) (reply_octets + 4 + k) t.spread.greatest) (sym least)
      ∙ sym (sets_append t.spread.least t.spread.greatest sounds (reply_octets + 4))
      ∙ ap (λ (k : ℕ). sets sounds (reply_octets + k) (t.spread.least ++ t.spread.greatest)) (sym (length_low 4 t.sounds))
      ∙ sym (sets_append (number t.sounds) (t.spread.least ++ t.spread.greatest) d reply_octets)

  pub told_length : length (heard_octets t) ≡ 4 + 2 * group_count
  told_length =
      length-append (number t.sounds) (t.spread.least ++ t.spread.greatest)
      ∙ ap₂ (λ (i j : ℕ). i + j) (length_low 4 t.sounds) (length-append t.spread.least t.spread.greatest ∙ ap₂ (λ (i j : ℕ). i + j) least greatest)

-- what the inspection tells, one number behind the other
module _ (x : Inspected) where
  pub inspected_put : (d : List ℕ) → sets (sets d reply_octets (number x.state)) (reply_octets + 4) (bytes 6 x.car.0) ≡ sets d reply_octets (state_octets x)
  unfolding bytes low_bytes
  inspected_put d = refl

  pub inspected_length : length (state_octets x) ≡ 10
  unfolding bytes low_bytes
  inspected_length = refl

-- a key, one number behind the other
pub key_put : (d : List ℕ) (k : Key)
    → sets (sets (sets (sets d 12 (bytes 6 k.station.0)) 18 (low_bytes 7 k.nid.0)) 25 (bytes 8 k.nmk.0)) 33 (bytes 8 k.nmk.1) ≡ sets d reply_octets (key_octets k)
unfolding bytes low_bytes
key_put d k = refl

pub key_length : (k : Key) → length (key_octets k) ≡ 29
unfolding bytes low_bytes
key_length k = refl
