-- Proof of the two round trips, once for every kind.
use Prim.Native.Nat.{ℕ, ◌+◌, ◌^◌, ◌≤◌, ◌<◌}
use mathlib.Core.Path.{◌≡◌, sym, ap, ap₂, ◌∙◌, subst}
use mathlib.Core.Bool.{true, ◌&&◌}
use mathlib.Core.List.{List, [], ◌++◌, append_assoc}
use mathlib.Core.Option.{Option}
use native.Mathlib.Omega.{arith}
use borrow.Author.Tests.{le-leb}
use lib.Dec.{leb}
use lib.ListN.{length, drop, length-drop}
use lib.Seq.{drop_at}
use Rattle.octets.specs.Octets.{value, bytes, Octets}
use Rattle.messages.specs.Layout.{Field, Values, size, holds, read, encode, zeroed}
use Rattle.messages.specs.Table.{Kind, type_of, count_at, payload_size, head, written_size, payload, Message, is_counted, addressed}
use Rattle.messages.specs.Reading.{Checked, yes, check, Form, of_type, kinds, count_rules, sized, typed, kind_rules, payload_rules, frame_rules, read_rules}
use Rattle.messages.specs.Writing.{head_octets, payload_octets, padding, frame, is_addressed, is_limited, length_in, write_rules}
use Rattle.messages.specs.declared.Edition.{Edition}
use Rattle.messages.specs.Claims.{ReadsWritten, zeroed_frame, WritesRead}
use Rattle.octets.proofs.OctetLaws.{octets_drop, value_bytes}
use Rattle.messages.proofs.LayoutLaws.{Fits, to_fits, to_full, holds_encode, read_encode, encode_read, read_fits, and_left, and_right}
use Rattle.messages.proofs.TableLaws.{size_payload, type_found, CountHeld, count_held, count_room, count_read, addressed_lt}
use Rattle.messages.proofs.CheckLaws.{pass, passed, size_right}
use Rattle.messages.proofs.FrameLaws.{in_frame, Accepted, accepted}
use Rattle.messages.proofs.WriteLaws.{FullIn, length_head, length_frame}

-- ---- reading what was written

module _ (m : Message) (a : is_addressed m ≡ true) (w : is_limited m ≡ true) where
  abbrev e : Edition
  e = m.edition

  abbrev k : Kind
  k = m.kind

  abbrev g : ℕ
  g = m.count

  abbrev fs : List Field
  fs = payload e k g m.dst m.src

  abbrev values : Values head
  values = (m.dst, (m.src, (type_of k, tt)))

  abbrev behind : List ℕ
  behind = payload_octets m ++ padding k g

  abbrev octets : List ℕ
  octets = head_octets m ++ behind

  head_fits : Fits head values
  head_fits =
      let d = addressed_lt e k g m.dst m.src m.values a in
      let t = (type_found k).1 in
      (d.0, (d.1, (omega arith, ((t, t), (omega arith, tt)))))

  count_right : is_counted e (count_at k) g ≡ true
  count_right = and_left (is_counted e (count_at k) g) _ w

  payload_fits : Fits fs m.values
  payload_fits = to_fits fs m.values (and_right (is_counted e (count_at k) g) _ w)

  whole : FullIn m
  whole = to_full fs m.values payload_fits

  head_read : read 0 head octets ≡ values
  head_read = read_encode head values [] behind head_fits

  frame_length : length octets ≡ written_size k g
  unfolding frame
  frame_length = length_frame m whole

  payload_behind : drop (size head) octets ≡ behind
  payload_behind = drop_at (head_octets m) behind (size head) (length_head m whole)

  payload_holds : holds 0 fs behind ≡ true
  payload_holds = holds_encode fs m.values [] (padding k g) payload_fits

  count_told : count_rules e (count_at k) octets ≡ yes g
  count_told =
      count_read e (count_at k) g (payload_size k g) octets count_right
      (subst (CountHeld (count_at k) g) (sym payload_behind) (count_held e k g m.dst m.src behind payload_holds))
      (count_room k g) (omega (arith, frame_length))

  kind_read : kind_rules e octets ≡ yes (record { kind = k; count = g })
  unfolding kind_rules
  kind_read =
      pass (leb (size head) (length octets)) 1 _ (le-leb (size head) (length octets) (omega (arith, frame_length)))
      ∙ pass (holds 0 head octets) 2 _ (holds_encode head values [] behind head_fits)
      ∙ ap (λ (t : Values head). typed e (of_type t.1.1.0 kinds) octets) head_read
      ∙ ap (λ (o : Option Kind). typed e o octets) (type_found k).0
      ∙ ap (sized k (length octets)) count_told
      ∙ sym (size_right k g (length octets) (omega (arith, frame_length)) (omega (arith, frame_length)))

  payload_read : payload_rules e k g m.dst m.src behind ≡ yes m
  payload_read =
      let r : read 0 fs behind ≡ m.values = read_encode fs m.values [] (padding k g) payload_fits in
      pass (addressed e k g m.dst m.src (read 0 fs behind)) 5 _ (ap (addressed e k g m.dst m.src) r ∙ a)
      ∙ pass (holds 0 fs behind) 6 _ payload_holds
      ∙ ap (λ (v : Values fs). yes (record { edition = e; kind = k; count = g; dst = m.dst; src = m.src; values = v })) r

  frame_read : read_rules e (frame m) ≡ yes m
  unfolding read_rules frame
  frame_read =
      ap (λ (t : Checked Form). frame_rules e t octets) kind_read
      ∙ ap (λ (t : Values head). payload_rules e k g t.0 t.1.0 (drop (size head) octets)) head_read
      ∙ ap (payload_rules e k g m.dst m.src) payload_behind
      ∙ payload_read

pub reads_written : ReadsWritten
unfolding write_rules
reads_written m n ws e =
    let one = passed (is_addressed m) 5 _ ws e in
    let two = passed (is_limited m) 6 _ ws one.1 in
    let three = passed (leb (length_in m) n) 15 _ ws two.1 in
    let same : frame m ≡ ws = let w : yes (frame m) ≡ yes ws = three.1 in cc in
    ap (read_rules m.edition) (sym same) ∙ frame_read m one.0 two.0

-- ---- writing what was read

module _ (e : Edition) (s : List ℕ) (o : Octets s) (m : Message) (x : Accepted e s m) where
  abbrev kind : Kind
  kind = x.form.kind

  abbrev count : ℕ
  count = x.form.count

  abbrev p : List ℕ
  p = drop (size head) s

  abbrev got : Message
  got = in_frame e x.form s

  abbrev fields : List Field
  fields = payload e kind count got.dst got.src

  room : 0 + size fields ≤ length p
  room = rw (size_payload e kind count got.dst got.src, length-drop) (omega (arith, x.found.filled))

  head_same : head_octets got ≡ zeroed 0 head s
  head_same =
      ap (λ (t : ℕ). encode head (got.dst, (got.src, (t, tt)))) (sym x.found.type)
      ∙ encode_read s o head 0 (omega (arith, x.found.filled)) x.found.fixed

  payload_same : payload_octets got ≡ zeroed 0 fields p
  payload_same = encode_read p (octets_drop (size head) s o) fields 0 room x.holding

  frame_same : frame got ≡ zeroed_frame got s
  unfolding frame
  frame_same = ap₂ (λ (a b : List ℕ). a ++ (b ++ padding kind count)) head_same payload_same

  abbrev Written : Message → Type 0
  Written q = (n : ℕ) → write_rules q n ≡ check (leb (length_in q) n) 15 (yes (zeroed_frame q s))

  got_written : Written got
  unfolding write_rules
  got_written n =
      pass (is_addressed got) 5 _ x.right
      ∙ pass (is_limited got) 6 _ (ap₂ ◌&&◌ x.found.counts (read_fits p (octets_drop (size head) s o) fields 0 room x.holding))
      ∙ ap (λ (l : List ℕ). check (leb (length_in got) n) 15 (yes l)) frame_same

  as_read : Written m
  as_read = subst Written x.same got_written

pub writes_read : WritesRead
writes_read e s m o w n = as_read e s o m (accepted e s m w) n

-- ---- the destination of a frame

-- octets 0 to 5 of a message's frame are its destination
pub frame_destination : (m : Message) → m.dst < 256 ^ 6 → value (frame m) 0 6 ≡ m.dst
unfolding frame
frame_destination m h = ap (λ (l : List ℕ). value l 0 6) (append_assoc (bytes 6 m.dst) _ _) ∙ value_bytes 6 m.dst [] _ h
