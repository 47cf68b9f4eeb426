-- Frames, sent by the records one after another: what stands in the output after some of them.
use Prim.Native.Nat.{ℕ, ◌+◌, ◌*◌, ◌-◌, ◌≤◌, ◌<◌}
use mathlib.Core.Path.{◌≡◌, refl, sym, ap, ◌∙◌, subst}
use mathlib.Core.List.{List, [], ◌∷◌, ◌++◌, append-nil}
use native.Mathlib.Omega.{arith}
use native.Mathlib.Nat.{mul-le-mul_left}
use native.Mathlib.Numerals.{add-one}
use lib.ListN.{length, take, drop, get_or, length-append, length-take, length-drop, take-append-drop}
use lib.Seq.{take-suc, take_all}
use borrow.Rule.Slice.PartMut.{put_mid, same_len_mid}
use Rattle.octets.specs.Octets.{splice}
use Rattle.rules.specs.declared.Record.{Record}
use Rattle.ends.specs.Lists.{joins}
use Rattle.ends.specs.Outcomes.{joined}
use Rattle.ends.proofs.ListLaws.{joins_append}
use Rattle.station.specs.Reports.{Writes, Sent}
use Rattle.station.proofs.SpliceLaws.{splice_lent, splice_then}

-- one frame more, back to back
joined_next : (fs : List (List ℕ)) (w : List ℕ) → joined (fs ++ (w ∷ [])) ≡ joined fs ++ w
unfolding joins
joined_next fs w = joins_append (λ (f : List ℕ). f) fs (w ∷ []) ∙ ap (λ (q : List ℕ). joined fs ++ q) (append-nil w)

-- what each record sends, each frame at most n octets long
module _ (f : Record → List (List ℕ)) (n : ℕ) where
  -- after i records of l: k frames of m octets are written over the output at entry
  pub record Sending (l : List Record) (entry out : List ℕ) (k m i : ℕ) : Type 0 where
    pub long : length out ≡ length entry
    pub few : m ≤ n * k
    pub sent : Sent (joins f (take i l)) entry out k m

  -- before the first record
  pub send_none : (l : List Record) (out : List ℕ) → Sending l out out 0 0 0
  unfolding joins splice
  send_none l out = record { long = refl; few = omega arith; sent = record { count = refl; size = refl; octets = refl } }

  -- past the last one
  pub send_all : (l : List Record) (entry out : List ℕ) (k m i : ℕ) → Sending l entry out k m i → length l ≤ i → Sent (joins f l) entry out k m
  send_all l entry out k m i w h = subst (λ (x : List Record). Sent (joins f x) entry out k m) (take_all i l h) w.sent

  module _ (l : List Record) (entry out : List ℕ) (k m i : ℕ) (w : Sending l entry out k m i) (z : Record) (h : i < length l) where
    -- the frames of one record more
    frames_next : joins f (take (i + 1) l) ≡ joins f (take i l) ++ f (get_or l i z)
    unfolding joins
    frames_next = rw (add-one, take-suc l i z) (joins_append f (take i l) (get_or l i z ∷ []) ∙ ap (λ (q : List (List ℕ)). joins f (take i l) ++ q) (append-nil (f (get_or l i z))))

    -- a record that sends nothing
    pub send_quiet : f (get_or l i z) ≡ [] → Sending l entry out k m (i + 1)
    send_quiet q =
        let same : joins f (take i l) ≡ joins f (take (i + 1) l) = sym (frames_next ∙ ap (λ (x : List (List ℕ)). joins f (take i l) ++ x) q ∙ append-nil (joins f (take i l))) in
        record { long = w.long; few = w.few; sent = subst (λ (x : List (List ℕ)). Sent x entry out k m) same w.sent }

    -- a record that sends one frame
    module _ (v : List ℕ) (q : f (get_or l i z) ≡ v ∷ []) (room : n * length (joins f l) ≤ length entry) where
      -- it is one of all
      pub one_of : k + 1 ≤ length (joins f l)
      one_of =
          let fs : List (List ℕ) = joins f (take i l) in
          let whole : joins f l ≡ (fs ++ (v ∷ [])) ++ joins f (drop (i + 1) l) =
          ap (joins f) (sym (take-append-drop (i + 1) l))
          ∙ joins_append f (take (i + 1) l) (drop (i + 1) l)
          ∙ ap (λ (x : List (List ℕ)). x ++ joins f (drop (i + 1) l)) (frames_next ∙ ap (λ (x : List (List ℕ)). fs ++ x) q) in
          omega (arith, w.sent.count, ap length whole, length-append (fs ++ (v ∷ [])) (joins f (drop (i + 1) l)), length-append fs (v ∷ []))

      -- there is room for it in the output
      pub send_room : m + n ≤ length out
      send_room = omega (arith, mul-le-mul_left n one_of, room, w.long, w.few)

      -- and in the part that is lent
      pub part_room : n ≤ length (take (length out - m) (drop m out))
      part_room = simp (length-take, length-drop) (omega (arith, send_room))

      -- it was written to the part of the output behind those before, which left it as ys
      pub send_one : (ys : List ℕ) (x : ℕ) → Writes x v (take (length out - m) (drop m out)) ys → x ≤ n → length ys ≡ length (take (length out - m) (drop m out))
          → Sending l entry (put_mid m (length out - m) out ys) (k + 1) (m + x) (i + 1)
      send_one ys x wrote most len =
          let fs : List (List ℕ) = joins f (take i l) in
          let next : joins f (take (i + 1) l) ≡ fs ++ (v ∷ []) = frames_next ∙ ap (λ (y : List (List ℕ)). fs ++ y) q in
          let octets : joined (joins f (take (i + 1) l)) ≡ joined fs ++ v = ap joined next ∙ joined_next fs v in
          let back : put_mid m (length out - m) out ys ≡ splice m v out = splice_lent out v ys m (omega (arith, send_room)) wrote.octets in
          let all : put_mid m (length out - m) out ys ≡ splice 0 (joined fs ++ v) entry =
          splice_then entry out (put_mid m (length out - m) out ys) (joined fs) v 0 m (omega (arith, w.sent.size)) (omega arith) w.sent.octets back in
          record {
            long = same_len_mid m (length out - m) out ys len ∙ w.long;
            few = omega (arith, w.few);
            sent = record {
              count = omega (arith, w.sent.count, ap length next, length-append fs (v ∷ []));
              size = omega (arith, w.sent.size, ap length octets, length-append (joined fs) v, wrote.size);
              octets = all ∙ ap (λ (y : List ℕ). splice 0 y entry) (sym octets);
            };
          }
