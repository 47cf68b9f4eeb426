-- Laws of the rules of writing, for the writers' proofs.
use Rattle.std.specs.Prelude.{Result, Ok, Err}
use Prim.Native.Nat.{ℕ, ◌+◌, ◌-◌, ◌^◌, ◌≤◌, ◌<◌}
use mathlib.Core.Path.{◌≡◌, refl, sym, ap, ap₂, ◌∙◌, subst}
use mathlib.Core.Bool.{Bool, true, false, ◌&&◌, false≢true, and_assoc}
use mathlib.Core.List.{List, [], ◌∷◌, ◌++◌}
use mathlib.Core.Option.{some}
use native.Mathlib.Omega.{arith}
use native.Mathlib.Nat.{one-le-pow}
use borrow.Author.Tests.{eqb-true, eq-eqb, le-leb, lt-leb, ltb-true, lt-ltb}
use lib.Dec.{eqb, leb, ltb}
use borrow.Rule.Slice.PartMut.{put_mid}
use lib.ListN.{length, take, drop, length-append, length-replicate}
use lib.Seq.{sets, length-sets}
use Rattle.octets.specs.Octets.{value, bytes, splice}
use Rattle.messages.specs.Layout.{Field, Values, width, size, zeros, encode, fits}
use Rattle.messages.specs.Table as table
use Rattle.messages.specs.Table.{group_count, id_octets, iso_attempt, first_attempt, later_attempt, is_attempt, resp_type, forwarding, any_id, is_count, type_of, count_at, payload_size, head, filled_size, written_size, broadcast, is_unicast, is_receiver, timer_limit, result_limit, match_fields, key_fields, payload, is_counted}
use Rattle.messages.specs.Writing.{head_octets, payload_octets, padding, frame, is_addressed, is_limited, length_in, write_rules, length_of, octets_of}
use Rattle.messages.specs.Reading.{Checked, no, yes, check, no_groups, no_id, Beside, no_beside}
use Rattle.messages.specs.Answers.{number_of, message_of, besides, checked_of}
use Rattle.messages.specs.Private.{kind_of, id_right, ids_right, groups_right, Heads, Judges, PayloadRoom}
use Rattle.messages.specs.declared.Edition.{Edition}
use Rattle.messages.specs.declared.Edition.TheVariants.{Iso, Sae}
use Rattle.messages.specs.declared.Ids.{Ids}
use Rattle.messages.specs.declared.kinds.Kind.{Kind}
use Rattle.messages.specs.declared.kinds.Kind.TheVariants as kind
use Rattle.messages.specs.declared.Refusal.{Refusal}
use Rattle.messages.specs.declared.writer.Head.{Head}
use Rattle.messages.specs.declared.Message.{Message}
use Rattle.messages.specs.declared.Message.TheVariants.{SlacParmReq, SlacParmCnf, StartAttenCharInd, AttenCharInd, AttenCharRsp, MnbcSoundInd, ValidateReq, ValidateCnf, SlacMatchReq, SlacMatchCnf, AttenProfileInd}
use Rattle.octets.proofs.OctetLaws.{length_bytes, bytes_zero, sets_append, sets_splice, sets_lent}
use Rattle.messages.proofs.TableLaws.{size_payload, count_le, unicast_lt, addressed_lt}
use Rattle.messages.proofs.CheckLaws.{split, pass, fail}
use Rattle.messages.proofs.LayoutLaws.{first, rest, Fits, Full, full_cons, encode_cons, length_encode, to_fits, from_fits, and_left, and_right}

-- ---- the fields of a layout stored one after another, as the code stores them

abbrev pub store : List ℕ → ℕ → (fs : List Field) → Values fs → List ℕ
store l at [] vs = l
store l at (f ∷ fs) vs = store (sets l at (first f fs vs)) (at + width f) fs (rest f fs vs)

-- they are the layout's octets stored
pub store_encode : (fs : List Field) (vs : Values fs) (at : ℕ) (l : List ℕ) → Full fs vs → store l at fs vs ≡ sets l at (encode fs vs)
store_encode [] vs at l h = refl
store_encode (f ∷ fs) vs at l h =
    let a = first f fs vs in
    let b = encode fs (rest f fs vs) in
    let n = full_cons fs f vs h in
    store_encode fs (rest f fs vs) (at + width f) (sets l at a) n.1
    ∙ ap (λ (k : ℕ). sets (sets l at a) (at + k) b) (sym n.0)
    ∙ sym (sets_append a b l at)
    ∙ ap (sets l at) (sym (encode_cons fs f vs))

-- ---- a frame's three parts stored one after another

-- a message's runs of any octets are as long as their fields
abbrev pub FullIn : table.Message → Type 0
FullIn m = Full (payload m.edition m.kind m.count m.dst m.src) m.values

-- what stands beside a value of the code is as long as its types say
pub record Whole (b : Beside) : Type 0 where
  pub groups : length b.groups ≡ group_count
  pub first : length b.first ≡ id_octets
  pub second : length b.second ≡ id_octets

-- zeros are whole
pub whole_none : Whole no_beside
unfolding no_groups no_id
whole_none = record { groups = length-replicate {A = ℕ} group_count 0; first = length-replicate {A = ℕ} id_octets 0; second = length-replicate {A = ℕ} id_octets 0 }

-- an identifier of zeros is right in either edition
pub none_right : (e : Edition) → id_right e no_id ≡ true
unfolding no_id value
none_right Iso = refl
none_right Sae = refl

-- zeros in the place of group values and of identifiers
pub none_beside : (g : List ℕ) (ids : Ids) → g ≡ no_groups → (ids.first ≡ no_id) × (ids.second ≡ no_id) → besides g ids ≡ no_beside
none_beside g ids q h = rw (q, h.0, h.1)

-- and so are the runs of its message
pub full_message : (e : Edition) (m : Message) (b : Beside) → Whole b → (message_of e m b).count ≤ group_count → FullIn (message_of e m b)
full_message e (SlacParmReq c r) b w h = tt
full_message e (SlacParmCnf s c t r) b w h = tt
full_message e (StartAttenCharInd c t r) b w h = tt
full_message e (AttenCharInd s c r n g) b w h = (w.first, (w.second, (omega (arith, w.groups), tt)))
full_message e (AttenCharRsp c s r) b w h = (w.first, (w.second, tt))
full_message e (MnbcSoundInd c n r x) b w h = (w.first, tt)
full_message e (ValidateReq c t d) b w h = tt
full_message e (ValidateCnf s n c x) b w h = tt
full_message e (SlacMatchReq c s r) b w h = (w.first, (w.second, tt))
full_message e (SlacMatchCnf s c r n k) b w h = (w.first, (w.second, tt))
full_message e (AttenProfileInd m s c g) b w h = (omega (arith, w.groups), tt)

module _ (m : table.Message) (full : FullIn m) where
  pub length_head : length (head_octets m) ≡ size head
  length_head = length_encode head (m.dst, (m.src, (type_of m.kind, tt))) tt

  length_payload : length (payload_octets m) ≡ payload_size m.kind m.count
  length_payload =
      length_encode (payload m.edition m.kind m.count m.dst m.src) m.values full
      ∙ size_payload m.edition m.kind m.count m.dst m.src

  pub length_frame : length (frame m) ≡ length_in m
  unfolding frame
  length_frame =
      length-append (head_octets m) (payload_octets m ++ padding m.kind m.count)
      ∙ ap₂ ◌+◌ length_head
      (length-append (payload_octets m) (padding m.kind m.count) ∙ ap₂ ◌+◌ length_payload (length-replicate (written_size m.kind m.count - filled_size m.kind m.count) 0))
      ∙ omega arith

  -- head, payload and padding, each stored behind the one before
  pub frame_stored : (l : List ℕ)
      → sets (sets (sets l 0 (head_octets m)) (size head) (payload_octets m)) (filled_size m.kind m.count) (bytes (written_size m.kind m.count - filled_size m.kind m.count) 0)
      ≡ sets l 0 (frame m)
  unfolding frame
  frame_stored l =
      let h = head_octets m in
      let p = payload_octets m in
      let z = padding m.kind m.count in
      let n : ℕ = written_size m.kind m.count - filled_size m.kind m.count in
      let a : size head ≡ 0 + length h = omega (arith, length_head) in
      let b : filled_size m.kind m.count ≡ size head + length p = omega (arith, length_payload) in
      ap₂ (λ (k : ℕ) (ws : List ℕ). sets (sets (sets l 0 h) (size head) p) k ws) b (bytes_zero n)
      ∙ sym (sets_append p z (sets l 0 h) (size head))
      ∙ ap (λ (k : ℕ). sets (sets l 0 h) k (p ++ z)) a
      ∙ sym (sets_append h (p ++ z) l 0)

  -- the same as the code does it: each in a part that is lent, the sizes by the head's kind and count
  module _ (h : Head) (o : Heads h m) (l : List ℕ) (filled written : ℕ) (f : filled ≡ filled_size (kind_of h.form.kind) h.form.count) (w : written ≡ written_size (kind_of h.form.kind) h.form.count) (room : written_size m.kind m.count ≤ length l) where
    filled_size_lem : filled ≡ filled_size m.kind m.count
    filled_size_lem = f ∙ ap₂ filled_size o.kind o.count

    written_size_lem : written ≡ written_size m.kind m.count
    written_size_lem = w ∙ ap₂ written_size o.kind o.count

    -- the parts stand in the output
    pub parts_fit : (size head ≤ filled) × (filled ≤ written) × (written ≤ length l)
    parts_fit = (omega (arith, filled_size_lem), omega (arith, filled_size_lem, written_size_lem), omega (arith, written_size_lem))

    pub payload_fits : payload_size m.kind m.count ≤ filled - size head
    payload_fits = omega (arith, filled_size_lem)

    pub frame_put : (a b z : List ℕ) (t : ℕ) → t ≡ type_of (kind_of h.form.kind) → a ≡ sets (take (size head) l) 0 (encode head (h.dst, (h.src, (t, tt))))
        → b ≡ sets (take (filled - size head) (drop (size head) (put_mid 0 (size head) l a))) 0 (payload_octets m)
        → z ≡ sets (take (written - filled) (drop filled (put_mid (size head) (filled - size head) (put_mid 0 (size head) l a) b))) 0 (bytes (written - filled) 0)
        → put_mid filled (written - filled) (put_mid (size head) (filled - size head) (put_mid 0 (size head) l a) b) z ≡ sets l 0 (frame m)
    frame_put a b z t et ea eb ez =
        let x : List ℕ = put_mid 0 (size head) l a in
        let y : List ℕ = put_mid (size head) (filled - size head) x b in
        let ea' : a ≡ sets (take (size head) l) 0 (head_octets m) = ea ∙ simp (et, o.dst, o.src, o.kind) in
        let ex : x ≡ sets l 0 (head_octets m) = ap (put_mid 0 (size head) l) ea' ∙ sets_lent 0 (size head) l (head_octets m) (omega (arith, parts_fit)) (omega (arith, length_head)) in
        let lx : length x ≡ length l = ap length ex ∙ length-sets l 0 (head_octets m) in
        let ey : y ≡ sets x (size head) (payload_octets m) = ap (put_mid (size head) (filled - size head) x) eb ∙ sets_lent (size head) (filled - size head) x (payload_octets m) (omega (arith, parts_fit, lx)) (omega (arith, length_payload, payload_fits)) in
        let ly : length y ≡ length x = ap length ey ∙ length-sets x (size head) (payload_octets m) in
        ap (put_mid filled (written - filled) y) ez
        ∙ sets_lent filled (written - filled) y (bytes (written - filled) 0) (omega (arith, parts_fit, lx, ly)) (omega (arith, length_bytes (written - filled) 0))
        ∙ ap₂ (λ (j k : ℕ). sets y j (bytes (k - j) 0)) filled_size_lem written_size_lem
        ∙ ap (λ (t : List ℕ). sets t (filled_size m.kind m.count) (bytes (written_size m.kind m.count - filled_size m.kind m.count) 0)) (ey ∙ ap (λ (t : List ℕ). sets t (size head) (payload_octets m)) ex)
        ∙ frame_stored l

-- a payload in a part that is lent, by the message
module _ (e : Edition) (b : Beside) (w : Whole b) (l : List ℕ) (m m' : Message) (q : m ≡ m') (h : PayloadRoom (message_of e m b) (length l)) where
  abbrev size_in : ℕ
  size_in = payload_size (message_of e m' b).kind (message_of e m' b).count

  room : PayloadRoom (message_of e m' b) (length l)
  room = subst (λ (x : Message). PayloadRoom (message_of e x b) (length l)) q h

  pub payload_most : (message_of e m' b).count ≤ group_count
  payload_most = room.most

  pub payload_room : size_in ≤ length l
  payload_room = room.payload

  -- the part has n octets, by the code's own sum
  pub payload_put : (n : ℕ) → n ≡ size_in → (a : List ℕ) → a ≡ sets (take n l) 0 (payload_octets (message_of e m' b)) → put_mid 0 n l a ≡ sets l 0 (payload_octets (message_of e m b))
  payload_put n s a ea =
      ap (put_mid 0 n l) ea
      ∙ sets_lent 0 n l (payload_octets (message_of e m' b)) (omega (arith, s, payload_room)) (omega (arith, s, length_payload (message_of e m' b) (full_message e m' b w payload_most)))
      ∙ ap (λ (x : Message). sets l 0 (payload_octets (message_of e x b))) (sym q)

-- ---- the test of a message's values

-- what the types of a message's numbers say of them
abbrev pub Typed : Message → Type 0
Typed (SlacParmReq c r) = r.0 < 2 ^ 64
Typed (SlacParmCnf s c t r) = r.0 < 2 ^ 64
Typed (StartAttenCharInd c t r) = r.0 < 2 ^ 64
Typed (AttenCharInd s c r n g) = (r.0 < 2 ^ 64) × (n < 2 ^ 8)
Typed (AttenCharRsp c s r) = r.0 < 2 ^ 64
Typed (MnbcSoundInd c n r x) = (n < 2 ^ 8) × (r.0 < 2 ^ 64) × (x.0 < 2 ^ 64) × (x.1 < 2 ^ 64)
Typed (ValidateReq c t d) = t < 2 ^ 8
Typed (ValidateCnf s n c x) = (n < 2 ^ 8) × (x < 2 ^ 8)
Typed (SlacMatchReq c s r) = r.0 < 2 ^ 64
Typed (SlacMatchCnf s c r n k) = (r.0 < 2 ^ 64) × (k.0 < 2 ^ 64) × (k.1 < 2 ^ 64)
Typed (AttenProfileInd m s c g) = Unit {0}

-- zero fits any number of octets
zero_fits : (n : ℕ) → 0 < 256 ^ n
zero_fits n = one-le-pow n 256 (omega arith)

-- ---- where the editions differ

attempt_lt : (e : Edition) (v : ℕ) → is_attempt e v ≡ true → v < 256 ^ 2
attempt_lt Iso v h = omega (arith, eqb-true v iso_attempt h)
attempt_lt Sae v h = split (eqb v first_attempt) (λ q. omega (arith, eqb-true v first_attempt q)) (λ q. omega (arith, eqb-true v later_attempt (rw q at h)))

resp_lt : (e : Edition) → resp_type e < 256 ^ 1
resp_lt Iso = omega arith
resp_lt Sae = omega arith

forwarding_lt : (e : Edition) (a : ℕ) → a < 256 ^ 6 → forwarding e a < 256 ^ 6
forwarding_lt Iso a h = h
forwarding_lt Sae a h = omega arith

-- ---- what is left to test

abbrev pub limit_of : Edition → Message → Beside → Bool
limit_of e (SlacParmReq c r) b = true
limit_of e (SlacParmCnf s c t r) b = is_attempt e t.0
limit_of e (StartAttenCharInd c t r) b = is_attempt e t.0
limit_of e (AttenCharInd s c r n g) b = ids_right e b && groups_right e g b
limit_of e (AttenCharRsp c s r) b = ids_right e b
limit_of e (MnbcSoundInd c n r x) b = id_right e b.first
limit_of e (ValidateReq c t d) b = ltb t (timer_limit d.0)
limit_of e (ValidateCnf s n c x) b = ltb x result_limit
limit_of e (SlacMatchReq c s r) b = ids_right e b
limit_of e (SlacMatchCnf s c r n k) b = ids_right e b && ltb n.0 (2 ^ 54)
limit_of e (AttenProfileInd m s c g) b = groups_right e g b

same_bool : (x y : Bool) → (x ≡ true → y ≡ true) → (y ≡ true → x ≡ true) → x ≡ y
same_bool true y f g = sym (f refl)
same_bool false true f g = absurd (false≢true (g refl))
same_bool false false f g = refl

-- values that fit where one of them is below its limit
by_limit : (fs : List Field) (vs : Values fs) (v b : ℕ) → (v < b → Fits fs vs) → (Fits fs vs → v < b) → ltb v b ≡ fits fs vs
by_limit fs vs v b f g = same_bool (ltb v b) (fits fs vs) (λ e. from_fits fs vs (f (ltb-true v b e))) (λ e. lt-ltb v b (g (to_fits fs vs e)))

module _ (e : Edition) (b : Beside) (w : Whole b) where
  -- the two identifiers fit their fields
  abbrev IdFits : List ℕ → Type 0
  IdFits l = (length l ≡ id_octets) × (zeros (any_id e) l 0 id_octets ≡ true)

  ids_fit : ids_right e b ≡ true → IdFits b.first × IdFits b.second
  ids_fit h = ((w.first, and_left (id_right e b.first) _ h), (w.second, and_right (id_right e b.first) _ h))

  -- the group values fit theirs
  groups_fit : (g : ℕ) → groups_right e g b ≡ true → (is_count e g ≡ true) × (g < 256 ^ 1) × (length b.groups ≡ g + (group_count - g)) × (value b.groups g (group_count - g) ≡ 0)
  groups_fit g h =
      let c = and_left (is_count e g) _ h in
      let l = count_le e (some 0) g c in
      (c, omega arith, omega (arith, w.groups), eqb-true (value b.groups g (group_count - g)) 0 (and_right (is_count e g) _ h))

  match_fits : (v car station run : ℕ) (fs : List Field) (vs : Values fs) → v < 256 ^ 2 → car < 256 ^ 6 → station < 256 ^ 6 → run < 2 ^ 64 → ids_right e b ≡ true → Fits fs vs
      → Fits (match_fields e v car station fs) (b.first, (b.second, (run, vs)))
  match_fits v car station run fs vs v< c s r i h =
      let q = ids_fit i in
      (zero_fits 2, (v<, (q.0, (c, (q.1, (s, (r, (zero_fits 8, h))))))))

  match_ids : (v car station run : ℕ) (fs : List Field) (vs : Values fs) → Fits (match_fields e v car station fs) (b.first, (b.second, (run, vs))) → ids_right e b ≡ true
  match_ids v car station run fs vs h = ap₂ ◌&&◌ h.1.1.0.1 h.1.1.1.1.0.1

  key_fits : (nid k l : ℕ) → nid < 2 ^ 54 → k < 2 ^ 64 → l < 2 ^ 64 → Fits key_fields (nid, (k, (l, tt)))
  key_fits nid k l n x y = ((n, omega arith), (zero_fits 1, (x, (y, tt))))

  -- a message's values fit, but for what is left to test
  limits : (m : Message) → Typed m → is_addressed (message_of e m b) ≡ true → limit_of e m b ≡ is_limited (message_of e m b)
  limits (SlacParmReq c r) t a = sym (from_fits (payload e table.slac_parm_req 0 broadcast c.0) (r.0, tt) (zero_fits 2, (t, tt)))
  limits (SlacParmCnf s c u r) t a =
      let fs = payload e table.slac_parm_cnf 0 c.0 s.0 in
      let vs : Values fs = (u.0, (r.0, tt)) in
      let d = addressed_lt e table.slac_parm_cnf 0 c.0 s.0 vs a in
      same_bool (is_attempt e u.0) (fits fs vs)
      (λ q. from_fits fs vs (omega arith, ((q, attempt_lt e u.0 q), (resp_lt e, (forwarding_lt e c.0 d.0, (zero_fits 2, (t, tt)))))))
      (λ q. (to_fits fs vs q).1.0.0)
  limits (StartAttenCharInd c u r) t a =
      let fs = payload e table.start_atten_char_ind 0 broadcast c.0 in
      let vs : Values fs = (u.0, (r.0, tt)) in
      let d = addressed_lt e table.start_atten_char_ind 0 broadcast c.0 vs a in
      same_bool (is_attempt e u.0) (fits fs vs)
      (λ q. from_fits fs vs (zero_fits 2, ((q, attempt_lt e u.0 q), (resp_lt e, (forwarding_lt e c.0 d.1, (t, tt))))))
      (λ q. (to_fits fs vs q).1.0.0)
  limits (AttenCharInd s c r n g) t a =
      let fs = payload e table.atten_char_ind g c.0 s.0 in
      let vs : Values fs = (r.0, (b.first, (b.second, (n, (b.groups, tt))))) in
      let d = addressed_lt e table.atten_char_ind g c.0 s.0 vs a in
      same_bool (ids_right e b && groups_right e g b) (is_count e g && fits fs vs)
      (λ q.
      let i = ids_fit (and_left (ids_right e b) _ q) in
      let x = groups_fit g (and_right (ids_right e b) _ q) in
      ap₂ ◌&&◌ x.0 (from_fits fs vs (zero_fits 2, (d.0, (t.0, (i.0, (i.1, (t.1, (x.1, ((x.2, x.3), tt)))))))))
      )
      (λ q.
      let x = (to_fits fs vs (and_right (is_count e g) _ q)).1.1.1 in
      ap₂ ◌&&◌ (ap₂ ◌&&◌ x.0.1 x.1.0.1) (ap₂ ◌&&◌ (and_left (is_count e g) _ q) (eq-eqb _ 0 x.1.1.1.1.0.1))
      )
  limits (AttenCharRsp c s r) t a =
      let fs = payload e table.atten_char_rsp 0 s.0 c.0 in
      let vs : Values fs = (r.0, (b.first, (b.second, tt))) in
      let d = addressed_lt e table.atten_char_rsp 0 s.0 c.0 vs a in
      same_bool (ids_right e b) (fits fs vs)
      (λ q. let i = ids_fit q in from_fits fs vs (zero_fits 2, (d.1, (t, (i.0, (i.1, (zero_fits 1, tt)))))))
      (λ q. let x = (to_fits fs vs q).1.1.1 in ap₂ ◌&&◌ x.0.1 x.1.0.1)
  limits (MnbcSoundInd c n r x) t a =
      let fs = payload e table.mnbc_sound_ind 0 broadcast c.0 in
      let vs : Values fs = (b.first, (n, (r.0, (x.0, (x.1, tt))))) in
      same_bool (id_right e b.first) (fits fs vs)
      (λ q. from_fits fs vs (zero_fits 2, ((w.first, q), (t.0, (t.1, (zero_fits 8, (t.2, (t.3, tt))))))))
      (λ q. (to_fits fs vs q).1.0.1)
  limits (ValidateReq c t d) h a =
      by_limit (payload e table.validate_req 0 d.0 c.0) (t, tt) t (timer_limit d.0) (λ q. (zero_fits 1, ((q, h), (omega arith, tt)))) (λ q. q.1.0.0)
  limits (ValidateCnf s n c x) h a =
      by_limit (payload e table.validate_cnf 0 c.0 s.0) (n, (x, tt)) x result_limit (λ q. (zero_fits 1, (h.0, ((q, h.1), tt)))) (λ q. q.1.1.0.0)
  limits (SlacMatchReq c s r) t a =
      let fs = payload e table.slac_match_req 0 s.0 c.0 in
      let vs : Values fs = (b.first, (b.second, (r.0, tt))) in
      let d = addressed_lt e table.slac_match_req 0 s.0 c.0 vs a in
      same_bool (ids_right e b) (fits fs vs)
      (λ q. from_fits fs vs (match_fits 0x3E00 c.0 s.0 r.0 [] tt (omega arith) d.1 d.0 t q tt))
      (λ q. match_ids 0x3E00 c.0 s.0 r.0 [] tt (to_fits fs vs q))
  limits (SlacMatchCnf s c r n k) t a =
      let fs = payload e table.slac_match_cnf 0 c.0 s.0 in
      let keys : Values key_fields = (n.0, (k.0, (k.1, tt))) in
      let vs : Values fs = (b.first, (b.second, (r.0, keys))) in
      let d = addressed_lt e table.slac_match_cnf 0 c.0 s.0 vs a in
      same_bool (ids_right e b && ltb n.0 (2 ^ 54)) (fits fs vs)
      (λ q. from_fits fs vs
      (match_fits 0x5600 c.0 s.0 r.0 key_fields keys (omega arith) d.0 d.1 t.0 (and_left (ids_right e b) _ q)
      (key_fits n.0 k.0 k.1 (ltb-true n.0 (2 ^ 54) (and_right (ids_right e b) _ q)) t.1 t.2)))
      (λ q. let x = to_fits fs vs q in ap₂ ◌&&◌ (match_ids 0x5600 c.0 s.0 r.0 key_fields keys x) (lt-ltb n.0 (2 ^ 54) x.1.1.1.1.1.1.1.1.0.0))
  limits (AttenProfileInd m s c g) t a =
      let fs = payload e table.atten_profile_ind g s.0 m.0 in
      let vs : Values fs = (c.0, (b.groups, tt)) in
      let u = unicast_lt c.0 (and_right (is_unicast m.0 && is_unicast s.0) _ a) in
      same_bool (groups_right e g b) (is_count e g && fits fs vs)
      (λ q. let x = groups_fit g q in ap₂ ◌&&◌ x.0 (from_fits fs vs (u, (x.1, (zero_fits 1, ((x.2, x.3), tt))))))
      (λ q. let x = to_fits fs vs (and_right (is_count e g) _ q) in ap₂ ◌&&◌ (and_left (is_count e g) _ q) (eq-eqb _ 0 x.1.1.1.0.1))

-- a head, and the two tests that come before it is written
pub record Tested : Type 0 where
  pub head : Head
  pub addressed : Bool
  pub limited : Bool

-- those of a message of this kind with so many group values, whose source is tested too
abbrev pub tested : Kind → ℕ → ℕ → ℕ → Bool → Bool → Tested
tested k g d f a l = record { head = record { form = record { kind = k; count = g }; dst = d; src = f }; addressed = is_unicast f && a; limited = l }

-- those that each message has
abbrev pub head_in : Edition → Message → Beside → Tested
head_in e (SlacParmReq c r) b = tested kind.SlacParmReq 0 broadcast c.0 true true
head_in e (SlacParmCnf s c t r) b = tested kind.SlacParmCnf 0 c.0 s.0 (is_unicast c.0) (is_attempt e t.0)
head_in e (StartAttenCharInd c t r) b = tested kind.StartAttenCharInd 0 broadcast c.0 true (is_attempt e t.0)
head_in e (AttenCharInd s c r n g) b = tested kind.AttenCharInd g c.0 s.0 (is_unicast c.0) (ids_right e b && groups_right e g b)
head_in e (AttenCharRsp c s r) b = tested kind.AttenCharRsp 0 s.0 c.0 (is_unicast s.0) (ids_right e b)
head_in e (MnbcSoundInd c n r x) b = tested kind.MnbcSoundInd 0 broadcast c.0 true (id_right e b.first)
head_in e (ValidateReq c t d) b = tested kind.ValidateReq 0 d.0 c.0 (is_receiver d.0) (ltb t (timer_limit d.0))
head_in e (ValidateCnf s n c x) b = tested kind.ValidateCnf 0 c.0 s.0 (is_unicast c.0) (ltb x result_limit)
head_in e (SlacMatchReq c s r) b = tested kind.SlacMatchReq 0 s.0 c.0 (is_unicast s.0) (ids_right e b)
head_in e (SlacMatchCnf s c r n k) b = tested kind.SlacMatchCnf 0 c.0 s.0 (is_unicast c.0) (ids_right e b && ltb n.0 (2 ^ 54))
head_in e (AttenProfileInd m s c g) b = tested kind.AttenProfileInd g s.0 m.0 (is_unicast s.0 && is_unicast c.0) (groups_right e g b)

-- t is the head of m with m's tests
pub record HeadOf (t : Tested) (m : table.Message) : Type 0 where
  pub heads : Heads t.head m
  pub addressed : t.addressed ≡ is_addressed m
  pub limited : is_addressed m ≡ true → t.limited ≡ is_limited m

module _ (e : Edition) (b : Beside) (w : Whole b) where
  head_in_lem : (m : Message) → Typed m → HeadOf (head_in e m b) (message_of e m b)
  head_in_lem (SlacParmReq c r) t = record { heads = record { kind = refl; count = refl; dst = refl; src = refl }; addressed = refl; limited = limits e b w (SlacParmReq c r) t }
  head_in_lem (SlacParmCnf s c u r) t = record { heads = record { kind = refl; count = refl; dst = refl; src = refl }; addressed = refl; limited = limits e b w (SlacParmCnf s c u r) t }
  head_in_lem (StartAttenCharInd c u r) t = record { heads = record { kind = refl; count = refl; dst = refl; src = refl }; addressed = refl; limited = limits e b w (StartAttenCharInd c u r) t }
  head_in_lem (AttenCharInd s c r n g) t = record { heads = record { kind = refl; count = refl; dst = refl; src = refl }; addressed = refl; limited = limits e b w (AttenCharInd s c r n g) t }
  head_in_lem (AttenCharRsp c s r) t = record { heads = record { kind = refl; count = refl; dst = refl; src = refl }; addressed = refl; limited = limits e b w (AttenCharRsp c s r) t }
  head_in_lem (MnbcSoundInd c n r x) t = record { heads = record { kind = refl; count = refl; dst = refl; src = refl }; addressed = refl; limited = limits e b w (MnbcSoundInd c n r x) t }
  head_in_lem (ValidateReq c x d) t = record { heads = record { kind = refl; count = refl; dst = refl; src = refl }; addressed = refl; limited = limits e b w (ValidateReq c x d) t }
  head_in_lem (ValidateCnf s n c x) t = record { heads = record { kind = refl; count = refl; dst = refl; src = refl }; addressed = refl; limited = limits e b w (ValidateCnf s n c x) t }
  head_in_lem (SlacMatchReq c s r) t = record { heads = record { kind = refl; count = refl; dst = refl; src = refl }; addressed = refl; limited = limits e b w (SlacMatchReq c s r) t }
  head_in_lem (SlacMatchCnf s c r n k) t = record { heads = record { kind = refl; count = refl; dst = refl; src = refl }; addressed = refl; limited = limits e b w (SlacMatchCnf s c r n k) t }
  head_in_lem (AttenProfileInd m s c g) t = record { heads = record { kind = refl; count = refl; dst = refl; src = refl }; addressed = sym (and_assoc (is_unicast m.0) (is_unicast s.0) (is_unicast c.0)); limited = limits e b w (AttenProfileInd m s c g) t }

  -- as the code finds it: the message is m', and h is the head of m'
  pub headed : (h : Tested) (m m' : Message) → m ≡ m' → Typed m' → h ≡ head_in e m' b → HeadOf h (message_of e m b)
  headed h m m' r t q = subst (λ (x : Tested). HeadOf x (message_of e m b)) (sym q) (subst (λ (x : Message). HeadOf (head_in e m' b) (message_of e x b)) (sym r) (head_in_lem m' t))

  judged : (r : Result Head Refusal) (h : Head) (m : table.Message) (x y : Bool) → Heads h m → x ≡ is_addressed m → (is_addressed m ≡ true → y ≡ is_limited m)
      → checked_of r ≡ check x 5 (check y 6 (yes h)) → Judges r m
  judged (Ok g) h m true true k a l q = record { heads = subst (λ (z : Head). Heads z m) (cc) k; addressed = sym a; limited = sym (l (sym a)) }
  judged (Err z) h m true true k a l q = absurd (let z : ◌≡◌ {A = ℕ} 0 1 = cc in omega arith)
  judged (Ok g) h m true false k a l q = absurd (let z : ◌≡◌ {A = ℕ} 0 1 = cc in omega arith)
  judged (Err z) h m true false k a l q = λ y. rw (sym a, sym (l (sym a))) (ap no (cc))
  judged (Ok g) h m false y k a l q = absurd (let z : ◌≡◌ {A = ℕ} 0 1 = cc in omega arith)
  judged (Err z) h m false y k a l q = λ y. rw (sym a) (ap no (cc))

  -- the code's answer by the two tests of the message m', which is the message
  pub judges : {m m' : Message} → m ≡ m' → Typed m' → (r : Result Head Refusal) → checked_of r ≡ check (head_in e m' b).addressed 5 (check (head_in e m' b).limited 6 (yes (head_in e m' b).head)) → Judges r (message_of e m b)
  judges {m} {m'} q t r h =
      let k = head_in_lem m' t in
      subst (λ (x : Message). Judges r (message_of e x b)) (sym q) (judged r (head_in e m' b).head (message_of e m' b) (head_in e m' b).addressed (head_in e m' b).limited k.heads k.addressed k.limited h)

-- ---- the order of writing's refusals

module _ (m : table.Message) (l : List ℕ) where
  -- what a refusal gives: its number, and the output as it was
  abbrev pub Refuses : ℕ → Type 0
  Refuses n = (no n ≡ length_of (write_rules m (length l))) × (l ≡ splice 0 (octets_of (write_rules m (length l))) l)

  refuses : (n : ℕ) → no n ≡ write_rules m (length l) → Refuses n
  unfolding splice
  refuses n e = (ap length_of e, ap (λ (x : Checked (List ℕ)). splice 0 (octets_of x) l) e)

  pub refused : (x : Refusal) → Judges (Err x) m → Refuses (number_of x)
  unfolding write_rules
  refused x j = refuses (number_of x) (j _)

  module _ (a : is_addressed m ≡ true) where
    module _ (b : is_limited m ≡ true) where
      pub too_short : length l < length_in m → Refuses 15
      unfolding write_rules
      too_short h = refuses 15 (sym (pass (is_addressed m) 5 _ a ∙ pass (is_limited m) 6 _ b ∙ fail (leb (length_in m) (length l)) 15 _ (lt-leb (length_in m) (length l) h)))

      pub writes : length_in m ≤ length l → yes (frame m) ≡ write_rules m (length l)
      unfolding write_rules
      writes h = sym (pass (is_addressed m) 5 _ a ∙ pass (is_limited m) 6 _ b ∙ pass (leb (length_in m) (length l)) 15 _ (le-leb (length_in m) (length l) h))

-- what writing gives: the frame's length, and the frame in the output
pub written : (m : table.Message) → FullIn m → (l : List ℕ) → yes (frame m) ≡ write_rules m (length l) → length_in m ≤ length l
    → (yes (length_in m) ≡ length_of (write_rules m (length l))) × (sets l 0 (frame m) ≡ splice 0 (octets_of (write_rules m (length l))) l)
written m full l w h =
    let n : length (frame m) ≡ length_in m = length_frame m full in (
      ap yes (sym n) ∙ ap length_of w,
      sets_splice (frame m) l 0 (omega (arith, n)) ∙ ap (λ (x : Checked (List ℕ)). splice 0 (octets_of x) l) w,
    )

-- a message whose values fit has at most group_count group values
pub limited_most : (m : table.Message) → is_limited m ≡ true → m.count ≤ group_count
limited_most m h = count_le m.edition (count_at m.kind) m.count (and_left (is_counted m.edition (count_at m.kind) m.count) _ h)
