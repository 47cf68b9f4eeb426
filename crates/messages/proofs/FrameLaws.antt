-- Laws of a whole frame: the payload behind the head, what an accepted frame tells, and its group values.
use Rattle.std.specs.Prelude.{Result, Err}
use Prim.Native.Nat.{ℕ, ◌+◌, ◌-◌, ◌≤◌}
use mathlib.Core.Path.{◌≡◌, refl, sym, ap, ap₂, ◌∙◌, subst}
use mathlib.Core.Bool.{Bool, true, false, cond}
use mathlib.Core.Logic.{◌⊎◌, inl, inr}
use mathlib.Core.List.{List, [], ◌∷◌, ◌++◌}
use mathlib.Core.Option.{Option, none, some}
use native.Mathlib.Omega.{arith}
use borrow.Author.Tests.{eqb-true, leb-true}
use lib.Dec.{eqb, leb}
use lib.ListN.{length, take, drop, replicate, length-replicate}
use lib.Seq.{drop-drop, sets}
use Rattle.octets.specs.Octets.{value, low_value, part}
use Rattle.messages.specs.Layout.{Values, size, holds, filled, read}
use Rattle.messages.specs.Table as table
use Rattle.messages.specs.Table.{group_count, id_octets, type_of, count_at, payload_size, head, filled_size, written_size, payload, is_counted, addressed}
use Rattle.messages.specs.Reading.{Checked, no, yes, check, Form, of_type, kinds, count_rules, sized, typed, kind_rules, payload_rules, frame_rules, read_rules, no_groups, no_id, Beside, beside_in, beside_of}
use Rattle.messages.specs.Writing.{is_addressed}
use Rattle.messages.specs.declared.Edition.{Edition}
use Rattle.messages.specs.Answers.{number_of, message_of}
use Rattle.messages.specs.Private.{kind_of, Reads, PayloadOf}
use Rattle.messages.specs.declared.CarAddress.{CarAddress}
use Rattle.messages.specs.declared.StationAddress.{StationAddress}
use Rattle.messages.specs.declared.Nid.{Nid}
use Rattle.messages.specs.declared.Nmk.{Nmk}
use Rattle.messages.specs.declared.RunId.{RunId}
use Rattle.messages.specs.declared.Random.{Random}
use Rattle.messages.specs.declared.Message.{Message}
use Rattle.messages.specs.declared.Message.TheVariants.{AttenCharInd, AttenCharRsp, MnbcSoundInd, SlacMatchReq, SlacMatchCnf}
use Rattle.messages.specs.declared.Refusal.{Refusal}
use Rattle.messages.specs.declared.kinds.Kind.{Kind}
use Rattle.octets.proofs.OctetLaws.{length_part, sets_zeros, sets_whole}
use Rattle.messages.proofs.LayoutLaws.{holds_take, read_take}
use Rattle.messages.proofs.CheckLaws.{passed}
use Rattle.messages.proofs.TableLaws.{size_payload, counted, count_le}
use Rattle.messages.proofs.ReadLaws.{Bare, bare}

-- ---- the payload, as the code lends it: the part behind the head that its row of the table says

payload_part : (e : Edition) (k : table.Kind) (g d f n : ℕ) (p : List ℕ) → payload_size k g ≤ n → payload_rules e k g d f (take n p) ≡ payload_rules e k g d f p
payload_part e k g d f n p h =
    let room : 0 + size (payload e k g d f) ≤ n = rw (size_payload e k g d f) (omega arith) in
    ap₂ (λ (v : Values (payload e k g d f)) (b : Bool). check (addressed e k g d f v) 5 (check b 6 (yes (record { edition = e; kind = k; count = g; dst = d; src = f; values = v }))))
    (read_take n p (payload e k g d f) 0 room) (holds_take n p (payload e k g d f) 0 room)

module _ (e : Edition) (s : List ℕ) where
  payload_reads : {n : ℕ} {e' : Edition} {p : List ℕ} {d f : ℕ} → PayloadOf e s n e' p d f → {i j : Kind} → i ≡ j → {c g : ℕ} → c ≡ g → (r : Result Message Refusal)
      → Reads e' r (payload_rules e' (kind_of j) g d f p) → payload_size (kind_of j) g ≤ n → Reads e r (frame_rules e (yes (record { kind = kind_of i; count = c })) s)
  payload_reads {n} o {i} {j} q {c} {g} m r h w =
      subst (Reads e r)
      (payload_part e (kind_of j) g (value s 0 6) (value s 6 6) n (drop (size head) s) w
      ∙ ap₂ (λ (k : Kind) (l : ℕ). frame_rules e (yes (record { kind = kind_of k; count = l })) s) (sym q) (sym m))
      (rw (o.edition, o.octets, o.dst, o.src) at h)

  -- a kind without group values
  pub bare_reads : {n : ℕ} {e' : Edition} {p : List ℕ} {d f : ℕ} → PayloadOf e s n e' p d f → {i j : Kind} → i ≡ j → (c : ℕ) → is_counted e (count_at (kind_of i)) c ≡ true → (r : Result Message Refusal)
      → Reads e' r (payload_rules e' (kind_of j) 0 d f p) → count_at (kind_of j) ≡ none → payload_size (kind_of j) 0 ≤ n → Reads e r (frame_rules e (yes (record { kind = kind_of i; count = c })) s)
  bare_reads o {i} {j} q c t r h b w = payload_reads o q (subst (λ (x : Option ℕ). Bare x c) (ap (λ (k : Kind). count_at (kind_of k)) q ∙ b) (bare e (count_at (kind_of i)) c t)) r h w

  -- a kind with group values, as many as it was found to have
  pub counted_reads : {n : ℕ} {e' : Edition} {p : List ℕ} {d f : ℕ} → PayloadOf e s n e' p d f → {i j : Kind} → i ≡ j → (c : ℕ) (r : Result Message Refusal)
      → Reads e' r (payload_rules e' (kind_of j) c d f p) → payload_size (kind_of j) c ≤ n → Reads e r (frame_rules e (yes (record { kind = kind_of i; count = c })) s)
  counted_reads o q c r h w = payload_reads o q refl r h w

  pub frame_reads : (r : Result Message Refusal) (h : Checked Form) → h ≡ kind_rules e s → Reads e r (frame_rules e h s) → Reads e r (read_rules e s)
  unfolding read_rules
  frame_reads r h q x = subst (Reads e r) (ap (λ (t : Checked Form). frame_rules e t s) q) x

  pub refusal_reads : (x : Refusal) → no (number_of x) ≡ kind_rules e s → Reads e (Err x) (read_rules e s)
  refusal_reads x q = frame_reads (Err x) (no (number_of x)) q refl

-- ---- what an accepted frame tells

-- the row that was found has the type
of_type_lem : (t : ℕ) (ks : List table.Kind) (k : table.Kind) → of_type t ks ≡ some k → t ≡ type_of k
of_type_lem t [] k e = absurd (let z : ◌≡◌ {A = ℕ} 0 1 = cc in omega arith)
of_type_lem t (j ∷ ks) k e = go (eqb t (type_of j)) refl e (of_type_lem t ks k)
  where
    go : (b : Bool) → eqb t (type_of j) ≡ b → cond b (some j) (of_type t ks) ≡ some k → (of_type t ks ≡ some k → t ≡ type_of k) → t ≡ type_of k
    go true q w r = let same : j ≡ k = cc in eqb-true t (type_of j) q ∙ ap type_of same
    go false q w r = r w

module _ (e : Edition) (s : List ℕ) (t : Form) where
  abbrev Told : table.Kind → ℕ → Type 0
  Told k g = (is_counted e (count_at k) g ≡ true) × (filled_size k g ≤ length s)

  sized_is : (j : table.Kind) (c : Checked ℕ) → count_rules e (count_at j) s ≡ c → sized j (length s) c ≡ yes t → (j ≡ t.kind) × Told t.kind t.count
  sized_is j (no x) q w = absurd (let z : ◌≡◌ {A = ℕ} 0 1 = cc in omega arith)
  sized_is j (yes g) q w =
      let one = passed (leb (filled_size j g) (length s)) 1 _ t w in
      let two = passed (leb (length s) (written_size j g)) 4 _ t one.1 in
      let form : Form = record { kind = j; count = g } in
      let same : form ≡ t = let v : yes form ≡ yes t = two.1 in cc in
      (ap (λ (u : Form). u.kind) same, subst (λ (u : Form). Told u.kind u.count) same (counted e (count_at j) s g q, leb-true (filled_size j g) (length s) one.0))

  typed_is : (o : Option table.Kind) → typed e o s ≡ yes t → (o ≡ some t.kind) × Told t.kind t.count
  typed_is none w = absurd (let z : ◌≡◌ {A = ℕ} 0 1 = cc in omega arith)
  typed_is (some j) w = let x = sized_is j (count_rules e (count_at j) s) refl w in (ap some x.0, x.1)

  -- a frame of form t: its head is right, it has that type, its group count is right, and its payload is whole
  pub record Found : Type 0 where
    pub fixed : holds 0 head s ≡ true
    pub type : low_value s 15 2 ≡ type_of t.kind
    pub counts : is_counted e (count_at t.kind) t.count ≡ true
    pub filled : filled_size t.kind t.count ≤ length s

  pub found : kind_rules e s ≡ yes t → Found
  unfolding kind_rules
  found w =
      let one = passed (leb (size head) (length s)) 1 _ t w in
      let two = passed (holds 0 head s) 2 _ t one.1 in
      let three = typed_is (of_type (low_value s 15 2) kinds) two.1 in
      record { fixed = two.0; type = of_type_lem (low_value s 15 2) kinds t.kind three.0; counts = three.1.0; filled = three.1.1 }

-- the message in a frame of form t
abbrev pub in_frame : Edition → Form → List ℕ → table.Message
in_frame e t s = record { edition = e; kind = t.kind; count = t.count; dst = value s 0 6; src = value s 6 6; values = read 0 (payload e t.kind t.count (value s 0 6) (value s 6 6)) (drop (size head) s) }

-- a frame that reads as m: its form, its tests, and that m is what stands in it
pub record Accepted (e : Edition) (s : List ℕ) (m : table.Message) : Type 0 where
  pub form : Form
  pub found : Found e s form
  pub right : is_addressed (in_frame e form s) ≡ true
  pub holding : holds 0 (payload e form.kind form.count (value s 0 6) (value s 6 6)) (drop (size head) s) ≡ true
  pub same : in_frame e form s ≡ m

by_form : (e : Edition) (s : List ℕ) (m : table.Message) (h : Checked Form) → kind_rules e s ≡ h → frame_rules e h s ≡ yes m → Accepted e s m
by_form e s m (no n) q w = absurd (let z : ◌≡◌ {A = ℕ} 0 1 = cc in omega arith)
by_form e s m (yes t) q w =
    let one = passed (is_addressed (in_frame e t s)) 5 _ m w in
    let two = passed (holds 0 (payload e t.kind t.count (value s 0 6) (value s 6 6)) (drop (size head) s)) 6 _ m one.1 in
    let r : in_frame e t s ≡ m = let v : yes (in_frame e t s) ≡ yes m = two.1 in cc in
    record { form = t; found = found e s t q; right = one.0; holding = two.0; same = r }

pub accepted : (e : Edition) (s : List ℕ) (m : table.Message) → read_rules e s ≡ yes m → Accepted e s m
unfolding read_rules
accepted e s m w = by_form e s m (kind_rules e s) refl w

-- ---- what stands beside the numbers

-- a kind's part of it, with as many octets as `wide` says of the count, stands at a place of the payload
pub record Stands (j : table.Kind) (pick : Beside → List ℕ) (at : ℕ) (wide : ℕ → ℕ) (get : ℕ → List ℕ → List ℕ) : Type 0 where
  pub reads : (e : Edition) (g d f : ℕ) (p : List ℕ) → pick (beside_in e j g d f (read 0 (payload e j g d f) p)) ≡ get g (drop at p)
  pub room : (g : ℕ) → at + wide g ≤ payload_size j g

-- group values, and an identifier, in the octets from their place on
abbrev pub groups_from : ℕ → List ℕ → List ℕ
groups_from g l = take g l ++ replicate (group_count - g) 0

abbrev pub id_from : ℕ → List ℕ → List ℕ
id_from g l = take id_octets l

abbrev pub GroupsAt : table.Kind → ℕ → Type 0
GroupsAt j at = Stands j (λ b. b.groups) at (λ g. g) groups_from

abbrev pub FirstAt : table.Kind → ℕ → Type 0
FirstAt j at = Stands j (λ b. b.first) at (λ g. id_octets) id_from

abbrev pub SecondAt : table.Kind → ℕ → Type 0
SecondAt j at = Stands j (λ b. b.second) at (λ g. id_octets) id_from

pub atten_char_ind_groups : GroupsAt table.atten_char_ind 52
atten_char_ind_groups = record { reads = λ e g d f p. refl; room = λ g. omega arith }

pub atten_profile_ind_groups : GroupsAt table.atten_profile_ind 8
atten_profile_ind_groups = record { reads = λ e g d f p. refl; room = λ g. omega arith }

pub atten_char_ind_ids : FirstAt table.atten_char_ind 16 × SecondAt table.atten_char_ind 33
atten_char_ind_ids = (record { reads = λ e g d f p. refl; room = λ g. omega arith }, record { reads = λ e g d f p. refl; room = λ g. omega arith })

pub atten_char_rsp_ids : FirstAt table.atten_char_rsp 16 × SecondAt table.atten_char_rsp 33
atten_char_rsp_ids = (record { reads = λ e g d f p. refl; room = λ g. omega arith }, record { reads = λ e g d f p. refl; room = λ g. omega arith })

pub mnbc_sound_ind_id : FirstAt table.mnbc_sound_ind 2
mnbc_sound_ind_id = record { reads = λ e g d f p. refl; room = λ g. omega arith }

pub slac_match_req_ids : FirstAt table.slac_match_req 4 × SecondAt table.slac_match_req 27
slac_match_req_ids = (record { reads = λ e g d f p. refl; room = λ g. omega arith }, record { reads = λ e g d f p. refl; room = λ g. omega arith })

pub slac_match_cnf_ids : FirstAt table.slac_match_cnf 4 × SecondAt table.slac_match_cnf 27
slac_match_cnf_ids = (record { reads = λ e g d f p. refl; room = λ g. omega arith }, record { reads = λ e g d f p. refl; room = λ g. omega arith })

-- a frame that reads as a message of that kind with that count
module _ (e : Edition) (s : List ℕ) (m : table.Message) (n : ℕ) (c : m.count ≡ n) (q : yes m ≡ read_rules e s) where
  abbrev form : Accepted e s m
  form = accepted e s m (sym q)

  same_count : form.form.count ≡ n
  same_count = ap (λ (x : table.Message). x.count) form.same ∙ c

  pub count_most : n ≤ group_count
  count_most = subst (λ (g : ℕ). g ≤ group_count) same_count (count_le e (count_at form.form.kind) form.form.count form.found.counts)

  module _ {j : table.Kind} {pick : Beside → List ℕ} {at : ℕ} {wide : ℕ → ℕ} {get : ℕ → List ℕ → List ℕ} (x : Stands j pick at wide get) (same : m.kind ≡ j) where
    same_kind : form.form.kind ≡ j
    same_kind = ap (λ (y : table.Message). y.kind) form.same ∙ same

    at_kind : (k : table.Kind) (g d f : ℕ) (p : List ℕ) → k ≡ j → pick (beside_in e k g d f (read 0 (payload e k g d f) p)) ≡ get g (drop at p)
    at_kind k g d f p r = subst (λ (i : table.Kind). pick (beside_in e i g d f (read 0 (payload e i g d f) p)) ≡ get g (drop at p)) (sym r) (x.reads e g d f p)

    pub stands_room : size head + at + wide n ≤ length s
    stands_room = omega (arith, form.found.filled, x.room n, ap₂ payload_size same_kind same_count)

    pub stands_read : get n (drop (size head + at) s) ≡ pick (beside_of (read_rules e s))
    stands_read =
        sym (ap (λ (y : Checked table.Message). pick (beside_of y)) (sym q)
        ∙ ap (λ (y : table.Message). pick (beside_of (yes y))) (sym form.same)
        ∙ at_kind form.form.kind form.form.count (value s 0 6) (value s 6 6) (drop (size head) s) same_kind
        ∙ ap₂ get same_count (drop-drop at (size head) s))

-- the identifiers of a frame that reads as a value of the code, by the places where its kind has them
module _ (e : Edition) (s : List ℕ) where
  abbrev ReadAs : Message → Type 0
  ReadAs m = yes (message_of e m (beside_of (read_rules e s))) ≡ read_rules e s

  pub record IdsAt (a b : ℕ) : Type 0 where
    pub room : (size head + a + id_octets ≤ length s) × (size head + b + id_octets ≤ length s)
    pub read : (part s (size head + a) id_octets ≡ (beside_of (read_rules e s)).first) × (part s (size head + b) id_octets ≡ (beside_of (read_rules e s)).second)

  ids_at : {j : table.Kind} {a b : ℕ} (m : table.Message) → FirstAt j a × SecondAt j b → m.kind ≡ j → yes m ≡ read_rules e s → IdsAt a b
  ids_at m x k q = record {
    room = (stands_room e s m m.count refl q x.0 k, stands_room e s m m.count refl q x.1 k);
    read = (stands_read e s m m.count refl q x.0 k, stands_read e s m m.count refl q x.1 k);
  }

  pub profile_ids : (m : Message)
      → ((x : StationAddress) × (c : CarAddress) × (r : RunId) × (n : ℕ) × (g : ℕ) × (m ≡ AttenCharInd x c r n g)) ⊎ ((c : CarAddress) × (x : StationAddress) × (r : RunId) × (m ≡ AttenCharRsp c x r))
      → ReadAs m → IdsAt 16 33
  profile_ids m (inl (x, c, r, n, g, i)) q = ids_at _ atten_char_ind_ids refl (subst ReadAs i q)
  profile_ids m (inr (c, x, r, i)) q = ids_at _ atten_char_rsp_ids refl (subst ReadAs i q)

  pub match_ids : (m : Message)
      → ((c : CarAddress) × (x : StationAddress) × (r : RunId) × (m ≡ SlacMatchReq c x r)) ⊎ ((x : StationAddress) × (c : CarAddress) × (r : RunId) × (n : Nid) × (k : Nmk) × (m ≡ SlacMatchCnf x c r n k))
      → ReadAs m → IdsAt 4 27
  match_ids m (inl (c, x, r, i)) q = ids_at _ slac_match_req_ids refl (subst ReadAs i q)
  match_ids m (inr (x, c, r, n, k, i)) q = ids_at _ slac_match_cnf_ids refl (subst ReadAs i q)

  -- and its group values, so many
  pub groups_of : {j : table.Kind} {at : ℕ} {m m' : Message} → m ≡ m' → ReadAs m → GroupsAt j at → (message_of e m' (beside_of (read_rules e s))).kind ≡ j
      → let n = (message_of e m' (beside_of (read_rules e s))).count in ((n ≤ group_count) × (size head + at + n ≤ length s)) × (groups_from n (drop (size head + at) s) ≡ (beside_of (read_rules e s)).groups)
  groups_of i q x k =
      let w = subst ReadAs i q in
      ((count_most e s _ _ refl w, stands_room e s _ _ refl w x k), stands_read e s _ _ refl w x k)

  pub sound_id : (m : Message) {c : CarAddress} {n : ℕ} {r : RunId} {x : Random} → m ≡ MnbcSoundInd c n r x → ReadAs m
      → (size head + 2 + id_octets ≤ length s) × ((part s (size head + 2) id_octets ≡ (beside_of (read_rules e s)).first) × (no_id ≡ (beside_of (read_rules e s)).second))
  sound_id m {c} {n} {r} {x} i q =
      let w = subst ReadAs i q in (
        stands_room e s _ 0 refl w mnbc_sound_ind_id refl,
        (stands_read e s _ 0 refl w mnbc_sound_ind_id refl, ap (λ (y : Checked table.Message). (beside_of y).second) w),
      )

-- ---- arrays that are filled

pub groups_copied : (s : List ℕ) (at n : ℕ) → n ≤ group_count → at + n ≤ length s → sets no_groups 0 (part s at n) ≡ filled s at n (group_count - n)
unfolding no_groups
groups_copied s at n h r = sets_zeros (part s at n) group_count (group_count - n) (omega (arith, length_part s at n r))

pub id_copied : (s : List ℕ) (at : ℕ) → at + id_octets ≤ length s → sets no_id 0 (part s at id_octets) ≡ part s at id_octets
unfolding no_id
id_copied s at r = sets_whole (part s at id_octets) (replicate id_octets 0) (length_part s at id_octets r ∙ sym (length-replicate {A = ℕ} id_octets 0))
