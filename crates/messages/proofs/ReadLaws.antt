-- Laws of the rule of reading, for the readers' proofs.
use Rattle.std.specs.Prelude.{Result}
use Prim.Native.Nat.{ℕ, ◌+◌, ◌^◌, ◌≤◌, ◌<◌}
use mathlib.Core.Path.{◌≡◌, refl, sym, ap, ap₂, ◌∙◌}
use mathlib.Core.Bool.{Bool, true, false, ◌&&◌, and-true, and_assoc}
use mathlib.Core.List.{List, [], ◌∷◌}
use mathlib.Core.Option.{Option, none, some}
use native.Mathlib.Omega.{arith}
use borrow.Author.Tests.{eqb-true, lt-ltb, le-leb, lt-leb}
use lib.Dec.{eqb, leb, ltb}
use lib.ListN.{length}
use Rattle.octets.specs.Octets.{value, low_value, Octets}
use Rattle.messages.specs.Layout.{Field, is, number, such, low, free, octets, reserved, Values, size, zeros, holds, read}
use Rattle.messages.specs.Table as table
use Rattle.messages.specs.Table.{Kind, slac_parm_req, slac_parm_cnf, start_atten_char_ind, atten_char_ind, atten_char_rsp, mnbc_sound_ind, validate_req, validate_cnf, slac_match_req, slac_match_cnf, atten_profile_ind, count_at, head, broadcast, is_unicast, payload, is_counted, addressed}
use Rattle.messages.specs.Reading.{Checked, no, yes, check, Beside, Form, of_type, kinds, typed, type_in, headed, type_rules, kind_rules, payload_rules, beside_in}
use Rattle.messages.specs.Answers.{message_of, answer_of}
use Rattle.messages.specs.Private.{Reads}
use Rattle.messages.specs.declared.Edition.{Edition}
use Rattle.messages.specs.declared.Message.{Message}
use Rattle.messages.specs.declared.Message.TheVariants.{SlacParmReq, SlacParmCnf, StartAttenCharInd, AttenCharInd, AttenCharRsp, MnbcSoundInd, ValidateReq, ValidateCnf, SlacMatchReq, SlacMatchCnf, AttenProfileInd}
use Rattle.messages.specs.declared.Refusal.{Refusal}
use Rattle.octets.proofs.OctetLaws.{low_lt}
use Rattle.messages.proofs.LayoutLaws.{and_right}
use Rattle.messages.proofs.CheckLaws.{pass, fail}

-- the tests of a layout joined from the left, as the code joins them
abbrev pub joined : Bool → ℕ → List Field → List ℕ → Bool
joined b at [] s = b
joined b at (is n v ∷ fs) s = joined (b && eqb (value s at n) v) (at + n) fs s
joined b at (number n ∷ fs) s = joined b (at + n) fs s
joined b at (such n p ∷ fs) s = joined (b && p (value s at n)) (at + n) fs s
joined b at (low n m ∷ fs) s = joined (b && ltb (low_value s at n) m) (at + n) fs s
joined b at (free n m ∷ fs) s = joined (b && zeros m s at n) (at + n) fs s
joined b at (octets n z ∷ fs) s = joined b (at + n) fs s
joined b at (reserved n ∷ fs) s = joined b (at + n) fs s

pub joined_holds : (fs : List Field) (b : Bool) (at : ℕ) (s : List ℕ) → joined b at fs s ≡ (b && holds at fs s)
joined_holds [] b at s = sym (and-true b)
joined_holds (is n v ∷ fs) b at s = joined_holds fs (b && eqb (value s at n) v) (at + n) s ∙ and_assoc b (eqb (value s at n) v) (holds (at + n) fs s)
joined_holds (number n ∷ fs) b at s = joined_holds fs b (at + n) s
joined_holds (such n p ∷ fs) b at s = joined_holds fs (b && p (value s at n)) (at + n) s ∙ and_assoc b (p (value s at n)) (holds (at + n) fs s)
joined_holds (low n m ∷ fs) b at s = joined_holds fs (b && ltb (low_value s at n) m) (at + n) s ∙ and_assoc b (ltb (low_value s at n) m) (holds (at + n) fs s)
joined_holds (free n m ∷ fs) b at s = joined_holds fs (b && zeros m s at n) (at + n) s ∙ and_assoc b (zeros m s at n) (holds (at + n) fs s)
joined_holds (octets n z ∷ fs) b at s = joined_holds fs b (at + n) s
joined_holds (reserved n ∷ fs) b at s = joined_holds fs b (at + n) s

-- the value of the code that means a message, and that it does
abbrev pub message_in : (e : Edition) (k : Kind) (g d f : ℕ) → Values (payload e k g d f) → Message
message_in e slac_parm_req g d f vs = SlacParmReq (record { 0 = f }) (record { 0 = vs.0 })
message_in e slac_parm_cnf g d f vs = SlacParmCnf (record { 0 = f }) (record { 0 = d }) (record { 0 = vs.0 }) (record { 0 = vs.1.0 })
message_in e start_atten_char_ind g d f vs = StartAttenCharInd (record { 0 = f }) (record { 0 = vs.0 }) (record { 0 = vs.1.0 })
message_in e atten_char_ind g d f vs = AttenCharInd (record { 0 = f }) (record { 0 = d }) (record { 0 = vs.0 }) vs.1.1.1.0 g
message_in e atten_char_rsp g d f vs = AttenCharRsp (record { 0 = f }) (record { 0 = d }) (record { 0 = vs.0 })
message_in e mnbc_sound_ind g d f vs = MnbcSoundInd (record { 0 = f }) vs.1.0 (record { 0 = vs.1.1.0 }) (record { 0 = vs.1.1.1.0; 1 = vs.1.1.1.1.0 })
message_in e validate_req g d f vs = ValidateReq (record { 0 = f }) vs.0 (record { 0 = d })
message_in e validate_cnf g d f vs = ValidateCnf (record { 0 = f }) vs.0 (record { 0 = d }) vs.1.0
message_in e slac_match_req g d f vs = SlacMatchReq (record { 0 = f }) (record { 0 = d }) (record { 0 = vs.1.1.0 })
message_in e slac_match_cnf g d f vs = SlacMatchCnf (record { 0 = f }) (record { 0 = d }) (record { 0 = vs.1.1.0 }) (record { 0 = vs.1.1.1.0 }) (record { 0 = vs.1.1.1.1.0; 1 = vs.1.1.1.1.1.0 })
message_in e atten_profile_ind g d f vs = AttenProfileInd (record { 0 = f }) (record { 0 = d }) (record { 0 = vs.0 }) g

-- a kind without group values has the count 0
abbrev pub Bare : Option ℕ → ℕ → Type 0
Bare none g = g ≡ 0
Bare (some at) g = Unit {0}

pub bare : (e : Edition) (p : Option ℕ) (g : ℕ) → is_counted e p g ≡ true → Bare p g
bare e none g h = eqb-true g 0 h
bare e (some at) g h = tt

-- a destination that is tested to be broadcast may be called so, and a count of 0 so
to_all_lem : (u : Bool) (g d : ℕ) (m : ℕ → ℕ → table.Message) → g ≡ 0 → (u && eqb d broadcast) ≡ true → m 0 broadcast ≡ m g d
to_all_lem u g d m b q = ap₂ m (sym b) (sym (eqb-true d broadcast (and_right u _ q)))

message_in_lem : (e : Edition) (k : Kind) (g d f : ℕ) (vs : Values (payload e k g d f)) → Bare (count_at k) g → addressed e k g d f vs ≡ true
    → message_of e (message_in e k g d f vs) (beside_in e k g d f vs) ≡ record { edition = e; kind = k; count = g; dst = d; src = f; values = vs }
message_in_lem e slac_parm_req g d f vs b q = to_all_lem (is_unicast f) g d (λ n t. record { edition = e; kind = slac_parm_req; count = n; dst = t; src = f; values = vs }) b q
message_in_lem e slac_parm_cnf g d f vs b q = ap (λ (n : ℕ). record { edition = e; kind = slac_parm_cnf; count = n; dst = d; src = f; values = vs }) (sym b)
message_in_lem e start_atten_char_ind g d f vs b q = to_all_lem (is_unicast f) g d (λ n t. record { edition = e; kind = start_atten_char_ind; count = n; dst = t; src = f; values = vs }) b q
message_in_lem e atten_char_ind g d f vs b q = refl
message_in_lem e atten_char_rsp g d f vs b q = ap (λ (n : ℕ). record { edition = e; kind = atten_char_rsp; count = n; dst = d; src = f; values = vs }) (sym b)
message_in_lem e mnbc_sound_ind g d f vs b q = to_all_lem (is_unicast f) g d (λ n t. record { edition = e; kind = mnbc_sound_ind; count = n; dst = t; src = f; values = vs }) b q
message_in_lem e validate_req g d f vs b q = ap (λ (n : ℕ). record { edition = e; kind = validate_req; count = n; dst = d; src = f; values = vs }) (sym b)
message_in_lem e validate_cnf g d f vs b q = ap (λ (n : ℕ). record { edition = e; kind = validate_cnf; count = n; dst = d; src = f; values = vs }) (sym b)
message_in_lem e slac_match_req g d f vs b q = ap (λ (n : ℕ). record { edition = e; kind = slac_match_req; count = n; dst = d; src = f; values = vs }) (sym b)
message_in_lem e slac_match_cnf g d f vs b q = ap (λ (n : ℕ). record { edition = e; kind = slac_match_cnf; count = n; dst = d; src = f; values = vs }) (sym b)
message_in_lem e atten_profile_ind g d f vs b q = refl

-- an answer that goes by the rule's two tests and holds the message in the payload is the rule's
module _ (e : Edition) (k : Kind) (g d f : ℕ) (p : List ℕ) (r : Result Message Refusal) where
  abbrev values : Values (payload e k g d f)
  values = read 0 (payload e k g d f) p

  abbrev Decided : Bool → Bool → Type 0
  Decided a b = (z : Beside) → answer_of e r z ≡ check a 5 (check b 6 (yes (message_of e (message_in e k g d f values) z)))

  by_tests : (a b : Bool) → Bare (count_at k) g → Decided a b → (a ≡ true → addressed e k g d f values ≡ true)
      → Reads e r (check a 5 (check b 6 (yes (record { edition = e; kind = k; count = g; dst = d; src = f; values = values }))))
  by_tests true true n h q = h (beside_in e k g d f values) ∙ ap yes (message_in_lem e k g d f values n (q refl))
  by_tests true false n h q = h _
  by_tests false b n h q = h _

  pub decided : Bare (count_at k) g → Decided (addressed e k g d f values) (joined true 0 (payload e k g d f) p) → Reads e r (payload_rules e k g d f p)
  decided n h = rw (joined_holds (payload e k g d f) true 0 p) at (by_tests (addressed e k g d f values) (joined true 0 (payload e k g d f) p) n h (λ q. q))

-- the type of a frame whose octets are octets, as the code finds it
module _ (s : List ℕ) where
  abbrev fixed : Bool
  fixed = eqb (value s 12 3) 0x88E101 && eqb (value s 17 2) 0

  head_holds : Octets s → holds 0 head s ≡ fixed
  head_holds o = simp (lt-ltb (low_value s 15 2) (2 ^ 16) (low_lt s 15 2 o), and-true)

  pub type_short : length s < size head → no 1 ≡ type_rules s
  unfolding type_rules
  type_short h = sym (fail (leb (size head) (length s)) 1 _ (lt-leb (size head) (length s) h))

  pub type_bad : Octets s → size head ≤ length s → fixed ≡ false → no 2 ≡ type_rules s
  unfolding type_rules
  type_bad o h q = sym (pass (leb (size head) (length s)) 1 _ (le-leb (size head) (length s) h) ∙ fail (holds 0 head s) 2 _ (head_holds o ∙ q))

  pub type_found : Octets s → size head ≤ length s → fixed ≡ true → yes (low_value s 15 2) ≡ type_rules s
  unfolding type_rules
  type_found o h q = sym (pass (leb (size head) (length s)) 1 _ (le-leb (size head) (length s) h) ∙ pass (holds 0 head s) 2 _ (head_holds o ∙ q))

-- what follows the head: f of the type that it names, or the head's refusal
module _ {A : Type 0} (f : ℕ → Checked A) where
  by_type_lem : (a b : Bool) (v t : ℕ) → yes t ≡ check a 1 (check b 2 (yes v)) → f t ≡ check a 1 (check b 2 (f v))
  by_type_lem true true v t q = ap f (cc)
  by_type_lem true false v t q = absurd (let z : ◌≡◌ {A = ℕ} 0 1 = cc in omega arith)
  by_type_lem false b v t q = absurd (let z : ◌≡◌ {A = ℕ} 0 1 = cc in omega arith)

  by_refusal : (a b : Bool) (v n : ℕ) → no n ≡ check a 1 (check b 2 (yes v)) → no n ≡ check a 1 (check b 2 (f v))
  by_refusal true true v n q = absurd (let z : ◌≡◌ {A = ℕ} 0 1 = cc in omega arith)
  by_refusal true false v n q = ap no (cc)
  by_refusal false b v n q = ap no (cc)

  pub after_type : (s : List ℕ) (t : ℕ) → yes t ≡ type_rules s → f t ≡ headed s (f (type_in s))
  unfolding type_rules
  after_type s t q = by_type_lem (leb (size head) (length s)) (holds 0 head s) (type_in s) t q

  pub after_refusal : (s : List ℕ) (n : ℕ) → no n ≡ type_rules s → no n ≡ headed s (f (type_in s))
  unfolding type_rules
  after_refusal s n q = by_refusal (leb (size head) (length s)) (holds 0 head s) (type_in s) n q

-- a frame's form, by the type that its head names
module _ (e : Edition) (s : List ℕ) where
  abbrev form : ℕ → Checked Form
  form t = typed e (of_type t kinds) s

  pub kind_typed : (t : ℕ) → yes t ≡ type_rules s → typed e (of_type t kinds) s ≡ kind_rules e s
  unfolding kind_rules
  kind_typed t q = after_type form s t q

  pub kind_refused : (n : ℕ) → no n ≡ type_rules s → no n ≡ kind_rules e s
  unfolding kind_rules
  kind_refused n q = after_refusal form s n q
