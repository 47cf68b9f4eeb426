-- Laws of what an accepted frame tells, and of the values that it gives.
use Prim.Native.Nat.{ℕ, ◌≤◌, ◌<◌}
use mathlib.Core.Path.{◌≡◌, refl, sym, ap, ◌∙◌, subst}
use mathlib.Core.Bool.{Bool, true, false, cond}
use mathlib.Core.List.{List}
use mathlib.Core.Logic.{◌⊎◌, inl, inr, ⊎_elim}
use native.Mathlib.Omega.{arith}
use borrow.Author.Tests.{ltb-true, eqb-true, le-leb, lt-leb}
use lib.Dec.{eqb, leb, ltb}
use lib.ListN.{length, get_or, take}
use lib.Seq.{sets}
use Rattle.messages.specs.Layout.{size, holds}
use Rattle.messages.specs.Table.{head}
use Rattle.messages.specs.Reading.{Checked, no, yes, check, type_in}
use Rattle.messages.specs.Writing.{length_of}
use Rattle.messages.proofs.CheckLaws.{pass, fail, passed}
use Rattle.amplitude.specs.Halves.{halves, octets_for}
use Rattle.amplitude.specs.Maps.{MapMessage, amp_map_req, amp_map_cnf, req_type, cnf_type, carrier_limit, is_carriers, count_size, req_size, cnf_size, filled, result_limit}
use Rattle.amplitude.specs.Reading.{dst_in, src_in, map_octets, request_rules, confirm_rules, read_rules, requested, confirmed, summary_in, summary_of, values_in, values_rules}
use Rattle.amplitude.proofs.AnswerLaws.{Gives, refuses, gives}
use Rattle.amplitude.proofs.ReadLaws.{carriers_in, map_in, result_in, Sized, sized_is, carriers_le, lent, map_lent, length_values}

-- ---- the message in a frame

-- a frame whose head is right and names the type t
pub record Headed (s : List ℕ) (t : ℕ) : Type 0 where
  pub fixed : holds 0 head s ≡ true
  pub type : type_in s ≡ t

-- s reads as the request m
pub record IsReq (s : List ℕ) (m : MapMessage) : Type 0 where
  pub headed : Headed s req_type
  pub carriers : is_carriers (carriers_in s) ≡ true
  pub sized : Sized (filled (req_size (carriers_in s))) s
  pub spare : get_or (halves (map_octets (carriers_in s) s)) (carriers_in s) 0 ≡ 0
  pub same : amp_map_req (dst_in s) (src_in s) (map_in (carriers_in s) s) ≡ m

-- s reads as the confirmation m
pub record IsCnf (s : List ℕ) (m : MapMessage) : Type 0 where
  pub headed : Headed s cnf_type
  pub sized : Sized (filled cnf_size) s
  pub limited : result_in s < result_limit
  pub same : amp_map_cnf (dst_in s) (src_in s) (result_in s) ≡ m

module _ (s : List ℕ) (m : MapMessage) where
  is_req : Headed s req_type → request_rules s ≡ yes m → IsReq s m
  is_req h e =
      let n : ℕ = carriers_in s in
      let got : MapMessage = amp_map_req (dst_in s) (src_in s) (map_in n s) in
      let one = passed (leb (filled count_size) (length s)) 1 _ m e in
      let two = passed (is_carriers n) 6 _ m one.1 in
      let three = sized_is (filled (req_size n)) s _ m two.1 in
      let four = passed (eqb (get_or (halves (map_octets n s)) n 0) 0) 6 (yes got) m three.1 in
      record {
        headed = h;
        carriers = two.0;
        sized = three.0;
        spare = eqb-true (get_or (halves (map_octets n s)) n 0) 0 four.0;
        same = let v : yes got ≡ yes m = four.1 in cc;
      }

  is_cnf : Headed s cnf_type → confirm_rules s ≡ yes m → IsCnf s m
  is_cnf h e =
      let got : MapMessage = amp_map_cnf (dst_in s) (src_in s) (result_in s) in
      let one = sized_is (filled cnf_size) s _ m e in
      let two = passed (ltb (result_in s) result_limit) 6 (yes got) m one.1 in
      record {
        headed = h;
        sized = one.0;
        limited = ltb-true (result_in s) result_limit two.0;
        same = let v : yes got ≡ yes m = two.1 in cc;
      }

  by_type_lem : (a b : Bool) → eqb (type_in s) req_type ≡ a → eqb (type_in s) cnf_type ≡ b → holds 0 head s ≡ true
      → cond a (request_rules s) (cond b (confirm_rules s) (no 3)) ≡ yes m → IsReq s m ⊎ IsCnf s m
  by_type_lem true b p q h e = inl (is_req (record { fixed = h; type = eqb-true (type_in s) req_type p }) e)
  by_type_lem false true p q h e = inr (is_cnf (record { fixed = h; type = eqb-true (type_in s) cnf_type q }) e)
  by_type_lem false false p q h e = absurd (let z : ◌≡◌ {A = ℕ} 0 1 = cc in omega arith)

  pub accepted : read_rules s ≡ yes m → IsReq s m ⊎ IsCnf s m
  unfolding read_rules
  accepted e =
      let one = passed (leb (size head) (length s)) 1 _ m e in
      let two = passed (holds 0 head s) 2 _ m one.1 in
      by_type_lem (eqb (type_in s) req_type) (eqb (type_in s) cnf_type) refl refl two.0 two.1

-- ---- what its summary tells

-- s reads as a request of n carriers
pub record Told (s : List ℕ) (d f n : ℕ) : Type 0 where
  pub whole : filled (req_size n) ≤ length s
  pub reads : read_rules s ≡ yes (amp_map_req d f (map_in n s))

told_by_lem : (s : List ℕ) (d f n : ℕ) (x : Checked MapMessage) → read_rules s ≡ x → yes (requested d f n) ≡ summary_of x → Told s d f n
told_by_lem s d f n (no k) q e = absurd (let z : ◌≡◌ {A = ℕ} 0 1 = cc in omega arith)
told_by_lem s d f n (yes m) q e = ⊎_elim
    (λ (r : IsReq s m).
    let t : yes (requested d f n) ≡ yes (summary_in m) = e in
    let u : requested (dst_in s) (src_in s) (length (map_in (carriers_in s) s)) ≡ summary_in m = ap summary_in r.same in
    let k : carriers_in s ≡ n = sym (length_values (carriers_in s) s r.sized.whole) ∙ (cc) in
    let a : dst_in s ≡ d = cc in
    let b : src_in s ≡ f = cc in
    let v : amp_map_req (dst_in s) (src_in s) (map_in (carriers_in s) s) ≡ amp_map_req d f (map_in n s) = rw (a, b, k) in
    record { whole = subst (λ (j : ℕ). filled (req_size j) ≤ length s) k r.sized.whole; reads = q ∙ ap yes (sym r.same ∙ v) })
    (λ (r : IsCnf s m).
    let t : yes (requested d f n) ≡ yes (summary_in m) = e in
    let u : confirmed (dst_in s) (src_in s) (result_in s) ≡ summary_in m = ap summary_in r.same in
    absurd (let z : ◌≡◌ {A = ℕ} 0 1 = cc in omega arith))
    (accepted s m q)

pub told : (s : List ℕ) (d f n : ℕ) → yes (requested d f n) ≡ summary_of (read_rules s) → Told s d f n
told s d f n e = told_by_lem s d f n (read_rules s) refl e

-- a request that was read has no more values than there can be carriers
pub carriers_few : (s : List ℕ) (d f : ℕ) (vs : List ℕ) → read_rules s ≡ yes (amp_map_req d f vs) → length vs ≤ carrier_limit
carriers_few s d f vs e = ⊎_elim
    (λ (r : IsReq s (amp_map_req d f vs)).
    let u : amp_map_req (dst_in s) (src_in s) (map_in (carriers_in s) s) ≡ amp_map_req d f vs = r.same in
    let v : map_in (carriers_in s) s ≡ vs = cc in
    omega (arith, ap length v, length_values (carriers_in s) s r.sized.whole, carriers_le (carriers_in s) r.carriers))
    (λ (r : IsCnf s (amp_map_req d f vs)).
    let u : amp_map_cnf (dst_in s) (src_in s) (result_in s) ≡ amp_map_req d f vs = r.same in
    absurd (let z : ◌≡◌ {A = ℕ} 0 1 = cc in omega arith))
    (accepted s (amp_map_req d f vs) e)

-- ---- the values call, by what was told

module _ (s out : List ℕ) where
  module _ (d f n : ℕ) (t : Told s d f n) where
    count : length (map_in n s) ≡ n
    count = length_values n s t.whole

    by_room : values_rules s (length out) ≡ check (leb (length (map_in n s)) (length out)) 15 (yes (map_in n s))
    unfolding values_rules
    by_room = ap (λ (x : Checked MapMessage). values_in x (length out)) t.reads

    pub values_given : n ≤ length out → (k : ℕ) → k ≡ octets_for n → (exit : List ℕ) → exit ≡ sets out 0 (take n (halves (lent k s))) → Gives (values_rules s (length out)) (yes n) out exit
    values_given h k e exit w =
        gives (values_rules s (length out)) (map_in n s) out exit n
        (by_room ∙ pass (leb (length (map_in n s)) (length out)) 15 _ (le-leb _ (length out) (omega (arith, count))))
        (sym count) (omega (arith, count)) (w ∙ ap (λ (l : List ℕ). sets out 0 (take n (halves l))) (map_lent n k s e))

    pub values_short : length out < n → Gives (values_rules s (length out)) (no 15) out out
    values_short h =
        refuses (values_rules s (length out)) 15 out
        (sym (ap length_of (by_room ∙ fail (leb (length (map_in n s)) (length out)) 15 _ (lt-leb _ (length out) (omega (arith, count))))))

  none_in : (d f r : ℕ) (x : Checked MapMessage) → yes (confirmed d f r) ≡ summary_of x → no 3 ≡ length_of (values_in x (length out))
  none_in d f r (no n) e = absurd (let z : ◌≡◌ {A = ℕ} 0 1 = cc in omega arith)
  none_in d f r (yes (amp_map_req d' f' vs)) e = absurd (let z : ◌≡◌ {A = ℕ} 0 1 = cc in omega arith)
  none_in d f r (yes (amp_map_cnf d' f' x)) e = refl

  pub values_none : (d f r : ℕ) → yes (confirmed d f r) ≡ summary_of (read_rules s) → Gives (values_rules s (length out)) (no 3) out out
  unfolding values_rules
  values_none d f r e = refuses (values_rules s (length out)) 3 out (none_in d f r (read_rules s) e)

  refused_in : (n : ℕ) (x : Checked MapMessage) → no n ≡ summary_of x → no n ≡ length_of (values_in x (length out))
  refused_in n (no k) e = ap no (cc)
  refused_in n (yes m) e = absurd (let z : ◌≡◌ {A = ℕ} 0 1 = cc in omega arith)

  pub values_refused : (n : ℕ) → no n ≡ summary_of (read_rules s) → Gives (values_rules s (length out)) (no n) out out
  unfolding values_rules
  values_refused n e = refuses (values_rules s (length out)) n out (refused_in n (read_rules s) e)
