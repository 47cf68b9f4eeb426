-- Small laws of Bools and of checks.
use Rattle.std.proofs.Common.{◌≡◌, ℕ, Bool, true, false, cond, ◌||◌, eqb, List, [], ◌∷◌, sym, refl, ap, arith, eq-eqb, ne_eqb}
use Rattle.messages.specs.Reading.{Checked, no, yes, check}
use Rattle.ends.specs.Outcomes.{and_then, or_else}

pub split : {P : Type 0} (b : Bool) → (b ≡ true → P) → (b ≡ false → P) → P
split true t f = t refl
split false t f = f refl

pub clash : {P : Type 0} (b : Bool) → b ≡ true → b ≡ false → P
clash b p q = absurd (let z : ◌≡◌ {A = ℕ} 0 1 = cc in omega arith)

pub or_left : (a b : Bool) → a || b ≡ false → a ≡ false
or_left true b h = h
or_left false b h = refl

pub or_right : (a b : Bool) → a || b ≡ false → b ≡ false
or_right true b h = clash true refl h
or_right false b h = h

module _ {A : Type 0} where
  pub no_cons : (x : A) (xs : List A) → x ∷ xs ≡ [] → ⊥
  no_cons x xs p = let z : ◌≡◌ {A = ℕ} 0 1 = cc in omega arith

  -- what holds of an answer, where there is one
  abbrev pub OnYes : (A → Type 0) → Checked A → Type 0
  OnYes P (no n) = Unit {0}
  OnYes P (yes x) = P x

  pub on_check : (P : A → Type 0) (b : Bool) (n : ℕ) (w : Checked A) → (b ≡ true → OnYes P w) → OnYes P (check b n w)
  on_check P true n w h = h refl
  on_check P false n w h = tt

-- what holds of either choice
pub on_cond : {A : Type 0} (P : A → Type 0) (b : Bool) (x y : A) → (b ≡ true → P x) → (b ≡ false → P y) → P (cond b x y)
on_cond P true x y p q = p refl
on_cond P false x y p q = q refl

-- and of what follows an answer
pub on_then : {A B : Type 0} (P : B → Type 0) (w : Checked A) (f : A → Checked B) → ((x : A) → w ≡ yes x → OnYes P (f x)) → OnYes P (and_then w f)
on_then P (no n) f h = tt
on_then P (yes x) f h = h x refl

-- and of either of two readings
module _ {A B : Type 0} (f : A → Checked B) (y : Checked B) where
  pub on_else : (P : B → Type 0) (x : Checked A) → OnYes P (and_then x f) → OnYes P y → OnYes P (or_else x f y)
  on_else P (yes x) h k = h
  on_else P (no n) h k = split (eqb n 3) (λ e. rw e k) (λ e. rw e tt)

  -- where the type is none of the first reading's, and where it is
  pub else_third : (n : ℕ) → n ≡ 3 → y ≡ or_else (no n) f y
  else_third n e = ap (λ (b : Bool). cond b y (no n)) (sym (eq-eqb n 3 e))

  pub else_refused : (n : ℕ) → (n ≡ 3 → ⊥) → no n ≡ or_else (no n) f y
  else_refused n e = ap (λ (b : Bool). cond b y (no n)) (sym (ne_eqb n 3 e))

-- a check before an answer is one before what follows it
pub then_check : {A B : Type 0} (b : Bool) (n : ℕ) (w : Checked A) (f : A → Checked B) → check b n (and_then w f) ≡ and_then (check b n w) f
then_check true n w f = refl
then_check false n w f = refl

module _ {A B : Type 0} (P : Checked A → Checked B → Type 0) where
  -- the same check on both sides
  pub check_both : (b : Bool) (n : ℕ) (w : Checked A) (v : Checked B) → P (no n) (no n) → (b ≡ true → P w v) → P (check b n w) (check b n v)
  check_both true n w v p h = h refl
  check_both false n w v p h = p
