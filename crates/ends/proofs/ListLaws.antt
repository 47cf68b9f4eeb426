-- Laws of lists: the elements that pass a test, what holds of every element, another order, and lists back to back.
use Rattle.std.proofs.Common.{◌≡◌, ℕ, zero, suc, ◌+◌, ◌<◌, Bool, true, false, cond, not, List, [], ◌∷◌, ◌++◌, map, length, get_or, drop, replicate, sym, refl, ap, ◌∙◌, subst, append_assoc, add-one, arith, length-append, drop-cons}
use lib.ListN.{length-map}
use Rattle.ends.specs.Lists.{only, All, Permuted, joins}
use Rattle.ends.proofs.Logic.{split, no_cons}

module _ {A : Type 0} where
  pub first_same : (x y : A) (xs ys : List A) → x ∷ xs ≡ y ∷ ys → x ≡ y
  first_same x y xs ys e = cc

  pub rest_same : (x y : A) (xs ys : List A) → x ∷ xs ≡ y ∷ ys → xs ≡ ys
  rest_same x y xs ys e = cc

  -- the elements from i on are the one at i and those behind it
  pub drop_next : (l : List A) (i : ℕ) (z : A) → i < length l → drop i l ≡ get_or l i z ∷ drop (i + 1) l
  drop_next l i z h = rw add-one (drop-cons l i z h)

  no_middle : (p q : List A) (x : A) → p ++ (x ∷ q) ≡ [] → ⊥
  no_middle [] q x e = no_cons x q e
  no_middle (y ∷ p) q x e = no_cons y (p ++ (x ∷ q)) e

module _ {A : Type 0} (b : A → Bool) where
  pub only_none : only b [] ≡ []
  unfolding only
  only_none = refl

  pub only_yes : (x : A) (xs : List A) → b x ≡ true → only b (x ∷ xs) ≡ x ∷ only b xs
  unfolding only
  only_yes x xs e = rw e

  pub only_no : (x : A) (xs : List A) → b x ≡ false → only b (x ∷ xs) ≡ only b xs
  unfolding only
  only_no x xs e = rw e

  pub only_append : (xs ys : List A) → only b (xs ++ ys) ≡ only b xs ++ only b ys
  unfolding only
  only_append [] ys = refl
  only_append (x ∷ xs) ys = split (b x)
      (λ g. rw g (ap (λ q. x ∷ q) (only_append xs ys)))
      (λ g. rw g (only_append xs ys))

  -- without an element that does not pass
  pub only_skip : (p q : List A) (x : A) → b x ≡ false → only b (p ++ (x ∷ q)) ≡ only b (p ++ q)
  only_skip p q x e = only_append p (x ∷ q) ∙ ap (λ l. only b p ++ l) (only_no x q e) ∙ sym (only_append p q)

  -- those that pass and those that do not
  pub only_parts : (xs : List A) → length (only b xs) + length (only (λ (x : A). not (b x)) xs) ≡ length xs
  unfolding only
  only_parts [] = refl
  only_parts (x ∷ xs) =
      let ih : length (only b xs) + length (only (λ (x : A). not (b x)) xs) ≡ length xs = only_parts xs in
      split (b x) (λ g. rw g (omega arith)) (λ g. rw g (omega arith))

  pub only_permuted : (xs ys : List A) → Permuted xs ys → Permuted (only b xs) (only b ys)
  unfolding only
  only_permuted [] ys h = rw h
  only_permuted (x ∷ xs) ys (p, (q, (e, r))) = split (b x)
      (λ g. rw g (
        only b p,
        (
          only b q,
          (
            ap (only b) e ∙ only_append p (x ∷ q) ∙ ap (λ l. only b p ++ l) (only_yes x q g),
            subst (λ l. Permuted (only b xs) l) (only_append p q) (only_permuted xs (p ++ q) r),
          ),
        ),
      ))
      (λ g. rw g (subst (λ l. Permuted (only b xs) l) (sym (ap (only b) e ∙ only_skip p q x g)) (only_permuted xs (p ++ q) r)))

  -- an earlier test that refuses none of those that pass makes no difference
  pub only_within : (a : A → Bool) → ((x : A) → a x ≡ false → b x ≡ false) → (xs : List A) → only b (only a xs) ≡ only b xs
  unfolding only
  only_within a h [] = refl
  only_within a h (x ∷ xs) = split (a x)
      (λ g. rw g (ap (λ q. cond (b x) (x ∷ q) q) (only_within a h xs)))
      (λ g. rw (g, h x g) (only_within a h xs))

  -- where an element that passes stands in the whole list
  pub record Found (x : A) (f k fs : List A) : Type 0 where
    pub front : List A
    pub back : List A
    pub whole : fs ≡ front ++ (x ∷ back)
    pub before : only b front ≡ f
    pub behind : only b back ≡ k

  pub find : (x : A) (f k fs : List A) → only b fs ≡ f ++ (x ∷ k) → Found x f k fs
  unfolding only
  find x f k [] e = absurd (no_middle f k x (sym e))
  find x [] k (y ∷ fs) e = split (b y)
      (λ g. let h : y ∷ only b fs ≡ x ∷ k = sym (only_yes y fs g) ∙ e in
      record { front = []; back = fs; whole = ap (λ z. z ∷ fs) (first_same y x (only b fs) k h); before = refl; behind = rest_same y x (only b fs) k h })
      (λ g. let r : Found x [] k fs = find x [] k fs (sym (only_no y fs g) ∙ e) in
      record { front = y ∷ r.front; back = r.back; whole = ap (λ z. y ∷ z) r.whole; before = only_no y r.front g ∙ r.before; behind = r.behind })
  find x (z ∷ f) k (y ∷ fs) e = split (b y)
      (λ g. let h : y ∷ only b fs ≡ z ∷ (f ++ (x ∷ k)) = sym (only_yes y fs g) ∙ e in
      let r : Found x f k fs = find x f k fs (rest_same y z (only b fs) (f ++ (x ∷ k)) h) in
      record {
        front = y ∷ r.front;
        back = r.back;
        whole = ap (λ w. y ∷ w) r.whole;
        before = only_yes y r.front g ∙ ap (λ w. w ∷ only b r.front) (first_same y z (only b fs) (f ++ (x ∷ k)) h) ∙ ap (λ w. z ∷ w) r.before;
        behind = r.behind;
      })
      (λ g. let r : Found x (z ∷ f) k fs = find x (z ∷ f) k fs (sym (only_no y fs g) ∙ e) in
      record { front = y ∷ r.front; back = r.back; whole = ap (λ w. y ∷ w) r.whole; before = only_no y r.front g ∙ r.before; behind = r.behind })

module _ {A : Type 0} where
  pub permuted_length : (xs ys : List A) → Permuted xs ys → length xs ≡ length ys
  permuted_length [] ys h = rw h
  permuted_length (x ∷ xs) ys (p, (q, (e, r))) =
      let ih : length xs ≡ length (p ++ q) = permuted_length xs (p ++ q) r in
      rw e (omega (arith, length-append p (x ∷ q), length-append p q))

  -- a run of elements moved behind others
  pub permuted_block : (xs ys p q : List A) → Permuted ys (p ++ q) → Permuted (xs ++ ys) (p ++ (xs ++ q))
  permuted_block [] ys p q h = h
  permuted_block (x ∷ xs) ys p q h = (p, (xs ++ q, (refl, permuted_block xs ys p q h)))

  -- two lists back to back, each in another order
  pub permuted_append : (xs ys us vs : List A) → Permuted xs ys → Permuted us vs → Permuted (xs ++ us) (ys ++ vs)
  permuted_append [] ys us vs h k = rw h k
  permuted_append (x ∷ xs) ys us vs (p, (q, (e, r))) k = (
    p,
    (
      q ++ vs,
      (
        ap (λ l. l ++ vs) e ∙ append_assoc p (x ∷ q) vs,
        subst (λ l. Permuted (xs ++ us) l) (append_assoc p q vs) (permuted_append xs (p ++ q) us vs r k),
      ),
    ),
  )

module _ {A : Type 0} (P : A → Type 0) where
  pub all_map : (f : A → A) → ((x : A) → P x → P (f x)) → (xs : List A) → All P xs → All P (map f xs)
  all_map f g [] h = tt
  all_map f g (x ∷ xs) h = (g x h.0, all_map f g xs h.1)

  pub all_only : (b : A → Bool) (xs : List A) → All P xs → All P (only b xs)
  unfolding only
  all_only b [] h = tt
  all_only b (x ∷ xs) h = split (b x) (λ e. rw e (h.0, all_only b xs h.1)) (λ e. rw e (all_only b xs h.1))

  -- the element at a place
  pub all_at : (xs : List A) (i : ℕ) (z : A) → All P xs → i < length xs → P (get_or xs i z)
  all_at [] i z h k = absurd (omega arith)
  all_at (x ∷ xs) zero z h k = h.0
  all_at (x ∷ xs) (suc i) z h k = all_at xs i z h.1 (omega arith)

  pub all_replicate : (x : A) → P x → (n : ℕ) → All P (replicate n x)
  all_replicate x h zero = tt
  all_replicate x h (suc n) = (h, all_replicate x h n)

module _ {A B : Type 0} (f : A → List B) where
  pub joins_append : (xs ys : List A) → joins f (xs ++ ys) ≡ joins f xs ++ joins f ys
  unfolding joins
  joins_append [] ys = refl
  joins_append (x ∷ xs) ys = ap (λ q. f x ++ q) (joins_append xs ys) ∙ sym (append_assoc (f x) (joins f xs) (joins f ys))

  -- another order of the elements is another order of what they give
  pub joins_permuted : (xs ys : List A) → Permuted xs ys → Permuted (joins f xs) (joins f ys)
  unfolding joins
  joins_permuted [] ys h = rw h
  joins_permuted (x ∷ xs) ys (p, (q, (e, r))) =
      subst (λ l. Permuted (f x ++ joins f xs) l) (sym (ap (joins f) e ∙ joins_append p (x ∷ q)))
      (permuted_block (f x) (joins f xs) (joins f p) (joins f q) (subst (λ l. Permuted (joins f xs) l) (joins_append p q) (joins_permuted xs (p ++ q) r)))

  -- elements that give nothing may be left out
  pub joins_only : (b : A → Bool) → ((x : A) → b x ≡ false → f x ≡ []) → (xs : List A) → joins f xs ≡ joins f (only b xs)
  unfolding joins only
  joins_only b e [] = refl
  joins_only b e (x ∷ xs) = split (b x)
      (λ g. rw g (ap (λ q. f x ++ q) (joins_only b e xs)))
      (λ g. rw (g, e x g) (joins_only b e xs))

-- the length of an array of structs that is a field is that of the array as it is laid out
pub length_mapped : {A B : Type 0} (f : A → B) (l : List A) (n : ℕ) → length (map f l) ≡ n → length l ≡ n
length_mapped f l n e = sym (length-map l f) ∙ e
