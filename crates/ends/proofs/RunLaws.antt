-- Runs of elements side by side: one read, and one stored, once for every width and every number of runs.
use Rattle.std.proofs.Common.{◌≡◌, ℕ, zero, suc, ◌+◌, ◌*◌, ◌<◌, ◌≤◌, List, [], ◌∷◌, ◌++◌, map, length, get_or, take, drop, set, sym, refl, ap, ◌∙◌, ap₂, add-zero, add-suc, add_comm, mul-zero, mul-suc, arith, length-drop, get_or-drop, get_or-set_other, drop-drop, take_at, drop-set-lt, drop_at}
use mathlib.Core.List.{zip_with}
use lib.ListN.{get_or-append}
use lib.Seq.{sets, sets-eq, take-set-le, drop-set-add}
use Rattle.ends.specs.Words.{runs}

module _ {A : Type 0} where
  -- ---- a run of stores

  -- it leaves what stands before it
  take_sets : (vs l : List A) (n i : ℕ) → n ≤ i → take n (sets l i vs) ≡ take n l
  take_sets [] l n i h = refl
  take_sets (a ∷ vs) l n i h = take_sets vs (set l i a) n (suc i) (omega arith) ∙ take-set-le n l i a h

  -- behind n elements it is a run of stores there
  pub drop_sets : (vs l : List A) (n j : ℕ) → drop n (sets l (n + j) vs) ≡ sets (drop n l) j vs
  drop_sets [] l n j = refl
  drop_sets (a ∷ vs) l n j =
      ap (λ (k : ℕ). drop n (sets (set l (n + j) a) k vs)) (sym (add-suc n j))
      ∙ drop_sets vs (set l (n + j) a) n (suc j)
      ∙ ap (λ (m : List A). sets m (suc j) vs) (drop-set-add n l j a)

  -- an element before it stays
  pub get_d_before : (vs l : List A) (i k : ℕ) (d : A) → k < i → get_or (sets l i vs) k d ≡ get_or l k d
  get_d_before [] l i k d h = refl
  get_d_before (a ∷ vs) l i k d h = get_d_before vs (set l i a) (suc i) k d (omega arith) ∙ get_or-set_other l i k a d (λ (e : k ≡ i). omega arith)

  -- and so does what stands behind it
  pub drop_behind : (vs l : List A) (i n : ℕ) → i + length vs ≤ n → drop n (sets l i vs) ≡ drop n l
  drop_behind [] l i n h = refl
  drop_behind (a ∷ vs) l i n h = drop_behind vs (set l i a) (suc i) n (omega arith) ∙ drop-set-lt n l i a (omega arith)

  -- from the first element on
  sets_front : (vs l : List A) → length vs ≤ length l → sets l 0 vs ≡ vs ++ drop (length vs) l
  sets_front vs l h = sets-eq vs l 0 (omega arith) ∙ ap (λ (k : ℕ). vs ++ drop k l) (add_comm 0 (length vs) ∙ add-zero (length vs))

  -- what was stored from the first element on
  pub get_d_front : (vs l : List A) (k : ℕ) (d : A) → length vs ≤ length l → k < length vs → get_or (sets l 0 vs) k d ≡ get_or vs k d
  get_d_front vs l k d h b = ap (λ (m : List A). get_or m k d) (sets_front vs l h) ∙ get_or-append vs (drop (length vs) l) d k b

  -- from any element on
  pub get_d_stored : (vs l : List A) (i k : ℕ) (d : A) → i + length vs ≤ length l → k < length vs → get_or (sets l i vs) (i + k) d ≡ get_or vs k d
  get_d_stored vs l i k d h b =
      sym (get_or-drop i (sets l i vs) k d)
      ∙ ap (λ (j : ℕ). get_or (drop i (sets l j vs)) k d) (sym (add-zero i))
      ∙ ap (λ (m : List A). get_or m k d) (drop_sets vs l i 0)
      ∙ get_d_front vs (drop i l) k d (omega (arith, length-drop i l)) b

  -- ---- runs

  pub length_runs : (n k : ℕ) (l : List A) → length (runs n k l) ≡ n
  unfolding runs
  length_runs zero k l = refl
  length_runs (suc n) k l = ap suc (length_runs n k (drop k l))

  -- the run at a place
  pub runs_at : (n k i : ℕ) (l d : List A) → i < n → get_or (runs n k l) i d ≡ take k (drop (k * i) l)
  unfolding runs
  runs_at zero k i l d h = absurd (omega arith)
  runs_at (suc n) k zero l d h = ap (λ (j : ℕ). take k (drop j l)) (sym (mul-zero k))
  runs_at (suc n) k (suc i) l d h =
      runs_at n k i (drop k l) d (omega arith)
      ∙ ap (take k) (drop-drop (k * i) k l ∙ ap (λ (j : ℕ). drop j l) (add_comm k (k * i) ∙ sym (mul-suc k i)))

  -- a run stored at its place
  pub runs_sets : (n k i : ℕ) (l vs : List A) → length vs ≡ k → k * i + k ≤ length l → runs n k (sets l (k * i) vs) ≡ set (runs n k l) i vs
  unfolding runs
  runs_sets zero k i l vs e h = refl
  runs_sets (suc n) k zero l vs e h =
      let f : sets l (k * zero) vs ≡ vs ++ drop k l = ap (λ (j : ℕ). sets l j vs) (mul-zero k) ∙ sets_front vs l (omega (arith, mul-zero k)) ∙ ap (λ (j : ℕ). vs ++ drop j l) e in
      rw f (ap₂ (λ (a : List A) (b : List A). a ∷ runs n k b) (take_at vs (drop k l) k e) (drop_at vs (drop k l) k e))
  runs_sets (suc n) k (suc i) l vs e h =
      let m : k * suc i ≡ k + k * i = mul-suc k i ∙ add_comm (k * i) k in
      rw m (ap₂ (λ (a : List A) (b : List (List A)). a ∷ b) (take_sets vs l k (k + k * i) (omega arith))
      (ap (runs n k) (drop_sets vs l k (k * i)) ∙ runs_sets n k i (drop k l) vs e (rw length-drop (omega arith))))

-- an element stored, each element changed
pub map_set : {A B : Type 0} (f : A → B) (l : List A) (i : ℕ) (x : A) → map f (set l i x) ≡ set (map f l) i (f x)
map_set f [] i x = refl
map_set f (a ∷ l) zero x = refl
map_set f (a ∷ l) (suc i) x = ap (λ m. f a ∷ m) (map_set f l i x)

module _ {A B C : Type 0} (f : A → B → C) where
  pub length_zip : (xs : List A) (ys : List B) (n : ℕ) → length xs ≡ n → length ys ≡ n → length (zip_with f xs ys) ≡ n
  unfolding zip_with
  length_zip [] ys n h k = h
  length_zip (x ∷ xs) [] n h k = k
  length_zip (x ∷ xs) (y ∷ ys) zero h k = absurd (omega arith)
  length_zip (x ∷ xs) (y ∷ ys) (suc n) h k = ap suc (length_zip xs ys n (omega arith) (omega arith))

  pub zip_set : (xs : List A) (ys : List B) (i : ℕ) (x : A) (y : B) → zip_with f (set xs i x) (set ys i y) ≡ set (zip_with f xs ys) i (f x y)
  unfolding zip_with
  zip_set [] ys i x y = refl
  zip_set (a ∷ xs) [] zero x y = refl
  zip_set (a ∷ xs) [] (suc i) x y = refl
  zip_set (a ∷ xs) (b ∷ ys) zero x y = refl
  zip_set (a ∷ xs) (b ∷ ys) (suc i) x y = ap (λ (l : List C). f a b ∷ l) (zip_set xs ys i x y)

  pub zip_at : (xs : List A) (ys : List B) (i : ℕ) (a : A) (b : B) (d : C) → i < length xs → length xs ≡ length ys → get_or (zip_with f xs ys) i d ≡ f (get_or xs i a) (get_or ys i b)
  unfolding zip_with
  zip_at [] ys i a b d h e = absurd (omega arith)
  zip_at (x ∷ xs) [] i a b d h e = absurd (omega arith)
  zip_at (x ∷ xs) (y ∷ ys) zero a b d h e = refl
  zip_at (x ∷ xs) (y ∷ ys) (suc i) a b d h e = zip_at xs ys i a b d (omega arith) (omega arith)
