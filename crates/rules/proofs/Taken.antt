-- In another order that keeps each car's own frames in order, the first call of the old order stands behind none of its own car.
use mathlib.Core.Path.{◌≡◌, refl, sym, ◌∙◌, ap, subst}
use mathlib.Core.Bool.{Bool, true, false}
use mathlib.Core.List.{List, [], ◌∷◌, ◌++◌}
use mathlib.Core.Option.{Option, none, some}
use Rattle.messages.specs.declared.CarAddress.{CarAddress}
use Rattle.messages.specs.declared.Edition.{Edition}
use Rattle.ends.specs.Lists.{only, Permuted}
use Rattle.rules.specs.Calls.{Call}
use Rattle.rules.specs.Records.{same_car}
use Rattle.rules.specs.Demand3.{named, is_car}
use Rattle.ends.proofs.Logic.{split, clash, no_cons}
use Rattle.ends.proofs.ListLaws.{only_yes, only_no, only_append, only_skip, Found, find}
use Rattle.rules.proofs.RecordLaws.{same_refl, same_eq}

abbrev pub is_none : Option CarAddress → Bool
is_none none = true
is_none (some c) = false

module _ (e : Edition) where
  -- a car's own calls
  abbrev own : CarAddress → Call → Bool
  own c x = is_car c (named e x)

  -- calls that name no car
  abbrev pub nameless : Call → Bool
  nameless x = is_none (named e x)

  own_some : (x : Call) (c d : CarAddress) → named e x ≡ some c → own d x ≡ same_car d c
  unfolding is_car
  own_some x c d h = rw h

  own_none : (x : Call) (d : CarAddress) → named e x ≡ none → own d x ≡ false
  unfolding is_car
  own_none x d h = rw h

  -- where the call x stands in ys, and what is left of both orders
  pub record Taken (x : Call) (xs ys : List Call) : Type 0 where
    pub front : List Call
    pub back : List Call
    pub whole : ys ≡ front ++ (x ∷ back)
    pub clear : (c : CarAddress) → is_car c (named e x) ≡ true → only (λ (y : Call). is_car c (named e y)) front ≡ []
    pub owns : (c : CarAddress) → only (λ (y : Call). is_car c (named e y)) xs ≡ only (λ (y : Call). is_car c (named e y)) (front ++ back)
    pub others : Permuted (only nameless xs) (only nameless (front ++ back))

  take_some : (x : Call) (xs ys : List Call) (c : CarAddress) → named e x ≡ some c
      → ((d : CarAddress) → only (own d) (x ∷ xs) ≡ only (own d) ys) → Permuted (only nameless (x ∷ xs)) (only nameless ys) → Taken x xs ys
  take_some x xs ys c h o u =
      let yes : own c x ≡ true = own_some x c c h ∙ same_refl c in
      let F : Found (own c) x [] (only (own c) xs) ys = find (own c) x [] (only (own c) xs) ys (sym (o c) ∙ only_yes (own c) x xs yes) in
      let p : List Call = F.front in
      let q : List Call = F.back in
      let b : nameless x ≡ false = ap is_none h in
      record {
        front = p;
        back = q;
        whole = F.whole;
        clear = λ d g. rw (same_eq d c (sym (own_some x c d h) ∙ g)) F.before;
        owns = λ d. split (same_car d c)
            (λ g. rw (same_eq d c g) (sym (only_append (own c) p q ∙ ap (λ l. l ++ only (own c) q) F.before ∙ F.behind)))
            (λ g. let n : own d x ≡ false = own_some x c d h ∙ g in sym (only_no (own d) x xs n) ∙ o d ∙ ap (only (own d)) F.whole ∙ only_skip (own d) p q x n);
        others =
            subst (λ l. Permuted l (only nameless (p ++ q))) (only_no nameless x xs b)
            (subst (λ l. Permuted (only nameless (x ∷ xs)) l) (ap (only nameless) F.whole ∙ only_skip nameless p q x b) u);
      }

  take_none : (x : Call) (xs ys : List Call) → named e x ≡ none
      → ((d : CarAddress) → only (own d) (x ∷ xs) ≡ only (own d) ys) → Permuted (x ∷ only nameless xs) (only nameless ys) → Taken x xs ys
  take_none x xs ys h o (p', (q', (w, r))) =
      let F : Found nameless x p' q' ys = find nameless x p' q' ys w in
      let p : List Call = F.front in
      let q : List Call = F.back in
      record {
        front = p;
        back = q;
        whole = F.whole;
        clear = λ d g. clash (own d x) g (own_none x d h);
        owns = λ d. let n : own d x ≡ false = own_none x d h in sym (only_no (own d) x xs n) ∙ o d ∙ ap (only (own d)) F.whole ∙ only_skip (own d) p q x n;
        others = subst (λ l. Permuted (only nameless xs) l) (sym (only_append nameless p q ∙ ap (λ l. l ++ only nameless q) F.before ∙ ap (λ l. p' ++ l) F.behind)) r;
      }

  take_any : (x : Call) (xs ys : List Call) (w : Option CarAddress) → named e x ≡ w
      → ((d : CarAddress) → only (own d) (x ∷ xs) ≡ only (own d) ys) → Permuted (only nameless (x ∷ xs)) (only nameless ys) → Taken x xs ys
  take_any x xs ys (some c) h o u = take_some x xs ys c h o u
  take_any x xs ys none h o u = take_none x xs ys h o (subst (λ l. Permuted l (only nameless ys)) (only_yes nameless x xs (ap is_none h)) u)

  pub taken : (x : Call) (xs ys : List Call) → ((d : CarAddress) → only (λ (y : Call). is_car d (named e y)) (x ∷ xs) ≡ only (λ (y : Call). is_car d (named e y)) ys)
      → Permuted (only nameless (x ∷ xs)) (only nameless ys) → Taken x xs ys
  taken x xs ys o u = take_any x xs ys (named e x) refl o u

  some_left : (y : Call) (ys : List Call) (w : Option CarAddress) → named e y ≡ w → ((d : CarAddress) → only (own d) [] ≡ only (own d) (y ∷ ys)) → Permuted (only nameless []) (only nameless (y ∷ ys)) → ⊥
  unfolding only
  some_left y ys (some c) h o u = no_cons y (only (own c) ys) (sym (only_yes (own c) y ys (own_some y c c h ∙ same_refl c)) ∙ sym (o c))
  some_left y ys none h o u = no_cons y (only nameless ys) (sym (only_yes nameless y ys (ap is_none h)) ∙ u)

  -- no call is left over
  pub none_left : (y : Call) (ys : List Call) → ((d : CarAddress) → only (λ (y : Call). is_car d (named e y)) [] ≡ only (λ (y : Call). is_car d (named e y)) (y ∷ ys))
      → Permuted (only nameless []) (only nameless (y ∷ ys)) → ⊥
  none_left y ys o u = some_left y ys (named e y) refl o u
