-- Demand 3, part two: the order of different cars' frames in a row makes no difference.
use mathlib.Core.Path.{◌≡◌, refl, sym, ◌∙◌, ap, subst}
use mathlib.Core.Bool.{Bool, true}
use mathlib.Core.List.{List, [], ◌∷◌, ◌++◌}
use Rattle.messages.specs.declared.CarAddress.{CarAddress}
use Rattle.messages.specs.declared.Edition.{Edition}
use Rattle.rules.specs.declared.Station.{Station}
use Rattle.ends.specs.Lists.{only, Permuted}
use Rattle.rules.specs.Calls.{Call, frame, tick, pilot, terminate, link_up}
use Rattle.ends.specs.Outcomes.{Outcome}
use Rattle.rules.specs.Rules.{step, outcome, after}
use Rattle.rules.specs.Demand3.{named, is_car, is_frame, Event, events, moves, AllMove, Reordered, Alike, AllAlike, OrderFree}
use Rattle.ends.proofs.Logic.{split, clash, no_cons}
use Rattle.ends.proofs.ListLaws.{only_none, only_yes, only_no, only_append, only_skip, only_permuted}
use Rattle.rules.proofs.EditionLaws.{edition_step, edition_after}
use Rattle.rules.proofs.Places.{Like, like_refl, like_trans, follows_all}
use Rattle.rules.proofs.Swap.{Apart, Swapped, swap}
use Rattle.rules.proofs.Taken.{nameless, Taken, taken, none_left}

abbrev call_of : Event → Call
call_of v = v.call

module _ (e : Edition) where
  abbrev own_event : CarAddress → Event → Bool
  own_event c v = is_car c (named e v.call)

  -- ---- rows

  -- a call of a row is a frame, so what it gives is the very same
  moves_alike : (x : Call) (u v : Outcome) → moves e (record { call = x; gave = u }) ≡ true → Alike x u v → u ≡ v
  unfolding moves is_frame
  moves_alike (frame s room) u v h a = a
  moves_alike (tick t room) u v h a = clash true refl (sym h)
  moves_alike (pilot p t) u v h a = a
  moves_alike terminate u v h a = a
  moves_alike link_up u v h a = a

  row_alike : (s t : Station) (xs : List Call) → AllMove e (events s xs) → AllAlike (events s xs) (events t xs) → events s xs ≡ events t xs
  unfolding events
  row_alike s t [] m a = refl
  row_alike s t (x ∷ xs) m a =
      let k : outcome s x ≡ outcome t x = moves_alike x (outcome s x) (outcome t x) m.0 a.0 in
      λ i. record { call = x; gave = k i } ∷ row_alike (step s x) (step t x) xs m.1 a.1 i

  -- a row on two stations that differ in places only
  row_follows : (s t : Station) (xs : List Call) → AllMove e (events s xs) → Like s t → events s xs ≡ events t xs
  row_follows s t xs m h = row_alike s t xs m (follows_all s t xs h).0

  with_one : (v : Event) (p q : List Event) → moves e v ≡ true → AllMove e (p ++ q) → AllMove e (p ++ (v ∷ q))
  with_one v [] q h m = (h, m)
  with_one v (f ∷ p) q h m = (m.0, with_one v p q h m.1)

  permuted_moves : (vs us : List Event) → AllMove e vs → Permuted vs us → AllMove e us
  permuted_moves [] us m h = subst (AllMove e) (sym h) tt
  permuted_moves (v ∷ vs) us m (p, (q, (x, r))) = subst (AllMove e) (sym x) (with_one v p q m.0 (permuted_moves vs (p ++ q) m.1 r))

  -- ---- a call moved behind others of the row

  abbrev AllApart : Call → List Call → Type 0
  AllApart x [] = Unit {0}
  AllApart x (y ∷ ys) = Apart e x y × AllApart x ys

  all_apart : (x : Call) (p : List Call) → ((c : CarAddress) → is_car c (named e x) ≡ true → only (λ (y : Call). is_car c (named e y)) p ≡ []) → AllApart x p
  all_apart x [] h = tt
  all_apart x (y ∷ p) h = (
    (λ c k. split (is_car c (named e y)) (λ g. absurd (no_cons y _ (sym (only_yes (λ (y : Call). is_car c (named e y)) y p g) ∙ h c k))) (λ g. g)),
    all_apart x p (λ c k. split (is_car c (named e y))
        (λ g. absurd (no_cons y _ (sym (only_yes (λ (y : Call). is_car c (named e y)) y p g) ∙ h c k)))
        (λ g. sym (only_no (λ (y : Call). is_car c (named e y)) y p g) ∙ h c k)),
  )

  -- x, then p and q; and p, then x, then q
  record Behind (s : Station) (x : Call) (p q : List Call) : Type 0 where
    front : List Event
    back : List Event
    whole : events s (p ++ (x ∷ q)) ≡ front ++ (record { call = x; gave = outcome s x } ∷ back)
    rest : events (step s x) (p ++ q) ≡ front ++ back
    clear : (c : CarAddress) → is_car c (named e x) ≡ true → only (own_event c) front ≡ []
    like : Like (after (step s x) (p ++ q)) (after s (p ++ (x ∷ q)))

  behind : (s : Station) (x : Call) (p q : List Call) → s.config.edition ≡ e → AllApart x p → moves e (record { call = x; gave = outcome s x }) ≡ true → AllMove e (events (step s x) (p ++ q)) → Behind s x p q
  unfolding events
  behind s x [] q w f h m = record { front = []; back = events (step s x) q; whole = refl; rest = refl; clear = λ c g. only_none (own_event c); like = like_refl _ }
  behind s x (y ∷ p) q w f h m =
      let W : Swapped s x y = swap e s x y w f.0 h m.0 in
      let k : events (step (step s x) y) (p ++ q) ≡ events (step (step s y) x) (p ++ q) = row_follows (step (step s x) y) (step (step s y) x) (p ++ q) m.1 W.like in
      let h' : moves e (record { call = x; gave = outcome (step s y) x }) ≡ true = subst (λ u. moves e (record { call = x; gave = u }) ≡ true) W.first h in
      let B : Behind (step s y) x p q = behind (step s y) x p q (edition_step e s y w) f.1 h' (subst (AllMove e) k m.1) in
      record {
        front = record { call = y; gave = outcome (step s x) y } ∷ B.front;
        back = B.back;
        whole = λ i. record { call = y; gave = sym W.second i } ∷ (B.whole ∙ ap (λ u. B.front ++ (record { call = x; gave = u } ∷ B.back)) (sym W.first)) i;
        rest = ap (λ l. record { call = y; gave = outcome (step s x) y } ∷ l) (k ∙ B.rest);
        clear = λ c g. only_no (own_event c) (record { call = y; gave = outcome (step s x) y }) B.front (f.0 c g) ∙ B.clear c g;
        like = like_trans _ _ _ (follows_all (step (step s x) y) (step (step s y) x) (p ++ q) W.like).1 B.like;
      }

  -- ---- the row in another order

  record Arranged (s : Station) (xs ys : List Call) : Type 0 where
    gives : Reordered e call_of (events s xs) (events s ys)
    like : Like (after s xs) (after s ys)

  arrange : (s : Station) (xs ys : List Call) → s.config.edition ≡ e → AllMove e (events s xs) → ((c : CarAddress) → only (λ (x : Call). is_car c (named e x)) xs ≡ only (λ (x : Call). is_car c (named e x)) ys)
      → Permuted (only (nameless e) xs) (only (nameless e) ys) → Arranged s xs ys
  unfolding events
  arrange s [] [] w m o u = record { gives = record { permuted = refl; own_kept = λ c. refl }; like = like_refl s }
  arrange s [] (y ∷ ys) w m o u = absurd (none_left e y ys o u)
  arrange s (x ∷ xs) ys w m o u =
      let T : Taken e x xs ys = taken e x xs ys o u in
      let p : List Call = T.front in
      let q : List Call = T.back in
      let A : Arranged (step s x) xs (p ++ q) = arrange (step s x) xs (p ++ q) (edition_step e s x w) m.1 T.owns T.others in
      let B : Behind s x p q = behind s x p q w (all_apart x p T.clear) m.0 (permuted_moves (events (step s x) xs) (events (step s x) (p ++ q)) m.1 A.gives.permuted) in
      let v : Event = record { call = x; gave = outcome s x } in
      let k : events s ys ≡ B.front ++ (v ∷ B.back) = ap (events s) T.whole ∙ B.whole in
      record {
        gives = record {
          permuted = (B.front, (B.back, (k, subst (λ l. Permuted (events (step s x) xs) l) B.rest A.gives.permuted)));
          own_kept = λ c.
              let r : only (own_event c) (events (step s x) xs) ≡ only (own_event c) (B.front ++ B.back) = A.gives.own_kept c ∙ ap (only (own_event c)) B.rest in
              split (is_car c (named e x))
              (λ g.
              let n : (l : List Event) → only (own_event c) (B.front ++ l) ≡ only (own_event c) l = λ l. only_append (own_event c) B.front l ∙ ap (λ a. a ++ only (own_event c) l) (B.clear c g) in
              only_yes (own_event c) v (events (step s x) xs) g ∙ ap (λ l. v ∷ l) (r ∙ n B.back) ∙ sym (ap (only (own_event c)) k ∙ n (v ∷ B.back) ∙ only_yes (own_event c) v B.back g))
              (λ g. only_no (own_event c) v (events (step s x) xs) g ∙ r ∙ sym (ap (only (own_event c)) k ∙ only_skip (own_event c) B.front B.back v g));
        };
        like = like_trans _ _ _ A.like (subst (λ l. Like (after (step s x) (p ++ q)) (after s l)) (sym T.whole) B.like);
      }

pub order_free : (s₀ : Station) (first row row' last : List Call) → OrderFree s₀ first row row' last
order_free s₀ first row row' last m r =
    let e : Edition = s₀.config.edition in
    let s : Station = after s₀ first in
    let w : s.config.edition ≡ e = edition_after e s₀ first refl in
    let A : Arranged e s row row' = arrange e s row row' w m r.own_kept (only_permuted (nameless e) row row' r.permuted) in
    let l : AllAlike (events (after s row) last) (events (after s row') last) × Like (after (after s row) last) (after (after s row') last) = follows_all (after s row) (after s row') last A.like in
    record { row_gives = subst (λ (d : Edition). Reordered d call_of (events s row) (events s row')) (sym w) A.gives; last_gives = l.0; own = l.1.places.own }
