-- Laws of the records: whose a record is, and what each car's own are after each change of the list.
use Prim.Native.Nat.{ℕ, suc, ◌+◌, ◌<◌, ◌≤◌}
use mathlib.Core.Path.{◌≡◌, refl, sym, ◌∙◌, ap}
use mathlib.Core.Bool.{Bool, true, false, cond, ◌&&◌}
use mathlib.Core.List.{List, [], ◌∷◌, ◌++◌, map}
use native.Mathlib.Omega.{arith}
use lib.Dec.{eqb}
use lib.ListN.{length}
use borrow.Author.Tests.{eqb-true, eq-eqb}
use Rattle.messages.specs.declared.CarAddress.{CarAddress}
use Rattle.rules.specs.declared.Phase.{Phase}
use Rattle.rules.specs.declared.Record.{Record}
use Rattle.rules.specs.declared.Turn.{Turn}
use Rattle.ends.specs.Lists.{only, Permuted}
use Rattle.rules.specs.Records.{same_car, is_held, holds, mine, free_places, none_held, owned, freed, update, insert, in_phase}
use Rattle.rules.specs.Validation.{toggled_phase, toggled_record}
use Rattle.rules.specs.Frames.{Place, own_place, free_place, put}
use Rattle.rules.specs.Ticks.{Ticked, now_free, still_held, tick_phase, record_of, tick_record}
use Rattle.ends.proofs.Logic.{split, clash, no_cons}
use Rattle.ends.proofs.ListLaws.{only_none, only_yes, only_no, only_append, only_skip, only_parts, Found, find, permuted_length}

-- ---- cars

pub same_refl : (c : CarAddress) → same_car c c ≡ true
unfolding same_car
same_refl c = eq-eqb c.0 c.0 refl

pub same_eq : (c d : CarAddress) → same_car c d ≡ true → c ≡ d
unfolding same_car
same_eq c d e = λ i. record { 0 = eqb-true c.0 d.0 e i }

pub same_swap : (c d : CarAddress) → same_car c d ≡ false → same_car d c ≡ false
same_swap c d e = split (same_car d c) (λ h. clash (same_car c d) (rw (same_eq d c h) (same_refl c)) e) (λ h. h)

-- ---- one record

pub holds_held : (c : CarAddress) (r : Record) → holds c r ≡ true → is_held r ≡ true
unfolding holds
holds_held c r e = split (is_held r) (λ h. h) (λ h. clash (is_held r && same_car c r.car) e (rw h))

pub holds_same : (c : CarAddress) (r : Record) → holds c r ≡ true → same_car c r.car ≡ true
unfolding holds
holds_same c r e = rw (holds_held c r e) at e

pub holds_yes : (c : CarAddress) (r : Record) → is_held r ≡ true → same_car c r.car ≡ true → holds c r ≡ true
unfolding holds
holds_yes c r h e = rw (h, e)

-- a held record is its car's own
pub holds_own : (r : Record) → is_held r ≡ true → holds r.car r ≡ true
holds_own r h = holds_yes r.car r h (same_refl r.car)

pub holds_free : (c : CarAddress) (r : Record) → is_held r ≡ false → holds c r ≡ false
unfolding holds
holds_free c r h = rw h

pub holds_other : (c d : CarAddress) (r : Record) → same_car d c ≡ false → holds c r ≡ true → holds d r ≡ false
holds_other c d r h e =
    split (holds d r) (λ g. clash (same_car d c) (rw (same_eq c r.car (holds_same c r e)) (holds_same d r g)) h) (λ g. g)

pub not_same : (c : CarAddress) (r : Record) → is_held r ≡ true → holds c r ≡ false → same_car c r.car ≡ false
not_same c r h e = split (same_car c r.car) (λ g. clash (holds c r) (holds_yes c r h g) e) (λ g. g)

pub owned_car : (c : CarAddress) (r : Record) → (owned c r).car ≡ c
unfolding owned
owned_car c r = refl

pub owned_holds : (c : CarAddress) (r : Record) → holds c (owned c r) ≡ true
unfolding holds owned is_held
owned_holds c r = same_refl c

pub owned_other : (c d : CarAddress) (r : Record) → same_car d c ≡ false → holds d (owned c r) ≡ false
unfolding holds owned is_held
owned_other c d r h = h

pub freed_free : (r : Record) → is_held (freed r) ≡ false
unfolding freed is_held
freed_free r = refl

-- ---- a record put at its place

-- what the place wants: a free one is for a car with no record, and there is one
abbrev pub Ready : Place → ℕ → List Record → Type 0
Ready own_place free own = Unit {0}
Ready free_place free own = (own ≡ []) × (0 < free)

-- how many free places it takes
abbrev pub takes : Place → ℕ
takes own_place = 0
takes free_place = 1

-- the car's own records then
abbrev pub own_then : Place → Record → List Record → List Record
own_then own_place n [] = []
own_then own_place n (r ∷ rs) = n ∷ rs
own_then free_place n own = n ∷ []

module _ (c : CarAddress) (n : Record) (h : holds c n ≡ true) where
  mine_update : (rs : List Record) → mine c (update c n rs) ≡ own_then own_place n (mine c rs)
  unfolding only update
  mine_update [] = refl
  mine_update (r ∷ rs) = split (holds c r)
      (λ e. rw (e, h))
      (λ e. rw (e, e) (mine_update rs))

  mine_insert : (rs : List Record) → mine c rs ≡ [] → 0 < free_places rs → mine c (insert n rs) ≡ n ∷ []
  unfolding only insert
  mine_insert [] m p = absurd (omega arith)
  mine_insert (r ∷ rs) m p = split (is_held r)
      (λ e. split (holds c r)
      (λ g. absurd (no_cons r (mine c rs) (sym (only_yes (holds c) r rs g) ∙ m)))
      (λ g. rw (e, g) (mine_insert rs (sym (only_no (holds c) r rs g) ∙ m) (rw e at p))))
      (λ e. rw (e, h, sym (only_no (holds c) r rs (holds_free c r e)) ∙ m))

  free_update : (rs : List Record) → free_places (update c n rs) ≡ free_places rs
  unfolding only update
  free_update [] = refl
  free_update (r ∷ rs) = split (holds c r)
      (λ g. rw (g, holds_held c r g, holds_held c n h))
      (λ g. rw g (split (is_held r) (λ k. rw k (free_update rs)) (λ k. rw k (ap suc (free_update rs)))))

  free_insert : (rs : List Record) → 0 < free_places rs → free_places (insert n rs) + 1 ≡ free_places rs
  unfolding only insert
  free_insert [] p = absurd (omega arith)
  free_insert (r ∷ rs) p = split (is_held r)
      (λ g. rw (g, g) (free_insert rs (rw g at p)))
      (λ g. rw (g, holds_held c n h) (omega arith))

mine_update_other : (c d : CarAddress) (n : Record) (rs : List Record) → same_car d c ≡ false → holds d n ≡ false → mine d (update c n rs) ≡ mine d rs
unfolding only update
mine_update_other c d n [] s h = refl
mine_update_other c d n (r ∷ rs) s h = split (holds c r)
    (λ e. rw (e, h, holds_other c d r s e))
    (λ e. rw e (ap (λ q. cond (holds d r) (r ∷ q) q) (mine_update_other c d n rs s h)))

mine_insert_other : (d : CarAddress) (n : Record) (rs : List Record) → holds d n ≡ false → mine d (insert n rs) ≡ mine d rs
unfolding only insert
mine_insert_other d n [] h = refl
mine_insert_other d n (r ∷ rs) h = split (is_held r)
    (λ e. rw e (ap (λ q. cond (holds d r) (r ∷ q) q) (mine_insert_other d n rs h)))
    (λ e. rw (e, h, holds_free d r e))

length_update : (c : CarAddress) (n : Record) (rs : List Record) → length (update c n rs) ≡ length rs
unfolding update
length_update c n [] = refl
length_update c n (r ∷ rs) = split (holds c r) (λ g. rw g) (λ g. rw g (ap suc (length_update c n rs)))

length_insert : (n : Record) (rs : List Record) → length (insert n rs) ≡ length rs
unfolding insert
length_insert n [] = refl
length_insert n (r ∷ rs) = split (is_held r) (λ g. rw g (ap suc (length_insert n rs))) (λ g. rw g)

module _ (c : CarAddress) (r : Record) where
  pub mine_put : (p : Place) (rs : List Record) → Ready p (free_places rs) (mine c rs) → mine c (put c p r rs) ≡ own_then p (owned c r) (mine c rs)
  unfolding put
  mine_put own_place rs w = mine_update c (owned c r) (owned_holds c r) rs
  mine_put free_place rs w = mine_insert c (owned c r) (owned_holds c r) rs w.0 w.1

  -- and so the same where they were the same
  pub same_put : (p : Place) (rs qs : List Record) → mine c rs ≡ mine c qs → Ready p (free_places rs) (mine c rs) → takes p ≤ free_places qs → mine c (put c p r rs) ≡ mine c (put c p r qs)
  same_put own_place rs qs e w k = mine_put own_place rs w ∙ ap (own_then own_place (owned c r)) e ∙ sym (mine_put own_place qs tt)
  same_put free_place rs qs e w k = mine_put free_place rs w ∙ sym (mine_put free_place qs (sym e ∙ w.0, k))

  pub mine_put_other : (p : Place) (d : CarAddress) (rs : List Record) → same_car d c ≡ false → mine d (put c p r rs) ≡ mine d rs
  unfolding put
  mine_put_other own_place d rs s = mine_update_other c d (owned c r) rs s (owned_other c d r s)
  mine_put_other free_place d rs s = mine_insert_other d (owned c r) rs (owned_other c d r s)

  pub length_put : (p : Place) (rs : List Record) → length (put c p r rs) ≡ length rs
  unfolding put
  length_put own_place rs = length_update c (owned c r) rs
  length_put free_place rs = length_insert (owned c r) rs

  pub free_put : (p : Place) (rs : List Record) → takes p ≤ free_places rs → free_places (put c p r rs) + takes p ≡ free_places rs
  unfolding put
  free_put own_place rs w = omega (arith, free_update c (owned c r) (owned_holds c r) rs)
  free_put free_place rs w = free_insert c (owned c r) (owned_holds c r) rs w

pub ready_takes : (p : Place) (free : ℕ) (own : List Record) → Ready p free own → takes p ≤ free
ready_takes own_place free own w = omega arith
ready_takes free_place free own w = w.1

-- ---- all records freed, or each changed

pub mine_freed : (c : CarAddress) (rs : List Record) → mine c (map freed rs) ≡ []
unfolding only
mine_freed c [] = refl
mine_freed c (r ∷ rs) = rw (holds_free c (freed r) (freed_free r)) (mine_freed c rs)

-- what a change of each record may not do: give it to another car
abbrev pub Keeping : (Record → Record) → Type 0
Keeping g = (c : CarAddress) (r : Record) → holds c r ≡ false → holds c (g r) ≡ false

module _ (g : Record → Record) (k : Keeping g) where
  pub mine_map : (c : CarAddress) (rs : List Record) → mine c (map g rs) ≡ mine c (map g (mine c rs))
  unfolding only
  mine_map c [] = refl
  mine_map c (r ∷ rs) = split (holds c r)
      (λ h. rw h (ap (λ q. cond (holds c (g r)) (g r ∷ q) q) (mine_map c rs)))
      (λ h. rw (h, k c r h) (mine_map c rs))

  pub same_map : (c : CarAddress) (rs qs : List Record) → mine c rs ≡ mine c qs → mine c (map g rs) ≡ mine c (map g qs)
  same_map c rs qs o = mine_map c rs ∙ ap (λ q. mine c (map g q)) o ∙ sym (mine_map c qs)

  pub none_map : (c : CarAddress) (rs : List Record) → mine c rs ≡ [] → mine c (map g rs) ≡ []
  none_map c rs o = mine_map c rs ∙ ap (λ q. mine c (map g q)) o ∙ only_none (holds c)

tick_no : (c : CarAddress) (r : Record) (x : Ticked) → same_car c r.car ≡ false → holds c (record_of r x) ≡ false
unfolding record_of
tick_no c r (now_free ts) h = holds_free c (freed r) (freed_free r)
tick_no c r (still_held n ts) h = owned_other r.car c n h

pub tick_keeping : (b : Bool) (e : ℕ) → Keeping (tick_record b e)
unfolding tick_record
tick_keeping b e c r h = split (is_held r) (λ g. rw g (tick_no c r (tick_phase b e r r.phase) (not_same c r g h))) (λ g. rw g h)

pub phase_holds : (c : CarAddress) (p : Phase) (r : Record) → holds c (in_phase p r) ≡ holds c r
unfolding holds is_held in_phase
phase_holds c p r = refl

pub turn_keeping : (w : Turn) → Keeping (toggled_record w)
unfolding toggled_record
turn_keeping w c r h = split (is_held r) (λ g. rw g (phase_holds c (toggled_phase w r.phase) r ∙ h)) (λ g. rw g h)

-- ---- held and free records

-- where each car has the same records, the held records are the same in another order
pub same_held : (rs qs : List Record) → ((c : CarAddress) → mine c rs ≡ mine c qs) → Permuted (only is_held rs) (only is_held qs)
unfolding only
same_held [] [] o = refl
same_held [] (q ∷ qs) o = split (is_held q)
    (λ g. absurd (no_cons q (mine q.car qs) (sym (only_yes (holds q.car) q qs (holds_own q g)) ∙ sym (o q.car))))
    (λ g. rw g (same_held [] qs (λ c. o c ∙ only_no (holds c) q qs (holds_free c q g))))
same_held (r ∷ rs) qs o = split (is_held r)
    (λ g.
    let c : CarAddress = r.car in
    let F : Found (holds c) r [] (mine c rs) qs = find (holds c) r [] (mine c rs) qs (sym (o c) ∙ only_yes (holds c) r rs (holds_own r g)) in
    let p : List Record = F.front in
    let q : List Record = F.back in
    let ih : Permuted (only is_held rs) (only is_held (p ++ q)) = same_held rs (p ++ q) (λ d. split (same_car d c)
    (λ k. rw (same_eq d c k) (sym (only_append (holds c) p q ∙ ap (λ l. l ++ mine c q) F.before ∙ F.behind)))
    (λ k. sym (only_no (holds d) r rs (holds_other c d r k (holds_own r g))) ∙ o d ∙ ap (mine d) F.whole ∙ only_skip (holds d) p q r (holds_other c d r k (holds_own r g)))) in
    rw (g, F.whole, only_append is_held p (r ∷ q)) (only is_held p, (only is_held q, (ap (λ l. only is_held p ++ l) (only_yes is_held r q g), rw (only_append is_held p q) at ih))))
    (λ g. rw g (same_held rs qs (λ d. sym (only_no (holds d) r rs (holds_free d r g)) ∙ o d)))

module _ (rs qs : List Record) (o : (c : CarAddress) → mine c rs ≡ mine c qs) where
  held_count_lem : length (only is_held rs) ≡ length (only is_held qs)
  held_count_lem = permuted_length (only is_held rs) (only is_held qs) (same_held rs qs o)

  pub same_none : none_held rs ≡ none_held qs
  same_none = ap (λ k. eqb k 0) held_count_lem

  pub same_free : length rs ≡ length qs → free_places rs ≡ free_places qs
  same_free z = omega (arith, only_parts is_held rs, only_parts is_held qs, held_count_lem)

-- no record is held
pub none_mine : (c : CarAddress) (rs : List Record) → none_held rs ≡ true → mine c rs ≡ []
unfolding only
none_mine c [] h = refl
none_mine c (r ∷ rs) h = split (is_held r)
    (λ g. let z : suc (length (only is_held rs)) ≡ 0 = eqb-true (suc (length (only is_held rs))) 0 (rw g at h) in absurd (omega arith))
    (λ g. rw (holds_free c r g) (none_mine c rs (rw g at h)))

pub mine_none : (rs : List Record) → ((c : CarAddress) → mine c rs ≡ []) → none_held rs ≡ true
unfolding only
mine_none rs o = same_none rs [] o

pub free_all : (rs : List Record) → none_held rs ≡ true → free_places rs ≡ length rs
free_all rs h = omega (arith, only_parts is_held rs, eqb-true (length (only is_held rs)) 0 h)

pub none_freed : (rs : List Record) → none_held (map freed rs) ≡ true
none_freed rs = mine_none (map freed rs) (λ c. mine_freed c rs)

pub none_each : (g : Record → Record) → Keeping g → (rs : List Record) → none_held rs ≡ true → none_held (map g rs) ≡ true
none_each g k rs h = mine_none (map g rs) (λ c. none_map g k c rs (none_mine c rs h))
