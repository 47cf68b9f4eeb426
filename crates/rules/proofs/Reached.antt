-- What is true of every station that calls can reach: its records stay as many, a held record's car is a unicast one, and no car holds two.
use Prim.Native.Nat.{ℕ, ◌≤◌}
use mathlib.Core.Path.{◌≡◌, refl, ◌∙◌}
use mathlib.Core.Bool.{Bool, true}
use mathlib.Core.List.{List, [], ◌∷◌, map}
use native.Mathlib.Omega.{arith}
use lib.ListN.{length, length-map}
use Rattle.messages.specs.declared.CarAddress.{CarAddress}
use Rattle.messages.specs.Table.{is_unicast}
use Rattle.messages.specs.Reading.{Checked, no, yes}
use Rattle.rules.specs.declared.Phase.{Phase}
use Rattle.rules.specs.declared.Record.{Record}
use Rattle.rules.specs.declared.Station.{Station}
use Rattle.rules.specs.declared.Turn.{Turn}
use Rattle.ends.specs.Lists.{All}
use Rattle.rules.specs.Calls.{Call}
use Rattle.ends.specs.Outcomes.{next}
use Rattle.rules.specs.Stations.{Shared, Inner, shared, inner}
use Rattle.rules.specs.Records.{same_car, is_held, holds, mine, free_places, owned, freed, update, insert, in_phase}
use Rattle.rules.specs.Validation.{first_result, toggled_phase, toggled_record}
use Rattle.rules.specs.Frames.{Place, own_place, free_place, Change, change_rule, put}
use Rattle.rules.specs.Ticks.{Ticked, now_free, still_held, tick_phase, record_of, tick_record}
use Rattle.rules.specs.Rules.{rule, step, after}
use Rattle.ends.proofs.Logic.{split, clash, OnYes}
use Rattle.ends.proofs.ListLaws.{only_parts, all_map}
use Rattle.rules.proofs.RecordLaws.{same_eq, owned_car, freed_free, Ready, own_then, mine_put, mine_put_other, length_put, mine_freed, Keeping, mine_map, tick_keeping, turn_keeping}
use Rattle.rules.proofs.RuleLaws.{change_ready}
use Rattle.rules.proofs.ReplyLaws.{Unicast}
use Rattle.rules.proofs.Always.{always, AnyRequest, meets_any, after_all}

-- ---- a property of each record

module _ (G : Record → Type 0) where
  all_update : (c : CarAddress) (n : Record) → G n → (rs : List Record) → All G rs → All G (update c n rs)
  unfolding update
  all_update c n g [] h = tt
  all_update c n g (r ∷ rs) h = split (holds c r) (λ e. rw e (g, h.1)) (λ e. rw e (h.0, all_update c n g rs h.1))

  all_insert : (n : Record) → G n → (rs : List Record) → All G rs → All G (insert n rs)
  unfolding insert
  all_insert n g [] h = tt
  all_insert n g (r ∷ rs) h = split (is_held r) (λ e. rw e (h.0, all_insert n g rs h.1)) (λ e. rw e (g, h.1))

  all_put : (c : CarAddress) (p : Place) (r : Record) → G (owned c r) → (rs : List Record) → All G rs → All G (put c p r rs)
  unfolding put
  all_put c own_place r g rs h = all_update c (owned c r) g rs h
  all_put c free_place r g rs h = all_insert (owned c r) g rs h

  pub all_change : (c : CarAddress) (rs : List Record) → All G rs → (w : Checked Change) → OnYes (λ (x : Change). G (owned c x.kept)) w → OnYes (λ (x : Change). All G (put c x.place x.kept rs)) w
  all_change c rs h (no n) g = tt
  all_change c rs h (yes x) g = all_put c x.place x.kept g rs h

-- ---- a held record's car is a unicast one

pub unicast_owned : (c : CarAddress) (r : Record) → is_unicast c.0 ≡ true → Unicast (owned c r)
unicast_owned c r u h = rw (owned_car c r) u

pub unicast_freed : (r : Record) → Unicast (freed r)
unicast_freed r h = clash (is_held (freed r)) h (freed_free r)

unicast_of : (r : Record) (x : Ticked) → is_unicast r.car.0 ≡ true → Unicast (record_of r x)
unfolding record_of
unicast_of r (now_free ts) u = unicast_freed r
unicast_of r (still_held n ts) u = unicast_owned r.car n u

pub unicast_tick : (b : Bool) (e : ℕ) (r : Record) → Unicast r → Unicast (tick_record b e r)
unfolding tick_record
unicast_tick b e r u = split (is_held r) (λ g. rw g (unicast_of r (tick_phase b e r r.phase) (u g))) (λ g. rw g u)

unicast_phase : (p : Phase) (r : Record) → is_unicast r.car.0 ≡ true → Unicast (in_phase p r)
unfolding in_phase
unicast_phase p r u h = u

pub unicast_turn : (w : Turn) (r : Record) → Unicast r → Unicast (toggled_record w r)
unfolding toggled_record
unicast_turn w r u = split (is_held r) (λ g. rw g (unicast_phase (toggled_phase w r.phase) r (u g))) (λ g. rw g u)

unicast_put : (c : CarAddress) → is_unicast c.0 ≡ true → (rs : List Record) → All Unicast rs → (w : Checked Change) → OnYes (λ (x : Change). All Unicast (put c x.place x.kept rs)) w
unicast_put c u rs h (no n) = tt
unicast_put c u rs h (yes x) = all_put Unicast c x.place x.kept (unicast_owned c x.kept u) rs h

pub unicast_next : (o : Shared) (i : Inner) (x : Call) → All Unicast i.records → All Unicast (next i (rule o i x)).records
unicast_next o i x = always (All Unicast) AnyRequest o
    (λ c u m f a x rs h. unicast_put c u rs h (change_rule o.config.edition c m a (free_places rs) (first_result x rs) (mine c rs)))
    (λ b e rs h. all_map Unicast (tick_record b e) (unicast_tick b e) rs h)
    (λ w rs h. all_map Unicast (toggled_record w) (unicast_turn w) rs h)
    (λ rs h. all_map Unicast freed (λ r g. unicast_freed r) rs h)
    i x (meets_any o.config x)

pub unicast_after : (s : Station) (xs : List Call) → All Unicast s.records → All Unicast (after s xs).records
unfolding step
unicast_after = after_all (λ (s : Station). All Unicast s.records) (λ s x h. unicast_next (shared s) (inner s) x h)

-- ---- the records stay as many

length_of_lem : (n : ℕ) (c : CarAddress) (rs : List Record) → length rs ≡ n → (w : Checked Change) → OnYes (λ (x : Change). length (put c x.place x.kept rs) ≡ n) w
length_of_lem n c rs h (no k) = tt
length_of_lem n c rs h (yes x) = length_put c x.kept x.place rs ∙ h

length_next : (n : ℕ) (o : Shared) (i : Inner) (x : Call) → length i.records ≡ n → length (next i (rule o i x)).records ≡ n
length_next n o i x = always (λ (rs : List Record). length rs ≡ n) AnyRequest o
    (λ c u m f a x rs h. length_of_lem n c rs h (change_rule o.config.edition c m a (free_places rs) (first_result x rs) (mine c rs)))
    (λ b e rs h. length-map rs (tick_record b e) ∙ h)
    (λ w rs h. length-map rs (toggled_record w) ∙ h)
    (λ rs h. length-map rs freed ∙ h)
    i x (meets_any o.config x)

pub length_after : (s : Station) (xs : List Call) → length (after s xs).records ≡ length s.records
unfolding step
length_after s₀ xs = after_all (λ (s : Station). length s.records ≡ length s₀.records) (λ s x h. length_next (length s₀.records) (shared s) (inner s) x h) s₀ xs refl

-- ---- no car holds two records

abbrev pub OneEach : List Record → Type 0
OneEach rs = (c : CarAddress) → length (mine c rs) ≤ 1

one_then : (p : Place) (n : Record) (own : List Record) → length own ≤ 1 → length (own_then p n own) ≤ 1
one_then own_place n [] h = h
one_then own_place n (r ∷ own) h = h
one_then free_place n own h = omega arith

one_put : (c : CarAddress) (rs : List Record) → OneEach rs → (w : Checked Change) → OnYes (λ (x : Change). Ready x.place (free_places rs) (mine c rs)) w → OnYes (λ (x : Change). OneEach (put c x.place x.kept rs)) w
one_put c rs h (no n) w = tt
one_put c rs h (yes x) w = λ d. split (same_car d c)
    (λ e. rw (same_eq d c e, mine_put c x.kept x.place rs w) (one_then x.place (owned c x.kept) (mine c rs) (h c)))
    (λ e. rw (mine_put_other c x.kept x.place d rs e) (h d))

only_shorter : (c : CarAddress) (rs : List Record) → length (mine c rs) ≤ length rs
only_shorter c rs = omega (arith, only_parts (holds c) rs)

-- a change of each record that gives it to no other car
one_map : (g : Record → Record) → Keeping g → (rs : List Record) → OneEach rs → OneEach (map g rs)
one_map g k rs h c = rw (mine_map g k c rs) (omega (arith, h c, only_shorter c (map g (mine c rs)), length-map (mine c rs) g))

pub one_next : (o : Shared) (i : Inner) (x : Call) → OneEach i.records → OneEach (next i (rule o i x)).records
one_next o i x = always OneEach AnyRequest o
    (λ c u m f a x rs h. one_put c rs h (change_rule o.config.edition c m a (free_places rs) (first_result x rs) (mine c rs)) (change_ready o.config.edition c m a (free_places rs) (first_result x rs) (mine c rs)))
    (λ b e. one_map (tick_record b e) (tick_keeping b e))
    (λ w. one_map (toggled_record w) (turn_keeping w))
    (λ rs h c. rw (mine_freed c rs) (omega arith))
    i x (meets_any o.config x)

pub one_after : (s : Station) (xs : List Call) → OneEach s.records → OneEach (after s xs).records
unfolding step
one_after = after_all (λ (s : Station). OneEach s.records) (λ s x h. one_next (shared s) (inner s) x h)
