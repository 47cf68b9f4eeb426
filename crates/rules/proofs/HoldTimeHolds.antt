-- No record kept for ever: specs/HoldTime holds of the station that any configuration gives.
use Prim.Native.Nat.{ℕ, ◌+◌, ◌<◌}
use mathlib.Core.Path.{◌≡◌, refl, sym, ap, subst}
use mathlib.Core.Bool.{Bool, false}
use mathlib.Core.List.{List, [], ◌∷◌}
use native.Mathlib.Omega.{arith}
use lib.ListN.{length}
use Rattle.messages.specs.declared.CarAddress.{CarAddress}
use Rattle.messages.specs.declared.Edition.{Edition}
use Rattle.messages.specs.declared.ModemAddress.{ModemAddress}
use Rattle.messages.specs.declared.Nid.{Nid}
use Rattle.messages.specs.declared.Nmk.{Nmk}
use Rattle.messages.specs.declared.StationAddress.{StationAddress}
use Rattle.rules.specs.declared.Record.{Record}
use Rattle.rules.specs.declared.Station.{Station}
use Rattle.rules.specs.Calls.{Call}
use Rattle.rules.specs.Records.{mine}
use Rattle.rules.specs.Rules.{configured, step, after}
use Rattle.rules.specs.HoldTime.{is_holder, is_readied, any_readied, spans, Unasked, ticked, while_held, held_for, longest_hold, HeldShort, HoldTime}
use Rattle.ends.proofs.Logic.{or_left, or_right}
use Rattle.rules.proofs.Always.{after_all}
use Rattle.rules.proofs.EditionLaws.{edition_step, edition_after}
use Rattle.rules.proofs.ReachableHolds.{Reaches, reaches_next, configured_reaches}
use Rattle.rules.proofs.TimeLeft.{time_left, more_left}
use Rattle.rules.proofs.HoldSteps.{Fit, Falls, Started, falls_fit, ask_starts, step_falls}

-- ---- milliseconds against what is left of a car's own records

module _ (ed : Edition) (v : Bool) (e : ℕ) where
  -- so many milliseconds are less than what is left; where no record is held they are none
  abbrev Less : List Record → ℕ → Type 0
  Less [] n = n ≡ 0
  Less (r ∷ own) n = n < time_left ed v e r

  less_now : (own : List Record) → Fit own → Less own 0
  less_now [] h = refl
  less_now (r ∷ own) h = omega (arith, more_left ed v e r h)

  less_held : (own : List Record) → Fit own → 0 < length own → Less own e
  less_held [] h k = absurd (omega arith)
  less_held (r ∷ own) h k = more_left ed v e r h

  less_step : (d n : ℕ) (own own' : List Record) → Falls ed v e d own own' → Less own' n → Less own (while_held own d + n)
  less_step d n [] own' f h = let z : n ≡ 0 = subst (λ (l : List Record). Less l n) f h in omega arith
  less_step d n (r ∷ own) [] f h = omega arith
  less_step d n (r ∷ own) (q ∷ own') f h = omega arith

  less_same : (own : List Record) (n k : ℕ) → n ≡ k → Less own n → Less own k
  less_same own n k q h = subst (Less own) q h

  less_started : (later : Bool) (own : List Record) (n : ℕ) → Started ed v e later own → Less own n → n < longest_hold ed later v e
  less_started later [] n g h = omega arith
  less_started later (r ∷ own) n g h = omega arith

  started_fit : (later : Bool) (own : List Record) → Started ed v e later own → Fit own
  started_fit later [] g = tt
  started_fit later (r ∷ own) g = g.0

none_held_lem : (own : List Record) (d : ℕ) → (own ≡ [] → ⊥) → while_held own d ≡ d
none_held_lem [] d h = absurd (h refl)
none_held_lem (r ∷ own) d h = refl

some_own : (own : List Record) → 0 < length own → own ≡ [] → ⊥
some_own own h q = let z : length own ≡ 0 = ap length q in omega arith

-- ---- the calls since

module _ (ed : Edition) (v : Bool) (c : CarAddress) (e : ℕ) where
  -- a station and the calls that it gets, in which car c asks no more and, unless it may be made ready, is not
  record Quiet (s : Station) (xs : List Call) : Type 0 where
    edition : s.config.edition ≡ ed
    reaches : Reaches s
    unasked : Unasked c e s xs
    unready : v ≡ false → any_readied c s xs ≡ false

  module _ (s : Station) (x : Call) (xs : List Call) (q : Quiet s (x ∷ xs)) where
    quiet_next : Quiet (step s x) xs
    unfolding any_readied
    quiet_next = record {
      edition = edition_step ed s x q.edition;
      reaches = reaches_next s x q.reaches;
      unasked = q.unasked.2;
      unready = λ n. or_right (is_readied c s x) (any_readied c (step s x) xs) (q.unready n);
    }

    quiet_falls : Fit (mine c s.records) → Falls ed v e (spans s x) (mine c s.records) (mine c (step s x).records)
    unfolding any_readied
    quiet_falls h = subst (λ (d : Edition). Falls d v e (spans s x) (mine c s.records) (mine c (step s x).records)) q.edition
        (step_falls v e c s x q.reaches.0 q.unasked.0 (λ n. or_left (is_readied c s x) (any_readied c (step s x) xs) (q.unready n)) q.unasked.1 h)

  -- z more milliseconds, where that many are less than what is left at the end
  held_less : (s : Station) (xs : List Call) (z : ℕ) → Quiet s xs → Fit (mine c s.records)
      → (Fit (mine c (after s xs).records) → Less ed v e (mine c (after s xs).records) z) → Less ed v e (mine c s.records) (held_for c s xs + z)
  unfolding held_for
  held_less s [] z q h k = less_same ed v e (mine c s.records) z (0 + z) (omega arith) (k h)
  held_less s (x ∷ xs) z q h k =
      let own : List Record = mine c s.records in
      let f : Falls ed v e (spans s x) own (mine c (step s x).records) = quiet_falls s x xs q h in
      less_same ed v e own (while_held own (spans s x) + (held_for c (step s x) xs + z)) (while_held own (spans s x) + held_for c (step s x) xs + z) (omega arith)
      (less_step ed v e (spans s x) (held_for c (step s x) xs + z) own (mine c (step s x).records) f (held_less (step s x) xs z (quiet_next s x xs q) (falls_fit ed v e (spans s x) own _ f) k))

  -- a car without a record takes none
  none_stays : (s : Station) (xs : List Call) → Quiet s xs → mine c s.records ≡ [] → mine c (after s xs).records ≡ []
  none_stays s [] q h = h
  none_stays s (x ∷ xs) q h =
      let f : Falls ed v e (spans s x) (mine c s.records) (mine c (step s x).records) = quiet_falls s x xs q (subst Fit (sym h) tt) in
      none_stays (step s x) xs (quiet_next s x xs q) (subst (λ (l : List Record). Falls ed v e (spans s x) l (mine c (step s x).records)) h f)

  -- and so one that holds a record at the end has held it all the while
  all_held : (s : Station) (xs : List Call) → Quiet s xs → 0 < length (mine c (after s xs).records) → ticked s xs ≡ held_for c s xs
  unfolding ticked held_for
  all_held s [] q h = refl
  all_held s (x ∷ xs) q h =
      let a : ticked (step s x) xs ≡ held_for c (step s x) xs = all_held (step s x) xs (quiet_next s x xs q) h in
      let b : while_held (mine c s.records) (spans s x) ≡ spans s x = none_held_lem (mine c s.records) (spans s x) (λ n. some_own _ h (none_stays s (x ∷ xs) q n)) in
      omega arith

  held_short : (later : Bool) (s : Station) (xs : List Call) → Quiet s xs → Started ed v e later (mine c s.records) → HeldShort (longest_hold ed later v e) c e s xs
  held_short later s xs q t =
      let own : List Record = mine c s.records in
      let end : List Record = mine c (after s xs).records in
      let h : Fit own = started_fit ed v e later own t in
      record {
        held =
            let k : held_for c s xs + 0 < longest_hold ed later v e = less_started ed v e later own (held_for c s xs + 0) t (held_less s xs 0 q h (less_now ed v e end)) in
            omega arith;
        still = λ p.
            let k : held_for c s xs + e < longest_hold ed later v e = less_started ed v e later own (held_for c s xs + e) t (held_less s xs e q h (λ f. less_held ed v e end f p)) in
            let a : ticked s xs ≡ held_for c s xs = all_held s xs q p in
            omega arith;
      }

-- of every station that configuring gives, with the flag by what `since` is
hold_time : (s₀ : Station) → Reaches s₀ → HoldTime s₀
hold_time s₀ g c e before ask since h u =
    let ed : Edition = s₀.config.edition in
    let s : Station = after s₀ before in
    let v : Bool = any_readied c (step s ask) since in
    let w : s.config.edition ≡ ed = edition_after ed s₀ before refl in
    held_short ed v c e (is_holder c s) (step s ask) since
    (record { edition = edition_step ed s ask w; reaches = reaches_next s ask (after_all Reaches reaches_next s₀ before g); unasked = u; unready = λ n. n })
    (subst (λ (d : Edition). Started d v e (is_holder c s) (mine c (step s ask).records)) w (ask_starts v e c s ask h))

pub no_record_for_ever : (address : StationAddress) (modem : ModemAddress) (nid : Nid) (nmk : Nmk) (exempt : Bool) (edition : Edition) (carriers : ℕ) → HoldTime (configured address modem nid nmk exempt edition carriers)
no_record_for_ever a m nid nmk exempt ed carriers = hold_time (configured a m nid nmk exempt ed carriers) (configured_reaches a m nid nmk exempt ed carriers)
