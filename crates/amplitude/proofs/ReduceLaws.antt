-- Laws of the rule of reductions, test by test.
use Prim.Native.Nat.{ℕ, ◌≤◌, ◌<◌}
use mathlib.Core.Path.{◌≡◌, sym, ap, ◌∙◌}
use mathlib.Core.Bool.{true, false}
use mathlib.Core.List.{List}
use native.Mathlib.Omega.{arith}
use borrow.Author.Tests.{le-leb, lt-leb, eq-eqb, ne_eqb}
use lib.Dec.{eqb, leb}
use lib.IntN.{ℤ}
use lib.ListN.{length}
use lib.Seq.{sets}
use Rattle.messages.specs.Reading.{Checked, no, yes, check}
use Rattle.messages.specs.Writing.{length_of}
use Rattle.messages.proofs.CheckLaws.{pass, fail}
use Rattle.amplitude.specs.Maps.{is_map}
use Rattle.amplitude.specs.Reductions.{reductions, are_levels, reduce_rules}
use Rattle.amplitude.proofs.AnswerLaws.{Gives, refuses, gives}
use Rattle.amplitude.proofs.LevelLaws.{length_reductions}

module _ (vs : List ℕ) (ls : List ℤ) (out : List ℕ) where
  abbrev Reduces : Checked ℕ → List ℕ → Type 0
  Reduces k exit = Gives (reduce_rules vs ls (length out)) k out exit

  refused : (n : ℕ) → reduce_rules vs ls (length out) ≡ no n → Reduces (no n) out
  refused n e = refuses (reduce_rules vs ls (length out)) n out (sym (ap length_of e))

  pub no_map : is_map vs ≡ false → Reduces (no 6) out
  unfolding reduce_rules
  no_map a = refused 6 (fail (is_map vs) 6 _ a)

  module _ (a : is_map vs ≡ true) where
    pub counts_differ : (length vs ≡ length ls → ⊥) → Reduces (no 24) out
    unfolding reduce_rules
    counts_differ b = refused 24 (pass (is_map vs) 6 _ a ∙ fail (eqb (length vs) (length ls)) 24 _ (ne_eqb (length vs) (length ls) b))

    module _ (b : length vs ≡ length ls) where
      by_levels : reduce_rules vs ls (length out) ≡ check (are_levels ls) 16 (check (leb (length vs) (length out)) 15 (yes (reductions vs ls)))
      unfolding reduce_rules
      by_levels = pass (is_map vs) 6 _ a ∙ pass (eqb (length vs) (length ls)) 24 _ (eq-eqb (length vs) (length ls) b)

      pub bad_level : are_levels ls ≡ false → Reduces (no 16) out
      bad_level d = refused 16 (by_levels ∙ fail (are_levels ls) 16 _ d)

      module _ (d : are_levels ls ≡ true) where
        pub no_room : length out < length vs → Reduces (no 15) out
        no_room h = refused 15 (by_levels ∙ pass (are_levels ls) 16 _ d ∙ fail (leb (length vs) (length out)) 15 _ (lt-leb (length vs) (length out) h))

        pub reduced : length vs ≤ length out → (exit : List ℕ) → exit ≡ sets out 0 (reductions vs ls) → Reduces (yes (length vs)) exit
        reduced h exit w =
            let e = length_reductions vs ls b in
            gives (reduce_rules vs ls (length out)) (reductions vs ls) out exit (length vs)
            (by_levels ∙ pass (are_levels ls) 16 _ d ∙ pass (leb (length vs) (length out)) 15 _ (le-leb (length vs) (length out) h))
            (sym e) (omega (arith, e)) w
