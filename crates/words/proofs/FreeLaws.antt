-- Every record freed: of each the first word is stored.
use Prim.Native.Nat.{ℕ, ◌+◌, ◌*◌, ◌≤◌, ◌<◌}
use mathlib.Core.Path.{◌≡◌, refl, sym, ap, ◌∙◌}
use mathlib.Core.List.{List, map}
use native.Mathlib.Omega.{arith}
use native.Mathlib.Nat.{add-zero}
use borrow.Author.Tests.{eqb-true, eqb-false}
use lib.Dec.{eqb}
use lib.ListN.{length, get_or, set, length-set, length-map, get_or-map}
use lib.Seq.{ext_get_or, get_or-set_same, get_or-set_other}
use Rattle.octets.specs.Octets.{part}
use Rattle.messages.specs.Table.{group_count}
use Rattle.messages.specs.declared.Edition.{Edition}
use Rattle.rules.specs.Constants.{record_count}
use Rattle.rules.specs.Records.{freed}
use Rattle.rules.specs.Rules.{free_record}
use Rattle.rules.specs.declared.Configuration.{Configuration}
use Rattle.ends.proofs.Logic.{split}
use Rattle.ends.proofs.WordLaws.{word_at}
use Rattle.words.specs.Words.{width, word_count, spread_width, edition_in, record_of, records_of, station_of, with_records}
use Rattle.words.proofs.HeadWords.{SameHead, config_same, station_same}
use Rattle.words.proofs.RecordWords.{place, length_records, record_at}

-- the records before i are freed, and no other word has changed
pub record FreedSo (w v : List ℕ) (i : ℕ) : Type 0 where
  pub words : length v ≡ length w
  pub done : (k : ℕ) → k < i → get_or v (place k) 0 ≡ 0
  pub others : (j : ℕ) → ((k : ℕ) → j ≡ place k → ⊥) → get_or v j 0 ≡ get_or w j 0

pub freed_start : (w : List ℕ) → FreedSo w w 0
freed_start w = record { words = refl; done = λ k h. absurd (omega arith); others = λ j h. refl }

module _ (w v : List ℕ) (i : ℕ) (q : FreedSo w v i) where
  pub freed_next : i < record_count → length w ≡ word_count → FreedSo w (set v (place i) 0) (i + 1)
  freed_next h l = record {
    words = length-set v (place i) 0 ∙ q.words;
    done = λ k b. split (eqb k i)
        (λ e. ap (λ (n : ℕ). get_or (set v (place i) 0) (place n) 0) (eqb-true k i e) ∙ get_or-set_same v (place i) 0 0 (omega (arith, q.words)))
        (λ e. get_or-set_other v (place i) (place k) 0 0 (λ z. eqb-false k i e (omega arith)) ∙ q.done k (omega (arith, eqb-false k i e)));
    others = λ j f. get_or-set_other v (place i) j 0 0 (f i) ∙ q.others j f;
  }

-- the words of a record but for the first
abbrev SameRest : List ℕ → List ℕ → Type 0
SameRest a b = (j : ℕ) → 0 < j → j < width → get_or a j 0 ≡ get_or b j 0

-- with 0 for the first word the record is free
record_freed : (e : Edition) (a b s x : List ℕ) → get_or a 0 0 ≡ 0 → SameRest a b → record_of e a s x ≡ freed (record_of e b s x)
unfolding record_of freed
record_freed e a b s x z r = rw (z, r 1 (omega arith) (omega arith), r 2 (omega arith) (omega arith), r 3 (omega arith) (omega arith), r 4 (omega arith) (omega arith), r 5 (omega arith) (omega arith), r 6 (omega arith) (omega arith), r 7 (omega arith) (omega arith), r 8 (omega arith) (omega arith), r 9 (omega arith) (omega arith))

module _ (w v s x : List ℕ) (i : ℕ) (q : FreedSo w v i) (h : record_count ≤ i) where
  same_head : SameHead v w
  same_head j b = q.others j (λ k e. omega arith)

  record_free : (k : ℕ) → k < record_count → get_or (records_of v s x) k (freed free_record) ≡ get_or (map freed (records_of w s x)) k (freed free_record)
  record_free k b =
      record_at v s x k (freed free_record) b
      ∙ ap (λ (e : Edition). record_of e (part v (place k) width) (part s (group_count * k) group_count) (part x (spread_width * k) spread_width)) (ap (λ (o : Configuration). o.edition) (config_same v w same_head))
      ∙ record_freed (edition_in w) (part v (place k) width) (part w (place k) width) _ _
      (word_at v (place k) width 0 (omega arith) ∙ ap (λ (n : ℕ). get_or v n 0) (add-zero (place k)) ∙ q.done k (omega arith))
      (λ j a c. word_at v (place k) width j c ∙ q.others (place k + j) (λ n e. omega arith) ∙ sym (word_at w (place k) width j c))
      ∙ ap freed (sym (record_at w s x k free_record b))
      ∙ sym (get_or-map freed (records_of w s x) k free_record)

  pub freed_end : station_of v s x ≡ with_records (station_of w s x) (map freed (records_of w s x))
  freed_end = station_same v w same_head s x s x (map freed (records_of w s x)) (ext_get_or (freed free_record) _ _ (length_records v s x ∙ sym (length_records w s x) ∙ sym (length-map (records_of w s x) freed)) (λ k b. record_free k (omega (arith, length_records v s x))))
