-- Demand 3 holds of the station that any configuration gives.
use Prim.Native.Nat.{ℕ, zero, suc, ◌<◌, ◌≤◌}
use mathlib.Core.Path.{◌≡◌, refl}
use mathlib.Core.Bool.{Bool}
use mathlib.Core.List.{List, []}
use native.Mathlib.Omega.{arith}
use lib.ListN.{length, replicate, length-replicate}
use Rattle.messages.specs.declared.CarAddress.{CarAddress}
use Rattle.messages.specs.declared.Edition.{Edition}
use Rattle.messages.specs.declared.ModemAddress.{ModemAddress}
use Rattle.messages.specs.declared.Nid.{Nid}
use Rattle.messages.specs.declared.Nmk.{Nmk}
use Rattle.messages.specs.declared.StationAddress.{StationAddress}
use Rattle.rules.specs.Constants.{record_count}
use Rattle.ends.specs.Lists.{only, All}
use Rattle.rules.specs.Calls.{Call}
use Rattle.rules.specs.Records.{mine}
use Rattle.rules.specs.Rules.{free_record, configured, after}
use Rattle.rules.specs.Demand3.{Demand3}
use Rattle.ends.proofs.ListLaws.{all_replicate}
use Rattle.rules.proofs.RecordLaws.{holds_free, freed_free}
use Rattle.rules.proofs.ReplyLaws.{Unicast}
use Rattle.rules.proofs.Reached.{unicast_freed, one_after}
use Rattle.rules.proofs.PartOne.{undisturbed}
use Rattle.rules.proofs.Shorter.{undisturbed_shorter}
use Rattle.rules.proofs.PartTwo.{order_free}

pub mine_free : (c : CarAddress) (n : ℕ) → mine c (replicate n free_record) ≡ []
unfolding only free_record
mine_free c zero = refl
mine_free c (suc n) = rw (holds_free c free_record (freed_free _)) (mine_free c n)

module _ (address : StationAddress) (modem : ModemAddress) (nid : Nid) (nmk : Nmk) (exempt : Bool) (edition : Edition) (carriers : ℕ) where
  some_place : 0 < length (configured address modem nid nmk exempt edition carriers).records
  unfolding configured
  some_place = rw (length-replicate record_count free_record) (omega arith)

  all_unicast : All Unicast (configured address modem nid nmk exempt edition carriers).records
  unfolding configured free_record
  all_unicast = all_replicate Unicast free_record (unicast_freed _) record_count

  -- "its record": no car ever holds two
  pub one_record : (xs : List Call) (c : CarAddress) → length (mine c (after (configured address modem nid nmk exempt edition carriers) xs).records) ≤ 1
  unfolding configured
  one_record xs = one_after (configured address modem nid nmk exempt edition carriers) xs (λ c. rw (mine_free c record_count) (omega arith))

  pub cars_do_not_disturb : Demand3 (configured address modem nid nmk exempt edition carriers)
  cars_do_not_disturb = record {
    undisturbed = undisturbed (configured address modem nid nmk exempt edition carriers) some_place all_unicast;
    undisturbed_shorter = undisturbed_shorter (configured address modem nid nmk exempt edition carriers) some_place all_unicast;
    order_free = order_free (configured address modem nid nmk exempt edition carriers);
  }
