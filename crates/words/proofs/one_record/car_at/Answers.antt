-- `words::one_record::car_at` meets its contract: the record at the place is that of its words.
use Prim.Native.Nat.{ℕ}
use Rattle.messages.specs.declared.CarAddress.{CarAddress}
use Rattle.words.proofs.RecordWords.{car_at}
use mathlib.Core.Path.{sym, ap}
use Rattle.words.proofs.one_record.car_at.Goals as goal

pub returns : goal.returns
returns c =
    let a = c.args in
    λ s x. sym (ap (λ (n : ℕ). let x : CarAddress = record { 0 = n } in x) (car_at a.words.now s x a.i _ c.requires))
