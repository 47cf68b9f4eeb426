-- `words::whole::put_state` meets its contract: the rest of the head stays.
use native.Mathlib.Omega.{arith}
use Rattle.words.proofs.HeadWords.{state_put}
use Rattle.words.proofs.whole.put_state.Goals as goal

pub returns : goal.returns
returns c =
    let a = c.args in
    let put = c.put_state.ensures in
    λ s x. state_put a.words.now _ a.state a.pilot a.clock (omega arith) put.0 s x put.1
