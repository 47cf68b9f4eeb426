-- `ends::runs::put_words` meets its contract: the words that have room are all that is stored.
use Rattle.std.proofs.Common.{◌≡◌, ℕ, ◌+◌, ◌-◌, List, length, take, ap, ◌∙◌, arith}
use borrow.Rule.Slice.PartMut.{put_mid}
use lib.Seq.{length-take-le}
use Rattle.octets.proofs.LoopLaws.{sets_within, sets_put}
use Rattle.ends.proofs.runs.put_words.Goals as goal

pub returns-then-count-gt0 : goal.returns-then-count-gt0
returns-then-count-gt0 c =
    let a = c.args in
    let src : List ℕ = a.src.now in
    let n : ℕ = c.min-count.result in
    let long : length (take n src) ≡ a.at + n - a.at = length-take-le n src (omega arith) ∙ omega arith in
    ap (put_mid a.at (a.at + n - a.at) a.words.now) c.copy_from_slice.ensures.after
    ∙ sets_put (take n src) a.words.now a.at (a.at + n - a.at) (omega arith) long
    ∙ sets_within src a.words.now a.at n (omega arith)

pub returns-else-count-gt0 : goal.returns-else-count-gt0
returns-else-count-gt0 c = sets_within c.args.src.now c.args.words.now c.args.at 0 (omega arith)
