-- The event is carried out, and its reply held to the recorded one.
use Prim.Native.Nat.{ℕ, ◌+◌, ◌-◌, ◌≤◌}
use mathlib.Core.Path.{◌≡◌, ap, ◌∙◌}
use native.Mathlib.Omega.{arith}
use lib.ListN.{length, take, drop}
use lib.Seq.{length-take-le}
use Rattle.script.specs.Replies.{longest_reply}
use Rattle.session_log.specs.Meaning.{first_in, second_in, length_in}
use Rattle.session_log.specs.Layout.{item_octets, head_at}
use Rattle.replaying.proofs.TurnLaws.{event_as_lem, written_fits, carried, turned, unturned}
use borrow.Author.Rules.{rules}
use Rattle.replaying.proofs.one_event.Goals as goal

pub slice_bounds-eq-end : goal.slice_bounds-eq-end
slice_bounds-eq-end c = let h = carried c.args.station c.args.out.now c.carry_out.new.out c.in_ok-happened.happened _ c.in_ok-happened.ensures in omega (arith, written_fits _ _ _ h.output, h.octets)

pub slice_bounds-eq-end-2 : goal.slice_bounds-eq-end-2
slice_bounds-eq-end-2 c = let h = carried c.args.station c.args.out.now c.carry_out.new.out c.in_ok-happened.happened _ c.in_ok-happened.ensures in omega (arith, written_fits _ _ _ h.output, h.octets, length-take-le c.in_ok-happened.happened.octets c.carry_out.new.out (omega (arith, written_fits _ _ _ h.output, h.octets)))

pub returns : goal.returns
returns c =
    let a = c.args in
    let h = c.head_at-head.ensures in
    let own : c.behind-end.result - (a.event + item_octets) ≡ length_in (head_at a.log.now a.event) = (let q = c.behind-end.ensures in omega arith) in
    let called =
    event_as_lem a.log.now a.event c.requires.1.kind (c.from.ensures ∙ ap first_in h) (ap second_in h)
    (ap (λ (n : ℕ). take n (drop (a.event + item_octets) a.log.now)) own)
    (let q = c.requires.0.output in let z : longest_reply ≤ length a.out.now = omega arith in z) in
    rw c.then_some.ensures
    (turned a.station a.log.now a.event a.reply (λ i. (c.type_inv.log i).fits) c.requires.1 a.out.now c.carry_out.new.out c.in_ok-happened.happened (search rules)
    (rw called at c.in_ok-happened.ensures)
    c.behind-reply_end.ensures
    c.eq.ensures)

pub returns-in_err-happened : goal.returns-in_err-happened
returns-in_err-happened c =
    let a = c.args in
    let h = c.head_at-head.ensures in
    let own : c.behind-end.result - (a.event + item_octets) ≡ length_in (head_at a.log.now a.event) = (let q = c.behind-end.ensures in omega arith) in
    let called =
    event_as_lem a.log.now a.event c.requires.1.kind (c.from.ensures ∙ ap first_in h) (ap second_in h)
    (ap (λ (n : ℕ). take n (drop (a.event + item_octets) a.log.now)) own)
    (let q = c.requires.0.output in let z : longest_reply ≤ length a.out.now = omega arith in z) in
    rw c.from_residual.ensures
    (unturned a.station a.log.now a.event a.reply (λ i. (c.type_inv.log i).fits) c.requires.1 a.out.now c.carry_out.new.out (rw called at c.in_err-happened.ensures))
