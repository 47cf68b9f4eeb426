-- The records first, their confirmations behind their reports, then admission.
use mathlib.Core.Path.{◌≡◌, ap, ◌∙◌}
use mathlib.Core.Bool.{not}
use native.Mathlib.Omega.{arith}
use lib.ListN.{length}
use Rattle.rules.specs.Constants.{record_count}
use Rattle.ends.proofs.ListLaws.{length_mapped}
use Rattle.station.proofs.BothLaws.{from_fits, confirmable, both_most}
use Rattle.station.proofs.TickLaws.{none_asked, admission_ends, admission_stays}
use borrow.Author.Rules.{rules}
use Rattle.station.proofs.ticks.matching.Goals as goal

pub slice_bounds-confirm_all-count : goal.slice_bounds-confirm_all-count
slice_bounds-confirm_all-count c = omega (arith, from_fits _ _ _ _ _ _ _ _ c.requires c.tick_all-ticked.ensures.sent c.tick_all-ticked.ensures.few c.tick_all-ticked.auto.out)

pub slice_bounds-confirm_all-start : goal.slice_bounds-confirm_all-start
slice_bounds-confirm_all-start c = omega (arith, from_fits _ _ _ _ _ _ _ _ c.requires c.tick_all-ticked.ensures.sent c.tick_all-ticked.ensures.few c.tick_all-ticked.auto.out)

pub confirm_all-confirmed-requires : goal.confirm_all-confirmed-requires
confirm_all-confirmed-requires c = confirmable _ _ _ _ _ _ _ _ c.requires c.tick_all-ticked.ensures.sent c.tick_all-ticked.ensures.few c.tick_all-ticked.auto.out

pub overflow_mul-octets : goal.overflow_mul-octets
overflow_mul-octets c =
    let count : length c.args.station.records ≡ record_count = search (rules, length_mapped) in
    omega (arith, both_most _ _ _ _ _ _ _ _ c.requires c.tick_all-ticked.ensures.sent c.tick_all-ticked.ensures.few c.tick_all-ticked.auto.out _ _ c.confirm_all-confirmed.ensures, count)

pub overflow_add-octets : goal.overflow_add-octets
overflow_add-octets c =
    let count : length c.args.station.records ≡ record_count = search (rules, length_mapped) in
    omega (arith, both_most _ _ _ _ _ _ _ _ c.requires c.tick_all-ticked.ensures.sent c.tick_all-ticked.ensures.few c.tick_all-ticked.auto.out _ _ c.confirm_all-confirmed.ensures, c.tick_all-ticked.ensures.few, count)

pub overflow_add-frames : goal.overflow_add-frames
overflow_add-frames c =
    let count : length c.args.station.records ≡ record_count = search (rules, length_mapped) in
    omega (arith, both_most _ _ _ _ _ _ _ _ c.requires c.tick_all-ticked.ensures.sent c.tick_all-ticked.ensures.few c.tick_all-ticked.auto.out _ _ c.confirm_all-confirmed.ensures, count)

pub overflow_cast-frames : goal.overflow_cast-frames
overflow_cast-frames c =
    let count : length c.args.station.records ≡ record_count = search (rules, length_mapped) in
    omega (arith, both_most _ _ _ _ _ _ _ _ c.requires c.tick_all-ticked.ensures.sent c.tick_all-ticked.ensures.few c.tick_all-ticked.auto.out _ _ c.confirm_all-confirmed.ensures, count)

pub returns-then-left-any_held : goal.returns-then-left-any_held
returns-then-left-any_held c =
    admission_ends c.args.station _ _ _ _ c.is_b-back.ensures c.tick_all-ticked.result _ _ c.requires c.tick_all-ticked.ensures c.tick_all-ticked.auto.out _ _ c.confirm_all-confirmed.ensures _ c.left_after-left.ensures _ (ap not c.any_held.ensures ∙ none_asked _) c.anew-next.result _ c.if-left-any_held.true (c.anew-next.ensures, c.done.ensures)

pub returns-else-left-any_held : goal.returns-else-left-any_held
returns-else-left-any_held c =
    admission_stays c.args.station _ _ _ _ c.is_b-back.ensures c.tick_all-ticked.result _ _ c.requires c.tick_all-ticked.ensures c.tick_all-ticked.auto.out _ _ c.confirm_all-confirmed.ensures _ c.left_after-left.ensures _ (ap not c.any_held.ensures ∙ none_asked _) c.anew-next-else-left-any_held.result _ c.if-left-any_held.false (c.anew-next-else-left-any_held.ensures, c.done-else-left-any_held.ensures)
