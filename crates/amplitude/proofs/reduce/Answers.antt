-- The values, the counts, the levels and the room are tested in this order; then the reductions are stored.
use mathlib.Core.Path.{sym, ◌∙◌}
use Rattle.amplitude.proofs.WriteLaws.{map_halves}
use Rattle.amplitude.proofs.ReduceLaws.{no_map, counts_differ, bad_level, no_room, reduced}
use Rattle.amplitude.proofs.reduce.Goals as goal

pub put_reductions-requires : goal.put_reductions-requires
put_reductions-requires c = record { values_value = (map_halves c.args.values.now (sym c.is_map.ensures ∙ c.if-not-is_map.false), sym c.are_levels.ensures ∙ c.if-not-are_levels.false); values_len = (c.if-n-levels.false, c.if-out-n.false) }

pub returns : goal.returns
returns c =
    let a = c.args in
    let r = reduced a.values.now a.levels.now a.out.now (sym c.is_map.ensures ∙ c.if-not-is_map.false) c.if-n-levels.false (sym c.are_levels.ensures ∙ c.if-not-are_levels.false) c.if-out-n.false _ c.put_reductions.ensures in
    record { result_value = r.0; out_after = r.1 }

pub returns-then-out-n : goal.returns-then-out-n
returns-then-out-n c =
    let a = c.args in
    let r = no_room a.values.now a.levels.now a.out.now (sym c.is_map.ensures ∙ c.if-not-is_map.false) c.if-n-levels.false (sym c.are_levels.ensures ∙ c.if-not-are_levels.false) c.if-out-n.true in
    record { result_value = r.0; out_after = r.1 }

pub returns-then-not-are_levels : goal.returns-then-not-are_levels
returns-then-not-are_levels c =
    let a = c.args in
    let r = bad_level a.values.now a.levels.now a.out.now (sym c.is_map.ensures ∙ c.if-not-is_map.false) c.if-n-levels.false (sym c.are_levels.ensures ∙ c.if-not-are_levels.true) in
    record { result_value = r.0; out_after = r.1 }

pub returns-then-n-levels : goal.returns-then-n-levels
returns-then-n-levels c =
    let a = c.args in
    let r = counts_differ a.values.now a.levels.now a.out.now (sym c.is_map.ensures ∙ c.if-not-is_map.false) c.if-n-levels.true in
    record { result_value = r.0; out_after = r.1 }

pub returns-then-not-is_map : goal.returns-then-not-is_map
returns-then-not-is_map c =
    let a = c.args in
    let r = no_map a.values.now a.levels.now a.out.now (sym c.is_map.ensures ∙ c.if-not-is_map.true) in
    record { result_value = r.0; out_after = r.1 }
