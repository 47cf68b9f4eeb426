-- `words::one_record::read` meets its contract: read field by field, it is the record at its place.
use Prim.Native.Nat.{◌*◌}
use Rattle.octets.specs.Octets.{part}
use Rattle.messages.specs.Table.{group_count}
use Rattle.words.proofs.RecordWords.{read_is}
use Rattle.words.specs.Words.{sums_of}
use mathlib.Core.Path.{refl, ap, ◌∙◌}
use Rattle.words.proofs.one_record.read.Goals as goal

pub returns : goal.returns
returns c =
    let a = c.args in
    read_is a.words.now a.sums.now a.spread.now a.i _ c.requires _ _
    c.edition_of-edition.ensures
    (c.is_held.ensures a.sums.now a.spread.now)
    (c.car_at.ensures a.sums.now a.spread.now)
    refl
    c.later-later.ensures
    c.phase-phase.ensures
    c.heard.ensures
    c.profiles-profiles.ensures
    c.groups-groups.ensures
    (c.sums_at.ensures ∙ ap (λ g. sums_of c.profiles-profiles.result g (part a.sums.now (group_count * a.i) group_count)) c.groups_in.ensures)
    c.spread_at.ensures
