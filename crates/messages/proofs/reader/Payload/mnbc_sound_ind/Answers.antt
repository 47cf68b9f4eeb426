-- The two tests and the message are those of the rule.
use mathlib.Core.Path.{refl, ◌∙◌}
use Rattle.octets.proofs.LoopLaws.{value_one}
use Rattle.messages.proofs.ReadLaws.{decided}
use Rattle.messages.specs.Table.{mnbc_sound_ind}
use Rattle.messages.proofs.reader.Payload.mnbc_sound_ind.Goals as goal

pub returns : goal.returns
returns c =
    let a = c.args in
    decided a.self.edition mnbc_sound_ind 0 a.self.dst a.self.src a.self.octets.now c.decide.result refl
    (λ b. c.decide.ensures a.self.edition b ∙ simp (c.octet_at-count.ensures ∙ value_one a.self.octets.now 19, c.number_at-run.ensures, c.number_at.ensures, c.number_at-2.ensures, c.is_unicast.ensures, c.is_zero.ensures, c.any_id.ensures, c.is_free.ensures))
