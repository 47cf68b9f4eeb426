-- The two tests and the message are those of the rule.
use mathlib.Core.Path.{◌∙◌}
use Rattle.octets.proofs.LoopLaws.{value_one}
use Rattle.messages.proofs.ReadLaws.{decided}
use Rattle.messages.specs.Table.{atten_char_ind}
use Rattle.messages.proofs.reader.Payload.atten_char_ind.Goals as goal

pub returns : goal.returns
returns c =
    let a = c.args in
    decided a.self.edition atten_char_ind a.count a.self.dst a.self.src a.self.octets.now c.decide.result tt
    (λ b. c.decide.ensures a.self.edition b ∙ simp (c.number_at-run.ensures, c.octet_at-sounds.ensures ∙ value_one a.self.octets.now 50, c.any_id-any.ensures, c.is_unicast.ensures, c.is_unicast-2.ensures, c.is_zero.ensures, c.number_at.ensures, c.is_free.ensures, c.is_free-2.ensures, c.count_at.ensures))
