-- The message is the reply with the identifiers that are read, and it is sent.
use Prim.Native.Nat.{ℕ, ◌^◌, ◌<◌}
use mathlib.Core.Path.{ap, ap₂, ◌∙◌}
use mathlib.Core.List.{List, []}
use Rattle.rules.specs.declared.Configuration.{Configuration}
use Rattle.rules.specs.Replies.{match_cnf, message_to, frame_to}
use Rattle.lahzavar.specs.Matching.{confirming}
use Rattle.lahzavar.proofs.MatchLaws.{replied, confirmable}
use borrow.Author.Rules.{rules}
use Rattle.lahzavar.proofs.matching.confirm.Goals as goal

-- the run is a 64-bit number
run_fits : (c : goal.After-answered) → c.args.run.0 < 2 ^ 64
run_fits c = search rules

-- and so is each half of the key
key_fits : (c : goal.After-answered) → (c.config_of-config.result.nmk.0 < 2 ^ 64) × (c.config_of-config.result.nmk.1 < 2 ^ 64)
key_fits c = let h = c.config_of-config.type_inv in (search rules, search (h, rules))

pub returns : goal.returns
unfolding frame_to
returns c =
    let a = c.args in
    let ids = c.identifiers-ids.ensures in
    replied _ _ a.out.now _ _ c.answered.result
    (c.match_cnf-message.ensures _ ∙ ap₂ (λ (x y : List ℕ). message_to c.config_of-config.result a.car (match_cnf a.run x y)) ids.0 ids.1 ∙ ap (λ (x : Configuration). message_to x a.car (confirming x.edition a.run a.octets.now)) c.config_of-config.ensures)
    (confirmable a.words.now [] [] a.octets.now a.out.now a.car a.run c.config_of-config.result c.config_of-config.ensures (c.requires.0 [] []) c.requires.1 (run_fits c) (key_fits c)) c.send-answer.ensures c.answered.ensures
