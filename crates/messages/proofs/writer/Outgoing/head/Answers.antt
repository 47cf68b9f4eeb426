-- By the message.
use borrow.Author.Rules.{rules}
use mathlib.Core.Path.{◌∙◌}
use Rattle.messages.proofs.WriteLaws.{judges}
use Rattle.messages.specs.Answers.{besides}
use Rattle.messages.proofs.writer.Outgoing.head.Goals as goal

pub returns-in-SlacParmReq : goal.returns-in-SlacParmReq
returns-in-SlacParmReq c = judges c.args.self.edition (besides c.args.self.groups c.args.self.ids) (search rules) c.in-SlacParmReq.is (search rules) _ (c.judge.ensures ∙ simp c.of.ensures)

pub returns-in-SlacParmCnf : goal.returns-in-SlacParmCnf
returns-in-SlacParmCnf c = judges c.args.self.edition (besides c.args.self.groups c.args.self.ids) (search rules) c.in-SlacParmCnf.is (search rules) _ (c.judge-in-SlacParmCnf.ensures ∙ simp (c.of-in-SlacParmCnf.ensures, c.is_unicast.ensures, c.is_attempt.ensures))

pub returns-in-StartAttenCharInd : goal.returns-in-StartAttenCharInd
returns-in-StartAttenCharInd c = judges c.args.self.edition (besides c.args.self.groups c.args.self.ids) (search rules) c.in-StartAttenCharInd.is (search rules) _ (c.judge-in-StartAttenCharInd.ensures ∙ simp (c.of-in-StartAttenCharInd.ensures, c.is_attempt-in-StartAttenCharInd.ensures))

pub returns-in-AttenCharInd : goal.returns-in-AttenCharInd
returns-in-AttenCharInd c = judges c.args.self.edition (besides c.args.self.groups c.args.self.ids) (search rules) c.in-AttenCharInd.is (search rules) _ (c.judge-in-AttenCharInd.ensures ∙ simp (c.of-in-AttenCharInd.ensures, c.is_unicast-in-AttenCharInd.ensures, c.ids_right.ensures c.args.self.groups, c.groups_right.ensures c.args.self.ids))

pub returns-in-AttenCharRsp : goal.returns-in-AttenCharRsp
returns-in-AttenCharRsp c = judges c.args.self.edition (besides c.args.self.groups c.args.self.ids) (search rules) c.in-AttenCharRsp.is (search rules) _ (c.judge-in-AttenCharRsp.ensures ∙ simp (c.of-in-AttenCharRsp.ensures, c.is_unicast-in-AttenCharRsp.ensures, c.ids_right-in-AttenCharRsp.ensures c.args.self.groups))

pub returns-in-MnbcSoundInd : goal.returns-in-MnbcSoundInd
returns-in-MnbcSoundInd c = judges c.args.self.edition (besides c.args.self.groups c.args.self.ids) (search rules) c.in-MnbcSoundInd.is (search rules) _ (c.judge-in-MnbcSoundInd.ensures ∙ simp (c.of-in-MnbcSoundInd.ensures, c.id_right.ensures))

pub returns-in-ValidateReq : goal.returns-in-ValidateReq
returns-in-ValidateReq c = judges c.args.self.edition (besides c.args.self.groups c.args.self.ids) (search rules) c.in-ValidateReq.is (search rules) _ (c.judge-in-ValidateReq.ensures ∙ simp (c.of-in-ValidateReq.ensures, c.is_receiver.ensures, c.from.ensures, c.timer_limit.ensures))

pub returns-in-ValidateCnf : goal.returns-in-ValidateCnf
returns-in-ValidateCnf c = judges c.args.self.edition (besides c.args.self.groups c.args.self.ids) (search rules) c.in-ValidateCnf.is (search rules) _ (c.judge-in-ValidateCnf.ensures ∙ simp (c.of-in-ValidateCnf.ensures, c.is_unicast-in-ValidateCnf.ensures))

pub returns-in-SlacMatchReq : goal.returns-in-SlacMatchReq
returns-in-SlacMatchReq c = judges c.args.self.edition (besides c.args.self.groups c.args.self.ids) (search rules) c.in-SlacMatchReq.is (search rules) _ (c.judge-in-SlacMatchReq.ensures ∙ simp (c.of-in-SlacMatchReq.ensures, c.is_unicast-in-SlacMatchReq.ensures, c.ids_right-in-SlacMatchReq.ensures c.args.self.groups))

pub returns-in-SlacMatchCnf : goal.returns-in-SlacMatchCnf
returns-in-SlacMatchCnf c = judges c.args.self.edition (besides c.args.self.groups c.args.self.ids) (search rules) c.in-SlacMatchCnf.is (search rules) _ (c.judge-in-SlacMatchCnf.ensures ∙ simp (c.of-in-SlacMatchCnf.ensures, c.is_unicast-in-SlacMatchCnf.ensures, c.ids_right-in-SlacMatchCnf.ensures c.args.self.groups))

pub returns-in-AttenProfileInd : goal.returns-in-AttenProfileInd
returns-in-AttenProfileInd c = judges c.args.self.edition (besides c.args.self.groups c.args.self.ids) (search rules) c.in-AttenProfileInd.is (search rules) _ (c.judge-in-AttenProfileInd.ensures ∙ simp (c.of-in-AttenProfileInd.ensures, c.is_unicast-in-AttenProfileInd.ensures, c.is_unicast-in-AttenProfileInd-2.ensures, c.groups_right-in-AttenProfileInd.ensures c.args.self.ids))
