-- By the kind, on the part behind the head.
use mathlib.Core.Path.{refl}
use native.Mathlib.Omega.{arith}
use Rattle.messages.proofs.FrameLaws.{bare_reads, counted_reads}
use Rattle.messages.proofs.reader.body.Goals as goal

pub returns-in-SlacParmReq : goal.returns-in-SlacParmReq
returns-in-SlacParmReq c = bare_reads c.args.edition c.args.frame.now c.of.ensures c.in-SlacParmReq.is c.args.form.count c.requires.0 _ c.slac_parm_req.ensures refl (omega arith)

pub returns-in-SlacParmCnf : goal.returns-in-SlacParmCnf
returns-in-SlacParmCnf c = bare_reads c.args.edition c.args.frame.now c.of-in-SlacParmCnf.ensures c.in-SlacParmCnf.is c.args.form.count c.requires.0 _ c.slac_parm_cnf.ensures refl (omega arith)

pub returns-in-StartAttenCharInd : goal.returns-in-StartAttenCharInd
returns-in-StartAttenCharInd c = bare_reads c.args.edition c.args.frame.now c.of-in-StartAttenCharInd.ensures c.in-StartAttenCharInd.is c.args.form.count c.requires.0 _ c.start_atten_char_ind.ensures refl (omega arith)

pub returns-in-AttenCharInd : goal.returns-in-AttenCharInd
returns-in-AttenCharInd c = counted_reads c.args.edition c.args.frame.now c.of-in-AttenCharInd.ensures c.in-AttenCharInd.is c.args.form.count _ c.atten_char_ind.ensures (omega arith)

pub returns-in-AttenCharRsp : goal.returns-in-AttenCharRsp
returns-in-AttenCharRsp c = bare_reads c.args.edition c.args.frame.now c.of-in-AttenCharRsp.ensures c.in-AttenCharRsp.is c.args.form.count c.requires.0 _ c.atten_char_rsp.ensures refl (omega arith)

pub returns-in-MnbcSoundInd : goal.returns-in-MnbcSoundInd
returns-in-MnbcSoundInd c = bare_reads c.args.edition c.args.frame.now c.of-in-MnbcSoundInd.ensures c.in-MnbcSoundInd.is c.args.form.count c.requires.0 _ c.mnbc_sound_ind.ensures refl (omega arith)

pub returns-in-ValidateReq : goal.returns-in-ValidateReq
returns-in-ValidateReq c = bare_reads c.args.edition c.args.frame.now c.of-in-ValidateReq.ensures c.in-ValidateReq.is c.args.form.count c.requires.0 _ c.validate_req.ensures refl (omega arith)

pub returns-in-ValidateCnf : goal.returns-in-ValidateCnf
returns-in-ValidateCnf c = bare_reads c.args.edition c.args.frame.now c.of-in-ValidateCnf.ensures c.in-ValidateCnf.is c.args.form.count c.requires.0 _ c.validate_cnf.ensures refl (omega arith)

pub returns-in-SlacMatchReq : goal.returns-in-SlacMatchReq
returns-in-SlacMatchReq c = bare_reads c.args.edition c.args.frame.now c.of-in-SlacMatchReq.ensures c.in-SlacMatchReq.is c.args.form.count c.requires.0 _ c.slac_match_req.ensures refl (omega arith)

pub returns-in-SlacMatchCnf : goal.returns-in-SlacMatchCnf
returns-in-SlacMatchCnf c = bare_reads c.args.edition c.args.frame.now c.of-in-SlacMatchCnf.ensures c.in-SlacMatchCnf.is c.args.form.count c.requires.0 _ c.slac_match_cnf.ensures refl (omega arith)

pub returns-in-AttenProfileInd : goal.returns-in-AttenProfileInd
returns-in-AttenProfileInd c = counted_reads c.args.edition c.args.frame.now c.of-in-AttenProfileInd.ensures c.in-AttenProfileInd.is c.args.form.count _ c.atten_profile_ind.ensures (omega arith)
