-- By the message.
use borrow.Author.Rules.{rules}
use Prim.Native.Nat.{◌+◌, ◌-◌}
use mathlib.Core.Path.{◌≡◌, refl}
use native.Mathlib.Omega.{arith}
use Rattle.messages.proofs.WriteLaws.{payload_put}
use Rattle.messages.specs.Answers.{besides}
use Rattle.messages.specs.Table.{broadcast}
use Rattle.messages.proofs.writer.Outgoing.put_payload.Goals as goal

pub returns-in-SlacParmReq : goal.returns-in-SlacParmReq
returns-in-SlacParmReq c = payload_put c.args.self.edition (besides c.args.self.groups c.args.self.ids) (search rules) c.args.out.now c.args.self.message _ c.in-SlacParmReq.is c.requires _ refl c.put_slac_parm_req.new.out (c.put_slac_parm_req.ensures c.args.self.edition broadcast c.in-SlacParmReq.car.0)

pub returns-in-SlacParmCnf : goal.returns-in-SlacParmCnf
returns-in-SlacParmCnf c = payload_put c.args.self.edition (besides c.args.self.groups c.args.self.ids) (search rules) c.args.out.now c.args.self.message _ c.in-SlacParmCnf.is c.requires _ refl c.put_slac_parm_cnf.new.out (c.put_slac_parm_cnf.ensures c.in-SlacParmCnf.station.0)

pub returns-in-StartAttenCharInd : goal.returns-in-StartAttenCharInd
returns-in-StartAttenCharInd c = payload_put c.args.self.edition (besides c.args.self.groups c.args.self.ids) (search rules) c.args.out.now c.args.self.message _ c.in-StartAttenCharInd.is c.requires _ refl c.put_start_atten_char_ind.new.out (c.put_start_atten_char_ind.ensures broadcast)

pub returns-in-AttenCharInd : goal.returns-in-AttenCharInd
returns-in-AttenCharInd c = payload_put c.args.self.edition (besides c.args.self.groups c.args.self.ids) (search rules) c.args.out.now c.args.self.message _ c.in-AttenCharInd.is c.requires (52 + c.in-AttenCharInd.count - 0) (let z : 52 + c.in-AttenCharInd.count - 0 ≡ 52 + c.in-AttenCharInd.count = omega arith in z) c.put_atten_char_ind.new.out (c.put_atten_char_ind.ensures c.args.self.edition c.in-AttenCharInd.station.0)

pub returns-in-AttenCharRsp : goal.returns-in-AttenCharRsp
returns-in-AttenCharRsp c = payload_put c.args.self.edition (besides c.args.self.groups c.args.self.ids) (search rules) c.args.out.now c.args.self.message _ c.in-AttenCharRsp.is c.requires _ refl c.put_atten_char_rsp.new.out (c.put_atten_char_rsp.ensures c.args.self.edition c.in-AttenCharRsp.station.0)

pub returns-in-MnbcSoundInd : goal.returns-in-MnbcSoundInd
returns-in-MnbcSoundInd c = payload_put c.args.self.edition (besides c.args.self.groups c.args.self.ids) (search rules) c.args.out.now c.args.self.message _ c.in-MnbcSoundInd.is c.requires _ refl c.put_mnbc_sound_ind.new.out (c.put_mnbc_sound_ind.ensures c.args.self.edition broadcast c.in-MnbcSoundInd.car.0)

pub returns-in-ValidateReq : goal.returns-in-ValidateReq
returns-in-ValidateReq c = payload_put c.args.self.edition (besides c.args.self.groups c.args.self.ids) (search rules) c.args.out.now c.args.self.message _ c.in-ValidateReq.is c.requires _ refl c.put_validate_req.new.out (c.put_validate_req.ensures c.args.self.edition c.in-ValidateReq.receiver.0 c.in-ValidateReq.car.0)

pub returns-in-ValidateCnf : goal.returns-in-ValidateCnf
returns-in-ValidateCnf c = payload_put c.args.self.edition (besides c.args.self.groups c.args.self.ids) (search rules) c.args.out.now c.args.self.message _ c.in-ValidateCnf.is c.requires _ refl c.put_validate_cnf.new.out (c.put_validate_cnf.ensures c.args.self.edition c.in-ValidateCnf.car.0 c.in-ValidateCnf.station.0)

pub returns-in-SlacMatchReq : goal.returns-in-SlacMatchReq
returns-in-SlacMatchReq c = payload_put c.args.self.edition (besides c.args.self.groups c.args.self.ids) (search rules) c.args.out.now c.args.self.message _ c.in-SlacMatchReq.is c.requires _ refl c.put_match.new.out (c.put_match.ensures c.args.self.edition)

pub returns-in-SlacMatchCnf : goal.returns-in-SlacMatchCnf
returns-in-SlacMatchCnf c = payload_put c.args.self.edition (besides c.args.self.groups c.args.self.ids) (search rules) c.args.out.now c.args.self.message _ c.in-SlacMatchCnf.is c.requires _ refl c.put_slac_match_cnf.new.out (c.put_slac_match_cnf.ensures c.args.self.edition)

pub returns-in-AttenProfileInd : goal.returns-in-AttenProfileInd
returns-in-AttenProfileInd c = payload_put c.args.self.edition (besides c.args.self.groups c.args.self.ids) (search rules) c.args.out.now c.args.self.message _ c.in-AttenProfileInd.is c.requires (8 + c.in-AttenProfileInd.count - 0) (let z : 8 + c.in-AttenProfileInd.count - 0 ≡ 8 + c.in-AttenProfileInd.count = omega arith in z) c.put_atten_profile_ind.new.out (c.put_atten_profile_ind.ensures c.args.self.edition c.in-AttenProfileInd.station.0 c.in-AttenProfileInd.modem.0)
