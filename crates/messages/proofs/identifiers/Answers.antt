-- By the message that was read.
use mathlib.Core.Path.{◌∙◌}
use Rattle.messages.proofs.FrameLaws.{profile_ids, match_ids, sound_id}
use Rattle.messages.proofs.identifiers.Goals as goal

pub ids_at-requires : goal.ids_at-requires
ids_at-requires c = (profile_ids c.args.edition c.args.frame.now _ c.in-AttenCharInd.is c.in-Ok.ensures).room

pub one_id_at-requires : goal.one_id_at-requires
one_id_at-requires c = (sound_id c.args.edition c.args.frame.now _ c.in-MnbcSoundInd.is c.in-Ok.ensures).0

pub ids_at-requires-in-SlacMatchReq : goal.ids_at-requires-in-SlacMatchReq
ids_at-requires-in-SlacMatchReq c = (match_ids c.args.edition c.args.frame.now _ c.in-SlacMatchReq.is c.in-Ok.ensures).room

pub returns-in-AttenCharInd : goal.returns-in-AttenCharInd
returns-in-AttenCharInd c =
    let p = profile_ids c.args.edition c.args.frame.now _ c.in-AttenCharInd.is c.in-Ok.ensures in
    (c.ids_at.ensures.0 ∙ p.read.0, c.ids_at.ensures.1 ∙ p.read.1)

pub returns-in-MnbcSoundInd : goal.returns-in-MnbcSoundInd
returns-in-MnbcSoundInd c =
    let p = sound_id c.args.edition c.args.frame.now _ c.in-MnbcSoundInd.is c.in-Ok.ensures in
    (c.one_id_at.ensures.0 ∙ p.1.0, c.one_id_at.ensures.1 ∙ p.1.1)

pub returns-in-SlacMatchReq : goal.returns-in-SlacMatchReq
returns-in-SlacMatchReq c =
    let p = match_ids c.args.edition c.args.frame.now _ c.in-SlacMatchReq.is c.in-Ok.ensures in
    (c.ids_at-in-SlacMatchReq.ensures.0 ∙ p.read.0, c.ids_at-in-SlacMatchReq.ensures.1 ∙ p.read.1)
