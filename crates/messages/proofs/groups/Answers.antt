-- By the message that was read.
use mathlib.Core.Path.{refl, ◌∙◌}
use Rattle.messages.proofs.FrameLaws.{groups_of, atten_char_ind_groups, atten_profile_ind_groups}
use Rattle.messages.proofs.groups.Goals as goal

pub groups_at-requires : goal.groups_at-requires
groups_at-requires c = (groups_of c.args.edition c.args.frame.now c.in-AttenCharInd.is c.in-Ok.ensures atten_char_ind_groups refl).0

pub groups_at-requires-in-AttenProfileInd : goal.groups_at-requires-in-AttenProfileInd
groups_at-requires-in-AttenProfileInd c = (groups_of c.args.edition c.args.frame.now c.in-AttenProfileInd.is c.in-Ok.ensures atten_profile_ind_groups refl).0

pub returns-in-AttenCharInd : goal.returns-in-AttenCharInd
returns-in-AttenCharInd c = c.groups_at.ensures ∙ (groups_of c.args.edition c.args.frame.now c.in-AttenCharInd.is c.in-Ok.ensures atten_char_ind_groups refl).1

pub returns-in-AttenProfileInd : goal.returns-in-AttenProfileInd
returns-in-AttenProfileInd c = c.groups_at-in-AttenProfileInd.ensures ∙ (groups_of c.args.edition c.args.frame.now c.in-AttenProfileInd.is c.in-Ok.ensures atten_profile_ind_groups refl).1
