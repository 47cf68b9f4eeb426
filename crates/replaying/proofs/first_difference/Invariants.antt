-- From event to event.
use mathlib.Core.Path.{◌≡◌}
use lib.ListN.{length}
use Rattle.script.specs.Replies.{longest_reply}
use Rattle.replaying.proofs.WalkLaws.{Going}
use Rattle.replaying.proofs.first_difference.Given as goal

abbrev pub invariant-loop-i : goal.invariant-loop-i
invariant-loop-i l = Going l.initial.s l.log l.count l.events l.replies l.s l.event l.reply l.i × ((length l.out ≡ longest_reply) × (length l.out ≡ length l.initial.out))
