-- `ends::tick_time` meets its contract: by the three tests.
use Rattle.ends.proofs.ClockLaws.{time_bad, time_short, time_gap, time_taken}
use Rattle.ends.proofs.tick_time.Goals as goal

pub returns-then-not-good : goal.returns-then-not-good
returns-then-not-good c = time_bad _ _ _ _ _ c.if-not-good.true

pub returns-then-room-least : goal.returns-then-room-least
returns-then-room-least c = time_short _ _ _ _ _ c.if-not-good.false c.if-room-least.true

pub returns-then-time-gt-LONGEST_GAP : goal.returns-then-time-gt-LONGEST_GAP
returns-then-time-gt-LONGEST_GAP c = time_gap _ _ _ _ _ c.if-not-good.false c.if-room-least.false _ c.elapsed-time.ensures c.if-time-gt-LONGEST_GAP.true

pub returns : goal.returns
returns c = time_taken _ _ _ _ _ c.if-not-good.false c.if-room-least.false _ c.elapsed-time.ensures c.if-time-gt-LONGEST_GAP.false
