-- The facts are proved in proofs/Exact.antt.
use Rattle.rules.proofs.Exact.{open_exact, begins_asleep, asleep_begins, wakes_exact, awake_busy, some_plan}
use Rattle.rules.proofs.logs_tell.Goals as goal

pub returns : goal.returns
returns c = record { opened = open_exact; rests = begins_asleep; begins = asleep_begins; wakes = wakes_exact; works = awake_busy; plan = some_plan }
