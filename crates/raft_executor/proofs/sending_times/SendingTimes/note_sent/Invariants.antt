-- What the commands that are left make of the moments so far, the whole queue makes of those before.
use Rattle.std.proofs.Common.{◌≡◌, ℕ, length}
use Rattle.raft_executor.specs.SendingTimes.{sent_at, time_after}
use Rattle.raft_executor.proofs.sending_times.SendingTimes.note_sent.Given as goal

abbrev pub invariant-loop-command : goal.invariant-loop-command
invariant-loop-command g l =
    (n : ℕ) → time_after n l.moment l.left (sent_at l.self n) ≡ time_after n l.moment l.queue.queue (sent_at l.initial.self n)

abbrev pub decreases-loop-command : goal.decreases-loop-command
decreases-loop-command g l = length l.left
