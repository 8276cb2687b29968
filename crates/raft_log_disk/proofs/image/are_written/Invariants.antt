use Rattle.std.proofs.Common.{◌≡◌, ◌+◌, ◌-◌, length, drop}
use Rattle.raft_log_disk.specs.Chance.{AreWritten}
use Rattle.raft_log_disk.specs.Memory.{state_of}
use Rattle.raft_log_disk.proofs.image.are_written.Given as goal

abbrev pub invariant-loop-step : goal.invariant-loop-step
invariant-loop-step l = record {
  place : l.at + length l.rest ≡ length l.bytes;
  yes : AreWritten (state_of l.file) l.alignment l.signature (length l.bytes - l.step) l.at l.rest → AreWritten (state_of l.file) l.alignment l.signature (length l.bytes) l.start (drop l.start l.bytes);
  no : AreWritten (state_of l.file) l.alignment l.signature (length l.bytes) l.start (drop l.start l.bytes) → AreWritten (state_of l.file) l.alignment l.signature (length l.bytes - l.step) l.at l.rest;
}
