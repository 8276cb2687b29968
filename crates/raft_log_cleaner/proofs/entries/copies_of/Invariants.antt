-- The entries so far are copied.
use Rattle.std.proofs.Common.{◌≡◌, map, take}
use Rattle.raft_log_records.specs.Batch.{payloads}
use Rattle.raft_log_blocks.specs.Last.{IsLastOf}
use Rattle.raft_log_blocks.specs.Placed.{bytes_on}
use Rattle.raft_log_cleaner.proofs.entries.copies_of.Given as goal

abbrev pub invariant-loop-place : goal.invariant-loop-place
invariant-loop-place g l =
    (payloads l.copies.items ≡ map (bytes_on (g.F.FileSystem.disk l.files) l.pipes) (take l.place-index l.places)) × IsLastOf (g.F.FileSystem.disk l.files) l.pipes l.last
