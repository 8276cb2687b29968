-- The entries so far are copied, and blocks of them are kept.
use Rattle.std.proofs.Common.{◌≡◌, ◌≤◌, ◌+◌, map, take}
use Rattle.std.specs.Prelude.{Contains}
use Rattle.raft_log_records.specs.Batch.{payloads}
use Rattle.raft_log_engine.specs.Cached.{KeepsMore}
use Rattle.raft_log_blocks.specs.Placed.{bytes_on}
use Rattle.raft_log_engine.proofs.blocks.copies_of.Given as goal

abbrev pub invariant-loop-place : goal.invariant-loop-place
invariant-loop-place g l = record {
  copied : payloads l.copies.items ≡ map (bytes_on (g.F.FileSystem.disk l.files) l.pipes) (take l.place-index l.places);
  kept : KeepsMore (g.F.FileSystem.disk l.files) l.pipes (Contains l.places) l.initial.cache l.cache;
  reads : l.cache.reads ≤ l.initial.cache.reads + l.place-index;
}
