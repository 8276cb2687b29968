-- The entries so far are copied.
use Rattle.std.proofs.Common.{◌≡◌, map, take}
use Rattle.raft_log_records.specs.Batch.{payloads}
use Rattle.raft_content_log.specs.Plain.{bytes_in}
use Rattle.raft_content_log.proofs.plain_log.copies_of.Given as goal

abbrev pub invariant-loop-place : goal.invariant-loop-place
invariant-loop-place l = payloads l.copies.items ≡ map (bytes_in l.blocks) (take l.place-index l.places)
