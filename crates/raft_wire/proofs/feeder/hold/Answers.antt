use Rattle.std.proofs.Common.{rules, ◌≤◌, ◌<◌, ◌+◌, length, vec_len, vec_capacity}
use Rattle.raft_wire.proofs.Feeders.{took_more}
use Rattle.raft_wire.proofs.feeder.hold.Goals as goal

pub returns-clause-idle : goal.returns-clause-idle
returns-clause-idle c =
    let after = c.make_room.new.held in
    let piece = c.args.piece.now in
    let some : 0 < length piece = search rules in
    let fits : vec_len after + length piece ≤ vec_capacity after = c.in_ok-make_room.ensures.room in
    took_more c.extend_from_slice.result after.items piece c.extend_from_slice.new.self.items (vec_capacity c.extend_from_slice.new.self) (c.extend_from_slice.ensures.succeeds fits) c.extend_from_slice.ensures.items some
