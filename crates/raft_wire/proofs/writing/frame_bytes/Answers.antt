use Rattle.std.proofs.Common.{◌≤◌, length, arith}
use Rattle.raft_wire.specs.Frames.{spelled_rest}
use Rattle.raft_wire.proofs.Lengths.{rest_short, joined_short}
use Rattle.raft_wire.proofs.writing.frame_bytes.Goals as goal

pub set_length-requires-clause-short : goal.set_length-requires-clause-short
set_length-requires-clause-short c =
    let four : length c.extend_from_slice.new.self.items ≤ 4 = rw (c.in_ok-extend_from_slice.ensures.items, c.in_ok-out.ensures.items) (omega arith) in
    rw c.deref_mut.ensures.value (joined_short c.extend_from_slice.new.self.items (spelled_rest c.args.frame.now) c.put_rest.new.out.items four (rest_short c.args.frame.now c.requires) c.in_ok-put_rest.ensures.items)
