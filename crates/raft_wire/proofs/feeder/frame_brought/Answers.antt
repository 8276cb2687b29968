use Rattle.std.proofs.Common.{◌≡◌, ◌≤◌, ◌+◌, ◌-◌, ◌++◌, length, take, ap, arith, length-append}
use Rattle.std.proofs.lemmas.List.{length-take-le}
use Rattle.raft_wire.specs.Stream.{length_in, whole_of}
use Rattle.raft_wire.proofs.Streams.{held_waits, front_waits, frame_brought}
use Rattle.raft_wire.proofs.Feeders.{right_length}
use Rattle.raft_wire.proofs.feeder.frame_brought.Goals as goal

pub overflow_sub-used : goal.overflow_sub-used
overflow_sub-used c =
    let few = held_waits c.args.held.now c.args.piece.now c.requires.waits c.args.len c.requires.len c.requires.right in
    omega arith

pub returns-then-piece-used : goal.returns-then-piece-used
returns-then-piece-used c =
    let few = held_waits c.args.held.now c.args.piece.now c.requires.waits c.args.len c.requires.len c.requires.right in
    let s = c.args.held.now ++ c.args.piece.now in
    let right = right_length c.args.len c.requires.right in
    let short : length s ≤ c.args.len + 3 = omega (arith, length-append c.args.held.now c.args.piece.now, c.if-piece-used.true) in
    let whole : whole_of (length_in s) ≡ c.args.len + 4 = ap whole_of c.requires.len in
    (front_waits s c.args.len c.requires.len c.requires.right (omega arith), omega arith, omega arith, omega arith)

pub returns : goal.returns
returns c =
    let held = c.args.held.now in
    let piece = c.args.piece.now in
    let few = held_waits held piece c.requires.waits c.args.len c.requires.len c.requires.right in
    let used = 4 + c.args.len - length held in
    let fits : used ≤ length piece = c.if-piece-used.false in
    let whole : length held + used ≡ c.args.len + 4 = omega arith in
    let right = right_length c.args.len c.requires.right in
    let size : length (held ++ take used piece) ≡ c.args.len + 4 = omega (arith, length-append held (take used piece), length-take-le used piece fits) in
    (frame_brought held piece c.requires.waits c.args.len used c.requires.len c.requires.right whole fits, fits, omega arith, omega arith)
