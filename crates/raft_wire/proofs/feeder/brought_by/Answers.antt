use Rattle.std.proofs.Common.{◌≡◌, ◌+◌, ◌-◌, ◌++◌, Some, None, Err, length, subst, sym, ap, arith, length-append, ℕ}
use Rattle.raft_wire.specs.Stream.{length_in, fault_of_length, front, whole_of}
use Rattle.raft_wire.proofs.Streams.{held_short, front_none, front_fault, has_length}
use Rattle.raft_wire.proofs.Feeders.{no_length_yet}
use Rattle.raft_wire.proofs.feeder.brought_by.Goals as goal

pub returns-in-None : goal.returns-in-None
returns-in-None c =
    let s = c.args.held.now ++ c.args.piece.now in
    let none : length_in s ≡ None = cc in
    (front_none s none, sym (ap whole_of none), omega (arith, no_length_yet s none), omega arith)

pub overflow_sub-result : goal.overflow_sub-result
overflow_sub-result c =
    let l : length_in (c.args.held.now ++ c.args.piece.now) ≡ Some c.in-Some.len = cc in
    let f : fault_of_length c.in-Some.len ≡ Some c.in-Some-fault_of_length.fault = cc in
    let few = held_short c.args.held.now c.args.piece.now c.requires c.in-Some.len c.in-Some-fault_of_length.fault l f in
    omega arith

pub returns-in-Some-fault_of_length : goal.returns-in-Some-fault_of_length
returns-in-Some-fault_of_length c =
    let s = c.args.held.now ++ c.args.piece.now in
    let l : length_in s ≡ Some c.in-Some.len = cc in
    let f : fault_of_length c.in-Some.len ≡ Some c.in-Some-fault_of_length.fault = cc in
    let few = held_short c.args.held.now c.args.piece.now c.requires c.in-Some.len c.in-Some-fault_of_length.fault l f in
    let four : 4 ≡ length c.args.held.now + (4 - length c.args.held.now) = omega arith in
    let some = has_length s c.in-Some.len l in
    (subst (λ (k : ℕ). front s ≡ Some (Err c.in-Some-fault_of_length.fault, k)) four (front_fault s c.in-Some.len c.in-Some-fault_of_length.fault l f), omega (arith, length-append c.args.held.now c.args.piece.now))
