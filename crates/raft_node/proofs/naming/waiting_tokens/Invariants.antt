-- What was named, and what is still to be named; there is a place for each, and one more.
use Rattle.std.proofs.Common.{◌≡◌, ◌≤◌, ◌+◌, ◌++◌, length, vec_len, vec_capacity}
use Rattle.raft_node.specs.Waiting.{named_in, waiting_in}
use Rattle.raft_node.proofs.naming.waiting_tokens.Given as goal

abbrev pub invariant-loop-group : goal.invariant-loop-group
invariant-loop-group g l =
    (named_in l.places.items ++ waiting_in l.group-iterator ≡ waiting_in l.fn.appliers.entries)
    × (vec_len l.places + length l.group-iterator + 1 ≤ vec_capacity l.places)
