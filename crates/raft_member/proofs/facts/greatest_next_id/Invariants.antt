-- What is left, and what is found so far, are below a limit where all are.
use Rattle.raft_member.proofs.FactLemmas.{Bounds}
use Rattle.raft_member.proofs.facts.greatest_next_id.Given as goal

abbrev pub invariant-loop-entry : goal.invariant-loop-entry
invariant-loop-entry l = Bounds l.leader l.greatest l.entry-iterator l.initial.entry-iterator
