-- What the reads gave was taken in.
use Rattle.std.proofs.Common.{List, ℕ, length, ◌≤◌, ◌*◌}
use Rattle.std.specs.Io.KnownBytes.{Consumes}
use Rattle.raft_script_session.specs.Reading.{first, WritesAndTakes}
use Rattle.raft_script_session.proofs.run.read_all.Given as goal

abbrev pub invariant-loop : goal.invariant-loop
invariant-loop g l =
    (taken : List ℕ)
    × Consumes (g.R.Read.remaining l.initial.reader) (g.R.Read.remaining l.reader) taken
    × (length taken ≤ 65536 * l.counter)
    × WritesAndTakes g.S.LineRunner.runs (g.W.Write.contents l.initial.writer) (g.W.Write.contents l.writer) l.initial.script first taken l.script l.reading
