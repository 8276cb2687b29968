-- The bytes so far were taken in, and the lines that they end were answered.
use Rattle.std.proofs.Common.{take}
use Rattle.raft_script_session.specs.Reading.{WritesAndTakes}
use Rattle.raft_script_session.proofs.reading.Reading.feed.Given as goal

abbrev pub invariant-loop-byte : goal.invariant-loop-byte
invariant-loop-byte g l = WritesAndTakes g.S.LineRunner.runs (g.W.Write.contents l.initial.writer) (g.W.Write.contents l.writer) l.initial.script l.initial.self (take l.byte-index l.piece) l.script l.self
