use Rattle.std.proofs.Common.{rules, ◌≡◌, ◌<◌, ◌+◌, ◌++◌, ◌∷◌, [], length, arith}
use Rattle.std.proofs.lemmas.Grind.{common_steps}
use Rattle.raft_script_session.specs.Output.{RefusesLine}
use Rattle.raft_script_session.proofs.ReadingLemmas.{long_stops, byte_taken}
use Rattle.raft_script_session.proofs.reading.Reading.keep.Goals as goal

pub returns-then-len-gt-LONGEST_LINE-clause-err : goal.returns-then-len-gt-LONGEST_LINE-clause-err
returns-then-len-gt-LONGEST_LINE-clause-err g c =
    let long : 65536 < length (c.args.self.now.pending ++ c.args.byte ∷ []) = grind (arith, common_steps) in
    let refused : RefusesLine (c.args.self.now.lines + 1) (g.W.Write.contents c.args.writer.now) (g.W.Write.contents c.refuse_line.new.writer) c.refuse_line.result = search rules in
    long_stops g.S.LineRunner.runs _ _ c.args.script.now c.args.self.now c.args.byte c.refuse_line.result c.requires.open_line c.requires.other long refused

pub returns-clause-ok : goal.returns-clause-ok
returns-clause-ok g c =
    let pushed : c.push.new.self.items ≡ c.args.self.now.pending ++ c.args.byte ∷ [] = grind (arith, common_steps) in
    let same : c.self.inside.lines ≡ c.args.self.now.lines = search rules in
    byte_taken g.S.LineRunner.runs _ c.args.script.now c.args.self.now _ c.args.byte c.requires.open_line c.requires.other same pushed
