use Rattle.std.proofs.Common.{◌≡◌, Ok, Result, sym, subst, IfOk}
use Rattle.std.specs.Option.{option_map}
use Rattle.std.specs.String.{string_bytes}
use Rattle.raft_script_lines.specs.declared.no_event.NoEvent.{NoEvent}
use Rattle.raft_script_lines.specs.declared.script_line.ScriptLine.{ScriptLine}
use Rattle.raft_script_lines.specs.Reading.{line_of}
use Rattle.raft_script_lines.proofs.LineLemmas.{spelled_read}
use Rattle.raft_cluster_script.specs.Either.{TakesEither}
use Rattle.raft_cluster_script.proofs.either.EitherScriptLineRunner.run_line.Goals as goal

pub returns-in-Ok : goal.returns-in-Ok
returns-in-Ok g c =
    let read : line_of c.args.line.now ≡ Ok c.in-Ok.line = spelled_read c.args.line.now c.in-Ok.line c.in-Ok.ensures.ok.spelled in
    let P : Result ScriptLine NoEvent → Type 0 = λ r. IfOk c.take.result (λ text. TakesEither g.A.ClusterNode.acts g.A.Machine.ScriptMachine.speech g.B.ClusterNode.acts g.B.Machine.ScriptMachine.speech c.args.self.now r (option_map string_bytes text) c.take.new.self) in
    subst P (sym read) c.take.ensures
