use Rattle.std.proofs.Common.{ℕ, List, Some, None, inr, sym, subst}
use Rattle.std.specs.String.{string_bytes}
use Rattle.raft_script_session.specs.Output.{RefusesLine}
use Rattle.raft_script_session.proofs.OutputLemmas.{stops_where_cut, stops_at_refused}
use Rattle.raft_script_session.proofs.reading.answer_line.Goals as goal

pub returns-in-Ok-Some-clause-err : goal.returns-in-Ok-Some-clause-err
returns-in-Ok-Some-clause-err g c =
    let next = c.run_line.new.self in
    let answered : g.S.LineRunner.runs c.args.script.now c.args.line.now (Some (string_bytes c.in-Ok-Some.text)) next = rw c.in-Ok-Some.field-0-is at c.in-Ok-Some.ensures in
    let P : List ℕ → Type 0 = λ t. g.S.LineRunner.runs c.args.script.now c.args.line.now (Some t) next in
    λ count same. stops_where_cut g.S.LineRunner.runs c.write_out.result _ _ c.args.script.now next count c.args.line.now c.as_bytes.result.now
    (subst P (sym c.as_bytes.ensures.value) answered) c.write_out.ensures.fault c.write_out.ensures.err

pub returns-in-Ok-None-clause-err : goal.returns-in-Ok-None-clause-err
returns-in-Ok-None-clause-err g c =
    let next = c.run_line.new.self in
    let answered : g.S.LineRunner.runs c.args.script.now c.args.line.now None next = rw c.in-Ok-None.field-0-is at c.in-Ok-None.ensures in
    let P : ℕ → Type 0 = λ n. RefusesLine n (g.W.Write.contents c.args.writer.now) (g.W.Write.contents c.refuse_line.new.writer) c.refuse_line.result in
    λ count same. stops_at_refused g.S.LineRunner.runs _ _ c.args.script.now count c.args.line.now c.refuse_line.result (inr (next, answered)) (subst P same c.refuse_line.ensures)
