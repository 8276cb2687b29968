use Rattle.std.proofs.Common.{◌∙◌, sym, ap, subst}
use Rattle.raft_script_lines.specs.Outcome.{Tells}
use Rattle.raft_script_lines.specs.Reading.{text_in}
use Rattle.raft_script_lines.proofs.LineLemmas.{line_too_long, line_no_text, line_text}
use Rattle.raft_script_lines.proofs.reading.line_of.Goals as goal

pub returns-then-bytes-gt-LONGEST_LINE : goal.returns-then-bytes-gt-LONGEST_LINE
returns-then-bytes-gt-LONGEST_LINE c = line_too_long c.args.bytes.now c.if-bytes-gt-LONGEST_LINE.true

pub returns-in-Ok : goal.returns-in-Ok
returns-in-Ok c =
    subst (λ read. Tells c.text_in.result read) (ap text_in c.in-Ok.ensures.cases.0 ∙ sym (line_text c.args.bytes.now c.if-bytes-gt-LONGEST_LINE.false c.in-Ok.ensures.cases.1)) c.text_in.ensures

pub returns-in-Err : goal.returns-in-Err
returns-in-Err c = line_no_text c.args.bytes.now c.if-bytes-gt-LONGEST_LINE.false c.in-Err.ensures.cases.0
