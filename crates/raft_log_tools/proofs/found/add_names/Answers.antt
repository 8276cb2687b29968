use Rattle.std.proofs.Common.{◌++◌, List, Option, ap, ◌∙◌, sym, refl, map, string_bytes, take}
use Rattle.std.specs.Prelude.{option_to_list}
use Rattle.raft_log_recovery.specs.declared.scan.FileKind.TheVariants.{Log}
use Rattle.raft_log_recovery.specs.declared.scan.FileName.{FileName}
use Rattle.raft_log_recovery.specs.Scan.{files_named, seq_in}
use Rattle.raft_log_recovery.proofs.ScanLemmas.{named_more, push_step}
use Rattle.raft_log_tools.proofs.found.add_names.Goals as goal

pub loop-name-preserved : goal.loop-name-preserved
loop-name-preserved c =
    let names = c.args.names.now in
    let i = c.loop-name.name-index in
    let said = c.as_str.result.now in
    let before = c.args.found.now.items in
    let more = named_more string_bytes (Log c.args.queue) c.args.path_id names i c.name-item.result said (seq_in (Log c.args.queue) said) c.loop-name-test.true c.name-item.is c.as_str.ensures.value refl in
    push_step before c.loop-name.found.items _ _ _ c.in_ok-add_file.ensures c.loop-name.invariant
    ∙ ap (λ (l : List FileName). before ++ l)
    (ap (λ (o : Option FileName). files_named (Log c.args.queue) c.args.path_id (map string_bytes (take i names)) ++ option_to_list o) c.file_of_name.ensures ∙ sym more)
