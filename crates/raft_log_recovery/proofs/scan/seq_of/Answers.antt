use Rattle.std.proofs.Common.{◌≡◌, rules, refl, sym, ap, ◌∙◌}
use denote.Enum.Bare.{same_false}
use Rattle.raft_log_records.specs.contracts.file_id.LogQueue.{the_type}
use Rattle.raft_log_disk.specs.Name.{suffix_of}
use Rattle.raft_log_files.specs.FileName.{suffixed}
use Rattle.raft_log_recovery.specs.declared.scan.FileKind.{FileKind}
use Rattle.raft_log_recovery.specs.declared.scan.FileKind.TheVariants.{Log}
use Rattle.raft_log_recovery.specs.Scan.{seq_in}
use Rattle.raft_log_recovery.proofs.ScanLemmas.{named_so, no_number, other_queue, reserved_so}
use Rattle.raft_log_recovery.proofs.scan.seq_of.Goals as goal

pub returns-then-eq : goal.returns-then-eq
returns-then-eq c =
    let id = c.in-Some.id in
    let same : id.queue ≡ c.in-Log.queue = search rules in
    sym (ap (λ (k : FileKind). seq_in k c.args.name.now) c.in-Log.is
    ∙ named_so (Log c.in-Log.queue) id.seq c.args.name.now c.in-Some.ensures.found.0 (sym c.in-Some.ensures.found.1 ∙ ap (λ q. suffixed id.seq (suffix_of q)) same))

pub returns-else-eq : goal.returns-else-eq
returns-else-eq c =
    let id = c.in-Some.id in
    sym (ap (λ (k : FileKind). seq_in k c.args.name.now) c.in-Log.is
    ∙ other_queue c.in-Log.queue id.queue id.seq c.args.name.now (same_false the_type _ _ (sym c.eq.ensures ∙ c.if-eq.false)) c.in-Some.ensures.found.0 (sym c.in-Some.ensures.found.1))

pub returns-in-None : goal.returns-in-None
returns-in-None c =
    sym (ap (λ (k : FileKind). seq_in k c.args.name.now) c.in-Log.is
    ∙ no_number (Log c.in-Log.queue) c.args.name.now (λ n below is. c.in-None.ensures.none refl (record { queue = c.in-Log.queue; seq = n }) below (sym is)))

pub returns-in-Reserved : goal.returns-in-Reserved
returns-in-Reserved c =
    reserved_so c.parse_reserved_file_name.result c.args.name.now c.parse_reserved_file_name.ensures.found c.parse_reserved_file_name.ensures.none
    ∙ sym (ap (λ (k : FileKind). seq_in k c.args.name.now) c.in-Reserved.is)
