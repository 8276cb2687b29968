use Rattle.std.proofs.Common.{◌≡◌, ℕ, rules, refl, sym, ap, ◌∙◌}
use Rattle.std.specs.Option.{option_map}
use denote.Enum.Bare.{same_false}
use Rattle.raft_log_records.specs.contracts.file_id.LogQueue.{the_type}
use Rattle.raft_log_disk.specs.Name.{suffix_of}
use Rattle.raft_log_files.specs.FileName.{suffixed}
use Rattle.raft_log_recovery.specs.declared.scan.FileKind.TheVariants.{Log}
use Rattle.raft_log_recovery.specs.declared.scan.FileName.{FileName}
use Rattle.raft_log_recovery.proofs.ScanLemmas.{named_so, no_number, other_queue}
use Rattle.raft_log_tools.proofs.found.file_of_name.Goals as goal

pub returns-then-eq : goal.returns-then-eq
returns-then-eq c =
    let id = c.in-Some.id in
    let same : id.queue ≡ c.args.queue = search rules in
    let with_place : ℕ → FileName = λ seq. record { seq = seq; path_id = c.args.path_id } in
    sym (ap (option_map with_place) (named_so (Log c.args.queue) id.seq c.args.name.now c.in-Some.ensures.found.0 (sym c.in-Some.ensures.found.1 ∙ ap (λ q. suffixed id.seq (suffix_of q)) same)))

pub returns-else-eq : goal.returns-else-eq
returns-else-eq c =
    let id = c.in-Some.id in
    let with_place : ℕ → FileName = λ seq. record { seq = seq; path_id = c.args.path_id } in
    sym (ap (option_map with_place) (other_queue c.args.queue id.queue id.seq c.args.name.now (same_false the_type _ _ (sym c.eq.ensures ∙ c.if-eq.false)) c.in-Some.ensures.found.0 (sym c.in-Some.ensures.found.1)))

pub returns-in-None : goal.returns-in-None
returns-in-None c =
    let with_place : ℕ → FileName = λ seq. record { seq = seq; path_id = c.args.path_id } in
    sym (ap (option_map with_place) (no_number (Log c.args.queue) c.args.name.now (λ n below is. c.in-None.ensures.none refl (record { queue = c.args.queue; seq = n }) below (sym is))))
