use Rattle.std.proofs.Common.{◌≡◌, ◌+◌, ◌<◌, ℕ, length, sym, subst, ap}
use Rattle.std.proofs.lemmas.List.{length-map}
use Rattle.raft_log_records.specs.Batch.{payloads}
use Rattle.raft_log_traces.specs.GroupTraces.{traces_in}
use Rattle.raft_log_purge.proofs.StepLemmas.{front_rewritten}
use Rattle.raft_log_purge.proofs.rewriting.rewrite_entries.Goals as goal

pub returns-clause-steps : goal.returns-clause-steps
returns-clause-steps c = λ content front.
    let entries = c.args.entries.now in
    let same : length (payloads entries) ≡ length entries = length-map entries _ in
    front_rewritten content (traces_in c.args.traces.now) (traces_in c.set_rewritten.new.self) c.args.group c.args.first (c.args.first + length entries) (payloads entries) c.args.batch.now.items c.add_run.new.batch.items
    (subst (λ (n : ℕ). 0 < n) (sym same) c.requires.some) (ap (λ (n : ℕ). c.args.first + n) (sym same)) front c.in_ok-add_run.ensures.added c.set_rewritten.ensures
