-- A read changes nothing that is said of a log.
use Rattle.std.proofs.Common.{◌≡◌, ◌-◌, ap, length, rules, sym, ◌∙◌}
use Rattle.std.proofs.lemmas.List.{length-map}
use Rattle.raft_log_disk.specs.declared.memory.MemoryFileSystem.{MemoryFileSystem}
use Rattle.raft_log_disk.specs.MemorySystem.{disk_in, meter_in}
use Rattle.raft_log_records.specs.Batch.{payloads}
use Rattle.raft_log_engine.specs.Parts.{Parts}
use Rattle.raft_log_engine.specs.Left.{answers_on}
use Rattle.raft_log_engine.proofs.Crashes.{log_on}
use Rattle.raft_log_engine.proofs.Fetched.{all_read}
use Rattle.raft_log_engine.proofs.Fitting.{all_fetched}
use Rattle.raft_log_pipe.proofs.EndLemmas.{not_given, not_ok}
use Rattle.raft_log_engine.proofs.memory.MemoryLogContentLog.fetch_entries_to.Goals as goal

pub invariant_of-self : goal.invariant_of-self
invariant_of-self c =
    let same = c.in_err-found.ensures.same in
    log_on disk_in c.self.inside.settings c.self.inside.has_failed c.self.inside.engine c.fetch_entries_to.new.self c.self.invariant (ap (λ (e : Parts MemoryFileSystem). e.pipes) same) (ap (λ (e : Parts MemoryFileSystem). e.is_stopped) same)
    (ap (λ (e : Parts MemoryFileSystem). e.wrote_unsynced) same) (ap (λ (e : Parts MemoryFileSystem). disk_in e.files) same)

pub invariant_of-self-then-len-saturating_sub : goal.invariant_of-self-then-len-saturating_sub
invariant_of-self-then-len-saturating_sub c =
    let same = c.in_ok-found.ensures.same in
    log_on disk_in c.self.inside.settings c.self.inside.has_failed c.self.inside.engine c.fetch_entries_to.new.self c.self.invariant (ap (λ (e : Parts MemoryFileSystem). e.pipes) same) (ap (λ (e : Parts MemoryFileSystem). e.is_stopped) same)
    (ap (λ (e : Parts MemoryFileSystem). e.wrote_unsynced) same) (ap (λ (e : Parts MemoryFileSystem). disk_in e.files) same)

pub invariant_of-self-2 : goal.invariant_of-self-2
invariant_of-self-2 c =
    let same = c.in_ok-found.ensures.same in
    log_on disk_in c.self.inside.settings c.self.inside.has_failed c.self.inside.engine c.fetch_entries_to.new.self c.self.invariant (ap (λ (e : Parts MemoryFileSystem). e.pipes) same) (ap (λ (e : Parts MemoryFileSystem). e.is_stopped) same)
    (ap (λ (e : Parts MemoryFileSystem). e.wrote_unsynced) same) (ap (λ (e : Parts MemoryFileSystem). disk_in e.files) same)

pub returns-clause-entries : goal.returns-clause-entries
returns-clause-entries c =
    let all = c.in_ok-found.found.items in
    let len : length all ≡ c.args.end - c.args.begin = search rules in
    rw (← c.self.view_is) (λ sound. all_read (answers_on disk_in c.self.inside.engine c.args.group) c.args.begin c.args.end (payloads all) c.in_ok-found.ensures.found (length-map all (λ v. v.items) ∙ len))

-- ---- a read that was refused gives nothing

pub returns-in_err-found-clause-entries : goal.returns-in_err-found-clause-entries
returns-in_err-found-clause-entries c = λ sound. not_given _ _ c.from_residual.result c.from_residual.ensures.1

pub returns-in_err-found-clause-sound : goal.returns-in_err-found-clause-sound
returns-in_err-found-clause-sound c = λ sound. not_ok _ _ c.from_residual.result c.from_residual.ensures.1

-- where all are there, as many are fetched
pub returns-then-len-saturating_sub-clause-fits : goal.returns-then-len-saturating_sub-clause-fits
returns-then-len-saturating_sub-clause-fits c =
    let all = c.in_ok-found.found.items in
    let other : (length all ≡ c.args.end - c.args.begin) → ⊥ = search rules in
    rw (← c.self.view_is) (λ sound some there misuse.
    other (sym (length-map all (λ v. v.items)) ∙ all_fetched disk_in meter_in c.self.inside.engine c.args.group c.args.begin c.args.end some there (payloads all) c.in_ok-found.ensures.found))
