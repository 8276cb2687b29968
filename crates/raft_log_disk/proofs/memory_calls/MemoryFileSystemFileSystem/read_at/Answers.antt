use Rattle.std.proofs.Common.{refl, ap, subst, sym, ◌∙◌, get_or}
use Rattle.std.specs.String.{string_bytes}
use Rattle.raft_log_disk.specs.declared.memory_file.MemoryFile.{MemoryFile}
use Rattle.raft_log_disk.specs.Disk.{IsIn}
use Rattle.raft_log_disk.specs.Memory.{texts_of}
use Rattle.raft_log_disk.proofs.CauseLemmas.{unreadable_cause, read_cause, absent_cause, memory_cause}
use Rattle.raft_log_disk.proofs.FilesLemmas.{one_of, none_of, number_there, no_path}
use Rattle.raft_log_disk.proofs.memory_calls.MemoryFileSystemFileSystem.read_at.Goals as goal

pub returns-then-has_text-clause-cause : goal.returns-then-has_text-clause-cause
returns-then-has_text-clause-cause c =
    unreadable_cause _ _ (one_of _ c.args.self.now.directories.items _ c.args.self.now.next _ _ _ _ _ c.in-Some.ensures c.index-file.ensures c.as_str.ensures.value c.deref.ensures.value (c.if-has_text.ensures.yes refl))

pub returns-in_default-clause-cause : goal.returns-in_default-clause-cause
returns-in_default-clause-cause c = absent_cause _ _ c.in_default.ensures (no_path c.args.self.now.directories.items _ c.args.self.now.next _ _ c.in_default.ensures)

pub returns-in-Err-clause-cause : goal.returns-in-Err-clause-cause
returns-in-Err-clause-cause c = memory_cause _ _ _ refl (none_of c.args.self.now.directories.items _ _ c.args.self.now.next _ _ _ _ _ c.args.self.now.named c.in-Some.ensures c.index-file.ensures c.as_str.ensures.value (λ h. c.has_text.ensures.no (subst (λ l. IsIn c.as_str.result.now (texts_of l)) (sym c.deref.ensures.value) h)) c.if-has_text.false)

pub returns-in-Ok-clause-cause : goal.returns-in-Ok-clause-cause
returns-in-Ok-clause-cause c = read_cause _ _ _ (number_there c.args.self.now.directories.items _ c.args.self.now.next _ _ c.index-file.result.now c.in-Some.ensures)
    (none_of c.args.self.now.directories.items _ _ c.args.self.now.next _ _ _ _ _ c.args.self.now.named c.in-Some.ensures c.index-file.ensures c.as_str.ensures.value (λ h. c.has_text.ensures.no (subst (λ l. IsIn c.as_str.result.now (texts_of l)) (sym c.deref.ensures.value) h)) c.if-has_text.false)
