use Rattle.std.proofs.Common.{inr, sym, ◌∙◌}
use Rattle.raft_log_host.proofs.Causes.{passed_on}
use Rattle.raft_log_host.proofs.Mirrored.{made, refused}
use Rattle.raft_log_host.specs.Calls.{Rename}
use Rattle.raft_log_host.proofs.files.HostFileSystemFileSystem.rename.Goals as goal

pub invariant_of-self-in-Err-rename : goal.invariant_of-self-in-Err-rename
invariant_of-self-in-Err-rename c =
    refused _ (Rename c.args.from.now c.args.to.now) c.rename-2.result c.in-Err-rename.cause c.self.inside.host.record.events _ _ _ (sym c.is_some.ensures ∙ c.if-is_some.false) c.self.invariant (inr c.in_default.ensures.ok) c.rename-2.ensures c.in-Err-rename.is

pub invariant_of-self-in_default-rename : goal.invariant_of-self-in_default-rename
invariant_of-self-in_default-rename c =
    made _ (Rename c.args.from.now c.args.to.now) c.rename-2.result c.in_default-rename.field-0 c.self.inside.host.record.events _ _ _ (sym c.is_some.ensures ∙ c.if-is_some.false) c.self.invariant c.in_default.ensures.ok c.rename-2.ensures c.in_default-rename.is

pub returns-in-Err-clause-cause : goal.returns-in-Err-clause-cause
returns-in-Err-clause-cause c =
    rw (← c.self.view_is) (passed_on _ _ _ _ _ _ c.in-Err.fault _ c.in-Err.ensures.cause c.fault_of.ensures.fault c.fault_of.ensures.counted c.in-Err.ensures.cause.lacks c.in-Err.ensures.cause.reads)
