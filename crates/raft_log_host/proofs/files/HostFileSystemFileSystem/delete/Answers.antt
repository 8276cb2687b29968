use Rattle.std.proofs.Common.{inr, sym, ◌∙◌}
use Rattle.raft_log_host.proofs.Mirrored.{made, refused}
use Rattle.raft_log_host.specs.Calls.{Delete}
use Rattle.raft_log_host.proofs.files.HostFileSystemFileSystem.delete.Goals as goal

pub invariant_of-self-in-Err-delete : goal.invariant_of-self-in-Err-delete
invariant_of-self-in-Err-delete c =
    refused _ (Delete c.args.path.now) c.delete-2.result c.in-Err-delete.cause c.self.inside.host.record.events _ _ _ (sym c.is_some.ensures ∙ c.if-is_some.false) c.self.invariant (inr c.in_default.ensures.ok) c.delete-2.ensures c.in-Err-delete.is

pub invariant_of-self-in_default-delete : goal.invariant_of-self-in_default-delete
invariant_of-self-in_default-delete c =
    made _ (Delete c.args.path.now) c.delete-2.result c.in_default-delete.field-0 c.self.inside.host.record.events _ _ _ (sym c.is_some.ensures ∙ c.if-is_some.false) c.self.invariant c.in_default.ensures.ok c.delete-2.ensures c.in_default-delete.is
