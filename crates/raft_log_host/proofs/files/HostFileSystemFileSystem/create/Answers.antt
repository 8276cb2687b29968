use Rattle.std.proofs.Common.{inr, sym, ◌∙◌}
use Rattle.raft_log_host.proofs.Mirrored.{made, refused}
use Rattle.raft_log_host.specs.Calls.{Create}
use Rattle.raft_log_host.proofs.files.HostFileSystemFileSystem.create.Goals as goal

pub invariant_of-self-in-Err-create : goal.invariant_of-self-in-Err-create
invariant_of-self-in-Err-create c =
    refused _ (Create c.args.path.now c.in-Ok.fd.0) c.create-2.result c.in-Err-create.cause c.self.inside.host.record.events _ _ _ (sym c.is_some.ensures ∙ c.if-is_some.false) c.self.invariant (inr c.in-Ok.ensures.ok) c.create-2.ensures c.in-Err-create.is

pub invariant_of-self-in_default : goal.invariant_of-self-in_default
invariant_of-self-in_default c =
    made _ (Create c.args.path.now c.in-Ok.fd.0) c.create-2.result c.in_default.field-0 c.self.inside.host.record.events _ _ _ (sym c.is_some.ensures ∙ c.if-is_some.false) c.self.invariant c.in-Ok.ensures.ok c.create-2.ensures c.in_default.is
