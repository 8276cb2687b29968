use Rattle.std.proofs.Common.{inr, sym, ◌∙◌, refl}
use Rattle.raft_log_host.proofs.Mirrored.{made_alone, refused_alone}
use Rattle.raft_log_host.specs.Calls.{Truncate}
use Rattle.raft_log_host.proofs.Torn.{cut_whole}
use Rattle.raft_log_host.proofs.files.HostFileSystemFileSystem.truncate.Goals as goal

pub invariant_of-self-in-Err-truncate : goal.invariant_of-self-in-Err-truncate
invariant_of-self-in-Err-truncate c =
    refused_alone _ (Truncate c.args.fd.0 c.args.len) refl c.truncate-2.result c.in-Err-truncate.cause c.self.inside.host.record.events _ _ _ (sym c.is_some.ensures ∙ c.if-is_some.false) c.self.invariant (inr c.in_default.ensures.ok) c.truncate-2.ensures c.in-Err-truncate.is

pub invariant_of-self-in_default-truncate : goal.invariant_of-self-in_default-truncate
invariant_of-self-in_default-truncate c =
    made_alone _ (Truncate c.args.fd.0 c.args.len) refl c.truncate-2.result c.in_default-truncate.field-0 c.self.inside.host.record.events _ _ _ (sym c.is_some.ensures ∙ c.if-is_some.false) c.self.invariant c.in_default.ensures.ok c.truncate-2.ensures c.in_default-truncate.is

pub returns-in-Err-truncate-clause-err : goal.returns-in-Err-truncate-clause-err
returns-in-Err-truncate-clause-err c = rw (← c.self.view_is) (inr (cut_whole _ _ _ _ c.in_default.ensures.ok))
