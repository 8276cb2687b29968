use Rattle.std.proofs.Common.{inr, sym, ◌∙◌, refl}
use Rattle.raft_log_host.proofs.Mirrored.{made_alone, refused_alone}
use Rattle.raft_log_host.specs.Calls.{Fill}
use Rattle.raft_log_host.proofs.Torn.{filled_whole}
use Rattle.raft_log_host.proofs.files.HostFileSystemFileSystem.allocate.Goals as goal

pub invariant_of-self-in-Err-fill : goal.invariant_of-self-in-Err-fill
invariant_of-self-in-Err-fill c =
    refused_alone _ (Fill c.args.fd.0 c.args.at c.args.len) refl c.fill.result c.in-Err-fill.cause c.self.inside.host.record.events _ _ _ (sym c.is_some.ensures ∙ c.if-is_some.false) c.self.invariant (inr c.in_default.ensures.ok) c.fill.ensures c.in-Err-fill.is

pub invariant_of-self-in_default-fill : goal.invariant_of-self-in_default-fill
invariant_of-self-in_default-fill c =
    made_alone _ (Fill c.args.fd.0 c.args.at c.args.len) refl c.fill.result c.in_default-fill.field-0 c.self.inside.host.record.events _ _ _ (sym c.is_some.ensures ∙ c.if-is_some.false) c.self.invariant c.in_default.ensures.ok c.fill.ensures c.in_default-fill.is

pub returns-in-Err-fill-clause-err : goal.returns-in-Err-fill-clause-err
returns-in-Err-fill-clause-err c = rw (← c.self.view_is) (inr (filled_whole _ _ _ _ _ c.in_default.ensures.ok))
