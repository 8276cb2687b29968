use Rattle.std.proofs.Common.{inl, refl, sym, ◌∙◌}
use Rattle.raft_log_host.proofs.Mirrored.{made_alone, refused_alone, untaken_alone}
use Rattle.raft_log_host.specs.Calls.{Sync}
use Rattle.raft_log_host.proofs.Loaded.{noted_loaded}
use Rattle.raft_log_host.proofs.files.HostFileSystemFileSystem.sync.Goals as goal

pub invariant_of-self-in-Err : goal.invariant_of-self-in-Err
invariant_of-self-in-Err c =
    refused_alone _ (Sync c.args.fd.0) refl c.sync.result c.in-Err.cause c.self.inside.host.record.events _ _ _ (sym c.is_some.ensures ∙ c.if-is_some.false) c.self.invariant (inl refl) c.sync.ensures c.in-Err.is

pub invariant_of-self-in-Err-sync : goal.invariant_of-self-in-Err-sync
invariant_of-self-in-Err-sync c =
    untaken_alone _ (Sync c.args.fd.0) refl c.sync.result c.in_default.field-0 c.self.inside.host.record.events _ _ _ _ (sym c.is_some.ensures ∙ c.if-is_some.false) c.self.invariant refl c.sync.ensures c.in_default.is

pub invariant_of-self-in_default-sync : goal.invariant_of-self-in_default-sync
invariant_of-self-in_default-sync c =
    made_alone _ (Sync c.args.fd.0) refl c.sync.result c.in_default.field-0 c.self.inside.host.record.events _ _ _ (sym c.is_some.ensures ∙ c.if-is_some.false) c.self.invariant c.in_default-sync.ensures.ok c.sync.ensures c.in_default.is

pub returns-in-Err-clause-loads : goal.returns-in-Err-clause-loads
returns-in-Err-clause-loads c = rw (← c.self.view_is) (noted_loaded (Sync c.args.fd.0) tt c.sync.result c.self.inside.host.record.events _ c.sync.ensures)

pub returns-in-Err-sync-clause-loads : goal.returns-in-Err-sync-clause-loads
returns-in-Err-sync-clause-loads c = rw (← c.self.view_is) (noted_loaded (Sync c.args.fd.0) tt c.sync.result c.self.inside.host.record.events _ c.sync.ensures)

pub returns-clause-loads : goal.returns-clause-loads
returns-clause-loads c = rw (← c.self.view_is) (noted_loaded (Sync c.args.fd.0) tt c.sync.result c.self.inside.host.record.events _ c.sync.ensures)
