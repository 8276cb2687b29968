use Rattle.std.proofs.Common.{inr, sym, ◌∙◌}
use Rattle.raft_log_host.proofs.Mirrored.{made, refused}
use Rattle.raft_log_host.specs.Calls.{Take}
use Rattle.raft_log_host.proofs.Loaded.{told_loaded}
use Rattle.raft_log_host.proofs.files.HostFileSystem.adopt.Goals as goal

pub invariant_of-self-in-Err-take : goal.invariant_of-self-in-Err-take
invariant_of-self-in-Err-take c =
    refused _ (Take c.args.path.now c.in-Ok.fd.0) c.take.result c.in-Err-take.cause c.self.inside.host.record.events _ _ _ (sym c.is_some.ensures ∙ c.if-is_some.false) c.self.invariant (inr c.in-Ok.ensures.ok) c.take.ensures c.in-Err-take.is

pub invariant_of-self-in_default : goal.invariant_of-self-in_default
invariant_of-self-in_default c =
    made _ (Take c.args.path.now c.in-Ok.fd.0) c.take.result c.in_default.field-0 c.self.inside.host.record.events _ _ _ (sym c.is_some.ensures ∙ c.if-is_some.false) c.self.invariant c.in-Ok.ensures.ok c.take.ensures c.in_default.is

pub returns-in-Err-take : goal.returns-in-Err-take
returns-in-Err-take c = record { loads = rw (← c.self.view_is) (told_loaded (Take c.args.path.now c.in-Ok.fd.0) (tt, (tt, tt)) c.take.result c.self.inside.host.record.events _ c.take.ensures) }

pub returns : goal.returns
returns c = record { loads = rw (← c.self.view_is) (told_loaded (Take c.args.path.now c.in-Ok.fd.0) (tt, (tt, tt)) c.take.result c.self.inside.host.record.events _ c.take.ensures) }
