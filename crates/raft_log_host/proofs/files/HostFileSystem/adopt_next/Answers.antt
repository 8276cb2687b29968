use Rattle.std.proofs.Common.{ℕ, true, false, List, [], refl, subst, sym, ◌∙◌}
use Rattle.raft_log_host.proofs.Mirrored.{made_so, stopped_at, untaken}
use Rattle.raft_log_disk.specs.MemorySystem.{disk_in}
use Rattle.raft_log_host.specs.Calls.{Read}
use Rattle.raft_log_host.specs.Mirror.{Does}
use Rattle.raft_log_host.proofs.Loaded.{grown}
use Rattle.raft_log_host.proofs.files.HostFileSystem.adopt_next.Goals as goal

pub invariant_of-self-in-Err-read_at : goal.invariant_of-self-in-Err-read_at
invariant_of-self-in-Err-read_at c =
    stopped_at _ (Read c.args.fd.0 c.in-Ok.at []) refl c.self.inside.host.record.events _ _ (sym c.is_some.ensures ∙ c.if-is_some.false) c.self.invariant c.in-Err-read_at.ensures.err

pub invariant_of-self-in-Err-write_at : goal.invariant_of-self-in-Err-write_at
invariant_of-self-in-Err-write_at c =
    untaken _ (Read c.args.fd.0 c.in-Ok.at c.in-Ok-read_at.bytes.items) c.self.inside.host.record.events _ _ _ _ (sym c.is_some.ensures ∙ c.if-is_some.false) c.self.invariant refl c.in-Ok-read_at.ensures.ok

pub invariant_of-self-in_default : goal.invariant_of-self-in_default
invariant_of-self-in_default c =
    let does = subst (λ (l : List ℕ). Does (Read c.args.fd.0 c.in-Ok.at l) (disk_in c.self.inside.memory) (disk_in c.write_at.new.self)) c.as_slice.ensures.value c.in_default.ensures.ok in
    made_so _ (Read c.args.fd.0 c.in-Ok.at c.in-Ok-read_at.bytes.items) c.self.inside.host.record.events _ _ _ (sym c.is_some.ensures ∙ c.if-is_some.false) c.self.invariant does c.in-Ok-read_at.ensures.ok

pub returns-in-Err-read_at : goal.returns-in-Err-read_at
returns-in-Err-read_at c = record { loads = rw (← c.self.view_is) (grown (Read c.args.fd.0 c.in-Ok.at []) false tt c.self.inside.host.record.events _ c.in-Err-read_at.ensures.err) }

pub returns-in-Err-write_at : goal.returns-in-Err-write_at
returns-in-Err-write_at c = record { loads = rw (← c.self.view_is) (grown (Read c.args.fd.0 c.in-Ok.at c.in-Ok-read_at.bytes.items) true tt c.self.inside.host.record.events _ c.in-Ok-read_at.ensures.ok) }

pub returns : goal.returns
returns c = record { loads = rw (← c.self.view_is) (grown (Read c.args.fd.0 c.in-Ok.at c.in-Ok-read_at.bytes.items) true tt c.self.inside.host.record.events _ c.in-Ok-read_at.ensures.ok) }
