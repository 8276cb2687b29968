use Rattle.std.proofs.Common.{inr, sym, ◌∙◌, arith, refl}
use Rattle.raft_log_host.proofs.Mirrored.{made_alone, refused_alone}
use Rattle.raft_log_host.specs.Calls.{Write}
use Rattle.raft_log_host.proofs.Torn.{bytes_by_each, taken_whole}
use Rattle.raft_log_host.proofs.files.HostFileSystemFileSystem.write_at.Goals as goal

pub invariant_of-self-in-Err-write_at : goal.invariant_of-self-in-Err-write_at
invariant_of-self-in-Err-write_at c =
    refused_alone _ (Write c.args.fd.0 c.args.at c.args.bytes.now) refl c.write_at-2.result c.in-Err-write_at.cause c.self.inside.host.record.events _ _ _ (sym c.is_some.ensures ∙ c.if-is_some.false) c.self.invariant (inr c.in_default.ensures.ok) c.write_at-2.ensures c.in-Err-write_at.is

pub invariant_of-self-in_default-write_at : goal.invariant_of-self-in_default-write_at
invariant_of-self-in_default-write_at c =
    made_alone _ (Write c.args.fd.0 c.args.at c.args.bytes.now) refl c.write_at-2.result c.in_default-write_at.field-0 c.self.inside.host.record.events _ _ _ (sym c.is_some.ensures ∙ c.if-is_some.false) c.self.invariant c.in_default.ensures.ok c.write_at-2.ensures c.in_default-write_at.is

pub returns-in-Err-write_at-clause-err : goal.returns-in-Err-write_at-clause-err
returns-in-Err-write_at-clause-err c =
    rw (← c.self.view_is) (inr (taken_whole _ _ _ _ _ (rw (← c.self.view_is) at c.requires) (bytes_by_each c.args.bytes.now (λ i lt. omega (arith, c.type_inv.bytes i))) c.in_default.ensures.ok))
