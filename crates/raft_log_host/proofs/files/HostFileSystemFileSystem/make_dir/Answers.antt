use Rattle.std.proofs.Common.{inr, sym, ◌∙◌}
use Rattle.raft_log_host.proofs.Mirrored.{made, refused}
use Rattle.raft_log_host.specs.Calls.{MakeDir}
use Rattle.raft_log_host.proofs.Loaded.{told_loaded}
use Rattle.raft_log_host.proofs.files.HostFileSystemFileSystem.make_dir.Goals as goal

pub invariant_of-self-in-Err-make_dir : goal.invariant_of-self-in-Err-make_dir
invariant_of-self-in-Err-make_dir c =
    refused _ (MakeDir c.args.path.now) c.make_dir-2.result c.in-Err-make_dir.cause c.self.inside.host.record.events _ _ _ (sym c.is_some.ensures ∙ c.if-is_some.false) c.self.invariant (inr (c.in_default.ensures.ok, c.in_default.ensures.dirs)) c.make_dir-2.ensures c.in-Err-make_dir.is

pub invariant_of-self-in_default-make_dir : goal.invariant_of-self-in_default-make_dir
invariant_of-self-in_default-make_dir c =
    made _ (MakeDir c.args.path.now) c.make_dir-2.result c.in_default-make_dir.field-0 c.self.inside.host.record.events _ _ _ (sym c.is_some.ensures ∙ c.if-is_some.false) c.self.invariant (c.in_default.ensures.ok, c.in_default.ensures.dirs) c.make_dir-2.ensures c.in_default-make_dir.is

pub returns-in-Err-make_dir-clause-loads : goal.returns-in-Err-make_dir-clause-loads
returns-in-Err-make_dir-clause-loads c =
    rw (← c.self.view_is) (told_loaded (MakeDir c.args.path.now) (tt, (tt, tt)) c.make_dir-2.result c.self.inside.host.record.events _ c.make_dir-2.ensures)

pub returns-clause-loads : goal.returns-clause-loads
returns-clause-loads c =
    rw (← c.self.view_is) (told_loaded (MakeDir c.args.path.now) (tt, (tt, tt)) c.make_dir-2.result c.self.inside.host.record.events _ c.make_dir-2.ensures)
