use Rattle.std.proofs.Common.{◌≡◌, ◌⊎◌, inl, inr, ◌≤◌, ℕ, List, Some, arith}
use Rattle.raft_log_disk.proofs.CauseLemmas.{at_err}
use Rattle.raft_disk_uses.proofs.StoreLemmas.{none_created, none_written, none_same, none_with, one_is_none, drafted, stored_ok, stored_err, untouched_with, untouched_create, untouched_last, untouched_then}
use Rattle.raft_disk_uses.proofs.storing.store.Goals as goal

pub returns-in_err-fd-clause-err : goal.returns-in_err-fd-clause-err
returns-in_err-fd-clause-err g c = at_err _ _ (one_is_none (g.F.FileSystem.disk c.create.new.self) c.args.path.now (Some c.args.bytes.now) (none_created (g.F.FileSystem.disk c.args.files.now) (g.F.FileSystem.disk c.create.new.self) c.args.draft.now c.args.path.now c.requires.path c.requires.apart c.in_err-fd.ensures.err))

pub returns-in_err-write_at-clause-err : goal.returns-in_err-write_at-clause-err
returns-in_err-write_at-clause-err g c = at_err _ _ (one_is_none (g.F.FileSystem.disk c.write_at.new.self) c.args.path.now (Some c.args.bytes.now) (none_written (g.F.FileSystem.disk c.create.new.self) (g.F.FileSystem.disk c.write_at.new.self) c.in_ok-fd.fd.0 0 c.args.bytes.now c.args.path.now (none_created (g.F.FileSystem.disk c.args.files.now) (g.F.FileSystem.disk c.create.new.self) c.args.draft.now c.args.path.now c.requires.path c.requires.apart (inr c.in_ok-fd.ensures.ok.1)) c.in_err-write_at.ensures.err))

pub returns-in_err-sync-clause-err : goal.returns-in_err-sync-clause-err
returns-in_err-sync-clause-err g c = at_err _ _ (one_is_none (g.F.FileSystem.disk c.sync.new.self) c.args.path.now (Some c.args.bytes.now) (none_same (g.F.FileSystem.disk c.write_at.new.self) (g.F.FileSystem.disk c.sync.new.self) c.args.path.now (none_with (g.F.FileSystem.disk c.create.new.self) (g.F.FileSystem.disk c.write_at.new.self) c.in_ok-fd.fd.0 _ c.args.path.now (none_created (g.F.FileSystem.disk c.args.files.now) (g.F.FileSystem.disk c.create.new.self) c.args.draft.now c.args.path.now c.requires.path c.requires.apart (inr c.in_ok-fd.ensures.ok.1)) c.in_ok-write_at.ensures.ok) c.in_err-sync.ensures.err))

pub rename-requires : goal.rename-requires
rename-requires g c = (drafted (g.F.FileSystem.disk c.args.files.now) (g.F.FileSystem.disk c.create.new.self) (g.F.FileSystem.disk c.write_at.new.self) (g.F.FileSystem.disk c.sync.new.self) c.args.draft.now c.args.path.now c.in_ok-fd.fd.0 c.args.bytes.now c.requires.draft c.requires.path c.requires.apart c.in_ok-fd.ensures.ok.0 c.in_ok-fd.ensures.ok.1 c.in_ok-write_at.ensures.ok c.in_ok-sync.ensures.ok).free

pub returns-clause-ok : goal.returns-clause-ok
returns-clause-ok g c = stored_ok _ (g.F.FileSystem.disk c.sync.new.self) (g.F.FileSystem.disk c.rename.new.self) c.args.draft.now c.args.path.now c.in_ok-fd.fd.0 c.args.bytes.now (drafted (g.F.FileSystem.disk c.args.files.now) (g.F.FileSystem.disk c.create.new.self) (g.F.FileSystem.disk c.write_at.new.self) (g.F.FileSystem.disk c.sync.new.self) c.args.draft.now c.args.path.now c.in_ok-fd.fd.0 c.args.bytes.now c.requires.draft c.requires.path c.requires.apart c.in_ok-fd.ensures.ok.0 c.in_ok-fd.ensures.ok.1 c.in_ok-write_at.ensures.ok c.in_ok-sync.ensures.ok) c.rename.ensures.ok

pub returns-clause-err : goal.returns-clause-err
returns-clause-err g c = stored_err _ (g.F.FileSystem.disk c.sync.new.self) (g.F.FileSystem.disk c.rename.new.self) c.args.draft.now c.args.path.now c.in_ok-fd.fd.0 c.args.bytes.now (drafted (g.F.FileSystem.disk c.args.files.now) (g.F.FileSystem.disk c.create.new.self) (g.F.FileSystem.disk c.write_at.new.self) (g.F.FileSystem.disk c.sync.new.self) c.args.draft.now c.args.path.now c.in_ok-fd.fd.0 c.args.bytes.now c.requires.draft c.requires.path c.requires.apart c.in_ok-fd.ensures.ok.0 c.in_ok-fd.ensures.ok.1 c.in_ok-write_at.ensures.ok c.in_ok-sync.ensures.ok) c.rename.ensures.err

pub returns-clause-others : goal.returns-clause-others
returns-clause-others g c =
    let above : (g.F.FileSystem.disk c.args.files.now).next ≤ c.in_ok-fd.fd.0 = omega (arith, c.in_ok-fd.ensures.ok.0) in
    untouched_then (g.F.FileSystem.disk c.args.files.now) (g.F.FileSystem.disk c.create.new.self) (g.F.FileSystem.disk c.rename.new.self) _ (untouched_create (g.F.FileSystem.disk c.args.files.now) (g.F.FileSystem.disk c.create.new.self) c.args.draft.now (inr c.in_ok-fd.ensures.ok.1))
    (untouched_then (g.F.FileSystem.disk c.create.new.self) (g.F.FileSystem.disk c.write_at.new.self) (g.F.FileSystem.disk c.rename.new.self) _ (untouched_with (g.F.FileSystem.disk c.create.new.self) (g.F.FileSystem.disk c.write_at.new.self) c.in_ok-fd.fd.0 _ _ above c.in_ok-write_at.ensures.ok)
    (untouched_then (g.F.FileSystem.disk c.write_at.new.self) (g.F.FileSystem.disk c.sync.new.self) (g.F.FileSystem.disk c.rename.new.self) _ (untouched_with (g.F.FileSystem.disk c.write_at.new.self) (g.F.FileSystem.disk c.sync.new.self) c.in_ok-fd.fd.0 _ _ above c.in_ok-sync.ensures.ok)
    (untouched_last _ (g.F.FileSystem.disk c.sync.new.self) (g.F.FileSystem.disk c.rename.new.self) c.args.draft.now c.args.path.now c.in_ok-fd.fd.0 _ above (drafted (g.F.FileSystem.disk c.args.files.now) (g.F.FileSystem.disk c.create.new.self) (g.F.FileSystem.disk c.write_at.new.self) (g.F.FileSystem.disk c.sync.new.self) c.args.draft.now c.args.path.now c.in_ok-fd.fd.0 c.args.bytes.now c.requires.draft c.requires.path c.requires.apart c.in_ok-fd.ensures.ok.0 c.in_ok-fd.ensures.ok.1 c.in_ok-write_at.ensures.ok c.in_ok-sync.ensures.ok).there c.rename.ensures.ok c.rename.ensures.err)))
