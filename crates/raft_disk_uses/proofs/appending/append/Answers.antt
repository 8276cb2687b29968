use Rattle.std.proofs.Common.{◌≡◌, true, false}
use Rattle.raft_disk_uses.proofs.StoreLemmas.{appended_ok, still_ok, front_end, front_write, front_sync}
use Rattle.raft_disk_uses.proofs.appending.append.Goals as goal

pub returns-in_err-end-clause-err : goal.returns-in_err-end-clause-err
returns-in_err-end-clause-err g c = front_end _ (g.F.FileSystem.disk c.args.files.now) c.args.fd.0

pub returns-in_err-write_at-clause-err : goal.returns-in_err-write_at-clause-err
returns-in_err-write_at-clause-err g c = front_write _ (g.F.FileSystem.disk c.args.files.now) (g.F.FileSystem.disk c.write_at.new.self) c.args.fd.0 c.in_ok-end.end c.args.bytes.now c.in_ok-end.ensures.bytes c.in_err-write_at.ensures.err

pub returns-clause-ok : goal.returns-clause-ok
returns-clause-ok g c = appended_ok _ (g.F.FileSystem.disk c.args.files.now) (g.F.FileSystem.disk c.write_at.new.self) (g.F.FileSystem.disk c.sync.new.self) c.args.fd.0 c.in_ok-end.end c.args.bytes.now c.in_ok-end.ensures.bytes
    (λ none. let gone : false ≡ true = c.in_ok-write_at.ensures.cause.missing none in absurd cc) c.in_ok-write_at.ensures.ok c.sync.ensures.ok

pub returns-clause-still : goal.returns-clause-still
returns-clause-still g c = still_ok _ (g.F.FileSystem.disk c.write_at.new.self) (g.F.FileSystem.disk c.sync.new.self) c.args.fd.0 c.sync.ensures.ok

pub returns-clause-err : goal.returns-clause-err
returns-clause-err g c = front_sync _ (g.F.FileSystem.disk c.args.files.now) (g.F.FileSystem.disk c.write_at.new.self) (g.F.FileSystem.disk c.sync.new.self) c.args.fd.0 c.in_ok-end.end c.args.bytes.now c.in_ok-end.ensures.bytes c.in_ok-write_at.ensures.ok c.sync.ensures.err
