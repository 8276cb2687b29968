use Rattle.std.proofs.Common.{◌≡◌, ◌+◌, ℕ, List, true, false, length, inl, refl, sym, ap, ◌∙◌}
use Rattle.std.specs.Prelude.{Vec}
use Rattle.std.specs.declared.alloc.Global.{Global}
use Rattle.raft_log_disk.specs.Disk.{IsIn}
use Rattle.raft_log_pipe.specs.declared.file.ReservedFile.{ReservedFile}
use Rattle.raft_log_pipe.specs.Purging.{CanBeKept, IsKept, NamesNoOther}
use Rattle.raft_log_pipe.proofs.KeepLemmas.{first_same, went_kept}
use Rattle.raft_log_pipe.proofs.PrefillLemmas.{ok_map}
use Rattle.raft_log_pipe.proofs.PurgeLemmas.{holds_all}
use Rattle.raft_log_pipe.proofs.pipe.SinglePipe.purge_first.Goals as goal

pub returns-in_err-can_be_kept-clause-holds : goal.returns-in_err-can_be_kept-clause-holds
returns-in_err-can_be_kept-clause-holds g c = holds_all c.args.self.now (g.F.FileSystem.disk c.args.files.now) (g.F.FileSystem.disk c.args.files.now) c.requires.pipe refl

pub returns-then-branch-clause-kept : goal.returns-then-branch-clause-kept
returns-then-branch-clause-kept g c =
    let p = c.args.self.now in
    let d = g.F.FileSystem.disk c.args.files.now in
    let q = c.keep_first.new.self in
    let e = g.F.FileSystem.disk c.keep_first.new.files in
    let f = c.index-file.result.now in
    went_kept c.keep_first.result p q d e c.args.room f c.requires.some c.index-file.ensures c.keep_first.ensures.rest c.keep_first.ensures.ok c.keep_first.ensures.front
    (ok_map c.keep_first.result (IsKept p d q e p.reserved.items f) (CanBeKept p d c.args.room p.reserved.items f → IsKept p d q e p.reserved.items f) (λ kept can. kept) c.keep_first.ensures.kept)

pub returns-clause-front : goal.returns-clause-front
returns-clause-front g c = first_same c.args.self.now.reserved.items c.delete_first.new.self.reserved.items (ap (λ (v : Vec ReservedFile Global). v.items) c.delete_first.ensures.reserved)

pub returns-clause-kept : goal.returns-clause-kept
returns-clause-kept g c =
    let p = c.args.self.now in
    let d = g.F.FileSystem.disk c.args.files.now in
    let q = c.delete_first.new.self in
    let e = g.F.FileSystem.disk c.delete_first.new.files in
    let f = c.index-file.result.now in
    let never : CanBeKept p d c.args.room p.reserved.items f → IsKept p d q e p.reserved.items f = λ can. (let both : true ≡ false = sym (c.in_ok-can_be_kept.ensures.no can) ∙ c.if-branch.false in absurd cc) in
    went_kept c.delete_first.result p q d e c.args.room f c.requires.some c.index-file.ensures c.delete_first.ensures.rest c.delete_first.ensures.ok (returns-clause-front g c)
    (ok_map c.delete_first.result (length q.older.items + 1 ≡ length p.older.items) (CanBeKept p d c.args.room p.reserved.items f → IsKept p d q e p.reserved.items f) (λ fewer. never) c.delete_first.ensures.ok)

pub returns-clause-fresh : goal.returns-clause-fresh
returns-clause-fresh g c =
    let d = g.F.FileSystem.disk c.args.files.now in
    let q = c.delete_first.new.self in
    let e = g.F.FileSystem.disk c.delete_first.new.files in
    ok_map c.delete_first.result ((path : List ℕ) (fd : ℕ) → IsIn (path, fd) e.names → IsIn (path, fd) d.names) (NamesNoOther q d e) (λ old path fd there. inl (old path fd there)) c.delete_first.ensures.fresh
