use Rattle.std.proofs.Common.{◌≡◌, inl, inr, ℕ, ◌+◌, ◌≤◌, List, length, take, drop, sym, ap, subst, ◌∙◌, arith}
use Rattle.std.proofs.lemmas.List.{length-take-le, take_all}
use Rattle.raft_log_disk.specs.Disk.{FileState, after_sync, after_write, put}
use Rattle.raft_log_disk.specs.Image.{IsStill}
use Rattle.raft_log_disk.proofs.DiskLemmas.{still_synced}
use Rattle.raft_log_pipe.proofs.PipeLemmas.{file_there}
use Rattle.raft_log_tools.proofs.ForkLemmas.{piece_more, writes_file, writes_none, writes_same, writes_then}
use Rattle.raft_log_tools.proofs.copying.copy_bytes.Goals as goal

pub pieces-init : goal.pieces-init
pieces-init g c = record {
  within = omega arith;
  only = writes_none (g.F.FileSystem.disk c.args.files.now) c.args.to.0;
  bytes = c.requires.empty;
}

pub write_at-requires : goal.write_at-requires
write_at-requires g c =
    let source : List ℕ = ((g.F.FileSystem.disk c.args.files.now).file c.args.from.0).bytes in
    omega (arith, ap length c.pieces.invariant.bytes, length-take-le c.pieces.at source (omega (arith, c.pieces.invariant.within, c.in_ok-size.ensures.bytes)))

pub pieces-preserved : goal.pieces-preserved
pieces-preserved g c =
    let old = g.F.FileSystem.disk c.args.files.now in
    let cur = g.F.FileSystem.disk c.pieces.files in
    let new = g.F.FileSystem.disk c.write_at.new.self in
    let to = c.args.to.0 in
    let from = c.args.from.0 in
    let at = c.pieces.at in
    let len = c.min-len.result in
    let source : List ℕ = (old.file from).bytes in
    let piece : List ℕ = c.deref.result.now in
    let read : piece ≡ take len (drop at source) = c.deref.ensures.value ∙ c.in_ok-bytes.ensures.bytes ∙ ap (λ (f : FileState). take len (drop at f.bytes)) (c.pieces.invariant.only.others from c.requires.apart) in
    let within : at + len ≤ length source = omega (arith, c.pieces-test.true, c.min-len.ensures, c.in_ok-size.ensures.bytes) in
    let state : FileState = after_write (cur.file to) at piece (put (cur.file to).bytes at piece) in
    record {
      within = omega (arith, within, c.in_ok-size.ensures.bytes);
      only = writes_then old cur new to c.pieces.invariant.only (writes_file cur new to state c.in_ok-write_at.ensures.ok);
      bytes = ap (λ (f : FileState). f.bytes) (file_there cur new to state c.in_ok-write_at.ensures.ok) ∙ piece_more source (cur.file to).bytes piece at len within c.pieces.invariant.bytes read;
    }

pub pieces-smaller : goal.pieces-smaller
pieces-smaller g c = omega (arith, c.pieces-test.true, c.min-len.ensures)

pub returns-in_err-write_at-clause-only : goal.returns-in_err-write_at-clause-only
returns-in_err-write_at-clause-only g c =
    let old = g.F.FileSystem.disk c.args.files.now in
    let cur = g.F.FileSystem.disk c.pieces.files in
    let new = g.F.FileSystem.disk c.write_at.new.self in
    let to = c.args.to.0 in
    writes_then old cur new to c.pieces.invariant.only (elim c.in_err-write_at.ensures.err [
      | inl same ↦ writes_same cur new to same
      | inr torn ↦ writes_file cur new to (after_write (cur.file to) c.pieces.at c.deref.result.now torn.seen) torn.files
    ])

pub returns-in_err-sync-clause-only : goal.returns-in_err-sync-clause-only
returns-in_err-sync-clause-only g c =
    let cur = g.F.FileSystem.disk c.pieces.files in
    let new = g.F.FileSystem.disk c.sync.new.self in
    writes_then (g.F.FileSystem.disk c.args.files.now) cur new c.args.to.0 c.pieces.invariant.only (writes_same cur new c.args.to.0 c.in_err-sync.ensures.err)

pub returns-clause-only : goal.returns-clause-only
returns-clause-only g c =
    let cur = g.F.FileSystem.disk c.pieces.files in
    let new = g.F.FileSystem.disk c.sync.new.self in
    writes_then (g.F.FileSystem.disk c.args.files.now) cur new c.args.to.0 c.pieces.invariant.only (writes_file cur new c.args.to.0 (after_sync (cur.file c.args.to.0)) c.in_ok-sync.ensures.ok)

pub returns-clause-ok : goal.returns-clause-ok
returns-clause-ok g c =
    let cur = g.F.FileSystem.disk c.pieces.files in
    let new = g.F.FileSystem.disk c.sync.new.self in
    let source : List ℕ = ((g.F.FileSystem.disk c.args.files.now).file c.args.from.0).bytes in
    ap (λ (f : FileState). f.bytes) (file_there cur new c.args.to.0 (after_sync (cur.file c.args.to.0)) c.in_ok-sync.ensures.ok)
    ∙ c.pieces.invariant.bytes ∙ take_all c.pieces.at source (omega (arith, c.pieces-test.false, c.in_ok-size.ensures.bytes))

pub returns-clause-synced : goal.returns-clause-synced
returns-clause-synced g c =
    let cur = g.F.FileSystem.disk c.pieces.files in
    let new = g.F.FileSystem.disk c.sync.new.self in
    subst IsStill (sym (file_there cur new c.args.to.0 (after_sync (cur.file c.args.to.0)) c.in_ok-sync.ensures.ok)) (still_synced (cur.file c.args.to.0))
