-- What a read of a block answers.
use Rattle.std.proofs.Common.{◌≡◌, inr, ℕ, List, take, drop, sym, ap, subst, ◌∙◌}
use Rattle.std.specs.Prelude.{Result, Ok, Err, IfOk, IfErr, Vec}
use Rattle.std.specs.declared.alloc.Global.{Global}
use Rattle.raft_log_records.specs.declared.file_id.FileBlockHandle.{FileBlockHandle}
use Rattle.raft_log_disk.specs.Cause.{Meter}
use Rattle.raft_log_disk.specs.Disk.{Disk, IsIn}
use Rattle.raft_log_files.specs.declared.error.Error.{Error}
use Rattle.raft_log_file.specs.Errors.{IsReadFault}
use Rattle.raft_log_pipe.specs.declared.file.File.{File}
use Rattle.raft_log_pipe.specs.declared.pipe.SinglePipe.{SinglePipe}
use Rattle.raft_log_pipe.specs.Blocks.{AreOfBlock, AreOfFile, IsBlockFault, files_of}
use Rattle.raft_log_pipe.specs.Pipe.{IsPipe}
use Rattle.raft_log_pipe.proofs.BlockLemmas.{blocks_are, one_file}

of_number : (p : SinglePipe) (d : Disk) (h : FileBlockHandle) (f : File) (fd : ℕ) (bytes : List ℕ) → IsPipe p d → IsIn f (files_of p) → f.seq ≡ h.id.seq → fd ≡ f.handle.0 → bytes ≡ take h.len (drop h.offset (d.file fd).bytes)
    → AreOfFile p d h bytes
of_number p d h f fd bytes pipe there same at is g here number =
    let one : f ≡ g = one_file p d f g pipe there here (same ∙ sym number) in
    is ∙ ap (λ (n : ℕ). take h.len (drop h.offset (d.file n).bytes)) (at ∙ ap (λ (x : File). x.handle.0) one)

pub file_read : (r : Result (Vec ℕ Global) Error) (p : SinglePipe) (d : Disk) (h : FileBlockHandle) (f : File) (fd : ℕ) → IsPipe p d → IsIn f (files_of p) → f.seq ≡ h.id.seq → fd ≡ f.handle.0
    → IfOk r (λ v. v.items ≡ take h.len (drop h.offset (d.file fd).bytes)) → IfOk r (λ v. AreOfFile p d h v.items)
file_read (Ok v) p d h f fd pipe there same at is = of_number p d h f fd v.items pipe there same at is
file_read (Err e) p d h f fd pipe there same at is = tt

pub block_read : (r : Result (Vec ℕ Global) Error) (p : SinglePipe) (d : Disk) (h : FileBlockHandle) (f : File) (fd : ℕ) → IsPipe p d → IsIn f (files_of p) → f.seq ≡ h.id.seq → fd ≡ f.handle.0
    → IfOk r (λ v. v.items ≡ take h.len (drop h.offset (d.file fd).bytes)) → IfOk r (λ v. AreOfBlock p d h v.items)
block_read (Ok v) p d h f fd pipe there same at is = blocks_are p d h v.items pipe (of_number p d h f fd v.items pipe there same at is)
block_read (Err e) p d h f fd pipe there same at is = tt

pub unread : (r : Result (Vec ℕ Global) Error) (p : SinglePipe) (d : Disk) (meter : Meter) (h : FileBlockHandle) (f : File) (fd : ℕ) → IsIn f (files_of p) → f.seq ≡ h.id.seq → fd ≡ f.handle.0 → IfErr r (IsReadFault d meter fd)
    → IfErr r (IsBlockFault p d meter h)
unread (Ok v) p d meter h f fd there same at fault = tt
unread (Err e) p d meter h f fd there same at fault = inr (f, there, same, subst (λ n. IsReadFault d meter n e) at fault)
