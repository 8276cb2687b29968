use Rattle.std.proofs.Common.{◌≡◌, ℕ, true, false, List, ◌∷◌, ◌++◌, arith, sym, ap, subst, ◌∙◌}
use Rattle.std.specs.Prelude.{IsTrue, is_some, not}
use Rattle.raft_log_disk.specs.Disk.{IsIn, fd_of}
use Rattle.raft_log_files.specs.FileName.{IsFileSeq, reserved_name}
use Rattle.raft_log_pipe.specs.declared.file.ReservedFile.{ReservedFile}
use Rattle.raft_log_pipe.specs.Prepared.{number_behind}
use Rattle.raft_log_pipe.proofs.KeepLemmas.{can_yes}
use Rattle.raft_log_pipe.proofs.pipe.SinglePipe.can_be_kept.Goals as goal

pub returns-clause-yes : goal.returns-clause-yes
returns-clause-yes g c =
    let p = c.args.self.now in
    let d = g.F.FileSystem.disk c.args.files.now in
    let number : c.number_behind-number.result ≡ number_behind p.reserved.items 1 = c.number_behind-number.ensures ∙ ap (λ (l : List ReservedFile). number_behind l 1) c.deref.ensures.value in
    let path = c.as_str.ensures.value ∙ c.in_ok-path.ensures ∙ (λ i. c.as_str-directory.ensures.value i ++ 47 ∷ reserved_name (number i)) in
    let below : IsFileSeq c.number_behind-number.result = c.is_file_seq.ensures.0 c.if-not-is_file_seq.false in
    let absent : IsTrue c.is_dir-else-not-is_dir.result → ⊥ = λ is. (let both : true ≡ false = sym is ∙ c.if-is_dir.false in absurd cc) in
    λ yes.
    can_yes p d c.args.room c.args.file c.index.result.now c.as_str.result.now c.in-Append.is c.in-V2.is (omega (arith, c.if-len-room.false, c.len.ensures)) (omega (arith, number, below)) c.requires.placed c.index.ensures path
    (subst (λ (t : List ℕ). IsIn t d.directories) c.as_str-directory.ensures.value (c.is_dir.ensures.yes c.if-not-is_dir.false)) (λ there. absent (c.is_dir-else-not-is_dir.ensures.no there))
    (ap (λ (t : List ℕ). not (is_some (fd_of d.names t))) (c.as_str.ensures.value ∙ sym c.as_str-2.ensures.value) ∙ ap not (sym c.is_file.ensures) ∙ yes)
