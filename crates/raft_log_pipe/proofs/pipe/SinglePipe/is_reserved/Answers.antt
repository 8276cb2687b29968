use Rattle.std.proofs.Common.{List, ℕ, ◌<◌, ◌∷◌, ◌++◌, length, arith, sym, ap, ◌∙◌}
use Rattle.std.specs.String.{string_bytes}
use Rattle.std.proofs.lemmas.List.{length-map}
use Rattle.raft_log_files.specs.FileName.{reserved_name}
use Rattle.raft_log_pipe.specs.Alone.{directories_of_pipe}
use Rattle.raft_log_pipe.proofs.AloneLemmas.{mapped_at}
use Rattle.raft_log_pipe.proofs.ReuseLemmas.{reserved_found, reserved_is_file}
use Rattle.raft_log_pipe.proofs.pipe.SinglePipe.is_reserved.Goals as goal

pub returns-clause-yes : goal.returns-clause-yes
returns-clause-yes g c =
    let p = c.args.self.now in
    let d = g.F.FileSystem.disk c.args.files.now in
    let within : c.args.file.path_id < length p.paths.items = omega (arith, c.if-file-len.false, c.len.ensures) in
    let at = c.as_str-directory.ensures.value ∙ sym (mapped_at p.paths.items c.args.file.path_id c.index.result.now within c.index.ensures) in
    λ yes.
    reserved_found p.queue (directories_of_pipe p) d c.args.file c.as_str.result.now c.as_str-directory.result.now c.in-Append.is (c.is_file_seq.ensures.0 c.if-not-is_file_seq.false)
    (omega (arith, within, length-map p.paths.items string_bytes)) (c.as_str.ensures.value ∙ c.in_ok-path.ensures) at (c.is_dir.ensures.yes c.if-not-is_dir.false) (sym c.is_file.ensures ∙ yes)

pub returns-clause-no : goal.returns-clause-no
returns-clause-no g c =
    let met = g.met.F.FileSystem g.world.𝓛 g.world.𝓜 g.world.𝓡 ((λ s x. x), (λ x. x), (λ x. x), λ x. x) in
    let p = c.args.self.now in
    let d = g.F.FileSystem.disk c.args.files.now in
    let within : c.args.file.path_id < length p.paths.items = omega (arith, c.if-file-len.false, c.len.ensures) in
    let at = c.as_str-directory.ensures.value ∙ sym (mapped_at p.paths.items c.args.file.path_id c.index.result.now within c.index.ensures) in
    λ is.
    c.is_file.ensures ∙ reserved_is_file p.queue (directories_of_pipe p) d c.args.file c.as_str.result.now (met.is_named c.args.files.now)
    (c.as_str.ensures.value ∙ c.in_ok-path.ensures ∙ ap (λ (l : List ℕ). l ++ 47 ∷ reserved_name c.args.file.seq) at) is
