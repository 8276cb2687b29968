use Rattle.std.proofs.Common.{ap, ◌∷◌, ◌++◌, List, ℕ, ◌∙◌}
use Rattle.raft_log_files.specs.FileName.{log_file_name}
use Rattle.raft_log_pipe.specs.Pipe.{HasPath}
use Rattle.raft_log_pipe.proofs.AloneLemmas.{made_at, perhaps_at}
use Rattle.raft_log_pipe.proofs.NextLemmas.{free_path, has_path_says, path_at, perhaps_created}
use Rattle.raft_log_pipe.proofs.file.new_file.Goals as goal

pub create-requires : goal.create-requires
create-requires g c =
    free_path (g.F.FileSystem.disk c.args.files.now) c.args.paths.now c.args.id _ c.requires.last c.requires.number
    (path_at c.args.paths.now _ _ c.args.id _ (c.find_available_dir-path_id.ensures.within c.requires.paths) c.index-paths-path_id.is
    (c.as_str-2.ensures.value ∙ c.in_ok-path.ensures ∙ ap (λ (l : List ℕ). l ++ 47 ∷ log_file_name c.args.id) c.as_str.ensures.value))

pub returns-in-Err-clause-created : goal.returns-in-Err-clause-created
returns-in-Err-clause-created g c =
    let has : HasPath c.args.paths.now c.args.id c.as_str-2.result.now
    = path_at c.args.paths.now _ _ c.args.id _ (c.find_available_dir-path_id.ensures.within c.requires.paths) c.index-paths-path_id.is
    (c.as_str-2.ensures.value ∙ c.in_ok-path.ensures ∙ ap (λ (l : List ℕ). l ++ 47 ∷ log_file_name c.args.id) c.as_str.ensures.value) in
    perhaps_created _ _ c.args.id c.as_str-2.result.now (has_path_says c.args.paths.now c.args.id _ c.requires.number.1 has)
    (free_path (g.F.FileSystem.disk c.args.files.now) c.args.paths.now c.args.id _ c.requires.last c.requires.number has) c.in-Err.ensures.err

pub returns-clause-created : goal.returns-clause-created
returns-clause-created g c =
    let has : HasPath c.args.paths.now c.args.id c.as_str-2.result.now
    = path_at c.args.paths.now _ _ c.args.id _ (c.find_available_dir-path_id.ensures.within c.requires.paths) c.index-paths-path_id.is
    (c.as_str-2.ensures.value ∙ c.in_ok-path.ensures ∙ ap (λ (l : List ℕ). l ++ 47 ∷ log_file_name c.args.id) c.as_str.ensures.value) in (
      c.in-Ok.ensures.ok.0,
      (
        c.as_str-2.result.now,
        has_path_says c.args.paths.now c.args.id _ c.requires.number.1 has,
        free_path (g.F.FileSystem.disk c.args.files.now) c.args.paths.now c.args.id _ c.requires.last c.requires.number has,
        c.in-Ok.ensures.ok.1,
      ),
    )

pub returns-in-Err-clause-made : goal.returns-in-Err-clause-made
returns-in-Err-clause-made g c =
    let within = c.find_available_dir-path_id.ensures.within c.requires.paths in
    let says = c.as_str-2.ensures.value ∙ c.in_ok-path.ensures ∙ ap (λ (l : List ℕ). l ++ 47 ∷ log_file_name c.args.id) c.as_str.ensures.value in
    let has : HasPath c.args.paths.now c.args.id c.as_str-2.result.now = path_at c.args.paths.now _ _ c.args.id _ within c.index-paths-path_id.is says in
    perhaps_at _ _ c.args.paths.now c.args.id _ _ c.as_str-2.result.now within c.index-paths-path_id.is says
    (free_path (g.F.FileSystem.disk c.args.files.now) c.args.paths.now c.args.id _ c.requires.last c.requires.number has) c.in-Err.ensures.err

pub returns-clause-made : goal.returns-clause-made
returns-clause-made g c =
    let within = c.find_available_dir-path_id.ensures.within c.requires.paths in
    let says = c.as_str-2.ensures.value ∙ c.in_ok-path.ensures ∙ ap (λ (l : List ℕ). l ++ 47 ∷ log_file_name c.args.id) c.as_str.ensures.value in
    let has : HasPath c.args.paths.now c.args.id c.as_str-2.result.now = path_at c.args.paths.now _ _ c.args.id _ within c.index-paths-path_id.is says in (
      c.in-Ok.ensures.ok.0,
      made_at _ _ c.args.paths.now c.args.id _ _ c.as_str-2.result.now within c.index-paths-path_id.is says
          (free_path (g.F.FileSystem.disk c.args.files.now) c.args.paths.now c.args.id _ c.requires.last c.requires.number has) c.in-Ok.ensures.ok.1,
    )
