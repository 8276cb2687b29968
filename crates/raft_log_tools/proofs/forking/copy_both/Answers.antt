use Rattle.std.proofs.Common.{◌++◌, List, map, string_bytes, ap, ◌∙◌}
use Rattle.std.specs.declared.alloc.Global.{Global}
use Rattle.raft_log_disk.specs.Text.{Text}
use Rattle.raft_log_records.specs.declared.file_id.LogQueue.TheVariants.{Append, Rewrite}
use Rattle.raft_log_tools.specs.Forking.{copy_paths}
use Rattle.raft_log_tools.proofs.ForkLemmas.{adds_then, copied_on, copied_since, missing_before}
use Rattle.raft_log_tools.proofs.forking.copy_both.Goals as goal

pub copy_each-requires-2-clause-there : goal.copy_each-requires-2-clause-there
copy_each-requires-2-clause-there g c κs within = λ missing.
    c.requires.rewrite_there (missing_before (g.F.FileSystem.disk c.args.files.now) (g.F.FileSystem.disk c.copy_each.new.files) (map string_bytes c.args.directories.now) Rewrite c.args.rewrite.now c.copy_each.ensures.adds missing)

pub returns-clause-append : goal.returns-clause-append
returns-clause-append g c = λ name among.
    let met = g.met.F.FileSystem g.world.𝓛 g.world.𝓜 g.world.𝓡 ((λ s x. x), (λ x. x), (λ x. x), λ x. x) in
    copied_on (g.F.FileSystem.disk c.args.files.now) (g.F.FileSystem.disk c.copy_each.new.files) (g.F.FileSystem.disk c.copy_each-2.new.files) (map string_bytes c.args.directories.now) Append name c.args.target.now (met.is_named c.copy_each.new.files)
    c.copy_each-2.ensures.adds (c.in_ok-copy_each.ensures.ok name among)

pub returns-clause-rewrite : goal.returns-clause-rewrite
returns-clause-rewrite g c = λ name among.
    let met = g.met.F.FileSystem g.world.𝓛 g.world.𝓜 g.world.𝓡 ((λ s x. x), (λ x. x), (λ x. x), λ x. x) in
    copied_since (g.F.FileSystem.disk c.args.files.now) (g.F.FileSystem.disk c.copy_each.new.files) (g.F.FileSystem.disk c.copy_each-2.new.files) (map string_bytes c.args.directories.now) Rewrite name c.args.target.now (met.is_named c.args.files.now)
    c.copy_each.ensures.adds (λ none. c.requires.rewrite_there (name, among, none)) (c.in_ok-copy_each-2.ensures.ok name among)

pub returns-clause-paths : goal.returns-clause-paths
returns-clause-paths g c =
    c.in_ok-copy_each-2.ensures.paths ∙ ap (λ (l : List Text). l ++ copy_paths c.args.target.now Rewrite c.args.rewrite.now)
    (c.in_ok-copy_each.ensures.paths ∙ ap (λ (l : List _). map (string_bytes {Z = Global}) l ++ copy_paths c.args.target.now Append c.args.append.now) c.new-copied.ensures.items)

pub returns-clause-adds : goal.returns-clause-adds
returns-clause-adds g c = adds_then (g.F.FileSystem.disk c.args.files.now) (g.F.FileSystem.disk c.copy_each.new.files) (g.F.FileSystem.disk c.copy_each-2.new.files) c.copy_each.ensures.adds c.copy_each-2.ensures.adds

pub returns-in_err-copy_each-2-clause-adds : goal.returns-in_err-copy_each-2-clause-adds
returns-in_err-copy_each-2-clause-adds g c = adds_then (g.F.FileSystem.disk c.args.files.now) (g.F.FileSystem.disk c.copy_each.new.files) (g.F.FileSystem.disk c.copy_each-2.new.files) c.copy_each.ensures.adds c.copy_each-2.ensures.adds
