use Rattle.std.proofs.Common.{◌∷◌, ◌++◌, [], List, get_or, length, map, string_bytes, take, refl, sym, ap, subst, ◌∙◌, append-nil, append_assoc}
use Rattle.std.specs.declared.alloc.Global.{Global}
use Rattle.std.proofs.lemmas.List.{map-append, take_all, take_more}
use Rattle.raft_log_disk.specs.Text.{Text}
use Rattle.raft_log_recovery.specs.declared.scan.FileName.{FileName}
use Rattle.raft_log_recovery.proofs.CausedLemmas.{at_in}
use Rattle.raft_log_recovery.proofs.QueueLemmas.{number_of}
use Rattle.raft_log_recovery.proofs.ScanLemmas.{get_or_any}
use Rattle.raft_log_tools.specs.Forking.{AreCopied, copy_path, copy_paths}
use Rattle.raft_log_tools.proofs.ForkLemmas.{adds_none, adds_then, copied_more}
use Rattle.raft_log_tools.proofs.forking.copy_each.Goals as goal

pub copy_file-requires-clause-seq : goal.copy_file-requires-clause-seq
copy_file-requires-clause-seq g c κs within =
    let names = c.args.names.now in
    (number_of (length c.args.directories.now) names c.requires.numbered (get_or names c.loop-name.name-index (record { seq = 0; path_id = 0 })) (at_in names c.loop-name.name-index (record { seq = 0; path_id = 0 }) c.loop-name-test.true)).0

pub copy_file-requires-clause-place : goal.copy_file-requires-clause-place
copy_file-requires-clause-place g c κs within =
    let names = c.args.names.now in
    (number_of (length c.args.directories.now) names c.requires.numbered (get_or names c.loop-name.name-index (record { seq = 0; path_id = 0 })) (at_in names c.loop-name.name-index (record { seq = 0; path_id = 0 }) c.loop-name-test.true)).1

pub loop-name-init : goal.loop-name-init
loop-name-init g c = record {
  adds = adds_none (g.F.FileSystem.disk c.args.files.now) (g.F.FileSystem.disk c.args.files.now) refl;
  copied = λ name there. absurd there;
  paths = sym (append-nil (map (string_bytes {Z = Global}) c.args.copied.now.items));
}

pub loop-name-preserved : goal.loop-name-preserved
loop-name-preserved g c =
    let met = g.met.F.FileSystem g.world.𝓛 g.world.𝓜 g.world.𝓡 ((λ s x. x), (λ x. x), (λ x. x), λ x. x) in
    let names = c.args.names.now in
    let i = c.loop-name.name-index in
    let name : FileName = get_or names i (record { seq = 0; path_id = 0 }) in
    let old = g.F.FileSystem.disk c.args.files.now in
    let cur = g.F.FileSystem.disk c.loop-name.files in
    let new = g.F.FileSystem.disk c.copy_file.new.files in
    let is = get_or_any names i (record { seq = 0; path_id = 0 }) c.loop-name-test.true in
    let path : Text → List Text = λ t. t ∷ [] in
    record {
      adds = adds_then old cur new c.loop-name.invariant.adds c.copy_file.ensures.adds;
      copied = copied_more old cur new (map string_bytes c.args.directories.now) c.args.queue c.args.target.now names i name (met.is_named c.args.files.now) (met.is_named c.loop-name.files) c.loop-name.invariant.adds c.copy_file.ensures.adds c.loop-name-test.true is
          (λ none. c.requires.there (name, at_in names i (record { seq = 0; path_id = 0 }) c.loop-name-test.true, none)) c.loop-name.invariant.copied c.in_ok-path.ensures.copied;
      paths = ap (map (string_bytes {Z = Global})) c.in_ok-push.ensures.items ∙ map-append (string_bytes {Z = Global}) c.loop-name.copied.items (c.in_ok-path.path ∷ [])
          ∙ (λ j. c.loop-name.invariant.paths j ++ path (c.in_ok-path.ensures.ok j))
          ∙ append_assoc (map (string_bytes {Z = Global}) c.args.copied.now.items) (copy_paths c.args.target.now c.args.queue (take i names)) (copy_path c.args.target.now c.args.queue name ∷ [])
          ∙ ap (λ (l : List Text). map (string_bytes {Z = Global}) c.args.copied.now.items ++ l)
          (sym (ap (copy_paths c.args.target.now c.args.queue) (take_more names i name c.loop-name-test.true ∙ ap (λ (x : FileName). take i names ++ x ∷ []) (sym is)) ∙ map-append (copy_path c.args.target.now c.args.queue) (take i names) (name ∷ [])));
    }

pub returns-clause-ok : goal.returns-clause-ok
returns-clause-ok g c =
    subst (AreCopied (g.F.FileSystem.disk c.args.files.now) (g.F.FileSystem.disk c.loop-name.files) (map string_bytes c.args.directories.now) c.args.queue c.args.target.now) (take_all c.loop-name.name-index c.args.names.now c.loop-name-test.false) c.loop-name.invariant.copied

pub returns-clause-paths : goal.returns-clause-paths
returns-clause-paths g c =
    c.loop-name.invariant.paths ∙ ap (λ (l : List FileName). map (string_bytes {Z = Global}) c.args.copied.now.items ++ copy_paths c.args.target.now c.args.queue l) (take_all c.loop-name.name-index c.args.names.now c.loop-name-test.false)

pub returns-in_err-path-clause-adds : goal.returns-in_err-path-clause-adds
returns-in_err-path-clause-adds g c =
    adds_then (g.F.FileSystem.disk c.args.files.now) (g.F.FileSystem.disk c.loop-name.files) (g.F.FileSystem.disk c.copy_file.new.files) c.loop-name.invariant.adds c.copy_file.ensures.adds

pub returns-in_err-push-clause-adds : goal.returns-in_err-push-clause-adds
returns-in_err-push-clause-adds g c =
    adds_then (g.F.FileSystem.disk c.args.files.now) (g.F.FileSystem.disk c.loop-name.files) (g.F.FileSystem.disk c.copy_file.new.files) c.loop-name.invariant.adds c.copy_file.ensures.adds
