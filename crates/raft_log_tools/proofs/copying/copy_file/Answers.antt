use Rattle.std.proofs.Common.{◌≡◌, ◌∷◌, ◌++◌, List, None, map, string_bytes, arith, sym, subst, ◌∙◌}
use Rattle.raft_log_disk.specs.Disk.{Disk, fd_of}
use Rattle.raft_log_disk.specs.Text.{Text}
use Rattle.raft_log_files.specs.FileName.{log_file_name}
use Rattle.raft_log_recovery.specs.Queue.{IsFileOf, path_of}
use Rattle.raft_log_tools.specs.Forking.{IsCopied, OnlyAdds, copy_path}
use Rattle.raft_log_tools.proofs.ForkLemmas.{adds_either, adds_file, adds_none, adds_written, begins_empty, below_next, copied_to, none_named}
use Rattle.raft_log_tools.proofs.copying.copy_file.Goals as goal

pub create-requires : goal.create-requires
create-requires g c =
    let d = g.F.FileSystem.disk c.open_to_read.new.files in
    subst (λ (t : Text). fd_of d.names t ≡ None) (c.as_str.ensures.value ∙ sym c.as_str-2.ensures.value) (none_named (fd_of d.names c.as_str.result.now) (sym c.is_file.ensures ∙ c.if-is_file.false))

pub copy_bytes-requires-clause-apart : goal.copy_bytes-requires-clause-apart
copy_bytes-requires-clause-apart g c κs within = λ same.
    let met = g.met.F.FileSystem g.world.𝓛 g.world.𝓜 g.world.𝓡 ((λ s x. x), (λ x. x), (λ x. x), λ x. x) in
    let d = g.F.FileSystem.disk c.open_to_read.new.files in
    let directories : List Text = map string_bytes c.args.directories.now in
    let there : IsFileOf d directories c.args.queue c.args.name c.in_ok-from.from.0 = subst (λ (x : Disk). IsFileOf x directories c.args.queue c.args.name c.in_ok-from.from.0) (sym c.open_to_read.ensures.kept) c.in_ok-from.ensures.ok in
    let below = below_next d (path_of directories c.args.queue c.args.name) c.in_ok-from.from.0 (met.is_named c.open_to_read.new.files) there in
    absurd (omega (arith, below, same, c.in_ok-to.ensures.ok.0))

pub copy_bytes-requires-clause-empty : goal.copy_bytes-requires-clause-empty
copy_bytes-requires-clause-empty g c κs within = begins_empty (g.F.FileSystem.disk c.open_to_read.new.files) (g.F.FileSystem.disk c.create.new.self) c.as_str-2.result.now c.in_ok-to.to.0 c.in_ok-to.ensures.ok.1 c.in_ok-to.ensures.ok.0

pub returns-clause-ok : goal.returns-clause-ok
returns-clause-ok g c = c.in_ok-path.ensures ∙ (λ i. c.args.target.now ++ 47 ∷ log_file_name (record { queue = c.new-id.ensures.queue i; seq = c.new-id.ensures.seq i }))

pub returns-clause-copied : goal.returns-clause-copied
returns-clause-copied g c =
    let met = g.met.F.FileSystem g.world.𝓛 g.world.𝓜 g.world.𝓡 ((λ s x. x), (λ x. x), (λ x. x), λ x. x) in
    let d = g.F.FileSystem.disk c.open_to_read.new.files in
    let mid = g.F.FileSystem.disk c.create.new.self in
    let new = g.F.FileSystem.disk c.copy_bytes.new.files in
    let directories : List Text = map string_bytes c.args.directories.now in
    let says : c.as_str-2.result.now ≡ copy_path c.args.target.now c.args.queue c.args.name
    = c.as_str-2.ensures.value ∙ c.in_ok-path.ensures ∙ (λ i. c.args.target.now ++ 47 ∷ log_file_name (record { queue = c.new-id.ensures.queue i; seq = c.new-id.ensures.seq i })) in
    let there : IsFileOf d directories c.args.queue c.args.name c.in_ok-from.from.0 = subst (λ (x : Disk). IsFileOf x directories c.args.queue c.args.name c.in_ok-from.from.0) (sym c.open_to_read.ensures.kept) c.in_ok-from.ensures.ok in
    subst (λ (x : Disk). IsCopied x new directories c.args.queue c.args.name c.args.target.now) c.open_to_read.ensures.kept
    (copied_to d mid new directories c.args.queue c.args.name c.args.target.now c.as_str-2.result.now c.in_ok-from.from.0 c.in_ok-to.to.0 (met.is_named c.open_to_read.new.files) there says c.in_ok-to.ensures.ok.0 c.in_ok-to.ensures.ok.1
    c.copy_bytes.ensures.only c.in_ok-copy_bytes.ensures.ok c.in_ok-copy_bytes.ensures.synced)

pub returns-clause-adds : goal.returns-clause-adds
returns-clause-adds g c =
    let d = g.F.FileSystem.disk c.open_to_read.new.files in
    let mid = g.F.FileSystem.disk c.create.new.self in
    let new = g.F.FileSystem.disk c.copy_bytes.new.files in
    subst (λ (x : Disk). OnlyAdds x new) c.open_to_read.ensures.kept (adds_written d mid new c.in_ok-to.to.0 (adds_file d mid c.as_str-2.result.now c.in_ok-to.ensures.ok.1) (omega (arith, c.in_ok-to.ensures.ok.0)) c.copy_bytes.ensures.only)

pub returns-in_err-copy_bytes-clause-adds : goal.returns-in_err-copy_bytes-clause-adds
returns-in_err-copy_bytes-clause-adds g c =
    let d = g.F.FileSystem.disk c.open_to_read.new.files in
    let mid = g.F.FileSystem.disk c.create.new.self in
    let new = g.F.FileSystem.disk c.copy_bytes.new.files in
    subst (λ (x : Disk). OnlyAdds x new) c.open_to_read.ensures.kept (adds_written d mid new c.in_ok-to.to.0 (adds_file d mid c.as_str-2.result.now c.in_ok-to.ensures.ok.1) (omega (arith, c.in_ok-to.ensures.ok.0)) c.copy_bytes.ensures.only)

pub returns-in_err-to-clause-adds : goal.returns-in_err-to-clause-adds
returns-in_err-to-clause-adds g c =
    let d = g.F.FileSystem.disk c.open_to_read.new.files in
    let mid = g.F.FileSystem.disk c.create.new.self in
    subst (λ (x : Disk). OnlyAdds x mid) c.open_to_read.ensures.kept (adds_either d mid c.as_str-2.result.now c.in_err-to.ensures.err)

pub returns-then-is_file-clause-adds : goal.returns-then-is_file-clause-adds
returns-then-is_file-clause-adds g c = adds_none (g.F.FileSystem.disk c.args.files.now) (g.F.FileSystem.disk c.open_to_read.new.files) c.open_to_read.ensures.kept

pub returns-in_err-path-clause-adds : goal.returns-in_err-path-clause-adds
returns-in_err-path-clause-adds g c = adds_none (g.F.FileSystem.disk c.args.files.now) (g.F.FileSystem.disk c.open_to_read.new.files) c.open_to_read.ensures.kept

pub returns-in_err-from-clause-adds : goal.returns-in_err-from-clause-adds
returns-in_err-from-clause-adds g c = adds_none (g.F.FileSystem.disk c.args.files.now) (g.F.FileSystem.disk c.open_to_read.new.files) c.open_to_read.ensures.kept
