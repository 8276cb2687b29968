use Rattle.std.proofs.Common.{◌≡◌, List, length, map, string_bytes, arith, refl, sym, ap, subst, ◌∙◌}
use Rattle.std.specs.Prelude.{String}
use Rattle.std.specs.declared.alloc.Global.{Global}
use Rattle.std.proofs.lemmas.List.{length-map}
use Rattle.raft_log_disk.specs.Disk.{IsIn, listed}
use Rattle.raft_log_pipe.proofs.AloneLemmas.{in_first}
use Rattle.raft_log_disk.specs.Text.{Text}
use Rattle.raft_log_files.specs.Settings.{settings_of}
use Rattle.raft_log_records.specs.declared.file_id.LogQueue.TheVariants.{Append, Rewrite}
use Rattle.raft_log_recovery.specs.declared.scan.FileKind.TheVariants.{Log}
use Rattle.raft_log_recovery.specs.Scan.{AreFound, directories_of}
use Rattle.raft_log_recovery.proofs.CausedLemmas.{found_missing}
use Rattle.raft_log_recovery.proofs.FoundLemmas.{found_numbered}
use Rattle.raft_log_tools.specs.Forking.{AreCopied}
use Rattle.raft_log_tools.proofs.ForkLemmas.{adds_none, adds_then, copied_since, missing_before, none_listed}
use Rattle.raft_log_tools.proofs.forking.fork.Goals as goal

pub copy_both-requires-clause-append : goal.copy_both-requires-clause-append
copy_both-requires-clause-append g c κs within =
    let d = g.F.FileSystem.disk c.args.files.now in
    let dirs : List (String Global) = c.deref-4.result.now in
    let same : c.deref.result.now ≡ dirs = c.deref.ensures.value ∙ sym c.deref-4.ensures.value in
    let found : AreFound d (Log Append) (map string_bytes dirs) c.deref-5.result.now =
    subst (AreFound d (Log Append) (map string_bytes dirs)) (sym c.deref-5.ensures.value) (subst (λ (l : List (String Global)). AreFound d (Log Append) (map string_bytes l) c.in_ok-append.append.items) same c.in_ok-append.ensures.ok) in
    found_numbered d (Log Append) (map string_bytes dirs) (length dirs) c.deref-5.result.now (omega (arith, length-map dirs (string_bytes {Z = Global}))) found

pub copy_both-requires-clause-rewrite : goal.copy_both-requires-clause-rewrite
copy_both-requires-clause-rewrite g c κs within =
    let d = g.F.FileSystem.disk c.args.files.now in
    let dirs : List (String Global) = c.deref-4.result.now in
    let same : c.deref-2.result.now ≡ dirs = c.deref-2.ensures.value ∙ sym c.deref-4.ensures.value in
    let found : AreFound d (Log Rewrite) (map string_bytes dirs) c.deref-6.result.now =
    subst (AreFound d (Log Rewrite) (map string_bytes dirs)) (sym c.deref-6.ensures.value) (subst (λ (l : List (String Global)). AreFound d (Log Rewrite) (map string_bytes l) c.in_ok-rewrite.rewrite.items) same c.in_ok-rewrite.ensures.ok) in
    found_numbered d (Log Rewrite) (map string_bytes dirs) (length dirs) c.deref-6.result.now (omega (arith, length-map dirs (string_bytes {Z = Global}))) found

pub copy_both-requires-clause-append_there : goal.copy_both-requires-clause-append_there
copy_both-requires-clause-append_there g c κs within = λ missing.
    let d = g.F.FileSystem.disk c.args.files.now in
    let dirs : List (String Global) = c.deref-4.result.now in
    let same : c.deref.result.now ≡ dirs = c.deref.ensures.value ∙ sym c.deref-4.ensures.value in
    let found : AreFound d (Log Append) (map string_bytes dirs) c.deref-5.result.now =
    subst (AreFound d (Log Append) (map string_bytes dirs)) (sym c.deref-5.ensures.value) (subst (λ (l : List (String Global)). AreFound d (Log Append) (map string_bytes l) c.in_ok-append.append.items) same c.in_ok-append.ensures.ok) in
    found_missing d Append (map string_bytes dirs) c.deref-5.result.now found (missing_before d (g.F.FileSystem.disk c.make_with_parents.new.files) (map string_bytes dirs) Append c.deref-5.result.now c.make_with_parents.ensures.adds missing)

pub copy_both-requires-clause-rewrite_there : goal.copy_both-requires-clause-rewrite_there
copy_both-requires-clause-rewrite_there g c κs within = λ missing.
    let d = g.F.FileSystem.disk c.args.files.now in
    let dirs : List (String Global) = c.deref-4.result.now in
    let same : c.deref-2.result.now ≡ dirs = c.deref-2.ensures.value ∙ sym c.deref-4.ensures.value in
    let found : AreFound d (Log Rewrite) (map string_bytes dirs) c.deref-6.result.now =
    subst (AreFound d (Log Rewrite) (map string_bytes dirs)) (sym c.deref-6.ensures.value) (subst (λ (l : List (String Global)). AreFound d (Log Rewrite) (map string_bytes l) c.in_ok-rewrite.rewrite.items) same c.in_ok-rewrite.ensures.ok) in
    found_missing d Rewrite (map string_bytes dirs) c.deref-6.result.now found (missing_before d (g.F.FileSystem.disk c.make_with_parents.new.files) (map string_bytes dirs) Rewrite c.deref-6.result.now c.make_with_parents.ensures.adds missing)

pub returns-clause-ok : goal.returns-clause-ok
returns-clause-ok g c =
    let met = g.met.F.FileSystem g.world.𝓛 g.world.𝓜 g.world.𝓡 ((λ s x. x), (λ x. x), (λ x. x), λ x. x) in
    let d = g.F.FileSystem.disk c.args.files.now in
    let mid = g.F.FileSystem.disk c.make_with_parents.new.files in
    let new = g.F.FileSystem.disk c.copy_both.new.files in
    let target = c.args.target.now in
    let dirs : List (String Global) = c.deref-4.result.now in
    let all : map string_bytes dirs ≡ directories_of (settings_of c.args.source.now) = ap (map (string_bytes {Z = Global})) c.deref-4.ensures.value ∙ c.in_ok-directories.ensures in
    let first : c.deref.result.now ≡ dirs = c.deref.ensures.value ∙ sym c.deref-4.ensures.value in
    let second : c.deref-2.result.now ≡ dirs = c.deref-2.ensures.value ∙ sym c.deref-4.ensures.value in
    let append : AreFound d (Log Append) (map string_bytes dirs) c.deref-5.result.now =
    subst (AreFound d (Log Append) (map string_bytes dirs)) (sym c.deref-5.ensures.value) (subst (λ (l : List (String Global)). AreFound d (Log Append) (map string_bytes l) c.in_ok-append.append.items) first c.in_ok-append.ensures.ok) in
    let rewrite : AreFound d (Log Rewrite) (map string_bytes dirs) c.deref-6.result.now =
    subst (AreFound d (Log Rewrite) (map string_bytes dirs)) (sym c.deref-6.ensures.value) (subst (λ (l : List (String Global)). AreFound d (Log Rewrite) (map string_bytes l) c.in_ok-rewrite.rewrite.items) second c.in_ok-rewrite.ensures.ok) in
    record {
      append = c.deref-5.result.now;
      rewrite = c.deref-6.result.now;
      append_found = subst (λ (l : List Text). AreFound d (Log Append) l c.deref-5.result.now) all append;
      rewrite_found = subst (λ (l : List Text). AreFound d (Log Rewrite) l c.deref-6.result.now) all rewrite;
      append_copied = subst (λ (l : List Text). AreCopied d new l Append target c.deref-5.result.now) all (λ name among.
          copied_since d mid new (map string_bytes dirs) Append name target (met.is_named c.args.files.now) c.make_with_parents.ensures.adds
          (λ none. found_missing d Append (map string_bytes dirs) c.deref-5.result.now append (name, among, none)) (c.in_ok-copied.ensures.append name among));
      rewrite_copied = subst (λ (l : List Text). AreCopied d new l Rewrite target c.deref-6.result.now) all (λ name among.
          copied_since d mid new (map string_bytes dirs) Rewrite name target (met.is_named c.args.files.now) c.make_with_parents.ensures.adds
          (λ none. found_missing d Rewrite (map string_bytes dirs) c.deref-6.result.now rewrite (name, among, none)) (c.in_ok-copied.ensures.rewrite name among));
      paths_are = c.in_ok-copied.ensures.paths;
      made = subst (IsIn target) (sym c.copy_both.ensures.adds.directories) (in_first target mid.directories c.copy_both.ensures.adds.made c.in_ok-make_with_parents.ensures.made);
    }

pub returns-clause-adds : goal.returns-clause-adds
returns-clause-adds g c = adds_then (g.F.FileSystem.disk c.args.files.now) (g.F.FileSystem.disk c.make_with_parents.new.files) (g.F.FileSystem.disk c.copy_both.new.files) c.make_with_parents.ensures.adds c.copy_both.ensures.adds

pub returns-in_err-copied-clause-adds : goal.returns-in_err-copied-clause-adds
returns-in_err-copied-clause-adds g c = adds_then (g.F.FileSystem.disk c.args.files.now) (g.F.FileSystem.disk c.make_with_parents.new.files) (g.F.FileSystem.disk c.copy_both.new.files) c.make_with_parents.ensures.adds c.copy_both.ensures.adds

pub returns-in_err-check_settings-clause-adds : goal.returns-in_err-check_settings-clause-adds
returns-in_err-check_settings-clause-adds g c = adds_none (g.F.FileSystem.disk c.args.files.now) (g.F.FileSystem.disk c.args.files.now) refl

pub returns-in_err-directories-clause-adds : goal.returns-in_err-directories-clause-adds
returns-in_err-directories-clause-adds g c = adds_none (g.F.FileSystem.disk c.args.files.now) (g.F.FileSystem.disk c.args.files.now) refl

pub returns-in_err-append-clause-adds : goal.returns-in_err-append-clause-adds
returns-in_err-append-clause-adds g c = adds_none (g.F.FileSystem.disk c.args.files.now) (g.F.FileSystem.disk c.args.files.now) refl

pub returns-in_err-rewrite-clause-adds : goal.returns-in_err-rewrite-clause-adds
returns-in_err-rewrite-clause-adds g c = adds_none (g.F.FileSystem.disk c.args.files.now) (g.F.FileSystem.disk c.args.files.now) refl

pub returns-in_err-names-clause-adds : goal.returns-in_err-names-clause-adds
returns-in_err-names-clause-adds g c = adds_none (g.F.FileSystem.disk c.args.files.now) (g.F.FileSystem.disk c.args.files.now) refl

pub returns-in_err-check_target-clause-adds : goal.returns-in_err-check_target-clause-adds
returns-in_err-check_target-clause-adds g c = adds_none (g.F.FileSystem.disk c.args.files.now) (g.F.FileSystem.disk c.args.files.now) refl

pub returns-clause-empty : goal.returns-clause-empty
returns-clause-empty g c =
    none_listed (listed (g.F.FileSystem.disk c.args.files.now).names c.args.target.now) (map string_bytes c.in_ok-names.names.items) c.in_ok-names.ensures.names
    (ap (λ (l : List (String Global)). length (map (string_bytes {Z = Global}) l)) (sym c.deref-3.ensures.value ∙ c.in_ok-check_target.ensures))
