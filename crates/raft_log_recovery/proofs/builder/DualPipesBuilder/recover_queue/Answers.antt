use Rattle.std.proofs.Common.{◌≡◌, List, Err, length, map, string_bytes, sym, subst, arith}
use Rattle.std.specs.Prelude.{IsErr, OnErr, String}
use Rattle.std.specs.declared.alloc.Global.{Global}
use Rattle.std.proofs.lemmas.List.{length-map}
use Rattle.raft_log_recovery.specs.declared.scan.FileKind.TheVariants.{Log}
use Rattle.raft_log_recovery.specs.declared.scan.FileName.{FileName}
use Rattle.raft_log_recovery.specs.Queue.{AnyRefused, AreLeft, AreNumbered, AreReadAlike, KeepsRefused, directories_in, names_in}
use Rattle.raft_log_recovery.proofs.FoundLemmas.{found_numbered}
use Rattle.raft_log_files.specs.declared.error.CorruptionFault.{CorruptionFault}
use Rattle.raft_log_files.specs.declared.error.Error.TheVariants.{Corruption}
use Rattle.std.proofs.Common.{◌⊎◌}
use Rattle.std.specs.Prelude.{IfErr}
use Rattle.raft_log_files.specs.declared.error.Error.{Error}
use Rattle.raft_log_recovery.specs.Caused.{AnyUnreadable, AreFilesRefused, IsMissing, IsRefusal}
use Rattle.raft_log_recovery.proofs.CausedLemmas.{found_missing, none_unreadable, recovery_more, taken_of}
use Rattle.raft_log_recovery.proofs.builder.DualPipesBuilder.recover_queue.Goals as goal

pub recover_each-requires-after_bounds : goal.recover_each-requires-after_bounds
recover_each-requires-after_bounds g c κs within =
    let queue = c.args.config.now.queue in
    let dirs : List (String Global) = c.args.self.now.directories.items in
    subst (λ (l : List FileName). AreNumbered (length c.deref.result.now) l) (sym c.names_of-names.ensures)
    (subst (λ (l : List (String Global)). AreNumbered (length l) (names_in c.args.self.now queue)) (sym c.deref.ensures.value)
    (found_numbered (g.F.FileSystem.disk c.args.files.now) (Log queue) (directories_in c.args.self.now) (length dirs) (names_in c.args.self.now queue) (omega (arith, length-map dirs (string_bytes {Z = Global}))) c.requires))

pub returns-clause-err : goal.returns-clause-err
returns-clause-err g c =
    let queue = c.args.config.now.queue in
    let old = g.F.FileSystem.disk c.args.files.now in
    let new = g.F.FileSystem.disk c.recover_each.new.files in
    subst (λ (l : List FileName). OnErr c.recover_each.result (AreLeft (directories_in c.args.self.now) queue l old new)) c.names_of-names.ensures
    (subst (λ (l : List (String Global)). OnErr c.recover_each.result (AreLeft (map string_bytes l) queue c.names_of-names.result.now old new)) c.deref.ensures.value c.recover_each.ensures.err)

pub returns-clause-refused : goal.returns-clause-refused
returns-clause-refused g c =
    let queue = c.args.config.now.queue in
    let mode = c.args.config.now.mode in
    let old = g.F.FileSystem.disk c.args.files.now in
    subst (λ (l : List FileName). AnyRefused mode (directories_in c.args.self.now) queue l old → IsErr c.recover_each.result) c.names_of-names.ensures
    (subst (λ (l : List (String Global)). AnyRefused mode (map string_bytes l) queue c.names_of-names.result.now old → IsErr c.recover_each.result) c.deref.ensures.value c.recover_each.ensures.refused)

pub returns-clause-kept : goal.returns-clause-kept
returns-clause-kept g c =
    let queue = c.args.config.now.queue in
    let mode = c.args.config.now.mode in
    let old = g.F.FileSystem.disk c.args.files.now in
    let new = g.F.FileSystem.disk c.recover_each.new.files in
    subst (λ (l : List FileName). OnErr c.recover_each.result (KeepsRefused mode (directories_in c.args.self.now) queue l old new)) c.names_of-names.ensures
    (subst (λ (l : List (String Global)). OnErr c.recover_each.result (KeepsRefused mode (map string_bytes l) queue c.names_of-names.result.now old new)) c.deref.ensures.value c.recover_each.ensures.kept)

pub returns-clause-reads : goal.returns-clause-reads
returns-clause-reads g c =
    let queue = c.args.config.now.queue in
    let old = g.F.FileSystem.disk c.args.files.now in
    let new = g.F.FileSystem.disk c.recover_each.new.files in
    subst (λ (l : List FileName). AreReadAlike (directories_in c.args.self.now) queue l old new) c.names_of-names.ensures
    (subst (λ (l : List (String Global)). AreReadAlike (map string_bytes l) queue c.names_of-names.result.now old new) c.deref.ensures.value c.recover_each.ensures.reads)

pub returns-clause-corrupt : goal.returns-clause-corrupt
returns-clause-corrupt g c =
    let queue = c.args.config.now.queue in
    let mode = c.args.config.now.mode in
    let old = g.F.FileSystem.disk c.args.files.now in
    subst (λ (l : List FileName). (f : CorruptionFault) → c.recover_each.result ≡ Err (Corruption f) → AnyRefused mode (directories_in c.args.self.now) queue l old) c.names_of-names.ensures
    (subst (λ (l : List (String Global)). (f : CorruptionFault) → c.recover_each.result ≡ Err (Corruption f) → AnyRefused mode (map string_bytes l) queue c.names_of-names.result.now old) c.deref.ensures.value c.recover_each.ensures.corrupt)

pub returns-clause-cause : goal.returns-clause-cause
returns-clause-cause g c =
    let queue = c.args.config.now.queue in
    let old = g.F.FileSystem.disk c.args.files.now in
    let directories = directories_in c.args.self.now in
    let names : List FileName = names_in c.args.self.now queue in
    let free : Type 0 = g.F.FileSystem.is_bounded c.args.files.now in
    let a = g.F.FileSystem.meter c.args.files.now in
    let b = g.F.FileSystem.meter c.recover_each.new.files in
    let refused : Type 0 = IsRefusal free ⊥ a b ⊎ AnyUnreadable directories queue names a in
    recovery_more refused (IsMissing old directories queue names) refused ⊥ c.recover_each.result (λ x. x) (found_missing old queue directories names c.requires)
    (subst (λ (l : List FileName). IfErr c.recover_each.result (λ (e : Error). AreFilesRefused (IsMissing old directories queue l) ⊥ directories queue l free a b e)) c.names_of-names.ensures
    (subst (λ (l : List (String Global)). IfErr c.recover_each.result (λ (e : Error). AreFilesRefused (IsMissing old (map string_bytes l) queue c.names_of-names.result.now) ⊥ (map string_bytes l) queue c.names_of-names.result.now free a b e)) c.deref.ensures.value
    c.recover_each.ensures.cause))

pub returns-clause-taken : goal.returns-clause-taken
returns-clause-taken g c = λ none.
    let queue = c.args.config.now.queue in
    let directories = directories_in c.args.self.now in
    let names : List FileName = names_in c.args.self.now queue in
    let free : Type 0 = g.F.FileSystem.is_bounded c.args.files.now in
    let a = g.F.FileSystem.meter c.args.files.now in
    taken_of free ⊥ ⊥ (AnyUnreadable directories queue names a) a (g.F.FileSystem.meter c.recover_each.new.files) c.recover_each.result none (none_unreadable free directories queue names a none) (returns-clause-cause g c)
