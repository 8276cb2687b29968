use Rattle.std.proofs.Common.{◌≡◌, inl, List, length, map, string_bytes, refl, sym, ap, subst, ◌∙◌, arith}
use Rattle.std.specs.Prelude.{String}
use Rattle.std.specs.declared.alloc.Global.{Global}
use Rattle.std.proofs.lemmas.List.{length-map}
use Rattle.raft_log_disk.specs.Text.{Text}
use Rattle.raft_log_disk.proofs.CauseLemmas.{at_err}
use Rattle.raft_log_disk.proofs.RefusalLemmas.{no_more_same, no_more_then, still_free}
use Rattle.raft_log_files.specs.Settings.{settings_of}
use Rattle.raft_log_files.specs.declared.error.Error.{Error}
use Rattle.raft_log_files.specs.declared.error.Error.TheVariants.{Memory}
use Rattle.raft_log_pipe.proofs.CausedLemmas.{told_cause}
use Rattle.raft_log_pipe.proofs.EndLemmas.{not_ok}
use Rattle.raft_log_records.specs.declared.file_id.LogQueue.TheVariants.{Append, Rewrite}
use Rattle.raft_log_recovery.specs.declared.scan.FileKind.TheVariants.{Log}
use Rattle.raft_log_recovery.specs.declared.scan.FileName.{FileName}
use Rattle.raft_log_recovery.specs.Queue.{AreNumbered}
use Rattle.raft_log_recovery.specs.Scan.{AreFound, IsMadeUnless, IsScanFault, directories_of}
use Rattle.raft_log_recovery.proofs.DirectoryLemmas.{makes_none}
use Rattle.raft_log_recovery.proofs.EarlyLemmas.{an_err, drop_fault, fault_on, only_on}
use Rattle.raft_log_recovery.proofs.FoundLemmas.{found_numbered}
use Rattle.raft_log_recovery.proofs.builder.DualPipesBuilder.scan.Goals as goal

pub drop_stale-requires-after_bounds : goal.drop_stale-requires-after_bounds
drop_stale-requires-after_bounds g c κs within =
    let dirs : List (String Global) = c.in_ok-directories.directories.items in
    let found : List FileName = c.in_ok-append.append.items in
    subst (λ (l : List FileName). AreNumbered (length c.deref-5.result.now) l) (sym c.deref-6.ensures.value)
    (subst (λ (l : List (String Global)). AreNumbered (length l) found) (sym c.deref-5.ensures.value)
    (found_numbered (g.F.FileSystem.disk c.make_directories.new.files) (Log Append) (map string_bytes dirs) (length dirs) found (omega (arith, length-map dirs (string_bytes {Z = Global})))
    (subst (λ (l : List (String Global)). AreFound (g.F.FileSystem.disk c.make_directories.new.files) (Log Append) (map string_bytes l) found) c.deref-2.ensures.value c.in_ok-append.ensures.ok)))

pub drop_stale-requires-2-after_bounds : goal.drop_stale-requires-2-after_bounds
drop_stale-requires-2-after_bounds g c κs within =
    let dirs : List (String Global) = c.in_ok-directories.directories.items in
    let found : List FileName = c.in_ok-rewrite.rewrite.items in
    subst (λ (l : List FileName). AreNumbered (length c.deref-7.result.now) l) (sym c.deref-8.ensures.value)
    (subst (λ (l : List (String Global)). AreNumbered (length l) found) (sym c.deref-7.ensures.value)
    (found_numbered (g.F.FileSystem.disk c.make_directories.new.files) (Log Rewrite) (map string_bytes dirs) (length dirs) found (omega (arith, length-map dirs (string_bytes {Z = Global})))
    (subst (λ (l : List (String Global)). AreFound (g.F.FileSystem.disk c.make_directories.new.files) (Log Rewrite) (map string_bytes l) found) c.deref-3.ensures.value c.in_ok-rewrite.ensures.ok)))

pub returns-in_err-directories : goal.returns-in_err-directories
returns-in_err-directories g c =
    let ds : List Text = directories_of (settings_of c.args.self.now.config) in
    let d = g.F.FileSystem.disk c.args.files.now in
    let a = g.F.FileSystem.meter c.args.files.now in
    record {
      directories = not_ok _ _ c.from_residual.result c.from_residual.ensures.1;
      made = not_ok _ _ c.from_residual.result c.from_residual.ensures.1;
      append = not_ok _ _ c.from_residual.result c.from_residual.ensures.1;
      rewrite = not_ok _ _ c.from_residual.result c.from_residual.ensures.1;
      reserved = not_ok _ _ c.from_residual.result c.from_residual.ensures.1;
      config = refl;
      only = makes_none ds d d refl;
      file = λ any. an_err _ c.from_residual.result c.from_residual.ensures.1;
      err = told_cause c.from_residual.result Memory (λ (x : Error). IsScanFault ds d a a x) c.from_residual.ensures.1 (inl refl);
      later = no_more_same _ _;
      taken = λ none. told_cause c.from_residual.result Memory (λ (x : Error). IsMadeUnless x) c.from_residual.ensures.1 (inl refl);
      kept = at_err c.from_residual.result _ refl;
    }

pub returns-in_err-make_directories : goal.returns-in_err-make_directories
returns-in_err-make_directories g c =
    let ds : List Text = directories_of (settings_of c.args.self.now.config) in
    let d = g.F.FileSystem.disk c.args.files.now in
    let a = g.F.FileSystem.meter c.args.files.now in
    let e = g.F.FileSystem.disk c.make_directories.new.files in
    let b = g.F.FileSystem.meter c.make_directories.new.files in
    let es : List Text = map string_bytes c.deref.result.now in
    let same : es ≡ ds = ap (map string_bytes) c.deref.ensures.value ∙ c.in_ok-directories.ensures in
    record {
      directories = not_ok _ _ c.from_residual-in_err-make_directories.result c.from_residual-in_err-make_directories.ensures.1;
      made = not_ok _ _ c.from_residual-in_err-make_directories.result c.from_residual-in_err-make_directories.ensures.1;
      append = not_ok _ _ c.from_residual-in_err-make_directories.result c.from_residual-in_err-make_directories.ensures.1;
      rewrite = not_ok _ _ c.from_residual-in_err-make_directories.result c.from_residual-in_err-make_directories.ensures.1;
      reserved = not_ok _ _ c.from_residual-in_err-make_directories.result c.from_residual-in_err-make_directories.ensures.1;
      config = refl;
      only = only_on ds es d e e same c.make_directories.ensures.only refl;
      file = λ any. an_err _ c.from_residual-in_err-make_directories.result c.from_residual-in_err-make_directories.ensures.1;
      err = told_cause c.from_residual-in_err-make_directories.result c.in_err-make_directories.field-0.0 (λ (x : Error). IsScanFault ds d a b x) c.from_residual-in_err-make_directories.ensures.1 (fault_on ds es d a b c.in_err-make_directories.field-0.0 same c.in_err-make_directories.ensures.err);
      later = c.make_directories.ensures.later;
      taken = λ none. told_cause c.from_residual-in_err-make_directories.result c.in_err-make_directories.field-0.0 (λ (x : Error). IsMadeUnless x) c.from_residual-in_err-make_directories.ensures.1 (c.in_err-make_directories.ensures.taken none);
      kept = at_err c.from_residual-in_err-make_directories.result _ refl;
    }

pub returns-in_err-append : goal.returns-in_err-append
returns-in_err-append g c =
    let ds : List Text = directories_of (settings_of c.args.self.now.config) in
    let d = g.F.FileSystem.disk c.args.files.now in
    let a = g.F.FileSystem.meter c.args.files.now in
    let e = g.F.FileSystem.disk c.make_directories.new.files in
    let b = g.F.FileSystem.meter c.make_directories.new.files in
    let es : List Text = map string_bytes c.deref.result.now in
    let same : es ≡ ds = ap (map string_bytes) c.deref.ensures.value ∙ c.in_ok-directories.ensures in
    record {
      directories = not_ok _ _ c.from_residual-in_err-append.result c.from_residual-in_err-append.ensures.1;
      made = not_ok _ _ c.from_residual-in_err-append.result c.from_residual-in_err-append.ensures.1;
      append = not_ok _ _ c.from_residual-in_err-append.result c.from_residual-in_err-append.ensures.1;
      rewrite = not_ok _ _ c.from_residual-in_err-append.result c.from_residual-in_err-append.ensures.1;
      reserved = not_ok _ _ c.from_residual-in_err-append.result c.from_residual-in_err-append.ensures.1;
      config = refl;
      only = only_on ds es d e e same c.make_directories.ensures.only refl;
      file = λ any. an_err _ c.from_residual-in_err-append.result c.from_residual-in_err-append.ensures.1;
      err = told_cause c.from_residual-in_err-append.result c.in_err-append.field-0.0 (λ (x : Error). IsScanFault ds d a b x) c.from_residual-in_err-append.ensures.1 (inl c.in_err-append.ensures.err);
      later = c.make_directories.ensures.later;
      taken = λ none. told_cause c.from_residual-in_err-append.result c.in_err-append.field-0.0 (λ (x : Error). IsMadeUnless x) c.from_residual-in_err-append.ensures.1 (inl c.in_err-append.ensures.err);
      kept = at_err c.from_residual-in_err-append.result _ refl;
    }

pub returns-in_err-rewrite : goal.returns-in_err-rewrite
returns-in_err-rewrite g c =
    let ds : List Text = directories_of (settings_of c.args.self.now.config) in
    let d = g.F.FileSystem.disk c.args.files.now in
    let a = g.F.FileSystem.meter c.args.files.now in
    let e = g.F.FileSystem.disk c.make_directories.new.files in
    let b = g.F.FileSystem.meter c.make_directories.new.files in
    let es : List Text = map string_bytes c.deref.result.now in
    let same : es ≡ ds = ap (map string_bytes) c.deref.ensures.value ∙ c.in_ok-directories.ensures in
    record {
      directories = not_ok _ _ c.from_residual-in_err-rewrite.result c.from_residual-in_err-rewrite.ensures.1;
      made = not_ok _ _ c.from_residual-in_err-rewrite.result c.from_residual-in_err-rewrite.ensures.1;
      append = not_ok _ _ c.from_residual-in_err-rewrite.result c.from_residual-in_err-rewrite.ensures.1;
      rewrite = not_ok _ _ c.from_residual-in_err-rewrite.result c.from_residual-in_err-rewrite.ensures.1;
      reserved = not_ok _ _ c.from_residual-in_err-rewrite.result c.from_residual-in_err-rewrite.ensures.1;
      config = refl;
      only = only_on ds es d e e same c.make_directories.ensures.only refl;
      file = λ any. an_err _ c.from_residual-in_err-rewrite.result c.from_residual-in_err-rewrite.ensures.1;
      err = told_cause c.from_residual-in_err-rewrite.result c.in_err-rewrite.field-0.0 (λ (x : Error). IsScanFault ds d a b x) c.from_residual-in_err-rewrite.ensures.1 (inl c.in_err-rewrite.ensures.err);
      later = c.make_directories.ensures.later;
      taken = λ none. told_cause c.from_residual-in_err-rewrite.result c.in_err-rewrite.field-0.0 (λ (x : Error). IsMadeUnless x) c.from_residual-in_err-rewrite.ensures.1 (inl c.in_err-rewrite.ensures.err);
      kept = at_err c.from_residual-in_err-rewrite.result _ refl;
    }

pub returns-in_err-reserved : goal.returns-in_err-reserved
returns-in_err-reserved g c =
    let ds : List Text = directories_of (settings_of c.args.self.now.config) in
    let d = g.F.FileSystem.disk c.args.files.now in
    let a = g.F.FileSystem.meter c.args.files.now in
    let e = g.F.FileSystem.disk c.make_directories.new.files in
    let b = g.F.FileSystem.meter c.make_directories.new.files in
    let es : List Text = map string_bytes c.deref.result.now in
    let same : es ≡ ds = ap (map string_bytes) c.deref.ensures.value ∙ c.in_ok-directories.ensures in
    record {
      directories = not_ok _ _ c.from_residual-in_err-reserved.result c.from_residual-in_err-reserved.ensures.1;
      made = not_ok _ _ c.from_residual-in_err-reserved.result c.from_residual-in_err-reserved.ensures.1;
      append = not_ok _ _ c.from_residual-in_err-reserved.result c.from_residual-in_err-reserved.ensures.1;
      rewrite = not_ok _ _ c.from_residual-in_err-reserved.result c.from_residual-in_err-reserved.ensures.1;
      reserved = not_ok _ _ c.from_residual-in_err-reserved.result c.from_residual-in_err-reserved.ensures.1;
      config = refl;
      only = only_on ds es d e e same c.make_directories.ensures.only refl;
      file = λ any. an_err _ c.from_residual-in_err-reserved.result c.from_residual-in_err-reserved.ensures.1;
      err = told_cause c.from_residual-in_err-reserved.result c.in_err-reserved.field-0.0 (λ (x : Error). IsScanFault ds d a b x) c.from_residual-in_err-reserved.ensures.1 (inl c.in_err-reserved.ensures.err);
      later = c.make_directories.ensures.later;
      taken = λ none. told_cause c.from_residual-in_err-reserved.result c.in_err-reserved.field-0.0 (λ (x : Error). IsMadeUnless x) c.from_residual-in_err-reserved.ensures.1 (inl c.in_err-reserved.ensures.err);
      kept = at_err c.from_residual-in_err-reserved.result _ refl;
    }

pub returns-in_err-drop_stale : goal.returns-in_err-drop_stale
returns-in_err-drop_stale g c =
    let ds : List Text = directories_of (settings_of c.args.self.now.config) in
    let d = g.F.FileSystem.disk c.args.files.now in
    let a = g.F.FileSystem.meter c.args.files.now in
    let e = g.F.FileSystem.disk c.make_directories.new.files in
    let b = g.F.FileSystem.meter c.make_directories.new.files in
    let es : List Text = map string_bytes c.deref.result.now in
    let same : es ≡ ds = ap (map string_bytes) c.deref.ensures.value ∙ c.in_ok-directories.ensures in
    let y = g.F.FileSystem.disk c.drop_stale.new.files in
    let m = g.F.FileSystem.meter c.drop_stale.new.files in
    record {
      directories = not_ok _ _ c.from_residual-in_err-drop_stale.result c.from_residual-in_err-drop_stale.ensures.1;
      made = not_ok _ _ c.from_residual-in_err-drop_stale.result c.from_residual-in_err-drop_stale.ensures.1;
      append = not_ok _ _ c.from_residual-in_err-drop_stale.result c.from_residual-in_err-drop_stale.ensures.1;
      rewrite = not_ok _ _ c.from_residual-in_err-drop_stale.result c.from_residual-in_err-drop_stale.ensures.1;
      reserved = not_ok _ _ c.from_residual-in_err-drop_stale.result c.from_residual-in_err-drop_stale.ensures.1;
      config = refl;
      only = only_on ds es d e y same c.make_directories.ensures.only c.drop_stale.ensures.kept;
      file = λ any. an_err _ c.from_residual-in_err-drop_stale.result c.from_residual-in_err-drop_stale.ensures.1;
      err = told_cause c.from_residual-in_err-drop_stale.result c.in_err-drop_stale.field-0.0 (λ (x : Error). IsScanFault ds d a m x) c.from_residual-in_err-drop_stale.ensures.1 (drop_fault ds d a b m c.in_err-drop_stale.field-0.0 c.in_ok-make_directories.ensures.counted c.in_err-drop_stale.ensures.err);
      later = no_more_then c.make_directories.ensures.later c.drop_stale.ensures.later;
      taken = λ none. told_cause c.from_residual-in_err-drop_stale.result c.in_err-drop_stale.field-0.0 (λ (x : Error). IsMadeUnless x) c.from_residual-in_err-drop_stale.ensures.1 (inl (c.in_err-drop_stale.ensures.taken (still_free none c.make_directories.ensures.later)));
      kept = at_err c.from_residual-in_err-drop_stale.result _ refl;
    }

pub returns-in_err-drop_stale-2 : goal.returns-in_err-drop_stale-2
returns-in_err-drop_stale-2 g c =
    let ds : List Text = directories_of (settings_of c.args.self.now.config) in
    let d = g.F.FileSystem.disk c.args.files.now in
    let a = g.F.FileSystem.meter c.args.files.now in
    let e = g.F.FileSystem.disk c.make_directories.new.files in
    let b = g.F.FileSystem.meter c.make_directories.new.files in
    let es : List Text = map string_bytes c.deref.result.now in
    let same : es ≡ ds = ap (map string_bytes) c.deref.ensures.value ∙ c.in_ok-directories.ensures in
    let y = g.F.FileSystem.disk c.drop_stale-2.new.files in
    let m = g.F.FileSystem.meter c.drop_stale.new.files in
    let n = g.F.FileSystem.meter c.drop_stale-2.new.files in
    record {
      directories = not_ok _ _ c.from_residual-in_err-drop_stale-2.result c.from_residual-in_err-drop_stale-2.ensures.1;
      made = not_ok _ _ c.from_residual-in_err-drop_stale-2.result c.from_residual-in_err-drop_stale-2.ensures.1;
      append = not_ok _ _ c.from_residual-in_err-drop_stale-2.result c.from_residual-in_err-drop_stale-2.ensures.1;
      rewrite = not_ok _ _ c.from_residual-in_err-drop_stale-2.result c.from_residual-in_err-drop_stale-2.ensures.1;
      reserved = not_ok _ _ c.from_residual-in_err-drop_stale-2.result c.from_residual-in_err-drop_stale-2.ensures.1;
      config = refl;
      only = only_on ds es d e y same c.make_directories.ensures.only (c.drop_stale-2.ensures.kept ∙ c.drop_stale.ensures.kept);
      file = λ any. an_err _ c.from_residual-in_err-drop_stale-2.result c.from_residual-in_err-drop_stale-2.ensures.1;
      err = told_cause c.from_residual-in_err-drop_stale-2.result c.in_err-drop_stale-2.field-0.0 (λ (x : Error). IsScanFault ds d a n x) c.from_residual-in_err-drop_stale-2.ensures.1 (drop_fault ds d a m n c.in_err-drop_stale-2.field-0.0 (c.in_ok-drop_stale.ensures.counted ∙ c.in_ok-make_directories.ensures.counted) c.in_err-drop_stale-2.ensures.err);
      later = no_more_then c.make_directories.ensures.later (no_more_then c.drop_stale.ensures.later c.drop_stale-2.ensures.later);
      taken = λ none. told_cause c.from_residual-in_err-drop_stale-2.result c.in_err-drop_stale-2.field-0.0 (λ (x : Error). IsMadeUnless x) c.from_residual-in_err-drop_stale-2.ensures.1 (inl (c.in_err-drop_stale-2.ensures.taken (still_free (still_free none c.make_directories.ensures.later) c.drop_stale.ensures.later)));
      kept = at_err c.from_residual-in_err-drop_stale-2.result _ refl;
    }

pub returns-clause-config : goal.returns-clause-config
returns-clause-config g c = refl

pub returns-clause-err : goal.returns-clause-err
returns-clause-err g c = tt

pub returns-clause-later : goal.returns-clause-later
returns-clause-later g c = no_more_then c.make_directories.ensures.later (no_more_then c.drop_stale.ensures.later c.drop_stale-2.ensures.later)

pub returns-clause-taken : goal.returns-clause-taken
returns-clause-taken g c = λ none. tt

pub returns-clause-kept : goal.returns-clause-kept
returns-clause-kept g c = tt
