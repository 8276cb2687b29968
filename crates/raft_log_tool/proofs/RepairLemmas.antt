-- What a repair leaves of the files of a queue, and of both queues one after the other.
use Rattle.std.proofs.Common.{◌≡◌, ℕ, List, [], ◌∷◌, ◌++◌, length, Option, Some, None, Result, Ok, Err, refl, sym, ap, subst, ◌∙◌, arith}
use Rattle.std.specs.List.{AllByRecursion}
use Rattle.std.specs.Prelude.{IsErr, OnOk}
use Rattle.std.proofs.lemmas.Bool.{false≢true}
use Rattle.raft_log_records.specs.declared.file_id.LogQueue.{LogQueue}
use Rattle.raft_log_records.specs.declared.file_id.LogQueue.TheVariants.{Append, Rewrite}
use Rattle.raft_log_disk.specs.Text.{Text}
use Rattle.raft_log_disk.specs.Disk.{Disk, FileState, IsIn, IsNamed, fd_of}
use Rattle.raft_log_files.specs.declared.recovery.RecoveryMode.{RecoveryMode}
use Rattle.raft_log_pipe.specs.declared.file.File.{File}
use Rattle.raft_log_pipe.specs.Alone.{Names}
use Rattle.raft_log_pipe.specs.Pipe.{id_of}
use Rattle.raft_log_recovery.specs.declared.scan.FileKind.TheVariants.{Log}
use Rattle.raft_log_recovery.specs.declared.scan.FileName.{FileName}
use Rattle.raft_log_recovery.specs.declared.builder.DualPipesBuilder.{DualPipesBuilder}
use Rattle.raft_log_recovery.specs.Both.{IsFoundBy}
use Rattle.raft_log_recovery.specs.Queue.{AnyRefused, AreNumbered, AreOpen, IsFileOf, IsRecovered, OnlyChanges, directories_in, names_in, path_of}
use Rattle.raft_log_recovery.specs.Repair.{IsWhole, batches_in}
use Rattle.raft_log_recovery.specs.Scan.{AreFound, OnlyMakes}
use Rattle.raft_log_recovery.proofs.BesideLemmas.{HaveSame, bytes_same, file_same, found_same, have_beside, only_others, refused_same}
use Rattle.raft_log_recovery.proofs.BothLemmas.{apart_from}
use Rattle.raft_log_recovery.proofs.FoundLemmas.{found_numbered}
use Rattle.raft_log_recovery.proofs.QueueLemmas.{number_of, open_file_of}
use Rattle.raft_log_tool.specs.Repairs.{AreWholeIn, IsRepairedIn, KeepsOutside}

-- ---- results

-- what holds of a queue that was repaired, where nothing of it was refused
pub on_both : {E A R B : Type 0} (result : Result (Unit {0}) E) → OnOk result A → (R → IsErr result) → (A → (R → ⊥) → B) → OnOk result B
on_both (Ok u) a refused make = make a (λ r. false≢true (refused r))
on_both (Err e) a refused make = tt

pub by_queue : (P : LogQueue → Type 0) → P Append → P Rewrite → (queue : LogQueue) → P queue
by_queue P append rewrite Append = append
by_queue P append rewrite Rewrite = rewrite

-- ---- one queue

abbrev number_in : Option ℕ → ℕ
number_in None = 0
number_in (Some n) = n

-- recovered files are whole
pub recovered_whole : (directories : List Text) (queue : LogQueue) (old new : Disk) (names : List FileName) (files : List File) → AreOpen old directories queue names files
    → AllByRecursion (IsRecovered queue old new) files → AreWholeIn directories queue names old new
recovered_whole directories queue old new names files opened each name fd among of =
    let found = open_file_of (IsRecovered queue old new) old directories queue names files name opened each among in
    let file : File = found.0 in
    let here : file.handle.0 ≡ fd = ap number_in (sym found.1.there ∙ of) in
    subst (λ n. IsWhole (id_of queue name.seq) (new.file n) (batches_in (id_of queue name.seq) (old.file n).bytes)) here
    (subst (λ n. IsWhole (id_of queue n) (new.file file.handle.0) (batches_in (id_of queue n) (old.file file.handle.0).bytes)) found.1.seq found.2.whole)

-- ---- both queues

module _ (directories : List Text) (old mid : Disk) (rewrites appends : List FileName) (was : IsNamed old) (between : IsNamed mid) (rewrite_found : AreFound old (Log Rewrite) directories rewrites)
    (append_found : AreFound old (Log Append) directories appends) (first : OnlyChanges directories Rewrite rewrites old mid) where
  rewrite_numbers : AreNumbered (length directories) rewrites
  rewrite_numbers = found_numbered old (Log Rewrite) directories (length directories) rewrites (omega arith) rewrite_found

  append_numbers : AreNumbered (length directories) appends
  append_numbers = found_numbered old (Log Append) directories (length directories) appends (omega arith) append_found

  -- files of the append queue stay as the rewrite queue's change
  append_same : HaveSame Append old mid
  append_same = have_beside Rewrite Append old mid (apart_from Rewrite) was between (only_others directories Rewrite (length directories) rewrites old mid was rewrite_numbers first)

  pub append_still : AreFound mid (Log Append) directories appends
  append_still = found_same Append old mid append_same was between directories appends append_found

  pub append_refused : (mode : RecoveryMode) → AnyRefused mode directories Append appends old → AnyRefused mode directories Append appends mid
  append_refused mode = refused_same Append old mid append_same was between mode directories (length directories) appends append_numbers

  pub refused_before : (mode : RecoveryMode) → AnyRefused mode directories Append appends mid → AnyRefused mode directories Append appends old
  refused_before mode =
      refused_same Append mid old (have_back append_same) between was mode directories (length directories) appends append_numbers
    where
      have_back : HaveSame Append old mid → HaveSame Append mid old
      have_back same = record {
        there = same.back;
        back = same.there;
        same = λ path n fd says found. sym (same.same path n fd says (same.back path n fd says found));
      }

  pub append_whole : (new : Disk) → AreWholeIn directories Append appends mid new → AreWholeIn directories Append appends old new
  append_whole new whole name fd among of =
      let below = (number_of (length directories) appends append_numbers name among).0 in
      subst (λ (f : FileState). IsWhole (id_of Append name.seq) (new.file fd) (batches_in (id_of Append name.seq) f.bytes)) (bytes_same Append old mid append_same was between directories name fd below of)
      (whole name fd among (file_same Append old mid append_same was between directories name fd below of))

  pub rewrite_whole : (new : Disk) → IsNamed new → OnlyChanges directories Append appends mid new → AreWholeIn directories Rewrite rewrites old mid → AreWholeIn directories Rewrite rewrites old new
  rewrite_whole new now second whole name fd among of =
      let below = (number_of (length directories) rewrites rewrite_numbers name among).0 in
      let same : HaveSame Rewrite mid new = have_beside Append Rewrite mid new (apart_from Append) between now (only_others directories Append (length directories) appends mid new between append_numbers second) in
      let there : IsFileOf mid directories Rewrite name fd = subst (λ (l : Names). fd_of l (path_of directories Rewrite name) ≡ Some fd) (sym first.names_stay) of in
      subst (λ (f : FileState). IsWhole (id_of Rewrite name.seq) f (batches_in (id_of Rewrite name.seq) (old.file fd).bytes)) (sym (bytes_same Rewrite mid new same between now directories name fd below there)) (whole name fd among of)

-- ---- from before the directory was made

found_made : (directory : Text) (d made : Disk) (queue : LogQueue) (names : List FileName) → OnlyMakes (directory ∷ []) d made → AreFound made (Log queue) (directory ∷ []) names → AreFound d (Log queue) (directory ∷ []) names
found_made directory d made queue names makes here =
    let found : AreFound (record d { directories = d.directories ++ makes.made }) (Log queue) (directory ∷ []) names = subst (λ (x : Disk). AreFound x (Log queue) (directory ∷ []) names) makes.only here in
    record {
      all = found.all;
      sorted = found.sorted;
      start = found.start;
      in_directories = found.in_directories;
      same = found.same;
      rising = found.rising;
      last = found.last;
      rest = found.rest;
    }

module _ (directory : Text) (b : DualPipesBuilder) (at : directories_in b ≡ directory ∷ []) (d made : Disk) (makes : OnlyMakes (directory ∷ []) d made) where
  abbrev In : List Text
  In = directory ∷ []

  pub found_then : (queue : LogQueue) → IsFoundBy b queue made → AreFound d (Log queue) In (names_in b queue)
  found_then queue found = found_made directory d made queue (names_in b queue) makes (subst (λ (l : List Text). AreFound made (Log queue) l (names_in b queue)) at found)

  pub refused_then : (mode : RecoveryMode) (queue : LogQueue) → AnyRefused mode (directories_in b) queue (names_in b queue) made → AnyRefused mode In queue (names_in b queue) d
  refused_then mode queue any =
      subst (λ (x : Disk). AnyRefused mode In queue (names_in b queue) x) makes.only (subst (λ (l : List Text). AnyRefused mode l queue (names_in b queue) made) at any)

  pub repaired_then : (mode : RecoveryMode) (queue : LogQueue) (new : Disk) → IsFoundBy b queue made → (AnyRefused mode (directories_in b) queue (names_in b queue) made → ⊥)
      → AreWholeIn (directories_in b) queue (names_in b queue) made new → IsRepairedIn mode directory queue d new
  repaired_then mode queue new found none whole = record {
    names = names_in b queue;
    found = found_then queue found;
    passed = λ any.
        none (subst (λ (l : List Text). AnyRefused mode l queue (names_in b queue) made) (sym at) (subst (λ (x : Disk). AnyRefused mode In queue (names_in b queue) x) (sym makes.only) any));
    whole = subst (λ (x : Disk). AreWholeIn In queue (names_in b queue) x new) makes.only (subst (λ (l : List Text). AreWholeIn l queue (names_in b queue) made new) at whole);
  }

  pub kept_made : KeepsOutside directory d made
  kept_made = record { names = ap (λ (x : Disk). x.names) makes.only; files = λ fd outside. ap (λ (x : Disk). x.file fd) makes.only }

  pub kept_one : (queue : LogQueue) (new : Disk) → IsFoundBy b queue made → OnlyChanges (directories_in b) queue (names_in b queue) made new → KeepsOutside directory d new
  kept_one queue new found only = record {
    names = only.names_stay ∙ kept_made.names;
    files = λ fd outside.
        only.files fd (λ name among of.
        outside
        (queue, names_in b queue, name, found_then queue found, among, subst (λ (l : Names). fd_of l (path_of In queue name) ≡ Some fd) kept_made.names (subst (λ (l : List Text). IsFileOf made l queue name fd) at of)))
        ∙ kept_made.files fd outside;
  }

  pub kept_both : (one two : LogQueue) (mid new : Disk) → IsFoundBy b one made → IsFoundBy b two made → OnlyChanges (directories_in b) one (names_in b one) made mid → OnlyChanges (directories_in b) two (names_in b two) mid new
      → KeepsOutside directory d new
  kept_both one two mid new one_found two_found first second =
      let before = kept_one one mid one_found first in
      record {
        names = second.names_stay ∙ before.names;
        files = λ fd outside.
            second.files fd (λ name among of.
            outside (two, names_in b two, name, found_then two two_found, among, subst (λ (l : Names). fd_of l (path_of In two name) ≡ Some fd) before.names (subst (λ (l : List Text). IsFileOf mid l two name fd) at of)))
            ∙ before.files fd outside;
      }
