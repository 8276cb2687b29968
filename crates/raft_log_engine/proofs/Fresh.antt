-- Where no file has a name an opening finds nothing.
use Rattle.std.proofs.Common.{◌≡◌, ℕ, ◌+◌, List, [], ◌∷◌, ◌++◌, length, drop, sym, ap, subst, ◌∙◌}
use Rattle.std.specs.List.Sorted.{IsPermutation}
use Rattle.std.proofs.lemmas.List.{nil_from_length}
use Rattle.std.proofs.lemmas.List.Sorted.{length_permutation}
use Rattle.std.proofs.Math.Seq.{drop-nil}
use Rattle.raft_log_records.specs.declared.file_id.LogQueue.{LogQueue}
use Rattle.raft_log_records.specs.declared.file_id.LogQueue.TheVariants.{Append, Rewrite}
use Rattle.raft_log_disk.specs.Disk.{Disk, listed}
use Rattle.raft_log_disk.specs.Text.{Text}
use Rattle.raft_log_files.specs.declared.recovery.RecoveryMode.{RecoveryMode}
use Rattle.raft_log_memtables.specs.Content.{Content, nothing}
use Rattle.raft_log_pipe.specs.Alone.{Names}
use Rattle.raft_log_pipe.specs.Pipe.{Numbered}
use Rattle.raft_log_recovery.specs.declared.scan.FileKind.{FileKind}
use Rattle.raft_log_recovery.specs.declared.scan.FileKind.TheVariants.{Log}
use Rattle.raft_log_recovery.specs.declared.scan.FileName.{FileName}
use Rattle.raft_log_recovery.specs.Again.{FindsSound}
use Rattle.raft_log_recovery.specs.Opening.{batches_of}
use Rattle.raft_log_recovery.specs.Queue.{AreOpen}
use Rattle.raft_log_recovery.specs.Scan.{AreFound, AreInDirectories, files_named}
use Rattle.raft_log_blocks.specs.Held.{content_of_batches}
use Rattle.raft_log_engine.specs.Opening.{IsFoundContent}

none_permuted : {X : Type 0} (xs ys : List X) → xs ≡ [] → IsPermutation xs ys → ys ≡ []
none_permuted xs ys none same = nil_from_length ys (length_permutation xs ys same ∙ ap length none)

none_in : (d : Disk) (kind : FileKind) (place : ℕ) (directories : List Text) (all : List FileName) → d.names ≡ [] → AreInDirectories d kind place directories all → all ≡ []
none_in d kind place [] all unnamed none = none
none_in d kind place (directory ∷ directories) all unnamed (names, others, same, is, rest) =
    let none = none_permuted (listed d.names directory) names (ap (λ (n : Names). listed n directory) unnamed) same in
    is ∙ ap (λ (l : List Text). files_named kind place l ++ others) none ∙ none_in d kind (place + 1) directories others unnamed rest

none_found : (d : Disk) (kind : FileKind) (directories : List Text) (names : List FileName) → d.names ≡ [] → AreFound d kind directories names → names ≡ []
none_found d kind directories names unnamed found =
    let none = none_permuted found.all found.sorted (none_in d kind 0 directories found.all unnamed found.in_directories) found.same in
    found.rest ∙ ap (drop found.start) none ∙ drop-nil found.start

none_read : (mode : RecoveryMode) (directories : List Text) (queue : LogQueue) (d : Disk) (bs : Numbered) → d.names ≡ [] → FindsSound mode directories queue d bs → bs ≡ []
none_read mode directories queue d bs unnamed s =
    let names = none_found s.made (Log queue) directories s.names (ap (λ (y : Disk). y.names) s.finds.makes.only ∙ unnamed) s.finds.found in
    let files : s.files ≡ [] = subst (λ (l : List FileName). AreOpen s.made directories queue l s.files) names s.finds.opened in
    sym s.reads ∙ ap (batches_of queue s.made) files

pub found_nothing : (directories : List Text) (mode : RecoveryMode) (d : Disk) (content : Content (List ℕ)) → d.names ≡ [] → IsFoundContent mode directories d content → content ≡ nothing
found_nothing directories mode d content unnamed f =
    let rewrites = none_read mode directories Rewrite d f.rewrites unnamed f.rewrite in
    let appends = none_read mode directories Append d f.appends unnamed f.append in
    f.is ∙ (λ i. content_of_batches (rewrites i ++ appends i))
