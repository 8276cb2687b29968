-- What an opening finds after a crash is what the crash left of the pipe.
use Rattle.std.proofs.Common.{◌≡◌, ℕ, ◌<◌, true, List, [], ◌∷◌, ◌++◌, length, take, refl, sym, ap, subst, ◌∙◌, append_assoc, arith, length-append}
use Rattle.std.proofs.lemmas.List.{append-nil}
use Rattle.raft_log_records.specs.declared.file_id.LogQueue.{LogQueue}
use Rattle.raft_log_disk.specs.Disk.{Disk, IsNamed, are_named}
use Rattle.raft_log_disk.specs.Image.{Image}
use Rattle.raft_log_disk.specs.Text.{Text}
use Rattle.raft_log_pipe.specs.declared.file.File.{File}
use Rattle.raft_log_pipe.specs.Alone.{AreLast, Names, directories_of_pipe}
use Rattle.raft_log_pipe.specs.Blocks.{files_of}
use Rattle.raft_log_pipe.specs.Pipe.{ImageReads, Numbered, numbered}
use Rattle.raft_log_recovery.specs.declared.scan.FileKind.TheVariants.{Log}
use Rattle.raft_log_recovery.specs.declared.scan.FileName.{FileName}
use Rattle.raft_log_recovery.specs.Crashed.{CrashedPipesAreFound, Finds, IsCrashed}
use Rattle.raft_log_recovery.specs.Opening.{batches_of}
use Rattle.raft_log_recovery.specs.Queue.{AreOpen}
use Rattle.raft_log_recovery.specs.Scan.{AreFound}
use Rattle.std.proofs.Math.Seq.{take-nil}
use Rattle.raft_log_recovery.proofs.ImageLemmas.{image_batches}
use Rattle.raft_log_recovery.proofs.RunLemmas.{AreSame, none_stand, one_last, opened_last}

-- an image of files that follow one another
reads_both : (queue : LogQueue) (fs gs : List File) (image : Image) (bs cs : Numbered) → ImageReads queue fs image bs → ImageReads queue gs image cs → ImageReads queue (fs ++ gs) image (bs ++ cs)
reads_both queue [] gs image bs cs is reads = subst (λ (l : Numbered). ImageReads queue gs image (l ++ cs)) (sym is) reads
reads_both queue (f ∷ fs) gs image bs cs (ks, rest, is, first, others) reads =
    (ks, rest ++ cs, ap (λ (l : Numbered). l ++ cs) is ∙ append_assoc (numbered f.seq ks) rest cs, first, reads_both queue fs gs image rest cs others reads)

-- the files that are found are the last ones of before
pub same_found : (made : Disk) (next : ℕ) (queue : LogQueue) (directories : List Text) (names : List FileName) (f : File) (fs gs : List File) → are_named made.names next ≡ true → AreLast made.names directories queue (f ∷ fs)
    → AreFound made (Log queue) directories names → AreOpen made directories queue names gs → AreSame (f ∷ fs) gs
same_found made next queue directories [] f fs gs named last found opened = absurd (none_stand made queue directories found f.seq f.path_id f.handle.0 last.each.0)
same_found made next queue directories (name ∷ names) f fs gs named last found (g, rest, is, here, others) =
    subst (AreSame (f ∷ fs)) (sym is)
    (one_last made.names directories queue f g fs rest last (opened_last made next queue directories name names g rest named last.once found (g, rest, refl, here, others)))

found_batches : (d : Disk) (queue : LogQueue) (directories : List Text) (fs gs : List File) (image : Image) (e made : Disk) (names : List FileName) (bs : Numbered) → IsNamed d → 0 < length fs → AreLast d.names directories queue fs
    → IsCrashed d image e → Finds directories queue e made names gs → ImageReads queue fs image bs → batches_of queue made gs ≡ bs
found_batches d queue directories [] gs image e made names bs named some last crashed finds reads = absurd (omega (arith, some))
found_batches d queue directories (f ∷ fs) gs image e made names bs named some last crashed finds reads =
    let same : made.names ≡ d.names = ap (λ (y : Disk). y.names) finds.makes.only ∙ crashed.names in
    let last_there : AreLast made.names directories queue (f ∷ fs) = subst (λ (n : Names). AreLast n directories queue (f ∷ fs)) (sym same) last in
    let named_there : are_named made.names d.next ≡ true = ap (λ (n : Names). are_named n d.next) same ∙ named in
    image_batches queue (f ∷ fs) gs image made bs (same_found made d.next queue directories names f fs gs named_there last_there finds.found finds.opened)
    (λ n. ap (λ (y : Disk). (y.file n).bytes) finds.makes.only ∙ crashed.bytes n) reads

pub crashed_found : CrashedPipesAreFound
crashed_found p d synced unsynced named nearly leaves image e made names gs crashed finds =
    let front = leaves image crashed.is crashed.genuine in
    let none = nearly.none image crashed.is crashed.genuine in
    let bs : Numbered = synced ++ take front.0 unsynced in
    let whole : bs ++ ([] ++ take none.0 []) ≡ bs = ap (λ (l : Numbered). bs ++ l) (take-nil none.0) ∙ append-nil bs in (
      front.0,
      found_batches d p.queue (directories_of_pipe p) (files_of p ++ nearly.others) gs image e made names bs named
          (omega (arith, length-append (files_of p) nearly.others, length-append p.older.items (p.active ∷ []))) nearly.last crashed finds
          (subst (ImageReads p.queue (files_of p ++ nearly.others) image) whole (reads_both p.queue (files_of p) nearly.others image bs ([] ++ take none.0 []) front.1 none.1)),
    )
