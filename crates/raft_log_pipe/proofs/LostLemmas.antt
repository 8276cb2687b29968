-- Files of a pipe that aren't where their names say.
use Rattle.std.proofs.Common.{◌≡◌, ◌⊎◌, inl, inr, ⊎_elim, ℕ, ◌+◌, ◌<◌, ◌≤◌, List, [], ◌∷◌, ◌++◌, length, get_or, Option, Some, None, refl, sym, ap, subst, ◌∙◌, arith}
use Rattle.std.specs.Prelude.{Result, String, Vec}
use Rattle.std.specs.String.{string_bytes}
use Rattle.std.specs.declared.alloc.Global.{Global}
use Rattle.std.proofs.lemmas.List.{get_or_default, length-map}
use Rattle.raft_log_records.specs.declared.file_id.FileId.{FileId}
use Rattle.raft_log_disk.specs.Text.{Text}
use Rattle.raft_log_disk.specs.Disk.{Disk, IsIn, fd_of}
use Rattle.raft_log_files.specs.FileName.{IsFileSeq, log_file_name}
use Rattle.raft_log_pipe.specs.declared.file.File.{File}
use Rattle.raft_log_pipe.specs.declared.pipe.SinglePipe.{SinglePipe}
use Rattle.raft_log_pipe.specs.Alone.{IsAlone, StandsAt, directories_of_pipe}
use Rattle.raft_log_files.specs.declared.error.Error.{Error}
use Rattle.raft_log_pipe.specs.Blocks.{IsOutOfSpan, files_of}
use Rattle.raft_log_pipe.specs.Pipe.{IsPipe, first_of, id_of}
use Rattle.raft_log_pipe.specs.Purging.{IsGone, KeepsFrom}
use Rattle.raft_log_pipe.specs.Taken.{HasLost, IsOkOrMemory, IsPurgeTaken}
use Rattle.raft_log_pipe.proofs.AloneLemmas.{found_in, in_first, mapped_at, never_some, with_older}
use Rattle.raft_log_pipe.proofs.BlockLemmas.{older_below}
use Rattle.raft_log_pipe.proofs.NextLemmas.{path_says, some_is}
use Rattle.raft_log_pipe.proofs.PipeLemmas.{in_all}
use Rattle.raft_log_pipe.proofs.PurgeLemmas.{first_is, first_number, first_placed, is_found, removed_first, said_number}
use Rattle.raft_log_pipe.proofs.TakenLemmas.{taken_more}

-- the path of a file in its directory
pub path_gone : (p : SinglePipe) (f : File) (dir : String Global) (d : Disk) (path : Text) → f.path_id < length p.paths.items → dir ≡ get_or p.paths.items f.path_id dir
    → path ≡ string_bytes dir ++ 47 ∷ log_file_name (id_of p.queue f.seq) → fd_of d.names path ≡ None → IsGone p f d
path_gone p f dir d path within at is none other there =
    ap (fd_of d.names) (ap (λ (s : String Global). string_bytes s ++ 47 ∷ log_file_name (id_of p.queue f.seq)) (there ∙ get_or_default p.paths.items f.path_id other dir within ∙ sym at) ∙ sym is) ∙ none

-- the first file, which no call finds
pub first_lost : (p : SinglePipe) (f : File) (dir : String Global) (d : Disk) (path : Text) → IsPipe p d → 0 < length p.older.items → f ≡ get_or p.older.items 0 f → dir ≡ get_or p.paths.items f.path_id dir
    → path ≡ string_bytes dir ++ 47 ∷ log_file_name (id_of p.queue f.seq) → fd_of d.names path ≡ None → HasLost p d (first_of p + 1)
first_lost p f dir d path pipe some at in_dir is none = (
  f,
  subst (IsIn f) (sym (removed_first p.older.items f some at)) (inl refl),
  omega (arith, (first_number p d f pipe some at).1),
  path_gone p f dir d path (first_placed p d f pipe some at) in_dir is none,
)

-- a file that is lost behind a purge of the first one was lost before
pub lost_before : (p : SinglePipe) (older : Vec File Global) (f : File) (d e : Disk) (n seq : ℕ) → IsPipe p d → p.older.items ≡ f ∷ older.items → KeepsFrom p.queue n d e → n ≤ first_of p + 1 → HasLost (with_older p older) e seq → HasLost p d seq
lost_before p older f d e n seq pipe is keeps le (g, there, lt, gone) = (g, before, lt, was)
  where
    before : IsIn g p.older.items
    before = subst (IsIn g) (sym is) (inr there)

    number : IsFileSeq g.seq
    number = omega (arith, (older_below p.older.items p.active.seq g pipe.numbers before).0, said_number pipe.named.0 (id_of p.queue p.active.seq) pipe.named.2)

    late : n ≤ g.seq
    late = let first = first_is p f older.items d pipe is in omega (arith, le, first.0, first.1.0, (older_below older.items p.active.seq g first.1.1 there).1)

    was : IsGone p g d
    was dir at =
        let name : Text = log_file_name (id_of p.queue g.seq) in
        let path : Text = string_bytes dir ++ 47 ∷ name in
        never_some (fd_of d.names path) (λ fd found. ⊎_elim
        (λ left. is_found e.names path fd left (gone dir at))
        (λ (m, below, says). omega (arith, below, late, ap (λ (x : FileId). x.seq) (some_is (id_of p.queue g.seq) (id_of p.queue m) (sym (path_says (string_bytes dir) name path (id_of p.queue g.seq) number refl refl) ∙ says))))
        (keeps.names path fd (found_in d.names path fd found)))

-- of more files more may be lost
pub lost_more : (p : SinglePipe) (d : Disk) (a b : ℕ) → a ≤ b → HasLost p d a → HasLost p d b
lost_more p d a b le (f, there, lt, gone) = (f, there, omega (arith, lt, le), gone)

pub dir_at : (dirs : List (String Global)) (place : ℕ) → place < length dirs → (dir : String Global) × (dir ≡ get_or dirs place dir)
dir_at [] place within = absurd (omega (arith, within))
dir_at (first ∷ dirs) place within = (get_or (first ∷ dirs) place first, get_or_default (first ∷ dirs) place first (get_or (first ∷ dirs) place first) within)

-- none is lost where the pipe's files are the last ones of its queue
pub alone_has : (p : SinglePipe) (d : Disk) (seq : ℕ) → IsAlone p d → HasLost p d seq → ⊥
alone_has p d seq alone (f, there, lt, gone) =
    let stands : StandsAt d.names (directories_of_pipe p) p.queue f.seq f.path_id f.handle.0 = in_all _ (files_of p) f alone.each (in_first f p.older.items (p.active ∷ []) there) in
    let within : f.path_id < length p.paths.items = omega (arith, stands.1, length-map p.paths.items string_bytes) in
    let dir = dir_at p.paths.items f.path_id within in
    let found = ap (λ (t : Text). fd_of d.names (t ++ 47 ∷ log_file_name (id_of p.queue f.seq))) (mapped_at p.paths.items f.path_id dir.0 within dir.1) in
    some_none (fd_of d.names (string_bytes dir.0 ++ 47 ∷ log_file_name (id_of p.queue f.seq))) f.handle.0 (sym found ∙ stands.2) (gone dir.0 dir.1)
  where
    some_none : (o : Option ℕ) (fd : ℕ) → o ≡ Some fd → o ≡ None → ⊥
    some_none o fd some none = cc

-- so a purge of such a pipe has no other reason
pub alone_purge : {T : Type 0} (p : SinglePipe) (d : Disk) (seq : ℕ) (r : Result T Error) → IsPurgeTaken p d seq r → IsAlone p d → IsOutOfSpan p seq ⊎ IsOkOrMemory r
alone_purge p d seq r (inl out) alone = inl out
alone_purge p d seq r (inr why) alone = inr (taken_more ⊥ (HasLost p d seq) ⊥ ⊥ ⊥ ⊥ r (λ x. x) (alone_has p d seq alone) (λ x. x) why)
