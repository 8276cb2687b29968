-- What the calls of a pipe make of what it held before: one call after another.
use Rattle.std.proofs.Common.{◌≡◌, ◌≢◌, ◌⊎◌, inl, inr, ⊎_elim, ℕ, ◌+◌, ◌-◌, ◌<◌, List, [], ◌∷◌, ◌++◌, length, refl, sym, ap, subst, ◌∙◌, arith}
use Rattle.std.specs.Prelude.{Result, Ok, Err, IfOk, OnOk, OnErr, String, map}
use Rattle.std.specs.String.{string_bytes}
use Rattle.std.specs.declared.alloc.Global.{Global}
use Rattle.std.proofs.lemmas.List.{append-nil}
use Rattle.raft_log_records.specs.declared.file_id.FileId.{FileId}
use Rattle.raft_log_records.specs.declared.file_id.FileBlockHandle.{FileBlockHandle}
use Rattle.raft_log_records.specs.declared.file_id.LogQueue.{LogQueue}
use Rattle.raft_log_disk.specs.declared.fault.IoFault.{IoFault}
use Rattle.raft_log_disk.specs.declared.fault.IoFault.TheVariants.{NoSpace}
use Rattle.raft_log_disk.specs.Cause.{UnlessRefused}
use Rattle.std.specs.List.{AllByRecursion}
use Rattle.raft_log_disk.specs.Disk.{Disk, no_bytes}
use Rattle.raft_log_disk.specs.Format.{spelled_header}
use Rattle.raft_log_files.specs.declared.error.Error.{Error}
use Rattle.raft_log_file.specs.Laws.{Batch}
use Rattle.raft_log_file.specs.declared.writer.LogFileWriter.{LogFileWriter}
use Rattle.raft_log_pipe.specs.declared.file.File.{File}
use Rattle.raft_log_pipe.specs.declared.pipe.SinglePipe.{SinglePipe}
use Rattle.raft_log_pipe.specs.Appending.{Appends, IsHandle, LeavesAppended}
use Rattle.raft_log_pipe.specs.Begun.{IsBegun}
use Rattle.raft_log_pipe.specs.Placing.{IsCreated}
use Rattle.raft_log_pipe.specs.Reserved.{AreReserved}
use Rattle.raft_log_pipe.specs.Pipe.{Numbered, id_of, AreConsecutive, HasPath, Holds, HoldsIn, IsLast, IsNamedSo, IsPipe, IsPlain, Leaves, LeavesIn}
use Rattle.raft_log_pipe.proofs.PipeLemmas.{holds_leaves, leaves_less, leaves_more}
use Rattle.raft_log_pipe.proofs.NextLemmas.{begun_changes, begun_stored, created_here, named_new, new_empty, next_last}

-- ---- a new file

-- the number that follows the last one
pub last_for : (d : Disk) (dirs : List (String Global)) (id : FileId) (queue : LogQueue) (last : ℕ) → IsLast d dirs queue last → id.queue ≡ queue → id.seq ≡ last + 1 → IsLast d dirs id.queue (id.seq - 1)
last_for d dirs id queue last l same next path seq lt number has =
    l path seq (omega (arith, lt, next)) number (subst (λ (q : LogQueue). HasPath dirs (id_of q seq) path) same has)

-- ---- batches that are on the disk by now

pub leaves_all : (queue : LogQueue) (fs : List File) (d : Disk) (s u : Numbered) → LeavesIn queue fs d (s ++ u) [] → LeavesIn queue fs d s u
leaves_all queue fs d s u l = subst (LeavesIn queue fs d s) (append-nil u) (leaves_less queue fs d s u [] l)

-- a batch goes behind them, or behind those of the same pipe once all of them are on the disk
pub put_after : (old p : SinglePipe) (d b : Disk) (new : SinglePipe) (g : Disk) (h : FileBlockHandle) (items : Batch)
    → ((s u : Numbered) → Holds old d s u → Holds p b s u ⊎ Holds p b (s ++ u) []) → IsHandle p items h
    → ((s u : Numbered) → Holds p b s u → Holds new g s (u ++ (p.active.seq, items) ∷ [])) → Appends old d new g h.id.seq items
put_after old p d b new g h items before handle more =
    subst (λ n. Appends old d new g n items) (sym (ap (λ (id : FileId). id.seq) handle.id))
    (λ s u holds. ⊎_elim (λ as_it_was. inl (more s u as_it_was)) (λ all. inr (more (s ++ u) [] all)) (before s u holds))

-- without space nothing was written
pub unless_no_space : (e : IoFault) (P : Type 0) → e ≡ NoSpace → UnlessRefused {T = FileBlockHandle} (Err e) P → P
unless_no_space e P is u = subst (λ x. UnlessRefused {T = FileBlockHandle} (Err x) P) is u

-- a call that left them as they were
pub still_before : (old p q : SinglePipe) (d b e : Disk) → ((s u : Numbered) → Holds old d s u → Holds p b s u ⊎ Holds p b (s ++ u) []) → ((s u : Numbered) → Holds p b s u → Holds q e s u)
    → (s u : Numbered) → Holds old d s u → Holds q e s u ⊎ Holds q e (s ++ u) []
still_before old p q d b e before same s u holds = ⊎_elim (λ as_it_was. inl (same s u as_it_was)) (λ all. inr (same (s ++ u) [] all)) (before s u holds)

pub again_after : (old p : SinglePipe) (d b : Disk) (new : SinglePipe) (g : Disk) (seq : ℕ) (items again : Batch)
    → ((s u : Numbered) → Holds old d s u → Holds p b s u ⊎ Holds p b (s ++ u) []) → again ≡ items → Appends p b new g seq again → Appends old d new g seq items
again_after old p d b new g seq items again before same appends =
    subst (Appends old d new g seq) same (λ s u holds. ⊎_elim (λ as_it_was. appends s u as_it_was) (λ all. inr (behind_all s u (appends (s ++ u) [] all))) (before s u holds))
  where
    behind_all : (s u : Numbered) → Holds new g (s ++ u) ((seq, again) ∷ []) ⊎ Holds new g ((s ++ u) ++ []) ((seq, again) ∷ []) → Holds new g (s ++ u) ((seq, again) ∷ [])
    behind_all s u (inl held) = held
    behind_all s u (inr held) = subst (λ (l : Numbered). Holds new g l ((seq, again) ∷ [])) (append-nil (s ++ u)) held

pub unput_after : (old p : SinglePipe) (d b : Disk) (new : SinglePipe) (g : Disk) (seq : ℕ) (items : Batch)
    → ((s u : Numbered) → Holds old d s u → Holds p b s u ⊎ Holds p b (s ++ u) [])
    → ((s u : Numbered) → Holds p b s u → Leaves new g s (u ++ (seq, items) ∷ [])) → (s u : Numbered) → Holds old d s u → LeavesAppended new g s u items
unput_after old p d b new g seq items before part s u holds =
    (seq, ⊎_elim (λ as_it_was. part s u as_it_was) (λ all. leaves_less new.queue (new.older.items ++ new.active ∷ []) g s u ((seq, items) ∷ []) (part (s ++ u) [] all)) (before s u holds))

pub unput_again : (old p : SinglePipe) (d b : Disk) (new : SinglePipe) (g : Disk) (items again : Batch)
    → ((s u : Numbered) → Holds old d s u → Holds p b s u ⊎ Holds p b (s ++ u) []) → again ≡ items
    → ((s u : Numbered) → Holds p b s u → LeavesAppended new g s u again) → (s u : Numbered) → Holds old d s u → LeavesAppended new g s u items
unput_again old p d b new g items again before same part s u holds =
    subst (LeavesAppended new g s u) same (⊎_elim (λ as_it_was. part s u as_it_was) (λ all. on_disk (part (s ++ u) [] all)) (before s u holds))
  where
    on_disk : LeavesAppended new g (s ++ u) [] again → LeavesAppended new g s u again
    on_disk (seq, leaves) = (seq, leaves_less new.queue (new.older.items ++ new.active ∷ []) g s u ((seq, again) ∷ []) leaves)

-- the same of what they answer
pub again_ok : (r : Result FileBlockHandle Error) (old p : SinglePipe) (d b : Disk) (new : SinglePipe) (g : Disk) (items again : Batch)
    → ((s u : Numbered) → Holds old d s u → Holds p b s u ⊎ Holds p b (s ++ u) []) → again ≡ items → IfOk r (λ h. Appends p b new g h.id.seq again) → IfOk r (λ h. Appends old d new g h.id.seq items)
again_ok (Ok h) old p d b new g items again before same appends = again_after old p d b new g h.id.seq items again before same appends
again_ok (Err e) old p d b new g items again before same appends = tt

pub again_err : (r : Result FileBlockHandle Error) (old p : SinglePipe) (d b : Disk) (new : SinglePipe) (g : Disk) (items again : Batch)
    → ((s u : Numbered) → Holds old d s u → Holds p b s u ⊎ Holds p b (s ++ u) []) → again ≡ items
    → OnErr r ((s u : Numbered) → Holds p b s u → LeavesAppended new g s u again) → OnErr r ((s u : Numbered) → Holds old d s u → LeavesAppended new g s u items)
again_err (Ok h) old p d b new g items again before same part = tt
again_err (Err e) old p d b new g items again before same part = unput_again old p d b new g items again before same part

-- nothing of the batch was written
pub unput_from : (old new : SinglePipe) (d e : Disk) (items : Batch) → ((s u : Numbered) → Holds old d s u → Leaves new e s u) → (s u : Numbered) → Holds old d s u → LeavesAppended new e s u items
unput_from old new d e items leaves s u h = (0, leaves_more new.queue (new.older.items ++ new.active ∷ []) e s u ((0, items) ∷ []) (leaves s u h))

-- ---- rotations

-- a pipe that is finished goes on
pub then_holds : (old p new : SinglePipe) (d b e : Disk) → ((s u : Numbered) → Holds old d s u → Holds p b (s ++ u) []) → ((s : Numbered) → Holds p b s [] → Holds new e s []) → (s u : Numbered) → Holds old d s u → Holds new e (s ++ u) []
then_holds old p new d b e finished on s u h = on (s ++ u) (finished s u h)

pub then_leaves : (old p new : SinglePipe) (d b e : Disk) → ((s u : Numbered) → Holds old d s u → Holds p b (s ++ u) []) → ((s : Numbered) → Holds p b s [] → Leaves new e s []) → (s u : Numbered) → Holds old d s u → Leaves new e s u
then_leaves old p new d b e finished on s u h = leaves_all new.queue (new.older.items ++ new.active ∷ []) e s u (on (s ++ u) (finished s u h))

-- what is held still is left
pub still_leaves : (old new : SinglePipe) (d e : Disk) → ((s u : Numbered) → Holds old d s u → Holds new e s u) → (s u : Numbered) → Holds old d s u → Leaves new e s u
still_leaves old new d e still s u h = holds_leaves new.queue new.older.items new.active new.writer.offset e s u (still s u h)

pub all_or : (old new : SinglePipe) (d e : Disk) → ((s u : Numbered) → Holds old d s u → Holds new e (s ++ u) []) → (s u : Numbered) → Holds old d s u → Holds new e s u ⊎ Holds new e (s ++ u) []
all_or old new d e all s u h = inr (all s u h)

pub rotated_ok : (r : Result (Unit {0}) Error) (old new : SinglePipe) (d e : Disk) → OnOk r ((s u : Numbered) → Holds old d s u → Holds new e (s ++ u) []) → OnOk r ((s u : Numbered) → Holds old d s u → Holds new e s u ⊎ Holds new e (s ++ u) [])
rotated_ok (Ok x) old new d e all = all_or old new d e all
rotated_ok (Err x) old new d e all = tt

-- ---- the first file of a queue

pub first_pipe : (p : SinglePipe) (d e g : Disk) (id : FileId) → id ≡ id_of p.queue p.active.seq → p.active.seq ≡ 1 → p.older.items ≡ [] → 0 < length p.paths.items → IsPlain p.default_format → IsLast d p.paths.items p.queue 0
    → IsCreated d e id (Ok p.active) → IsBegun e g p.active (Ok p.writer) → p.active.path_id < length p.paths.items
    → p.reserved.items ≡ [] → IsPipe p g
first_pipe p d e g id is first none paths plain last created begun place bare =
    let change = begun_changes e g p.active p.writer begun in
    let number : g.next ≡ d.next + 1 = ap (λ (y : Disk). y.next) change ∙ ap (λ (y : Disk). y.next) created.1.3 in
    let seq : id.seq ≡ p.active.seq = ap (λ (x : FileId). x.seq) is in
    record {
      writer = begun.3;
      handle = begun.4;
      plain = plain;
      paths = paths;
      numbers = subst (λ (l : List File). AreConsecutive l p.active.seq) (sym none) tt;
      last = next_last d e g p.paths.items p.active id p.queue 0 last (omega (arith, seq, first)) seq created change;
      named = subst (λ (x : FileId). IsNamedSo g x p.active.handle.0) is (named_new d e g p.active id created change);
      placed = subst (λ (l : List File). AllByRecursion (λ x. x.path_id < length p.paths.items) (l ++ p.active ∷ [])) (sym none) (place, tt);
      there = omega (arith, number, created.0);
      apart = subst (λ (l : List File). AllByRecursion (λ x. (x.handle.0 < g.next) × (x.handle.0 ≢ p.active.handle.0)) l) (sym none) tt;
      olders = subst (λ (l : List File). AllByRecursion (λ x. IsNamedSo g (id_of p.queue x.seq) x.handle.0) l) (sym none) tt;
      reserved = subst (AreReserved p.queue (map string_bytes p.paths.items) g) (sym bare) tt;
    }

pub first_holds : (queue : LogQueue) (older : List File) (f : File) (w : LogFileWriter) (d e g : Disk) (id : FileId) → id ≡ id_of queue f.seq → older ≡ [] → IsPlain f.format → IsCreated d e id (Ok f) → IsBegun e g f (Ok w)
    → HoldsIn queue older f w.offset g [] []
first_holds queue older f w d e g id is none plain created begun =
    let change = begun_changes e g f w begun in
    let empty = new_empty (spelled_header f.format) (e.file f.handle.0) (subst (λ n. e.file n ≡ no_bytes) (sym created.0) (created_here d e id created.1)) in
    subst (λ (l : List File). HoldsIn queue l f w.offset g [] []) (sym none) (record {
      before = [];
      ks = [];
      us = [];
      synced_are = refl;
      unsynced_are = refl;
      olders = refl;
      named = subst (λ (x : FileId). IsNamedSo g x f.handle.0) is (named_new d e g f id created change);
      stored = begun_stored e g f queue w empty plain begun;
    })
