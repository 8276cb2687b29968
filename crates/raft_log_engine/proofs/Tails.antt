-- An opening that tolerates a torn tail refuses nothing of what a crash left of an engine's files.
use Rattle.std.proofs.Common.{◌≡◌, inl, ℕ, Bool, List, [], ◌∷◌, ◌++◌, take, drop, sym, ap, subst, ◌∙◌}
use Rattle.std.specs.Prelude.{Result, Ok, Err, OnOk, OnErr}
use Rattle.raft_log_records.specs.declared.file_id.LogQueue.{LogQueue}
use Rattle.raft_log_records.specs.declared.file_id.LogQueue.TheVariants.{Append, Rewrite}
use Rattle.raft_log_disk.specs.Disk.{Disk, IsIn, IsNamed}
use Rattle.raft_log_disk.specs.Image.{Image, IsImage}
use Rattle.raft_log_disk.specs.Text.{Text}
use Rattle.raft_log_files.specs.declared.error.Error.{Error}
use Rattle.raft_log_files.specs.declared.recovery.RecoveryMode.TheVariants.{TolerateTailCorruption}
use Rattle.raft_log_file.specs.Laws.{Batch}
use Rattle.raft_log_pipe.specs.declared.file.File.{File}
use Rattle.raft_log_pipe.specs.declared.pipe.SinglePipe.{SinglePipe}
use Rattle.raft_log_pipe.specs.Alone.{IsAlone, directories_of_pipe}
use Rattle.raft_log_pipe.specs.Pipe.{Holds, Numbered}
use Rattle.raft_log_pipes.specs.declared.pipes.DualPipes.{DualPipes}
use Rattle.raft_log_pipe.specs.Torn.{IsTornAtEnd, TearsAtEnd}
use Rattle.raft_log_pipe.proofs.AloneLemmas.{alone_on}
use Rattle.raft_log_pipe.proofs.TornLemmas.{held_torn}
use Rattle.raft_log_pipes.specs.Calls.{IsCloseOf}
use Rattle.raft_log_pipes.specs.Pipes.{IsAsBefore, pipe_of}
use Rattle.raft_log_memtables.specs.Content.{Content}
use Rattle.raft_log_recovery.specs.Crashed.{HasLastingHole, IsCrashed}
use Rattle.raft_log_recovery.proofs.TailLemmas.{torn_opened}
use Rattle.raft_log_blocks.specs.Held.{HoldsMore}
use Rattle.raft_log_engine.specs.Parts.{Parts}
use Rattle.raft_log_engine.specs.Opening.{CantBeOpened}
use Rattle.raft_log_engine.specs.Reopened.{OpensInTail, StandAlone, StandsAlone, StandsInTail, directories_of_engine, directories_of_pipes}
use Rattle.raft_log_engine.specs.Since.{HasWritten}
use Rattle.raft_log_engine.proofs.Clauses.{HeldBy}
use Rattle.raft_log_engine.proofs.Reopened.{KeepsRewrites, paths_on, same_directories}

-- one of these files has no bytes, and no crash leaves it any
abbrev HasOlderHole : Disk → List File → Type 0
HasOlderHole d fs = (f : File) × IsIn f fs × ((d.file f.handle.0).bytes ≡ []) × ((image : Image) → IsImage d image → image f.handle.0 ≡ [])

-- of one queue
queue_in_tail : (d : Disk) (q : SinglePipe) (queue : LogQueue) → IsNamed d → q.queue ≡ queue → IsTornAtEnd q d → (image : Image) (e : Disk) → IsCrashed d image e → CantBeOpened TolerateTailCorruption (directories_of_pipe q) queue e
    → HasLastingHole q d
queue_in_tail d q queue named is torn image e crashed =
    subst (λ (x : LogQueue). CantBeOpened TolerateTailCorruption (directories_of_pipe q) x e → HasLastingHole q d) is
    (λ cant. torn_opened q d named torn image e cant.made cant.names crashed cant.makes cant.found cant.refused)

-- what such an opening refuses is a hole of a pipe
abbrev HoleIsRefused : List Text → Disk → DualPipes → Type 0
HoleIsRefused directories d p = (image : Image) (e : Disk) (queue : LogQueue) → IsCrashed d image e → CantBeOpened TolerateTailCorruption directories queue e → HasLastingHole (pipe_of p queue) d

hole_in_tail : (directories : List Text) (d : Disk) (p : DualPipes) → HoleIsRefused directories d p → OpensInTail directories d p
hole_in_tail directories d p refused image e queue crashed cant = inl (refused image e queue crashed cant)

-- of both
pub torn_hole : (d : Disk) (p : DualPipes) → IsNamed d → directories_of_pipe p.rewrite ≡ directories_of_pipe p.append → IsTornAtEnd p.rewrite d → IsTornAtEnd p.append d → HoleIsRefused (directories_of_pipes p) d p
torn_hole d p named paths rewrite append image e Append crashed cant = queue_in_tail d p.append Append named p.appends append image e crashed cant
torn_hole d p named paths rewrite append image e Rewrite crashed cant =
    queue_in_tail d p.rewrite Rewrite named p.rewrites rewrite image e crashed (subst (λ (l : List Text). CantBeOpened TolerateTailCorruption l Rewrite e) (sym paths) cant)

pub held_in_tail : (d : Disk) (p : DualPipes) (r bs us : Numbered) → IsNamed d → StandAlone p d → Holds p.rewrite d r [] → Holds p.append d bs us → OpensInTail (directories_of_pipes p) d p
held_in_tail d p r bs us named alone rewrite append =
    hole_in_tail (directories_of_pipes p) d p (torn_hole d p named alone.paths (held_torn p.rewrite d alone.rewrite r [] rewrite) (held_torn p.append d alone.append bs us append))

-- behind a call on the append queue, refused or not
left_hole : (p q : DualPipes) (d e : Disk) (r s u : Numbered) → IsNamed e → KeepsRewrites p d q e → StandAlone p d → Holds p.rewrite d r [] → Holds p.append d s u → TearsAtEnd p.append d q.append e → HoleIsRefused (directories_of_pipes q) e q
left_hole p q d e r s u named keeps alone rewrite append tears =
    torn_hole e q named (paths_on p q d e keeps alone) (held_torn q.rewrite e (keeps.other.alone alone.rewrite) r [] (keeps.other.holds r [] rewrite)) (tears alone.append s u append)

pub left_in_tail : (p q : DualPipes) (d e : Disk) (r s u : Numbered) → IsNamed e → KeepsRewrites p d q e → StandAlone p d → Holds p.rewrite d r [] → Holds p.append d s u → TearsAtEnd p.append d q.append e → OpensInTail (directories_of_pipes q) e q
left_in_tail p q d e r s u named keeps alone rewrite append tears = hole_in_tail (directories_of_pipes q) e q (left_hole p q d e r s u named keeps alone rewrite append tears)

-- with one more batch
pub more_in_tail : {F : Type 0} (disk : F → Disk) (old : Parts F) → HeldBy disk old → (files : F) (p : DualPipes) (sync : Bool) (seq : ℕ) (items : Batch) → IsNamed (disk files) → StandAlone p (disk files)
    → IsAsBefore old.pipes.rewrite (disk old.files) p.rewrite (disk files)
    → ((s u : Numbered) → Holds old.pipes.append (disk old.files) s u → HoldsMore p.append (disk files) sync s (u ++ (seq, items) ∷ [])) → OpensInTail (directories_of_pipes p) (disk files) p
more_in_tail disk old held files p sync seq items named alone other puts =
    let l : Numbered = held.unsynced ++ (seq, items) ∷ [] in
    let m = puts held.synced held.unsynced held.held.append in
    held_in_tail (disk files) p held.rewrites (held.synced ++ take m.count l) (drop m.count l) named alone (other.holds held.rewrites [] held.held.rewrite) m.holds

-- ---- an engine's files

module _ {F : Type 0} (disk : F → Disk) (e : Parts F) (named : IsNamed (disk e.files)) (alone : StandsAlone disk e) where
  -- as its batches stand there
  pub written_in_tail : (before : Content (List ℕ)) (batches : List Batch) → HasWritten disk e before batches → OpensInTail (directories_of_engine e) (disk e.files) e.pipes
  written_in_tail before batches w = held_in_tail (disk e.files) e.pipes w.rewrites w.synced w.unsynced named alone w.rewrite w.append

  pub stands_in_tail : HeldBy disk e → StandsInTail disk e
  stands_in_tail held = record { alone = alone; opens = held_in_tail (disk e.files) e.pipes held.rewrites held.synced held.unsynced named alone held.held.rewrite held.held.append }

-- ---- a close

-- refused or not, it tears no file
closed_torn : (p q : SinglePipe) (d e : Disk) (x : Result (Unit {0}) Error) → q.queue ≡ p.queue → IsCloseOf p d q e x → TearsAtEnd p d q e
closed_torn p q d e x queue call alone s u holds = by_result x call.ok call.err
  where
    there : IsAlone q e
    there = alone_on p q d e (call.same.0, call.same.1, queue) call.paths call.names alone

    by_result : (r : Result (Unit {0}) Error) → OnOk r ((a b : Numbered) → Holds p d a b → Holds q e (a ++ b) []) → OnErr r ((a b : Numbered) → Holds p d a b → Holds q e a b) → IsTornAtEnd q e
    by_result (Ok done) ok err = held_torn q e there (s ++ u) [] (ok s u holds)
    by_result (Err why) ok err = held_torn q e there s u (err s u holds)

-- the files before the last ones stay
same_in_tail : (p q : DualPipes) (e : Disk) → directories_of_pipes q ≡ directories_of_pipes p → q.append.older ≡ p.append.older → q.rewrite.older ≡ p.rewrite.older → HoleIsRefused (directories_of_pipes q) e q → OpensInTail (directories_of_pipes p) e p
same_in_tail p q e paths append rewrite opens image left queue crashed cant =
    inl (hole_before queue (opens image left queue crashed (subst (λ (l : List Text). CantBeOpened TolerateTailCorruption l queue left) (sym paths) cant)))
  where
    hole_before : (x : LogQueue) → HasLastingHole (pipe_of q x) e → HasLastingHole (pipe_of p x) e
    hole_before Append hole = subst (HasOlderHole e) (λ i. (append i).items) hole
    hole_before Rewrite hole = subst (HasOlderHole e) (λ i. (rewrite i).items) hole

module _ (p q : DualPipes) (d e : Disk) (x : Result (Unit {0}) Error) (first : IsCloseOf p.append d q.append e x) (other : IsAsBefore p.rewrite d q.rewrite e) (alone : StandAlone p d) (r s u : Numbered) (rewrite : Holds p.rewrite d r []) (append : Holds p.append d s u) where
  first_queue : q.append.queue ≡ p.append.queue
  first_queue = q.appends ∙ sym p.appends

  first_alone : IsAlone q.append e
  first_alone = alone_on p.append q.append d e (first.same.0, first.same.1, first_queue) first.paths first.names alone.append

  -- the append queue was closed, or that was refused
  pub first_in_tail : IsNamed e → OpensInTail (directories_of_pipes p) e p
  first_in_tail named =
      same_in_tail p q e (same_directories p.append q.append first.paths) first.same.1 (ap (λ (y : SinglePipe). y.older) other.same)
      (left_hole p q d e r s u named (record { paths = first.paths; other = other }) alone rewrite append (closed_torn p.append q.append d e x first_queue first))

  -- then the rewrite queue was, or that was refused
  module _ (t : DualPipes) (f : Disk) (y : Result (Unit {0}) Error) (second : IsCloseOf q.rewrite e t.rewrite f y) (beside : IsAsBefore q.append e t.append f) where
    closed_paths : t.append.paths ≡ p.append.paths
    closed_paths = ap (λ (z : SinglePipe). z.paths) beside.same ∙ first.paths

    append_torn : (a : Result (Unit {0}) Error) → OnOk a ((m n : Numbered) → Holds p.append d m n → Holds q.append e (m ++ n) []) → OnErr a ((m n : Numbered) → Holds p.append d m n → Holds q.append e m n) → IsTornAtEnd t.append f
    append_torn (Ok done) ok err = held_torn t.append f (beside.alone first_alone) (s ++ u) [] (beside.holds (s ++ u) [] (ok s u append))
    append_torn (Err why) ok err = held_torn t.append f (beside.alone first_alone) s u (beside.holds s u (err s u append))

    pub both_in_tail : IsNamed f → OpensInTail (directories_of_pipes p) f p
    both_in_tail named =
        same_in_tail p t f (same_directories p.append t.append closed_paths) (ap (λ (z : SinglePipe). z.older) beside.same ∙ first.same.1) (second.same.1 ∙ ap (λ (z : SinglePipe). z.older) other.same)
        (torn_hole f t named (same_directories q.rewrite t.rewrite second.paths ∙ ap directories_of_pipe other.same ∙ alone.paths ∙ sym (same_directories p.append t.append closed_paths))
        (closed_torn q.rewrite t.rewrite e f y (t.rewrites ∙ sym q.rewrites) second (other.alone alone.rewrite) r [] (other.holds r [] rewrite))
        (append_torn x first.ok first.err))
