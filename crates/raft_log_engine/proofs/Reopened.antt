-- An opening of what a crash left of an engine's files answers what the engine answered.
use Rattle.std.proofs.Common.{◌≡◌, inl, inr, ⊎_elim, ℕ, Bool, true, false, List, [], ◌∷◌, ◌++◌, map, take, Vec, Global, sym, ap, subst, ◌∙◌}
use Rattle.std.proofs.lemmas.List.{append-nil}
use Rattle.std.proofs.Math.Seq.{take-nil}
use Rattle.std.specs.Prelude.{Option, Result, Ok, Err, OnOk, OnErr, String}
use Rattle.std.specs.String.{string_bytes}
use Rattle.raft_log_files.specs.declared.error.Error.{Error}
use Rattle.std.specs.List.{list_any}
use Rattle.raft_log_records.specs.declared.block.EntriesBlock.{EntriesBlock}
use Rattle.raft_log_records.specs.declared.file_id.FileBlockHandle.{FileBlockHandle}
use Rattle.raft_log_records.specs.declared.file_id.LogQueue.{LogQueue}
use Rattle.raft_log_records.specs.declared.file_id.LogQueue.TheVariants.{Append, Rewrite}
use Rattle.raft_log_records.specs.declared.record.LogItemBatch.{LogItemBatch}
use Rattle.raft_log_records.specs.Spelling.{holds_mark}
use Rattle.raft_log_disk.specs.Disk.{Disk, IsNamed}
use Rattle.raft_log_disk.specs.Image.{Image}
use Rattle.raft_log_disk.specs.Text.{Text}
use Rattle.raft_log_files.specs.declared.recovery.RecoveryMode.{RecoveryMode}
use Rattle.raft_log_file.specs.Laws.{Batch}
use Rattle.raft_log_pipe.specs.declared.pipe.SinglePipe.{SinglePipe}
use Rattle.raft_log_pipe.specs.Appending.{LeavesAppended}
use Rattle.raft_log_pipe.specs.Alone.{IsAlone, IsNearlyAlone, IsOnce, Names, directories_of_pipe}
use Rattle.raft_log_pipe.specs.Pipe.{Holds, Leaves, Numbered}
use Rattle.raft_log_pipe.proofs.AloneLemmas.{alone_on, nearly, nearly_on}
use Rattle.raft_log_pipe.proofs.PipeLemmas.{holds_leaves, leaves_less}
use Rattle.raft_log_pipes.specs.declared.pipes.DualPipes.{DualPipes}
use Rattle.raft_log_pipes.specs.Calls.{IsCloseOf}
use Rattle.raft_log_pipes.specs.Pipes.{IsAsBefore}
use Rattle.raft_log_memtables.specs.declared.memtables.MemTables.{MemTables}
use Rattle.raft_log_memtables.specs.Content.{Content, after_batch}
use Rattle.raft_content_log.specs.Leaving.{IsEither}
use Rattle.raft_log_recovery.specs.Crashed.{IsCrashed, OpensWith}
use Rattle.raft_log_recovery.specs.Scan.{OnlyMakes}
use Rattle.raft_log_recovery.proofs.CrashLemmas.{crashed_found}
use Rattle.raft_log_blocks.specs.Held.{IsKept, content_of_batches, seen_on}
use Rattle.raft_log_engine.specs.Parts.{Parts}
use Rattle.raft_log_engine.specs.Left.{answers_on}
use Rattle.raft_log_engine.specs.Opening.{IsFoundContent}
use Rattle.raft_log_engine.specs.Reopened.{OpensAs, OpensAsEither, StandAlone, StandsAlone, directories_of_engine, directories_of_pipes}
use Rattle.raft_log_engine.proofs.Clauses.{HeldBy, IsDone, KeptBy, done_kept, last_or_not, more}
use Rattle.raft_log_blocks.proofs.HeldLemmas.{answered, kept_held}

abbrev Seen : Type 0
Seen = Content (List ℕ)

-- the content of the files that are found
pub opened_content : (directories : List Text) (d : Disk) (r bs us : Numbered) (image : Image) (e : Disk) (mode : RecoveryMode) (found : Seen) → OpensWith directories Rewrite d r [] → OpensWith directories Append d bs us
    → IsCrashed d image e → IsFoundContent mode directories e found → (k : ℕ) × (found ≡ content_of_batches (r ++ (bs ++ take k us)))
opened_content directories d r bs us image e mode found rewrites appends crashed f =
    let one = rewrites image e f.rewrite.made f.rewrite.names f.rewrite.files crashed f.rewrite.finds in
    let two = appends image e f.append.made f.append.names f.append.files crashed f.append.finds in
    let all_rewrites : f.rewrites ≡ r = sym f.rewrite.reads ∙ one.1 ∙ ap (λ (l : Numbered). r ++ l) (take-nil one.0) ∙ append-nil r in
    let all_appends : f.appends ≡ bs ++ take two.0 us = sym f.append.reads ∙ two.1 in
    (two.0, f.is ∙ (λ i. content_of_batches (all_rewrites i ++ all_appends i)))

-- of a pipe of a queue
pub opens_with : (queue : LogQueue) (d : Disk) (p : SinglePipe) (bs us : Numbered) → IsNamed d → p.queue ≡ queue → IsNearlyAlone p d → Leaves p d bs us → OpensWith (directories_of_pipe p) queue d bs us
opens_with queue d p bs us named is alone leaves = subst (λ (q : LogQueue). OpensWith (directories_of_pipe p) q d bs us) is (crashed_found p d bs us named alone leaves)

-- ---- the rewrite queue

-- What stands of it: its batches are on the disk, and its files are the last ones where those of the append queue lie
pub record RewritesStand (p : DualPipes) (d : Disk) (r : Numbered) : Type 0 where
  pub paths : directories_of_pipe p.rewrite ≡ directories_of_pipe p.append
  pub alone : IsNearlyAlone p.rewrite d
  pub leaves : Leaves p.rewrite d r []

pub rewrites_stand : (p : DualPipes) (d : Disk) (r : Numbered) → StandAlone p d → Holds p.rewrite d r [] → RewritesStand p d r
rewrites_stand p d r alone holds = record {
  paths = alone.paths;
  alone = nearly p.rewrite d alone.rewrite;
  leaves = holds_leaves p.rewrite.queue p.rewrite.older.items p.rewrite.active p.rewrite.writer.offset d r [] holds;
}

-- a call on the append queue leaves the rewrite queue
pub record KeepsRewrites (p : DualPipes) (d : Disk) (q : DualPipes) (e : Disk) : Type 0 where
  pub paths : q.append.paths ≡ p.append.paths
  pub other : IsAsBefore p.rewrite d q.rewrite e

-- the directories are those of before
pub same_directories : (p q : SinglePipe) → q.paths ≡ p.paths → directories_of_pipe q ≡ directories_of_pipe p
same_directories p q same = ap (λ (v : Vec (String Global) Global). map string_bytes v.items) same

pub paths_on : (p q : DualPipes) (d e : Disk) → KeepsRewrites p d q e → StandAlone p d → directories_of_pipe q.rewrite ≡ directories_of_pipe q.append
paths_on p q d e keeps alone = ap directories_of_pipe keeps.other.same ∙ alone.paths ∙ sym (same_directories p.append q.append keeps.paths)

rewrite_on : (p q : DualPipes) (d e : Disk) → KeepsRewrites p d q e → StandAlone p d → IsAlone q.rewrite e
rewrite_on p q d e keeps alone = keeps.other.alone alone.rewrite

pub stand_on : (p q : DualPipes) (d e : Disk) → KeepsRewrites p d q e → StandAlone p d → IsAlone q.append e → StandAlone q e
stand_on p q d e keeps alone append = record { paths = paths_on p q d e keeps alone; append = append; rewrite = rewrite_on p q d e keeps alone }

-- so does a sync, which changes no names
pub synced_stands : (p q : DualPipes) (d e : Disk) → (q.append.active ≡ p.append.active) × (q.append.older ≡ p.append.older) → q.append.paths ≡ p.append.paths → e.names ≡ d.names → IsAsBefore p.rewrite d q.rewrite e → StandAlone p d → StandAlone q e
synced_stands p q d e same paths names other alone =
    stand_on p q d e (record { paths = paths; other = other }) alone (alone_on p.append q.append d e (same.0, same.1, q.appends ∙ sym p.appends) paths names alone.append)

pub rewrites_on : (p q : DualPipes) (d e : Disk) (r : Numbered) → KeepsRewrites p d q e → StandAlone p d → Holds p.rewrite d r [] → RewritesStand q e r
rewrites_on p q d e r keeps alone holds = record {
  paths = paths_on p q d e keeps alone;
  alone = nearly q.rewrite e (rewrite_on p q d e keeps alone);
  leaves = holds_leaves q.rewrite.queue q.rewrite.older.items q.rewrite.active q.rewrite.writer.offset e r [] (keeps.other.holds r [] holds);
}

-- ---- both queues

-- what is found is the content of the rewrite queue's batches, of others, and of a front of further ones
pub both_content : (d : Disk) (p : DualPipes) (r bs us : Numbered) → IsNamed d → RewritesStand p d r → IsNearlyAlone p.append d → Leaves p.append d bs us
    → (image : Image) (e : Disk) (mode : RecoveryMode) (found : Seen) → IsCrashed d image e → IsFoundContent mode (directories_of_pipes p) e found → (k : ℕ) × (found ≡ content_of_batches (r ++ (bs ++ take k us)))
both_content d p r bs us named stand alone leaves image e mode found crashed f =
    opened_content (directories_of_pipes p) d r bs us image e mode found
    (subst (λ (l : List Text). OpensWith l Rewrite d r []) stand.paths (opens_with Rewrite d p.rewrite r [] named p.rewrites stand.alone stand.leaves))
    (opens_with Append d p.append bs us named p.appends alone leaves) crashed f

-- the append queue's batches are on the disk too
pub left_opens : (d : Disk) (p : DualPipes) (r bs : Numbered) (content : Seen) → IsNamed d → RewritesStand p d r → IsNearlyAlone p.append d → Leaves p.append d bs [] → content ≡ content_of_batches (r ++ bs)
    → OpensAs (directories_of_pipes p) d content
left_opens d p r bs content named stand alone leaves is image e mode found crashed f =
    let c = both_content d p r bs [] named stand alone leaves image e mode found crashed f in
    c.1 ∙ ap (λ (l : Numbered). content_of_batches (r ++ (bs ++ l))) (take-nil c.0) ∙ ap (λ (l : Numbered). content_of_batches (r ++ l)) (append-nil bs) ∙ sym is

-- and the tables have their content
pub kept_opens : (d : Disk) (p : DualPipes) (tables : MemTables) (r bs : Numbered) → IsNamed d → StandAlone p d → IsKept d p tables r bs → OpensAs (directories_of_pipes p) d (seen_on d p tables)
kept_opens d p tables r bs named alone kept =
    left_opens d p r bs (seen_on d p tables) named (rewrites_stand p d r alone kept.rewrite) (nearly p.append d alone.append)
    (holds_leaves p.append.queue p.append.older.items p.append.active p.append.writer.offset d bs [] kept.append) (answered d p tables r bs kept)

-- by what a crash leaves of the pipes there is one of two contents
pub torn_opens : (d : Disk) (p : DualPipes) (before content : Seen) (r bs us : Numbered) → IsNamed d → RewritesStand p d r → IsNearlyAlone p.append d → Leaves p.append d bs us
    → ((k : ℕ) → IsEither before content (content_of_batches (r ++ (bs ++ take k us)))) → OpensAsEither (directories_of_pipes p) d before content
torn_opens d p before content r bs us named stand alone leaves fronts image e mode found crashed f =
    let c = both_content d p r bs us named stand alone leaves image e mode found crashed f in
    ⊎_elim (λ (is : content_of_batches (r ++ (bs ++ take c.0 us)) ≡ before). inl (c.1 ∙ is)) (λ (is : content_of_batches (r ++ (bs ++ take c.0 us)) ≡ content). inr (c.1 ∙ is)) (fronts c.0)

-- ---- a close

-- after it, refused or not, a crash leaves what it left before
pub closed_leaves : (p q : SinglePipe) (d e : Disk) (r : Result (Unit {0}) Error) (s u : Numbered) → OnOk r ((x y : Numbered) → Holds p d x y → Holds q e (x ++ y) []) → OnErr r ((x y : Numbered) → Holds p d x y → Holds q e x y)
    → Holds p d s u → Leaves q e s u
closed_leaves p q d e (Ok x) s u ok err holds =
    subst (λ (l : Numbered). Leaves q e s l) (append-nil u)
    (leaves_less q.queue (q.older.items ++ q.active ∷ []) e s u [] (holds_leaves q.queue q.older.items q.active q.writer.offset e (s ++ u) [] (ok s u holds)))
closed_leaves p q d e (Err x) s u ok err holds = holds_leaves q.queue q.older.items q.active q.writer.offset e s u (err s u holds)

-- What a crash leaves then, of the rewrite queue and of the append queue
pub record IsClosed (p q : DualPipes) (e : Disk) (r s u : Numbered) : Type 0 where
  pub paths : q.append.paths ≡ p.append.paths
  pub stand : RewritesStand q e r
  pub near : IsNearlyAlone q.append e
  pub leaves : Leaves q.append e s u

module _ (p q : DualPipes) (d e : Disk) (x : Result (Unit {0}) Error) (call : IsCloseOf p.append d q.append e x) (other : IsAsBefore p.rewrite d q.rewrite e) (alone : StandAlone p d) (r s u : Numbered) (rewrite : Holds p.rewrite d r []) (append : Holds p.append d s u) where
  queue_stays : q.append.queue ≡ p.append.queue
  queue_stays = q.appends ∙ sym p.appends

  -- the append queue was closed, or that was refused
  pub first_closed : IsClosed p q e r s u
  first_closed = record {
    paths = call.paths;
    stand = rewrites_on p q d e r (record { paths = call.paths; other = other }) alone rewrite;
    near = nearly_on p.append q.append d e (call.same.0, call.same.1, queue_stays) call.paths call.names alone.append;
    leaves = closed_leaves p.append q.append d e x s u call.ok call.err append;
  }

-- it was, and then the rewrite queue was or that was refused
pub both_closed : (p q t : DualPipes) (d e f : Disk) (done : Unit {0}) (x : Result (Unit {0}) Error) → IsCloseOf p.append d q.append e (Ok done) → IsAsBefore p.rewrite d q.rewrite e → IsCloseOf q.rewrite e t.rewrite f x → IsAsBefore q.append e t.append f
    → StandAlone p d → (r s u : Numbered) → Holds p.rewrite d r [] → Holds p.append d s u → IsClosed p t f r s u
both_closed p q t d e f done x first other second beside alone r s u rewrite append =
    let paths : t.append.paths ≡ p.append.paths = ap (λ (y : SinglePipe). y.paths) beside.same ∙ first.paths in
    let there : IsAlone q.append e = alone_on p.append q.append d e (first.same.0, first.same.1, q.appends ∙ sym p.appends) first.paths first.names alone.append in
    let all : Holds t.append f (s ++ u) [] = beside.holds (s ++ u) [] (first.ok s u append) in
    record {
      paths = paths;
      stand = record {
        paths = same_directories q.rewrite t.rewrite second.paths ∙ ap directories_of_pipe other.same ∙ alone.paths ∙ sym (same_directories p.append t.append paths);
        alone = nearly_on q.rewrite t.rewrite e f (second.same.0, second.same.1, t.rewrites ∙ sym q.rewrites) second.paths second.names (other.alone alone.rewrite);
        leaves = closed_leaves q.rewrite t.rewrite e f x r [] second.ok second.err (other.holds r [] rewrite);
      };
      near = nearly t.append f (beside.alone there);
      leaves = subst (λ (l : Numbered). Leaves t.append f s l) (append-nil u)
          (leaves_less t.append.queue (t.append.older.items ++ t.append.active ∷ []) f s u []
          (holds_leaves t.append.queue t.append.older.items t.append.active t.append.writer.offset f (s ++ u) [] all));
    }

-- and where the append queue was, all that was written is on the disk
pub all_closed : (p q t : DualPipes) (d e f : Disk) (done : Unit {0}) (x : Result (Unit {0}) Error) → IsCloseOf p.append d q.append e (Ok done) → IsAsBefore p.rewrite d q.rewrite e → IsCloseOf q.rewrite e t.rewrite f x → IsAsBefore q.append e t.append f
    → StandAlone p d → (r s u : Numbered) → Holds p.rewrite d r [] → Holds p.append d s u → IsClosed p t f r (s ++ u) []
all_closed p q t d e f done x first other second beside alone r s u rewrite append =
    let closed = both_closed p q t d e f done x first other second beside alone r s u rewrite append in
    record {
      paths = closed.paths;
      stand = closed.stand;
      near = closed.near;
      leaves = holds_leaves t.append.queue t.append.older.items t.append.active t.append.writer.offset f (s ++ u) [] (beside.holds (s ++ u) [] (first.ok s u append));
    }

pub closed_opens : (p q : DualPipes) (e : Disk) (r bs : Numbered) (content : Seen) → IsNamed e → IsClosed p q e r bs [] → content ≡ content_of_batches (r ++ bs) → OpensAs (directories_of_pipes p) e content
closed_opens p q e r bs content named closed is =
    subst (λ (l : List Text). OpensAs l e content) (same_directories p.append q.append closed.paths) (left_opens e q r bs content named closed.stand closed.near closed.leaves is)

-- ---- the exits of a write

module _ {F : Type 0} (disk : F → Disk) (old : Parts F) (alone : StandsAlone disk old) where
  -- all batches are on the disk, and nothing was written
  pub still_opens : KeptBy disk old → IsNamed (disk old.files) → OpensAs (directories_of_engine old) (disk old.files) (answers_on disk old)
  still_opens kept named = kept_opens (disk old.files) old.pipes old.tables kept.0 kept.1 named alone kept.2

  pub refused_opens : KeptBy disk old → IsNamed (disk old.files) → (items : Batch) → OpensAsEither (directories_of_engine old) (disk old.files) (answers_on disk old) (after_batch items (answers_on disk old))
  refused_opens kept named items image e mode found crashed f = inl (still_opens kept named image e mode found crashed f)

  -- the append or what follows it failed
  pub failed_opens : KeptBy disk old → (files : F) (p : DualPipes) (items : Batch) → IsNamed (disk files) → KeepsRewrites old.pipes (disk old.files) p (disk files)
      → (IsAlone old.pipes.append (disk old.files) → IsNearlyAlone p.append (disk files)) → list_any holds_mark items ≡ false
      → ((s u : Numbered) → Holds old.pipes.append (disk old.files) s u → LeavesAppended p.append (disk files) s u items)
      → OpensAsEither (directories_of_pipes p) (disk files) (answers_on disk old) (after_batch items (answers_on disk old))
  failed_opens kept files p items named keeps near plain leaves =
      let left = leaves kept.1 [] kept.2.append in
      torn_opens (disk files) p (answers_on disk old) (after_batch items (answers_on disk old)) kept.0 kept.1 ((left.0, items) ∷ []) named
      (rewrites_on old.pipes p (disk old.files) (disk files) kept.0 keeps alone kept.2.rewrite) (near alone.append) left.1
      (last_or_not kept.0 kept.1 left.0 items (answers_on disk old) (after_batch items (answers_on disk old)) (sym (answered (disk old.files) old.pipes old.tables kept.0 kept.1 kept.2))
      (more disk old kept.0 kept.1 [] left.0 items (kept_held (disk old.files) old.pipes old.tables kept.0 kept.1 kept.2) plain))

  -- all was done, with a sync
  pub done_opens : HeldBy disk old → (files : F) (p : DualPipes) (tables : MemTables) (sync : Bool) (items : Batch) (h : FileBlockHandle) (block : Option EntriesBlock) (drained : LogItemBatch) → IsNamed (disk files)
      → StandAlone p (disk files) → IsDone disk old files p tables sync items h block drained → sync ≡ true → OpensAs (directories_of_pipes p) (disk files) (seen_on (disk files) p tables)
  done_opens held files p tables sync items h block drained named on is synced =
      kept_opens (disk files) p tables held.rewrites (held.synced ++ (held.unsynced ++ (h.id.seq, items) ∷ [])) named on
      (done_kept disk old files p tables sync items h block drained is synced held.rewrites held.synced held.unsynced held.held)

-- ---- an opening

-- directories that are made change no names
pub once_there : (d made : Disk) (makes said directories : List Text) (queue : LogQueue) → OnlyMakes makes d made → directories ≡ said → IsOnce d.names said queue → IsOnce made.names directories queue
once_there d made makes said directories queue only at once =
    subst (λ (n : Names). IsOnce n directories queue) (sym (ap (λ (y : Disk). y.names) only.only))
    (subst (λ (l : List Text). IsOnce d.names l queue) (sym at) once)
