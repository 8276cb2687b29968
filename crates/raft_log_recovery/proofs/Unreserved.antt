-- What a step that changes reserved files alone leaves: of what an opening finds, and of the pipes that it opened.
use Rattle.std.proofs.Common.{◌≡◌, inl, inr, ⊎_elim, ℕ, List, [], ◌∷◌, ◌++◌, Option, Some, refl, sym, ap, subst, ◌∙◌, arith}
use Rattle.std.specs.List.{AllByRecursion}
use Rattle.raft_log_records.specs.declared.file_id.LogQueue.{LogQueue}
use Rattle.raft_log_records.specs.declared.file_id.LogQueue.TheVariants.{Append, Rewrite}
use Rattle.raft_log_disk.specs.Disk.{Disk, FileState, IsIn, IsNamed, fd_of}
use Rattle.raft_log_disk.specs.Name.{log_file_of}
use Rattle.raft_log_disk.specs.Text.{Text}
use Rattle.raft_log_files.specs.declared.recovery.RecoveryMode.{RecoveryMode}
use Rattle.raft_log_pipe.specs.declared.file.File.{File}
use Rattle.raft_log_pipe.specs.declared.pipe.SinglePipe.{SinglePipe}
use Rattle.raft_log_pipe.specs.Blocks.{files_of}
use Rattle.raft_log_pipe.specs.Kept.{with_reserved}
use Rattle.raft_log_pipe.specs.Pipe.{Holds, IsNamedSo, IsPipe, Numbered, id_of}
use Rattle.raft_log_pipe.specs.Reserved.{IsReservedPath}
use Rattle.raft_log_pipe.specs.Unreserved.{KeepsUnreserved}
use Rattle.raft_log_pipe.proofs.AloneLemmas.{found_in, in_either, in_first}
use Rattle.raft_log_pipe.proofs.OthersLemmas.{found_there}
use Rattle.raft_log_pipe.proofs.PurgeLemmas.{same_number}
use Rattle.raft_log_pipe.proofs.ReservedLemmas.{reserved_none, says_none}
use Rattle.raft_log_pipes.specs.declared.pipes.DualPipes.{DualPipes}
use Rattle.raft_log_pipes.specs.Pipes.{ArePipes, pipe_of}
use Rattle.raft_log_recovery.specs.declared.builder.DualPipesBuilder.{DualPipesBuilder}
use Rattle.raft_log_recovery.specs.declared.scan.FileName.{FileName}
use Rattle.raft_log_recovery.specs.Both.{ArePipesWith, LeavesQueue}
use Rattle.raft_log_recovery.specs.Crashed.{HasHole}
use Rattle.raft_log_recovery.specs.Opening.{IsPipeWith, batches_of}
use Rattle.raft_log_recovery.specs.Queue.{AreOpen, IsFileOf, directories_in, names_in, path_of}
use Rattle.raft_log_recovery.specs.Repair.{LeavesBatches, batches_in}
use Rattle.raft_log_recovery.specs.Replay.{Placed}
use Rattle.raft_log_recovery.proofs.BesideLemmas.{HaveSame, sound_same, turned}

-- ---- steps

-- a log file's path is no reserved one
log_unreserved : (queue : LogQueue) (path : Text) (n : ℕ) → log_file_of path ≡ Some (id_of queue n) → IsReservedPath Append path → ⊥
log_unreserved queue path n says is = says_none path (id_of queue n) (reserved_none Append path is) says

-- the log files of either queue are as they were
pub have_unreserved : (queue : LogQueue) (d e : Disk) → IsNamed d → IsNamed e → KeepsUnreserved d e → HaveSame queue d e
have_unreserved queue d e old new keeps = record {
  there = λ path n fd says found. found_there e.names e.next path fd new (keeps.stay path fd (log_unreserved queue path n says) (found_in d.names path fd found)).0;
  back = λ path n fd says found. found_there d.names d.next path fd old (keeps.none path fd (log_unreserved queue path n says) (found_in e.names path fd found));
  same = λ path n fd says found. (keeps.stay path fd (log_unreserved queue path n says) (found_in d.names path fd found)).1;
}

-- ---- files of a pipe have names

older_named : (queue : LogQueue) (d : Disk) (fs : List File) (f : File) → AllByRecursion (λ g. IsNamedSo d (id_of queue g.seq) g.handle.0) fs → IsIn f fs → IsNamedSo d (id_of queue f.seq) f.handle.0
older_named queue d [] f all there = absurd there
older_named queue d (g ∷ fs) f all (inl is) = subst (λ (x : File). IsNamedSo d (id_of queue x.seq) x.handle.0) (sym is) all.0
older_named queue d (g ∷ fs) f all (inr there) = older_named queue d fs f all.1 there

last_named : (queue : LogQueue) (d : Disk) (last f : File) → IsNamedSo d (id_of queue last.seq) last.handle.0 → IsIn f (last ∷ []) → IsNamedSo d (id_of queue f.seq) f.handle.0
last_named queue d last f named (inl is) = subst (λ (x : File). IsNamedSo d (id_of queue x.seq) x.handle.0) (sym is) named
last_named queue d last f named (inr none) = absurd none

pub pipe_named : (p : SinglePipe) (d : Disk) (f : File) → IsPipe p d → IsIn f (files_of p) → IsNamedSo d (id_of p.queue f.seq) f.handle.0
pipe_named p d f pipe there = ⊎_elim
    (λ older. older_named p.queue d p.older.items f pipe.olders older)
    (λ last. last_named p.queue d p.active f pipe.named last)
    (in_either f p.older.items (p.active ∷ []) there)

-- so they have what they had
pub pipe_stays : (p : SinglePipe) (mid new : Disk) (f : File) → HaveSame p.queue mid new → IsNamed mid → IsPipe p mid → IsIn f (files_of p) → new.file f.handle.0 ≡ mid.file f.handle.0
pipe_stays p mid new f same between pipe there = by_name (pipe_named p mid f pipe there)
  where
    by_name : IsNamedSo mid (id_of p.queue f.seq) f.handle.0 → new.file f.handle.0 ≡ mid.file f.handle.0
    by_name (path, here, says) = same.same path f.seq f.handle.0 says (found_there mid.names mid.next path f.handle.0 between here)

-- a pipe has no hole that it didn't have
pub hole_stays : (p : SinglePipe) (mid new : Disk) → HaveSame p.queue mid new → IsNamed mid → IsPipe p mid → HasHole p new → HasHole p mid
hole_stays p mid new same between pipe (f, among, none) =
    (f, among, ap (λ (x : FileState). x.bytes) (sym (pipe_stays p mid new f same between pipe (in_first f p.older.items (p.active ∷ []) among))) ∙ none)

-- ---- files that were found and opened

-- one of them, by its name
open_named : (directories : List Text) (queue : LogQueue) (d : Disk) (names : List FileName) (fs : List File) (name : FileName) (fd : ℕ) → AreOpen d directories queue names fs → IsIn name names → IsFileOf d directories queue name fd
    → (f : File) × IsIn f fs × (f.handle.0 ≡ fd)
open_named directories queue d [] fs name fd opened there of = absurd there
open_named directories queue d (n ∷ names) fs name fd (f, rest, is, here, others) (inl same) of = (
  f,
  subst (λ (l : List File). IsIn f l) (sym is) (inl refl),
  same_number f.handle.0 fd (sym here.there ∙ ap (λ (x : FileName). fd_of d.names (path_of directories queue x)) (sym same) ∙ of),
)
open_named directories queue d (n ∷ names) fs name fd (f, rest, is, here, others) (inr there) of =
    let found = open_named directories queue d names rest name fd others there of in
    (found.0, subst (λ (l : List File). IsIn found.0 l) (sym is) (inr found.1), found.2)

-- they have what they had
pub opened_stays : (directories : List Text) (queue : LogQueue) (names : List FileName) (d mid new : Disk) (p : SinglePipe) (all : List Placed) → IsPipeWith directories queue names d mid p all → HaveSame p.queue mid new → IsNamed mid → IsPipe p mid
    → (name : FileName) (fd : ℕ) → IsIn name names → IsFileOf d directories queue name fd → new.file fd ≡ mid.file fd
opened_stays directories queue names d mid new p all w same between pipe name fd among of =
    let found = open_named directories queue d names w.files name fd w.pipe.opened among of in
    ap new.file (sym found.2) ∙ pipe_stays p mid new found.0 same between pipe (w.pipe.among found.0 found.1) ∙ ap mid.file found.2

-- what is left of a queue stays so
pub leaves_then : (mode : RecoveryMode) (directories : List Text) (queue : LogQueue) (names : List FileName) (d mid new : Disk) → HaveSame queue mid new → IsNamed mid → IsNamed new
    → ((name : FileName) (fd : ℕ) → IsIn name names → IsFileOf d directories queue name fd → new.file fd ≡ mid.file fd) → LeavesQueue mode directories queue names d mid → LeavesQueue mode directories queue names d new
leaves_then mode directories queue names d mid new same between next stays first = record {
  again = λ bs s. first.again bs (sound_same queue new mid (turned queue mid new same) next between mode directories bs s);
  left = λ name fd among of rest.
      subst (λ (x : FileState). LeavesBatches (id_of queue name.seq) x (batches_in (id_of queue name.seq) (d.file fd).bytes)) (sym (stays name fd among of)) (first.left name fd among of rest);
  kept = λ before name behind is refused other fd there of.
      stays other fd (subst (λ (l : List FileName). IsIn other l) (sym is) (behind_in before (name ∷ behind) other there)) of ∙ first.kept before name behind is refused other fd there of;
}
  where
    behind_in : (before behind : List FileName) (other : FileName) → IsIn other behind → IsIn other (before ++ behind)
    behind_in [] behind other there = there
    behind_in (b ∷ before) behind other there = inr (behind_in before behind other there)

-- ---- both pipes, the append queue's with other reserved files

module _ (builder : DualPipesBuilder) (made mid new : Disk) (p q : DualPipes) (append : q.append ≡ with_reserved p.append q.append.reserved p.append.capacity) (rewrite : q.rewrite ≡ p.rewrite) where
  -- they hold what they held
  pub with_then : ((queue : LogQueue) (synced unsynced : Numbered) → Holds (pipe_of p queue) mid synced unsynced → Holds (pipe_of q queue) new synced unsynced) → (all : List Placed) → ArePipesWith builder made mid p all → ArePipesWith builder made new q all
  with_then holds all w = record {
    rewrites = w.rewrites;
    appends = w.appends;
    all_are = w.all_are;
    rewrite = record {
      files = w.rewrite.files;
      pipe = record {
        opened = w.rewrite.pipe.opened;
        among = subst (λ (x : SinglePipe). (f : File) → IsIn f w.rewrite.files → IsIn f (files_of x)) (sym rewrite) w.rewrite.pipe.among;
        holds = holds Rewrite (batches_of Rewrite made w.rewrite.files) [] w.rewrite.pipe.holds;
      };
      got = w.rewrite.got;
    };
    append = record {
      files = w.append.files;
      pipe = record {
        opened = w.append.pipe.opened;
        among = subst (λ (x : SinglePipe). (f : File) → IsIn f w.append.files → IsIn f (files_of x)) (sym append) w.append.pipe.among;
        holds = holds Append (batches_of Append made w.append.files) [] w.append.pipe.holds;
      };
      got = w.append.got;
    };
  }

  module _ (between : IsNamed mid) (next : IsNamed new) (keeps : KeepsUnreserved mid new) (pipes : ArePipes p mid) where
    -- and have no hole that they didn't have
    pub holes_then : (queue : LogQueue) → HasHole (pipe_of q queue) new → HasHole (pipe_of p queue) mid
    holes_then Append hole = hole_stays p.append mid new (have_unreserved p.append.queue mid new between next keeps) between pipes.append (subst (λ (x : SinglePipe). HasHole x new) append hole)
    holes_then Rewrite hole = hole_stays p.rewrite mid new (have_unreserved p.rewrite.queue mid new between next keeps) between pipes.rewrite (subst (λ (x : SinglePipe). HasHole x new) rewrite hole)

    -- what was left of each queue stays so
    pub queue_then : (mode : RecoveryMode) (queue : LogQueue) (all : List Placed) → ArePipesWith builder made mid p all → LeavesQueue mode (directories_in builder) queue (names_in builder queue) made mid
        → LeavesQueue mode (directories_in builder) queue (names_in builder queue) made new
    queue_then mode Append all w leaves =
        leaves_then mode (directories_in builder) Append (names_in builder Append) made mid new (have_unreserved Append mid new between next keeps) between next
        (opened_stays (directories_in builder) Append (names_in builder Append) made mid new p.append w.appends w.append (have_unreserved p.append.queue mid new between next keeps) between pipes.append) leaves
    queue_then mode Rewrite all w leaves =
        leaves_then mode (directories_in builder) Rewrite (names_in builder Rewrite) made mid new (have_unreserved Rewrite mid new between next keeps) between next
        (opened_stays (directories_in builder) Rewrite (names_in builder Rewrite) made mid new p.rewrite w.rewrites w.rewrite (have_unreserved p.rewrite.queue mid new between next keeps) between pipes.rewrite) leaves
