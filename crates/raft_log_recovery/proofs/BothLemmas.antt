-- An opening of both queues is one of each.
use Rattle.std.proofs.Common.{append-nil, ◌≡◌, ◌<◌, ◌⊎◌, inl, inr, ℕ, List, [], ◌∷◌, ◌++◌, length, refl, sym, ap, subst, ◌∙◌, arith, Result, Ok, Err}
use Rattle.std.specs.Prelude.{IfOk, IsErr, OnErr}
use Rattle.std.proofs.lemmas.Bool.{false≢true}
use Rattle.raft_log_records.specs.declared.file_id.LogQueue.{LogQueue}
use Rattle.raft_log_records.specs.declared.file_id.LogQueue.TheVariants.{Append, Rewrite}
use Rattle.raft_log_disk.specs.Disk.{Disk, FileState, IsIn, IsNamed, fd_of}
use Rattle.raft_log_disk.specs.Text.{Text}
use Rattle.raft_log_files.specs.FileName.{IsFileSeq}
use Rattle.raft_log_files.specs.declared.recovery.RecoveryMode.{RecoveryMode}
use Rattle.raft_log_pipe.specs.declared.file.File.{File}
use Rattle.raft_log_pipe.specs.declared.pipe.SinglePipe.{SinglePipe}
use Rattle.raft_log_pipe.specs.Alone.{IsAlone, IsOnce, Names, directories_of_pipe}
use Rattle.raft_log_pipe.specs.Others.{KeepsOthers}
use Rattle.raft_log_pipe.specs.Pipe.{Holds, IsPipe, Numbered, id_of}
use Rattle.raft_log_pipe.proofs.AloneLemmas.{in_second}
use Rattle.raft_log_pipe.proofs.OthersLemmas.{alone_beside, once_beside, pipe_beside, pipe_holds_beside, same_others}
use Rattle.raft_log_pipes.specs.declared.pipes.DualPipes.{DualPipes}
use Rattle.raft_log_pipes.specs.Pipes.{ArePipes, other_queue, pipe_of}
use Rattle.raft_log_pipes.proofs.QueueLemmas.{not_append, not_rewrite}
use Rattle.raft_log_recovery.specs.declared.builder.DualPipesBuilder.{DualPipesBuilder}
use Rattle.raft_log_recovery.specs.declared.scan.FileKind.TheVariants.{Log}
use Rattle.raft_log_recovery.specs.declared.scan.FileName.{FileName}
use Rattle.raft_log_recovery.specs.Both.{AreOpened, ArePipesWith, ChangesBoth, CantBeOpened, IsFoundBy, IsOpened, IsSetBy, LeavesBoth, LeavesQueue}
use Rattle.raft_log_recovery.specs.Crashed.{HasHole}
use Rattle.raft_log_recovery.specs.Holes.{HolesOnlyBroken}
use Rattle.raft_log_recovery.specs.Opening.{AreAllGot, IsPipeWith, batches_of}
use Rattle.raft_log_recovery.specs.Queue.{AnyRefused, AreNumbered, AreOpen, ChangesAtMost, IsFileOf, KeepsRefused, directories_in, names_in, path_of}
use Rattle.raft_log_recovery.specs.Repair.{IsAtRest, LeavesBatches, batches_in}
use Rattle.raft_log_recovery.specs.Replay.{Placed}
use Rattle.raft_log_recovery.specs.Scan.{AreFound}
use Rattle.raft_log_recovery.proofs.AgainLemmas.{none_keeps}
use Rattle.raft_log_recovery.proofs.BesideLemmas.{HaveSame, aligned_same, batches_same, bytes_same, file_same, found_same, got_same, has_refused_same, have_beside, open_same, refused_same, sound_same, turned}
use Rattle.raft_log_recovery.proofs.FoundLemmas.{found_numbered}
use Rattle.raft_log_recovery.proofs.HoleLemmas.{broken_before, hole_before}
use Rattle.raft_log_recovery.proofs.QueueLemmas.{number_of}
use Rattle.raft_log_recovery.proofs.RepairLemmas.{leaves_same}

-- what is opened had nothing to refuse
pub kept_either : {X E : Type 0} (r : Result X E) (mode : RecoveryMode) (directories : List Text) (queue : LogQueue) (names : List FileName) (old new : Disk) → (AnyRefused mode directories queue names old → IsErr r)
    → OnErr r (KeepsRefused mode directories queue names old new) → KeepsRefused mode directories queue names old new
kept_either (Ok x) mode directories queue names old new refused kept = none_keeps mode directories queue names old new (λ any. false≢true (refused any))
kept_either (Err e) mode directories queue names old new refused kept = kept

pub opened_of : {E : Type 0} (r : Result SinglePipe E) (b : DualPipesBuilder) (queue : LogQueue) (old new : Disk) → IfOk r (λ p. IsPipe p new) → IfOk r (λ p. p.queue ≡ queue) → IfOk r (λ p. directories_of_pipe p ≡ directories_in b)
    → IfOk r (λ p. IsOnce old.names (directories_in b) queue → IsAlone p new)
    → IfOk r (IsSetBy b) → IfOk r (IsOpened b queue old new)
opened_of (Ok p) b queue old new pipe same paths alone settings = record { pipe = pipe; queue_is = same; paths = paths; alone = alone; settings = settings }
opened_of (Err e) b queue old new pipe same paths alone settings = tt

some_in : (name : FileName) (names : List FileName) → IsIn name names → 0 < length names
some_in name [] there = absurd there
some_in name (n ∷ names) there = omega arith

-- ---- one queue beside the other

module _ (mode : RecoveryMode) (directories : List Text) (queue : LogQueue) (names : List FileName) where
  numbers_in : (d : Disk) → AreFound d (Log queue) directories names → AreNumbered (length directories) names
  numbers_in d found = found_numbered d (Log queue) directories (length directories) names (omega arith) found

  seq_in_names : (d : Disk) → AreFound d (Log queue) directories names → (name : FileName) → IsIn name names → IsFileSeq name.seq
  seq_in_names d found name among = (number_of (length directories) names (numbers_in d found) name among).0

  among_behind : (before behind : List FileName) (name other : FileName) → names ≡ before ++ name ∷ behind → IsIn other (name ∷ behind) → IsIn other names
  among_behind before behind name other is there = subst (IsIn other) (sym is) (in_second other before (name ∷ behind) there)

  -- nothing of it changed
  pub leaves_untouched : (d e : Disk) → HaveSame queue d e → IsNamed d → IsNamed e → AreFound d (Log queue) directories names → LeavesQueue mode directories queue names d e
  leaves_untouched d e same old new found = record {
    again = sound_same queue e d (turned queue d e same) new old mode directories;
    left = λ name fd among of rest.
        subst (λ (x : FileState). LeavesBatches (id_of queue name.seq) x (batches_in (id_of queue name.seq) (d.file fd).bytes))
        (sym (bytes_same queue d e same old new directories name fd (seq_in_names d found name among) of)) (leaves_same (id_of queue name.seq) (d.file fd) rest);
    kept = λ before name behind is refused other fd there of.
        bytes_same queue d e same old new directories other fd (seq_in_names d found other (among_behind before behind name other is there)) of;
  }

  -- nothing after it was opened
  pub leaves_on : (d mid new : Disk) → HaveSame queue mid new → IsNamed mid → IsNamed new → AreFound d (Log queue) directories names → ChangesAtMost directories queue names d mid → LeavesQueue mode directories queue names d mid
      → LeavesQueue mode directories queue names d new
  leaves_on d mid new same between next found only first = record {
    again = λ bs s. first.again bs (sound_same queue new mid (turned queue mid new same) next between mode directories bs s);
    left = λ name fd among of rest.
        subst (λ (x : FileState). LeavesBatches (id_of queue name.seq) x (batches_in (id_of queue name.seq) (d.file fd).bytes)) (sym (stays name fd among of)) (first.left name fd among of rest);
    kept = λ before name behind is refused other fd there of.
        stays other fd (among_behind before behind name other is there) of ∙ first.kept before name behind is refused other fd there of;
  }
    where
      stays : (name : FileName) (fd : ℕ) → IsIn name names → IsFileOf d directories queue name fd → new.file fd ≡ mid.file fd
      stays name fd among of =
          bytes_same queue mid new same between next directories name fd (seq_in_names d found name among)
          (ap (λ (l : Names). fd_of l (path_of directories queue name)) (only (some_in name names among)).names_stay ∙ of)

  -- nothing before it was opened
  pub leaves_from : (d mid new : Disk) → HaveSame queue d mid → IsNamed d → IsNamed mid → AreFound d (Log queue) directories names → LeavesQueue mode directories queue names mid new → LeavesQueue mode directories queue names d new
  leaves_from d mid new same old between found second = record {
    again = λ bs s. sound_same queue mid d (turned queue d mid same) between old mode directories bs (second.again bs s);
    left = λ name fd among of rest.
        let below = seq_in_names d found name among in
        let bytes = bytes_same queue d mid same old between directories name fd below of in
        subst (λ (x : FileState). LeavesBatches (id_of queue name.seq) (new.file fd) (batches_in (id_of queue name.seq) x.bytes)) bytes
        (second.left name fd among (file_same queue d mid same old between directories name fd below of) (subst IsAtRest (sym bytes) rest));
    kept = λ before name behind is refused other fd there of.
        let first_below = seq_in_names d found name (among_behind before behind name name is (inl refl)) in
        let below = seq_in_names d found other (among_behind before behind name other is there) in
        second.kept before name behind is (has_refused_same queue d mid same old between mode directories name behind first_below refused) other fd there (file_same queue d mid same old between directories other fd below of)
        ∙ bytes_same queue d mid same old between directories other fd below of;
  }

-- ---- its pipe

module _ (directories : List Text) (own other : LogQueue) (names : List FileName) (d mid new : Disk) (p : SinglePipe) (all : List Placed) where
  pub with_on : (p.queue ≡ other → ⊥) → KeepsOthers other mid new → IsPipeWith directories own names d mid p all → IsPipeWith directories own names d new p all
  with_on apart keeps w = record {
    files = w.files;
    pipe = record { opened = w.pipe.opened; among = w.pipe.among; holds = pipe_holds_beside other p mid new apart keeps (batches_of own d w.files) [] w.pipe.holds };
    got = w.got;
  }

  pub with_from : HaveSame own d mid → IsNamed d → IsNamed mid → AreFound d (Log own) directories names → IsPipeWith directories own names mid new p all → IsPipeWith directories own names d new p all
  with_from same old between found w =
      let count : ℕ = length directories in
      let numbers = found_numbered d (Log own) directories count names (omega arith) found in
      let back = turned own d mid same in
      record {
        files = w.files;
        pipe = record {
          opened = open_same own mid d back between old directories count names w.files numbers w.pipe.opened;
          among = w.pipe.among;
          holds = subst (λ (bs : Numbered). Holds p new bs []) (sym (batches_same own mid d back between old directories count names w.files numbers w.pipe.opened)) w.pipe.holds;
        };
        got = got_same own mid d back between old directories count names w.files [] all numbers w.pipe.opened w.got;
      }

-- ---- one queue was opened

pub apart_from : (first : LogQueue) → other_queue first ≡ first → ⊥
apart_from Append e = not_rewrite Append refl (sym e)
apart_from Rewrite e = not_append Rewrite refl (sym e)

pub found_of : (b : DualPipesBuilder) (d : Disk) (queue : LogQueue) → IsFoundBy b Append d → IsFoundBy b Rewrite d → IsFoundBy b queue d
found_of b d Append append rewrite = append
found_of b d Rewrite append rewrite = rewrite

-- what both leave, by which was first
leave_both : (mode : RecoveryMode) (b : DualPipesBuilder) (first : LogQueue) (d new : Disk) → LeavesQueue mode (directories_in b) first (names_in b first) d new
    → LeavesQueue mode (directories_in b) (other_queue first) (names_in b (other_queue first)) d new → ChangesBoth d new → LeavesBoth mode b d new
leave_both mode b Append d new one two only = record { append = one; rewrite = two; only = only }
leave_both mode b Rewrite d new one two only = record { append = two; rewrite = one; only = only }

open_both : (b : DualPipesBuilder) (first : LogQueue) (d new : Disk) (both : DualPipes) → IsOpened b first d new (pipe_of both first) → IsOpened b (other_queue first) d new (pipe_of both (other_queue first)) → AreOpened b d new both
open_both b Append d new both one two = record { append = one; rewrite = two }
open_both b Rewrite d new both one two = record { append = two; rewrite = one }

are_both : (first : LogQueue) (new : Disk) (both : DualPipes) → IsPipe (pipe_of both first) new → IsPipe (pipe_of both (other_queue first)) new → ArePipes both new
are_both Append new both one two = record { append = one; rewrite = two }
are_both Rewrite new both one two = record { append = two; rewrite = one }

each_of : (P : LogQueue → Type 0) (first : LogQueue) → P first → P (other_queue first) → (queue : LogQueue) → P queue
each_of P Append one two Append = one
each_of P Append one two Rewrite = two
each_of P Rewrite one two Append = two
each_of P Rewrite one two Rewrite = one

module _ (mode : RecoveryMode) (b : DualPipesBuilder) (first : LogQueue) (d mid : Disk) (old : IsNamed d) (between : IsNamed mid) (one_found : IsFoundBy b first d) (two_found : IsFoundBy b (other_queue first) d)
    (earlier : KeepsOthers first d mid) where
  abbrev At : List Text
  At = directories_in b

  abbrev Other : LogQueue
  Other = other_queue first

  same : HaveSame Other d mid
  same = have_beside first Other d mid (apart_from first) old between earlier

  pub found_still : IsFoundBy b Other mid
  found_still = found_same Other d mid same old between At (names_in b Other) two_found

  pub first_leaves : LeavesQueue mode At first (names_in b first) d mid → LeavesBoth mode b d mid
  first_leaves leaves =
      leave_both mode b first d mid leaves (leaves_untouched mode At Other (names_in b Other) d mid same old between two_found)
      (record { first = first; between = mid; earlier = earlier; later = same_others Other mid mid refl })

  cant_still : CantBeOpened mode b Other d → CantBeOpened mode b Other mid
  cant_still (inl refused) = inl (refused_same Other d mid same old between mode At (length At) (names_in b Other) (numbers_in mode At Other (names_in b Other) d two_found) refused)
  cant_still (inr aligned) = inr (aligned_same Other d mid same old between At (length At) (names_in b Other) (numbers_in mode At Other (names_in b Other) d two_found) aligned)

  -- what can't be opened of either queue wasn't
  pub neither : (CantBeOpened mode b first d → ⊥) → (CantBeOpened mode b Other mid → ⊥) → (queue : LogQueue) → CantBeOpened mode b queue d → ⊥
  neither one two = each_of (λ queue. CantBeOpened mode b queue d → ⊥) first one (λ cant. two (cant_still cant))

  -- and then the other one
  module _ (new : Disk) (next : IsNamed new) (later : KeepsOthers Other mid new) where
    pub both_leave : LeavesQueue mode At first (names_in b first) d mid → ChangesAtMost At first (names_in b first) d mid → LeavesQueue mode At Other (names_in b Other) mid new → LeavesBoth mode b d new
    both_leave leaves only second =
        leave_both mode b first d new
        (leaves_on mode At first (names_in b first) d mid new (have_beside Other first mid new (λ e. apart_from first (sym e)) between next later) between next one_found only leaves)
        (leaves_from mode At Other (names_in b Other) d mid new same old between two_found second)
        (record { first = first; between = mid; earlier = earlier; later = later })

    module _ (p q : SinglePipe) (both : DualPipes) (one_is : pipe_of both first ≡ p) (two_is : pipe_of both Other ≡ q) (one : IsOpened b first d mid p) (two : IsOpened b Other mid new q) where
      apart : p.queue ≡ Other → ⊥
      apart other = apart_from first (sym other ∙ one.queue_is)

      pub both_opened : AreOpened b d new both
      both_opened =
          open_both b first d new both
          (subst (IsOpened b first d new) (sym one_is) (record {
            pipe = pipe_beside Other p mid new apart later one.pipe;
            queue_is = one.queue_is;
            paths = one.paths;
            alone = λ once. alone_beside Other p mid new apart later between next (one.alone once);
            settings = one.settings;
          }))
          (subst (IsOpened b Other d new) (sym two_is) (record {
            pipe = two.pipe;
            queue_is = two.queue_is;
            paths = two.paths;
            alone = λ once. two.alone (once_beside first Other d mid (apart_from first) earlier At old once);
            settings = two.settings;
          }))

      pub both_pipes : ArePipes both new
      both_pipes =
          are_both first new both (subst (λ (x : SinglePipe). IsPipe x new) (sym one_is) (pipe_beside Other p mid new apart later one.pipe))
          (subst (λ (x : SinglePipe). IsPipe x new) (sym two_is) two.pipe)

      pub one_with : (ones : List Placed) → IsPipeWith At first (names_in b first) d mid p ones → IsPipeWith At first (names_in b first) d new (pipe_of both first) ones
      one_with ones w = subst (λ (x : SinglePipe). IsPipeWith At first (names_in b first) d new x ones) (sym one_is) (with_on At first Other (names_in b first) d mid new p ones apart later w)

      pub two_with : (twos : List Placed) → IsPipeWith At Other (names_in b Other) mid new q twos → IsPipeWith At Other (names_in b Other) d new (pipe_of both Other) twos
      two_with twos w = subst (λ (x : SinglePipe). IsPipeWith At Other (names_in b Other) d new x twos) (sym two_is) (with_from At Other first (names_in b Other) d mid new q twos same old between two_found w)

      pub both_holes : (ones : List Placed) → IsPipeWith At first (names_in b first) d mid p ones → HolesOnlyBroken mode At first (names_in b first) d mid p → HolesOnlyBroken mode At Other (names_in b Other) mid new q → (queue : LogQueue)
          → HolesOnlyBroken mode At queue (names_in b queue) d new (pipe_of both queue)
      both_holes ones w early late =
          each_of (λ queue. HolesOnlyBroken mode At queue (names_in b queue) d new (pipe_of both queue)) first
          (λ hole. early (hole_before Other p mid new (batches_of first d w.files) [] apart later w.pipe.holds (subst (λ (x : SinglePipe). HasHole x new) one_is hole)))
          (λ hole.
          let broken = late (subst (λ (x : SinglePipe). HasHole x new) two_is hole) in
          (broken.0, broken_before Other d mid same old between At (length At) (names_in b Other) (numbers_in mode At Other (names_in b Other) d two_found) broken.1))

-- ---- what was replayed

-- a queue without files has no batches
none_replayed : (directories : List Text) (queue : LogQueue) (names : List FileName) (d new : Disk) (p : SinglePipe) (all : List Placed) → names ≡ [] → IsPipeWith directories queue names d new p all → all ≡ []
none_replayed directories queue names d new p all none w =
    let files : w.files ≡ [] = subst (λ (ns : List FileName). AreOpen d directories queue ns w.files) none w.pipe.opened in
    subst (λ (fs : List File). AreAllGot queue d [] fs all) files w.got

-- those of the rewrite queue come first, or the append queue has none
pub with_both : (b : DualPipesBuilder) (first : LogQueue) (d new : Disk) (both : DualPipes) (ones twos : List Placed) → (first ≡ Rewrite) ⊎ (names_in b first ≡ [])
    → IsPipeWith (directories_in b) first (names_in b first) d new (pipe_of both first) ones → IsPipeWith (directories_in b) (other_queue first) (names_in b (other_queue first)) d new (pipe_of both (other_queue first)) twos
    → ArePipesWith b d new both (ones ++ twos)
with_both b Rewrite d new both ones twos order one two = record { rewrites = ones; appends = twos; all_are = refl; rewrite = one; append = two }
with_both b Append d new both ones twos (inl e) one two = absurd (not_append Append e refl)
with_both b Append d new both ones twos (inr none) one two = record {
  rewrites = twos;
  appends = ones;
  all_are =
      let nothing = none_replayed (directories_in b) Append (names_in b Append) d new both.append ones none one in
      ap (λ (l : List Placed). l ++ twos) nothing ∙ sym (append-nil twos) ∙ ap (λ (l : List Placed). twos ++ l) (sym nothing);
  rewrite = two;
  append = one;
}
