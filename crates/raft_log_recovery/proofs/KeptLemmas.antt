-- Pipes that were opened, with the reserved files that were found.
use Rattle.std.proofs.Common.{◌≡◌, List, refl, sym, ap, subst, ◌∙◌}
use Rattle.std.specs.Prelude.{Result, Ok, Err, OnOk}
use Rattle.raft_log_records.specs.declared.file_id.LogQueue.{LogQueue}
use Rattle.raft_log_records.specs.declared.file_id.LogQueue.TheVariants.{Append, Rewrite}
use Rattle.raft_log_disk.specs.Disk.{Disk}
use Rattle.raft_log_pipe.specs.declared.pipe.SinglePipe.{SinglePipe}
use Rattle.raft_log_pipe.specs.Kept.{with_reserved}
use Rattle.raft_log_pipe.specs.Pipe.{IsPipe}
use Rattle.raft_log_pipes.specs.declared.pipes.DualPipes.{DualPipes}
use Rattle.raft_log_recovery.specs.declared.builder.DualPipesBuilder.{DualPipesBuilder}
use Rattle.raft_log_recovery.specs.Both.{AreOpened, ArePipesWith, HaveFewHoles, IsOpened}
use Rattle.raft_log_recovery.specs.Crashed.{HasHole}
use Rattle.raft_log_recovery.specs.Opening.{IsPipeWith}
use Rattle.raft_log_recovery.specs.Queue.{directories_in, names_in}
use Rattle.raft_log_recovery.specs.Replay.{Placed}

module _ (builder : DualPipesBuilder) (old new : Disk) (p q : DualPipes) (append : q.append ≡ with_reserved p.append q.append.reserved q.append.capacity) (rewrite : q.rewrite ≡ p.rewrite) where
  pub opened_as : IsPipe q.append new → AreOpened builder old new p → AreOpened builder old new q
  opened_as usable o = record {
    append = subst (IsOpened builder Append old new) (sym append) (record {
      pipe = subst (λ (x : SinglePipe). IsPipe x new) append usable;
      queue_is = o.append.queue_is;
      paths = o.append.paths;
      alone = o.append.alone;
      settings = o.append.settings;
    });
    rewrite = subst (IsOpened builder Rewrite old new) (sym rewrite) o.rewrite;
  }

  pub with_as : (all : List Placed) → ArePipesWith builder old new p all → ArePipesWith builder old new q all
  with_as all w = record {
    rewrites = w.rewrites;
    appends = w.appends;
    all_are = w.all_are;
    rewrite = subst (λ (x : SinglePipe). IsPipeWith (directories_in builder) Rewrite (names_in builder Rewrite) old new x w.rewrites) (sym rewrite) w.rewrite;
    append = subst (λ (x : SinglePipe). IsPipeWith (directories_in builder) Append (names_in builder Append) old new x w.appends) (sym append) (record {
      files = w.append.files;
      pipe = record {
        opened = w.append.pipe.opened;
        among = w.append.pipe.among;
        holds = w.append.pipe.holds;
      };
      got = w.append.got;
    });
  }

  pub holes_as : HaveFewHoles builder old new p → HaveFewHoles builder old new q
  holes_as few Append = λ hole. few Append (subst (λ (x : SinglePipe). HasHole x new) append hole)
  holes_as few Rewrite = λ hole. few Rewrite (subst (λ (x : SinglePipe). HasHole x new) rewrite hole)

-- two facts of a result, as one
pub ok_two : {T E : Type 0} (r : Result T E) (A B C : Type 0) → (A → B → C) → OnOk r A → OnOk r B → OnOk r C
ok_two (Ok x) A B C f a b = f a b
ok_two (Err e) A B C f a b = tt
