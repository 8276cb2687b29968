-- A log that can be cleaned, of which the rewrite queue is written anew.
use Rattle.std.proofs.Common.{◌≡◌, inl, ℕ, ◌+◌, List, Option, Some, None, false}
use Rattle.std.specs.Prelude.{Result, Ok, Err, OnErr, OnOk}
use Rattle.raft_log_disk.specs.Disk.{Disk}
use Rattle.raft_log_pipes.specs.declared.pipes.DualPipes.{DualPipes}
use Rattle.raft_log_memtables.specs.Content.{Content}
use Rattle.raft_log_traced.specs.declared.traced.TracedTables.{TracedTables}
use Rattle.raft_log_cleaner.specs.Cleaning.{CanClean, IsLeftStanding, KeepsFromBarrier}
use Rattle.raft_log_cleaner.specs.Pipes.{KeepBoth, KeepsAppends}
use Rattle.raft_log_rewriter.specs.Standing.{CanRewrite}
use Rattle.raft_log_rewriter.specs.Standing as rewriter
use Rattle.raft_log_cleaning.specs.Extents.{HasOnlyNew}
use Rattle.raft_log_pipe.specs.Pipe.{first_of}
use Rattle.raft_log_cleaning.proofs.expired.write_queue.Goals as goal

can_rewrite : (d : Disk) (p : DualPipes) (log : TracedTables) (content : Content (List ℕ)) → log.is_parted ≡ false → CanClean d p log content → CanRewrite d p log content
can_rewrite d p log content is can = record { can = can; together = can.together is }

still_cleaned : {X E : Type 0} (result : Result X E) (d : Disk) (p : DualPipes) (log : TracedTables) (content : Content (List ℕ)) → OnOk result (CanRewrite d p log content) → OnOk result (CanClean d p log content)
still_cleaned (Ok x) d p log content can = can.can
still_cleaned (Err x) d p log content none = tt

keeps_both : {X E : Type 0} (result : Result X E) (d e : Disk) (p q : DualPipes) → OnOk result (KeepsAppends d p e q) → OnOk result (KeepBoth d p e q)
keeps_both (Ok x) d e p q kept = (kept.append, kept.rewrite)
keeps_both (Err x) d e p q none = tt

only_new : {X E : Type 0} (result : Result X E) (d e : Disk) (p q : DualPipes) → OnOk result (KeepsAppends d p e q) → OnOk result (first_of q.rewrite ≡ p.rewrite.active.seq + 1) → OnOk result (HasOnlyNew p q)
only_new (Ok x) d e p q kept gone = record { rewrite = gone; append = kept.first }
only_new (Err x) d e p q none gone = tt

from_any : {X E : Type 0} (result : Result X E) (d e : Disk) (p q : DualPipes) (barrier : Option ℕ) → OnOk result (KeepsAppends d p e q) → OnOk result (KeepsFromBarrier barrier p q)
from_any (Ok x) d e p q None kept = tt
from_any (Ok x) d e p q (Some file) kept = inl kept.first
from_any (Err x) d e p q barrier none = tt

stand_so : {X E : Type 0} (result : Result X E) (d e : Disk) (p q : DualPipes) (log : TracedTables) → log.is_parted ≡ false → OnErr result (rewriter.IsLeftStanding d p log e q) → OnErr result (IsLeftStanding d p log e q)
stand_so (Ok x) d e p q log is none = tt
stand_so (Err x) d e p q log is left = λ content can. left content (can_rewrite d p log content is can)

pub must_rewrite_rewrite_queue-requires-after_bounds : goal.must_rewrite_rewrite_queue-requires-after_bounds
must_rewrite_rewrite_queue-requires-after_bounds g c κs within =
    (c.requires.can.0, can_rewrite (g.F.FileSystem.disk c.args.files.now) c.args.pipes.now c.args.log.now c.requires.can.0 c.requires.together c.requires.can.1)

pub returns : goal.returns
returns g c =
    let d = g.F.FileSystem.disk c.args.files.now in
    let e = g.F.FileSystem.disk c.must_rewrite_rewrite_queue.new.files in
    let p = c.args.pipes.now in
    let q = c.must_rewrite_rewrite_queue.new.pipes in
    let log = c.args.log.now in
    let result = c.must_rewrite_rewrite_queue.result in
    let done = c.must_rewrite_rewrite_queue.ensures in
    let can = λ (content : Content (List ℕ)). λ (was : CanClean d p log content). can_rewrite d p log content c.requires.together was in
    record {
      cleans = record {
        ok = λ content was. still_cleaned result e q c.must_rewrite_rewrite_queue.new.log content (done.rewrites.ok content (can content was));
        err = λ content was. done.rewrites.err content (can content was);
      };
      both = keeps_both result d e p q done.kept;
      stands = stand_so result d e p q log c.requires.together done.left;
      anew = only_new result d e p q done.kept done.gone;
      append = done.append;
      barrier = λ barrier. from_any result d e p q barrier done.kept;
      later = done.later;
      cause = done.cause;
    }
