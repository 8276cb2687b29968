use Rattle.raft_log_pipe.proofs.ExitLemmas.{rotated_ok}
use Rattle.raft_log_pipe.proofs.BlockLemmas.{next_files}
use Rattle.raft_log_pipe.proofs.FirstLemmas.{begun_first}
use Rattle.std.proofs.Common.{refl}
use Rattle.raft_log_pipe.proofs.OthersLemmas.{same_others}
use Rattle.std.proofs.Common.{inr, arith}
use Rattle.std.proofs.lemmas.Result.{on_ok_weaker}
use Rattle.raft_log_pipe.specs.Taken.{IsBarred, IsFull, IsUnmade, IsUnnumbered}
use Rattle.raft_log_pipe.proofs.TakenLemmas.{taken_more}
use Rattle.raft_log_disk.specs.Cause.{Rises}
use Rattle.raft_log_pipe.specs.Caused.{LacksPlace}
use Rattle.raft_log_pipe.proofs.CausedLemmas.{cause_more}
use Rattle.raft_log_pipe.proofs.pipe.SinglePipe.make_room.Goals as goal

pub returns-clause-ok : goal.returns-clause-ok
returns-clause-ok g c = rotated_ok c.rotate.result c.args.self.now c.rotate.new.self (g.F.FileSystem.disk c.args.files.now) (g.F.FileSystem.disk c.rotate.new.files) c.rotate.ensures.ok

pub returns-clause-files : goal.returns-clause-files
returns-clause-files g c = next_files c.rotate.result c.args.self.now c.rotate.new.self c.rotate.ensures.next

pub returns-clause-first : goal.returns-clause-first
returns-clause-first g c = on_ok_weaker c.rotate.result (begun_first c.args.self.now c.rotate.new.self) c.rotate.ensures.next

pub returns-then-offset-self-clause-others : goal.returns-then-offset-self-clause-others
returns-then-offset-self-clause-others g c =
    same_others c.args.self.now.queue _ _ refl

pub returns-clause-room : goal.returns-clause-room
returns-clause-room g c = on_ok_weaker c.rotate.result inr c.rotate.ensures.begun

pub returns-clause-taken : goal.returns-clause-taken
returns-clause-taken g c =
    let full : IsFull c.args.self.now = omega (arith, c.if-offset-self.false, c.offset.ensures) in
    let d = g.F.FileSystem.disk c.args.files.now in
    λ free. taken_more (IsUnnumbered c.args.self.now) (IsUnmade c.args.self.now d) (IsBarred c.args.self.now d)
    (IsFull c.args.self.now × IsUnnumbered c.args.self.now) (IsFull c.args.self.now × IsUnmade c.args.self.now d) (IsFull c.args.self.now × IsBarred c.args.self.now d) c.rotate.result
    (λ x. (full, x)) (λ x. (full, x)) (λ x. (full, x)) (c.rotate.ensures.taken free)

pub returns-clause-begins : goal.returns-clause-begins
returns-clause-begins g c = on_ok_weaker c.rotate.result (λ next. inr (full, next.0)) c.rotate.ensures.next
  where
    full : IsFull c.args.self.now
    full = omega (arith, c.if-offset-self.false, c.offset.ensures)

pub returns-clause-cause : goal.returns-clause-cause
returns-clause-cause g c =
    let full : IsFull c.args.self.now = omega (arith, c.if-offset-self.false, c.offset.ensures) in
    let rises : Type 0 = Rises 1 (g.F.FileSystem.meter c.args.files.now) (g.F.FileSystem.meter c.rotate.new.files) in
    let place : Type 0 = LacksPlace c.args.self.now (g.F.FileSystem.disk c.args.files.now) 1 in
    cause_more rises ⊥ (IsUnnumbered c.args.self.now) place rises ⊥ (IsFull c.args.self.now × IsUnnumbered c.args.self.now) (IsFull c.args.self.now × place) c.rotate.result
    (λ x. x) (λ x. x) (λ x. (full, x)) (λ x. (full, x)) c.rotate.ensures.cause
