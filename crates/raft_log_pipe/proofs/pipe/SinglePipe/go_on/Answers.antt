use Rattle.std.proofs.Common.{[], sym, subst}
use Rattle.raft_log_disk.proofs.CauseLemmas.{at_err}
use Rattle.raft_log_pipe.specs.Alone.{IsAlone, directories_of_pipe}
use Rattle.raft_log_pipe.specs.Pipe.{Holds, Numbered, id_of}
use Rattle.raft_log_pipe.specs.Reserved.{AreReserved}
use Rattle.raft_log_pipe.specs.Torn.{IsTornAtEnd}
use Rattle.raft_log_pipe.proofs.AloneLemmas.{with_older}
use Rattle.raft_log_pipe.proofs.BehindLemmas.{behind_leaves, behind_nearly, behind_torn, behind_writer, gone_leaves, gone_nearly, gone_torn, gone_writer, next_alone, next_holds, next_pipe, stored_none}
use Rattle.raft_log_pipe.proofs.pipe.SinglePipe.go_on.Goals as goal

pub returns-in_err-file-clause-writer : goal.returns-in_err-file-clause-writer
returns-in_err-file-clause-writer g c =
    let met = g.met.F.FileSystem g.world.𝓛 g.world.𝓜 g.world.𝓡 ((λ s x. x), (λ x. x), (λ x. x), λ x. x) in
    gone_writer c.args.self.now (g.F.FileSystem.disk c.args.files.now) (g.F.FileSystem.disk c.begin_next.new.files) c.in_err-file.field-0.0 (met.is_named c.args.files.now) c.requires.pipe c.in_err-file.ensures.goes

pub returns-in_err-file-clause-nearly : goal.returns-in_err-file-clause-nearly
returns-in_err-file-clause-nearly g c =
    at_err _ _ (gone_nearly c.args.self.now (g.F.FileSystem.disk c.args.files.now) (g.F.FileSystem.disk c.begin_next.new.files) c.in_err-file.field-0.0 c.requires.number c.in_err-file.ensures.goes)

pub returns-in_err-file-clause-err : goal.returns-in_err-file-clause-err
returns-in_err-file-clause-err g c =
    let met = g.met.F.FileSystem g.world.𝓛 g.world.𝓜 g.world.𝓡 ((λ s x. x), (λ x. x), (λ x. x), λ x. x) in
    at_err _ _ (gone_leaves c.args.self.now (g.F.FileSystem.disk c.args.files.now) (g.F.FileSystem.disk c.begin_next.new.files) c.in_err-file.field-0.0 (met.is_named c.args.files.now) c.in_err-file.ensures.goes)

pub returns-in_err-file-clause-torn : goal.returns-in_err-file-clause-torn
returns-in_err-file-clause-torn g c =
    let met = g.met.F.FileSystem g.world.𝓛 g.world.𝓜 g.world.𝓡 ((λ s x. x), (λ x. x), (λ x. x), λ x. x) in
    at_err _ (IsAlone c.args.self.now (g.F.FileSystem.disk c.args.files.now) → (s : Numbered) → Holds c.args.self.now (g.F.FileSystem.disk c.args.files.now) s [] → IsTornAtEnd c.args.self.now (g.F.FileSystem.disk c.begin_next.new.files))
    (λ alone s h. gone_torn c.args.self.now (g.F.FileSystem.disk c.args.files.now) (g.F.FileSystem.disk c.begin_next.new.files) s (met.is_named c.args.files.now) c.requires.number c.requires.ended h alone c.in_err-file.field-0.0 c.in_err-file.ensures.goes)

pub returns-in_err-push-clause-writer : goal.returns-in_err-push-clause-writer
returns-in_err-push-clause-writer g c =
    let met = g.met.F.FileSystem g.world.𝓛 g.world.𝓜 g.world.𝓡 ((λ s x. x), (λ x. x), (λ x. x), λ x. x) in
    behind_writer c.args.self.now (g.F.FileSystem.disk c.args.files.now) (g.F.FileSystem.disk c.begin_next.new.files) c.in_ok-file.file (met.is_named c.args.files.now) c.requires.pipe c.in_ok-file.ensures.goes.0

pub returns-in_err-push-clause-nearly : goal.returns-in_err-push-clause-nearly
returns-in_err-push-clause-nearly g c =
    at_err _ _ (behind_nearly c.args.self.now (g.F.FileSystem.disk c.args.files.now) (g.F.FileSystem.disk c.begin_next.new.files) c.in_ok-file.file c.push.new.self c.in_err-push.ensures.items c.requires.number c.in_ok-file.ensures.goes.0
    (stored_none (id_of c.args.self.now.queue c.in_ok-file.file.seq) c.in_ok-file.file.format c.in_ok-file.writer.offset ((g.F.FileSystem.disk c.begin_next.new.files).file c.in_ok-file.file.handle.0) c.in_ok-file.ensures.goes.1))

pub returns-in_err-push-clause-err : goal.returns-in_err-push-clause-err
returns-in_err-push-clause-err g c =
    let met = g.met.F.FileSystem g.world.𝓛 g.world.𝓜 g.world.𝓡 ((λ s x. x), (λ x. x), (λ x. x), λ x. x) in
    at_err _ _ (behind_leaves c.args.self.now (g.F.FileSystem.disk c.args.files.now) (g.F.FileSystem.disk c.begin_next.new.files) c.in_ok-file.file c.push.new.self.items c.in_err-push.ensures.items (met.is_named c.args.files.now) c.in_ok-file.ensures.goes.0)

pub returns-in_err-push-clause-torn : goal.returns-in_err-push-clause-torn
returns-in_err-push-clause-torn g c =
    let met = g.met.F.FileSystem g.world.𝓛 g.world.𝓜 g.world.𝓡 ((λ s x. x), (λ x. x), (λ x. x), λ x. x) in
    at_err _ (IsAlone c.args.self.now (g.F.FileSystem.disk c.args.files.now) → (s : Numbered) → Holds c.args.self.now (g.F.FileSystem.disk c.args.files.now) s [] → IsTornAtEnd (with_older c.args.self.now c.push.new.self) (g.F.FileSystem.disk c.begin_next.new.files))
    (λ alone s h. behind_torn c.args.self.now (g.F.FileSystem.disk c.args.files.now) (g.F.FileSystem.disk c.begin_next.new.files) s (met.is_named c.args.files.now) c.requires.number c.requires.ended h alone c.in_ok-file.file c.push.new.self c.in_err-push.ensures.items c.in_ok-file.ensures.goes.0
    (stored_none (id_of c.args.self.now.queue c.in_ok-file.file.seq) c.in_ok-file.file.format c.in_ok-file.writer.offset ((g.F.FileSystem.disk c.begin_next.new.files).file c.in_ok-file.file.handle.0) c.in_ok-file.ensures.goes.1).plain)

pub returns-clause-pipe : goal.returns-clause-pipe
returns-clause-pipe g c =
    let met = g.met.F.FileSystem g.world.𝓛 g.world.𝓜 g.world.𝓡 ((λ s x. x), (λ x. x), (λ x. x), λ x. x) in
    next_pipe c.args.self.now (g.F.FileSystem.disk c.args.files.now) (g.F.FileSystem.disk c.begin_next.new.files) c.push.new.self c.drop_first.new.files c.in_ok-file.file c.in_ok-file.writer (met.is_named c.args.files.now) c.requires.number c.in_ok-push.ensures.items c.in_ok-file.ensures.goes.0 (met.is_named c.begin_next.new.files) c.requires.pipe c.in_ok-file.ensures.goes.2 c.in_ok-file.ensures.goes.3
    (subst (AreReserved c.args.self.now.queue (directories_of_pipe c.args.self.now) (g.F.FileSystem.disk c.begin_next.new.files)) (sym c.drop_first.ensures) c.in_ok-file.ensures.left)

pub returns-clause-alone : goal.returns-clause-alone
returns-clause-alone g c =
    let met = g.met.F.FileSystem g.world.𝓛 g.world.𝓜 g.world.𝓡 ((λ s x. x), (λ x. x), (λ x. x), λ x. x) in
    next_alone c.args.self.now (g.F.FileSystem.disk c.args.files.now) (g.F.FileSystem.disk c.begin_next.new.files) c.push.new.self c.drop_first.new.files c.in_ok-file.file c.in_ok-file.writer (met.is_named c.args.files.now) c.requires.number c.in_ok-push.ensures.items c.in_ok-file.ensures.goes.0

pub returns-clause-ok : goal.returns-clause-ok
returns-clause-ok g c =
    let met = g.met.F.FileSystem g.world.𝓛 g.world.𝓜 g.world.𝓡 ((λ s x. x), (λ x. x), (λ x. x), λ x. x) in
    next_holds c.args.self.now (g.F.FileSystem.disk c.args.files.now) (g.F.FileSystem.disk c.begin_next.new.files) c.push.new.self c.drop_first.new.files c.in_ok-file.file c.in_ok-file.writer (met.is_named c.args.files.now) c.requires.number c.in_ok-push.ensures.items c.in_ok-file.ensures.goes.0 c.in_ok-file.ensures.goes.1 c.requires.ended
