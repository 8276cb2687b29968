use Rattle.std.proofs.Common.{List, map, sym, subst, ◌∙◌}
use Rattle.std.specs.Prelude.{String, Ok, Err}
use Rattle.std.specs.String.{string_bytes}
use Rattle.std.specs.declared.alloc.Global.{Global}
use Rattle.raft_log_disk.specs.Disk.{IsNoFile}
use Rattle.raft_log_disk.specs.Cause.{Rises}
use Rattle.raft_log_disk.proofs.RefusalLemmas.{no_more_then, still_free}
use Rattle.raft_log_file.specs.declared.writer.LogFileWriter.{LogFileWriter}
use Rattle.raft_log_pipe.specs.declared.file.File.{File}
use Rattle.raft_log_pipe.specs.Alone.{IsMadeIn}
use Rattle.raft_log_pipe.specs.Caused.{LacksPlace}
use Rattle.raft_log_pipe.specs.Pipe.{IsPlain}
use Rattle.raft_log_pipe.specs.Taken.{IsBarred, IsUnmade}
use Rattle.raft_log_pipe.proofs.BehindLemmas.{begun_goes, exit_goes, refused_goes, unbegun_goes}
use Rattle.raft_log_pipe.proofs.CausedLemmas.{rises_then}
use Rattle.raft_log_pipe.proofs.NextLemmas.{begun_changes, made_begun}
use Rattle.raft_log_pipe.proofs.OthersLemmas.{made_others, refused_others}
use Rattle.raft_log_pipe.proofs.TakenLemmas.{exit_fault, made_there}
use Rattle.raft_log_pipe.proofs.EndLemmas.{not_given, not_ok}
use Rattle.raft_log_pipe.proofs.pipe.SinglePipe.begin_new.Goals as goal

pub returns-in_err-file-clause-goes : goal.returns-in_err-file-clause-goes
returns-in_err-file-clause-goes g c =
    let met = g.met.F.FileSystem g.world.𝓛 g.world.𝓜 g.world.𝓡 ((λ s x. x), (λ x. x), (λ x. x), λ x. x) in
    exit_goes c.args.self.now (g.F.FileSystem.disk c.args.files.now) (g.F.FileSystem.disk c.new_file.new.files) c.from_residual.result c.in_err-file.field-0.0 c.from_residual.ensures.1
    (refused_goes c.args.self.now (g.F.FileSystem.disk c.args.files.now) (g.F.FileSystem.disk c.new_file.new.files) c.new-id.result c.in_err-file.field-0.0 (met.is_named c.args.files.now) (λ i. record { queue = c.new-id.ensures.queue i; seq = c.new-id.ensures.seq i }) c.requires.pipe.plain
    (subst (λ (l : List (String Global)). IsMadeIn (g.F.FileSystem.disk c.args.files.now) (g.F.FileSystem.disk c.new_file.new.files) (map string_bytes l) c.new-id.result (Err c.in_err-file.field-0.0)) c.deref.ensures.value c.in_err-file.ensures.made))

pub returns-in_err-file-clause-others : goal.returns-in_err-file-clause-others
returns-in_err-file-clause-others g c =
    let met = g.met.F.FileSystem g.world.𝓛 g.world.𝓜 g.world.𝓡 ((λ s x. x), (λ x. x), (λ x. x), λ x. x) in
    refused_others c.args.self.now.queue _ _ c.new-id.result c.in_err-file.field-0.0 (met.is_named c.args.files.now) c.in_err-file.ensures.created c.new-id.ensures.queue

pub returns-in_err-writer-clause-goes : goal.returns-in_err-writer-clause-goes
returns-in_err-writer-clause-goes g c =
    let met = g.met.F.FileSystem g.world.𝓛 g.world.𝓜 g.world.𝓡 ((λ s x. x), (λ x. x), (λ x. x), λ x. x) in
    exit_goes c.args.self.now (g.F.FileSystem.disk c.args.files.now) (g.F.FileSystem.disk c.begin_file.new.files) c.from_residual-in_err-writer.result c.in_err-writer.field-0.0 c.from_residual-in_err-writer.ensures.1
    (unbegun_goes c.args.self.now (g.F.FileSystem.disk c.args.files.now) (g.F.FileSystem.disk c.new_file.new.files) (g.F.FileSystem.disk c.begin_file.new.files) c.in_ok-file.file c.new-id.result (met.is_named c.args.files.now) (λ i. record { queue = c.new-id.ensures.queue i; seq = c.new-id.ensures.seq i }) (c.in_ok-file.ensures.file.0 ∙ c.new-id.ensures.seq)
    (subst (λ (l : List (String Global)). IsMadeIn (g.F.FileSystem.disk c.args.files.now) (g.F.FileSystem.disk c.new_file.new.files) (map string_bytes l) c.new-id.result (Ok c.in_ok-file.file)) c.deref.ensures.value c.in_ok-file.ensures.made) c.in_err-writer.field-0.0 c.in_err-writer.field-0.0 c.in_err-writer.ensures.begun c.in_err-writer.ensures.plain)

pub returns-in_err-writer-clause-others : goal.returns-in_err-writer-clause-others
returns-in_err-writer-clause-others g c =
    let met = g.met.F.FileSystem g.world.𝓛 g.world.𝓜 g.world.𝓡 ((λ s x. x), (λ x. x), (λ x. x), λ x. x) in
    made_others c.args.self.now.queue _ _ c.new-id.result (met.is_named c.args.files.now) (made_begun _ _ _ c.in_ok-file.file _ c.in_ok-file.ensures.created c.in_err-writer.ensures.begun.0) c.new-id.ensures.queue

pub returns-in_err-writer-clause-later : goal.returns-in_err-writer-clause-later
returns-in_err-writer-clause-later g c = no_more_then c.in_ok-file.ensures.later c.in_err-writer.ensures.later

pub returns-in_err-writer-clause-taken : goal.returns-in_err-writer-clause-taken
returns-in_err-writer-clause-taken g c = λ free.
    exit_fault LogFileWriter (File × LogFileWriter) (IsNoFile (g.F.FileSystem.disk c.new_file.new.files) c.in_ok-file.file.handle.0) ⊥ (IsUnmade c.args.self.now (g.F.FileSystem.disk c.args.files.now)) (IsBarred c.args.self.now (g.F.FileSystem.disk c.args.files.now))
    c.from_residual-in_err-writer.result c.in_err-writer.field-0.0 c.from_residual-in_err-writer.ensures.1
    (λ none. absurd (made_there _ _ _ c.in_ok-file.file c.in_ok-file.ensures.created none)) (λ x. absurd x)
    (c.in_err-writer.ensures.taken (still_free free c.in_ok-file.ensures.later))

pub returns-in_err-writer-clause-cause : goal.returns-in_err-writer-clause-cause
returns-in_err-writer-clause-cause g c =
    let a = g.F.FileSystem.meter c.args.files.now in
    let b = g.F.FileSystem.meter c.new_file.new.files in
    let e = g.F.FileSystem.meter c.begin_file.new.files in
    exit_fault LogFileWriter (File × LogFileWriter) (IsNoFile (g.F.FileSystem.disk c.new_file.new.files) c.in_ok-file.file.handle.0) (Rises 1 b e) (LacksPlace c.args.self.now (g.F.FileSystem.disk c.args.files.now) 1) (Rises 1 a e)
    c.from_residual-in_err-writer.result c.in_err-writer.field-0.0 c.from_residual-in_err-writer.ensures.1
    (λ none. absurd (made_there _ _ _ c.in_ok-file.file c.in_ok-file.ensures.created none)) (rises_then 0 1 a b e c.in_ok-file.ensures.later.counts) c.in_err-writer.ensures.cause

pub returns-clause-goes : goal.returns-clause-goes
returns-clause-goes g c =
    let met = g.met.F.FileSystem g.world.𝓛 g.world.𝓜 g.world.𝓡 ((λ s x. x), (λ x. x), (λ x. x), λ x. x) in
    begun_goes c.args.self.now (g.F.FileSystem.disk c.args.files.now) (g.F.FileSystem.disk c.new_file.new.files) (g.F.FileSystem.disk c.begin_file.new.files) c.in_ok-file.file c.new-id.result (met.is_named c.args.files.now) (λ i. record { queue = c.new-id.ensures.queue i; seq = c.new-id.ensures.seq i }) (c.in_ok-file.ensures.file.0 ∙ c.new-id.ensures.seq)
    (subst (λ (l : List (String Global)). IsMadeIn (g.F.FileSystem.disk c.args.files.now) (g.F.FileSystem.disk c.new_file.new.files) (map string_bytes l) c.new-id.result (Ok c.in_ok-file.file)) c.deref.ensures.value c.in_ok-file.ensures.made) c.in_ok-writer.writer (subst IsPlain (sym c.in_ok-file.ensures.file.1) c.requires.pipe.plain) c.in_ok-writer.ensures.begun

pub returns-clause-others : goal.returns-clause-others
returns-clause-others g c =
    let met = g.met.F.FileSystem g.world.𝓛 g.world.𝓜 g.world.𝓡 ((λ s x. x), (λ x. x), (λ x. x), λ x. x) in
    made_others c.args.self.now.queue _ _ c.new-id.result (met.is_named c.args.files.now) (made_begun _ _ _ c.in_ok-file.file _ c.in_ok-file.ensures.created (begun_changes _ _ c.in_ok-file.file c.in_ok-writer.writer c.in_ok-writer.ensures.begun)) c.new-id.ensures.queue

pub returns-in_err-file-clause-left : goal.returns-in_err-file-clause-left
returns-in_err-file-clause-left g c = not_ok _ _ c.from_residual.result c.from_residual.ensures.1

pub returns-in_err-file-clause-takes : goal.returns-in_err-file-clause-takes
returns-in_err-file-clause-takes g c = not_given _ _ c.from_residual.result c.from_residual.ensures.1

pub returns-in_err-writer-clause-left : goal.returns-in_err-writer-clause-left
returns-in_err-writer-clause-left g c = not_ok _ _ c.from_residual-in_err-writer.result c.from_residual-in_err-writer.ensures.1

pub returns-in_err-writer-clause-takes : goal.returns-in_err-writer-clause-takes
returns-in_err-writer-clause-takes g c = not_given _ _ c.from_residual-in_err-writer.result c.from_residual-in_err-writer.ensures.1
