use Rattle.std.proofs.Common.{◌≡◌, ◌-◌, ◌<◌, List, length, map, sym, ap, subst, ◌∙◌, arith}
use Rattle.std.specs.Prelude.{String, Ok, Err}
use Rattle.std.specs.String.{string_bytes}
use Rattle.std.specs.declared.alloc.Global.{Global}
use Rattle.raft_log_disk.specs.Cause.{IsTaken}
use Rattle.raft_log_disk.specs.Disk.{Disk, HasDirectory, IsNoFile, IsNoNewFile}
use Rattle.raft_log_disk.specs.Text.{Text}
use Rattle.raft_log_disk.proofs.RefusalLemmas.{no_more_then, still_free}
use Rattle.raft_log_file.specs.declared.writer.LogFileWriter.{LogFileWriter}
use Rattle.raft_log_pipe.specs.declared.file.File.{File}
use Rattle.raft_log_pipe.specs.declared.pipe.SinglePipe.{SinglePipe}
use Rattle.raft_log_pipe.specs.Taken.{main_path}
use Rattle.raft_log_pipe.proofs.TakenLemmas.{exit_io, made_there, still_taken}
use Rattle.raft_log_pipe.specs.Alone.{IsMadeIn}
use Rattle.raft_log_pipe.specs.Pipe.{IsLast, IsPlain, id_of}
use Rattle.raft_log_pipe.proofs.NextLemmas.{begun_changes, begun_short}
use Rattle.raft_log_pipe.proofs.ExitLemmas.{first_holds, first_pipe, last_for}
use Rattle.raft_log_pipe.proofs.AloneLemmas.{first_alone, made_header, refused_header}
use Rattle.raft_log_pipe.proofs.NextLemmas.{made_begun}
use Rattle.raft_log_pipe.proofs.OthersLemmas.{made_others, refused_others}
use Rattle.raft_log_disk.specs.Cause.{Rises}
use Rattle.std.proofs.Common.{refl}
use Rattle.raft_log_pipe.specs.Caused.{LacksDirectory}
use Rattle.raft_log_pipe.proofs.CausedLemmas.{exit_cause, lacks_before, rises_then}
use Rattle.raft_log_pipe.proofs.EndLemmas.{not_given}
use Rattle.raft_log_pipe.proofs.pipe.SinglePipe.create.Goals as goal

pub returns-clause-pipe : goal.returns-clause-pipe
returns-clause-pipe g c =
    first_pipe _ _ _ _ _ (λ i. record { queue = c.new-id.ensures.queue i; seq = sym c.in_ok-file.ensures.file.0 i }) (c.in_ok-file.ensures.file.0 ∙ c.new-id.ensures.seq) c.new.ensures.items
    c.requires.paths c.requires.plain c.requires.none c.in_ok-file.ensures.created c.in_ok-writer.ensures.begun
    (subst (λ (l : List (String Global)). c.in_ok-file.file.path_id < length l) c.deref.ensures.value c.in_ok-file.ensures.within) c.new-2.ensures.items

pub returns-clause-holds : goal.returns-clause-holds
returns-clause-holds g c =
    first_holds c.args.queue _ c.in_ok-file.file c.in_ok-writer.writer _ _ _ _ (λ i. record { queue = c.new-id.ensures.queue i; seq = sym c.in_ok-file.ensures.file.0 i }) c.new.ensures.items
    (subst IsPlain (sym c.in_ok-file.ensures.file.1) c.requires.plain) c.in_ok-file.ensures.created c.in_ok-writer.ensures.begun

pub new_file-requires-clause-last : goal.new_file-requires-clause-last
new_file-requires-clause-last g c κs within =
    subst (λ (l : List (String Global)). IsLast (g.F.FileSystem.disk c.args.files.now) l c.new-id.result.queue (c.new-id.result.seq - 1)) (sym c.deref.ensures.value)
    (last_for (g.F.FileSystem.disk c.args.files.now) c.args.paths.items c.new-id.result c.args.queue 0 c.requires.none c.new-id.ensures.queue c.new-id.ensures.seq)

pub returns-clause-alone : goal.returns-clause-alone
returns-clause-alone g c =
    first_alone (map string_bytes c.args.paths.items) c.args.queue c.new.result.items c.in_ok-file.file (g.F.FileSystem.disk c.args.files.now) (g.F.FileSystem.disk c.new_file.new.files) (g.F.FileSystem.disk c.begin_file.new.files) c.new-id.result (λ i. record { queue = c.new-id.ensures.queue i; seq = sym c.in_ok-file.ensures.file.0 i })
    (omega (arith, c.new-id.ensures.seq)) c.new.ensures.items
    (subst (λ (l : List (String Global)). IsMadeIn (g.F.FileSystem.disk c.args.files.now) (g.F.FileSystem.disk c.new_file.new.files) (map string_bytes l) c.new-id.result (Ok c.in_ok-file.file)) c.deref.ensures.value c.in_ok-file.ensures.made)
    (ap (λ (y : Disk). y.names) (begun_changes (g.F.FileSystem.disk c.new_file.new.files) (g.F.FileSystem.disk c.begin_file.new.files) c.in_ok-file.file c.in_ok-writer.writer c.in_ok-writer.ensures.begun))

pub returns-in_err-file-clause-makes : goal.returns-in_err-file-clause-makes
returns-in_err-file-clause-makes g c =
    refused_header (g.F.FileSystem.disk c.args.files.now) (g.F.FileSystem.disk c.new_file.new.files) (map string_bytes c.args.paths.items) c.new-id.result (id_of c.args.queue 1) c.in_err-file.field-0.0
    (λ i. record { queue = c.new-id.ensures.queue i; seq = c.new-id.ensures.seq i })
    (subst (λ (l : List (String Global)). IsMadeIn (g.F.FileSystem.disk c.args.files.now) (g.F.FileSystem.disk c.new_file.new.files) (map string_bytes l) c.new-id.result (Err c.in_err-file.field-0.0)) c.deref.ensures.value c.in_err-file.ensures.made)

pub returns-in_err-writer-clause-makes : goal.returns-in_err-writer-clause-makes
returns-in_err-writer-clause-makes g c =
    made_header (g.F.FileSystem.disk c.args.files.now) (g.F.FileSystem.disk c.new_file.new.files) (g.F.FileSystem.disk c.begin_file.new.files) (map string_bytes c.args.paths.items) c.new-id.result (id_of c.args.queue 1) c.in_ok-file.file
    (λ i. record { queue = c.new-id.ensures.queue i; seq = c.new-id.ensures.seq i })
    (subst (λ (l : List (String Global)). IsMadeIn (g.F.FileSystem.disk c.args.files.now) (g.F.FileSystem.disk c.new_file.new.files) (map string_bytes l) c.new-id.result (Ok c.in_ok-file.file)) c.deref.ensures.value c.in_ok-file.ensures.made)
    c.in_err-writer.ensures.begun.0 (λ bare least. omega (arith, c.in_err-writer.ensures.begun.1, least))

pub returns-clause-makes : goal.returns-clause-makes
returns-clause-makes g c =
    made_header (g.F.FileSystem.disk c.args.files.now) (g.F.FileSystem.disk c.new_file.new.files) (g.F.FileSystem.disk c.begin_file.new.files) (map string_bytes c.args.paths.items) c.new-id.result (id_of c.args.queue 1) c.in_ok-file.file
    (λ i. record { queue = c.new-id.ensures.queue i; seq = c.new-id.ensures.seq i })
    (subst (λ (l : List (String Global)). IsMadeIn (g.F.FileSystem.disk c.args.files.now) (g.F.FileSystem.disk c.new_file.new.files) (map string_bytes l) c.new-id.result (Ok c.in_ok-file.file)) c.deref.ensures.value c.in_ok-file.ensures.made)
    (begun_changes (g.F.FileSystem.disk c.new_file.new.files) (g.F.FileSystem.disk c.begin_file.new.files) c.in_ok-file.file c.in_ok-writer.writer c.in_ok-writer.ensures.begun)
    (λ bare least. begun_short (g.F.FileSystem.disk c.new_file.new.files) (g.F.FileSystem.disk c.begin_file.new.files) c.in_ok-file.file c.in_ok-writer.writer (ap length bare) c.in_ok-writer.ensures.begun)

pub returns-in_err-file-clause-others : goal.returns-in_err-file-clause-others
returns-in_err-file-clause-others g c =
    let met = g.met.F.FileSystem g.world.𝓛 g.world.𝓜 g.world.𝓡 ((λ s x. x), (λ x. x), (λ x. x), λ x. x) in
    refused_others c.args.queue _ _ c.new-id.result c.in_err-file.field-0.0 (met.is_named c.args.files.now) c.in_err-file.ensures.created c.new-id.ensures.queue

pub returns-in_err-writer-clause-others : goal.returns-in_err-writer-clause-others
returns-in_err-writer-clause-others g c =
    let met = g.met.F.FileSystem g.world.𝓛 g.world.𝓜 g.world.𝓡 ((λ s x. x), (λ x. x), (λ x. x), λ x. x) in
    made_others c.args.queue _ _ c.new-id.result (met.is_named c.args.files.now) (made_begun _ _ _ c.in_ok-file.file _ c.in_ok-file.ensures.created c.in_err-writer.ensures.begun.0) c.new-id.ensures.queue

pub returns-clause-others : goal.returns-clause-others
returns-clause-others g c =
    let met = g.met.F.FileSystem g.world.𝓛 g.world.𝓜 g.world.𝓡 ((λ s x. x), (λ x. x), (λ x. x), λ x. x) in
    made_others c.args.queue _ _ c.new-id.result (met.is_named c.args.files.now) (made_begun _ _ _ c.in_ok-file.file _ c.in_ok-file.ensures.created (begun_changes _ _ c.in_ok-file.file c.in_ok-writer.writer c.in_ok-writer.ensures.begun)) c.new-id.ensures.queue

pub returns-in_err-file-clause-taken : goal.returns-in_err-file-clause-taken
returns-in_err-file-clause-taken g c =
    let d = g.F.FileSystem.disk c.args.files.now in
    let path : Text = main_path c.args.paths.items (id_of c.args.queue 1) in
    let same : main_path c.deref.result.now c.new-id.result ≡ path = λ i. main_path (c.deref.ensures.value i) (record { queue = c.new-id.ensures.queue i; seq = c.new-id.ensures.seq i }) in
    λ free.
    exit_io File SinglePipe ⊥ (HasDirectory d.directories path → ⊥) (IsNoNewFile d path) c.from_residual.result c.in_err-file.field-0.0 c.from_residual.ensures.1
    (subst (λ (t : Text). IsTaken {T = File} (HasDirectory d.directories t → ⊥) (IsNoNewFile d t) (Err c.in_err-file.field-0.0)) same (c.in_err-file.ensures.taken free))

pub returns-in_err-writer-clause-taken : goal.returns-in_err-writer-clause-taken
returns-in_err-writer-clause-taken g c =
    let d = g.F.FileSystem.disk c.args.files.now in
    let path : Text = main_path c.args.paths.items (id_of c.args.queue 1) in
    λ free.
    exit_io (Unit {0}) SinglePipe ⊥ (HasDirectory d.directories path → ⊥) (IsNoNewFile d path) c.from_residual-in_err-writer.result c.in_err-writer.field-0.0 c.from_residual-in_err-writer.ensures.1
    (still_taken LogFileWriter (Unit {0}) (IsNoFile (g.F.FileSystem.disk c.new_file.new.files) c.in_ok-file.file.handle.0) ⊥ (HasDirectory d.directories path → ⊥) (IsNoNewFile d path) c.in_err-writer.field-0.0
    (λ none. absurd (made_there _ _ _ c.in_ok-file.file c.in_ok-file.ensures.created none)) (λ x. absurd x) (c.in_err-writer.ensures.taken (still_free free c.in_ok-file.ensures.later)))

pub returns-in_err-file-clause-cause : goal.returns-in_err-file-clause-cause
returns-in_err-file-clause-cause g c =
    let d = g.F.FileSystem.disk c.args.files.now in
    let lacks : Type 0 = LacksDirectory d (map string_bytes c.args.paths.items) (id_of c.args.queue 1) in
    let rises : Type 0 = Rises 1 (g.F.FileSystem.meter c.args.files.now) (g.F.FileSystem.meter c.new_file.new.files) in
    exit_cause (Unit {0}) rises ⊥ ⊥ lacks c.from_residual.result c.in_err-file.field-0.0 c.from_residual.ensures.1
    (still_taken File (Unit {0}) (LacksDirectory d (map string_bytes c.deref.result.now) c.new-id.result) rises lacks rises c.in_err-file.field-0.0
    (lacks_before d d _ _ _ _ refl (ap (λ (l : List (String Global)). map string_bytes l) c.deref.ensures.value) (λ i. record { queue = c.new-id.ensures.queue i; seq = c.new-id.ensures.seq i })) (λ x. x) c.in_err-file.ensures.cause)

pub returns-in_err-writer-clause-cause : goal.returns-in_err-writer-clause-cause
returns-in_err-writer-clause-cause g c =
    let a = g.F.FileSystem.meter c.args.files.now in
    let b = g.F.FileSystem.meter c.new_file.new.files in
    let e = g.F.FileSystem.meter c.begin_file.new.files in
    let lacks : Type 0 = LacksDirectory (g.F.FileSystem.disk c.args.files.now) (map string_bytes c.args.paths.items) (id_of c.args.queue 1) in
    exit_cause (Unit {0}) (Rises 1 a e) ⊥ ⊥ lacks c.from_residual-in_err-writer.result c.in_err-writer.field-0.0 c.from_residual-in_err-writer.ensures.1
    (still_taken LogFileWriter (Unit {0}) (IsNoFile (g.F.FileSystem.disk c.new_file.new.files) c.in_ok-file.file.handle.0) (Rises 1 b e) lacks (Rises 1 a e) c.in_err-writer.field-0.0
    (λ none. absurd (made_there _ _ _ c.in_ok-file.file c.in_ok-file.ensures.created none)) (rises_then 0 1 a b e c.in_ok-file.ensures.later.counts) c.in_err-writer.ensures.cause)

pub returns-in_err-writer-clause-later : goal.returns-in_err-writer-clause-later
returns-in_err-writer-clause-later g c = no_more_then c.in_ok-file.ensures.later c.in_err-writer.ensures.later

pub returns-in_err-file-clause-pipe : goal.returns-in_err-file-clause-pipe
returns-in_err-file-clause-pipe g c = not_given _ _ c.from_residual.result c.from_residual.ensures.1

pub returns-in_err-file-clause-paths : goal.returns-in_err-file-clause-paths
returns-in_err-file-clause-paths g c = not_given _ _ c.from_residual.result c.from_residual.ensures.1

pub returns-in_err-file-clause-settings : goal.returns-in_err-file-clause-settings
returns-in_err-file-clause-settings g c = not_given _ _ c.from_residual.result c.from_residual.ensures.1

pub returns-in_err-file-clause-bare : goal.returns-in_err-file-clause-bare
returns-in_err-file-clause-bare g c = not_given _ _ c.from_residual.result c.from_residual.ensures.1

pub returns-in_err-file-clause-alone : goal.returns-in_err-file-clause-alone
returns-in_err-file-clause-alone g c = not_given _ _ c.from_residual.result c.from_residual.ensures.1

pub returns-in_err-file-clause-holds : goal.returns-in_err-file-clause-holds
returns-in_err-file-clause-holds g c = not_given _ _ c.from_residual.result c.from_residual.ensures.1

pub returns-in_err-file-clause-first : goal.returns-in_err-file-clause-first
returns-in_err-file-clause-first g c = not_given _ _ c.from_residual.result c.from_residual.ensures.1

pub returns-in_err-writer-clause-pipe : goal.returns-in_err-writer-clause-pipe
returns-in_err-writer-clause-pipe g c = not_given _ _ c.from_residual-in_err-writer.result c.from_residual-in_err-writer.ensures.1

pub returns-in_err-writer-clause-paths : goal.returns-in_err-writer-clause-paths
returns-in_err-writer-clause-paths g c = not_given _ _ c.from_residual-in_err-writer.result c.from_residual-in_err-writer.ensures.1

pub returns-in_err-writer-clause-settings : goal.returns-in_err-writer-clause-settings
returns-in_err-writer-clause-settings g c = not_given _ _ c.from_residual-in_err-writer.result c.from_residual-in_err-writer.ensures.1

pub returns-in_err-writer-clause-bare : goal.returns-in_err-writer-clause-bare
returns-in_err-writer-clause-bare g c = not_given _ _ c.from_residual-in_err-writer.result c.from_residual-in_err-writer.ensures.1

pub returns-in_err-writer-clause-alone : goal.returns-in_err-writer-clause-alone
returns-in_err-writer-clause-alone g c = not_given _ _ c.from_residual-in_err-writer.result c.from_residual-in_err-writer.ensures.1

pub returns-in_err-writer-clause-holds : goal.returns-in_err-writer-clause-holds
returns-in_err-writer-clause-holds g c = not_given _ _ c.from_residual-in_err-writer.result c.from_residual-in_err-writer.ensures.1

pub returns-in_err-writer-clause-first : goal.returns-in_err-writer-clause-first
returns-in_err-writer-clause-first g c = not_given _ _ c.from_residual-in_err-writer.result c.from_residual-in_err-writer.ensures.1
