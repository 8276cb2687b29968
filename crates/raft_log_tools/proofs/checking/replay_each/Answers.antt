use Rattle.std.proofs.Common.{◌≡◌, ◌⊎◌, inl, inr, ◌+◌, List, None, get_or, length, map, string_bytes, take, Err, arith, refl, sym, subst, ◌∙◌}
use Rattle.std.proofs.lemmas.List.{take_all}
use Rattle.raft_log_disk.specs.Disk.{Disk, HasOneOf, fd_of}
use Rattle.raft_log_disk.specs.Text.{Text}
use Rattle.raft_log_disk.proofs.RefusalLemmas.{no_more_then}
use Rattle.raft_log_files.specs.declared.error.Error.{Error}
use Rattle.raft_log_pipe.specs.Caused.{IsCaused}
use Rattle.raft_log_pipe.proofs.CausedLemmas.{caused_for, told_cause}
use Rattle.raft_log_recovery.specs.declared.scan.FileName.{FileName}
use Rattle.raft_log_recovery.specs.Caused.{AnyUnreadable, IsMissing, IsRefusal}
use Rattle.raft_log_recovery.specs.Queue.{IsFileOf, path_of}
use Rattle.raft_log_recovery.proofs.CausedLemmas.{at_in, refusal_then, unreadable_at}
use Rattle.raft_log_recovery.proofs.QueueLemmas.{file_is, number_of}
use Rattle.raft_log_recovery.proofs.ScanLemmas.{get_or_any}
use Rattle.raft_log_tools.specs.Checking.{items_of_files}
use Rattle.raft_log_tools.proofs.ReadLemmas.{GivesItems, gives_more, gives_none, items_more, read_caused}
use Rattle.raft_log_tools.proofs.checking.replay_each.Goals as goal

pub open_to_read-requires-clause-seq : goal.open_to_read-requires-clause-seq
open_to_read-requires-clause-seq g c κs within =
    let names = c.args.names.now in
    (number_of (length c.args.directories.now) names c.requires (get_or names c.loop-name.name-index (record { seq = 0; path_id = 0 })) (at_in names c.loop-name.name-index (record { seq = 0; path_id = 0 }) c.loop-name-test.true)).0

pub open_to_read-requires-clause-place : goal.open_to_read-requires-clause-place
open_to_read-requires-clause-place g c κs within =
    let names = c.args.names.now in
    (number_of (length c.args.directories.now) names c.requires (get_or names c.loop-name.name-index (record { seq = 0; path_id = 0 })) (at_in names c.loop-name.name-index (record { seq = 0; path_id = 0 }) c.loop-name-test.true)).1

pub loop-name-init : goal.loop-name-init
loop-name-init g c = record {
  kept = refl;
  later = record { fuse = λ x. x; burns = λ n is. (n, is, omega arith); reads = refl; sound = refl; room = λ x. x; counts = omega arith; spaces = omega arith };
  given = gives_none (g.M.ReplayMachine.has_replayed c.args.machine.now);
}

pub loop-name-preserved : goal.loop-name-preserved
loop-name-preserved g c =
    let names = c.args.names.now in
    let i = c.loop-name.name-index in
    let name : FileName = get_or names i (record { seq = 0; path_id = 0 }) in
    let directories : List Text = map string_bytes c.args.directories.now in
    let queue = c.args.queue in
    let old = g.F.FileSystem.disk c.args.files.now in
    let opened = g.F.FileSystem.disk c.open_to_read.new.files in
    let kept : opened ≡ old = c.open_to_read.ensures.kept ∙ c.loop-name.invariant.kept in
    let P = g.M.ReplayMachine.has_replayed c.args.machine.now in
    let Q = g.M.ReplayMachine.has_replayed c.loop-name.machine in
    let R = g.M.ReplayMachine.has_replayed c.replay_file.new.machine in
    let fd = c.in_ok-fd.fd.0 in
    let there : IsFileOf opened directories queue name fd = subst (λ (x : Disk). IsFileOf x directories queue name fd) (sym c.open_to_read.ensures.kept) c.in_ok-fd.ensures.ok in
    let before : GivesItems P Q (items_of_files opened directories queue (take i names)) = subst (λ (x : Disk). GivesItems P Q (items_of_files x directories queue (take i names))) (sym kept) c.loop-name.invariant.given in
    let more = gives_more P Q R (items_of_files opened directories queue (take i names)) c.new-id.result (opened.file fd).bytes _ before c.in_ok-replay_file.ensures.replayed in
    let all = items_more opened directories queue names i name c.new-id.result fd c.loop-name-test.true (get_or_any names i (record { seq = 0; path_id = 0 }) c.loop-name-test.true)
    (λ j. record { queue = c.new-id.ensures.queue j; seq = c.new-id.ensures.seq j }) there in
    record {
      kept = kept;
      later = no_more_then c.loop-name.invariant.later c.in_ok-fd.ensures.later;
      given = subst (λ (x : Disk). GivesItems P R (items_of_files x directories queue (take (i + 1) names))) kept (subst (GivesItems P R) (sym all) more);
    }

pub returns-clause-replayed : goal.returns-clause-replayed
returns-clause-replayed g c =
    let names = c.args.names.now in
    subst (λ (l : List FileName). GivesItems (g.M.ReplayMachine.has_replayed c.args.machine.now) (g.M.ReplayMachine.has_replayed c.loop-name.machine) (items_of_files (g.F.FileSystem.disk c.args.files.now) (map string_bytes c.args.directories.now) c.args.queue l))
    (take_all c.loop-name.name-index names c.loop-name-test.false) c.loop-name.invariant.given

pub returns-in_err-fd-clause-later : goal.returns-in_err-fd-clause-later
returns-in_err-fd-clause-later g c = no_more_then c.loop-name.invariant.later c.in_err-fd.ensures.later

pub returns-in_err-replay_file-clause-later : goal.returns-in_err-replay_file-clause-later
returns-in_err-replay_file-clause-later g c = no_more_then c.loop-name.invariant.later c.in_ok-fd.ensures.later

pub returns-in_err-fd-clause-cause : goal.returns-in_err-fd-clause-cause
returns-in_err-fd-clause-cause g c =
    let names = c.args.names.now in
    let directories : List Text = map string_bytes c.args.directories.now in
    let queue = c.args.queue in
    let old = g.F.FileSystem.disk c.args.files.now in
    let cur = g.F.FileSystem.disk c.loop-name.files in
    let a = g.F.FileSystem.meter c.args.files.now in
    let b = g.F.FileSystem.meter c.loop-name.files in
    let e = g.F.FileSystem.meter c.open_to_read.new.files in
    let name : FileName = get_or names c.loop-name.name-index (record { seq = 0; path_id = 0 }) in
    let free : Type 0 = g.F.FileSystem.is_bounded c.args.files.now in
    let free_then : Type 0 = g.F.FileSystem.is_bounded c.loop-name.files in
    let gone : Type 0 = fd_of cur.names (path_of directories queue name) ≡ None in
    let missing : Type 0 = IsMissing old directories queue names in
    let refused : Type 0 = IsRefusal free ⊥ a e ⊎ AnyUnreadable directories queue names a in
    told_cause c.from_residual.result c.in_err-fd.field-0.0 (λ (x : Error). IsCaused refused ⊥ ⊥ missing x) c.from_residual.ensures.1
    (caused_for (IsRefusal free_then ⊥ b e) ⊥ ⊥ gone refused ⊥ ⊥ missing c.in_err-fd.field-0.0
    (λ more. inl (refusal_then free free_then ⊥ ⊥ a b e c.loop-name.invariant.later (λ x. x) more)) (λ x. x) (λ x. x)
    (λ none. (name, at_in names c.loop-name.name-index (record { seq = 0; path_id = 0 }) c.loop-name-test.true, subst (λ (x : Disk). fd_of x.names (path_of directories queue name) ≡ None) c.loop-name.invariant.kept none))
    c.in_err-fd.ensures.cause)

pub returns-in_err-replay_file-clause-cause : goal.returns-in_err-replay_file-clause-cause
returns-in_err-replay_file-clause-cause g c =
    let met = g.met.F.FileSystem g.world.𝓛 g.world.𝓜 g.world.𝓡 ((λ s x. x), (λ x. x), (λ x. x), λ x. x) in
    let names = c.args.names.now in
    let directories : List Text = map string_bytes c.args.directories.now in
    let queue = c.args.queue in
    let opened = g.F.FileSystem.disk c.open_to_read.new.files in
    let a = g.F.FileSystem.meter c.args.files.now in
    let b = g.F.FileSystem.meter c.open_to_read.new.files in
    let name : FileName = get_or names c.loop-name.name-index (record { seq = 0; path_id = 0 }) in
    let fd = c.in_ok-fd.fd.0 in
    let free : Type 0 = g.F.FileSystem.is_bounded c.args.files.now in
    let missing : Type 0 = IsMissing (g.F.FileSystem.disk c.args.files.now) directories queue names in
    let refused : Type 0 = IsRefusal free ⊥ a b ⊎ AnyUnreadable directories queue names a in
    let before = no_more_then c.loop-name.invariant.later c.in_ok-fd.ensures.later in
    let there : IsFileOf opened directories queue name fd = subst (λ (x : Disk). IsFileOf x directories queue name fd) (sym c.open_to_read.ensures.kept) c.in_ok-fd.ensures.ok in
    let unread = unreadable_at opened directories queue names name fd a b (met.is_named c.open_to_read.new.files)
    (at_in names c.loop-name.name-index (record { seq = 0; path_id = 0 }) c.loop-name-test.true) before.reads there in
    told_cause c.from_residual-in_err-replay_file.result c.in_err-replay_file.field-0.0 (λ (x : Error). IsCaused refused ⊥ ⊥ missing x) c.from_residual-in_err-replay_file.ensures.1
    (caused_for (HasOneOf opened fd b.unreadable) ⊥ ⊥ ⊥ refused ⊥ ⊥ missing c.in_err-replay_file.field-0.0 (λ one. inr (unread one)) (λ x. x) (λ x. x) (λ x. absurd x)
    (read_caused opened b fd c.in_err-replay_file.field-0.0 (file_is opened directories queue name fd there) c.in_err-replay_file.ensures.err (λ f same. c.in_err-replay_file.ensures.corrupt f (λ i. Err (same i)))))
