-- All files are read before the first is repaired: each is then as it was read.
use Rattle.std.proofs.Common.{◌≡◌, ◌⊎◌, inl, inr, ◌+◌, List, [], ◌∷◌, ◌++◌, length, map, string_bytes, take, arith, Some, Err, refl, sym, subst, ap, ◌∙◌, append_assoc, append-nil, length-append, false}
use Rattle.std.specs.Prelude.{slice_get}
use Rattle.std.specs.Vec.Iter.{into_iter_items}
use Rattle.std.proofs.lemmas.Bool.{false≢true}
use Rattle.std.proofs.lemmas.List.{nil_from_length}
use Rattle.raft_log_disk.specs.Disk.{HasOneOf}
use Rattle.raft_log_disk.specs.Text.{Text}
use Rattle.raft_log_disk.proofs.CauseLemmas.{at_err}
use Rattle.raft_log_disk.proofs.RefusalLemmas.{no_more_then}
use Rattle.raft_log_records.specs.declared.file_id.FileId.{FileId}
use Rattle.raft_log_files.specs.declared.error.CorruptionFault.{CorruptionFault}
use Rattle.raft_log_files.specs.declared.error.Error.{Error}
use Rattle.raft_log_files.specs.declared.error.Error.TheVariants.{Memory}
use Rattle.raft_log_pipe.specs.declared.file.File.{File}
use Rattle.raft_log_pipe.proofs.CausedLemmas.{told_cause}
use Rattle.raft_log_recovery.specs.Caused.{AnyUnreadable, AreEachRefused, AreFilesRefused, IsMissing, IsRefusal}
use Rattle.raft_log_recovery.specs.Queue.{AnyRefused, AreRecovered}
use Rattle.raft_log_recovery.proofs.CausedLemmas.{recovery_for, refusal_then, unreadable_at}
use Rattle.raft_log_recovery.proofs.CorruptLemmas.{memory_sound, passed_on, refused_at}
use Rattle.raft_log_recovery.proofs.QueueLemmas.{NoneRefused, Replays, alike_at, kept_at, left_at, none_left, none_refused, only_between, replays_nothing}
use Rattle.raft_log_recovery.proofs.ReplayLemmas.{file_fits}
use Rattle.raft_log_recovery.proofs.TurnLemmas.{Turn, done_alike, done_kept, done_left, done_none, done_only, done_recovered, done_replays, is_file, stopped_alike, stopped_kept, stopped_left, stopped_only}
use Rattle.raft_log_workers.specs.Reading.{IsReadBy}
use Rattle.raft_log_workers.proofs.PlaceLemmas.{all_recovered, done_at, file_stays, name_in, nothing_recovered, there_now, turn_at}
use Rattle.raft_log_workers.proofs.ReadingLemmas.{at_place, at_seam, read_by_on}
use Rattle.raft_log_workers.proofs.recovery.recover_each.Goals as goal

-- ---- the files were not read

pub returns-in_err-shares-clause-only : goal.returns-in_err-shares-clause-only
returns-in_err-shares-clause-only g c =
    let met = g.met.F.FileSystem g.world.𝓛 g.world.𝓜 g.world.𝓡 ((λ s x. x), (λ x. x), (λ x. x), λ x. x) in
    let old = g.F.FileSystem.disk c.args.files.now in
    let new = g.F.FileSystem.disk c.read_shares.new.files in
    let directories : List Text = map string_bytes c.args.directories.now in
    let queue = c.args.config.now.queue in
    only_between c.args.config.now.mode directories queue (length c.args.directories.now) old c.args.names.now (met.is_named c.args.files.now) c.requires old new 0 [] c.read_shares.ensures.kept (nothing_recovered directories queue old old refl)

pub returns-in_err-shares-clause-reads : goal.returns-in_err-shares-clause-reads
returns-in_err-shares-clause-reads g c =
    let met = g.met.F.FileSystem g.world.𝓛 g.world.𝓜 g.world.𝓡 ((λ s x. x), (λ x. x), (λ x. x), λ x. x) in
    let old = g.F.FileSystem.disk c.args.files.now in
    let new = g.F.FileSystem.disk c.read_shares.new.files in
    let directories : List Text = map string_bytes c.args.directories.now in
    let queue = c.args.config.now.queue in
    alike_at c.args.config.now.mode directories queue (length c.args.directories.now) old c.args.names.now (met.is_named c.args.files.now) c.requires old new 0 [] c.read_shares.ensures.kept (nothing_recovered directories queue old old refl)

pub returns-in_err-shares-clause-err : goal.returns-in_err-shares-clause-err
returns-in_err-shares-clause-err g c =
    let met = g.met.F.FileSystem g.world.𝓛 g.world.𝓜 g.world.𝓡 ((λ s x. x), (λ x. x), (λ x. x), λ x. x) in
    let old = g.F.FileSystem.disk c.args.files.now in
    let new = g.F.FileSystem.disk c.read_shares.new.files in
    let directories : List Text = map string_bytes c.args.directories.now in
    let queue = c.args.config.now.queue in
    at_err _ _ (left_at c.args.config.now.mode directories queue (length c.args.directories.now) old c.args.names.now (met.is_named c.args.files.now) c.requires old new 0 [] c.read_shares.ensures.kept (nothing_recovered directories queue old old refl))

pub returns-in_err-shares-clause-kept : goal.returns-in_err-shares-clause-kept
returns-in_err-shares-clause-kept g c =
    let met = g.met.F.FileSystem g.world.𝓛 g.world.𝓜 g.world.𝓡 ((λ s x. x), (λ x. x), (λ x. x), λ x. x) in
    let old = g.F.FileSystem.disk c.args.files.now in
    let new = g.F.FileSystem.disk c.read_shares.new.files in
    let directories : List Text = map string_bytes c.args.directories.now in
    let queue = c.args.config.now.queue in
    at_err _ _
    (kept_at c.args.config.now.mode directories queue (length c.args.directories.now) old c.args.names.now (met.is_named c.args.files.now) c.requires old new 0 [] (omega arith) c.read_shares.ensures.kept (nothing_recovered directories queue old old refl)
    (none_refused c.args.config.now.mode directories queue c.args.names.now old))

pub returns-in_err-shares-clause-corrupt : goal.returns-in_err-shares-clause-corrupt
returns-in_err-shares-clause-corrupt g c =
    passed_on (λ (f : CorruptionFault). AnyRefused c.args.config.now.mode (map string_bytes c.args.directories.now) c.args.config.now.queue c.args.names.now (g.F.FileSystem.disk c.args.files.now))
    c.in_err-shares.field-0.0 c.from_residual.result c.from_residual.ensures.1 (λ f same. absurd (c.in_err-shares.ensures.corrupt f (λ i. Err (same i))))

pub returns-in_err-shares-clause-cause : goal.returns-in_err-shares-clause-cause
returns-in_err-shares-clause-cause g c =
    let old = g.F.FileSystem.disk c.args.files.now in
    let new = g.F.FileSystem.disk c.read_shares.new.files in
    let directories : List Text = map string_bytes c.args.directories.now in
    let queue = c.args.config.now.queue in
    told_cause c.from_residual.result c.in_err-shares.field-0.0
    (λ (e : Error). AreEachRefused old directories queue c.args.names.now (g.F.FileSystem.is_bounded c.args.files.now) (g.F.FileSystem.meter c.args.files.now) (g.F.FileSystem.meter c.read_shares.new.files) e) c.from_residual.ensures.1
    c.in_err-shares.ensures.cause

-- ---- the loop

pub loop-share-init : goal.loop-share-init
loop-share-init g c =
    let met = g.met.F.FileSystem g.world.𝓛 g.world.𝓜 g.world.𝓡 ((λ s x. x), (λ x. x), (λ x. x), λ x. x) in
    let old = g.F.FileSystem.disk c.args.files.now in
    let new = g.F.FileSystem.disk c.read_shares.new.files in
    let directories : List Text = map string_bytes c.args.directories.now in
    let queue = c.args.config.now.queue in
    let gives = c.into_iter-share-iterator.ensures.into_iter_gives in
    record {
      rest = refl;
      left = (let n = gives.1 in let same = ap length gives.0 in omega arith);
      count = c.new-recovered.ensures.len;
      so = subst (AreRecovered directories queue old new []) (sym c.new-recovered.ensures.items) (nothing_recovered directories queue old new c.read_shares.ensures.kept);
      replayed = subst (λ (l : List File). Replays (g.M.ReplayMachine.has_replayed c.args.machine.now) (g.M.ReplayMachine.has_replayed c.args.machine.now) queue new l) (sym c.new-recovered.ensures.items)
          (replays_nothing (g.M.ReplayMachine.has_replayed c.args.machine.now) queue new);
      later = c.in_ok-shares.ensures.later;
      none = none_refused c.args.config.now.mode directories queue c.args.names.now old;
    }

pub settle-requires-clause-there : goal.settle-requires-clause-there
settle-requires-clause-there g c κs within =
    let met = g.met.F.FileSystem g.world.𝓛 g.world.𝓜 g.world.𝓡 ((λ s x. x), (λ x. x), (λ x. x), λ x. x) in
    let at = c.loop-share in
    let x = c.in-Some.share in
    let place = length at.yielded in
    let old = g.F.FileSystem.disk c.args.files.now in
    let cur = g.F.FileSystem.disk at.files in
    let is = c.in_ok-shares.ensures.read place x
    (subst (λ l. slice_get l place ≡ Some x) (at_place at.yielded (into_iter_items c.next.new.self) x (into_iter_items at.share-iterator) (into_iter_items c.into_iter-share-iterator.result) c.in-Some.ensures.steps.0 at.invariant.rest ∙ c.into_iter-share-iterator.ensures.into_iter_gives.0)
    (at_seam at.yielded (into_iter_items c.next.new.self) x)) in
    let t : Turn = turn_at old (met.is_named c.args.files.now) c.args.config.now.mode c.args.config.now.queue c.args.directories.now c.args.names.now c.requires place cur at.recovered.items at.invariant.so x.name x.fd.0 is.here is.there c.new-id.result (λ j. record { queue = c.new-id.ensures.queue j; seq = c.new-id.ensures.seq j }) in
    is_file t

pub settle-requires-clause-read : goal.settle-requires-clause-read
settle-requires-clause-read g c κs within =
    let met = g.met.F.FileSystem g.world.𝓛 g.world.𝓜 g.world.𝓡 ((λ s x. x), (λ x. x), (λ x. x), λ x. x) in
    let at = c.loop-share in
    let x = c.in-Some.share in
    let place = length at.yielded in
    let old = g.F.FileSystem.disk c.args.files.now in
    let cur = g.F.FileSystem.disk at.files in
    let is = c.in_ok-shares.ensures.read place x
    (subst (λ l. slice_get l place ≡ Some x) (at_place at.yielded (into_iter_items c.next.new.self) x (into_iter_items at.share-iterator) (into_iter_items c.into_iter-share-iterator.result) c.in-Some.ensures.steps.0 at.invariant.rest ∙ c.into_iter-share-iterator.ensures.into_iter_gives.0)
    (at_seam at.yielded (into_iter_items c.next.new.self) x)) in
    let P = g.M.ReplayMachine.has_replayed x.machine in
    let m = g.F.FileSystem.meter c.read_shares.new.files in
    subst (λ (i : FileId). IsReadBy P cur (g.F.FileSystem.meter at.files) i x.fd.0 x.read) (sym (λ j. record { queue = c.new-id.ensures.queue j; seq = c.new-id.ensures.seq j }))
    (read_by_on old cur m (g.F.FileSystem.meter at.files) x.fd.0 at.invariant.so.only.names_stay (at.invariant.later.reads ∙ sym c.in_ok-shares.ensures.later.reads) P _ x.read
    (file_stays old (met.is_named c.args.files.now) c.args.config.now.mode c.args.config.now.queue c.args.directories.now c.args.names.now c.requires place cur at.recovered.items at.invariant.so x.name x.fd.0 is.here is.there c.new-id.result (λ j. record { queue = c.new-id.ensures.queue j; seq = c.new-id.ensures.seq j })) is.read_by)

pub loop-share-preserved : goal.loop-share-preserved
loop-share-preserved g c =
    let met = g.met.F.FileSystem g.world.𝓛 g.world.𝓜 g.world.𝓡 ((λ s x. x), (λ x. x), (λ x. x), λ x. x) in
    let at = c.loop-share in
    let x = c.in-Some.share in
    let place = length at.yielded in
    let old = g.F.FileSystem.disk c.args.files.now in
    let cur = g.F.FileSystem.disk at.files in
    let is = c.in_ok-shares.ensures.read place x
    (subst (λ l. slice_get l place ≡ Some x) (at_place at.yielded (into_iter_items c.next.new.self) x (into_iter_items at.share-iterator) (into_iter_items c.into_iter-share-iterator.result) c.in-Some.ensures.steps.0 at.invariant.rest ∙ c.into_iter-share-iterator.ensures.into_iter_gives.0)
    (at_seam at.yielded (into_iter_items c.next.new.self) x)) in
    let t : Turn = turn_at old (met.is_named c.args.files.now) c.args.config.now.mode c.args.config.now.queue c.args.directories.now c.args.names.now c.requires place cur at.recovered.items at.invariant.so x.name x.fd.0 is.here is.there c.new-id.result (λ j. record { queue = c.new-id.ensures.queue j; seq = c.new-id.ensures.seq j }) in
    let new = g.F.FileSystem.disk c.settle.new.files in
    let f : File = record { seq = x.name.seq; handle = x.fd; format = c.in_ok-format.format; path_id = x.name.path_id; reserved = false } in
    let done = done_at old (met.is_named c.args.files.now) c.args.config.now.mode c.args.config.now.queue c.args.directories.now c.args.names.now c.requires place cur at.recovered.items at.invariant.so x.name x.fd.0 is.here is.there c.new-id.result (λ j. record { queue = c.new-id.ensures.queue j; seq = c.new-id.ensures.seq j }) f new refl refl refl c.in_ok-format.ensures.ok c.in_ok-format.ensures.format (file_fits t.cur t.fd (met.has_images at.files) (is_file t)) in
    let rest = into_iter_items c.next.new.self in
    let steps : into_iter_items at.share-iterator ≡ x ∷ rest = c.in-Some.ensures.steps.0 in
    let short = ap length steps in
    let len : place + 1 ≡ length (at.yielded ++ x ∷ []) = sym (length-append at.yielded (x ∷ [])) in
    let pushed : c.push.new.self.items ≡ at.recovered.items ++ f ∷ [] = c.in_ok-push.ensures.items in
    record {
      rest = append_assoc at.yielded (x ∷ []) rest ∙ ap (λ l. at.yielded ++ l) (sym steps) ∙ at.invariant.rest;
      left = (let was = at.invariant.left in let gone = c.in-Some.ensures.steps.1 in omega arith);
      count = omega (arith, c.in_ok-push.ensures.len, at.invariant.count, len);
      so = subst (λ n. AreRecovered t.directories t.queue t.old new (take n t.names) c.push.new.self.items) len
          (subst (AreRecovered t.directories t.queue t.old new (take (t.i + 1) t.names)) (sym pushed) (done_recovered t f new done));
      replayed = subst (λ (l : List File). Replays (g.M.ReplayMachine.has_replayed c.args.machine.now) (g.M.ReplayMachine.has_replayed c.settle.new.machine) t.queue new l) (sym pushed)
          (done_replays t f new done (g.M.ReplayMachine.has_replayed c.args.machine.now) (g.M.ReplayMachine.has_replayed at.machine) (g.M.ReplayMachine.has_replayed c.settle.new.machine) at.invariant.replayed
          c.in_ok-format.ensures.replayed);
      later = no_more_then at.invariant.later c.in_ok-format.ensures.later;
      none = subst (λ n. NoneRefused t.mode t.directories t.queue t.names t.old n) len
          (done_none t f new done c.len.result (c.len.ensures ∙ at.invariant.count) (λ fault is refused. false≢true (c.in_ok-format.ensures.refused fault is refused).0) at.invariant.none);
    }

-- ---- a file was refused

pub returns-in_err-format-clause-only : goal.returns-in_err-format-clause-only
returns-in_err-format-clause-only g c =
    let met = g.met.F.FileSystem g.world.𝓛 g.world.𝓜 g.world.𝓡 ((λ s x. x), (λ x. x), (λ x. x), λ x. x) in
    let at = c.loop-share in
    let x = c.in-Some.share in
    let place = length at.yielded in
    let old = g.F.FileSystem.disk c.args.files.now in
    let cur = g.F.FileSystem.disk at.files in
    let is = c.in_ok-shares.ensures.read place x
    (subst (λ l. slice_get l place ≡ Some x) (at_place at.yielded (into_iter_items c.next.new.self) x (into_iter_items at.share-iterator) (into_iter_items c.into_iter-share-iterator.result) c.in-Some.ensures.steps.0 at.invariant.rest ∙ c.into_iter-share-iterator.ensures.into_iter_gives.0)
    (at_seam at.yielded (into_iter_items c.next.new.self) x)) in
    let t : Turn = turn_at old (met.is_named c.args.files.now) c.args.config.now.mode c.args.config.now.queue c.args.directories.now c.args.names.now c.requires place cur at.recovered.items at.invariant.so x.name x.fd.0 is.here is.there c.new-id.result (λ j. record { queue = c.new-id.ensures.queue j; seq = c.new-id.ensures.seq j }) in
    let new = g.F.FileSystem.disk c.settle.new.files in
    stopped_only t new c.in_err-format.ensures.err

pub returns-in_err-format-clause-reads : goal.returns-in_err-format-clause-reads
returns-in_err-format-clause-reads g c =
    let met = g.met.F.FileSystem g.world.𝓛 g.world.𝓜 g.world.𝓡 ((λ s x. x), (λ x. x), (λ x. x), λ x. x) in
    let at = c.loop-share in
    let x = c.in-Some.share in
    let place = length at.yielded in
    let old = g.F.FileSystem.disk c.args.files.now in
    let cur = g.F.FileSystem.disk at.files in
    let is = c.in_ok-shares.ensures.read place x
    (subst (λ l. slice_get l place ≡ Some x) (at_place at.yielded (into_iter_items c.next.new.self) x (into_iter_items at.share-iterator) (into_iter_items c.into_iter-share-iterator.result) c.in-Some.ensures.steps.0 at.invariant.rest ∙ c.into_iter-share-iterator.ensures.into_iter_gives.0)
    (at_seam at.yielded (into_iter_items c.next.new.self) x)) in
    let t : Turn = turn_at old (met.is_named c.args.files.now) c.args.config.now.mode c.args.config.now.queue c.args.directories.now c.args.names.now c.requires place cur at.recovered.items at.invariant.so x.name x.fd.0 is.here is.there c.new-id.result (λ j. record { queue = c.new-id.ensures.queue j; seq = c.new-id.ensures.seq j }) in
    let new = g.F.FileSystem.disk c.settle.new.files in
    stopped_alike t new c.in_err-format.ensures.err

pub returns-in_err-format-clause-err : goal.returns-in_err-format-clause-err
returns-in_err-format-clause-err g c =
    let met = g.met.F.FileSystem g.world.𝓛 g.world.𝓜 g.world.𝓡 ((λ s x. x), (λ x. x), (λ x. x), λ x. x) in
    let at = c.loop-share in
    let x = c.in-Some.share in
    let place = length at.yielded in
    let old = g.F.FileSystem.disk c.args.files.now in
    let cur = g.F.FileSystem.disk at.files in
    let is = c.in_ok-shares.ensures.read place x
    (subst (λ l. slice_get l place ≡ Some x) (at_place at.yielded (into_iter_items c.next.new.self) x (into_iter_items at.share-iterator) (into_iter_items c.into_iter-share-iterator.result) c.in-Some.ensures.steps.0 at.invariant.rest ∙ c.into_iter-share-iterator.ensures.into_iter_gives.0)
    (at_seam at.yielded (into_iter_items c.next.new.self) x)) in
    let t : Turn = turn_at old (met.is_named c.args.files.now) c.args.config.now.mode c.args.config.now.queue c.args.directories.now c.args.names.now c.requires place cur at.recovered.items at.invariant.so x.name x.fd.0 is.here is.there c.new-id.result (λ j. record { queue = c.new-id.ensures.queue j; seq = c.new-id.ensures.seq j }) in
    let new = g.F.FileSystem.disk c.settle.new.files in
    at_err _ _ (stopped_left t new c.in_err-format.ensures.err)

pub returns-in_err-format-clause-kept : goal.returns-in_err-format-clause-kept
returns-in_err-format-clause-kept g c =
    let met = g.met.F.FileSystem g.world.𝓛 g.world.𝓜 g.world.𝓡 ((λ s x. x), (λ x. x), (λ x. x), λ x. x) in
    let at = c.loop-share in
    let x = c.in-Some.share in
    let place = length at.yielded in
    let old = g.F.FileSystem.disk c.args.files.now in
    let cur = g.F.FileSystem.disk at.files in
    let is = c.in_ok-shares.ensures.read place x
    (subst (λ l. slice_get l place ≡ Some x) (at_place at.yielded (into_iter_items c.next.new.self) x (into_iter_items at.share-iterator) (into_iter_items c.into_iter-share-iterator.result) c.in-Some.ensures.steps.0 at.invariant.rest ∙ c.into_iter-share-iterator.ensures.into_iter_gives.0)
    (at_seam at.yielded (into_iter_items c.next.new.self) x)) in
    let t : Turn = turn_at old (met.is_named c.args.files.now) c.args.config.now.mode c.args.config.now.queue c.args.directories.now c.args.names.now c.requires place cur at.recovered.items at.invariant.so x.name x.fd.0 is.here is.there c.new-id.result (λ j. record { queue = c.new-id.ensures.queue j; seq = c.new-id.ensures.seq j }) in
    let new = g.F.FileSystem.disk c.settle.new.files in
    at_err _ _
    (stopped_kept t new c.len.result (c.len.ensures ∙ at.invariant.count) c.in_err-format.ensures.err (λ fault is refused. (c.in_err-format.ensures.refused fault is refused).1) at.invariant.none)

pub returns-in_err-format-clause-corrupt : goal.returns-in_err-format-clause-corrupt
returns-in_err-format-clause-corrupt g c =
    let met = g.met.F.FileSystem g.world.𝓛 g.world.𝓜 g.world.𝓡 ((λ s x. x), (λ x. x), (λ x. x), λ x. x) in
    let at = c.loop-share in
    let x = c.in-Some.share in
    let place = length at.yielded in
    let old = g.F.FileSystem.disk c.args.files.now in
    let cur = g.F.FileSystem.disk at.files in
    let is = c.in_ok-shares.ensures.read place x
    (subst (λ l. slice_get l place ≡ Some x) (at_place at.yielded (into_iter_items c.next.new.self) x (into_iter_items at.share-iterator) (into_iter_items c.into_iter-share-iterator.result) c.in-Some.ensures.steps.0 at.invariant.rest ∙ c.into_iter-share-iterator.ensures.into_iter_gives.0)
    (at_seam at.yielded (into_iter_items c.next.new.self) x)) in
    let t : Turn = turn_at old (met.is_named c.args.files.now) c.args.config.now.mode c.args.config.now.queue c.args.directories.now c.args.names.now c.requires place cur at.recovered.items at.invariant.so x.name x.fd.0 is.here is.there c.new-id.result (λ j. record { queue = c.new-id.ensures.queue j; seq = c.new-id.ensures.seq j }) in
    passed_on (λ (f : CorruptionFault). AnyRefused t.mode t.directories t.queue t.names t.old) c.in_err-format.field-0.0 c.from_residual-in_err-format.result c.from_residual-in_err-format.ensures.1
    (λ f same. refused_at t c.len.result f (c.len.ensures ∙ at.invariant.count) (c.in_err-format.ensures.corrupt f (λ i. Err (same i))))

pub returns-in_err-format-clause-later : goal.returns-in_err-format-clause-later
returns-in_err-format-clause-later g c =
    no_more_then c.loop-share.invariant.later c.in_err-format.ensures.later

pub returns-in_err-format-clause-cause : goal.returns-in_err-format-clause-cause
returns-in_err-format-clause-cause g c =
    let met = g.met.F.FileSystem g.world.𝓛 g.world.𝓜 g.world.𝓡 ((λ s x. x), (λ x. x), (λ x. x), λ x. x) in
    let at = c.loop-share in
    let x = c.in-Some.share in
    let place = length at.yielded in
    let old = g.F.FileSystem.disk c.args.files.now in
    let cur = g.F.FileSystem.disk at.files in
    let is = c.in_ok-shares.ensures.read place x
    (subst (λ l. slice_get l place ≡ Some x) (at_place at.yielded (into_iter_items c.next.new.self) x (into_iter_items at.share-iterator) (into_iter_items c.into_iter-share-iterator.result) c.in-Some.ensures.steps.0 at.invariant.rest ∙ c.into_iter-share-iterator.ensures.into_iter_gives.0)
    (at_seam at.yielded (into_iter_items c.next.new.self) x)) in
    let directories : List Text = map string_bytes c.args.directories.now in
    let queue = c.args.config.now.queue in
    let a = g.F.FileSystem.meter c.args.files.now in
    let b = g.F.FileSystem.meter at.files in
    let e = g.F.FileSystem.meter c.settle.new.files in
    let missing : Type 0 = IsMissing old directories queue c.args.names.now in
    let free : Type 0 = g.F.FileSystem.is_bounded c.args.files.now in
    let free_then : Type 0 = g.F.FileSystem.is_bounded at.files in
    let unread = unreadable_at cur directories queue c.args.names.now x.name x.fd.0 a b (met.is_named at.files)
    (name_in old (met.is_named c.args.files.now) c.args.config.now.mode c.args.config.now.queue c.args.directories.now c.args.names.now c.requires place cur at.recovered.items at.invariant.so x.name x.fd.0 is.here is.there c.new-id.result (λ j. record { queue = c.new-id.ensures.queue j; seq = c.new-id.ensures.seq j })) at.invariant.later.reads
    (there_now old (met.is_named c.args.files.now) c.args.config.now.mode c.args.config.now.queue c.args.directories.now c.args.names.now c.requires place cur at.recovered.items at.invariant.so x.name x.fd.0 is.here is.there c.new-id.result (λ j. record { queue = c.new-id.ensures.queue j; seq = c.new-id.ensures.seq j })) in
    told_cause c.from_residual-in_err-format.result c.in_err-format.field-0.0 (λ (x : Error). AreFilesRefused missing ⊥ directories queue c.args.names.now free a e x) c.from_residual-in_err-format.ensures.1
    (recovery_for (IsRefusal free_then ⊥ b e ⊎ HasOneOf cur x.fd.0 b.unreadable) ⊥ (IsRefusal free ⊥ a e ⊎ AnyUnreadable directories queue c.args.names.now a) missing c.in_err-format.field-0.0
    (λ why. elim why [ inl more ↦ inl (refusal_then free free_then ⊥ ⊥ a b e at.invariant.later (λ x. x) more) | inr one ↦ inr (unread one) ]) (λ x. absurd x) c.in_err-format.ensures.cause)

-- ---- no memory for the list of files

pub returns-in_err-push-clause-only : goal.returns-in_err-push-clause-only
returns-in_err-push-clause-only g c =
    let met = g.met.F.FileSystem g.world.𝓛 g.world.𝓜 g.world.𝓡 ((λ s x. x), (λ x. x), (λ x. x), λ x. x) in
    let at = c.loop-share in
    let x = c.in-Some.share in
    let place = length at.yielded in
    let old = g.F.FileSystem.disk c.args.files.now in
    let cur = g.F.FileSystem.disk at.files in
    let is = c.in_ok-shares.ensures.read place x
    (subst (λ l. slice_get l place ≡ Some x) (at_place at.yielded (into_iter_items c.next.new.self) x (into_iter_items at.share-iterator) (into_iter_items c.into_iter-share-iterator.result) c.in-Some.ensures.steps.0 at.invariant.rest ∙ c.into_iter-share-iterator.ensures.into_iter_gives.0)
    (at_seam at.yielded (into_iter_items c.next.new.self) x)) in
    let t : Turn = turn_at old (met.is_named c.args.files.now) c.args.config.now.mode c.args.config.now.queue c.args.directories.now c.args.names.now c.requires place cur at.recovered.items at.invariant.so x.name x.fd.0 is.here is.there c.new-id.result (λ j. record { queue = c.new-id.ensures.queue j; seq = c.new-id.ensures.seq j }) in
    let new = g.F.FileSystem.disk c.settle.new.files in
    let f : File = record { seq = x.name.seq; handle = x.fd; format = c.in_ok-format.format; path_id = x.name.path_id; reserved = false } in
    let done = done_at old (met.is_named c.args.files.now) c.args.config.now.mode c.args.config.now.queue c.args.directories.now c.args.names.now c.requires place cur at.recovered.items at.invariant.so x.name x.fd.0 is.here is.there c.new-id.result (λ j. record { queue = c.new-id.ensures.queue j; seq = c.new-id.ensures.seq j }) f new refl refl refl c.in_ok-format.ensures.ok c.in_ok-format.ensures.format (file_fits t.cur t.fd (met.has_images at.files) (is_file t)) in
    done_only t f new done

pub returns-in_err-push-clause-reads : goal.returns-in_err-push-clause-reads
returns-in_err-push-clause-reads g c =
    let met = g.met.F.FileSystem g.world.𝓛 g.world.𝓜 g.world.𝓡 ((λ s x. x), (λ x. x), (λ x. x), λ x. x) in
    let at = c.loop-share in
    let x = c.in-Some.share in
    let place = length at.yielded in
    let old = g.F.FileSystem.disk c.args.files.now in
    let cur = g.F.FileSystem.disk at.files in
    let is = c.in_ok-shares.ensures.read place x
    (subst (λ l. slice_get l place ≡ Some x) (at_place at.yielded (into_iter_items c.next.new.self) x (into_iter_items at.share-iterator) (into_iter_items c.into_iter-share-iterator.result) c.in-Some.ensures.steps.0 at.invariant.rest ∙ c.into_iter-share-iterator.ensures.into_iter_gives.0)
    (at_seam at.yielded (into_iter_items c.next.new.self) x)) in
    let t : Turn = turn_at old (met.is_named c.args.files.now) c.args.config.now.mode c.args.config.now.queue c.args.directories.now c.args.names.now c.requires place cur at.recovered.items at.invariant.so x.name x.fd.0 is.here is.there c.new-id.result (λ j. record { queue = c.new-id.ensures.queue j; seq = c.new-id.ensures.seq j }) in
    let new = g.F.FileSystem.disk c.settle.new.files in
    let f : File = record { seq = x.name.seq; handle = x.fd; format = c.in_ok-format.format; path_id = x.name.path_id; reserved = false } in
    let done = done_at old (met.is_named c.args.files.now) c.args.config.now.mode c.args.config.now.queue c.args.directories.now c.args.names.now c.requires place cur at.recovered.items at.invariant.so x.name x.fd.0 is.here is.there c.new-id.result (λ j. record { queue = c.new-id.ensures.queue j; seq = c.new-id.ensures.seq j }) f new refl refl refl c.in_ok-format.ensures.ok c.in_ok-format.ensures.format (file_fits t.cur t.fd (met.has_images at.files) (is_file t)) in
    done_alike t f new done

pub returns-in_err-push-clause-err : goal.returns-in_err-push-clause-err
returns-in_err-push-clause-err g c =
    let met = g.met.F.FileSystem g.world.𝓛 g.world.𝓜 g.world.𝓡 ((λ s x. x), (λ x. x), (λ x. x), λ x. x) in
    let at = c.loop-share in
    let x = c.in-Some.share in
    let place = length at.yielded in
    let old = g.F.FileSystem.disk c.args.files.now in
    let cur = g.F.FileSystem.disk at.files in
    let is = c.in_ok-shares.ensures.read place x
    (subst (λ l. slice_get l place ≡ Some x) (at_place at.yielded (into_iter_items c.next.new.self) x (into_iter_items at.share-iterator) (into_iter_items c.into_iter-share-iterator.result) c.in-Some.ensures.steps.0 at.invariant.rest ∙ c.into_iter-share-iterator.ensures.into_iter_gives.0)
    (at_seam at.yielded (into_iter_items c.next.new.self) x)) in
    let t : Turn = turn_at old (met.is_named c.args.files.now) c.args.config.now.mode c.args.config.now.queue c.args.directories.now c.args.names.now c.requires place cur at.recovered.items at.invariant.so x.name x.fd.0 is.here is.there c.new-id.result (λ j. record { queue = c.new-id.ensures.queue j; seq = c.new-id.ensures.seq j }) in
    let new = g.F.FileSystem.disk c.settle.new.files in
    let f : File = record { seq = x.name.seq; handle = x.fd; format = c.in_ok-format.format; path_id = x.name.path_id; reserved = false } in
    let done = done_at old (met.is_named c.args.files.now) c.args.config.now.mode c.args.config.now.queue c.args.directories.now c.args.names.now c.requires place cur at.recovered.items at.invariant.so x.name x.fd.0 is.here is.there c.new-id.result (λ j. record { queue = c.new-id.ensures.queue j; seq = c.new-id.ensures.seq j }) f new refl refl refl c.in_ok-format.ensures.ok c.in_ok-format.ensures.format (file_fits t.cur t.fd (met.has_images at.files) (is_file t)) in
    at_err _ _ (done_left t f new done)

pub returns-in_err-push-clause-kept : goal.returns-in_err-push-clause-kept
returns-in_err-push-clause-kept g c =
    let met = g.met.F.FileSystem g.world.𝓛 g.world.𝓜 g.world.𝓡 ((λ s x. x), (λ x. x), (λ x. x), λ x. x) in
    let at = c.loop-share in
    let x = c.in-Some.share in
    let place = length at.yielded in
    let old = g.F.FileSystem.disk c.args.files.now in
    let cur = g.F.FileSystem.disk at.files in
    let is = c.in_ok-shares.ensures.read place x
    (subst (λ l. slice_get l place ≡ Some x) (at_place at.yielded (into_iter_items c.next.new.self) x (into_iter_items at.share-iterator) (into_iter_items c.into_iter-share-iterator.result) c.in-Some.ensures.steps.0 at.invariant.rest ∙ c.into_iter-share-iterator.ensures.into_iter_gives.0)
    (at_seam at.yielded (into_iter_items c.next.new.self) x)) in
    let t : Turn = turn_at old (met.is_named c.args.files.now) c.args.config.now.mode c.args.config.now.queue c.args.directories.now c.args.names.now c.requires place cur at.recovered.items at.invariant.so x.name x.fd.0 is.here is.there c.new-id.result (λ j. record { queue = c.new-id.ensures.queue j; seq = c.new-id.ensures.seq j }) in
    let new = g.F.FileSystem.disk c.settle.new.files in
    let f : File = record { seq = x.name.seq; handle = x.fd; format = c.in_ok-format.format; path_id = x.name.path_id; reserved = false } in
    let done = done_at old (met.is_named c.args.files.now) c.args.config.now.mode c.args.config.now.queue c.args.directories.now c.args.names.now c.requires place cur at.recovered.items at.invariant.so x.name x.fd.0 is.here is.there c.new-id.result (λ j. record { queue = c.new-id.ensures.queue j; seq = c.new-id.ensures.seq j }) f new refl refl refl c.in_ok-format.ensures.ok c.in_ok-format.ensures.format (file_fits t.cur t.fd (met.has_images at.files) (is_file t)) in
    at_err _ _ (done_kept t f new done c.len.result (c.len.ensures ∙ at.invariant.count) (λ fault is refused. false≢true (c.in_ok-format.ensures.refused fault is refused).0) at.invariant.none)

pub returns-in_err-push-clause-corrupt : goal.returns-in_err-push-clause-corrupt
returns-in_err-push-clause-corrupt g c =
    memory_sound (λ (f : CorruptionFault). AnyRefused c.args.config.now.mode (map string_bytes c.args.directories.now) c.args.config.now.queue c.args.names.now (g.F.FileSystem.disk c.args.files.now))
    c.from_residual-in_err-push.result c.from_residual-in_err-push.ensures.1

pub returns-in_err-push-clause-later : goal.returns-in_err-push-clause-later
returns-in_err-push-clause-later g c =
    no_more_then c.loop-share.invariant.later c.in_ok-format.ensures.later

pub returns-in_err-push-clause-cause : goal.returns-in_err-push-clause-cause
returns-in_err-push-clause-cause g c =
    let missing : Type 0 = IsMissing (g.F.FileSystem.disk c.args.files.now) (map string_bytes c.args.directories.now) c.args.config.now.queue c.args.names.now in
    told_cause c.from_residual-in_err-push.result Memory (λ (x : Error). AreFilesRefused missing ⊥ (map string_bytes c.args.directories.now) c.args.config.now.queue c.args.names.now (g.F.FileSystem.is_bounded c.args.files.now) (g.F.FileSystem.meter c.args.files.now) (g.F.FileSystem.meter c.settle.new.files) x)
    c.from_residual-in_err-push.ensures.1 (inr tt)

-- ---- all files are recovered

pub returns-clause-ok : goal.returns-clause-ok
returns-clause-ok g c =
    let met = g.met.F.FileSystem g.world.𝓛 g.world.𝓜 g.world.𝓡 ((λ s x. x), (λ x. x), (λ x. x), λ x. x) in
    let at = c.loop-share in
    let old = g.F.FileSystem.disk c.args.files.now in
    let directories : List Text = map string_bytes c.args.directories.now in
    let queue = c.args.config.now.queue in
    let gives = c.into_iter-share-iterator.ensures.into_iter_gives in
    let none : into_iter_items at.share-iterator ≡ [] = nil_from_length _ (let empty = c.in-None.ensures.steps.0 in let left = at.invariant.left in omega arith) in
    let done : at.yielded ≡ c.in_ok-shares.shares.items = sym (append-nil at.yielded) ∙ ap (λ l. at.yielded ++ l) (sym none) ∙ at.invariant.rest ∙ gives.0 in
    let all : length at.yielded ≡ length c.args.names.now = ap length done ∙ c.in_ok-shares.ensures.count in
    all_recovered directories queue old (g.F.FileSystem.disk at.files) c.args.names.now (length at.yielded) at.recovered.items all at.invariant.so

pub returns-clause-only : goal.returns-clause-only
returns-clause-only g c =
    let met = g.met.F.FileSystem g.world.𝓛 g.world.𝓜 g.world.𝓡 ((λ s x. x), (λ x. x), (λ x. x), λ x. x) in
    let at = c.loop-share in
    let old = g.F.FileSystem.disk c.args.files.now in
    let directories : List Text = map string_bytes c.args.directories.now in
    let queue = c.args.config.now.queue in
    let gives = c.into_iter-share-iterator.ensures.into_iter_gives in
    let none : into_iter_items at.share-iterator ≡ [] = nil_from_length _ (let empty = c.in-None.ensures.steps.0 in let left = at.invariant.left in omega arith) in
    let done : at.yielded ≡ c.in_ok-shares.shares.items = sym (append-nil at.yielded) ∙ ap (λ l. at.yielded ++ l) (sym none) ∙ at.invariant.rest ∙ gives.0 in
    let all : length at.yielded ≡ length c.args.names.now = ap length done ∙ c.in_ok-shares.ensures.count in
    only_between c.args.config.now.mode directories queue (length c.args.directories.now) old c.args.names.now (met.is_named c.args.files.now) c.requires (g.F.FileSystem.disk at.files) (g.F.FileSystem.disk at.files) (length at.yielded) at.recovered.items refl at.invariant.so

pub returns-clause-reads : goal.returns-clause-reads
returns-clause-reads g c =
    let met = g.met.F.FileSystem g.world.𝓛 g.world.𝓜 g.world.𝓡 ((λ s x. x), (λ x. x), (λ x. x), λ x. x) in
    let at = c.loop-share in
    let old = g.F.FileSystem.disk c.args.files.now in
    let directories : List Text = map string_bytes c.args.directories.now in
    let queue = c.args.config.now.queue in
    let gives = c.into_iter-share-iterator.ensures.into_iter_gives in
    let none : into_iter_items at.share-iterator ≡ [] = nil_from_length _ (let empty = c.in-None.ensures.steps.0 in let left = at.invariant.left in omega arith) in
    let done : at.yielded ≡ c.in_ok-shares.shares.items = sym (append-nil at.yielded) ∙ ap (λ l. at.yielded ++ l) (sym none) ∙ at.invariant.rest ∙ gives.0 in
    let all : length at.yielded ≡ length c.args.names.now = ap length done ∙ c.in_ok-shares.ensures.count in
    alike_at c.args.config.now.mode directories queue (length c.args.directories.now) old c.args.names.now (met.is_named c.args.files.now) c.requires (g.F.FileSystem.disk at.files) (g.F.FileSystem.disk at.files) (length at.yielded) at.recovered.items refl at.invariant.so

pub returns-clause-refused : goal.returns-clause-refused
returns-clause-refused g c =
    let met = g.met.F.FileSystem g.world.𝓛 g.world.𝓜 g.world.𝓡 ((λ s x. x), (λ x. x), (λ x. x), λ x. x) in
    let at = c.loop-share in
    let old = g.F.FileSystem.disk c.args.files.now in
    let directories : List Text = map string_bytes c.args.directories.now in
    let queue = c.args.config.now.queue in
    let gives = c.into_iter-share-iterator.ensures.into_iter_gives in
    let none : into_iter_items at.share-iterator ≡ [] = nil_from_length _ (let empty = c.in-None.ensures.steps.0 in let left = at.invariant.left in omega arith) in
    let done : at.yielded ≡ c.in_ok-shares.shares.items = sym (append-nil at.yielded) ∙ ap (λ l. at.yielded ++ l) (sym none) ∙ at.invariant.rest ∙ gives.0 in
    let all : length at.yielded ≡ length c.args.names.now = ap length done ∙ c.in_ok-shares.ensures.count in
    λ any. absurd (none_left c.args.config.now.mode directories queue c.args.names.now old
    (subst (NoneRefused c.args.config.now.mode directories queue c.args.names.now old) all at.invariant.none) any)
