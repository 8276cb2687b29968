-- What is opened has ended as the step of the opening says.
use Rattle.std.proofs.Common.{◌≡◌, ◌∙◌, ◌<◌, ℕ, List, [], ◌∷◌, Option, sym, subst, arith}
use Rattle.std.specs.Prelude.{None, Some, length}
use Rattle.std.proofs.lemmas.Result.{IfOk-weaker, on_err_weaker}
use Rattle.raft_values.specs.declared.log_id.LogId.{LogId}
use Rattle.raft_group_step.specs.StoredGroup.{StoredGroup, after_storing_all}
use Rattle.raft_group_step.specs.GroupState.{state_of}
use Rattle.raft_group_step.specs.GroupEvent.{Open}
use Rattle.raft_group_storage.specs.Loaded.{IsLoaded}
use Rattle.raft_group_storage.specs.declared.loaded_group.LoadedGroup.{LoadedGroup}
use Rattle.raft_log_ids.proofs.GrowthLemmas.{on_err}
use Rattle.raft_laws.specs.Opened.{opened}
use Rattle.raft_member.specs.Member.{HasEnded}
use Rattle.raft_member.specs.Opening.{stale_end}
use Rattle.raft_member.specs.Running.{HasRun}
use Rattle.raft_member.proofs.OpeningLemmas.{Leaves, dropping, ended_of_run, first, leaves_all, leaves_none, leaves_one_less, opened_down, opened_stored, rest}
use Rattle.raft_member.proofs.OpeningLemmas.{stopped_at_first, stopped_in_first, stopped_of_halted}
use Rattle.raft_member.proofs.member.Member.open.Goals as goal
use Rattle.raft_member.proofs.member.Member.open.Goals.{in-Some-stop, in-None}

-- what is shown, and loaded, once the first commands are stored
shown_with : (shown : List StoredGroup → Type 0) (st : StoredGroup) (o : Option (LogId ℕ)) → stale_end st ≡ o
    → shown (after_storing_all (dropping o) st ∷ []) → shown (after_storing_all (first st) st ∷ [])
shown_with shown st o is h = subst (λ (x : Option (LogId ℕ)). shown (after_storing_all (dropping x) st ∷ [])) (sym is) h

loaded_with : (loaded : LoadedGroup) (st : StoredGroup) (o : Option (LogId ℕ)) → stale_end st ≡ o → IsLoaded loaded (after_storing_all (dropping o) st) → IsLoaded loaded (opened st).state.stored
loaded_with loaded st o is h =
    subst (IsLoaded loaded) (sym (opened_stored st))
    (subst (λ (x : Option (LogId ℕ)). IsLoaded loaded (after_storing_all (dropping x) st)) (sym is) h)

pub returns-in_err-loaded-clause-err : goal.returns-in_err-loaded-clause-err
returns-in_err-loaded-clause-err g c = λ st down openable.
    let after = c.load.new.self in
    on_err _
    (stopped_at_first st c.args.self.now.id (g.S.GroupStorage.is_well after) (g.S.GroupStorage.shows after c.args.group)
    (g.met.S.GroupStorage.shows_more after c.args.group) (g.S.GroupStorage.fails after)
    (c.in_err-loaded.ensures.err st down.well down.stored) c.args.self.now down.no_engine
    (c.load.ensures.kept c.args.group _ down.stored))

pub returns-in_default-clause-ok : goal.returns-in_default-clause-ok
returns-in_default-clause-ok g c = λ st down openable.
    let own = c.args.self.now.id in
    let stop = c.args.stop in
    let m = c.start.new.self in
    let before = c.load.new.self in
    let after = c.start.new.storage in
    let stands = g.S.GroupStorage.stands in
    let loaded = c.in_ok-loaded.ensures.ok st down.well down.stored in
    let none : stale_end st ≡ None = sym (c.stale_end.ensures st loaded) ∙ c.in_default.is in
    let shown = g.S.GroupStorage.shows before c.args.group in
    let stored = shown_with shown st None none (c.load.ensures.kept c.args.group _ down.stored) in
    let begun = opened_down st (g.S.GroupStorage.is_well before) shown c.args.self.now down.no_engine (c.in_ok-loaded.ensures.well down.well) down.present stored in
    let start = c.start.ensures.ok st (loaded_with c.in_ok-loaded.loaded st None none loaded) begun openable in
    let is_well = g.S.GroupStorage.is_well after in
    let shown_after = g.S.GroupStorage.shows after c.args.group in
    IfOk-weaker c.start.result (HasRun stands is_well shown_after (opened st).state.stored (rest st own) stop m) (HasEnded stands is_well shown_after own (state_of st) Open stop m)
    (ended_of_run st own is_well shown_after stands stop stop (subst (λ o. Leaves (length (dropping o)) stop stop) (sym none) (leaves_all stop)) m) start

pub returns-in_default-clause-err : goal.returns-in_default-clause-err
returns-in_default-clause-err g c = λ st down openable.
    let own = c.args.self.now.id in
    let m = c.start.new.self in
    let before = c.load.new.self in
    let after = c.start.new.storage in
    let loaded = c.in_ok-loaded.ensures.ok st down.well down.stored in
    let none : stale_end st ≡ None = sym (c.stale_end.ensures st loaded) ∙ c.in_default.is in
    let shown = g.S.GroupStorage.shows before c.args.group in
    let stored = shown_with shown st None none (c.load.ensures.kept c.args.group _ down.stored) in
    let begun = opened_down st (g.S.GroupStorage.is_well before) shown c.args.self.now down.no_engine (c.in_ok-loaded.ensures.well down.well) down.present stored in
    let start = c.start.ensures.err st (loaded_with c.in_ok-loaded.loaded st None none loaded) begun openable in
    on_err_weaker c.start.result (stopped_of_halted st own (g.S.GroupStorage.is_well after) (g.S.GroupStorage.shows after c.args.group) (g.S.GroupStorage.fails after) m) start

pub returns-in_err-start_after-clause-err : goal.returns-in_err-start_after-clause-err
returns-in_err-start_after-clause-err g c = λ st down openable.
    let after = c.start_after.new.self in
    let loaded = c.in_ok-loaded.ensures.ok st down.well down.stored in
    let some : stale_end st ≡ Some c.in-Some.last = sym (c.stale_end.ensures st loaded) ∙ c.in-Some.is in
    let failed = c.in_err-start_after.ensures.err (c.in_ok-loaded.ensures.well down.well) st (c.load.ensures.kept c.args.group _ down.stored) in
    on_err _
    (stopped_in_first st c.args.self.now.id (g.S.GroupStorage.is_well after) (g.S.GroupStorage.shows after c.args.group)
    (g.met.S.GroupStorage.shows_more after c.args.group) (g.S.GroupStorage.fails after) c.args.self.now down.no_engine
    c.in-Some.last some failed.0 failed.1)

pub returns-clause-ok : goal.returns-clause-ok
returns-clause-ok g c = λ st down openable.
    let own = c.args.self.now.id in
    let stop = c.args.stop in
    let m = c.start-2.new.self in
    let between = c.start_after.new.self in
    let after = c.start-2.new.storage in
    let stands = g.S.GroupStorage.stands in
    let loaded = c.in_ok-loaded.ensures.ok st down.well down.stored in
    let some : stale_end st ≡ Some c.in-Some.last = sym (c.stale_end.ensures st loaded) ∙ c.in-Some.is in
    let leaves : Leaves 1 stop c.match-stop.stop_later =
    elim c.match-stop.branch [
      | in-Some-stop w ↦
          let t = rw w.in-Some-stop.is at w.in-Some-stop.count-test in
          let more : 0 < w.in-Some-stop.count = omega arith in
          leaves_one_less stop c.match-stop.stop_later w.in-Some-stop.count w.in-Some-stop.is more w.stop_later-is
      | in-None w ↦ leaves_none 1 stop c.match-stop.stop_later w.in-None.is w.stop_later-is
    ] in
    let well = c.in_ok-loaded.ensures.well down.well in
    let shown = g.S.GroupStorage.shows between c.args.group in
    let stored = shown_with shown st (Some c.in-Some.last) some (c.in_ok-start_after.ensures.ok well st (c.load.ensures.kept c.args.group _ down.stored)) in
    let begun = opened_down st (g.S.GroupStorage.is_well between) shown c.args.self.now down.no_engine (c.in_ok-start_after.ensures.well well) down.present stored in
    let start = c.start-2.ensures.ok st (loaded_with c.starting_after-loaded.result st (Some c.in-Some.last) some (c.starting_after-loaded.ensures st loaded)) begun openable in
    let is_well = g.S.GroupStorage.is_well after in
    let shown_after = g.S.GroupStorage.shows after c.args.group in
    IfOk-weaker c.start-2.result (HasRun stands is_well shown_after (opened st).state.stored (rest st own) c.match-stop.stop_later m)
    (HasEnded stands is_well shown_after own (state_of st) Open stop m)
    (ended_of_run st own is_well shown_after stands stop c.match-stop.stop_later (subst (λ o. Leaves (length (dropping o)) stop c.match-stop.stop_later) (sym some) leaves) m) start

pub returns-clause-err : goal.returns-clause-err
returns-clause-err g c = λ st down openable.
    let own = c.args.self.now.id in
    let m = c.start-2.new.self in
    let between = c.start_after.new.self in
    let after = c.start-2.new.storage in
    let loaded = c.in_ok-loaded.ensures.ok st down.well down.stored in
    let some : stale_end st ≡ Some c.in-Some.last = sym (c.stale_end.ensures st loaded) ∙ c.in-Some.is in
    let well = c.in_ok-loaded.ensures.well down.well in
    let shown = g.S.GroupStorage.shows between c.args.group in
    let stored = shown_with shown st (Some c.in-Some.last) some (c.in_ok-start_after.ensures.ok well st (c.load.ensures.kept c.args.group _ down.stored)) in
    let begun = opened_down st (g.S.GroupStorage.is_well between) shown c.args.self.now down.no_engine (c.in_ok-start_after.ensures.well well) down.present stored in
    let start = c.start-2.ensures.err st (loaded_with c.starting_after-loaded.result st (Some c.in-Some.last) some (c.starting_after-loaded.ensures st loaded)) begun openable in
    on_err_weaker c.start-2.result (stopped_of_halted st own (g.S.GroupStorage.is_well after) (g.S.GroupStorage.shows after c.args.group) (g.S.GroupStorage.fails after) m) start
