-- The engine runs the rest of the opening.
use Rattle.std.proofs.Common.{ap, ◌∙◌, subst}
use Rattle.raft_laws.specs.Opened.{opened}
use Rattle.raft_member.specs.Opening.{HasStarted}
use Rattle.raft_member.specs.Running.{HasHalted}
use Rattle.raft_member.specs.declared.member.Member.{Member}
use Rattle.raft_log_ids.proofs.GrowthLemmas.{on_err}
use Rattle.raft_member.proofs.EventLemmas.{halted_at_once}
use Rattle.raft_member.proofs.OpeningLemmas.{rest, rest_begins, rest_stored}
use Rattle.raft_member.proofs.RunLemmas.{one_snapshot, run_without_snapshot}
use Rattle.raft_member.proofs.TellingLemmas.{told_fault, told_id, told_run}
use Rattle.raft_member.proofs.member.Member.start.Goals as goal

pub returns-clause-err : goal.returns-clause-err
returns-clause-err g c = λ st loaded down openable.
    let own = c.args.self.now.id in
    let old = (opened st).state in
    let run =
    run_without_snapshot g.S.GroupStorage.stands own c.in-Some.engine old.stored (rest st own) 0
    (λ x. subst (HasStarted x own old) c.in-Some.is (c.in_ok-engine.ensures x st loaded openable))
    (rest_stored st own) (rest_begins st own) in
    let told = c.end_without_snapshot-told in
    told_fault told.new.engine told.new.self c.put_back.new.self (λ m met. HasHalted (g.S.GroupStorage.shows told.new.storage c.args.group) (g.S.GroupStorage.fails told.new.storage) old.stored (rest st own) m)
    told.result c.put_back.ensures (told.ensures.err old.stored (rest st own) down run)

pub returns-clause-ok : goal.returns-clause-ok
returns-clause-ok g c = λ st loaded down openable.
    let own = c.args.self.now.id in
    let old = (opened st).state in
    let run =
    run_without_snapshot g.S.GroupStorage.stands own c.in-Some.engine old.stored (rest st own) 0
    (λ x. subst (HasStarted x own old) c.in-Some.is (c.in_ok-engine.ensures x st loaded openable))
    (rest_stored st own) (rest_begins st own) in
    let told = c.end_without_snapshot-told in
    told_run told.new.engine told.new.self c.put_back.new.self g.S.GroupStorage.stands (g.S.GroupStorage.is_well told.new.storage) (g.S.GroupStorage.shows told.new.storage c.args.group)
    old.stored (rest st own) c.args.stop told.result c.put_back.ensures (told.ensures.ok old.stored (rest st own) down run)

pub returns-clause-id : goal.returns-clause-id
returns-clause-id g c =
    let told = c.end_without_snapshot-told in
    ap (λ (m : Member). m.id) c.put_back.ensures ∙ told_id told.new.engine told.new.self c.put_back.new.self told.result ∙ told.ensures.id

-- there is an engine, whatever snapshot a command would store
pub returns-in_default-clause-ok : goal.returns-in_default-clause-ok
returns-in_default-clause-ok g c = λ st loaded down openable.
    let x = one_snapshot 0 in
    absurd (subst (HasStarted x c.args.self.now.id (opened st).state) c.in_default.is (c.in_ok-engine.ensures x st loaded openable))

pub returns-in_err-engine-clause-err : goal.returns-in_err-engine-clause-err
returns-in_err-engine-clause-err g c = λ st loaded down openable.
    let here = c.args.storage.now in
    on_err _
    (halted_at_once (g.S.GroupStorage.is_well here) (g.S.GroupStorage.shows here c.args.group) (g.S.GroupStorage.fails here) (opened st).state.stored (rest st c.args.self.now.id)
    (g.met.S.GroupStorage.shows_more here c.args.group) (g.met.S.GroupStorage.well_fails here down.well) c.args.self.now down.no_engine down.stored)
