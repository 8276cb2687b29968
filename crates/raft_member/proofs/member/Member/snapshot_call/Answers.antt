-- A snapshot of what is applied was built, or the engine has none to build.
use Rattle.std.proofs.Common.{◌≡◌, true, false, Option, None, sym, ap, subst}
use Rattle.std.specs.Option.{option_copied}
use Rattle.std.proofs.lemmas.Bool.{both_ways}
use Rattle.raft_values.specs.LogId.{stands_before}
use Rattle.raft_group_step.specs.GroupEvent.{Call}
use Rattle.raft_group_step.specs.GroupStep.{group_step}
use Rattle.raft_group_step.specs.declared.group_call.GroupCall.TheVariants.{TriggerSnapshot}
use Rattle.raft_engine.specs.Building.{covered_id}
use Rattle.raft_engine.specs.Events.{HasTaken}
use Rattle.raft_engine.specs.Standing.{IsStateOf}
use Rattle.raft_engine.proofs.BuildingLemmas.{stands_asking}
use Rattle.raft_progress.proofs.OrderLemmas.{bool_cases}
use Rattle.raft_member.specs.Member.{Engine, IsBuilt}
use Rattle.raft_member.proofs.AppliedLemmas.{has_one}
use Rattle.raft_log_ids.proofs.GrowthLemmas.{on_err}
use Rattle.raft_member.proofs.EventLemmas.{halted_at_once, run_of_call, run_of_call_with}
use Rattle.raft_member.proofs.RunLemmas.{one_snapshot}
use Rattle.raft_member.proofs.member.Member.snapshot_call.Goals as goal

pub returns-then-not-branch-clause-ok : goal.returns-then-not-branch-clause-ok
returns-then-not-branch-clause-ok g c = λ at s built down idle moment may.
    let none_past : stands_before (covered_id c.args.engine.now) c.args.engine.now.state.state.committed ≡ false =
    bool_cases (stands_before (covered_id c.args.engine.now) c.args.engine.now.state.state.committed)
    (λ t. absurd (both_ways c.in_ok-trigger_snapshot.field-0 c.if-not-branch.true (c.in_ok-trigger_snapshot.ensures.asked idle.not_building t).0))
    (λ f. f) in
    c.end_without_snapshot.ensures.ok s.stored (group_step c.args.self.now.id s (Call TriggerSnapshot at)) down
    (run_of_call g.S.GroupStorage.stands c.args.engine.now c.args.self.now.id at c.args.moment c.trigger_snapshot.new.self s TriggerSnapshot moment may.accepted
    (λ x. (c.in_ok-trigger_snapshot.ensures.none_new x c.args.self.now.id at s may idle.not_building none_past).1))

pub returns-then-not-branch-clause-err : goal.returns-then-not-branch-clause-err
returns-then-not-branch-clause-err g c = λ at s built down idle moment may.
    let none_past : stands_before (covered_id c.args.engine.now) c.args.engine.now.state.state.committed ≡ false =
    bool_cases (stands_before (covered_id c.args.engine.now) c.args.engine.now.state.state.committed)
    (λ t. absurd (both_ways c.in_ok-trigger_snapshot.field-0 c.if-not-branch.true (c.in_ok-trigger_snapshot.ensures.asked idle.not_building t).0))
    (λ f. f) in
    c.end_without_snapshot.ensures.err s.stored (group_step c.args.self.now.id s (Call TriggerSnapshot at)) down
    (run_of_call g.S.GroupStorage.stands c.args.engine.now c.args.self.now.id at c.args.moment c.trigger_snapshot.new.self s TriggerSnapshot moment may.accepted
    (λ x. (c.in_ok-trigger_snapshot.ensures.none_new x c.args.self.now.id at s may idle.not_building none_past).1))

pub returns-in_default-clause-ok : goal.returns-in_default-clause-ok
returns-in_default-clause-ok g c = λ at s built down idle moment may.
    let past : stands_before (covered_id c.args.engine.now) c.args.engine.now.state.state.committed ≡ true =
    bool_cases (stands_before (covered_id c.args.engine.now) c.args.engine.now.state.state.committed) (λ t. t)
    (λ f. absurd (both_ways c.in_ok-trigger_snapshot.field-0 (c.in_ok-trigger_snapshot.ensures.none_new (one_snapshot 0) c.args.self.now.id at s may idle.not_building f).0 c.if-not-branch.false)) in
    let one = has_one c.args.self.now.id c.args.engine.now s idle.stands past in
    absurd (let none : IsBuilt g.S.GroupStorage.stands None s = subst (λ (o : Option _). IsBuilt g.S.GroupStorage.stands o s) (ap option_copied c.in_default.is) built in none one.0 one.1)

pub returns-clause-ok : goal.returns-clause-ok
returns-clause-ok g c = λ at s built down idle moment may.
    let past : stands_before (covered_id c.args.engine.now) c.args.engine.now.state.state.committed ≡ true =
    bool_cases (stands_before (covered_id c.args.engine.now) c.args.engine.now.state.state.committed) (λ t. t)
    (λ f. absurd (both_ways c.in_ok-trigger_snapshot.field-0 (c.in_ok-trigger_snapshot.ensures.none_new (one_snapshot 0) c.args.self.now.id at s may idle.not_building f).0 c.if-not-branch.false)) in
    let one = has_one c.args.self.now.id c.args.engine.now s idle.stands past in
    let stands = g.S.GroupStorage.stands in
    let said : stands c.in-Some.snapshot.now one.0 = subst (λ (o : Option _). IsBuilt stands o s) (ap option_copied c.in-Some.is) built one.0 one.1 in
    let asked = (c.in_ok-trigger_snapshot.ensures.asked idle.not_building past).1 in
    let taken : HasTaken one.0 c.args.self.now.id c.args.engine.now c.finish_building_snapshot.new.self s (Call TriggerSnapshot at) =
    c.in_ok-_answer.ensures.built c.args.self.now.id at c.args.engine.now s one.0 asked idle.empty
    (subst (λ (e : Engine). IsStateOf c.args.self.now.id e s) (sym asked) (stands_asking c.args.self.now.id c.args.engine.now s idle.stands))
    may.ready may.accepted (c.in_ok-meta_of.ensures one.0 (c.head.ensures one.0 said)) one.1 in
    c.end_taken.ensures.ok s.stored (group_step c.args.self.now.id s (Call TriggerSnapshot at)) down
    (run_of_call_with stands c.args.engine.now c.args.self.now.id at c.args.moment c.finish_building_snapshot.new.self s TriggerSnapshot c.in-Some.snapshot.now one.0 said moment may.accepted taken)

pub returns-clause-err : goal.returns-clause-err
returns-clause-err g c = λ at s built down idle moment may.
    let past : stands_before (covered_id c.args.engine.now) c.args.engine.now.state.state.committed ≡ true =
    bool_cases (stands_before (covered_id c.args.engine.now) c.args.engine.now.state.state.committed) (λ t. t)
    (λ f. absurd (both_ways c.in_ok-trigger_snapshot.field-0 (c.in_ok-trigger_snapshot.ensures.none_new (one_snapshot 0) c.args.self.now.id at s may idle.not_building f).0 c.if-not-branch.false)) in
    let one = has_one c.args.self.now.id c.args.engine.now s idle.stands past in
    let stands = g.S.GroupStorage.stands in
    let said : stands c.in-Some.snapshot.now one.0 = subst (λ (o : Option _). IsBuilt stands o s) (ap option_copied c.in-Some.is) built one.0 one.1 in
    let asked = (c.in_ok-trigger_snapshot.ensures.asked idle.not_building past).1 in
    let taken : HasTaken one.0 c.args.self.now.id c.args.engine.now c.finish_building_snapshot.new.self s (Call TriggerSnapshot at) =
    c.in_ok-_answer.ensures.built c.args.self.now.id at c.args.engine.now s one.0 asked idle.empty
    (subst (λ (e : Engine). IsStateOf c.args.self.now.id e s) (sym asked) (stands_asking c.args.self.now.id c.args.engine.now s idle.stands))
    may.ready may.accepted (c.in_ok-meta_of.ensures one.0 (c.head.ensures one.0 said)) one.1 in
    c.end_taken.ensures.err s.stored (group_step c.args.self.now.id s (Call TriggerSnapshot at)) down
    (run_of_call_with stands c.args.engine.now c.args.self.now.id at c.args.moment c.finish_building_snapshot.new.self s TriggerSnapshot c.in-Some.snapshot.now one.0 said moment may.accepted taken)

pub returns-in_err-trigger_snapshot-clause-err : goal.returns-in_err-trigger_snapshot-clause-err
returns-in_err-trigger_snapshot-clause-err g c = λ at s built down idle moment may.
    let here = c.args.storage.now in
    on_err _
    (halted_at_once (g.S.GroupStorage.is_well here) (g.S.GroupStorage.shows here c.args.group) (g.S.GroupStorage.fails here) s.stored (group_step c.args.self.now.id s (Call TriggerSnapshot at))
    (g.met.S.GroupStorage.shows_more here c.args.group) (g.met.S.GroupStorage.well_fails here down.well) c.args.self.now down.no_engine down.stored)

pub returns-in_err-meta_of-clause-err : goal.returns-in_err-meta_of-clause-err
returns-in_err-meta_of-clause-err g c = λ at s built down idle moment may.
    let here = c.args.storage.now in
    on_err _
    (halted_at_once (g.S.GroupStorage.is_well here) (g.S.GroupStorage.shows here c.args.group) (g.S.GroupStorage.fails here) s.stored (group_step c.args.self.now.id s (Call TriggerSnapshot at))
    (g.met.S.GroupStorage.shows_more here c.args.group) (g.met.S.GroupStorage.well_fails here down.well) c.args.self.now down.no_engine down.stored)

pub returns-in_err-_answer-clause-err : goal.returns-in_err-_answer-clause-err
returns-in_err-_answer-clause-err g c = λ at s built down idle moment may.
    let here = c.args.storage.now in
    on_err _
    (halted_at_once (g.S.GroupStorage.is_well here) (g.S.GroupStorage.shows here c.args.group) (g.S.GroupStorage.fails here) s.stored (group_step c.args.self.now.id s (Call TriggerSnapshot at))
    (g.met.S.GroupStorage.shows_more here c.args.group) (g.met.S.GroupStorage.well_fails here down.well) c.args.self.now down.no_engine down.stored)
