-- What is known, and as much committed as the snapshot covers, is what the start begins with.
use Rattle.std.proofs.Common.{◌∙◌, ap, refl, subst, sym}
use Rattle.std.specs.Prelude.{None}
use Rattle.raft_group_step.specs.GroupStep.{finished}
use Rattle.raft_group_step.specs.Opening.{resume_lead}
use Rattle.raft_group_step.specs.StepResult.{unchanged}
use Rattle.raft_known_state.specs.KnownState.{KnownState, Knows, SnapshotMeta, with_committed}
use Rattle.raft_engine.specs.Standing.{Engine, IsStateOf, IsWholeStepOf}
use Rattle.raft_engine.proofs.StartLemmas.{covered_last, start_given, start_stands}
use Rattle.raft_engine.proofs.ClockLemmas.{begins_where_none}
use Rattle.raft_engine.proofs.engine.Engine.open.Goals as goal

pub returns-clause-opened : goal.returns-clause-opened
returns-clause-opened g c = λ x s opens.
    let own = c.args.id in
    let k = c.args.known in
    let is = c.of_node-engine.ensures.begins in
    let e : Engine g.row.C.Denot g.row.C-R.Denot = record c.of_node-engine.result { state = c.commit.new.self } in
    let covered = k.state.snapshot_meta.last_log_id in
    let last = ap (λ (meta : SnapshotMeta). meta.last_log_id) opens.knows.snapshot ∙ covered_last s.stored s.stored.snapshot refl in
    let known = c.in_ok-commit.ensures.rest ∙ ap (λ (y : KnownState). with_committed y covered c.commit.new.self.state.membership_state) is.state in
    let stands = start_stands own k covered e s opens last known c.of_node-engine.ensures.config is.leader is.candidate
    (c.in_ok-commit.ensures.known s.stored (subst (λ (y : KnownState). Knows y s.stored) (sym is.state) opens.knows)) in
    subst (λ y. IsWholeStepOf y own c.startup.new.self (finished own None (resume_lead own (unchanged s))))
    (start_given own k covered e s opens last known x is.seen (ap (λ o. o.last_sm_seq) is.output))
    (c.in_ok-startup.ensures.started x own s stands (ap (λ o. o.queue) is.output) opens.ready opens.follows)

pub returns-clause-heard : goal.returns-clause-heard
returns-clause-heard g c = begins_where_none c.of_node-engine.result.leader c.startup.new.self.leader c.of_node-engine.ensures.begins.leader c.in_ok-startup.ensures.heard
