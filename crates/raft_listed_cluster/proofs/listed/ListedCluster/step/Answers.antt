use Rattle.std.proofs.Common.{◌≡◌, ℕ, Option, sym, ◌∙◌, subst}
use Rattle.raft_sent_frames.specs.Frames.{frames_of}
use Rattle.raft_node_laws.specs.Law.{KeepsLaw}
use Rattle.raft_cluster.specs.Cluster.{ClusterValue}
use Rattle.raft_cluster.specs.Facts.{node_at}
use Rattle.raft_listed_cluster.specs.Hearing.{HasSent, Tells}
use Rattle.raft_listed_cluster.specs.Keeping.{KeepsLists}
use Rattle.raft_listed_cluster.specs.Listed.{ListedValue, OnlyGrow, lists_of}
use Rattle.raft_listed_cluster.proofs.GroupFacts.{prepared_lists}
use Rattle.raft_listed_cluster.proofs.KeepingFacts.{IsKept, IsSteppedSo, has_lists, prepared_keeps, stepped}
use Rattle.raft_listed_cluster.proofs.ListFacts.{last_is, on_err}
use Rattle.raft_listed_cluster.proofs.listed.ListedCluster.step.Given as given
use Rattle.raft_listed_cluster.proofs.listed.ListedCluster.step.Goals as goal

-- ---- before the event memory was refused: its group may be kept now

pub invariant_of-self : goal.invariant_of-self
invariant_of-self g c law =
    prepared_keeps g.N.Machine.StateMachine.rules g.N.ClusterNode.acts g.N.ClusterNode.states law _ _ _ c.args.event _ _ c.prepare.ensures.groups (c.self.invariant law)

pub returns-in_err-brought-clause-err_lists : goal.returns-in_err-brought-clause-err_lists
returns-in_err-brought-clause-err_lists g c =
    on_err c.from_residual.result _ (λ group.
    let P : ListedValue g.row.N.Denot → Type 0 = λ v. lists_of c.prepare.new.self group ≡ lists_of v.groups group in
    subst P c.self.view_is (prepared_lists c.args.event _ _ c.prepare.ensures.groups group))

pub returns-in_err-brought-clause-lists : goal.returns-in_err-brought-clause-lists
returns-in_err-brought-clause-lists g c law =
    let rules = g.N.Machine.StateMachine.rules in
    let acts = g.N.ClusterNode.acts in
    let states = g.N.ClusterNode.states in
    has_lists rules acts states law (record { cluster = c.self.inside.cluster; groups = c.prepare.new.self }) (prepared_keeps rules acts states law _ _ _ c.args.event _ _ c.prepare.ensures.groups (c.self.invariant law))

pub invariant_of-self-in_err-step : goal.invariant_of-self-in_err-step
invariant_of-self-in_err-step g c law =
    let rules = g.N.Machine.StateMachine.rules in
    let acts = g.N.ClusterNode.acts in
    let states = g.N.ClusterNode.states in
    let K : ClusterValue g.row.N.Denot → Type 0 = λ v. KeepsLists rules acts states v.nodes (frames_of v.sent) v.history c.prepare.new.self in
    subst K (sym c.in_err-step.ensures.err) (prepared_keeps rules acts states law _ _ _ c.args.event _ _ c.prepare.ensures.groups (c.self.invariant law))

pub returns-in_err-step-clause-err_lists : goal.returns-in_err-step-clause-err_lists
returns-in_err-step-clause-err_lists g c =
    on_err c.from_residual-in_err-step.result _ (λ group.
    let P : ListedValue g.row.N.Denot → Type 0 = λ v. lists_of c.prepare.new.self group ≡ lists_of v.groups group in
    subst P c.self.view_is (prepared_lists c.args.event _ _ c.prepare.ensures.groups group))

pub returns-in_err-step-clause-lists : goal.returns-in_err-step-clause-lists
returns-in_err-step-clause-lists g c law =
    let rules = g.N.Machine.StateMachine.rules in
    let acts = g.N.ClusterNode.acts in
    let states = g.N.ClusterNode.states in
    let K : ClusterValue g.row.N.Denot → Type 0 = λ v. KeepsLists rules acts states v.nodes (frames_of v.sent) v.history c.prepare.new.self in
    has_lists rules acts states law (record { cluster = c.step.new.self; groups = c.prepare.new.self })
    (subst K (sym c.in_err-step.ensures.err) (prepared_keeps rules acts states law _ _ _ c.args.event _ _ c.prepare.ensures.groups (c.self.invariant law)))

-- ---- the event happened, and was heard

kept_so : (g : given.Over) (c : goal.After-hear_step g) (law : KeepsLaw g.N.Machine.StateMachine.rules g.N.ClusterNode.acts g.N.ClusterNode.states)
    → IsKept g.N.Machine.StateMachine.rules g.N.ClusterNode.acts g.N.ClusterNode.states law c.step.new.self c.self.inside.lists c.hear_step.new.lists
kept_so g c law =
    let rules = g.N.Machine.StateMachine.rules in
    let acts = g.N.ClusterNode.acts in
    let states = g.N.ClusterNode.states in
    let old = c.self.inside.cluster in
    let step = c.in_ok-step.ensures.ok in
    let group = c.group_of-group.ensures in
    let T : Option ℕ → Type 0 = λ w. Tells acts (node_at acts old.nodes c.node_of-id.result) w c.leading_at-leading.result in
    let S : Option ℕ → Type 0 = λ w. HasSent (frames_of old.sent) w c.sent_in-count.result in
    let so : IsSteppedSo rules acts states law old c.args.event c.step.new.self c.self.inside.lists c.in-Some.recorded.now c.hear_step.new.lists = record {
      step = step;
      last = last_is old.history c.history.result.now c.in-Some.recorded.now (record { event = c.args.event; outcome = step.outcome }) (c.history.ensures ∙ step.history) c.in-Some.ensures.value;
      id = c.node_of-id.result;
      named = c.node_of-id.ensures;
      leading = c.leading_at-leading.result;
      tells = subst T group c.leading_at-leading.ensures;
      olds = c.prepare.new.self;
      prepared = c.prepare.ensures.groups;
      brought = c.in_ok-brought.brought;
      ready = c.in_ok-brought.ensures.ready;
      brings = c.in_ok-brought.ensures.brings;
      count = c.sent_in-count.result;
      so_many = subst S group c.sent_in-count.ensures;
      hears = c.hear_step.ensures;
    } in
    stepped rules acts states law old c.args.event c.step.new.self c.self.inside.lists c.in-Some.recorded.now c.hear_step.new.lists so (c.self.invariant law)

pub invariant_of-self-in-Some : goal.invariant_of-self-in-Some
invariant_of-self-in-Some g c law = (kept_so g c law).keeps

pub returns-in-Some-clause-lists : goal.returns-in-Some-clause-lists
returns-in-Some-clause-lists g c law =
    has_lists g.N.Machine.StateMachine.rules g.N.ClusterNode.acts g.N.ClusterNode.states law
    (record { cluster = c.step.new.self; groups = c.hear_step.new.lists }) (kept_so g c law).keeps

pub returns-in-Some-clause-grow : goal.returns-in-Some-clause-grow
returns-in-Some-clause-grow g c law =
    let P : ListedValue g.row.N.Denot → Type 0 = λ v. OnlyGrow (lists_of v.groups) (lists_of c.hear_step.new.lists) in
    subst P c.self.view_is (kept_so g c law).grows
