use Rattle.std.proofs.Common.{◌≡◌, List, [], ◌∷◌, ◌++◌, length, sym, ap, ◌∙◌, append_assoc, arith, subst, length-append}
use Rattle.std.specs.Vec.Iter.{into_iter_items}
use Rattle.raft_cluster_events.specs.declared.event.ClusterEvent.{ClusterEvent}
use Rattle.raft_cluster.specs.Cluster.{ClusterValue, Runs}
use Rattle.raft_cluster.proofs.ClusterLemmas.{runs_more, taken_so_far}
use Rattle.raft_listed_cluster.specs.Listed.{lists_of}
use Rattle.raft_listed_cluster.proofs.ListFacts.{grow_on}
use Rattle.raft_listed_cluster.proofs.listed.ListedCluster.run.Goals as goal

pub loop-event-preserved : goal.loop-event-preserved
loop-event-preserved g c =
    let at = c.loop-event in
    let x = c.in-Some.event in
    let steps : into_iter_items at.event-iterator ≡ x ∷ into_iter_items c.next.new.self = c.in-Some.ensures.steps.0 in (
      append_assoc at.yielded (x ∷ []) _ ∙ rw (← steps) at.invariant.0,
      let was = at.invariant.1 in
          let gone = c.in-Some.ensures.steps.1 in
          let short = ap length steps in
          omega arith,
      let count = at.invariant.2 in omega (arith, length-append at.yielded (x ∷ [])),
      runs_more g.N.ClusterNode.acts c.args.self.now.cluster at.self.cluster c.step.new.self.cluster at.yielded x at.invariant.3 c.in-Ok.ensures.ok,
      λ law. grow_on (lists_of c.args.self.now.groups) (lists_of at.self.groups) (lists_of c.step.new.self.groups) (at.invariant.4 law) (c.in-Ok.ensures.grow law),
    )

pub returns-clause-runs : goal.returns-clause-runs
returns-clause-runs g c =
    let at = c.loop-event in
    let all : at.yielded ++ into_iter_items at.event-iterator ≡ c.args.events.items = at.invariant.0 ∙ c.into_iter-event-iterator.ensures.into_iter_gives.0 in
    let P : List ClusterEvent → Type 0 = λ es. Runs g.N.ClusterNode.acts c.args.self.now.cluster es at.self.cluster in
    subst P (sym (taken_so_far at.yielded _ c.args.events.items at.count all at.invariant.2)) at.invariant.3

pub returns-in_default-clause-runs : goal.returns-in_default-clause-runs
returns-in_default-clause-runs g c =
    let at = c.loop-event in
    let all : at.yielded ++ into_iter_items at.event-iterator ≡ c.args.events.items = at.invariant.0 ∙ c.into_iter-event-iterator.ensures.into_iter_gives.0 in
    let P : List ClusterEvent → Type 0 = λ es. Runs g.N.ClusterNode.acts c.args.self.now.cluster es c.step.new.self.cluster in
    let Q : ClusterValue g.row.N.Denot → Type 0 = λ v. Runs g.N.ClusterNode.acts c.args.self.now.cluster at.yielded v in
    subst P (sym (taken_so_far at.yielded _ c.args.events.items at.count all at.invariant.2)) (subst Q (sym c.in_default.ensures.err) at.invariant.3)

pub returns-in_default-clause-grow : goal.returns-in_default-clause-grow
returns-in_default-clause-grow g c law =
    grow_on (lists_of c.args.self.now.groups) (lists_of c.loop-event.self.groups) (lists_of c.step.new.self.groups) (c.loop-event.invariant.4 law) (c.in_default.ensures.grow law)
