use Rattle.std.proofs.Common.{[], ◌∷◌, Some, None}
use Rattle.raft_cluster_events.specs.declared.event.ClusterEvent.{ClusterEvent}
use Rattle.raft_cluster_events.specs.declared.event.ClusterEvent.TheVariants.{Crash, Fuse}
use Rattle.raft_cluster.proofs.ClusterLemmas.{runs_more, runs_none}
use Rattle.raft_cluster.proofs.FusedLemmas.{on_err, short_behind}
use Rattle.raft_cluster.proofs.cluster.Cluster.step_fused_at.Goals as goal

pub returns-clause-ok : goal.returns-clause-ok
returns-clause-ok g c =
    record {
      fused = c.step.new.self;
      behind = c.step_cut.new.self;
      lifted = c.step-2.new.self;
      fuse = c.in_ok-step.ensures.ok;
      happens = c.in_ok-cut.ensures.ok.happens;
      is = c.in_ok-cut.ensures.ok.is;
      lift = c.in_ok-step-2.ensures.ok;
      ends = c.in_ok-end_cut.ensures.ok;
    }

pub returns-in_err-step-clause-err : goal.returns-in_err-step-clause-err
returns-in_err-step-clause-err g c =
    let acts = g.N.ClusterNode.acts in
    let old = c.args.self.now in
    let fuse : ClusterEvent = Fuse c.args.node (Some c.args.first_refused) in
    let lift : ClusterEvent = Fuse c.args.node None in
    let crash : ClusterEvent = Crash c.args.node c.args.choice in
    on_err c.from_residual.result
    (short_behind acts old old c.step.new.self [] (c.args.event ∷ lift ∷ crash ∷ []) fuse (runs_none acts old) c.in_err-step.ensures.err)

pub returns-in_err-cut-clause-err : goal.returns-in_err-cut-clause-err
returns-in_err-cut-clause-err g c =
    let acts = g.N.ClusterNode.acts in
    let old = c.args.self.now in
    let fused = c.step.new.self in
    let fuse : ClusterEvent = Fuse c.args.node (Some c.args.first_refused) in
    let lift : ClusterEvent = Fuse c.args.node None in
    let crash : ClusterEvent = Crash c.args.node c.args.choice in
    on_err c.from_residual-in_err-cut.result
    (short_behind acts old fused c.step_cut.new.self (fuse ∷ []) (lift ∷ crash ∷ []) c.args.event
    (runs_more acts old old fused [] fuse (runs_none acts old) c.in_ok-step.ensures.ok)
    c.in_err-cut.ensures.err)

pub returns-in_err-step-2-clause-err : goal.returns-in_err-step-2-clause-err
returns-in_err-step-2-clause-err g c =
    let acts = g.N.ClusterNode.acts in
    let old = c.args.self.now in
    let fused = c.step.new.self in
    let behind = c.step_cut.new.self in
    let fuse : ClusterEvent = Fuse c.args.node (Some c.args.first_refused) in
    let lift : ClusterEvent = Fuse c.args.node None in
    let crash : ClusterEvent = Crash c.args.node c.args.choice in
    let one = runs_more acts old old fused [] fuse (runs_none acts old) c.in_ok-step.ensures.ok in
    on_err c.from_residual-in_err-step-2.result
    (short_behind acts old behind c.step-2.new.self (fuse ∷ c.args.event ∷ []) (crash ∷ []) lift
    (runs_more acts old fused behind (fuse ∷ []) c.args.event one c.in_ok-cut.ensures.ok.happens)
    c.in_err-step-2.ensures.err)

pub returns-in_err-end_cut-clause-err : goal.returns-in_err-end_cut-clause-err
returns-in_err-end_cut-clause-err g c =
    let acts = g.N.ClusterNode.acts in
    let old = c.args.self.now in
    let fused = c.step.new.self in
    let behind = c.step_cut.new.self in
    let lifted = c.step-2.new.self in
    let fuse : ClusterEvent = Fuse c.args.node (Some c.args.first_refused) in
    let lift : ClusterEvent = Fuse c.args.node None in
    let crash : ClusterEvent = Crash c.args.node c.args.choice in
    let one = runs_more acts old old fused [] fuse (runs_none acts old) c.in_ok-step.ensures.ok in
    let two = runs_more acts old fused behind (fuse ∷ []) c.args.event one c.in_ok-cut.ensures.ok.happens in
    on_err c.from_residual-in_err-end_cut.result
    (short_behind acts old lifted c.end_cut.new.self (fuse ∷ c.args.event ∷ lift ∷ []) [] crash
    (runs_more acts old behind lifted (fuse ∷ c.args.event ∷ []) lift two c.in_ok-step-2.ensures.ok)
    c.in_err-end_cut.ensures.err)
