use Rattle.std.proofs.Common.{ℕ, List, Ok, refl, subst}
use Rattle.std.proofs.lemmas.Result.{IfOk-weaker, on_err_weaker}
use Rattle.raft_sent_frames.specs.Frames.{frames_of}
use Rattle.raft_cluster_events.specs.declared.event.ClusterEvent.{ClusterEvent}
use Rattle.raft_cluster_events.specs.declared.event.ClusterEvent.TheVariants.{AddGroup, Ask, Deliver, ResetPeer, Clean, Fuse, Crash, Reopen}
use Rattle.raft_cluster_events.specs.declared.outcome.CrashRefusal.TheVariants.{Memory}
use Rattle.raft_node_laws.specs.Answered.{one_of, some_of}
use Rattle.raft_cluster.specs.Facts.{delivered}
use Rattle.raft_cluster.specs.Happening.{Delivers, Did}
use Rattle.raft_cluster.proofs.HappeningLemmas.{answered_as, comes_as_opening, comes_cleaned, comes_quietly, comes_to_group, refused_as}
use Rattle.raft_cluster.proofs.happening.ask_node.Goals as goal

pub returns-in-AddGroup-clause-ok : goal.returns-in-AddGroup-clause-ok
returns-in-AddGroup-clause-ok g c =
    let named : ClusterEvent = AddGroup c.in-AddGroup.node c.in-AddGroup.group in
    comes_to_group g.N.ClusterNode.acts _ c.args.event.now named c.args.node.now c.add_group.new.self c.some-answered.result (one_of c.add_group.result) c.in-AddGroup.is tt c.some-answered.ensures
    (c.add_group.result, c.add_group.ensures.does, refl) c.add_group.ensures.id

pub returns-in-Ask-clause-ok : goal.returns-in-Ask-clause-ok
returns-in-Ask-clause-ok g c =
    let named : ClusterEvent = Ask c.in-Ask.node c.in-Ask.group c.in-Ask.call c.in-Ask.now in
    comes_to_group g.N.ClusterNode.acts _ c.args.event.now named c.args.node.now c.ask.new.self c.some-answered-in-Ask.result (one_of c.ask.result) c.in-Ask.is tt c.some-answered-in-Ask.ensures
    (c.ask.result, c.ask.ensures.does, refl) c.ask.ensures.id

pub returns-in-Deliver-clause-ok : goal.returns-in-Deliver-clause-ok
returns-in-Deliver-clause-ok g c =
    let named : ClusterEvent = Deliver c.in-Deliver.group c.in-Deliver.number c.in-Deliver.cuts c.in-Deliver.now in
    let mid = c.deliver_event-answered.new.node in
    let P : ClusterEvent → Type 0 = λ e. Delivers g.N.ClusterNode.acts (delivered (frames_of c.args.sent.now) e) c.as_slice.result.now c.in-Deliver.now c.args.node.now (Did (some_of c.deliver_event-answered.result)) mid in
    let Q : List ℕ → Type 0 = λ cuts. Delivers g.N.ClusterNode.acts (delivered (frames_of c.args.sent.now) named) cuts c.in-Deliver.now c.args.node.now (Did (some_of c.deliver_event-answered.result)) mid in
    comes_to_group g.N.ClusterNode.acts _ c.args.event.now named c.args.node.now mid c.deliver_event-answered.result (some_of c.deliver_event-answered.result) c.in-Deliver.is tt refl
    (subst Q c.as_slice.ensures (subst P c.in-Deliver.is c.deliver_event-answered.ensures.delivers)) c.deliver_event-answered.ensures.id

pub returns-in-ResetPeer-clause-ok : goal.returns-in-ResetPeer-clause-ok
returns-in-ResetPeer-clause-ok g c =
    let named : ClusterEvent = ResetPeer c.in-ResetPeer.node c.in-ResetPeer.peer in
    comes_quietly g.N.ClusterNode.acts _ c.args.event.now named c.args.node.now c.reset_peer.new.self c.reset_peer.result c.in-ResetPeer.is (c.reset_peer.result, c.reset_peer.ensures.does, refl) c.reset_peer.ensures.id

pub returns-in-Clean-clause-ok : goal.returns-in-Clean-clause-ok
returns-in-Clean-clause-ok g c =
    let named : ClusterEvent = Clean c.in-Clean.node in
    comes_cleaned g.N.ClusterNode.acts _ c.args.event.now named c.args.node.now c.clean_files.new.self c.clean_files.result c.in-Clean.is (c.clean_files.result, c.clean_files.ensures.does, refl) c.clean_files.ensures.id

pub returns-in-Fuse-clause-ok : goal.returns-in-Fuse-clause-ok
returns-in-Fuse-clause-ok g c =
    let named : ClusterEvent = Fuse c.in-Fuse.node c.in-Fuse.first_refused in
    comes_quietly g.N.ClusterNode.acts _ c.args.event.now named c.args.node.now c.fuse.new.self (Ok tt) c.in-Fuse.is (c.fuse.ensures.does, refl) c.fuse.ensures.id

pub returns-in-Crash-clause-ok : goal.returns-in-Crash-clause-ok
returns-in-Crash-clause-ok g c =
    let sent = frames_of c.args.sent.now in
    IfOk-weaker c.crash.result _ _ (λ a h. answered_as g.N.ClusterNode.acts sent c.args.event.now (Crash c.in-Crash.node c.in-Crash.choice) c.args.node.now c.crash.new.node a c.in-Crash.is (h sent c.in-Crash.node)) c.crash.ensures.ok

pub returns-in-Crash-clause-memory : goal.returns-in-Crash-clause-memory
returns-in-Crash-clause-memory g c =
    on_err_weaker c.crash.result (refused_as g.N.ClusterNode.acts c.args.event.now (Crash c.in-Crash.node c.in-Crash.choice) c.args.node.now Memory c.in-Crash.is) c.crash.ensures.memory

pub returns-in-Reopen-clause-ok : goal.returns-in-Reopen-clause-ok
returns-in-Reopen-clause-ok g c =
    let named : ClusterEvent = Reopen c.in-Reopen.node c.in-Reopen.workers in
    comes_as_opening g.N.ClusterNode.acts _ c.args.event.now named c.args.node.now c.reopen.new.self c.reopen.result c.in-Reopen.is tt (c.reopen.result, c.reopen.ensures.does, refl) c.reopen.ensures.id
