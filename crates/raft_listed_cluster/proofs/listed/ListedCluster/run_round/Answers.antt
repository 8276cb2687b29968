use Rattle.std.proofs.Common.{◌≡◌, ◌-◌, ℕ, true, List, drop, length, take, sym, ◌∙◌, subst}
use Rattle.raft_machines.specs.Machine.{MachineRules}
use Rattle.raft_sent_frames.specs.Frames.{frames_of}
use Rattle.raft_cluster_events.specs.declared.event.ClusterEvent.{ClusterEvent}
use Rattle.raft_cluster_events.specs.declared.outcome.Recorded.{Recorded}
use Rattle.raft_cluster_events.specs.Node.{NodeActs}
use Rattle.raft_cluster_events.specs.States.{NodeStates}
use Rattle.raft_node_laws.specs.Law.{KeepsLaw}
use Rattle.raft_cluster_lists.specs.declared.brought.Brought.{Brought}
use Rattle.raft_cluster_lists.specs.declared.kept.KeptGroup.{KeptGroup}
use Rattle.raft_cluster.specs.Cluster.{ClusterValue}
use Rattle.raft_cluster.specs.Round.{Rounds, is_round}
use Rattle.raft_listed_cluster.specs.Keeping.{KeepsLists}
use Rattle.raft_listed_cluster.specs.Listed.{ListedValue, OnlyGrow, lists_of}
use Rattle.raft_listed_cluster.specs.Preparing.{ArePrepared, ArePreparedFor}
use Rattle.raft_listed_cluster.specs.Round.{AreReadyFor, HearsRound}
use Rattle.raft_listed_cluster.proofs.KeepingFacts.{IsKept, has_lists}
use Rattle.raft_listed_cluster.proofs.ListFacts.{on_err}
use Rattle.raft_listed_cluster.proofs.RoundRun.{behind_past, ran_ready, round_is_kept, round_lists, round_prepared}
use Rattle.raft_listed_cluster.proofs.listed.ListedCluster.run_round.Goals as goal

-- ---- before the round memory was refused: groups of its events may be kept now

pub invariant_of-self : goal.invariant_of-self
invariant_of-self g c law =
    round_prepared g.N.Machine.StateMachine.rules g.N.ClusterNode.acts g.N.ClusterNode.states _ _ _ _ _ _ c.prepare_round-prepared.ensures.groups (c.self.invariant law)

pub invariant_of-self-in_err-count : goal.invariant_of-self-in_err-count
invariant_of-self-in_err-count g c law =
    let rules = g.N.Machine.StateMachine.rules in
    let acts = g.N.ClusterNode.acts in
    let states = g.N.ClusterNode.states in
    let K : ClusterValue g.row.N.Denot → Type 0 = λ v. KeepsLists rules acts states v.nodes (frames_of v.sent) v.history c.prepare_round-prepared.new.lists in
    subst K (sym c.in_err-count.ensures.err) (round_prepared rules acts states _ _ _ _ _ _ c.prepare_round-prepared.ensures.groups (c.self.invariant law))

pub returns-in_err-count-clause-err_lists : goal.returns-in_err-count-clause-err_lists
returns-in_err-count-clause-err_lists g c =
    on_err c.from_residual.result _ (λ group.
    let P : ListedValue g.row.N.Denot → Type 0 = λ v. lists_of c.prepare_round-prepared.new.lists group ≡ lists_of v.groups group in
    subst P c.self.view_is (round_lists _ _ _ c.prepare_round-prepared.ensures.groups group))

pub returns-in_err-count-clause-lists : goal.returns-in_err-count-clause-lists
returns-in_err-count-clause-lists g c law =
    let rules = g.N.Machine.StateMachine.rules in
    let acts = g.N.ClusterNode.acts in
    let states = g.N.ClusterNode.states in
    let K : ClusterValue g.row.N.Denot → Type 0 = λ v. KeepsLists rules acts states v.nodes (frames_of v.sent) v.history c.prepare_round-prepared.new.lists in
    has_lists rules acts states law (record { cluster = c.run_round.new.self; groups = c.prepare_round-prepared.new.lists })
    (subst K (sym c.in_err-count.ensures.err) (round_prepared rules acts states _ _ _ _ _ _ c.prepare_round-prepared.ensures.groups (c.self.invariant law)))

-- ---- the round ran, and is heard

pub hear_round-requires : goal.hear_round-requires
hear_round-requires g c =
    let acts = g.N.ClusterNode.acts in
    let old = c.self.inside.cluster in
    let new = c.run_round.new.self in
    let events = c.args.events.items in
    let olds = c.prepare_round-prepared.new.lists in
    let bs = c.in-Ok.broughts.items in
    let rounds = c.in_ok-count.ensures.runs in
    let A : List ClusterEvent → Type 0 = λ es. ArePrepared acts old.nodes (frames_of old.sent) (length es) olds es bs in
    let prepared = subst A c.as_slice-2.ensures.value c.in-Ok.ensures.prepared in
    let records = behind_past old.history rounds.runs.records c.history-before.result.now c.history.result.now (c.history.ensures ∙ rounds.runs.history) c.history-before.ensures in
    subst (λ rs. AreReadyFor rs bs olds) (sym records) (ran_ready acts old new events c.in_ok-count.count rounds olds bs prepared)

kept_from : {N : Type 0} (rules : MachineRules) (acts : NodeActs N) (states : NodeStates N) (law : KeepsLaw rules acts states) (old new : ClusterValue N) (asked events : List ClusterEvent) (number : ℕ)
    (groups olds news : List KeptGroup) (bs : List Brought) (before now : List Recorded) → asked ≡ events → (rounds : Rounds acts old events number new) → before ≡ old.history → now ≡ new.history
    → is_round (frames_of old.sent) events ≡ true → ArePreparedFor asked groups olds → ArePrepared acts old.nodes (frames_of old.sent) (length asked) olds asked bs
    → HearsRound acts new.nodes (frames_of new.sent) (take (length now - length before) (drop (length before) now)) bs olds news
    → KeepsLists rules acts states old.nodes (frames_of old.sent) old.history groups → IsKept rules acts states law new groups news
kept_from rules acts states law old new asked events number groups olds news bs before now same rounds was is round on prepared hears keeps =
    let A : List ClusterEvent → Type 0 = λ es. ArePrepared acts old.nodes (frames_of old.sent) (length es) olds es bs in
    let H : List Recorded → Type 0 = λ rs. HearsRound acts new.nodes (frames_of new.sent) rs bs olds news in
    let records = behind_past old.history rounds.runs.records before now (is ∙ rounds.runs.history) was in
    round_is_kept acts old new events number rounds olds bs (subst A same prepared) rules states law groups news round (subst (λ (es : List ClusterEvent). ArePreparedFor es groups olds) same on) (subst H records hears) keeps

pub invariant_of-self-2 : goal.invariant_of-self-2
invariant_of-self-2 g c law =
    (kept_from g.N.Machine.StateMachine.rules g.N.ClusterNode.acts g.N.ClusterNode.states law c.self.inside.cluster c.run_round.new.self c.as_slice-2.result.now c.args.events.items c.in_ok-count.count
    c.self.inside.lists c.prepare_round-prepared.new.lists c.hear_round.new.lists c.in-Ok.broughts.items c.history-before.result.now c.history.result.now c.as_slice-2.ensures.value c.in_ok-count.ensures.runs
    c.history-before.ensures c.history.ensures c.in_ok-count.ensures.round c.prepare_round-prepared.ensures.groups c.in-Ok.ensures.prepared c.hear_round.ensures (c.self.invariant law)).keeps

pub returns-clause-grow : goal.returns-clause-grow
returns-clause-grow g c law =
    let P : ListedValue g.row.N.Denot → Type 0 = λ v. OnlyGrow (lists_of v.groups) (lists_of c.hear_round.new.lists) in
    subst P c.self.view_is
    (kept_from g.N.Machine.StateMachine.rules g.N.ClusterNode.acts g.N.ClusterNode.states law c.self.inside.cluster c.run_round.new.self c.as_slice-2.result.now c.args.events.items c.in_ok-count.count
    c.self.inside.lists c.prepare_round-prepared.new.lists c.hear_round.new.lists c.in-Ok.broughts.items c.history-before.result.now c.history.result.now c.as_slice-2.ensures.value c.in_ok-count.ensures.runs
    c.history-before.ensures c.history.ensures c.in_ok-count.ensures.round c.prepare_round-prepared.ensures.groups c.in-Ok.ensures.prepared c.hear_round.ensures (c.self.invariant law)).grows
