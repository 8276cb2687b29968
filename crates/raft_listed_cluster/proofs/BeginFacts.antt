-- A new cluster keeps nothing of any group: none was touched, also where nodes couldn't be opened.
use Rattle.std.proofs.Common.{◌≡◌, ℕ, List, [], ◌∷◌, ◌++◌, Some, None, inl, refl, sym, ◌∙◌, subst, append-nil}
use Rattle.raft_laws.specs.OneList.{AreNodeIds}
use Rattle.raft_laws.specs.GroupWorld.{NodeState}
use Rattle.raft_machines.specs.Machine.{MachineRules}
use Rattle.raft_headline.specs.ClusterEvent.{Recorded as PlainRecord}
use Rattle.raft_headline.specs.Machines.{Replicas, new_replicas}
use Rattle.raft_headline.specs.Replaying.{ReplaysFor}
use Rattle.raft_cluster_laws.proofs.Joining.{joins, one_event}
use Rattle.raft_cluster_laws.proofs.NodesActing.{has_first}
use Rattle.raft_cluster_events.specs.declared.event.ClusterEvent.{ClusterEvent}
use Rattle.raft_cluster_events.specs.declared.event.ClusterEvent.TheVariants as event
use Rattle.raft_cluster_events.specs.declared.event.CrashChoice.TheVariants.{Least}
use Rattle.raft_cluster_events.specs.declared.outcome.EventOutcome.{EventOutcome}
use Rattle.raft_cluster_events.specs.declared.outcome.EventOutcome.TheVariants as outcome
use Rattle.raft_cluster_events.specs.Node.{NodeActs}
use Rattle.raft_cluster_events.specs.States.{NodeStates}
use Rattle.raft_node_laws.specs.Law.{KeepsLaw}
use Rattle.raft_node_laws.specs.Reporting.{AreRecordedAs, crashes_of}
use Rattle.raft_cluster_lists.specs.GoingOn.{IsOfOthers}
use Rattle.raft_cluster_lists.specs.Keeping.{IsUntouched, KeepsList}
use Rattle.raft_cluster_lists.proofs.EventsOn.{events_go_on}
use Rattle.raft_cluster_lists.proofs.SameNotes.{none_noted}
use Rattle.raft_cluster.specs.Cluster.{IsReached, nothing_sent}
use Rattle.raft_cluster.specs.Facts.{Sent}
use Rattle.raft_cluster.specs.Joined.{downs_of, ids_of}
use Rattle.raft_cluster.proofs.BeginLemmas.{agree_first, crash_of, told_first}
use Rattle.raft_cluster.proofs.JoinLemmas.{IsToldSoFar}
use Rattle.raft_listed_cluster.specs.Keeping.{KeepsLists}

module _ (rules : MachineRules) (ids : List ℕ) (fit : AreNodeIds ids) (h : ℕ) where
  -- one node crashes
  crash_leaves : (past : List PlainRecord) (n : ℕ) (old new : Replicas) → ReplaysFor rules h (new_replicas rules ids) past old
      → (one : ReplaysFor rules h old (crash_of n ∷ []) new) → IsUntouched old.world → IsUntouched new.world
  crash_leaves past n old new run one was =
      let step = one.1.0 in
      let happened : ClusterEvent = event.Crash n Least in
      let o : EventOutcome = outcome.Done [] in
      let olds : List NodeState = old.world.nodes n ∷ [] in
      let news : List NodeState = step.new.world.nodes n ∷ [] in
      let others : IsOfOthers past h happened o (crash_of n) olds news = record {
        of_other = λ is. absurd (let no : None ≡ Some h = is in cc);
        recorded = record { event = inl refl; node = refl; outcome = record { none = refl; done = refl } };
        taken = λ why is opening. opening;
      } in
      let there = (events_go_on rules ids fit h past happened o (crash_of n) olds news).3 others old step.new (record {
        run = run;
        number = step.number;
        step = step.step;
        before = has_first (old.world.nodes n);
        behind = has_first (step.new.world.nodes n);
      }) was in
      subst (λ (x : Replicas). IsUntouched x.world) (sym one.1.1.1) there

  crashes_leave : (ns : List ℕ) (past : List PlainRecord) (old end : Replicas) → ReplaysFor rules h (new_replicas rules ids) past old
      → ReplaysFor rules h old (crashes_of ns) end → IsUntouched old.world → IsUntouched end.world
  crashes_leave [] past old end run rest was = subst (λ (x : Replicas). IsUntouched x.world) (sym rest.1.1) was
  crashes_leave (n ∷ ns) past old end run rest was =
      let step = rest.1.0 in
      let one : ReplaysFor rules h old (crash_of n ∷ []) step.new = one_event rules h (crash_of n) step.number old step.new step.step in
      crashes_leave ns (past ++ crash_of n ∷ []) step.new end
      (joins rules h past (crash_of n ∷ []) (new_replicas rules ids) old step.new run one)
      (step.others, rest.1.1)
      (crash_leaves past n old step.new run one was)

  first_leaves : (downs : List ℕ) (end : Replicas) → ReplaysFor rules h (new_replicas rules ids) (crashes_of downs) end → IsUntouched end.world
  first_leaves downs end run =
      crashes_leave downs [] (new_replicas rules ids) end ([], (refl, refl)) run (record { list = none_noted ids; none = refl })

module _ {N : Type 0} (rules : MachineRules) (acts : NodeActs N) (states : NodeStates N) where
  -- before the first event the plain history has crashes alone
  only_crashes : (downs : List ℕ) (plain rest : List PlainRecord) → plain ≡ crashes_of downs ++ rest → AreRecordedAs (crashes_of downs) [] rest → plain ≡ crashes_of downs
  only_crashes downs plain [] begins same = begins ∙ append-nil (crashes_of downs)
  only_crashes downs plain (p ∷ ps) begins same = absurd same

  nothing_kept : (ids downs : List ℕ) (nodes : List N) (sent : Sent) (t : IsToldSoFar rules acts states ids downs nodes sent []) (h : ℕ)
      → KeepsList rules ids h (t.told.stand.candidates h) t.told.plain None
  nothing_kept ids downs nodes sent t h =
      let kept = t.told.stand.kept.groups h in
      let crashes = only_crashes downs t.told.plain t.told.report.rest t.told.report.begins t.told.report.same in
      record {
        one = kept.one;
        among = kept.among;
        leads = λ choice among.
            let there = kept.leads choice among in
            let R : List PlainRecord → Type 0 = λ p. ReplaysFor rules h (new_replicas rules ids) p there.end in
            record { leads = there; kept_there = first_leaves rules ids t.told.stand.kept.node_ids h downs there.end (subst R crashes there.replays) };
      }

  pub begin_keeps : (nodes : List N) (sent : Sent) → KeepsLaw rules acts states → IsReached acts nodes sent [] → KeepsLists rules acts states nodes sent [] []
  begin_keeps nodes sent law reached =
      let first = reached.first in
      let ids = ids_of acts first in
      let downs = downs_of acts first in
      let begun : IsToldSoFar rules acts states ids downs first nothing_sent [] =
      record { told = told_first rules acts states law first reached.new; set_ups = agree_first rules acts states law first reached.new } in
      let P : List N → Type 0 = λ ns. IsToldSoFar rules acts states ids downs ns sent [] in
      let Q : Sent → Type 0 = λ s. IsToldSoFar rules acts states ids downs first s [] in
      let so_far : IsToldSoFar rules acts states ids downs nodes sent [] = subst P (sym reached.runs.0) (subst Q (sym reached.runs.1) begun) in
      record { first = first; new = reached.new; runs = reached.runs; so_far = so_far; each = λ h. nothing_kept ids downs nodes sent so_far h }
