use Rattle.std.proofs.Common.{◌≡◌, refl, subst, ℕ, List, Option, IfOk}
use Rattle.raft_cluster_events.specs.declared.event.ClusterEvent.{ClusterEvent}
use Rattle.raft_script_lines.specs.declared.script_line.CrashChoice.{CrashChoice}
use Rattle.raft_script_lines.specs.declared.script_line.ScriptEvent.{ScriptEvent}
use Rattle.raft_script_lines.specs.declared.script_line.ScriptEvent.TheVariants as said
use Rattle.raft_cluster_script.specs.Calls.{asked_by, event_by}
use Rattle.raft_cluster_script.proofs.calls.event_of.Goals as goal

-- a line that names neither a command nor an event of a whole node asks for what it asks
asked : (command : Option (List ℕ)) (now token : ℕ) (event : ScriptEvent)
    → ((node group : ℕ) → event ≡ said.Add node group → ⊥)
    → ((node group amount : ℕ) → event ≡ said.Propose node group amount → ⊥)
    → ((node group : ℕ) (key value : List ℕ) → event ≡ said.Put node group key value → ⊥)
    → ((node group : ℕ) (key : List ℕ) → event ≡ said.Get node group key → ⊥)
    → ((node group : ℕ) (key : List ℕ) → event ≡ said.Drop node group key → ⊥)
    → ((group number : ℕ) (cut : Option ℕ) → event ≡ said.Deliver group number cut → ⊥)
    → ((node : ℕ) → event ≡ said.Clean node → ⊥)
    → ((node : ℕ) (choice : CrashChoice) → event ≡ said.Crash node choice → ⊥)
    → ((node workers : ℕ) → event ≡ said.Reopen node workers → ⊥)
    → asked_by now token event ≡ event_by command now token event
asked command now token (said.Add node group) add _ _ _ _ _ _ _ _ = absurd (add node group refl)
asked command now token (said.Init node group voters learners) _ _ _ _ _ _ _ _ _ = refl
asked command now token (said.Propose node group amount) _ propose _ _ _ _ _ _ _ = absurd (propose node group amount refl)
asked command now token (said.Put node group key value) _ _ put _ _ _ _ _ _ = absurd (put node group key value refl)
asked command now token (said.Get node group key) _ _ _ get _ _ _ _ _ = absurd (get node group key refl)
asked command now token (said.Drop node group key) _ _ _ _ drop _ _ _ _ = absurd (drop node group key refl)
asked command now token (said.Elect node group) _ _ _ _ _ _ _ _ _ = refl
asked command now token (said.Heartbeat node group) _ _ _ _ _ _ _ _ _ = refl
asked command now token (said.Lost node group peer) _ _ _ _ _ _ _ _ _ = refl
asked command now token (said.Snapshot node group) _ _ _ _ _ _ _ _ _ = refl
asked command now token (said.Purge node group index) _ _ _ _ _ _ _ _ _ = refl
asked command now token (said.Addr node group id address) _ _ _ _ _ _ _ _ _ = refl
asked command now token (said.Voters node group ids) _ _ _ _ _ _ _ _ _ = refl
asked command now token (said.Deliver group number cut) _ _ _ _ _ deliver _ _ _ = absurd (deliver group number cut refl)
asked command now token (said.Clean node) _ _ _ _ _ _ clean _ _ = absurd (clean node refl)
asked command now token (said.Crash node choice) _ _ _ _ _ _ _ crash _ = absurd (crash node choice refl)
asked command now token (said.Reopen node workers) _ _ _ _ _ _ _ _ reopen = absurd (reopen node workers refl)

pub returns-in_default : goal.returns-in_default
returns-in_default g c =
    let event = c.args.event in
    let command = g.M.ScriptMachine.speech.proposes event in
    let arm = c.in_default in
    let same : asked_by c.args.now c.args.token event ≡ event_by command c.args.now c.args.token event =
    asked command c.args.now c.args.token event arm.not-Add arm.not-Propose arm.not-Put arm.not-Get arm.not-Drop arm.not-Deliver arm.not-Clean arm.not-Crash arm.not-Reopen in
    let P : Option ClusterEvent → Type 0 = λ x. IfOk c.asked_of.result (λ e. e ≡ x) in
    subst P same c.asked_of.ensures
