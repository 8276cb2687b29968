-- A stop for want of memory before a group is asked.
use Rattle.std.proofs.Common.{◌≡◌, ℕ, Bool, true, if◌then◌else◌, List, [], ◌∷◌, Option, Some, None, Err, refl, sym, ap, subst, ◌∙◌}
use Rattle.std.proofs.lemmas.Bool.{eq-eqb, ne_eqb}
use Rattle.raft_group_step.specs.GroupEvent.{GroupEvent}
use Rattle.raft_group_step.specs.GroupState.{GroupState, Untold}
use Rattle.raft_group_step.specs.StoredGroup.{Snapshot}
use Rattle.raft_group_storage.specs.Keeping.{KeepsAll}
use Rattle.raft_messages.specs.declared.memberships.SnapshotBytes.{SnapshotBytes}
use Rattle.raft_machines.specs.Machine.{MachineRules}
use Rattle.raft_machines.specs.declared.machine.StateMachine.{Ghosts}
use Rattle.raft_machines.specs.declared.telling.Untold.{Untold as AnUntold}
use Rattle.raft_node_faults.specs.declared.fault.Cause.{Cause}
use Rattle.raft_node_faults.specs.declared.fault.Fault.{Fault}
use Rattle.raft_node_faults.specs.declared.fault.Fault.TheVariants as fault
use Rattle.raft_machines.specs.declared.telling.UnknownTokens.{UnknownTokens}
use Rattle.raft_node.specs.Ending.{GoesOn, HasEnded, HasStopped, NamesElse, StaysElse, FailsBy}
use Rattle.raft_node.specs.Running.{RunsAt}
use Rattle.raft_node.specs.Settling.{IsStopFor}
use Rattle.raft_node.specs.Standing.{NodeValue, one_more_in, running_in}
use Rattle.raft_node.specs.Waiting.{named_of, waiting_of}
use Rattle.raft_node.specs.declared.machines.Machines.{Machines}
use Rattle.raft_node.specs.declared.outcome.Outcome.{Outcome}

module _ {F : Type 0} where
  pub stop_for_ends : (rules : MachineRules) (stands : SnapshotBytes → Snapshot → Type 0) (new : NodeValue) (group : ℕ) (s : GroupState) (e : GroupEvent) (cause : Cause F) (waiting : ℕ → List Untold) (why : Fault F)
      → IsStopFor cause waiting why → new.groups.has_failed ≡ true → ((unknown : List UnknownTokens) → named_of unknown group ≡ waiting group → HasStopped stands new group s e unknown cause)
      → HasEnded rules stands new group s e (Err why)
  stop_for_ends rules stands new group s e cause waiting (fault.Stopped met unknown) is failed ends = (failed, subst (HasStopped stands new group s e unknown.items) (sym is.0) (ends unknown.items (is.1 group)))
  stop_for_ends rules stands new group s e cause waiting other is failed ends = absurd is

  never_on : (cause : Cause F) (waiting : ℕ → List Untold) (why : Fault F) → IsStopFor cause waiting why → GoesOn {T = Outcome} (Err why) → ⊥
  never_on cause waiting (fault.Stopped met unknown) is goes = goes
  never_on cause waiting other is goes = is

  names_for : (old : NodeValue) (group : ℕ) (cause : Cause F) (waiting : ℕ → List Untold) (why : Fault F) → IsStopFor cause waiting why → ((other : ℕ) → (other ≡ group → ⊥) → waiting other ≡ waiting_of (old.running other))
      → NamesElse {T = Outcome} old group (Err why)
  names_for old group cause waiting (fault.Stopped met unknown) is same = λ other apart. is.1 other ∙ same other apart
  names_for old group cause waiting other is same = absurd is

  fails_for : (old new : Bool) (cause : Cause F) (waiting : ℕ → List Untold) (why : Fault F) → IsStopFor cause waiting why → new ≡ true → FailsBy {T = Outcome} old (Err why) new
  fails_for old new cause waiting (fault.Stopped met unknown) is failed = failed
  fails_for old new cause waiting other is failed = absurd is

  pub stop_for_elsewhere : (old new : NodeValue) (group : ℕ) (cause : Cause F) (waiting : ℕ → List Untold) (why : Fault F) → IsStopFor cause waiting why → ((other : ℕ) → (other ≡ group → ⊥) → waiting other ≡ waiting_of (old.running other))
      → new.groups.own ≡ old.groups.own → new.groups.has_failed ≡ true → KeepsAll old.groups.shows new.groups.shows → ((peer : ℕ) → new.streams peer ≡ old.streams peer) → StaysElse {T = Outcome} old new group (Err why)
  stop_for_elsewhere old new group cause waiting why is same own failed kept streams = record {
    own = own;
    members = λ other x apart goes stands. absurd (never_on cause waiting why is goes);
    running = λ other apart goes. absurd (never_on cause waiting why is goes);
    kept = λ other parts apart shown. kept other parts shown;
    named = names_for old group cause waiting why is same;
    streams = streams;
    fails = fails_for old.groups.has_failed new.groups.has_failed cause waiting why is failed;
  }

-- one token more is the group's alone
module _ {M : Type 0} {g : Ghosts M} where
  pub one_more_here : (rules : MachineRules) (state : M → List ℕ) (m : Option (Machines M g)) (group : ℕ) (s : GroupState) (x : AnUntold) → RunsAt rules (running_in state m group) s
      → one_more_in m group group x ≡ record { token = x.token; place = x.place } ∷ []
  one_more_here rules state None group s x runs = absurd runs
  one_more_here rules state (Some m) group s x runs = ap (λ b. if b then record { token = x.token; place = x.place } ∷ [] else []) (eq-eqb group group refl)

  pub none_more_else : (m : Option (Machines M g)) (other group : ℕ) (x : AnUntold) → (other ≡ group → ⊥) → one_more_in m other group x ≡ []
  none_more_else None other group x apart = refl
  none_more_else (Some m) other group x apart = ap (λ b. if b then record { token = x.token; place = x.place } ∷ [] else []) (ne_eqb group other (λ is. apart (sym is)))
