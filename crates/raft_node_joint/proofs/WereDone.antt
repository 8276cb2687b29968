-- An event that is answered by an outcome was done.
use Rattle.std.specs.Prelude.{◌≡◌, ℕ, Bool, true, false, Result, Ok, Err, is_some, refl}
use Rattle.std.proofs.Common.{inl, inr, sym, ap, ◌∙◌, subst}
use Rattle.raft_group_step.specs.GroupEvent.{AddGroup as Adds}
use Rattle.raft_group_step.specs.GroupEvent.{GroupEvent, Receive}
use Rattle.raft_group_step.specs.GroupState.{GroupState}
use Rattle.raft_group_step.specs.StoredGroup.{Snapshot}
use Rattle.raft_messages.specs.declared.memberships.SnapshotBytes.{SnapshotBytes}
use Rattle.raft_framed_groups.specs.Answers.{is_right_party}
use Rattle.raft_machines.specs.Machine.{MachineRules}
use Rattle.raft_wire.specs.declared.frame.Frame.{Frame}
use Rattle.raft_node_faults.specs.declared.fault.Fault.{Fault}
use Rattle.raft_node_faults.specs.declared.fault.Fault.TheVariants as fault
use Rattle.raft_node.specs.Ending.{IsDone, IsReached, Leads, StaysElse}
use Rattle.raft_node.specs.Standing.{NodeValue}
use Rattle.raft_node.specs.declared.outcome.Outcome.{Outcome}
use Rattle.raft_node_joint.specs.Leading.{AnsweredAddingsWereDone, AnsweredEventsWereDone, AnsweredFramesWereDone, WasDone}
use Rattle.raft_node_joint.specs.Standing.{IsUpIn}

-- an outcome is no fault
no_fault : {P : Type 0} (F : Type 0) (o : Outcome) (why : Fault F) → Ok o ≡ Err why → P
no_fault F o why is = absurd (let no : Ok o ≡ Err why = is in cc)

is_going : (F : Type 0) (b : Bool) (o : Outcome) (same : Type 0) → (b ≡ true → ((λ (x : Result Outcome (Fault F)). x ≡ Err fault.Failed) (Ok o)) × same) → b ≡ false
is_going F true o same failed = no_fault F o fault.Failed (failed refl).0
is_going F false o same failed = refl

-- the others stay, whatever faults there are
stays_alike : (F : Type 0) (old mid : NodeValue) (group : ℕ) (o : Outcome) → StaysElse {T = Outcome} {F = F} old mid group (Ok o) → StaysElse {T = Outcome} {F = Unit {0}} old mid group (Ok o)
stays_alike F old mid group o stays = record {
  own = stays.own;
  members = λ other x apart goes. stays.members other x apart tt;
  running = λ other apart goes. stays.running other apart tt;
  kept = stays.kept;
  named = tt;
  streams = stays.streams;
  fails = stays.fails;
}

module _ (F : Type 0) (rules : MachineRules) (stands : SnapshotBytes → Snapshot → Type 0) (same : Type 0) (old mid : NodeValue) (o : Outcome) where
  pub events_done : (group : ℕ) (ge : GroupEvent) → AnsweredEventsWereDone F rules stands same old mid o group ge
  events_done group ge machine e = record {
    going = going;
    elsewhere = stays_alike F old mid group o e.elsewhere;
    done = done;
  }
    where
      going : old.groups.has_failed ≡ false
      going = is_going F old.groups.has_failed o same e.failed

      done : (s : GroupState) → IsUpIn rules old group s → IsReached old.groups.own s ge → IsDone rules stands mid group s ge o
      done s (inl at) reached = e.leads s (is_going F old.groups.has_failed o same e.failed) machine at reached
      done s (inr (is, without)) reached = no_fault F o fault.UnknownGroup (e.unknown (is_going F old.groups.has_failed o same e.failed) without.absent.0).0

  pub addings_done : (group : ℕ) → AnsweredAddingsWereDone F rules stands same old mid o group
  addings_done group e = record {
    going = is_going F old.groups.has_failed o same e.failed;
    elsewhere = stays_alike F old mid group o e.elsewhere;
    done = done;
  }
    where
      done : (s : GroupState) → IsUpIn rules old group s → IsReached old.groups.own s Adds → IsDone rules stands mid group s Adds o
      done s (inl at) reached = no_fault F o fault.GroupExists (e.exists (is_going F old.groups.has_failed o same e.failed) (ap is_some at.up.has)).0
      done s (inr (is, without)) reached = subst (λ t. IsDone rules stands mid group t Adds o) (sym is) (e.added (is_going F old.groups.has_failed o same e.failed) without.absent)

  pub frames_done : (frame : Frame) (now : ℕ) → AnsweredFramesWereDone F rules stands same old mid o frame now
  frames_done frame now m machine says going e = by_party (is_right_party old.groups.own m.sender frame) refl
    where
      by_party : (b : Bool) → is_right_party old.groups.own m.sender frame ≡ b → WasDone rules stands old mid frame.group (Receive m.sender m now) o
      by_party false wrong = no_fault F o fault.WrongParty (e.wrong wrong).0
      by_party true right = events_done frame.group (Receive m.sender m now) machine (record {
        leads = subst (λ i. Leads {F = F} rules stands old mid frame.group (Receive i m now) (Ok o)) (sym says.0) (e.leads right m says);
        elsewhere = e.elsewhere;
        failed = λ failed. absurd (let no : true ≡ false = sym failed ∙ going in cc);
        unknown = e.unknown right;
      })
