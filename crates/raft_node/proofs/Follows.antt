-- A machine follows its group's member.
use Rattle.std.proofs.Common.{◌≡◌, ℕ, true, false, Option, Some, None, Result, Ok, Err, IfOk, IfSome, IsSomeAnd, List, OnErr, OnOk, is_some, refl, sym, ap, subst, ◌∙◌}
use Rattle.std.specs.Prelude.{option_map}
use Rattle.raft_group_step.specs.GroupEvent.{GroupEvent}
use Rattle.raft_group_step.specs.GroupState.{GroupState}
use Rattle.raft_group_step.specs.GroupStep.{group_step}
use Rattle.raft_group_storage.specs.Keeping.{KeepsAll}
use Rattle.raft_laws.specs.GroupWorld.{Up}
use Rattle.raft_laws.proofs.BallotAgreement.{same_some}
use Rattle.raft_member.specs.Member.{IsUp}
use Rattle.raft_member.specs.declared.member.Member.{Member}
use Rattle.raft_applier.specs.Applied.{HasGone}
use Rattle.raft_applier.specs.Following.{IsStep}
use Rattle.raft_applier.specs.declared.applied.Progress.{Progress}
use Rattle.raft_framed_groups.specs.Answers.{Stands}
use Rattle.raft_machines.specs.Machine.{MachineRules}
use Rattle.raft_node_faults.specs.declared.fault.Fault.TheVariants as fault
use Rattle.raft_node.specs.Ending.{StaysElse}
use Rattle.raft_machines.specs.declared.machine.StateMachine.{Ghosts}
use Rattle.raft_node.specs.Running.{Running, RunsAt, running_of}
use Rattle.raft_node.specs.declared.machines.Machines.{Machines}
use Rattle.raft_node.specs.Settling.{HasCaughtUp, IsBehind}
use Rattle.raft_node.specs.Standing.{NodeValue, applier_in, running_in}
use Rattle.raft_node.proofs.Faults.{stands_on}

-- a machine that runs is there
pub runs_some : {A : Type 0} (rules : MachineRules) (f : A → Running) (o : Option A) (s : GroupState) → RunsAt rules (option_map f o) s → is_some o ≡ true
runs_some rules f None s runs = absurd runs
runs_some rules f (Some x) s runs = refl

module _ {F : Type 0} (rules : MachineRules) (old new : NodeValue) (group : ℕ) (s : GroupState) (e : GroupEvent) (own : new.groups.own ≡ old.groups.own)
    (members : new.groups.members group ≡ old.groups.members group) (kept : KeepsAll old.groups.shows new.groups.shows) (behind : IsBehind rules old group s e) where
  caught_as : (r : Option (Result Progress F)) → is_some r ≡ true → IfSome r (λ r. OnOk r new.groups.is_well) → IfSome r (λ r. OnOk r (RunsAt rules (new.running group) (group_step old.groups.own s e).state))
      → IfSome r (λ r. IfOk r (HasGone rules (group_step old.groups.own s e))) → IsSomeAnd r (λ r. IfOk r (HasCaughtUp rules new group s e))
  caught_as None there well runs gone = absurd (let no : false ≡ true = there in cc)
  caught_as (Some (Ok p)) there well runs gone =
      record {
        at = record {
          up = subst (λ n. Stands new.groups group (Up (group_step n s e).state)) (sym own) (stands_on old.groups new.groups group (Up (group_step old.groups.own s e).state) own members (λ w. well) (kept group) behind.up);
          runs = subst (λ n. RunsAt rules (new.running group) (group_step n s e).state) (sym own) runs;
        };
        gone = subst (λ n. HasGone rules (group_step n s e) p) (sym own) gone;
      }
  caught_as (Some (Err met)) there well runs gone = tt

  pub caught : (m : Member) (r : Option (Result Progress F)) → old.groups.members group ≡ Some m → IsStep old.groups.own s e → is_some r ≡ true → (old.groups.is_well → IfSome r (λ r. OnOk r new.groups.is_well))
      → (IsStep m.id s e → IsUp old.groups.is_well (old.groups.shows group) m (group_step m.id s e).state → IfSome r (λ r. OnOk r (RunsAt rules (new.running group) (group_step m.id s e).state)))
      → (IsStep m.id s e → IsUp old.groups.is_well (old.groups.shows group) m (group_step m.id s e).state → IfSome r (λ r. IfOk r (HasGone rules (group_step m.id s e))))
      → IsSomeAnd r (λ r. IfOk r (HasCaughtUp rules new group s e))
  caught m r has step there well runs gone =
      let same : behind.up.member ≡ m = same_some (sym behind.up.has ∙ has) in
      let id : m.id ≡ old.groups.own = ap (λ (x : Member). x.id) (sym same) ∙ behind.up.owned in
      let own_step : IsStep m.id s e = subst (λ n. IsStep n s e) (sym id) step in
      let up : IsUp old.groups.is_well (old.groups.shows group) m (group_step m.id s e).state =
      subst (λ n. IsUp old.groups.is_well (old.groups.shows group) m (group_step n s e).state) (sym id)
      (subst (λ x. IsUp old.groups.is_well (old.groups.shows group) x (group_step old.groups.own s e).state) same behind.up.holds) in
      caught_as r there (well behind.up.holds.well)
      (subst (λ n. IfSome r (λ r. OnOk r (RunsAt rules (new.running group) (group_step n s e).state))) id (runs own_step up))
      (subst (λ n. IfSome r (λ r. IfOk r (HasGone rules (group_step n s e)))) id (gone own_step up))

-- where nothing but the group's machine and what is shown moves, the others stay
module _ {T F : Type 0} (old new : NodeValue) (group : ℕ) (own : new.groups.own ≡ old.groups.own) (fails : new.groups.has_failed ≡ old.groups.has_failed) (members : (other : ℕ) → new.groups.members other ≡ old.groups.members other)
    (well : old.groups.is_well → new.groups.is_well) (kept : KeepsAll old.groups.shows new.groups.shows) (runs : (other : ℕ) → (other ≡ group → ⊥) → new.running other ≡ old.running other) (streams : (peer : ℕ) → new.streams peer ≡ old.streams peer) where
  pub moved_elsewhere : (o : T) → StaysElse {T = T} {F = F} old new group (Ok o)
  moved_elsewhere o = record {
    own = own;
    members = λ other x apart goes stands. stands_on old.groups new.groups other x own (members other) well (kept other) stands;
    running = λ other apart goes. runs other apart;
    kept = λ other parts apart shown. kept other parts shown;
    named = tt;
    streams = streams;
    fails = fails;
  }

  pub absent_elsewhere : StaysElse {T = T} {F = F} old new group (Err fault.UnknownGroup)
  absent_elsewhere = record {
    own = own;
    members = λ other x apart goes stands. stands_on old.groups new.groups other x own (members other) well (kept other) stands;
    running = λ other apart goes. runs other apart;
    kept = λ other parts apart shown. kept other parts shown;
    named = tt;
    streams = streams;
    fails = fails;
  }

-- ---- machines by their groups

module _ {M : Type 0} {g : Ghosts M} (state : M → List ℕ) where
  pub running_in-applier : (m : Option (Machines M g)) (group : ℕ) → running_in state m group ≡ option_map (running_of state) (applier_in m group)
  running_in-applier None group = refl
  running_in-applier (Some m) group = refl

pub on_ok_map : {T E P Q : Type 0} (r : Result T E) → (P → Q) → OnOk r P → OnOk r Q
on_ok_map (Ok x) f p = f p
on_ok_map (Err x) f p = tt

pub on_err_map : {T E P Q : Type 0} (r : Result T E) → (P → Q) → OnErr r P → OnErr r Q
on_err_map (Ok x) f p = tt
on_err_map (Err x) f p = f p
