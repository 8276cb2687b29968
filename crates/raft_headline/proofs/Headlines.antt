-- A history that replays keeps the headline.
use Rattle.std.specs.Prelude.{◌≡◌, ℕ, ◌+◌, Bool, true, false, List, [], length, take, Some, None, refl}
use Rattle.std.proofs.Common.{sym, ap, ◌∙◌, subst, arith}
use Rattle.std.proofs.lemmas.List.{take_all}
use Rattle.raft_group_step.specs.Values.{has_id}
use Rattle.raft_group_step.specs.StoredGroup.{Snapshot, StoredGroup, prefix_of}
use Rattle.raft_group_step.specs.GroupState.{GroupState, no_group, state_of}
use Rattle.raft_laws.specs.BallotLists.{AgreeBelow}
use Rattle.raft_laws.specs.GroupWorld.{Absent, Up, state_or}
use Rattle.raft_laws.specs.GroupWorld.{Recorded as GroupRecorded}
use Rattle.raft_laws.specs.OneList.{AreNodeIds, IsGroupHistory, applied_list}
use Rattle.raft_laws.specs.Settled.{group_list}
use Rattle.raft_laws.specs.VotesRise.{stored_of}
use Rattle.raft_laws.proofs.Committed.{same_front, snapshot_front}
use Rattle.raft_machines.specs.Machine.{MachineRules}
use Rattle.raft_headline.specs.ClusterEvent.{Recorded}
use Rattle.raft_machines.specs.Fold.{fold_of}
use Rattle.raft_headline.specs.Machines.{Replicas, new_replicas}
use Rattle.raft_headline.specs.Replaying.{ReplaysFor}
use Rattle.raft_headline.specs.Headline.{AppliedAreFronts, ListGrows, SnapshotsAreFronts}
use Rattle.raft_headline.proofs.AsGroup.{Led, led}
use Rattle.raft_headline.proofs.NodeFacts.{applied_front, applied_within, list_front, snapshot_size}
use Rattle.raft_headline.proofs.WorldMachines.{Kept}

-- ---- the beginning

starts_folded : (rules : MachineRules) (b : Bool) (s : GroupState) → state_or b (Up (state_of no_group)) Absent ≡ Up s → rules.first ≡ fold_of rules (applied_list s)
starts_folded rules true s e =
    let same : state_of no_group ≡ s = (let f : Up (state_of no_group) ≡ Up s = e in cc) in
    ap (λ (x : GroupState). fold_of rules (applied_list x)) same
starts_folded rules false s e = absurd (let f : Absent ≡ Up s = e in cc)

starts_without : (b : Bool) (st : StoredGroup) (x : Snapshot) {P : Type 0} → stored_of (state_or b (Up (state_of no_group)) Absent) ≡ Some st → st.snapshot ≡ Some x → P
starts_without true st x e f =
    let same : no_group ≡ st = (let g : Some no_group ≡ Some st = e in cc) in
    let no : None ≡ Some x = ap (λ (y : StoredGroup). y.snapshot) same ∙ f in absurd (cc no)
starts_without false st x e f = absurd (let g : None ≡ Some st = e in cc)

kept_start : (rules : MachineRules) (ids : List ℕ) → AreNodeIds ids → Kept rules ids [] (new_replicas rules ids)
kept_start rules ids fit = record {
  leads = record { node_ids = fit; replays = refl };
  folded = λ n s is. starts_folded rules (has_id ids n) s is;
  built = λ x bytes has. let l = has.1 in absurd (omega arith);
  bytes = λ n st x is f. starts_without (has_id ids n) st x is f;
}

module _ (rules : MachineRules) (ids : List ℕ) (fit : AreNodeIds ids) (h : ℕ) (history : List Recorded) (end : Replicas) (run : ReplaysFor rules h (new_replicas rules ids) history end) where
  pub leads_there : Led rules ids [] (new_replicas rules ids) end
  leads_there = led rules ids h [] history run.0 (new_replicas rules ids) end (kept_start rules ids fit) run.1

  abbrev gs : List GroupRecorded
  gs = leads_there.more

  kept : Kept rules ids gs end
  kept = leads_there.kept

  pub group_history : IsGroupHistory ids gs end.world
  group_history = kept.leads

  -- ---- applied, and snapshots

  pub applied_fronts : AppliedAreFronts rules end
  applied_fronts n s is = record {
    within = applied_within ids gs end.world group_history n s is;
    folded = kept.folded n s is ∙ ap (fold_of rules) (applied_front ids gs end.world group_history n s is);
  }

  pub snapshot_fronts : SnapshotsAreFronts rules end
  snapshot_fronts n st x is f =
      let agrees : AgreeBelow (length x.«prefix») x.«prefix» (group_list end.world) =
      subst (λ o. AgreeBelow (length (prefix_of o)) (prefix_of o) (group_list end.world)) f (snapshot_front ids gs end.world group_history n st is)
      in
      let size = snapshot_size ids gs end.world group_history n st x is f in
      let front : x.«prefix» ≡ take (length x.«prefix») (group_list end.world) =
      sym (take_all (length x.«prefix») x.«prefix» (omega arith)) ∙ same_front (length x.«prefix») x.«prefix» (group_list end.world) agrees
      in
      let whole : x.«prefix» ≡ take (x.last.index + 1) (group_list end.world) = front ∙ ap (λ k. take k (group_list end.world)) size in
      record {
        within = omega (arith, agrees.right, size);
        front = whole;
        has = kept.bytes n st x is f;
        restores = λ bytes has. kept.built x bytes has ∙ ap (fold_of rules) whole;
      }

-- ---- the list grows

pub list_grows_on : (rules : MachineRules) (ids : List ℕ) → AreNodeIds ids → (h : ℕ) (history : List Recorded) (end : Replicas) → ListGrows rules ids h history end
list_grows_on rules ids fit h history end earlier later middle is before after =
    let one = leads_there rules ids fit h earlier middle before in
    let two = led rules ids h one.more later after.0 middle end one.kept after.1 in
    list_front ids one.more two.more middle.world end.world one.kept.leads two.run
