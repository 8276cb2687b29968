-- A stop behind an event that was done counts as one behind its last storing command.
use Rattle.std.specs.Prelude.{◌≡◌, ◌++◌, ℕ, Bool, true, false, List, [], ◌∷◌, length, map, Option, None, Ok, Contains, refl}
use Rattle.std.proofs.Common.{sym, ap, ap₂, ◌∙◌, subst, append-nil, take-append-drop}
use Rattle.std.proofs.lemmas.List.{map-append}
use Rattle.raft_group_step.specs.GroupEvent.{GroupEvent}
use Rattle.raft_group_step.specs.GroupState.{GroupState, Untold}
use Rattle.raft_group_step.specs.GroupStep.{group_step}
use Rattle.raft_group_step.specs.Refusal.{refusal_of}
use Rattle.raft_group_step.specs.SnapshotRequest.{place_above}
use Rattle.raft_group_step.specs.StepResult.{StepResult, tokens_of}
use Rattle.raft_group_step.specs.StoredGroup.{Snapshot}
use Rattle.raft_messages.specs.declared.memberships.SnapshotBytes.{SnapshotBytes}
use Rattle.raft_laws.specs.GroupWorld.{Down, NodeState, Up}
use Rattle.raft_laws.proofs.StepOrder.{stopped_at_end}
use Rattle.raft_step_laws.specs.Tokens.{TokensGo, brought, leads_on}
use Rattle.raft_step_laws.proofs.Telling.{tokens_go}
use Rattle.raft_headline.specs.ClusterEvent.{ClusterEvent, Recorded, Stopped}
use Rattle.raft_headline.specs.Seen.{seen_by}
use Rattle.raft_cluster_laws.specs.Acts.{MayBecome}
use Rattle.raft_cluster_laws.proofs.NodesActing.{has_first, others_as_asked}
use Rattle.raft_machines.specs.Machine.{MachineRules}
use Rattle.raft_machines.specs.Telling.{AreToldAs}
use Rattle.raft_machines.specs.declared.telling.Told.{Told}
use Rattle.raft_applier.specs.Applied.{HasGone}
use Rattle.raft_applier.specs.Following.{IsStep}
use Rattle.raft_applier.proofs.Leading.{none_brought}
use Rattle.raft_applier.proofs.Tokens.{are_parted, due}
use Rattle.raft_node_faults.specs.declared.fault.Cause.{Cause}
use Rattle.raft_node_faults.specs.declared.fault.Fault.{Fault}
use Rattle.raft_node_faults.specs.declared.fault.Fault.TheVariants as fault
use Rattle.raft_node.specs.Settling.{IsTold}
use Rattle.raft_node.specs.Standing.{IsAt, NodeValue}
use Rattle.raft_node.specs.declared.outcome.Outcome.{Outcome}
use Rattle.raft_node.proofs.Ends.{waits}
use Rattle.raft_node_joint.specs.Coming.{ComesTo}
use Rattle.raft_node_joint.specs.Leading.{LeadsIn, StandsBefore, StopsBehindLead, WasDone, recorded}
use Rattle.raft_node_joint.specs.Saying.{names_behind}
use Rattle.raft_node_joint.proofs.Naming.{behind_other, behind_own}
use Rattle.raft_node_joint.proofs.Others.{law_there, shows_it, up_stays, who_waits}
use Rattle.raft_node_joint.proofs.OwnGroup.{is_in_shown, stopped_becomes}
use Rattle.raft_node_joint.proofs.Whole.{IsIn, halts_so, in_each, is_in, is_reached}

-- what is told has its tokens
told_tokens : (answers : ℕ → Option (List ℕ)) (told : List Told) (xs : List Untold) → AreToldAs answers told xs → map (λ (t : Told). t.token) told ≡ tokens_of xs
told_tokens answers [] [] h = refl
told_tokens answers [] (x ∷ xs) h = absurd h
told_tokens answers (t ∷ ts) [] h = absurd h
told_tokens answers (t ∷ ts) (x ∷ xs) h = ap₂ (λ k ks. k ∷ ks) h.0.token (told_tokens answers ts xs h.1)

-- each token that waited, and the one that came, is told, stays unknown or waits on, in this order
pub tokens_stay : (own : ℕ) (s : GroupState) (e : GroupEvent) → IsStep own s e → let r = group_step own s e in
    (tokens_of r.told ++ r.unknown) ++ tokens_of r.state.untold ≡ tokens_of (s.untold ++ brought s e)
tokens_stay own s e step = go (leads_on s (group_step own s e).state) refl
  where
    r : StepResult
    r = group_step own s e

    xs : List Untold
    xs = s.untold ++ brought s e

    goes : TokensGo s e (group_step own s e)
    goes = tokens_go own s e step.own_vote step.leading step.opens step.taken

    go : (b : Bool) → leads_on s (group_step own s e).state ≡ b
        → (tokens_of (group_step own s e).told ++ (group_step own s e).unknown) ++ tokens_of (group_step own s e).state.untold ≡ tokens_of (s.untold ++ brought s e)
    go true on =
        let q = group_step own s e in
        let ys = s.untold ++ brought s e in
        let parted = are_parted q.state.committed (place_above s.applied) ys step.rising in
        ap₂ (λ ts us. ts ++ us)
        (ap₂ (λ ts us. ts ++ us) (ap tokens_of (goes.told on ∙ sym parted.first)) (goes.none_unknown on) ∙ append-nil _)
        (ap tokens_of (goes.waits on ∙ sym parted.rest))
        ∙ sym (map-append (λ (x : Untold). x.token) _ _)
        ∙ ap tokens_of (take-append-drop (due q.state.committed ys) ys)
    go false off =
        ap₂ (λ ts us. ts ++ us)
        (ap₂ (λ ts us. ts ++ us) (ap tokens_of (goes.none_told off)) (goes.unknown off))
        (ap tokens_of (goes.none_waits off))
        ∙ append-nil (tokens_of s.untold)
        ∙ ap tokens_of (sym (append-nil s.untold) ∙ ap (λ ys. s.untold ++ ys) (sym (none_brought own s e step.taken off)))

module _ {F : Type 0} (rules : MachineRules) (stands : SnapshotBytes → Snapshot → Type 0) (old mid new : NodeValue) (group : ℕ) (ge : GroupEvent) (o : Outcome) (why : Cause F) (unknown : _)
    (ids : List ℕ) (history : List Recorded) (happened : ClusterEvent) (olds : ℕ → List NodeState) (comes : ComesTo old.groups.own group history happened ge)
    (before : StandsBefore rules stands ids history old olds) (was : WasDone rules stands old mid group ge o) (told : IsTold ⊥ mid new (fault.Stopped why unknown)) where
  own_stops : (i : IsIn rules old group (olds group)) → LeadsIn rules history happened (Stopped (names_behind o unknown.items)) old new group (olds group)
  own_stops i =
      let n = old.groups.own in
      let s = i.state in
      let q = group_step n s ge in
      let there = subst (λ xs. Contains xs (Up s)) (sym i.alone) (has_first (Up s)) in
      let reached = is_reached rules ids n group history happened ge s comes (before.in_world group (Up s) there) in
      let d = was.done s i.up reached in
      let own = was.elsewhere.own in
      let taken = subst (λ k. refusal_of k s ge ≡ None) own d.taken in
      let gone = subst (λ k. HasGone rules (group_step k s ge) (record { told = o.told; unknown = o.unknown })) own d.gone in
      let at = subst (λ k. IsAt rules mid group (group_step k s ge).state) own d.at in
      let named =
      behind_own group o unknown.items d.of_group
      ∙ ap₂ (λ xs ys. xs ++ ys) (ap₂ (λ xs ys. xs ++ ys) (told_tokens _ o.told.items q.told gone.told) gone.unknown)
      (ap tokens_of (told.names group ∙ waits rules (mid.running group) q.state at.runs))
      ∙ tokens_stay n s ge (reached.step taken) in
      let names = names_behind o unknown.items in
      let r = recorded n happened (Stopped names) in
      let becomes = stopped_becomes rules group n history happened ge comes s (law_there rules old group s before.law i.up) names taken named (length q.commands) in
      subst (λ xs. LeadsIn rules history happened (Stopped names) old new group xs) (sym i.alone)
      (record {
        news = Down q.state.stored ∷ [];
        may_be = is_in_shown rules new group q.state.stored [] told.fails (told.kept group (q.state.stored ∷ []) at.up.holds.stored);
        leads = (others_as_asked rules group n r).to_one history (Up s) (Down q.state.stored)
            (subst (λ st. MayBecome rules group n r history (seen_by group r) (Up s) (Down st)) (sym (stopped_at_end n s ge)) becomes);
      })

  other_stops : (h : ℕ) → (h ≡ group → ⊥) → LeadsIn rules history happened (Stopped (names_behind o unknown.items)) old new h (olds h)
  other_stops h other =
      let i = is_in rules old h (olds h) was.going (before.may_be h) in
      let j = is_in rules old group (olds group) was.going (before.may_be group) in
      let there = subst (λ xs. Contains xs (Up j.state)) (sym j.alone) (has_first (Up j.state)) in
      let reached = is_reached rules ids old.groups.own group history happened ge j.state comes (before.in_world group (Up j.state) there) in
      let of_group = (was.done j.state j.up reached).of_group in
      let up = up_stays rules old mid group h (Ok o) i.state was.elsewhere other tt i.up in
      halts_so rules old new group ge history happened olds before.may_be comes happened (names_behind o unknown.items) h i
      (comes.others h other (Stopped (names_behind o unknown.items))) told.fails
      (behind_other h o unknown.items (λ same. other (sym same ∙ of_group)) ∙ ap tokens_of (told.names h ∙ who_waits rules mid h i.state up))
      (told.kept h (i.state.stored ∷ []) (shows_it rules mid h i.state up))

  each_stops : (h : ℕ) → LeadsIn rules history happened (Stopped (names_behind o unknown.items)) old new h (olds h)
  each_stops =
      in_each rules old new group ge history happened olds before.may_be comes happened (Stopped (names_behind o unknown.items))
      (own_stops (is_in rules old group (olds group) was.going (before.may_be group))) other_stops

pub stops_behind_lead : {F : Type 0} (rules : MachineRules) (stands : SnapshotBytes → Snapshot → Type 0) (old mid new : NodeValue) (group : ℕ) (ge : GroupEvent) (o : Outcome) (why : Fault F)
    → StopsBehindLead rules stands old mid new group ge o why
stops_behind_lead rules stands old mid new group ge o (fault.Stopped why unknown) = each_stops rules stands old mid new group ge o why unknown
stops_behind_lead rules stands old mid new group ge o other = tt
