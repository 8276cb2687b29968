-- Where an opening leads a group whose node is down, and where a crash leads it.
use Rattle.std.specs.Prelude.{◌≡◌, ◌+◌, ℕ, Bool, true, false, List, [], ◌∷◌, map, Contains, refl}
use Rattle.std.proofs.Common.{inl, sym, subst}
use Rattle.raft_group_step.specs.GroupEvent.{Open}
use Rattle.raft_group_step.specs.GroupState.{GroupState, state_of}
use Rattle.raft_group_step.specs.GroupStep.{group_step}
use Rattle.raft_group_step.specs.StepResult.{StepResult}
use Rattle.raft_group_step.specs.StoredGroup.{StoredGroup}
use Rattle.raft_laws.specs.declared.world_event.WorldEvent.TheVariants as event
use Rattle.raft_laws.specs.GroupWorld.{Down, NodeState, Up}
use Rattle.raft_laws.specs.Stop.{stopped_after}
use Rattle.raft_laws.proofs.Counts.{among_contains, among_map, contains_among}
use Rattle.raft_headline.specs.ClusterEvent.{Crash, Done, Fuse, Opened, Recorded, Reopen, Said, Stopped, Unknown, said_of, silent}
use Rattle.raft_headline.specs.Seen.{own_tokens, seen_by}
use Rattle.raft_cluster_laws.specs.Acting.{SaysStepOf}
use Rattle.raft_cluster_laws.specs.Acts.{EventLeads, MayBecome}
use Rattle.raft_cluster_laws.proofs.EventKept.{is_only}
use Rattle.raft_cluster_laws.proofs.NodesActing.{as_asked, others_as_asked}
use Rattle.raft_machines.specs.Machine.{MachineRules}
use Rattle.raft_node.specs.Standing.{NodeValue}
use Rattle.raft_node_joint.specs.Leading.{recorded}
use Rattle.raft_node_joint.specs.Reopening.{CrashesLead, DownFusesLead, LeadsDown, RefusedOpeningsLead}
use Rattle.raft_node_joint.specs.Standing.{MayBeWhen}
use Rattle.raft_node_joint.proofs.Others.{passed_leads, shows_it, stays_leads}

-- ---- states before an event, and behind it

-- each of them is a stored part
pub is_stored : (parts : List StoredGroup) (x : NodeState) → Contains (map Down parts) x → (st : StoredGroup) × (x ≡ Down st)
is_stored parts x has =
    let found = among_map Down parts x (contains_among (map Down parts) x has) in
    (found.0, found.2)

pub first_there : {A : Type 0} (x : A) (xs : List A) → Contains (x ∷ xs) x
first_there x xs = among_contains (x ∷ xs) x (inl refl)

module _ (rules : MachineRules) (h n : ℕ) (r : Recorded) (history : List Recorded) where
  -- from more states before it, and to fewer behind it
  pub from_more : (olds more news : List NodeState) → ((s : NodeState) → Contains olds s → Contains more s) → EventLeads rules h n r history olds news
      → EventLeads rules h n r history more news
  from_more olds more news wider leads = record {
    one = leads.one;
    some = leads.some;
    came = λ t there. let from = leads.came t there in (from.0, wider from.0 from.1, from.2);
  }

  pub to_fewer : (olds news fewer : List NodeState) (one : NodeState) → Contains fewer one → ((t : NodeState) → Contains fewer t → Contains news t)
      → EventLeads rules h n r history olds news → EventLeads rules h n r history olds fewer
  to_fewer olds news fewer one has within leads = record { one = one; some = has; came = λ t there. leads.came t (within t there) }

  -- from one of several
  from_one : (olds : List NodeState) (s : NodeState) → Contains olds s → (x : NodeState) → Contains (s ∷ []) x → Contains olds x
  from_one olds s has x there = subst (Contains olds) (sym (is_only s x there)) has

  pub one_leads : (olds : List NodeState) (s t : NodeState) → Contains olds s → MayBecome rules h n r history (seen_by h r) s t → EventLeads rules h n r history olds (t ∷ [])
  one_leads olds s t has may = from_more (s ∷ []) olds (t ∷ []) (from_one olds s has) ((others_as_asked rules h n r).to_one history s t may)

  pub one_leads_to_two : (olds : List NodeState) (s t u : NodeState) → Contains olds s → MayBecome rules h n r history (seen_by h r) s t → MayBecome rules h n r history (seen_by h r) s u
      → EventLeads rules h n r history olds (t ∷ u ∷ [])
  one_leads_to_two olds s t u has may also = from_more (s ∷ []) olds (t ∷ u ∷ []) (from_one olds s has) ((others_as_asked rules h n r).to_two history s t u may also)

-- ---- an opening

module _ (rules : MachineRules) (h own : ℕ) (history : List Recorded) where
  abbrev opened_step : StoredGroup → StepResult
  opened_step st = group_step own (state_of st) Open

  -- it was done
  pub opened_leads : (olds : List NodeState) (st : StoredGroup) (parts : List (ℕ × Said)) → Contains olds (Down st) → SaysStepOf rules (said_of h parts) (opened_step st)
      → EventLeads rules h own (recorded own (Reopen own) (Opened parts)) history olds (Up (opened_step st).state ∷ [])
  opened_leads olds st parts has says =
      let r = recorded own (Reopen own) (Opened parts) in
      one_leads rules h own r history olds (Down st) (Up (opened_step st).state) has
      (refl, refl, (as_asked rules h own r (event.Restart own)).opened st parts refl refl says)

  module _ (names : List Unknown) (named : own_tokens h names ≡ []) where
    abbrev stopped : Recorded
    stopped = recorded own (Reopen own) (Stopped names)

    -- it stopped behind so many storing commands
    pub stop_becomes : (st : StoredGroup) (number : ℕ) → MayBecome rules h own stopped history (seen_by h stopped) (Down st) (Down (stopped_after number st (opened_step st)))
    stop_becomes st number = (refl, refl, (as_asked rules h own stopped (event.Restart own)).opening_stops st named number)

    -- and the next one is done or isn't
    pub left_leads : (olds : List NodeState) (st : StoredGroup) (number : ℕ) → Contains olds (Down st)
        → EventLeads rules h own stopped history olds (Down (stopped_after number st (opened_step st)) ∷ Down (stopped_after (number + 1) st (opened_step st)) ∷ [])
    left_leads olds st number has =
        one_leads_to_two rules h own stopped history olds (Down st) _ _ has (stop_becomes st number) (stop_becomes st (number + 1))

    -- nothing was begun
    stays_so : (st : StoredGroup) → MayBecome rules h own stopped history (seen_by h stopped) (Down st) (Down st)
    stays_so st = stop_becomes st 0

    pub unbegun_leads : (olds : List NodeState) (st : StoredGroup) → Contains olds (Down st) → EventLeads rules h own stopped history olds (Down st ∷ [])
    unbegun_leads olds st has = one_leads rules h own stopped history olds (Down st) (Down st) has (stays_so st)

    pub refused_leads : (one : StoredGroup) (more : List StoredGroup) → EventLeads rules h own stopped history (Down one ∷ map Down more) (Down one ∷ map Down more)
    refused_leads one more =
        stays_leads rules h own stopped history (Down one ∷ map Down more) (Down one) (first_there (Down one) (map Down more))
        (λ x there.
        let down = is_stored (one ∷ more) x there in
        subst (λ y. MayBecome rules h own stopped history (seen_by h stopped) y y) (sym down.1) (stays_so down.0))

pub refused_openings_lead : RefusedOpeningsLead
refused_openings_lead rules h own history names one more nobody = refused_leads rules h own history names (nobody h) one more

-- ---- a crash

module _ (rules : MachineRules) (n : NodeValue) (history : List Recorded) (h : ℕ) where
  abbrev own : ℕ
  own = n.groups.own

  abbrev crashed : Recorded
  crashed = recorded own (Crash own) (Done silent)

  abbrev Crashes : List NodeState → Type 0
  Crashes states = LeadsDown rules n.groups.shows own h (Crash own) (Done silent) history states

  -- of a node that is up in the group
  up_crashes : (s : GroupState) → n.groups.shows h (s.stored ∷ []) → Crashes (Up s ∷ [])
  up_crashes s shown =
      let acts = others_as_asked rules h own crashed in
      record { one = s.stored; more = []; shown = shown; leads = acts.to_one history (Up s) (Down s.stored) (refl, acts.crashes s refl) }

  -- and of one that has failed
  down_crashes : (one : StoredGroup) (more : List StoredGroup) → n.groups.shows h (one ∷ more) → Crashes (Down one ∷ map Down more)
  down_crashes one more shown = record {
    one = one;
    more = more;
    shown = shown;
    leads = stays_leads rules h own crashed history (Down one ∷ map Down more) (Down one) (first_there (Down one) (map Down more))
        (λ x there.
        let down = is_stored (one ∷ more) x there in
        subst (λ y. MayBecome rules h own crashed history (seen_by h crashed) y y) (sym down.1)
        (refl, (others_as_asked rules h own crashed).stays_down down.0 (inl refl)));
  }

  pub crashes_so : (b : Bool) (states : List NodeState) → MayBeWhen rules n h b states → Crashes states
  crashes_so false states may = subst Crashes (sym may.1) (up_crashes may.0 (shows_it rules n h may.0 may.2))
  crashes_so true states may = subst Crashes (sym may.2) (down_crashes may.0 may.1 may.3)

pub crashes_lead : (rules : MachineRules) (n : NodeValue) → CrashesLead rules n
crashes_lead rules n history h states may = crashes_so rules n history h n.groups.has_failed states may

-- ---- a fuse of files

pub down_fuses_lead : DownFusesLead
down_fuses_lead rules h own history one more =
    passed_leads rules h own (recorded own (Fuse own) (Done silent)) history refl (Down one ∷ map Down more) (Down one) (first_there (Down one) (map Down more))
