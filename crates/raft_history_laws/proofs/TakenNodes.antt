-- A leader takes each command within the limits, along every history.
use Rattle.std.specs.Prelude.{◌≡◌, ℕ, zero, suc, ◌<◌, ◌^◌, not, Bool, true, false, List, [], ◌∷◌, ◌++◌, length, slice_get, take, Some, None, All, refl}
use Rattle.std.proofs.Common.{inl, inr, sym, ap, ◌∙◌, subst, arith, ⊎_elim}
use Rattle.std.proofs.lemmas.Bool.{cases_Bool}
use Rattle.std.proofs.lemmas.List.Elements.{All-head, All-tail}
use Rattle.raft_state.specs.declared.entry.EntryPayload.TheVariants.{Normal}
use Rattle.raft_group_step.specs.Values.{Entry, Membership}
use Rattle.raft_group_step.specs.StoredGroup.{StoredGroup, StoringCommand, MakeGroup, SetVote, PutEntries, CutFrom, RemoveUpTo, SetSnapshot, StartAfter, after_storing, after_storing_all, end_place, entry_at, held, prefix_of}
use Rattle.raft_group_step.specs.Message.{Message}
use Rattle.raft_group_step.specs.GroupState.{GroupState, Lead, Leader, is_leader, no_group, state_of}
use Rattle.raft_group_step.specs.declared.group_call.GroupCall.TheVariants.{Propose}
use Rattle.raft_group_step.specs.GroupEvent.{GroupEvent, AddGroup, Call, Receive, Open}
use Rattle.raft_group_step.specs.StepResult.{BreaksCondition, GroupExists, RefusalReason, StepResult, UnknownGroup, WrongParty, store, unchanged}
use Rattle.raft_group_step.specs.Opening.{opening_step}
use Rattle.raft_group_step.specs.Refusal.{first_of_reasons, is_right_party, is_sound, next_blank, numbers_of, range_reason, reasons_of_call, refusal_of, unknown_group, unless}
use Rattle.raft_group_step.specs.GroupStep.{event_step, finished, group_step, step_unless}
use Rattle.raft_laws.specs.BallotWorld.{BallotEvent, BallotWorld}
use Rattle.raft_laws.specs.GroupWorld.{GroupWorld, NodeState, Absent, Recorded, Up, Down, is_stop, state_or}
use Rattle.raft_laws.specs.OneList.{IsGroupHistory}
use Rattle.raft_laws.specs.NodeEvent.{Comes, Crashes, Halts, Restarts, after_step, state_after}
use Rattle.raft_laws.specs.GroupRun.{At, after_scene, scene_of, scene_of_call, stop_at}
use Rattle.raft_laws.specs.Origins.{next_entry}
use Rattle.raft_laws.proofs.GroupsStay.{groups_stay}
use Rattle.raft_laws.proofs.HeldLists.{at_node}
use Rattle.raft_laws.proofs.Shapes.{joined_at, joined_end, joined_held}
use Rattle.raft_laws.proofs.Standing.{RoleFits}
use Rattle.raft_laws.proofs.StepDispatch.{event_ends, step_fits}
use Rattle.raft_laws.proofs.StepFits.{NodeFits, StepEnd, world_after}
use Rattle.raft_laws.proofs.StepOrder.{step-keeps}
use Rattle.raft_laws.proofs.WorldStart.{founded}
use Rattle.raft_laws.proofs.Numbers.{state_here}
use Rattle.raft_step_laws.specs.Taking.{StoresNext, is_removal}
use Rattle.raft_step_laws.proofs.Proposing.{leaders_take, proposals_stored, put_stands}
use Rattle.raft_step_laws.proofs.Sending.{finished_adds, idle_end}
use Rattle.raft_history_laws.specs.TakenCommands.{HasTaken, LeadersTakeCommands, ProposalsAreTaken, Takes}
use Rattle.raft_history_laws.proofs.AlongNodes.{NodesKeep, along_nodes}
use Rattle.raft_history_laws.proofs.CommittedAtOnce.{node_then}
use Rattle.raft_history_laws.proofs.StepEnds.{finished_held, finished_vote}
use Rattle.raft_history_laws.proofs.EndedOnce.{no_setup}

-- ---- a node that doesn't have the group has nothing of it

abbrev IsWhole : StoredGroup → Type 0
IsWhole st = st.present ≡ false → st ≡ no_group

there_whole : (st : StoredGroup) → st.present ≡ true → IsWhole st
there_whole st t f = absurd (let no : true ≡ false = sym t ∙ f in cc)

-- such a node stores nothing before it makes the group
data Starts (cs : List StoringCommand) : Type 0 where
  stores_nothing : cs ≡ [] → Starts cs
  makes : (rest : List StoringCommand) → cs ≡ MakeGroup ∷ rest → Starts cs

refused_starts : (own : ℕ) (s : GroupState) (e : GroupEvent) (why : RefusalReason) → refusal_of own s e ≡ Some why → Starts (group_step own s e).commands
refused_starts own s e why is = stores_nothing (ap (λ o. (step_unless o own s e).commands) is)

received : (own : ℕ) (s : GroupState) (peer : ℕ) (m : Message) (now : ℕ) → s.stored.present ≡ false → (b : Bool) → is_right_party own peer m ≡ b → Starts (group_step own s (Receive peer m now)).commands
received own s peer m now none true right =
    let others = range_reason s (now ∷ numbers_of m.body ++ next_blank s) ∷ unless (is_sound own peer s.stored m.body) BreaksCondition ∷ [] in
    refused_starts own s (Receive peer m now) UnknownGroup
    (ap (λ c. first_of_reasons (unless c WrongParty ∷ unknown_group s ∷ others)) right
    ∙ ap (λ c. first_of_reasons (None ∷ unless c UnknownGroup ∷ others)) none)
received own s peer m now none false right =
    let others = unknown_group s ∷ range_reason s (now ∷ numbers_of m.body ++ next_blank s) ∷ unless (is_sound own peer s.stored m.body) BreaksCondition ∷ [] in
    refused_starts own s (Receive peer m now) WrongParty (ap (λ c. first_of_reasons (unless c WrongParty ∷ others)) right)

starts : (own : ℕ) (s : GroupState) (e : GroupEvent) → s.stored ≡ no_group → Starts (group_step own s e).commands
starts own s AddGroup none =
    let passed : refusal_of own s AddGroup ≡ None = ap (λ (st : StoredGroup). first_of_reasons (unless (not st.present) GroupExists ∷ [])) none in
    let on = finished_adds own s.committed (store MakeGroup (unchanged s)) in
    makes on.removed (ap (λ o. (step_unless o own s AddGroup).commands) passed ∙ on.stored)
starts own s (Call call now) none =
    refused_starts own s (Call call now) UnknownGroup
    (ap (λ (st : StoredGroup). first_of_reasons (unless st.present UnknownGroup ∷ reasons_of_call own s now call)) none)
starts own s (Receive peer m now) none = received own s peer m now (ap (λ (st : StoredGroup). st.present) none) (is_right_party own peer m) refl
starts own s Open none =
    let follows : is_leader (opening_step own s.stored).state.role ≡ false = ap (λ st. is_leader (opening_step own st).state.role) none in
    stores_nothing
    (ap (λ (r : StepResult). r.commands) (idle_end own s.committed (opening_step own s.stored) follows)
    ∙ ap (λ st. (opening_step own st).commands) none)

stored_whole : (k : ℕ) (cs : List StoringCommand) (st : StoredGroup) → st ≡ no_group → Starts cs → IsWhole (after_storing_all (take k cs) st)
stored_whole zero cs st none h = λ f. none
stored_whole (suc k) cs st none (stores_nothing e) =
    λ f. ap (λ ds. after_storing_all (take (suc k) ds) st) e ∙ none
stored_whole (suc k) cs st none (makes rest e) =
    there_whole (after_storing_all (take (suc k) cs) st)
    (ap (λ ds. (after_storing_all (take (suc k) ds) st).present) e
    ∙ groups_stay (take k rest) (after_storing MakeGroup st) refl)

all_whole : (cs : List StoringCommand) (st : StoredGroup) → st ≡ no_group → Starts cs → IsWhole (after_storing_all cs st)
all_whole cs st none (stores_nothing e) =
    λ f. ap (λ ds. after_storing_all ds st) e ∙ none
all_whole cs st none (makes rest e) =
    there_whole (after_storing_all cs st)
    (ap (λ ds. (after_storing_all ds st).present) e ∙ groups_stay rest (after_storing MakeGroup st) refl)

module _ (own : ℕ) (s : GroupState) (e : GroupEvent) (h : IsWhole s.stored) where
  abbrev r : StepResult
  r = group_step own s e

  stop_whole : (k : ℕ) → IsWhole (after_storing_all (take k r.commands) s.stored)
  stop_whole k =
      ⊎_elim
      (λ t. there_whole (after_storing_all (take k r.commands) s.stored) (groups_stay (take k r.commands) s.stored t))
      (λ f. stored_whole k r.commands s.stored (h f) (starts own s e (h f)))
      (cases_Bool s.stored.present)

  end_whole : IsWhole r.state.stored
  end_whole =
      subst IsWhole (sym (step-keeps own s e).stored)
      (⊎_elim
      (λ t. there_whole (after_storing_all r.commands s.stored) (groups_stay r.commands s.stored t))
      (λ f. all_whole r.commands s.stored (h f) (starts own s e (h f)))
      (cases_Bool s.stored.present))

abbrev NodeWhole : ℕ → NodeState → Type 0
NodeWhole n Absent = Unit {0}
NodeWhole n (Up s) = IsWhole s.stored
NodeWhole n (Down stored) = IsWhole stored

step_whole : (n : ℕ) (stopped : Bool) (k : ℕ) (s : GroupState) (e : GroupEvent) → IsWhole s.stored → NodeWhole n (after_step (stop_at stopped k) s (group_step n s e))
step_whole n true k s e h = stop_whole n s e h k
step_whole n false k s e h = end_whole n s e h

nodes_whole : NodesKeep NodeWhole
nodes_whole m some before n e stopped k Absent fits may h = tt
nodes_whole m some before n (Comes e) stopped k (Up s) fits may h = step_whole n stopped k s e h
nodes_whole m some before n Crashes stopped k (Up s) fits may h = h
nodes_whole m some before n Halts stopped k (Up s) fits may h = h
nodes_whole m some before n Restarts stopped k (Up s) fits may h = h
nodes_whole m some before n (Comes e) stopped k (Down stored) fits may h = h
nodes_whole m some before n Crashes stopped k (Down stored) fits may h = h
nodes_whole m some before n Halts stopped k (Down stored) fits may h = h
nodes_whole m some before n Restarts stopped k (Down stored) fits may h = step_whole n stopped k (state_of stored) Open h

start_whole : (n : ℕ) (b : Bool) → NodeWhole n (state_or b (Up (state_of no_group)) Absent)
start_whole n true = λ f. refl
start_whole n false = tt

-- a node that leads has the group
leads_there : (m : Membership) (b : BallotWorld) (n : ℕ) (s : GroupState) (lead : Lead) → NodeFits m b n s → s.role ≡ Leader lead → IsWhole s.stored → s.stored.present ≡ true
leads_there m b n s lead fits is h =
    ⊎_elim
    (λ t. t)
    (λ f.
    let role : RoleFits n b s.stored.vote (held s.stored) (Leader lead) = subst (RoleFits n b s.stored.vote (held s.stored)) is fits.role in
    let term = role.0.term in
    let none : s.stored.vote.leader_id.term ≡ 0 = ap (λ (st : StoredGroup). st.vote.leader_id.term) (h f) in
    absurd (omega arith))
    (cases_Bool s.stored.present)

-- ---- what a proposal leaves

removal_snapshot : (c : StoringCommand) (st : StoredGroup) → is_removal c ≡ true → (after_storing c st).snapshot ≡ st.snapshot
removal_snapshot MakeGroup st t = refl
removal_snapshot (SetVote vote) st t = refl
removal_snapshot (PutEntries place entries) st t = refl
removal_snapshot (CutFrom place) st t = refl
removal_snapshot (RemoveUpTo id) st t = refl
removal_snapshot (SetSnapshot x) st t = absurd (let no : false ≡ true = t in cc)
removal_snapshot (StartAfter id) st t = refl

removals_snapshot : (cs : List StoringCommand) (st : StoredGroup) → All (λ c. is_removal c ≡ true) cs → (after_storing_all cs st).snapshot ≡ st.snapshot
removals_snapshot [] st h = refl
removals_snapshot (c ∷ cs) st h =
    removals_snapshot cs (after_storing c st) (All-tail (λ d. is_removal d ≡ true) c cs h)
    ∙ removal_snapshot c st (All-head (λ d. is_removal d ≡ true) c cs h)

module _ (m : Membership) (some : 0 < length m.configs) (own : ℕ) (small : own < 2 ^ 64) (before : List BallotEvent) (s : GroupState) (fits : NodeFits m (world_after m before) own s) (lead : Lead) (is : s.role ≡ Leader lead) (command : List ℕ) (token now : ℕ) (taken : refusal_of own s (Call (Propose command token) now) ≡ None) where
  abbrev e : GroupEvent
  e = Call (Propose command token) now

  abbrev r0 : StepResult
  r0 = event_step own s e

  abbrev end : StepResult
  end = group_step own s e

  abbrev entry : Entry
  entry = next_entry s.stored (Normal command)

  stores : StoresNext s.stored entry end
  stores = proposals_stored own s command token now taken

  is_finished : end ≡ finished own s.committed r0
  is_finished = ap (λ o. step_unless o own s e) taken

  same_snapshot : end.state.stored.snapshot ≡ s.stored.snapshot
  same_snapshot =
      ap (λ (st : StoredGroup). st.snapshot)
      ((step-keeps own s e).stored ∙ ap (λ cs. after_storing_all cs s.stored) stores.first)
      ∙ removals_snapshot stores.rest (after_storing (PutEntries (end_place s.stored) (entry ∷ [])) s.stored) stores.removals

  step_end : StepEnd m own before s.stored end
  step_end = step_fits m some own small before s e fits tt

  stands_then : entry_at end.state.stored (end_place s.stored) ≡ Some entry
  stands_then =
      let place = end_place s.stored in
      let u = (node_then m some own before s.stored end step_end).up in
      let on = event_ends m some own before small s e fits tt taken in
      let v = on.0.tracks.up in
      let low = u.joined.low in
      let high = fits.up.joined.high in
      let whole = joined_end s.stored fits.up.list fits.up.joined in
      let same = ap (λ o. length (prefix_of o)) same_snapshot in
      joined_at end.state.stored u.list u.joined place (omega arith)
      ∙ ap (λ l. slice_get l place) (sym (joined_held end.state.stored u.list u.joined))
      ∙ ap (λ l. slice_get l place) (ap (λ (x : StepResult). held x.state.stored) is_finished ∙ finished_held s.committed r0 on.0 on.1)
      ∙ ap (λ l. slice_get l place) (joined_held r0.state.stored v.list v.joined)
      ∙ sym (joined_at r0.state.stored v.list v.joined place (omega arith))
      ∙ put_stands s.stored entry

  has_taken : HasTaken s end.state command
  has_taken =
      let on = event_ends m some own before small s e fits tt taken in
      record {
        leads =
            ap (λ (x : StepResult). is_leader x.state.role) is_finished
            ∙ (finished_adds own s.committed r0).leads
            ∙ ap is_leader is;
        vote = ap (λ (x : StepResult). x.state.stored.vote) is_finished ∙ finished_vote s.committed r0 on.0 on.1;
        stands = stands_then;
      }

  pub takes_it : Takes own s command token now
  takes_it = record { taken = taken; stores = stores; then_has = has_taken }

-- ---- the laws

-- at a node that is down nothing is stored of a group that isn't there
pub absent_stores_nothing : (ids : List ℕ) (rs : List Recorded) (end : GroupWorld) → IsGroupHistory ids rs end
    → (n : ℕ) (st : StoredGroup) → end.nodes n ≡ Down st → st.present ≡ false → st ≡ no_group
absent_stores_nothing ids rs end h n st down =
    subst (NodeWhole n) down (along_nodes NodeWhole nodes_whole ids h.node_ids start_whole rs end h.replays n)

pub take_commands : LeadersTakeCommands
take_commands ids rs end h n s lead up is command token now short room =
    let f = founded ids h.node_ids rs end h.replays in
    let fits = at_node f.membership (world_after f.membership f.is.matches.before) end f.is.matches.fits n (Up s) up in
    let whole : IsWhole s.stored = subst (NodeWhole n) up (along_nodes NodeWhole nodes_whole ids h.node_ids start_whole rs end h.replays n) in
    let there = leads_there f.membership (world_after f.membership f.is.matches.before) n s lead fits.1 is whole in
    takes_it f.membership f.some n fits.0 f.is.matches.before s fits.1 lead is command token now
    (leaders_take n s lead command token now there is short room)

pub proposals_taken : ProposalsAreTaken
proposals_taken ids rs last middle end h on n s lead up is command token now asks short room =
    ⊎_elim
    (λ stops. inl stops)
    (λ goes.
    let e = Call (Propose command token) now in
    let takes = take_commands ids rs middle h n s lead up is command token now short room in
    let here : scene_of middle last.event ≡ At n (Comes e) =
    ap (scene_of middle) asks ∙ ap (λ b. scene_of_call b n (Propose command token) now) (no_setup middle.setup)
    in
    let next : end ≡ after_scene middle last.event last.outcome None (At n (Comes e)) =
    on.1.1
    ∙ ap (λ b. after_scene middle last.event last.outcome (stop_at b on.1.0) (scene_of middle last.event)) goes
    ∙ ap (after_scene middle last.event last.outcome None) here
    in
    inr (
      (group_step n s e).state,
      ap (λ (w : GroupWorld). w.nodes n) next
          ∙ state_here n (state_after n (Comes e) None (middle.nodes n)) middle.nodes
          ∙ ap (state_after n (Comes e) None) up,
      takes.then_has,
    ))
    (cases_Bool (is_stop last.outcome))
