-- Each told token stands at an entry that is settled under the vote of the node that tells it.
use Rattle.std.specs.Prelude.{◌≡◌, ℕ, ◌<◌, ◌≤◌, ◌^◌, Bool, true, false, List, [], ◌∷◌, ◌++◌, length, Option, Some, None, Contains, refl}
use Rattle.std.proofs.Common.{inl, inr, sym, ap, ◌∙◌, subst, arith, ⊎_elim}
use Rattle.raft_group_step.specs.Values.{Membership}
use Rattle.raft_group_step.specs.StoredGroup.{StoredGroup, Holds, end_place}
use Rattle.raft_group_step.specs.Message.{Message}
use Rattle.raft_group_step.specs.GroupState.{GroupState, Role, Follower, Candidate, Leader, Untold, is_leader, state_of}
use Rattle.raft_group_step.specs.GroupEvent.{GroupEvent, Open}
use Rattle.raft_group_step.specs.StepResult.{RefusalReason, StepResult, is_within}
use Rattle.raft_group_step.specs.SnapshotRequest.{place_above}
use Rattle.raft_group_step.specs.Refusal.{refusal_of}
use Rattle.raft_group_step.specs.GroupStep.{event_step, group_step, step_unless}
use Rattle.raft_laws.specs.BallotWorld.{BallotEvent}
use Rattle.raft_laws.specs.declared.world_event.WorldEvent.{WorldEvent}
use Rattle.raft_laws.specs.GroupWorld.{GroupWorld, NodeState, Absent, Up, Down, Led, Outcome, Done, Refused, Stopped, Skipped, Recorded, is_stop, new_world}
use Rattle.raft_laws.specs.NodeEvent.{NodeEvent, Comes, Restarts, outcome_at, outcome_of_end, state_after}
use Rattle.raft_laws.specs.GroupRun.{Scene, Nowhere, At, Replays, after_scene, happens, led_as, led_by, outcome_in, outcome_of, scene_of}
use Rattle.raft_laws.specs.OneList.{AreNodeIds, IsGroupHistory}
use Rattle.raft_laws.specs.Settled.{group_list}
use Rattle.raft_laws.proofs.BallotSafe.{Among}
use Rattle.raft_laws.proofs.WorldTokens.{done_told}
use Rattle.raft_laws.proofs.Committed.{committed_agrees}
use Rattle.raft_laws.proofs.GroupList.{Goes, goes_on}
use Rattle.raft_laws.proofs.HeldLists.{at_node, node_holds}
use Rattle.raft_laws.proofs.Histories.{histories-join}
use Rattle.raft_laws.proofs.ListLaws.{leaders_hold}
use Rattle.raft_laws.proofs.Shapes.{joined_end, joined_held}
use Rattle.raft_laws.proofs.StepClaims.{Known}
use Rattle.raft_laws.proofs.StepCommits.{AcceptedBy}
use Rattle.raft_laws.proofs.StepFits.{EventFits, NodeFits, world_after}
use Rattle.raft_laws.proofs.StepLimits.{EventClaims, StateClaims, event_claims}
use Rattle.raft_laws.proofs.WorldCommits.{history_limits}
use Rattle.raft_laws.proofs.WorldLimits.{NodeLimits, SceneKnown, WorldLimits, replied, replied_still, scene_known}
use Rattle.raft_laws.proofs.WorldStart.{founded}
use Rattle.raft_laws.proofs.WorldSteps.{MayCome, MayHappen}
use Rattle.raft_laws.proofs.WorldRuns.{MayTakePlace}
use Rattle.raft_laws.proofs.Numbers.{state_here}
use Rattle.raft_laws.proofs.Counts.{among_behind}
use Rattle.raft_history_laws.specs.ToldAnswers.{IsToldUnder, LeadersHoldTold, SettledUnderStays, ToldIsSettledUnder}
use Rattle.raft_history_laws.proofs.AlongNodes.{MayFollow, may_follow}
use Rattle.raft_history_laws.proofs.Notes.{note_of}
use Rattle.raft_history_laws.proofs.SettledNotes.{settled_still, settled_up_to}
use Rattle.raft_history_laws.proofs.StepCommitted.{CommitsUpTo, told_commits}
use Rattle.raft_history_laws.proofs.StepWaits.{due, finished_quiet, opening_without}
use Rattle.raft_history_laws.proofs.StepCommitted.{due_within}
use Rattle.raft_history_laws.proofs.WaitingTokens.{tokens_wait}

-- ---- which events tell

-- a call or message at a node that is up, whose step tells these
record Tells (n : ℕ) (at_node : NodeEvent) (x : NodeState) (told : List Untold) : Type 0 where
  event : GroupEvent
  is_event : at_node ≡ Comes event
  state : GroupState
  is_up : x ≡ Up state
  passed : refusal_of n state event ≡ None
  told_is : told ≡ (group_step n state event).told

skipped : (sent : List Message) (told : List Untold) (unknown : List ℕ) → Done sent told unknown ≡ Skipped → ⊥
skipped sent told unknown e = cc

refused : (sent : List Message) (told : List Untold) (unknown : List ℕ) (why : RefusalReason) → Done sent told unknown ≡ Refused why → ⊥
refused sent told unknown why e = cc

none_told : (x : Untold) (told : List Untold) → told ≡ [] → Contains told x → ⊥
none_told x told e c = let l = c.1 in let n = ap length e in omega arith

abbrev told_in : Outcome → List Untold
told_in (Done sent told unknown) = told
told_in (Refused why) = []
told_in (Stopped unknown) = []
told_in Skipped = []

-- what a step that runs to its end tells
end_told : (sent : List Message) (told : List Untold) (unknown : List ℕ) (r : StepResult) (o : Option RefusalReason) → Done sent told unknown ≡ outcome_of_end r o → told ≡ r.told
end_told sent told unknown r None e = done_told sent r.messages told r.told unknown r.unknown e
end_told sent told unknown r (Some why) e = absurd (refused sent told unknown why e)

opening_told : (n : ℕ) (stored : StoredGroup) → (group_step n (state_of stored) Open).told ≡ []
opening_told n stored = (finished_quiet n None (event_step n (state_of stored) Open) (opening_without n stored).quiet).told

come_tells : (n : ℕ) (s : GroupState) (e : GroupEvent) (sent : List Message) (told : List Untold) (unknown : List ℕ) → Done sent told unknown ≡ outcome_of_end (group_step n s e) (group_step n s e).refused → (o : Option RefusalReason) → refusal_of n s e ≡ o → Tells n (Comes e) (Up s) told
come_tells n s e sent told unknown is None passed =
    record {
      event = e;
      is_event = refl;
      state = s;
      is_up = refl;
      passed = passed;
      told_is = end_told sent told unknown (group_step n s e) (group_step n s e).refused is;
    }
come_tells n s e sent told unknown is (Some why) why_not =
    absurd (refused sent told unknown why (is ∙ ap (λ o. outcome_of_end (step_unless o n s e) (step_unless o n s e).refused) why_not))

node_tells : (n : ℕ) (at_node : NodeEvent) (x : NodeState) (sent : List Message) (told : List Untold) (unknown : List ℕ) → Done sent told unknown ≡ outcome_at n at_node false x → (y : Untold) → Contains told y → Tells n at_node x told
node_tells n at_node Absent sent told unknown e y c = absurd (skipped sent told unknown e)
node_tells n (Comes event) (Up s) sent told unknown e y c = come_tells n s event sent told unknown e (refusal_of n s event) refl
node_tells n other (Up s) sent told unknown e y c = absurd (none_told y told (ap told_in e) c)
node_tells n Restarts (Down stored) sent told unknown e y c =
    let r = group_step n (state_of stored) Open in
    absurd (none_told y told (end_told sent told unknown r r.refused e ∙ opening_told n stored) c)
node_tells n other (Down stored) sent told unknown e y c = absurd (none_told y told (ap told_in e) c)

-- ---- the event in its world

role_note : (n : ℕ) (s : GroupState) (role : Role) → is_leader role ≡ true → Among (note_of n s) (led_as n s role)
role_note n s Follower t = absurd (let f : false ≡ true = t in cc)
role_note n s (Candidate granters) t = absurd (let f : false ≡ true = t in cc)
role_note n s (Leader lead) t = inl refl

-- a committed place lies below the log's end
not_due : (c : Option ℕ) (x : Untold) → place_above c ≤ x.place → due c x ≡ false
not_due None x l = refl
not_due (Some b) x l = go (due (Some b) x) refl
  where
    go : (t : Bool) → due (Some b) x ≡ t → t ≡ false
    go false e = refl
    go true e = absurd (let below = due_within (Some b) x e in omega arith)

module _ (ids : List ℕ) (small : AreNodeIds ids) (rs : List Recorded) (w : GroupWorld) (run : Replays (new_world ids) rs w) (event : WorldEvent) (sent : List Message) (told : List Untold) (unknown : List ℕ) (is : Done sent told unknown ≡ outcome_of w event false) (x : Untold) (within : Contains told x) where
  abbrev last : Recorded
  last = record { event = event; outcome = Done sent told unknown }

  abbrev next : GroupWorld
  next = happens w event (Done sent told unknown) 0

  goes : Goes w next
  goes = goes_on (last ∷ []) w next (is, (0, refl))

  f : MayFollow w last 0
  f = may_follow ids small rs w run last 0 is

  limits : WorldLimits w
  limits = history_limits ids small rs w run

  module _ (n : ℕ) (act : NodeEvent) (here : scene_of w event ≡ At n act) (t : Tells n act (w.nodes n) told) where
    abbrev r : StepResult
    r = group_step n t.state t.event

    abbrev m : Membership
    m = f.membership

    abbrev before : List BallotEvent
    before = f.first.before

    fits : (n < 2 ^ 64) × NodeFits m (world_after m before) n t.state
    fits = at_node m (world_after m before) w f.first.fits n (Up t.state) t.is_up

    place_is : scene_of w event ≡ At n (Comes t.event)
    place_is = here ∙ ap (At n) t.is_event

    event_fits : EventFits m (world_after m before) t.event
    event_fits =
        let may : MayHappen m (world_after m before) n (Comes t.event) (w.nodes n) = subst (MayTakePlace m f.some w before f.first.fits) place_is f.may in
        let comes : MayCome m (world_after m before) n t.state t.event = subst (MayHappen m (world_after m before) n (Comes t.event)) t.is_up may in
        ⊎_elim (λ x. x) (λ no. absurd (let g : None ≡ Some no.0 = sym t.passed ∙ no.1 in cc)) comes

    known : Known (replied w) (event_step n t.state t.event).state.stored.vote (event_step n t.state t.event).state.role
    known =
        let limit = length (group_list w) in
        let claims : EventClaims limit (replied w) t.event = subst (SceneKnown w limits) place_is (scene_known w limits event) in
        let state : StateClaims limit (replied w) t.state = subst (NodeLimits limit (replied w)) t.is_up (limits.nodes n) in
        (event_claims limit (replied w) (world_after m before) n t.state t.event fits.1.up event_fits claims state).4

    end_above : is_within (end_place t.state.stored) t.state.committed ≡ false
    end_above =
        let u = fits.1.up in
        let low = (committed_agrees ids rs w (record { node_ids = small; replays = run }) n t.state t.is_up).left in
        let size = ap length (joined_held t.state.stored u.list u.joined) in
        let ends = joined_end t.state.stored u.list u.joined in
        not_due t.state.committed (record { token = 0; place = end_place t.state.stored }) (omega arith)

    commits : CommitsUpTo m (replied w) n r.state x
    commits =
        told_commits m f.some n fits.0 before t.state t.event fits.1 event_fits t.passed
        (tokens_wait ids small rs w run n t.state t.is_up) end_above (replied w) known x (subst (λ xs. Contains xs x) t.told_is within)

    happens_is : next ≡ after_scene w event (Done sent told unknown) None (At n (Comes t.event))
    happens_is = ap (after_scene w event (Done sent told unknown) None) place_is

    node_is : next.nodes n ≡ Up r.state
    node_is =
        ap (λ (v : GroupWorld). v.nodes n) happens_is
        ∙ state_here n (state_after n (Comes t.event) None (w.nodes n)) w.nodes
        ∙ ap (state_after n (Comes t.event) None) t.is_up

    abbrev note : Led
    note = note_of n r.state

    led_is : next.led ≡ w.led ++ led_as n r.state r.state.role
    led_is =
        ap (λ (v : GroupWorld). v.led) happens_is
        ∙ ap (λ y. w.led ++ led_by n (state_after n (Comes t.event) None y)) t.is_up

    noted : Among note next.led
    noted = subst (Among note) (sym led_is) (among_behind note w.led (led_as n r.state r.state.role) (role_note n r.state r.state.role commits.leads))

    set_up : next.setup ≡ Some m
    set_up = ⊎_elim (λ e. e) (λ no. absurd (no note noted)) f.founded_next.setup

    accepted_next : (j : ℕ) → commits.test j ≡ true → AcceptedBy (replied next) n r.state.stored.vote commits.last.log_id.index j
    accepted_next j b =
        ⊎_elim
        (λ own. inl own)
        (λ y. inr (y.0, replied_still w next goes r.state.stored.vote j y.0 y.1, y.2, y.3))
        (commits.accepted j b)

    told_under : IsToldUnder w event next x
    told_under =
        record {
          node = n;
          at_node = act;
          here = here;
          state = r.state;
          leading = record { is_up = node_is; leads = commits.leads };
          entry = commits.entry;
          stands = commits.stands;
          settled =
              settled_up_to m next set_up note noted commits.last commits.there commits.written commits.test commits.quorum accepted_next
              x.place commits.entry commits.upto commits.stands;
        }

  pub told_here : IsToldUnder w event next x
  told_here = go (scene_of w event) refl
    where
      go : (scene : Scene) → scene_of w event ≡ scene → IsToldUnder w event next x
      go Nowhere e = absurd (skipped sent told unknown (is ∙ ap (outcome_in w false) e))
      go (At n at_node) e = told_under n at_node e (node_tells n at_node (w.nodes n) sent told unknown (is ∙ ap (outcome_in w false) e) x within)

pub told_is_settled_under : ToldIsSettledUnder
told_is_settled_under ids rs last middle end h run sent told unknown done x within =
    let is : Done sent told unknown ≡ outcome_of middle last.event false = sym done ∙ run.0 ∙ ap (λ o. outcome_of middle last.event (is_stop o)) done in
    let world : end ≡ happens middle last.event (Done sent told unknown) 0 = run.1.1 ∙ ap (λ o. happens middle last.event o run.1.0) done in
    subst (λ v. IsToldUnder middle last.event v x) (sym world)
    (told_here ids h.node_ids rs middle h.replays last.event sent told unknown is x within)

pub settled_under_stays : SettledUnderStays
settled_under_stays ids rs more middle end h run vote e s =
    settled_still middle end (goes_on more middle end run) (founded ids h.node_ids rs middle h.replays) vote e s

pub leaders_hold_told : LeadersHoldTold
leaders_hold_told ids rs more last middle next end h one run sent told unknown done x within =
    let t = told_is_settled_under ids rs last middle next h one sent told unknown done x within in
    let now : IsGroupHistory ids (rs ++ last ∷ []) next =
    record { node_ids = h.node_ids; replays = histories-join rs (last ∷ []) (new_world ids) middle next h.replays one }
    in
    let then' : IsGroupHistory ids ((rs ++ last ∷ []) ++ more) end =
    record { node_ids = h.node_ids; replays = histories-join (rs ++ last ∷ []) more (new_world ids) next end now.replays run }
    in
    let settled = settled_under_stays ids (rs ++ last ∷ []) more next end now run t.state.stored.vote t.entry t.settled in
    let f = founded ids h.node_ids (rs ++ last ∷ []) next now.replays in
    let fits = at_node f.membership (world_after f.membership f.is.matches.before) next f.is.matches.fits t.node (Up t.state) t.leading.is_up in
    let holds = node_holds f.membership (world_after f.membership f.is.matches.before) t.node (Up t.state) t.state.stored fits refl in
    let place : t.entry.log_id.index ≡ x.place = let p = holds.good.placed x.place t.entry t.stands in omega arith in (
      t,
      λ n s leading above.
          subst (Holds s.stored (group_list end)) place
          (leaders_hold ids ((rs ++ last ∷ []) ++ more) end then' t.state.stored.vote t.entry settled n s leading above),
    )
