-- What is noted of a leader's list stays through the events of other nodes.
use Rattle.std.proofs.Common.{◌≡◌, ◌⊎◌, inl, inr, ℕ, Bool, true, false, cond, List, [], ◌∷◌, ◌++◌, Option, Some, None, length, refl, sym, ap, ◌∙◌, subst, arith, ⊎_elim}
use Rattle.std.specs.Prelude.{Contains}
use Rattle.std.proofs.lemmas.Bool.{eq-eqb}
use Rattle.std.proofs.lemmas.List.{take_all}
use Rattle.std.proofs.lemmas.List.Elements.{Contains-append_cases, Contains-append_left}
use Rattle.raft_values.specs.declared.vote.Vote.{Vote}
use Rattle.raft_group_step.specs.Values.{Entry}
use Rattle.raft_group_step.specs.GroupState.{GroupState, Role, Follower, Candidate, Leader, is_leader}
use Rattle.raft_laws.specs.declared.world_event.WorldEvent.{WorldEvent}
use Rattle.raft_laws.specs.declared.world_event.WorldEvent.TheVariants as event
use Rattle.raft_laws.specs.BallotLists.{AgreeBelow, with_value}
use Rattle.raft_laws.specs.GroupRun.{At, Nowhere, Scene, after_scene, led_after, led_as, led_by, outcome_of, scene_of, stop_at}
use Rattle.raft_laws.specs.GroupWorld.{Absent, Done, Down, GroupWorld, Led, NodeState, Outcome, Recorded, Refused, Skipped, Stopped, Up, is_stop, state_or}
use Rattle.raft_laws.specs.NodeEvent.{Crashes, Halts, outcome_at, state_after}
use Rattle.raft_laws.specs.OneList.{AreNodeIds, IsGroupHistory}
use Rattle.raft_laws.proofs.BallotAgreement.{agree_none, same_some}
use Rattle.raft_laws.proofs.Committed.{same_front}
use Rattle.raft_laws.proofs.Counts.{contains_among}
use Rattle.raft_list_facts.specs.Leads.{leading_in}
use Rattle.raft_list_facts.specs.declared.leading.Leading.{Leading}
use Rattle.raft_step_laws.specs.Tokens.{seeks_or_leads}
use Rattle.raft_machines.specs.Machine.{MachineRules}
use Rattle.raft_headline.specs.ClusterEvent.{Recorded as PlainRecord}
use Rattle.raft_headline.specs.Machines.{Replicas, new_replicas}
use Rattle.raft_headline.specs.Replaying.{IsThere, StepsTo}
use Rattle.raft_headline.specs.Seen.{Crashed, Halted, Own, Passed, Seen, seen_by}
use Rattle.raft_headline.proofs.Headlines.{group_history}
use Rattle.raft_cluster_laws.specs.Acts.{EventLeads}
use Rattle.raft_cluster_laws.specs.Kept.{Candidates}
use Rattle.raft_cluster_laws.proofs.EventKept.{at_own, back, choice_before, chosen, goes, is_only, other_choice}
use Rattle.raft_cluster_laws.proofs.Joining.{joins, one_event}
use Rattle.raft_cluster_laws.proofs.StepFacts.{own_vote}
use Rattle.raft_group_lists.specs.Notes.{Notes, accounts_of}
use Rattle.raft_cluster_lists.specs.GoingOn.{LeadsIn}
use Rattle.raft_cluster_lists.specs.Keeping.{GoesOn, GroupNotes, IsKeptIn, IsNotedOf, KeepsList}

-- ---- from what leaders noted to what is noted of them

-- what is noted of leaders' lists is what they noted
record AreLast (latest : Vote ℕ → List Entry) (led : List Led) : Type 0 where
  pub noted : (vote : Vote ℕ) → (latest vote ≡ []) ⊎ ((l : Led) × Contains led l × (l.vote ≡ vote) × (l.list ≡ latest vote))
  pub each : (l : Led) → Contains led l → AgreeBelow (length l.list) l.list (latest l.vote)

abbrev HasAll : Vote ℕ → List Led → List Led → Type 0
HasAll vote led other = (l : Led) → l.vote ≡ vote → Contains led l → Contains other l

front_of_last : (a b : Vote ℕ → List Entry) (led other : List Led) (vote : Vote ℕ) → AreLast a led → AreLast b other → HasAll vote led other → AgreeBelow (length (a vote)) (a vote) (b vote)
front_of_last a b led other vote one two more = go (one.noted vote)
  where
    go : (a vote ≡ []) ⊎ ((l : Led) × Contains led l × (l.vote ≡ vote) × (l.list ≡ a vote)) → AgreeBelow (length (a vote)) (a vote) (b vote)
    go (inl none) = subst (λ xs. AgreeBelow (length xs) xs (b vote)) (sym none) (agree_none (b vote))
    go (inr (l, has, of_vote, is)) =
        subst (λ v. AgreeBelow (length (a vote)) (a vote) (b v)) of_vote
        (subst (λ xs. AgreeBelow (length xs) xs (b l.vote)) is (two.each l (more l of_vote has)))

same_lists : (xs ys : List Entry) → AgreeBelow (length xs) xs ys → AgreeBelow (length ys) ys xs → xs ≡ ys
same_lists xs ys a b =
    let there = a.right in
    let here = b.right in
    sym (take_all (length xs) xs (omega arith)) ∙ same_front (length xs) xs ys a ∙ take_all (length xs) ys (omega (arith, there, here))

same_last : (a b : Vote ℕ → List Entry) (led other : List Led) (vote : Vote ℕ) → AreLast a led → AreLast b other → HasAll vote led other → HasAll vote other led → a vote ≡ b vote
same_last a b led other vote one two more fewer = same_lists (a vote) (b vote) (front_of_last a b led other vote one two more) (front_of_last b a other led vote two one fewer)

-- what is noted of the vote's leader
abbrev pub latest_in : Option GroupNotes → Vote ℕ → List Entry
latest_in None vote = []
latest_in (Some k) vote = (accounts_of k.notes).latest vote

last_noted : (s : Notes) (asked : List _) (w : GroupWorld) → IsNotedOf s asked w → AreLast (accounts_of s).latest w.led
last_noted s asked w (inl list) = record { noted = list.truth.notes.noted; each = list.truth.notes.latest }
last_noted s asked w (inr (ahead, has)) = record { noted = ahead.list.truth.notes.noted; each = ahead.list.truth.notes.latest }

are_last : (kept : Option GroupNotes) (w : GroupWorld) → IsKeptIn kept w → AreLast (latest_in kept) w.led
are_last None w untouched = record { noted = λ vote. inl refl; each = untouched.list.truth.notes.latest }
are_last (Some k) w there = last_noted k.notes k.asked w there.list

-- ---- what an event notes

-- all new notes are of votes of the node
pub record NotesOwn (n : ℕ) (olds news : List Led) : Type 0 where
  pub more : (l : Led) → Contains olds l → Contains news l
  pub fewer : (l : Led) → Contains news l → Contains olds l ⊎ (l.vote.leader_id.node_id ≡ n)

notes_none : (n : ℕ) (olds news : List Led) → news ≡ olds → NotesOwn n olds news
notes_none n olds news same = record {
  more = λ l has. subst (λ ls. Contains ls l) (sym same) has;
  fewer = λ l has. inl (subst (λ ls. Contains ls l) same has);
}

notes_own : (n : ℕ) (olds new news : List Led) → news ≡ olds ++ new → ((l : Led) → Contains new l → l.vote.leader_id.node_id ≡ n) → NotesOwn n olds news
notes_own n olds new news same own = record {
  more = λ l has. subst (λ ls. Contains ls l) (sym same) (Contains-append_left olds new l has);
  fewer = λ l has. ⊎_elim (λ was. inl was) (λ is. inr (own l is)) (Contains-append_cases olds new l (subst (λ ls. Contains ls l) same has));
}

no_note : (n : ℕ) (l : Led) → Contains [] l → l.vote.leader_id.node_id ≡ n
no_note n l has = absurd (contains_among [] l has)

module _ (ids : List ℕ) (gs : List Recorded) (w : GroupWorld) (history : IsGroupHistory ids gs w) (n : ℕ) where
  leads_own : (s : GroupState) → w.nodes n ≡ Up s → (role : Role) → s.role ≡ role → (l : Led) → Contains (led_as n s role) l → l.vote.leader_id.node_id ≡ n
  leads_own s is Follower at l has = no_note n l has
  leads_own s is (Candidate granters) at l has = no_note n l has
  leads_own s is (Leader lead) at l has =
      let own = own_vote ids gs w history n s is in
      let vote : l.vote ≡ s.stored.vote = ap (λ (x : Led). x.vote) (is_only (record { node = n; vote = s.stored.vote; list = _ }) l has) in
      ap (λ (v : Vote ℕ). v.leader_id.node_id) vote ∙ own (ap seeks_or_leads at)

  led_own : (state : NodeState) → w.nodes n ≡ state → (l : Led) → Contains (led_by n state) l → l.vote.leader_id.node_id ≡ n
  led_own Absent is l has = no_note n l has
  led_own (Up s) is l has = leads_own s is s.role refl l has
  led_own (Down stored) is l has = no_note n l has

  after_own : (o : Outcome) (state : NodeState) → w.nodes n ≡ state → (l : Led) → Contains (led_after o n state) l → l.vote.leader_id.node_id ≡ n
  after_own (Done sent told unknown) state is l has = led_own state is l has
  after_own (Refused why) state is l has = led_own state is l has
  after_own (Stopped unknown) state is l has = no_note n l has
  after_own Skipped state is l has = no_note n l has

-- a node that halts or crashes notes nothing
halts_quietly : (n : ℕ) (stopped : Bool) (stop : Option ℕ) (state : NodeState) → led_after (outcome_at n Halts stopped state) n (state_after n Halts stop state) ≡ []
halts_quietly n stopped stop Absent = refl
halts_quietly n stopped stop (Up s) = refl
halts_quietly n stopped stop (Down stored) = refl

crashes_quietly : (n : ℕ) (stopped : Bool) (stop : Option ℕ) (state : NodeState) → led_after (outcome_at n Crashes stopped state) n (state_after n Crashes stop state) ≡ []
crashes_quietly n stopped stop Absent = refl
crashes_quietly n stopped stop (Up s) = refl
crashes_quietly n stopped stop (Down stored) = refl

scene_own : (ids : List ℕ) (gs : List Recorded) (old new : GroupWorld) (e : WorldEvent) (o : Outcome) (stop : Option ℕ) (scene : Scene) (n : ℕ) → IsThere scene n → new ≡ after_scene old e o stop scene
    → IsGroupHistory ids gs new → NotesOwn n old.led new.led
scene_own ids gs old new e o stop Nowhere n there is history = notes_none n old.led new.led (ap (λ (w : GroupWorld). w.led) is)
scene_own ids gs old new e o stop (At m at) n there is history =
    let state = state_after m at stop (old.nodes m) in
    let here : new.nodes m ≡ state = ap (λ (w : GroupWorld). w.nodes m) is ∙ ap (λ b. state_or b state (old.nodes m)) (eq-eqb m m refl) in
    notes_own n old.led (led_after o m state) new.led (ap (λ (w : GroupWorld). w.led) is) (λ l has. after_own ids gs new history m o state here l has ∙ there)

quiet : (n : ℕ) (olds news new : List Led) → news ≡ olds ++ new → new ≡ [] → NotesOwn n olds news
quiet n olds news new is none = notes_own n olds new news is (λ l has. no_note n l (subst (λ ls. Contains ls l) none has))

module _ (rules : MachineRules) (h : ℕ) (ids : List ℕ) (gs : List Recorded) (r : PlainRecord) (k : ℕ) (old new : Replicas) (history : IsGroupHistory ids gs new.world) where
  step_own : (seen : Seen) → StepsTo rules h seen r k old new → NotesOwn r.node old.world.led new.world.led
  step_own Passed same = notes_none r.node old.world.led new.world.led (ap (λ (x : Replicas). x.world.led) same)
  step_own (Own e) step =
      let o = outcome_of old.world e _ in
      scene_own ids gs old.world new.world e o (stop_at (is_stop o) k) (scene_of old.world e) r.node step.there step.world history
  step_own (Halted n) step =
      quiet r.node old.world.led new.world.led _ (ap (λ (w : GroupWorld). w.led) step.world) (halts_quietly n true (stop_at (is_stop (outcome_of old.world (event.Halt n) true)) 0) (old.world.nodes n))
  step_own (Crashed n) step =
      quiet r.node old.world.led new.world.led _ (ap (λ (w : GroupWorld). w.led) step.world) (crashes_quietly n false (stop_at (is_stop (outcome_of old.world (event.Crash n) false)) 0) (old.world.nodes n))

-- ---- an event of another node

module _ (rules : MachineRules) (ids : List ℕ) (fit : AreNodeIds ids) (h : ℕ) where
  -- what a node leads the group with is its own
  pub lead_own : (candidates : Candidates) (history : List PlainRecord) (kept : Option GroupNotes) → KeepsList rules ids h candidates history kept
      → (n : ℕ) (leading : Leading) → LeadsIn (candidates n) (Some leading) → leading.vote.leader_id.node_id ≡ n
  lead_own candidates history kept keeps n leading leads =
      let there = (keeps.leads keeps.one keeps.among).leads in
      in_state there.end.world _ (group_history rules ids fit h history there.end there.replays) (keeps.one n) (there.nodes n) (leads (keeps.one n) (keeps.among n))
    where
      in_role : (w : GroupWorld) (gs : List Recorded) → IsGroupHistory ids gs w → (s : GroupState) → w.nodes n ≡ Up s → (x : Leading) → x.vote ≡ s.stored.vote → (role : Role) → s.role ≡ role
          → Some leading ≡ cond (is_leader role) (Some x) None → leading.vote.leader_id.node_id ≡ n
      in_role w gs history s is x vote Follower at e = absurd (cc)
      in_role w gs history s is x vote (Candidate granters) at e = absurd (cc)
      in_role w gs history s is x vote (Leader lead) at e =
          ap (λ (y : Leading). y.vote.leader_id.node_id) (same_some e) ∙ ap (λ (v : Vote ℕ). v.leader_id.node_id) vote
          ∙ own_vote ids gs w history n s is (ap seeks_or_leads at)

      in_state : (w : GroupWorld) (gs : List Recorded) → IsGroupHistory ids gs w → (state : NodeState) → w.nodes n ≡ state → Some leading ≡ leading_in state → leading.vote.leader_id.node_id ≡ n
      in_state w gs history Absent is e = absurd (cc)
      in_state w gs history (Down stored) is e = absurd (cc)
      in_state w gs history (Up s) is e = in_role w gs history s is _ refl s.role refl e

  pub latest_stays : (candidates : Candidates) (history : List PlainRecord) (kept next : Option GroupNotes) → KeepsList rules ids h candidates history kept
      → (r : PlainRecord) (n : ℕ) (news : List NodeState) → EventLeads rules h n r history (candidates n) news → GoesOn rules ids h history r n (candidates n) news kept next
      → (vote : Vote ℕ) → (vote.leader_id.node_id ≡ r.node → ⊥) → latest_in next vote ≡ latest_in kept vote
  latest_stays candidates history was_kept next kept r n news leads on vote other =
      let states = with_value kept.one n leads.one in
      let among = other_choice candidates kept.one n news leads.one kept.among leads.some in
      let in_news = chosen candidates states n news among in
      let came = leads.came (states n) in_news in
      let x = came.0 in
      let before = kept.leads (with_value states n x) (choice_before candidates states n news x among came.1) in
      let l = before.leads in
      let was = l.nodes n ∙ at_own states n x in
      let g = goes rules ids fit h history l.end l.replays r n x (states n) was (seen_by h r) came.2 in
      let nodes = λ (m : ℕ). g.nodes m ∙ back states l.end.world.nodes n x l.nodes m in
      let event = one_event rules h r g.number l.end g.new g.step in
      let behind = on l.end g.new (record {
        run = l.replays;
        number = g.number;
        step = g.step;
        before = subst (Contains (candidates n)) (sym was) came.1;
        behind = subst (Contains news) (sym (nodes n)) in_news;
      }) before.kept_there in
      let there = group_history rules ids fit h (history ++ r ∷ []) g.new (joins rules h history (r ∷ []) (new_replicas rules ids) l.end g.new l.replays event) in
      let own = step_own rules h ids _ r g.number l.end g.new there (seen_by h r) g.step in
      same_last (latest_in next) (latest_in was_kept) g.new.world.led l.end.world.led vote
      (are_last next g.new.world behind) (are_last was_kept l.end.world before.kept_there)
      (λ note of_vote has. ⊎_elim (λ old. old) (λ is. absurd (other (sym (ap (λ (v : Vote ℕ). v.leader_id.node_id) of_vote) ∙ is))) (own.fewer note has))
      (λ note of_vote has. own.more note has)
