-- What the type keeps from step to step, and what that gives.
use Rattle.std.proofs.Common.{◌≡◌, ◌⊎◌, inl, inr, ℕ, List, [], ◌∷◌, ◌++◌, Option, Some, None, drop, length, sym, ap, ◌∙◌, subst}
use Rattle.raft_values.specs.declared.vote.Vote.{Vote}
use Rattle.raft_group_step.specs.Values.{Entry}
use Rattle.raft_laws.specs.BallotLists.{AgreeBelow}
use Rattle.raft_machines.specs.Machine.{MachineRules}
use Rattle.raft_sent_frames.specs.Frames.{first_accepted, frames_of}
use Rattle.raft_list_facts.specs.declared.leading.Leading.{Leading}
use Rattle.raft_cluster_events.specs.declared.event.ClusterEvent.{ClusterEvent}
use Rattle.raft_cluster_events.specs.declared.outcome.EventOutcome.{EventOutcome}
use Rattle.raft_cluster_events.specs.declared.outcome.Recorded.{Recorded}
use Rattle.raft_cluster_events.specs.Node.{NodeActs}
use Rattle.raft_cluster_events.specs.States.{NodeStates}
use Rattle.raft_node_laws.specs.Law.{KeepsLaw}
use Rattle.raft_cluster_lists.specs.declared.brought.Brought.{Brought}
use Rattle.raft_cluster_lists.specs.declared.kept.KeptGroup.{KeptGroup}
use Rattle.raft_cluster_lists.specs.Groups.{BringsTo, IsHeard, IsPreparedFor, IsReadyFor, IsSameGroup, KeepsOn, kept_in}
use Rattle.raft_cluster_lists.specs.Hearing.{group_of}
use Rattle.raft_cluster_lists.specs.Keeping.{list_in}
use Rattle.raft_cluster_lists.proofs.ListsKept.{kept_lists_are_the_groups}
use Rattle.raft_cluster.specs.Cluster.{ClusterValue, Happens, Reaches, Steps, nothing_sent}
use Rattle.raft_cluster.specs.Facts.{Sent, node_at, node_of}
use Rattle.raft_cluster.specs.Joined.{downs_of, ids_of}
use Rattle.raft_cluster.proofs.ClusterLemmas.{runs_on}
use Rattle.raft_cluster.proofs.EventLemmas.{one_more}
use Rattle.raft_cluster.proofs.JoinLemmas.{IsOneMore}
use Rattle.raft_cluster.proofs.ListLemmas.{its_id}
use Rattle.raft_cluster.proofs.PlainLemmas.{first_set_up}
use Rattle.raft_listed_cluster.specs.Hearing.{HasSent, IsHeardBy, IsHeardOf, Tells}
use Rattle.raft_listed_cluster.specs.Keeping.{KeepsLists, notes_of}
use Rattle.raft_listed_cluster.specs.Listed.{HasLists, ListedValue, OnlyGrow, lists_of}
use Rattle.raft_listed_cluster.proofs.GroupFacts.{prepared_lists, prepared_on, same_list}
use Rattle.raft_listed_cluster.proofs.HappeningFacts.{IsAway, IsNodeOf, away_or_reaches, its_node, nodes_of, opening_taken}
use Rattle.raft_listed_cluster.proofs.LatestFacts.{latest_in}
use Rattle.raft_listed_cluster.proofs.ListFacts.{grow_on, same_grow}
use Rattle.raft_listed_cluster.proofs.StepFacts.{IsOn, away_each, heard_away, heard_each, unheard}

module _ {N : Type 0} (rules : MachineRules) (acts : NodeActs N) (states : NodeStates N) (law : KeepsLaw rules acts states) where
  -- what is kept has the lists of which the headline speaks
  pub has_lists : (now : ListedValue N) → KeepsLists rules acts states now.cluster.nodes (frames_of now.cluster.sent) now.cluster.history now.groups → HasLists rules acts states now
  has_lists now keeps =
      let ids = ids_of acts keeps.first in
      let told = keeps.so_far.told in
      record {
        first = keeps.first;
        new = keeps.new;
        runs = keeps.runs;
        told = told;
        lists = λ h choice among.
            let asked = first_set_up h now.cluster.history in
            let kept = kept_in now.groups h in
            let (leads, headline, list) = kept_lists_are_the_groups rules ids told.stand.kept.node_ids h (told.stand.candidates h) told.plain (notes_of kept asked) (keeps.each h) choice among in
            (leads, headline, sym (same_list kept asked) ∙ list);
        lends = λ n node there h s has. law.lends node h (told.stand.candidates h n) s (told.stand.may_be n node there h) has;
      }

  -- ---- before an event

  pub prepared_keeps : (nodes : List N) (sent : Sent) (history : List Recorded) (event : ClusterEvent) (olds news : List KeptGroup) → IsPreparedFor event olds news
      → KeepsLists rules acts states nodes sent history olds → KeepsLists rules acts states nodes sent history news
  prepared_keeps nodes sent history event olds news prepared keeps =
      let told = keeps.so_far.told in
      record {
        first = keeps.first;
        new = keeps.new;
        runs = keeps.runs;
        so_far = keeps.so_far;
        each = λ h. prepared_on rules (ids_of acts keeps.first) told.stand.kept.node_ids h (told.stand.candidates h) told.plain (first_set_up h history) event (kept_in olds h) (kept_in news h) (prepared h) (keeps.each h);
      }

  -- ---- an event

  module _ (nodes : List N) (sent : Sent) (history : List Recorded) (e : ClusterEvent) (o : EventOutcome) (nodes' : List N) (later : Sent)
      (happens : Happens acts nodes sent history e o nodes' later) where
    abbrev real : Recorded
    real = record { event = e; outcome = o }

    module _ (olds news : List KeptGroup) (id : Option ℕ) (named : id ≡ node_of sent e)
        (leading : Option Leading) (tells : Tells acts (node_at acts nodes id) (group_of e) leading)
        (brought : Brought) (ready : IsReadyFor e 1 olds) (brings : BringsTo olds leading e brought)
        (count : ℕ) (so_many : HasSent sent (group_of e) count) (hears : IsHeardOf acts nodes' later id (group_of e) count e o brought olds news)
        (keeps : KeepsLists rules acts states nodes sent history olds) where
      abbrev ids : List ℕ
      ids = ids_of acts keeps.first

      abbrev downs : List ℕ
      downs = downs_of acts keeps.first

      more : IsOneMore rules acts states ids downs nodes sent history keeps.so_far real nodes' later
      more = one_more rules acts states law ids downs nodes sent history keeps.so_far o nodes' later e happens

      -- what was turned away
      away_stays : IsAway acts nodes sent e o nodes' later → (h : ℕ) → KeepsOn IsSameGroup (kept_in olds h) (kept_in news h)
      away_stays away h = go (node_at acts nodes' id) hears.heard
        where
          go : (w : Option N) → IsHeardBy acts w e o hears.accepted brought olds news → KeepsOn IsSameGroup (kept_in olds h) (kept_in news h)
          go None same = unheard olds news same h
          go (Some node) heard = heard_away (acts.id node) (acts.leads node) e o away.0 away.1 hears.accepted brought olds news heard h

      -- what came to its node
      reached_on : (r : Reaches acts nodes sent e o nodes' later) → (h : ℕ) → IsOn rules acts states law ids downs nodes sent history keeps.so_far e o nodes' later more h (kept_in olds h) (kept_in news h)
      reached_on r h =
          let (n, is, there) = nodes_of acts nodes sent e o nodes' later id (sym named) r in
          let same : more.one.node ≡ n = its_node states.spells sent keeps.so_far.told.plain keeps.so_far.told.stand.frames more.one.node n e (sym named ∙ is) more.recorded.node in
          let P : ℕ → Type 0 = λ m. IsNodeOf acts nodes sent e o nodes' later m in
          let T : Option N → Type 0 = λ w. Tells acts w (group_of e) leading in
          let here : IsNodeOf acts nodes sent e o nodes' later more.one.node = subst P (sym same) there in
          let at : id ≡ Some more.one.node = is ∙ ap Some (sym same) in
          let told : (g : ℕ) → group_of e ≡ Some g → acts.leads here.before g leading = subst T (ap (node_at acts nodes) at ∙ here.there) tells in
          let H : Option N → Type 0 = λ w. IsHeardBy acts w e o hears.accepted brought olds news in
          let heard : IsHeardBy acts (Some here.behind) e o hears.accepted brought olds news = subst H (ap (node_at acts nodes') at ∙ here.there_then) hears.heard in
          let own : acts.id here.behind ≡ more.one.node = its_id acts nodes' more.one.node here.behind here.there_then in
          heard_each rules acts states law ids downs nodes sent history keeps.so_far e o nodes' later more here
          (opening_taken acts sent e r.before o later r.behind r.comes)
          olds news leading told brought ready brings hears.accepted
          (λ g of_group. hears.accepts g of_group ∙ ap (λ k. first_accepted (drop k (later g))) (so_many g of_group))
          (subst (λ m. IsHeard m (acts.leads here.behind) e o hears.accepted brought olds news) own heard)
          h (keeps.each h)

      each_on : (h : ℕ) → IsOn rules acts states law ids downs nodes sent history keeps.so_far e o nodes' later more h (kept_in olds h) (kept_in news h)
      each_on h = go (away_or_reaches acts nodes sent e o nodes' later history happens)
        where
          go : IsAway acts nodes sent e o nodes' later ⊎ Reaches acts nodes sent e o nodes' later → IsOn rules acts states law ids downs nodes sent history keeps.so_far e o nodes' later more h (kept_in olds h) (kept_in news h)
          go (inl away) = away_each rules acts states law ids downs nodes sent history keeps.so_far e o nodes' later more away h (kept_in olds h) (kept_in news h) (away_stays away h) (keeps.each h)
          go (inr r) = reached_on r h

      pub step_keeps : KeepsLists rules acts states nodes' later (history ++ real ∷ []) news
      step_keeps = record {
        first = keeps.first;
        new = keeps.new;
        runs = runs_on acts keeps.first nothing_sent [] history nodes sent real nodes' later keeps.runs happens;
        so_far = more.next;
        each = λ h. (each_on h).keeps;
      }

      pub step_grows : OnlyGrow (lists_of olds) (lists_of news)
      step_grows h =
          let before = same_list (kept_in olds h) (first_set_up h history) in
          let behind = same_list (kept_in news h) (first_set_up h (history ++ real ∷ [])) in
          let P : List Entry → Type 0 = λ l. AgreeBelow (length l) l (lists_of news h) in
          let Q : List Entry → Type 0 = λ l. AgreeBelow (length (list_in (notes_of (kept_in olds h) (first_set_up h history)))) (list_in (notes_of (kept_in olds h) (first_set_up h history))) l in
          subst P before (subst Q behind (each_on h).grows)

      -- what is noted of the leaders at other nodes stays
      pub step_latest : (n : ℕ) → node_of sent e ≡ Some n → (h : ℕ) (vote : Vote ℕ) → (vote.leader_id.node_id ≡ n → ⊥)
          → latest_in (notes_of (kept_in news h) (first_set_up h (history ++ real ∷ []))) vote ≡ latest_in (notes_of (kept_in olds h) (first_set_up h history)) vote
      step_latest n at h vote other =
          let same = its_node states.spells sent keeps.so_far.told.plain keeps.so_far.told.stand.frames more.one.node n e at more.recorded.node in
          (each_on h).latest vote (λ is. other (is ∙ same))

  -- ---- a step

  -- what is known of a step, and was heard of it
  pub record IsSteppedSo (old : ClusterValue N) (e : ClusterEvent) (new : ClusterValue N) (groups : List KeptGroup) (recorded : Recorded) (news : List KeptGroup) : Type 0 where
    pub step : Steps acts old e new
    pub last : recorded ≡ record { event = e; outcome = step.outcome }
    pub id : Option ℕ
    pub named : id ≡ node_of (frames_of old.sent) e
    pub leading : Option Leading
    pub tells : Tells acts (node_at acts old.nodes id) (group_of e) leading
    pub olds : List KeptGroup
    pub prepared : IsPreparedFor e groups olds
    pub brought : Brought
    pub ready : IsReadyFor e 1 olds
    pub brings : BringsTo olds leading e brought
    pub count : ℕ
    pub so_many : HasSent (frames_of old.sent) (group_of e) count
    pub hears : IsHeardOf acts new.nodes (frames_of new.sent) id (group_of recorded.event) count recorded.event recorded.outcome brought olds news

  -- the lists are kept, and each grew
  pub record IsKept (new : ClusterValue N) (groups news : List KeptGroup) : Type 0 where
    pub keeps : KeepsLists rules acts states new.nodes (frames_of new.sent) new.history news
    pub grows : OnlyGrow (lists_of groups) (lists_of news)

  pub stepped : (old : ClusterValue N) (e : ClusterEvent) (new : ClusterValue N) (groups : List KeptGroup) (recorded : Recorded) (news : List KeptGroup) → IsSteppedSo old e new groups recorded news
      → KeepsLists rules acts states old.nodes (frames_of old.sent) old.history groups → IsKept new groups news
  stepped old e new groups recorded news so keeps =
      let o = so.step.outcome in
      let before = prepared_keeps old.nodes (frames_of old.sent) old.history e groups so.olds so.prepared keeps in
      let H : Recorded → Type 0 = λ r. IsHeardOf acts new.nodes (frames_of new.sent) so.id (group_of r.event) so.count r.event r.outcome so.brought so.olds news in
      let hears : IsHeardOf acts new.nodes (frames_of new.sent) so.id (group_of e) so.count e o so.brought so.olds news = subst H so.last so.hears in
      let K : List Recorded → Type 0 = λ h. KeepsLists rules acts states new.nodes (frames_of new.sent) h news in
      record {
        keeps = subst K (sym so.step.history) (step_keeps old.nodes (frames_of old.sent) old.history e o new.nodes (frames_of new.sent) so.step.happens so.olds news so.id so.named so.leading so.tells so.brought so.ready so.brings so.count so.so_many hears before);
        grows = grow_on (lists_of groups) (lists_of so.olds) (lists_of news) (same_grow (lists_of groups) (lists_of so.olds) (prepared_lists e groups so.olds so.prepared))
            (step_grows old.nodes (frames_of old.sent) old.history e o new.nodes (frames_of new.sent) so.step.happens so.olds news so.id so.named so.leading so.tells so.brought so.ready so.brings so.count so.so_many hears before);
      }
