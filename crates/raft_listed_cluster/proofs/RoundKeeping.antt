-- Behind a round the lists hear its events in order: each is heard as behind its own step.
use Rattle.std.proofs.Common.{◌≡◌, ℕ, suc, eqb, true, false, List, [], ◌∷◌, ◌++◌, Option, Some, None, drop, length, refl, sym, ap, ◌∙◌, subst, arith}
use Rattle.std.proofs.lemmas.Bool.{eq-eqb}
use Rattle.raft_values.specs.declared.vote.Vote.{Vote}
use Rattle.raft_laws.proofs.BallotAgreement.{same_some}
use Rattle.raft_machines.specs.Machine.{MachineRules}
use Rattle.raft_sent_frames.specs.Frames.{first_accepted}
use Rattle.raft_list_facts.specs.declared.leading.Leading.{Leading}
use Rattle.raft_group_lists.specs.Notes.{accounts_of}
use Rattle.raft_cluster_events.specs.declared.event.ClusterEvent.{ClusterEvent}
use Rattle.raft_cluster_events.specs.declared.outcome.EventOutcome.{EventOutcome}
use Rattle.raft_cluster_events.specs.declared.outcome.Recorded.{Recorded}
use Rattle.raft_cluster_events.specs.Node.{NodeActs}
use Rattle.raft_cluster_events.specs.States.{NodeStates}
use Rattle.raft_node_laws.specs.Law.{KeepsLaw}
use Rattle.raft_cluster_lists.specs.declared.brought.Brought.{Brought}
use Rattle.raft_cluster_lists.specs.declared.kept.KeptGroup.{KeptGroup}
use Rattle.raft_cluster_lists.specs.Groups.{BringsTo, IsReadyFor, kept_in}
use Rattle.raft_cluster_lists.specs.Hearing.{group_of}
use Rattle.raft_cluster_lists.proofs.ReadyLemmas.{fewer_ready}
use Rattle.raft_cluster.specs.Cluster.{Happens}
use Rattle.raft_cluster.specs.Facts.{Sent, node_at, node_in, node_of}
use Rattle.raft_cluster.specs.Joined.{ids_of}
use Rattle.raft_cluster.proofs.PlainLemmas.{first_set_up}
use Rattle.raft_cluster.proofs.TurnLemmas.{Grows}
use Rattle.raft_listed_cluster.specs.Hearing.{HasSent, IsHeardBy, IsHeardOf, IsHeardThen, Tells}
use Rattle.raft_listed_cluster.specs.Keeping.{KeepsLists, notes_of}
use Rattle.raft_listed_cluster.specs.Listed.{OnlyGrow, lists_of}
use Rattle.raft_listed_cluster.proofs.KeepingFacts.{step_grows, step_keeps, step_latest}
use Rattle.raft_listed_cluster.proofs.LatestFacts.{latest_in, lead_own}
use Rattle.raft_listed_cluster.proofs.NumberFacts.{accepts_still}
use Rattle.raft_listed_cluster.proofs.PreparedFacts.{brings_still}
use Rattle.raft_listed_cluster.proofs.RoundFacts.{IsElsewhere, leaves}

abbrev count_in : Sent → Option ℕ → ℕ
count_in sent None = 0
count_in sent (Some h) = length (sent h)

so_many : (sent : Sent) (group : Option ℕ) → HasSent sent group (count_in sent group)
so_many sent None h is = absurd (cc)
so_many sent (Some g) h is = ap (λ k. length (sent k)) (same_some is)

module _ {N : Type 0} (rules : MachineRules) (acts : NodeActs N) (states : NodeStates N) (law : KeepsLaw rules acts states) where
  -- what a node tells that it leads a group with is its own
  pub tells_own : (nodes : List N) (sent : Sent) (history : List Recorded) (groups : List KeptGroup) → KeepsLists rules acts states nodes sent history groups
      → (id group : Option ℕ) (lead : Leading) (h : ℕ) → group ≡ Some h → Tells acts (node_at acts nodes id) group (Some lead) → id ≡ Some lead.vote.leader_id.node_id
  tells_own nodes sent history groups keeps None group lead h of_group tells = absurd (cc)
  tells_own nodes sent history groups keeps (Some m) group lead h of_group tells = go (node_in acts nodes m) refl tells
    where
      go : (w : Option N) → node_in acts nodes m ≡ w → Tells acts w group (Some lead) → Some m ≡ Some lead.vote.leader_id.node_id
      go None there says = absurd (cc)
      go (Some node) there says =
          let stand = keeps.so_far.told.stand in
          ap Some (sym (lead_own rules (ids_of acts keeps.first) stand.kept.node_ids h (stand.candidates h) keeps.so_far.told.plain (notes_of (kept_in groups h) (first_set_up h history)) (keeps.each h) m lead
          (λ s has. law.leads node h (Some lead) (stand.candidates h m) s (stand.may_be m node there h) has (says h of_group))))

  -- an event of a round that isn't heard yet: its node leads as before the round, and what was prepared is still so
  pub record IsPending (nodes : List N) (groups : List KeptGroup) (id : ℕ) (e : ClusterEvent) (brought : Brought) (n : ℕ) : Type 0 where
    pub leading : Option Leading
    pub tells : Tells acts (node_in acts nodes id) (group_of e) leading
    pub own : (h : ℕ) → group_of e ≡ Some h → (lead : Leading) → leading ≡ Some lead → id ≡ lead.vote.leader_id.node_id
    pub ready : IsReadyFor e n groups
    pub brings : BringsTo groups leading e brought

  -- an event happened, and is heard once the round is over, behind which its node is as it was behind its event
  module _ (nodes : List N) (sent : Sent) (history : List Recorded) (e : ClusterEvent) (o : EventOutcome) (mid : List N) (gone : Sent) (happens : Happens acts nodes sent history e o mid gone)
      (m : ℕ) (named : node_of sent e ≡ Some m) (end : List N) (last : Sent) (same : node_in acts end m ≡ node_in acts mid m) (more : Grows gone last)
      (olds news : List KeptGroup) (brought : Brought) (n : ℕ) (pending : IsPending nodes olds m e brought (suc n)) (hears : IsHeardThen acts end last (Some m) e o brought olds news)
      (keeps : KeepsLists rules acts states nodes sent history olds) where
    abbrev real : Recorded
    real = record { event = e; outcome = o }

    count : ℕ
    count = count_in sent (group_of e)

    heard_now : IsHeardOf acts mid gone (Some m) (group_of e) (count_in sent (group_of e)) e o brought olds news
    heard_now =
        let H : Option N → Type 0 = λ w. IsHeardBy acts w e o hears.accepted brought olds news in
        record {
          accepted = hears.accepted;
          accepts = λ h is.
              hears.accepts h is ∙ accepts_still acts h (last h) nodes mid sent gone history e o (λ k x there. more h k x there) happens
              ∙ ap (λ k. first_accepted (drop k (gone h))) (sym (so_many sent (group_of e) h is));
          heard = subst H same hears.heard;
        }

    pub then_keeps : KeepsLists rules acts states mid gone (history ++ real ∷ []) news
    then_keeps =
        step_keeps rules acts states law nodes sent history e o mid gone happens olds news (Some m) (sym named) pending.leading pending.tells brought
        (fewer_ready e 1 (suc n) olds (omega arith) pending.ready) pending.brings (count_in sent (group_of e)) (so_many sent (group_of e)) heard_now keeps

    pub then_grow : OnlyGrow (lists_of olds) (lists_of news)
    then_grow =
        step_grows rules acts states law nodes sent history e o mid gone happens olds news (Some m) (sym named) pending.leading pending.tells brought
        (fewer_ready e 1 (suc n) olds (omega arith) pending.ready) pending.brings (count_in sent (group_of e)) (so_many sent (group_of e)) heard_now keeps

    -- what is still to be heard stays so
    module _ (other : ClusterEvent) (id : ℕ) (its : Brought) (apart : IsElsewhere sent id e) (left : IsPending nodes olds id other its (suc n)) where
      elsewhere : (lead : Leading) → id ≡ lead.vote.leader_id.node_id → lead.vote.leader_id.node_id ≡ m → ⊥
      elsewhere lead own is =
          let here : apart.node ≡ m = same_some (sym apart.named ∙ named) in
          let no : eqb apart.node id ≡ true = eq-eqb apart.node id (here ∙ sym is ∙ sym own) in
          let other : eqb apart.node id ≡ false = apart.other in absurd (cc)

      latest_then : (h : ℕ) (k kept : KeptGroup) → kept_in olds h ≡ Some k → kept_in news h ≡ Some kept → (vote : Vote ℕ) → (vote.leader_id.node_id ≡ m → ⊥)
          → (accounts_of kept.list.notes).latest vote ≡ (accounts_of k.list.notes).latest vote
      latest_then h k kept was is vote not_here =
          let asked = first_set_up h (history ++ real ∷ []) in
          let before = first_set_up h history in
          ap (λ w. latest_in (notes_of w asked) vote) (sym is)
          ∙ step_latest rules acts states law nodes sent history e o mid gone happens olds news (Some m) (sym named) pending.leading pending.tells brought
          (fewer_ready e 1 (suc n) olds (omega arith) pending.ready) pending.brings (count_in sent (group_of e)) (so_many sent (group_of e)) heard_now keeps m named h vote not_here
          ∙ ap (λ w. latest_in (notes_of w before) vote) was

      pub still_pending : IsPending mid news id other its n
      still_pending = record {
        leading = left.leading;
        tells =
            let T : Option N → Type 0 = λ w. Tells acts w (group_of other) left.leading in
            subst T (sym (leaves acts id nodes mid sent gone history e o apart happens)) left.tells;
        own = left.own;
        ready = hears.room n other left.ready;
        brings = λ h kept of_group is.
            let k = left.ready.own h of_group in
            brings_still k.0.list.notes kept.list.notes left.leading other its
            (λ lead at. latest_then h k.0 kept k.1 is lead.vote (elsewhere lead (left.own h of_group lead at)))
            (left.brings h k.0 of_group k.1);
      }
