-- What the type of a cluster keeps of a group is kept from event to event, and gives the headline.
use Rattle.std.specs.Prelude.{◌≡◌, ℕ, ◌==◌, if◌then◌else◌, Bool, true, false, List, [], ◌∷◌, ◌++◌, Contains, refl}
use Rattle.std.proofs.Common.{sym, ap, ◌∙◌, subst, ⊎_elim, eqb-true}
use Rattle.std.proofs.lemmas.Bool.{eq-eqb}
use Rattle.raft_laws.specs.declared.world_event.WorldEvent.{WorldEvent}
use Rattle.raft_laws.specs.BallotLists.{with_value}
use Rattle.raft_laws.specs.GroupWorld.{NodeState, new_world, state_or, with_node_state}
use Rattle.raft_laws.specs.GroupRun.{Scene, Nowhere, At, scene_of}
use Rattle.raft_laws.specs.OneList.{AreNodeIds}
use Rattle.raft_laws.proofs.Counts.{contains_among}
use Rattle.raft_machines.specs.Machine.{MachineRules}
use Rattle.raft_headline.specs.ClusterEvent.{Recorded}
use Rattle.raft_headline.specs.Machines.{Replicas, new_replicas}
use Rattle.raft_headline.specs.Replaying.{ReplaysFor}
use Rattle.raft_headline.specs.Seen.{Seen, Passed, Own, Halted, Crashed, seen_by}
use Rattle.raft_headline.proofs.AsGroup.{Led}
use Rattle.raft_headline.proofs.Headlines.{leads_there}
use Rattle.raft_headline.proofs.TheHeadline.{headline_of_histories}
use Rattle.raft_cluster_laws.specs.Acts.{ActsIn, EventLeads, MayBecome}
use Rattle.raft_cluster_laws.specs.Along.{scene_behind, sent_by, world_seen}
use Rattle.raft_cluster_laws.specs.Keeping.{CandidatesHaveApplied, CandidatesStand, EventsAreKept, EventsAreKeptByAll, FewerAreKept, KeptIsHeadline, NewIsKept, StandsInWorld}
use Rattle.raft_cluster_laws.specs.Kept.{AreAmong, Candidates, IsKeptFor, new_candidates}
use Rattle.raft_cluster_laws.proofs.Joining.{joins, one_event}
use Rattle.raft_cluster_laws.proofs.NodesActing.{has_first}
use Rattle.raft_cluster_laws.proofs.Saying.{said_along, same_scene}
use Rattle.raft_cluster_laws.proofs.SentBytes.{BytesSent, sent_along}
use Rattle.raft_cluster_laws.proofs.Stepping.{Goes, acts_lead, crashes_lead, halts_lead, own_state, passed_lead}

-- ---- choices

pub is_only : {A : Type 0} (x y : A) → Contains (x ∷ []) y → y ≡ x
is_only x y has = ⊎_elim (λ same. same) (λ none. absurd none) (contains_among (x ∷ []) y has)

-- a choice with another state at one node
pub other_choice : (candidates : Candidates) (states : ℕ → NodeState) (n : ℕ) (news : List NodeState) (t : NodeState) → AreAmong candidates states → Contains news t → AreAmong (with_value candidates n news) (with_value states n t)
other_choice candidates states n news t among has m = go (m == n)
  where
    go : (b : Bool) → Contains (if b then news else candidates m) (if b then t else states m)
    go true = has
    go false = among m

-- the same with another of its own candidates
same_choice : (candidates : Candidates) (states : ℕ → NodeState) (n : ℕ) (s : NodeState) → AreAmong candidates states → Contains (candidates n) s → AreAmong candidates (with_value states n s)
same_choice candidates states n s among has m = go (m == n) refl
  where
    go : (b : Bool) → (m == n) ≡ b → Contains (candidates m) (if b then s else states m)
    go true e = subst (λ i. Contains (candidates i) s) (sym (eqb-true m n e)) has
    go false e = among m

-- the choice before an event
pub choice_before : (candidates : Candidates) (states : ℕ → NodeState) (n : ℕ) (news : List NodeState) (s : NodeState) → AreAmong (with_value candidates n news) states → Contains (candidates n) s → AreAmong candidates (with_value states n s)
choice_before candidates states n news s among has m = go (m == n) refl (among m)
  where
    go : (b : Bool) → (m == n) ≡ b → Contains (if b then news else candidates m) (states m) → Contains (candidates m) (if b then s else states m)
    go true e there = subst (λ i. Contains (candidates i) s) (sym (eqb-true m n e)) has
    go false e there = there

pub chosen : (candidates : Candidates) (states : ℕ → NodeState) (n : ℕ) (news : List NodeState) → AreAmong (with_value candidates n news) states → Contains news (states n)
chosen candidates states n news among =
    subst (λ b. Contains (if b then news else candidates n) (states n)) (eq-eqb n n refl) (among n)

pub back : (states nodes : ℕ → NodeState) (n : ℕ) (s : NodeState) → ((m : ℕ) → nodes m ≡ with_value states n s m) → (m : ℕ) → with_node_state n (states n) nodes m ≡ states m
back states nodes n s same m = go (m == n) refl (same m)
  where
    go : (b : Bool) → (m == n) ≡ b → nodes m ≡ (if b then s else states m) → state_or b (states n) (nodes m) ≡ states m
    go true e is = ap states (sym (eqb-true m n e))
    go false e is = is

pub at_own : (states : ℕ → NodeState) (n : ℕ) (s : NodeState) → with_value states n s n ≡ s
at_own states n s = ap (λ b. if b then s else states n) (eq-eqb n n refl)

-- ---- where a history leads

module _ (rules : MachineRules) (ids : List ℕ) (fit : AreNodeIds ids) (h : ℕ) where
  module _ (history : List Recorded) (end : Replicas) (run : ReplaysFor rules h (new_replicas rules ids) history end) where
    there : Led rules ids [] (new_replicas rules ids) end
    there = leads_there rules ids fit h history end run

    bytes_sent : BytesSent end
    bytes_sent =
        let first = leads_there rules ids fit h [] (new_replicas rules ids) ([], (refl, refl)) in
        sent_along rules ids h first.more history run.0 (new_replicas rules ids) end first.kept (λ m a v id x is. absurd a) run.1

    scenes : (e : WorldEvent) → scene_of end.world e ≡ scene_behind h history e
    scenes e =
        let said = said_along h rules history run.0 (new_replicas rules ids) end run.1 in
        same_scene end.world e
        ∙ ap (λ ms. scene_of (world_seen end.world.setup ms) e) said.0
        ∙ ap (λ o. scene_of (world_seen o (sent_by h history)) e) said.1

    module _ (r : Recorded) (n : ℕ) (s t : NodeState) (is : end.world.nodes n ≡ s) where
      acts_in : (e : WorldEvent) (scene : Scene) → scene_of end.world e ≡ scene → ActsIn rules h n r e scene s t → Goes rules h (Own e) r end n t
      acts_in e Nowhere here acts = passed_lead rules ids h there.more end there.kept bytes_sent r n s t is e here acts.0 acts.1
      acts_in e (At m at) here acts =
          acts_lead rules ids h there.more end there.kept bytes_sent r n s t is e at (here ∙ ap (λ i. At i at) acts.0) acts.1 acts.2

      pub goes : (seen : Seen) → MayBecome rules h n r history seen s t → Goes rules h seen r end n t
      goes Passed may = record { number = 0; new = end; step = refl; nodes = λ j. own_state n j end.world.nodes t (is ∙ sym may) }
      goes (Own e) may = acts_in e (scene_behind h history e) (scenes e) may
      goes (Halted m) may =
          subst (λ i. Goes rules h (Halted i) r end n t) (sym may.0) (halts_lead rules ids h there.more end there.kept bytes_sent r n s t is may.1)
      goes (Crashed m) may =
          subst (λ i. Goes rules h (Crashed i) r end n t) (sym may.0) (crashes_lead rules ids h there.more end there.kept bytes_sent r n s t is may.1)

  module _ (candidates : Candidates) (history : List Recorded) (kept : IsKeptFor rules ids h candidates history) where
    event : (r : Recorded) (n : ℕ) (news : List NodeState) → EventLeads rules h n r history (candidates n) news → IsKeptFor rules ids h (with_value candidates n news) (history ++ r ∷ [])
    event r n news leads = record {
      one = with_value kept.one n leads.one;
      among = other_choice candidates kept.one n news leads.one kept.among leads.some;
      leads = λ states among.
          let came = leads.came (states n) (chosen candidates states n news among) in
          let s = came.0 in
          let l = kept.leads (with_value states n s) (choice_before candidates states n news s among came.1) in
          let g = goes history l.end l.replays r n s (states n) (l.nodes n ∙ at_own states n s) (seen_by h r) came.2 in
          record {
            end = g.new;
            replays = joins rules h history (r ∷ []) (new_replicas rules ids) l.end g.new l.replays (one_event rules h r g.number l.end g.new g.step);
            nodes = λ m. g.nodes m ∙ back states l.end.world.nodes n s l.nodes m;
          };
    }

    stands : (n : ℕ) (s : NodeState) → Contains (candidates n) s → StandsInWorld rules ids h history n s
    stands n s has =
        let l = kept.leads (with_value kept.one n s) (same_choice candidates kept.one n s kept.among has) in
        let led = there history l.end l.replays in
        let said = said_along h rules history l.replays.0 (new_replicas rules ids) l.end l.replays.1 in
        record {
          end = l.end;
          replays = l.replays;
          group = led.more;
          is_history = led.kept.leads;
          node = l.nodes n ∙ at_own kept.one n s;
          messages = said.0;
          setup = said.1;
          scenes = scenes history l.end l.replays;
        }

pub new_leads : (rules : MachineRules) (ids : List ℕ) (h : ℕ) → IsKeptFor rules ids h (new_candidates ids) []
new_leads rules ids h = record {
  one = (new_world ids).nodes;
  among = λ n. has_first ((new_world ids).nodes n);
  leads = λ states among. record {
    end = new_replicas rules ids;
    replays = ([], (refl, refl));
    nodes = λ n. sym (is_only ((new_world ids).nodes n) (states n) (among n));
  };
}

pub new_is_kept : NewIsKept
new_is_kept rules ids fit = record { node_ids = fit; groups = λ h. new_leads rules ids h }

pub events_are_kept : EventsAreKept
events_are_kept rules ids fit h candidates history kept r n news leads = event rules ids fit h candidates history kept r n news leads

pub kept_by_all : EventsAreKeptByAll
kept_by_all rules ids candidates history kept r n news leads = record {
  node_ids = kept.node_ids;
  groups = λ h. events_are_kept rules ids kept.node_ids h (candidates h) history (kept.groups h) r n (news h) (leads h);
}

pub have_applied : CandidatesHaveApplied
have_applied rules ids fit h history states leads n s is =
    let at = leads.nodes n ∙ is in
    let front = (headline_of_histories rules ids fit h history leads.end leads.replays).applied n s at in
    let led = there rules ids fit h history leads.end leads.replays in
    record { within = front.within; folded = sym (led.kept.folded n s at) ∙ front.folded }

pub fewer_are_kept : FewerAreKept
fewer_are_kept rules ids h candidates fewer history kept one among wider = record {
  one = one;
  among = among;
  leads = λ states chosen_few. kept.leads states (λ n. wider n (states n) (chosen_few n));
}

pub kept_is_headline : KeptIsHeadline
kept_is_headline rules ids fit h candidates history kept states among =
    let l = kept.leads states among in (l, headline_of_histories rules ids fit h history l.end l.replays)

pub candidates_stand : CandidatesStand
candidates_stand rules ids fit h candidates history kept n s has = stands rules ids fit h candidates history kept n s has
