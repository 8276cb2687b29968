-- A group's world that fits the ballot machine: its nodes, its messages and its notes of leaders.
use Rattle.std.specs.Prelude.{◌≡◌, ℕ, ◌<◌, ◌^◌, true, List, length, slice_get, Some}
use Rattle.std.proofs.Common.{sym, ap, ◌∙◌, subst, arith, ⊎_elim}
use Rattle.raft_group_step.specs.Values.{Membership, Entry}
use Rattle.raft_group_step.specs.StoredGroup.{held}
use Rattle.raft_group_step.specs.Message.{Message}
use Rattle.raft_group_step.specs.GroupState.{GroupState, Role, Follower, Candidate, Leader}
use Rattle.raft_laws.specs.BallotLists.{AgreeBelow}
use Rattle.raft_laws.specs.BallotWorld.{BallotWorld, BallotEvent, ballot_start, ballot_accepted}
use Rattle.raft_laws.specs.BallotRanks.{rank_of, owner_of, ballot_entry, ballot_log, ballot_group}
use Rattle.raft_laws.specs.GroupWorld.{GroupWorld, NodeState, Absent, Up, Down, Led}
use Rattle.raft_laws.specs.GroupRun.{led_as}
use Rattle.raft_laws.proofs.BallotAgreement.{agree_refl, agree_more}
use Rattle.raft_laws.proofs.BallotSafe.{Among, Safe}
use Rattle.raft_laws.proofs.BallotStep.{Later}
use Rattle.raft_laws.proofs.BallotRuns.{run_next, start_safe}
use Rattle.raft_laws.proofs.BallotOrigins.{own_accepted}
use Rattle.raft_laws.proofs.BallotOthers.{Extends}
use Rattle.raft_laws.proofs.VoteRanks.{owner_is}
use Rattle.raft_laws.proofs.Shapes.{Good, joined_held}
use Rattle.raft_laws.proofs.Memberships.{HasMembership}
use Rattle.raft_laws.proofs.Standing.{UpFits, DownFits, RoleFits, MessageFits, OwnVote, role_on}
use Rattle.raft_laws.proofs.Ids.{size_same, ballot_at}
use Rattle.raft_laws.proofs.StepFits.{NodeFits, StopFits, world_after}

-- a note of a leader: its list is a front of what the ballot's leader had, and it accepted its own entries
pub record LedFits (m : Membership) (b : BallotWorld) (l : Led) : Type 0 where
  pub bound : l.vote.leader_id.node_id < 2 ^ 64
  pub good : Good m 0 l.list
  pub has : HasMembership l.list
  pub front : AgreeBelow (length l.list) (ballot_log l.list) (b.lead (rank_of l.vote.leader_id))
  pub accepted : (i : ℕ) (e : Entry) → slice_get l.list i ≡ Some e → e.log_id.leader_id ≡ l.vote.leader_id → ballot_accepted b.replies (rank_of l.vote.leader_id) i l.node ≡ true

abbrev pub NodeStateFits : Membership → BallotWorld → ℕ → NodeState → Type 0
NodeStateFits m b n Absent = Unit {0}
NodeStateFits m b n (Up s) = (n < 2 ^ 64) × NodeFits m b n s
NodeStateFits m b n (Down stored) = (n < 2 ^ 64) × StopFits m b n stored

pub record WorldFits (m : Membership) (b : BallotWorld) (w : GroupWorld) : Type 0 where
  pub nodes : (n : ℕ) → NodeStateFits m b n (w.nodes n)
  pub messages : (x : Message) → Among x w.messages → MessageFits m b x
  pub led : (l : Led) → Among l w.led → LedFits m b l

-- ---- what stays as the ballot machine goes on

pub led_on : {m : Membership} {b b' : BallotWorld} {l : Led} → Later b b' → LedFits m b l → LedFits m b' l
led_on {l = l} later f =
    record {
      bound = f.bound;
      good = f.good;
      has = f.has;
      front = agree_more f.front (later.lead (rank_of l.vote.leader_id));
      accepted = λ i e h k. later.accepted (rank_of l.vote.leader_id) i l.node (f.accepted i e h k);
    }

module _ {own : ℕ} {b b' : BallotWorld} (x : Extends own b b') (n : ℕ) (other : n ≡ own → ⊥) where
  up_on : {m : Membership} {s : GroupState} → UpFits m (b.node n) s → UpFits m (b'.node n) s
  up_on {m} {s} u = subst (λ y. UpFits m y s) (sym (x.same n other)) u

  pub node_on : (m : Membership) (s : NodeState) → NodeStateFits m b n s → NodeStateFits m b' n s
  node_on m Absent h = h
  node_on m (Up s) h = (
    h.0,
    record {
      up = up_on h.1.up;
      role = role_on n s.stored.vote (held s.stored) (held s.stored) s.role x (λ i e k. k) (λ k. k) h.1.role;
      lead = h.1.lead;
      wish = h.1.wish;
    },
  )
  node_on m (Down stored) h = (
    h.0,
    record {
      down = subst (λ y. DownFits m y stored) (sym (x.same n other)) h.1.down;
      lead = h.1.lead;
    },
  )

-- ---- the note of a node that leads

module _ (m : Membership) (some : 0 < length m.configs) (before : List BallotEvent) where
  pub after_safe : Safe (ballot_group m) (world_after m before)
  after_safe = (run_next (ballot_group m) some (ballot_start (ballot_group m)) before (start_safe (ballot_group m))).safe

  module _ (n : ℕ) (s : GroupState) (up : UpFits m ((world_after m before).node n) s) (mine : OwnVote n s.stored.vote true) (has : HasMembership (held s.stored)) where
    abbrev rank : ℕ
    rank = rank_of s.stored.vote.leader_id

    held_is : held s.stored ≡ up.list
    held_is = joined_held s.stored up.list up.joined

    pub owned : owner_of rank ≡ n
    owned = owner_is s.stored.vote.leader_id mine.term up.fits.bound ∙ mine.node

    pub positive : 0 < rank
    positive = omega (arith, mine.term)

    -- what the ballot's leader has is the node's list
    pub lead_list : (world_after m before).lead rank ≡ ballot_log (held s.stored)
    lead_list =
        let node = (world_after m before).node n in
        let same : node.ballot ≡ rank = up.fits.ballot in
        let is = (after_safe.node n).leads (up.fits.committed ∙ mine.flag) (omega (arith, positive, same)) (ap owner_of same ∙ owned) in
        ap (world_after m before).lead (sym same) ∙ sym is.0 ∙ up.fits.log ∙ ap ballot_log (sym held_is)

    pub led_note : LedFits m (world_after m before) (record { node = n; vote = s.stored.vote; list = held s.stored })
    led_note =
        record {
          bound = up.fits.bound;
          good = subst (Good m 0) (sym held_is) up.fits.good;
          has = has;
          front =
              subst (AgreeBelow (length (held s.stored)) (ballot_log (held s.stored))) (sym lead_list)
              (agree_refl (length (held s.stored)) (ballot_log (held s.stored)) (omega (arith, size_same (held s.stored))));
          accepted = λ i e h k.
              let there : slice_get ((world_after m before).lead (rank_of e.log_id.leader_id)) i ≡ Some (ballot_entry e) =
              ap (λ x. slice_get ((world_after m before).lead (rank_of x)) i) k ∙ ap (λ l. slice_get l i) lead_list ∙ ballot_at (held s.stored) i e h
              in
              let same : rank_of e.log_id.leader_id ≡ rank = ap rank_of k in
              let a = own_accepted (ballot_group m) some before i (ballot_entry e) (omega (arith, positive, same)) there in
              subst (λ j. ballot_accepted (world_after m before).replies rank i j ≡ true) owned
              (subst (λ x. ballot_accepted (world_after m before).replies (rank_of x) i (owner_of (rank_of x)) ≡ true) k a);
        }

  pub led_in : (n : ℕ) (s : GroupState) → UpFits m ((world_after m before).node n) s → (role : Role) → RoleFits n (world_after m before) s.stored.vote (held s.stored) role → (l : Led) → Among l (led_as n s role) → LedFits m (world_after m before) l
  led_in n s up Follower h l a = absurd a
  led_in n s up (Candidate granters) h l a = absurd a
  led_in n s up (Leader lead) h l a =
      ⊎_elim (λ e. subst (LedFits m (world_after m before)) (sym e) (led_note n s up h.0 h.1)) (λ none. absurd none) a
