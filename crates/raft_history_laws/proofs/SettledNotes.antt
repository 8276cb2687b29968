-- What a leader's note has is settled up to an entry of its own that it and those that replied are a quorum for.
use Rattle.std.specs.Prelude.{◌≡◌, ℕ, ◌<◌, ◌≤◌, ◌==◌, ◌&&◌, nat_le, Bool, true, slice_get, Some, refl}
use Rattle.std.specs.List.{list_any}
use Rattle.std.proofs.Common.{sym, ◌∙◌, subst, arith, ⊎_elim, eq-eqb, le-leb}
use Rattle.std.proofs.lemmas.Bool.{and_from, or_left, or_right}
use Rattle.raft_values.specs.declared.vote.Vote.{Vote}
use Rattle.raft_values.specs.declared.log_id.LogId.{LogId}
use Rattle.raft_quorums.specs.Quorum.{is_quorum as is_quorum_of}
use Rattle.raft_group_step.specs.Values.{Membership, Entry, is_written_by, leader_eq, log_id_eq, vote_eq}
use Rattle.raft_laws.specs.GroupWorld.{GroupWorld, Led}
use Rattle.raft_laws.specs.OneList.{IsSettledUnder}
use Rattle.raft_laws.specs.Settled.{has_accepted_some, has_led_with, has_replied, is_accepted_by_quorum, is_at_or_after, setup_configs, settled_part, count_to_last}
use Rattle.raft_laws.proofs.BallotQuorums.{quorum_more}
use Rattle.raft_laws.proofs.BallotSafe.{Among, among_at}
use Rattle.raft_laws.proofs.Counts.{among_any, among_contains, at_contains, contains_at, count_from}
use Rattle.raft_laws.proofs.GroupList.{Goes, part_grows, quorum_back}
use Rattle.raft_laws.proofs.Shapes.{slice_take}
use Rattle.raft_laws.proofs.StepCommits.{AcceptedBy}
use Rattle.raft_laws.proofs.TrackElections.{quorum_link}
use Rattle.raft_laws.proofs.VoteRanks.{leader_eq_from}
use Rattle.raft_laws.proofs.WorldLimits.{replied, replied_wider, same_log_id, vote_itself}
use Rattle.raft_laws.proofs.WorldStart.{Founded}
use Rattle.std.proofs.lemmas.Option.{slice_get_within}

module _ (m : Membership) (w : GroupWorld) (setup : w.setup ≡ Some m) (note : Led) (noted : Among note w.led) (y : Entry) (there : slice_get note.list y.log_id.index ≡ Some y) (written : y.log_id.leader_id ≡ note.vote.leader_id) (test : ℕ → Bool) (quorum : is_quorum_of m.configs test ≡ true) (accepted : (n : ℕ) → test n ≡ true → AcceptedBy (replied w) note.node note.vote y.log_id.index n) where
  abbrev from_place : LogId ℕ → Bool
  from_place = is_at_or_after note.vote.leader_id y.log_id.index

  passes : (id : LogId ℕ) → id.leader_id ≡ note.vote.leader_id → y.log_id.index ≤ id.index → from_place id ≡ true
  passes id leader le =
      and_from (leader_eq id.leader_id note.vote.leader_id) (nat_le y.log_id.index id.index)
      (leader_eq_from id.leader_id note.vote.leader_id leader) (le-leb y.log_id.index id.index le)

  -- the leader itself
  leader_accepts : (n : ℕ) → n ≡ note.node → has_led_with w note.vote from_place n ≡ true
  leader_accepts n e =
      among_any (λ (l : Led). l.node == n && vote_eq l.vote note.vote && list_any (λ (x : Entry). from_place x.log_id) l.list) w.led note noted
      (and_from (note.node == n && vote_eq note.vote note.vote) (list_any (λ (x : Entry). from_place x.log_id) note.list)
      (and_from (note.node == n) (vote_eq note.vote note.vote) (eq-eqb note.node n (sym e)) (vote_itself note.vote))
      (among_any (λ (x : Entry). from_place x.log_id) note.list y (among_at note.list y.log_id.index y there) (passes y.log_id written (omega arith))))

  -- a peer that replied
  peer_accepts : (n : ℕ) (id : LogId ℕ) → replied w note.vote n id → id.leader_id ≡ note.vote.leader_id → y.log_id.index ≤ id.index → has_replied w note.vote from_place n ≡ true
  peer_accepts n id h leader le =
      replied_wider note.vote (λ other. log_id_eq other id) from_place
      (λ other t. let same = same_log_id other id t in passes other (same.0 ∙ leader) (omega (arith, same.1)))
      w n h

  accepts : (n : ℕ) → test n ≡ true → has_accepted_some w note.vote from_place n ≡ true
  accepts n t =
      ⊎_elim
      (λ e. or_right (has_replied w note.vote from_place n) (has_led_with w note.vote from_place n) (leader_accepts n e))
      (λ x. or_left (has_replied w note.vote from_place n) (has_led_with w note.vote from_place n) (peer_accepts n x.0 x.1 x.2 x.3))
      (accepted n t)

  by_quorum : is_accepted_by_quorum w note.vote y ≡ true
  by_quorum =
      and_from (is_written_by note.vote.leader_id y) _ (leader_eq_from y.log_id.leader_id note.vote.leader_id written)
      (subst (λ o. is_quorum_of (setup_configs o) (has_accepted_some w note.vote from_place) ≡ true) (sym setup)
      (quorum_back m.configs (has_accepted_some w note.vote from_place)
      (quorum_more m.configs test (has_accepted_some w note.vote from_place) accepts (quorum_link m.configs test quorum))))

  -- all up to the entry is settled under the note's vote
  pub settled_up_to : (j : ℕ) (e : Entry) → j ≤ y.log_id.index → slice_get note.list j ≡ Some e → IsSettledUnder w note.vote e
  settled_up_to j e le at =
      let counts = count_from (is_accepted_by_quorum w note.vote) 0 0 note.list (omega arith) in
      let c = count_to_last (is_accepted_by_quorum w note.vote) 0 0 note.list in
      let past = counts.all y.log_id.index y there by_quorum in
      let inside : j < c = omega arith in
      let part : slice_get (settled_part w note) j ≡ Some e = slice_take c note.list j inside ∙ at in
      (note, refl, among_contains w.led note noted, at_contains (settled_part w note) e j part)

-- ---- what is settled stays so

pub settled_still : (w w' : GroupWorld) → Goes w w' → Founded w → (vote : Vote ℕ) (e : Entry) → IsSettledUnder w vote e → IsSettledUnder w' vote e
settled_still w w' goes f vote e s =
    let k = contains_at w.led s.0 s.2 in
    let among = among_at w.led k.0 s.0 k.1 in
    ⊎_elim
    (λ setup.
    let at = contains_at (settled_part w s.0) e s.3 in
    let grows = part_grows w w' goes f.membership setup s.0 in
    let within = slice_get_within (settled_part w s.0) at.0 e at.1 in (
      s.0,
      s.1,
      among_contains w'.led s.0 (goes.led s.0 among),
      at_contains (settled_part w' s.0) e at.0 (sym (grows.same at.0 within) ∙ at.1),
    ))
    (λ no. absurd (no s.0 among))
    f.is.setup
