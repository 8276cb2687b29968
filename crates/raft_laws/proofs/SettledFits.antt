-- What is settled in a group's world is settled in the ballot machine, and so stands on one list.
use Rattle.std.specs.Prelude.{◌≡◌, ℕ, zero, suc, ◌+◌, ◌<◌, ◌≤◌, ◌==◌, ◌&&◌, nat_le, Bool, true, false, List, [], ◌∷◌, length, take, slice_get, Option, Some, None, refl}
use Rattle.std.specs.List.{list_any}
use Rattle.std.proofs.Common.{sym, ap, ap₂, ◌∙◌, subst, arith, ⊎_elim, eqb-true, eq-eqb, leb-true, length-take-le}
use Rattle.std.proofs.lemmas.Bool.{and_parts, and_from, or_cases}
use Rattle.std.proofs.lemmas.Option.{slice_get_within}
use Rattle.raft_values.specs.declared.vote.LeaderId.{LeaderId}
use Rattle.raft_values.specs.declared.vote.Vote.{Vote}
use Rattle.raft_values.specs.declared.log_id.LogId.{LogId}
use Rattle.raft_quorums.specs.Quorum.{is_quorum as is_quorum_of}
use Rattle.raft_group_step.specs.Values.{Membership, Entry, EntryPayload, is_written_by, leader_eq, vote_eq}
use Rattle.raft_group_step.specs.Message.{MessageBody, VoteRequest, VoteReply, AppendRequest, AppendReply, SnapshotRequest, SnapshotReply, ReplyFields, ReplyResult, Success, PartialSuccess, Conflict, HigherVote}
use Rattle.raft_group_step.proofs.Votes.{leader_eq_same}
use Rattle.raft_laws.specs.BallotLists.{AgreeBelow}
use Rattle.raft_laws.specs.BallotLogs.{BallotEntry}
use Rattle.raft_laws.specs.BallotWorld.{BallotWorld, BallotEvent, ballot_accepted, is_of, is_ballot_settled}
use Rattle.raft_laws.specs.BallotSettled.{ballot_list}
use Rattle.raft_laws.specs.BallotRanks.{rank_of, ballot_entry, ballot_log, ballot_group}
use Rattle.raft_laws.specs.GroupWorld.{GroupWorld, Led}
use Rattle.raft_laws.specs.Settled.{accepted_last, body_accepts, count_to_last, has_accepted_some, has_led_with, has_replied, is_accepted_by_quorum, is_at_or_after, is_last, setup_configs, settled_part}
use Rattle.raft_laws.proofs.BallotAgreement.{agree_cons, agree_less, agree_none, agree_sym, agree_trans, same_some, some_at}
use Rattle.raft_laws.proofs.BallotFacts.{accepts as accepts_by}
use Rattle.raft_laws.proofs.BallotQuorums.{quorum_more}
use Rattle.raft_laws.proofs.BallotSafe.{Among}
use Rattle.raft_laws.proofs.BallotSettling.{settled_on_list}
use Rattle.raft_laws.proofs.VoteRanks.{rank_leader, vote_eq_same}
use Rattle.raft_laws.proofs.Shapes.{Good, good_take}
use Rattle.raft_laws.proofs.Standing.{BodyFits, RepliesFit}
use Rattle.raft_laws.proofs.Ids.{ballot_at, size_same}
use Rattle.raft_laws.proofs.Tracking.{index_of}
use Rattle.raft_laws.proofs.TrackCommits.{accepted_from}
use Rattle.raft_laws.proofs.TrackElections.{quorum_link}
use Rattle.raft_laws.proofs.StepFits.{world_after}
use Rattle.raft_laws.proofs.WorldFits.{WorldFits}
use Rattle.raft_laws.proofs.Counts.{any_among, count_from}

-- who accepted a place accepted those before it
accepted_before : (b : BallotWorld) (v i j n : ℕ) → i ≤ j → ballot_accepted b.replies v j n ≡ true → ballot_accepted b.replies v i n ≡ true
accepted_before b v i j n le h =
    let a = accepts_by b.replies v j n h in
    subst (λ k. ballot_accepted b.replies v i k ≡ true) a.node
    (subst (λ u. ballot_accepted b.replies u i a.reply.node ≡ true) a.ballot
    (accepted_from b.replies a.reply.ballot a.reply.node a.reply.upto i (omega (arith, a.upto)) a.among))

module _ (m : Membership) (b : BallotWorld) (w : GroupWorld) (fits : WorldFits m b w) (vote : Vote ℕ) (i n : ℕ) where
  abbrev Accepts : Type 0
  Accepts = ballot_accepted b.replies (rank_of vote.leader_id) i n ≡ true

  abbrev passes : LogId ℕ → Bool
  passes = is_at_or_after vote.leader_id i

  -- a reply that accepts
  last_accepts : (r : ReplyFields) → vote_eq r.vote vote ≡ true → RepliesFit b n r Success → (o : Option (LogId ℕ)) → r.last ≡ o → is_last passes o ≡ true → Accepts
  last_accepts r v f None e t = absurd (let g : false ≡ true = t in cc)
  last_accepts r v f (Some id) e t =
      let p = and_parts (leader_eq id.leader_id vote.leader_id) (nat_le i id.index) t in
      let le = leb-true i id.index p.1 in
      subst (λ (x : Vote ℕ). ballot_accepted b.replies (rank_of x.leader_id) i n ≡ true) (vote_eq_same r.vote vote v)
      (accepted_from b.replies (rank_of r.vote.leader_id) n (id.index + 1) i (omega arith) (f id e))

  accepts_none : (b : Bool) → (b && false) ≡ true → Accepts
  accepts_none true t = absurd (let g : false ≡ true = t in cc)
  accepts_none false t = absurd (let g : false ≡ true = t in cc)

  reply_accepts : (r : ReplyFields) (o : ReplyResult) → RepliesFit b n r o → (vote_eq r.vote vote && is_last passes (accepted_last o r.last)) ≡ true → Accepts
  reply_accepts r Success f t =
      let p = and_parts (vote_eq r.vote vote) (is_last passes r.last) t in last_accepts r p.0 f r.last refl p.1
  reply_accepts r (PartialSuccess last) f t = absurd f
  reply_accepts r Conflict f t = accepts_none (vote_eq r.vote vote) t
  reply_accepts r (HigherVote v) f t = accepts_none (vote_eq r.vote vote) t

  message_accepts : (x : MessageBody) → BodyFits m b n x → body_accepts vote passes x ≡ true → Accepts
  message_accepts (VoteRequest v last) f t = absurd (let g : false ≡ true = t in cc)
  message_accepts (VoteReply v granted last) f t = absurd (let g : false ≡ true = t in cc)
  message_accepts (AppendRequest a) f t = absurd (let g : false ≡ true = t in cc)
  message_accepts (AppendReply r) f t = reply_accepts r r.outcome f.1 t
  message_accepts (SnapshotRequest v id x) f t = absurd (let g : false ≡ true = t in cc)
  message_accepts (SnapshotReply r) f t = reply_accepts r r.outcome f.1 t

  replied : has_replied w vote passes n ≡ true → Accepts
  replied h =
      let x = any_among _ w.messages h in
      let p = and_parts (x.0.sender == n) (body_accepts vote passes x.0.body) x.2 in
      message_accepts x.0.body
      (subst (λ k. BodyFits m b k x.0.body) (eqb-true x.0.sender n p.0) (fits.messages x.0 x.1))
      p.1

  -- a note of a leader that has such an entry
  led_accepts : has_led_with w vote passes n ≡ true → Accepts
  led_accepts h =
      let x = any_among _ w.led h in
      let l : Led = x.0 in
      let p = and_parts (l.node == n && vote_eq l.vote vote) (list_any (λ (e : Entry). passes e.log_id) l.list) x.2 in
      let q = and_parts (l.node == n) (vote_eq l.vote vote) p.0 in
      let y = any_among _ l.list p.1 in
      let e : Entry = y.0 in
      let r = and_parts (leader_eq e.log_id.leader_id vote.leader_id) (nat_le i e.log_id.index) y.2 in
      let at = index_of e l.list y.1 in
      let f = fits.led l x.1 in
      let same = vote_eq_same l.vote vote q.1 in
      let own = leader_eq_same e.log_id.leader_id vote.leader_id r.0 ∙ ap (λ (v : Vote ℕ). v.leader_id) (sym same) in
      let place = f.good.placed at.0 e at.1 in
      let le = leb-true i e.log_id.index r.1 in
      let a = accepted_before b (rank_of l.vote.leader_id) i at.0 l.node (omega arith) (f.accepted at.0 e at.1 own) in
      subst (λ k. ballot_accepted b.replies (rank_of vote.leader_id) i k ≡ true) (eqb-true l.node n q.0)
      (subst (λ (v : Vote ℕ). ballot_accepted b.replies (rank_of v.leader_id) i l.node ≡ true) same a)

  pub accepted_fits : has_accepted_some w vote passes n ≡ true → Accepts
  accepted_fits h =
      ⊎_elim (λ t. replied t) (λ t. led_accepts t) (or_cases (has_replied w vote passes n) (has_led_with w vote passes n) h)

module _ (m : Membership) (b : BallotWorld) (w : GroupWorld) (fits : WorldFits m b w) (setup : w.setup ≡ Some m) where
  -- an entry that a quorum accepted under a leader's vote
  pub settled_fits : (l : Led) → Among l w.led → (i : ℕ) (e : Entry) → slice_get l.list i ≡ Some e → is_accepted_by_quorum w l.vote e ≡ true → is_ballot_settled (ballot_group m) b (rank_of l.vote.leader_id) i ≡ true
  settled_fits l a i e h t =
      let f = fits.led l a in
      let rank = rank_of l.vote.leader_id in
      let p = and_parts (is_written_by l.vote.leader_id e) (is_quorum_of (setup_configs w.setup) (has_accepted_some w l.vote (is_at_or_after l.vote.leader_id e.log_id.index))) t in
      let own : rank_of e.log_id.leader_id ≡ rank = ap rank_of (leader_eq_same e.log_id.leader_id l.vote.leader_id p.0) in
      let place : e.log_id.index ≡ i = let q = f.good.placed i e h in omega arith in
      let groups = subst (λ o. is_quorum_of (setup_configs o) (has_accepted_some w l.vote (is_at_or_after l.vote.leader_id e.log_id.index)) ≡ true) setup p.1 in
      let within = slice_get_within l.list i e h in
      let there : slice_get (b.lead rank) i ≡ Some (ballot_entry e) = sym (f.front.same i within) ∙ ballot_at l.list i e h in
      and_from (is_of (slice_get (b.lead rank) i) rank) _
      (ap (λ o. is_of o rank) there ∙ eq-eqb (rank_of e.log_id.leader_id) rank own)
      (quorum_more m.configs (has_accepted_some w l.vote (is_at_or_after l.vote.leader_id e.log_id.index)) (ballot_accepted b.replies rank i)
      (λ n q. accepted_fits m b w fits l.vote i n (subst (λ k. has_accepted_some w l.vote (is_at_or_after l.vote.leader_id k) n ≡ true) place q))
      (quorum_link m.configs _ groups))

-- ---- fronts of the machine's list

log_take : (k : ℕ) (xs : List Entry) → AgreeBelow (length (take k xs)) (ballot_log (take k xs)) (ballot_log xs)
log_take zero xs = agree_none (ballot_log xs)
log_take (suc k) [] = agree_none []
log_take (suc k) (x ∷ xs) = agree_cons refl (log_take k xs)

-- a front of a list of ballots, whose entries know their places
pub record FrontOf (m : Membership) (zs : List BallotEntry) (xs : List Entry) : Type 0 where
  pub good : Good m 0 xs
  pub front : AgreeBelow (length xs) (ballot_log xs) zs

pub front_none : (m : Membership) (zs : List BallotEntry) → Good m 0 [] → FrontOf m zs []
front_none m zs g = record { good = g; front = agree_none zs }

pub front_take : {m : Membership} {zs : List BallotEntry} {xs : List Entry} (k : ℕ) → FrontOf m zs xs → FrontOf m zs (take k xs)
front_take {m} {zs} {xs} k f =
    let a = log_take k xs in
    let le : length (take k xs) ≤ length xs = omega (arith, a.right, size_same xs) in
    record { good = good_take k f.good; front = agree_trans a (agree_less (length (take k xs)) le f.front) }

abbrev entry-of : LogId ℕ → EntryPayload → Entry
entry-of id payload = record { log_id = id; payload = payload }

-- two entries of one ballot, place and payload are the same
pub same_entry : {m : Membership} {xs ys : List Entry} → Good m 0 xs → Good m 0 ys → (i : ℕ) (x y : Entry) → slice_get xs i ≡ Some x → slice_get ys i ≡ Some y → ballot_entry x ≡ ballot_entry y → x ≡ y
same_entry {m} {xs} {ys} g h i x y e f same =
    let leader = rank_leader x.log_id.leader_id y.log_id.leader_id (g.bounded i x e) (h.bounded i y f) (ap (λ (z : BallotEntry). z.ballot) same) in
    let a = g.placed i x e in
    let c = h.placed i y f in
    let place : x.log_id.index ≡ y.log_id.index = omega arith in
    let id : x.log_id ≡ y.log_id = ap₂ id-of leader place in
    ap₂ entry-of id (ap (λ (z : BallotEntry). z.payload) same)
  where
    id-of : LeaderId ℕ → ℕ → LogId ℕ
    id-of leader index = record { leader_id = leader; index = index }

-- lists whose ballots agree agree
pub same_lists : {m : Membership} {xs ys : List Entry} (k : ℕ) → Good m 0 xs → Good m 0 ys → AgreeBelow k (ballot_log xs) (ballot_log ys) → AgreeBelow k xs ys
same_lists {m} {xs} {ys} k g h a =
    record {
      left = omega (arith, a.left, size_same xs);
      right = omega (arith, a.right, size_same ys);
      same = λ j l.
          let x = some_at xs j (omega (arith, a.left, size_same xs)) in
          let y = some_at ys j (omega (arith, a.right, size_same ys)) in
          let both : Some (ballot_entry x.0) ≡ Some (ballot_entry y.0) = sym (ballot_at xs j x.0 x.1) ∙ a.same j l ∙ ballot_at ys j y.0 y.1 in
          x.1 ∙ ap Some (same_entry g h j x.0 y.0 x.1 y.1 (same_some both)) ∙ sym y.1;
    }

pub fronts_agree : {m : Membership} {zs : List BallotEntry} {xs ys : List Entry} → FrontOf m zs xs → FrontOf m zs ys → length xs ≤ length ys → AgreeBelow (length xs) xs ys
fronts_agree {m} {zs} {xs} {ys} f g le =
    same_lists (length xs) f.good g.good (agree_trans f.front (agree_sym (agree_less (length xs) le g.front)))

module _ (m : Membership) (some : 0 < length m.configs) (before : List BallotEvent) (w : GroupWorld) (fits : WorldFits m (world_after m before) w) (setup : w.setup ≡ Some m) where
  -- a settled part is a front of the machine's list
  pub part_front : (l : Led) → Among l w.led → FrontOf m (ballot_list (ballot_group m) (world_after m before)) (settled_part w l)
  part_front l a =
      let f = fits.led l a in
      let counts = count_from (is_accepted_by_quorum w l.vote) 0 0 l.list (omega arith) in
      let c = count_to_last (is_accepted_by_quorum w l.vote) 0 0 l.list in
      let front : AgreeBelow (length (take c l.list)) (ballot_log (take c l.list)) (ballot_list (ballot_group m) (world_after m before)) =
      ⊎_elim
      (λ none.
      subst (λ k. AgreeBelow (length (take k l.list)) (ballot_log (take k l.list)) (ballot_list (ballot_group m) (world_after m before))) (sym none)
      (agree_none (ballot_list (ballot_group m) (world_after m before))))
      (λ x.
      let settled = settled_fits m (world_after m before) w fits setup l a x.0 x.1 x.2 x.3 in
      let on = settled_on_list (ballot_group m) some before (rank_of l.vote.leader_id) x.0 settled in
      let taken = log_take c l.list in
      let short : length (take c l.list) ≤ suc x.0 = let inside : c ≤ length l.list = omega (arith, counts.within) in let size = length-take-le c l.list inside in omega (arith, x.4) in
      let long : length (take c l.list) ≤ length l.list = omega (arith, taken.right, size_same l.list) in
      agree_trans (agree_trans taken (agree_less (length (take c l.list)) long f.front)) (agree_sym (agree_less (length (take c l.list)) short on)))
      counts.last
      in
      record { good = good_take c f.good; front = front }
