-- The peers of a lead, by rising id, and what a leader knows of each.
use Rattle.std.specs.Prelude.{◌≡◌, ℕ, ◌<◌, ◌≤◌, ◌==◌, nat_eq, nat_lt, Bool, true, false, not, ◌||◌, if◌then◌else◌, List, [], ◌∷◌, ◌++◌, Some, None, is_none, is_some, unwrap_or, refl}
use Rattle.std.specs.List.{list_any}
use Rattle.raft_quorums.specs.Nodes.{has_node}
use Rattle.raft_quorums.specs.QuorumLaws.{or_left, or_right}
use Rattle.raft_progress.specs.declared.inflight.Inflight.{Inflight}
use Rattle.raft_progress.specs.declared.inflight.Inflight.TheVariants.{None as Nothing, Logs, Snapshot as SnapshotInFlight}
use Rattle.raft_progress.specs.Inflight.{request_id}
use Rattle.std.proofs.Common.{ap, sym, ◌∙◌, subst, arith}
use Rattle.std.proofs.lemmas.Bool.{eqb-true}
use Rattle.std.proofs.lemmas.Bool.Decides.{nat_tests}
use Rattle.std.proofs.Math.Bool.{true≢false}
use Rattle.std.proofs.lemmas.List.Folds.{list_any-append}
use Rattle.raft_progress.specs.declared.progress_entry.ProgressEntry.{ProgressEntry}
use Rattle.raft_progress.specs.Parts.{Parts, SetsValue, has_value, value_of}
use Rattle.raft_progress.proofs.PartsLemmas.{nobody_has}
use Rattle.raft_leaders.proofs.PeerLemmas.{somebody_has}
use Rattle.raft_leaders.specs.Leader.{LeaderValue, peer_at, unknown_peer}
use Rattle.raft_leaders.specs.Accepted.{WroteNoneBelow}
use Rattle.raft_group_step.specs.StoredGroup.{StoredGroup, end_place}
use Rattle.raft_group_step.specs.Peer.{PeerState, is_kept_for_peers, needs_below, new_peer, peer_or, with_peer}
use Rattle.raft_group_step.specs.GroupState.{Lead}
use Rattle.raft_group_step.proofs.Peers.{with_peer-found, with_peer-others}
use Rattle.raft_known_state.specs.KnownState.{entry_ids}
use Rattle.raft_engine.specs.Standing.{EffectiveMembership, IsBelowPeer, Leads, PeersRise, outstanding_of, peer_state}

-- tests of which each passes where the other does
pub same_tests : (a b : Bool) → (a ≡ true → b ≡ true) → (b ≡ true → a ≡ true) → a ≡ b
same_tests true b f g = sym (f refl)
same_tests false true f g = g refl
same_tests false false f g = refl

below-with_peer : (n : ℕ) (p : PeerState) (peers : List PeerState) → n < p.peer → IsBelowPeer n peers → IsBelowPeer n (with_peer p peers)
below-with_peer n p [] l h = l
below-with_peer n p (x ∷ xs) l h =
    elim (x.peer == p.peer) as (λ b. IsBelowPeer n (if b then p ∷ xs else if nat_lt p.peer x.peer then p ∷ x ∷ xs else x ∷ with_peer p xs)) [
      | true ↦ l
      | false ↦ elim (nat_lt p.peer x.peer) as (λ b. IsBelowPeer n (if b then p ∷ x ∷ xs else x ∷ with_peer p xs)) [ true ↦ l | false ↦ h ]
    ]

-- the peers still stand by rising id
pub with_peer-rising : (p : PeerState) (peers : List PeerState) → PeersRise peers → PeersRise (with_peer p peers)
with_peer-rising p [] h = (tt, tt)
with_peer-rising p (x ∷ xs) h =
    elim (x.peer == p.peer) as (λ b. (x.peer == p.peer) ≡ b → PeersRise (if b then p ∷ xs else if nat_lt p.peer x.peer then p ∷ x ∷ xs else x ∷ with_peer p xs)) [
      | true ↦ λ t. (subst (λ n. IsBelowPeer n xs) (eqb-true x.peer p.peer t) h.0, h.1)
      | false ↦ λ f.
          elim (nat_lt p.peer x.peer) as (λ b. nat_lt p.peer x.peer ≡ b → PeersRise (if b then p ∷ x ∷ xs else x ∷ with_peer p xs)) [
            | true ↦ λ t. let l : p.peer < x.peer = grind (arith, nat_tests, t) in (l, h)
            | false ↦ λ k. let l : x.peer < p.peer = grind (arith, nat_tests, f, k) in (below-with_peer x.peer p xs l h.0, with_peer-rising p xs h.1)
          ] refl
    ] refl

-- ---- what the leader knows

module _ {V P Q : Type 0} (p : Parts ℕ V P Q) (n : ℕ) where
  -- who has a value there
  pub has-some : has_value nat_eq p n ≡ true → (v : V) × (value_of nat_eq p n ≡ Some v)
  has-some h =
      elim (value_of nat_eq p n) as (λ o. value_of nat_eq p n ≡ o → (v : V) × (o ≡ Some v)) [
        | None ↦ λ e. absurd (true≢false (sym h ∙ nobody_has nat_eq p n e))
        | Some v ↦ λ e. (v, refl)
      ] refl

-- a value that is set leaves each where it was
pub still_has : {V P Q : Type 0} (old new : Parts ℕ V P Q) (n m : ℕ) (v : V) → SetsValue nat_eq old new n v → has_value nat_eq old n ≡ true → has_value nat_eq old m ≡ true → has_value nat_eq new m ≡ true
still_has {V} {P} {Q} old new n m v sets has h =
    elim (nat_eq n m) as (λ b. nat_eq n m ≡ b → has_value nat_eq new m ≡ true) [
      | true ↦ λ t. subst (λ k. has_value nat_eq new k ≡ true) (eqb-true n m t) (somebody_has nat_eq new n v (sets.at_id has))
      | false ↦ λ f. let w = has-some old m h in somebody_has nat_eq new m w.0 (sets.others m f ∙ w.1)
    ] refl

module _ (l l' : LeaderValue ℕ EffectiveMembership) (n : ℕ) (entry : ProgressEntry ℕ) (has : has_value nat_eq l.progress n ≡ true)
    (sets : SetsValue nat_eq l.progress l'.progress n entry) (rest : l' ≡ record l { progress = l'.progress }) where
  began-stays : l'.began ≡ l.began
  began-stays = ap (λ (x : LeaderValue ℕ EffectiveMembership). x.began) rest

  -- the peer is known by the entry
  peer-set : peer_at nat_eq l' n ≡ entry
  peer-set = ap (λ o. unwrap_or o (unknown_peer l'.began)) (sets.at_id has)

  -- and each other one as before
  peer-kept : (m : ℕ) → nat_eq n m ≡ false → peer_at nat_eq l' m ≡ peer_at nat_eq l m
  peer-kept m f =
      ap (λ o. unwrap_or o (unknown_peer l'.began)) (sets.others m f) ∙ ap (λ k. unwrap_or (value_of nat_eq l.progress m) (unknown_peer k)) began-stays

  -- the lead knows the peer by the entry too
  pub leads-set : (own : ℕ) (s : StoredGroup) (lead : Lead) → Leads own l s lead → Leads own l' s (record lead { peers = with_peer (peer_state n entry) lead.peers })
  leads-set own s lead h = record {
    vote = ap (λ (x : LeaderValue ℕ EffectiveMembership). x.vote) rest ∙ h.vote;
    is_own = h.is_own;
    committed = h.committed;
    last = ap (λ (x : LeaderValue ℕ EffectiveMembership). x.last_log_id) rest ∙ h.last;
    began = began-stays ∙ h.began;
    first = subst (λ (y : LeaderValue ℕ EffectiveMembership). y.noop_log_id.index ≤ end_place s) (sym rest) h.first;
    wrote = subst (λ (y : LeaderValue ℕ EffectiveMembership). WroteNoneBelow y.vote.leader_id y.noop_log_id.index (entry_ids s.log)) (sym rest) h.wrote;
    peers = λ m.
        elim (nat_eq n m) as (λ b. nat_eq n m ≡ b → peer_or (new_peer lead.began m) (with_peer (peer_state n entry) lead.peers) ≡ peer_state m (peer_at nat_eq l' m)) [
          | true ↦ λ t.
              let e : n ≡ m = eqb-true n m t in
              with_peer-found (peer_state n entry) (new_peer lead.began m) lead.peers e
              ∙ ap (λ k. peer_state k entry) e ∙ ap (peer_state m) (sym peer-set ∙ ap (peer_at nat_eq l') e)
          | false ↦ λ f.
              with_peer-others (peer_state n entry) (new_peer lead.began m) lead.peers f ∙ h.peers m ∙ ap (peer_state m) (sym (peer-kept m f))
        ] refl;
    rising = with_peer-rising (peer_state n entry) lead.peers h.rising;
    members = λ m k. still_has l.progress l'.progress n m entry sets has (h.members m k);
  }

-- whose answer is waited for has a value
pub busy_has : (l : LeaderValue ℕ EffectiveMembership) (n : ℕ) → is_none (request_id (peer_at nat_eq l n).inflight) ≡ false → has_value nat_eq l.progress n ≡ true
busy_has l n h =
    elim (value_of nat_eq l.progress n) as (λ o. value_of nat_eq l.progress n ≡ o → is_none (request_id (unwrap_or o (unknown_peer l.began)).inflight) ≡ false → has_value nat_eq l.progress n ≡ true) [
      | None ↦ λ e k. absurd (true≢false k)
      | Some v ↦ λ e k. somebody_has nat_eq l.progress n v e
    ] refl h

pub none_outstanding : (i : Inflight ℕ) → is_none (outstanding_of i) ≡ is_none (request_id i)
none_outstanding Nothing = refl
none_outstanding (Logs id range) = refl
none_outstanding (SnapshotInFlight id last) = refl

pub some_outstanding : (i : Inflight ℕ) (b : Bool) → is_none (request_id i) ≡ b → is_some (outstanding_of i) ≡ not b
some_outstanding Nothing b h = ap not h
some_outstanding (Logs id range) b h = ap not h
some_outstanding (SnapshotInFlight id last) b h = ap not h

-- ---- which requests keep the log from being purged

module _ (place : ℕ) where
  -- a peer that needs it is among the peers
  peer_needs : (d : PeerState) (peers : List PeerState) → needs_below place d.outstanding ≡ false → needs_below place (peer_or d peers).outstanding ≡ true → is_kept_for_peers place peers ≡ true
  peer_needs d [] f h = absurd (true≢false (sym h ∙ f))
  peer_needs d (x ∷ xs) f h =
      elim (x.peer == d.peer) as (λ b. needs_below place (if b then x else peer_or d xs).outstanding ≡ true → (needs_below place x.outstanding || is_kept_for_peers place xs) ≡ true) [
        | true ↦ λ k. ap (λ b. b || is_kept_for_peers place xs) k
        | false ↦ λ k. or_right (needs_below place x.outstanding) (is_kept_for_peers place xs) (peer_needs d xs f k)
      ] h

  -- who is among the peers, by rising id, is found there
  abbrev IsFound : List PeerState → ℕ → Type 0
  IsFound peers n = ((m : ℕ) → IsBelowPeer m peers → m < n) × ((d : PeerState) → d.peer ≡ n → needs_below place (peer_or d peers).outstanding ≡ true)

  found_needs : (peers : List PeerState) → PeersRise peers → is_kept_for_peers place peers ≡ true → (n : ℕ) × IsFound peers n
  found_needs [] h k = absurd (true≢false (sym k))
  found_needs (x ∷ xs) h k =
      elim (needs_below place x.outstanding) as (λ b. needs_below place x.outstanding ≡ b → (b || is_kept_for_peers place xs) ≡ true → (n : ℕ) × IsFound (x ∷ xs) n) [
        | true ↦ λ e _. (x.peer, ((λ m l. l), (λ d f. let t : (x.peer == d.peer) ≡ true = grind (arith, nat_tests, f) in rw t e)))
        | false ↦ λ e j.
            let w = found_needs xs h.1 j in
            let above : x.peer < w.0 = w.1.0 x.peer h.0 in (
              w.0,
              (
                (λ m l. let lower : m < x.peer = l in omega arith),
                (λ d f. let t : (x.peer == d.peer) ≡ false = grind (arith, nat_tests, f, above) in rw t (w.1.1 d f)),
              ),
            )
      ] refl k

  -- the walk over the leader's entries
  abbrev pub entry_needs : LeaderValue ℕ EffectiveMembership → ℕ × ProgressEntry ℕ → Bool
  entry_needs l x = needs_below place (outstanding_of (peer_at nat_eq l x.0).inflight)

  any_entry : {X : Type 0} (test : ℕ → Bool) (xs : List (ℕ × X)) (n : ℕ) → has_node nat_eq xs n ≡ true → test n ≡ true → list_any (λ (x : ℕ × X). test x.0) xs ≡ true
  any_entry {X} test [] n h k = h
  any_entry {X} test (x ∷ xs) n h k =
      elim (nat_eq x.0 n) as (λ b. nat_eq x.0 n ≡ b → (b || has_node nat_eq xs n) ≡ true → (test x.0 || list_any (λ (y : ℕ × X). test y.0) xs) ≡ true) [
        | true ↦ λ e _. ap (λ b. b || list_any (λ (y : ℕ × X). test y.0) xs) (ap test (eqb-true x.0 n e) ∙ k)
        | false ↦ λ _ j. or_right (test x.0) (list_any (λ (y : ℕ × X). test y.0) xs) (any_entry test xs n j k)
      ] refl h

  some_entry : {X : Type 0} (test : ℕ → Bool) (xs : List (ℕ × X)) → list_any (λ (x : ℕ × X). test x.0) xs ≡ true → (n : ℕ) × (test n ≡ true)
  some_entry {X} test [] h = absurd (true≢false (sym h))
  some_entry {X} test (x ∷ xs) h =
      elim (test x.0) as (λ b. test x.0 ≡ b → (b || list_any (λ (y : ℕ × X). test y.0) xs) ≡ true → (n : ℕ) × (test n ≡ true)) [
        | true ↦ λ e _. (x.0, e)
        | false ↦ λ _ j. some_entry test xs j
      ] refl h

  busy_needs : (i : Inflight ℕ) → needs_below place (outstanding_of i) ≡ true → is_none (request_id i) ≡ false
  busy_needs Nothing h = absurd (true≢false (sym h))
  busy_needs (Logs id range) h = refl
  busy_needs (SnapshotInFlight id last) h = refl

  module _ (own : ℕ) (l : LeaderValue ℕ EffectiveMembership) (s : StoredGroup) (lead : Lead) (h : Leads own l s lead) where
    entry_there : (n : ℕ) → needs_below place (outstanding_of (peer_at nat_eq l n).inflight) ≡ true → list_any (entry_needs l) (l.progress.voters ++ l.progress.learners) ≡ true
    entry_there n k =
        let has = busy_has l n (busy_needs (peer_at nat_eq l n).inflight k) in
        list_any-append (entry_needs l) l.progress.voters l.progress.learners
        ∙ elim (has_node nat_eq l.progress.voters n) as (λ b. has_node nat_eq l.progress.voters n ≡ b → (b || has_node nat_eq l.progress.learners n) ≡ true
        → (list_any (entry_needs l) l.progress.voters || list_any (entry_needs l) l.progress.learners) ≡ true) [
          | true ↦ λ v _. or_left (list_any (entry_needs l) l.progress.voters) (list_any (entry_needs l) l.progress.learners)
              (any_entry (λ m. needs_below place (outstanding_of (peer_at nat_eq l m).inflight)) l.progress.voters n v k)
          | false ↦ λ _ v. or_right (list_any (entry_needs l) l.progress.voters) (list_any (entry_needs l) l.progress.learners)
              (any_entry (λ m. needs_below place (outstanding_of (peer_at nat_eq l m).inflight)) l.progress.learners n v k)
        ] refl has

    -- an entry needs it where a peer of the lead does
    pub kept_by_entries : list_any (entry_needs l) (l.progress.voters ++ l.progress.learners) ≡ is_kept_for_peers place lead.peers
    kept_by_entries =
        same_tests (list_any (entry_needs l) (l.progress.voters ++ l.progress.learners)) (is_kept_for_peers place lead.peers)
        (λ k. let w = some_entry (λ m. needs_below place (outstanding_of (peer_at nat_eq l m).inflight)) (l.progress.voters ++ l.progress.learners) k in
        peer_needs (new_peer lead.began w.0) lead.peers refl (ap (λ (p : PeerState). needs_below place p.outstanding) (h.peers w.0) ∙ w.1))
        (λ k. let w = found_needs lead.peers h.rising k in
        entry_there w.0 (ap (λ (p : PeerState). needs_below place p.outstanding) (sym (h.peers w.0)) ∙ w.1.1 (new_peer lead.began w.0) refl))
