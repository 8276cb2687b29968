-- A round that ran: what is heard of it, record by record, keeps the lists.
use Rattle.std.proofs.Common.{◌≡◌, ◌⊎◌, ◌-◌, ◌≤◌, inl, inr, ℕ, zero, suc, not, Bool, true, false, cond, List, [], ◌∷◌, ◌++◌, Option, Some, None, drop, length, take, refl, sym, ap, ◌∙◌, subst, arith, length-append, ⊎_elim}
use Rattle.std.specs.List.{AllByRecursion, AllZip}
use Rattle.std.proofs.Math.Seq.{drop-append_seam, take-length}
use Rattle.std.proofs.lemmas.List.{length-map, length-take}
use Rattle.raft_laws.proofs.BallotAgreement.{same_some}
use Rattle.raft_machines.specs.Machine.{MachineRules}
use Rattle.raft_sent_frames.specs.Frames.{frames_of}
use Rattle.raft_list_facts.specs.declared.leading.Leading.{Leading}
use Rattle.raft_cluster_events.specs.declared.event.ClusterEvent.{ClusterEvent}
use Rattle.raft_cluster_events.specs.declared.event.ClusterEvent.TheVariants as event
use Rattle.raft_cluster_events.specs.declared.outcome.Recorded.{Recorded}
use Rattle.raft_cluster_events.specs.Node.{NodeActs}
use Rattle.raft_cluster_events.specs.States.{NodeStates}
use Rattle.raft_node_laws.specs.Law.{KeepsLaw}
use Rattle.raft_cluster_lists.specs.declared.brought.Brought.{Brought}
use Rattle.raft_cluster_lists.specs.declared.kept.KeptGroup.{KeptGroup}
use Rattle.raft_cluster_lists.specs.Groups.{IsReadyFor, IsSameGroup, KeepsOn, entries_of, kept_in}
use Rattle.raft_cluster_lists.specs.Hearing.{group_of}
use Rattle.raft_cluster_lists.proofs.ReadyLemmas.{fewer_ready}
use Rattle.raft_cluster.specs.Cluster.{ClusterValue, events_of}
use Rattle.raft_cluster.specs.Facts.{Sent, node_at, node_of}
use Rattle.raft_cluster.specs.Joined.{ids_of}
use Rattle.raft_cluster.specs.Round.{Rounds, is_crash, is_round}
use Rattle.raft_cluster.proofs.PlainLemmas.{first_set_up}
use Rattle.raft_cluster.proofs.CrashLemmas.{front_round}
use Rattle.raft_cluster.proofs.RoundLemmas.{IsFirst, first_of_round}
use Rattle.raft_listed_cluster.specs.Hearing.{Tells}
use Rattle.raft_listed_cluster.specs.Keeping.{KeepsLists}
use Rattle.raft_listed_cluster.specs.Listed.{lists_of}
use Rattle.raft_listed_cluster.specs.Preparing.{ArePrepared, ArePreparedFor, IsPreparedSo}
use Rattle.raft_listed_cluster.specs.Round.{AreReadyFor, HearsRound, heard_of}
use Rattle.raft_listed_cluster.proofs.GroupFacts.{begun_entries, begun_on, same_entries, same_on}
use Rattle.raft_listed_cluster.proofs.KeepingFacts.{IsKept}
use Rattle.raft_listed_cluster.proofs.ListFacts.{grow_on, same_grow}
use Rattle.raft_listed_cluster.proofs.PreparedFacts.{IsOneBegun}
use Rattle.raft_listed_cluster.proofs.RoundHeard.{ArePending, NextPending, round_keeps}
use Rattle.raft_listed_cluster.proofs.RoundKeeping.{IsPending, tells_own}

-- ---- what was prepared changes no list

pub round_lists : (events : List ClusterEvent) (olds news : List KeptGroup) → ArePreparedFor events olds news → (h : ℕ) → lists_of news h ≡ lists_of olds h
round_lists events olds news prepared h = go (prepared h)
  where
    go : KeepsOn IsSameGroup (kept_in olds h) (kept_in news h) ⊎ IsOneBegun events h (kept_in olds h) (kept_in news h) → entries_of (kept_in news h) ≡ entries_of (kept_in olds h)
    go (inl same) = same_entries (kept_in olds h) (kept_in news h) same
    go (inr (event, among, begun)) = begun_entries event h (kept_in olds h) (kept_in news h) begun

module _ {N : Type 0} (rules : MachineRules) (acts : NodeActs N) (states : NodeStates N) where
  pub round_prepared : (nodes : List N) (sent : Sent) (history : List Recorded) (events : List ClusterEvent) (olds news : List KeptGroup) → ArePreparedFor events olds news
      → KeepsLists rules acts states nodes sent history olds → KeepsLists rules acts states nodes sent history news
  round_prepared nodes sent history events olds news prepared keeps =
      let told = keeps.so_far.told in
      let ids = ids_of acts keeps.first in
      record {
        first = keeps.first;
        new = keeps.new;
        runs = keeps.runs;
        so_far = keeps.so_far;
        each = λ h. ⊎_elim
            (λ same. same_on rules ids told.stand.kept.node_ids h (told.stand.candidates h) told.plain (first_set_up h history) (kept_in olds h) (kept_in news h) same (keeps.each h))
            (λ one. begun_on rules ids told.stand.kept.node_ids h (told.stand.candidates h) told.plain (first_set_up h history) one.0 (kept_in olds h) (kept_in news h) one.2 (keeps.each h))
            (prepared h);
      }

-- ---- the events of a round that happened

-- each of these has one beside it, and there may be more of those
abbrev pub AllFront : {A B : Type 0} → (A → B → Type 0) → List A → List B → Type 0
AllFront R [] bs = Unit {0}
AllFront R (x ∷ xs) [] = ⊥
AllFront R (x ∷ xs) (b ∷ bs) = R x b × AllFront R xs bs

few_beside : {A B : Type 0} (R : A → B → Type 0) (xs : List A) (bs : List B) → AllFront R xs bs → length xs ≤ length bs
few_beside R [] bs all = omega arith
few_beside R (x ∷ xs) [] all = absurd all
few_beside R (x ∷ xs) (b ∷ bs) all = let fewer = few_beside R xs bs all.1 in omega arith

-- what was prepared for all that were asked for is so for those in front
front_prepared : (R : ClusterEvent → Brought → Type 0) (n : ℕ) (es : List ClusterEvent) (bs : List Brought) → AllZip R (heard_of es) bs → AllFront R (heard_of (take n es)) bs
front_prepared R zero es bs all = tt
front_prepared R (suc n) [] bs all = tt
front_prepared R (suc n) (e ∷ es) bs all = go (front_prepared R n es) (is_crash e) bs all
  where
    go : ((left : List Brought) → AllZip R (heard_of es) left → AllFront R (heard_of (take n es)) left) → (b : Bool) (bs : List Brought)
        → AllZip R (cond (not b) (e ∷ heard_of es) (heard_of es)) bs → AllFront R (cond (not b) (e ∷ heard_of (take n es)) (heard_of (take n es))) bs
    go rest true bs all = rest bs all
    go rest false [] all = absurd all
    go rest false (b ∷ bs) all = (all.0, rest bs all.1)

abbrev pub AreInFront : {N : Type 0} → NodeActs N → List N → Sent → ℕ → List KeptGroup → List ClusterEvent → List Brought → Type 0
AreInFront acts nodes sent n groups events bs = AllFront (IsPreparedSo acts nodes sent n groups) (heard_of events) bs

-- a crash needs no room
crash_ready : (e : ClusterEvent) (n : ℕ) (groups : List KeptGroup) → is_crash e ≡ true → IsReadyFor e n groups
crash_ready (event.AddGroup m g) n groups is = absurd (cc)
crash_ready (event.Ask m g call now) n groups is = absurd (cc)
crash_ready (event.Deliver g number cuts now) n groups is = absurd (cc)
crash_ready (event.ResetPeer m peer) n groups is = absurd (cc)
crash_ready (event.Clean m) n groups is = absurd (cc)
crash_ready (event.Fuse m first_refused) n groups is = absurd (cc)
crash_ready (event.Reopen m workers) n groups is = absurd (cc)
crash_ready (event.Crash m choice) n groups is = record { own = λ h of_group. absurd (let no : None ≡ Some h = of_group in cc); each = λ opens. absurd opens }

module _ {N : Type 0} (acts : NodeActs N) (nodes : List N) (sent : Sent) (groups : List KeptGroup) (n more : ℕ) (less : n ≤ more) where
  each_ready : (rs : List Recorded) (bs : List Brought) → AreInFront acts nodes sent more groups (events_of rs) bs → AllByRecursion (λ (r : Recorded). IsReadyFor r.event n groups) rs
  each_ready [] bs all = tt
  each_ready (r ∷ rs) bs all = go (each_ready rs) (is_crash r.event) refl bs all
    where
      go : ((left : List Brought) → AreInFront acts nodes sent more groups (events_of rs) left → AllByRecursion (λ (r : Recorded). IsReadyFor r.event n groups) rs) → (b : Bool) → is_crash r.event ≡ b → (bs : List Brought)
          → AllFront (IsPreparedSo acts nodes sent more groups) (cond (not b) (r.event ∷ heard_of (events_of rs)) (heard_of (events_of rs))) bs
          → IsReadyFor r.event n groups × AllByRecursion (λ (r : Recorded). IsReadyFor r.event n groups) rs
      go rest true is bs all = (crash_ready r.event n groups is, rest bs all)
      go rest false is [] all = absurd all
      go rest false is (b ∷ bs) all = (fewer_ready r.event n more groups less all.0.ready, rest bs all.1)

pub are_ready : {N : Type 0} (acts : NodeActs N) (nodes : List N) (sent : Sent) (groups : List KeptGroup) (more : ℕ) (rs : List Recorded) (bs : List Brought) → length rs ≤ more
    → AreInFront acts nodes sent more groups (events_of rs) bs → AreReadyFor rs bs groups
are_ready acts nodes sent groups more rs bs less all = record {
  each = each_ready acts nodes sent groups (length rs) more less rs bs all;
  brought = few_beside (IsPreparedSo acts nodes sent more groups) (heard_of (events_of rs)) bs all;
}

module _ {N : Type 0} (rules : MachineRules) (acts : NodeActs N) (states : NodeStates N) (law : KeepsLaw rules acts states)
    (nodes : List N) (sent : Sent) (history : List Recorded) (groups : List KeptGroup) (keeps : KeepsLists rules acts states nodes sent history groups) (n more : ℕ) (less : n ≤ more) where
  one_pending : (id : ℕ) (e : ClusterEvent) (b : Brought) → node_of sent e ≡ Some id → IsPreparedSo acts nodes sent more groups e b → IsPending rules acts states law nodes groups id e b n
  one_pending id e b named so =
      let T : Option ℕ → Type 0 = λ w. Tells acts (node_at acts nodes w) (group_of e) so.leading in
      let L : Option Leading → Type 0 = λ w. Tells acts (node_at acts nodes (Some id)) (group_of e) w in
      let tells : Tells acts (node_at acts nodes (Some id)) (group_of e) so.leading = subst T named so.tells in
      record {
        leading = so.leading;
        tells = tells;
        own = λ h of_group lead at. same_some (tells_own rules acts states law nodes sent history groups keeps (Some id) (group_of e) lead h of_group (subst L at tells));
        ready = fewer_ready e n more groups less so.ready;
        brings = so.brings;
      }

  pub are_pending : (rs : List Recorded) (bs : List Brought) → is_round sent (events_of rs) ≡ true → AreInFront acts nodes sent more groups (events_of rs) bs → ArePending rules acts states law sent nodes groups n rs bs
  are_pending [] bs round all = tt
  are_pending (r ∷ rs) bs round all = go (λ left others. are_pending rs left f.round others) (is_crash r.event) bs all
    where
      f : IsFirst sent r.event (events_of rs)
      f = first_of_round sent r.event (events_of rs) round

      go : ((left : List Brought) → AreInFront acts nodes sent more groups (events_of rs) left → ArePending rules acts states law sent nodes groups n rs left) → (b : Bool) (bs : List Brought)
          → AllFront (IsPreparedSo acts nodes sent more groups) (cond (not b) (r.event ∷ heard_of (events_of rs)) (heard_of (events_of rs))) bs
          → NextPending rules acts states law sent nodes groups n b r bs (λ left. ArePending rules acts states law sent nodes groups n rs left)
      go rest true bs all = rest bs all
      go rest false [] all = all
      go rest false (b ∷ bs) all = ((f.id, f.node, one_pending f.id r.event b f.node all.0), rest bs all.1)

-- ---- the whole round

-- what the history has behind its past
pub behind_past : (past records before now : List Recorded) → now ≡ past ++ records → before ≡ past → take (length now - length before) (drop (length before) now) ≡ records
behind_past past records before now is same =
    let rest : drop (length before) now ≡ records = ap (λ xs. drop (length xs) now) same ∙ ap (drop (length past)) is ∙ drop-append_seam past records in
    let count : length now - length before ≡ length records = omega (arith, ap length is, ap length same, length-append past records) in
    ap (λ n. take n (drop (length before) now)) count ∙ ap (take (length records)) rest ∙ take-length records

module _ {N : Type 0} (acts : NodeActs N) (old new : ClusterValue N) (asked : List ClusterEvent) (number : ℕ) (rounds : Rounds acts old asked number new) (olds : List KeptGroup) (bs : List Brought)
    (prepared : ArePrepared acts old.nodes (frames_of old.sent) (length asked) olds asked bs) where
  abbrev records : List Recorded
  records = rounds.runs.records

  -- what was prepared for all that were asked for is so for those that happened
  ran_prepared : AreInFront acts old.nodes (frames_of old.sent) (length asked) olds (events_of records) bs
  ran_prepared =
      let R : ClusterEvent → Brought → Type 0 = IsPreparedSo acts old.nodes (frames_of old.sent) (length asked) olds in
      subst (λ es. AllFront R (heard_of es) bs) (sym rounds.runs.events) (front_prepared R number asked bs prepared)

  few_records : length records ≤ length asked
  few_records =
      let few = length-take number asked in
      let count : length records ≡ length (events_of records) = sym (length-map records (λ (r : Recorded). r.event)) in
      omega (arith, count, few, ap length rounds.runs.events)

  pub ran_ready : AreReadyFor records bs olds
  ran_ready = are_ready acts old.nodes (frames_of old.sent) olds (length asked) records bs few_records ran_prepared

  module _ (rules : MachineRules) (states : NodeStates N) (law : KeepsLaw rules acts states) where
    pub round_is_kept : (groups news : List KeptGroup) → is_round (frames_of old.sent) asked ≡ true → ArePreparedFor asked groups olds → HearsRound acts new.nodes (frames_of new.sent) records bs olds news
        → KeepsLists rules acts states old.nodes (frames_of old.sent) old.history groups → IsKept rules acts states law new groups news
    round_is_kept groups news round on hears keeps =
        let first = frames_of old.sent in
        let before = round_prepared rules acts states old.nodes first old.history asked groups olds on keeps in
        let one : is_round first (events_of records) ≡ true = ap (is_round first) rounds.runs.events ∙ front_round first number asked round in
        let pending = are_pending rules acts states law old.nodes first old.history olds before (length records) (length asked) few_records records bs one ran_prepared in
        let kept = round_keeps rules acts states law first new.nodes (frames_of new.sent) records bs old.nodes first old.history olds news (λ group k frame e. e) one rounds.runs.runs pending hears before in
        let K : List Recorded → Type 0 = λ h. KeepsLists rules acts states new.nodes (frames_of new.sent) h news in
        record {
          keeps = subst K (sym rounds.runs.history) kept.keeps;
          grows = grow_on (lists_of groups) (lists_of olds) (lists_of news) (same_grow (lists_of groups) (lists_of olds) (round_lists asked groups olds on)) kept.grows;
        }
