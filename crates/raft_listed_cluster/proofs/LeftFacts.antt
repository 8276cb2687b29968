-- What is left to be heard of a round, record by record.
use Rattle.std.proofs.Common.{◌≡◌, ◌≤◌, ℕ, suc, not, Bool, true, false, cond, List, ◌∷◌, [], length, sym, subst, arith}
use Rattle.std.specs.List.{AllByRecursion}
use Rattle.raft_cluster_events.specs.declared.event.ClusterEvent.{ClusterEvent}
use Rattle.raft_cluster_events.specs.declared.outcome.Recorded.{Recorded}
use Rattle.raft_cluster_events.specs.Node.{NodeActs}
use Rattle.raft_cluster_lists.specs.declared.brought.Brought.{Brought}
use Rattle.raft_cluster_lists.specs.declared.kept.KeptGroup.{KeptGroup}
use Rattle.raft_cluster_lists.specs.Groups.{IsReadyFor, KeepReady}
use Rattle.raft_cluster_lists.proofs.ReadyLemmas.{fewer_ready}
use Rattle.raft_cluster.specs.Cluster.{events_of}
use Rattle.raft_cluster.specs.Facts.{Sent, node_of}
use Rattle.raft_listed_cluster.specs.Hearing.{IsHeardThen}
use Rattle.raft_cluster.specs.Round.{is_crash}
use Rattle.raft_listed_cluster.specs.Round.{AreReadyFor, HearsNext, HearsRound, heard_of}

all_fewer : (n : ℕ) (olds news : List KeptGroup) → ((e : ClusterEvent) → IsReadyFor e (suc n) olds → IsReadyFor e n news) → (rs : List Recorded)
    → AllByRecursion (λ (r : Recorded). IsReadyFor r.event (suc n) olds) rs → AllByRecursion (λ (r : Recorded). IsReadyFor r.event n news) rs
all_fewer n olds news on [] all = tt
all_fewer n olds news on (r ∷ rs) all = (on r.event all.0, all_fewer n olds news on rs all.1)

-- how many are still to be heard of
count_left : (r : Recorded) (rs : List Recorded) (b : Bool) (n : ℕ) → is_crash r.event ≡ b → length (heard_of (events_of (r ∷ rs))) ≤ n
    → length (cond (not b) (r.event ∷ heard_of (events_of rs)) (heard_of (events_of rs))) ≤ n
count_left r rs b n is fewer = subst (λ w. length (cond (not w) (r.event ∷ heard_of (events_of rs)) (heard_of (events_of rs))) ≤ n) is fewer

-- the next one has room
pub ready_now : (r : Recorded) (rs : List Recorded) (bs : List Brought) (groups : List KeptGroup) → AreReadyFor (r ∷ rs) bs groups → IsReadyFor r.event 1 groups
ready_now r rs bs groups ready = fewer_ready r.event 1 (suc (length rs)) groups (omega arith) ready.each.0

pub ready_past : (r : Recorded) (rs : List Recorded) (bs : List Brought) (groups : List KeptGroup) → is_crash r.event ≡ true → AreReadyFor (r ∷ rs) bs groups → AreReadyFor rs bs groups
ready_past r rs bs groups crash ready = record {
  each = all_fewer (length rs) groups groups (λ e all. fewer_ready e (length rs) (suc (length rs)) groups (omega arith) all) rs ready.each.1;
  brought = count_left r rs true (length bs) crash ready.brought;
}

pub ready_on : (r : Recorded) (rs : List Recorded) (b : Brought) (bs : List Brought) (olds news : List KeptGroup) → is_crash r.event ≡ false → ((n : ℕ) → KeepReady (suc n) n olds news)
    → AreReadyFor (r ∷ rs) (b ∷ bs) olds → AreReadyFor rs bs news
ready_on r rs b bs olds news here room ready = record {
  each = all_fewer (length rs) olds news (λ e all. room (length rs) e all) rs ready.each.1;
  brought = let count = count_left r rs false (suc (length bs)) here ready.brought in omega arith;
}

module _ {N : Type 0} (acts : NodeActs N) (nodes : List N) (sent : Sent) where
  pub hears_past : (r : Recorded) (rs : List Recorded) (bs : List Brought) (olds news : List KeptGroup) → is_crash r.event ≡ true → HearsRound acts nodes sent rs bs olds news → HearsRound acts nodes sent (r ∷ rs) bs olds news
  hears_past r rs bs olds news crash rest =
      subst (λ w. HearsNext acts nodes sent w r bs (λ left mids ends. HearsRound acts nodes sent rs left mids ends) olds news) (sym crash) rest

  pub hears_on : (r : Recorded) (rs : List Recorded) (b : Brought) (bs : List Brought) (olds mids news : List KeptGroup) → is_crash r.event ≡ false
      → IsHeardThen acts nodes sent (node_of sent r.event) r.event r.outcome b olds mids → HearsRound acts nodes sent rs bs mids news → HearsRound acts nodes sent (r ∷ rs) (b ∷ bs) olds news
  hears_on r rs b bs olds mids news here heard rest =
      subst (λ w. HearsNext acts nodes sent w r (b ∷ bs) (λ left mids ends. HearsRound acts nodes sent rs left mids ends) olds news) (sym here) (mids, heard, rest)
