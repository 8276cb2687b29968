-- Calls of a progress, one after the other.
use Rattle.std.specs.Prelude.{◌≡◌, Bool, true, false, Option, Some, None, List, [], ◌∷◌, ◌++◌}
use Rattle.std.specs.declared.cmp.Ordering.{Ordering}
use Rattle.std.specs.Ordering.{is_lt}
use Rattle.raft_progress.specs.declared.replaying.ReplayItem.{ReplayItem}
use Rattle.raft_progress.specs.declared.replaying.ReplayItem.TheVariants.{Update, IncreaseTo, UpgradeQuorumSet}
use Rattle.raft_progress.specs.declared.replaying.ReplayError.{ReplayError}
use Rattle.raft_progress.specs.declared.replaying.ReplayError.TheVariants.{Lowers, Memory}
use Rattle.raft_progress.specs.Counted.{lowers_value}
use Rattle.raft_progress.specs.Parts.{Parts, IsUpgraded, SetsValue, value_of}
use Rattle.raft_progress.specs.Values.{rises_above, value_at}

module _ {K V P Q : Type 0} (eq : K → K → Bool) (cmp : P → P → Ordering) (compared : V → P) where
  -- the value is set where that raises it, else nothing changes
  pub record Increases (old new : Parts K V P Q) (id : K) (value : V) : Type 0 where
    pub rising : rises_above cmp compared (value_of eq old id) value ≡ true → SetsValue eq old new id value
    pub other : rises_above cmp compared (value_of eq old id) value ≡ false → new ≡ old

  -- the update would lower a voter's value
  abbrev pub lowers : Parts K V P Q → ReplayItem K V Q → Bool
  lowers p (Update id value) = lowers_value cmp compared (value_at eq p.voters id) value
  lowers p (IncreaseTo id value) = false
  lowers p (UpgradeQuorumSet counts learner_ids default) = false

  -- another quorum set takes memory
  abbrev pub takes_memory : ReplayItem K V Q → Bool
  takes_memory (Update id value) = false
  takes_memory (IncreaseTo id value) = false
  takes_memory (UpgradeQuorumSet counts learner_ids default) = true

  -- why the item is refused
  abbrev pub IsRefused : Parts K V P Q → ReplayItem K V Q → ReplayError → Type 0
  IsRefused p item Lowers = lowers p item ≡ true
  IsRefused p item Memory = takes_memory item ≡ true

module _ {K V P Q : Type 0} (eq : K → K → Bool) (cmp : P → P → Ordering) (compared : V → P) (members : Q → List K) where
  -- what one item does
  abbrev pub DoesItem : Parts K V P Q → ReplayItem K V Q → Parts K V P Q → Type 0
  DoesItem old (Update id value) new = SetsValue eq old new id value
  DoesItem old (IncreaseTo id value) new = Increases eq cmp compared old new id value
  DoesItem old (UpgradeQuorumSet counts learner_ids default) new =
      IsUpgraded eq old new counts (members counts) learner_ids.items default × (new.built_with ≡ compared default)

  -- what the items do, one after the other
  abbrev pub Replays : Parts K V P Q → List (ReplayItem K V Q) → Parts K V P Q → Type 0
  Replays old [] new = new ≡ old
  Replays old (item ∷ items) new = (between : Parts K V P Q) × DoesItem old item between × Replays between items new

  -- the items before one that is refused are done
  pub record StopsBefore (old : Parts K V P Q) (items : List (ReplayItem K V Q)) (new : Parts K V P Q) (error : ReplayError) : Type 0 where
    pub done : List (ReplayItem K V Q)
    pub item : ReplayItem K V Q
    pub left : List (ReplayItem K V Q)
    pub split : items ≡ done ++ item ∷ left
    pub replayed : Replays old done new
    pub refused : IsRefused eq cmp compared new item error
