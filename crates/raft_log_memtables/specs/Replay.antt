-- Records of log files, replayed in their order: those of an atomic group count together or not at all.
-- E stands for an entry, and S for what the records are replayed into, by a step for the items of a batch.
use Rattle.std.specs.Prelude.{ℕ, nat_eq, if◌then◌else◌, List, [], ◌∷◌, ◌++◌, Option, Some, None}
use Rattle.raft_log_records.specs.Item.{Change, Item}
use Rattle.raft_log_records.specs.Item.Change.{entries, clean, compact, put, delete, mark}
use Rattle.raft_log_records.specs.declared.item.AtomicGroupStatus.{AtomicGroupStatus}
use Rattle.raft_log_records.specs.declared.item.AtomicGroupStatus.TheVariants.{Begin, Middle, End}
use Rattle.raft_log_memtables.specs.Content.{Content, nothing, after_batch}

abbrev pub mark_in : {E : Type 0} → Change E → Option (ℕ × AtomicGroupStatus) → Option (ℕ × AtomicGroupStatus)
mark_in (mark id status) others = Some (id, status)
mark_in (entries es) others = others
mark_in clean others = others
mark_in (compact limit) others = others
mark_in (put key value) others = others
mark_in (delete key) others = others

-- the atomic group that a record belongs to, and where in it the record stands
abbrev pub mark_of : {E : Type 0} → List (Item E) → Option (ℕ × AtomicGroupStatus)
mark_of [] = None
mark_of (item ∷ items) = mark_in item.change (mark_of items)

-- while records are replayed: what they made so far, and the items of an atomic group that has begun
pub record Replay (E S : Type 0) : Type 0 where
  pub state : S
  pub begun : Option (ℕ × List (Item E))

-- what the atomic group with this id has, if it is the one that has begun
abbrev pub begun_with : {E : Type 0} → ℕ → Option (ℕ × List (Item E)) → Option (List (Item E))
begun_with id None = None
begun_with id (Some g) = if nat_eq g.0 id then Some g.1 else None

-- the atomic group that has begun, with more items if it is the one with this id
abbrev pub begun_more : {E : Type 0} → ℕ → List (Item E) → Option (ℕ × List (Item E)) → Option (ℕ × List (Item E))
begun_more id items None = None
begun_more id items (Some g) = if nat_eq g.0 id then Some (g.0, g.1 ++ items) else Some g

module _ {E S : Type 0} (step : List (Item E) → S → S) where
  abbrev pub after_end : List (Item E) → Replay E S → Option (List (Item E)) → Replay E S
  after_end items r None = r
  after_end items r (Some before) = record { state = step (before ++ items) r.state; begun = None }

  abbrev pub after_status : ℕ → AtomicGroupStatus → List (Item E) → Replay E S → Replay E S
  after_status id Begin items r = record { state = r.state; begun = Some (id, items) }
  after_status id Middle items r = record { state = r.state; begun = begun_more id items r.begun }
  after_status id End items r = after_end items r (begun_with id r.begun)

  -- A record without a mark counts at once. A begin opens its atomic group anew; an end of the open group counts all of it;
  -- a middle or end of another one counts nothing.
  abbrev pub after_marked : List (Item E) → Option (ℕ × AtomicGroupStatus) → Replay E S → Replay E S
  after_marked items None r = record { state = step items r.state; begun = r.begun }
  after_marked items (Some m) r = after_status m.0 m.1 items r

  abbrev pub after_record : List (Item E) → Replay E S → Replay E S
  after_record items r = after_marked items (mark_of items) r

  abbrev pub after_records : List (List (Item E)) → Replay E S → Replay E S
  after_records [] r = r
  after_records (items ∷ records) r = after_records records (after_record items r)

-- the content of a list of records. An atomic group without its end counts nothing
abbrev pub content_of : {E : Type 0} → List (List (Item E)) → Content E
content_of records = (after_records after_batch records (record { state = nothing; begun = None })).state
