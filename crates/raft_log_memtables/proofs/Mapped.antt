-- Items seen in another way make the content seen so.
use Rattle.std.proofs.Common.{◌≡◌, ℕ, Bool, true, false, cond, List, [], ◌∷◌, ◌++◌, map, Option, Some, None, refl, sym, ap, ◌∙◌}
use Rattle.std.specs.Prelude.{nat_eq, nat_le, nat_lt}
use Rattle.std.specs.Option.{option_map}
use Rattle.raft_log_records.specs.declared.item.AtomicGroupStatus.TheVariants.{Begin, Middle, End}
use Rattle.raft_log_records.specs.declared.item.AtomicGroupStatus.{AtomicGroupStatus}
use Rattle.raft_log_records.specs.Item.{Change, Item, change_map, item_map}
use Rattle.raft_log_records.specs.Item.Change.{entries, clean, compact, put, delete, mark}
use Rattle.raft_log_records.specs.Spelling.{first_index}
use Rattle.raft_log_memtables.specs.Content.{GroupContent, Content, nothing, entry_at, after_change, after_item, after_batch}
use Rattle.raft_log_memtables.specs.Replay.{Replay, mark_of, begun_with, begun_more, after_end, after_status, after_marked, after_record, after_records}
use Rattle.raft_log_memtables.specs.ContentLaws.{group_map, content_map, MapsContent, MapsReplay}
use Rattle.raft_log_memtables.proofs.Folds.{marks_mapped}

abbrev run_map : {E F : Type 0} → (E → F) → List (ℕ × E) → List (ℕ × F)
run_map f es = map (λ e. (e.0, f e.1)) es

abbrev items_map : {E F : Type 0} → (E → F) → List (Item E) → List (Item F)
items_map f items = map (item_map f) items

first_mapped : {E F : Type 0} (f : E → F) (es : List (ℕ × E)) → first_index (run_map f es) ≡ first_index es
first_mapped f [] = refl
first_mapped f (e ∷ es) = refl

either : {E F : Type 0} (f : E → F) (b : Bool) (x y : Option E) → cond b (option_map f x) (option_map f y) ≡ option_map f (cond b x y)
either f true x y = refl
either f false x y = refl

entry_mapped : {E F : Type 0} (f : E → F) (es : List (ℕ × E)) (index : ℕ) → entry_at (run_map f es) index ≡ option_map f (entry_at es index)
entry_mapped f [] index = refl
entry_mapped f (e ∷ es) index = ap (λ o. cond (nat_eq e.0 index) (Some (f e.1)) o) (entry_mapped f es index) ∙ either f (nat_eq e.0 index) (Some e.1) (entry_at es index)

abbrev there_as : {F : Type 0} → (ℕ → Option F) → (List ℕ → Option (List ℕ)) → GroupContent F
there_as entry value = record { there = true; entry = entry; value = value }

same_group : {F : Type 0} (a b : ℕ → Option F) (value : List ℕ → Option (List ℕ)) → ((index : ℕ) → a index ≡ b index) → there_as a value ≡ there_as b value
same_group a b value h = λ i. record { there = true; entry = λ index. h index i; value = value }

-- ---- a change

run_cell : {E F : Type 0} (f : E → F) (es : List (ℕ × E)) (old : ℕ → Option E) (index : ℕ)
    → cond (nat_le (first_index (run_map f es)) index) (entry_at (run_map f es) index) (option_map f (old index)) ≡ option_map f (cond (nat_le (first_index es) index) (entry_at es index) (old index))
run_cell f es old index =
    ap (λ (n : ℕ). cond (nat_le n index) (entry_at (run_map f es) index) (option_map f (old index))) (first_mapped f es)
    ∙ ap (λ o. cond (nat_le (first_index es) index) o (option_map f (old index))) (entry_mapped f es index)
    ∙ either f (nat_le (first_index es) index) (entry_at es index) (old index)

change_mapped : {E F : Type 0} (f : E → F) (c : Change E) (g : GroupContent E) → after_change (change_map f c) (group_map f g) ≡ group_map f (after_change c g)
change_mapped f (entries es) g = same_group _ _ g.value (run_cell f es g.entry)
change_mapped f clean g = refl
change_mapped f (compact limit) g = same_group _ _ g.value (λ index. either f (nat_lt index limit) None (g.entry index))
change_mapped f (put key value) g = refl
change_mapped f (delete key) g = refl
change_mapped f (mark id status) g = refl

-- ---- items

item_cell : {E F : Type 0} (f : E → F) (b : Bool) (c : Change E) (g : GroupContent E) → cond b (after_change (change_map f c) (group_map f g)) (group_map f g) ≡ group_map f (cond b (after_change c g) g)
item_cell f true c g = change_mapped f c g
item_cell f false c g = refl

item_mapped : {E F : Type 0} (f : E → F) (item : Item E) (content : Content E) → after_item (item_map f item) (content_map f content) ≡ content_map f (after_item item content)
item_mapped f item content = λ i. λ group. item_cell f (nat_eq item.group group) item.change (content group) i

pub batch_mapped : {E F : Type 0} (f : E → F) (items : List (Item E)) (content : Content E) → after_batch (items_map f items) (content_map f content) ≡ content_map f (after_batch items content)
batch_mapped f [] content = refl
batch_mapped f (item ∷ items) content = ap (after_batch (items_map f items)) (item_mapped f item content) ∙ batch_mapped f items (after_item item content)

-- ---- records

append_mapped : {E F : Type 0} (f : E → F) (items more : List (Item E)) → items_map f (items ++ more) ≡ items_map f items ++ items_map f more
append_mapped f [] more = refl
append_mapped f (item ∷ items) more = ap (λ l. item_map f item ∷ l) (append_mapped f items more)

abbrev Begun : Type 0 → Type 0
Begun E = Option (ℕ × List (Item E))

abbrev begun_map : {E F : Type 0} → (E → F) → Begun E → Begun F
begun_map f None = None
begun_map f (Some g) = Some (g.0, items_map f g.1)

abbrev replay_map : {E F : Type 0} → (E → F) → Replay E (Content E) → Replay F (Content F)
replay_map f r = record { state = content_map f r.state; begun = begun_map f r.begun }

abbrev made : {E : Type 0} → Content E → Begun E → Replay E (Content E)
made state begun = record { state = state; begun = begun }

more_by : {E F : Type 0} (f : E → F) (b : Bool) (id : ℕ) (before items : List (Item E))
    → cond b (Some (id, items_map f before ++ items_map f items)) (Some (id, items_map f before)) ≡ begun_map f (cond b (Some (id, before ++ items)) (Some (id, before)))
more_by f true id before items = ap (λ l. Some (id, l)) (sym (append_mapped f before items))
more_by f false id before items = refl

more_mapped : {E F : Type 0} (f : E → F) (id : ℕ) (items : List (Item E)) (begun : Begun E) → begun_more id (items_map f items) (begun_map f begun) ≡ begun_map f (begun_more id items begun)
more_mapped f id items None = refl
more_mapped f id items (Some g) = more_by f (nat_eq g.0 id) g.0 g.1 items

end_by : {E F : Type 0} (f : E → F) (b : Bool) (items before : List (Item E)) (r : Replay E (Content E))
    → after_end after_batch (items_map f items) (replay_map f r) (cond b (Some (items_map f before)) None) ≡ replay_map f (after_end after_batch items r (cond b (Some before) None))
end_by f true items before r =
    ap (λ l. made (after_batch l (content_map f r.state)) None) (sym (append_mapped f before items))
    ∙ ap (λ s. made s None) (batch_mapped f (before ++ items) r.state)
end_by f false items before r = refl

end_mapped : {E F : Type 0} (f : E → F) (id : ℕ) (items : List (Item E)) (state : Content E) (begun : Begun E)
    → after_end after_batch (items_map f items) (replay_map f (made state begun)) (begun_with id (begun_map f begun)) ≡ replay_map f (after_end after_batch items (made state begun) (begun_with id begun))
end_mapped f id items state None = refl
end_mapped f id items state (Some g) = end_by f (nat_eq g.0 id) items g.1 (made state (Some g))

marked_mapped : {E F : Type 0} (f : E → F) (items : List (Item E)) (m : Option (ℕ × AtomicGroupStatus)) (r : Replay E (Content E))
    → after_marked after_batch (items_map f items) m (replay_map f r) ≡ replay_map f (after_marked after_batch items m r)
marked_mapped f items None r = ap (λ s. made s (begun_map f r.begun)) (batch_mapped f items r.state)
marked_mapped f items (Some m) r = by_status m.0 m.1
  where
    by_status : (id : ℕ) (status : AtomicGroupStatus) → after_status after_batch id status (items_map f items) (replay_map f r) ≡ replay_map f (after_status after_batch id status items r)
    by_status id Begin = refl
    by_status id Middle = ap (λ b. made (content_map f r.state) b) (more_mapped f id items r.begun)
    by_status id End = end_mapped f id items r.state r.begun

record_mapped : {E F : Type 0} (f : E → F) (items : List (Item E)) (r : Replay E (Content E)) → after_record after_batch (items_map f items) (replay_map f r) ≡ replay_map f (after_record after_batch items r)
record_mapped f items r =
    ap (λ m. after_marked after_batch (items_map f items) m (replay_map f r)) (marks_mapped f items) ∙ marked_mapped f items (mark_of items) r

records_mapped : {E F : Type 0} (f : E → F) (records : List (List (Item E))) (r : Replay E (Content E))
    → after_records after_batch (map (items_map f) records) (replay_map f r) ≡ replay_map f (after_records after_batch records r)
records_mapped f [] r = refl
records_mapped f (items ∷ records) r = ap (after_records after_batch (map (items_map f) records)) (record_mapped f items r) ∙ records_mapped f records (after_record after_batch items r)

pub maps_content : {E F : Type 0} → MapsContent E F
maps_content f items content = batch_mapped f items content

pub maps_replay : {E F : Type 0} → MapsReplay E F
maps_replay f records = ap (λ r. r.state) (records_mapped f records (made nothing None))
