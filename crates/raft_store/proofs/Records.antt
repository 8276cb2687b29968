-- How long the records of a store's batches are, and why one isn't made.
use Rattle.std.proofs.Common.{◌≡◌, ◌<◌, ◌≤◌, ◌+◌, ◌^◌, inl, inr, ℕ, List, [], ◌∷◌, ◌++◌, length, map, Ok, Err, refl, ap, sym, subst, ◌∙◌, arith, length-append}
use Rattle.std.specs.Prelude.{IfErr, IsErrAnd, Result}
use Rattle.std.specs.Int.{w32, w64, to_be_bytes}
use Rattle.std.proofs.lemmas.List.{length-map}
use Rattle.raft_values.specs.declared.log_id.LogId.{LogId}
use Rattle.raft_group_step.specs.Values.{Entry}
use Rattle.raft_log_records.specs.declared.error.RecordError.{RecordError}
use Rattle.raft_log_records.specs.declared.error.RecordError.TheVariants as records
use Rattle.raft_log_records.specs.declared.item.EntryIndex.{EntryIndex}
use Rattle.raft_log_records.specs.Batch.{Batch, Logs, LogsEntries, nothing_logged, run_of}
use Rattle.raft_log_records.specs.Item.{Item}
use Rattle.raft_log_records.specs.Item.Change.{compact, put}
use Rattle.raft_log_records.specs.Spelling.{record_len, spell_string}
use Rattle.raft_log_records.proofs.Runs.{record_len_run}
use Rattle.raft_log_records.proofs.Sound.{record_len_push}
use Rattle.raft_wire.specs.Entries.{spelled_entry}
use Rattle.raft_wire.specs.Fields.{spelled_log_id}
use Rattle.raft_store.specs.Batches.{end_changes, entry_changes, of_group, purge_changes}
use Rattle.raft_store.specs.Faults.{IsMemoryOr, refusal_of_record}
use Rattle.raft_store.specs.Keys.{end_key, purged_key}
use Rattle.raft_store.specs.Storable.{AreShort, IsPutRefusal}
use Rattle.raft_store.specs.declared.fault.StoreRefusal.{StoreRefusal}
use Rattle.raft_store.specs.declared.fault.StoreRefusal.TheVariants as refusal
use Rattle.raft_store.proofs.Lengths.{entries_len}

-- ---- one item more

pub no_items : record_len [] ≡ 16
unfolding record_len
no_items = refl

pub put_longer : (items : List (Item (List ℕ))) (group : ℕ) (key value : List ℕ) → record_len (items ++ of_group group (put key value ∷ [])) ≡ record_len items + (17 + length key + length value)
put_longer items group key value =
    let added : Item EntryIndex = record { group = group; change = put key value } in
    let a = record_len_push items added refl in
    let b = length-append (to_be_bytes w64 group) (4 ∷ (spell_string key ++ spell_string value)) in
    let c = length-append (spell_string key) (spell_string value) in
    let d = length-append (to_be_bytes w32 (length key)) key in
    let e = length-append (to_be_bytes w32 (length value)) value in
    omega arith

pub compact_longer : (items : List (Item (List ℕ))) (group index : ℕ) → record_len (items ++ of_group group (compact index ∷ [])) ≡ record_len items + 17
compact_longer items group index =
    let added : Item EntryIndex = record { group = group; change = compact index } in
    let a = record_len_push items added refl in
    let b = length-append (to_be_bytes w64 group) (3 ∷ to_be_bytes w64 index) in
    omega arith

-- with the log's end
pub end_longer : (items : List (Item (List ℕ))) (group end : ℕ) → record_len (items ++ of_group group (end_changes end)) ≡ record_len items + 28
end_longer items group end = put_longer items group end_key (to_be_bytes w64 end)

-- ---- batches that are never too long

-- memory ran out, where the record isn't too long
pub for_memory : (long : Type 0) (why : StoreRefusal) → (long → ⊥) → IsMemoryOr refusal.TooLong long why → why ≡ refusal.Memory
for_memory long why short (inl memory) = memory
for_memory long why short (inr is) = absurd (short is.1)

-- a key alone
pub put_alone : (items : List (Item (List ℕ))) (group : ℕ) (key value : List ℕ) (why : StoreRefusal) → items ≡ [] → length key + length value ≤ 33554399
    → IsMemoryOr refusal.TooLong (33554432 < record_len (items ++ of_group group (put key value ∷ []))) why → why ≡ refusal.Memory
put_alone items group key value why none few refused =
    for_memory (33554432 < record_len (items ++ of_group group (put key value ∷ []))) why (λ long. omega (arith, long, few, put_longer items group key value, ap record_len none, no_items)) refused

-- the log's end alone
pub end_alone : (items : List (Item (List ℕ))) (group end : ℕ) (why : StoreRefusal) → items ≡ []
    → IsMemoryOr refusal.TooLong (33554432 < record_len (items ++ of_group group (end_changes end))) why → why ≡ refusal.Memory
end_alone items group end why none refused =
    for_memory (33554432 < record_len (items ++ of_group group (end_changes end))) why (λ long. omega (arith, long, end_longer items group end, ap record_len none, no_items)) refused

module _ (group : ℕ) (id : LogId ℕ) where
  -- a purge point, where it is added to none
  purged_len : (items old : List (Item (List ℕ))) (value : List ℕ) → items ≡ [] → value ≡ spelled_log_id id → old ≡ items ++ of_group group (put purged_key value ∷ []) → record_len old ≡ 63
  purged_len items old value none written are =
      let a = put_longer items group purged_key value in
      let size : length value ≡ 24 = ap length written in
      omega (arith, ap record_len are, a, size, ap record_len none, no_items)

  -- the place behind it
  pub compact_refused : (items : List (Item (List ℕ))) (old new : Batch) (value : List ℕ) (index : ℕ) (error : RecordError) → items ≡ [] → value ≡ spelled_log_id id → old.items ≡ items ++ of_group group (put purged_key value ∷ [])
      → Logs old (record { group = group; change = compact index }) new (Err error) → refusal_of_record error ≡ refusal.Memory
  compact_refused items old new value index records.Memory none written are logs = refl
  compact_refused items old new value index records.TooLong none written are logs =
      absurd (let n = purged_len items old.items value none written are in omega (arith, logs.1, compact_longer old.items group index, n))
  compact_refused items old new value index (records.Corruption fault) none written are logs = absurd logs

  -- the log's end behind both
  pub purge_end : (items old : List (Item (List ℕ))) (end : ℕ) (why : StoreRefusal) → items ≡ [] → old ≡ items ++ of_group group (purge_changes id [])
      → IsMemoryOr refusal.TooLong (33554432 < record_len (old ++ of_group group (end_changes end))) why → why ≡ refusal.Memory
  purge_end items old end why none are refused =
      let all = are ∙ ap (λ (l : List (Item (List ℕ))). l ++ of_group group (purge_changes id [])) none in
      let purged = purged_len [] (of_group group (put purged_key (spelled_log_id id) ∷ [])) (spelled_log_id id) refl refl refl in
      let both = compact_longer (of_group group (put purged_key (spelled_log_id id) ∷ [])) group (id.index + 1) in
      for_memory (33554432 < record_len (old ++ of_group group (end_changes end))) why (λ long. omega (arith, long, end_longer old group end, ap record_len all, both, purged)) refused

-- ---- entries

module _ (group place : ℕ) (es : List Entry) where
  end_more : (e : Entry) (rest : List Entry) → es ≡ e ∷ rest → record_len (of_group group (entry_changes place es (place + length es))) ≡ record_len (run_of group place (map spelled_entry es) ∷ []) + 28
  end_more e rest are =
      subst (λ (all : List Entry). record_len (of_group group (entry_changes place all (place + length es))) ≡ record_len (run_of group place (map spelled_entry all) ∷ []) + 28) (sym are)
      (end_longer (run_of group place (map spelled_entry (e ∷ rest)) ∷ []) group (place + length es))

-- entries that aren't added
pub run_refused : (group place : ℕ) (es : List Entry) (new : Batch) (error : RecordError) → LogsEntries nothing_logged group place (map spelled_entry es) new (Err error) → IsPutRefusal group place es (refusal_of_record error)
run_refused group place [] new error logs = absurd (let e = logs.1 in cc)
run_refused group place (e ∷ es) new records.Memory logs = tt
run_refused group place (e ∷ es) new records.TooLong logs = omega (arith, logs.1, end_more group place (e ∷ es) e es refl)
run_refused group place (e ∷ es) new (records.Corruption fault) logs = absurd logs

-- the same, where they are added to none
pub run_refused_at : (group place : ℕ) (es : List Entry) (old new : Batch) (parts : List (List ℕ)) (error : RecordError) → old ≡ nothing_logged → parts ≡ map spelled_entry es
    → LogsEntries old group place parts new (Err error) → IsPutRefusal group place es (refusal_of_record error)
run_refused_at group place es old new parts error none are logs =
    run_refused group place es new error
    (subst (λ (b : Batch). LogsEntries b group place (map spelled_entry es) new (Err error)) none (subst (λ (l : List (List ℕ)). LogsEntries old group place l new (Err error)) are logs))

-- a few short ones are put where there are places for them, unless memory runs out
pub put_for_memory : (group place : ℕ) (es : List Entry) (why : StoreRefusal) → place + length es < 2 ^ 64 → length es ≤ 64 → AreShort es → IsPutRefusal group place es why → why ≡ refusal.Memory
put_for_memory group place es refusal.Memory places few short is = refl
put_for_memory group place es refusal.Gap places few short is = absurd is
put_for_memory group place es refusal.BelowPurge places few short is = absurd is
put_for_memory group place es refusal.NoPlace places few short is = absurd (omega (arith, is, places))
put_for_memory group place es refusal.TooLong places few short is = absurd (too_long es few short is)
  where
    too_long : (all : List Entry) → length all ≤ 64 → AreShort all → 33554432 < record_len (of_group group (entry_changes place all (place + length es))) → ⊥
    too_long [] few short long = omega (arith, long, end_longer [] group (place + length es), no_items)
    too_long (e ∷ rest) few short long =
        omega (
          arith,
          long,
          end_longer (run_of group place (map spelled_entry (e ∷ rest)) ∷ []) group (place + length es),
          record_len_run [] group place (map spelled_entry (e ∷ rest)),
          length-map (e ∷ rest) spelled_entry,
          entries_len (e ∷ rest) short,
        )
put_for_memory group place es (refusal.Value fault) places few short is = absurd (is.1 short)
put_for_memory group place es refusal.BadEnd places few short is = absurd is

-- ---- at an exit

pub err_as : {T E : Type 0} (P : E → Type 0) (r : Result T E) (e : E) → IsErrAnd r (λ x. x ≡ e) → P e → IfErr r P
err_as P (Ok v) e is p = absurd is
err_as P (Err x) e is p = subst P (sym is) p
