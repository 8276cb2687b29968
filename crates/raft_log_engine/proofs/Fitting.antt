-- Where a batch is taken, or the entries that are asked for are there, no refusal is the caller's mistake.
use Rattle.std.proofs.Common.{◌≡◌, ◌⊎◌, inl, inr, ℕ, ◌-◌, ◌<◌, ◌≤◌, Bool, true, false, List, [], ◌∷◌, length, Option, Some, None, refl, sym, ap, subst, ◌∙◌, arith}
use Rattle.std.proofs.lemmas.Bool.{cases_lt, false≢true}
use Rattle.std.specs.List.{list_any}
use Rattle.std.specs.Option.{option_map}
use Rattle.std.specs.Prelude.{IsSome}
use Rattle.std.specs.BTreeMap.{get}
use Rattle.std.specs.Ordering.{nat_cmp}
use Rattle.raft_log_records.specs.declared.item.EntryIndex.{EntryIndex}
use Rattle.raft_log_records.specs.Item.{Item}
use Rattle.raft_log_records.specs.Places.{placed}
use Rattle.raft_log_records.specs.Spelling.{holds_mark, lengths}
use Rattle.raft_log_disk.specs.Disk.{Disk}
use Rattle.raft_log_disk.specs.Cause.{Meter}
use Rattle.raft_log_files.specs.declared.error.Error.TheVariants.{Io, Corruption, InvalidArgument, TryAgain, Memory, Other, EntryCompacted, EntryNotFound}
use Rattle.raft_log_file.specs.Laws.{Batch}
use Rattle.raft_log_recovery.proofs.LengthLemmas.{placed_lengths}
use Rattle.raft_log_memtables.specs.declared.memtable.MemTable.{MemTable}
use Rattle.raft_log_memtables.specs.declared.memtables.MemTables.{MemTables}
use Rattle.raft_log_memtables.specs.Content.{Content}
use Rattle.raft_log_memtables.specs.ContentLaws.{content_map}
use Rattle.raft_log_memtables.specs.MemTables.{content_in}
use Rattle.raft_log_memtables.specs.Tables.{content_by}
use Rattle.raft_log_memtables.specs.Taken.{TakesEach}
use Rattle.raft_log_marks.specs.Mapped.{items_map}
use Rattle.raft_log_marks.proofs.MappedLemmas.{each_before, each_mapped}
use Rattle.raft_content_log.specs.Leaving.{AreThere, AreUnmarked}
use Rattle.raft_log_engine.specs.Caused.{IsFetchFault, IsWriteFault}
use Rattle.raft_log_engine.specs.Left.{answers_on}
use Rattle.raft_log_engine.specs.Met.{IsMisuse}
use Rattle.raft_log_engine.specs.Parts.{Parts}
use Rattle.raft_log_engine.specs.Reads.{HasRead, IsStopped}
use Rattle.raft_log_engine.specs.declared.fault.EngineFault.{EngineFault}
use Rattle.raft_log_engine.specs.declared.fault.EngineFault.TheVariants.{Log, NotTaken, Marked, NotAMessage, Stopped}

-- ---- a batch is taken by the tables where it is by the content that they say: only which indexes have entries counts

abbrev entry_len : EntryIndex → ℕ
entry_len e = e.entry_len

abbrev any : ℕ → Unit {0}
any n = tt

same_places : (read : EntryIndex → List ℕ) (o : Option EntryIndex) → option_map any (option_map length (option_map read o)) ≡ option_map any (option_map entry_len o)
same_places read None = refl
same_places read (Some e) = refl

same_content : (read : EntryIndex → List ℕ) (content : Content EntryIndex) → content_map any (content_map length (content_map read content)) ≡ content_map any (content_map entry_len content)
same_content read content = λ i. λ group. record {
  there = (content group).there;
  entry = λ index. same_places read ((content group).entry index) i;
  value = (content group).value;
}

pub taken_placed : (read : EntryIndex → List ℕ) (items : Batch) (content : Content EntryIndex) → TakesEach items (content_map read content) → TakesEach (placed 0 items) content
taken_placed read items content takes =
    let by_length : TakesEach (lengths items) (content_map length (content_map read content)) = each_mapped length items (content_map read content) takes in
    let by_places : TakesEach (items_map entry_len (placed 0 items)) (content_map length (content_map read content)) =
    subst (λ (l : List (Item ℕ)). TakesEach l (content_map length (content_map read content))) (sym (placed_lengths 0 items)) by_length in
    let of_any : TakesEach (items_map any (items_map entry_len (placed 0 items))) (content_map any (content_map entry_len content)) =
    subst (λ (c : Content (Unit {0})). TakesEach (items_map any (items_map entry_len (placed 0 items))) c) (same_content read content)
    (each_mapped any (items_map entry_len (placed 0 items)) (content_map length (content_map read content)) by_places) in
    each_before entry_len (placed 0 items) content (each_before any (items_map entry_len (placed 0 items)) (content_map entry_len content) of_any)

-- ---- a write

module _ {F : Type 0} (disk : F → Disk) (e : Parts F) (old new : Meter) where
  pub fit_write : (items : Batch) (fault : EngineFault) → IsWriteFault disk e items old new fault → AreUnmarked items → TakesEach items (answers_on disk e) → IsMisuse fault → ⊥
  fit_write items Stopped why plain takes misuse = misuse
  fit_write items NotAMessage why plain takes misuse = misuse
  fit_write items (Log Memory) why plain takes misuse = misuse
  fit_write items (Log (Io f)) why plain takes misuse = misuse
  fit_write items (Log TryAgain) why plain takes misuse = misuse
  fit_write items (Log (Other f)) why plain takes misuse = misuse
  fit_write items (Log (Corruption f)) why plain takes misuse = misuse
  fit_write items (Log (InvalidArgument f)) why plain takes misuse = misuse
  fit_write [] Marked why plain takes misuse = why
  fit_write (item ∷ items) Marked why plain takes misuse = false≢true (sym plain ∙ why)
  fit_write [] NotTaken why plain takes misuse = why
  fit_write (item ∷ items) NotTaken why plain takes misuse = why (taken_placed _ (item ∷ items) (content_in e.tables) takes)
  fit_write [] (Log EntryCompacted) why plain takes misuse = why
  fit_write (item ∷ items) (Log EntryCompacted) why plain takes misuse = why
  fit_write [] (Log EntryNotFound) why plain takes misuse = why
  fit_write (item ∷ items) (Log EntryNotFound) why plain takes misuse = why

-- ---- entries

some_none : {A : Type 0} (o : Option A) → o ≡ None → IsSome o → ⊥
some_none None is some = absurd cc
some_none (Some x) is some = absurd cc

some_mapped : {A B : Type 0} (f : A → B) (o : Option A) → IsSome (option_map f o) → IsSome o
some_mapped f None some = some
some_mapped f (Some x) some = refl

none_by : (o : Option MemTable) (i : ℕ) → (content_by o).there ≡ false → (content_by o).entry i ≡ None
none_by None i gone = refl
none_by (Some t) i gone = absurd cc

-- a group that isn't there has no entry
gone_empty : (tables : MemTables) (group i : ℕ) → (content_in tables group).there ≡ false → (content_in tables group).entry i ≡ None
unfolding content_in
gone_empty tables group i gone = none_by (get nat_cmp tables.tables group) i gone

module _ {F : Type 0} (disk : F → Disk) (meter : F → Meter) (e : Parts F) (group begin end : ℕ) (some : begin < end) (there : AreThere (answers_on disk e group).entry begin end) where
  abbrev entries : ℕ → Option EntryIndex
  entries = (content_in e.tables group).entry

  is_there : (i : ℕ) → begin ≤ i → i < end → IsSome (entries i)
  is_there i from to = some_mapped _ (entries i) (there i from to)

  -- none of them is lacking
  pub fit_fetch : (fault : EngineFault) → IsFetchFault disk meter e (content_in e.tables group) begin end fault → IsMisuse fault → ⊥
  fit_fetch fault (inl (is, (first, least, below))) misuse = absurd (omega (arith, below, least.1 begin (is_there begin (omega arith) some)))
  fit_fetch fault (inr (inl (is, (i, from, to, none)))) misuse = some_none (entries i) none (is_there i from to)
  fit_fetch fault (inr (inr (inl stopped))) misuse = subst IsMisuse stopped.0 misuse
  fit_fetch fault (inr (inr (inr (inl memory)))) misuse = subst IsMisuse memory misuse
  fit_fetch fault (inr (inr (inr (inr (i, from, to, (place, at, inl memory)))))) misuse = subst IsMisuse memory misuse
  fit_fetch fault (inr (inr (inr (inr (i, from, to, (place, at, inr (h, in_block, unread))))))) misuse = subst IsMisuse unread.0 misuse

  -- and all are fetched
  pub all_fetched : (found : List (List ℕ)) → HasRead (answers_on disk e group) begin end None found → length found ≡ end - begin
  all_fetched found read = by_flag (content_in e.tables group).there refl
    where
      by_flag : (b : Bool) → (content_in e.tables group).there ≡ b → length found ≡ end - begin
      by_flag false gone = absurd (some_none (entries begin) (gone_empty e.tables group begin gone) (is_there begin (omega arith) some))
      by_flag true is = by_test (cases_lt (length found) (end - begin))
        where
          by_test : (length found < end - begin) ⊎ (end - begin ≤ length found) → length found ≡ end - begin
          by_test (inl short) = absurd (((read.there is).all short).1.2 tt)
          by_test (inr all) = omega (arith, all, (read.there is).short)
