-- Entries lie where their traces say, also those of one more batch.
use Rattle.std.proofs.Common.{◌≡◌, ℕ, ◌+◌, ◌<◌, ◌≤◌, Bool, true, false, cond, List, [], ◌∷◌, ◌++◌, length, map, Option, Some, None, refl, sym, ap, subst, ◌∙◌, arith, ltb-true, ltb-false}
use Rattle.std.specs.Prelude.{IsSome, nat_eq, nat_le, nat_lt}
use Rattle.std.specs.List.{AllByRecursion}
use Rattle.raft_log_records.specs.declared.file_id.FileBlockHandle.{FileBlockHandle}
use Rattle.raft_log_records.specs.declared.file_id.LogQueue.{LogQueue}
use Rattle.raft_log_records.specs.declared.file_id.LogQueue.TheVariants.{Append}
use Rattle.raft_log_records.specs.declared.item.AtomicGroupStatus.{AtomicGroupStatus}
use Rattle.raft_log_records.specs.declared.item.EntryIndex.{EntryIndex}
use Rattle.raft_log_records.specs.Item.{Change, Item, change_map, item_map, with_lengths}
use Rattle.raft_log_records.specs.Item.Change.{entries, clean, compact, put, delete, mark}
use Rattle.raft_log_records.specs.Spelling.{first_index}
use Rattle.raft_log_memtables.specs.Content.{Content, GroupContent, after_batch, after_change, after_item, entry_at}
use Rattle.raft_log_memtables.specs.ContentLaws.{content_map}
use Rattle.raft_log_memtables.specs.Entries.{placed_in}
use Rattle.raft_log_memtables.specs.MemTable.{items_in}
use Rattle.raft_log_memtables.specs.Replay.{mark_in, mark_of}
use Rattle.raft_log_memtables.specs.Taken.{TakesEach}
use Rattle.raft_log_memtables.proofs.Mapped.{batch_mapped}
use Rattle.raft_log_covers.specs.Kept.{Traces, traces_after, traces_after_item}
use Rattle.raft_log_covers.specs.Queues.{Filed, FilesRise}
use Rattle.raft_log_covers.specs.Trace.{Trace, cut, entered, greater, trace_after}
use Rattle.raft_log_covers.proofs.FileLemmas.{not_there}
use Rattle.raft_log_covers.proofs.TraceLemmas.{least_of_greater}
use Rattle.raft_log_traces.specs.Alike.{AreAlike, IsAlike}
use Rattle.raft_log_traces.proofs.LawLemmas.{entries_say_nothing}
use Rattle.raft_log_traced.specs.Traced.{file_on, lies_in}
use Rattle.raft_log_marks.specs.Opened.{TellPlaces, file_at}
use Rattle.raft_log_marks.specs.Standing.{CanBeCleaned}
use Rattle.raft_log_marks.specs.Whole.{Follows}
use Rattle.raft_log_marks.proofs.MappedLemmas.{first_mapped, none_before}
use Rattle.raft_log_marks.proofs.StandingLemmas.{writes_leave_cleanable}
use Rattle.raft_log_engine.proofs.Tables.{put_lengths}

-- the last batch may have other items
pub rise_last : {E : Type 0} (least : ℕ) (bs : List (Filed E)) (b c : Filed E) → c.file ≡ b.file → FilesRise least (bs ++ b ∷ []) → FilesRise least (bs ++ c ∷ [])
rise_last least [] b c same rise = (omega (arith, same, rise.0), tt)
rise_last least (a ∷ bs) b c same rise = (rise.0, rise_last a.file bs b c same rise.1)

-- ---- a change of a group, whose entries lie in a block of an append file

abbrev Tells : Trace → GroupContent EntryIndex → Type 0
Tells t g = (i : ℕ) → IsSome (g.entry i) → file_at lies_in (g.entry i) ≡ t.entry_file i

-- no entry stands but where the trace says that there are some
record IsWithin (t : Trace) (g : GroupContent EntryIndex) : Type 0 where
  pub below : (i : ℕ) → i < t.low → g.entry i ≡ None
  pub above : (i : ℕ) → t.low ≤ i → t.next ≤ i → g.entry i ≡ None

module _ (handle : FileBlockHandle) (queue : handle.id.queue ≡ Append) where
  abbrev lying : List (ℕ × EntryIndex) → List (ℕ × EntryIndex)
  lying es = map (λ e. (e.0, placed_in handle e.1)) es

  in_file : file_on handle.id.queue handle.id.seq ≡ Some handle.id.seq
  in_file = ap (λ (q : LogQueue). file_on q handle.id.seq) queue

  entries_lie : (es : List (ℕ × EntryIndex)) (i : ℕ) → IsSome (entry_at (lying es) i) → file_at lies_in (entry_at (lying es) i) ≡ Some handle.id.seq
  entries_lie [] i some = absurd cc
  entries_lie (e ∷ es) i some = by_test (nat_eq e.0 i) (entry_at (lying es) i) (entries_lie es i) some
    where
      by_test : (b : Bool) (rest : Option EntryIndex) → (IsSome rest → file_at lies_in rest ≡ Some handle.id.seq) → IsSome (cond b (Some (placed_in handle e.1)) rest)
          → file_at lies_in (cond b (Some (placed_in handle e.1)) rest) ≡ Some handle.id.seq
      by_test true rest of some = in_file
      by_test false rest of some = of some

  -- entries from an index on. Was one there before?
  entered_tells : (es : List (ℕ × EntryIndex)) (next : ℕ) (t : Trace) (g : GroupContent EntryIndex) → IsWithin t g → Tells t g → (b : Bool) → (b ≡ false → t.next ≤ t.low) → (n : ℕ) (i : ℕ) → (a : Bool)
      → IsSome (cond a (entry_at (lying es) i) (g.entry i)) → file_at lies_in (cond a (entry_at (lying es) i) (g.entry i)) ≡ cond a (Some handle.id.seq) (cond b (t.entry_file i) None)
  entered_tells es next t g within tells b none n i true some = entries_lie es i some
  entered_tells es next t g within tells true none n i false some = tells i some
  entered_tells es next t g within tells false none n i false some = by_place (nat_lt i t.low) refl
    where
      by_place : (c : Bool) → nat_lt i t.low ≡ c → file_at lies_in (g.entry i) ≡ None
      by_place true low = not_there (g.entry i) (within.below i (ltb-true i t.low low)) some
      by_place false high = not_there (g.entry i) (within.above i (omega (arith, ltb-false i t.low high)) (omega (arith, none refl, ltb-false i t.low high))) some

  entries_tell : (es : List (ℕ × EntryIndex)) (t : Trace) (g : GroupContent EntryIndex) → IsWithin t g → Tells t g → (b : Bool) → (b ≡ false → t.next ≤ t.low) → (next n : ℕ) → n ≡ first_index es
      → (i : ℕ) → IsSome (cond (nat_le n i) (entry_at (lying es) i) (g.entry i)) → file_at lies_in (cond (nat_le n i) (entry_at (lying es) i) (g.entry i)) ≡ (entered handle.id.seq (first_index es) next t b).entry_file i
  entries_tell es t g within tells true none next n is i some =
      entered_tells es next t g within tells true none n i (nat_le n i) some ∙ ap (λ (m : ℕ). cond (nat_le m i) (Some handle.id.seq) (t.entry_file i)) is
  entries_tell es t g within tells false none next n is i some =
      entered_tells es next t g within tells false none n i (nat_le n i) some ∙ ap (λ (m : ℕ). cond (nat_le m i) (Some handle.id.seq) None) is

  -- entries before an index go. Is one left?
  cut_tells : (limit : ℕ) (t : Trace) (g : GroupContent EntryIndex) → IsWithin t g → Tells t g → (b : Bool) → (b ≡ false → t.next ≤ greater t.low limit) → (i : ℕ)
      → IsSome (cond (nat_lt i limit) None (g.entry i)) → file_at lies_in (cond (nat_lt i limit) None (g.entry i)) ≡ (cut handle.id.seq (greater t.low limit) t b).entry_file i
  cut_tells limit t g within tells b none i some = by_limit (nat_lt i limit) refl some
    where
      -- the entry isn't below the first one
      not_below : limit ≤ i → IsSome (g.entry i) → greater t.low limit ≤ i
      not_below high some = by_low (nat_lt i t.low) refl (nat_lt t.low limit)
        where
          by_low : (c : Bool) → nat_lt i t.low ≡ c → (d : Bool) → cond d limit t.low ≤ i
          by_low true low d = not_there (g.entry i) (within.below i (ltb-true i t.low low)) some
          by_low false here true = high
          by_low false here false = omega (arith, ltb-false i t.low here)

      left : (b : Bool) → (b ≡ false → t.next ≤ greater t.low limit) → limit ≤ i → IsSome (g.entry i) → file_at lies_in (g.entry i) ≡ (cut handle.id.seq (greater t.low limit) t b).entry_file i
      left true none high some = tells i some ∙ by_low (nat_lt i (greater t.low limit)) refl
        where
          by_low : (c : Bool) → nat_lt i (greater t.low limit) ≡ c → t.entry_file i ≡ cond c None (t.entry_file i)
          by_low true low = absurd (omega (arith, ltb-true i (greater t.low limit) low, not_below high some))
          by_low false here = refl
      left false none high some =
          let both = least_of_greater t.low limit in
          let from = not_below high some in
          not_there (g.entry i) (within.above i (omega (arith, both.0, from)) (omega (arith, none refl, from))) some

      by_limit : (c : Bool) → nat_lt i limit ≡ c → IsSome (cond c None (g.entry i)) → file_at lies_in (cond c None (g.entry i)) ≡ (cut handle.id.seq (greater t.low limit) t b).entry_file i
      by_limit true low some = absurd cc
      by_limit false high some = left b none (omega (arith, ltb-false i limit high)) some

  change_tells : (change : Change EntryIndex) (t : Trace) (g : GroupContent EntryIndex) → IsWithin t g → Tells t g → Tells (trace_after handle.id.seq change t) (after_change (change_map (placed_in handle) change) g)
  change_tells (entries es) t g within tells i some =
      entries_tell es t g within tells (nat_lt t.low t.next) (λ none. omega (arith, ltb-false t.low t.next none)) (first_index es + length es) (first_index (lying es)) (first_mapped (placed_in handle) es) i some
  change_tells clean t g within tells i some = absurd cc
  change_tells (compact limit) t g within tells i some = cut_tells limit t g within tells (nat_lt (greater t.low limit) t.next) (λ none. omega (arith, ltb-false (greater t.low limit) t.next none)) i some
  change_tells (put name value) t g within tells i some = tells i some
  change_tells (delete name) t g within tells i some = tells i some
  change_tells (mark id status) t g within tells i some = tells i some

  item_tells : (item : Item EntryIndex) (traces : Traces) (content : Content EntryIndex) → ((group : ℕ) → IsWithin (traces group) (content group)) → TellPlaces lies_in traces content
      → TellPlaces lies_in (traces_after_item handle.id.seq item traces) (after_item (item_map (placed_in handle) item) content)
  item_tells item traces content within tells group = by_test (nat_eq item.group group)
    where
      by_test : (b : Bool) → Tells (cond b (trace_after handle.id.seq item.change (traces group)) (traces group)) (cond b (after_change (change_map (placed_in handle) item.change) (content group)) (content group))
      by_test true = change_tells item.change (traces group) (content group) (within group) (tells group)
      by_test false = tells group

  -- ---- the items of a batch, one by one

  abbrev seen : Content EntryIndex → Content ℕ
  seen content = content_map (λ e. e.entry_len) content

  cleaned_within : (first : ℕ) (traces : Traces) (records : List (List (Item ℕ))) (content : Content EntryIndex) (bs : List (Filed ℕ)) → CanBeCleaned first traces records (seen content) bs
      → (group : ℕ) → IsWithin (traces group) (content group)
  cleaned_within first traces records content bs can group =
      let knows = can.cleanable.kept.knows group in
      record {
        below = λ i low. none_before (λ (e : EntryIndex). e.entry_len) ((content group).entry i) (knows.below i low);
        above = λ i low high. none_before (λ (e : EntryIndex). e.entry_len) ((content group).entry i) (knows.above i low high);
      }

  rise_again : (first : ℕ) (bs : List (Filed ℕ)) (b c : Filed ℕ) → c.file ≡ b.file → FilesRise first (bs ++ b ∷ []) → FilesRise first ((bs ++ b ∷ []) ++ c ∷ [])
  rise_again first [] b c same rise = (rise.0, (omega (arith, same), tt))
  rise_again first (a ∷ bs) b c same rise = (rise.0, rise_again a.file bs b c same rise.1)

  -- no mark stands in the first item, nor in the others
  none_marked : (change : Change ℕ) (o : Option (ℕ × AtomicGroupStatus)) → mark_in change o ≡ None → (mark_in change None ≡ None) × (o ≡ None)
  none_marked (entries es) o none = (refl, none)
  none_marked clean o none = (refl, none)
  none_marked (compact limit) o none = (refl, none)
  none_marked (put name value) o none = (refl, none)
  none_marked (delete name) o none = (refl, none)
  none_marked (mark id status) o none = absurd cc

  same_alike : (t u : Trace) → t ≡ u → IsAlike t u
  same_alike t u same = subst (λ (x : Trace). IsAlike t x) same (record {
    low = refl;
    next = refl;
    top = refl;
    since = refl;
    tail = refl;
    entry_file = λ i. refl;
    key_file = λ k. refl;
    cleaned = refl;
    deleted = λ k. refl;
  })

  pub batch_tells : (first : ℕ) (records : List (List (Item ℕ))) (items : List (Item EntryIndex)) (traces : Traces) (content : Content EntryIndex) (bs : List (Filed ℕ)) → CanBeCleaned first traces records (seen content) bs
      → first ≤ handle.id.seq → FilesRise first (bs ++ record { file = handle.id.seq; items = with_lengths items } ∷ []) → TakesEach (with_lengths items) (seen content) → AllByRecursion (λ item. Follows item.change) (with_lengths items)
      → mark_of (with_lengths items) ≡ None → TellPlaces lies_in traces content → TellPlaces lies_in (traces_after handle.id.seq items traces) (after_batch (items_in handle items) content)
  batch_tells first records [] traces content bs can low rise takes follow none tells = tells
  batch_tells first records (item ∷ items) traces content bs can low rise takes follow none tells =
      let one : List (Item ℕ) = with_lengths (item ∷ []) in
      let filed : Filed ℕ = record { file = handle.id.seq; items = one } in
      let more : Filed ℕ = record { file = handle.id.seq; items = with_lengths items } in
      let marks = none_marked (change_map (λ (e : EntryIndex). e.entry_len) item.change) (mark_of (with_lengths items)) none in
      let after : Content EntryIndex = after_item (item_map (placed_in handle) item) content in
      let traced : Traces = traces_after_item handle.id.seq item traces in
      let alike : AreAlike (traces_after handle.id.seq one traces) traced = λ group. same_alike (traces_after handle.id.seq one traces group) (traced group) (entries_say_nothing (λ (e : EntryIndex). e.entry_len) handle.id.seq (item ∷ []) traces group) in
      let rises : FilesRise first (bs ++ filed ∷ []) = rise_last first bs (record { file = handle.id.seq; items = with_lengths (item ∷ items) }) filed refl rise in
      let is : after_batch one (seen content) ≡ seen after =
      ap (λ (l : List (Item ℕ)). after_batch l (seen content)) (sym (put_lengths handle (item ∷ []))) ∙ batch_mapped (λ (e : EntryIndex). e.entry_len) (items_in handle (item ∷ [])) content in
      let can_one : CanBeCleaned first traced records (after_batch one (seen content)) (bs ++ filed ∷ []) =
      writes_leave_cleanable first handle.id.seq traces traced records (seen content) bs one can low rises (takes.0, tt) (follow.0, tt) marks.0 alike in
      let takes_rest : TakesEach (with_lengths items) (seen after) = subst (λ (c : Content ℕ). TakesEach (with_lengths items) c) is takes.1 in
      batch_tells first records items traced after (bs ++ filed ∷ []) (subst (λ (c : Content ℕ). CanBeCleaned first traced records c (bs ++ filed ∷ [])) is can_one) low (rise_again first bs filed more refl rises)
      takes_rest follow.1 marks.1 (item_tells item traces content (cleaned_within first traces records content bs can) tells)

-- traces that say the same
pub alike_tell : (traces others : Traces) (content : Content EntryIndex) → AreAlike traces others → TellPlaces lies_in traces content → TellPlaces lies_in others content
alike_tell traces others content alike tells group i some = tells group i some ∙ (alike group).entry_file i
