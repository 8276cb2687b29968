-- A record that is written anew, and a sync.
use Rattle.std.proofs.Common.{◌≡◌, ◌⊎◌, inl, inr, ℕ, zero, suc, ◌≤◌, true, List, [], ◌∷◌, ◌++◌, length, take, Option, Some, None, refl, sym, ap, subst, ◌∙◌, arith, append_assoc, append-nil}
use Rattle.std.specs.Prelude.{IsSome}
use Rattle.std.specs.List.{list_any}
use Rattle.std.specs.Option.{option_map}
use Rattle.std.proofs.lemmas.List.{map-append}
use Rattle.raft_log_records.specs.declared.file_id.FileId.{FileId}
use Rattle.raft_log_records.specs.declared.item.EntryIndex.{EntryIndex}
use Rattle.raft_log_records.specs.Item.{Item, entry_bytes, items_of}
use Rattle.raft_log_records.specs.Spelling.{block_of, holds_entries}
use Rattle.raft_log_disk.specs.Disk.{Disk}
use Rattle.raft_log_file.specs.Laws.{Batch}
use Rattle.raft_log_pipe.specs.declared.file.File.{File}
use Rattle.raft_log_pipe.specs.declared.pipe.SinglePipe.{SinglePipe}
use Rattle.raft_log_pipe.specs.Appending.{LeavesAppended}
use Rattle.raft_log_pipe.specs.Pipe.{Holds, IsPipe, Numbered, first_of}
use Rattle.raft_log_pipe.proofs.BlockLemmas.{same_files}
use Rattle.raft_log_pipes.specs.declared.pipes.DualPipes.{DualPipes}
use Rattle.raft_log_pipes.specs.Pipes.{IsAsBefore}
use Rattle.raft_log_memtables.specs.Content.{Content}
use Rattle.raft_log_memtables.specs.ContentLaws.{content_map}
use Rattle.raft_log_memtables.specs.Entries.{or_else, placed_in}
use Rattle.raft_log_memtables.specs.Laws.{all_of}
use Rattle.raft_log_memtables.specs.MemTables.{content_in}
use Rattle.raft_log_memtables.specs.Moved.{moved}
use Rattle.raft_log_covers.specs.Written.{Written, all_records}
use Rattle.raft_log_traces.specs.GroupTraces.{traces_in}
use Rattle.raft_log_marks.specs.Standing.{CanBeCleaned}
use Rattle.raft_log_marks.specs.Opened.{TellPlaces}
use Rattle.raft_log_purge.specs.Anew.{AreAnew, StandTogether}
use Rattle.raft_log_purge.proofs.AnewLemmas.{anew_written}
use Rattle.raft_log_purge.proofs.RewrittenAnew.{all_anew_leave_cleanable, groups_anew_leave_cleanable, together_stays}
use Rattle.raft_log_purge.proofs.StepLemmas.{no_steps}
use Rattle.raft_log_blocks.specs.Held.{IsTabled, LiesIn, ReadsEntries, content_of_batches}
use Rattle.raft_log_blocks.proofs.HeldLemmas.{same_lies}
use Rattle.raft_log_blocks.proofs.NewEntries.{IsPut}
use Rattle.raft_log_traced.specs.declared.traced.TracedTables.{TracedTables}
use Rattle.raft_log_traced.specs.Places.{items_moved}
use Rattle.raft_log_traced.specs.Traced.{lies_in}
use Rattle.raft_log_cleaner.specs.Cleaning.{FrontsRead, IsCleaning, LeavesContent, filed, records_of}
use Rattle.raft_log_cleaner.specs.Pipes.{KeepsPipes, LeavesPipes}
use Rattle.raft_log_cleaner.specs.Written.{written_at}
use Rattle.raft_log_cleaner.proofs.Going.{still_left}
use Rattle.raft_log_cleaner.proofs.Moved.{content_stays, entry_moved, places_told, still_there}
use Rattle.raft_log_cleaner.proofs.Standing.{IsWritten, fronts_all, fronts_more, measured, new_reads, old_reads, pipe_leaves, reads_as, same_by, still_leaves}
use Rattle.raft_log_cleaner.proofs.Written.{FileAfter, some_held, written_behind, written_mapped}
use Rattle.raft_log_rewriter.specs.Parts.{MayFollow}
use Rattle.raft_log_rewriter.specs.Standing.{LieAnew, LiesFrom, Stands}
use Rattle.raft_log_rewriter.proofs.Items.{all-last}
use Rattle.raft_log_rewriter.proofs.Numbers.{AreFrom, active_stays, first_stays, from-append}

-- ---- records of batches

records-both : (bs more : Numbered) → records_of (bs ++ more) ≡ records_of bs ++ records_of more
records-both bs more = map-append (λ b. b.1) bs more

take_records : (n : ℕ) (bs : Numbered) → records_of (take n bs) ≡ take n (records_of bs)
take_records zero bs = refl
take_records (suc n) [] = refl
take_records (suc n) (b ∷ bs) = ap (λ (l : List Batch). b.1 ∷ l) (take_records n bs)

-- a front of the last ones is a front of all
front_of_both : (n : ℕ) (new fresh : Numbered) → (m : ℕ) × (records_of (new ++ take n fresh) ≡ take m (records_of (new ++ fresh)))
front_of_both n [] fresh = (n, take_records n fresh)
front_of_both n (b ∷ new) fresh = let rest = front_of_both n new fresh in (suc rest.0, ap (λ (l : List Batch). b.1 ∷ l) rest.1)

-- ---- what stands reads as the content

module _ (d : Disk) (p : DualPipes) (log : TracedTables) (next : ℕ) (ws : List (Written (List ℕ))) (content : Content (List ℕ)) (s : Stands d p log next ws content) where
  pub fronts_stand : FrontsRead content (s.old ++ s.new) s.fresh s.appends
  fronts_stand n =
      let front = front_of_both n s.new s.fresh in
      reads_as (first_of p.append) (traces_in log.traces) ((s.old ++ s.new) ++ take n s.fresh) s.appends content
      (subst (λ (l : List Batch). CanBeCleaned (first_of p.append) (traces_in log.traces) l content (filed s.appends))
      (ap (λ (l : List Batch). records_of s.old ++ l) (ap (take front.0) (sym s.records) ∙ sym front.1)
      ∙ sym (records-both s.old (s.new ++ take n s.fresh))
      ∙ ap records_of (sym (append_assoc s.old s.new (take n s.fresh))))
      (groups_anew_leave_cleanable (first_of p.append) (traces_in log.traces) (records_of s.old) ws content (filed s.appends) s.cleanable s.anew front.0))

  pub records_stand : records_of ((s.old ++ s.new) ++ s.fresh) ≡ records_of s.old ++ all_records ws
  records_stand = ap records_of (append_assoc s.old s.new s.fresh) ∙ records-both s.old (s.new ++ s.fresh) ∙ ap (λ (l : List Batch). records_of s.old ++ l) s.records

  pub can_stand : CanBeCleaned (first_of p.append) (traces_in log.traces) (records_of s.old ++ all_records ws) content (filed s.appends)
  can_stand = all_anew_leave_cleanable (first_of p.append) (traces_in log.traces) (records_of s.old) ws content (filed s.appends) s.cleanable s.anew

  all_together : StandTogether (records_of ((s.old ++ s.new) ++ s.fresh))
  all_together = subst (λ (l : List Batch). StandTogether l) (sym records_stand) ((together_stays (records_of s.old) s.together).more ws (anew_written content (traces_in log.traces) ws s.anew))

  -- as a cleaning that has nothing in its batch
  pub as_cleaning : IsCleaning d p log [] content
  as_cleaning = record {
    rewrites = s.old ++ s.new;
    fresh = s.fresh;
    appends = s.appends;
    before = traces_in log.traces;
    pipes = s.pipes;
    rewrite = s.rewrite;
    append = s.append;
    tabled = s.tabled;
    placed = s.placed;
    fronts = fronts_stand;
    cleanable = subst (λ (l : List Batch). CanBeCleaned (first_of p.append) (traces_in log.traces) l content (filed s.appends)) (sym records_stand) can_stand;
    steps = no_steps content (traces_in log.traces) [];
    together = λ is. all_together;
  }

  pub stands_leave : LeavesContent d p content
  stands_leave = still_leaves d p log [] content as_cleaning

pub stands_left : (d e : Disk) (p q : DualPipes) (log : TracedTables) (next : ℕ) (ws : List (Written (List ℕ))) (content : Content (List ℕ)) → Stands e q log next ws content → KeepsPipes d p e q → LeavesPipes d p e q
stands_left d e p q log next ws content s kept = still_left d e p q log [] content (as_cleaning e q log next ws content s) kept

-- ---- a record more

moved_none : (o w : Option EntryIndex) (x : EntryIndex) → w ≡ None → moved o w ≡ Some x → o ≡ Some x
moved_none None None x e is = absurd cc
moved_none (Some y) None x e is = is
moved_none o (Some z) x e is = absurd cc

moved_some : (o w : Option EntryIndex) (x y : EntryIndex) → w ≡ Some y → moved o w ≡ Some x → y ≡ x
moved_some None w x y e is = absurd cc
moved_some (Some z) None x y e is = absurd cc
moved_some (Some z) (Some v) x y e is = let one : v ≡ y = cc in let two : v ≡ x = cc in sym one ∙ two

module _ (d e : Disk) (p q : DualPipes) (log new : TracedTables) (items : Batch) (next : ℕ) (ws more : List (Written (List ℕ))) (content : Content (List ℕ)) (s : Stands d p log next ws content)
    (m : MayFollow content (traces_in log.traces) ws items more) where
  abbrev rewrites : Numbered
  rewrites = s.old ++ s.new

  abbrev all : Numbered
  all = rewrites ++ s.fresh

  abbrev tables_content : Content EntryIndex
  tables_content = content_in log.tables

  records_more : (seq : ℕ) → records_of (s.new ++ (s.fresh ++ (seq, items) ∷ [])) ≡ all_records more
  records_more seq =
      ap records_of (sym (append_assoc s.new s.fresh ((seq, items) ∷ []))) ∙ records-both (s.new ++ s.fresh) ((seq, items) ∷ []) ∙ ap (λ (l : List Batch). l ++ items ∷ []) s.records ∙ m.records

  can_more : (seq : ℕ) → CanBeCleaned (first_of p.append) (traces_in log.traces) (records_of (rewrites ++ (s.fresh ++ (seq, items) ∷ []))) content (filed s.appends)
  can_more seq =
      subst (λ (l : List Batch). CanBeCleaned (first_of p.append) (traces_in log.traces) l content (filed s.appends))
      (ap (λ (l : List Batch). records_of s.old ++ l) (sym (records_more seq))
      ∙ sym (records-both s.old (s.new ++ (s.fresh ++ (seq, items) ∷ [])))
      ∙ ap records_of (sym (append_assoc s.old s.new (s.fresh ++ (seq, items) ∷ []))))
      (all_anew_leave_cleanable (first_of p.append) (traces_in log.traces) (records_of s.old) more content (filed s.appends) s.cleanable m.anew)

  reads_more : (seq : ℕ) → content_of_batches ((rewrites ++ (s.fresh ++ (seq, items) ∷ [])) ++ s.appends) ≡ content
  reads_more seq = reads_as (first_of p.append) (traces_in log.traces) (rewrites ++ (s.fresh ++ (seq, items) ∷ [])) s.appends content (can_more seq)

  reads_behind : (seq : ℕ) → content_of_batches ((all ++ (seq, items) ∷ []) ++ s.appends) ≡ content
  reads_behind seq = ap (λ (l : Numbered). content_of_batches (l ++ s.appends)) (append_assoc rewrites s.fresh ((seq, items) ∷ [])) ∙ reads_more seq

  -- a write that was refused leaves the record or not
  pub refused : LeavesAppended q.rewrite e rewrites s.fresh items → IsAsBefore p.append d q.append e → LeavesContent e q content
  refused left other = record {
    rewrites = rewrites;
    fresh = s.fresh ++ (left.0, items) ∷ [];
    appends = s.appends;
    rewrite = left.1;
    append = pipe_leaves q.append e s.appends [] (other.holds s.appends [] s.append);
    fronts = fronts_more content rewrites s.fresh s.appends (left.0, items) (fronts_stand d p log next ws content s) (reads_more left.0);
  }

  module _ (w : IsWritten d p log items e q new) where
    abbrev seq : ℕ
    seq = w.handle.id.seq

    abbrev behind : Numbered
    behind = all ++ (w.handle.id.seq, items) ∷ []

    abbrev drained_items : List (Item EntryIndex)
    drained_items = items_of w.drained.items.items

    put : IsPut q.rewrite all items w.handle w.block w.place
    put = record { at = w.at rewrites s.fresh s.rewrite; stands = w.stands; is = w.is }

    written_bytes : (group i : ℕ) → written_at items group i ≡ option_map (entry_bytes (block_of items)) (written_at drained_items group i)
    written_bytes group i = ap (λ (l : Batch). written_at l group i) (sym w.bytes) ∙ written_mapped (entry_bytes (block_of items)) drained_items group i

    -- an entry of the record is that of the content
    written_is : (group i : ℕ) (x : EntryIndex) → written_at drained_items group i ≡ Some x → (content group).entry i ≡ Some (entry_bytes (block_of items) x)
    written_is group i x is = m.stored.bytes group i (entry_bytes (block_of items) x) (written_bytes group i ∙ ap (option_map (entry_bytes (block_of items))) is)

    written_some : (group i : ℕ) (x : EntryIndex) → written_at drained_items group i ≡ Some x → list_any holds_entries items ≡ true
    written_some group i x is = some_held items group i (entry_bytes (block_of items) x) (written_bytes group i ∙ ap (option_map (entry_bytes (block_of items))) is)

    written_len : (group i : ℕ) (x : EntryIndex) → written_at drained_items group i ≡ Some x → option_map length ((content group).entry i) ≡ Some x.entry_len
    written_len group i x is =
        ap (option_map length) (written_is group i x is)
        ∙ sym (ap (option_map length) (written_bytes group i ∙ ap (option_map (entry_bytes (block_of items))) is))
        ∙ sym (written_mapped length items group i)
        ∙ ap (λ (l : List (Item ℕ)). written_at l group i) (sym w.lens)
        ∙ written_mapped (λ (x : EntryIndex). x.entry_len) drained_items group i
        ∙ ap (option_map (λ (x : EntryIndex). x.entry_len)) is

    lens_are : content_map (λ e. e.entry_len) tables_content ≡ content_map length content
    lens_are = measured d p log [] content (as_cleaning d p log next ws content s)

    new_tabled : IsTabled q behind s.appends new.tables
    new_tabled = record {
      content = λ read reads.
          let old : content_map read tables_content ≡ content =
          s.tabled.content read (old_reads p q all s.appends w.handle.id.seq items w.files w.other.same read reads) ∙ fronts_all content rewrites s.fresh s.appends (fronts_stand d p log next ws content s) in
          ap (content_map read) w.moved
          ∙ content_stays read w.place w.drained.items.items tables_content
          (λ group i o x there is.
          new_reads q all s.appends w.handle.id.seq items w.handle w.place w.block put refl read reads (written_some group i x is) x
          ∙ same_by read (entry_bytes (block_of items)) ((tables_content group).entry i) ((content group).entry i) o x (λ j. (old j group).entry i) there (written_is group i x is))
          ∙ old
          ∙ sym (reads_behind w.handle.id.seq);
      lengths =
          ap (content_map (λ e. e.entry_len)) w.moved
          ∙ content_stays (λ e. e.entry_len) w.place w.drained.items.items tables_content
          (λ group i o x there is.
          same_by (λ (x : EntryIndex). x.entry_len) (λ (x : EntryIndex). x.entry_len) ((tables_content group).entry i) (option_map length ((content group).entry i)) o x (λ j. (lens_are j group).entry i) there (written_len group i x is))
          ∙ lens_are
          ∙ ap (content_map length) (sym (reads_behind w.handle.id.seq));
    }

    -- an entry of the record stands in no append file
    file_after : (group i : ℕ) (o : Option (List ℕ)) → written_at items group i ≡ o → FileAfter o ((traces_in log.traces group).entry_file i) ((traces_in log.traces group).entry_file i)
    file_after group i None is = refl
    file_after group i (Some v) is = m.stored.file group i (subst (λ (o : Option (List ℕ)). IsSome o) (sym is) refl)

    new_placed : TellPlaces lies_in (traces_in new.traces) (content_in new.tables)
    new_placed =
        subst (λ (c : Content EntryIndex). TellPlaces lies_in (traces_in new.traces) c) (sym w.moved)
        (subst (λ t. TellPlaces lies_in (traces_in t) (items_moved w.place w.drained.items.items tables_content)) (sym w.traces) told)
      where
        told : TellPlaces lies_in (traces_in log.traces) (items_moved w.place w.drained.items.items tables_content)
        told group i some =
            let there : IsSome ((tables_content group).entry i) = still_there w.place w.drained.items.items tables_content group i some in
            places_told w.place w.drained.items.items tables_content group i (written_at items group i) ((traces_in log.traces group).entry_file i) ((traces_in log.traces group).entry_file i)
            (ap (λ (x : FileId). x.queue) (w.id ∙ put.at.id) ∙ q.rewrites) (entry_bytes (block_of items)) (sym (written_bytes group i)) there (s.placed group i there)
            (file_after group i (written_at items group i) refl)

    new_active : next ≤ q.rewrite.active.seq
    new_active = omega (arith, s.span.1, active_stays p.rewrite q.rewrite w.files w.pipes.rewrite.numbers)

    new_span : (first_of q.rewrite ≤ next) × (next ≤ q.rewrite.active.seq)
    new_span = (omega (arith, s.span.0, first_stays p.rewrite q.rewrite w.files s.pipes.rewrite.numbers w.pipes.rewrite.numbers), new_active)

    new_seq : next ≤ w.handle.id.seq
    new_seq = let is : w.handle.id.seq ≡ q.rewrite.active.seq = ap (λ (x : FileId). x.seq) put.at.id in omega (arith, is, new_active)

    new_moved : LieAnew next (all_of (all_records more)) (content_in new.tables)
    new_moved group i x some there = by_item (written_at drained_items group i) refl
      where
        all_items : all_of (all_records more) ≡ all_of (all_records ws) ++ items
        all_items = ap all_of (sym m.records) ∙ all-last (all_records ws) items

        now : moved ((tables_content group).entry i) (option_map (placed_in w.place) (written_at drained_items group i)) ≡ Some x
        now = sym (entry_moved w.place w.drained.items.items tables_content group i) ∙ (λ j. (sym w.moved j group).entry i) ∙ there

        some_old : written_at drained_items group i ≡ None → IsSome (written_at (all_of (all_records ws)) group i)
        some_old none = subst (λ (o : Option (List ℕ)). IsSome o)
            (ap (λ (l : Batch). written_at l group i) all_items
            ∙ written_behind (all_of (all_records ws)) items group i
            ∙ ap (λ (o : Option (List ℕ)). or_else o (written_at (all_of (all_records ws)) group i)) (written_bytes group i ∙ ap (option_map (entry_bytes (block_of items))) none)) some

        by_item : (o : Option EntryIndex) → written_at drained_items group i ≡ o → LiesFrom next x
        by_item None none = s.moved group i x (some_old none) (moved_none ((tables_content group).entry i) (option_map (placed_in w.place) (written_at drained_items group i)) x (ap (option_map (placed_in w.place)) none) now)
        by_item (Some y) is =
            let same : placed_in w.place y ≡ x = moved_some ((tables_content group).entry i) (option_map (placed_in w.place) (written_at drained_items group i)) x (placed_in w.place y) (ap (option_map (placed_in w.place)) is) now in
            let number : w.place.id.seq ≡ w.handle.id.seq = ap (λ (x : FileId). x.seq) w.id in
            (w.place, ap (λ (z : EntryIndex). z.entries) (sym same), omega (arith, number, new_seq))

    new_first : CanBeCleaned (first_of q.append) (traces_in new.traces) (records_of s.old) content (filed s.appends)
    new_first =
        subst (λ (x : SinglePipe). CanBeCleaned (first_of x) (traces_in new.traces) (records_of s.old) content (filed s.appends)) (sym w.other.same)
        (subst (λ t. CanBeCleaned (first_of p.append) (traces_in t) (records_of s.old) content (filed s.appends)) (sym w.traces) s.cleanable)

    new_anew : AreAnew content (traces_in new.traces) more
    new_anew = subst (λ t. AreAnew content (traces_in t) more) (sym w.traces) m.anew

    -- the record is among those that weren't synced
    still_fresh : Holds q.rewrite e rewrites (s.fresh ++ (w.handle.id.seq, items) ∷ []) → Stands e q new next more content
    still_fresh holds = record {
      old = s.old;
      new = s.new;
      fresh = s.fresh ++ (w.handle.id.seq, items) ∷ [];
      appends = s.appends;
      pipes = w.pipes;
      rewrite = holds;
      append = w.other.holds s.appends [] s.append;
      tabled = subst (λ (l : Numbered). IsTabled q l s.appends new.tables) (append_assoc rewrites s.fresh ((w.handle.id.seq, items) ∷ [])) new_tabled;
      placed = new_placed;
      cleanable = new_first;
      together = s.together;
      anew = new_anew;
      records = records_more w.handle.id.seq;
      low = s.low;
      rise = s.rise;
      high = subst (λ (l : Numbered). AreFrom next l) (append_assoc s.new s.fresh ((w.handle.id.seq, items) ∷ [])) (from-append next (s.new ++ s.fresh) ((w.handle.id.seq, items) ∷ []) s.high (new_seq, tt));
      span = new_span;
      moved = new_moved;
    }

    -- it is alone among them, since a file was begun for it
    now_fresh : Holds q.rewrite e all ((w.handle.id.seq, items) ∷ []) → Stands e q new next more content
    now_fresh holds =
        let joined : all ≡ s.old ++ (s.new ++ s.fresh) = append_assoc s.old s.new s.fresh in
        record {
          old = s.old;
          new = s.new ++ s.fresh;
          fresh = (w.handle.id.seq, items) ∷ [];
          appends = s.appends;
          pipes = w.pipes;
          rewrite = subst (λ (l : Numbered). Holds q.rewrite e l ((w.handle.id.seq, items) ∷ [])) joined holds;
          append = w.other.holds s.appends [] s.append;
          tabled = subst (λ (l : Numbered). IsTabled q (l ++ (w.handle.id.seq, items) ∷ []) s.appends new.tables) joined new_tabled;
          placed = new_placed;
          cleanable = new_first;
          together = s.together;
          anew = new_anew;
          records = ap records_of (append_assoc s.new s.fresh ((w.handle.id.seq, items) ∷ [])) ∙ records_more w.handle.id.seq;
          low = s.low;
          rise = s.rise;
          high = from-append next (s.new ++ s.fresh) ((w.handle.id.seq, items) ∷ []) s.high (new_seq, tt);
          span = new_span;
          moved = new_moved;
        }

    pub written : Stands e q new next more content
    written = by_file (w.appended rewrites s.fresh s.rewrite)
      where
        by_file : Holds q.rewrite e rewrites (s.fresh ++ (w.handle.id.seq, items) ∷ []) ⊎ Holds q.rewrite e all ((w.handle.id.seq, items) ∷ []) → Stands e q new next more content
        by_file (inl same) = still_fresh same
        by_file (inr begun) = now_fresh begun

-- ---- a sync

module _ (d e : Disk) (p q : DualPipes) (log : TracedTables) (next : ℕ) (ws : List (Written (List ℕ))) (content : Content (List ℕ)) (s : Stands d p log next ws content) (other : IsAsBefore p.append d q.append e) where
  abbrev written_all : Numbered
  written_all = (s.old ++ s.new) ++ s.fresh

  -- refused, it changes nothing
  pub sync_refused : Holds q.rewrite e (s.old ++ s.new) s.fresh → LeavesContent e q content
  sync_refused holds = record {
    rewrites = s.old ++ s.new;
    fresh = s.fresh;
    appends = s.appends;
    rewrite = pipe_leaves q.rewrite e (s.old ++ s.new) s.fresh holds;
    append = pipe_leaves q.append e s.appends [] (other.holds s.appends [] s.append);
    fronts = fronts_stand d p log next ws content s;
  }

  same_reads : (q.rewrite.active ≡ p.rewrite.active) × (q.rewrite.older ≡ p.rewrite.older) → (read : EntryIndex → List ℕ) → ReadsEntries q written_all s.appends read → ReadsEntries p written_all s.appends read
  same_reads same read reads f bytes (inl lies) =
      reads f bytes (inl (same_lies p.rewrite q.rewrite written_all (same_files p.rewrite q.rewrite same.0 same.1) (q.rewrites ∙ sym p.rewrites) f bytes lies))
  same_reads same read reads f bytes (inr lies) = reads f bytes (inr (subst (λ (x : SinglePipe). LiesIn x s.appends f bytes) (sym other.same) lies))

  pub all_synced : IsPipe q.rewrite e → (q.rewrite.active ≡ p.rewrite.active) × (q.rewrite.older ≡ p.rewrite.older) → Holds q.rewrite e written_all [] → (t : Stands e q log next ws content) × (t.fresh ≡ [])
  all_synced pipe same holds =
      let joined : written_all ≡ s.old ++ (s.new ++ s.fresh) = append_assoc s.old s.new s.fresh in (
        record {
          old = s.old;
          new = s.new ++ s.fresh;
          fresh = [];
          appends = s.appends;
          pipes = record { append = other.usable s.pipes.append; rewrite = pipe };
          rewrite = subst (λ (l : Numbered). Holds q.rewrite e l []) joined holds;
          append = other.holds s.appends [] s.append;
          tabled = subst (λ (l : Numbered). IsTabled q l s.appends log.tables) (joined ∙ sym (append-nil (s.old ++ (s.new ++ s.fresh))))
              (record { content = λ read reads. s.tabled.content read (same_reads same read reads); lengths = s.tabled.lengths });
          placed = s.placed;
          cleanable = subst (λ (x : SinglePipe). CanBeCleaned (first_of x) (traces_in log.traces) (records_of s.old) content (filed s.appends)) (sym other.same) s.cleanable;
          together = s.together;
          anew = s.anew;
          records = ap records_of (append-nil (s.new ++ s.fresh)) ∙ s.records;
          low = s.low;
          rise = s.rise;
          high = subst (λ (l : Numbered). AreFrom next l) (sym (append-nil (s.new ++ s.fresh))) s.high;
          span = (
            omega (arith, s.span.0, ap (λ (f : File). f.seq) same.0, ap (λ v. length v.items) same.1),
            omega (arith, s.span.1, ap (λ (f : File). f.seq) same.0),
          );
          moved = s.moved;
        },
        refl,
      )
