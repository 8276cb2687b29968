-- Copies of a group's entries may be rewritten.
use Rattle.std.proofs.Common.{◌≡◌, ◌⊎◌, inl, inr, ℕ, zero, suc, ◌+◌, ◌-◌, ◌<◌, ◌≤◌, Bool, true, false, cond, List, [], ◌∷◌, ◌++◌, length, map, Option, Some, None, refl, sym, ap, subst, ◌∙◌, arith}
use Rattle.std.specs.Prelude.{Contains, IfOk, IsSome, Result, Ok, Err, Vec, nat_eq, slice_get}
use Rattle.std.specs.BTreeMap.{get}
use Rattle.std.specs.Ordering.{nat_cmp}
use Rattle.std.specs.declared.alloc.Global.{Global}
use Rattle.std.specs.Option.{option_map}
use Rattle.std.proofs.lemmas.Bool.{eqb-true, eq-eqb}
use Rattle.std.proofs.lemmas.List.{append-nil, length-map}
use Rattle.std.proofs.lemmas.Option.{slice_get_read}
use Rattle.raft_log_records.specs.declared.item.EntryIndex.{EntryIndex}
use Rattle.raft_log_records.specs.Batch.{numbered, payloads}
use Rattle.raft_log_files.specs.declared.error.Error.{Error}
use Rattle.raft_log_records.specs.Spelling.{first_index}
use Rattle.raft_log_disk.specs.Disk.{Disk}
use Rattle.raft_log_file.specs.Laws.{Batch}
use Rattle.raft_log_pipe.specs.Pipe.{Numbered, first_of}
use Rattle.raft_log_pipes.specs.declared.pipes.DualPipes.{DualPipes}
use Rattle.raft_log_memtables.specs.declared.memtable.MemTable.{MemTable}
use Rattle.raft_log_memtables.specs.declared.memtables.MemTables.{MemTables}
use Rattle.raft_log_memtables.specs.Content.{Content, GroupContent, entry_at, no_group}
use Rattle.raft_log_memtables.specs.Fetch.{AreFetched}
use Rattle.raft_log_memtables.specs.Tables.{content_by}
use Rattle.raft_log_memtables.specs.ContentLaws.{content_map, group_map}
use Rattle.raft_log_memtables.specs.MemTables.{content_in}
use Rattle.raft_log_covers.specs.Cells.{Cell, held}
use Rattle.raft_log_covers.specs.Cells.Cell.{index, key, presence}
use Rattle.raft_log_covers.specs.Trace.{Trace}
use Rattle.raft_log_covers.proofs.FileLemmas.{not_there}
use Rattle.raft_log_traces.specs.GroupTraces.{traces_in}
use Rattle.raft_log_marks.specs.MarkLaws.{IsThere}
use Rattle.raft_log_marks.specs.Standing.{CanBeCleaned}
use Rattle.raft_log_purge.specs.Steps.{AreThere, IsFrontOf}
use Rattle.raft_log_purge.proofs.StepLemmas.{steps_leave_cleanable}
use Rattle.raft_log_blocks.specs.Held.{ReadsEntries}
use Rattle.raft_log_blocks.specs.Blocks.{HasBlock}
use Rattle.raft_log_blocks.specs.Placed.{bytes_on}
use Rattle.raft_log_blocks.proofs.EntryReads.{all_disk_reads}
use Rattle.raft_log_blocks.proofs.Whole.{block_there}
use Rattle.raft_log_traced.specs.declared.traced.TracedTables.{TracedTables}
use Rattle.raft_log_blocks.specs.Held.{IsTabled}
use Rattle.raft_log_cleaner.specs.Cleaning.{IsCleaning, filed, records_of}
use Rattle.raft_log_cleaner.specs.Copies.{AreCopies}
use Rattle.raft_log_cleaner.proofs.Standing.{fronts_all}

-- ---- entries with their indexes

length-numbered : {E : Type 0} (first : ℕ) (parts : List E) → length (numbered first parts) ≡ length parts
length-numbered first [] = refl
length-numbered first (e ∷ es) = let rest = length-numbered (first + 1) es in omega (arith, rest)

first-numbered : {E : Type 0} (first : ℕ) (parts : List E) → 0 < length parts → first_index (numbered first parts) ≡ first
first-numbered first [] some = absurd (omega (arith, some))
first-numbered first (e ∷ es) some = refl

-- the entry with an index
pub at-numbered : {E : Type 0} (first : ℕ) (parts : List E) (i k : ℕ) → i ≡ first + k → entry_at (numbered first parts) i ≡ slice_get parts k
at-numbered first [] i k is = refl
at-numbered {E} first (e ∷ es) i zero is = ap (λ (b : Bool). cond b (Some e) (entry_at (numbered (first + 1) es) i)) (eq-eqb first i (omega (arith, is)))
at-numbered {E} first (e ∷ es) i (suc k) is = by_test (nat_eq first i) refl (at-numbered (first + 1) es i k (omega (arith, is)))
  where
    by_test : (b : Bool) → nat_eq first i ≡ b → entry_at (numbered (first + 1) es) i ≡ slice_get es k → cond b (Some e) (entry_at (numbered (first + 1) es) i) ≡ slice_get es k
    by_test true same rest = let eq = eqb-true first i same in absurd (omega (arith, is, eq))
    by_test false apart rest = rest

none_from : {E : Type 0} (first : ℕ) (parts : List E) (i : ℕ) → first + length parts ≤ i → entry_at (numbered first parts) i ≡ None
none_from first [] i l = refl
none_from {E} first (e ∷ es) i l = by_test (nat_eq first i) refl (none_from (first + 1) es i (omega (arith, l)))
  where
    by_test : (b : Bool) → nat_eq first i ≡ b → entry_at (numbered (first + 1) es) i ≡ None → cond b (Some e) (entry_at (numbered (first + 1) es) i) ≡ None
    by_test true same rest = let eq = eqb-true first i same in absurd (omega (arith, l, eq))
    by_test false apart rest = rest

-- ---- entries that were fetched

some_at : {E : Type 0} (es : List E) (i : ℕ) → i < length es → (e : E) × (slice_get es i ≡ Some e)
some_at [] i l = absurd (omega (arith, l))
some_at (e ∷ es) zero l = (e, refl)
some_at (e ∷ es) (suc i) l = some_at es i (omega (arith, l))

at_mapped : {A B : Type 0} (f : A → B) (es : List A) (i : ℕ) (e : A) → slice_get es i ≡ Some e → slice_get (map f es) i ≡ Some (f e)
at_mapped f [] i e is = absurd cc
at_mapped {A} {B} f (x ∷ es) zero e is = let same : x ≡ e = cc in ap (λ (y : A). Some (f y)) same
at_mapped f (x ∷ es) (suc i) e is = at_mapped f es i e is

copies_are : (read : EntryIndex → List ℕ) (entry : ℕ → Option EntryIndex) (begin end : ℕ) (size : Option ℕ) (es : List EntryIndex) (parts : List (List ℕ)) → begin < end → AreFetched entry begin end size es → parts ≡ map read es → 0 < length es
    → AreCopies read entry begin end parts
copies_are read entry begin end size es parts range f are some =
    let len : length parts ≡ length es = ap length are ∙ length-map es read in
    record {
      some = omega (arith, len, some);
      short = omega (arith, len, f.short, range);
      each = λ i l.
          let one = some_at es i (omega (arith, l, len)) in
          (one.0, sym (f.each i (omega (arith, l, len))) ∙ one.1, ap (λ (ps : List (List ℕ)). slice_get ps i) are ∙ at_mapped read es i one.0 one.1);
      next = λ more.
          let next = (f.all (omega (arith, more, len, range))).1 in
          subst (λ (n : ℕ). IsSome (entry (begin + n))) (sym len) (subst (λ (o : Option EntryIndex). IsSome o) (sym next.1) refl);
    }

pub copied : (result : Result (Vec (Vec ℕ Global) Global) Error) (read : EntryIndex → List ℕ) (entry : ℕ → Option EntryIndex) (begin end : ℕ) (size : Option ℕ) (es : List EntryIndex) → begin < end → AreFetched entry begin end size es → 0 < length es
    → IfOk result (λ v. payloads v.items ≡ map read es) → IfOk result (λ v. AreCopies read entry begin end (payloads v.items))
copied (Ok v) read entry begin end size es range f some are = copies_are read entry begin end size es (payloads v.items) range f are some
copied (Err x) read entry begin end size es range f some are = tt

-- each of them is an entry that is there
pub fetched_there : (entry : ℕ → Option EntryIndex) (begin end : ℕ) (size : Option ℕ) (es : List EntryIndex) → AreFetched entry begin end size es → (e : EntryIndex) → Contains es e → (index : ℕ) × (entry index ≡ Some e)
fetched_there entry begin end size es f e among =
    (begin + among.0, sym (f.each among.0 among.1) ∙ slice_get_read es (length es) among.0 e refl among.1 (sym among.2))

-- ---- what is seen

some_mapped : {A B : Type 0} (f : A → B) (o : Option A) (c : Option B) → option_map f o ≡ c → IsSome o → IsSome c
some_mapped f None c is s = absurd cc
some_mapped f (Some x) c is s = subst (λ x. IsSome x) is refl

module _ (d : Disk) (p : DualPipes) (log : TracedTables) (items : Batch) (content : Content (List ℕ)) (s : IsCleaning d p log items content) where
  pub tables_seen : content_map (bytes_on d p) (content_in log.tables) ≡ content
  tables_seen =
      s.tabled.content (bytes_on d p)
      (subst (λ (l : Numbered). ReadsEntries p (s.rewrites ++ s.fresh) l (bytes_on d p)) (append-nil s.appends) (all_disk_reads p d s.rewrites s.fresh s.appends [] s.pipes s.rewrite s.append))
      ∙ fronts_all content s.rewrites s.fresh s.appends s.fronts

  -- each entry has its block
  pub blocks_there : (group index : ℕ) (e : EntryIndex) → (content_in log.tables group).entry index ≡ Some e → HasBlock d p e
  blocks_there =
      block_there d p log.tables s.rewrites s.fresh s.appends [] s.pipes s.rewrite s.append
      (subst (λ (l : Numbered). IsTabled p (s.rewrites ++ s.fresh) l log.tables) (sym (append-nil s.appends)) s.tabled)

  can_now : CanBeCleaned (first_of p.append) (traces_in log.traces) (records_of (s.rewrites ++ s.fresh) ++ items ∷ []) content (filed s.appends)
  can_now = steps_leave_cleanable (first_of p.append) s.before (traces_in log.traces) (records_of (s.rewrites ++ s.fresh)) items content (filed s.appends) s.cleanable s.steps

  module _ (group begin end : ℕ) (parts : List (List ℕ)) where
    abbrev here : ℕ → Option EntryIndex
    here = (content_in log.tables group).entry

    abbrev trace : Trace
    trace = traces_in log.traces group

    entry_seen : (i : ℕ) → option_map (bytes_on d p) (here i) ≡ (content group).entry i
    entry_seen i = (λ j. (tables_seen j group).entry i)

    there_seen : (content_in log.tables group).there ≡ (content group).there
    there_seen = (λ j. (tables_seen j group).there)

    -- an entry that is there is within the ends that the trace says
    low_known : (i : ℕ) → IsSome (here i) → trace.low ≤ i
    low_known i some =
        omega (arith, λ (l : i < trace.low). not_there {P = ⊥} ((content group).entry i) ((can_now.cleanable.kept.knows group).below i l) (some_mapped (bytes_on d p) (here i) ((content group).entry i) (entry_seen i) some))

    next_known : (i : ℕ) → IsSome (here i) → i < trace.next
    next_known i some =
        let low = low_known i some in
        omega (arith, λ (l : trace.next ≤ i). not_there {P = ⊥} ((content group).entry i) ((can_now.cleanable.kept.knows group).above i low l) (some_mapped (bytes_on d p) (here i) ((content group).entry i) (entry_seen i) some))

    module _ (copies : AreCopies (bytes_on d p) here begin end parts) where
      there_at : (k : ℕ) → k < length parts → IsSome (here (begin + k))
      there_at k l = let one = copies.each k l in subst (λ (o : Option EntryIndex). IsSome o) (sym one.1) refl

      same_at : (i k : ℕ) → i ≡ begin + k → k < length parts → entry_at (numbered begin parts) i ≡ (content group).entry i
      same_at i k is l =
          let one = copies.each k l in
          at-numbered begin parts i k is ∙ one.2 ∙ sym (ap (option_map (bytes_on d p)) one.1) ∙ entry_seen (begin + k) ∙ ap (content group).entry (sym is)

      pub may_be_rewritten : (content_in log.tables group).there ≡ true → trace.cleaned ≡ false → ((i : ℕ) → i < begin → trace.entry_file i ≡ None)
          → ((i : ℕ) → begin ≤ i → i < trace.next → IsSome (trace.entry_file i))
          → ((i : ℕ) → begin + length parts ≤ i → here i ≡ None) ⊎ IsSome (here (begin + length parts)) → IsFrontOf content (traces_in log.traces) group begin parts
      may_be_rewritten there not_cleaned below above followed = record {
        front = record {
          there = sym there_seen ∙ there;
          not_cleaned = not_cleaned;
          run = record {
            some = omega (arith, length-numbered begin parts, copies.some);
            no_more = λ i l. none_from begin parts i (omega (arith, l, first-numbered begin parts copies.some, length-numbered begin parts));
          };
          until = omega (arith, first-numbered begin parts copies.some, length-numbered begin parts);
          within = omega (arith, copies.some, next_known (begin + (length parts - 1)) (there_at (length parts - 1) (omega (arith, copies.some))));
          same = λ i l m. same_at i (i - begin) (omega (arith, l, m, first-numbered begin parts copies.some)) (omega (arith, l, m, first-numbered begin parts copies.some));
          first = λ i some in_file. omega (arith, first-numbered begin parts copies.some, λ (l : i < begin). not_there {P = ⊥} (trace.entry_file i) (below i l) in_file);
          rest = λ more. (rest_there more followed, above (begin + length parts) (omega (arith, copies.some)) more);
        };
        below = below;
      }
        where
          last_there : begin + length parts < trace.next → IsSome ((content group).entry (trace.next - 1))
          last_there more = can_now.last group (let low = low_known (begin + 0) (there_at 0 copies.some) in omega (arith, low, more, copies.some))

          rest_there : begin + length parts < trace.next → ((i : ℕ) → begin + length parts ≤ i → here i ≡ None) ⊎ IsSome (here (begin + length parts)) → IsSome ((content group).entry (begin + length parts))
          rest_there more (inl none) =
              not_there ((content group).entry (trace.next - 1)) (sym (entry_seen (trace.next - 1)) ∙ ap (option_map (bytes_on d p)) (none (trace.next - 1) (omega (arith, more)))) (last_there more)
          rest_there more (inr some) = some_mapped (bytes_on d p) (here (begin + length parts)) ((content group).entry (begin + length parts)) (entry_seen (begin + length parts)) some

-- ---- groups and keys

no_group_in : (tables : MemTables) (group : ℕ) → (content_in tables group).there ≡ false → content_in tables group ≡ no_group
unfolding content_in
no_group_in tables group none = by_table (get nat_cmp tables.tables group) none
  where
    by_table : (o : Option MemTable) → (content_by o).there ≡ false → content_by o ≡ no_group
    by_table None h = refl
    by_table (Some t) h = absurd cc

no_group_held : (read : EntryIndex → List ℕ) (c : Cell) → held (group_map read no_group) c ≡ held no_group c
no_group_held read presence = refl
no_group_held read (index i) = refl
no_group_held read (key k) = refl

pub are_there : (d : Disk) (p : DualPipes) (log : TracedTables) (items : Batch) (content : Content (List ℕ)) → IsCleaning d p log items content → AreThere (λ g. (content_in log.tables g).there) content
are_there d p log items content s group = by_flag (content_in log.tables group).there refl
  where
    seen : content_map (bytes_on d p) (content_in log.tables) ≡ content
    seen = tables_seen d p log items content s

    by_flag : (b : Bool) → (content_in log.tables group).there ≡ b → IsThere b (content group)
    by_flag true there = sym (λ j. (seen j group).there) ∙ there
    by_flag false none =
        λ c. sym (λ j. held (seen j group) c) ∙ ap (λ (g : GroupContent EntryIndex). held (group_map (bytes_on d p) g) c) (no_group_in log.tables group none) ∙ no_group_held (bytes_on d p) c

pub value_seen : (d : Disk) (p : DualPipes) (log : TracedTables) (items : Batch) (content : Content (List ℕ)) → IsCleaning d p log items content → (group : ℕ) (name : List ℕ) → (content_in log.tables group).value name ≡ (content group).value name
value_seen d p log items content s group name = (λ j. (tables_seen d p log items content s j group).value name)

pub group_there : (d : Disk) (p : DualPipes) (log : TracedTables) (items : Batch) (content : Content (List ℕ)) → IsCleaning d p log items content → (group : ℕ) → (content_in log.tables group).there ≡ true → (content group).there ≡ true
group_there d p log items content s group there = sym (λ j. (tables_seen d p log items content s j group).there) ∙ there
