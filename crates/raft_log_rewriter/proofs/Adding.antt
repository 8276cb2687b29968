-- What is added of a group to the batch.
use Rattle.std.proofs.Common.{◌≡◌, ℕ, ◌+◌, ◌-◌, ◌<◌, ◌≤◌, Bool, true, false, cond, List, [], ◌∷◌, ◌++◌, length, Option, Some, None, refl, sym, ap, subst, ◌∙◌, arith}
use Rattle.std.specs.Prelude.{IsSome, nat_eq}
use Rattle.std.specs.Option.{option_map}
use Rattle.std.proofs.lemmas.Bool.{eqb-true}
use Rattle.raft_log_records.specs.Batch.{numbered, run_of}
use Rattle.raft_log_records.specs.Item.Change.{clean, compact, put}
use Rattle.raft_log_disk.specs.Disk.{Disk}
use Rattle.raft_log_pipes.specs.declared.pipes.DualPipes.{DualPipes}
use Rattle.raft_log_memtables.specs.Content.{Content, entry_at}
use Rattle.raft_log_memtables.specs.MemTables.{content_in}
use Rattle.raft_log_memtables.specs.Entries.{or_else}
use Rattle.raft_log_covers.specs.Marks.{of_group}
use Rattle.raft_log_covers.specs.Trace.{Trace}
use Rattle.raft_log_covers.proofs.FileLemmas.{not_there}
use Rattle.raft_log_traces.specs.GroupTraces.{traces_in}
use Rattle.raft_log_blocks.specs.Placed.{bytes_on}
use Rattle.raft_log_traced.specs.declared.traced.TracedTables.{TracedTables}
use Rattle.raft_log_cleaner.specs.Copies.{AreCopies}
use Rattle.raft_log_cleaner.proofs.Chunks.{at-numbered, tables_seen, value_seen}
use Rattle.raft_log_rewriter.specs.declared.writer.Writer.{Writer}
use Rattle.raft_log_rewriter.specs.Parts.{AreStored, AreStoredNames, IsStoredRange}
use Rattle.raft_log_rewriter.specs.Parts.Stage.{between, entries_to, keys_to}
use Rattle.raft_log_rewriter.specs.Rewriting.{IsRewriting, at}
use Rattle.raft_log_rewriter.proofs.Items.{among_last, none_stored}
use Rattle.raft_log_rewriter.proofs.Recording.{as_cleaning, can_stand}
use Rattle.raft_log_rewriter.proofs.Stages.{among_closed, chunk_added, entries_begun, group_among, group_closed, key_added, key_gone, keys_begun, parts_closed}
use Rattle.raft_log_rewriter.proofs.Steps.{more_items, same_items}

pub none_below : (first i : ℕ) (ps : List (List ℕ)) → i < first → entry_at (numbered first ps) i ≡ None
none_below first i [] l = refl
none_below first i (x ∷ ps) l = by_test (nat_eq first i) refl (none_below (first + 1) i ps (omega (arith, l)))
  where
    by_test : (b : Bool) → nat_eq first i ≡ b → entry_at (numbered (first + 1) ps) i ≡ None → cond b (Some x) (entry_at (numbered (first + 1) ps) i) ≡ None
    by_test true e rest = let same = eqb-true first i e in absurd (omega (arith, l, same))
    by_test false e rest = rest

pub none_above : (first i : ℕ) (ps : List (List ℕ)) → first + length ps ≤ i → entry_at (numbered first ps) i ≡ None
none_above first i [] l = refl
none_above first i (x ∷ ps) l = by_test (nat_eq first i) refl (none_above (first + 1) i ps (omega (arith, l)))
  where
    by_test : (b : Bool) → nat_eq first i ≡ b → entry_at (numbered (first + 1) ps) i ≡ None → cond b (Some x) (entry_at (numbered (first + 1) ps) i) ≡ None
    by_test true e rest = let same = eqb-true first i e in absurd (omega (arith, l, same))
    by_test false e rest = rest

either_none : (b : Bool) (o : Option (List ℕ)) → o ≡ None → cond b o None ≡ None
either_none true o h = h
either_none false o h = refl

abbrev no_value : Option (List ℕ)
no_value = None

either_else : (b : Bool) → or_else (or_else None (cond b None None)) (cond b None None) ≡ no_value
either_else true = refl
either_else false = refl

module _ (d : Disk) (p : DualPipes) (log : TracedTables) (next : ℕ) (groups : List ℕ) (content : Content (List ℕ)) where
  -- a group begins
  pub begin_added : (w v : Writer) (group first : ℕ) → (s : IsRewriting d p log w next (at between groups) content) → (content group).there ≡ true
      → v.batch.items ≡ w.batch.items ++ of_group group (clean ∷ (compact 0 ∷ [])) → v.group ≡ w.group → IsRewriting d p log v next (at (entries_to group first first) groups) content
  begin_added w v group first s there items same =
      more_items d p log w v next between (entries_to group first first) groups content (of_group group (clean ∷ (compact 0 ∷ []))) s refl
      (none_stored content (traces_in log.traces) (of_group group (clean ∷ (compact 0 ∷ []))) (λ other i. either_else (nat_eq group other)))
      (entries_begun (content group) group first s.part there s.is_part) items same

  -- entries
  pub chunk_written : (w v : Writer) (group first begin stop : ℕ) (parts : List (List ℕ)) → (s : IsRewriting d p log w next (at (entries_to group first begin) groups) content)
      → AreCopies (bytes_on d p) (content_in log.tables group).entry begin stop parts → ((i : ℕ) → begin ≤ i → i < stop → (traces_in log.traces group).entry_file i ≡ None)
      → v.batch.items ≡ w.batch.items ++ run_of group begin parts ∷ [] → v.group ≡ w.group → IsRewriting d p log v next (at (entries_to group first (begin + length parts)) groups) content
  chunk_written w v group first begin stop parts s copies only items same =
      more_items d p log w v next (entries_to group first begin) (entries_to group first (begin + length parts)) groups content (run_of group begin parts ∷ []) s refl run_stored
      (chunk_added (content group) group first begin s.part parts copies.some same_entries s.is_part) items same
    where
      seen : (i : ℕ) → option_map (bytes_on d p) ((content_in log.tables group).entry i) ≡ (content group).entry i
      seen i = λ j. (tables_seen d p log [] content (as_cleaning d p log next _ content s.stands) j group).entry i

      same_at : (i k : ℕ) → i ≡ begin + k → k < length parts → entry_at (numbered begin parts) i ≡ (content group).entry i
      same_at i k is l =
          let one = copies.each k l in
          at-numbered begin parts i k is ∙ one.2 ∙ sym (ap (option_map (bytes_on d p)) one.1) ∙ seen (begin + k) ∙ ap (content group).entry (sym is)

      same_entries : (i : ℕ) → begin ≤ i → i < begin + length parts → entry_at (numbered begin parts) i ≡ (content group).entry i
      same_entries i low high = same_at i (i - begin) (omega (arith, low)) (omega (arith, low, high))

      within : (i : ℕ) → IsSome (entry_at (numbered begin parts) i) → (begin ≤ i) × (i < begin + length parts)
      within i some = (
        omega (arith, λ (l : i < begin). not_there {P = ⊥} (entry_at (numbered begin parts) i) (none_below begin i parts l) some),
        omega (arith, λ (l : begin + length parts ≤ i). not_there {P = ⊥} (entry_at (numbered begin parts) i) (none_above begin i parts l) some),
      )

      run_stored : AreStored content (traces_in log.traces) (run_of group begin parts ∷ [])
      run_stored = record {
        bytes = λ other i x is. bytes_at other i x (nat_eq group other) refl is;
        file = λ other i some. file_at other i (nat_eq group other) refl some;
      }
        where
          bytes_at : (other i : ℕ) (x : List ℕ) (b : Bool) → nat_eq group other ≡ b → cond b (entry_at (numbered begin parts) i) None ≡ Some x → (content other).entry i ≡ Some x
          bytes_at other i x true e is =
              let at = within i (subst (λ (o : Option (List ℕ)). IsSome o) (sym is) refl) in
              subst (λ (n : ℕ). (content n).entry i ≡ Some x) (eqb-true group other e) (sym (same_entries i at.0 at.1) ∙ is)
          bytes_at other i x false e is = absurd cc

          file_at : (other i : ℕ) (b : Bool) → nat_eq group other ≡ b → IsSome (cond b (entry_at (numbered begin parts) i) None) → (traces_in log.traces other).entry_file i ≡ None
          file_at other i true e some =
              let at = within i some in
              subst (λ (n : ℕ). (traces_in log.traces n).entry_file i ≡ None) (eqb-true group other e) (only i at.0 (omega (arith, at.1, copies.short)))
          file_at other i false e some = absurd cc

  -- keys
  pub key_written : (w v : Writer) (group first stop : ℕ) (names : List (List ℕ)) (name value : List ℕ) → (s : IsRewriting d p log w next (at (keys_to group first stop names) groups) content)
      → (content_in log.tables group).value name ≡ Some value → v.batch.items ≡ w.batch.items ++ record { group = group; change = put name value } ∷ [] → v.group ≡ w.group
      → IsRewriting d p log v next (at (keys_to group first stop (names ++ name ∷ [])) groups) content
  key_written w v group first stop names name value s is items same =
      more_items d p log w v next (keys_to group first stop names) (keys_to group first stop (names ++ name ∷ [])) groups content (record { group = group; change = put name value } ∷ []) s refl
      (none_stored content (traces_in log.traces) (record { group = group; change = put name value } ∷ []) (λ other i. either_none (nat_eq group other) None refl))
      (key_added (content group) group first stop names s.part name value (sym (value_seen d p log [] content (as_cleaning d p log next _ content s.stands) group name) ∙ is) s.is_part) items same

  pub key_skipped : (w : Writer) (group first stop : ℕ) (names : List (List ℕ)) (name : List ℕ) → (s : IsRewriting d p log w next (at (keys_to group first stop names) groups) content)
      → (content_in log.tables group).value name ≡ None → IsRewriting d p log w next (at (keys_to group first stop (names ++ name ∷ [])) groups) content
  key_skipped w group first stop names name s is =
      same_items d p log w next (keys_to group first stop names) (keys_to group first stop (names ++ name ∷ [])) groups content s
      (key_gone (content group) group first stop names s.part name (sym (value_seen d p log [] content (as_cleaning d p log next _ content s.stands) group name) ∙ is) s.is_part)

  pub keys_next : (w : Writer) (group first stop : ℕ) → (s : IsRewriting d p log w next (at (entries_to group first stop) groups) content) → IsRewriting d p log w next (at (keys_to group first stop []) groups) content
  keys_next w group first stop s = same_items d p log w next (entries_to group first stop) (keys_to group first stop []) groups content s (keys_begun (content group) group first stop s.part s.is_part)

  -- the group is whole
  pub group_whole : (w : Writer) (group first stop : ℕ) (names : List (List ℕ)) → (s : IsRewriting d p log w next (at (keys_to group first stop names) groups) content) → IsStoredRange (traces_in log.traces group) first stop
      → AreStoredNames (traces_in log.traces group) (content group).value names → IsRewriting d p log w next (at between (groups ++ group ∷ [])) content
  group_whole w group first stop names s range all = record {
    ws = s.ws;
    open_group = s.open_group;
    part = [];
    stands = s.stands;
    id = s.id;
    parts = parts_closed content (traces_in log.traces) s.ws s.open_group w.batch.items s.part (group_closed content (traces_in log.traces) group first stop names s.part s.is_part range ends all) s.parts;
    stored = s.stored;
    is_part = refl;
    among = among_last content (traces_in log.traces) _ groups group s.among
        (λ there. among_closed content (traces_in log.traces) s.ws s.open_group w.batch.items s.part group s.parts (group_among content (traces_in log.traces) group first stop names s.part s.is_part range ends));
  }
    where
      ends : (i : ℕ) → IsSome ((content group).entry i) → ((traces_in log.traces group).low ≤ i) × (i < (traces_in log.traces group).next)
      ends i some =
          let knows = (can_stand d p log next _ content s.stands).cleanable.kept.knows group in
          let low : (traces_in log.traces group).low ≤ i = omega (arith, λ (l : i < (traces_in log.traces group).low). not_there {P = ⊥} ((content group).entry i) (knows.below i l) some) in
          (low, omega (arith, λ (l : (traces_in log.traces group).next ≤ i). not_there {P = ⊥} ((content group).entry i) (knows.above i low l) some))

  -- a group that isn't there
  pub group_skipped : (w : Writer) (group : ℕ) → (s : IsRewriting d p log w next (at between groups) content) → (content group).there ≡ false → IsRewriting d p log w next (at between (groups ++ group ∷ [])) content
  group_skipped w group s gone = record {
    ws = s.ws;
    open_group = s.open_group;
    part = s.part;
    stands = s.stands;
    id = s.id;
    parts = s.parts;
    stored = s.stored;
    is_part = s.is_part;
    among = among_last content (traces_in log.traces) _ groups group s.among (λ there. absurd (let both : true ≡ false = sym there ∙ gone in cc));
  }

-- ---- what the tables say of a group that is being written

pub tables_there : (d : Disk) (p : DualPipes) (log : TracedTables) (w : Writer) (next group first begin : ℕ) (groups : List ℕ) (content : Content (List ℕ)) → IsRewriting d p log w next (at (entries_to group first begin) groups) content
    → (content_in log.tables group).there ≡ true
tables_there d p log w next group first begin groups content s = (λ j. (tables_seen d p log [] content (as_cleaning d p log next _ content s.stands) j group).there) ∙ s.is_part.there

pub content_there : (d : Disk) (p : DualPipes) (log : TracedTables) (w : Writer) (next group : ℕ) (groups : List ℕ) (content : Content (List ℕ)) → IsRewriting d p log w next (at between groups) content → (content_in log.tables group).there ≡ (content group).there
content_there d p log w next group groups content s = λ j. (tables_seen d p log [] content (as_cleaning d p log next _ content s.stands) j group).there

pub names_seen : (d : Disk) (p : DualPipes) (log : TracedTables) (w : Writer) (next group : ℕ) (groups : List ℕ) (content : Content (List ℕ)) (t : Trace) (names : List (List ℕ)) → IsRewriting d p log w next (at between groups) content
    → AreStoredNames t (content_in log.tables group).value names → AreStoredNames t (content group).value names
names_seen d p log w next group groups content t names s all k some none =
    all k (subst (λ (o : Option (List ℕ)). IsSome o) (sym (value_seen d p log [] content (as_cleaning d p log next _ content s.stands) group k)) some) none
