-- Entries seen in another way.
use Rattle.std.proofs.Common.{◌≡◌, ◌⊎◌, inl, inr, ◌≤◌, ◌+◌, ◌-◌, ℕ, Bool, true, false, cond, ◌&&◌, ◌||◌, List, [], ◌∷◌, length, map, Option, Some, None, refl, sym, ap, subst, ◌∙◌}
use Rattle.std.specs.Prelude.{IsSome, is_some, nat_eq, nat_le, nat_lt}
use Rattle.std.specs.Option.{option_map}
use Rattle.raft_log_records.specs.Item.{Change, Item, change_map, item_map}
use Rattle.raft_log_records.specs.Item.Change.{entries, clean, compact, put, delete, mark}
use Rattle.raft_log_records.specs.Spelling.{first_index}
use Rattle.raft_log_memtables.specs.Content.{GroupContent, Content, after_batch, after_item}
use Rattle.raft_log_memtables.specs.ContentLaws.{content_map, group_map}
use Rattle.raft_log_memtables.specs.Replay.{content_of}
use Rattle.raft_log_memtables.specs.Taken.{within, HasWithin, NoneWithin, Takes, TakesEach, TakesFrom}
use Rattle.raft_log_memtables.proofs.Folds.{marks_mapped}
use Rattle.raft_log_memtables.proofs.Mapped.{batch_mapped, maps_replay}
use Rattle.raft_log_covers.specs.Account.{Account, IsAccounted, IsAccountedBy}
use Rattle.raft_log_covers.specs.Cells.{Cell, Held, held, sets, item_sets, batch_sets, batches_set, after_batches, AreUnmarked}
use Rattle.raft_log_covers.specs.Cells.Cell.{presence, index, key}
use Rattle.raft_log_covers.specs.Cells.Held.{is_there, an_entry, a_value}
use Rattle.raft_log_covers.specs.Kept.{IsKept, Traces}
use Rattle.raft_log_covers.specs.Marks.{Names}
use Rattle.raft_log_covers.specs.Queues.{Filed, FilesRise, batches_from, batches_of}
use Rattle.raft_log_covers.specs.Trace.{Trace, Bounds, Knows, TellsFiles, IsBounded, file_of}
use Rattle.raft_log_marks.specs.Cleaning.{IsCleanable}
use Rattle.raft_log_marks.specs.Mapped.{MapsCleanable, MapsTaken, TakesAlike, filed_map, items_map}
use Rattle.raft_log_marks.specs.MarkLaws.{NamesBehind}
use Rattle.raft_log_marks.specs.Standing.{CanBeCleaned}

module _ {E F : Type 0} (f : E → F) where
  abbrev run_map : List (ℕ × E) → List (ℕ × F)
  run_map es = map (λ e. (e.0, f e.1)) es

  pub first_mapped : (es : List (ℕ × E)) → first_index (run_map es) ≡ first_index es
  first_mapped [] = refl
  first_mapped (e ∷ es) = refl

  some_mapped : (o : Option E) → IsSome o → IsSome (option_map f o)
  some_mapped None s = s
  some_mapped (Some e) s = s

  pub some_before : (o : Option E) → IsSome (option_map f o) → IsSome o
  some_before None s = s
  some_before (Some e) s = s

  pub none_before : (o : Option E) → option_map f o ≡ None → o ≡ None
  none_before None e = refl
  none_before (Some x) e = absurd cc

  -- ---- what is taken

  from_mapped : (entry : ℕ → Option E) (n : ℕ) → TakesFrom entry n → TakesFrom (λ i. option_map f (entry i)) n
  from_mapped entry n (inl none) = inl (λ i w. ap (option_map f) (none i w))
  from_mapped entry n (inr both) =
      inr ((both.0.0, both.0.1, some_mapped (entry both.0.0) both.0.2), (both.1.0, both.1.1, some_mapped (entry both.1.0) both.1.2))

  from_before : (entry : ℕ → Option E) (n : ℕ) → TakesFrom (λ i. option_map f (entry i)) n → TakesFrom entry n
  from_before entry n (inl none) = inl (λ i w. none_before (entry i) (none i w))
  from_before entry n (inr both) =
      inr ((both.0.0, both.0.1, some_before (entry both.0.0) both.0.2), (both.1.0, both.1.1, some_before (entry both.1.0) both.1.2))

  takes_mapped : (change : Change E) (g : GroupContent E) → Takes change g → Takes (change_map f change) (group_map f g)
  takes_mapped (entries es) g t = subst (λ (n : ℕ). TakesFrom (λ i. option_map f (g.entry i)) n) (sym (first_mapped es)) (from_mapped g.entry (first_index es) t)
  takes_mapped clean g t = t
  takes_mapped (compact limit) g t = t
  takes_mapped (put name value) g t = t
  takes_mapped (delete name) g t = t
  takes_mapped (mark id status) g t = t

  takes_before : (change : Change E) (g : GroupContent E) → Takes (change_map f change) (group_map f g) → Takes change g
  takes_before (entries es) g t = from_before g.entry (first_index es) (subst (λ (n : ℕ). TakesFrom (λ i. option_map f (g.entry i)) n) (first_mapped es) t)
  takes_before clean g t = t
  takes_before (compact limit) g t = t
  takes_before (put name value) g t = t
  takes_before (delete name) g t = t
  takes_before (mark id status) g t = t

  pub each_mapped : (items : List (Item E)) (content : Content E) → TakesEach items content → TakesEach (items_map f items) (content_map f content)
  each_mapped [] content t = t
  each_mapped (item ∷ items) content t = (
    takes_mapped item.change (content item.group) t.0,
    subst (λ (c : Content F). TakesEach (items_map f items) c) (sym (batch_mapped f (item ∷ []) content)) (each_mapped items (after_item item content) t.1),
  )

  pub each_before : (items : List (Item E)) (content : Content E) → TakesEach (items_map f items) (content_map f content) → TakesEach items content
  each_before [] content t = t
  each_before (item ∷ items) content t = (
    takes_before item.change (content item.group) t.0,
    each_before items (after_item item content) (subst (λ (c : Content F). TakesEach (items_map f items) c) (batch_mapped f (item ∷ []) content) t.1),
  )

  -- ---- what is accounted for

  sets_mapped : (change : Change E) (c : Cell) → sets (change_map f change) c ≡ sets change c
  sets_mapped (entries es) presence = refl
  sets_mapped (entries es) (index i) = ap (λ (n : ℕ). nat_le n i) (first_mapped es)
  sets_mapped (entries es) (key k) = refl
  sets_mapped clean presence = refl
  sets_mapped clean (index i) = refl
  sets_mapped clean (key k) = refl
  sets_mapped (compact limit) presence = refl
  sets_mapped (compact limit) (index i) = refl
  sets_mapped (compact limit) (key k) = refl
  sets_mapped (put name value) presence = refl
  sets_mapped (put name value) (index i) = refl
  sets_mapped (put name value) (key k) = refl
  sets_mapped (delete name) presence = refl
  sets_mapped (delete name) (index i) = refl
  sets_mapped (delete name) (key k) = refl
  sets_mapped (mark id status) presence = refl
  sets_mapped (mark id status) (index i) = refl
  sets_mapped (mark id status) (key k) = refl

  batch_sets_mapped : (items : List (Item E)) (group : ℕ) (c : Cell) → batch_sets (items_map f items) group c ≡ batch_sets items group c
  batch_sets_mapped [] group c = refl
  batch_sets_mapped (item ∷ items) group c = λ i. (nat_eq item.group group && sets_mapped item.change c i) || batch_sets_mapped items group c i

  either_sets : (t : Bool) (items : List (Item E)) (seen : List (List (Item F))) (rest : List (List (Item E))) (group : ℕ) (c : Cell) → batches_set seen group c ≡ batches_set rest group c
      → batches_set (cond t (items_map f items ∷ seen) seen) group c ≡ batches_set (cond t (items ∷ rest) rest) group c
  either_sets true items seen rest group c same = λ i. batch_sets_mapped items group c i || same i
  either_sets false items seen rest group c same = same

  from_sets : (file : ℕ) (bs : List (Filed E)) (group : ℕ) (c : Cell) → batches_set (batches_from file (map (filed_map f) bs)) group c ≡ batches_set (batches_from file bs) group c
  from_sets file [] group c = refl
  from_sets file (b ∷ bs) group c =
      either_sets (nat_le file b.file) b.items (batches_from file (map (filed_map f) bs)) (batches_from file bs) group c (from_sets file bs group c)

  abbrev held_map : Held E → Held F
  held_map (is_there b) = is_there b
  held_map (an_entry o) = an_entry (option_map f o)
  held_map (a_value v) = a_value v

  held_mapped : (g : GroupContent E) (c : Cell) → held (group_map f g) c ≡ held_map (held g c)
  held_mapped g presence = refl
  held_mapped g (index i) = refl
  held_mapped g (key k) = refl

  accounted_by : (o : Option ℕ) (older content : Content E) (bs : List (Filed E)) (group : ℕ) (c : Cell) → IsAccountedBy o older content bs group c
      → IsAccountedBy o (content_map f older) (content_map f content) (map (filed_map f) bs) group c
  accounted_by None older content bs group c same = held_mapped (older group) c ∙ ap held_map same ∙ sym (held_mapped (content group) c)
  accounted_by (Some file) older content bs group c set = from_sets file bs group c ∙ set

  -- ---- what the traces know

  knows_mapped : (t : Trace) (older g : GroupContent E) (names : Names) → Knows t older g names → Knows t (group_map f older) (group_map f g) names
  knows_mapped t older g names k = record {
    below = λ i low. ap (option_map f) (k.below i low);
    above = λ i low high. ap (option_map f) (k.above i low high);
    ends = k.ends;
    empty_top = k.empty_top;
    past = λ cleaned i high. ap (option_map f) (k.past cleaned i high);
    gone = k.gone;
    all_gone = k.all_gone;
    entries_since = λ cleaned i none. ap (option_map f) (k.entries_since cleaned i none);
    keys_since = k.keys_since;
  }

  files_mapped : (t : Trace) (g : GroupContent E) (names : Names) → TellsFiles t g names → TellsFiles t (group_map f g) names
  files_mapped t g names tells = record {
    entries_named = λ i some. tells.entries_named i (some_before (g.entry i) some);
    keys_named = tells.keys_named;
  }

  bounds_mapped : (t : Trace) (g : GroupContent E) (names : Names) → Bounds t g names → Bounds t (group_map f g) names
  bounds_mapped t g names bounds presence = bounds presence
  bounds_mapped t g names bounds (index i) = bounds (index i)
  bounds_mapped t g names bounds (key k) = bounds (key k)

  behind_mapped : (g : GroupContent E) (names : Names) → NamesBehind g names → NamesBehind (group_map f g) names
  behind_mapped g names behind i j before some = behind i j before (some_before (g.entry i) some)

  cleanable_mapped : (traces : Traces) (account : Account) (records : List (List (Item E))) (content : Content E) (bs : List (Filed E)) → IsCleanable traces account records content bs
      → IsCleanable traces account (map (items_map f) records) (content_map f content) (map (filed_map f) bs)
  cleanable_mapped traces account records content bs is =
      let older : content_map f (content_of records) ≡ content_of (map (items_map f) records) = sym (maps_replay f records) in
      record {
        kept = record {
          accounted = λ group c. subst (λ (o : Content F). IsAccountedBy (account group c) o (content_map f content) (map (filed_map f) bs) group c) older
              (accounted_by (account group c) (content_of records) content bs group c (is.kept.accounted group c));
          bounds = λ group. bounds_mapped (traces group) (content group) (account group) (is.kept.bounds group);
          knows = λ group. subst (λ (o : Content F). Knows (traces group) (o group) (content_map f content group) (account group)) older
              (knows_mapped (traces group) (content_of records group) (content group) (account group) (is.kept.knows group));
          files = λ group. files_mapped (traces group) (content group) (account group) (is.kept.files group);
        };
        behind = λ group. behind_mapped (content group) (account group) (is.behind group);
      }

  -- ---- batches

  pub rise_mapped : (least : ℕ) (bs : List (Filed E)) → FilesRise least bs → FilesRise least (map (filed_map f) bs)
  rise_mapped least [] rise = rise
  rise_mapped least (b ∷ bs) rise = (rise.0, rise_mapped b.file bs rise.1)

  unmarked_mapped : (bs : List (Filed E)) → AreUnmarked (batches_of bs) → AreUnmarked (batches_of (map (filed_map f) bs))
  unmarked_mapped [] none = none
  unmarked_mapped (b ∷ bs) none = (marks_mapped f b.items ∙ none.0, unmarked_mapped bs none.1)

  pub rise_before : (least : ℕ) (bs : List (Filed E)) → FilesRise least (map (filed_map f) bs) → FilesRise least bs
  rise_before least [] rise = rise
  rise_before least (b ∷ bs) rise = (rise.0, rise_before b.file bs rise.1)

  pub unmarked_before : (bs : List (Filed E)) → AreUnmarked (batches_of (map (filed_map f) bs)) → AreUnmarked (batches_of bs)
  unmarked_before [] none = none
  unmarked_before (b ∷ bs) none = (sym (marks_mapped f b.items) ∙ none.0, unmarked_before bs none.1)

  batches_mapped : (bs : List (Filed E)) (start : Content E) → content_map f (after_batches (batches_of bs) start) ≡ after_batches (batches_of (map (filed_map f) bs)) (content_map f start)
  batches_mapped [] start = refl
  batches_mapped (b ∷ bs) start =
      batches_mapped bs (after_batch b.items start) ∙ ap (after_batches (batches_of (map (filed_map f) bs))) (sym (batch_mapped f b.items start))

  pub cleaned_mapped : (first : ℕ) (traces : Traces) (records : List (List (Item E))) (content : Content E) (bs : List (Filed E)) → CanBeCleaned first traces records content bs
      → CanBeCleaned first traces (map (items_map f) records) (content_map f content) (map (filed_map f) bs)
  cleaned_mapped first traces records content bs can = record {
    account = can.account;
    start = content_map f can.start;
    base = ap (content_map f) can.base ∙ batches_mapped bs can.start;
    cleanable = cleanable_mapped traces can.account records content bs can.cleanable;
    rise = rise_mapped first bs can.rise;
    unmarked = unmarked_mapped bs can.unmarked;
    kept = can.kept;
    last = λ group low. some_mapped ((content group).entry ((traces group).next - 1)) (can.last group low);
  }

pub maps_taken : {E F : Type 0} → MapsTaken E F
maps_taken f items content = record { seen = each_mapped f items content; unseen = each_before f items content }

pub maps_cleanable : {E F : Type 0} → MapsCleanable E F
maps_cleanable f first traces records content bs can = cleaned_mapped f first traces records content bs can
