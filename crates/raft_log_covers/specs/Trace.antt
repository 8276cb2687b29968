-- What memtables keep of a group for cleaning: the append files of its entries and keys, and the least append file since
-- which something of it was removed or changed and no marks were written.
use Rattle.std.specs.Prelude.{◌≡◌, ◌≤◌, ◌<◌, ◌+◌, ℕ, Bool, true, false, ◌&&◌, ◌||◌, if◌then◌else◌, min}
use Rattle.std.specs.Prelude.{nat_le, nat_lt, bytes_eq, is_some, IsSome, List, [], ◌∷◌, ◌++◌, length, Option, Some, None}
use Rattle.raft_log_records.specs.Item.{Change}
use Rattle.raft_log_records.specs.Item.Change.{entries, clean, compact, put, delete, mark}
use Rattle.raft_log_records.specs.Spelling.{first_index}
use Rattle.raft_log_memtables.specs.Content.{GroupContent, Content, entry_at, after_change}
use Rattle.raft_log_covers.specs.Cells.{Cell, sets}
use Rattle.raft_log_covers.specs.Cells.Cell.{presence, index, key}
use Rattle.raft_log_covers.specs.Account.{Account, IsFrom, NamesNoneBefore}
use Rattle.raft_log_covers.specs.Marks.{Names, is_in, MayMark, marks, after_changes, names_after_marks, names_after_entries, names_after_put}

pub record Trace : Type 0 where
  -- the entries are those from low up to before next. Where next isn't above low, there is none
  pub low : ℕ
  pub next : ℕ
  -- one past the greatest index that entries ever had since a Clean
  pub top : ℕ
  -- the least append file with a change since the last marks
  pub since : Option ℕ
  -- the append file of the last entry; without entries, that of `since`
  pub tail : Option ℕ
  -- the append files of entries and of keys that are there. None: it stands in the rewrite queue
  pub entry_file : ℕ → Option ℕ
  pub key_file : List ℕ → Option ℕ
  -- the group was cleaned since the last marks
  pub cleaned : Bool
  -- the keys that were deleted since then and aren't there
  pub deleted : List (List ℕ)

-- the lesser of two files, if there is one
abbrev pub least : Option ℕ → Option ℕ → Option ℕ
least None other = other
least (Some file) None = Some file
least (Some file) (Some other) = Some (min file other)

-- ---- the file that it has for a cell

abbrev pub index_file : Trace → ℕ → Option ℕ
index_file t i = if nat_lt i t.low then t.since else (if nat_lt i t.next then t.entry_file i else t.tail)

abbrev pub key_file_of : {E : Type 0} → Trace → GroupContent E → List ℕ → Option ℕ
key_file_of t g k = if is_some (g.value k) then t.key_file k else t.since

abbrev pub file_of : {E : Type 0} → Trace → GroupContent E → Cell → Option ℕ
file_of t g presence = t.since
file_of t g (index i) = index_file t i
file_of t g (key k) = key_file_of t g k

-- a file that an account names isn't before one that is kept for it
abbrev pub IsBounded : Option ℕ → Option ℕ → Type 0
IsBounded None kept = Unit {0}
IsBounded (Some file) None = ⊥
IsBounded (Some file) (Some kept) = kept ≤ file

-- the trace has for each cell a file that isn't after the one that the account names
abbrev pub Bounds : {E : Type 0} → Trace → GroupContent E → Names → Type 0
Bounds t g names = (c : Cell) → IsBounded (names c) (file_of t g c)

-- ---- after a change in an append file

-- entries from first up to before next. Is there an entry before?
abbrev pub entered : ℕ → ℕ → ℕ → Trace → Bool → Trace
entered file first next t true = record {
  low = t.low;
  next = next;
  top = if nat_lt t.top next then next else t.top;
  since = least t.since (Some file);
  tail = Some file;
  entry_file = λ i. if nat_le first i then Some file else t.entry_file i;
  key_file = t.key_file;
  cleaned = t.cleaned;
  deleted = t.deleted;
}
entered file first next t false = record {
  low = first;
  next = next;
  top = if nat_lt t.top next then next else t.top;
  since = least (least t.since t.tail) (Some file);
  tail = Some file;
  entry_file = λ i. if nat_le first i then Some file else None;
  key_file = t.key_file;
  cleaned = t.cleaned;
  deleted = t.deleted;
}

abbrev pub greater : ℕ → ℕ → ℕ
greater m n = if nat_lt m n then n else m

-- entries begin at this index now. Is there one left?
abbrev pub cut : ℕ → ℕ → Trace → Bool → Trace
cut file low t true = record {
  low = low;
  next = t.next;
  top = t.top;
  since = least t.since (Some file);
  tail = t.tail;
  entry_file = λ i. if nat_lt i low then None else t.entry_file i;
  key_file = t.key_file;
  cleaned = t.cleaned;
  deleted = t.deleted;
}
cut file low t false = record {
  low = t.top;
  next = t.top;
  top = t.top;
  since = least (least t.since t.tail) (Some file);
  tail = least (least t.since t.tail) (Some file);
  entry_file = λ i. None;
  key_file = t.key_file;
  cleaned = t.cleaned;
  deleted = t.deleted;
}

abbrev pub without : List ℕ → List (List ℕ) → List (List ℕ)
without name [] = []
without name (k ∷ ks) = if bytes_eq name k then without name ks else k ∷ without name ks

abbrev pub trace_after : {E : Type 0} → ℕ → Change E → Trace → Trace
trace_after file (entries es) t = entered file (first_index es) (first_index es + length es) t (nat_lt t.low t.next)
trace_after file clean t = record {
  low = 0;
  next = 0;
  top = 0;
  since = Some file;
  tail = Some file;
  entry_file = λ i. None;
  key_file = λ k. None;
  cleaned = true;
  deleted = [];
}
trace_after file (compact limit) t = cut file (greater t.low limit) t (nat_lt (greater t.low limit) t.next)
trace_after file (put name value) t = record {
  low = t.low;
  next = t.next;
  top = t.top;
  since = least t.since (Some file);
  tail = t.tail;
  entry_file = t.entry_file;
  key_file = λ k. if bytes_eq name k then Some file else t.key_file k;
  cleaned = t.cleaned;
  deleted = without name t.deleted;
}
trace_after file (delete name) t = record {
  low = t.low;
  next = t.next;
  top = t.top;
  since = least t.since (Some file);
  tail = t.tail;
  entry_file = t.entry_file;
  key_file = λ k. if bytes_eq name k then None else t.key_file k;
  cleaned = t.cleaned;
  deleted = without name t.deleted ++ name ∷ [];
}
trace_after file (mark id status) t = t

abbrev pub names_after : {E : Type 0} → ℕ → Change E → Names → Names
names_after file change names c = if sets change c then Some file else names c

-- Entries that follow one another: there is one, and none behind as many as there are.
pub record AreRun {E : Type 0} (es : List (ℕ × E)) : Type 0 where
  pub some : 0 < length es
  pub no_more : (i : ℕ) → first_index es + length es ≤ i → entry_at es i ≡ None

-- they begin inside the list or at its end, or there is no entry
pub record GoesOn {E : Type 0} (es : List (ℕ × E)) (t : Trace) : Type 0 where
  pub run : AreRun es
  pub inside : nat_lt t.low t.next ≡ true → (t.low ≤ first_index es) × (first_index es ≤ t.next)

abbrev pub GoOn : {E : Type 0} → Change E → Trace → Type 0
GoOn (entries es) t = GoesOn es t
GoOn clean t = Unit {0}
GoOn (compact limit) t = Unit {0}
GoOn (put name value) t = Unit {0}
GoOn (delete name) t = Unit {0}
GoOn (mark id status) t = Unit {0}

-- What is so of a trace, of what the rewrite queue has of the group, of its content, and of what an account names of it.
pub record Knows {E : Type 0} (t : Trace) (older g : GroupContent E) (names : Names) : Type 0 where
  pub below : (i : ℕ) → i < t.low → g.entry i ≡ None
  pub above : (i : ℕ) → t.low ≤ i → t.next ≤ i → g.entry i ≡ None
  pub ends : t.next ≤ t.top
  -- without entries the first index would lie past all that the rewrite queue has
  pub empty_top : t.next ≤ t.low → t.top ≤ t.low
  pub past : t.cleaned ≡ false → (i : ℕ) → t.top ≤ i → older.entry i ≡ None
  pub gone : (k : List ℕ) → is_in k t.deleted ≡ true → g.value k ≡ None
  pub all_gone : t.cleaned ≡ false → (k : List ℕ) → g.value k ≡ None → is_in k t.deleted ≡ false → older.value k ≡ None
  pub entries_since : t.cleaned ≡ true → (i : ℕ) → names (index i) ≡ None → g.entry i ≡ None
  pub keys_since : t.cleaned ≡ true → (k : List ℕ) → names (key k) ≡ None → g.value k ≡ None

-- For each entry and each key that is there an account names the very file that the trace has.
pub record TellsFiles {E : Type 0} (t : Trace) (g : GroupContent E) (names : Names) : Type 0 where
  pub entries_named : (i : ℕ) → IsSome (g.entry i) → names (index i) ≡ t.entry_file i
  pub keys_named : (k : List ℕ) → IsSome (g.value k) → names (key k) ≡ t.key_file k

-- ---- after what cleaning writes of the group

-- its marks
abbrev pub trace_marked : Trace → Trace
trace_marked t = record {
  low = t.low;
  next = t.next;
  top = t.top;
  since = None;
  tail = if nat_le t.next t.low then None else t.tail;
  entry_file = t.entry_file;
  key_file = t.key_file;
  cleaned = false;
  deleted = [];
}

-- its entries from first up to before stop
abbrev pub trace_rewritten : ℕ → ℕ → Trace → Trace
trace_rewritten first stop t = record {
  low = t.low;
  next = t.next;
  top = t.top;
  since = t.since;
  tail = if nat_le t.next stop then None else t.tail;
  entry_file = λ i. if nat_le first i && nat_lt i stop then None else t.entry_file i;
  key_file = t.key_file;
  cleaned = t.cleaned;
  deleted = t.deleted;
}

-- with the last entry what lies past it is settled too
abbrev pub settled_by : ℕ → Trace → ℕ → Bool
settled_by stop t i = nat_le t.next stop || nat_lt i stop

-- a key
abbrev pub trace_put : List ℕ → Trace → Trace
trace_put name t = record {
  low = t.low;
  next = t.next;
  top = t.top;
  since = t.since;
  tail = t.tail;
  entry_file = t.entry_file;
  key_file = λ k. if bytes_eq name k then None else t.key_file k;
  cleaned = t.cleaned;
  deleted = t.deleted;
}

-- ---- laws

-- Each change keeps the bound.
abbrev pub ChangesKeepBounds : Type 0 → Type 0
ChangesKeepBounds E = (file : ℕ) (change : Change E) (t : Trace) (g : GroupContent E) (names : Names) → GoOn change t → Bounds t g names
    → Bounds (trace_after file change t) (after_change change g) (names_after file change names)

-- Each change keeps what is known.
abbrev pub ChangesKeepKnown : Type 0 → Type 0
ChangesKeepKnown E = (file : ℕ) (change : Change E) (t : Trace) (older g : GroupContent E) (names : Names) → GoOn change t → Knows t older g names
    → Knows (trace_after file change t) older (after_change change g) (names_after file change names)

-- By what is known the marks may be written: the Clean if the group was cleaned, the Compact of low, and the deleted keys.
abbrev pub TracesTellMarks : Type 0 → Type 0
TracesTellMarks E = (t : Trace) (older g : GroupContent E) (names : Names) → g.there ≡ true → Knows t older g names
    → MayMark older g names t.cleaned t.low (nat_le t.next t.low) t.deleted

-- After the marks, and after entries or a key were rewritten, the bounds hold on.
pub record KeepsBoundsRewritten {E : Type 0} (t : Trace) (g : GroupContent E) (names : Names) : Type 0 where
  pub marked : Bounds (trace_marked t) g (names_after_marks g names t.low (nat_le t.next t.low))
  pub entries_too : (es : List (ℕ × E)) (stop : ℕ) → first_index es ≤ t.next → Bounds (trace_rewritten (first_index es) stop t) g (names_after_entries names es (settled_by stop t))
  pub keys_too : (name : List ℕ) → Bounds (trace_put name t) g (names_after_put names name)

abbrev pub RewritesKeepBounds : Type 0 → Type 0
RewritesKeepBounds E = (t : Trace) (g : GroupContent E) (names : Names) → Bounds t g names → KeepsBoundsRewritten t g names

pub record KeepsKnownRewritten {E : Type 0} (t : Trace) (older g : GroupContent E) (names : Names) : Type 0 where
  pub marked : ((k : List ℕ) → g.value k ≡ None → (after_changes (marks t.cleaned t.low t.deleted) older).value k ≡ None)
      → Knows (trace_marked t) (after_changes (marks t.cleaned t.low t.deleted) older) g (names_after_marks g names t.low (nat_le t.next t.low))
  pub entries_too : (es : List (ℕ × E)) (stop : ℕ) → AreRun es → first_index es + length es ≤ t.top → t.cleaned ≡ false
      → Knows (trace_rewritten (first_index es) stop t) (after_change (entries es) older) g (names_after_entries names es (settled_by stop t))
  pub keys_too : (name value : List ℕ) → g.value name ≡ Some value → t.cleaned ≡ false
      → Knows (trace_put name t) (after_change (put name value) older) g (names_after_put names name)

-- So does what is known. Where nothing is named after the marks, the rewrite queue has what the content has.
abbrev pub RewritesKeepKnown : Type 0 → Type 0
RewritesKeepKnown E = (t : Trace) (older g : GroupContent E) (names : Names) → Knows t older g names → KeepsKnownRewritten t older g names

-- Where memtables keep no file before one, an account that they bound names none before it.
abbrev pub TracesLetGo : Type 0 → Type 0
TracesLetGo E = (traces : ℕ → Trace) (content : Content E) (account : Account) (first : ℕ) → ((group : ℕ) → Bounds (traces group) (content group) (account group))
    → ((group : ℕ) (c : Cell) → IsFrom first (file_of (traces group) (content group) c)) → NamesNoneBefore first account

-- Each change, and each rewriting, keeps the files told.
abbrev pub ChangesKeepFiles : Type 0 → Type 0
ChangesKeepFiles E = (file : ℕ) (change : Change E) (t : Trace) (older g : GroupContent E) (names : Names) → Knows t older g names → TellsFiles t g names
    → TellsFiles (trace_after file change t) (after_change change g) (names_after file change names)

pub record KeepsFilesRewritten {E : Type 0} (t : Trace) (g : GroupContent E) (names : Names) : Type 0 where
  pub marked : TellsFiles (trace_marked t) g (names_after_marks g names t.low (nat_le t.next t.low))
  pub entries_too : (es : List (ℕ × E)) (stop : ℕ) → TellsFiles (trace_rewritten (first_index es) stop t) g (names_after_entries names es (settled_by stop t))
  pub keys_too : (name : List ℕ) → TellsFiles (trace_put name t) g (names_after_put names name)

abbrev pub RewritesKeepFiles : Type 0 → Type 0
RewritesKeepFiles E = (t : Trace) (older g : GroupContent E) (names : Names) → Knows t older g names → TellsFiles t g names → KeepsFilesRewritten t g names

-- ---- what is so of a trace whatever batches come, also those that leave a hole as left-over files are replayed

pub record KnowsRemoved {E : Type 0} (t : Trace) (older g : GroupContent E) (names : Names) : Type 0 where
  pub gone : (k : List ℕ) → is_in k t.deleted ≡ true → g.value k ≡ None
  pub all_gone : t.cleaned ≡ false → (k : List ℕ) → g.value k ≡ None → is_in k t.deleted ≡ false → older.value k ≡ None
  pub entries_since : t.cleaned ≡ true → (i : ℕ) → names (index i) ≡ None → g.entry i ≡ None
  pub keys_since : t.cleaned ≡ true → (k : List ℕ) → names (key k) ≡ None → g.value k ≡ None

abbrev pub ChangesKeepRemoved : Type 0 → Type 0
ChangesKeepRemoved E = (file : ℕ) (change : Change E) (t : Trace) (older g : GroupContent E) (names : Names) → KnowsRemoved t older g names
    → KnowsRemoved (trace_after file change t) older (after_change change g) (names_after file change names)
