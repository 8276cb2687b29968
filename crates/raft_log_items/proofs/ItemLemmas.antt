-- What is left of files.
use Rattle.std.proofs.Common.{◌≡◌, ◌⊎◌, inl, inr, ℕ, ◌+◌, ◌-◌, ◌^◌, min, List, [], ◌∷◌, ◌++◌, length, Option, Some, None, Result, Ok, Err, refl, sym, ap, subst, ◌∙◌, arith, append_assoc}
use Rattle.std.specs.Prelude.{map, IsSome, option_to_list}
use Rattle.std.specs.List.{AllByRecursion}
use Rattle.std.specs.Option.{option_map}
use Rattle.std.proofs.lemmas.Bool.{false≢true}
use Rattle.raft_log_records.specs.declared.error.RecordFault.{RecordFault}
use Rattle.raft_log_records.specs.declared.file_id.FileId.{FileId}
use Rattle.raft_log_records.specs.declared.item.LogItem.{LogItem}
use Rattle.raft_log_records.specs.Item.{item_of, items_of}
use Rattle.raft_log_disk.specs.declared.fault.IoFault.{IoFault}
use Rattle.raft_log_disk.specs.declared.fault.IoFault.TheVariants as io
use Rattle.raft_log_disk.specs.declared.format.HeaderFault.{HeaderFault}
use Rattle.raft_log_disk.specs.declared.format.HeaderFault.TheVariants.{CutShort}
use Rattle.raft_log_disk.specs.declared.format.LogFileFormat.{LogFileFormat}
use Rattle.raft_log_disk.specs.Cause.{HasCause, Meter}
use Rattle.raft_log_disk.specs.Disk.{Disk, fd_of}
use Rattle.raft_log_disk.specs.Format.{header_at, header_len}
use Rattle.raft_log_disk.specs.Text.{Text}
use Rattle.raft_log_files.specs.declared.error.CorruptionFault.{CorruptionFault}
use Rattle.raft_log_files.specs.declared.error.CorruptionFault.TheVariants.{Header, Record, NoSuchFile}
use Rattle.raft_log_files.specs.declared.error.Error.{Error}
use Rattle.raft_log_files.specs.declared.error.Error.TheVariants.{Io, Corruption, InvalidArgument, TryAgain, Memory, Other, EntryCompacted, EntryNotFound}
use Rattle.raft_log_files.specs.Error.{io_error}
use Rattle.raft_log_file.specs.declared.batches.LogItemBatchFileReader.{LogItemBatchFileReader}
use Rattle.raft_log_file.specs.declared.batches.OpenFile.{OpenFile}
use Rattle.raft_log_file.specs.declared.batches.ReadBatch.{ReadBatch}
use Rattle.raft_log_file.specs.Errors.{IsNextFault, IsOpenFault, IsReadFault, Parses}
use Rattle.raft_log_file.specs.Reader.{FailsNext, HoldsBytes, IsReader, Next, bytes_in, left}
use Rattle.raft_log_file.specs.Reading.{Reading, read_behind, read_or, stopped}
use Rattle.raft_log_recovery.specs.Repair.{record_fault}
use Rattle.raft_log_recovery.proofs.CorruptLemmas.{open_sound}
use Rattle.raft_log_recovery.proofs.RepairLemmas.{batches_by, no_reading, reading_of}
use Rattle.raft_log_items.specs.declared.found.LogFile.{LogFile}
use Rattle.raft_log_items.specs.declared.reader.LogItemReader.{LogItemReader}
use Rattle.raft_log_items.specs.Found.{found_of}
use Rattle.raft_log_items.specs.Items.{Fails, FileItems, IsRead, IsRefused, IsUnopened, IsUnread, NextItem, NextOfFile, Passes, StandsAt, current, file_items, files_left, items_at, items_in, nothing, with_item}

-- ---- the file that is read

-- what is left of it
abbrev pub left_of : List LogItem → Reading → FileItems
left_of items r = record {
  items = items_of items ++ items_in r.batches;
  fault = option_map (λ f. Corruption f) (record_fault r.fault);
}

-- a reader of no file has nothing left
pub none_left : (r : LogItemBatchFileReader) (d : Disk) → r.file ≡ None → left r d ≡ stopped r.valid_offset None
none_left r d is = ap (λ (o : Option OpenFile). elim o as (λ _. Reading) [
  | None ↦ stopped r.valid_offset None
  | Some file ↦ read_behind file.id file.format r.valid_offset (bytes_in d file)
]) is

pub none_reads : (r : LogItemBatchFileReader) (d : Disk) → r.file ≡ None → IsReader r d
none_reads r d is = subst (λ (o : Option OpenFile). elim o as (λ _. Type 0) [
  | None ↦ Unit {0}
  | Some file ↦ HoldsBytes (bytes_in d file) r.buffer.items r.buffer_offset r.valid_offset r.size
]) (sym is) tt

-- nor has one that holds no items of a batch
pub nothing_left : (r : LogItemBatchFileReader) (d : Disk) (items : List LogItem) → r.file ≡ None → items ≡ [] → left_of items (left r d) ≡ nothing
nothing_left r d items file none =
    let is = none_left r d file in
    let whole : left_of items (left r d) ≡ nothing = λ i. left_of (none i) (is i) in
    whole

-- the first item goes
pub popped : (before : FileItems) (r : Reading) (items rest : List LogItem) (item : LogItem) → left_of items r ≡ before → items ≡ item ∷ rest → before ≡ with_item (item_of item) (left_of rest r)
popped before r items rest item same is = sym same ∙ ap (λ (l : List LogItem). left_of l r) is

pub popped_at : (before : FileItems) (d : Disk) (m : Meter) (r : Reading) (items rest : List LogItem) (o : Option LogItem) → left_of items r ≡ before → items ≡ option_to_list o ++ rest → IsSome o → NextOfFile (Ok o) d m before (left_of rest r)
popped_at before d m r items rest (Some item) same is there = popped before r items rest item same is
popped_at before d m r items rest None same is there = absurd (false≢true there)

-- a deque without a length has no items
pub none_of : (items : List LogItem) → length items ≡ 0 → items ≡ []
none_of [] is = refl
none_of (item ∷ items) is = absurd (omega (arith, is))

-- the next batch is read
pub taken : (before : FileItems) (old new : Reading) (items : List LogItem) (read : ReadBatch) (bytes : List ℕ) (held : List LogItem) → held ≡ read.batch.items.items → left_of items old ≡ before → items ≡ [] → Next (Ok (Some read)) bytes old new
    → left_of held new ≡ before
taken before old new items read bytes held has same none (entries, is, block) =
    let whole : left_of items old ≡ left_of read.batch.items.items new = λ i. left_of (none i) (is i) in
    ap (λ (l : List LogItem). left_of l new) has ∙ sym whole ∙ same

-- no batch is left
pub emptied : (before : FileItems) (old new : Reading) (items : List LogItem) (bytes : List ℕ) → left_of items old ≡ before → items ≡ [] → Next (Ok None) bytes old new → IsRead before
emptied before old new items bytes same none (batches, fault, after) = (
  ap (λ (f : FileItems). f.items) (sym same) ∙ (λ i. items_of (none i) ++ items_in (batches i)),
  ap (λ (f : FileItems). f.fault) (sym same) ∙ ap (λ (o : Option RecordFault). option_map (λ (f : CorruptionFault). Corruption f) (record_fault o)) fault,
)

-- the reader fails: where its batches end, by the fault there; or by what its file gives
pub failed : (before : FileItems) (r : LogItemBatchFileReader) (d : Disk) (m : Meter) (after : Reading) (items : List LogItem) (bytes : List ℕ) (e : Error)
    → left_of items (left r d) ≡ before → items ≡ [] → FailsNext r d m e → Next (Err e) bytes (left r d) after → StandsAt before e ⊎ IsUnread d m e
failed before r d m after items bytes e same none fails next = by_file r.file fails
  where
    stands : (f : RecordFault) → e ≡ Corruption (Record f) → StandsAt before e
    stands f is =
        let told : Next (Err (Corruption (Record f))) bytes (left r d) after = subst (λ (x : Error). Next (Err x) bytes (left r d) after) is next in (
          ap (λ (x : FileItems). x.items) (sym same) ∙ (λ i. items_of (none i) ++ items_in (told.0 i)),
          ap (λ (x : FileItems). x.fault) (sym same) ∙ ap (λ (o : Option RecordFault). option_map (λ (c : CorruptionFault). Corruption c) (record_fault o)) told.1 ∙ ap (λ (x : Error). Some x) (sym is),
        )

    by_fault : (fd : ℕ) → IsNextFault d m fd e → StandsAt before e ⊎ IsUnread d m e
    by_fault fd (inl fault) = inl (stands fault.0 fault.1)
    by_fault fd (inr unread) = inr (fd, unread)

    by_file : (o : Option OpenFile) → (elim o as (λ _. Type 0) [ None ↦ ⊥ | Some file ↦ IsNextFault d m file.fd.0 e ]) → StandsAt before e ⊎ IsUnread d m e
    by_file None never = absurd never
    by_file (Some file) fault = by_fault file.fd.0 fault

-- a reader that has let go of its file
pub left_nothing : (r : LogItemReader) (d : Disk) → r.batches.file ≡ None → r.items.items ≡ [] → current r d ≡ nothing
left_nothing r d file none = nothing_left r.batches d r.items.items file none

-- ---- a file that is opened

-- the call's fault is told
pub unopened : {T : Type 0} (d : Disk) (path : Text) (old new : Meter) (f : IoFault) (e : Error) → e ≡ io_error f → HasCause {T = T} (fd_of d.names path ≡ None) ⊥ old new (Err f) → IsUnopened d path old new e
unopened d path old new io.Memory e is cause = inr (inl is)
unopened d path old new io.Refused e is cause = inr (inr (is, cause.refused))
unopened d path old new io.NoSpace e is cause = absurd (cause.no_space refl)
unopened d path old new io.NotFound e is cause = inl (is, cause.not_found refl)

abbrev fault_by : Result Reading HeaderFault → Option CorruptionFault
fault_by r = read_or (λ (x : Reading). record_fault x.fault) (λ (f : HeaderFault). Some (Header f)) r

abbrev items_by : Result Reading HeaderFault → FileItems
items_by r = record { items = items_in (batches_by r); fault = option_map (λ (f : CorruptionFault). Corruption f) (fault_by r) }

-- its items are those that a reader has left behind the header
pub begun : (d : Disk) (id : FileId) (fd : ℕ) (format : LogFileFormat) (items : List LogItem) (r : Reading) → header_at (d.file fd).bytes ≡ Ok format → items ≡ [] → r ≡ read_behind id format (header_len format.version) (d.file fd).bytes
    → left_of items r ≡ items_at d id (Some fd)
begun d id fd format items r told none is =
    let bytes : List ℕ = (d.file fd).bytes in
    let whole : left_of items r ≡ left_of [] (read_behind id format (header_len format.version) bytes) = λ i. left_of (none i) (is i) in
    whole ∙ sym (ap items_by (reading_of id bytes format told))

-- a broken header stands in the place of items
pub not_begun : (d : Disk) (m : Meter) (id : FileId) (fd : ℕ) (e : Error) → Parses d m fd (Err e) → StandsAt (items_at d id (Some fd)) e ⊎ IsReadFault d m fd e
not_begun d m id fd (Corruption (Header f)) is =
    let none = ap items_by (no_reading id (d.file fd).bytes f is) in
    inl (ap (λ (x : FileItems). x.items) none, ap (λ (x : FileItems). x.fault) none)
not_begun d m id fd (Corruption (Record f)) is = inr is
not_begun d m id fd (Corruption NoSuchFile) is = inr is
not_begun d m id fd (Io x) is = inr is
not_begun d m id fd (InvalidArgument x) is = inr is
not_begun d m id fd TryAgain is = inr is
not_begun d m id fd Memory is = inr is
not_begun d m id fd (Other x) is = inr is
not_begun d m id fd EntryCompacted is = inr is
not_begun d m id fd EntryNotFound is = inr is

-- of a file with a header only reads fail
pub only_unread : (d : Disk) (m : Meter) (fd : ℕ) (format : LogFileFormat) (e : Error) → header_at (d.file fd).bytes ≡ Ok format → IsOpenFault d m fd format e → IsReadFault d m fd e
only_unread d m fd format e told (inl cut) = absurd (open_sound d m fd format (Header CutShort) told (inl (refl, cut.1)))
only_unread d m fd format e told (inr unread) = unread

-- why a file fails of which a number is known
pub fails_open : (d : Disk) (old new : Meter) (id : FileId) (path : Text) (fd : ℕ) (e : Error) → fd_of d.names path ≡ Some fd → StandsAt (items_at d id (Some fd)) e ⊎ IsReadFault d new fd e → Fails d old new (file_items d (id, path)) e
fails_open d old new id path fd e named (inl stands) = inl (subst (λ (o : Option ℕ). StandsAt (items_at d id o) e) (sym named) stands)
fails_open d old new id path fd e named (inr unread) = inr (inl (fd, unread))

-- and of which none is
pub fails_unopened : (d : Disk) (old new : Meter) (id : FileId) (path : Text) (e : Error) → IsUnopened d path old new e → Fails d old new (file_items d (id, path)) e
fails_unopened d old new id path e (inl gone) = inl (subst (λ (o : Option ℕ). StandsAt (items_at d id o) e) (sym gone.1) (refl, ap (λ (x : Error). Some x) (sym gone.0)))
fails_unopened d old new id path e (inr refused) = inr (inr refused)

-- ---- one file after the other

push_read : (passed : List FileItems) (here : FileItems) → AllByRecursion IsRead passed → IsRead here → AllByRecursion IsRead (passed ++ here ∷ [])
push_read [] here all read = (read, tt)
push_read (p ∷ passed) here (first, others) read = (first, push_read passed here others read)

pub passes_none : (files : List FileItems) → Passes files files
passes_none files = ([], tt, refl)

-- a file more is passed over
pub passes_on : (before : List FileItems) (here : FileItems) (rest : List FileItems) → Passes before (here ∷ rest) → IsRead here → Passes before rest
passes_on before here rest (passed, all, is) read = (passed ++ here ∷ [], push_read passed here all read, is ∙ sym (append_assoc passed (here ∷ []) rest))

pub passes_one : (here : FileItems) (rest : List FileItems) → IsRead here → Passes (here ∷ rest) rest
passes_one here rest read = passes_on (here ∷ rest) here rest (passes_none (here ∷ rest)) read

pub is_read : (here : FileItems) → here ≡ nothing → IsRead here
is_read here is = (ap (λ (x : FileItems). x.items) is, ap (λ (x : FileItems). x.fault) is)

-- the files behind the one that is read
abbrev pub behind : Disk → List LogFile → List FileItems
behind d files = map (file_items d) (map found_of files)

-- the file that is read has ended, and the next one is opened
pub gone_on : (init now new : LogItemReader) (d e : Disk) (file : LogFile) (rest : List LogFile) → e ≡ d → Passes (files_left init d) (files_left now d) → IsRead (current now d) → now.files.items ≡ file ∷ rest → new.files.items ≡ rest
    → current new e ≡ file_items e (found_of file) → Passes (files_left init e) (files_left new e)
gone_on init now new d e file rest same so read files left is =
    let there : Passes (files_left init d) (behind d now.files.items) = passes_on (files_left init d) (current now d) (behind d now.files.items) so read in
    let moved : Passes (files_left init e) (behind e now.files.items) = subst (λ (x : Disk). Passes (files_left init x) (behind x now.files.items)) (sym same) there in
    let whole : behind e now.files.items ≡ files_left new e = ap (behind e) files ∙ (λ i. sym is i ∷ behind e (sym left i)) in
    subst (λ (l : List FileItems). Passes (files_left init e) l) whole moved

-- the next file can't be opened
pub gone_wrong : (init now new : LogItemReader) (d e : Disk) (old before after : Meter) (file : LogFile) (rest : List LogFile) (x : Error) → e ≡ d → Passes (files_left init d) (files_left now d) → IsRead (current now d) → now.files.items ≡ file ∷ rest → new.files.items ≡ rest
    → current new e ≡ nothing → before.refusals ≡ old.refusals → Fails e before after (file_items e (found_of file)) x → NextItem (Err x) e old after (files_left init e) (files_left new e)
gone_wrong init now new d e old before after file rest x same so read files left is quiet fails =
    let there : Passes (files_left init d) (behind d now.files.items) = passes_on (files_left init d) (current now d) (behind d now.files.items) so read in
    let moved : Passes (files_left init e) (behind e now.files.items) = subst (λ (y : Disk). Passes (files_left init y) (behind y now.files.items)) (sym same) there in (
      file_items e (found_of file),
      behind e rest,
      subst (λ (l : List LogFile). Passes (files_left init e) (behind e l)) files moved,
      elim fails as (λ _. Fails e old after (file_items e (found_of file)) x) [
        | inl stands ↦ inl stands
        | inr other ↦ elim other as (λ _. Fails e old after (file_items e (found_of file)) x) [
          | inl unread ↦ inr (inl unread)
          | inr refused ↦ inr (inr (refused_since refused))
        ]
      ],
      subst (λ (l : List LogFile). Passes (files_left new e) (behind e l)) left (passes_one (current new e) (behind e new.files.items) (is_read (current new e) is)),
    )
  where
    refused_since : IsRefused before after x → IsRefused old after x
    refused_since (inl memory) = inl memory
    refused_since (inr counted) = inr (counted.0, counted.1 ∙ ap (λ n. min (n + 1) (2 ^ 64 - 1)) quiet)

-- the file that is read gives an item
pub gives : (init now new : LogItemReader) (d : Disk) (old after : Meter) (item : LogItem) → Passes (files_left init d) (files_left now d) → current now d ≡ with_item (item_of item) (current new d) → new.files.items ≡ now.files.items
    → NextItem (Ok (Some item)) d old after (files_left init d) (files_left new d)
gives init now new d old after item so is files = (
  current new d,
  behind d new.files.items,
  subst (λ (l : List FileItems). Passes (files_left init d) l) (λ i. is i ∷ behind d (sym files i)) so,
  refl,
)

-- no file is left
pub ends : (init now new : LogItemReader) (d : Disk) (old after : Meter) → Passes (files_left init d) (files_left now d) → IsRead (current now d) → now.files.items ≡ [] → new.files.items ≡ [] → current new d ≡ nothing
    → NextItem (Ok None) d old after (files_left init d) (files_left new d)
ends init now new d old after so read none none_now is = (
  subst (λ (l : List LogFile). Passes (files_left init d) (behind d l)) none (passes_on (files_left init d) (current now d) (behind d now.files.items) so read),
  subst (λ (l : List LogFile). Passes (files_left new d) (behind d l)) none_now (passes_one (current new d) (behind d new.files.items) (is_read (current new d) is)),
)

-- the file that is read can't go on
pub fails : (init now new : LogItemReader) (d : Disk) (old after : Meter) (e : Error) → Passes (files_left init d) (files_left now d) → StandsAt (current now d) e ⊎ IsUnread d after e → new.files.items ≡ now.files.items → current new d ≡ nothing
    → NextItem (Err e) d old after (files_left init d) (files_left new d)
fails init now new d old after e so why files is = (
  current now d,
  behind d now.files.items,
  so,
  elim why as (λ _. Fails d old after (current now d) e) [ inl stands ↦ inl stands | inr unread ↦ inr (inl unread) ],
  subst (λ (l : List LogFile). Passes (files_left new d) (behind d l)) files (passes_one (current new d) (behind d new.files.items) (is_read (current new d) is)),
)
