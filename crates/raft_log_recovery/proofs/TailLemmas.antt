-- Of a pipe of which a crash leaves at most the newest file torn an opening in tail mode refuses nothing.
use Rattle.std.proofs.Common.{◌≡◌, ◌⊎◌, inl, inr, ⊎_elim, ℕ, suc, ◌<◌, true, false, List, [], ◌∷◌, ◌++◌, length, Option, Some, None, Result, Ok, Err, refl, sym, ap, subst, ◌∙◌, arith, length-append}
use Rattle.std.specs.Prelude.{MatchResult, ◌==◌}
use Rattle.std.proofs.lemmas.List.{append-nil, take_all}
use Rattle.std.proofs.lemmas.Bool.{false≢true}
use Rattle.std.proofs.lemmas.List.Sorted.{Contains-permutation, IsPermutation-sym}
use Rattle.raft_bytes.specs.Bytes as whole
use Rattle.raft_log_records.specs.declared.file_id.FileId.{FileId}
use Rattle.raft_log_records.specs.declared.file_id.LogQueue.{LogQueue}
use Rattle.raft_log_records.specs.declared.version.Version.TheVariants.{V1}
use Rattle.raft_log_records.specs.Signature.{signature_of}
use Rattle.raft_log_disk.specs.declared.format.HeaderFault.{HeaderFault}
use Rattle.raft_log_disk.specs.declared.format.LogFileFormat.{LogFileFormat}
use Rattle.raft_log_disk.specs.Disk.{Disk, FileState, IsIn, IsNamed, are_named}
use Rattle.raft_log_disk.specs.Chance.{IsGenuine}
use Rattle.raft_log_disk.specs.Format.{header_at}
use Rattle.raft_log_disk.specs.Image.{Image, IsFileImage}
use Rattle.raft_log_disk.specs.Text.{Text}
use Rattle.raft_log_disk.proofs.DiskLemmas.{still_is_left}
use Rattle.raft_log_files.specs.declared.error.CorruptionFault.{CorruptionFault}
use Rattle.raft_log_files.specs.declared.error.CorruptionFault.TheVariants.{Header}
use Rattle.raft_log_files.specs.declared.recovery.RecoveryMode.TheVariants.{TolerateTailCorruption}
use Rattle.raft_log_file.specs.Laws.{AreBatches, Batch, ReadsFront, file_text}
use Rattle.raft_log_file.specs.Reading.{Reading, file_reading, read_from, read_or}
use Rattle.raft_log_file.proofs.LawLemmas.{written_batches_are_read}
use Rattle.raft_log_file.proofs.UnsyncedLemmas.{each_byte}
use Rattle.raft_log_file.proofs.WalkLemmas.{from_end}
use Rattle.raft_log_pipe.specs.declared.file.File.{File}
use Rattle.raft_log_pipe.specs.declared.pipe.SinglePipe.{SinglePipe}
use Rattle.raft_log_pipe.specs.Alone.{AreLast, Names, StandsAt, directories_of_pipe}
use Rattle.raft_log_pipe.specs.Pipe.{AreOlder, IsOlder, Numbered, id_of}
use Rattle.raft_log_pipe.specs.Stored.{IsEnded, IsStored}
use Rattle.raft_log_pipe.specs.Torn.{IsTornAtEnd, IsUnaligned}
use Rattle.raft_log_pipe.proofs.AloneLemmas.{in_second, stands_named}
use Rattle.raft_log_pipe.proofs.BlockLemmas.{in_last}
use Rattle.raft_log_pipe.proofs.PipeLemmas.{genuine_there, image_there, in_all}
use Rattle.raft_log_pipe.proofs.PurgeLemmas.{same_number}
use Rattle.raft_log_pipe.proofs.TornLemmas.{unsynced_plain}
use Rattle.raft_log_recovery.specs.declared.scan.FileKind.TheVariants.{Log}
use Rattle.raft_log_recovery.specs.declared.scan.FileName.{FileName}
use Rattle.raft_log_recovery.specs.Crashed.{HasLastingHole, IsCrashed, TornTailsAreOpened}
use Rattle.raft_log_recovery.specs.Opening.{AnyAligned}
use Rattle.raft_log_recovery.specs.Queue.{AnyRefused, AreOpen, IsFileOf}
use Rattle.raft_log_recovery.specs.Repair.{fault_in, format_in, record_fault}
use Rattle.raft_log_recovery.specs.Scan.{AreFound, OnlyMakes}
use Rattle.raft_log_recovery.proofs.CrashLemmas.{same_found}
use Rattle.raft_log_recovery.proofs.FoundLemmas.{contained, in_contained}
use Rattle.raft_log_recovery.proofs.RunLemmas.{AreSame, found_stands, in_dropped}

-- ---- one file

-- what reading makes of a file of whole records has no fault
no_fault : (id : FileId) (bytes : List ℕ) (r : Result Reading HeaderFault) (ks : List Batch) (behind : Reading) → file_reading id bytes ≡ r → behind.fault ≡ None → MatchResult r (ReadsFront ks behind) (λ _. ⊥) → fault_in id bytes ≡ None
no_fault id bytes (Ok r) ks behind is none front =
    ap (read_or (λ (x : Reading). record_fault x.fault) (λ (f : HeaderFault). Some (Header f))) is ∙ ap record_fault (front.fault ∙ none)
no_fault id bytes (Err f) ks behind is none front = absurd front

-- a file that was ended has no fault in any image
ended_sound : (id : FileId) (format : LogFileFormat) (ks : List Batch) (offset : ℕ) (f : FileState) (bytes : List ℕ) → IsStored id format ks [] offset f → IsEnded offset f → IsFileImage f bytes → fault_in id bytes ≡ None
ended_sound id format ks offset f bytes stored ended image =
    let text : List ℕ = file_text id format (ks ++ []) in
    let are : AreBatches (ks ++ []) = subst AreBatches (sym (append-nil ks)) stored.unsynced.synced in
    let all : bytes ≡ text ++ [] = still_is_left f bytes ended.still image ∙ sym (take_all offset f.bytes ended.short) ∙ stored.front ∙ sym (append-nil text) in
    let end : Reading = read_from format.alignment (signature_of format.version id.seq) (length text) [] in
    let none : end.fault ≡ None = ap (λ (x : Reading). x.fault) (from_end format.alignment (signature_of format.version id.seq) (length text) [] refl) in
    ap (fault_in id) all
    ∙ no_fault id (text ++ []) (file_reading id (text ++ [])) (ks ++ []) end refl none
    (written_batches_are_read id format (ks ++ []) [] stored.unsynced.spellable are (subst whole.AreBytes all (each_byte bytes image.fits)))

-- a header that shows no alignment
format_plain : (id : FileId) (f : FileState) (bytes : List ℕ) → IsUnaligned id f → IsFileImage f bytes → IsGenuine id f bytes → (format_in bytes).alignment ≡ 0
format_plain id f bytes plain image genuine = by_header (header_at bytes) refl
  where
    by_header : (r : Result LogFileFormat HeaderFault) → header_at bytes ≡ r → (read_or (λ (x : LogFileFormat). x) (λ (_ : HeaderFault). record { version = V1; alignment = 0 }) r).alignment ≡ 0
    by_header (Ok format) is = plain bytes format image genuine is
    by_header (Err fault) is = refl

-- a file without bytes has none
bare_plain : (bytes : List ℕ) → bytes ≡ [] → (format_in bytes).alignment ≡ 0
bare_plain bytes none = ap (λ (l : List ℕ). (format_in l).alignment) none ∙ refl

-- ---- files by their names

module _ (made : Disk) (directories : List Text) (queue : LogQueue) where
  -- each name is that of the file at its place
  abbrev AreFor : List File → List FileName → Type 0
  AreFor [] [] = Unit {0}
  AreFor [] (name ∷ names) = ⊥
  AreFor (f ∷ fs) [] = ⊥
  AreFor (f ∷ fs) (name ∷ names) = (f.seq ≡ name.seq) × IsFileOf made directories queue name f.handle.0 × AreFor fs names

  named_for : (fs gs : List File) (names : List FileName) → AreSame fs gs → AreOpen made directories queue names gs → AreFor fs names
  named_for [] gs [] same opened = tt
  named_for [] gs (name ∷ names) same (h, more, is, here, others) = absurd (omega (arith, ap length same, ap length is))
  named_for (f ∷ fs) gs [] (g, rest, is, seq, fd, tail) none = absurd (omega (arith, ap length is, ap length none))
  named_for (f ∷ fs) gs (name ∷ names) (g, rest, is, seq, fd, tail) (h, more, are, here, others) =
      let both : g ∷ rest ≡ h ∷ more = sym is ∙ are in
      let first : g ≡ h = cc in
      let behind : rest ≡ more = cc in (
        sym seq ∙ ap (λ (x : File). x.seq) first ∙ here.seq,
        subst (IsFileOf made directories queue name) (ap (λ (x : File). x.handle.0) (sym first) ∙ fd) here.there,
        named_for fs rest names tail (subst (AreOpen made directories queue names) (sym behind) others),
      )

  for_length : (fs : List File) (names : List FileName) → AreFor fs names → length fs ≡ length names
  for_length [] [] are = refl
  for_length [] (name ∷ names) are = absurd are
  for_length (f ∷ fs) [] are = absurd are
  for_length (f ∷ fs) (name ∷ names) are = ap suc (for_length fs names are.2)

  -- the file of a name that others follow is an older one
  older_for : (fs : List File) (active : File) (before : List FileName) (name : FileName) (behind : List FileName) → AreFor (fs ++ active ∷ []) (before ++ name ∷ behind) → 0 < length behind
      → (f : File) × IsIn f fs × (f.seq ≡ name.seq) × IsFileOf made directories queue name f.handle.0
  older_for [] active [] name behind are some = absurd (omega (arith, for_length [] behind are.2, some))
  older_for [] active (x ∷ before) name behind are some = absurd (omega (arith, for_length [] (before ++ name ∷ behind) are.2, length-append before (name ∷ behind)))
  older_for (f ∷ fs) active [] name behind are some = (f, inl refl, are.0, are.1)
  older_for (f ∷ fs) active (x ∷ before) name behind are some =
      let next = older_for fs active before name behind are.2 some in
      (next.0, inr next.1, next.2, next.3)

  -- each name has its file
  any_for : (fs : List File) (names : List FileName) (name : FileName) → AreFor fs names → IsIn name names → (f : File) × IsIn f fs × (f.seq ≡ name.seq) × IsFileOf made directories queue name f.handle.0
  any_for fs [] name are there = absurd there
  any_for [] (x ∷ names) name are there = absurd are
  any_for (f ∷ fs) (x ∷ names) name are (inl same) =
      (f, inl refl, are.0 ∙ ap (λ (y : FileName). y.seq) (sym same), subst (λ (y : FileName). IsFileOf made directories queue y f.handle.0) (sym same) are.1)
  any_for (f ∷ fs) (x ∷ names) name are (inr there) =
      let next = any_for fs names name are.2 there in
      (next.0, inr next.1, next.2, next.3)

  -- names of files that stand there have open files
  open_of : (names : List FileName) → ((x : FileName) → IsIn x names → (fd : ℕ) × IsFileOf made directories queue x fd) → (fs : List File) × AreOpen made directories queue names fs
  open_of [] each = ([], refl)
  open_of (name ∷ names) each =
      let fd = each name (inl refl) in
      let rest = open_of names (λ x there. each x (inr there)) in
      let f : File = record { seq = name.seq; handle = record { 0 = fd.0 }; format = record { version = V1; alignment = 0 }; path_id = name.path_id; reserved = false } in
      (f ∷ rest.0, (f, rest.0, refl, record { seq = refl; place = refl; there = fd.1 }, rest.1))

  -- what is found is among all files
  in_found : (names : List FileName) (x : FileName) → (found : AreFound made (Log queue) directories names) → IsIn x names → IsIn x found.all
  in_found names x found there =
      let inside : IsIn x found.sorted = in_dropped found.start found.sorted x (subst (IsIn x) found.rest there) in
      in_contained x found.all (Contains-permutation found.sorted found.all x (IsPermutation-sym found.all found.sorted found.same) (contained x found.sorted inside))

  pub found_open : (names : List FileName) → AreFound made (Log queue) directories names → (fs : List File) × AreOpen made directories queue names fs
  found_open names found = open_of names each
    where
      each : (x : FileName) → IsIn x names → (fd : ℕ) × IsFileOf made directories queue x fd
      each x there =
          let stands = found_stands made queue directories found.all x found.in_directories (in_found names x found there) in
          (stands.0, stands.1.2)

-- ---- a pipe

-- an older file of a list, with its batches
pub older_at : (queue : LogQueue) (d : Disk) (fs : List File) (bs : Numbered) (f : File) → AreOlder queue d fs bs → IsIn f fs → (ks : List Batch) × IsOlder queue d f ks
older_at queue d [] bs f os there = absurd there
older_at queue d (g ∷ fs) bs f (ks, rest, is, o, os) (inl same) = (ks, subst (λ (x : File). IsOlder queue d x ks) (sym same) o)
older_at queue d (g ∷ fs) bs f (ks, rest, is, o, os) (inr there) = older_at queue d fs rest f os there

module _ (p : SinglePipe) (d : Disk) (named : IsNamed d) (torn : IsTornAtEnd p d) (image : Image) (e made : Disk) (names : List FileName) (crashed : IsCrashed d image e) (makes : OnlyMakes (directories_of_pipe p) e made)
    (found : AreFound made (Log p.queue) (directories_of_pipe p) names) where
  abbrev directories : List Text
  directories = directories_of_pipe p

  abbrev files : List File
  files = torn.older ++ torn.newest ∷ []

  same_names : made.names ≡ d.names
  same_names = ap (λ (y : Disk). y.names) makes.only ∙ crashed.names

  left_there : (n : ℕ) → (made.file n).bytes ≡ image n
  left_there n = ap (λ (y : Disk). (y.file n).bytes) makes.only ∙ crashed.bytes n

  are_for : AreFor made directories p.queue files names
  are_for = by_files torn.older refl
    where
      opened : (fs : List File) × AreOpen made directories p.queue names fs
      opened = found_open made directories p.queue names found

      last : AreLast made.names directories p.queue files
      last = subst (λ (n : Names). AreLast n directories p.queue files) (sym same_names) torn.last

      named_there : are_named made.names d.next ≡ true
      named_there = ap (λ (n : Names). are_named n d.next) same_names ∙ named

      by_files : (fs : List File) → fs ≡ torn.older → AreFor made directories p.queue files names
      by_files [] is =
          let same : files ≡ torn.newest ∷ [] = ap (λ (l : List File). l ++ torn.newest ∷ []) (sym is) in
          subst (λ (l : List File). AreFor made directories p.queue l names) (sym same)
          (named_for made directories p.queue (torn.newest ∷ []) opened.0 names
          (same_found made d.next p.queue directories names torn.newest [] opened.0 named_there (subst (AreLast made.names directories p.queue) same last) found opened.1) opened.1)
      by_files (f ∷ fs) is =
          let same : files ≡ f ∷ (fs ++ torn.newest ∷ []) = ap (λ (l : List File). l ++ torn.newest ∷ []) (sym is) in
          subst (λ (l : List File). AreFor made directories p.queue l names) (sym same)
          (named_for made directories p.queue (f ∷ (fs ++ torn.newest ∷ [])) opened.0 names
          (same_found made d.next p.queue directories names f (fs ++ torn.newest ∷ []) opened.0 named_there (subst (AreLast made.names directories p.queue) same last) found opened.1) opened.1)

  -- the number of a file is that of its name
  one_number : (name : FileName) (fd gd : ℕ) → IsFileOf made directories p.queue name fd → IsFileOf made directories p.queue name gd → fd ≡ gd
  one_number name fd gd one two = same_number fd gd (sym one ∙ two)

  -- a file with a fault that others follow is a hole
  refused_hole : AnyRefused TolerateTailCorruption directories p.queue names made → HasLastingHole p d
  refused_hole (before, name, behind, split, (fd, fault, there, faulty, kept)) =
      let f = older_for made directories p.queue torn.older torn.newest before name behind (subst (AreFor made directories p.queue files) split are_for) (followed behind kept) in
      let o = older_at p.queue d torn.older torn.batches f.0 torn.whole f.1 in
      let id : FileId = id_of p.queue f.0.seq in
      let n : ℕ = f.0.handle.0 in
      let same : fd ≡ n = one_number name fd n there f.3 in
      let here : fault_in id (image n) ≡ Some fault
      = (λ i. fault_in (id_of p.queue (f.2 i)) (sym (left_there n) i)) ∙ ap (λ m. fault_in (id_of p.queue name.seq) (made.file m).bytes) (sym same) ∙ faulty in
      ⊎_elim
      (λ stored. absurd (never fault (sym (ended_sound id f.0.format o.0 o.1.offset (d.file n) (image n) stored o.1.ended (image_there d image id n o.1.named crashed.is)) ∙ here)))
      (λ blank. (f.0, torn.known f.0 f.1 blank.bytes, blank.bytes, λ later is. still_is_left (d.file n) (later n) o.1.ended.still (image_there d later id n o.1.named is) ∙ blank.bytes))
      o.1.stored
    where
      followed : (l : List FileName) → (length l == 0) ≡ false → 0 < length l
      followed [] is = absurd (false≢true (sym is))
      followed (x ∷ l) is = omega arith

      never : (x : CorruptionFault) → (let none : Option CorruptionFault = None in none ≡ Some x) → ⊥
      never x is = absurd cc

  -- none has an alignment
  none_aligned : AnyAligned directories p.queue names made → ⊥
  none_aligned (name, fd, among, there, aligned) =
      let f = any_for made directories p.queue files names name are_for among in
      let same : fd ≡ f.0.handle.0 = one_number name fd f.0.handle.0 there f.3 in
      aligned (ap (λ n. (format_in (made.file n).bytes).alignment) same ∙ ap (λ (l : List ℕ). (format_in l).alignment) (left_there f.0.handle.0) ∙ by_place f.0 (in_last torn.older f.0 torn.newest f.1))
    where
      newest_plain : (format_in (image torn.newest.handle.0)).alignment ≡ 0
      newest_plain =
          let f : File = torn.newest in
          let stands = in_all (λ (x : File). StandsAt d.names directories p.queue x.seq x.path_id x.handle.0) files f torn.last.each (in_second f torn.older (f ∷ []) (inl refl)) in
          let so = stands_named d directories p.queue f.seq f.path_id f.handle.0 stands in
          let id : FileId = id_of p.queue f.seq in
          format_plain id (d.file f.handle.0) (image f.handle.0) torn.plain (image_there d image id f.handle.0 so crashed.is) (genuine_there d image id f.handle.0 so crashed.genuine)

      by_place : (f : File) → IsIn f torn.older ⊎ (f ≡ torn.newest) → (format_in (image f.handle.0)).alignment ≡ 0
      by_place f (inr is) = ap (λ (x : File). (format_in (image x.handle.0)).alignment) is ∙ newest_plain
      by_place f (inl older) =
          let o = older_at p.queue d torn.older torn.batches f torn.whole older in
          let id : FileId = id_of p.queue f.seq in
          let left = image_there d image id f.handle.0 o.1.named crashed.is in
          ⊎_elim
          (λ stored. format_plain id (d.file f.handle.0) (image f.handle.0) (unsynced_plain id f.format o.0 [] (d.file f.handle.0) stored.unsynced) left (genuine_there d image id f.handle.0 o.1.named crashed.genuine))
          (λ blank. bare_plain (image f.handle.0) (still_is_left (d.file f.handle.0) (image f.handle.0) o.1.ended.still left ∙ blank.bytes))
          o.1.stored

pub torn_opened : TornTailsAreOpened
torn_opened p d named torn image e made names crashed makes found (inl refused) = refused_hole p d named torn image e made names crashed makes found refused
torn_opened p d named torn image e made names crashed makes found (inr aligned) = absurd (none_aligned p d named torn image e made names crashed makes found aligned)
