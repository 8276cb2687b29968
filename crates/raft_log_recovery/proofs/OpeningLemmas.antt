-- Recovered files are files that a pipe opens, with the batches that were replayed.
use Rattle.std.proofs.Common.{◌≡◌, inl, inr, ⊎_elim, ℕ, ◌+◌, ◌-◌, ◌<◌, ◌≤◌, true, false, cond, eqb, Bool, List, [], ◌∷◌, ◌++◌, length, get_or, take, drop, map, Option, None, Result, Ok, Err, refl, sym, ap, subst, ◌∙◌, append_assoc, arith, length-append, length-drop}
use Rattle.std.specs.Prelude.{IfOk, OnErr, String, ◌==◌}
use Rattle.std.specs.List.{flat_map}
use Rattle.std.specs.String.{string_bytes}
use Rattle.std.specs.List.{AllByRecursion, list_all}
use Rattle.std.specs.declared.alloc.Global.{Global}
use Rattle.std.proofs.lemmas.Bool.{and_parts, eq-eqb, eqb-false, eqb-true, ne_eqb}
use Rattle.std.proofs.lemmas.List.{append-nil, length-map, drop-append-le, drop-drop, drop_at, take-append-le}
use Rattle.std.proofs.lemmas.List.Concat.{flat_map-append}
use Rattle.raft_log_records.specs.declared.file_id.FileId.{FileId}
use Rattle.raft_log_records.specs.declared.file_id.LogQueue.{LogQueue}
use Rattle.raft_log_disk.specs.Image.{HasImages}
use Rattle.raft_log_records.specs.Block.{bytes_at}
use Rattle.raft_log_records.specs.Item.{entry_bytes, with_bytes, with_lengths}
use Rattle.raft_log_records.specs.Signature.{signature_of}
use Rattle.raft_log_records.specs.Spelling.{sealed, spell_record}
use Rattle.raft_log_records.proofs.Laid.{any_held}
use Rattle.raft_log_disk.specs.declared.format.LogFileFormat.{LogFileFormat}
use Rattle.raft_log_disk.specs.Disk.{AreBytes, Disk, FileState, IsIn, fd_of}
use Rattle.raft_log_disk.specs.Format.{header_len, spelled_header}
use Rattle.raft_log_disk.specs.Text.{Text}
use Rattle.raft_log_file.specs.Laws.{Batch, file_text, spelled_batches}
use Rattle.raft_log_file.specs.Reading.{FileBatch, contents}
use Rattle.raft_log_file.proofs.HeaderLemmas.{length-header}
use Rattle.raft_log_file.proofs.UnsyncedLemmas.{each_byte}
use Rattle.raft_log_pipe.proofs.BlockLemmas.{is_last, of_file-append}
use Rattle.raft_log_pipe.specs.declared.file.File.{File}
use Rattle.raft_log_pipe.specs.declared.pipe.SinglePipe.{SinglePipe}
use Rattle.raft_log_pipe.specs.Blocks.{files_of, of_file}
use Rattle.raft_log_pipe.specs.Begun.{Changes}
use Rattle.raft_log_pipe.specs.Found.{KeepsButHeader}
use Rattle.raft_log_pipe.specs.Found as found
use Rattle.raft_log_pipe.proofs.PipeLemmas.{file_beside}
use Rattle.raft_log_pipe.proofs.PurgeLemmas.{same_number}
use Rattle.raft_log_pipe.specs.Stored.{IsEnded}
use Rattle.raft_log_pipe.specs.Pipe.{AreConsecutive, AreOlder, Holds, IsLast, IsNamedSo, IsOlder, Numbered, id_of, numbered}
use Rattle.raft_log_recovery.specs.declared.scan.FileName.{FileName}
use Rattle.raft_log_recovery.specs.Opening.{AnyAligned, AreAllGot, AreGot, IsGot, IsPipeWith, batches_of, said_in}
use Rattle.raft_log_recovery.specs.Queue.{AreLeft, AreNumbered, AreOpen, AreRecovered, AreReplayed, IsFileOf, IsRecovered, OnlyChanges, path_of}
use Rattle.raft_log_recovery.specs.Scan.{AreFound}
use Rattle.raft_log_recovery.specs.declared.scan.FileKind.TheVariants.{Log}
use Rattle.raft_log_recovery.specs.Repair.{LeavesBatches, batches_in, format_in}
use Rattle.raft_log_recovery.specs.Replay.{ArePlaced, IsPlaced, Placed}
use Rattle.raft_log_recovery.proofs.ImageLemmas.{short_bare}
use Rattle.raft_log_recovery.proofs.FoundLemmas.{found_last, found_numbered, last_found, none_found}
use Rattle.raft_log_recovery.proofs.QueueLemmas.{file_is, file_named, left_bytes, left_done, open_file_of, whole_batches}
use Rattle.raft_log_recovery.proofs.ReplayLemmas.{file_fits}
use Rattle.raft_log_recovery.proofs.SpelledLemmas.{AreInPlace, IsInPlace, IsTextOf, said_by, whole_found, whole_text}

-- ---- one file

-- a file that a pipe can take over
pub record IsReady (queue : LogQueue) (old mid : Disk) (f : File) : Type 0 where
  pub recovered : IsRecovered queue old mid f
  pub plain : f.format.alignment ≡ 0
  pub fits : AreBytes (mid.file f.handle.0).bytes
  pub named : IsNamedSo mid (id_of queue f.seq) f.handle.0

ready_whole : (queue : LogQueue) (old mid : Disk) (f : File) → IsReady queue old mid f → found.IsWhole (id_of queue f.seq) f.format (said_in queue old f) (mid.file f.handle.0)
ready_whole queue old mid f r =
    let is : format_in (mid.file f.handle.0).bytes ≡ f.format = sym r.recovered.format in
    subst (λ (x : LogFileFormat). found.IsWhole (id_of queue f.seq) x (said_in queue old f) (mid.file f.handle.0)) is
    (whole_found (id_of queue f.seq) (mid.file f.handle.0) (batches_in (id_of queue f.seq) (old.file f.handle.0).bytes) r.fits (ap (λ (x : LogFileFormat). x.alignment) is ∙ r.plain) r.recovered.whole)

ready_older : (queue : LogQueue) (old mid : Disk) (f : File) → IsReady queue old mid f → IsOlder queue mid f (said_in queue old f)
ready_older queue old mid f r = ⊎_elim
    (λ stored. record { offset = length (mid.file f.handle.0).bytes; named = r.named; stored = inl stored; ended = ended })
    (λ blank. record { offset = length (mid.file f.handle.0).bytes; named = r.named; stored = inr blank; ended = ended })
    (ready_whole queue old mid f r)
  where
    ended : IsEnded (length (mid.file f.handle.0).bytes) (mid.file f.handle.0)
    ended = record { short = omega arith; still = r.recovered.whole.still }

-- ---- all files

abbrev pub AreReady : LogQueue → Disk → Disk → List File → Type 0
AreReady queue old mid fs = AllByRecursion (IsReady queue old mid) fs

-- the number of the next file is one more
abbrev pub AreInRow : List File → Type 0
AreInRow [] = Unit {0}
AreInRow (f ∷ []) = Unit {0}
AreInRow (f ∷ (g ∷ fs)) = (g.seq ≡ f.seq + 1) × AreInRow (g ∷ fs)

pub record AreParts (queue : LogQueue) (mid : Disk) (first : ℕ) (fs : List File) (bs : Numbered) : Type 0 where
  pub older : List File
  pub active : File
  pub before : Numbered
  pub ks : List Batch
  pub files_are : fs ≡ older ++ active ∷ []
  pub batches_are : bs ≡ before ++ numbered active.seq ks
  pub numbers : AreConsecutive older active.seq
  pub count : first + length older ≡ active.seq
  pub olders : AreOlder queue mid older before
  pub named : IsNamedSo mid (id_of queue active.seq) active.handle.0
  pub whole : found.IsWhole (id_of queue active.seq) active.format ks (mid.file active.handle.0)

parts_of : (queue : LogQueue) (old mid : Disk) (f : File) (fs : List File) → AreReady queue old mid (f ∷ fs) → AreInRow (f ∷ fs) → AreParts queue mid f.seq (f ∷ fs) (batches_of queue old (f ∷ fs))
parts_of queue old mid f [] ready row = record {
  older = [];
  active = f;
  before = [];
  ks = said_in queue old f;
  files_are = refl;
  batches_are = append-nil (numbered f.seq (said_in queue old f));
  numbers = tt;
  count = omega arith;
  olders = refl;
  named = ready.0.named;
  whole = ready_whole queue old mid f ready.0;
}
parts_of queue old mid f (g ∷ fs) ready row =
    let p = parts_of queue old mid g fs ready.1 row.1 in
    record {
      older = f ∷ p.older;
      active = p.active;
      before = numbered f.seq (said_in queue old f) ++ p.before;
      ks = p.ks;
      files_are = ap (λ (l : List File). f ∷ l) p.files_are;
      batches_are = ap (λ (l : Numbered). numbered f.seq (said_in queue old f) ++ l) p.batches_are ∙ sym (append_assoc (numbered f.seq (said_in queue old f)) p.before (numbered p.active.seq p.ks));
      numbers = (omega (arith, row.0, p.count), p.numbers);
      count = omega (arith, row.0, p.count);
      olders = (said_in queue old f, p.before, refl, ready_older queue old mid f ready.0, p.olders);
      named = p.named;
      whole = p.whole;
    }

-- the last file has the greatest number
row_last : (f : File) (fs older : List File) (active : File) → AreInRow (f ∷ fs) → f ∷ fs ≡ older ++ active ∷ [] → f.seq + length fs ≡ active.seq
row_last f [] [] active row is = let same : f ≡ active = cc in omega (arith, ap (λ (x : File). x.seq) same)
row_last f [] (g ∷ older) active row is = absurd (omega (arith, ap length is, length-append older (active ∷ [])))
row_last f (g ∷ fs) [] active row is = absurd (omega (arith, ap length is))
row_last f (g ∷ fs) (h ∷ older) active row is =
    let behind : g ∷ fs ≡ older ++ active ∷ [] = cc in
    omega (arith, row_last g fs older active row.1 behind, row.0)

pub files_found : (queue : LogQueue) (dirs : List (String Global)) (old mid : Disk) (fs : List File) → 0 < length fs → AreReady queue old mid fs → AreInRow fs → AllByRecursion (λ f. f.path_id < length dirs) fs
    → ((first : File) (rest : List File) → fs ≡ first ∷ rest → IsLast mid dirs queue (first.seq + length rest)) → found.IsFound queue dirs mid fs (batches_of queue old fs)
files_found queue dirs old mid [] some ready row placed last = absurd (omega (arith, some))
files_found queue dirs old mid (f ∷ fs) some ready row placed last =
    let p = parts_of queue old mid f fs ready row in
    record {
      older = p.older;
      active = p.active;
      before = p.before;
      ks = p.ks;
      files_are = p.files_are;
      batches_are = p.batches_are;
      numbers = p.numbers;
      last = subst (IsLast mid dirs queue) (row_last f fs p.older p.active row p.files_are) (last f fs refl);
      placed = placed;
      olders = p.olders;
      named = p.named;
      whole = p.whole;
    }

-- ---- the batches that a machine got

-- batches of files with smaller numbers are none of this one
abbrev AreBelow : ℕ → Numbered → Type 0
AreBelow seq bs = AllByRecursion (λ b. b.0 < seq) bs

of_below : (seq : ℕ) (bs : Numbered) → AreBelow seq bs → of_file seq bs ≡ []
of_below seq [] below = refl
of_below seq (b ∷ bs) below = ap (λ t. cond t (b.1 ∷ of_file seq bs) (of_file seq bs)) (ne_eqb b.0 seq (λ e. absurd (omega (arith, below.0, e)))) ∙ of_below seq bs below.1

below_more : (seq more : ℕ) (bs : Numbered) → seq ≤ more → AreBelow seq bs → AreBelow more bs
below_more seq more [] le below = tt
below_more seq more (b ∷ bs) le below = (omega (arith, le, below.0), below_more seq more bs le below.1)

below_numbered : (seq more : ℕ) (ks : List Batch) → seq < more → AreBelow more (numbered seq ks)
below_numbered seq more [] lt = tt
below_numbered seq more (k ∷ ks) lt = (lt, below_numbered seq more ks lt)

below_both : (seq : ℕ) (xs ys : Numbered) → AreBelow seq xs → AreBelow seq ys → AreBelow seq (xs ++ ys)
below_both seq [] ys one two = two
below_both seq (x ∷ xs) ys one two = (one.0, below_both seq xs ys one.1 two)

text_more : (id : FileId) (format : LogFileFormat) (ks : List Batch) (k : Batch) → file_text id format (ks ++ k ∷ []) ≡ file_text id format ks ++ spell_record (signature_of format.version id.seq) k
text_more id format ks k =
    let spell = spell_record (signature_of format.version id.seq) in
    ap (λ (l : List ℕ). spelled_header format ++ l) (flat_map-append spell ks (k ∷ []) ∙ ap (λ (l : List ℕ). flat_map spell ks ++ l) (append-nil (spell k)))
    ∙ sym (append_assoc (spelled_header format) (spelled_batches (signature_of format.version id.seq) ks) (spell k))

-- what stands behind the first bytes of a record that stands in a file
stands_behind : (bytes text spelled rest : List ℕ) (at offset len : ℕ) → bytes ≡ text ++ (spelled ++ rest) → at ≡ length text → offset ≡ at + 8 → len + 8 ≤ length spelled → bytes_at offset len bytes ≡ take len (drop 8 spelled)
stands_behind bytes text spelled rest at offset len is place begins within =
    let front : drop at bytes ≡ spelled ++ rest = ap (drop at) is ∙ drop_at text (spelled ++ rest) at (sym place) in
    ap (λ n. bytes_at n len bytes) begins ∙ ap (take len) (sym (drop-drop 8 at bytes) ∙ ap (drop 8) front ∙ drop-append-le 8 spelled rest (omega (arith, within)))
    ∙ take-append-le len (drop 8 spelled) rest (omega (arith, length-drop 8 spelled, within))

one_got : (queue : LogQueue) (f : File) (bytes rest : List ℕ) (before : Numbered) (kb : List Batch) (at : ℕ) (b : FileBatch) (p : Placed) → AreBytes bytes → of_file f.seq before ≡ kb → at ≡ length (file_text (id_of queue f.seq) f.format kb)
    → bytes ≡ file_text (id_of queue f.seq) f.format kb ++ (spell_record (signature_of f.format.version f.seq) (said_by b) ++ rest) → IsInPlace (signature_of f.format.version f.seq) at b → IsPlaced (id_of queue f.seq) bytes b p
    → IsGot queue f before (said_by b) p
one_got queue f bytes rest before kb at b p fits of place is here placed = record {
  items_are = (λ i. with_bytes (sym here.entries i) (placed.items i));
  lengths_are = ap with_lengths placed.items ∙ here.lengths_are;
  id = placed.file;
  block = record {
    seq = ap (λ (x : FileId). x.seq) placed.file;
    offset = omega (arith, placed.offset, here.place, place, ap (λ (l : List Batch). length (file_text (id_of queue f.seq) f.format l)) of);
    within = omega (arith, placed.within, here.len);
  };
  stands = λ any.
      sym (stands_behind bytes (file_text (id_of queue f.seq) f.format kb) (spell_record (signature_of f.format.version f.seq) (said_by b)) rest at p.handle.offset p.handle.len is place (omega (arith, placed.offset, here.place)) (omega (arith, placed.within, here.len)))
      ∙ placed.stands (each_byte bytes fits) (sym (any_held (entry_bytes b.entries) b.items) ∙ any) ∙ ap (sealed None) here.entries;
  none = λ none. placed.none (sym (any_held (entry_bytes b.entries) b.items) ∙ none);
}

all_got : (queue : LogQueue) (f : File) (bytes : List ℕ) (before : Numbered) (kb : List Batch) (at : ℕ) (bs : List FileBatch) (ps : List Placed) → AreBytes bytes → of_file f.seq before ≡ kb → at ≡ length (file_text (id_of queue f.seq) f.format kb)
    → bytes ≡ file_text (id_of queue f.seq) f.format kb ++ spelled_batches (signature_of f.format.version f.seq) (contents bs) → AreInPlace (signature_of f.format.version f.seq) at bs → ArePlaced (id_of queue f.seq) bytes bs ps
    → AreGot queue f before (contents bs) ps
all_got queue f bytes before kb at [] ps fits of place is places none = none
all_got queue f bytes before kb at (b ∷ bs) ps fits of place is places (p, rest, are, placed, others) =
    let id : FileId = id_of queue f.seq in
    let signature : Option ℕ = signature_of f.format.version f.seq in
    let k : Batch = said_by b in
    let behind : List ℕ = spelled_batches signature (contents bs) in
    let more = text_more id f.format kb k in (
      p,
      rest,
      are,
      one_got queue f bytes behind before kb at b p fits of place is places.0 placed,
      all_got queue f bytes (before ++ (f.seq, k) ∷ []) (kb ++ k ∷ []) (at + b.len) bs rest fits
          (of_file-append f.seq before ((f.seq, k) ∷ []) ∙ (λ i. of i ++ cond (eq-eqb f.seq f.seq refl i) (k ∷ []) []))
          (omega (arith, place, places.0.len, ap length more, length-append (file_text id f.format kb) (spell_record signature k)))
          (is ∙ sym (append_assoc (file_text id f.format kb) (spell_record signature k) behind) ∙ ap (λ (l : List ℕ). l ++ behind) (sym more))
          places.1 others,
    )

file_got : (queue : LogQueue) (old mid : Disk) (f : File) (before : Numbered) (first : List Placed) → IsReady queue old mid f → AreBelow f.seq before
    → ArePlaced (id_of queue f.seq) (mid.file f.handle.0).bytes (batches_in (id_of queue f.seq) (mid.file f.handle.0).bytes) first → AreGot queue f before (said_in queue old f) first
file_got queue old mid f before first ready below placed =
    let id : FileId = id_of queue f.seq in
    let bytes : List ℕ = (mid.file f.handle.0).bytes in
    let bs : List FileBatch = batches_in id (old.file f.handle.0).bytes in
    let is : format_in bytes ≡ f.format = sym ready.recovered.format in
    let here : ArePlaced id bytes bs first = subst (λ (l : List FileBatch). ArePlaced id bytes l first) (whole_batches id (mid.file f.handle.0) bs ready.recovered.whole) placed in
    ⊎_elim
    (λ t.
    let u : IsTextOf id f.format bytes bs = subst (λ (x : LogFileFormat). IsTextOf id x bytes bs) is t in
    let header : file_text id f.format [] ≡ spelled_header f.format = append-nil (spelled_header f.format) in
    all_got queue f bytes before [] (header_len f.format.version) bs first ready.fits (of_below f.seq before below)
    (omega (arith, ap length header, length-header f.format)) (u.text ∙ ap (λ (l : List ℕ). l ++ spelled_batches (signature_of f.format.version f.seq) (contents bs)) (sym header)) u.places here)
    (λ bare.
    subst (λ (l : List FileBatch). AreGot queue f before (contents l) first) (sym bare.none) (subst (λ (l : List FileBatch). ArePlaced id bytes l first) bare.none here))
    (whole_text id (mid.file f.handle.0) bs ready.fits (ap (λ (x : LogFileFormat). x.alignment) is ∙ ready.plain) ready.recovered.whole)

in_row_below : (f : File) (fs : List File) (before : Numbered) (ks : List Batch) (more : ℕ) → f.seq < more → AreBelow f.seq before → AreBelow more (before ++ numbered f.seq ks)
in_row_below f fs before ks more lt below = below_both more before (numbered f.seq ks) (below_more f.seq more before (omega (arith, lt)) below) (below_numbered f.seq more ks lt)

pub files_got : (queue : LogQueue) (old mid : Disk) (fs : List File) (before : Numbered) (all : List Placed) → AreReady queue old mid fs → AreInRow fs → ((f : File) (rest : List File) → fs ≡ f ∷ rest → AreBelow f.seq before) → AreReplayed queue mid fs all
    → AreAllGot queue old before fs all
files_got queue old mid [] before all ready row below replayed = replayed
files_got queue old mid (f ∷ []) before all ready row below (first, rest, is, placed, others) =
    (first, rest, is, file_got queue old mid f before first ready.0 (below f [] refl) placed, others)
files_got queue old mid (f ∷ (g ∷ fs)) before all ready row below (first, rest, is, placed, others) = (
  first,
  rest,
  is,
  file_got queue old mid f before first ready.0 (below f (g ∷ fs) refl) placed,
  files_got queue old mid (g ∷ fs) (before ++ numbered f.seq (said_in queue old f)) rest ready.1 row.1
      (λ h rest same.
      let next : g ≡ h = cc in
      in_row_below f (g ∷ fs) before (said_in queue old f) h.seq (omega (arith, row.0, ap (λ (x : File). x.seq) next)) (below f (g ∷ fs) refl))
      others,
)

-- ---- recovered files

plain_each : (fs : List File) → list_all (λ f. f.format.alignment == 0) fs ≡ true → AllByRecursion (λ f. f.format.alignment ≡ 0) fs
plain_each [] all = tt
plain_each (f ∷ fs) all =
    let parts = and_parts (f.format.alignment == 0) (list_all (λ g. g.format.alignment == 0) fs) all in
    (eqb-true f.format.alignment 0 parts.0, plain_each fs parts.1)

ready_each : (directories : List Text) (queue : LogQueue) (count : ℕ) (old mid : Disk) (names : List FileName) (fs : List File) → mid.names ≡ old.names → HasImages mid → AreNumbered count names → AreOpen old directories queue names fs
    → AllByRecursion (IsRecovered queue old mid) fs → AllByRecursion (λ f. f.format.alignment ≡ 0) fs → AreReady queue old mid fs
ready_each directories queue count old mid [] fs same images are none each plain = subst (AreReady queue old mid) (sym none) tt
ready_each directories queue count old mid (name ∷ names) fs same images are (f, rest, is, here, others) each plain =
    let every = subst (AllByRecursion (IsRecovered queue old mid)) is each in
    let flat = subst (AllByRecursion (λ (g : File). g.format.alignment ≡ 0)) is plain in
    let there : IsFileOf mid directories queue name f.handle.0 = ap (λ (l : List (Text × ℕ)). fd_of l (path_of directories queue name)) same ∙ here.there in
    subst (AreReady queue old mid) (sym is) (
      record {
        recovered = every.0;
        plain = flat.0;
        fits = file_fits mid f.handle.0 images (file_is mid directories queue name f.handle.0 there);
        named = subst (λ n. IsNamedSo mid (id_of queue n) f.handle.0) (sym here.seq) (file_named mid directories queue name f.handle.0 are.0 there);
      },
      ready_each directories queue count old mid names rest same images are.3 others every.1 flat.1,
    )

open_row : (d : Disk) (directories : List Text) (queue : LogQueue) (count : ℕ) (names : List FileName) (fs : List File) → AreNumbered count names → AreOpen d directories queue names fs → AreInRow fs
open_row d directories queue count [] fs are none = subst AreInRow (sym none) tt
open_row d directories queue count (name ∷ []) fs are (f, rest, is, here, none) = subst AreInRow (sym (is ∙ ap (λ (l : List File). f ∷ l) none)) tt
open_row d directories queue count (name ∷ (other ∷ names)) fs are (f, rest, is, here, (g, more, next, there, others)) =
    subst AreInRow (sym (is ∙ ap (λ (l : List File). f ∷ l) next))
    (omega (arith, are.2, here.seq, there.seq), open_row d directories queue count (other ∷ names) (g ∷ more) are.3 (g, more, refl, there, others))

open_placed : (d : Disk) (directories : List Text) (queue : LogQueue) (count : ℕ) (names : List FileName) (fs : List File) → AreNumbered count names → AreOpen d directories queue names fs → AllByRecursion (λ f. f.path_id < count) fs
open_placed d directories queue count [] fs are none = subst (AllByRecursion (λ (f : File). f.path_id < count)) (sym none) tt
open_placed d directories queue count (name ∷ names) fs are (f, rest, is, here, others) =
    subst (AllByRecursion (λ (g : File). g.path_id < count)) (sym is) (omega (arith, are.1, here.place), open_placed d directories queue count names rest are.3 others)

-- each file has its name
open_name : (d : Disk) (directories : List Text) (queue : LogQueue) (names : List FileName) (fs : List File) (f : File) → AreOpen d directories queue names fs → IsIn f fs → (name : FileName) × IsIn name names × IsFileOf d directories queue name f.handle.0
open_name d directories queue [] fs f none there = absurd (subst (IsIn f) none there)
open_name d directories queue (name ∷ names) fs f (g, rest, is, here, others) there = ⊎_elim
    (λ same. (name, inl refl, subst (λ (x : File). IsFileOf d directories queue name x.handle.0) (sym same) here.there))
    (λ behind. (let n = open_name d directories queue names rest f others behind in (n.0, inr n.1, n.2)))
    (subst (IsIn f) is there)

-- as many files as names
open_len : (d : Disk) (directories : List Text) (queue : LogQueue) (names : List FileName) (fs : List File) → AreOpen d directories queue names fs → length fs ≡ length names
open_len d directories queue [] fs none = ap length none
open_len d directories queue (name ∷ names) fs (f, rest, is, here, others) = omega (arith, ap length is, open_len d directories queue names rest others)

last_number : (count : ℕ) (default name : FileName) (names : List FileName) → AreNumbered count (name ∷ names) → (get_or (name ∷ names) (length names) default).seq ≡ name.seq + length names
last_number count default name [] are = omega arith
last_number count default name (other ∷ names) are = omega (arith, last_number count default other names are.3, are.2)

-- the last of the files
last_file : (queue : LogQueue) (dirs : List (String Global)) (old mid : Disk) (names : List FileName) (fs : List File) → mid.names ≡ old.names → AreFound old (Log queue) (map string_bytes dirs) names
    → AreOpen old (map string_bytes dirs) queue names fs → (first : File) (rest : List File) → fs ≡ first ∷ rest → IsLast mid dirs queue (first.seq + length rest)
last_file queue dirs old mid [] fs same found none first rest is path seq greater below has = absurd (omega (arith, ap length (sym none ∙ is)))
last_file queue dirs old mid (name ∷ names) fs same found (f, others, are, here, opened) first rest is path seq greater below has =
    let parts : (f ≡ first) × (others ≡ rest) = (let e : f ∷ others ≡ first ∷ rest = sym are ∙ is in (cc, cc)) in
    let numbered = found_numbered old (Log queue) (map string_bytes dirs) (length dirs) (name ∷ names) (omega (arith, length-map dirs (string_bytes {Z = Global}))) found in
    let end : length (name ∷ names) - 1 ≡ length names = omega arith in
    let here_last : (get_or (name ∷ names) (length names) name).seq ≡ first.seq + length rest = omega (
      arith,
      last_number (length dirs) name name names numbered,
      here.seq,
      ap (λ (x : File). x.seq) parts.0,
      ap length parts.1,
      open_len old (map string_bytes dirs) queue names others opened,
    ) in
    let bound : (get_or (name ∷ names) (length (name ∷ names) - 1) name).seq ≡ first.seq + length rest = ap (λ i. (get_or (name ∷ names) i name).seq) end ∙ here_last in
    ap (λ (l : List (Text × ℕ)). fd_of l path) same
    ∙ found_last old queue dirs (name ∷ names) (first.seq + length rest) found (λ g there. omega (arith, last_found old (Log queue) (map string_bytes dirs) (name ∷ names) found name (omega arith) g there, bound)) path seq greater below has

-- what a pipe opens
pub recovered_found : (queue : LogQueue) (dirs : List (String Global)) (old mid : Disk) (names : List FileName) (fs : List File) → AreFound old (Log queue) (map string_bytes dirs) names → AreRecovered (map string_bytes dirs) queue old mid names fs
    → list_all (λ f. f.format.alignment == 0) fs ≡ true → HasImages mid → 0 < length fs → found.IsFound queue dirs mid fs (batches_of queue old fs)
recovered_found queue dirs old mid names fs are so plain images some =
    let numbered = found_numbered old (Log queue) (map string_bytes dirs) (length dirs) names (omega (arith, length-map dirs (string_bytes {Z = Global}))) are in
    files_found queue dirs old mid fs some
    (ready_each (map string_bytes dirs) queue (length dirs) old mid names fs so.only.names_stay images numbered so.opened so.each (plain_each fs plain))
    (open_row old (map string_bytes dirs) queue (length dirs) names fs numbered so.opened)
    (open_placed old (map string_bytes dirs) queue (length dirs) names fs numbered so.opened)
    (last_file queue dirs old mid names fs so.only.names_stay are so.opened)

-- and its batches are those that were replayed
pub recovered_got : (queue : LogQueue) (dirs : List (String Global)) (old mid : Disk) (names : List FileName) (fs : List File) (all : List Placed) → AreFound old (Log queue) (map string_bytes dirs) names
    → AreRecovered (map string_bytes dirs) queue old mid names fs → list_all (λ f. f.format.alignment == 0) fs ≡ true → HasImages mid → AreReplayed queue mid fs all → AreAllGot queue old [] fs all
recovered_got queue dirs old mid names fs all are so plain images replayed =
    let numbered = found_numbered old (Log queue) (map string_bytes dirs) (length dirs) names (omega (arith, length-map dirs (string_bytes {Z = Global}))) are in
    files_got queue old mid fs [] all
    (ready_each (map string_bytes dirs) queue (length dirs) old mid names fs so.only.names_stay images numbered so.opened so.each (plain_each fs plain))
    (open_row old (map string_bytes dirs) queue (length dirs) names fs numbered so.opened) (λ f rest is. tt) replayed

-- ---- a queue without files

pub no_names : (d : Disk) (directories : List Text) (queue : LogQueue) (names : List FileName) (fs : List File) → AreOpen d directories queue names fs → length fs ≡ 0 → names ≡ []
no_names d directories queue [] fs none empty = refl
no_names d directories queue (name ∷ names) fs (f, rest, is, here, others) empty = absurd (omega (arith, ap length is, empty))

pub none_last : (queue : LogQueue) (dirs : List (String Global)) (old mid : Disk) (names : List FileName) → mid.names ≡ old.names → AreFound old (Log queue) (map string_bytes dirs) names → length names ≡ 0 → IsLast mid dirs queue 0
none_last queue dirs old mid names same are none path seq greater below has =
    ap (λ (l : List (Text × ℕ)). fd_of l path) same ∙ found_last old queue dirs names 0 are (none_found old (Log queue) (map string_bytes dirs) names are none) path seq greater below has

-- ---- after the opening

-- the last file alone changed since
pub opened_only : (directories : List Text) (queue : LogQueue) (old mid new : Disk) (names : List FileName) (fs older : List File) (active : File) → AreRecovered directories queue old mid names fs → fs ≡ older ++ active ∷ []
    → Changes mid new active.handle.0 → OnlyChanges directories queue names old new
opened_only directories queue old mid new names fs older active so is change =
    let n = open_name old directories queue names fs active so.opened (subst (IsIn active) (sym is) (is_last older active)) in
    record {
      directories_stay = ap (λ (d : Disk). d.directories) change ∙ so.only.directories_stay;
      names_stay = ap (λ (d : Disk). d.names) change ∙ so.only.names_stay;
      next = ap (λ (d : Disk). d.next) change ∙ so.only.next;
      files = λ fd none.
          file_beside mid new active.handle.0 fd change (λ same. none n.0 n.1 (subst (IsFileOf old directories queue n.0) (sym same) n.2)) ∙ so.only.files fd none;
    }

pub recovered_left : (directories : List Text) (queue : LogQueue) (old mid : Disk) (names : List FileName) (fs : List File) → AreRecovered directories queue old mid names fs → AreLeft directories queue names old mid
recovered_left directories queue old mid names fs so name fd among there rest = left_done directories queue old mid names fs name fd so among there

-- the header of a file without bytes was perhaps begun
pub opened_left : (directories : List Text) (queue : LogQueue) (old mid new : Disk) (names : List FileName) (fs : List File) → AreRecovered directories queue old mid names fs → KeepsButHeader mid new fs → AreLeft directories queue names old new
opened_left directories queue old mid new names fs so (inl same) name fd among there rest =
    subst (λ (x : Disk). LeavesBatches (id_of queue name.seq) (x.file fd) (batches_in (id_of queue name.seq) (old.file fd).bytes)) (sym same) (left_done directories queue old mid names fs name fd so among there)
opened_left directories queue old mid new names fs so (inr (older, active, is, bare, change, short)) name fd among there rest = by_file (eqb fd active.handle.0) refl
  where
    before : LeavesBatches (id_of queue name.seq) (mid.file fd) (batches_in (id_of queue name.seq) (old.file fd).bytes)
    before = left_done directories queue old mid names fs name fd so among there

    by_file : (b : Bool) → eqb fd active.handle.0 ≡ b → LeavesBatches (id_of queue name.seq) (new.file fd) (batches_in (id_of queue name.seq) (old.file fd).bytes)
    by_file false apart =
        subst (λ (x : FileState). LeavesBatches (id_of queue name.seq) x (batches_in (id_of queue name.seq) (old.file fd).bytes)) (sym (file_beside mid new active.handle.0 fd change (eqb-false fd active.handle.0 apart))) before
    by_file true same = λ bytes image genuine.
        let here : fd ≡ active.handle.0 = eqb-true fd active.handle.0 same in
        let few : (new.file fd).greatest ≤ 69 = omega (arith, short, ap (λ n. (new.file n).greatest) here) in
        let none : (mid.file fd).bytes ≡ [] = ap (λ n. (mid.file n).bytes) here ∙ bare in
        short_bare (id_of queue name.seq) bytes (omega (arith, image.no_longer, few))
        ∙ sym (left_bytes directories queue old mid names fs name fd so among there ∙ ap (batches_in (id_of queue name.seq)) none)

-- ---- what an opening answers

if_both : {X E : Type 0} (r : Result X E) (P Q R : X → Type 0) → ((x : X) → P x → Q x → R x) → IfOk r P → IfOk r Q → IfOk r R
if_both (Ok x) P Q R so p q = so x p q
if_both (Err e) P Q R so p q = tt

-- the machine has what it was given, and the pipe is of it
abbrev Gives : (List Placed → Type 0) → (List Placed → Type 0) → (List Placed → Type 0) → Type 0
Gives H K R = (placed : List Placed) → H placed → (more : List Placed) × K (placed ++ more) × R more

gives_on : (H K R S : List Placed → Type 0) → ((more : List Placed) → R more → S more) → Gives H K R → Gives H K S
gives_on H K R S so given placed has = let s = given placed has in (s.0, s.1, so s.0 s.2)

no_file : (fs : List File) → length fs ≡ 0 → fs ≡ []
no_file [] none = refl
no_file (f ∷ fs) none = absurd (omega (arith, none))

created_with : (directories : List Text) (queue : LogQueue) (old mid new : Disk) (names : List FileName) (fs : List File) (p : SinglePipe) (more : List Placed) → AreRecovered directories queue old mid names fs → length fs ≡ 0 → Holds p new [] []
    → AreReplayed queue mid fs more → IsPipeWith directories queue names old new p more
created_with directories queue old mid new names fs p more so none holds replayed = record {
  files = [];
  pipe = record {
    opened = subst (λ (l : List FileName). AreOpen old directories queue l []) (sym (no_names old directories queue names fs so.opened none)) refl;
    among = λ f there. absurd there;
    holds = holds;
  };
  got = subst (λ (l : List File). AreReplayed queue mid l more) (no_file fs none) replayed;
}

pub created_gives : {E : Type 0} (r : Result SinglePipe E) (H K : List Placed → Type 0) (directories : List Text) (queue : LogQueue) (old mid new : Disk) (names : List FileName) (fs : List File) → AreRecovered directories queue old mid names fs
    → length fs ≡ 0 → Gives H K (AreReplayed queue mid fs) → IfOk r (λ p. Holds p new [] []) → IfOk r (λ p. Gives H K (IsPipeWith directories queue names old new p))
created_gives r H K directories queue old mid new names fs so none given holds =
    if_both r (λ p. Holds p new [] []) (λ p. Holds p new [] []) (λ p. Gives H K (IsPipeWith directories queue names old new p))
    (λ p has again. gives_on H K (AreReplayed queue mid fs) (IsPipeWith directories queue names old new p) (λ more replayed. created_with directories queue old mid new names fs p more so none has replayed) given) holds holds

opened_with : (queue : LogQueue) (dirs : List (String Global)) (old mid new : Disk) (names : List FileName) (fs : List File) (p : SinglePipe) (more : List Placed) → AreFound old (Log queue) (map string_bytes dirs) names
    → AreRecovered (map string_bytes dirs) queue old mid names fs → list_all (λ f. f.format.alignment == 0) fs ≡ true → HasImages mid → 0 < length fs → files_of p ≡ fs
    → ((bs : Numbered) → found.IsFound queue dirs mid fs bs → Holds p new bs []) → AreReplayed queue mid fs more → IsPipeWith (map string_bytes dirs) queue names old new p more
opened_with queue dirs old mid new names fs p more are so plain images some same holds replayed = record {
  files = fs;
  pipe = record {
    opened = so.opened;
    among = λ f there. subst (IsIn f) (sym same) there;
    holds = holds (batches_of queue old fs) (recovered_found queue dirs old mid names fs are so plain images some);
  };
  got = recovered_got queue dirs old mid names fs more are so plain images replayed;
}

pub opened_gives : {E : Type 0} (r : Result SinglePipe E) (H K : List Placed → Type 0) (queue : LogQueue) (dirs : List (String Global)) (directories : List Text) (old mid new : Disk) (names : List FileName) (fs : List File) → map string_bytes dirs ≡ directories
    → AreFound old (Log queue) (map string_bytes dirs) names → AreRecovered (map string_bytes dirs) queue old mid names fs → list_all (λ f. f.format.alignment == 0) fs ≡ true → HasImages mid → 0 < length fs
    → Gives H K (AreReplayed queue mid fs) → IfOk r (λ p. (p.queue ≡ queue) × (files_of p ≡ fs)) → IfOk r (λ p. (bs : Numbered) → found.IsFound queue dirs mid fs bs → Holds p new bs [])
    → IfOk r (λ p. Gives H K (IsPipeWith directories queue names old new p))
opened_gives r H K queue dirs directories old mid new names fs is are so plain images some given files holds =
    subst (λ (l : List Text). IfOk r (λ p. Gives H K (IsPipeWith l queue names old new p))) is
    (if_both r (λ p. (p.queue ≡ queue) × (files_of p ≡ fs)) (λ p. (bs : Numbered) → found.IsFound queue dirs mid fs bs → Holds p new bs []) (λ p. Gives H K (IsPipeWith (map string_bytes dirs) queue names old new p))
    (λ p same has. gives_on H K (AreReplayed queue mid fs) (IsPipeWith (map string_bytes dirs) queue names old new p)
    (λ more replayed. opened_with queue dirs old mid new names fs p more are so plain images some same.1 has replayed) given) files holds)

pub kept_only : (directories : List Text) (queue : LogQueue) (old mid new : Disk) (names : List FileName) (fs : List File) → AreRecovered directories queue old mid names fs → KeepsButHeader mid new fs → OnlyChanges directories queue names old new
kept_only directories queue old mid new names fs so (inl same) = subst (OnlyChanges directories queue names old) (sym same) so.only
kept_only directories queue old mid new names fs so (inr (older, active, is, bare, change, short)) = opened_only directories queue old mid new names fs older active so is change

pub opened_changes : {E : Type 0} (r : Result SinglePipe E) (directories : List Text) (queue : LogQueue) (old mid new : Disk) (names : List FileName) (fs : List File) → AreRecovered directories queue old mid names fs
    → IfOk r (λ p. (p.queue ≡ queue) × (files_of p ≡ fs)) → IfOk r (λ p. Changes mid new p.active.handle.0) → OnErr r (KeepsButHeader mid new fs) → OnlyChanges directories queue names old new
opened_changes (Ok p) directories queue old mid new names fs so files change err = opened_only directories queue old mid new names fs p.older.items p.active so (sym files.1) change
opened_changes (Err e) directories queue old mid new names fs so files change err = kept_only directories queue old mid new names fs so err

-- none of the files has an alignment
each_pair : {X : Type 0} (P Q : X → Type 0) (xs : List X) → AllByRecursion P xs → AllByRecursion Q xs → AllByRecursion (λ x. P x × Q x) xs
each_pair P Q [] ps qs = tt
each_pair P Q (x ∷ xs) ps qs = ((ps.0, qs.0), each_pair P Q xs ps.1 qs.1)

pub none_aligned : (directories : List Text) (queue : LogQueue) (old mid : Disk) (names : List FileName) (fs : List File) → AreRecovered directories queue old mid names fs → list_all (λ f. f.format.alignment == 0) fs ≡ true
    → AnyAligned directories queue names old → ⊥
none_aligned directories queue old mid names fs so plain (name, fd, among, there, any) =
    let found = open_file_of (λ f. IsRecovered queue old mid f × (f.format.alignment ≡ 0)) old directories queue names fs name so.opened
    (each_pair (IsRecovered queue old mid) (λ f. f.format.alignment ≡ 0) fs so.each (plain_each fs plain)) among in
    let same : found.0.handle.0 ≡ fd = same_number found.0.handle.0 fd (sym found.1.there ∙ there) in
    any (ap (λ n. (format_in (old.file n).bytes).alignment) (sym same) ∙ ap (λ (x : LogFileFormat). x.alignment) (sym found.2.0.header) ∙ found.2.1)

pub none_named : (directories : List Text) (queue : LogQueue) (names : List FileName) (d : Disk) → names ≡ [] → AnyAligned directories queue names d → ⊥
none_named directories queue names d none (name, fd, among, there, any) = subst (IsIn name) none among

-- a pipe has what it was given
pub set_so : {E : Type 0} (r : Result SinglePipe E) (size said : ℕ) (format told : LogFileFormat) → size ≡ said → format ≡ told → IfOk r (λ p. (p.target_file_size ≡ size) × (p.default_format ≡ format)) → IfOk r (λ p. (p.target_file_size ≡ said) × (p.default_format ≡ told))
set_so (Ok p) size said format told is so has = (has.0 ∙ is, has.1 ∙ so)
set_so (Err e) size said format told is so has = tt
