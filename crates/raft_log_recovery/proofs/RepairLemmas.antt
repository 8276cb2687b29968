-- What a crash leaves of a file while it is repaired, and what it is then.
use Rattle.std.proofs.Common.{◌≡◌, inl, inr, ℕ, ◌+◌, ◌-◌, ◌<◌, ◌≤◌, min, max, List, [], ◌∷◌, ◌++◌, length, get_or, take, drop, Option, Some, None, Result, Ok, Err, refl, sym, ap, subst, ◌∙◌, arith, append_assoc, length-append, length-take, length-drop, take-append-drop, ext_get_or}
use Rattle.std.specs.Prelude.{MatchResult, OnErr, OnOk, replicate}
use Rattle.std.proofs.lemmas.List.{append-nil, drop_at, drop-drop, drop-take, get_or-take, length-replicate, take-take, take_all}
use Rattle.raft_log_records.specs.declared.file_id.FileId.{FileId}
use Rattle.raft_log_records.specs.declared.error.RecordFault.{RecordFault}
use Rattle.raft_log_records.specs.Reading.{record_at}
use Rattle.raft_log_records.specs.Signature.{signature_of}
use Rattle.raft_log_records.specs.declared.version.Version.TheVariants.{V1}
use Rattle.raft_log_disk.proofs.RecoverableLemmas.{bytes_taken}
use Rattle.raft_log_disk.specs.declared.format.LogFileFormat.{LogFileFormat}
use Rattle.raft_log_disk.specs.declared.format.HeaderFault.{HeaderFault}
use Rattle.raft_log_disk.specs.declared.format.HeaderFault.TheVariants.{CutShort}
use Rattle.raft_log_disk.specs.Disk.{AreBytes, Disk, FileState, IsIn, PartlyTruncated, after_sync, after_truncate, resized, with_file}
use Rattle.raft_log_disk.specs.Format.{header_at, header_len, spelled_header}
use Rattle.raft_log_disk.specs.Image.{IsFileImage, IsOutside, IsStill}
use Rattle.raft_log_disk.specs.Chance.{AreWritten, IsHeaderWritten, IsWritten}
use Rattle.raft_log_disk.proofs.DiskLemmas.{file_again, same_file, still_is_left, still_synced}
use Rattle.raft_log_disk.proofs.HeaderLemmas.{header_spelled}
use Rattle.raft_log_files.specs.declared.error.CorruptionFault.{CorruptionFault}
use Rattle.raft_log_files.specs.declared.error.CorruptionFault.TheVariants.{Header, Record}
use Rattle.raft_log_files.specs.declared.error.Error.{Error}
use Rattle.raft_log_file.specs.Reading.{FileBatch, Reading, file_reading, read_behind, read_from, read_or}
use Rattle.raft_log_file.proofs.HeaderLemmas.{length-header}
use Rattle.raft_log_file.proofs.LawLemmas.{header_read}
use Rattle.raft_log_file.proofs.UnsyncedLemmas.{told_of}
use Rattle.raft_log_file.proofs.WalkLemmas.{Read}
use Rattle.raft_log_pipe.proofs.PipeLemmas.{no_change}
use Rattle.raft_log_recovery.specs.Repair.{IsAtRest, IsRepaired, IsStopped, IsWhole, LeavesBatches, Settles, batches_in, cut_to, end_in, fault_in, format_in, record_fault}
use Rattle.raft_log_recovery.proofs.ReadLemmas.{cut_whole, front_reads, reads_alike, record_stays}

-- ---- a file by its header

-- bytes that begin as some with a header do have that header
headed : (bytes rest : List ℕ) (format : LogFileFormat) → AreBytes bytes → header_at bytes ≡ Ok format → header_at (spelled_header format ++ rest) ≡ Ok format
headed bytes rest format fits is = header_read format rest (header_spelled bytes format fits is).spellable

header_within : (bytes : List ℕ) (format : LogFileFormat) → AreBytes bytes → header_at bytes ≡ Ok format → header_len format.version ≤ length bytes
header_within bytes format fits is =
    omega (arith, ap length (header_spelled bytes format fits is).front, length-header format, length-take (header_len format.version) bytes)

pub reading_of : (id : FileId) (bytes : List ℕ) (format : LogFileFormat) → header_at bytes ≡ Ok format → file_reading id bytes ≡ Ok (read_behind id format (header_len format.version) bytes)
reading_of id bytes format is = ap (λ h. read_or (λ (x : LogFileFormat). Ok (read_behind id x (header_len x.version) bytes)) (λ (f : HeaderFault). Err f) h) is

pub no_reading : (id : FileId) (bytes : List ℕ) (f : HeaderFault) → header_at bytes ≡ Err f → file_reading id bytes ≡ Err f
no_reading id bytes f is = ap (λ h. read_or (λ (x : LogFileFormat). Ok (read_behind id x (header_len x.version) bytes)) (λ (g : HeaderFault). Err g) h) is

abbrev pub batches_by : Result Reading HeaderFault → List FileBatch
batches_by r = read_or (λ (x : Reading). x.batches) (λ (f : HeaderFault). []) r

abbrev pub end_by : Result Reading HeaderFault → ℕ
end_by r = read_or (λ (x : Reading). x.to) (λ (f : HeaderFault). 0) r

-- ---- what a crash leaves

pub leaves_same : (id : FileId) (f : FileState) → IsAtRest f → LeavesBatches id f (batches_in id f.bytes)
leaves_same id f rest bytes image genuine = ap (batches_in id) (still_is_left f bytes rest.still image)

-- what lies before the cut is as it was
cut_front : (f : FileState) (to : ℕ) (seen c : List ℕ) → IsStill f → to ≤ length f.bytes → IsFileImage (after_truncate f to seen) c → c ≡ take to f.bytes ++ drop to c
cut_front f to seen c still within image =
    let long : to ≤ length c = omega (arith, image.no_shorter, still.least, within) in
    let front : take to c ≡ take to f.bytes = ext_get_or 0 (take to c) (take to f.bytes) (omega (arith, length-take to c, length-take to f.bytes, long, within)) (λ i lt.
    let below : i < to = omega (arith, length-take to c, lt) in
    let out : IsOutside i (f.changed ++ (min to (length f.bytes), max to (length f.bytes)) ∷ [])
    = subst (λ (l : List (ℕ × ℕ)). IsOutside i (l ++ (min to (length f.bytes), max to (length f.bytes)) ∷ [])) (sym still.changed) (inl (omega (arith, below, within)), tt) in
    get_or-take to c i 0 below ∙ image.same i (omega (arith, below, long)) out ∙ ap (λ (l : List ℕ). get_or l i 0) still.kept ∙ sym (get_or-take to f.bytes i 0 below)) in
    sym (take-append-drop to c) ∙ ap (λ (l : List ℕ). l ++ drop to c) front

fault_of : {X E : Type 0} (r : Result X E) (e : E) (P : X → Type 0) (Q : E → Type 0) → r ≡ Err e → MatchResult r P Q → Q e
fault_of (Ok y) e P Q is h = absurd cc
fault_of (Err x) e P Q is h = let same : x ≡ e = cc in subst Q same h

-- no record that stands in the file begins where none is read
none_stands : (f : FileState) (signature : Option ℕ) (to : ℕ) (tail : List ℕ) (g : FileState) → IsStill f → f.later ≡ [] → g.later ≡ f.later → g.kept ≡ f.kept
    → ((read : Read) → record_at signature (drop to f.bytes) ≡ Ok read → ⊥) → (read : Read) → record_at signature tail ≡ Ok read → IsWritten g to (take read.2 tail) → ⊥
none_stands f signature to tail g still later same kept none read found (inl there) = subst (IsIn (to, take read.2 tail)) (same ∙ later) there
none_stands f signature to tail g still later same kept none read found (inr old) =
    let bytes : List ℕ = take read.2 tail in
    let stands : take (length bytes) (drop to f.bytes) ≡ bytes = ap (λ (l : List ℕ). take (length bytes) (drop to l)) (sym (kept ∙ still.kept)) ∙ old.1 in
    let whole : drop to f.bytes ≡ bytes ++ drop (length bytes) (drop to f.bytes) = sym (take-append-drop (length bytes) (drop to f.bytes)) ∙ ap (λ (l : List ℕ). l ++ drop (length bytes) (drop to f.bytes)) stands in
    none read (ap (record_at signature) whole ∙ record_stays signature tail (drop (length bytes) (drop to f.bytes)) read found)

-- the batches before the cut, and no more
leaves_cut : (id : FileId) (f : FileState) (format : LogFileFormat) (seen : List ℕ) → IsAtRest f → header_at f.bytes ≡ Ok format → format.alignment ≡ 0
    → LeavesBatches id (after_truncate f (read_behind id format (header_len format.version) f.bytes).to seen) (batches_in id f.bytes)
leaves_cut id f format seen rest is plain c image genuine =
    let hl : ℕ = header_len format.version in
    let signature : Option ℕ = signature_of format.version id.seq in
    let body : List ℕ = drop hl f.bytes in
    let r : Reading = read_from 0 signature hl body in
    let read_is : read_behind id format hl f.bytes ≡ r = ap (λ a. read_from a signature hl body) plain in
    let to : ℕ = (read_behind id format hl f.bytes).to in
    let to_is : to ≡ r.to = ap (λ (x : Reading). x.to) read_is in
    let cut = cut_whole 0 signature (length body) hl body (omega arith) in
    let long = header_within f.bytes format rest.fits is in
    let within : to ≤ length f.bytes = omega (arith, cut.within, to_is, long, length-drop hl f.bytes) in
    let g : FileState = after_truncate f to seen in
    let tail : List ℕ = drop to c in
    let m : ℕ = r.to - hl in
    let both : to ≡ hl + m = omega (arith, to_is, cut.least) in
    let header : List ℕ = spelled_header format in
    let spelled = header_spelled f.bytes format rest.fits is in
    let behind : List ℕ = take m body ++ tail in
    let front : take to f.bytes ≡ header ++ take m body = sym (take-append-drop hl (take to f.bytes))
    ∙ (λ i. (take-take hl to f.bytes (omega (arith, both)) ∙ spelled.front) i ++ (ap (λ n. drop hl (take n f.bytes)) both ∙ drop-take hl m f.bytes) i) in
    let whole : c ≡ header ++ behind = cut_front f to seen c rest.still within image ∙ ap (λ (l : List ℕ). l ++ tail) front ∙ append_assoc header (take m body) tail in
    let told : header_at c ≡ Ok format = ap header_at whole ∙ headed f.bytes behind format rest.fits is in
    let left : drop hl c ≡ behind = ap (drop hl) whole ∙ drop_at header behind hl (length-header format) in
    let shown = told_of (header_at c) format
    (λ h. IsHeaderWritten g (take (header_len h.version) c) × AreWritten g h.alignment (signature_of h.version id.seq) (length c) (header_len h.version) (drop (header_len h.version) c))
    (λ _. Unit {0}) told genuine in
    let walk : AreWritten g 0 signature (length c) hl behind
    = subst (λ a. AreWritten g a signature (length c) hl behind) plain (subst (λ (l : List ℕ). AreWritten g format.alignment signature (length c) hl l) left shown.1) in
    let none : (read : Read) → record_at signature tail ≡ Ok read → IsWritten g r.to (take read.2 tail) → ⊥
    = none_stands f signature r.to tail g rest.still rest.later refl refl
    (λ read found. cut.none read (ap (record_at signature) (drop-drop m hl f.bytes ∙ ap (λ n. drop n f.bytes) (sym both ∙ to_is)) ∙ found)) in
    let alike : (read_from 0 signature hl behind).batches ≡ r.batches = reads_alike g signature (length body) hl body (omega arith) (length c) tail walk (omega (arith, ap length left, length-drop hl c)) none in
    ap batches_by (reading_of id c format told)
    ∙ (λ i. (read_from (plain i) signature hl (left i)).batches)
    ∙ alike
    ∙ sym (ap (λ (x : Reading). x.batches) read_is)
    ∙ sym (ap batches_by (reading_of id f.bytes format is))

-- no header comes back where none stood
leaves_none : (id : FileId) (f : FileState) (e x : HeaderFault) (seen : List ℕ) → IsAtRest f → header_at f.bytes ≡ Err e → header_at f.brought ≡ Err x → LeavesBatches id (after_truncate f 0 seen) (batches_in id f.bytes)
leaves_none id f e x seen rest is bare c image genuine = by_header (header_at c) refl ∙ sym (ap batches_by (no_reading id f.bytes e is))
  where
    g : FileState
    g = after_truncate f 0 seen

    clash : (h : LogFileFormat) (y : HeaderFault) → (let r : Result LogFileFormat HeaderFault = Ok h in r ≡ Err y) → ⊥
    clash h y s = cc

    begins : (h : LogFileFormat) (y : HeaderFault) (bytes : List ℕ) → header_at c ≡ Ok h → header_at bytes ≡ Err y → take (length (take (header_len h.version) c)) bytes ≡ take (header_len h.version) c → ⊥
    begins h y bytes told broken same =
        let spelled = header_spelled c h image.fits told in
        let n : ℕ = length (take (header_len h.version) c) in
        let whole : bytes ≡ spelled_header h ++ drop n bytes = sym (take-append-drop n bytes) ∙ ap (λ (l : List ℕ). l ++ drop n bytes) (same ∙ spelled.front) in
        clash h y (sym (ap header_at whole ∙ headed c (drop n bytes) h image.fits told) ∙ broken)

    shown_none : (h : LogFileFormat) → header_at c ≡ Ok h → IsHeaderWritten (after_truncate f 0 seen) (take (header_len h.version) c) → ⊥
    shown_none h told (inl (inl there)) = subst (IsIn (0, take (header_len h.version) c)) rest.later there
    shown_none h told (inl (inr old)) = begins h e f.bytes told is (ap (λ (l : List ℕ). take (length (take (header_len h.version) c)) l) (sym rest.still.kept) ∙ old.1)
    shown_none h told (inr brought) = begins h x f.brought told bare brought

    by_header : (r : Result LogFileFormat HeaderFault) → header_at c ≡ r → batches_in id c ≡ []
    by_header (Err y) broken = ap batches_by (no_reading id c y broken)
    by_header (Ok h) told = absurd (shown_none h told (told_of (header_at c) h
        (λ k. IsHeaderWritten (after_truncate f 0 seen) (take (header_len k.version) c) × AreWritten (after_truncate f 0 seen) k.alignment (signature_of k.version id.seq) (length c) (header_len k.version) (drop (header_len k.version) c))
        (λ _. Unit {0}) told genuine).0)

-- the file is cut where its whole records end
pub leaves_end : (id : FileId) (f : FileState) (to : ℕ) (seen : List ℕ) → to ≡ end_in id f.bytes → IsAtRest f → LeavesBatches id (after_truncate f to seen) (batches_in id f.bytes)
leaves_end id f to seen place rest = by_header (header_at f.bytes) refl
  where
    by_header : (r : Result LogFileFormat HeaderFault) → header_at f.bytes ≡ r → LeavesBatches id (after_truncate f to seen) (batches_in id f.bytes)
    by_header (Ok format) is =
        let there : to ≡ (read_behind id format (header_len format.version) f.bytes).to = place ∙ ap end_by (reading_of id f.bytes format is) in
        subst (λ n. LeavesBatches id (after_truncate f n seen) (batches_in id f.bytes)) (sym there)
        (leaves_cut id f format seen rest is (told_of (header_at f.bytes) format (λ h. h.alignment ≡ 0) (λ _. (e : HeaderFault) × (header_at f.brought ≡ Err e)) is rest.plain))
    by_header (Err e) is =
        let there : to ≡ 0 = place ∙ ap end_by (no_reading id f.bytes e is) in
        let bare = fault_of (header_at f.bytes) e (λ h. h.alignment ≡ 0) (λ _. (x : HeaderFault) × (header_at f.brought ≡ Err x)) is rest.plain in
        subst (λ n. LeavesBatches id (after_truncate f n seen) (batches_in id f.bytes)) (sym there) (leaves_none id f e bare.0 seen rest is bare.1)

-- ---- what is left

abbrev ReadsWhole : List ℕ → List FileBatch → Result Reading HeaderFault → Type 0
ReadsWhole bytes batches r = MatchResult r (λ x. (x.batches ≡ batches) × (x.fault ≡ None) × (x.to ≡ length bytes)) (λ _. (batches ≡ []) × (bytes ≡ []))

whole_of : (id : FileId) (g : FileState) (batches : List FileBatch) → ReadsWhole g.bytes batches (file_reading id g.bytes) → IsWhole id (after_sync g) batches
whole_of id g batches reads = record {
  still = still_synced g;
  later = refl;
  reads = reads;
}

-- a file that is cut where its whole records end has them and nothing else
pub cut_is_whole : (id : FileId) (f : FileState) (to : ℕ) → AreBytes f.bytes → to ≡ end_in id f.bytes → IsWhole id (after_sync (after_truncate f to (resized f.bytes to))) (batches_in id f.bytes)
cut_is_whole id f to fits place = by_header (header_at f.bytes) refl
  where
    short : to ≤ length f.bytes → resized f.bytes to ≡ take to f.bytes
    short within =
        let none : to - length f.bytes ≡ 0 = omega (arith, within) in
        ap (λ (k : ℕ). take to f.bytes ++ replicate k 0) none ∙ append-nil (take to f.bytes)

    by_header : (r : Result LogFileFormat HeaderFault) → header_at f.bytes ≡ r → IsWhole id (after_sync (after_truncate f to (resized f.bytes to))) (batches_in id f.bytes)
    by_header (Ok format) is =
        let hl : ℕ = header_len format.version in
        let signature : Option ℕ = signature_of format.version id.seq in
        let body : List ℕ = drop hl f.bytes in
        let r : Reading = read_from format.alignment signature hl body in
        let there : to ≡ r.to = place ∙ ap end_by (reading_of id f.bytes format is) in
        let cut = cut_whole format.alignment signature (length body) hl body (omega arith) in
        let long = header_within f.bytes format fits is in
        let within : to ≤ length f.bytes = omega (arith, cut.within, there, long, length-drop hl f.bytes) in
        let m : ℕ = r.to - hl in
        let both : to ≡ hl + m = omega (arith, there, cut.least) in
        let header : List ℕ = spelled_header format in
        let spelled = header_spelled f.bytes format fits is in
        let bytes_are : resized f.bytes to ≡ header ++ take m body = short within ∙ sym (take-append-drop hl (take to f.bytes))
        ∙ (λ i. (take-take hl to f.bytes (omega (arith, both)) ∙ spelled.front) i ++ (ap (λ n. drop hl (take n f.bytes)) both ∙ drop-take hl m f.bytes) i) in
        let told : header_at (resized f.bytes to) ≡ Ok format = ap header_at bytes_are ∙ headed f.bytes (take m body) format fits is in
        let left : drop hl (resized f.bytes to) ≡ take m body = ap (drop hl) bytes_are ∙ drop_at header (take m body) hl (length-header format) in
        let reads : file_reading id (resized f.bytes to) ≡ Ok (record { batches = r.batches; to = r.to; fault = None })
        = reading_of id (resized f.bytes to) format told ∙ ap (λ (l : List ℕ). Ok (read_from format.alignment signature hl l)) left ∙ ap (λ (x : Reading). Ok x) cut.again in
        whole_of id (after_truncate f to (resized f.bytes to)) (batches_in id f.bytes)
        (subst (ReadsWhole (resized f.bytes to) (batches_in id f.bytes)) (sym reads)
        (sym (ap batches_by (reading_of id f.bytes format is)), refl, omega (arith, ap length (short within), length-take to f.bytes, within, there)))
    by_header (Err e) is =
        let there : to ≡ 0 = place ∙ ap end_by (no_reading id f.bytes e is) in
        let zero : 0 - length f.bytes ≡ 0 = omega arith in
        let none : resized f.bytes to ≡ [] = ap (resized f.bytes) there ∙ ap (λ (k : ℕ). replicate {A = ℕ} k 0) zero in
        whole_of id (after_truncate f to (resized f.bytes to)) (batches_in id f.bytes)
        (subst (λ (l : List ℕ). ReadsWhole l (batches_in id f.bytes) (file_reading id l)) (sym none) (ap batches_by (no_reading id f.bytes e is), refl))

-- ---- a file without a fault

abbrev fault_by : Result Reading HeaderFault → Option CorruptionFault
fault_by r = read_or (λ (x : Reading). record_fault x.fault) (λ (f : HeaderFault). Some (Header f)) r

some_none : (c : CorruptionFault) → (let o : Option CorruptionFault = Some c in o ≡ None) → ⊥
some_none c e = cc

no_record : (o : Option RecordFault) → record_fault o ≡ None → o ≡ None
no_record None e = refl
no_record (Some x) e = absurd (some_none (Record x) e)

-- it is whole as it stands
pub faultless_is_whole : (id : FileId) (f : FileState) → AreBytes f.bytes → fault_in id f.bytes ≡ None → IsWhole id (after_sync f) (batches_in id f.bytes)
faultless_is_whole id f fits none = by_header (header_at f.bytes) refl
  where
    by_header : (r : Result LogFileFormat HeaderFault) → header_at f.bytes ≡ r → IsWhole id (after_sync f) (batches_in id f.bytes)
    by_header (Err e) is = absurd (some_none (Header e) (sym (ap fault_by (no_reading id f.bytes e is)) ∙ none))
    by_header (Ok format) is =
        let hl : ℕ = header_len format.version in
        let body : List ℕ = drop hl f.bytes in
        let r : Reading = read_from format.alignment (signature_of format.version id.seq) hl body in
        let reads : file_reading id f.bytes ≡ Ok r = reading_of id f.bytes format is in
        let cut = cut_whole format.alignment (signature_of format.version id.seq) (length body) hl body (omega arith) in
        let no : r.fault ≡ None = no_record r.fault (sym (ap fault_by reads) ∙ none) in
        whole_of id f (batches_in id f.bytes)
        (subst (ReadsWhole f.bytes (batches_in id f.bytes)) (sym reads)
        (sym (ap batches_by reads), no, omega (arith, cut.ended no, length-drop hl f.bytes, header_within f.bytes format fits is)))

-- ---- where whole records end

pub end_within : (id : FileId) (bytes : List ℕ) → AreBytes bytes → end_in id bytes ≤ length bytes
end_within id bytes fits = by_header (header_at bytes) refl
  where
    by_header : (r : Result LogFileFormat HeaderFault) → header_at bytes ≡ r → end_in id bytes ≤ length bytes
    by_header (Err e) is = omega (arith, ap end_by (no_reading id bytes e is))
    by_header (Ok format) is =
        let hl : ℕ = header_len format.version in
        let body : List ℕ = drop hl bytes in
        let cut = cut_whole format.alignment (signature_of format.version id.seq) (length body) hl body (omega arith) in
        omega (arith, ap end_by (reading_of id bytes format is), cut.within, length-drop hl bytes, header_within bytes format fits is)

-- at the end of a file without a fault
end_all : (id : FileId) (bytes : List ℕ) → AreBytes bytes → fault_in id bytes ≡ None → end_in id bytes ≡ length bytes
end_all id bytes fits none = by_header (header_at bytes) refl
  where
    by_header : (r : Result LogFileFormat HeaderFault) → header_at bytes ≡ r → end_in id bytes ≡ length bytes
    by_header (Err e) is = absurd (some_none (Header e) (sym (ap fault_by (no_reading id bytes e is)) ∙ none))
    by_header (Ok format) is =
        let hl : ℕ = header_len format.version in
        let body : List ℕ = drop hl bytes in
        let reads = reading_of id bytes format is in
        let cut = cut_whole format.alignment (signature_of format.version id.seq) (length body) hl body (omega arith) in
        let ended = cut.ended (no_record _ (sym (ap fault_by reads) ∙ none)) in
        omega (arith, ap end_by reads, ended, length-drop hl bytes, header_within bytes format fits is)

-- the header is as it was
header_front : (id : FileId) (bytes : List ℕ) (format : LogFileFormat) → AreBytes bytes → header_at bytes ≡ Ok format → header_at (take (end_in id bytes) bytes) ≡ Ok format
header_front id bytes format fits is =
    let hl : ℕ = header_len format.version in
    let body : List ℕ = drop hl bytes in
    let cut = cut_whole format.alignment (signature_of format.version id.seq) (length body) hl body (omega arith) in
    let m : ℕ = end_in id bytes - hl in
    let both : end_in id bytes ≡ hl + m = omega (arith, ap end_by (reading_of id bytes format is), cut.least) in
    let parts : take (end_in id bytes) bytes ≡ spelled_header format ++ take m body = sym (take-append-drop hl (take (end_in id bytes) bytes))
    ∙ (λ i. (take-take hl (end_in id bytes) bytes (omega (arith, both)) ∙ (header_spelled bytes format fits is).front) i ++ (ap (λ n. drop hl (take n bytes)) both ∙ drop-take hl m bytes) i) in
    ap header_at parts ∙ headed bytes (take m body) format fits is

-- so nothing is left only of a file whose header was broken
pub blank_front : (id : FileId) (bytes : List ℕ) → AreBytes bytes → take (end_in id bytes) bytes ≡ [] → (e : HeaderFault) × (header_at bytes ≡ Err e)
blank_front id bytes fits none = by_header (header_at bytes) refl
  where
    by_header : (r : Result LogFileFormat HeaderFault) → header_at bytes ≡ r → (e : HeaderFault) × (header_at bytes ≡ Err e)
    by_header (Err e) is = (e, is)
    by_header (Ok format) is =
        let bare : header_at [] ≡ Ok format = ap header_at (sym none) ∙ header_front id bytes format fits is in
        let short : header_at [] ≡ Err CutShort = refl in
        absurd cc

pub format_front : (id : FileId) (bytes : List ℕ) → AreBytes bytes → format_in (take (end_in id bytes) bytes) ≡ format_in bytes
format_front id bytes fits = by_header (header_at bytes) refl
  where
    by_header : (r : Result LogFileFormat HeaderFault) → header_at bytes ≡ r → format_in (take (end_in id bytes) bytes) ≡ format_in bytes
    by_header (Err e) is = ap (λ n. format_in (take n bytes)) (ap end_by (no_reading id bytes e is)) ∙ sym (ap (λ h. read_or (λ (x : LogFileFormat). x) (λ (f : HeaderFault). record { version = V1; alignment = 0 }) h) is)
    by_header (Ok format) is = ap (λ h. read_or (λ (x : LogFileFormat). x) (λ (f : HeaderFault). record { version = V1; alignment = 0 }) h) (header_front id bytes format fits is ∙ sym is)

front_resized : (bytes : List ℕ) (to : ℕ) → to ≤ length bytes → resized bytes to ≡ take to bytes
front_resized bytes to within =
    let none : to - length bytes ≡ 0 = omega (arith, within) in
    ap (λ (k : ℕ). take to bytes ++ replicate k 0) none ∙ append-nil (take to bytes)

-- ---- what a refused cut leaves

-- no header stands in a front where none stands
front_broken : (bytes : List ℕ) (n : ℕ) (e : HeaderFault) (format : LogFileFormat) → AreBytes bytes → header_at bytes ≡ Err e → header_at (take n bytes) ≡ Ok format → ⊥
front_broken bytes n e format fits broken told = clash format e (sym (ap header_at whole ∙ headed (take n bytes) (behind ++ drop n bytes) format (bytes_taken n bytes fits) told) ∙ broken)
  where
    clash : (h : LogFileFormat) (y : HeaderFault) → (let r : Result LogFileFormat HeaderFault = Ok h in r ≡ Err y) → ⊥
    clash h y s = cc

    hl : ℕ
    hl = header_len format.version

    behind : List ℕ
    behind = drop hl (take n bytes)

    whole : bytes ≡ spelled_header format ++ (behind ++ drop n bytes)
    whole =
        sym (take-append-drop n bytes)
        ∙ ap (λ (l : List ℕ). l ++ drop n bytes) (sym (take-append-drop hl (take n bytes)) ∙ ap (λ (l : List ℕ). l ++ behind) (header_spelled (take n bytes) format (bytes_taken n bytes fits) told).front)
        ∙ append_assoc (spelled_header format) behind (drop n bytes)

-- a front that reaches as far as its whole records reads as the same batches
pub front_batches : (id : FileId) (bytes : List ℕ) (n : ℕ) → AreBytes bytes → end_in id bytes ≤ n → batches_in id (take n bytes) ≡ batches_in id bytes
front_batches id bytes n fits reach = by_header (header_at bytes) refl
  where
    none_in : (e : HeaderFault) (r : Result LogFileFormat HeaderFault) → header_at bytes ≡ Err e → header_at (take n bytes) ≡ r → batches_in id (take n bytes) ≡ []
    none_in e (Err x) is broken = ap batches_by (no_reading id (take n bytes) x broken)
    none_in e (Ok h) is told = absurd (front_broken bytes n e h fits is told)

    by_header : (r : Result LogFileFormat HeaderFault) → header_at bytes ≡ r → batches_in id (take n bytes) ≡ batches_in id bytes
    by_header (Err e) is = none_in e (header_at (take n bytes)) is refl ∙ sym (ap batches_by (no_reading id bytes e is))
    by_header (Ok format) is =
        let hl : ℕ = header_len format.version in
        let signature : Option ℕ = signature_of format.version id.seq in
        let body : List ℕ = drop hl bytes in
        let cut = cut_whole format.alignment signature (length body) hl body (omega arith) in
        let reads = reading_of id bytes format is in
        let k : ℕ = n - hl in
        let both : n ≡ hl + k = omega (arith, reach, ap end_by reads, cut.least) in
        let parts : take n bytes ≡ spelled_header format ++ take k body = sym (take-append-drop hl (take n bytes))
        ∙ (λ i. (take-take hl n bytes (omega (arith, both)) ∙ (header_spelled bytes format fits is).front) i ++ (ap (λ m. drop hl (take m bytes)) both ∙ drop-take hl k bytes) i) in
        let told : header_at (take n bytes) ≡ Ok format = ap header_at parts ∙ headed bytes (take k body) format fits is in
        let left : drop hl (take n bytes) ≡ take k body = ap (drop hl) parts ∙ drop_at (spelled_header format) (take k body) hl (length-header format) in
        ap batches_by (reading_of id (take n bytes) format told)
        ∙ ap (λ (l : List ℕ). (read_from format.alignment signature hl l).batches) left
        ∙ front_reads format.alignment signature (length body) hl body (omega arith) k (omega (arith, reach, ap end_by reads, both))
        ∙ sym (ap batches_by reads)

-- however far the cut came
partly_reads : (id : FileId) (f : FileState) (len : ℕ) (seen : List ℕ) → AreBytes f.bytes → len ≡ end_in id f.bytes → PartlyTruncated len f.bytes seen → batches_in id seen ≡ batches_in id f.bytes
partly_reads id f len seen fits place part =
    let within : len ≤ length f.bytes = omega (arith, place, end_within id f.bytes fits) in
    ap (batches_in id) (part.front ∙ front_resized f.bytes (length seen) (omega (arith, part.no_longer, within)))
    ∙ front_batches id f.bytes (length seen) fits (omega (arith, part.no_shorter, within, place))

-- all of the way
pub whole_cut : (bytes : List ℕ) (len : ℕ) → PartlyTruncated len bytes (resized bytes len)
whole_cut bytes len =
    let none : ℕ = 0 in
    let long : length (resized bytes len) ≡ len
    = omega (arith, length-append (take len bytes) (replicate (len - length bytes) none), length-take len bytes, length-replicate (len - length bytes) none) in
    record {
      no_shorter = omega (arith, long);
      no_longer = omega (arith, long);
      front = ap (resized bytes) (sym long);
    }

-- ---- the exits of a repair

-- what is cut, by the fault
pub record IsCutBy (id : FileId) (f : FileState) (cut : Option ℕ) : Type 0 where
  pub none : cut ≡ None → fault_in id f.bytes ≡ None
  pub some : (to : ℕ) → cut ≡ Some to → to ≡ end_in id f.bytes

settled_whole : (id : FileId) (f : FileState) (cut : Option ℕ) → AreBytes f.bytes → IsCutBy id f cut → IsWhole id (after_sync (cut_to cut f)) (batches_in id f.bytes)
settled_whole id f None fits by = faultless_is_whole id f fits (by.none refl)
settled_whole id f (Some to) fits by = cut_is_whole id f to fits (by.some to refl)

settled_front : (id : FileId) (f : FileState) (cut : Option ℕ) → AreBytes f.bytes → IsCutBy id f cut → (cut_to cut f).bytes ≡ take (end_in id f.bytes) f.bytes
settled_front id f None fits by = sym (ap (λ n. take n f.bytes) (end_all id f.bytes fits (by.none refl)) ∙ take_all (length f.bytes) f.bytes (omega arith))
settled_front id f (Some to) fits by =
    let place : to ≡ end_in id f.bytes = by.some to refl in
    front_resized f.bytes to (omega (arith, place, end_within id f.bytes fits)) ∙ ap (λ n. take n f.bytes) place

pub stopped_same : (d e : Disk) (id : FileId) (fd : ℕ) → e ≡ d → IsStopped d e id fd
stopped_same d e id fd is = record { state = d.file fd; files = is ∙ no_change d fd; reads = refl; leaves = leaves_same id (d.file fd) }

-- so after the cut and the sync
pub settled_ok : (r : Result (Unit {0}) Error) (d e : Disk) (id : FileId) (fd : ℕ) (cut : Option ℕ) → AreBytes (d.file fd).bytes → IsCutBy id (d.file fd) cut → Settles r d e fd cut → OnOk r (IsRepaired d e id fd)
settled_ok (Ok u) d e id fd cut fits by is = record { state = after_sync (cut_to cut (d.file fd)); files = is; front = settled_front id (d.file fd) cut fits by; whole = settled_whole id (d.file fd) cut fits by }
settled_ok (Err x) d e id fd cut fits by is = tt

pub settled_err : (r : Result (Unit {0}) Error) (d e : Disk) (id : FileId) (fd : ℕ) (cut : Option ℕ) → AreBytes (d.file fd).bytes → IsCutBy id (d.file fd) cut → Settles r d e fd cut → OnErr r (IsStopped d e id fd)
settled_err (Ok u) d e id fd cut fits by is = tt
settled_err (Err x) d e id fd cut fits by (inl same) = stopped_same d e id fd same
settled_err (Err x) d e id fd cut fits by (inr (len, seen, is, part, changed)) = record {
  state = after_truncate (d.file fd) len seen;
  files = changed;
  reads = partly_reads id (d.file fd) len seen fits (by.some len is) part;
  leaves = leaves_end id (d.file fd) len seen (by.some len is);
}

-- what is cut where there is no fault, and where there is one
pub cut_none : (id : FileId) (f : FileState) → fault_in id f.bytes ≡ None → IsCutBy id f None
cut_none id f is = record { none = λ _. is; some = λ to e. absurd cc }

pub cut_some : (id : FileId) (f : FileState) (to : ℕ) → to ≡ end_in id f.bytes → IsCutBy id f (Some to)
cut_some id f to is = record { none = λ e. absurd cc; some = λ n e. (let same : to ≡ n = cc in sym same ∙ is) }

-- ---- a cut and a sync

pub settle_cut : (d e g : Disk) (fd len : ℕ) (cut : Option ℕ) → cut ≡ Some len → e ≡ with_file d fd (after_truncate (d.file fd) len (resized (d.file fd).bytes len)) → g ≡ with_file e fd (after_sync (e.file fd)) → g ≡ with_file d fd (after_sync (cut_to cut (d.file fd)))
settle_cut d e g fd len cut is changed sync =
    let f : FileState = after_truncate (d.file fd) len (resized (d.file fd).bytes len) in
    sync ∙ (λ i. with_file (changed i) fd (after_sync ((changed i).file fd))) ∙ ap (λ (s : FileState). with_file (with_file d fd f) fd (after_sync s)) (same_file fd f (d.file fd)) ∙ file_again d fd f (after_sync f)
    ∙ ap (λ o. with_file d fd (after_sync (cut_to o (d.file fd)))) (sym is)

-- the cut stands and the sync was refused
pub settle_unsynced : (x : Error) (d e g : Disk) (fd len : ℕ) (cut : Option ℕ) → cut ≡ Some len → e ≡ with_file d fd (after_truncate (d.file fd) len (resized (d.file fd).bytes len)) → g ≡ e
    → (let r : Result (Unit {0}) Error = Err x in Settles r d g fd cut)
settle_unsynced x d e g fd len cut is changed same = inr (len, resized (d.file fd).bytes len, is, whole_cut (d.file fd).bytes len, same ∙ changed)
