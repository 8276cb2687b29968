-- At most the newest file of a queue is torn behind a refused call.
use Rattle.std.proofs.Common.{◌≡◌, ◌⊎◌, inl, inr, ⊎_elim, ℕ, true, List, [], ◌∷◌, ◌++◌, length, take, drop, sym, ap, subst, ◌∙◌, arith, append_assoc, length-append}
use Rattle.std.specs.Prelude.{MatchResult, Result, Ok, Err}
use Rattle.std.proofs.lemmas.List.{take-append-drop}
use Rattle.std.proofs.Math.Seq.{take-nil}
use Rattle.raft_log_records.specs.declared.file_id.FileId.{FileId}
use Rattle.raft_log_records.specs.declared.version.Version.{Version}
use Rattle.raft_log_records.specs.declared.version.Version.TheVariants.{V1, V2}
use Rattle.raft_log_records.specs.Signature.{signature_of}
use Rattle.raft_log_records.specs.Spelling.{AreItems, spell_record}
use Rattle.raft_log_disk.specs.declared.fault.IoFault.{IoFault}
use Rattle.raft_log_disk.specs.declared.format.HeaderFault.{HeaderFault}
use Rattle.raft_log_disk.specs.declared.format.LogFileFormat.{LogFileFormat}
use Rattle.raft_log_disk.specs.Chance.{AreWritten, IsHeaderWritten}
use Rattle.raft_log_disk.specs.Disk.{Disk, FileState, IsIn, no_bytes}
use Rattle.raft_log_disk.specs.Format.{IsSpellable, header_at, header_len, spelled_header}
use Rattle.raft_log_file.specs.declared.writer.LogFileWriter.{LogFileWriter}
use Rattle.raft_log_file.specs.Laws.{Batch, file_text, spelled_batches}
use Rattle.raft_log_file.specs.Unsynced.{IsUnsynced}
use Rattle.raft_log_file.specs.Writer.{IsAppended, IsOpened, IsReady, MakesRoom, Writes, writer_at}
use Rattle.raft_log_file.proofs.HeaderLemmas.{length-header}
use Rattle.raft_log_file.proofs.LawLemmas.{header_read}
use Rattle.raft_log_file.proofs.UnsyncedLemmas.{header_some, image_front}
use Rattle.raft_log_pipe.specs.declared.pipe.SinglePipe.{SinglePipe}
use Rattle.raft_log_pipe.specs.Alone.{AreLast, IsAlone, Names, directories_of_pipe}
use Rattle.raft_log_pipe.specs.Blocks.{files_of}
use Rattle.raft_log_pipe.specs.Pipe.{Holds, IsPipe, IsPlain, Numbered, id_of}
use Rattle.raft_log_pipe.specs.Stored.{IsStored}
use Rattle.raft_log_pipe.specs.Torn.{IsTornAtEnd, IsUnaligned, TearsAtEnd}
use Rattle.raft_log_pipe.proofs.ChangeLemmas.{unput_last, with_writer}
use Rattle.raft_log_pipe.proofs.PipeLemmas.{file_there, names_kept, olders_on, same_beside}
use Rattle.raft_log_pipe.proofs.StoredLemmas.{stored_within}

-- ---- headers

format_is : (a b : LogFileFormat) → (let x : Result LogFileFormat HeaderFault = Ok a in x ≡ Ok b) → a ≡ b
format_is a b is = cc

-- the header that was spelled is read
pub spelled_plain : (format said : LogFileFormat) (bytes rest : List ℕ) → IsSpellable format → format.alignment ≡ 0 → bytes ≡ spelled_header format ++ rest → header_at bytes ≡ Ok said → said.alignment ≡ 0
spelled_plain format said bytes rest spellable plain is told =
    ap (λ (x : LogFileFormat). x.alignment) (format_is said format (sym told ∙ ap header_at is ∙ header_read format rest spellable)) ∙ plain

-- that of a file with its batches on the disk stays
pub unsynced_plain : (id : FileId) (format : LogFileFormat) (ks us : List Batch) (f : FileState) → IsUnsynced id format ks us f → IsUnaligned id f
unsynced_plain id format ks us f u bytes said image genuine told =
    let header : List ℕ = spelled_header format in
    let text : List ℕ = file_text id format ks in
    let records : List ℕ = spelled_batches (signature_of format.version id.seq) ks in
    let tail : List ℕ = drop (length text) bytes in
    spelled_plain format said bytes (records ++ tail) u.spellable u.plain (image_front f text bytes u.kept u.least u.outside image ∙ append_assoc header records tail) told

-- no call wrote in the file
pub record IsBare (f : FileState) : Type 0 where
  pub earlier : f.earlier ≡ []
  pub later : f.later ≡ []
  pub brought : f.brought ≡ []

-- or one its header
pub record IsFresh (header : List ℕ) (f : FileState) : Type 0 where
  pub earlier : f.earlier ≡ []
  pub later : (f.later ≡ []) ⊎ (f.later ≡ (0, header) ∷ [])
  pub brought : f.brought ≡ []

pub bare_fresh : (header : List ℕ) (f : FileState) → IsBare f → IsFresh header f
bare_fresh header f bare = record { earlier = bare.earlier; later = inl bare.later; brought = bare.brought }

pub empty_bare : (f : FileState) → f ≡ no_bytes → IsBare f
empty_bare f is = record {
  earlier = ap (λ (x : FileState). x.earlier) is;
  later = ap (λ (x : FileState). x.later) is;
  brought = ap (λ (x : FileState). x.brought) is;
}

-- bytes that begin with no header say none
none_told : (bytes : List ℕ) (said : LogFileFormat) → header_at bytes ≡ Ok said → take (header_len said.version) bytes ≡ [] → ⊥
none_told [] said told is = absurd cc
none_told (b ∷ bytes) said told is = by_version said.version is
  where
    by_version : (v : Version) → take (header_len v) (b ∷ bytes) ≡ [] → ⊥
    by_version V1 none = absurd cc
    by_version V2 none = absurd cc

pub fresh_plain : (id : FileId) (format : LogFileFormat) (f : FileState) → IsPlain format → IsFresh (spelled_header format) f → IsUnaligned id f
fresh_plain id format f plain fresh bytes said image genuine told = by_header shown.0
  where
    header : List ℕ
    header = take (header_len said.version) bytes

    shown : IsHeaderWritten f header × AreWritten f said.alignment (signature_of said.version id.seq) (length bytes) (header_len said.version) (drop (header_len said.version) bytes)
    shown = subst (λ (r : Result LogFileFormat HeaderFault). MatchResult r
        (λ h. IsHeaderWritten f (take (header_len h.version) bytes) × AreWritten f h.alignment (signature_of h.version id.seq) (length bytes) (header_len h.version) (drop (header_len h.version) bytes))
        (λ _. Unit {0})) told genuine

    one : List ℕ → ℕ × List ℕ
    one l = (0, l)

    is_spelled : one header ≡ one (spelled_header format) → said.alignment ≡ 0
    is_spelled same =
        let front : header ≡ spelled_header format = ap (λ (x : ℕ × List ℕ). x.1) same in
        let behind : List ℕ = drop (header_len said.version) bytes in
        spelled_plain format said bytes behind plain.0 plain.1 (sym (take-append-drop (header_len said.version) bytes) ∙ ap (λ (l : List ℕ). l ++ behind) front) told

    by_later : (f.later ≡ []) ⊎ (f.later ≡ (0, spelled_header format) ∷ []) → IsIn (0, header) f.later → said.alignment ≡ 0
    by_later (inl none) there = absurd (subst (IsIn (0, header)) none there)
    by_later (inr one) there = ⊎_elim is_spelled (λ none. absurd none) (subst (IsIn (0, header)) one there)

    by_header : IsHeaderWritten f header → said.alignment ≡ 0
    by_header (inl (inl later)) = by_later fresh.later later
    by_header (inl (inr (earlier, stands))) = absurd (subst (IsIn (0, header)) fresh.earlier earlier)
    by_header (inr brought) = absurd (none_told bytes said told (sym brought ∙ ap (take (length header)) fresh.brought ∙ take-nil (length header)))

-- ---- a file that begins

bare_room : (e b : Disk) (fd at len : ℕ) → IsBare (e.file fd) → MakesRoom e b fd at len → IsBare (b.file fd)
bare_room e b fd at len bare (inl is) = subst IsBare (sym (file_there e b fd _ is)) (record { earlier = bare.earlier; later = bare.later; brought = bare.brought })
bare_room e b fd at len bare (inr (inl same)) = subst (λ (y : Disk). IsBare (y.file fd)) (sym same) bare
bare_room e b fd at len bare (inr (inr refused)) = subst IsBare (sym (file_there e b fd _ refused.files)) (record { earlier = bare.earlier; later = bare.later; brought = bare.brought })

bare_ready : (w : LogFileWriter) (e b : Disk) (end target : ℕ) → IsBare (e.file w.fd.0) → IsReady w e b end target → IsBare (b.file w.fd.0)
bare_ready w e b end target bare (inl (short, same)) = subst (λ (y : Disk). IsBare (y.file w.fd.0)) (sym same) bare
bare_ready w e b end target bare (inr (long, room)) = bare_room e b w.fd.0 _ _ bare room

fresh_writes : (r : Result (Unit {0}) IoFault) (b e : Disk) (fd : ℕ) (header : List ℕ) → IsBare (b.file fd) → Writes r b e fd 0 header → IsFresh header (e.file fd)
fresh_writes (Ok u) b e fd header bare is =
    subst (IsFresh header) (sym (file_there b e fd _ is)) (record { earlier = bare.earlier; later = inr (ap (λ (l : List (ℕ × List ℕ)). l ++ (0, header) ∷ []) bare.later); brought = bare.brought })
fresh_writes (Err x) b e fd header bare (inl same) = subst (λ (y : Disk). IsFresh header (y.file fd)) (sym same) (bare_fresh header (b.file fd) bare)
fresh_writes (Err x) b e fd header bare (inr refused) =
    subst (IsFresh header) (sym (file_there b e fd _ refused.files)) (record { earlier = bare.earlier; later = inr (ap (λ (l : List (ℕ × List ℕ)). l ++ (0, header) ∷ []) bare.later); brought = bare.brought })

fresh_appended : (r : Result (Unit {0}) IoFault) (d e : Disk) (fd : ℕ) (format : LogFileFormat) → IsBare (d.file fd) → IsAppended (writer_at fd 0 (length (d.file fd).bytes)) d e (spelled_header format) 0 r → IsFresh (spelled_header format) (e.file fd)
fresh_appended r d e fd format bare a =
    fresh_writes r a.between e fd (spelled_header format) (bare_ready (writer_at fd 0 (length (d.file fd).bytes)) d a.between _ 0 bare a.ready) a.writes

fresh_opened : (d e : Disk) (fd : ℕ) (format : LogFileFormat) (r : Result LogFileWriter IoFault) → IsBare (d.file fd) → IsOpened d e fd format true r → IsFresh (spelled_header format) (e.file fd)
fresh_opened d e fd format (Ok w) bare (inl (long, not_reset, same, at)) = absurd cc
fresh_opened d e fd format (Ok w) bare (inr (begins, a, at)) = fresh_appended (Ok tt) d e fd format bare a
fresh_opened d e fd format (Err x) bare (inl same) = subst (λ (y : Disk). IsFresh (spelled_header format) (y.file fd)) (sym same) (bare_fresh (spelled_header format) (d.file fd) bare)
fresh_opened d e fd format (Err x) bare (inr (begins, a)) = fresh_appended (Err x) d e fd format bare a

-- its header was perhaps written, and not synced
pub opened_plain : (d e g : Disk) (fd : ℕ) (format : LogFileFormat) (r : Result LogFileWriter IoFault) → IsPlain format → IsOpened d e fd format true r → g ≡ e → d.file fd ≡ no_bytes → (id : FileId) → IsUnaligned id (g.file fd)
opened_plain d e g fd format r plain opened same none id =
    subst (λ (y : Disk). IsUnaligned id (y.file fd)) (sym same) (fresh_plain id format (e.file fd) plain (fresh_opened d e fd format r (empty_bare (d.file fd) none) opened))

-- ---- pipes

-- a file of batches has bytes
pub stored_some : (id : FileId) (format : LogFileFormat) (ks us : List Batch) (offset : ℕ) (f : FileState) → IsStored id format ks us offset f → f.bytes ≡ [] → ⊥
stored_some id format ks us offset f s none =
    omega (arith, s.place, stored_within id format ks us offset f s, ap length none, length-append (spelled_header format) (spelled_batches (signature_of format.version id.seq) (ks ++ us)), length-header format, header_some format.version)

-- the files of a pipe itself
pub held_torn : (p : SinglePipe) (d : Disk) → TearsAtEnd p d p d
held_torn p d alone s u h = record {
  older = p.older.items;
  newest = p.active;
  batches = h.before;
  last = alone;
  whole = h.olders;
  known = λ f there none. there;
  plain = unsynced_plain (id_of p.queue p.active.seq) p.active.format h.ks h.us (d.file p.active.handle.0) h.stored.unsynced;
}

-- part of a record was perhaps written
pub unput_torn : (p : SinglePipe) (w : LogFileWriter) (d e : Disk) (text : List ℕ) (items : Batch) (target : ℕ) (x : IoFault) → IsPipe p d → AreItems items → text ≡ spell_record (signature_of p.active.format.version p.active.seq) items
    → IsAppended p.writer d e text target (Err x) → TearsAtEnd p d (with_writer p w) e
unput_torn p w d e text items target x pipe are is a alone s u h =
    let last = unput_last p d e text items target x pipe are is a s u h in
    record {
      older = p.older.items;
      newest = p.active;
      batches = h.before;
      last = subst (λ (n : Names). AreLast n (directories_of_pipe p) p.queue (files_of p)) (sym (ap (λ (y : Disk). y.names) last.change)) alone;
      whole = olders_on p.queue d e p.older.items h.before (names_kept d e p.active.handle.0 last.change) (same_beside d e p.active.handle.0 p.older.items last.change last.apart) h.olders;
      known = λ f there none. there;
      plain = unsynced_plain (id_of p.queue p.active.seq) p.active.format h.ks last.all (e.file p.active.handle.0) last.unsynced;
    }

-- one call after another
pub torn_then : (old p new : SinglePipe) (d b e : Disk) → (IsAlone old d → IsAlone p b) → ((s u : Numbered) → Holds old d s u → Holds p b s u ⊎ Holds p b (s ++ u) []) → TearsAtEnd p b new e → TearsAtEnd old d new e
torn_then old p new d b e on before tears alone s u h = ⊎_elim (λ as_it_was. tears (on alone) s u as_it_was) (λ all. tears (on alone) (s ++ u) [] all) (before s u h)

-- a pipe that was finished goes on
pub torn_next : (old p new : SinglePipe) (d b e : Disk) → (IsAlone old d → IsAlone p b) → ((s u : Numbered) → Holds old d s u → Holds p b (s ++ u) []) → (IsAlone p b → (s : Numbered) → Holds p b s [] → IsTornAtEnd new e)
    → TearsAtEnd old d new e
torn_next old p new d b e on all tears alone s u h = tears (on alone) (s ++ u) (all s u h)
