-- Several records that were written and not synced: a crash leaves a front of them.
use Rattle.std.proofs.Common.{◌≡◌, ◌⊎◌, inl, inr, ⊎_elim, ℕ, zero, suc, ◌+◌, ◌-◌, ◌^◌, ◌<◌, ◌≤◌, Bool, true, false, cond, nat_lt, List, [], ◌∷◌, ◌++◌, length, get_or, take, drop, Option, Some, Result, Ok, Err, refl, sym, ap, subst, ◌∙◌, arith, append_assoc, length-append, length-take, length-drop, take-append-drop, add-zero, ext_get_or}
use Rattle.std.specs.Prelude.{IfSome, MatchResult, replicate, ◌==◌}
use Rattle.std.specs.List.{AllByRecursion, list_all}
use Rattle.std.proofs.lemmas.List.{append-nil, get_or-take, take_all, take_at, drop_at, length-replicate, replicate-append-replicate}
use Rattle.std.proofs.lemmas.List.Concat.{flat_map-append}
use Rattle.raft_log_records.specs.Item.{with_bytes}
use Rattle.raft_log_records.specs.declared.error.RecordFault.{RecordFault}
use Rattle.raft_log_records.specs.declared.error.RecordFault.TheVariants.{BadLength}
use Rattle.raft_log_records.specs.declared.version.Version.{Version}
use Rattle.raft_log_records.specs.declared.version.Version.TheVariants.{V1, V2}
use Rattle.raft_log_records.specs.declared.file_id.FileId.{FileId}
use Rattle.raft_log_records.specs.Places.{placed}
use Rattle.raft_log_records.specs.Reading.{record_at}
use Rattle.raft_log_records.specs.Signature.{signature_of}
use Rattle.raft_log_records.specs.Spelling.{AreItems, block_of, record_len, spell_record}
use Rattle.raft_bytes.specs.Bytes.{AreBytes}
use Rattle.raft_bytes.proofs.Bytes.{AreBytes-drop}
use Rattle.raft_log_records.proofs.Locality.{zeros_are_no_record}
use Rattle.raft_log_records.proofs.Placed.{placed_bytes}
use Rattle.raft_log_records.proofs.RecordAgain.{back_bytes, record_again}
use Rattle.raft_log_disk.specs.declared.format.LogFileFormat.{LogFileFormat}
use Rattle.raft_log_disk.specs.Disk.{FileState, IsIn}
use Rattle.raft_log_disk.specs.Format.{header_at, header_len, spelled_header}
use Rattle.raft_log_disk.specs.Image.{IsFileImage, IsOutside}
use Rattle.raft_log_disk.specs.Chance.{AreWritten, IsHeaderWritten, IsWritten, LengthIs, Stands, gap, padding}
use Rattle.raft_log_disk.proofs.ChanceLemmas.{step}
use Rattle.raft_log_file.specs.Reading.{Reading, contents, file_reading, read_from}
use Rattle.raft_log_file.specs.Laws.{Batch, AreBatches, ReadsFront, file_text, spelled_batches}
use Rattle.raft_log_file.specs.Unsynced.{IsRecord, ReadsAs, RecycledFilesBegin, RoomStaysUnread, SyncedBatchesBegin, UnsyncedBatchesAreAFront, UnsyncedBatchesGrow, places}
use Rattle.raft_log_file.proofs.HeaderLemmas.{length-header}
use Rattle.raft_log_file.proofs.LawLemmas.{header_read, length-spelled, signature_fits, written_batches_are_read}
use Rattle.raft_log_file.proofs.WalkLemmas.{Read, from_end, from_fault, from_found, record_sized}

abbrev Span : Type 0
Span = ℕ × List ℕ

-- ---- what was written, among spans

in_append : (xs ys : List Span) (x : Span) → IsIn x (xs ++ ys) → IsIn x xs ⊎ IsIn x ys
in_append [] ys x h = inr h
in_append (s ∷ xs) ys x (inl e) = inl (inl e)
in_append (s ∷ xs) ys x (inr h) = ⊎_elim (λ here. inl (inr here)) (λ there. inr there) (in_append xs ys x h)

abbrev pub AllBefore : ℕ → List Span → Type 0
AllBefore n spans = AllByRecursion (λ s. s.0 < n) spans

in_before : (n : ℕ) (spans : List Span) (x : Span) → AllBefore n spans → IsIn x spans → x.0 < n
in_before n [] x all there = absurd there
in_before n (s ∷ spans) x all (inl e) = omega (arith, all.0, ap (λ (y : Span). y.0) e)
in_before n (s ∷ spans) x all (inr there) = in_before n spans x all.1 there

pub before_push : (n m : ℕ) (spans : List Span) (x : Span) → AllBefore n spans → n ≤ m → x.0 < m → AllBefore m (spans ++ x ∷ [])
before_push n m [] x all le lt = (lt, tt)
before_push n m (s ∷ spans) x all le lt = (omega (arith, all.0, le), before_push n m spans x all.1 le lt)

record_long : (k : Batch) → 12 ≤ record_len k
unfolding record_len
record_long k = omega arith

pub spelled_long : (signature : Option ℕ) (k : Batch) → 12 ≤ length (spell_record signature k)
spelled_long signature k = omega (arith, length-spelled signature k, record_long k)

places_from : (signature : Option ℕ) (at : ℕ) (us : List Batch) (x : Span) → IsIn x (places signature at us) → at ≤ x.0
places_from signature at [] x there = absurd there
places_from signature at (u ∷ us) x (inl e) = omega (arith, ap (λ (y : Span). y.0) e)
places_from signature at (u ∷ us) x (inr there) = omega (arith, places_from signature (at + length (spell_record signature u)) us x there)

-- ---- the walk behind the synced batches

-- no span that began before, and no earlier record that is kept, begins at this place or behind it
record IsClear (f : FileState) (signature : Option ℕ) (older : List Span) (at : ℕ) : Type 0 where
  pub before : AllBefore at older
  pub earlier : (n : ℕ) (bytes : List ℕ) → at ≤ n → IsRecord signature bytes → IsIn (n, bytes) f.earlier → Stands f.kept n bytes → ⊥

-- a record that is read at the front of some bytes
pub record_here : (signature : Option ℕ) (tail : List ℕ) (read : Read) → record_at signature tail ≡ Ok read → IsRecord signature (take read.2 tail)
record_here signature tail read is =
    let sized = record_sized signature tail read is in
    record {
      read = read;
      rest = drop read.2 tail;
      is = ap (record_at signature) (take-append-drop read.2 tail) ∙ is;
      len = omega (arith, length-take read.2 tail, sized.within);
    }

-- it takes eight bytes at least
pub record_some : (signature : Option ℕ) (bytes : List ℕ) → IsRecord signature bytes → 8 ≤ length bytes
record_some signature bytes r = omega (arith, r.len, (record_sized signature (bytes ++ r.rest) r.read r.is).least)

-- zeros are none
pub zeros_no_record : (signature : Option ℕ) (n : ℕ) → IsRecord signature (replicate n 0) → ⊥
zeros_no_record signature n r =
    let none : ℕ = 0 in
    let long : 4 + (n - 4) ≡ n = omega (arith, record_some signature (replicate n 0) r, length-replicate n none) in
    let split : replicate n none ≡ none ∷ none ∷ none ∷ none ∷ replicate (n - 4) none = ap (λ m. replicate m none) (sym long) ∙ sym (replicate-append-replicate 4 (n - 4) none) in
    let bad : record_at signature (replicate n 0 ++ r.rest) ≡ Err BadLength = ap (λ (l : List ℕ). record_at signature (l ++ r.rest)) split ∙ (zeros_are_no_record signature (replicate (n - 4) 0 ++ r.rest)).1 in
    two r.read BadLength (sym r.is ∙ bad)
  where
    two : (x : Read) (f : RecordFault) → (let r : Result Read RecordFault = Ok x in r ≡ Err f) → ⊥
    two x f e = cc

no_gap : (o n : ℕ) (s z : Bool) → n ≡ o → cond s o (cond z n o) ≡ o
no_gap o n true z is = refl
no_gap o n false true is = is
no_gap o n false false is = refl

pub no_padding : (at : ℕ) (bytes : List ℕ) → padding 0 at bytes ≡ 0
no_padding at bytes = no_gap 0 (gap 0 at) (nat_lt (length bytes) (gap 0 at)) (list_all (λ b. b == 0) (take (gap 0 at) bytes)) refl

none_read : (signature : Option ℕ) (at : ℕ) (bytes : List ℕ) (f : RecordFault) → record_at signature bytes ≡ Err f → contents (read_from 0 signature at bytes).batches ≡ []
none_read signature at [] f is = ap (λ (r : Reading). contents r.batches) (from_end 0 signature at [] refl)
none_read signature at (b ∷ bytes) f is = ap (λ (r : Reading). contents r.batches) (from_fault 0 signature at (b ∷ bytes) f (omega arith) is (no_padding at (b ∷ bytes)))

-- the batch that was written at this place, if one was
written_here : (f : FileState) (signature : Option ℕ) (older : List Span) (at : ℕ) (us : List Batch) (bytes : List ℕ) → f.later ≡ older ++ places signature at us → IsClear f signature older at → IsRecord signature bytes → IsWritten f at bytes
    → IsIn (at, bytes) (places signature at us)
written_here f signature older at us bytes later clear some (inl there) =
    ⊎_elim (λ old. absurd (omega (arith, in_before at older (at, bytes) clear.before old))) (λ new. new) (in_append older (places signature at us) (at, bytes) (subst (IsIn (at, bytes)) later there))
written_here f signature older at us bytes later clear some (inr old) = absurd (clear.earlier at bytes (omega arith) some old.0 old.1)

same_bytes : (signature : Option ℕ) (at : ℕ) (u : Batch) (us : List Batch) (bytes : List ℕ) → IsIn (at, bytes) (places signature at (u ∷ us)) → bytes ≡ spell_record signature u
same_bytes signature at u us bytes (inl e) = ap (λ (y : Span). y.1) e
same_bytes signature at u us bytes (inr there) = absurd (omega (arith, places_from signature (at + length (spell_record signature u)) us (at, bytes) there, spelled_long signature u))

same_read : (signature : Option ℕ) (u : Batch) (tail : List ℕ) (read : Read) → IfSome signature (λ s. s < 2 ^ 32) → AreBytes tail → AreItems u → record_at signature tail ≡ Ok read → take read.2 tail ≡ spell_record signature u
    → read ≡ (placed 0 u, block_of u, record_len u)
same_read signature u tail read s fits are is spelled =
    one read (placed 0 u, block_of u, record_len u) (sym is ∙ record_again signature u (drop read.2 tail) tail s fits are (sym (take-append-drop read.2 tail) ∙ ap (λ (l : List ℕ). l ++ drop read.2 tail) spelled))
  where
    one : (x y : Read) → (let r : Result Read RecordFault = Ok x in r ≡ Ok y) → x ≡ y
    one x y e = cc

abbrev Front : Option ℕ → ℕ → List Batch → List ℕ → Type 0
Front signature at us tail = (k : ℕ) × (contents (read_from 0 signature at tail).batches ≡ take k us)

one_more : (signature : Option ℕ) (at n : ℕ) (u : Batch) (us : List Batch) (tail : List ℕ) (read : Read) → record_at signature tail ≡ Ok read → read ≡ (placed 0 u, block_of u, record_len u) → n ≡ read.2 → Front signature (at + n) us (drop n tail)
    → Front signature at (u ∷ us) tail
one_more signature at n u us tail read is same len (k, rest) = (
  suc k,
  ap (λ (r : Reading). contents r.batches) (from_found 0 signature at tail read is)
      ∙ (λ i. (ap (λ (x : Read). with_items x) same ∙ placed_bytes u) i ∷ (ap (λ m. contents (read_from 0 signature (at + m) (drop m tail)).batches) (sym len) ∙ rest) i),
)
  where
    with_items : Read → Batch
    with_items x = with_bytes x.1 x.0

-- what follows of a walk that finds a record
pub walked : (f : FileState) (signature : Option ℕ) (j at : ℕ) (tail : List ℕ) (read : Read) → record_at signature tail ≡ Ok read → length tail ≤ j → AreWritten f 0 signature j at tail
    → IsWritten f at (take read.2 tail) × ((i : ℕ) × (length (drop read.2 tail) ≤ i) × AreWritten f 0 signature i (at + read.2) (drop read.2 tail))
walked f signature zero at tail read is short walk = let sized = record_sized signature tail read is in absurd (omega (arith, sized.least, sized.within, short))
walked f signature (suc i) at tail read is short walk =
    let sized = record_sized signature tail read is in
    let read_so : LengthIs (record_at signature tail) (Some read.2) = subst (λ r. LengthIs r (Some read.2)) (sym is) refl in
    let on = (step f 0 signature i at read.2 tail read_so).on walk in
    (on.0, (i, omega (arith, length-drop read.2 tail, sized.least, short), on.1))

abbrev FrontsOf : FileState → Option ℕ → List Batch → Type 0
FrontsOf f signature us = (older : List Span) (j at : ℕ) (tail : List ℕ) → AreBytes tail → f.later ≡ older ++ places signature at us → IsClear f signature older at → AreWritten f 0 signature j at tail → length tail ≤ j → Front signature at us tail

front_none : (f : FileState) (signature : Option ℕ) → FrontsOf f signature []
front_none f signature older j at tail fits later clear walk short = by_result (record_at signature tail) refl
  where
    by_result : (r : Result Read RecordFault) → record_at signature tail ≡ r → Front signature at [] tail
    by_result (Err e) is = (0, none_read signature at tail e is)
    by_result (Ok read) is =
        let w = walked f signature j at tail read is short walk in
        absurd (written_here f signature older at [] (take read.2 tail) later clear (record_here signature tail read is) w.0)

front_more : (f : FileState) (signature : Option ℕ) (u : Batch) (us : List Batch) → IfSome signature (λ s. s < 2 ^ 32) → AreItems u → FrontsOf f signature us → FrontsOf f signature (u ∷ us)
front_more f signature u us s are next older j at tail fits later clear walk short = by_result (record_at signature tail) refl
  where
    by_result : (r : Result Read RecordFault) → record_at signature tail ≡ r → Front signature at (u ∷ us) tail
    by_result (Err e) is = (0, none_read signature at tail e is)
    by_result (Ok read) is =
        let n : ℕ = read.2 in
        let spell : List ℕ = spell_record signature u in
        let w = walked f signature j at tail read is short walk in
        let here = written_here f signature older at (u ∷ us) (take n tail) later clear (record_here signature tail read is) w.0 in
        let same : read ≡ (placed 0 u, block_of u, record_len u) = same_read signature u tail read s fits are is (same_bytes signature at u us (take n tail) here) in
        let len : n ≡ length spell = ap (λ (x : Read). x.2) same ∙ sym (length-spelled signature u) in
        let long = spelled_long signature u in
        let behind : f.later ≡ (older ++ (at, spell) ∷ []) ++ places signature (at + n) us
        = later ∙ sym (append_assoc older ((at, spell) ∷ []) (places signature (at + length spell) us)) ∙ ap (λ m. (older ++ (at, spell) ∷ []) ++ places signature (at + m) us) (sym len) in
        let past : IsClear f signature (older ++ (at, spell) ∷ []) (at + n) = record {
          before = before_push at (at + n) older (at, spell) clear.before (omega arith) (omega (arith, len, long));
          earlier = λ m bytes after some there stands. clear.earlier m bytes (omega (arith, after)) some there stands;
        } in
        one_more signature at n u us tail read is same refl (next (older ++ (at, spell) ∷ []) w.1.0 (at + n) (drop n tail) (AreBytes-drop n tail fits) behind past w.1.2 w.1.1)

front_of : (f : FileState) (signature : Option ℕ) (us : List Batch) → IfSome signature (λ s. s < 2 ^ 32) → AreBatches us → FrontsOf f signature us
front_of f signature [] s are = front_none f signature
front_of f signature (u ∷ us) s are = front_more f signature u us s are.0 (front_of f signature us s are.1)

-- ---- the walk over the synced batches

past : (f : FileState) (signature : Option ℕ) (ks : List Batch) (j at : ℕ) (rest : List ℕ) → IfSome signature (λ s. s < 2 ^ 32) → AreBatches ks → AreBytes (spelled_batches signature ks ++ rest)
    → AreWritten f 0 signature j at (spelled_batches signature ks ++ rest) → length (spelled_batches signature ks ++ rest) ≤ j
    → (i : ℕ) × (length rest ≤ i) × AreWritten f 0 signature i (at + length (spelled_batches signature ks)) rest
past f signature [] j at rest s are fits walk short = (j, short, subst (λ n. AreWritten f 0 signature j n rest) (sym (add-zero at)) walk)
past f signature (k ∷ ks) j at rest s are fits walk short =
    let spell : List ℕ = spell_record signature k in
    let more : List ℕ = spelled_batches signature ks ++ rest in
    let grouped : (spell ++ spelled_batches signature ks) ++ rest ≡ spell ++ more = append_assoc spell (spelled_batches signature ks) rest in
    let whole_fits : AreBytes (spell ++ more) = subst AreBytes grouped fits in
    let is = record_again signature k more (spell ++ more) s whole_fits are.0 refl in
    let w = walked f signature j at (spell ++ more) (placed 0 k, block_of k, record_len k) is (omega (arith, ap length grouped, short)) (subst (λ (l : List ℕ). AreWritten f 0 signature j at l) grouped walk) in
    let rest_is : drop (record_len k) (spell ++ more) ≡ more = drop_at spell more (record_len k) (length-spelled signature k) in
    let inner = past f signature ks w.1.0 (at + record_len k) rest s are.1 (back_bytes spell more whole_fits)
    (subst (λ (l : List ℕ). AreWritten f 0 signature w.1.0 (at + record_len k) l) rest_is w.1.2) (omega (arith, ap length rest_is, w.1.1)) in
    let place : at + record_len k + length (spelled_batches signature ks) ≡ at + length (spell ++ spelled_batches signature ks)
    = omega (arith, length-append spell (spelled_batches signature ks), length-spelled signature k) in
    (inner.0, inner.1, subst (λ n. AreWritten f 0 signature inner.0 n rest) place inner.2)

-- ---- images

pub image_front : (f : FileState) (text bytes : List ℕ) → take (length text) f.kept ≡ text → length text ≤ f.least → ((i : ℕ) → i < length text → IsOutside i f.changed) → IsFileImage f bytes → bytes ≡ text ++ drop (length text) bytes
image_front f text bytes kept least outside image =
    let at : ℕ = length text in
    let low = image.no_shorter in
    let front : take at bytes ≡ text = ext_get_or 0 (take at bytes) text (omega (arith, length-take at bytes, low, least)) (λ i lt.
    let below : i < at = omega (arith, length-take at bytes, lt) in
    get_or-take at bytes i 0 below ∙ image.same i (omega (arith, below, low, least)) (outside i below) ∙ sym (get_or-take at f.kept i 0 below) ∙ ap (λ (l : List ℕ). get_or l i 0) kept) in
    sym (take-append-drop at bytes) ∙ ap (λ (l : List ℕ). l ++ drop at bytes) front

pub each_byte : (bytes : List ℕ) → AllByRecursion (λ b. b < 256) bytes → AreBytes bytes
each_byte [] fits i = omega arith
each_byte (b ∷ bytes) fits zero = fits.0
each_byte (b ∷ bytes) fits (suc i) = each_byte bytes fits.1 i

pub told_of : {X E : Type 0} (r : Result X E) (x : X) (P : X → Type 0) (Q : E → Type 0) → r ≡ Ok x → MatchResult r P Q → P x
told_of (Ok y) x P Q is h = let same : y ≡ x = cc in subst P same h
told_of (Err e) x P Q is h = absurd cc

read_so : {X E : Type 0} (r : Result X E) (P Q : X → Type 0) → ((x : X) → P x → Q x) → MatchResult r P (λ _. ⊥) → MatchResult r Q (λ _. ⊥)
read_so (Ok x) P Q h m = h x m
read_so (Err e) P Q h m = m

pub unsynced_batches_are_a_front : UnsyncedBatchesAreAFront
unsynced_batches_are_a_front id format ks us f bytes u image genuine =
    let signature : Option ℕ = signature_of format.version id.seq in
    let s = signature_fits format.version id.seq in
    let header : List ℕ = spelled_header format in
    let text : List ℕ = file_text id format ks in
    let tail : List ℕ = drop (length text) bytes in
    let behind : List ℕ = spelled_batches signature ks ++ tail in
    let whole : bytes ≡ text ++ tail = image_front f text bytes u.kept u.least u.outside image in
    let grouped : bytes ≡ header ++ behind = whole ∙ append_assoc header (spelled_batches signature ks) tail in
    let fits : AreBytes bytes = each_byte bytes image.fits in
    let told : header_at bytes ≡ Ok format = ap header_at grouped ∙ header_read format behind u.spellable in
    let rest : drop (header_len format.version) bytes ≡ behind = ap (drop (header_len format.version)) grouped ∙ drop_at header behind (header_len format.version) (length-header format) in
    let shown = told_of (header_at bytes) format
    (λ h. IsHeaderWritten f (take (header_len h.version) bytes) × AreWritten f h.alignment (signature_of h.version id.seq) (length bytes) (header_len h.version) (drop (header_len h.version) bytes))
    (λ _. Unit {0}) told genuine in
    let walk : AreWritten f 0 signature (length bytes) (header_len format.version) behind
    = subst (λ a. AreWritten f a signature (length bytes) (header_len format.version) behind) u.plain (subst (λ (l : List ℕ). AreWritten f format.alignment signature (length bytes) (header_len format.version) l) rest shown.1) in
    let behind_fits : AreBytes behind = back_bytes header behind (subst AreBytes grouped fits) in
    let p = past f signature ks (length bytes) (header_len format.version) tail s u.synced behind_fits walk (omega (arith, ap length rest, length-drop (header_len format.version) bytes)) in
    let place : header_len format.version + length (spelled_batches signature ks) ≡ length text = omega (arith, length-append header (spelled_batches signature ks), length-header format) in
    let front = front_of f signature us s u.others u.older p.0 (length text) tail (back_bytes (spelled_batches signature ks) tail behind_fits) u.later (record { before = u.before; earlier = u.earlier })
    (subst (λ n. AreWritten f 0 signature p.0 n tail) place p.2) p.1 in (
      front.0,
      subst (ReadsAs id (ks ++ take front.0 us)) (sym whole)
          (read_so (file_reading id (text ++ tail)) (ReadsFront ks (read_from format.alignment signature (length text) tail)) (λ r. contents r.batches ≡ ks ++ take front.0 us)
          (λ r reads. reads.contents_are ∙ ap (λ a. ks ++ contents (read_from a signature (length text) tail).batches) u.plain ∙ ap (λ (l : List Batch). ks ++ l) front.1)
          (written_batches_are_read id format ks tail u.spellable u.synced (subst AreBytes whole fits))),
    )

-- ---- how such a file comes about

places_push : (signature : Option ℕ) (at : ℕ) (us : List Batch) (p : Batch) → places signature at (us ++ p ∷ []) ≡ places signature at us ++ (at + length (spelled_batches signature us), spell_record signature p) ∷ []
places_push signature at [] p = ap (λ n. (n, spell_record signature p) ∷ []) (sym (add-zero at))
places_push signature at (u ∷ us) p =
    ap (λ (l : List Span). (at, spell_record signature u) ∷ l) (places_push signature (at + length (spell_record signature u)) us p
    ∙ ap (λ n. places signature (at + length (spell_record signature u)) us ++ (n, spell_record signature p) ∷ []) (omega (arith, length-append (spell_record signature u) (spelled_batches signature us))))

pub batches_push : (us : List Batch) (p : Batch) → AreBatches us → AreItems p → AreBatches (us ++ p ∷ [])
batches_push [] p all are = (are, tt)
batches_push (u ∷ us) p all are = (all.0, batches_push us p all.1 are)

pub outside_push : (i : ℕ) (ranges : List (ℕ × ℕ)) (r : ℕ × ℕ) → IsOutside i ranges → (i < r.0) ⊎ (r.1 ≤ i) → IsOutside i (ranges ++ r ∷ [])
outside_push i [] r out beside = (beside, tt)
outside_push i (x ∷ ranges) r out beside = (out.0, outside_push i ranges r out.1 beside)

pub text_length : (id : FileId) (format : LogFileFormat) (ks us : List Batch) → length (file_text id format (ks ++ us)) ≡ length (file_text id format ks) + length (spelled_batches (signature_of format.version id.seq) us)
text_length id format ks us =
    let signature : Option ℕ = signature_of format.version id.seq in
    omega (
      arith,
      ap length (flat_map-append (spell_record signature) ks us),
      length-append (spelled_batches signature ks) (spelled_batches signature us),
      length-append (spelled_header format) (spelled_batches signature (ks ++ us)),
      length-append (spelled_header format) (spelled_batches signature ks),
    )

pub unsynced_batches_grow : UnsyncedBatchesGrow
unsynced_batches_grow id format ks us p f at seen u are end =
    let signature : Option ℕ = signature_of format.version id.seq in
    let n : ℕ = length (file_text id format ks) in
    let place : at ≡ n + length (spelled_batches signature us) = end ∙ text_length id format ks us in
    record {
      spellable = u.spellable;
      plain = u.plain;
      synced = u.synced;
      others = batches_push us p u.others are;
      kept = u.kept;
      least = u.least;
      outside = λ i lt. outside_push i f.changed (at, at + length (spell_record signature p)) (u.outside i lt) (inl (omega (arith, place, lt)));
      older = u.older;
      later = (λ i. u.later i ++ (place i, spell_record signature p) ∷ []) ∙ append_assoc u.older (places signature n us) _ ∙ ap (λ (l : List Span). u.older ++ l) (sym (places_push signature n us p));
      before = u.before;
      earlier = u.earlier;
    }

pub room_stays_unread : RoomStaysUnread
room_stays_unread id format ks us f at len seen u behind = record {
  spellable = u.spellable;
  plain = u.plain;
  synced = u.synced;
  others = u.others;
  kept = u.kept;
  least = u.least;
  outside = λ i lt. outside_push i f.changed (at, at + len) (u.outside i lt) (inl (omega (arith, behind, lt)));
  older = u.older;
  later = u.later;
  before = u.before;
  earlier = u.earlier;
}

pub synced_batches_begin : SyncedBatchesBegin
synced_batches_begin id format ks f spellable plain are is = record {
  spellable = spellable;
  plain = plain;
  synced = are;
  others = tt;
  kept = ap (take (length (file_text id format ks))) is ∙ take_all (length (file_text id format ks)) (file_text id format ks) (omega arith);
  least = omega (arith, ap length is);
  outside = λ i lt. tt;
  older = [];
  later = refl;
  before = tt;
  earlier = λ at bytes past some there stands.
      absurd (omega (arith, ap length stands, length-take (length bytes) (drop at f.bytes), length-drop at f.bytes, ap length is, past, record_some (signature_of format.version id.seq) bytes some));
}

pub header_some : (v : Version) → 0 < header_len v
header_some V1 = omega arith
header_some V2 = omega arith

pub recycled_files_begin : RecycledFilesBegin
recycled_files_begin id format f spellable plain =
    let header : List ℕ = spelled_header format in
    let rest : List ℕ = drop (0 + length header) f.bytes in
    let text : header ++ [] ≡ header = append-nil header in
    record {
      spellable = spellable;
      plain = plain;
      synced = tt;
      others = tt;
      kept = ap (λ (l : List ℕ). take (length l) (header ++ rest)) text ∙ take_at header rest (length header) refl ∙ sym text;
      least = omega (arith, ap length text, length-append header rest);
      outside = λ i lt. tt;
      older = [];
      later = refl;
      before = tt;
      earlier = λ at bytes past some there stands. elim there [
        | inl e ↦ absurd (omega (arith, ap (λ (y : Span). y.0) e, past, ap length text, length-header format, header_some format.version))
        | inr none ↦ absurd none
      ];
    }
