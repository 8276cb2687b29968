-- What the calls of a writer make of a file of a pipe.
use Rattle.std.proofs.Common.{◌≡◌, ◌⊎◌, inl, inr, ⊎_elim, ℕ, ◌+◌, ◌-◌, ◌<◌, ◌≤◌, min, max, List, [], ◌∷◌, ◌++◌, length, take, drop, Option, refl, sym, ap, subst, ◌∙◌, arith, append_assoc, length-append, length-take}
use Rattle.std.specs.Prelude.{replicate}
use Rattle.std.specs.List.{flat_map}
use Rattle.std.proofs.lemmas.Bool.{cases_lt}
use Rattle.std.proofs.lemmas.List.{append-nil, take_all, take_at, take-take, take-append-le, take-replicate, length-take-le, drop_all, drop-replicate, length-replicate, replicate-append-replicate}
use Rattle.std.proofs.Math.Seq.{take-append-add, take-append_seam, drop-append-add}
use Rattle.std.proofs.lemmas.List.Concat.{flat_map-append}
use Rattle.raft_log_records.specs.declared.file_id.FileId.{FileId}
use Rattle.raft_log_records.specs.Signature.{signature_of}
use Rattle.raft_log_records.specs.Spelling.{AreItems, spell_record}
use Rattle.raft_log_disk.specs.declared.format.LogFileFormat.{LogFileFormat}
use Rattle.raft_log_disk.specs.Disk.{FileState, IsIn, after_allocate, after_sync, after_truncate, after_write, filled, put, resized}
use Rattle.raft_log_disk.specs.Chance.{Stands}
use Rattle.raft_log_disk.specs.Format.{IsSpellable, spelled_header}
use Rattle.raft_log_file.specs.Laws.{Batch, AreBatches, file_text, spelled_batches}
use Rattle.raft_log_file.specs.Unsynced.{IsRecord, IsUnsynced}
use Rattle.raft_log_file.proofs.UnsyncedLemmas.{AllBefore, before_push, outside_push, room_stays_unread, header_some, spelled_long, synced_batches_begin, text_length, unsynced_batches_grow, zeros_no_record}
use Rattle.raft_log_file.proofs.HeaderLemmas.{length-header}
use Rattle.raft_log_pipe.specs.Stored.{HasZerosBehind, IsStored, IsUnwritten}

-- ---- texts

before_more : (n m : ℕ) (spans : List (ℕ × List ℕ)) → AllBefore n spans → n ≤ m → AllBefore m spans
before_more n m [] all le = tt
before_more n m (s ∷ spans) all le = (omega (arith, all.0, le), before_more n m spans all.1 le)

before_both : (n : ℕ) (xs ys : List (ℕ × List ℕ)) → AllBefore n xs → AllBefore n ys → AllBefore n (xs ++ ys)
before_both n [] ys xb yb = yb
before_both n (x ∷ xs) ys xb yb = (xb.0, before_both n xs ys xb.1 yb)

in_before : (n : ℕ) (spans : List (ℕ × List ℕ)) (x : ℕ × List ℕ) → AllBefore n spans → IsIn x spans → x.0 < n
in_before n [] x all there = absurd there
in_before n (s ∷ spans) x all (inl e) = omega (arith, all.0, ap (λ (y : ℕ × List ℕ). y.0) e)
in_before n (s ∷ spans) x all (inr there) = in_before n spans x all.1 there

-- the file of one batch more is longer by its record
text_push : (id : FileId) (format : LogFileFormat) (ks us : List Batch) (p : Batch) → file_text id format (ks ++ (us ++ p ∷ [])) ≡ file_text id format (ks ++ us) ++ spell_record (signature_of format.version id.seq) p
text_push id format ks us p =
    let spell = spell_record (signature_of format.version id.seq) in
    ap (λ (l : List Batch). file_text id format l) (sym (append_assoc ks us (p ∷ [])))
    ∙ ap (λ (l : List ℕ). spelled_header format ++ l) (flat_map-append spell (ks ++ us) (p ∷ []) ∙ ap (λ (l : List ℕ). flat_map spell (ks ++ us) ++ l) (append-nil (spell p)))
    ∙ sym (append_assoc (spelled_header format) (spelled_batches (signature_of format.version id.seq) (ks ++ us)) (spell p))

-- the front that a file's text is reaches no further than the file
within : (offset : ℕ) (bytes text : List ℕ) → offset ≡ length text → take offset bytes ≡ text → offset ≤ length bytes
within offset bytes text place front = omega (arith, place, ap length front, length-take offset bytes)

pub stored_within : (id : FileId) (format : LogFileFormat) (ks us : List Batch) (offset : ℕ) (f : FileState) → IsStored id format ks us offset f → offset ≤ length f.bytes
stored_within id format ks us offset f s = within offset f.bytes (file_text id format (ks ++ us)) s.place s.front

synced_within : (id : FileId) (format : LogFileFormat) (ks us : List Batch) (offset : ℕ) → offset ≡ length (file_text id format (ks ++ us)) → length (file_text id format ks) ≤ offset
synced_within id format ks us offset place = omega (arith, place, text_length id format ks us)

-- ---- zeros

abbrev zeros : ℕ → List ℕ
zeros n = replicate n 0

length-zeros : (n : ℕ) → length (zeros n) ≡ n
length-zeros n = length-replicate n 0

-- they begin no record
stands_zeros : (text : List ℕ) (n at : ℕ) (bytes : List ℕ) → length text ≤ at → Stands (text ++ zeros n) at bytes → bytes ≡ zeros (length bytes)
stands_zeros text n at bytes past stands =
    let k : ℕ = at - length text in
    let behind : drop at (text ++ zeros n) ≡ zeros (n - k) = ap (λ m. drop m (text ++ zeros n)) (omega (arith, past)) ∙ drop-append-add text (zeros n) k ∙ drop-replicate k n 0 in
    let front : take (length bytes) (zeros (n - k)) ≡ bytes = ap (take (length bytes)) (sym behind) ∙ stands in
    sym front ∙ take-replicate (length bytes) (n - k) 0 (omega (arith, ap length front, length-take (length bytes) (zeros (n - k)), length-zeros (n - k)))

pub no_record_stands : (signature : Option ℕ) (text : List ℕ) (n at : ℕ) (bytes : List ℕ) → length text ≤ at → Stands (text ++ zeros n) at bytes → IsRecord signature bytes → ⊥
no_record_stands signature text n at bytes past stands r = zeros_no_record signature (length bytes) (subst (IsRecord signature) (stands_zeros text n at bytes past stands) r)

zeros_filled : (text bytes : List ℕ) (m : ℕ) → HasZerosBehind text bytes → HasZerosBehind text (filled bytes m)
zeros_filled text bytes m (n, is) =
    let more : ℕ = m - length bytes in
    (n + more, ap (λ (l : List ℕ). l ++ zeros more) is ∙ append_assoc text (zeros n) (zeros more) ∙ ap (λ (l : List ℕ). text ++ l) (replicate-append-replicate n more 0))

zeros_taken : (text : List ℕ) (n m : ℕ) → length text ≤ m → HasZerosBehind text (take m (text ++ zeros n))
zeros_taken text n m long =
    let k : ℕ = m - length text in
    (min k n, ap (λ i. take i (text ++ zeros n)) (omega (arith, long)) ∙ take-append-add text (zeros n) k ∙ ap (λ (l : List ℕ). text ++ l) (shorter k n))
  where
    by_order : (k n : ℕ) → (k < n) ⊎ (n ≤ k) → take k (zeros n) ≡ zeros (min k n)
    by_order k n (inl lt) = take-replicate k n 0 (omega (arith, lt)) ∙ ap zeros (omega (arith, lt))
    by_order k n (inr le) = take_all k (zeros n) (omega (arith, length-zeros n, le)) ∙ ap zeros (omega (arith, le))

    shorter : (k n : ℕ) → take k (zeros n) ≡ zeros (min k n)
    shorter k n = by_order k n (cases_lt k n)

zeros_resized : (text bytes : List ℕ) (m : ℕ) → length text ≤ m → HasZerosBehind text bytes → HasZerosBehind text (resized bytes m)
zeros_resized text bytes m long (n, is) =
    subst (HasZerosBehind text) (ap (λ (l : List ℕ). take m l ++ zeros (m - length bytes)) (sym is))
    (more (take m (text ++ zeros n)) (zeros_taken text n m long))
  where
    more : (l : List ℕ) → HasZerosBehind text l → HasZerosBehind text (l ++ zeros (m - length bytes))
    more l (k, same) = (
      k + (m - length bytes),
      ap (λ (x : List ℕ). x ++ zeros (m - length bytes)) same ∙ append_assoc text (zeros k) (zeros (m - length bytes))
          ∙ ap (λ (x : List ℕ). text ++ x) (replicate-append-replicate k (m - length bytes) 0),
    )

zeros_put : (text bytes more : List ℕ) (at : ℕ) → at ≡ length text → HasZerosBehind text bytes → HasZerosBehind (text ++ more) (put bytes at more)
zeros_put text bytes more at place (n, is) =
    let k : ℕ = length more in
    let front : take at bytes ≡ text = (λ i. take (place i) (is i)) ∙ take-append_seam text (zeros n) in
    let behind : drop (at + k) bytes ≡ zeros (n - k) = (λ i. drop (place i + k) (is i)) ∙ drop-append-add text (zeros n) k ∙ drop-replicate k n 0 in
    (n - k, (λ i. front i ++ more ++ behind i))

-- ---- room and cuts

abbrev IsFree : ℕ → List ℕ → FileState → Type 0
IsFree offset text f = IsUnwritten offset f ⊎ HasZerosBehind text f.bytes

-- what no call wrote stays so where none writes
free_on : (offset : ℕ) (text : List ℕ) (f g : FileState) → g.earlier ≡ f.earlier → g.later ≡ f.later → (HasZerosBehind text f.bytes → HasZerosBehind text g.bytes) → IsFree offset text f → IsFree offset text g
free_on offset text f g older later zeros (inl u) = inl (record { earlier = subst (AllBefore offset) (sym older) u.earlier; later = subst (AllBefore offset) (sym later) u.later })
free_on offset text f g older later zeros (inr z) = inr (zeros z)

front_filled : (offset n : ℕ) (bytes : List ℕ) → offset ≤ length bytes → take offset (filled bytes n) ≡ take offset bytes
front_filled offset n bytes le = take-append-le offset bytes (replicate (n - length bytes) 0) le

-- room that was made, wholly or some of the way
pub stored_room : (id : FileId) (format : LogFileFormat) (ks us : List Batch) (offset : ℕ) (f : FileState) (at len m : ℕ) (seen : List ℕ) → IsStored id format ks us offset f → offset ≤ at → seen ≡ filled f.bytes m
    → IsStored id format ks us offset (after_allocate f at len seen)
stored_room id format ks us offset f at len m seen s le is =
    let text : List ℕ = file_text id format (ks ++ us) in
    record {
      unsynced = room_stays_unread id format ks us f at len seen s.unsynced (omega (arith, synced_within id format ks us offset s.place, le));
      place = s.place;
      front = ap (take offset) is ∙ front_filled offset m f.bytes (stored_within id format ks us offset f s) ∙ s.front;
      behind = free_on offset text f (after_allocate f at len seen) refl refl (λ zeros. subst (HasZerosBehind text) (sym is) (zeros_filled text f.bytes m zeros)) s.behind;
    }

front_resized : (offset n : ℕ) (bytes : List ℕ) → offset ≤ length bytes → offset ≤ n → take offset (resized bytes n) ≡ take offset bytes
front_resized offset n bytes le short =
    take-append-le offset (take n bytes) (replicate (n - length bytes) 0) (omega (arith, length-take n bytes, le, short)) ∙ take-take offset n bytes short

-- a cut behind the batches changes nothing of them
pub unsynced_cut : (id : FileId) (format : LogFileFormat) (ks us : List Batch) (f : FileState) (len : ℕ) (seen : List ℕ) → IsUnsynced id format ks us f → length (file_text id format ks) ≤ len → length (file_text id format ks) ≤ length f.bytes
    → IsUnsynced id format ks us (after_truncate f len seen)
unsynced_cut id format ks us f len seen u behind long = record {
  spellable = u.spellable;
  plain = u.plain;
  synced = u.synced;
  others = u.others;
  kept = u.kept;
  least = omega (arith, u.least, behind);
  outside = λ i lt. outside_push i f.changed (min len (length f.bytes), max len (length f.bytes)) (u.outside i lt) (inl (omega (arith, behind, long, lt)));
  older = u.older;
  later = u.later;
  before = u.before;
  earlier = u.earlier;
}

-- so does one that came some of the way
pub stored_cut : (id : FileId) (format : LogFileFormat) (ks us : List Batch) (offset m : ℕ) (f : FileState) (seen : List ℕ) → IsStored id format ks us offset f → offset ≤ m → seen ≡ resized f.bytes m
    → IsStored id format ks us offset (after_truncate f offset seen)
stored_cut id format ks us offset m f seen s le is =
    let text : List ℕ = file_text id format (ks ++ us) in
    record {
      unsynced = unsynced_cut id format ks us f offset seen s.unsynced (synced_within id format ks us offset s.place)
          (omega (arith, synced_within id format ks us offset s.place, stored_within id format ks us offset f s));
      place = s.place;
      front = ap (take offset) is ∙ front_resized offset m f.bytes (stored_within id format ks us offset f s) le ∙ s.front;
      behind = free_on offset text f (after_truncate f offset seen) refl refl (λ zeros. subst (HasZerosBehind text) (sym is) (zeros_resized text f.bytes m (omega (arith, s.place, le)) zeros)) s.behind;
    }

-- ---- writes

front_put : (at : ℕ) (bytes text : List ℕ) → at ≤ length bytes → take (at + length text) (put bytes at text) ≡ take at bytes ++ text
front_put at bytes text le =
    take_at (take at bytes ++ text) (drop (at + length text) bytes) (at + length text) (omega (arith, length-append (take at bytes) text, length-take-le at bytes le))

-- one more record
pub stored_more : (id : FileId) (format : LogFileFormat) (ks us : List Batch) (p : Batch) (offset : ℕ) (f : FileState) → IsStored id format ks us offset f → AreItems p
    → (let text = spell_record (signature_of format.version id.seq) p in
    IsStored id format ks (us ++ p ∷ []) (offset + length text) (after_write f offset text (put f.bytes offset text)))
stored_more id format ks us p offset f s are =
    let text = spell_record (signature_of format.version id.seq) p in
    let le = stored_within id format ks us offset f s in
    let long = spelled_long (signature_of format.version id.seq) p in
    record {
      unsynced = unsynced_batches_grow id format ks us p f offset (put f.bytes offset text) s.unsynced are s.place;
      place = omega (arith, s.place, ap length (text_push id format ks us p), length-append (file_text id format (ks ++ us)) text);
      front = front_put offset f.bytes text le ∙ ap (λ (l : List ℕ). l ++ text) s.front ∙ sym (text_push id format ks us p);
      behind = ⊎_elim
          (λ u. inl (record {
            earlier = before_more offset (offset + length text) f.earlier u.earlier (omega arith);
            later = before_push offset (offset + length text) f.later (offset, text) u.later (omega arith) (omega (arith, long));
          }))
          (λ zeros. inr (subst (λ (l : List ℕ). HasZerosBehind l (put f.bytes offset text)) (sym (text_push id format ks us p)) (zeros_put (file_text id format (ks ++ us)) f.bytes text offset s.place zeros)))
          s.behind;
    }

-- ---- syncs

-- no record that was written behind the text stands there
unkept : (signature : Option ℕ) (offset : ℕ) (text : List ℕ) (f : FileState) (s : ℕ × List ℕ) → offset ≡ length text → IsFree offset text f → length text ≤ s.0 → IsRecord signature s.1 → IsIn s (f.earlier ++ f.later)
    → Stands f.bytes s.0 s.1 → ⊥
unkept signature offset text f s place (inl u) past is there stands =
    absurd (omega (arith, in_before offset (f.earlier ++ f.later) s (before_both offset f.earlier f.later u.earlier u.later) there, past, place))
unkept signature offset text f s place (inr (n, same)) past is there stands = no_record_stands signature text n s.0 s.1 past (subst (λ (l : List ℕ). Stands l s.0 s.1) same stands) is

-- all that was written is on the disk
pub stored_synced : (id : FileId) (format : LogFileFormat) (ks us : List Batch) (offset : ℕ) (f : FileState) → IsStored id format ks us offset f → IsStored id format (ks ++ us) [] offset (after_sync f)
stored_synced id format ks us offset f s =
    let text : List ℕ = file_text id format (ks ++ us) in
    let nil : file_text id format ((ks ++ us) ++ []) ≡ text = ap (λ (l : List Batch). file_text id format l) (append-nil (ks ++ us)) in
    record {
      unsynced = record {
        spellable = s.unsynced.spellable;
        plain = s.unsynced.plain;
        synced = both ks us s.unsynced.synced s.unsynced.others;
        others = tt;
        kept = ap (λ n. take n f.bytes) (sym s.place) ∙ s.front;
        least = omega (arith, s.place, stored_within id format ks us offset f s);
        outside = λ i lt. tt;
        older = [];
        later = refl;
        before = tt;
        earlier = λ at bytes past is there stands. unkept (signature_of format.version id.seq) offset text f (at, bytes) s.place s.behind past is there stands;
      };
      place = s.place ∙ ap length (sym nil);
      front = s.front ∙ sym nil;
      behind = ⊎_elim (λ u. inl (record { earlier = before_both offset f.earlier f.later u.earlier u.later; later = tt })) (λ zeros. inr (subst (λ (l : List ℕ). HasZerosBehind l f.bytes) (sym nil) zeros)) s.behind;
    }
  where
    both : (xs ys : List Batch) → AreBatches xs → AreBatches ys → AreBatches (xs ++ ys)
    both [] ys xa ya = ya
    both (x ∷ xs) ys xa ya = (xa.0, both xs ys xa.1 ya)

-- a file that has its batches and nothing else, and was synced
pub stored_whole : (id : FileId) (format : LogFileFormat) (ks : List Batch) (f : FileState) → IsSpellable format → format.alignment ≡ 0 → AreBatches ks → f.bytes ≡ file_text id format ks
    → IsStored id format ks [] (length f.bytes) (after_sync f)
stored_whole id format ks f spellable plain are is =
    let nil : f.bytes ≡ file_text id format (ks ++ []) = is ∙ ap (λ (l : List Batch). file_text id format l) (sym (append-nil ks)) in
    record {
      unsynced = synced_batches_begin id format ks f spellable plain are is;
      place = ap length nil;
      front = take_all (length f.bytes) f.bytes (omega arith) ∙ nil;
      behind = inr (0, nil ∙ sym (append-nil (file_text id format (ks ++ []))));
    }

-- the spans of a file that begins: none of before, or the file has no more than its header
abbrev pub IsNew : List ℕ → FileState → Type 0
IsNew header f = ((f.earlier ≡ []) × (f.later ≡ [])) ⊎ (length f.bytes ≤ length header)

-- a file whose header was written and synced has no batches, if it was new or got its name just before
pub stored_begun : (id : FileId) (format : LogFileFormat) (f : FileState) (header : List ℕ) → IsSpellable format → format.alignment ≡ 0 → header ≡ spelled_header format → IsNew header f
    → IsStored id format [] [] (length header) (after_sync (after_write f 0 header (put f.bytes 0 header)))
stored_begun id format f header spellable plain is (inr short) =
    let alone : put f.bytes 0 header ≡ header = ap (λ (l : List ℕ). header ++ l) (drop_all (0 + length header) f.bytes (omega (arith, short))) ∙ append-nil header in
    let text : put f.bytes 0 header ≡ file_text id format [] = alone ∙ is ∙ sym (append-nil (spelled_header format)) in
    subst (λ n. IsStored id format [] [] n (after_sync (after_write f 0 header (put f.bytes 0 header)))) (ap length alone)
    (stored_whole id format [] (after_write f 0 header (put f.bytes 0 header)) spellable plain tt text)
stored_begun id format f header spellable plain is (inl (none, older)) =
    let text : List ℕ = file_text id format [] in
    let rest : List ℕ = drop (0 + length header) f.bytes in
    let same : text ≡ header = append-nil (spelled_header format) ∙ sym is in
    let some : 0 < length header = omega (arith, ap length is, length-header format, header_some format.version) in
    let one : AllBefore (length header) (f.earlier ++ (f.later ++ (0, header) ∷ [])) = subst (λ (l : List (ℕ × List ℕ)). AllBefore (length header) l) (λ i. sym none i ++ (sym older i ++ (0, header) ∷ [])) (some, tt) in
    let front : take (length header) (header ++ rest) ≡ text = take_at header rest (length header) refl ∙ sym same in
    record {
      unsynced = record {
        spellable = spellable;
        plain = plain;
        synced = tt;
        others = tt;
        kept = ap (λ n. take n (header ++ rest)) (ap length same) ∙ front;
        least = omega (arith, ap length same, length-append header rest);
        outside = λ i lt. tt;
        older = [];
        later = refl;
        before = tt;
        earlier = λ at bytes past r there stands. absurd (omega (arith, in_before (length header) (f.earlier ++ (f.later ++ (0, header) ∷ [])) (at, bytes) one there, past, ap length same));
      };
      place = ap length (sym same);
      front = front;
      behind = inl (record { earlier = one; later = tt });
    }
