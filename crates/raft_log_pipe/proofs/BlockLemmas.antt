-- Where the records of a pipe's batches stand, and what is read there.
use Rattle.std.proofs.Common.{◌≡◌, ◌≢◌, ◌⊎◌, inl, inr, ⊎_elim, ℕ, zero, suc, ◌+◌, ◌-◌, ◌<◌, ◌≤◌, Bool, true, false, cond, List, [], ◌∷◌, ◌++◌, length, get_or, take, drop, Option, refl, sym, ap, subst, ◌∙◌, arith, append_assoc, length-append, length-drop, take-append-drop}
use Rattle.std.specs.Prelude.{Result, Ok, Err, IfOk, OnOk, ◌==◌}
use Rattle.raft_log_files.specs.declared.error.Error.{Error}
use Rattle.std.proofs.lemmas.Bool.{eq-eqb, ne_eqb}
use Rattle.std.proofs.lemmas.List.{append-nil, drop-append-le, take-append-le}
use Rattle.std.proofs.lemmas.List.Concat.{flat_map-append}
use Rattle.std.proofs.Math.Seq.{drop-append-add}
use Rattle.raft_log_records.specs.declared.file_id.FileBlockHandle.{FileBlockHandle}
use Rattle.raft_log_records.specs.declared.file_id.FileId.{FileId}
use Rattle.raft_log_records.specs.declared.file_id.LogQueue.{LogQueue}
use Rattle.raft_log_records.specs.Signature.{signature_of}
use Rattle.raft_log_records.specs.Spelling.{spell_record}
use Rattle.raft_log_disk.specs.declared.format.LogFileFormat.{LogFileFormat}
use Rattle.raft_log_disk.specs.Disk.{Disk, IsIn}
use Rattle.raft_log_disk.specs.Format.{spelled_header}
use Rattle.raft_log_file.specs.Laws.{Batch, file_text, spelled_batches}
use Rattle.raft_log_pipe.specs.declared.file.File.{File}
use Rattle.raft_log_pipe.specs.declared.pipe.SinglePipe.{SinglePipe}
use Rattle.raft_log_pipe.specs.Appending.{IsHandle, Stands}
use Rattle.raft_log_pipe.specs.Blocks.{AreOfBlock, AreOfFile, IsOutOfSpan, IsRecordOf, KeepsFiles, files_of, of_file, record_in}
use Rattle.raft_log_pipe.specs.Stored.{IsStored}
use Rattle.raft_log_pipe.specs.Pipe.{Numbered, numbered, id_of, first_of, AreConsecutive, AreOlder, Holds, IsOlder, IsPipe}

-- ---- the batches of one file

of_step : (b : Bool) (k : Batch) (xs ys : List Batch) → cond b (k ∷ (xs ++ ys)) (xs ++ ys) ≡ cond b (k ∷ xs) xs ++ ys
of_step true k xs ys = refl
of_step false k xs ys = refl

pub of_file-append : (seq : ℕ) (bs cs : Numbered) → of_file seq (bs ++ cs) ≡ of_file seq bs ++ of_file seq cs
of_file-append seq [] cs = refl
of_file-append seq (b ∷ bs) cs =
    (λ i. cond (b.0 == seq) (b.1 ∷ of_file-append seq bs cs i) (of_file-append seq bs cs i)) ∙ of_step (b.0 == seq) b.1 (of_file seq bs) (of_file seq cs)

of_same : (seq : ℕ) (ks : List Batch) → of_file seq (numbered seq ks) ≡ ks
of_same seq [] = refl
of_same seq (k ∷ ks) = ap (λ b. cond b (k ∷ of_file seq (numbered seq ks)) (of_file seq (numbered seq ks))) (eq-eqb seq seq refl) ∙ ap (λ (l : List Batch). k ∷ l) (of_same seq ks)

of_other : (seq n : ℕ) (ks : List Batch) → n ≢ seq → of_file seq (numbered n ks) ≡ []
of_other seq n [] apart = refl
of_other seq n (k ∷ ks) apart = ap (λ b. cond b (k ∷ of_file seq (numbered n ks)) (of_file seq (numbered n ks))) (ne_eqb n seq apart) ∙ of_other seq n ks apart

of_one : (seq : ℕ) (items : Batch) (after : Numbered) → of_file seq ((seq, items) ∷ after) ≡ items ∷ of_file seq after
of_one seq items after = ap (λ b. cond b (items ∷ of_file seq after) (of_file seq after)) (eq-eqb seq seq refl)

-- files below all of these, and files past them, have none
of_below : (queue : LogQueue) (d : Disk) (fs : List File) (bs : Numbered) (last n : ℕ) → AreConsecutive fs last → AreOlder queue d fs bs → n + length fs < last → of_file n bs ≡ []
of_below queue d [] bs last n numbers none lt = ap (of_file n) none
of_below queue d (f ∷ fs) bs last n numbers (ks, rest, is, o, os) lt =
    ap (of_file n) is ∙ of_file-append n (numbered f.seq ks) rest
    ∙ (λ i. of_other n f.seq ks (λ e. absurd (omega (arith, numbers.0, lt, e))) i ++ of_below queue d fs rest last n numbers.1 os (omega (arith, lt)) i)

of_past : (queue : LogQueue) (d : Disk) (fs : List File) (bs : Numbered) (last n : ℕ) → AreConsecutive fs last → AreOlder queue d fs bs → last ≤ n → of_file n bs ≡ []
of_past queue d [] bs last n numbers none le = ap (of_file n) none
of_past queue d (f ∷ fs) bs last n numbers (ks, rest, is, o, os) le =
    ap (of_file n) is ∙ of_file-append n (numbered f.seq ks) rest
    ∙ (λ i. of_other n f.seq ks (λ e. absurd (omega (arith, numbers.0, le, e))) i ++ of_past queue d fs rest last n numbers.1 os le i)

-- an older file's batches are those of its number
record IsOne (queue : LogQueue) (d : Disk) (fs : List File) (bs : Numbered) (last : ℕ) (f : File) : Type 0 where
  pub ks : List Batch
  pub older : IsOlder queue d f ks
  pub are : of_file f.seq bs ≡ ks
  pub above : last ≤ f.seq + length fs
  pub below : f.seq < last

one_of : (queue : LogQueue) (d : Disk) (fs : List File) (bs : Numbered) (last : ℕ) (f : File) → AreConsecutive fs last → AreOlder queue d fs bs → IsIn f fs → IsOne queue d fs bs last f
one_of queue d [] bs last f numbers os there = absurd there
one_of queue d (g ∷ fs) bs last f numbers (ks, rest, is, o, os) (inl same) =
    subst (IsOne queue d (g ∷ fs) bs last) (sym same) (record {
      ks = ks;
      older = o;
      are = ap (of_file g.seq) is ∙ of_file-append g.seq (numbered g.seq ks) rest
          ∙ (λ i. of_same g.seq ks i ++ of_below queue d fs rest last g.seq numbers.1 os (omega (arith, numbers.0)) i) ∙ append-nil ks;
      above = omega (arith, numbers.0);
      below = omega (arith, numbers.0);
    })
one_of queue d (g ∷ fs) bs last f numbers (ks, rest, is, o, os) (inr there) =
    let one = one_of queue d fs rest last f numbers.1 os there in
    record {
      ks = one.ks;
      older = one.older;
      are = ap (of_file f.seq) is ∙ of_file-append f.seq (numbered g.seq ks) rest
          ∙ (λ i. of_other f.seq g.seq ks (λ e. absurd (omega (arith, numbers.0, one.above, e))) i ++ one.are i);
      above = omega (arith, one.above);
      below = one.below;
    }

-- the last file's batches
pub last_batches : (p : SinglePipe) (d : Disk) (s u : Numbered) → IsPipe p d → (h : Holds p d s u) → of_file p.active.seq (s ++ u) ≡ h.ks ++ h.us
last_batches p d s u pipe h =
    let seq : ℕ = p.active.seq in
    ap (of_file seq) (λ i. h.synced_are i ++ h.unsynced_are i) ∙ of_file-append seq (h.before ++ numbered seq h.ks) (numbered seq h.us)
    ∙ (λ i. (of_file-append seq h.before (numbered seq h.ks) ∙ (λ j. of_past p.queue d p.older.items h.before seq seq pipe.numbers h.olders (omega arith) j ++ of_same seq h.ks j)) i ++ of_same seq h.us i)

-- ---- the file of a number

pub in_last : (fs : List File) (f g : File) → IsIn f (fs ++ g ∷ []) → IsIn f fs ⊎ (f ≡ g)
in_last [] f g (inl same) = inr same
in_last [] f g (inr none) = absurd none
in_last (x ∷ fs) f g (inl same) = inl (inl same)
in_last (x ∷ fs) f g (inr there) = ⊎_elim (λ h. inl (inr h)) (λ h. inr h) (in_last fs f g there)

pub is_last : (fs : List File) (g : File) → IsIn g (fs ++ g ∷ [])
is_last [] g = inl refl
is_last (x ∷ fs) g = inr (is_last fs g)

pub is_older : (fs : List File) (f g : File) → IsIn f fs → IsIn f (fs ++ g ∷ [])
is_older [] f g there = absurd there
is_older (x ∷ fs) f g (inl same) = inl same
is_older (x ∷ fs) f g (inr there) = inr (is_older fs f g there)

-- files that stay: those of the same pipe, and where another one goes on
pub same_files : (old new : SinglePipe) → new.active ≡ old.active → new.older ≡ old.older → KeepsFiles old new
same_files old new active older f there = subst (λ (l : List File). IsIn f l) (λ i. (sym older i).items ++ sym active i ∷ []) there

pub more_files : (old new : SinglePipe) → new.older.items ≡ old.older.items ++ old.active ∷ [] → KeepsFiles old new
more_files old new is f there = is_older new.older.items f new.active (subst (λ (l : List File). IsIn f l) (sym is) there)

pub next_files : (r : Result (Unit {0}) Error) (old new : SinglePipe) → OnOk r ((new.active.seq ≡ old.active.seq + 1) × (new.older.items ≡ old.older.items ++ old.active ∷ [])) → OnOk r (KeepsFiles old new)
next_files (Ok u) old new next = more_files old new next.1
next_files (Err e) old new next = tt

pub then_files : (old p new : SinglePipe) → KeepsFiles old p → KeepsFiles p new → KeepsFiles old new
then_files old p new one other f there = other f (one f there)

pub after_files : (r : Result FileBlockHandle Error) (old p new : SinglePipe) → KeepsFiles old p → OnOk r (KeepsFiles p new) → OnOk r (KeepsFiles old new)
after_files (Ok h) old p new one other = then_files old p new one other
after_files (Err e) old p new one other = tt

pub older_below : (fs : List File) (last : ℕ) (f : File) → AreConsecutive fs last → IsIn f fs → (f.seq < last) × (last ≤ f.seq + length fs)
older_below [] last f numbers there = absurd there
older_below (g ∷ fs) last f numbers (inl same) = (omega (arith, numbers.0, ap (λ (x : File). x.seq) same), omega (arith, numbers.0, ap (λ (x : File). x.seq) same))
older_below (g ∷ fs) last f numbers (inr there) = let one = older_below fs last f numbers.1 there in (one.0, omega (arith, one.1))

one_older : (fs : List File) (last : ℕ) (f g : File) → AreConsecutive fs last → IsIn f fs → IsIn g fs → f.seq ≡ g.seq → f ≡ g
one_older [] last f g numbers there here same = absurd there
one_older (x ∷ fs) last f g numbers (inl a) (inl b) same = a ∙ sym b
one_older (x ∷ fs) last f g numbers (inl a) (inr b) same = absurd (omega (arith, numbers.0, (older_below fs last g numbers.1 b).1, same, ap (λ (y : File). y.seq) a))
one_older (x ∷ fs) last f g numbers (inr a) (inl b) same = absurd (omega (arith, numbers.0, (older_below fs last f numbers.1 a).1, same, ap (λ (y : File). y.seq) b))
one_older (x ∷ fs) last f g numbers (inr a) (inr b) same = one_older fs last f g numbers.1 a b same

-- a pipe has one file of a number
pub one_file : (p : SinglePipe) (d : Disk) (f g : File) → IsPipe p d → IsIn f (files_of p) → IsIn g (files_of p) → f.seq ≡ g.seq → f ≡ g
one_file p d f g pipe there here same = by_place (in_last p.older.items f p.active there) (in_last p.older.items g p.active here)
  where
    by_place : IsIn f p.older.items ⊎ (f ≡ p.active) → IsIn g p.older.items ⊎ (g ≡ p.active) → f ≡ g
    by_place (inl a) (inl b) = one_older p.older.items p.active.seq f g pipe.numbers a b same
    by_place (inl a) (inr b) = absurd (omega (arith, (older_below p.older.items p.active.seq f pipe.numbers a).0, same, ap (λ (y : File). y.seq) b))
    by_place (inr a) (inl b) = absurd (omega (arith, (older_below p.older.items p.active.seq g pipe.numbers b).0, same, ap (λ (y : File). y.seq) a))
    by_place (inr a) (inr b) = a ∙ sym b

-- the file at a place has the number of the place
pub seq_at : (fs : List File) (last i : ℕ) (f : File) → AreConsecutive fs last → i < length fs → f ≡ get_or fs i f → IsIn f fs × (f.seq + length fs ≡ last + i)
seq_at [] last i f numbers lt at = absurd (omega (arith, lt))
seq_at (g ∷ fs) last zero f numbers lt at = (inl at, omega (arith, numbers.0, ap (λ (x : File). x.seq) at))
seq_at (g ∷ fs) last (suc i) f numbers lt at = let one = seq_at fs last i f numbers.1 (omega (arith, lt)) at in (inr one.0, omega (arith, one.1))

pub long_span : (fs : List File) (last : ℕ) → AreConsecutive fs last → length fs ≤ last
long_span [] last numbers = omega arith
long_span (f ∷ fs) last numbers = omega (arith, numbers.0)

-- places of files, and numbers that no file has
pub in_span : (p : SinglePipe) (seq : ℕ) → AreConsecutive p.older.items p.active.seq → first_of p ≤ seq → seq - first_of p ≤ length p.older.items → IsOutOfSpan p seq → ⊥
in_span p seq numbers low high (inl below) = absurd (omega (arith, low, below))
in_span p seq numbers low high (inr above) = absurd (omega (arith, low, high, above, long_span p.older.items p.active.seq numbers))

pub past_span : (p : SinglePipe) (seq : ℕ) → AreConsecutive p.older.items p.active.seq → first_of p ≤ seq → length p.older.items < seq - first_of p → IsOutOfSpan p seq
past_span p seq numbers low high = inr (omega (arith, low, high, long_span p.older.items p.active.seq numbers))

pub older_at : (p : SinglePipe) (seq place : ℕ) (f : File) → AreConsecutive p.older.items p.active.seq → first_of p ≤ seq → place ≡ seq - first_of p → place < length p.older.items → f ≡ get_or p.older.items place f
    → IsIn f (files_of p) × (f.seq ≡ seq)
older_at p seq place f numbers low is lt at =
    let one = seq_at p.older.items p.active.seq place f numbers lt at in
    (is_older p.older.items f p.active one.0, omega (arith, one.1, low, is, long_span p.older.items p.active.seq numbers))

pub active_at : (p : SinglePipe) (seq : ℕ) → AreConsecutive p.older.items p.active.seq → first_of p ≤ seq → seq - first_of p ≡ length p.older.items → IsIn p.active (files_of p) × (p.active.seq ≡ seq)
active_at p seq numbers low is = (is_last p.older.items p.active, omega (arith, low, is, long_span p.older.items p.active.seq numbers))

-- ---- records

text_split : (id : FileId) (format : LogFileFormat) (xs ys : List Batch) (items : Batch) → (let signature : Option ℕ = signature_of format.version id.seq in
    file_text id format (xs ++ items ∷ ys) ≡ file_text id format xs ++ (spell_record signature items ++ spelled_batches signature ys))
text_split id format xs ys items =
    let signature : Option ℕ = signature_of format.version id.seq in
    ap (λ (l : List ℕ). spelled_header format ++ l) (flat_map-append (spell_record signature) xs (items ∷ ys))
    ∙ sym (append_assoc (spelled_header format) (spelled_batches signature xs) (spell_record signature items ++ spelled_batches signature ys))

-- a part of the middle of some bytes
part_of : (front middle rest bytes : List ℕ) (at skip len : ℕ) → bytes ≡ front ++ (middle ++ rest) → at ≡ length front + skip → skip + len ≤ length middle → take len (drop at bytes) ≡ take len (drop skip middle)
part_of front middle rest bytes at skip len is place within =
    (λ i. take len (drop (place i) (is i))) ∙ ap (take len) (drop-append-add front (middle ++ rest) skip ∙ drop-append-le skip middle rest (omega (arith, within)))
    ∙ take-append-le len (drop skip middle) rest (omega (arith, within, length-drop skip middle))

read_part : (id : FileId) (format : LogFileFormat) (xs ys ks us : List Batch) (items : Batch) (offset at skip len : ℕ) (bytes : List ℕ) → take offset bytes ≡ file_text id format (ks ++ us) → ks ++ us ≡ xs ++ items ∷ ys
    → at ≡ length (file_text id format xs) + skip → skip + len ≤ length (spell_record (signature_of format.version id.seq) items)
    → take len (drop at bytes) ≡ take len (drop skip (spell_record (signature_of format.version id.seq) items))
read_part id format xs ys ks us items offset at skip len bytes front are place within =
    let signature : Option ℕ = signature_of format.version id.seq in
    let spell : List ℕ = spell_record signature items in
    let whole : bytes ≡ file_text id format xs ++ (spell ++ (spelled_batches signature ys ++ drop offset bytes))
    = sym (take-append-drop offset bytes) ∙ ap (λ (l : List ℕ). l ++ drop offset bytes) (front ∙ ap (λ (l : List Batch). file_text id format l) are ∙ text_split id format xs ys items)
    ∙ append_assoc (file_text id format xs) (spell ++ spelled_batches signature ys) (drop offset bytes)
    ∙ ap (λ (l : List ℕ). file_text id format xs ++ l) (append_assoc spell (spelled_batches signature ys) (drop offset bytes)) in
    part_of (file_text id format xs) spell (spelled_batches signature ys ++ drop offset bytes) bytes at skip len whole place within

-- the batches of a file, of which one stands behind others
split_here : (seq : ℕ) (all before after : Numbered) (items : Batch) (ks : List Batch) → all ≡ before ++ (seq, items) ∷ after → of_file seq all ≡ ks → ks ≡ of_file seq before ++ items ∷ of_file seq after
split_here seq all before after items ks split are =
    sym are ∙ ap (of_file seq) split ∙ of_file-append seq before ((seq, items) ∷ after) ∙ ap (λ (l : List Batch). of_file seq before ++ l) (of_one seq items after)

no_batch : (xs ys : List Batch) (items : Batch) → (let none : List Batch = [] in none ≡ xs ++ items ∷ ys) → ⊥
no_batch xs ys items is = absurd (omega (arith, ap length is, length-append xs (items ∷ ys)))

pub blocks_are : (p : SinglePipe) (d : Disk) (h : FileBlockHandle) (bytes : List ℕ) → IsPipe p d → AreOfFile p d h bytes → AreOfBlock p d h bytes
blocks_are p d h bytes pipe are s u before after f items skip holds split there block =
    are f there (sym block.seq) ∙ by_place (in_last p.older.items f p.active there)
  where
    by_place : IsIn f p.older.items ⊎ (f ≡ p.active) → take h.len (drop h.offset (d.file f.handle.0).bytes) ≡ take h.len (drop skip (record_in f items))
    by_place (inr same) =
        let last : of_file f.seq (s ++ u) ≡ holds.ks ++ holds.us = ap (λ (x : File). of_file x.seq (s ++ u)) same ∙ last_batches p d s u pipe holds in
        let stored : IsStored (id_of p.queue f.seq) f.format holds.ks holds.us p.writer.offset (d.file f.handle.0)
        = subst (λ (x : File). IsStored (id_of p.queue x.seq) x.format holds.ks holds.us p.writer.offset (d.file x.handle.0)) (sym same) holds.stored in
        read_part (id_of p.queue f.seq) f.format (of_file f.seq before) (of_file f.seq after) holds.ks holds.us items p.writer.offset h.offset skip h.len (d.file f.handle.0).bytes stored.front
        (split_here f.seq (s ++ u) before after items (holds.ks ++ holds.us) split last) block.offset block.within
    by_place (inl older) =
        let one = one_of p.queue d p.older.items holds.before p.active.seq f pipe.numbers holds.olders older in
        let other : p.active.seq ≢ f.seq = λ e. absurd (omega (arith, one.below, e)) in
        let all : of_file f.seq (s ++ u) ≡ one.ks
        = ap (of_file f.seq) (λ i. holds.synced_are i ++ holds.unsynced_are i) ∙ of_file-append f.seq (holds.before ++ numbered p.active.seq holds.ks) (numbered p.active.seq holds.us)
        ∙ (λ i. (of_file-append f.seq holds.before (numbered p.active.seq holds.ks) ∙ (λ j. one.are j ++ of_other f.seq p.active.seq holds.ks other j) ∙ append-nil one.ks) i ++ of_other f.seq p.active.seq holds.us other i) ∙ append-nil one.ks in
        let here = split_here f.seq (s ++ u) before after items one.ks split all in
        ⊎_elim
        (λ stored. read_part (id_of p.queue f.seq) f.format (of_file f.seq before) (of_file f.seq after) one.ks [] items one.older.offset h.offset skip h.len (d.file f.handle.0).bytes stored.front (append-nil one.ks ∙ here)
        block.offset block.within)
        (λ blank. absurd (no_batch (of_file f.seq before) (of_file f.seq after) items (sym blank.none ∙ here)))
        one.older.stored

-- the batch that goes behind all others
pub record_here : (p : SinglePipe) (d : Disk) (items : Batch) (h : FileBlockHandle) (s u : Numbered) → IsPipe p d → IsHandle p items h → Holds p d s u → IsRecordOf p.queue p.active (s ++ u) items h
record_here p d items h s u pipe handle holds = record {
  block = record {
    seq = ap (λ (id : FileId). id.seq) handle.id;
    offset = omega (arith, handle.offset, holds.stored.place, ap (λ (l : List Batch). length (file_text (id_of p.queue p.active.seq) p.active.format l)) (last_batches p d s u pipe holds));
    within = omega (arith, handle.len);
  };
  id = handle.id;
  len = handle.len;
}

-- the same after calls that came before
pub stands_after : (old p : SinglePipe) (d b : Disk) (new : SinglePipe) (items again : Batch) (h : FileBlockHandle) → ((s u : Numbered) → Holds old d s u → Holds p b s u ⊎ Holds p b (s ++ u) []) → again ≡ items → Stands p b new again h
    → Stands old d new items h
stands_after old p d b new items again h before same stands =
    subst (λ (k : Batch). Stands old d new k h) same
    (λ s u holds. ⊎_elim (λ as_it_was. stands s u as_it_was) (λ all. subst (λ (l : Numbered). IsRecordOf new.queue new.active l again h) (append-nil (s ++ u)) (stands (s ++ u) [] all)) (before s u holds))

pub stands_ok : (r : Result FileBlockHandle Error) (old p : SinglePipe) (d b : Disk) (new : SinglePipe) (items again : Batch) → ((s u : Numbered) → Holds old d s u → Holds p b s u ⊎ Holds p b (s ++ u) []) → again ≡ items
    → IfOk r (Stands p b new again) → IfOk r (Stands old d new items)
stands_ok (Ok h) old p d b new items again before same stands = stands_after old p d b new items again h before same stands
stands_ok (Err e) old p d b new items again before same stands = tt
