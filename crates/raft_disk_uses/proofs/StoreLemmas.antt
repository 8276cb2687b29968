-- What is left of a file after each call on it.
use Rattle.std.proofs.Common.{◌≡◌, ◌≢◌, ◌⊎◌, inl, inr, ℕ, ◌+◌, ◌<◌, ◌≤◌, max, Bool, true, false, cond, List, [], ◌∷◌, ◌++◌, length, get_or, take, drop, Option, Some, None, Result, Ok, Err, OnOk, OnErr, refl, sym, ap, subst, ◌∙◌, arith, ext_get_or}
use Rattle.std.proofs.lemmas.List.{append-nil, take_all, drop_all, length-take-le, get_or-take}
use Rattle.std.specs.Prelude.{map, option_map, ◌==◌, if◌then◌else◌}
use Rattle.std.specs.List.{AllByRecursion}
use Rattle.std.proofs.lemmas.Bool.{eq-eqb, ne_eqb, eqb-true, eqb-false}
use lib.Pointwise.{bytes_decides}
use Rattle.raft_log_disk.specs.Text.{Text, same_text}
use Rattle.raft_log_disk.specs.Disk.{FileState, Disk, IsIn, IsNoFile, Renames, RefusedWrite, fd_of, put, no_bytes, with_file, settled, after_create, after_write, after_sync, after_rename, renamed}
use Rattle.raft_log_disk.specs.Image.{Image, IsOutside, IsFileImage, IsImage, IsStill}
use Rattle.raft_log_disk.proofs.DiskLemmas.{same_file, other_file, number_in, pushed_there, pushed_other, still_synced, still_is_left}
use Rattle.raft_log_disk.proofs.LawLemmas.{image_there, is_there, synced_image_is_read}
use Rattle.raft_log_disk.proofs.NameLemmas.{moved_there}
use Rattle.raft_disk_uses.specs.Left.{Leaves, LeavesOneOf, LeavesBytes, LeavesFront, found_at}
use Rattle.raft_log_disk.proofs.CauseLemmas.{at_err}

put_behind : (old bytes : List ℕ) → put old (length old) bytes ≡ old ++ bytes
put_behind old bytes =
    (λ i. (take_all (length old) old (omega arith) i ++ bytes) ++ drop_all (length old + length bytes) old (omega arith) i)
    ∙ append-nil (old ++ bytes)

-- a path that no file has is there in no image
pub leaves_none : (d : Disk) (path : Text) → fd_of d.names path ≡ None → Leaves d path None
leaves_none d path none = λ image is. ap (option_map image) none

-- a file that is on the disk is there in each image
pub leaves_file : (d : Disk) (path : Text) (fd : ℕ) (bytes : List ℕ) → fd_of d.names path ≡ Some fd → IsStill (d.file fd) → (d.file fd).bytes ≡ bytes → Leaves d path (Some bytes)
leaves_file d path fd bytes there still is = λ image leaves.
    ap (option_map image) there
    ∙ ap (λ (l : List ℕ). Some l) (still_is_left (d.file fd) (image fd) still (image_there d image d.names fd (number_in d.names path fd there) leaves) ∙ is)

pub one_is_none : (d : Disk) (path : Text) (other : Option (List ℕ)) → fd_of d.names path ≡ None → LeavesOneOf d path None other
one_is_none d path other none = λ image is. inl (leaves_none d path none image is)

pub other_is : (d : Disk) (path : Text) (one other : Option (List ℕ)) → Leaves d path other → LeavesOneOf d path one other
other_is d path one other leaves = λ image is. inr (leaves image is)

-- ---- calls

pub none_created : (old new : Disk) (draft path : Text) → fd_of old.names path ≡ None → same_text draft path ≡ false → (new ≡ old) ⊎ (new ≡ after_create old draft) → fd_of new.names path ≡ None
none_created old new draft path none apart (inl is) = ap (λ (d : Disk). fd_of d.names path) is ∙ none
none_created old new draft path none apart (inr is) = ap (λ (d : Disk). fd_of d.names path) is ∙ pushed_other old.names draft path old.next apart ∙ none

pub none_written : (old new : Disk) (fd at : ℕ) (bytes : List ℕ) (path : Text) → fd_of old.names path ≡ None → (new ≡ old) ⊎ RefusedWrite old new fd at bytes → fd_of new.names path ≡ None
none_written old new fd at bytes path none (inl is) = ap (λ (d : Disk). fd_of d.names path) is ∙ none
none_written old new fd at bytes path none (inr r) = ap (λ (d : Disk). fd_of d.names path) r.files ∙ none

pub none_with : (old new : Disk) (fd : ℕ) (f : FileState) (path : Text) → fd_of old.names path ≡ None → new ≡ with_file old fd f → fd_of new.names path ≡ None
none_with old new fd f path none is = ap (λ (d : Disk). fd_of d.names path) is ∙ none

pub none_same : (old new : Disk) (path : Text) → fd_of old.names path ≡ None → new ≡ old → fd_of new.names path ≡ None
none_same old new path none is = ap (λ (d : Disk). fd_of d.names path) is ∙ none

-- a new file, once it is written and synced
pub record IsDraft (d : Disk) (draft path : Text) (fd : ℕ) (bytes : List ℕ) : Type 0 where
  pub there : fd_of d.names draft ≡ Some fd
  pub free : fd_of d.names path ≡ None
  pub still : IsStill (d.file fd)
  pub whole : (d.file fd).bytes ≡ bytes

pub drafted : (old made written synced : Disk) (draft path : Text) (fd : ℕ) (bytes : List ℕ) → fd_of old.names draft ≡ None → fd_of old.names path ≡ None → same_text draft path ≡ false
    → fd ≡ old.next → made ≡ after_create old draft → written ≡ with_file made fd (after_write (made.file fd) 0 bytes (put (made.file fd).bytes 0 bytes))
    → synced ≡ with_file written fd (after_sync (written.file fd)) → IsDraft synced draft path fd bytes
drafted old made written synced draft path fd bytes none free apart is created wrote kept =
    let empty : made.file fd ≡ no_bytes = ap (λ (d : Disk). d.file fd) created ∙ ap (λ b. cond b no_bytes (old.file fd)) (eq-eqb fd old.next is) in
    let after : written.file fd ≡ after_write (made.file fd) 0 bytes (put (made.file fd).bytes 0 bytes) = ap (λ (d : Disk). d.file fd) wrote ∙ same_file fd (after_write (made.file fd) 0 bytes (put (made.file fd).bytes 0 bytes)) (made.file fd) in
    let last : synced.file fd ≡ after_sync (written.file fd) = ap (λ (d : Disk). d.file fd) kept ∙ same_file fd (after_sync (written.file fd)) (written.file fd) in
    record {
      there = ap (λ (d : Disk). fd_of d.names draft) kept ∙ ap (λ (d : Disk). fd_of d.names draft) wrote ∙ ap (λ (d : Disk). fd_of d.names draft) created ∙ pushed_there old.names draft old.next none ∙ ap (λ n. Some n) (sym is);
      free = none_with written synced fd (after_sync (written.file fd)) path (none_with made written fd _ path (none_created old made draft path free apart (inr created)) wrote) kept;
      still = subst IsStill (sym last) (still_synced (written.file fd));
      whole = ap (λ (f : FileState). f.bytes) last ∙ ap (λ (f : FileState). f.bytes) after ∙ ap (λ (f : FileState). put f.bytes 0 bytes) empty ∙ put_behind [] bytes;
    }

pub stored : (old new : Disk) (draft path : Text) (fd : ℕ) (bytes : List ℕ) → IsDraft old draft path fd bytes → Renames old new draft path → Leaves new path (Some bytes)
stored old new draft path fd bytes d renames =
    let same : renames.0 ≡ fd = cc in
    let file : new.file renames.0 ≡ renamed (old.file renames.0) = ap (λ (e : Disk). e.file renames.0) renames.2 ∙ same_file renames.0 (renamed (old.file renames.0)) (old.file renames.0) in
    let still = subst (λ n. IsStill (old.file n)) (sym same) d.still in
    leaves_file new path renames.0 bytes (ap (λ (e : Disk). fd_of e.names path) renames.2 ∙ moved_there old.names draft path renames.0 d.free renames.1)
    (subst IsStill (sym file) (record { kept = still.kept; changed = still.changed; least = still.least; greatest = still.greatest }))
    (ap (λ (f : FileState). f.bytes) file ∙ ap (λ n. (old.file n).bytes) same ∙ d.whole)

pub stored_or_not : (old new : Disk) (draft path : Text) (fd : ℕ) (bytes : List ℕ) → IsDraft old draft path fd bytes → (new ≡ old) ⊎ Renames old new draft path → LeavesOneOf new path None (Some bytes)
stored_or_not old new draft path fd bytes d (inl is) = one_is_none new path (Some bytes) (none_same old new path d.free is)
stored_or_not old new draft path fd bytes d (inr renames) = other_is new path None (Some bytes) (stored old new draft path fd bytes d renames)

-- ---- the other files

-- the files before the first new number are as they were
abbrev pub AreUntouched : Disk → Disk → ℕ → Type 0
AreUntouched old new next = (n : ℕ) → n < next → new.file n ≡ old.file n

pub untouched_with : (old new : Disk) (fd next : ℕ) (f : FileState) → next ≤ fd → new ≡ with_file old fd f → AreUntouched old new next
untouched_with old new fd next f above is = λ n lt. ap (λ (d : Disk). d.file n) is ∙ other_file n fd f (old.file n) (omega (arith, lt, above))

pub untouched_create : (old new : Disk) (draft : Text) → (new ≡ old) ⊎ (new ≡ after_create old draft) → AreUntouched old new old.next
untouched_create old new draft (inl is) = λ n lt. ap (λ (d : Disk). d.file n) is
untouched_create old new draft (inr is) = λ n lt. ap (λ (d : Disk). d.file n) is ∙ other_file n old.next no_bytes (old.file n) (omega (arith, lt))

pub untouched_write : (old new : Disk) (fd at next : ℕ) (bytes : List ℕ) → next ≤ fd → (new ≡ old) ⊎ RefusedWrite old new fd at bytes → AreUntouched old new next
untouched_write old new fd at next bytes above (inl is) = λ n lt. ap (λ (d : Disk). d.file n) is
untouched_write old new fd at next bytes above (inr r) = untouched_with old new fd next (after_write (old.file fd) at bytes r.seen) above r.files

pub untouched_same : (old new : Disk) (next : ℕ) → new ≡ old → AreUntouched old new next
untouched_same old new next is = λ n lt. ap (λ (d : Disk). d.file n) is

pub untouched_rename : (old new : Disk) (draft path : Text) (fd next : ℕ) → next ≤ fd → fd_of old.names draft ≡ Some fd → (new ≡ old) ⊎ Renames old new draft path → AreUntouched old new next
untouched_rename old new draft path fd next above there (inl is) = untouched_same old new next is
untouched_rename old new draft path fd next above there (inr r) = λ n lt.
    let same : r.0 ≡ fd = cc in
    ap (λ (d : Disk). d.file n) r.2 ∙ other_file n r.0 (renamed (old.file r.0)) (old.file n) (omega (arith, lt, above, same))

pub untouched_then : (old between new : Disk) (next : ℕ) → AreUntouched old between next → AreUntouched between new next → AreUntouched old new next
untouched_then old between new next a b = λ n lt. b n lt ∙ a n lt

-- ---- appends

pub appended : (old written synced : Disk) (fd : ℕ) (at : ℕ) (bytes : List ℕ) → at ≡ length (old.file fd).bytes → (IsNoFile old fd → ⊥)
    → written ≡ with_file old fd (after_write (old.file fd) at bytes (put (old.file fd).bytes at bytes)) → synced ≡ with_file written fd (after_sync (written.file fd)) → LeavesBytes synced fd ((old.file fd).bytes ++ bytes)
appended old written synced fd at bytes end there wrote kept = λ image is.
    let is_there : IsNoFile written fd → ⊥ = λ none. there (subst (λ (d : Disk). IsNoFile d fd) wrote none) in
    synced_image_is_read written fd image is_there (subst (λ (d : Disk). IsImage d image) kept is)
    ∙ ap (λ (d : Disk). (d.file fd).bytes) wrote
    ∙ ap (λ (f : FileState). f.bytes) (same_file fd (after_write (old.file fd) at bytes (put (old.file fd).bytes at bytes)) (old.file fd))
    ∙ ap (λ n. put (old.file fd).bytes n bytes) end
    ∙ put_behind (old.file fd).bytes bytes

pub still_appended : (written synced : Disk) (fd : ℕ) → synced ≡ with_file written fd (after_sync (written.file fd)) → IsStill (synced.file fd)
still_appended written synced fd kept =
    subst IsStill (sym (ap (λ (d : Disk). d.file fd) kept ∙ same_file fd (after_sync (written.file fd)) (written.file fd))) (still_synced (written.file fd))

-- a file that was still, after a write behind its end
front_of : (f g : FileState) (to : ℕ) (bytes : List ℕ) → IsStill f → g.kept ≡ f.kept → g.changed ≡ f.changed ++ (length f.bytes, to) ∷ [] → g.least ≡ f.least → IsFileImage g bytes → take (length f.bytes) bytes ≡ f.bytes
front_of f g to bytes still kept changed least is =
    let long : length (take (length f.bytes) bytes) ≡ length f.bytes = length-take-le (length f.bytes) bytes (omega (arith, is.no_shorter, least, still.least)) in
    let ranges : g.changed ≡ (length f.bytes, to) ∷ [] = changed ∙ ap (λ (rs : List (ℕ × ℕ)). rs ++ (length f.bytes, to) ∷ []) still.changed in
    ext_get_or 0 (take (length f.bytes) bytes) f.bytes long (λ i lt.
    let within : i < length f.bytes = omega (arith, lt, long) in
    get_or-take (length f.bytes) bytes i 0 within
    ∙ is.same i (omega (arith, within, is.no_shorter, least, still.least)) (subst (λ rs. IsOutside i rs) (sym ranges) (inl within, tt))
    ∙ ap (λ (l : List ℕ). get_or l i 0) (kept ∙ still.kept))

pub front_same : (d : Disk) (fd : ℕ) → IsStill (d.file fd) → (IsNoFile d fd → ⊥) → LeavesFront d fd (d.file fd).bytes
front_same d fd still there = λ image is.
    ap (take (length (d.file fd).bytes)) (still_is_left (d.file fd) (image fd) still (image_there d image d.names fd (is_there fd _ there) is))
    ∙ take_all (length (d.file fd).bytes) (d.file fd).bytes (omega arith)

pub front_written : (old new : Disk) (fd at : ℕ) (bytes seen : List ℕ) → at ≡ length (old.file fd).bytes → IsStill (old.file fd) → (IsNoFile old fd → ⊥) → new ≡ with_file old fd (after_write (old.file fd) at bytes seen) → LeavesFront new fd (old.file fd).bytes
front_written old new fd at bytes seen end still there wrote = λ image is.
    let file : new.file fd ≡ after_write (old.file fd) at bytes seen = ap (λ (d : Disk). d.file fd) wrote ∙ same_file fd (after_write (old.file fd) at bytes seen) (old.file fd) in
    front_of (old.file fd) (after_write (old.file fd) at bytes seen) (at + length bytes) (image fd) still refl (ap (λ n. (old.file fd).changed ++ (n, at + length bytes) ∷ []) end) refl
    (subst (λ f. IsFileImage f (image fd)) file (image_there new image new.names fd (is_there fd _ (λ none. there (subst (λ (d : Disk). IsNoFile d fd) wrote none))) is))

pub front_refused : (old new : Disk) (fd at : ℕ) (bytes : List ℕ) → at ≡ length (old.file fd).bytes → IsStill (old.file fd) → (IsNoFile old fd → ⊥) → (new ≡ old) ⊎ RefusedWrite old new fd at bytes → LeavesFront new fd (old.file fd).bytes
front_refused old new fd at bytes end still there (inl is) = subst (λ (d : Disk). LeavesFront d fd (old.file fd).bytes) (sym is) (front_same old fd still there)
front_refused old new fd at bytes end still there (inr r) = front_written old new fd at bytes r.seen end still there r.files

-- the last call of each client
pub appended_ok : {S E : Type 0} (r : Result S E) (old written synced : Disk) (fd at : ℕ) (bytes : List ℕ) → at ≡ length (old.file fd).bytes → (IsNoFile old fd → ⊥)
    → written ≡ with_file old fd (after_write (old.file fd) at bytes (put (old.file fd).bytes at bytes)) → OnOk r (synced ≡ with_file written fd (after_sync (written.file fd))) → OnOk r (LeavesBytes synced fd ((old.file fd).bytes ++ bytes))
appended_ok (Ok x) old written synced fd at bytes end there wrote kept = appended old written synced fd at bytes end there wrote kept
appended_ok (Err e) old written synced fd at bytes end there wrote kept = tt

pub still_ok : {S E : Type 0} (r : Result S E) (written synced : Disk) (fd : ℕ) → OnOk r (synced ≡ with_file written fd (after_sync (written.file fd))) → OnOk r (IsStill (synced.file fd))
still_ok (Ok x) written synced fd kept = still_appended written synced fd kept
still_ok (Err e) written synced fd kept = tt

pub front_end : {S E : Type 0} (r : Result S E) (old : Disk) (fd : ℕ) → OnErr r (IsStill (old.file fd) → (IsNoFile old fd → ⊥) → LeavesFront old fd (old.file fd).bytes)
front_end (Ok x) old fd = tt
front_end (Err e) old fd = λ still there. front_same old fd still there

pub front_write : {S E : Type 0} (r : Result S E) (old new : Disk) (fd at : ℕ) (bytes : List ℕ) → at ≡ length (old.file fd).bytes → (new ≡ old) ⊎ RefusedWrite old new fd at bytes
    → OnErr r (IsStill (old.file fd) → (IsNoFile old fd → ⊥) → LeavesFront new fd (old.file fd).bytes)
front_write (Ok x) old new fd at bytes end either = tt
front_write (Err e) old new fd at bytes end either = λ still there. front_refused old new fd at bytes end still there either

pub front_sync : {S E : Type 0} (r : Result S E) (old written new : Disk) (fd at : ℕ) (bytes : List ℕ) → at ≡ length (old.file fd).bytes
    → written ≡ with_file old fd (after_write (old.file fd) at bytes (put (old.file fd).bytes at bytes)) → OnErr r (new ≡ written) → OnErr r (IsStill (old.file fd) → (IsNoFile old fd → ⊥) → LeavesFront new fd (old.file fd).bytes)
front_sync (Ok x) old written new fd at bytes end wrote same = tt
front_sync (Err e) old written new fd at bytes end wrote same = λ still there. front_written old new fd at bytes (put (old.file fd).bytes at bytes) end still there (same ∙ wrote)

pub stored_ok : {S E : Type 0} (r : Result S E) (old new : Disk) (draft path : Text) (fd : ℕ) (bytes : List ℕ) → IsDraft old draft path fd bytes → OnOk r (Renames old new draft path) → OnOk r (Leaves new path (Some bytes))
stored_ok (Ok x) old new draft path fd bytes d renames = stored old new draft path fd bytes d renames
stored_ok (Err e) old new draft path fd bytes d renames = tt

pub stored_err : {S E : Type 0} (r : Result S E) (old new : Disk) (draft path : Text) (fd : ℕ) (bytes : List ℕ) → IsDraft old draft path fd bytes → OnErr r ((new ≡ old) ⊎ Renames old new draft path) → OnErr r (LeavesOneOf new path None (Some bytes))
stored_err (Ok x) old new draft path fd bytes d either = tt
stored_err (Err e) old new draft path fd bytes d either = stored_or_not old new draft path fd bytes d either

pub untouched_last : {S E : Type 0} (r : Result S E) (old new : Disk) (draft path : Text) (fd next : ℕ) → next ≤ fd → fd_of old.names draft ≡ Some fd → OnOk r (Renames old new draft path) → OnErr r ((new ≡ old) ⊎ Renames old new draft path) → AreUntouched old new next
untouched_last (Ok x) old new draft path fd next above there renames either = untouched_rename old new draft path fd next above there (inr renames)
untouched_last (Err e) old new draft path fd next above there renames either = untouched_rename old new draft path fd next above there either
