-- What a machine is given of files, as items.
use Rattle.std.proofs.Common.{◌≡◌, ◌⊎◌, inl, inr, ℕ, ◌+◌, ◌<◌, List, [], ◌∷◌, ◌++◌, length, get_or, take, Option, refl, sym, ap, subst, ◌∙◌, append_assoc}
use Rattle.std.specs.List.{flat_map}
use Rattle.std.proofs.lemmas.Grind.{flat_map-append}
use Rattle.std.proofs.lemmas.List.{append-nil, take_more}
use Rattle.raft_log_records.specs.declared.file_id.FileId.{FileId}
use Rattle.raft_log_records.specs.declared.file_id.LogQueue.{LogQueue}
use Rattle.raft_log_records.specs.declared.item.EntryIndex.{EntryIndex}
use Rattle.raft_log_records.specs.Item.{Item}
use Rattle.raft_log_disk.specs.Cause.{Meter, RefusesNoMore}
use Rattle.raft_log_disk.specs.Disk.{Disk, HasOneOf, IsIn, IsNoFile}
use Rattle.raft_log_disk.specs.Text.{Text}
use Rattle.raft_log_files.specs.declared.error.CorruptionFault.{CorruptionFault}
use Rattle.raft_log_files.specs.declared.error.Error.{Error}
use Rattle.raft_log_files.specs.declared.error.Error.TheVariants.{Corruption}
use Rattle.raft_log_file.specs.Reading.{FileBatch}
use Rattle.raft_log_pipe.specs.Caused.{IsCaused}
use Rattle.raft_log_pipe.proofs.CausedLemmas.{caused_for}
use Rattle.raft_log_pipe.specs.Pipe.{id_of}
use Rattle.raft_log_recovery.specs.declared.scan.FileKind.TheVariants.{Log}
use Rattle.raft_log_recovery.specs.declared.scan.FileName.{FileName}
use Rattle.raft_log_recovery.specs.Caused.{IsRefusal, IsReplayFault}
use Rattle.raft_log_recovery.specs.Queue.{IsFileOf, path_of}
use Rattle.raft_log_recovery.specs.Repair.{batches_in}
use Rattle.raft_log_recovery.specs.Replay.{ArePlaced, Placed}
use Rattle.raft_log_recovery.specs.Scan.{AreFound}
use Rattle.raft_log_recovery.proofs.CausedLemmas.{refusal_then, replay_cause}
use Rattle.raft_log_items.specs.Holes.{AreHoles, hole_in, written_by}
use Rattle.raft_log_items.specs.Items.{items_at, items_in}
use Rattle.raft_log_tools.specs.Checking.{AnyFoundUnreadable, AreTold, IsFileRefusal, items_of_files}

-- the items of batches as a machine gets them
abbrev pub items_given : List Placed → List (Item EntryIndex)
items_given placed = flat_map (λ (p : Placed). p.items) placed

placed_items : (id : FileId) (bytes : List ℕ) (batches : List FileBatch) (placed : List Placed) → ArePlaced id bytes batches placed → items_given placed ≡ items_in batches
placed_items id bytes [] placed none = ap items_given none
placed_items id bytes (batch ∷ batches) placed (first, rest, is, here, others) =
    ap items_given is ∙ (λ i. here.items i ++ placed_items id bytes batches rest others i)

-- from P on a machine got batches of these items, which gave Q
abbrev pub GivesItems : (List Placed → Type 0) → (List Placed → Type 0) → List (Item EntryIndex) → Type 0
GivesItems P Q items = (placed : List Placed) → P placed → (more : List Placed) × Q (placed ++ more) × (items_given more ≡ items)

pub gives_none : (P : List Placed → Type 0) → GivesItems P P []
gives_none P placed has = ([], subst P (sym (append-nil placed)) has, refl)

-- the batches of one file more
pub gives_more : (P Q R : List Placed → Type 0) (items : List (Item EntryIndex)) (id : FileId) (bytes : List ℕ) (batches : List FileBatch) → GivesItems P Q items
    → ((placed : List Placed) → Q placed → (more : List Placed) × R (placed ++ more) × ArePlaced id bytes batches more) → GivesItems P R (items ++ items_in batches)
gives_more P Q R items id bytes batches so next placed has =
    let before = so placed has in
    let here = next (placed ++ before.0) before.1 in (
      before.0 ++ here.0,
      subst R (append_assoc placed before.0 here.0) here.1,
      flat_map-append (λ (p : Placed). p.items) before.0 here.0 ∙ (λ i. before.2 i ++ placed_items id bytes batches here.0 here.2 i),
    )

-- the items of one file more
pub items_more : (d : Disk) (directories : List Text) (queue : LogQueue) (names : List FileName) (i : ℕ) (name : FileName) (id : FileId) (fd : ℕ) → i < length names → name ≡ get_or names i name → id ≡ id_of queue name.seq
    → IsFileOf d directories queue name fd
    → items_of_files d directories queue (take (i + 1) names) ≡ items_of_files d directories queue (take i names) ++ items_in (batches_in id (d.file fd).bytes)
items_more d directories queue names i name id fd within is same there =
    ap (items_of_files d directories queue) (take_more names i name within ∙ ap (λ (x : FileName). take i names ++ x ∷ []) (sym is))
    ∙ flat_map-append _ (take i names) (name ∷ [])
    ∙ ap (λ (l : List (Item EntryIndex)). items_of_files d directories queue (take i names) ++ l)
    (append-nil _ ∙ ap (λ (o : Option ℕ). (items_at d (id_of queue name.seq) o).items) there ∙ ap (λ (x : FileId). items_in (batches_in x (d.file fd).bytes)) (sym same))

-- ---- refusals

-- a file that is there isn't read: memory is missing, or its reads are refused
pub read_caused : (d : Disk) (m : Meter) (fd : ℕ) (e : Error) → (IsNoFile d fd → ⊥) → IsReplayFault d m fd e → ((f : CorruptionFault) → e ≡ Corruption f → ⊥) → IsCaused (HasOneOf d fd m.unreadable) ⊥ ⊥ ⊥ e
read_caused d m fd e there why sound = elim (replay_cause d m fd e there why) [ inl fault ↦ absurd (sound fault.0 fault.1) | inr caused ↦ caused ]

-- ---- holes

-- what a machine tells of batches it tells of their items
pub told_of_items : (placed : List Placed) (items : List (Item EntryIndex)) (holes : List (ℕ × ℕ)) → AreHoles placed holes → items_given placed ≡ items → AreTold (λ group. hole_in (written_by group items)) holes
told_of_items placed items holes are same = record {
  rising = are.rising;
  exactly = λ group index. (
    λ there. ap (λ (l : List (Item EntryIndex)). hole_in (written_by group l)) (sym same) ∙ (are.exactly group index).0 there,
    λ is. (are.exactly group index).1 (ap (λ (l : List (Item EntryIndex)). hole_in (written_by group l)) same ∙ is),
  );
}

-- ---- one queue after the other

-- why the second is refused
pub file_refusal_then : (d mid : Disk) (directories : List Text) (free free_then : Type 0) (a b c : Meter) (e : Error) → mid ≡ d → RefusesNoMore free free_then a b → IsFileRefusal mid directories free_then b c e → IsFileRefusal d directories free a c e
file_refusal_then d mid directories free free_then a b c e same before why =
    let refused : Type 0 = IsRefusal free_then ⊥ b c ⊎ AnyFoundUnreadable mid directories b in
    let told : Type 0 = IsRefusal free ⊥ a c ⊎ AnyFoundUnreadable d directories a in
    caused_for refused ⊥ ⊥ ⊥ told ⊥ ⊥ ⊥ e
    (λ one. elim one [
      | inl more ↦ inl (refusal_then free free_then ⊥ ⊥ a b c before (λ x. x) more)
      | inr (queue, names, found, unread) ↦ inr (queue, names, subst (λ (x : Disk). AreFound x (Log queue) directories names) same found, (unread.0, unread.1, subst (λ (l : List Text). IsIn (path_of directories queue unread.0) l) before.reads unread.2))
    ])
    (λ x. x) (λ x. x) (λ x. x) why
