-- Whether the records of atomic groups stand together, of the rewrite queue's batches that are replayed.
use Rattle.std.proofs.Common.{◌≡◌, ℕ, Bool, true, false, List, [], ◌∷◌, ◌++◌, map, Option, refl, sym, ap, subst, ◌∙◌, append_assoc, append-nil}
use Rattle.std.specs.Prelude.{◌↔◌, IsTrue, not}
use Rattle.raft_log_records.specs.declared.file_id.LogQueue.{LogQueue}
use Rattle.raft_log_records.specs.declared.file_id.LogQueue.TheVariants.{Append, Rewrite}
use Rattle.raft_log_records.specs.declared.item.AtomicGroupStatus.{AtomicGroupStatus}
use Rattle.raft_log_records.specs.declared.item.EntryIndex.{EntryIndex}
use Rattle.raft_log_records.specs.Item.{Item}
use Rattle.raft_log_memtables.specs.Entries.{placed_in}
use Rattle.raft_log_memtables.specs.Replay.{mark_of}
use Rattle.raft_log_memtables.proofs.Folds.{marks_mapped}
use Rattle.raft_log_purge.specs.Anew.{MayStand, StandBehind, StandTogether, left_open}
use Rattle.raft_log_purge.specs.Together.{Tells}
use Rattle.raft_log_purge.specs.declared.together.Together.{Together}
use Rattle.raft_log_recovery.specs.Replay.{Placed}
use Rattle.raft_log_replay.specs.Batches.{records_in}
use Rattle.raft_log_traced.specs.Traced.{AreOf, if_rewrite, rewrites_in}

abbrev Records : Type 0
Records = List (List (Item EntryIndex))

-- ---- one more batch

one_more : (placed : List Placed) (p : Placed) → rewrites_in (placed ++ p ∷ []) ≡ rewrites_in placed ++ if_rewrite p.handle.id.queue p.items
one_more [] p = append-nil (if_rewrite p.handle.id.queue p.items)
one_more (q ∷ placed) p =
    ap (λ (l : Records). if_rewrite q.handle.id.queue q.items ++ l) (one_more placed p)
    ∙ sym (append_assoc (if_rewrite q.handle.id.queue q.items) (rewrites_in placed) (if_rewrite p.handle.id.queue p.items))

pub no_more : (placed : List Placed) (p : Placed) → p.handle.id.queue ≡ Append → rewrites_in (placed ++ p ∷ []) ≡ rewrites_in placed
no_more placed p queue = one_more placed p ∙ ap (λ (q : LogQueue). rewrites_in placed ++ if_rewrite q p.items) queue ∙ append-nil (rewrites_in placed)

pub one_rewrite : (placed : List Placed) (p : Placed) → p.handle.id.queue ≡ Rewrite → rewrites_in (placed ++ p ∷ []) ≡ rewrites_in placed ++ p.items ∷ []
one_rewrite placed p queue = one_more placed p ∙ ap (λ (q : LogQueue). rewrites_in placed ++ if_rewrite q p.items) queue

-- of the append queue: nothing more is told
pub append_told : (placed : List Placed) (p : Placed) (t : Together) → p.handle.id.queue ≡ Append → Tells t (rewrites_in placed) → Tells t (rewrites_in (placed ++ p ∷ []))
append_told placed p t queue tells = subst (λ (l : Records). Tells t l) (sym (no_more placed p queue)) tells

-- or of the rewrite queue
pub rewrite_told : (placed : List Placed) (p : Placed) (t : Together) → p.handle.id.queue ≡ Rewrite → Tells t (rewrites_in placed ++ p.items ∷ []) → Tells t (rewrites_in (placed ++ p ∷ []))
rewrite_told placed p t queue tells = subst (λ (l : Records). Tells t l) (sym (one_rewrite placed p queue)) tells

-- ---- all batches

abbrev items_of_all : List Placed → Records
items_of_all placed = map (λ p. p.items) placed

no_rewrites : (appends : List Placed) → AreOf Append appends → rewrites_in appends ≡ []
no_rewrites [] none = refl
no_rewrites (p ∷ appends) are = λ j. if_rewrite (are.0 j) p.items ++ no_rewrites appends are.1 j

only_rewrites : (rewrites appends : List Placed) → AreOf Rewrite rewrites → AreOf Append appends → rewrites_in (rewrites ++ appends) ≡ items_of_all rewrites
only_rewrites [] appends one two = no_rewrites appends two
only_rewrites (p ∷ rewrites) appends one two = λ j. if_rewrite (one.0 j) p.items ++ only_rewrites rewrites appends one.1 two j

-- places of entries change no mark
behind_placed : (begun : Option ℕ) (placed : List Placed) → StandBehind begun (items_of_all placed) ↔ StandBehind begun (records_in placed)
behind_placed begun [] = (λ h. h, λ h. h)
behind_placed begun (p ∷ placed) =
    let rest = behind_placed (left_open (mark_of p.items)) placed in (
      λ h. at (sym (marks_mapped (placed_in p.handle) p.items)) (h.0, rest.0 h.1),
      λ h. let now = at (marks_mapped (placed_in p.handle) p.items) h in (now.0, rest.1 now.1),
    )
  where
    at : {m n : Option (ℕ × AtomicGroupStatus)} → m ≡ n → MayStand begun m × StandBehind (left_open m) (records_in placed) → MayStand begun n × StandBehind (left_open n) (records_in placed)
    at e h = subst (λ (m : Option (ℕ × AtomicGroupStatus)). MayStand begun m × StandBehind (left_open m) (records_in placed)) e h

together_placed : (placed : List Placed) → StandTogether (items_of_all placed) ↔ StandTogether (records_in placed)
together_placed [] = (λ h. h, λ h. h)
together_placed (p ∷ placed) =
    let rest = behind_placed (left_open (mark_of p.items)) placed in (
      λ h. subst (λ (m : Option (ℕ × AtomicGroupStatus)). StandBehind (left_open m) (records_in placed)) (sym (marks_mapped (placed_in p.handle) p.items)) (rest.0 h),
      λ h. rest.1 (subst (λ (m : Option (ℕ × AtomicGroupStatus)). StandBehind (left_open m) (records_in placed)) (marks_mapped (placed_in p.handle) p.items) h),
    )

negated : (stand parted : Bool) (P : Type 0) → parted ≡ (not stand) → (IsTrue stand ↔ P) → (parted ≡ false) ↔ P
negated true parted P is told = (λ h. told.0 refl, λ h. is)
negated false parted P is told = (λ h. let never : true ≡ false = sym is ∙ h in absurd cc, λ h. let never : false ≡ true = told.1 h in absurd cc)

-- what is told of all
pub told_of_all : (rewrites appends : List Placed) (t : Together) (stand parted : Bool) → AreOf Rewrite rewrites → AreOf Append appends → Tells t (rewrites_in (rewrites ++ appends)) → parted ≡ (not stand)
    → ((records : Records) → Tells t records → (IsTrue stand ↔ StandTogether records)) → (parted ≡ false) ↔ StandTogether (records_in rewrites)
told_of_all rewrites appends t stand parted one two tells is stands =
    let told = stands (items_of_all rewrites) (subst (λ (l : Records). Tells t l) (only_rewrites rewrites appends one two) tells) in
    let places = together_placed rewrites in
    negated stand parted (StandTogether (records_in rewrites)) is (λ h. places.0 (told.0 h), λ h. told.1 (places.1 h))
