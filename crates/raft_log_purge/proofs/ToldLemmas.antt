-- Records that come one after the other, of atomic groups that stand together.
use Rattle.std.proofs.Common.{◌≡◌, ℕ, Bool, true, false, ◌&&◌, List, [], ◌∷◌, ◌++◌, map, Option, Some, None, refl, sym, ap, subst, ◌∙◌}
use Rattle.std.specs.Prelude.{◌↔◌, IsTrue}
use Rattle.raft_log_records.specs.declared.item.AtomicGroupStatus.{AtomicGroupStatus}
use Rattle.raft_log_records.specs.Item.{Item}
use Rattle.raft_log_memtables.specs.Replay.{mark_of}
use Rattle.raft_log_memtables.proofs.Folds.{marks_mapped}
use Rattle.raft_log_marks.specs.Mapped.{items_map}
use Rattle.raft_log_purge.specs.Anew.{left_open, MayStand, StandBehind, StandTogether}
use Rattle.raft_log_purge.specs.Together.{last_open, MayCome, Tells, MapsTogether}
use Rattle.raft_log_purge.specs.declared.together.Together.{Together}

both_true : (a b : Bool) → (IsTrue (a && b) → (IsTrue a × IsTrue b)) × (IsTrue a → IsTrue b → IsTrue (a && b))
both_true true b = (λ h. (refl, h), λ a h. h)
both_true false b = (λ h. absurd cc, λ a h. a)

pub if_first : (a b c : Bool) → a ≡ true → c ≡ b → c ≡ (a && b)
if_first true b c e h = h
if_first false b c e h = absurd cc

pub if_not_first : (a b c : Bool) → a ≡ false → c ≡ false → c ≡ (a && b)
if_not_first true b c e h = absurd cc
if_not_first false b c e h = h

plain_may_come : (last : Option (Option ℕ)) → MayCome last None
plain_may_come None = tt
plain_may_come (Some begun) = tt

module _ {E : Type 0} where
  one_behind : (begun : Option ℕ) (records : List (List (Item E))) (items : List (Item E)) → StandBehind begun records → MayCome (last_open (Some begun) records) (mark_of items)
      → StandBehind begun (records ++ items ∷ [])
  one_behind begun [] items h m = (m, tt)
  one_behind begun (first ∷ records) items h m = (h.0, one_behind (left_open (mark_of first)) records items h.1 m)

  behind_one : (begun : Option ℕ) (records : List (List (Item E))) (items : List (Item E)) → StandBehind begun (records ++ items ∷ [])
      → StandBehind begun records × MayCome (last_open (Some begun) records) (mark_of items)
  behind_one begun [] items h = (tt, h.0)
  behind_one begun (first ∷ records) items h = let rest = behind_one (left_open (mark_of first)) records items h.1 in ((h.0, rest.0), rest.1)

  one_comes : (records : List (List (Item E))) (items : List (Item E)) → StandTogether records → MayCome (last_open None records) (mark_of items) → StandTogether (records ++ items ∷ [])
  one_comes [] items h m = tt
  one_comes (first ∷ records) items h m = one_behind (left_open (mark_of first)) records items h m

  -- one that has no mark
  pub plain_comes : (records : List (List (Item E))) (items : List (Item E)) → StandTogether records → mark_of items ≡ None → StandTogether (records ++ items ∷ [])
  plain_comes records items h none =
      one_comes records items h (subst (λ (m : Option (ℕ × AtomicGroupStatus)). MayCome (last_open None records) m) (sym none) (plain_may_come (last_open None records)))

  one_came : (records : List (List (Item E))) (items : List (Item E)) → StandTogether (records ++ items ∷ []) → StandTogether records × MayCome (last_open None records) (mark_of items)
  one_came [] items h = (tt, tt)
  one_came (first ∷ records) items h = behind_one (left_open (mark_of first)) records items h

  last_of : (last : Option (Option ℕ)) (records : List (List (Item E))) (items : List (Item E)) → last_open last (records ++ items ∷ []) ≡ Some (left_open (mark_of items))
  last_of last [] items = refl
  last_of last (first ∷ records) items = last_of (Some (left_open (mark_of first))) records items

  pub told_more : (old new : Together) (records : List (List (Item E))) (items : List (Item E)) (m : Option (ℕ × AtomicGroupStatus)) (comes : Bool) → m ≡ mark_of items
      → (IsTrue comes ↔ MayCome old.last m) → new.so_far ≡ (old.so_far && comes) → new.last ≡ Some (left_open m) → Tells old records → Tells new (records ++ items ∷ [])
  told_more old new records items m comes is may so_far last t = record {
    so_far = (
      λ (h : IsTrue new.so_far).
          let both = (both_true old.so_far comes).0 (subst (λ (b : Bool). IsTrue b) so_far h) in
          one_comes records items (t.so_far.0 both.0) (may_now.0 both.1),
      λ (h : StandTogether (records ++ items ∷ [])).
          let both = one_came records items h in
          subst (λ (b : Bool). IsTrue b) (sym so_far) ((both_true old.so_far comes).1 (t.so_far.1 both.0) (may_now.1 both.1)),
    );
    last = last ∙ ap (λ (o : Option (ℕ × AtomicGroupStatus)). Some (left_open o)) is ∙ sym (last_of None records items);
  }
    where
      may_now : IsTrue comes ↔ MayCome (last_open None records) (mark_of items)
      may_now = subst (λ (o : Option (Option ℕ)). IsTrue comes ↔ MayCome o (mark_of items)) t.last (subst (λ (o : Option (ℕ × AtomicGroupStatus)). IsTrue comes ↔ MayCome old.last o) is may)

module _ {E F : Type 0} (f : E → F) where
  behind_mapped : (begun : Option ℕ) (records : List (List (Item E))) → StandBehind begun (map (items_map f) records) ↔ StandBehind begun records
  behind_mapped begun [] = (λ h. h, λ h. h)
  behind_mapped begun (items ∷ records) =
      let rest = behind_mapped (left_open (mark_of items)) records in (
        λ h. let now = at (marks_mapped f items) h in (now.0, rest.0 now.1),
        λ h. at (sym (marks_mapped f items)) (h.0, rest.1 h.1),
      )
    where
      at : {m n : Option (ℕ × AtomicGroupStatus)} → m ≡ n → MayStand begun m × StandBehind (left_open m) (map (items_map f) records) → MayStand begun n × StandBehind (left_open n) (map (items_map f) records)
      at e h = subst (λ (m : Option (ℕ × AtomicGroupStatus)). MayStand begun m × StandBehind (left_open m) (map (items_map f) records)) e h

  together_mapped : (records : List (List (Item E))) → StandTogether (map (items_map f) records) ↔ StandTogether records
  together_mapped [] = (λ h. h, λ h. h)
  together_mapped (items ∷ records) =
      let rest = behind_mapped (left_open (mark_of items)) records in (
        λ h. rest.0 (subst (λ (m : Option (ℕ × AtomicGroupStatus)). StandBehind (left_open m) (map (items_map f) records)) (marks_mapped f items) h),
        λ h. subst (λ (m : Option (ℕ × AtomicGroupStatus)). StandBehind (left_open m) (map (items_map f) records)) (sym (marks_mapped f items)) (rest.1 h),
      )

pub maps_together : {E F : Type 0} → MapsTogether E F
maps_together f records = together_mapped f records
