-- A batch that is taken makes no hole.
use Rattle.std.proofs.Common.{◌≡◌, inl, inr, ℕ, ◌+◌, ◌-◌, ◌<◌, ◌≤◌, Bool, true, false, cond, List, [], ◌∷◌, length, Option, Some, None, refl, subst, arith}
use Rattle.std.specs.Prelude.{IsSome, nat_eq, nat_le, nat_lt}
use Rattle.std.proofs.lemmas.Bool.{cases_lt, cases_eq, eq-eqb, ne_eqb, eqb-true, lt-ltb, le-ltb, le-leb, lt-leb, leb-true}
use Rattle.raft_log_records.specs.Item.{Change, Item}
use Rattle.raft_log_records.specs.Item.Change.{entries, clean, compact, put, delete, mark}
use Rattle.raft_log_records.specs.Spelling.{first_index}
use Rattle.raft_log_records.specs.Batch.{FollowOn}
use Rattle.raft_log_memtables.specs.Content.{GroupContent, Content, entry_at, after_change, after_item, after_batch}
use Rattle.raft_log_memtables.specs.Taken.{TakesFrom, Takes, TakesEach}
use Rattle.raft_log_memtables.specs.ContentLaws.{HasNoHole, HasNoHoles, IsRun, AreRuns, MakesNoHole}

none_is : {E : Type 0} (o : Option E) → o ≡ None → IsSome o → ⊥
none_is None e h = cc
none_is (Some x) e h = cc

-- ---- entries that follow one another

run_has : {E : Type 0} (es : List (ℕ × E)) (next index : ℕ) → FollowOn (λ e. e.0) next es → next ≤ index → index < next + length es → IsSome (entry_at es index)
run_has [] next index h a b = absurd (omega arith)
run_has (e ∷ es) next index h a b =
    elim (cases_eq e.0 index) [
      | inl same ↦ rw (eq-eqb e.0 index same) refl
      | inr other ↦ rw (ne_eqb e.0 index other) (run_has es (next + 1) index h.1 (omega (arith, h.0)) (omega arith))
    ]

run_only : {E : Type 0} (es : List (ℕ × E)) (next index : ℕ) → FollowOn (λ e. e.0) next es → IsSome (entry_at es index) → (next ≤ index) × (index < next + length es)
run_only [] next index h s = absurd cc
run_only (e ∷ es) next index h s =
    elim (cases_eq e.0 index) [
      | inl same ↦ (omega (arith, h.0), omega (arith, h.0))
      | inr other ↦
          let r = run_only es (next + 1) index h.1 (rw (ne_eqb e.0 index other) at s) in
          (omega arith, omega arith)
    ]

-- ---- a change

module _ {E : Type 0} (old : ℕ → Option E) (whole : HasNoHole old) where
  run_whole : (es : List (ℕ × E)) → FollowOn (λ e. e.0) (first_index es) es → TakesFrom old (first_index es) → HasNoHole (λ index. cond (nat_le (first_index es) index) (entry_at es index) (old index))
  run_whole es run takes low index high a b l h =
      elim (cases_lt index (first_index es)) [
        | inl below ↦
            let before : IsSome (old low) = rw (lt-leb (first_index es) low (omega arith)) at l in
            rw (lt-leb (first_index es) index below) (elim (cases_lt high (first_index es)) [
              | inl under ↦ whole low index high a b before (rw (lt-leb (first_index es) high under) at h)
              | inr over ↦ elim takes [
                | inl nothing ↦ absurd (none_is (old low) (nothing low (le-leb 0 low (omega arith))) before)
                | inr both ↦
                    let m = both.1 in
                    let up : first_index es - 1 ≤ m.0 = leb-true (first_index es - 1) m.0 m.1 in
                    whole low index m.0 a (omega arith) before m.2
              ]
            ])
        | inr above ↦
            let last : IsSome (entry_at es high) = rw (le-leb (first_index es) high (omega arith)) at h in
            let bounds = run_only es (first_index es) high run last in
            rw (le-leb (first_index es) index above) (run_has es (first_index es) index run above (omega arith))
      ]

  cut_whole : (limit : ℕ) → HasNoHole (λ index. cond (nat_lt index limit) None (old index))
  cut_whole limit low index high a b l h =
      elim (cases_lt low limit) [
        | inl below ↦ let gone = rw (lt-ltb low limit below) at l in absurd cc
        | inr above ↦
            let before : IsSome (old low) = rw (le-ltb low limit above) at l in
            let behind : IsSome (old high) = rw (le-ltb high limit (omega arith)) at h in
            rw (le-ltb index limit (omega arith)) (whole low index high a b before behind)
      ]

change_whole : {E : Type 0} (c : Change E) (g : GroupContent E) → IsRun c → Takes c g → HasNoHole g.entry → HasNoHole (after_change c g).entry
change_whole (entries es) g run takes whole = run_whole g.entry whole es run takes
change_whole clean g run takes whole = λ low index high a b l h. l
change_whole (compact limit) g run takes whole = cut_whole g.entry whole limit
change_whole (put key value) g run takes whole = whole
change_whole (delete key) g run takes whole = whole
change_whole (mark id status) g run takes whole = whole

-- ---- items

item_whole : {E : Type 0} (item : Item E) (content : Content E) → IsRun item.change → Takes item.change (content item.group) → HasNoHoles content → HasNoHoles (after_item item content)
item_whole item content run takes whole group = by_test (nat_eq item.group group) refl
  where
    by_test : (b : Bool) → nat_eq item.group group ≡ b → HasNoHole (cond b (after_change item.change (content group)) (content group)).entry
    by_test true k = change_whole item.change (content group) run (subst (λ (n : ℕ). Takes item.change (content n)) (eqb-true item.group group k) takes) (whole group)
    by_test false k = whole group

batch_whole : {E : Type 0} (items : List (Item E)) (content : Content E) → AreRuns items → TakesEach items content → HasNoHoles content → HasNoHoles (after_batch items content)
batch_whole [] content runs takes whole = whole
batch_whole (item ∷ items) content runs takes whole = batch_whole items (after_item item content) runs.1 takes.1 (item_whole item content runs.0 takes.0 whole)

pub makes_no_hole : {E : Type 0} → MakesNoHole E
makes_no_hole items content runs takes whole = batch_whole items content runs takes whole
