-- Why the append queue over the rewrite queue gives the content.
use Rattle.std.proofs.Common.{◌≡◌, ◌≤◌, ℕ, Bool, true, false, cond, List, [], ◌∷◌, ◌++◌, refl, sym, ap, ◌∙◌, le_trans, le_refl, true≢false}
use Rattle.std.specs.Prelude.{nat_le}
use Rattle.std.proofs.lemmas.Bool.{or_parts, or_from, leb-true, le-leb}
use Rattle.raft_log_records.specs.Item.{Item}
use Rattle.raft_log_memtables.specs.Content.{Content, after_batch}
use Rattle.raft_log_memtables.specs.Replay.{content_of}
use Rattle.raft_log_covers.specs.Cells.{Cell, held, batch_sets, batches_set, after_batches, AreUnmarked}
use Rattle.raft_log_covers.specs.Queues.{Filed, batches_of, batches_from, FilesRise, Covers}
use Rattle.raft_log_covers.proofs.CellLemmas.{batch_left, batches_left, batches_are_set, batches_set-append, after_batches-append, cells_are_all, records_compose}

too_late : (f first file : ℕ) → f ≤ first → nat_le f file ≡ false → nat_le first file ≡ true → ⊥
too_late f first file h x y = true≢false (sym (le-leb f file (le_trans h (leb-true first file y))) ∙ x)

module _ {E : Type 0} where
  from_step : (f : ℕ) (b : Filed E) (bs : List (Filed E)) (t : Bool) → nat_le f b.file ≡ t → batches_from f (b ∷ bs) ≡ cond t (b.items ∷ batches_from f bs) (batches_from f bs)
  from_step f b bs t e = ap (λ x. cond x (b.items ∷ batches_from f bs) (batches_from f bs)) e

  -- where all files are late enough, all batches stay
  pub all_stay : (f : ℕ) (bs : List (Filed E)) → FilesRise f bs → batches_from f bs ≡ batches_of bs
  all_stay f bs rise = go f bs f rise (le_refl f)
    where
      go : (f : ℕ) (bs : List (Filed E)) (least : ℕ) → FilesRise least bs → f ≤ least → batches_from f bs ≡ batches_of bs
      go f [] least rise h = refl
      go f (b ∷ bs) least rise h = from_step f b bs true (le-leb f b.file (le_trans h rise.0)) ∙ ap (λ l. b.items ∷ l) (go f bs b.file rise.1 (le_trans h rise.0))

  -- the batches from a file on come behind all others
  pub parted : (f least : ℕ) (bs : List (Filed E)) → FilesRise least bs → (gone : List (List (Item E))) × (batches_of bs ≡ gone ++ batches_from f bs)
  parted f least [] rise = ([], refl)
  parted f least (b ∷ bs) rise = by_file (nat_le f b.file) refl (parted f b.file bs rise.1)
    where
      by_file : (t : Bool) → nat_le f b.file ≡ t → ((gone : List (List (Item E))) × (batches_of bs ≡ gone ++ batches_from f bs)) → (gone : List (List (Item E))) × (batches_of (b ∷ bs) ≡ gone ++ batches_from f (b ∷ bs))
      by_file true e rest = ([], sym (all_stay f (b ∷ bs) (leb-true f b.file e, rise.1)))
      by_file false e rest = (b.items ∷ rest.0, ap (λ l. b.items ∷ l) rest.1 ∙ sym (ap (λ l. b.items ∷ (rest.0 ++ l)) (from_step f b bs false e)))

  -- fewer batches set fewer cells
  abbrev pub set_by : ℕ → Cell → List (List (Item E)) → Bool
  set_by group c l = batches_set l group c

  fewer_step : (f first : ℕ) → f ≤ first → (b : Filed E) (bs : List (Filed E)) (group : ℕ) (c : Cell) → (batches_set (batches_from f bs) group c ≡ false → batches_set (batches_from first bs) group c ≡ false)
      → (t : Bool) → nat_le f b.file ≡ t → (u : Bool) → nat_le first b.file ≡ u → batches_set (batches_from f (b ∷ bs)) group c ≡ false → batches_set (batches_from first (b ∷ bs)) group c ≡ false
  fewer_step f first h b bs group c rest true x true y e =
      let parts = or_parts (batch_sets b.items group c) (batches_set (batches_from f bs) group c) (sym (ap (set_by group c) (from_step f b bs true x)) ∙ e) in
      ap (set_by group c) (from_step first b bs true y) ∙ or_from (batch_sets b.items group c) (batches_set (batches_from first bs) group c) parts.0 (rest parts.1)
  fewer_step f first h b bs group c rest true x false y e =
      let parts = or_parts (batch_sets b.items group c) (batches_set (batches_from f bs) group c) (sym (ap (set_by group c) (from_step f b bs true x)) ∙ e) in
      ap (set_by group c) (from_step first b bs false y) ∙ rest parts.1
  fewer_step f first h b bs group c rest false x true y e = absurd (too_late f first b.file h x y)
  fewer_step f first h b bs group c rest false x false y e = ap (set_by group c) (from_step first b bs false y) ∙ rest (sym (ap (set_by group c) (from_step f b bs false x)) ∙ e)

  pub fewer_set : (f first : ℕ) → f ≤ first → (bs : List (Filed E)) (group : ℕ) (c : Cell) → batches_set (batches_from f bs) group c ≡ false → batches_set (batches_from first bs) group c ≡ false
  fewer_set f first h [] group c e = refl
  fewer_set f first h (b ∷ bs) group c e = fewer_step f first h b bs group c (fewer_set f first h bs group c) (nat_le f b.file) refl (nat_le first b.file) refl e

  pub covers_earlier : (older content : Content E) (bs : List (Filed E)) (f first : ℕ) → f ≤ first → Covers older content (batches_from first bs) → Covers older content (batches_from f bs)
  covers_earlier older content bs f first h covers group c e = covers group c (fewer_set f first h bs group c e)

  -- what is replayed over a cover is the content
  pub replayed : (older start : Content E) (gone kept : List (List (Item E))) → Covers older (after_batches (gone ++ kept) start) kept → after_batches kept older ≡ after_batches (gone ++ kept) start
  replayed older start gone kept covers = cells_are_all (after_batches kept older) (after_batches (gone ++ kept) start) same
    where
      same : (group : ℕ) (c : Cell) → held (after_batches kept older group) c ≡ held (after_batches (gone ++ kept) start group) c
      same group c = by_test (batches_set kept group c) refl
        where
          by_test : (b : Bool) → batches_set kept group c ≡ b → held (after_batches kept older group) c ≡ held (after_batches (gone ++ kept) start group) c
          by_test true e = batches_are_set kept group c e older (after_batches gone start) ∙ sym (ap (λ s. held (s group) c) (after_batches-append gone kept start))
          by_test false e = batches_left kept group c e older ∙ covers group c e

  unmarked_from : (f : ℕ) (bs : List (Filed E)) → AreUnmarked (batches_of bs) → AreUnmarked (batches_from f bs)
  unmarked_from f [] u = tt
  unmarked_from f (b ∷ bs) u = by_file (nat_le f b.file) (unmarked_from f bs u.1)
    where
      by_file : (t : Bool) → AreUnmarked (batches_from f bs) → AreUnmarked (cond t (b.items ∷ batches_from f bs) (batches_from f bs))
      by_file true rest = (u.0, rest)
      by_file false rest = rest

  pub read_as_the_content : (rewrites : List (List (Item E))) (bs : List (Filed E)) (start : Content E) (least first : ℕ) → FilesRise least bs → AreUnmarked (batches_of bs)
      → Covers (content_of rewrites) (after_batches (batches_of bs) start) (batches_from first bs) → (f : ℕ) → f ≤ first → content_of (rewrites ++ batches_from f bs) ≡ after_batches (batches_of bs) start
  read_as_the_content rewrites bs start least first rise u covers f h =
      let parts = parted f least bs rise in
      let whole : after_batches (batches_of bs) start ≡ after_batches (parts.0 ++ batches_from f bs) start = ap (λ l. after_batches l start) parts.1 in
      let early : Covers (content_of rewrites) (after_batches (batches_of bs) start) (batches_from f bs) = covers_earlier (content_of rewrites) (after_batches (batches_of bs) start) bs f first h covers in
      let fits : Covers (content_of rewrites) (after_batches (parts.0 ++ batches_from f bs) start) (batches_from f bs) = λ group c e. early group c e ∙ ap (λ s. held (s group) c) whole in
      records_compose rewrites (batches_from f bs) (unmarked_from f bs u) ∙ replayed (content_of rewrites) start parts.0 (batches_from f bs) fits ∙ sym whole

  -- ---- a write

  last_kept : (first : ℕ) (bs : List (Filed E)) (b : Filed E) → first ≤ b.file → batches_from first (bs ++ b ∷ []) ≡ batches_from first bs ++ b.items ∷ []
  last_kept first [] b h = from_step first b [] true (le-leb first b.file h)
  last_kept first (a ∷ bs) b h = by_file (nat_le first a.file) (last_kept first bs b h)
    where
      by_file : (t : Bool) → batches_from first (bs ++ b ∷ []) ≡ batches_from first bs ++ b.items ∷ []
          → cond t (a.items ∷ batches_from first (bs ++ b ∷ [])) (batches_from first (bs ++ b ∷ [])) ≡ cond t (a.items ∷ batches_from first bs) (batches_from first bs) ++ b.items ∷ []
      by_file true e = ap (λ l. a.items ∷ l) e
      by_file false e = e

  pub writes_keep_covers : (older content : Content E) (bs : List (Filed E)) (first file : ℕ) (items : List (Item E)) → first ≤ file
      → Covers older content (batches_from first bs) → Covers older (after_batch items content) (batches_from first (bs ++ record { file = file; items = items } ∷ []))
  writes_keep_covers older content bs first file items h covers group c e =
      let both = or_parts (batches_set (batches_from first bs) group c) (batches_set (items ∷ []) group c)
      (sym (batches_set-append (batches_from first bs) (items ∷ []) group c) ∙ sym (ap (set_by group c) (last_kept first bs (record { file = file; items = items }) h)) ∙ e) in
      let one = or_parts (batch_sets items group c) false both.1 in
      covers group c both.0 ∙ sym (batch_left items group c one.0 content)
