-- What is written of one group keeps an account.
use Rattle.std.proofs.Common.{◌≡◌, inl, inr, ⊎_elim, ℕ, Bool, true, false, cond, ◌&&◌, ◌||◌, List, [], ◌∷◌, ◌++◌, Option, Some, None, refl, sym, ap, ◌∙◌, subst}
use Rattle.std.specs.Prelude.{nat_eq, nat_le, nat_lt, bytes_eq, is_some, IsSome}
use Rattle.std.specs.Cmp.Lexicographic.{bytes_decides}
use Rattle.std.proofs.lemmas.Bool.{or_parts, or_left, eqb-true, eq-eqb}
use Rattle.raft_log_records.specs.declared.item.AtomicGroupStatus.{AtomicGroupStatus}
use Rattle.raft_log_records.specs.Item.{Change, Item}
use Rattle.raft_log_records.specs.Item.Change.{entries, clean, compact, put, delete, mark}
use Rattle.raft_log_records.specs.Spelling.{first_index}
use Rattle.raft_log_memtables.specs.Content.{GroupContent, Content, no_group, nothing, entry_at, after_change, after_item, after_batch}
use Rattle.raft_log_memtables.specs.Replay.{mark_in, mark_of, content_of}
use Rattle.raft_log_memtables.proofs.Folds.{after_batch-append}
use Rattle.raft_log_covers.specs.Cells.{Cell, held, sets, batch_sets}
use Rattle.raft_log_covers.specs.Cells.Cell.{presence, index, key}
use Rattle.raft_log_covers.specs.Cells.Held.{is_there, an_entry, a_value}
use Rattle.raft_log_covers.specs.Queues.{Filed}
use Rattle.raft_log_covers.specs.Written.Written.{alone}
use Rattle.raft_log_covers.specs.Account.{Account, IsAccountedBy, IsAccounted, Settles}
use Rattle.raft_log_covers.specs.Marks.{of_group, after_changes, changes_set, Names, with_group, SettlesIn, deletes, is_in, marks, MayMark, names_after_marks, MayRewrite, names_after_entries, names_after_put}
use Rattle.raft_log_covers.proofs.CellLemmas.{records_compose}
use Rattle.raft_log_covers.proofs.AccountLemmas.{rewrites_account}

none_or : {X : Type 0} (b : Bool) (x : Option X) → x ≡ None → cond b None x ≡ None
none_or true x h = refl
none_or false x h = h

module _ {E : Type 0} where
  -- ---- changes of one group

  pub item_of_group : (group : ℕ) (change : Change E) (s : Content E) → after_item (record { group = group; change = change }) s group ≡ after_change change (s group)
  item_of_group group change s = ap (λ (b : Bool). cond b (after_change change (s group)) (s group)) (eq-eqb group group refl)

  pub in_group : (group : ℕ) (changes : List (Change E)) (s : Content E) → after_batch (of_group group changes) s group ≡ after_changes changes (s group)
  in_group group [] s = refl
  in_group group (change ∷ changes) s =
      in_group group changes (after_item (record { group = group; change = change }) s) ∙ ap (after_changes changes) (item_of_group group change s)

  pub set_in_group : (group : ℕ) (changes : List (Change E)) (c : Cell) → batch_sets (of_group group changes) group c ≡ changes_set changes c
  set_in_group group [] c = refl
  set_in_group group (change ∷ changes) c =
      ap (λ (b : Bool). (b && sets change c) || batch_sets (of_group group changes) group c) (eq-eqb group group refl)
      ∙ ap (λ (b : Bool). sets change c || b) (set_in_group group changes c)

  pub left_elsewhere : (group other : ℕ) (changes : List (Change E)) (c : Cell) → nat_eq group other ≡ false → batch_sets (of_group group changes) other c ≡ false
  left_elsewhere group other [] c e = refl
  left_elsewhere group other (change ∷ changes) c e =
      ap (λ (b : Bool). (b && sets change c) || batch_sets (of_group group changes) other c) e ∙ left_elsewhere group other changes c e

  abbrev pub SettlesAll : List (Change E) → GroupContent E → GroupContent E → Names → Names → Type 0
  SettlesAll changes older g names after = (c : Cell) → SettlesIn changes older g c (names c) (after c)

  pub group_settles : (account : Account) (records : List (List (Item E))) (content : Content E) (bs : List (Filed E)) (group : ℕ) (changes : List (Change E)) (after : Names)
      → mark_of (of_group group changes) ≡ None → IsAccounted account (content_of records) content bs → SettlesAll changes (content_of records group) (content group) (account group) after
      → IsAccounted (with_group group after account) (content_of (records ++ of_group group changes ∷ [])) content bs
  group_settles account records content bs group changes after unmarked accounted settles =
      rewrites_account account (with_group group after account) records content bs (alone (of_group group changes)) unmarked accounted (λ other c. by_group other c (nat_eq group other) refl)
    where
      older : Content E
      older = content_of records

      here : (c : Cell) (o p : Option ℕ) → SettlesIn changes (content_of records group) (content group) c o p → Settles (of_group group changes) (content_of records) content group c o p
      here c o None h = ⊎_elim
          (λ (set : (changes_set changes c ≡ true) × (held (after_changes changes no_group) c ≡ held (content group) c)).
          inl (set_in_group group changes c ∙ set.0, ap (λ g. held g c) (in_group group changes nothing) ∙ set.1))
          (λ (left : (changes_set changes c ≡ false) × (held (content_of records group) c ≡ held (content group) c)). inr (set_in_group group changes c ∙ left.0, left.1))
          h
      here c o (Some file) h = h

      elsewhere : (other : ℕ) (c : Cell) (o : Option ℕ) → nat_eq group other ≡ false → IsAccountedBy o (content_of records) content bs other c → Settles (of_group group changes) (content_of records) content other c o o
      elsewhere other c None e h = inr (left_elsewhere group other changes c e, h)
      elsewhere other c (Some file) e h = refl

      by_group : (other : ℕ) (c : Cell) (b : Bool) → nat_eq group other ≡ b → Settles (of_group group changes) (content_of records) content other c (account other c) (cond b (after c) (account other c))
      by_group other c true e = subst (λ (n : ℕ). Settles (of_group group changes) (content_of records) content n c (account n c) (after c)) (eqb-true group other e) (here c (account group c) (after c) (settles c))
      by_group other c false e = elsewhere other c (account other c) e (accounted other c)

  -- where nothing is named, the group has what the rewrite queue has
  pub agrees : (o : Option ℕ) (older content : Content E) (bs : List (Filed E)) (group : ℕ) (c : Cell) → o ≡ None → IsAccountedBy o older content bs group c → held (older group) c ≡ held (content group) c
  agrees o older content bs group c e h = subst (λ (x : Option ℕ). IsAccountedBy x older content bs group c) e h

-- ---- marks

module _ (E : Type 0) where
  deletes_unmarked : (group : ℕ) (ks : List (List ℕ)) → mark_of {E = E} (of_group group (deletes ks)) ≡ None
  deletes_unmarked group [] = refl
  deletes_unmarked group (k ∷ ks) = deletes_unmarked group ks

  pub marks_unmarked : (group : ℕ) (cleaned : Bool) (limit : ℕ) (ks : List (List ℕ)) → mark_of {E = E} (of_group group (marks cleaned limit ks)) ≡ None
  marks_unmarked group true limit ks = deletes_unmarked group ks
  marks_unmarked group false limit ks = deletes_unmarked group ks

  deletes_there : (ks : List (List ℕ)) (g : GroupContent E) → g.there ≡ true → (after_changes (deletes ks) g).there ≡ true
  deletes_there [] g h = h
  deletes_there (k ∷ ks) g h = deletes_there ks (after_change (delete k) g) refl

  pub deletes_entry : (ks : List (List ℕ)) (g : GroupContent E) (i : ℕ) → (after_changes (deletes ks) g).entry i ≡ g.entry i
  deletes_entry [] g i = refl
  deletes_entry (k ∷ ks) g i = deletes_entry ks (after_change (delete k) g) i

  pub deletes_value : (ks : List (List ℕ)) (g : GroupContent E) (k : List ℕ) → g.value k ≡ None → (after_changes (deletes ks) g).value k ≡ None
  deletes_value [] g k h = h
  deletes_value (d ∷ ks) g k h = deletes_value ks (after_change (delete d) g) k (none_or (bytes_eq d k) (g.value k) h)

  deletes_leave_entries : (ks : List (List ℕ)) (i : ℕ) → changes_set {E = E} (deletes ks) (index i) ≡ false
  deletes_leave_entries [] i = refl
  deletes_leave_entries (k ∷ ks) i = deletes_leave_entries ks i

  deletes_set_keys : (ks : List (List ℕ)) (k : List ℕ) → changes_set {E = E} (deletes ks) (key k) ≡ is_in k ks
  deletes_set_keys [] k = refl
  deletes_set_keys (d ∷ ks) k = ap (λ (b : Bool). bytes_eq d k || b) (deletes_set_keys ks k)

  abbrev marked : Bool → ℕ → List (List ℕ) → GroupContent E
  marked cleaned limit ks = after_changes (marks cleaned limit ks) no_group

  marked_there : (cleaned : Bool) (limit : ℕ) (ks : List (List ℕ)) → (marked cleaned limit ks).there ≡ true
  marked_there true limit ks = deletes_there ks (after_change (compact limit) no_group) refl
  marked_there false limit ks = deletes_there ks (after_change (compact limit) no_group) refl

  marked_entry : (cleaned : Bool) (limit : ℕ) (ks : List (List ℕ)) (i : ℕ) → (marked cleaned limit ks).entry i ≡ None
  marked_entry true limit ks i = deletes_entry ks (after_change (compact limit) no_group) i ∙ none_or (nat_lt i limit) None refl
  marked_entry false limit ks i = deletes_entry ks (after_change (compact limit) no_group) i ∙ none_or (nat_lt i limit) None refl

  marked_value : (cleaned : Bool) (limit : ℕ) (ks : List (List ℕ)) (k : List ℕ) → (marked cleaned limit ks).value k ≡ None
  marked_value true limit ks k = deletes_value ks (after_change (compact limit) no_group) k refl
  marked_value false limit ks k = deletes_value ks (after_change (compact limit) no_group) k refl

  sets_presence : (cleaned : Bool) (limit : ℕ) (ks : List (List ℕ)) → changes_set {E = E} (marks cleaned limit ks) presence ≡ true
  sets_presence true limit ks = refl
  sets_presence false limit ks = refl

  sets_low : (cleaned : Bool) (limit : ℕ) (ks : List (List ℕ)) (i : ℕ) → nat_lt i limit ≡ true → changes_set {E = E} (marks cleaned limit ks) (index i) ≡ true
  sets_low true limit ks i h = refl
  sets_low false limit ks i h = or_left (nat_lt i limit) (changes_set {E = E} (deletes ks) (index i)) h

  leaves_high : (limit : ℕ) (ks : List (List ℕ)) (i : ℕ) → nat_lt i limit ≡ false → changes_set {E = E} (marks false limit ks) (index i) ≡ false
  leaves_high limit ks i h = ap (λ (b : Bool). b || changes_set {E = E} (deletes ks) (index i)) h ∙ deletes_leave_entries ks i

  module _ (older g : GroupContent E) (names : Names) (limit : ℕ) (is_empty : Bool) (ks : List (List ℕ)) where
    abbrev AtMarks : Bool → Cell → Option ℕ → Option ℕ → Type 0
    AtMarks cleaned c old new = SettlesIn (marks cleaned limit ks) older g c old new

    mark_sets : (cleaned : Bool) (c : Cell) (old : Option ℕ) → changes_set {E = E} (marks cleaned limit ks) c ≡ true → held (marked cleaned limit ks) c ≡ held g c → AtMarks cleaned c old None
    mark_sets cleaned c old s v = inl (s, v)

    no_entry_at : (cleaned : Bool) (i : ℕ) → g.entry i ≡ None → held (marked cleaned limit ks) (index i) ≡ held g (index i)
    no_entry_at cleaned i h = ap an_entry (marked_entry cleaned limit ks i ∙ sym h)

    no_value_at : (cleaned : Bool) (k : List ℕ) → g.value k ≡ None → held (marked cleaned limit ks) (key k) ≡ held g (key k)
    no_value_at cleaned k h = ap a_value (marked_value cleaned limit ks k ∙ sym h)

    -- an index that is named no more
    entry_settled : (cleaned : Bool) → MayMark older g names cleaned limit is_empty ks → (i : ℕ) (old : Option ℕ) (low : Bool) → nat_lt i limit ≡ low → (is_empty || low) ≡ true → AtMarks cleaned (index i) old None
    entry_settled cleaned may i old true l e = mark_sets cleaned (index i) old (sets_low cleaned limit ks i l) (no_entry_at cleaned i (may.below i l))
    entry_settled true may i old false l e = mark_sets true (index i) old refl (no_entry_at true i (may.no_entry (only is_empty e) i))
      where
        only : (b : Bool) → (b || false) ≡ true → b ≡ true
        only true h = refl
        only false h = h
    entry_settled false may i old false l e =
        inr (leaves_high limit ks i l, ap an_entry (may.past (only is_empty e) refl i l ∙ sym (may.no_entry (only is_empty e) i)))
      where
        only : (b : Bool) → (b || false) ≡ true → b ≡ true
        only true h = refl
        only false h = h

    -- an index that stays as it was named
    entry_stays : (cleaned : Bool) → MayMark older g names cleaned limit is_empty ks → (i : ℕ) (old : Option ℕ) → old ≡ names (index i) → (old ≡ None → held older (index i) ≡ held g (index i)) → nat_lt i limit ≡ false
        → AtMarks cleaned (index i) old old
    entry_stays cleaned may i (Some file) e same l = refl
    entry_stays true may i None e same l = mark_sets true (index i) None refl (no_entry_at true i (may.entries_since refl i (sym e)))
    entry_stays false may i None e same l = inr (leaves_high limit ks i l, same refl)

    entry_case : (cleaned : Bool) → MayMark older g names cleaned limit is_empty ks → (i : ℕ) → (names (index i) ≡ None → held older (index i) ≡ held g (index i)) → (b : Bool) → (is_empty || nat_lt i limit) ≡ b
        → AtMarks cleaned (index i) (names (index i)) (cond b None (names (index i)))
    entry_case cleaned may i same true e = entry_settled cleaned may i (names (index i)) (nat_lt i limit) refl e
    entry_case cleaned may i same false e = entry_stays cleaned may i (names (index i)) refl same (or_parts is_empty (nat_lt i limit) e).1

    key_left : (cleaned : Bool) → MayMark older g names cleaned limit is_empty ks → (k : List ℕ) (old : Option ℕ) → (cleaned ≡ true → g.value k ≡ None) → (cleaned ≡ false → is_in k ks ≡ false → held older (key k) ≡ held g (key k))
        → AtMarks cleaned (key k) old None
    key_left true may k old since same = mark_sets true (key k) old refl (no_value_at true k (since refl))
    key_left false may k old since same = by_list (is_in k ks) refl
      where
        by_list : (b : Bool) → is_in k ks ≡ b → AtMarks false (key k) old None
        by_list true e = mark_sets false (key k) old (deletes_set_keys ks k ∙ e) (no_value_at false k (may.gone k e))
        by_list false e = inr (deletes_set_keys ks k ∙ e, same refl e)

    key_stays : (cleaned : Bool) → MayMark older g names cleaned limit is_empty ks → (k : List ℕ) (old : Option ℕ) → old ≡ names (key k) → (old ≡ None → held older (key k) ≡ held g (key k)) → AtMarks cleaned (key k) old old
    key_stays cleaned may k (Some file) e same = refl
    key_stays cleaned may k None e same = key_left cleaned may k None (λ c. may.keys_since c k (sym e)) (λ c n. same refl)

    key_case : (cleaned : Bool) → MayMark older g names cleaned limit is_empty ks → (k : List ℕ) → (names (key k) ≡ None → held older (key k) ≡ held g (key k)) → (v : Option (List ℕ)) → g.value k ≡ v
        → AtMarks cleaned (key k) (names (key k)) (cond (is_some v) (names (key k)) None)
    key_case cleaned may k same (Some v) e = key_stays cleaned may k (names (key k)) refl same
    key_case cleaned may k same None e = key_left cleaned may k (names (key k)) (λ c. e) (λ c n. ap a_value (may.all_gone c k e n ∙ sym e))

    pub marks_settle_in : (cleaned : Bool) → MayMark older g names cleaned limit is_empty ks → ((c : Cell) → names c ≡ None → held older c ≡ held g c) → SettlesAll (marks cleaned limit ks) older g names (names_after_marks g names limit is_empty)
    marks_settle_in cleaned may same presence = inl (sets_presence cleaned limit ks, ap is_there (marked_there cleaned limit ks ∙ sym may.there))
    marks_settle_in cleaned may same (index i) = entry_case cleaned may i (same (index i)) (is_empty || nat_lt i limit) refl
    marks_settle_in cleaned may same (key k) = key_case cleaned may k (same (key k)) (g.value k) refl

  pub marks_settle : (account : Account) (records : List (List (Item E))) (content : Content E) (bs : List (Filed E)) (group : ℕ) (cleaned : Bool) (limit : ℕ) (is_empty : Bool) (ks : List (List ℕ))
      → IsAccounted account (content_of records) content bs → MayMark (content_of records group) (content group) (account group) cleaned limit is_empty ks
      → IsAccounted (with_group group (names_after_marks (content group) (account group) limit is_empty) account) (content_of (records ++ of_group group (marks cleaned limit ks) ∷ [])) content bs
  marks_settle account records content bs group cleaned limit is_empty ks accounted may =
      group_settles account records content bs group (marks cleaned limit ks) (names_after_marks (content group) (account group) limit is_empty) (marks_unmarked group cleaned limit ks) accounted
      (marks_settle_in (content_of records group) (content group) (account group) limit is_empty ks cleaned may
      (λ c e. agrees (account group c) (content_of records) content bs group c e (accounted group c)))

  sets_all : (c : Cell) → changes_set {E = E} (clean ∷ []) c ≡ true
  sets_all presence = refl
  sets_all (index i) = refl
  sets_all (key k) = refl

  pub cleans_settle : (account : Account) (records : List (List (Item E))) (content : Content E) (bs : List (Filed E)) (group : ℕ)
      → IsAccounted account (content_of records) content bs → ((c : Cell) → held (content group) c ≡ held no_group c)
      → IsAccounted (with_group group (λ c. None) account) (content_of (records ++ of_group group (clean ∷ []) ∷ [])) content bs
  cleans_settle account records content bs group accounted gone =
      group_settles account records content bs group (clean ∷ []) (λ c. None) refl accounted (λ c. inl (sets_all c, sym (gone c)))

module _ {E : Type 0} where
  -- ---- entries

  pub entries_settle : (account : Account) (records : List (List (Item E))) (content : Content E) (bs : List (Filed E)) (group : ℕ) (es : List (ℕ × E)) (settled : ℕ → Bool)
      → IsAccounted account (content_of records) content bs → MayRewrite (content group) (account group) es settled
      → IsAccounted (with_group group (names_after_entries (account group) es settled) account) (content_of (records ++ of_group group (entries es ∷ []) ∷ [])) content bs
  entries_settle account records content bs group es settled accounted may =
      group_settles account records content bs group (entries es ∷ []) (names_after_entries (account group) es settled) refl accounted by_cell
    where
      same : (c : Cell) → account group c ≡ None → held (content_of records group) c ≡ held (content group) c
      same c e = agrees (account group c) (content_of records) content bs group c e (accounted group c)

      in_queue : (o : Option ℕ) (c : Cell) → (o ≡ None → (changes_set {E = E} (entries es ∷ []) c ≡ false) × (held (content_of records group) c ≡ held (content group) c))
          → SettlesIn (entries es ∷ []) (content_of records group) (content group) c o o
      in_queue None c h = inr (h refl)
      in_queue (Some file) c h = refl

      not_none : (o : Option ℕ) (P : Type 0) → IsSome o → o ≡ None → P
      not_none None P h e = absurd cc
      not_none (Some file) P h e = absurd cc

      by_index : (i : ℕ) (from done : Bool) → nat_le (first_index es) i ≡ from → settled i ≡ done
          → SettlesIn (entries es ∷ []) (content_of records group) (content group) (index i) (account group (index i)) (cond (from && done) None (account group (index i)))
      by_index i true true a b = inl (or_left (nat_le (first_index es) i) false a, ap an_entry (ap (λ (t : Bool). cond t (entry_at es i) None) a ∙ may.same i a b))
      by_index i true false a b = in_queue (account group (index i)) (index i) (not_none (account group (index i)) ((changes_set {E = E} (entries es ∷ []) (index i) ≡ false) × (held (content_of records group) (index i) ≡ held (content group) (index i))) (may.named i a b))
      by_index i false done a b = in_queue (account group (index i)) (index i) (λ e. (ap (λ (t : Bool). t || false) a, same (index i) e))

      by_cell : (c : Cell) → SettlesIn (entries es ∷ []) (content_of records group) (content group) c (account group c) (names_after_entries (account group) es settled c)
      by_cell presence = inl (refl, ap is_there (sym may.there))
      by_cell (index i) = by_index i (nat_le (first_index es) i) (settled i) refl refl
      by_cell (key k) = in_queue (account group (key k)) (key k) (λ e. (refl, same (key k) e))

  -- ---- keys

  pub keys_settle : (account : Account) (records : List (List (Item E))) (content : Content E) (bs : List (Filed E)) (group : ℕ) (k value : List ℕ)
      → IsAccounted account (content_of records) content bs → (content group).there ≡ true → (content group).value k ≡ Some value
      → IsAccounted (with_group group (names_after_put (account group) k) account) (content_of (records ++ of_group group (put k value ∷ []) ∷ [])) content bs
  keys_settle account records content bs group k value accounted there has =
      group_settles account records content bs group (put k value ∷ []) (names_after_put (account group) k) refl accounted by_cell
    where
      same : (c : Cell) → account group c ≡ None → held (content_of records group) c ≡ held (content group) c
      same c e = agrees (account group c) (content_of records) content bs group c e (accounted group c)

      in_queue : (o : Option ℕ) (c : Cell) → (o ≡ None → (changes_set {E = E} (put k value ∷ []) c ≡ false) × (held (content_of records group) c ≡ held (content group) c))
          → SettlesIn (put k value ∷ []) (content_of records group) (content group) c o o
      in_queue None c h = inr (h refl)
      in_queue (Some file) c h = refl

      by_key : (other : List ℕ) (b : Bool) → bytes_eq k other ≡ b
          → SettlesIn (put k value ∷ []) (content_of records group) (content group) (key other) (account group (key other)) (cond b None (account group (key other)))
      by_key other true e = inl (
        or_left (bytes_eq k other) false e,
        ap a_value (ap (λ (t : Bool). cond t (Some value) None) e ∙ sym has ∙ ap (content group).value ((bytes_decides k other).0 e)),
      )
      by_key other false e = in_queue (account group (key other)) (key other) (λ n. (ap (λ (t : Bool). t || false) e, same (key other) n))

      by_cell : (c : Cell) → SettlesIn (put k value ∷ []) (content_of records group) (content group) c (account group c) (names_after_put (account group) k c)
      by_cell presence = inl (refl, ap is_there (sym there))
      by_cell (index i) = in_queue (account group (index i)) (index i) (λ e. (refl, same (index i) e))
      by_cell (key other) = by_key other (bytes_eq k other) refl

  -- ---- one record for several

  no_mark : (change : Change E) (o p : Option (ℕ × AtomicGroupStatus)) → mark_in change o ≡ None → (o ≡ None → p ≡ None) → mark_in change p ≡ None
  no_mark (entries es) o p h f = f h
  no_mark clean o p h f = f h
  no_mark (compact limit) o p h f = f h
  no_mark (put k value) o p h f = f h
  no_mark (delete k) o p h f = f h
  no_mark (mark id status) o p h f = absurd cc

  marks_join : (first second : List (Item E)) → mark_of first ≡ None → mark_of second ≡ None → mark_of (first ++ second) ≡ None
  marks_join [] second u v = v
  marks_join (item ∷ items) second u v = no_mark item.change (mark_of items) (mark_of (items ++ second)) u (λ h. marks_join items second h v)

  pub batches_join : (records : List (List (Item E))) (first second : List (Item E)) → mark_of first ≡ None → mark_of second ≡ None
      → content_of (records ++ (first ++ second) ∷ []) ≡ content_of (records ++ first ∷ (second ∷ []))
  batches_join records first second u v =
      records_compose records ((first ++ second) ∷ []) (marks_join first second u v, tt)
      ∙ after_batch-append first second (content_of records)
      ∙ sym (records_compose records (first ∷ (second ∷ [])) (u, (v, tt)))
