-- Groups that are written anew keep the invariant of two queues, and give all of them.
use Rattle.std.proofs.Common.{◌≡◌, ⊎_elim, inl, ℕ, Bool, true, false, cond, ◌&&◌, ◌||◌, List, [], ◌∷◌, ◌++◌, take, Option, Some, None, refl, sym, ap, ◌∙◌, subst, append_assoc, append-nil}
use Rattle.std.specs.Prelude.{nat_eq, ◌⊎◌}
use Rattle.std.proofs.lemmas.Bool.{eqb-true, eq-eqb, or_left, or_right, and_right}
use Rattle.raft_log_records.specs.Item.{Change, Item}
use Rattle.raft_log_records.specs.Item.Change.{entries, clean, compact, put, delete, mark}
use Rattle.raft_log_memtables.specs.Content.{GroupContent, Content, no_group, nothing, after_batch}
use Rattle.raft_log_memtables.specs.Laws.{all_of}
use Rattle.raft_log_memtables.specs.MemTable.{is_mark_of}
use Rattle.raft_log_memtables.specs.Replay.{mark_of, content_of}
use Rattle.raft_log_covers.specs.Account.{Account, IsAccounted}
use Rattle.raft_log_covers.specs.Cells.{Cell, held, sets, batch_sets, batches_set, after_batches, AreUnmarked}
use Rattle.raft_log_covers.specs.Cells.Cell.{presence, index, key}
use Rattle.raft_log_covers.specs.Joined.{without_marks, Holds}
use Rattle.raft_log_covers.specs.Kept.{Traces, IsKept, HasWhole, GivesAll}
use Rattle.raft_log_covers.specs.Marks.{of_group, after_changes, changes_set, with_group, SettlesIn}
use Rattle.raft_log_covers.specs.Queues.{Filed}
use Rattle.raft_log_covers.specs.Trace.{Trace, Knows}
use Rattle.raft_log_covers.specs.Written.{Written, AreWritten, records_of, all_records, batch_of, all_batches}
use Rattle.raft_log_covers.proofs.CellLemmas.{records_compose, after_batches-append, batches_set-append, same_there, same_entry, same_value}
use Rattle.raft_log_covers.proofs.JoinedLemmas.{parts_count, parts_keep, same_content_keeps}
use Rattle.raft_log_covers.proofs.KeptLemmas.{elsewhere, whole_groups_give_all}
use Rattle.raft_log_covers.proofs.MarkLemmas.{in_group, left_elsewhere, SettlesAll, group_settles}
use Rattle.raft_log_covers.proofs.WrittenLemmas.{take_none, front_of}
use Rattle.raft_log_purge.specs.Anew.{AreGroupsAnew, IsAnew, AreAnew, Names}

or_none : (b : Bool) → (b || false) ≡ b
or_none true = refl
or_none false = refl

or_both : (a b c : Bool) → ((a || b) || c) ≡ (a || (b || c))
or_both true b c = refl
or_both false b c = refl

clean_sets : (E : Type 0) (c : Cell) → sets {E = E} clean c ≡ true
clean_sets E presence = refl
clean_sets E (index i) = refl
clean_sets E (key k) = refl

same_names : (group : ℕ) (account : Account) → with_group group (account group) account ≡ account
same_names group account = λ i. λ other c. by_test other c (nat_eq group other) refl i
  where
    by_test : (other : ℕ) (c : Cell) (b : Bool) → nat_eq group other ≡ b → cond b (account group c) (account other c) ≡ account other c
    by_test other c true e = ap (λ (n : ℕ). account n c) (eqb-true group other e)
    by_test other c false e = refl

module _ {E : Type 0} where
  -- ---- a group

  abbrev with_written : ℕ → GroupContent E → Content E → Content E
  with_written group written content other = cond (nat_eq group other) written (content other)

  whole_with : (traces : Traces) (content : Content E) (group : ℕ) (written : GroupContent E) → HasWhole (traces group) (content group) written
      → (other : ℕ) → HasWhole (traces other) (content other) (with_written group written content other)
  whole_with traces content group written whole other = by_test (nat_eq group other) refl
    where
      by_test : (b : Bool) → nat_eq group other ≡ b → HasWhole (traces other) (content other) (cond b written (content other))
      by_test true e = subst (λ (n : ℕ). HasWhole (traces n) (content n) written) (eqb-true group other e) whole
      by_test false e = record { there = refl; entries_too = λ i s n. refl; no_other_entry = λ i n. n; keys_too = λ k s n. refl; no_other_key = λ k n. n }

  group_keeps : (traces : Traces) (account : Account) (records : List (List (Item E))) (content : Content E) (bs : List (Filed E)) (group : ℕ) (changes : List (Change E))
      → IsKept traces account records content bs → mark_of (of_group group changes) ≡ None → HasWhole (traces group) (content group) (after_changes changes no_group)
      → IsKept traces account (records ++ of_group group (clean ∷ changes) ∷ []) content bs
  group_keeps traces account records content bs group changes k unmarked whole = record {
    accounted = subst (λ (a : Account). IsAccounted a (content_of (records ++ of_group group (clean ∷ changes) ∷ [])) content bs) (same_names group account)
        (group_settles account records content bs group (clean ∷ changes) (account group) unmarked k.accounted settles);
    bounds = k.bounds;
    knows = λ other. knows_at other (nat_eq group other) refl;
    files = k.files;
  }
    where
      gives : GivesAll traces account content (with_written group (after_changes changes no_group) content)
      gives = whole_groups_give_all traces account records content (with_written group (after_changes changes no_group) content) bs k (whole_with traces content group (after_changes changes no_group) whole)

      own : with_written group (after_changes changes no_group) content group ≡ after_changes changes no_group
      own = ap (λ (b : Bool). cond b (after_changes changes no_group) (content group)) (eq-eqb group group refl)

      settles : SettlesAll (clean ∷ changes) (content_of records group) (content group) (account group) (account group)
      settles c = by_name (account group c) refl
        where
          by_name : (o : Option ℕ) → account group c ≡ o → SettlesIn (clean ∷ changes) (content_of records group) (content group) c o o
          by_name None e = inl (or_left (sets {E = E} clean c) (changes_set changes c) (clean_sets E c), sym (ap (λ (g : GroupContent E). held g c) own) ∙ gives.unnamed group c e)
          by_name (Some file) e = refl

      composed : content_of (records ++ of_group group (clean ∷ changes) ∷ []) ≡ after_batch (of_group group (clean ∷ changes)) (content_of records)
      composed = records_compose records (of_group group (clean ∷ changes) ∷ []) (unmarked, tt)

      here : content_of (records ++ of_group group (clean ∷ changes) ∷ []) group ≡ after_changes changes no_group
      here = ap (λ (s : Content E). s group) composed ∙ in_group group (clean ∷ changes) (content_of records)

      knows_here : Knows (traces group) (after_changes changes no_group) (content group) (account group)
      knows_here = let o = k.knows group in record {
        below = o.below;
        above = o.above;
        ends = o.ends;
        empty_top = o.empty_top;
        past = λ c i h. subst (λ (g : GroupContent E). g.entry i ≡ None) own (gives.entries_low group i h);
        gone = o.gone;
        all_gone = λ c q h n. subst (λ (g : GroupContent E). g.value q ≡ None) own (gives.keys_there group q h);
        entries_since = o.entries_since;
        keys_since = o.keys_since;
      }

      knows_at : (other : ℕ) (b : Bool) → nat_eq group other ≡ b → Knows (traces other) (content_of (records ++ of_group group (clean ∷ changes) ∷ []) other) (content other) (account other)
      knows_at other true e = subst (λ (n : ℕ). Knows (traces n) (content_of (records ++ of_group group (clean ∷ changes) ∷ []) n) (content n) (account n)) (eqb-true group other e)
          (subst (λ (g : GroupContent E). Knows (traces group) g (content group) (account group)) (sym here) knows_here)
      knows_at other false e = subst (λ (g : GroupContent E). Knows (traces other) g (content other) (account other))
          (sym (ap (λ (s : Content E). s other) composed ∙ elsewhere group other (clean ∷ changes) (content_of records) e)) (k.knows other)

  -- ---- groups one after the other

  groups_keep : (traces : Traces) (account : Account) (records parts : List (List (Item E))) (content : Content E) (bs : List (Filed E))
      → IsKept traces account records content bs → AreGroupsAnew content traces parts → IsKept traces account (records ++ parts) content bs
  groups_keep traces account records [] content bs k a = subst (λ (rs : List (List (Item E))). IsKept traces account rs content bs) (sym (append-nil records)) k
  groups_keep traces account records (part ∷ parts) content bs k a =
      subst (λ (rs : List (List (Item E))). IsKept traces account rs content bs) (append_assoc records (part ∷ []) parts)
      (groups_keep traces account (records ++ part ∷ []) parts content bs
      (subst (λ (p : List (Item E)). IsKept traces account (records ++ p ∷ []) content bs) (sym a.0.written) (group_keeps traces account records content bs a.0.group a.0.changes k a.0.unmarked a.0.whole))
      a.1)

  groups_unmarked : (content : Content E) (traces : Traces) (parts : List (List (Item E))) → AreGroupsAnew content traces parts → AreUnmarked parts
  groups_unmarked content traces [] a = tt
  groups_unmarked content traces (part ∷ parts) a = (ap mark_of a.0.written ∙ a.0.unmarked, groups_unmarked content traces parts a.1)

  -- ---- records and atomic groups of records

  anew_keeps : (traces : Traces) (account : Account) (records : List (List (Item E))) (content : Content E) (bs : List (Filed E)) (w : Written E)
      → IsKept traces account records content bs → IsAnew content traces w → IsKept traces account (records ++ records_of w) content bs
  anew_keeps traces account records content bs w k a =
      parts_keep traces account records a.parts content bs w a.written (groups_unmarked content traces a.parts a.groups) a.holds (groups_keep traces account records a.parts content bs k a.groups)

  pub fronts_anew_keep : (traces : Traces) (account : Account) (records : List (List (Item E))) (ws : List (Written E)) (content : Content E) (bs : List (Filed E))
      → IsKept traces account records content bs → AreAnew content traces ws → (n : ℕ) → IsKept traces account (records ++ take n (all_records ws)) content bs
  fronts_anew_keep traces account records [] content bs k a n =
      subst (λ (rs : List (List (Item E))). IsKept traces account rs content bs) (sym (ap (λ (rs : List (List (Item E))). records ++ rs) (take_none n) ∙ append-nil records)) k
  fronts_anew_keep traces account records (w ∷ ws) content bs k a n = ⊎_elim
      (λ none. same_content_keeps traces account records (records ++ take n (all_records (w ∷ ws))) content bs (sym (none records)) k)
      (λ all. subst (λ (rs : List (List (Item E))). IsKept traces account (records ++ rs) content bs) (sym all.1)
      (subst (λ (rs : List (List (Item E))). IsKept traces account rs content bs) (append_assoc records (records_of w) (take all.0 (all_records ws)))
      (fronts_anew_keep traces account (records ++ records_of w) ws content bs (anew_keeps traces account records content bs w k a.0) a.1 all.0)))
      (front_of w a.0.written (all_records ws) n)

  pub all_anew_keep : (traces : Traces) (account : Account) (records : List (List (Item E))) (ws : List (Written E)) (content : Content E) (bs : List (Filed E))
      → IsKept traces account records content bs → AreAnew content traces ws → IsKept traces account (records ++ all_records ws) content bs
  all_anew_keep traces account records [] content bs k a = subst (λ (rs : List (List (Item E))). IsKept traces account rs content bs) (sym (append-nil records)) k
  all_anew_keep traces account records (w ∷ ws) content bs k a =
      subst (λ (rs : List (List (Item E))). IsKept traces account rs content bs) (append_assoc records (records_of w) (all_records ws))
      (all_anew_keep traces account (records ++ records_of w) ws content bs (anew_keeps traces account records content bs w k a.0) a.1)

  pub anew_written : (content : Content E) (traces : Traces) (ws : List (Written E)) → AreAnew content traces ws → AreWritten ws
  anew_written content traces [] a = tt
  anew_written content traces (w ∷ ws) a = (a.0.written, anew_written content traces ws a.1)

  -- ---- which groups are named

  batch_sets-append : (items more : List (Item E)) (group : ℕ) (c : Cell) → batch_sets (items ++ more) group c ≡ (batch_sets items group c || batch_sets more group c)
  batch_sets-append [] more group c = refl
  batch_sets-append (item ∷ items) more group c =
      ap (λ (b : Bool). (nat_eq item.group group && sets item.change c) || b) (batch_sets-append items more group c)
      ∙ sym (or_both (nat_eq item.group group && sets item.change c) (batch_sets items group c) (batch_sets more group c))

  parts_set : (parts : List (List (Item E))) (group : ℕ) (c : Cell) → batch_sets (all_of parts) group c ≡ batches_set parts group c
  parts_set [] group c = refl
  parts_set (items ∷ parts) group c = batch_sets-append items (all_of parts) group c ∙ ap (λ (b : Bool). batch_sets items group c || b) (parts_set parts group c)

  mark_sets_none : (change : Change E) → is_mark_of change ≡ true → sets change presence ≡ false
  mark_sets_none (entries es) e = absurd cc
  mark_sets_none clean e = absurd cc
  mark_sets_none (compact limit) e = absurd cc
  mark_sets_none (put name value) e = absurd cc
  mark_sets_none (delete name) e = absurd cc
  mark_sets_none (mark id status) e = refl

  marks_name_none : (items : List (Item E)) (group : ℕ) → batch_sets items group presence ≡ batch_sets (without_marks items) group presence
  marks_name_none [] group = refl
  marks_name_none (item ∷ items) group = by_mark (is_mark_of item.change) refl (marks_name_none items group)
    where
      by_mark : (b : Bool) → is_mark_of item.change ≡ b → batch_sets items group presence ≡ batch_sets (without_marks items) group presence
          → batch_sets (item ∷ items) group presence ≡ batch_sets (cond b (without_marks items) (item ∷ without_marks items)) group presence
      by_mark true e rest =
          ap (λ (b : Bool). (nat_eq item.group group && b) || batch_sets items group presence) (mark_sets_none item.change e)
          ∙ ap (λ (b : Bool). b || batch_sets items group presence) (and_right (nat_eq item.group group) false refl)
          ∙ rest
      by_mark false e rest = ap (λ (b : Bool). (nat_eq item.group group && sets item.change presence) || b) rest

  pub held_parts_name : (w : Written E) (parts : List (List (Item E))) (group : ℕ) → Holds w parts → batch_sets (batch_of w) group presence ≡ batches_set parts group presence
  held_parts_name w parts group holds = marks_name_none (batch_of w) group ∙ ap (λ (items : List (Item E)). batch_sets items group presence) holds ∙ parts_set parts group presence

  all_batches-append : (ws more : List (Written E)) → all_batches (ws ++ more) ≡ all_batches ws ++ all_batches more
  all_batches-append [] more = refl
  all_batches-append (w ∷ ws) more = ap (λ (l : List (List (Item E))). batch_of w ∷ l) (all_batches-append ws more)

  names_both : (ws : List (Written E)) (w : Written E) (group : ℕ) → batches_set (all_batches (ws ++ w ∷ [])) group presence ≡ (batches_set (all_batches ws) group presence || batch_sets (batch_of w) group presence)
  names_both ws w group =
      ap (λ (l : List (List (Item E))). batches_set l group presence) (all_batches-append ws (w ∷ []))
      ∙ batches_set-append (all_batches ws) (batch_of w ∷ []) group presence
      ∙ ap (λ (b : Bool). batches_set (all_batches ws) group presence || b) (or_none (batch_sets (batch_of w) group presence))

  pub names_stay : (ws : List (Written E)) (w : Written E) (group : ℕ) → Names ws group → Names (ws ++ w ∷ []) group
  names_stay ws w group h = names_both ws w group ∙ or_left (batches_set (all_batches ws) group presence) (batch_sets (batch_of w) group presence) h

  own_named : (group : ℕ) (changes : List (Change E)) → batch_sets (of_group group (clean ∷ changes)) group presence ≡ true
  own_named group changes = ap (λ (b : Bool). (b && true) || batch_sets (of_group group changes) group presence) (eq-eqb group group refl)

  pub name_added : (ws : List (Written E)) (w : Written E) (group : ℕ) (changes : List (Change E)) (before behind : List (List (Item E))) → Holds w (before ++ of_group group (clean ∷ changes) ∷ behind)
      → Names (ws ++ w ∷ []) group
  name_added ws w group changes before behind holds =
      names_both ws w group
      ∙ or_right (batches_set (all_batches ws) group presence) (batch_sets (batch_of w) group presence)
      (held_parts_name w (before ++ of_group group (clean ∷ changes) ∷ behind) group holds
      ∙ batches_set-append before (of_group group (clean ∷ changes) ∷ behind) group presence
      ∙ or_right (batches_set before group presence) _ (or_left (batch_sets (of_group group (clean ∷ changes)) group presence) (batches_set behind group presence) (own_named group changes)))

  -- ---- the new records alone have each group whole

  -- a group that was written is whole, another one isn't there
  abbrev WholeIf : Trace → GroupContent E → Bool → GroupContent E → Type 0
  WholeIf t g true new = HasWhole t g new
  WholeIf t g false new = new ≡ no_group

  abbrev AllWhole : Traces → Content E → (ℕ → Bool) → Content E → Type 0
  AllWhole traces content named new = (group : ℕ) → WholeIf (traces group) (content group) (named group) (new group)

  group_whole : (traces : Traces) (content : Content E) (named : ℕ → Bool) (s : Content E) (group : ℕ) (changes : List (Change E)) → HasWhole (traces group) (content group) (after_changes changes no_group)
      → AllWhole traces content named s → AllWhole traces content (λ other. named other || batch_sets (of_group group (clean ∷ changes)) other presence) (after_batch (of_group group (clean ∷ changes)) s)
  group_whole traces content named s group changes whole h other = by_test (nat_eq group other) refl
    where
      here : HasWhole (traces group) (content group) (after_batch (of_group group (clean ∷ changes)) s group)
      here = subst (λ (g : GroupContent E). HasWhole (traces group) (content group) g) (sym (in_group group (clean ∷ changes) s)) whole

      as_named : (a b : Bool) → b ≡ true → HasWhole (traces other) (content other) (after_batch (of_group group (clean ∷ changes)) s other) → WholeIf (traces other) (content other) (a || b) (after_batch (of_group group (clean ∷ changes)) s other)
      as_named a b e w = subst (λ (d : Bool). WholeIf (traces other) (content other) d (after_batch (of_group group (clean ∷ changes)) s other)) (sym (or_right a b e)) w

      by_test : (b : Bool) → nat_eq group other ≡ b → WholeIf (traces other) (content other) (named other || batch_sets (of_group group (clean ∷ changes)) other presence) (after_batch (of_group group (clean ∷ changes)) s other)
      by_test true e = as_named (named other) (batch_sets (of_group group (clean ∷ changes)) other presence)
          (ap (λ (b : Bool). (b && true) || batch_sets (of_group group changes) other presence) e)
          (subst (λ (n : ℕ). HasWhole (traces n) (content n) (after_batch (of_group group (clean ∷ changes)) s n)) (eqb-true group other e) here)
      by_test false e = subst (λ (g : GroupContent E). WholeIf (traces other) (content other) (named other || batch_sets (of_group group (clean ∷ changes)) other presence) g) (sym (elsewhere group other (clean ∷ changes) s e))
          (subst (λ (b : Bool). WholeIf (traces other) (content other) b (s other)) (sym (ap (λ (b : Bool). named other || b) (left_elsewhere group other (clean ∷ changes) presence e) ∙ or_none (named other))) (h other))

  groups_whole : (traces : Traces) (content : Content E) (named : ℕ → Bool) (s : Content E) (parts : List (List (Item E))) → AreGroupsAnew content traces parts → AllWhole traces content named s
      → AllWhole traces content (λ group. named group || batches_set parts group presence) (after_batches parts s)
  groups_whole traces content named s [] a h group = subst (λ (b : Bool). WholeIf (traces group) (content group) b (s group)) (sym (or_none (named group))) (h group)
  groups_whole traces content named s (part ∷ parts) a h group =
      subst (λ (b : Bool). WholeIf (traces group) (content group) b (after_batches (part ∷ parts) s group)) (or_both (named group) (batch_sets part group presence) (batches_set parts group presence))
      (groups_whole traces content (λ other. named other || batch_sets part other presence) (after_batch part s) parts a.1 next group)
    where
      next : AllWhole traces content (λ other. named other || batch_sets part other presence) (after_batch part s)
      next = subst (λ (p : List (Item E)). AllWhole traces content (λ other. named other || batch_sets p other presence) (after_batch p s)) (sym a.0.written)
          (group_whole traces content named s a.0.group a.0.changes a.0.whole h)

  groups-append : (content : Content E) (traces : Traces) (parts more : List (List (Item E))) → AreGroupsAnew content traces parts → AreGroupsAnew content traces more → AreGroupsAnew content traces (parts ++ more)
  groups-append content traces [] more a b = b
  groups-append content traces (part ∷ parts) more a b = (a.0, groups-append content traces parts more a.1 b)

  -- the groups of all that was written, one after the other
  record AllGroups (content : Content E) (traces : Traces) (ws : List (Written E)) : Type 0 where
    parts : List (List (Item E))
    groups : AreGroupsAnew content traces parts
    counts : (records : List (List (Item E))) → content_of (records ++ all_records ws) ≡ after_batches parts (content_of records)
    named : (group : ℕ) → batches_set (all_batches ws) group presence ≡ batches_set parts group presence

  all_groups : (content : Content E) (traces : Traces) (ws : List (Written E)) → AreAnew content traces ws → AllGroups content traces ws
  all_groups content traces [] a = record { parts = []; groups = tt; counts = λ records. ap content_of (append-nil records); named = λ group. refl }
  all_groups content traces (w ∷ ws) a = let rest = all_groups content traces ws a.1 in record {
    parts = a.0.parts ++ rest.parts;
    groups = groups-append content traces a.0.parts rest.parts a.0.groups rest.groups;
    counts = λ records.
        ap content_of (sym (append_assoc records (records_of w) (all_records ws)))
        ∙ rest.counts (records ++ records_of w)
        ∙ ap (λ (s : Content E). after_batches rest.parts s)
        (parts_count records a.0.parts w a.0.written (groups_unmarked content traces a.0.parts a.0.groups) a.0.holds ∙ records_compose records a.0.parts (groups_unmarked content traces a.0.parts a.0.groups))
        ∙ sym (after_batches-append a.0.parts rest.parts (content_of records));
    named = λ group.
        ap (λ (b : Bool). b || batches_set (all_batches ws) group presence) (held_parts_name w a.0.parts group a.0.holds)
        ∙ ap (λ (b : Bool). batches_set a.0.parts group presence || b) (rest.named group)
        ∙ sym (batches_set-append a.0.parts rest.parts group presence);
  }

  -- a group that has nothing
  pub gone_whole : (t : Trace) (g : GroupContent E) → ((c : Cell) → held g c ≡ held no_group c) → HasWhole t g no_group
  gone_whole t g gone = record {
    there = sym (same_there g no_group (gone presence));
    entries_too = λ i s n. sym (same_entry g no_group i (gone (index i)));
    no_other_entry = λ i n. refl;
    keys_too = λ k s n. sym (same_value g no_group k (gone (key k)));
    no_other_key = λ k n. refl;
  }

  pub new_are_whole : (content : Content E) (traces : Traces) (ws : List (Written E)) → AreAnew content traces ws → ((group : ℕ) → Names ws group ⊎ ((c : Cell) → held (content group) c ≡ held no_group c))
      → (group : ℕ) → HasWhole (traces group) (content group) (content_of (all_records ws) group)
  new_are_whole content traces ws a has group = subst (λ (s : Content E). HasWhole (traces group) (content group) (s group)) (sym (all.counts []))
      (by_name (batches_set all.parts group presence) refl (groups_whole traces content (λ other. false) nothing all.parts all.groups (λ other. refl) group))
    where
      all : AllGroups content traces ws
      all = all_groups content traces ws a

      by_name : (b : Bool) → batches_set all.parts group presence ≡ b → WholeIf (traces group) (content group) b (after_batches all.parts nothing group)
          → HasWhole (traces group) (content group) (after_batches all.parts nothing group)
      by_name true e w = w
      by_name false e w = subst (λ (g : GroupContent E). HasWhole (traces group) (content group) g) (sym w) (⊎_elim
          (λ (named : Names ws group). absurd (clash (sym named ∙ all.named group ∙ e)))
          (λ gone. gone_whole (traces group) (content group) gone)
          (has group))
        where
          clash : true ≡ false → ⊥
          clash x = cc
