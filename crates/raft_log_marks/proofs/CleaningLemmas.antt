-- What keeps the invariant of two queues that are cleaned.
use Rattle.std.proofs.Common.{◌≡◌, ◌≤◌, ◌<◌, ℕ, Bool, true, false, cond, List, [], ◌∷◌, Option, Some, None, refl, sym, subst, ◌∙◌, arith, ltb-true, ltb-false, leb-false}
use Rattle.std.specs.Prelude.{◌&&◌, ◌||◌, IsSome, nat_eq, nat_le, nat_lt}
use Rattle.std.proofs.lemmas.Bool.{leb-true, eqb-true}
use Rattle.raft_log_records.specs.Item.{Item}
use Rattle.raft_log_records.specs.Spelling.{first_index}
use Rattle.raft_log_memtables.specs.Content.{GroupContent, Content, entry_at, after_change, after_item, after_batch}
use Rattle.raft_log_covers.specs.Cells.{Cell, sets, batch_sets, after_batches}
use Rattle.raft_log_covers.specs.Queues.{batches_of}
use Rattle.raft_log_covers.specs.Cells.Cell.{index}
use Rattle.raft_log_covers.specs.Account.{Account, account_after}
use Rattle.raft_log_covers.specs.Marks.{Names, MayRewrite, with_group, names_after_marks, names_after_entries, names_after_put}
use Rattle.raft_log_covers.specs.Trace.{Trace, Knows, TellsFiles, settled_by}
use Rattle.raft_log_covers.proofs.FileLemmas.{not_there}
use Rattle.raft_log_covers.proofs.KnownLemmas.{none_outside, no_entries}
use Rattle.raft_log_covers.proofs.KeptLemmas.{writes_keep, marks_keep, cleans_keep, entries_keep, keys_keep, new_queues_are_kept, kept_queues_read_as_the_content}
use Rattle.raft_log_traces.proofs.LawLemmas.{alike_traces_keep, kept_files_tell}
use Rattle.raft_log_marks.specs.MarkLaws.{NamesBehind}
use Rattle.raft_log_marks.specs.Cleaning.{NewQueuesAreCleanable, WritesKeepCleanable, MarksKeepCleanable, AreFront, EntriesKeepCleanable, KeysKeepCleanable, FilesBeforeTheLeastMayGo}
use Rattle.raft_log_marks.proofs.BehindLemmas.{changes_name_behind, rewrites_name_behind}

-- ---- names behind entries, after a batch

behind_same : {E : Type 0} (g : GroupContent E) (names others : Names) → ((c : Cell) → names c ≡ others c) → NamesBehind g names → NamesBehind g others
behind_same g names others e h i j l s n = subst (λ (o : Option ℕ). IsSome o) (e (index j)) (h i j l s (subst (λ (o : Option ℕ). IsSome o) (sym (e (index i))) n))

one_by_one : (file : ℕ) (a b : Bool) (o : Option ℕ) → cond b (Some file) (cond a (Some file) o) ≡ cond (a || b) (Some file) o
one_by_one file true true o = refl
one_by_one file true false o = refl
one_by_one file false b o = refl

item_behind : {E : Type 0} (file : ℕ) (item : Item E) (content : Content E) (account : Account) (group : ℕ) → NamesBehind (content group) (account group)
    → NamesBehind (after_item item content group) (λ c. cond (nat_eq item.group group && sets item.change c) (Some file) (account group c))
item_behind file item content account group h = by_test (nat_eq item.group group)
  where
    by_test : (b : Bool) → NamesBehind (cond b (after_change item.change (content group)) (content group)) (λ c. cond (b && sets item.change c) (Some file) (account group c))
    by_test true = changes_name_behind file item.change (content group) (account group) h
    by_test false = h

pub items_behind : {E : Type 0} (file : ℕ) (items : List (Item E)) (content : Content E) (account : Account) → ((group : ℕ) → NamesBehind (content group) (account group))
    → (group : ℕ) → NamesBehind (after_batch items content group) (account_after file items account group)
items_behind file [] content account h group = h group
items_behind file (item ∷ items) content account h group =
    behind_same (after_batch items (after_item item content) group) _ (account_after file (item ∷ items) account group)
    (λ c. one_by_one file (nat_eq item.group group && sets item.change c) (batch_sets items group c) (account group c))
    (items_behind file items (after_item item content) (λ other c. cond (nat_eq item.group other && sets item.change c) (Some file) (account other c)) (λ other. item_behind file item content account other (h other)) group)

-- ---- of one group

group_behind : {E : Type 0} (content : Content E) (account : Account) (group : ℕ) (names : Names) → ((other : ℕ) → NamesBehind (content other) (account other)) → NamesBehind (content group) names
    → (other : ℕ) → NamesBehind (content other) (with_group group names account other)
group_behind content account group names h k other = by_test (nat_eq group other) refl
  where
    by_test : (b : Bool) → nat_eq group other ≡ b → NamesBehind (content other) (λ c. cond b (names c) (account other c))
    by_test true e = subst (λ (n : ℕ). NamesBehind (content n) names) (eqb-true group other e) k
    by_test false e = h other

pub some_from_low : {E : Type 0} (t : Trace) (older g : GroupContent E) (names : Names) → Knows t older g names → (i : ℕ) → IsSome (g.entry i) → t.low ≤ i
some_from_low t older g names k i s = by_test (nat_lt i t.low) refl
  where
    by_test : (b : Bool) → nat_lt i t.low ≡ b → t.low ≤ i
    by_test true l = not_there (g.entry i) (k.below i (ltb-true i t.low l)) s
    by_test false l = ltb-false i t.low l

-- ---- laws

pub new_queues_are_cleanable : {E : Type 0} → NewQueuesAreCleanable E
new_queues_are_cleanable = record { kept = new_queues_are_kept; behind = λ group i j l s n. absurd cc }

pub writes_keep_cleanable : {E : Type 0} → WritesKeepCleanable E
writes_keep_cleanable traces others account records content bs file items k on a = record {
  kept = alike_traces_keep _ others _ records _ _ (writes_keep traces account records content bs file items k.kept on) a;
  behind = items_behind file items content account k.behind;
}

pub marks_keep_cleanable : {E : Type 0} → MarksKeepCleanable E
marks_keep_cleanable traces others account records content bs group true k there a =
    let t = traces group in
    let known = k.kept.knows group in
    let names = names_after_marks (content group) (account group) t.low (nat_le t.next t.low) in (
      with_group group names account,
      record {
        kept = alike_traces_keep _ others _ _ content bs (marks_keep traces account records content bs group k.kept there) a;
        behind = group_behind content account group names k.behind
            ((rewrites_name_behind t (content group) (account group) (k.behind group)).marked t.low (nat_le t.next t.low) (λ e. no_entries t _ (content group) (account group) known (leb-true t.next t.low e)) (some_from_low t _ (content group) (account group) known));
      },
    )
marks_keep_cleanable traces others account records content bs group false k gone a = (
  with_group group (λ c. None) account,
  record {
    kept = alike_traces_keep _ others _ _ content bs (cleans_keep traces account records content bs group k.kept gone) a;
    behind = group_behind content account group (λ c. None) k.behind (λ i j l s n. absurd cc);
  },
)

named_like : (o p : Option ℕ) → o ≡ p → IsSome p → IsSome o
named_like o p e s = subst (λ (x : Option ℕ). IsSome x) (sym e) s

front_may : {E : Type 0} (t : Trace) (older g : GroupContent E) (names : Names) (es : List (ℕ × E)) (stop : ℕ) → Knows t older g names → TellsFiles t g names → NamesBehind g names → AreFront t g es stop
    → MayRewrite g names es (settled_by stop t)
front_may t older g names es stop k f b a = record {
  there = a.there;
  same = λ i low settled. same_at i (leb-true (first_index es) i low) (nat_lt i stop) refl (nat_le t.next stop) refl settled;
  named = λ i low apart. named_at i (nat_le t.next stop) refl apart;
}
  where
    same_at : (i : ℕ) → first_index es ≤ i → (c : Bool) → nat_lt i stop ≡ c → (d : Bool) → nat_le t.next stop ≡ d → (d || c) ≡ true → entry_at es i ≡ g.entry i
    same_at i low true e d n settled = a.same i low (ltb-true i stop e)
    same_at i low false e true n settled =
        let high = ltb-false i stop e in
        let ends = leb-true t.next stop n in
        let until = a.until in
        a.run.no_more i (omega (arith, high, until)) ∙ sym (none_outside t older g names k i (λ l. omega (arith, high, ends)))
    same_at i low false e false n settled = absurd cc

    named_at : (i : ℕ) → (d : Bool) → nat_le t.next stop ≡ d → (d || nat_lt i stop) ≡ false → IsSome (names (index i))
    named_at i true n apart = absurd cc
    named_at i false n apart =
        let before : stop < t.next = leb-false t.next stop n in
        let at = a.rest before in
        b stop i (ltb-false i stop apart) at.0 (named_like (names (index stop)) (t.entry_file stop) (f.entries_named stop at.0) at.1)

pub entries_keep_cleanable : {E : Type 0} → EntriesKeepCleanable E
entries_keep_cleanable traces others account records content bs group es stop k a alike =
    let t = traces group in
    let known = k.kept.knows group in
    let told = k.kept.files group in
    let names = names_after_entries (account group) es (settled_by stop t) in
    let until = a.until in
    let within = a.within in
    let ends = known.ends in (
      with_group group names account,
      record {
        kept = alike_traces_keep _ others _ _ content bs
            (entries_keep traces account records content bs group es stop k.kept a.not_cleaned a.run (omega (arith, until, within)) (omega (arith, until, within, ends))
            (front_may t _ (content group) (account group) es stop known told (k.behind group) a)) alike;
        behind = group_behind content account group names k.behind
            ((rewrites_name_behind t (content group) (account group) (k.behind group)).entries_too es stop
            (λ i s n. a.first i s (named_like (t.entry_file i) (account group (index i)) (sym (told.entries_named i s)) n)));
      },
    )

pub keys_keep_cleanable : {E : Type 0} → KeysKeepCleanable E
keys_keep_cleanable traces others account records content bs group name value k apart there has alike =
    let names = names_after_put (account group) name in (
      with_group group names account,
      record {
        kept = alike_traces_keep _ others _ _ content bs (keys_keep traces account records content bs group name value k.kept apart there has) alike;
        behind = group_behind content account group names k.behind ((rewrites_name_behind (traces group) (content group) (account group) (k.behind group)).keys_too name);
      },
    )

pub files_before_the_least_may_go : {E : Type 0} → FilesBeforeTheLeastMayGo E
files_before_the_least_may_go {E} traces account records start bs least first k rise unmarked keeps =
    kept_queues_read_as_the_content traces account records start bs least first k.kept rise unmarked (kept_files_tell {E = E} traces (after_batches (batches_of bs) start) first keeps)
