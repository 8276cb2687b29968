-- The traces that an opening makes are what the laws ask.
use Rattle.std.proofs.Common.{◌≡◌, ◌≤◌, ◌<◌, ◌-◌, ℕ, Bool, true, false, cond, List, Option, Some, None, refl, sym, ap, subst, ◌∙◌, arith, le_refl, ltb-true, ltb-false, ◌⊎◌, inl, inr, ⊎_elim, ◌++◌}
use Rattle.std.specs.Prelude.{IsSome, nat_lt}
use Rattle.raft_log_records.specs.Item.{Item}
use Rattle.raft_log_memtables.specs.Content.{GroupContent}
use Rattle.raft_log_memtables.specs.Replay.{content_of}
use Rattle.raft_log_covers.specs.Account.{IsFrom, account_after_all, no_account}
use Rattle.raft_log_covers.specs.Cells.{AreUnmarked, Cell, after_batches}
use Rattle.raft_log_covers.specs.Cells.Cell.{index, key}
use Rattle.raft_log_covers.specs.Kept.{IsFirstOf, IsReplayed, Traces, new_trace, replayed_traces}
use Rattle.raft_log_covers.specs.Marks.{Names}
use Rattle.raft_log_covers.specs.Placed.{AreFiled}
use Rattle.raft_log_covers.specs.Queues.{Filed, FilesRise, batches_of}
use Rattle.raft_log_covers.specs.Trace.{Trace, IsBounded}
use Rattle.raft_log_covers.proofs.FileLemmas.{not_there}
use Rattle.raft_log_covers.proofs.KeptLemmas.{first_bounds, is_there_is, names_late}
use Rattle.raft_log_covers.proofs.PlacedLemmas.{places_tell_files, traces_tell_keys}
use Rattle.raft_log_traces.specs.Files.{KeepsFrom}
use Rattle.raft_log_marks.specs.Opened.{AreEnds, AreFilesOf, IsMadeOf, IsSince, OpenedQueuesCanBeCleaned, OpenedQueuesTellPlaces, TellPlaces, file_at, past_of, reach_of_records, tail_of}
use Rattle.raft_log_marks.specs.Whole.{HasLast}
use Rattle.raft_log_marks.proofs.FoundLemmas.{Found, replay_found}
use Rattle.raft_log_marks.proofs.OpenedLemmas.{replays_are_cleanable}

there_is : {X : Type 0} (o : Option X) → IsSome o → (x : X) × (o ≡ Some x)
there_is None s = absurd cc
there_is (Some x) s = (x, refl)

none_of : {P : Type 0} (o : Option ℕ) (f : ℕ) → o ≡ None → o ≡ Some f → P
none_of o f a b = absurd cc

-- where a file is said, an entry is there that lies in it
entry_in : {E : Type 0} (at : E → Option ℕ) (o : Option E) (f : ℕ) → file_at at o ≡ Some f → (e : E) × (o ≡ Some e) × (at e ≡ Some f)
entry_in at None f h = absurd cc
entry_in at (Some e) f h = (e, refl, h)

nothing_below : {i : ℕ} → i < 0 → ⊥
nothing_below h = omega (arith, h)

-- one group, of which these things are known
module _ {E : Type 0} (at : E → Option ℕ) (first file : ℕ) (t u : Trace) (older g : GroupContent E) (names : Names) (reach : Option ℕ)
    (k : Found first file t older g names reach) (late : (c : Cell) → IsFrom first (names c)) (lies : (i : ℕ) (e : E) → g.entry i ≡ Some e → names (index i) ≡ at e)
    (told : (q : List ℕ) → IsSome (g.value q) → names (key q) ≡ t.key_file q) (m : IsMadeOf at first g reach t u) where
  -- an entry that lies in an append file is named so
  named_in : (j f : ℕ) → file_at at (g.entry j) ≡ Some f → IsSome (g.entry j) × (names (index j) ≡ Some f)
  named_in j f h =
      let e = entry_in at (g.entry j) f h in
      (is_there_is (g.entry j) e.0 e.1, lies j e.0 e.1 ∙ e.2)

  since_of : (kept : Option ℕ) → ((kept ≡ Some first) ⊎ (t.since ≡ None)) → IsFirstOf first names kept
  since_of kept (inl e) = inl e
  since_of kept (inr e) = inr (k.untouched e)

  keys_named : (q : List ℕ) → IsSome (g.value q) → names (key q) ≡ u.key_file q
  keys_named q s = told q s ∙ sym (m.key_file q)

  -- ---- where it is there

  module _ (ends : AreEnds g reach u.low u.next u.top) (files : AreFilesOf at g u.entry_file) where
    ends_so : (b : Bool) → nat_lt u.low u.next ≡ b → u.next ≤ u.top
    ends_so true e =
        let full = ltb-true u.low u.next e in
        inside (nat_lt (u.next - 1) (past_of reach)) refl full
      where
        inside : (c : Bool) → nat_lt (u.next - 1) (past_of reach) ≡ c → u.low < u.next → u.next ≤ u.top
        inside true h full =
            let l = ltb-true (u.next - 1) (past_of reach) h in
            let top = ends.top_is in
            omega (arith, l, top)
        inside false h full = not_there (g.entry (u.next - 1)) (k.within (u.next - 1) (ltb-false (u.next - 1) (past_of reach) h)) (ends.last full)
    ends_so false e =
        let same = (ends.empty (ltb-false u.low u.next e)).1 in
        omega (arith, same)

    entry_file_so : (i : ℕ) (e : E) → g.entry i ≡ Some e → (o : Option ℕ) → at e ≡ o → (p : Option ℕ) → u.entry_file i ≡ p → o ≡ p
    entry_file_so i e is (Some f) a p q = sym (files.own i f (ap (file_at at) is ∙ a)) ∙ q
    entry_file_so i e is None a None q = refl
    entry_file_so i e is None a (Some f) q =
        let from = files.told i f q in
        let there = named_in from.0 f from.2 in
        let next = k.rises from.0 i f from.1 there.0 there.1 in
        none_of (names (index i)) next.0 (lies i e is ∙ a) next.1

    entries_named : (i : ℕ) → IsSome (g.entry i) → names (index i) ≡ u.entry_file i
    entries_named i s =
        let e = there_is (g.entry i) s in
        lies i e.0 e.1 ∙ entry_file_so i e.0 e.1 (at e.0) refl (u.entry_file i) refl

    holes_so : (i : ℕ) → u.low ≤ i → i < u.next → (o : Option ℕ) → names (index i) ≡ o → (p : Option ℕ) → u.entry_file i ≡ p → IsBounded o p
    holes_so i low high None n p q = tt
    holes_so i low high (Some f) n (Some h) q =
        let from = files.told i h q in
        let there = named_in from.0 h from.2 in
        let next = k.rises from.0 i h from.1 there.0 there.1 in
        let same : next.0 ≡ f = (let a = next.1 in cc) in
        let l = next.2 in
        omega (arith, same, l)
    holes_so i low high (Some f) n None q =
        let some = k.below i (is_there_is (names (index i)) f n) u.low low (ends.first (omega (arith, low, high))) in
        let e = there_is (g.entry some.0) some.2 in
        let lies_there : IsSome (file_at at (g.entry some.0)) = subst (λ (o : Option ℕ). IsSome o) (lies some.0 e.0 e.1 ∙ ap (file_at at) (sym e.1)) some.3 in
        not_there (u.entry_file i) q (files.some i some.0 some.1 lies_there)

    -- by the file of the last entry: none below it is named where that isn't, and none behind it has an earlier file
    behind_last : (e : E) → g.entry (u.next - 1) ≡ Some e → (o : Option ℕ) → at e ≡ o → (i : ℕ) → u.next ≤ i → (p : Option ℕ) → names (index i) ≡ p → IsBounded p o
    behind_last e is o a i high None n = tt
    behind_last e is (Some h) a i high (Some f) n =
        let next = k.rises (u.next - 1) i h (omega (arith, high)) (is_there_is (g.entry (u.next - 1)) e is) (lies (u.next - 1) e is ∙ a) in
        let same : next.0 ≡ f = (let b = next.1 in cc) in
        let l = next.2 in
        omega (arith, same, l)
    behind_last e is None a i high (Some f) n =
        let some = k.below i (is_there_is (names (index i)) f n) (u.next - 1) (omega (arith, high)) (is_there_is (g.entry (u.next - 1)) e is) in
        let named = there_is (names (index some.0)) some.3 in
        by_place some.0 (nat_lt some.0 u.next) refl some.2 named.0 named.1
      where
        by_place : (j : ℕ) (b : Bool) → nat_lt j u.next ≡ b → IsSome (g.entry j) → (h : ℕ) → names (index j) ≡ Some h → ⊥
        by_place j true l s h named =
            let low = ltb-true j u.next l in
            let next = k.rises j (u.next - 1) h (omega (arith, low)) s named in
            none_of (names (index (u.next - 1))) next.0 (lies (u.next - 1) e is ∙ a) next.1
        by_place j false l s h named = not_there (g.entry j) (ends.above j (ltb-false j u.next l)) s

    tail_so : IsFirstOf first names u.since → u.tail ≡ tail_of at g u → (i : ℕ) → u.low ≤ i → u.next ≤ i → IsBounded (names (index i)) u.tail
    tail_so since is i low high = subst (λ (o : Option ℕ). IsBounded (names (index i)) o) (sym is) (by_entries (nat_lt u.low u.next) refl)
      where
        by_entries : (b : Bool) → nat_lt u.low u.next ≡ b → IsBounded (names (index i)) (cond b (file_at at (g.entry (u.next - 1))) u.since)
        by_entries true full =
            let e = there_is (g.entry (u.next - 1)) (ends.last (ltb-true u.low u.next full)) in
            subst (λ (o : Option ℕ). IsBounded (names (index i)) o) (ap (file_at at) (sym e.1)) (behind_last e.0 e.1 (at e.0) refl i high (names (index i)) refl)
        by_entries false empty = first_bounds first names u.since since late (index i)

    there_replayed : IsFirstOf first names u.since → u.tail ≡ tail_of at g u → IsReplayed first t u older g names
    there_replayed since tail = record {
      below = ends.below;
      above = λ i l h. ends.above i h;
      ends = ends_so (nat_lt u.low u.next) refl;
      empty_top = λ h. let same = (ends.empty h).0 in omega (arith, same);
      past = λ c i h. k.past (sym m.cleaned ∙ c) i (subst (λ (n : ℕ). n ≤ i) ends.top_is h);
      since = since;
      tail = tail_so since tail;
      files = record { entries_named = entries_named; keys_named = keys_named };
      holes = λ i low high none. holes_so i low high (names (index i)) refl (u.entry_file i) refl;
      cleaned = m.cleaned;
      deleted = m.deleted;
    }

    entry_from : (i : ℕ) (o : Option ℕ) → u.entry_file i ≡ o → IsFrom first o
    entry_from i None e = tt
    entry_from i (Some f) e =
        let from = files.told i f e in
        subst (λ (o : Option ℕ). IsFrom first o) (named_in from.0 f from.2).1 (late (index from.0))

  -- ---- where it isn't

  module _ (gone : g.there ≡ false) (low : u.low ≡ 0) (next : u.next ≡ 0) (top : u.top ≡ 0) where
    gone_replayed : IsFirstOf first names u.since → u.tail ≡ u.since → IsReplayed first t u older g names
    gone_replayed since tail = record {
      below = λ i h. k.none gone i;
      above = λ i l h. k.none gone i;
      ends = omega (arith, next, top);
      empty_top = λ h. omega (arith, low, top);
      past = λ c i h. k.gone (sym m.cleaned ∙ c) gone i;
      since = since;
      tail = λ i low high. subst (λ (o : Option ℕ). IsBounded (names (index i)) o) (sym tail) (first_bounds first names u.since since late (index i));
      files = record { entries_named = λ i s. not_there (g.entry i) (k.none gone i) s; keys_named = keys_named };
      holes = λ i l h. absurd (nothing_below (subst (λ (n : ℕ). i < n) next h));
      cleaned = m.cleaned;
      deleted = m.deleted;
    }

  since_file : IsSince first t u → (u.since ≡ Some first) ⊎ (t.since ≡ None)
  since_file (inl e) = inl e
  since_file (inr e) = inr e.0

  since_from : IsSince first t u → IsFrom first u.since
  since_from (inl e) = subst (λ (o : Option ℕ). IsFrom first o) (sym e) (le_refl first)
  since_from (inr e) = subst (λ (o : Option ℕ). IsFrom first o) (sym e.1) tt

  file_from : (j : ℕ) (o : Option ℕ) → file_at at (g.entry j) ≡ o → IsFrom first o
  file_from j None e = tt
  file_from j (Some f) e = subst (λ (o : Option ℕ). IsFrom first o) (named_in j f e).1 (late (index j))

  tail_from : u.tail ≡ tail_of at g u → IsFrom first u.tail
  tail_from is = subst (λ (o : Option ℕ). IsFrom first o) (sym is) (by_entries (nat_lt u.low u.next))
    where
      by_entries : (b : Bool) → IsFrom first (cond b (file_at at (g.entry (u.next - 1))) u.since)
      by_entries true = file_from (u.next - 1) (file_at at (g.entry (u.next - 1))) refl
      by_entries false = since_from m.since

  keys_from : (q : List ℕ) → IsFrom first (u.key_file q)
  keys_from q = subst (λ (o : Option ℕ). IsFrom first o) (sym (m.key_file q)) (k.keys q)

  made : IsReplayed first t u older g names × KeepsFrom first u × HasLast u g
  made = ⊎_elim
      (λ here. (
        there_replayed here.1 here.2 (since_of u.since (since_file m.since)) here.3,
        record { since = since_from m.since; tail = tail_from here.3; entries = λ i low high. entry_from here.1 here.2 i (u.entry_file i) refl; keys = keys_from },
        here.1.last,
      ))
      (λ out.
      let zero = k.zero out.0 in
      let low : u.low ≡ 0 = out.1 ∙ zero.0 in
      let next : u.next ≡ 0 = out.2 ∙ zero.1 in
      let top : u.top ≡ 0 = out.3 ∙ zero.2 in (
        gone_replayed out.0 low next top (since_of u.since (since_file m.since)) out.4,
        record { since = since_from m.since; tail = subst (λ (o : Option ℕ). IsFrom first o) (sym out.4) (since_from m.since); entries = λ i l h. absurd (nothing_below (subst (λ (n : ℕ). i < n) next h)); keys = keys_from },
        λ h. absurd (nothing_below (subst (λ (n : ℕ). u.low < n) next h)),
      ))
      m.ends

module _ {E : Type 0} (at : E → Option ℕ) (first : ℕ) (opened : Traces) (records : List (List (Item E))) (bs : List (Filed E)) (rise : FilesRise first bs) (unmarked : AreUnmarked (batches_of bs))
    (older : (group i : ℕ) (e : E) → (content_of records group).entry i ≡ Some e → at e ≡ None) (filed : AreFiled at bs)
    (has : (group : ℕ) → IsMadeOf at first (after_batches (batches_of bs) (content_of records) group) (reach_of_records (records ++ batches_of bs) group) (replayed_traces bs group) (opened group)) where
  each_made : (group : ℕ) → IsReplayed first (replayed_traces bs group) (opened group) (content_of records group) (after_batches (batches_of bs) (content_of records) group) (account_after_all bs no_account group)
      × KeepsFrom first (opened group) × HasLast (opened group) (after_batches (batches_of bs) (content_of records) group)
  each_made group =
      let k = replay_found first records bs rise unmarked group in
      made at first k.0 (replayed_traces bs group) (opened group) (content_of records group) (after_batches (batches_of bs) (content_of records) group) (account_after_all bs no_account group) _ k.1
      (names_late first first bs no_account (le_refl first) rise (λ g c. tt) group)
      (λ i e is. places_tell_files at (content_of records) bs older filed group i e is)
      (λ q s. traces_tell_keys (content_of records) bs (λ g. new_trace) (λ g name. refl) group q s)
      (has group)

  each_told : TellPlaces at opened (after_batches (batches_of bs) (content_of records))
  each_told group i some = by_entry ((after_batches (batches_of bs) (content_of records) group).entry i) refl
    where
      by_entry : (o : Option E) → (after_batches (batches_of bs) (content_of records) group).entry i ≡ o → file_at at o ≡ (opened group).entry_file i
      by_entry None is = not_there ((after_batches (batches_of bs) (content_of records) group).entry i) is some
      by_entry (Some e) is = sym (places_tell_files at (content_of records) bs older filed group i e is) ∙ (each_made group).0.files.entries_named i some

pub opened_queues_can_be_cleaned : {E : Type 0} → OpenedQueuesCanBeCleaned E
opened_queues_can_be_cleaned at first opened records bs rise unmarked older filed has = record {
  account = account_after_all bs no_account;
  start = content_of records;
  base = refl;
  cleanable = replays_are_cleanable opened records bs first rise (λ group. (each_made at first opened records bs rise unmarked older filed has group).0);
  rise = rise;
  unmarked = unmarked;
  kept = λ group. (each_made at first opened records bs rise unmarked older filed has group).1;
  last = λ group. (each_made at first opened records bs rise unmarked older filed has group).2;
}

pub opened_queues_tell_places : {E : Type 0} → OpenedQueuesTellPlaces E
opened_queues_tell_places at first opened records bs rise unmarked older filed has group i some =
    each_told at first opened records bs rise unmarked older filed has group i some
