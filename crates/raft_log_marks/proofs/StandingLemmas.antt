-- What keeps queues so that they can be cleaned, as a log engine keeps them from call to call.
use Rattle.std.proofs.Common.{◌≡◌, ◌≤◌, ◌<◌, ◌+◌, ℕ, suc, Bool, true, false, cond, List, [], ◌∷◌, ◌++◌, length, Option, Some, None, refl, sym, ap, subst, ◌∙◌, arith, le_refl, le_trans, leb-false}
use Rattle.std.specs.Prelude.{nat_eq, nat_le, nat_lt, bytes_eq}
use Rattle.std.specs.List.{AllByRecursion}
use Rattle.std.proofs.lemmas.Bool.{eqb-true, lt-leb}
use Rattle.raft_log_records.specs.Item.{Change, Item}
use Rattle.raft_log_records.specs.Item.Change.{entries, clean, compact, put, delete, mark}
use Rattle.raft_log_records.specs.Spelling.{first_index}
use Rattle.raft_log_memtables.specs.Content.{Content, nothing, after_change, after_item, after_batch}
use Rattle.raft_log_memtables.specs.Replay.{content_of}
use Rattle.raft_log_memtables.specs.Taken.{TakesEach}
use Rattle.raft_log_covers.specs.Account.{Account, IsFrom, no_account, account_after}
use Rattle.raft_log_covers.specs.Cells.{AreUnmarked, after_batches}
use Rattle.raft_log_covers.specs.Kept.{Traces, AllGoOn, traces_after, traces_after_item}
use Rattle.raft_log_covers.specs.Queues.{Filed, batches_of, batches_from}
use Rattle.raft_log_covers.specs.Trace.{Trace, GoOn, Knows, least, greater, entered, cut, trace_after, names_after}
use Rattle.raft_log_covers.proofs.AccountLemmas.{files_are_forgotten}
use Rattle.raft_log_covers.proofs.CellLemmas.{after_batches-append}
use Rattle.raft_log_covers.proofs.KeptLemmas.{account_after_item, account_after_items}
use Rattle.raft_log_covers.proofs.KnownLemmas.{changes_keep_known}
use Rattle.raft_log_covers.proofs.QueueLemmas.{all_stay}
use Rattle.raft_log_covers.proofs.RewrittenLemmas.{traces_let_go}
use Rattle.raft_log_covers.proofs.TraceLemmas.{least_of_greater}
use Rattle.raft_log_traces.specs.Alike.{IsAlike}
use Rattle.raft_log_traces.specs.Files.{KeepsFrom}
use Rattle.raft_log_traces.proofs.LawLemmas.{kept_files_tell}
use Rattle.raft_log_marks.specs.Cleaning.{IsCleanable}
use Rattle.raft_log_marks.specs.Standing.{CleanedQueuesReadAsTheContent, NewQueuesCanBeCleaned, WritesLeaveCleanable, FilesThatGoLeaveCleanable}
use Rattle.raft_log_marks.specs.Whole.{HasLast, Follows}
use Rattle.raft_log_marks.proofs.CleaningLemmas.{new_queues_are_cleanable, writes_keep_cleanable, files_before_the_least_may_go}
use Rattle.raft_log_marks.proofs.WholeLemmas.{taken_changes_go_on, changes_leave_last, alike_last}

-- ---- no file before one is kept

from_both : (first : ℕ) (a b : Option ℕ) → IsFrom first a → IsFrom first b → IsFrom first (least a b)
from_both first None b h k = k
from_both first (Some f) None h k = h
from_both first (Some f) (Some g) h k = omega (arith, h, k)

pub from_test : (first : ℕ) (b : Bool) (o p : Option ℕ) → IsFrom first o → IsFrom first p → IsFrom first (cond b o p)
from_test first true o p h k = h
from_test first false o p h k = k

entered_keeps : (first file from next : ℕ) (t : Trace) → first ≤ file → KeepsFrom first t → (b : Bool) → (b ≡ true → from ≤ t.next) → KeepsFrom first (entered file from next t b)
entered_keeps first file from next t late k true inside = record {
  since = from_both first t.since (Some file) k.since late;
  tail = late;
  entries = λ i low high. by_place i low (nat_le from i) refl;
  keys = k.keys;
}
  where
    by_place : (i : ℕ) → t.low ≤ i → (b : Bool) → nat_le from i ≡ b → IsFrom first (cond b (Some file) (t.entry_file i))
    by_place i low true e = late
    by_place i low false e =
        let before : suc i ≤ from = leb-false from i e in
        let end = inside refl in
        k.entries i low (omega (arith, before, end))
entered_keeps first file from next t late k false inside = record {
  since = from_both first (least t.since t.tail) (Some file) (from_both first t.since t.tail k.since k.tail) late;
  tail = late;
  entries = λ i low high. from_test first (nat_le from i) (Some file) None late tt;
  keys = k.keys;
}

cut_keeps : (first file low : ℕ) (t : Trace) → first ≤ file → KeepsFrom first t → t.low ≤ low → (b : Bool) → KeepsFrom first (cut file low t b)
cut_keeps first file low t late k above true = record {
  since = from_both first t.since (Some file) k.since late;
  tail = k.tail;
  entries = λ i from high. from_test first (nat_lt i low) None (t.entry_file i) tt (k.entries i (le_trans above from) high);
  keys = k.keys;
}
cut_keeps first file low t late k above false = record {
  since = from_both first (least t.since t.tail) (Some file) (from_both first t.since t.tail k.since k.tail) late;
  tail = from_both first (least t.since t.tail) (Some file) (from_both first t.since t.tail k.since k.tail) late;
  entries = λ i from high. tt;
  keys = k.keys;
}

-- A change in a later file names no earlier one.
pub change_keeps : {E : Type 0} (first file : ℕ) (change : Change E) (t : Trace) → first ≤ file → GoOn change t → KeepsFrom first t → KeepsFrom first (trace_after file change t)
change_keeps first file (entries es) t late on k = entered_keeps first file (first_index es) (first_index es + length es) t late k (nat_lt t.low t.next) (λ e. (on.inside e).1)
change_keeps first file clean t late on k = record { since = late; tail = late; entries = λ i low high. tt; keys = λ name. tt }
change_keeps first file (compact limit) t late on k = cut_keeps first file (greater t.low limit) t late k (least_of_greater t.low limit).0 (nat_lt (greater t.low limit) t.next)
change_keeps first file (put name value) t late on k = record {
  since = from_both first t.since (Some file) k.since late;
  tail = k.tail;
  entries = k.entries;
  keys = λ key. from_test first (bytes_eq name key) (Some file) (t.key_file key) late (k.keys key);
}
change_keeps first file (delete name) t late on k = record {
  since = from_both first t.since (Some file) k.since late;
  tail = k.tail;
  entries = k.entries;
  keys = λ key. from_test first (bytes_eq name key) None (t.key_file key) tt (k.keys key);
}
change_keeps first file (mark id status) t late on k = k

pub alike_keeps : (first : ℕ) (t u : Trace) → IsAlike t u → KeepsFrom first t → KeepsFrom first u
alike_keeps first t u a k = record {
  since = subst (λ (o : Option ℕ). IsFrom first o) a.since k.since;
  tail = subst (λ (o : Option ℕ). IsFrom first o) a.tail k.tail;
  entries = λ i l m. subst (λ (o : Option ℕ). IsFrom first o) (a.entry_file i) (k.entries i (subst (λ (n : ℕ). n ≤ i) (sym a.low) l) (subst (λ (n : ℕ). i < n) (sym a.next) m));
  keys = λ key. subst (λ (o : Option ℕ). IsFrom first o) (a.key_file key) (k.keys key);
}

-- ---- batches, one after the other

record Stand {E : Type 0} (first : ℕ) (traces : Traces) (older content : Content E) (account : Account) : Type 0 where
  knows : (group : ℕ) → Knows (traces group) (older group) (content group) (account group)
  last : (group : ℕ) → HasLast (traces group) (content group)
  kept : (group : ℕ) → KeepsFrom first (traces group)

item_stands : {E : Type 0} (first file : ℕ) (item : Item E) (traces : Traces) (older content : Content E) (account : Account) → first ≤ file → GoOn item.change (traces item.group) → Follows item.change → Stand first traces older content account
    → Stand first (traces_after_item file item traces) older (after_item item content) (account_after_item file item account)
item_stands {E} first file item traces older content account late on follow s = record {
  knows = λ group. (at group (nat_eq item.group group) refl).0;
  last = λ group. (at group (nat_eq item.group group) refl).1;
  kept = λ group. (at group (nat_eq item.group group) refl).2;
}
  where
    at : (group : ℕ) (b : Bool) → nat_eq item.group group ≡ b
        → Knows (cond b (trace_after file item.change (traces group)) (traces group)) (older group) (cond b (after_change item.change (content group)) (content group)) (cond b (names_after file item.change (account group)) (account group))
        × HasLast (cond b (trace_after file item.change (traces group)) (traces group)) (cond b (after_change item.change (content group)) (content group))
        × KeepsFrom first (cond b (trace_after file item.change (traces group)) (traces group))
    at group true e =
        let here : GoOn item.change (traces group) = subst (λ (n : ℕ). GoOn item.change (traces n)) (eqb-true item.group group e) on in (
          changes_keep_known file item.change (traces group) (older group) (content group) (account group) here (s.knows group),
          changes_leave_last file item.change (traces group) (content group) follow (s.last group),
          change_keeps first file item.change (traces group) late here (s.kept group),
        )
    at group false e = (s.knows group, s.last group, s.kept group)

-- What memtables take goes on where the traces have led, item by item.
items_stand : {E : Type 0} (first file : ℕ) (items : List (Item E)) (traces : Traces) (older content : Content E) (account : Account) → first ≤ file → TakesEach items content → AllByRecursion (λ item. Follows item.change) items
    → Stand first traces older content account
    → AllGoOn file items traces × Stand first (traces_after file items traces) older (after_batch items content) (account_after_items file items account)
items_stand first file [] traces older content account late takes follow s = (tt, s)
items_stand first file (item ∷ items) traces older content account late takes follow s =
    let on = taken_changes_go_on item.change (traces item.group) (older item.group) (content item.group) (account item.group) (s.knows item.group) (s.last item.group) follow.0 takes.0 in
    let rest = items_stand first file items (traces_after_item file item traces) older (after_item item content) (account_after_item file item account) late takes.1 follow.1 (item_stands first file item traces older content account late on follow.0 s) in (
      (on, rest.0),
      rest.1,
    )

pub batches_of-append : {E : Type 0} (before after : List (Filed E)) → batches_of (before ++ after) ≡ batches_of before ++ batches_of after
batches_of-append [] after = refl
batches_of-append (b ∷ before) after = ap (λ l. b.items ∷ l) (batches_of-append before after)

pub unmarked_more : {E : Type 0} (before after : List (Filed E)) → AreUnmarked (batches_of before) → AreUnmarked (batches_of after) → AreUnmarked (batches_of (before ++ after))
unmarked_more [] after u v = v
unmarked_more (b ∷ before) after u v = (u.0, unmarked_more before after u.1 v)

unmarked_rest : {E : Type 0} (before after : List (Filed E)) → AreUnmarked (batches_of (before ++ after)) → AreUnmarked (batches_of after)
unmarked_rest [] after u = u
unmarked_rest (b ∷ before) after u = unmarked_rest before after u.1

after_both : {E : Type 0} (before after : List (Filed E)) (start : Content E) → after_batches (batches_of (before ++ after)) start ≡ after_batches (batches_of after) (after_batches (batches_of before) start)
after_both before after start = ap (λ l. after_batches l start) (batches_of-append before after) ∙ after_batches-append (batches_of before) (batches_of after) start

none_left : {E : Type 0} (next : ℕ) (gone : List (Filed E)) → AllByRecursion (λ b. b.file < next) gone → batches_from next gone ≡ []
none_left next [] early = refl
none_left next (b ∷ gone) early = ap (λ t. cond t (b.items ∷ batches_from next gone) (batches_from next gone)) (lt-leb next b.file early.0) ∙ none_left next gone early.1

-- ---- laws

pub cleaned_queues_read_as_the_content : {E : Type 0} → CleanedQueuesReadAsTheContent E
cleaned_queues_read_as_the_content first traces records content bs k =
    ap (λ l. content_of (records ++ l)) (sym (all_stay first bs k.rise))
    ∙ files_before_the_least_may_go traces k.account records k.start bs first first (subst (λ c. IsCleanable traces k.account records c bs) k.base k.cleanable) k.rise k.unmarked k.kept first (le_refl first)
    ∙ sym k.base

pub new_queues_can_be_cleaned : {E : Type 0} → NewQueuesCanBeCleaned E
new_queues_can_be_cleaned first = record {
  account = no_account;
  start = nothing;
  base = refl;
  cleanable = new_queues_are_cleanable;
  rise = tt;
  unmarked = tt;
  kept = λ group. record { since = tt; tail = tt; entries = λ i low high. tt; keys = λ name. tt };
  last = λ group full. absurd (omega (arith, full));
}

pub writes_leave_cleanable : {E : Type 0} → WritesLeaveCleanable E
writes_leave_cleanable first file traces others records content bs items k late rise takes follow unmarked alike =
    let s = items_stand first file items traces (content_of records) content k.account late takes follow (record { knows = k.cleanable.kept.knows; last = k.last; kept = k.kept }) in record {
      account = account_after file items k.account;
      start = k.start;
      base = ap (after_batch items) k.base ∙ sym (after_both bs (record { file = file; items = items } ∷ []) k.start);
      cleanable = writes_keep_cleanable traces others k.account records content bs file items k.cleanable s.0 alike;
      rise = rise;
      unmarked = unmarked_more bs (record { file = file; items = items } ∷ []) k.unmarked (unmarked, tt);
      kept = λ group. alike_keeps first (traces_after file items traces group) (others group) (alike group) (s.1.kept group);
      last = λ group. alike_last (traces_after file items traces group) (others group) (after_batch items content group) (alike group) (s.1.last group);
    }

pub files_that_go_leave_cleanable : {E : Type 0} → FilesThatGoLeaveCleanable E
files_that_go_leave_cleanable {E} first next traces records content gone left k keeps early rise = record {
  account = k.account;
  start = after_batches (batches_of gone) k.start;
  base = k.base ∙ after_both gone left k.start;
  cleanable = record {
    kept = record {
      accounted = files_are_forgotten k.account (content_of records) content gone left next k.cleanable.kept.accounted
          (traces_let_go traces content k.account next k.cleanable.kept.bounds (kept_files_tell {E = E} traces content next keeps)) (none_left next gone early);
      bounds = k.cleanable.kept.bounds;
      knows = k.cleanable.kept.knows;
      files = k.cleanable.kept.files;
    };
    behind = k.cleanable.behind;
  };
  rise = rise;
  unmarked = unmarked_rest gone left k.unmarked;
  kept = keeps;
  last = k.last;
}
