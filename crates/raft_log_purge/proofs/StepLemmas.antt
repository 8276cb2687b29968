-- What the steps of a cleaning keep.
use Rattle.std.proofs.Common.{◌≡◌, inl, inr, ◌≤◌, ◌<◌, ℕ, Bool, true, false, cond, List, [], ◌∷◌, ◌++◌, length, Option, Some, None, refl, sym, ap, subst, ◌∙◌, append_assoc, append-nil, ◌+◌, ◌-◌, arith}
use Rattle.std.proofs.lemmas.Bool.{eqb-true, eqb-false}
use Rattle.std.specs.Prelude.{Result, Ok, Err, OnOk, IsSome, nat_eq, nat_le, nat_lt, bytes_eq, slice_index, ◌&&◌, ◌^◌}
use Rattle.raft_log_records.specs.declared.item.AtomicGroupStatus.{AtomicGroupStatus}
use Rattle.raft_log_records.specs.Batch.{Batch, Logs, LogsEntries, numbered, run_of}
use Rattle.raft_log_records.specs.declared.error.RecordError.{RecordError}
use Rattle.raft_log_records.specs.Item.{Change, Item}
use Rattle.raft_log_records.specs.Item.Change.{entries, clean, compact, put, delete, mark}
use Rattle.raft_log_records.specs.Spelling.{first_index}
use Rattle.raft_log_memtables.specs.Content.{Content, GroupContent, entry_at}
use Rattle.raft_log_memtables.specs.Laws.{all_of}
use Rattle.raft_log_memtables.specs.MemTable.{is_mark_of}
use Rattle.raft_log_memtables.specs.Replay.{mark_in, mark_of}
use Rattle.raft_log_covers.specs.Account.{Account, IsFrom}
use Rattle.raft_log_covers.specs.Cells.{AreUnmarked}
use Rattle.raft_log_covers.specs.Joined.{without_marks}
use Rattle.raft_log_covers.specs.Kept.{Traces, with_trace, new_trace}
use Rattle.raft_log_covers.specs.Marks.{marks, of_group}
use Rattle.raft_log_covers.specs.Queues.{Filed}
use Rattle.raft_log_covers.specs.Trace.{Trace, trace_marked, trace_rewritten, trace_put}
use Rattle.raft_log_covers.specs.Written.Written.{alone}
use Rattle.raft_log_covers.proofs.JoinedLemmas.{parts_keep}
use Rattle.raft_log_covers.proofs.MarkLemmas.{marks_unmarked}
use Rattle.raft_log_traces.specs.Alike.{IsAlike, AreAlike}
use Rattle.raft_log_traces.specs.Files.{KeepsFrom}
use Rattle.raft_log_marks.specs.Cleaning.{IsCleanable, AreFront}
use Rattle.raft_log_marks.specs.GroupMarks.{marks_of, trace_after_marks}
use Rattle.raft_log_marks.specs.MarkLaws.{IsThere}
use Rattle.raft_log_marks.specs.Standing.{CanBeCleaned}
use Rattle.raft_log_marks.specs.Whole.{HasLast}
use Rattle.raft_log_marks.proofs.CleaningLemmas.{marks_keep_cleanable, entries_keep_cleanable, keys_keep_cleanable}
use Rattle.raft_log_marks.proofs.StandingLemmas.{alike_keeps}
use Rattle.raft_log_marks.proofs.WholeLemmas.{alike_last, rewrites_leave_last}
use Rattle.raft_log_purge.specs.Marking.{is_before, needs_marks}
use Rattle.raft_log_purge.specs.Steps.{IsStep, AreSteps, HasSteps, IsFrontOf}
use Rattle.raft_log_purge.specs.StepLaws.{StepsKeepCleanable, BatchesOfStepsKeepCleanable, StepsKeepFiles, StepsLeaveCleanable}

-- ---- one step

-- the invariant holds once a part is written and noted
abbrev IsKeptBy : {E : Type 0} → Traces → List (List (Item E)) → Content E → List (Filed E) → List (Item E) → Type 0
IsKeptBy others records content bs part = (after : Account) × IsCleanable others after (records ++ part ∷ []) content bs

step_keeps : {E : Type 0} (traces others : Traces) (account : Account) (records : List (List (Item E))) (part : List (Item E)) (content : Content E) (bs : List (Filed E))
    → IsCleanable traces account records content bs → IsStep content traces part others → IsKeptBy others records content bs part
step_keeps {E} traces others account records part content bs k (inl m) =
    subst (λ (p : List (Item E)). IsKeptBy others records content bs p) (sym m.written) (marks_keep_cleanable traces others account records content bs m.group m.there k m.is_there m.noted)
step_keeps {E} traces others account records part content bs k (inr (inl f)) =
    subst (λ (p : List (Item E)). IsKeptBy others records content bs p) (sym f.written) (entries_keep_cleanable traces others account records content bs f.group f.es f.stop k f.front f.noted)
step_keeps {E} traces others account records part content bs k (inr (inr p)) =
    subst (λ (q : List (Item E)). IsKeptBy others records content bs q) (sym p.written) (keys_keep_cleanable traces others account records content bs p.group p.name p.value k p.not_cleaned p.there p.has p.noted)

-- ---- steps one after the other

abbrev AreKeptBy : {E : Type 0} → Traces → Content E → List (Filed E) → List (List (Item E)) → Type 0
AreKeptBy others content bs records = (after : Account) × IsCleanable others after records content bs

pub steps_keep_cleanable : {E : Type 0} → StepsKeepCleanable E
steps_keep_cleanable {E} traces others account records [] content bs k e =
    subst (λ (t : Traces). AreKeptBy t content bs (records ++ [])) e
    (subst (λ (rs : List (List (Item E))). AreKeptBy traces content bs rs) (sym (append-nil records)) (account, k))
steps_keep_cleanable {E} traces others account records (part ∷ parts) content bs k s =
    let one = step_keeps traces s.0 account records part content bs k s.1 in
    subst (λ (rs : List (List (Item E))). AreKeptBy others content bs rs) (append_assoc records (part ∷ []) parts)
    (steps_keep_cleanable s.0 others one.0 (records ++ part ∷ []) parts content bs one.1 s.2)

-- ---- as one record

group_unmarked : (E : Type 0) (group : ℕ) (there : Bool) (t : Trace) → mark_of {E = E} (of_group group (marks_of there t)) ≡ None
group_unmarked E group true t = marks_unmarked E group t.cleaned t.low t.deleted
group_unmarked E group false t = refl

step_unmarked : {E : Type 0} (content : Content E) (traces others : Traces) (part : List (Item E)) → IsStep content traces part others → mark_of part ≡ None
step_unmarked {E} content traces others part (inl m) = ap mark_of m.written ∙ group_unmarked E m.group m.there (traces m.group)
step_unmarked content traces others part (inr (inl f)) = ap mark_of f.written
step_unmarked content traces others part (inr (inr p)) = ap mark_of p.written

steps_unmarked : {E : Type 0} (content : Content E) (traces others : Traces) (parts : List (List (Item E))) → AreSteps content traces parts others → AreUnmarked parts
steps_unmarked content traces others [] e = tt
steps_unmarked content traces others (part ∷ parts) s = (step_unmarked content traces s.0 part s.1, steps_unmarked content s.0 others parts s.2)

no_mark : {E : Type 0} (change : Change E) (o : Option (ℕ × AtomicGroupStatus)) → mark_in change o ≡ None → (is_mark_of change ≡ false) × (o ≡ None)
no_mark (entries es) o h = (refl, h)
no_mark clean o h = (refl, h)
no_mark (compact limit) o h = (refl, h)
no_mark (put k value) o h = (refl, h)
no_mark (delete k) o h = (refl, h)
no_mark (mark id status) o h = absurd cc

all_stay : {E : Type 0} (items : List (Item E)) → mark_of items ≡ None → without_marks items ≡ items
all_stay [] h = refl
all_stay {E} (item ∷ items) h =
    let apart = no_mark item.change (mark_of items) h in
    ap (λ (b : Bool). cond b (without_marks items) (item ∷ without_marks items)) apart.0 ∙ ap (λ (is : List (Item E)). item ∷ is) (all_stay items apart.1)

unmarked_both : {E : Type 0} (change : Change E) (o p : Option (ℕ × AtomicGroupStatus)) → mark_in change o ≡ None → (o ≡ None → p ≡ None) → mark_in change p ≡ None
unmarked_both (entries es) o p h f = f h
unmarked_both clean o p h f = f h
unmarked_both (compact limit) o p h f = f h
unmarked_both (put k value) o p h f = f h
unmarked_both (delete k) o p h f = f h
unmarked_both (mark id status) o p h f = absurd cc

marks_join : {E : Type 0} (first second : List (Item E)) → mark_of first ≡ None → mark_of second ≡ None → mark_of (first ++ second) ≡ None
marks_join [] second u v = v
marks_join (item ∷ items) second u v = unmarked_both item.change (mark_of items) (mark_of (items ++ second)) u (λ h. marks_join items second h v)

parts_unmarked : {E : Type 0} (parts : List (List (Item E))) → AreUnmarked parts → mark_of (all_of parts) ≡ None
parts_unmarked [] u = refl
parts_unmarked (part ∷ parts) u = marks_join part (all_of parts) u.0 (parts_unmarked parts u.1)

-- what is written in some steps has no mark of an atomic group
pub has_no_mark : {E : Type 0} (content : Content E) (traces others : Traces) (items : List (Item E)) → HasSteps content traces [] others items → mark_of items ≡ None
has_no_mark content traces others items s = ap mark_of s.1 ∙ parts_unmarked s.0 (steps_unmarked content traces others s.0 s.2)

pub batches_of_steps_keep_cleanable : {E : Type 0} → BatchesOfStepsKeepCleanable E
batches_of_steps_keep_cleanable {E} traces others account records items content bs k s =
    let parts = s.0 in
    let unmarked = steps_unmarked content traces others parts s.2 in
    let plain = parts_unmarked parts unmarked in
    let each = steps_keep_cleanable traces others account records parts content bs k s.2 in
    subst (λ (is : List (Item E)). IsKeptBy others records content bs is) (sym s.1) (
      each.0,
      record {
        kept = parts_keep others each.0 records parts content bs (alone (all_of parts)) plain unmarked (all_stay (all_of parts) plain) each.1.kept;
        behind = each.1.behind;
      },
    )

-- ---- files

from_either : (first : ℕ) (b : Bool) (o : Option ℕ) → IsFrom first o → IsFrom first (cond b None o)
from_either first true o h = tt
from_either first false o h = h

marked_keeps : (first : ℕ) (t : Trace) → KeepsFrom first t → KeepsFrom first (trace_marked t)
marked_keeps first t k = record {
  since = tt;
  tail = from_either first (nat_le t.next t.low) t.tail k.tail;
  entries = k.entries;
  keys = k.keys;
}

new_keeps : (first : ℕ) → KeepsFrom first new_trace
new_keeps first = record { since = tt; tail = tt; entries = λ i l m. tt; keys = λ k. tt }

after_marks_keeps : (first : ℕ) (there : Bool) (t : Trace) → KeepsFrom first t → KeepsFrom first (trace_after_marks there t)
after_marks_keeps first true t k = marked_keeps first t k
after_marks_keeps first false t k = new_keeps first

rewritten_keeps : (first from stop : ℕ) (t : Trace) → KeepsFrom first t → KeepsFrom first (trace_rewritten from stop t)
rewritten_keeps first from stop t k = record {
  since = k.since;
  tail = from_either first (nat_le t.next stop) t.tail k.tail;
  entries = λ i l m. from_either first (nat_le from i && nat_lt i stop) (t.entry_file i) (k.entries i l m);
  keys = k.keys;
}

put_keeps : (first : ℕ) (name : List ℕ) (t : Trace) → KeepsFrom first t → KeepsFrom first (trace_put name t)
put_keeps first name t k = record {
  since = k.since;
  tail = k.tail;
  entries = k.entries;
  keys = λ key. from_either first (bytes_eq name key) (t.key_file key) (k.keys key);
}

group_keeps : (first group : ℕ) (t : Trace) (traces : Traces) → KeepsFrom first t → ((other : ℕ) → KeepsFrom first (traces other)) → (other : ℕ) → KeepsFrom first (with_trace group t traces other)
group_keeps first group t traces k h other = by_test (nat_eq group other)
  where
    by_test : (b : Bool) → KeepsFrom first (cond b t (traces other))
    by_test true = k
    by_test false = h other

step_keeps_files : {E : Type 0} (traces others : Traces) (part : List (Item E)) (content : Content E) (first : ℕ) → IsStep content traces part others → ((group : ℕ) → KeepsFrom first (traces group))
    → (group : ℕ) → KeepsFrom first (others group)
step_keeps_files traces others part content first (inl m) h group =
    alike_keeps first _ (others group) (m.noted group) (group_keeps first m.group _ traces (after_marks_keeps first m.there (traces m.group) (h m.group)) h group)
step_keeps_files traces others part content first (inr (inl f)) h group =
    alike_keeps first _ (others group) (f.noted group) (group_keeps first f.group _ traces (rewritten_keeps first (first_index f.es) f.stop (traces f.group) (h f.group)) h group)
step_keeps_files traces others part content first (inr (inr p)) h group =
    alike_keeps first _ (others group) (p.noted group) (group_keeps first p.group _ traces (put_keeps first p.name (traces p.group) (h p.group)) h group)

pub steps_keep_files : {E : Type 0} → StepsKeepFiles E
steps_keep_files traces others [] content first e h group = subst (λ (t : Traces). KeepsFrom first (t group)) e (h group)
steps_keep_files traces others (part ∷ parts) content first s h group =
    steps_keep_files s.0 others parts content first s.2 (step_keeps_files traces s.0 part content first s.1 h) group

-- ---- the last entry of each group is there still

group_last : {E : Type 0} (group : ℕ) (t : Trace) (traces : Traces) (content : Content E) → HasLast t (content group) → ((other : ℕ) → HasLast (traces other) (content other))
    → (other : ℕ) → HasLast (with_trace group t traces other) (content other)
group_last group t traces content last h other = by_test (nat_eq group other) refl
  where
    by_test : (b : Bool) → nat_eq group other ≡ b → HasLast (cond b t (traces other)) (content other)
    by_test true same = subst (λ (n : ℕ). HasLast t (content n)) (eqb-true group other same) last
    by_test false apart = h other

step_keeps_last : {E : Type 0} (traces others : Traces) (part : List (Item E)) (content : Content E) → IsStep content traces part others → ((group : ℕ) → HasLast (traces group) (content group))
    → (group : ℕ) → HasLast (others group) (content group)
step_keeps_last traces others part content (inl m) h group =
    alike_last _ (others group) (content group) (m.noted group) (group_last m.group _ traces content ((rewrites_leave_last (traces m.group) (content m.group) (h m.group)).marked m.there) h group)
step_keeps_last traces others part content (inr (inl f)) h group = alike_last _ (others group) (content group) (f.noted group) (group_last f.group _ traces content ((rewrites_leave_last (traces f.group) (content f.group) (h f.group)).entries_too (first_index f.es) f.stop) h group)
step_keeps_last traces others part content (inr (inr p)) h group = alike_last _ (others group) (content group) (p.noted group) (group_last p.group _ traces content ((rewrites_leave_last (traces p.group) (content p.group) (h p.group)).keys_too p.name) h group)

steps_keep_last : {E : Type 0} (traces others : Traces) (parts : List (List (Item E))) (content : Content E) → AreSteps content traces parts others → ((group : ℕ) → HasLast (traces group) (content group))
    → (group : ℕ) → HasLast (others group) (content group)
steps_keep_last traces others [] content e h group = subst (λ (t : Traces). HasLast (t group) (content group)) e (h group)
steps_keep_last traces others (part ∷ parts) content s h group =
    steps_keep_last s.0 others parts content s.2 (step_keeps_last traces s.0 part content s.1 h) group

pub steps_leave_cleanable : {E : Type 0} → StepsLeaveCleanable E
steps_leave_cleanable first traces others records items content bs can s =
    let after = batches_of_steps_keep_cleanable traces others can.account records items content bs can.cleanable s in
    record {
      account = after.0;
      start = can.start;
      base = can.base;
      cleanable = after.1;
      rise = can.rise;
      unmarked = can.unmarked;
      kept = steps_keep_files traces others s.0 content first s.2 can.kept;
      last = steps_keep_last traces others s.0 content s.2 can.last;
    }

-- ---- steps in which nothing is written are none

changes_some : {E : Type 0} (group : ℕ) (cleaned : Bool) (limit : ℕ) (ks : List (List ℕ)) (rest : List (Item E)) → of_group group (marks cleaned limit ks) ++ rest ≡ [] → ⊥
changes_some group true limit ks rest e = cc
changes_some group false limit ks rest e = cc

marks_some : {E : Type 0} (group : ℕ) (there : Bool) (t : Trace) (rest : List (Item E)) → of_group group (marks_of there t) ++ rest ≡ [] → ⊥
marks_some group true t rest e = changes_some group t.cleaned t.low t.deleted rest e
marks_some group false t rest e = cc

step_some : {E : Type 0} (content : Content E) (traces others : Traces) (part rest : List (Item E)) → IsStep content traces part others → part ++ rest ≡ [] → ⊥
step_some {E} content traces others part rest (inl m) e = marks_some m.group m.there (traces m.group) rest (ap (λ (is : List (Item E)). is ++ rest) (sym m.written) ∙ e)
step_some {E} content traces others part rest (inr (inl f)) e = let none : of_group {E = E} f.group (entries f.es ∷ []) ++ rest ≡ [] = ap (λ (is : List (Item E)). is ++ rest) (sym f.written) ∙ e in cc
step_some {E} content traces others part rest (inr (inr p)) e = let none : of_group {E = E} p.group (put p.name p.value ∷ []) ++ rest ≡ [] = ap (λ (is : List (Item E)). is ++ rest) (sym p.written) ∙ e in cc

-- so traces are as before
pub steps_of_nothing : {E : Type 0} (content : Content E) (traces others : Traces) (items : List (Item E)) → HasSteps content traces [] others items → items ≡ [] → traces ≡ others
steps_of_nothing {E} content traces others items s none = by_parts s.0 s.2 (sym s.1 ∙ none)
  where
    by_parts : (parts : List (List (Item E))) → AreSteps content traces parts others → all_of parts ≡ [] → traces ≡ others
    by_parts [] e is = e
    by_parts (part ∷ parts) a is = absurd (step_some content traces a.0 part (all_of parts) a.1 is)

-- ---- one more step

pub step_added : {E : Type 0} (content : Content E) (traces middle others : Traces) (parts : List (List (Item E))) (part : List (Item E)) → AreSteps content traces parts middle → IsStep content middle part others
    → AreSteps content traces (parts ++ part ∷ []) others
step_added content traces middle others [] part e s = (others, subst (λ (t : Traces). IsStep content t part others) (sym e) s, refl)
step_added content traces middle others (first ∷ parts) part a s = (a.0, a.1, step_added content a.0 middle others parts part a.2 s)

pub steps_added : {E : Type 0} (content : Content E) (traces middle others : Traces) (parts more : List (List (Item E))) → AreSteps content traces parts middle → AreSteps content middle more others
    → AreSteps content traces (parts ++ more) others
steps_added content traces middle others [] more e s = subst (λ (t : Traces). AreSteps content t more others) (sym e) s
steps_added content traces middle others (first ∷ parts) more a s = (a.0, a.1, steps_added content a.0 middle others parts more a.2 s)

all_of-append : {E : Type 0} (parts more : List (List (Item E))) → all_of (parts ++ more) ≡ all_of parts ++ all_of more
all_of-append [] more = refl
all_of-append {E} (part ∷ parts) more = ap (λ (is : List (Item E)). part ++ is) (all_of-append parts more) ∙ sym (append_assoc part (all_of parts) (all_of more))

-- what is written in steps, and in more steps behind them
pub has_steps_added : {E : Type 0} (content : Content E) (traces middle others : Traces) (old mid new : List (Item E)) → HasSteps content traces old middle mid → HasSteps content middle mid others new
    → HasSteps content traces old others new
has_steps_added {E} content traces middle others old mid new one two = (
  one.0 ++ two.0,
  two.1 ∙ ap (λ (is : List (Item E)). is ++ all_of two.0) one.1 ∙ append_assoc old (all_of one.0) (all_of two.0) ∙ ap (λ (is : List (Item E)). old ++ is) (sym (all_of-append one.0 two.0)),
  steps_added content traces middle others one.0 two.0 one.2 two.2,
)

pub no_steps : {E : Type 0} (content : Content E) (traces : Traces) (items : List (Item E)) → HasSteps content traces items traces items
no_steps content traces items = ([], sym (append-nil items), refl)

pub one_step : {E : Type 0} (content : Content E) (traces others : Traces) (items part : List (Item E)) → IsStep content traces part others → HasSteps content traces items others (items ++ part)
one_step {E} content traces others items part s = (part ∷ [], ap (λ (is : List (Item E)). items ++ is) (sym (append-nil part)), (others, s, refl))

-- ---- marks of a group

pub marked_group : {E : Type 0} (content : Content E) (traces others : Traces) (t : Trace) (group : ℕ) (there : Bool) (old new : List (Item E)) → IsThere there (content group) → traces group ≡ t
    → new ≡ old ++ of_group group (marks_of there t) → AreAlike (with_trace group (trace_after_marks there (traces group)) traces) others → HasSteps content traces old others new
marked_group {E} content traces others t group there old new is_there same written noted =
    let part = of_group {E = E} group (marks_of there (traces group)) in (
      part ∷ [],
      written ∙ ap (λ (u : Trace). old ++ of_group group (marks_of there u)) (sym same) ∙ ap (λ (is : List (Item E)). old ++ is) (sym (append-nil part)),
      (others, inl (record { group = group; there = there; is_there = is_there; written = refl; noted = noted }), refl),
    )

needs_alike : (file : ℕ) (t u : Trace) → IsAlike t u → needs_marks file t ≡ needs_marks file u
needs_alike file t u a = λ j. is_before file (a.since j) && nat_lt (a.low j) (2 ^ 64)

needs_none : (file : ℕ) (there : Bool) (t : Trace) → needs_marks file (trace_after_marks there t) ≡ false
needs_none file true t = refl
needs_none file false t = refl

-- a group that is marked needs no marks, and none needs some that needed none before
pub marks_stay : (file : ℕ) (traces others : Traces) (group : ℕ) (there : Bool) → AreAlike (with_trace group (trace_after_marks there (traces group)) traces) others
    → (other : ℕ) → needs_marks file (traces other) ≡ false → needs_marks file (others other) ≡ false
marks_stay file traces others group there a other h = sym (needs_alike file _ (others other) (a other)) ∙ by_test (nat_eq group other)
  where
    by_test : (b : Bool) → needs_marks file (cond b (trace_after_marks there (traces group)) (traces other)) ≡ false
    by_test true = needs_none file there (traces group)
    by_test false = h

-- ---- groups one after the other

-- What is so of each of the first groups and stays so, and is so of the next one, is so of one more.
pub so_for_each : (old new : ℕ → Type 0) (groups : List ℕ) (at : ℕ) → ((k : ℕ) → k < at → old (slice_index groups k)) → ((group : ℕ) → old group → new group) → new (slice_index groups at)
    → (k : ℕ) → k < at + 1 → new (slice_index groups k)
so_for_each old new groups at before stays next k l = by_test (nat_eq k at) refl
  where
    by_test : (b : Bool) → nat_eq k at ≡ b → new (slice_index groups k)
    by_test true e = subst (λ (n : ℕ). new (slice_index groups n)) (sym (eqb-true k at e)) next
    by_test false e = let apart = eqb-false k at e in stays (slice_index groups k) (before k (omega (arith, l, apart)))

-- ---- entries and keys of a group

pub logged_run : (old : Batch) (group first : ℕ) (parts : List (List ℕ)) (new : Batch) (result : Result Unit RecordError) → 0 < length parts → LogsEntries old group first parts new result
    → OnOk result (new.items ≡ old.items ++ run_of group first parts ∷ [])
logged_run old group first [] new result l h = absurd (omega (arith, l))
logged_run old group first (e ∷ es) new (Ok x) l h = ap (λ (b : Batch). b.items) h.0
logged_run old group first (e ∷ es) new (Err x) l h = tt

first_of : (first : ℕ) (parts : List (List ℕ)) → 0 < length parts → first_index (numbered first parts) ≡ first
first_of first [] l = absurd (omega (arith, l))
first_of first (e ∷ es) l = refl

none_numbered : {E : Type 0} (first : ℕ) (parts : List E) (i : ℕ) → i < first → entry_at (numbered first parts) i ≡ None
none_numbered first [] i l = refl
none_numbered {E} first (e ∷ es) i l = by_test (nat_eq first i) refl (none_numbered (first + 1) es i (omega (arith, l)))
  where
    by_test : (b : Bool) → nat_eq first i ≡ b → entry_at (numbered (first + 1) es) i ≡ None → cond b (Some e) (entry_at (numbered (first + 1) es) i) ≡ None
    by_test true same rest = let eq = eqb-true first i same in absurd (omega (arith, l, eq))
    by_test false apart rest = rest

pub front_rewritten : (content : Content (List ℕ)) (traces others : Traces) (group first stop : ℕ) (parts : List (List ℕ)) (old new : List (Item (List ℕ))) → 0 < length parts → stop ≡ first + length parts
    → IsFrontOf content traces group first parts → new ≡ old ++ run_of group first parts ∷ []
    → ((n : ℕ) → ((i : ℕ) → i < n → (traces group).entry_file i ≡ None) → AreAlike (with_trace group (trace_rewritten n stop (traces group)) traces) others)
    → HasSteps content traces old others new
front_rewritten content traces others group first stop parts old new some ends front written noted =
    let es = numbered first parts in
    let e : first ≡ first_index es = sym (first_of first parts some) in (
      (run_of group first parts ∷ []) ∷ [],
      written,
      (
        others,
        inr (inl (record {
          group = group;
          es = es;
          stop = stop;
          front = subst (λ (n : ℕ). AreFront (traces group) (content group) es n) (sym ends) front.front;
          none_before = λ i below. none_numbered first parts i (subst (λ (n : ℕ). i < n) (sym e) below);
          written = refl;
          noted = subst (λ (n : ℕ). AreAlike (with_trace group (trace_rewritten n stop (traces group)) traces) others) e (noted first front.below);
        })),
        refl,
      ),
    )

pub key_rewritten : (content : Content (List ℕ)) (traces others : Traces) (group : ℕ) (name value : List ℕ) (old new : List (Item (List ℕ)))
    → (traces group).cleaned ≡ false → (content group).there ≡ true → (content group).value name ≡ Some value → new ≡ old ++ record { group = group; change = put name value } ∷ []
    → AreAlike (with_trace group (trace_put name (traces group)) traces) others → HasSteps content traces old others new
key_rewritten content traces others group name value old new apart there has written noted = (
  (record { group = group; change = put name value } ∷ []) ∷ [],
  written,
  (others, inr (inr (record { group = group; name = name; value = value; not_cleaned = apart; there = there; has = has; written = refl; noted = noted })), refl),
)

pub logged_item : (old : Batch) (item : Item (List ℕ)) (new : Batch) (result : Result Unit RecordError) → Logs old item new result → OnOk result (new.items ≡ old.items ++ item ∷ [])
logged_item old item new (Ok x) h = ap (λ (b : Batch). b.items) h.0
logged_item old item new (Err x) h = tt

pub on_ok : {A B : Type 0} (result : Result Unit RecordError) → OnOk result A → (A → B) → OnOk result B
on_ok (Ok x) h f = f h
on_ok (Err x) h f = tt

alike_same : (traces : Traces) (group : ℕ) (t : Trace) → IsAlike t (traces group) → AreAlike (with_trace group t traces) traces
alike_same traces group t a other = by_test (nat_eq group other) refl
  where
    by_test : (b : Bool) → nat_eq group other ≡ b → IsAlike (cond b t (traces other)) (traces other)
    by_test true e = subst (λ (n : ℕ). IsAlike t (traces n)) (eqb-true group other e) a
    by_test false e = record { low = refl; next = refl; top = refl; since = refl; tail = refl; entry_file = λ i. refl; key_file = λ k. refl; cleaned = refl; deleted = λ k. refl }

new_marked : IsAlike (trace_marked new_trace) new_trace
new_marked = record { low = refl; next = refl; top = refl; since = refl; tail = refl; entry_file = λ i. refl; key_file = λ k. refl; cleaned = refl; deleted = λ k. refl }

-- the marks of a group of which nothing was written to the append queue
pub marked_new : (content : Content (List ℕ)) (traces : Traces) (group : ℕ) (old new : List (Item (List ℕ))) → (content group).there ≡ true → traces group ≡ new_trace
    → new ≡ old ++ of_group group (marks_of true new_trace) → HasSteps content traces old traces new
marked_new content traces group old new there same written =
    marked_group content traces traces new_trace group true old new there same written
    (alike_same traces group (trace_marked (traces group)) (subst (λ (t : Trace). IsAlike (trace_marked t) t) (sym same) new_marked))
