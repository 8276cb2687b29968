-- What memtables take goes on where traces have led; lists without a hole.
use Rattle.std.proofs.Common.{◌≡◌, ◌≤◌, ◌<◌, ◌+◌, ◌-◌, ℕ, suc, Bool, true, false, cond, List, length, None, refl, sym, subst, arith, ltb-true, ltb-false, leb-false, le_trans, ⊎_elim}
use Rattle.std.specs.Prelude.{◌&&◌, IsSome, nat_le, nat_lt}
use Rattle.std.proofs.lemmas.Bool.{le-leb, leb-true, le-ltb}
use Rattle.raft_log_records.specs.Item.Change.{entries, clean, compact, put, delete, mark}
use Rattle.raft_log_records.specs.Spelling.{first_index}
use Rattle.raft_log_memtables.specs.Content.{GroupContent, entry_at, after_change}
use Rattle.raft_log_covers.specs.Marks.{Names}
use Rattle.raft_log_covers.specs.Trace.{Trace, Knows, greater, entered, cut}
use Rattle.raft_log_covers.proofs.FileLemmas.{not_there}
use Rattle.raft_log_covers.proofs.KnownLemmas.{none_outside}
use Rattle.raft_log_covers.proofs.TraceLemmas.{least_of_greater}
use Rattle.raft_log_traces.specs.Alike.{IsAlike}
use Rattle.raft_log_marks.specs.GroupMarks.{trace_after_marks}
use Rattle.raft_log_marks.specs.Whole.{HasLast, IsWhole, FollowOneAnother, TakenChangesGoOn, ChangesLeaveLast, RewritesLeaveLast, ChangesLeaveWhole}
use Rattle.raft_log_marks.proofs.CleaningLemmas.{some_from_low}

some_to_end : {E : Type 0} (t : Trace) (older g : GroupContent E) (names : Names) → Knows t older g names → (i : ℕ) → IsSome (g.entry i) → i < t.next
some_to_end t older g names k i s = by_test (nat_lt i t.next) refl
  where
    by_test : (b : Bool) → nat_lt i t.next ≡ b → i < t.next
    by_test true l = ltb-true i t.next l
    by_test false l = not_there (g.entry i) (none_outside t older g names k i (λ h. ltb-false i t.next l)) s

second_of : (a b : Bool) → (a && b) ≡ true → b ≡ true
second_of true b e = e
second_of false b e = absurd cc

pub taken_changes_go_on : {E : Type 0} → TakenChangesGoOn E
taken_changes_go_on (entries es) t older g names k last follow takes = record {
  run = follow.run;
  inside = λ e.
      let here = last (ltb-true t.low t.next e) in
      ⊎_elim
      (λ none. not_there (g.entry (t.next - 1)) (none (t.next - 1) (le-leb 0 (t.next - 1) (omega arith))) here)
      (λ both.
      let low = some_from_low t older g names k both.0.0 both.0.2 in
      let first = leb-true both.0.0 (first_index es) (second_of (nat_le 0 both.0.0) (nat_le both.0.0 (first_index es)) both.0.1) in
      let high = some_to_end t older g names k both.1.0 both.1.2 in
      let last = leb-true (first_index es - 1) both.1.0 both.1.1 in
      (omega (arith, low, first), omega (arith, high, last)))
      takes;
}
taken_changes_go_on clean t older g names k last follow takes = tt
taken_changes_go_on (compact limit) t older g names k last follow takes = tt
taken_changes_go_on (put name value) t older g names k last follow takes = tt
taken_changes_go_on (delete name) t older g names k last follow takes = tt
taken_changes_go_on (mark id status) t older g names k last follow takes = tt

-- ---- the last entry

pub entered_last : {E : Type 0} (file : ℕ) (es : List (ℕ × E)) (t : Trace) (g : GroupContent E) → FollowOneAnother es → (b : Bool)
    → HasLast (entered file (first_index es) (first_index es + length es) t b) (after_change (entries es) g)
entered_last file es t g follow b full = at_end b
  where
    some : 0 < length es
    some = follow.run.some

    there : IsSome (cond (nat_le (first_index es) (first_index es + length es - 1)) (entry_at es (first_index es + length es - 1)) (g.entry (first_index es + length es - 1)))
    there =
        let few = some in
        subst (λ (a : Bool). IsSome (cond a (entry_at es (first_index es + length es - 1)) (g.entry (first_index es + length es - 1)))) (sym (le-leb (first_index es) (first_index es + length es - 1) (omega (arith, few))))
        (follow.each (first_index es + length es - 1) (omega (arith, few)) (omega (arith, few)))

    at_end : (b : Bool) → IsSome ((after_change (entries es) g).entry ((entered file (first_index es) (first_index es + length es) t b).next - 1))
    at_end true = there
    at_end false = there

cut_last : {E : Type 0} (file limit : ℕ) (t : Trace) (g : GroupContent E) → HasLast t g → (b : Bool) → HasLast (cut file (greater t.low limit) t b) (after_change {E = E} (compact limit) g)
cut_last file limit t g last true full =
    let both = least_of_greater t.low limit in
    let low = both.0 in
    let high = both.1 in
    subst (λ (a : Bool). IsSome (cond a None (g.entry (t.next - 1)))) (sym (le-ltb (t.next - 1) limit (omega (arith, high, full)))) (last (omega (arith, low, full)))
cut_last file limit t g last false full = absurd (omega (arith, full))

pub changes_leave_last : {E : Type 0} → ChangesLeaveLast E
changes_leave_last file (entries es) t g follow last = entered_last file es t g follow (nat_lt t.low t.next)
changes_leave_last file clean t g follow last = λ full. absurd (omega (arith, full))
changes_leave_last file (compact limit) t g follow last = cut_last file limit t g last (nat_lt (greater t.low limit) t.next)
changes_leave_last file (put name value) t g follow last = last
changes_leave_last file (delete name) t g follow last = last
changes_leave_last file (mark id status) t g follow last = last

marked_last : {E : Type 0} (t : Trace) (g : GroupContent E) → HasLast t g → (there : Bool) → HasLast (trace_after_marks there t) g
marked_last t g last true = last
marked_last t g last false = λ full. absurd (omega (arith, full))

pub rewrites_leave_last : {E : Type 0} → RewritesLeaveLast E
rewrites_leave_last t g last = record {
  marked = marked_last t g last;
  entries_too = λ first stop. last;
  keys_too = λ name. last;
}

-- of a trace that says the same
pub alike_last : {E : Type 0} (t u : Trace) (g : GroupContent E) → IsAlike t u → HasLast t g → HasLast u g
alike_last t u g a last full =
    subst (λ (n : ℕ). IsSome (g.entry (n - 1))) a.next (last (let p = a.low in let q = a.next in omega (arith, full, p, q)))

-- ---- lists without a hole

entered_whole : {E : Type 0} (file : ℕ) (es : List (ℕ × E)) (t : Trace) (g : GroupContent E) → FollowOneAnother es → IsWhole t g → (b : Bool) → (b ≡ true → first_index es ≤ t.next)
    → IsWhole (entered file (first_index es) (first_index es + length es) t b) (after_change (entries es) g)
entered_whole file es t g follow whole true inside i low high = by_test (nat_le (first_index es) i) refl
  where
    by_test : (a : Bool) → nat_le (first_index es) i ≡ a → IsSome (cond a (entry_at es i) (g.entry i))
    by_test true e = follow.each i (leb-true (first_index es) i e) high
    by_test false e =
        let before : suc i ≤ first_index es = leb-false (first_index es) i e in
        let end = inside refl in
        whole i low (omega (arith, before, end))
entered_whole file es t g follow whole false inside i low high =
    subst (λ (a : Bool). IsSome (cond a (entry_at es i) (g.entry i))) (sym (le-leb (first_index es) i low)) (follow.each i low high)

cut_whole : {E : Type 0} (file limit : ℕ) (t : Trace) (g : GroupContent E) → IsWhole t g → (b : Bool) → IsWhole (cut file (greater t.low limit) t b) (after_change {E = E} (compact limit) g)
cut_whole file limit t g whole true i low high =
    let both = least_of_greater t.low limit in
    subst (λ (a : Bool). IsSome (cond a None (g.entry i))) (sym (le-ltb i limit (le_trans both.1 low))) (whole i (le_trans both.0 low) high)
cut_whole file limit t g whole false i low high = absurd (omega (arith, low, high))

pub changes_leave_whole : {E : Type 0} → ChangesLeaveWhole E
changes_leave_whole file (entries es) t g on follow whole = entered_whole file es t g follow whole (nat_lt t.low t.next) (λ e. (on.inside e).1)
changes_leave_whole file clean t g on follow whole = λ i low high. absurd (omega (arith, high))
changes_leave_whole file (compact limit) t g on follow whole = cut_whole file limit t g whole (nat_lt (greater t.low limit) t.next)
changes_leave_whole file (put name value) t g on follow whole = whole
changes_leave_whole file (delete name) t g on follow whole = whole
changes_leave_whole file (mark id status) t g on follow whole = whole
