-- Traces that say the same.
use Rattle.std.proofs.Common.{◌≡◌, ◌+◌, ℕ, Bool, true, false, cond, List, [], ◌∷◌, ◌++◌, length, Some, None, refl, sym, ap, subst, ◌∙◌}
use Rattle.std.specs.Prelude.{nat_eq, nat_le, nat_lt, bytes_eq}
use Rattle.raft_log_records.specs.Item.{Change, Item}
use Rattle.raft_log_records.specs.Item.Change.{entries, clean, compact, put, delete, mark}
use Rattle.raft_log_records.specs.Spelling.{first_index}
use Rattle.raft_log_covers.specs.Trace.{Trace, least, greater, entered, cut, trace_after}
use Rattle.raft_log_covers.specs.Kept.{Traces, traces_after, traces_after_item}
use Rattle.raft_log_traces.specs.Alike.{IsAlike, AreAlike}
use Rattle.raft_log_traces.proofs.KeyLemmas.{is_in_without, is_in_last}

pub same : (t : Trace) → IsAlike t t
same t = record {
  low = refl;
  next = refl;
  top = refl;
  since = refl;
  tail = refl;
  entry_file = λ i. refl;
  key_file = λ k. refl;
  cleaned = refl;
  deleted = λ k. refl;
}

pub joined : (t u v : Trace) → IsAlike t u → IsAlike u v → IsAlike t v
joined t u v a b = record {
  low = a.low ∙ b.low;
  next = a.next ∙ b.next;
  top = a.top ∙ b.top;
  since = a.since ∙ b.since;
  tail = a.tail ∙ b.tail;
  entry_file = λ i. a.entry_file i ∙ b.entry_file i;
  key_file = λ k. a.key_file k ∙ b.key_file k;
  cleaned = a.cleaned ∙ b.cleaned;
  deleted = λ k. a.deleted k ∙ b.deleted k;
}

-- ---- each change makes of them what says the same

entered_same : (file first next : ℕ) (t u : Trace) (b : Bool) → IsAlike t u → IsAlike (entered file first next t b) (entered file first next u b)
entered_same file first next t u true a = record {
  low = a.low;
  next = refl;
  top = ap (λ (n : ℕ). cond (nat_lt n next) next n) a.top;
  since = ap (λ o. least o (Some file)) a.since;
  tail = refl;
  entry_file = λ i. ap (λ o. cond (nat_le first i) (Some file) o) (a.entry_file i);
  key_file = a.key_file;
  cleaned = a.cleaned;
  deleted = a.deleted;
}
entered_same file first next t u false a = record {
  low = refl;
  next = refl;
  top = ap (λ (n : ℕ). cond (nat_lt n next) next n) a.top;
  since = λ i. least (least (a.since i) (a.tail i)) (Some file);
  tail = refl;
  entry_file = λ i. refl;
  key_file = a.key_file;
  cleaned = a.cleaned;
  deleted = a.deleted;
}

cut_same : (file low : ℕ) (t u : Trace) (b : Bool) → IsAlike t u → IsAlike (cut file low t b) (cut file low u b)
cut_same file low t u true a = record {
  low = refl;
  next = a.next;
  top = a.top;
  since = ap (λ o. least o (Some file)) a.since;
  tail = a.tail;
  entry_file = λ i. ap (λ o. cond (nat_lt i low) None o) (a.entry_file i);
  key_file = a.key_file;
  cleaned = a.cleaned;
  deleted = a.deleted;
}
cut_same file low t u false a = record {
  low = a.top;
  next = a.top;
  top = a.top;
  since = λ i. least (least (a.since i) (a.tail i)) (Some file);
  tail = λ i. least (least (a.since i) (a.tail i)) (Some file);
  entry_file = λ i. refl;
  key_file = a.key_file;
  cleaned = a.cleaned;
  deleted = a.deleted;
}

pub after_same : {E : Type 0} (file : ℕ) (change : Change E) (t u : Trace) → IsAlike t u → IsAlike (trace_after file change t) (trace_after file change u)
after_same {E} file (entries es) t u a =
    subst (λ (b : Bool). IsAlike (trace_after {E = E} file (entries es) t) (entered file (first_index es) (first_index es + length es) u b)) (λ i. nat_lt (a.low i) (a.next i))
    (entered_same file (first_index es) (first_index es + length es) t u (nat_lt t.low t.next) a)
after_same file clean t u a = same _
after_same {E} file (compact limit) t u a =
    subst (λ (n : ℕ). IsAlike (trace_after {E = E} file (compact limit) t) (cut file n u (nat_lt n u.next))) (λ i. greater (a.low i) limit)
    (subst (λ (n : ℕ). IsAlike (trace_after {E = E} file (compact limit) t) (cut file (greater t.low limit) u (nat_lt (greater t.low limit) n))) a.next
    (cut_same file (greater t.low limit) t u (nat_lt (greater t.low limit) t.next) a))
after_same file (put name value) t u a = record {
  low = a.low;
  next = a.next;
  top = a.top;
  since = ap (λ o. least o (Some file)) a.since;
  tail = a.tail;
  entry_file = a.entry_file;
  key_file = λ k. ap (λ o. cond (bytes_eq name k) (Some file) o) (a.key_file k);
  cleaned = a.cleaned;
  deleted = λ k. is_in_without name k t.deleted ∙ ap (λ (b : Bool). cond (bytes_eq name k) false b) (a.deleted k) ∙ sym (is_in_without name k u.deleted);
}
after_same file (delete name) t u a = record {
  low = a.low;
  next = a.next;
  top = a.top;
  since = ap (λ o. least o (Some file)) a.since;
  tail = a.tail;
  entry_file = a.entry_file;
  key_file = λ k. ap (λ o. cond (bytes_eq name k) None o) (a.key_file k);
  cleaned = a.cleaned;
  deleted = λ k. is_in_last name k t.deleted ∙ ap (λ (b : Bool). cond (bytes_eq name k) true b) (a.deleted k) ∙ sym (is_in_last name k u.deleted);
}
after_same file (mark id status) t u a = a

-- ---- of all groups

pub each_same : (ts : Traces) → AreAlike ts ts
each_same ts group = same (ts group)

pub each_joined : (ts us vs : Traces) → AreAlike ts us → AreAlike us vs → AreAlike ts vs
each_joined ts us vs a b group = joined (ts group) (us group) (vs group) (a group) (b group)

pub item_same : {E : Type 0} (file : ℕ) (item : Item E) (ts us : Traces) → AreAlike ts us → AreAlike (traces_after_item file item ts) (traces_after_item file item us)
item_same file item ts us a group = by_test (nat_eq item.group group)
  where
    by_test : (b : Bool) → IsAlike (cond b (trace_after file item.change (ts group)) (ts group)) (cond b (trace_after file item.change (us group)) (us group))
    by_test true = after_same file item.change (ts group) (us group) (a group)
    by_test false = a group

pub items_same : {E : Type 0} (file : ℕ) (items : List (Item E)) (ts us : Traces) → AreAlike ts us → AreAlike (traces_after file items ts) (traces_after file items us)
items_same file [] ts us a = a
items_same file (item ∷ items) ts us a = items_same file items (traces_after_item file item ts) (traces_after_item file item us) (item_same file item ts us a)

-- the last item comes after the others
pub after_last : {E : Type 0} (file : ℕ) (items : List (Item E)) (item : Item E) (ts : Traces) → traces_after file (items ++ item ∷ []) ts ≡ traces_after_item file item (traces_after file items ts)
after_last file [] item ts = refl
after_last file (x ∷ items) item ts = after_last file items item (traces_after_item file x ts)

-- what some items make, and then one more
pub one_more : {E : Type 0} (file : ℕ) (items more : List (Item E)) (item : Item E) (ts us vs : Traces) → more ≡ items ++ item ∷ [] → AreAlike (traces_after file items ts) us → AreAlike (traces_after_item file item us) vs → AreAlike (traces_after file more ts) vs
one_more file items more item ts us vs e a b group =
    subst (λ (ws : Traces). IsAlike (ws group) (vs group)) (sym (ap (λ l. traces_after file l ts) e ∙ after_last file items item ts))
    (joined (traces_after_item file item (traces_after file items ts) group) (traces_after_item file item us group) (vs group) (item_same file item (traces_after file items ts) us a group) (b group))
