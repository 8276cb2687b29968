-- Entries that are written to a file.
use Rattle.std.proofs.Common.{◌≡◌, ◌≤◌, ◌<◌, ℕ, Bool, cond, Option, Some, refl, sym, ap, subst, ◌∙◌}
use Rattle.std.specs.Prelude.{nat_le, nat_lt}
use Rattle.std.proofs.lemmas.Bool.{lt-ltb, le-ltb}
use Rattle.raft_log_covers.specs.Marks.{is_in}
use Rattle.raft_log_covers.specs.Trace.{Trace, least, greater, entered}
use Rattle.raft_log_traces.specs.declared.group_trace.GroupTrace.{GroupTrace}
use Rattle.raft_log_traces.specs.Runs.{file_in, file_above}
use Rattle.raft_log_traces.specs.Alike.{IsAlike}
use Rattle.raft_log_traces.specs.Traces.{trace_of, key_file_in, names_in}
use Rattle.raft_log_traces.proofs.RunLemmas.{put_inside, put_anew}

-- what the program has once entries were put, with new ends and files
abbrev pub with_ends : GroupTrace → ℕ → ℕ → ℕ → Option ℕ → Trace
with_ends s file next top since = record {
  low = s.low;
  next = next;
  top = top;
  since = since;
  tail = Some file;
  entry_file = file_above s.floor s.runs.items;
  key_file = key_file_in s.keys;
  cleaned = s.cleaned;
  deleted = names_in s.deleted;
}

-- where keys and removals stay
pub record StaysBeside (t s : GroupTrace) : Type 0 where
  pub keys : s.keys ≡ t.keys
  pub cleaned : s.cleaned ≡ t.cleaned
  pub deleted : s.deleted ≡ t.deleted

pub entered_inside : (file first next top : ℕ) (since : Option ℕ) (t s : GroupTrace) → t.low < t.next → StaysBeside t s → s.low ≡ t.low → top ≡ greater t.top next → since ≡ least t.since (Some file)
    → s.floor ≡ cond (nat_lt first t.floor) first t.floor → ((i : ℕ) → file_in s.runs.items i ≡ cond (nat_le first i) (Some file) (file_in t.runs.items i))
    → IsAlike (entered file first next (trace_of t) (nat_lt t.low t.next)) (with_ends s file next top since)
entered_inside file first next top since t s e b l p m f h =
    subst (λ (b : Bool). IsAlike (entered file first next (trace_of t) b) (with_ends s file next top since)) (sym (lt-ltb t.low t.next e)) (record {
      low = sym l;
      next = refl;
      top = sym p;
      since = sym m;
      tail = refl;
      entry_file = put_inside first file t.floor s.floor t.runs.items s.runs.items f h;
      key_file = λ k. ap (λ m. key_file_in m k) (sym b.keys);
      cleaned = sym b.cleaned;
      deleted = λ k. ap (λ d. is_in k (names_in d)) (sym b.deleted);
    })

pub entered_anew : (file first next top : ℕ) (since : Option ℕ) (t s : GroupTrace) → t.next ≤ t.low → StaysBeside t s → s.low ≡ first → top ≡ greater t.top next
    → since ≡ least (least t.since t.tail) (Some file) → s.floor ≡ first → ((i : ℕ) → file_in s.runs.items i ≡ cond (nat_le first i) (Some file) (file_in t.runs.items i))
    → IsAlike (entered file first next (trace_of t) (nat_lt t.low t.next)) (with_ends s file next top since)
entered_anew file first next top since t s e b l p m f h =
    subst (λ (b : Bool). IsAlike (entered file first next (trace_of t) b) (with_ends s file next top since)) (sym (le-ltb t.low t.next e)) (record {
      low = sym l;
      next = refl;
      top = sym p;
      since = sym m;
      tail = refl;
      entry_file = λ i. put_anew first file t.runs.items s.runs.items h i ∙ ap (λ (n : ℕ). file_above n s.runs.items i) (sym f);
      key_file = λ k. ap (λ m. key_file_in m k) (sym b.keys);
      cleaned = sym b.cleaned;
      deleted = λ k. ap (λ d. is_in k (names_in d)) (sym b.deleted);
    })
