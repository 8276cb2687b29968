-- Which files are kept.
use Rattle.std.proofs.Common.{◌≡◌, ◌≤◌, ◌<◌, ℕ, Bool, true, false, cond, List, [], ◌∷◌, ◌++◌, Option, Some, None, refl, sym, ap, subst, arith, le_refl, suc, min, ltb-true, ltb-false, leb-false, ◌⊎◌, inl, inr, ⊎_elim, ◌∙◌, IsSome}
use Rattle.std.specs.Prelude.{◌||◌, nat_eq, nat_le, nat_lt, IfSome, MatchOption, Vec}
use Rattle.std.specs.declared.alloc.Global.{Global}
use Rattle.std.specs.declared.cmp.Ordering.{Ordering}
use Rattle.std.specs.Cmp.Lexicographic.{slice_cmp}
use Rattle.std.specs.Map.{lookup, values_of}
use Rattle.std.specs.Ordering.{nat_cmp, is_eq}
use Rattle.std.specs.List.{All, list_any}
use Rattle.std.specs.BTreeMap.{BTreeMap, IsOrdered, get, values, is_at}
use Rattle.std.proofs.lemmas.Cmp.{nat_cmp_total, nat_list_cmp_total, on_total}
use Rattle.std.proofs.lemmas.List.Elements.{All-head, All-tail}
use Rattle.std.proofs.lemmas.Map.Views.{All-found}
use Rattle.std.proofs.lemmas.Bool.{le-leb, leb-true, lt-leb, lt-ltb, le-ltb, eq-eqb, eqb-true}
use Rattle.raft_log_memtables.proofs.Cells.{apart_number}
use Rattle.raft_log_memtables.specs.Entries.{or_else}
use Rattle.raft_log_covers.specs.Account.{IsFrom}
use Rattle.raft_log_covers.specs.Trace.{Trace, greater, least}
use Rattle.raft_log_covers.specs.Kept.{new_trace}
use Rattle.raft_log_traces.specs.declared.runs.Run.{Run}
use Rattle.raft_log_traces.specs.declared.group_trace.GroupTrace.{GroupTrace}
use Rattle.raft_log_traces.specs.Runs.{file_in, file_above}
use Rattle.raft_log_traces.specs.Before.{StandsFrom}
use Rattle.raft_log_traces.specs.Files.{KeepsFrom, IsKeptFrom, least_with, AllKeepFrom}
use Rattle.raft_log_traces.specs.Traces.{key_file_in, trace_of, trace_by, traces_at}
use Rattle.raft_log_traces.proofs.RunLemmas.{last_run}

from_least : (n : ℕ) (a b : Option ℕ) → IsFrom n (least a b) → IsFrom n a × IsFrom n b
from_least n None b h = (tt, h)
from_least n (Some f) None h = (h, tt)
from_least n (Some f) (Some g) h = (omega (arith, h), omega (arith, h))

pub AllFrom : ℕ → List ℕ → Type 0
AllFrom n [] = Unit {0}
AllFrom n (f ∷ fs) = (n ≤ f) × AllFrom n fs

from_with : (n : ℕ) (file : Option ℕ) (files : List ℕ) → IsFrom n (least_with file files) → IsFrom n file × AllFrom n files
unfolding AllFrom
from_with n file [] h = (h, tt)
from_with n file (f ∷ fs) h =
    let rest = from_with n (least file (Some f)) fs h in
    let both = from_least n file (Some f) rest.0 in
    (both.0, (both.1, rest.1))

-- a file that is kept, seen at another place
abbrev pub KeepsRuns : ℕ → ℕ → ℕ → List Run → Type 0
KeepsRuns n floor next rs = (i : ℕ) → floor ≤ i → i < next → IsFrom n (file_in rs i)

-- an index at which the file of an entry is the least
abbrev pub IsReached : ℕ → ℕ → List Run → ℕ → Type 0
IsReached floor next rs file = (i : ℕ) × (floor ≤ i) × (i < next) × (file_in rs i ≡ Some file)

-- the runs from one on cover all from an index on, and nothing before it
pub record CoverFrom (rs : List Run) (end next : ℕ) : Type 0 where
  pub within : end ≤ next
  pub covered : (i : ℕ) → end ≤ i → i < next → IsSome (file_in rs i)
  pub open_below : (i : ℕ) → i < end → file_in rs i ≡ None

is_some_at : (o other : Option ℕ) → IsSome o → or_else o other ≡ o
is_some_at None other h = absurd cc
is_some_at (Some f) other h = refl

none_at : (o other : Option ℕ) → o ≡ None → or_else o other ≡ other
none_at None other h = refl
none_at (Some f) other h = absurd cc

some_or : (o other : Option ℕ) → IsSome o → IsSome (or_else o other)
some_or None other h = absurd cc
some_or (Some f) other h = refl

some_at_last : (o other : Option ℕ) → IsSome other → IsSome (or_else o other)
some_at_last None other h = h
some_at_last (Some f) other h = refl

at_true : (first file i : ℕ) → first ≤ i → cond (nat_le first i) (Some file) None ≡ Some file
at_true first file i h = ap (λ (b : Bool). cond b (Some file) None) (le-leb first i h)

is_the_some : (o : Option ℕ) (file : ℕ) → o ≡ Some file → IsSome o
is_the_some None file h = absurd cc
is_the_some (Some f) file h = refl

pub cover_more : (r : Run) (rs : List Run) (end next new : ℕ) → new ≡ cond (nat_lt end r.first) end r.first → CoverFrom rs end next → CoverFrom (r ∷ rs) new next
cover_more r rs end next new e c = by_test (nat_lt end r.first) refl e
  where
    by_test : (b : Bool) → nat_lt end r.first ≡ b → new ≡ cond b end r.first → CoverFrom (r ∷ rs) new next
    by_test true t is =
        let low = ltb-true end r.first t in
        let within = c.within in
        record {
          within = omega (arith, is, within);
          covered = λ i l m. some_or (file_in rs i) _ (c.covered i (omega (arith, l, is)) m);
          open_below = λ i l.
              let under : i < end = omega (arith, l, is) in
              none_at (file_in rs i) _ (c.open_below i under) ∙ ap (λ (b : Bool). cond b (Some r.file) None) (lt-leb r.first i (omega (arith, under, low)));
        }
    by_test false t is =
        let low = ltb-false end r.first t in
        let within = c.within in
        record {
          within = omega (arith, is, low, within);
          covered = λ i l m. some_at_last (file_in rs i) _ (is_the_some _ r.file (at_true r.first r.file i (omega (arith, l, is))));
          open_below = λ i l.
              let under : i < r.first = omega (arith, l, is) in
              none_at (file_in rs i) _ (c.open_below i (omega (arith, under, low))) ∙ ap (λ (b : Bool). cond b (Some r.file) None) (lt-leb r.first i under);
        }

keeps_or : (n file : ℕ) (o : Option ℕ) (b : Bool) → IsFrom n o → n ≤ file → IsFrom n (or_else o (cond b (Some file) None))
keeps_or n file None true h k = k
keeps_or n file None false h k = tt
keeps_or n file (Some g) b h k = h

-- a run that is seen counts
pub counted_kept : (r : Run) (rs : List Run) (floor next : ℕ) (o new : Option ℕ) → new ≡ least o (Some r.file) → ((n : ℕ) → IsFrom n o → KeepsRuns n floor next rs) → (n : ℕ) → IsFrom n new → KeepsRuns n floor next (r ∷ rs)
counted_kept r rs floor next o new e k n h i l m =
    let both = from_least n o (Some r.file) (subst (λ (x : Option ℕ). IsFrom n x) e h) in
    keeps_or n r.file (file_in rs i) (nat_le r.first i) (k n both.0 i l m) both.1

or_none : (n : ℕ) (x : Option ℕ) → IsFrom n x → IsFrom n (or_else x None)
or_none n None y = tt
or_none n (Some f) y = y

-- a run that isn't seen counts nothing
pub hidden_kept : (r : Run) (rs : List Run) (floor end next : ℕ) (o : Option ℕ) → CoverFrom rs end next → ((i : ℕ) → floor ≤ i → r.first ≤ i → end ≤ i) → ((n : ℕ) → IsFrom n o → KeepsRuns n floor next rs)
    → (n : ℕ) → IsFrom n o → KeepsRuns n floor next (r ∷ rs)
hidden_kept r rs floor end next o c hidden k n h i l m = by_test (nat_le r.first i) refl
  where
    by_test : (b : Bool) → nat_le r.first i ≡ b → IsFrom n (or_else (file_in rs i) (cond b (Some r.file) None))
    by_test true e = subst (λ (x : Option ℕ). IsFrom n x) (sym (is_some_at (file_in rs i) (Some r.file) (c.covered i (hidden i l (leb-true r.first i e)) m))) (k n h i l m)
    by_test false e = or_none n (file_in rs i) (k n h i l m)

reached_more : (r : Run) (rs : List Run) (floor next file : ℕ) → IsReached floor next rs file → IsReached floor next (r ∷ rs) file
reached_more r rs floor next file h = (h.0, h.1, h.2, is_some_at (file_in rs h.0) _ (is_the_some _ file h.3) ∙ h.3)

pub hidden_reached : (r : Run) (rs : List Run) (floor next : ℕ) (o : Option ℕ) → IfSome o (IsReached floor next rs) → IfSome o (IsReached floor next (r ∷ rs))
hidden_reached r rs floor next None h = tt
hidden_reached r rs floor next (Some f) h = reached_more r rs floor next f h

by_min : (f g : ℕ) → (min f g ≡ f) ⊎ (min f g ≡ g)
by_min f g = by_test (nat_le f g) refl
  where
    by_test : (b : Bool) → nat_le f g ≡ b → (min f g ≡ f) ⊎ (min f g ≡ g)
    by_test true k = let l = leb-true f g k in inl (omega (arith, l))
    by_test false k = let l : suc g ≤ f = leb-false f g k in inr (omega (arith, l))

pub counted_reached : (r : Run) (rs : List Run) (floor end next : ℕ) (o new : Option ℕ) → new ≡ least o (Some r.file) → CoverFrom rs end next → (i : ℕ) × (floor ≤ i) × (r.first ≤ i) × (i < end)
    → IfSome o (IsReached floor next rs) → IfSome new (IsReached floor next (r ∷ rs))
counted_reached r rs floor end next o new e c seen h = subst (λ (x : Option ℕ). IfSome x (IsReached floor next (r ∷ rs))) (sym e) (by_least o h)
  where
    here : IsReached floor next (r ∷ rs) r.file
    here =
        let under = seen.3 in
        let within = c.within in
        (seen.0, seen.1, omega (arith, under, within), none_at (file_in rs seen.0) _ (c.open_below seen.0 under) ∙ at_true r.first r.file seen.0 seen.2)

    by_least : (x : Option ℕ) → IfSome x (IsReached floor next rs) → IfSome (least x (Some r.file)) (IsReached floor next (r ∷ rs))
    by_least None y = here
    by_least (Some f) y =
        ⊎_elim (λ p. subst (IsReached floor next (r ∷ rs)) (sym p) (reached_more r rs floor next f y)) (λ p. subst (IsReached floor next (r ∷ rs)) (sym p) here) (by_min f r.file)

found_from : {K : Type 0} (n : ℕ) (test : K → Bool) (es : List (K × ℕ)) → AllFrom n (values_of es) → IsFrom n (lookup test es)
unfolding AllFrom
found_from n test [] h = tt
found_from {K} n test (e ∷ es) h = by_test (test e.0) (found_from n test es h.1)
  where
    by_test : (b : Bool) → IsFrom n (lookup test es) → IsFrom n (cond b (Some e.1) (lookup test es))
    by_test true k = h.0
    by_test false k = k

above_from : (n floor : ℕ) (rs : List Run) (i : ℕ) → (floor ≤ i → IsFrom n (file_in rs i)) → IsFrom n (file_above floor rs i)
above_from n floor rs i h = by_test (nat_lt i floor) refl
  where
    by_test : (b : Bool) → nat_lt i floor ≡ b → IsFrom n (cond b None (file_in rs i))
    by_test true e = tt
    by_test false e = h (ltb-false i floor e)

-- a greater one of two
greater_within : (m n i : ℕ) → m ≤ i → n ≤ i → greater m n ≤ i
greater_within m n i l k = by_test (nat_lt m n)
  where
    by_test : (b : Bool) → cond b n m ≤ i
    by_test true = k
    by_test false = l

pub greater_least : (m n : ℕ) → (m ≤ greater m n) × (n ≤ greater m n)
greater_least m n = by_test (nat_lt m n) refl
  where
    by_test : (b : Bool) → nat_lt m n ≡ b → (m ≤ cond b n m) × (n ≤ cond b n m)
    by_test true e = let l = ltb-true m n e in (omega (arith, l), le_refl n)
    by_test false e = (le_refl m, ltb-false m n e)

keeps : (n : ℕ) (t : GroupTrace) (entries : Option ℕ) → ((n : ℕ) → IsFrom n entries → KeepsRuns n (greater t.floor t.low) t.next t.runs.items) → IsFrom n (least_with (least (least t.since t.tail) entries) (values t.keys)) → KeepsFrom n (trace_of t)
keeps n t entries k h =
    let with_keys = from_with n (least (least t.since t.tail) entries) (values t.keys) h in
    let with_entries = from_least n (least t.since t.tail) entries with_keys.0 in
    let removed = from_least n t.since t.tail with_entries.0 in
    record {
      since = removed.0;
      tail = removed.1;
      entries = λ i l m. above_from n t.floor t.runs.items i (λ g. k n with_entries.1 i (greater_within t.floor t.low i g l) m);
      keys = λ name. found_from n _ t.keys.entries with_keys.1;
    }

pub kept_from : (t : GroupTrace) (entries o : Option ℕ) → ((n : ℕ) → IsFrom n entries → KeepsRuns n (greater t.floor t.low) t.next t.runs.items) → o ≡ least_with (least (least t.since t.tail) entries) (values t.keys) → IsKeptFrom o (trace_of t)
kept_from t entries None k e = λ n. keeps n t entries k (subst (λ (x : Option ℕ). IsFrom n x) e tt)
kept_from t entries (Some f) k e = keeps f t entries k (subst (λ (x : Option ℕ). IsFrom f x) e (le_refl f))

lower : (n f : ℕ) (o : Option ℕ) → n ≤ f → IsFrom f o → IsFrom n o
lower n f None l h = tt
lower n f (Some g) l h = omega (arith, l, h)

-- what is kept from one file on is kept from each earlier one on
pub kept_at : (n : ℕ) (o : Option ℕ) (t : Trace) → IsKeptFrom o t → IsFrom n o → KeepsFrom n t
kept_at n None t h k = h n
kept_at n (Some f) t h k = record {
  since = lower n f t.since k h.since;
  tail = lower n f t.tail k h.tail;
  entries = λ i l m. lower n f (t.entry_file i) k (h.entries i l m);
  keys = λ name. lower n f (t.key_file name) k (h.keys name);
}

-- ---- all groups

keeps_new : (n : ℕ) → KeepsFrom n new_trace
keeps_new n = record {
  since = tt;
  tail = tt;
  entries = λ i l m. tt;
  keys = λ k. tt;
}

each_keeps : (n : ℕ) (test : ℕ → Bool) (es : List (ℕ × GroupTrace)) → AllKeepFrom n (values_of es) → KeepsFrom n (trace_by (lookup test es))
each_keeps n test [] h = keeps_new n
each_keeps n test (e ∷ es) h = by_test (test e.0) (each_keeps n test es h.1)
  where
    by_test : (b : Bool) → KeepsFrom n (trace_by (lookup test es)) → KeepsFrom n (trace_by (cond b (Some e.1) (lookup test es)))
    by_test true k = h.0
    by_test false k = k

pub each_kept : (traces : BTreeMap ℕ GroupTrace) (o : Option ℕ) → ((n : ℕ) → IsFrom n o → AllKeepFrom n (values traces)) → (group : ℕ) → IsKeptFrom o (traces_at traces group)
each_kept traces None h group = λ n. each_keeps n (is_at (nat_cmp group)) traces.entries (h n tt)
each_kept traces (Some f) h group = each_keeps f (is_at (nat_cmp group)) traces.entries (h f (le_refl f))

-- one more trace was seen
pub trace_seen : (n : ℕ) (t : GroupTrace) (o old new : Option ℕ) (left rest all : List GroupTrace) → left ≡ t ∷ rest → new ≡ least old o → IsKeptFrom o (trace_of t) → (IsFrom n old → AllKeepFrom n left → AllKeepFrom n all)
    → IsFrom n new → AllKeepFrom n rest → AllKeepFrom n all
trace_seen n t o old new left rest all e l k h f r =
    let both = from_least n old o (subst (λ (x : Option ℕ). IsFrom n x) l f) in
    h both.0 (subst (AllKeepFrom n) (sym e) (kept_at n o (trace_of t) k both.1, r))

-- ---- no later file would do

pub least_from : (n : ℕ) (a b : Option ℕ) → IsFrom n a → IsFrom n b → IsFrom n (least a b)
least_from n None b h k = k
least_from n (Some f) None h k = h
least_from n (Some f) (Some g) h k = omega (arith, h, k)

pub with_from : (n : ℕ) (file : Option ℕ) (files : List ℕ) → IsFrom n file → AllFrom n files → IsFrom n (least_with file files)
unfolding AllFrom
with_from n file [] h k = h
with_from n file (f ∷ fs) h k = with_from n (least file (Some f)) fs (least_from n file (Some f) h k.0) k.1

abbrev by_name : Vec ℕ Global → Vec ℕ Global → Ordering
by_name x y = slice_cmp nat_cmp x.items y.items

-- of the keys in a map
pub keys_from : (n : ℕ) (keys : BTreeMap (Vec ℕ Global) ℕ) → IsOrdered (λ x y. slice_cmp nat_cmp x.items y.items) keys → ((k : List ℕ) → IsFrom n (key_file_in keys k)) → AllFrom n (values keys)
unfolding AllFrom
keys_from n keys s h = each keys.entries (All-found (on_total (λ (v : Vec ℕ Global). v.items) nat_list_cmp_total) keys s)
  where
    each : (es : List (Vec ℕ Global × ℕ)) → All (λ e. get by_name keys e.0 ≡ Some e.1) es → AllFrom n (values_of es)
    each [] a = tt
    each (e ∷ es) a = (subst (λ (o : Option ℕ). IsFrom n o) (All-head (λ e. get by_name keys e.0 ≡ Some e.1) e es a) (h e.0.items), each es (All-tail (λ e. get by_name keys e.0 ≡ Some e.1) e es a))

-- of the entries of a group, one of which stands in the least file
pub reached_from : (n : ℕ) (t : GroupTrace) (o : Option ℕ) → IfSome o (IsReached (greater t.floor t.low) t.next t.runs.items) → KeepsFrom n (trace_of t) → IsFrom n o
reached_from n t None s h = tt
reached_from n t (Some f) s h =
    let ends = greater_least t.floor t.low in
    let from_floor = ends.0 in
    let from_low = ends.1 in
    let at = s.1 in
    let over : t.floor ≤ s.0 = omega (arith, from_floor, at) in
    subst (λ (o : Option ℕ). IsFrom n o) (ap (λ (b : Bool). cond b None (file_in t.runs.items s.0)) (le-ltb s.0 t.floor over) ∙ s.3) (h.entries s.0 (omega (arith, from_low, at)) s.2)

-- of the traces of all groups
pub traces_keep : (n : ℕ) (traces : BTreeMap ℕ GroupTrace) → IsOrdered nat_cmp traces → ((group : ℕ) → KeepsFrom n (traces_at traces group)) → AllKeepFrom n (values traces)
traces_keep n traces s h = each traces.entries (All-found nat_cmp_total traces s)
  where
    each : (es : List (ℕ × GroupTrace)) → All (λ e. get nat_cmp traces e.0 ≡ Some e.1) es → AllKeepFrom n (values_of es)
    each [] a = tt
    each (e ∷ es) a =
        (subst (λ (o : Option GroupTrace). KeepsFrom n (trace_by o)) (All-head (λ e. get nat_cmp traces e.0 ≡ Some e.1) e es a) (h e.0), each es (All-tail (λ e. get nat_cmp traces e.0 ≡ Some e.1) e es a))

-- what is seen of them so far: the least file of these is no earlier, and the others still keep none
pub seen_from : (n : ℕ) (t : GroupTrace) (o old new : Option ℕ) (left rest : List GroupTrace) → left ≡ t ∷ rest → new ≡ least old o → (KeepsFrom n (trace_of t) → IsFrom n o) → IsFrom n old × AllKeepFrom n left
    → IsFrom n new × AllKeepFrom n rest
seen_from n t o old new left rest e l k h =
    let both = subst (AllKeepFrom n) e h.1 in
    (subst (λ (x : Option ℕ). IsFrom n x) (sym l) (least_from n old o h.0 (k both.0)), both.1)

-- ---- from which index on all stand in late files

pub first_more : (file : ℕ) (before : List Run) (run : Run) (o new : Option ℕ) → IfSome o (λ n. (i : ℕ) → n ≤ i → StandsFrom file (file_in before i))
    → IfSome new (λ n. (file ≤ run.file) × MatchOption o (n ≡ run.first) (λ m. n ≡ m)) → IfSome new (λ n. (i : ℕ) → n ≤ i → StandsFrom file (file_in (before ++ run ∷ []) i))
first_more file before run o None h s = tt
first_more file before run None (Some n) h s = λ i l. subst (λ (x : Option ℕ). StandsFrom file x) (sym (last_run before run i)) (by_test (nat_le run.first i) refl l)
  where
    by_test : {i : ℕ} → (b : Bool) → nat_le run.first i ≡ b → n ≤ i → StandsFrom file (cond b (Some run.file) (file_in before i))
    by_test true e l = s.0
    by_test {i} false e l =
        let yes : nat_le run.first i ≡ true = le-leb run.first i (let k = s.1 in omega (arith, k, l)) in
        absurd cc
first_more file before run (Some m) (Some n) h s = λ i l. subst (λ (x : Option ℕ). StandsFrom file x) (sym (last_run before run i)) (by_test (nat_le run.first i) l)
  where
    by_test : {i : ℕ} → (b : Bool) → n ≤ i → StandsFrom file (cond b (Some run.file) (file_in before i))
    by_test true l = s.0
    by_test {i} false l = h i (let k = s.1 in omega (arith, k, l))

-- ---- entries that have to be rewritten

pub none_below : (floor : ℕ) (runs : List Run) (i : ℕ) → i < floor → file_above floor runs i ≡ None
none_below floor runs i h = ap (λ (b : Bool). cond b None (file_in runs i)) (lt-ltb i floor h)

pub stands_above : (file floor : ℕ) (runs : List Run) (i : ℕ) → floor ≤ i → StandsFrom file (file_in runs i) → StandsFrom file (file_above floor runs i)
stands_above file floor runs i h s = subst (λ (b : Bool). StandsFrom file (cond b None (file_in runs i))) (sym (le-ltb i floor h)) s

from_stands : (file : ℕ) (o : Option ℕ) → StandsFrom file o → IsFrom file o
from_stands file None s = tt
from_stands file (Some at) s = s

-- each is in no append file, or in the file or a later one
pub is_from_above : (file floor stop : ℕ) (runs : List Run) (i : ℕ) → stop ≤ floor → (stop ≤ i → StandsFrom file (file_in runs i)) → IsFrom file (file_above floor runs i)
is_from_above file floor stop runs i l s = by_test (nat_lt i floor) refl
  where
    by_test : (b : Bool) → nat_lt i floor ≡ b → IsFrom file (cond b None (file_in runs i))
    by_test true e = tt
    by_test false e = from_stands file (file_in runs i) (s (let high = ltb-false i floor e in omega (arith, l, high)))

-- ---- groups that keep a file before one

-- the trace of a group in what is left of a map
abbrev pub trace_left : ℕ → List (ℕ × GroupTrace) → Trace
trace_left group left = trace_by (lookup (is_at (nat_cmp group)) left)

-- a group was listed, or it keeps no file before one if what is left says so
abbrev pub IsListed : ℕ → BTreeMap ℕ GroupTrace → List ℕ → List (ℕ × GroupTrace) → ℕ → Type 0
IsListed file traces ids left group = (list_any (λ id. nat_eq id group) ids ≡ true) ⊎ (KeepsFrom file (trace_left group left) → KeepsFrom file (traces_at traces group))

not_same : (a b : ℕ) → nat_eq a b ≡ false → nat_eq b a ≡ false
not_same a b h = by_test (nat_eq b a) refl
  where
    by_test : (d : Bool) → nat_eq b a ≡ d → d ≡ false
    by_test true e = absurd (let y = eq-eqb a b (sym (eqb-true b a e)) in cc)
    by_test false e = refl

left_of : (file id : ℕ) (t : GroupTrace) (rest : List (ℕ × GroupTrace)) (group : ℕ) → (P : Type 0) → (nat_eq id group ≡ true → P) → (trace_left group ((id, t) ∷ rest) ≡ trace_left group rest → P) → P
left_of file id t rest group P here other = by_test (is_eq (nat_cmp group id)) refl
  where
    same_number : (b : Bool) → nat_eq id group ≡ b → is_eq (nat_cmp group id) ≡ true → nat_eq id group ≡ true
    same_number true k h = k
    same_number false k h = absurd (let n = apart_number group id (not_same id group k) in cc)

    by_test : (b : Bool) → is_eq (nat_cmp group id) ≡ b → P
    by_test true e = here (same_number (nat_eq id group) refl e)
    by_test false e = other (ap (λ (b : Bool). trace_by (cond b (Some t) (lookup (is_at (nat_cmp group)) rest))) e)

pub group_passed : (file : ℕ) (traces : BTreeMap ℕ GroupTrace) (ids : List ℕ) (id : ℕ) (t : GroupTrace) (left rest : List (ℕ × GroupTrace)) (group : ℕ) → left ≡ (id, t) ∷ rest → KeepsFrom file (trace_of t)
    → IsListed file traces ids left group → IsListed file traces ids rest group
group_passed file traces ids id t left rest group e k h =
    ⊎_elim (λ y. inl y)
    (λ f. inr (λ r. f (subst (λ (es : List (ℕ × GroupTrace)). KeepsFrom file (trace_left group es)) (sym e) (by_test (is_eq (nat_cmp group id)) r)))) h
  where
    by_test : (b : Bool) → KeepsFrom file (trace_left group rest) → KeepsFrom file (trace_by (cond b (Some t) (lookup (is_at (nat_cmp group)) rest)))
    by_test true r = k
    by_test false r = r

any_more : (test : ℕ → Bool) (xs : List ℕ) (x : ℕ) → list_any test (xs ++ x ∷ []) ≡ (list_any test xs || (test x || false))
any_more test [] x = refl
any_more test (y ∷ xs) x = by_test (any_more test xs x) (test y)
  where
    by_test : list_any test (xs ++ x ∷ []) ≡ (list_any test xs || (test x || false)) → (b : Bool) → (b || list_any test (xs ++ x ∷ [])) ≡ ((b || list_any test xs) || (test x || false))
    by_test h true = refl
    by_test h false = h

pub group_added : (file : ℕ) (traces : BTreeMap ℕ GroupTrace) (ids more : List ℕ) (id : ℕ) (t : GroupTrace) (left rest : List (ℕ × GroupTrace)) (group : ℕ) → left ≡ (id, t) ∷ rest → more ≡ ids ++ id ∷ []
    → IsListed file traces ids left group → IsListed file traces more rest group
group_added file traces ids more id t left rest group e m h =
    let is : list_any (λ x. nat_eq x group) more ≡ (list_any (λ x. nat_eq x group) ids || (nat_eq id group || false)) = ap (list_any (λ x. nat_eq x group)) m ∙ any_more (λ x. nat_eq x group) ids id in
    ⊎_elim
    (λ y. inl (is ∙ ap (λ (b : Bool). b || (nat_eq id group || false)) y))
    (λ f. left_of file id t rest group (IsListed file traces more rest group)
    (λ y. inl (is ∙ ap (λ (b : Bool). list_any (λ x. nat_eq x group) ids || (b || false)) y ∙ or_true (list_any (λ x. nat_eq x group) ids)))
    (λ s. inr (λ r. f (subst (λ (es : List (ℕ × GroupTrace)). KeepsFrom file (trace_left group es)) (sym e) (subst (λ (x : Trace). KeepsFrom file x) (sym s) r))))) h
  where
    or_true : (b : Bool) → (b || (true || false)) ≡ true
    or_true true = refl
    or_true false = refl

-- at the end each group that wasn't listed keeps none
pub listed_all : (file : ℕ) (traces : BTreeMap ℕ GroupTrace) (ids : List ℕ) (left : List (ℕ × GroupTrace)) (group : ℕ) → left ≡ [] → IsListed file traces ids left group → list_any (λ id. nat_eq id group) ids ≡ false
    → KeepsFrom file (traces_at traces group)
listed_all file traces ids left group e h n =
    ⊎_elim (λ y. absurd cc) (λ f. f (subst (λ (es : List (ℕ × GroupTrace)). KeepsFrom file (trace_left group es)) (sym e) (keeps_new file))) h
