-- Entries and keys of the rewrite queue that count, added up.
use Rattle.std.proofs.Common.{◌≡◌, ◌⊎◌, inl, inr, ℕ, ◌+◌, ◌-◌, ◌<◌, ◌≤◌, ◌^◌, Bool, true, false, List, [], ◌∷◌, ◌++◌, length, Option, None, refl, sym, ap, ◌∙◌, arith}
use Rattle.std.specs.Prelude.{if◌then◌else◌, is_some, min, not}
use Rattle.raft_log_covers.specs.Trace.{Trace}
use Rattle.raft_log_memtables.specs.MemTables.{content_in}
use Rattle.raft_log_traced.specs.declared.traced.TracedTables.{TracedTables}
use Rattle.raft_log_traces.specs.GroupTraces.{traces_in}
use Rattle.raft_log_cleaner.specs.Live.{AreLiveIn, AreLiveOf, count_stored}

-- ---- keys

-- one more
pub stored_more : (t : Trace) (pairs : List (List ℕ × List ℕ)) (pair : List ℕ × List ℕ) → count_stored t (pairs ++ pair ∷ []) ≡ count_stored t pairs + (if is_some (t.key_file pair.0) then 0 else 1)
stored_more t [] pair = omega arith
stored_more t (other ∷ pairs) pair = let rest = stored_more t pairs pair in omega (arith, rest)

-- that stands there
pub stored_there : (t : Trace) (pairs more : List (List ℕ × List ℕ)) (pair : List ℕ × List ℕ) (count : ℕ) (stored : Bool) → more ≡ pairs ++ pair ∷ [] → stored ≡ (not (is_some (t.key_file pair.0))) → stored ≡ true
    → count ≡ count_stored t pairs → count + 1 ≡ count_stored t more
stored_there t pairs more pair count stored all tells is before =
    let last = one_if (is_some (t.key_file pair.0)) (sym tells ∙ is) in
    ap (λ (n : ℕ). n + 1) before ∙ ap (λ (n : ℕ). count_stored t pairs + n) (sym last) ∙ sym (stored_more t pairs pair) ∙ ap (count_stored t) (sym all)
  where
    one_if : (b : Bool) → (not b) ≡ true → ◌≡◌ {A = ℕ} (if b then 0 else 1) 1
    one_if true h = absurd cc
    one_if false h = refl

-- or doesn't
pub not_stored_there : (t : Trace) (pairs more : List (List ℕ × List ℕ)) (pair : List ℕ × List ℕ) (count : ℕ) (stored : Bool) → more ≡ pairs ++ pair ∷ [] → stored ≡ (not (is_some (t.key_file pair.0))) → stored ≡ false
    → count ≡ count_stored t pairs → count ≡ count_stored t more
not_stored_there t pairs more pair count stored all tells is before =
    let last = none_if (is_some (t.key_file pair.0)) (sym tells ∙ is) in
    let same : count_stored t pairs ≡ count_stored t pairs + 0 = omega arith in
    before ∙ same ∙ ap (λ (n : ℕ). count_stored t pairs + n) (sym last) ∙ sym (stored_more t pairs pair) ∙ ap (count_stored t) (sym all)
  where
    none_if : (b : Bool) → (not b) ≡ false → ◌≡◌ {A = ℕ} (if b then 0 else 1) 0
    none_if true h = refl
    none_if false h = absurd cc

-- ---- groups

-- one more
pub live_more : (log : TracedTables) (groups : List ℕ) (group all own : ℕ) → AreLiveIn log groups all → AreLiveOf (content_in log.tables group) (traces_in log.traces group) own
    → AreLiveIn log (groups ++ group ∷ []) (all + own)
live_more log [] group all own none are = (own, 0, are, refl, omega (arith, none))
live_more log (other ∷ groups) group all own are more =
    (are.0, are.1 + own, are.2, live_more log groups group are.1 own are.3 more, omega (arith, are.4))
