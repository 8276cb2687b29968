-- From which index on entries stand in append files.
use Rattle.std.proofs.Common.{◌≡◌, ◌≤◌, ◌<◌, ℕ, Bool, true, false, cond, List, [], ◌∷◌, ◌++◌, Option, Some, None, refl, sym, subst, arith, le_refl, suc, ltb-true, ltb-false, leb-false, ◌⊎◌, inl, inr, ⊎_elim, ◌∙◌, IsSome}
use Rattle.std.specs.Prelude.{nat_le, nat_lt}
use Rattle.std.proofs.lemmas.Bool.{leb-true}
use Rattle.raft_log_covers.specs.Trace.{greater}
use Rattle.raft_log_traces.specs.declared.runs.Run.{Run}
use Rattle.raft_log_traces.specs.Runs.{file_in, file_above, BeginAt}
use Rattle.raft_log_traces.proofs.RunLemmas.{last_run}

-- ---- from which index on entries stand in runs

pub no_runs_begin : (next : ℕ) → BeginAt next next []
no_runs_begin next = record {
  below = λ i h. refl;
  above = λ i h l. absurd (omega (arith, h, l));
  within = le_refl next;
}

pub begins_more : (next begin new : ℕ) (before : List Run) (run : Run) → new ≡ cond (nat_lt run.first begin) run.first begin → BeginAt begin next before → BeginAt new next (before ++ run ∷ [])
begins_more next begin new before run e b = record {
  below = λ i h. last_run before run i ∙ below (nat_le run.first i) refl h;
  above = λ i h l. subst (λ (o : Option ℕ). IsSome o) (sym (last_run before run i)) (above (nat_le run.first i) refl h l);
  within = (let l = low in let m = b.within in omega (arith, l, m));
}
  where
    lesser : (new ≡ run.first) × (run.first < begin) ⊎ (new ≡ begin) × (begin ≤ run.first)
    lesser = by_test (nat_lt run.first begin) refl e
      where
        by_test : (t : Bool) → nat_lt run.first begin ≡ t → new ≡ cond t run.first begin → (new ≡ run.first) × (run.first < begin) ⊎ (new ≡ begin) × (begin ≤ run.first)
        by_test true k f = inl (f, ltb-true run.first begin k)
        by_test false k f = inr (f, ltb-false run.first begin k)

    low : new ≤ begin
    low = ⊎_elim (λ p. let q = p.0 in let r = p.1 in omega (arith, q, r)) (λ p. let q = p.0 in omega (arith, q)) lesser

    low_run : new ≤ run.first
    low_run = ⊎_elim (λ p. let q = p.0 in omega (arith, q)) (λ p. let q = p.0 in let r = p.1 in omega (arith, q, r)) lesser

    below : {i : ℕ} → (t : Bool) → nat_le run.first i ≡ t → i < new → cond t (Some run.file) (file_in before i) ≡ None
    below {i} true k h =
        let l = leb-true run.first i k in
        let m = low_run in
        absurd (omega (arith, l, m, h))
    below {i} false k h = b.below i (let m = low in omega (arith, m, h))

    above : {i : ℕ} → (t : Bool) → nat_le run.first i ≡ t → new ≤ i → i < next → IsSome (cond t (Some run.file) (file_in before i))
    above {i} true k h l = refl
    above {i} false k h l = b.above i (⊎_elim (λ p. let q = p.0 in let m : suc i ≤ run.first = leb-false run.first i k in absurd (omega (arith, q, h, m))) (λ p. let q = p.0 in omega (arith, q, h)) lesser) l

-- ---- the end of what was rewritten

by_greater : {P : Type 0} (m n k : ℕ) → k ≡ greater m n → ((k ≡ n) × (m < n) → P) → ((k ≡ m) × (n ≤ m) → P) → P
by_greater {P} m n k e f g = by_test (nat_lt m n) refl e
  where
    by_test : (t : Bool) → nat_lt m n ≡ t → k ≡ cond t n m → P
    by_test true h q = f (q, ltb-true m n h)
    by_test false h q = g (q, ltb-false m n h)

pub end_below : (floor next begin end : ℕ) (runs : List Run) → BeginAt begin next runs → end ≡ greater floor begin → (i : ℕ) → i < end → file_above floor runs i ≡ None
end_below floor next begin end runs b e i h = by_test (nat_lt i floor) refl
  where
    by_test : (t : Bool) → nat_lt i floor ≡ t → cond t None (file_in runs i) ≡ None
    by_test true k = refl
    by_test false k =
        let l = ltb-false i floor k in
        b.below i (by_greater floor begin end e (λ p. let q = p.0 in omega (arith, q, h)) (λ p. let q = p.0 in absurd (omega (arith, q, h, l))))

pub end_above : (floor next begin end : ℕ) (runs : List Run) → BeginAt begin next runs → end ≡ greater floor begin → (i : ℕ) → end ≤ i → i < next → IsSome (file_above floor runs i)
end_above floor next begin end runs b e i h m = by_test (nat_lt i floor) refl
  where
    by_test : (t : Bool) → nat_lt i floor ≡ t → IsSome (cond t None (file_in runs i))
    by_test true k =
        let l = ltb-true i floor k in
        by_greater floor begin end e (λ p. let q = p.0 in let r = p.1 in absurd (omega (arith, q, r, h, l))) (λ p. let q = p.0 in absurd (omega (arith, q, h, l)))
    by_test false k = b.above i (by_greater floor begin end e (λ p. let q = p.0 in omega (arith, q, h)) (λ p. let q = p.0 in let r = p.1 in omega (arith, q, r, h))) m

pub end_within : (floor next begin end : ℕ) (runs : List Run) → BeginAt begin next runs → floor < next → end ≡ greater floor begin → end ≤ next
end_within floor next begin end runs b l e = by_greater floor begin end e (λ p. let q = p.0 in let w = b.within in omega (arith, q, w)) (λ p. let q = p.0 in omega (arith, q, l))
