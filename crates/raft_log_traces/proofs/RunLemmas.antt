-- Runs of entries in one file.
use Rattle.std.proofs.Common.{◌≡◌, ◌≤◌, ◌<◌, ℕ, suc, Bool, true, false, cond, List, [], ◌∷◌, ◌++◌, Option, Some, None, refl, sym, ap, ◌∙◌, arith, ltb-true, ltb-false, leb-false, append-nil, ◌⊎◌, inl, inr, ⊎_elim}
use Rattle.std.specs.Prelude.{nat_le, nat_lt}
use Rattle.std.specs.Option.{option_to_list}
use Rattle.std.proofs.lemmas.Bool.{le-leb, leb-true, le-ltb, lt-ltb}
use Rattle.raft_log_memtables.specs.Entries.{or_else}
use Rattle.raft_log_covers.specs.Trace.{greater}
use Rattle.raft_log_traces.specs.declared.runs.Run.{Run}
use Rattle.raft_log_traces.specs.Runs.{file_in, file_above, EndsBefore, EndsFrom, EndsIn, SecondBy}

-- ---- one more run at the end

pub last_run : (rs : List Run) (r : Run) (i : ℕ) → file_in (rs ++ r ∷ []) i ≡ cond (nat_le r.first i) (Some r.file) (file_in rs i)
last_run [] r i = refl
last_run (x ∷ rs) r i =
    ap (λ o. or_else o (cond (nat_le x.first i) (Some x.file) None)) (last_run rs r i) ∙ by_test (nat_le r.first i)
  where
    by_test : (b : Bool) → or_else (cond b (Some r.file) (file_in rs i)) (cond (nat_le x.first i) (Some x.file) None) ≡ cond b (Some r.file) (file_in (x ∷ rs) i)
    by_test true = refl
    by_test false = refl

-- below its first index the last run says nothing
pub before_last : (first : ℕ) (old new : List Run) (r : Run) (i : ℕ) → old ≡ new ++ r ∷ [] → first ≤ r.first → i < first → file_in new i ≡ file_in old i
before_last first old new r i e h l = sym (ap (λ (rs : List Run). file_in rs i) e ∙ last_run new r i ∙ by_test (nat_le r.first i) refl)
  where
    by_test : (b : Bool) → nat_le r.first i ≡ b → cond b (Some r.file) (file_in new i) ≡ file_in new i
    by_test true k =
        let low = leb-true r.first i k in
        absurd (omega (arith, low, h, l))
    by_test false k = refl

pub popped : (first : ℕ) (old new : List Run) (o : Option Run) (i : ℕ) → EndsFrom first old → old ≡ new ++ option_to_list o → i < first → file_in new i ≡ file_in old i
popped first old new None i h e l = ap (λ (rs : List Run). file_in rs i) (sym (e ∙ append-nil new))
popped first old new (Some r) i h e l = before_last first old new r i e (h.1 new r e) l

pub put_last : (first file : ℕ) (old mid new : List Run) (r : Run) → r.first ≡ first → r.file ≡ file → new ≡ mid ++ r ∷ [] → ((i : ℕ) → i < first → file_in mid i ≡ file_in old i)
    → (i : ℕ) → file_in new i ≡ cond (nat_le first i) (Some file) (file_in old i)
put_last first file old mid new r ef es e h i =
    ap (λ (rs : List Run). file_in rs i) e ∙ last_run mid r i
    ∙ ap (λ (n : ℕ). cond (nat_le n i) (Some r.file) (file_in mid i)) ef ∙ ap (λ (n : ℕ). cond (nat_le first i) (Some n) (file_in mid i)) es
    ∙ by_test (nat_le first i) refl
  where
    by_test : (b : Bool) → nat_le first i ≡ b → cond b (Some file) (file_in mid i) ≡ cond b (Some file) (file_in old i)
    by_test true k = refl
    by_test false k = h i (leb-false first i k)

-- it says the same already
pub in_last : (first file : ℕ) (old mid : List Run) → EndsIn file mid → EndsBefore first mid → ((i : ℕ) → i < first → file_in mid i ≡ file_in old i)
    → (i : ℕ) → file_in mid i ≡ cond (nat_le first i) (Some file) (file_in old i)
in_last first file old mid ends begins h i = by_test (nat_le first i) refl
  where
    by_test : (b : Bool) → nat_le first i ≡ b → file_in mid i ≡ cond b (Some file) (file_in old i)
    by_test true k =
        let low = begins ends.0 ends.1 ends.2 in
        ap (λ (rs : List Run). file_in rs i) ends.2 ∙ last_run ends.0 ends.1 i
        ∙ ap (λ (b : Bool). cond b (Some ends.1.file) (file_in ends.0 i)) (le-leb ends.1.first i (omega (arith, low, leb-true first i k)))
        ∙ ap (λ (n : ℕ). Some n) ends.3
    by_test false k = h i (leb-false first i k)

-- ---- the first run is hidden by a second one that begins by an index

pub second_hides : (r second : Run) (more : List Run) (i : ℕ) → second.first ≤ i → file_in (r ∷ (second ∷ more)) i ≡ file_in (second ∷ more) i
second_hides r second more i h = by_test (file_in more i) (nat_le second.first i) (le-leb second.first i h)
  where
    by_test : (x : Option ℕ) (b : Bool) → b ≡ true → or_else (or_else x (cond b (Some second.file) None)) (cond (nat_le r.first i) (Some r.file) None) ≡ or_else x (cond b (Some second.file) None)
    by_test None true k = refl
    by_test (Some f) true k = refl
    by_test x false k = absurd cc

pub first_gone : (floor : ℕ) (runs old new : List Run) → SecondBy floor old → ((r : Run) (rest : List Run) → old ≡ r ∷ rest → new ≡ rest) → ((i : ℕ) → floor ≤ i → file_in old i ≡ file_in runs i)
    → (i : ℕ) → floor ≤ i → file_in new i ≡ file_in runs i
first_gone floor runs old new s e h i l =
    ap (λ (rs : List Run). file_in rs i) (e s.0 (s.1 ∷ s.2) s.3) ∙ sym (second_hides s.0 s.1 s.2 i (omega (arith, s.4, l))) ∙ sym (ap (λ (rs : List Run). file_in rs i) s.3) ∙ h i l

-- ---- what stands in no append file below an index

-- entries that are put inside a list
pub put_inside : (first file floor new_floor : ℕ) (old new : List Run) → new_floor ≡ cond (nat_lt first floor) first floor → ((i : ℕ) → file_in new i ≡ cond (nat_le first i) (Some file) (file_in old i))
    → (i : ℕ) → cond (nat_le first i) (Some file) (file_above floor old i) ≡ file_above new_floor new i
put_inside first file floor new_floor old new e h i =
    sym (ap (λ (n : ℕ). file_above n new i) e ∙ ap (λ o. cond (nat_lt i (cond (nat_lt first floor) first floor)) None o) (h i)
    ∙ by_tests (nat_lt first floor) refl (nat_le first i) refl (nat_lt i floor) refl)
  where
    inner : ℕ → Bool → Option ℕ
    inner low b = cond (nat_lt i low) None (cond b (Some file) (file_in old i))

    outer : (low : ℕ) (b c : Bool) → nat_lt i low ≡ c → cond (nat_lt i low) None (cond b (Some file) (file_in old i)) ≡ cond c None (cond b (Some file) (file_in old i))
    outer low b c k = ap (λ (d : Bool). cond d None (cond b (Some file) (file_in old i))) k

    by_tests : (a : Bool) → nat_lt first floor ≡ a → (b : Bool) → nat_le first i ≡ b → (c : Bool) → nat_lt i floor ≡ c
        → cond (nat_lt i (cond a first floor)) None (cond b (Some file) (file_in old i)) ≡ cond b (Some file) (cond c None (file_in old i))
    by_tests true ea true eb c ec = outer first true false (le-ltb i first (leb-true first i eb))
    by_tests true ea false eb true ec = outer first false true (lt-ltb i first (leb-false first i eb))
    by_tests true ea false eb false ec =
        let below = ltb-true first floor ea in
        let above = ltb-false i floor ec in
        let low : suc i ≤ first = leb-false first i eb in
        absurd (omega (arith, below, above, low))
    by_tests false ea true eb true ec =
        let over = ltb-false first floor ea in
        let high = leb-true first i eb in
        let low = ltb-true i floor ec in
        absurd (omega (arith, over, high, low))
    by_tests false ea true eb false ec = outer floor true false ec
    by_tests false ea false eb true ec = outer floor false true ec
    by_tests false ea false eb false ec = outer floor false false ec

-- entries that are put where there was none
pub put_anew : (first file : ℕ) (old new : List Run) → ((i : ℕ) → file_in new i ≡ cond (nat_le first i) (Some file) (file_in old i))
    → (i : ℕ) → cond (nat_le first i) (Some file) None ≡ file_above first new i
put_anew first file old new h i = sym (ap (λ o. cond (nat_lt i first) None o) (h i) ∙ by_tests (nat_le first i) refl (nat_lt i first) refl)
  where
    by_tests : (b : Bool) → nat_le first i ≡ b → (c : Bool) → nat_lt i first ≡ c → cond c None (cond b (Some file) (file_in old i)) ≡ cond b (Some file) None
    by_tests true eb true ec =
        let high = leb-true first i eb in
        let low = ltb-true i first ec in
        absurd (omega (arith, high, low))
    by_tests true eb false ec = refl
    by_tests false eb true ec = refl
    by_tests false eb false ec =
        let low : suc i ≤ first = leb-false first i eb in
        let high = ltb-false i first ec in
        absurd (omega (arith, high, low))

-- entries that begin later now, or of which more stand in no append file
pub raised : (low floor new_floor : ℕ) (old new : List Run) → new_floor ≡ greater floor low → ((i : ℕ) → new_floor ≤ i → file_in new i ≡ file_in old i)
    → (i : ℕ) → cond (nat_lt i low) None (file_above floor old i) ≡ file_above new_floor new i
raised low floor new_floor old new e h i = by_tests (nat_lt i low) refl (nat_lt i floor) refl (nat_lt i new_floor) refl
  where
    bound : (new_floor ≡ floor) × (low ≤ floor) ⊎ (new_floor ≡ low) × (floor < low)
    bound = by_test (nat_lt floor low) refl e
      where
        by_test : (b : Bool) → nat_lt floor low ≡ b → new_floor ≡ cond b low floor → (new_floor ≡ floor) × (low ≤ floor) ⊎ (new_floor ≡ low) × (floor < low)
        by_test true k f = inr (f, ltb-true floor low k)
        by_test false k f = inl (f, ltb-false floor low k)

    by_tests : (a : Bool) → nat_lt i low ≡ a → (b : Bool) → nat_lt i floor ≡ b → (c : Bool) → nat_lt i new_floor ≡ c
        → cond a None (cond b None (file_in old i)) ≡ cond c None (file_in new i)
    by_tests true ea b eb true ec = refl
    by_tests true ea b eb false ec =
        let l = ltb-true i low ea in
        let m = ltb-false i new_floor ec in
        absurd (⊎_elim (λ p. let q = p.0 in let r = p.1 in omega (arith, l, m, q, r)) (λ p. let q = p.0 in let r = p.1 in omega (arith, l, m, q, r)) bound)
    by_tests false ea true eb true ec = refl
    by_tests false ea true eb false ec =
        let l = ltb-true i floor eb in
        let m = ltb-false i new_floor ec in
        absurd (⊎_elim (λ p. let q = p.0 in omega (arith, l, m, q)) (λ p. let q = p.0 in let r = p.1 in omega (arith, l, m, q, r)) bound)
    by_tests false ea false eb true ec =
        let l = ltb-false i low ea in
        let k = ltb-false i floor eb in
        let m = ltb-true i new_floor ec in
        absurd (⊎_elim (λ p. let q = p.0 in omega (arith, k, m, q)) (λ p. let q = p.0 in omega (arith, l, m, q)) bound)
    by_tests false ea false eb false ec = sym (h i (ltb-false i new_floor ec))
