-- Listeners hear one after the other.
use Rattle.std.specs.Prelude.{slice_set, get_or, nat_lt}
use Rattle.std.proofs.Common.{◌≡◌, ℕ, zero, suc, ◌+◌, ◌<◌, ◌≤◌, ◌-◌, Bool, true, false, cond, List, [], ◌∷◌, ◌++◌, length, refl, sym, ap, subst, ◌∙◌, arith, lt-ltb, ltb-true}
use Rattle.raft_log_records.specs.declared.file_id.FileId.{FileId}
use Rattle.raft_log_records.specs.declared.file_id.LogQueue.{LogQueue}
use Rattle.raft_log_purge.specs.Heard.{AllHear, Heard, HearAll, files_from, last_gone}
use Rattle.raft_log_purge.specs.Heard.Heard.{Begun, Gone}

-- the first so many heard it, and the others are as before
abbrev pub HaveHeard : {L : Type 0} → (L → Heard → L → Type 0) → Heard → ℕ → List L → List L → Type 0
HaveHeard hears event n [] [] = Unit {0}
HaveHeard hears event n [] (new ∷ news) = ⊥
HaveHeard hears event n (old ∷ olds) [] = ⊥
HaveHeard hears event zero (old ∷ olds) (new ∷ news) = (new ≡ old) × HaveHeard hears event zero olds news
HaveHeard hears event (suc n) (old ∷ olds) (new ∷ news) = hears old event new × HaveHeard hears event n olds news

module _ {L : Type 0} (hears : L → Heard → L → Type 0) where
  pub none_heard : (event : Heard) (ls : List L) → HaveHeard hears event 0 ls ls
  none_heard event [] = tt
  none_heard event (l ∷ ls) = (refl, none_heard event ls)

  next_heard : (event : Heard) (n : ℕ) (olds news : List L) (x y : L) → HaveHeard hears event n olds news → n < length news → hears (get_or news n x) event y → HaveHeard hears event (suc n) olds (slice_set news n y)
  next_heard event n [] [] x y so_far within heard = absurd (omega (arith, within))
  next_heard event n [] (m ∷ ms) x y so_far within heard = absurd so_far
  next_heard event n (l ∷ ls) [] x y so_far within heard = absurd so_far
  next_heard event zero (l ∷ ls) (m ∷ ms) x y so_far within heard = (subst (λ (k : L). hears k event y) so_far.0 heard, so_far.1)
  next_heard event (suc n) (l ∷ ls) (m ∷ ms) x y so_far within heard = (so_far.0, next_heard event n ls ms x y so_far.1 (omega (arith, within)) heard)

  pub one_more : (event : Heard) (n : ℕ) (olds news : List L) (x y : L) → HaveHeard hears event n olds news → n < length news → hears (get_or news n x) event y → HaveHeard hears event (n + 1) olds (slice_set news n y)
  one_more event n olds news x y so_far within heard =
      let next : suc n ≡ n + 1 = omega arith in
      subst (λ (k : ℕ). HaveHeard hears event k olds (slice_set news n y)) next (next_heard event n olds news x y so_far within heard)

  pub all_heard : (event : Heard) (n : ℕ) (olds news : List L) → HaveHeard hears event n olds news → length news ≤ n → AllHear hears event olds news
  all_heard event n [] [] so_far long = tt
  all_heard event n [] (m ∷ ms) so_far long = absurd so_far
  all_heard event n (l ∷ ls) [] so_far long = absurd so_far
  all_heard event zero (l ∷ ls) (m ∷ ms) so_far long = absurd (omega (arith, long))
  all_heard event (suc n) (l ∷ ls) (m ∷ ms) so_far long = (so_far.0, all_heard event n ls ms so_far.1 (omega (arith, long)))

  -- all of a loop was told
  pub one_told : (event : Heard) (n : ℕ) (olds news : List L) → HaveHeard hears event n olds news → length news ≤ n → HearAll hears (event ∷ []) olds news
  one_told event n olds news so_far long = (news, all_heard event n olds news so_far long, refl)

  pub hear_more : (events more : List Heard) (olds mids news : List L) → HearAll hears events olds mids → HearAll hears more mids news → HearAll hears (events ++ more) olds news
  hear_more [] more olds mids news first then = subst (λ (ls : List L). HearAll hears more ls news) first then
  hear_more (event ∷ events) more olds mids news first then = (first.0, first.1, hear_more events more first.0 mids news first.2 then)

-- one file more
one_begun : (queue : LogQueue) (file first : ℕ) → file ≡ first → Begun (record { queue = queue; seq = file }) ≡ Begun (record { queue = queue; seq = first })
one_begun queue file first same = ap (λ (n : ℕ). Begun (record { queue = queue; seq = n })) same

next_file : (queue : LogQueue) (first count : ℕ) → files_from queue first (suc count) ≡ files_from queue first count ++ Begun (record { queue = queue; seq = first + count }) ∷ []
next_file queue first zero = ap (λ (e : Heard). e ∷ []) (one_begun queue first (first + 0) (let e : first ≡ first + 0 = omega arith in e))
next_file queue first (suc count) =
    ap (λ (es : List Heard). Begun (record { queue = queue; seq = first }) ∷ es)
    (next_file queue (first + 1) count
    ∙ ap (λ (e : Heard). files_from queue (first + 1) count ++ e ∷ []) (one_begun queue ((first + 1) + count) (first + suc count) (let e : (first + 1) + count ≡ first + suc count = omega arith in e)))

pub files_more : (queue : LogQueue) (first count more : ℕ) → more ≡ suc count → files_from queue first more ≡ files_from queue first count ++ Begun (record { queue = queue; seq = first + count }) ∷ []
files_more queue first count more is = ap (files_from queue first) is ∙ next_file queue first count

-- the file of a name
same_file : (id : FileId) (queue : LogQueue) (seq : ℕ) → id.queue ≡ queue → id.seq ≡ seq → id ≡ record { queue = queue; seq = seq }
same_file id queue seq of_queue of_seq = ap (λ (q : LogQueue). record { queue = q; seq = id.seq }) of_queue ∙ ap (λ (n : ℕ). record { queue = queue; seq = n }) of_seq

module _ {L : Type 0} (hears : L → Heard → L → Type 0) (queue : LogQueue) where
  pub begun_told : (id : FileId) (seq : ℕ) (olds news : List L) → id.queue ≡ queue → id.seq ≡ seq → HearAll hears (Begun id ∷ []) olds news
      → HearAll hears (Begun (record { queue = queue; seq = seq }) ∷ []) olds news
  begun_told id seq olds news of_queue of_seq told = subst (λ (i : FileId). HearAll hears (Begun i ∷ []) olds news) (same_file id queue seq of_queue of_seq) told

  -- one file more behind one was begun
  pub begun_more : (before seq : ℕ) (id : FileId) (olds mids news : List L) → before ≤ seq → id.queue ≡ queue → id.seq ≡ seq + 1
      → HearAll hears (files_from queue (before + 1) (seq - before)) olds mids → HearAll hears (Begun id ∷ []) mids news → HearAll hears (files_from queue (before + 1) (seq + 1 - before)) olds news
  begun_more before seq id olds mids news behind of_queue of_seq so_far told =
      let count : seq + 1 - before ≡ suc (seq - before) = omega (arith, behind) in
      let file : id.seq ≡ (before + 1) + (seq - before) = omega (arith, behind, of_seq) in
      subst (λ (es : List Heard). HearAll hears es olds news) (sym (files_more queue (before + 1) (seq - before) (seq + 1 - before) count))
      (hear_more hears (files_from queue (before + 1) (seq - before)) (Begun (record { queue = queue; seq = (before + 1) + (seq - before) }) ∷ []) olds mids news so_far
      (begun_told id ((before + 1) + (seq - before)) mids news of_queue file told))

  pub gone_told : (id : FileId) (before behind : ℕ) (olds news : List L) → before < behind → id.queue ≡ queue → id.seq ≡ behind - 1 → HearAll hears (Gone id ∷ []) olds news → HearAll hears (last_gone queue before behind) olds news
  gone_told id before behind olds news less of_queue of_seq told =
      subst (λ (b : Bool). HearAll hears (cond b (Gone (record { queue = queue; seq = behind - 1 }) ∷ []) []) olds news) (sym (lt-ltb before behind less))
      (subst (λ (i : FileId). HearAll hears (Gone i ∷ []) olds news) (same_file id queue (behind - 1) of_queue of_seq) told)

  pub none_gone : (before behind : ℕ) (ls : List L) → (before < behind → ⊥) → HearAll hears (last_gone queue before behind) ls ls
  none_gone before behind ls none = by_test (nat_lt before behind) refl
    where
      by_test : (b : Bool) → nat_lt before behind ≡ b → HearAll hears (cond b (Gone (record { queue = queue; seq = behind - 1 }) ∷ []) []) ls ls
      by_test true less = absurd (none (ltb-true before behind less))
      by_test false more = refl
