-- Messages that are written into a block, one after the other.
use Rattle.std.proofs.Common.{◌≡◌, ℕ, suc, ◌+◌, ◌-◌, ◌*◌, ◌<◌, ◌≤◌, ◌⊎◌, inl, inr, ⊎_elim, Bool, true, false, List, [], ◌∷◌, ◌++◌, length, get_or, map, take, drop, refl, sym, ap, subst, ◌∙◌, append_assoc, append-nil, add-one, arith, length-append}
use Rattle.std.proofs.Math.Seq.{take-suc, drop-cons}
use Rattle.std.proofs.lemmas.List.{map_push, take-map, take-append-drop, take-append-le, take_all}
use Rattle.std.proofs.lemmas.Grind.{flat_map-append}
use Rattle.std.specs.Prelude.{Err, ◌&&◌}
use Rattle.std.specs.List.{list_all}
use Rattle.raft_log_records.specs.declared.error.RecordError.{RecordError}
use Rattle.raft_log_records.specs.declared.error.RecordError.TheVariants as error
use Rattle.raft_log_records.specs.declared.error.WriteError.{WriteError}
use Rattle.raft_log_records.specs.declared.error.WriteError.TheVariants as write_error
use Rattle.raft_log_records.specs.Refusal.{IsWriteError, record_error}
use Rattle.raft_log_records.specs.declared.item.EntryIndex.{EntryIndex}
use Rattle.raft_log_records.specs.declared.item.LogItem.{LogItem}
use Rattle.raft_log_records.specs.Item.{Item, place, items_of, with_bytes}
use Rattle.raft_log_records.specs.Spelling.{record_len}
use Rattle.raft_log_records.specs.Batch.{Batch, IsSound, IsWriteRefusal, LogsWritten, joined, numbered, run_of}
use Rattle.raft_log_records.specs.Places.{runs}
use Rattle.raft_log_records.proofs.Laid.{block_is}
use Rattle.raft_log_records.proofs.Runs.{record_len_run}

module _ {X : Type 0} (f : X → List ℕ) where
  -- after so many of the messages: the bytes, where they lie, and the next one's index
  pub record IsWrittenTo (old now : List ℕ) (first : ℕ) (xs : List X) (k : ℕ) (rs : List EntryIndex) (index : ℕ) : Type 0 where
    pub bytes : now ≡ old ++ joined (map f (take k xs))
    pub places : rs ++ runs (length now) (numbered index (map f (drop k xs))) ≡ runs (length old) (numbered first (map f xs))
    pub index_is : index ≡ first + k
    pub short : length now + 12 * k ≤ 33554432
    pub count : length rs ≡ k

  joined_more : (xs : List X) (k : ℕ) (x : X) → k < length xs → x ≡ get_or xs k x → joined (map f (take (k + 1) xs)) ≡ joined (map f (take k xs)) ++ f x
  joined_more xs k x h is =
      let step : take (suc k) xs ≡ take k xs ++ x ∷ [] = take-suc xs k x h ∙ ap (λ (y : X). take k xs ++ y ∷ []) (sym is) in
      ap (λ (n : ℕ). joined (map f (take n xs))) (add-one k)
      ∙ ap (λ (l : List X). joined (map f l)) step
      ∙ ap (λ (l : List (List ℕ)). joined l) (map_push f (take k xs) x)
      ∙ flat_map-append (λ (b : List ℕ). b) (map f (take k xs)) (f x ∷ [])
      ∙ ap (λ (l : List ℕ). joined (map f (take k xs)) ++ l) (append-nil (f x))

  rest_more : (xs : List X) (k : ℕ) (x : X) → k < length xs → x ≡ get_or xs k x → drop k xs ≡ x ∷ drop (k + 1) xs
  rest_more xs k x h is = drop-cons xs k x h ∙ ap (λ (y : X). y ∷ drop (suc k) xs) (sym is) ∙ ap (λ (n : ℕ). x ∷ drop n xs) (sym (add-one k))

  bytes_more : (old now : List ℕ) (xs : List X) (k : ℕ) (x : X) → k < length xs → x ≡ get_or xs k x → now ≡ old ++ joined (map f (take k xs)) → now ++ f x ≡ old ++ joined (map f (take (k + 1) xs))
  bytes_more old now xs k x h is e =
      let whole : (old ++ joined (map f (take k xs))) ++ f x ≡ old ++ (joined (map f (take k xs)) ++ f x) = rw append_assoc in
      ap (λ (l : List ℕ). l ++ f x) e ∙ whole ∙ ap (λ (l : List ℕ). old ++ l) (sym (joined_more xs k x h is))

  places_more : (old now : List ℕ) (first : ℕ) (xs : List X) (k : ℕ) (x : X) (rs : List EntryIndex) (index at len : ℕ) → k < length xs → x ≡ get_or xs k x → at ≡ length now → len ≡ length (f x)
      → rs ++ runs (length now) (numbered index (map f (drop k xs))) ≡ runs (length old) (numbered first (map f xs))
      → (rs ++ place index at len ∷ []) ++ runs (length (now ++ f x)) (numbered (index + 1) (map f (drop (k + 1) xs))) ≡ runs (length old) (numbered first (map f xs))
  places_more old now first xs k x rs index at len h is e l p =
      let others = λ (n : ℕ). runs n (numbered (index + 1) (map f (drop (k + 1) xs))) in
      let whole : (rs ++ place index at len ∷ []) ++ others (length (now ++ f x)) ≡ rs ++ (place index at len ∷ others (length (now ++ f x))) = rw append_assoc in
      whole
      ∙ ap (λ (n : ℕ). rs ++ (place index at len ∷ others n)) (length-append now (f x))
      ∙ ap (λ (n : ℕ). rs ++ (place index n len ∷ others (length now + length (f x)))) e
      ∙ ap (λ (n : ℕ). rs ++ (place index (length now) n ∷ others (length now + length (f x)))) l
      ∙ sym (ap (λ (ys : List X). rs ++ runs (length now) (numbered index (map f ys))) (rest_more xs k x h is))
      ∙ p

  -- one more message
  pub written_more : (old now after : List ℕ) (first : ℕ) (xs : List X) (k : ℕ) (x : X) (rs more : List EntryIndex) (index at len : ℕ) → IsWrittenTo old now first xs k rs index → k < length xs → x ≡ get_or xs k x
      → after ≡ now ++ f x → more ≡ rs ++ place index at len ∷ [] → at ≡ length now → len ≡ length after - at → length after + 12 * (k + 1) ≤ 33554432 → IsWrittenTo old after first xs (k + 1) more (index + 1)
  written_more old now after first xs k x rs more index at len w h is e m a l short =
      let long = length-append now (f x) in
      let grown = ap length e in
      let len_is : len ≡ length (f x) = omega arith in
      let places = places_more old now first xs k x rs index at len h is a len_is w.places in
      record {
        bytes = e ∙ bytes_more old now xs k x h is w.bytes;
        places = subst (λ (r : List EntryIndex). r ++ runs (length after) (numbered (index + 1) (map f (drop (k + 1) xs))) ≡ runs (length old) (numbered first (map f xs))) (sym m)
            (subst (λ (b : List ℕ). (rs ++ place index at len ∷ []) ++ runs (length b) (numbered (index + 1) (map f (drop (k + 1) xs))) ≡ runs (length old) (numbered first (map f xs))) (sym e) places);
        index_is = omega (arith, w.index_is);
        short = short;
        count = ap length m ∙ length-append rs (place index at len ∷ []) ∙ ap (λ (n : ℕ). n + 1) w.count;
      }

  -- what was there stands before all that is written
  pub stays : (old now new : List ℕ) (first : ℕ) (xs : List X) (k : ℕ) (rs : List EntryIndex) (index : ℕ) → IsWrittenTo old now first xs k rs index → ((more : List ℕ) × (new ≡ now ++ more)) → (more : List ℕ) × (new ≡ old ++ more)
  stays old now new first xs k rs index w m =
      let whole : (old ++ joined (map f (take k xs))) ++ m.0 ≡ old ++ (joined (map f (take k xs)) ++ m.0) = rw append_assoc in
      (joined (map f (take k xs)) ++ m.0, m.1 ∙ ap (λ (l : List ℕ). l ++ m.0) w.bytes ∙ whole)

  joined_take : (parts : List (List ℕ)) (n : ℕ) → length (joined (take n parts)) ≤ length (joined parts)
  joined_take parts n =
      let whole = ap (λ (l : List (List ℕ)). length (joined l)) (take-append-drop n parts) in
      let cut = ap length (flat_map-append (λ (b : List ℕ). b) (take n parts) (drop n parts)) in
      let sum = length-append (joined (take n parts)) (joined (drop n parts)) in
      omega arith

  -- what passes a record's length before the end does at the end
  pub too_long : (old now after : List ℕ) (first : ℕ) (xs : List X) (k : ℕ) (x : X) (rs : List EntryIndex) (index : ℕ) → IsWrittenTo old now first xs k rs index → k < length xs → x ≡ get_or xs k x → after ≡ now ++ f x
      → 33554432 < length after + 12 * (k + 1) → 33554432 < length old + 12 * length xs + length (joined (map f xs))
  too_long old now after first xs k x rs index w h is e long =
      let grown = ap length (e ∙ bytes_more old now xs k x h is w.bytes) in
      let sum = length-append old (joined (map f (take (k + 1) xs))) in
      let le = joined_take (map f xs) (k + 1) in
      let same = ap (λ (l : List (List ℕ)). length (joined l)) (take-map f (k + 1) xs) in
      omega arith

-- ---- what a refused write leaves

pub cut_back : (old now cut : List ℕ) (at : ℕ) → at ≡ length old → ((more : List ℕ) × (now ≡ old ++ more)) → cut ≡ take at now → cut ≡ old
cut_back old now cut at e m c =
    let front : take (length old) (old ++ m.0) ≡ old = take-append-le (length old) old m.0 (omega arith) ∙ take_all (length old) old (omega arith) in
    c ∙ ap (λ (l : List ℕ). take at l) m.1 ∙ ap (λ (n : ℕ). take n (old ++ m.0)) e ∙ front

-- the block and the run are within the record
pub run_within : (items : List LogItem) (block : List ℕ) (holds : Bool) (m group first : ℕ) (parts : List (List ℕ)) → IsSound items block holds m
    → length block + 12 * length parts + length (joined parts) ≤ record_len (with_bytes block (items_of items) ++ run_of group first parts ∷ [])
run_within items block holds m group first parts s =
    let view = with_bytes block (items_of items) in
    let a = record_len_run view group first parts in
    let b = ap length (block_is block (items_of items) s.laid) in
    omega arith

pub refused_write : (batch new : Batch) (item : Item (List ℕ)) (fit : Bool) (len : ℕ) (e : RecordError) → IsWriteRefusal fit len e → new ≡ batch → (33554432 < len → 33554432 < record_len (batch.items ++ item ∷ []))
    → LogsWritten batch item fit new (Err e)
refused_write batch new item fit len error.Memory r same long = same
refused_write batch new item fit len error.TooLong r same long = (same, ⊎_elim (λ past. inl past) (λ more. inr (long more)) r)
refused_write batch new item fit len (error.Corruption fault) r same long = r

-- ---- messages within the limits of their type

module _ {X : Type 0} (q : X → Bool) where
  all_of_two : (xs ys : List X) → list_all q (xs ++ ys) ≡ (list_all q xs && list_all q ys)
  all_of_two [] ys = refl
  all_of_two (x ∷ xs) ys = by_first (q x) (all_of_two xs ys)
    where
      by_first : (b : Bool) → list_all q (xs ++ ys) ≡ (list_all q xs && list_all q ys) → (b && list_all q (xs ++ ys)) ≡ ((b && list_all q xs) && list_all q ys)
      by_first true h = h
      by_first false h = refl

  pub all_more : (xs : List X) (k : ℕ) (x : X) → k < length xs → x ≡ get_or xs k x → q x ≡ true → list_all q (take k xs) ≡ true → list_all q (take (k + 1) xs) ≡ true
  all_more xs k x h is one before =
      let step : take (suc k) xs ≡ take k xs ++ x ∷ [] = take-suc xs k x h ∙ ap (λ (y : X). take k xs ++ y ∷ []) (sym is) in
      ap (λ (n : ℕ). list_all q (take n xs)) (add-one k) ∙ ap (list_all q) step ∙ all_of_two (take k xs) (x ∷ []) ∙ ap (λ (b : Bool). b && (q x && true)) before ∙ ap (λ (b : Bool). b && true) one

  never_both : (b : Bool) → (b && false) ≡ false
  never_both true = refl
  never_both false = refl

  -- one that isn't
  pub one_past : (xs : List X) (k : ℕ) (x : X) → k < length xs → x ≡ get_or xs k x → q x ≡ false → list_all q xs ≡ false
  one_past xs k x h is past =
      let rest : drop k xs ≡ x ∷ drop (suc k) xs = drop-cons xs k x h ∙ ap (λ (y : X). y ∷ drop (suc k) xs) (sym is) in
      ap (list_all q) (sym (take-append-drop k xs)) ∙ all_of_two (take k xs) (drop k xs) ∙ ap (λ (l : List X). list_all q (take k xs) && list_all q l) rest
      ∙ ap (λ (b : Bool). list_all q (take k xs) && (b && list_all q (drop (suc k) xs))) past ∙ never_both (list_all q (take k xs))

  pub all_at_end : (xs : List X) (k : ℕ) → length xs ≤ k → list_all q (take k xs) ≡ true → list_all q xs ≡ true
  all_at_end xs k h all = ap (list_all q) (sym (take_all k xs h)) ∙ all

-- why one isn't written is why the batch is refused
pub refused_one : (fit all : Bool) (len : ℕ) (w : WriteError) → IsWriteError fit w → (fit ≡ false → all ≡ false) → IsWriteRefusal all len (record_error w)
refused_one fit all len write_error.Memory h past = tt
refused_one fit all len write_error.TooLong h past = inl (past h)
