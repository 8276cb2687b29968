-- A stored group as the one list that it stands for, and what each storing command makes of that.
use Rattle.std.specs.Prelude.{◌≡◌, ℕ, zero, suc, ◌+◌, ◌-◌, ◌<◌, ◌≤◌, ◌^◌, nat_lt, List, [], ◌∷◌, ◌++◌, length, take, drop, slice_get, Some, None, refl}
use Rattle.std.proofs.Common.{sym, ap, ◌∙◌, arith, ⊎_elim, lt-ltb, le-ltb, length-drop, length-append, take-append-drop, take-take, length-take-le}
use Rattle.std.proofs.lemmas.List.{drop-drop, drop-take, drop-append-le, take-append-le}
use Rattle.std.proofs.lemmas.Bool.{cases_lt, cond-true, cond-false}
use Rattle.std.proofs.lemmas.Option.{none-some}
use Rattle.raft_values.specs.declared.log_id.LogId.{LogId}
use Rattle.raft_group_step.specs.Values.{Membership}
use Rattle.raft_group_step.specs.Values.{Entry}
use Rattle.raft_state.specs.declared.entry.EntryPayload.TheVariants.{Membership as Members}
use Rattle.raft_group_step.specs.StoredGroup.{StoredGroup, Snapshot, PutEntries, CutFrom, RemoveUpTo, SetSnapshot, after_storing, first_place, end_place, entry_at, prefix_of, held}
pub use Rattle.raft_group_step.proofs.EntryPlaces.{slice_drop}
use Rattle.raft_laws.proofs.BallotAgreement.{slice_get-append}

pub slice_take : {A : Type 0} (k : ℕ) (xs : List A) (i : ℕ) → i < k → slice_get (take k xs) i ≡ slice_get xs i
slice_take zero xs i l = absurd (omega arith)
slice_take (suc k) [] i l = refl
slice_take (suc k) (x ∷ xs) zero l = refl
slice_take (suc k) (x ∷ xs) (suc i) l = slice_take k xs i (omega arith)

pub slice_taken : {A : Type 0} (k : ℕ) (xs : List A) (i : ℕ) (x : A) → slice_get (take k xs) i ≡ Some x → slice_get xs i ≡ Some x
slice_taken zero xs i x e = absurd (none-some _ e)
slice_taken (suc k) [] i x e = e
slice_taken (suc k) (y ∷ xs) zero x e = e
slice_taken (suc k) (y ∷ xs) (suc i) x e = slice_taken k xs i x e

pub slice_after : {A : Type 0} (xs ys : List A) (i : ℕ) → slice_get (xs ++ ys) (length xs + i) ≡ slice_get ys i
slice_after [] ys i = let e : 0 + i ≡ i = omega arith in ap (slice_get ys) e
slice_after (x ∷ xs) ys i = let e : length (x ∷ xs) + i ≡ suc (length xs + i) = omega arith in ap (slice_get (x ∷ (xs ++ ys))) e ∙ slice_after xs ys i

-- a stretch of the group's list from a place on: each entry has its place, a leader that is a node, and keeps the voters
pub record Good (m : Membership) (from : ℕ) (xs : List Entry) : Type 0 where
  pub placed : (i : ℕ) (e : Entry) → slice_get xs i ≡ Some e → e.log_id.index ≡ from + i
  pub bounded : (i : ℕ) (e : Entry) → slice_get xs i ≡ Some e → e.log_id.leader_id.node_id < 2 ^ 64
  pub voters : (i : ℕ) (e : Entry) (x : Membership) → slice_get xs i ≡ Some e → e.payload ≡ Members x → x.configs ≡ m.configs

pub good_none : (m : Membership) (from : ℕ) → Good m from []
good_none m from =
    record { placed = λ i e h. absurd (none-some _ h); bounded = λ i e h. absurd (none-some _ h); voters = λ i e x h p. absurd (none-some _ h) }

pub good_take : {m : Membership} {from : ℕ} {xs : List Entry} (k : ℕ) → Good m from xs → Good m from (take k xs)
good_take {m} {from} {xs} k g =
    record {
      placed = λ i e h. g.placed i e (slice_taken k xs i e h);
      bounded = λ i e h. g.bounded i e (slice_taken k xs i e h);
      voters = λ i e x h p. g.voters i e x (slice_taken k xs i e h) p;
    }

pub good_drop : {m : Membership} {from : ℕ} {xs : List Entry} (k : ℕ) → Good m from xs → Good m (from + k) (drop k xs)
good_drop {m} {from} {xs} k g =
    record {
      placed = λ i e h. let p = g.placed (k + i) e (sym (slice_drop k xs i) ∙ h) in omega arith;
      bounded = λ i e h. g.bounded (k + i) e (sym (slice_drop k xs i) ∙ h);
      voters = λ i e x h p. g.voters (k + i) e x (sym (slice_drop k xs i) ∙ h) p;
    }

pub good_append : {m : Membership} {from : ℕ} {xs ys : List Entry} → Good m from xs → Good m (from + length xs) ys → Good m from (xs ++ ys)
good_append {m} {from} {xs} {ys} g h =
    record {
      placed = λ i e k. ⊎_elim (λ l. g.placed i e (first i e l k)) (λ l. let p = h.placed (i - length xs) e (second i e l k) in omega arith) (cases_lt i (length xs));
      bounded = λ i e k. ⊎_elim (λ l. g.bounded i e (first i e l k)) (λ l. h.bounded (i - length xs) e (second i e l k)) (cases_lt i (length xs));
      voters = λ i e x k p. ⊎_elim (λ l. g.voters i e x (first i e l k) p) (λ l. h.voters (i - length xs) e x (second i e l k) p) (cases_lt i (length xs));
    }
  where
    first : (i : ℕ) (e : Entry) → i < length xs → slice_get (xs ++ ys) i ≡ Some e → slice_get xs i ≡ Some e
    first i e l k = sym (slice_get-append xs ys i l) ∙ k

    second : (i : ℕ) (e : Entry) → length xs ≤ i → slice_get (xs ++ ys) i ≡ Some e → slice_get ys (i - length xs) ≡ Some e
    second i e l k =
        let n : length xs + (i - length xs) ≡ i = omega arith in
        sym (slice_after xs ys (i - length xs)) ∙ ap (slice_get (xs ++ ys)) n ∙ k

-- the snapshot is a front of the list, and the log the list from its first place on
pub record Joined (st : StoredGroup) (xs : List Entry) : Type 0 where
  pub front : prefix_of st.snapshot ≡ take (length (prefix_of st.snapshot)) xs
  pub log : st.log ≡ drop (first_place st) xs
  pub low : first_place st ≤ length (prefix_of st.snapshot)
  pub high : length (prefix_of st.snapshot) ≤ length xs

-- the snapshot is the list, and the log ends below its last entry, so that an opening drops it
pub record Stale (st : StoredGroup) (xs : List Entry) : Type 0 where
  pub front : prefix_of st.snapshot ≡ xs
  pub short : end_place st < length xs

module _ (st : StoredGroup) (xs : List Entry) (j : Joined st xs) where
  pub joined_held : held st ≡ xs
  joined_held =
      let lp = length (prefix_of st.snapshot) in
      let e : first_place st + (lp - first_place st) ≡ lp = omega (arith, j.low) in
      ap (λ l. prefix_of st.snapshot ++ drop (lp - first_place st) l) j.log
      ∙ ap (λ l. prefix_of st.snapshot ++ l) (drop-drop (lp - first_place st) (first_place st) xs ∙ ap (λ k. drop k xs) e)
      ∙ ap (λ l. l ++ drop lp xs) j.front
      ∙ take-append-drop lp xs

  pub joined_end : end_place st ≡ length xs
  joined_end = let size = ap length j.log ∙ length-drop (first_place st) xs in omega (arith, j.low, j.high)

  pub joined_at : (i : ℕ) → first_place st ≤ i → entry_at st i ≡ slice_get xs i
  joined_at i l =
      let e : first_place st + (i - first_place st) ≡ i = omega arith in
      cond-false (nat_lt i (first_place st)) _ _ (le-ltb i (first_place st) l)
      ∙ ap (λ l. slice_get l (i - first_place st)) j.log
      ∙ slice_drop (first_place st) xs (i - first_place st)
      ∙ ap (slice_get xs) e

  pub joined_below : (i : ℕ) → i < first_place st → entry_at st i ≡ None
  joined_below i l = cond-true (nat_lt i (first_place st)) _ _ (lt-ltb i (first_place st) l)

  module _ (p : ℕ) (from : length (prefix_of st.snapshot) ≤ p) (to : p ≤ length xs) where
    cut_log : take (p - first_place st) st.log ≡ drop (first_place st) (take p xs)
    cut_log =
        let e : first_place st + (p - first_place st) ≡ p = omega (arith, j.low) in
        ap (take (p - first_place st)) j.log
        ∙ sym (drop-take (first_place st) (p - first_place st) xs)
        ∙ ap (λ k. drop (first_place st) (take k xs)) e

    cut_size : length (take p xs) ≡ p
    cut_size = length-take-le p xs to

    pub joined_cut : Joined (after_storing (CutFrom p) st) (take p xs)
    joined_cut =
        record {
          front = j.front ∙ sym (take-take (length (prefix_of st.snapshot)) p xs from);
          log = cut_log;
          low = j.low;
          high = omega (arith, cut_size);
        }

    pub joined_put : (es : List Entry) → Joined (after_storing (PutEntries p es) st) (take p xs ++ es)
    joined_put es =
        record {
          front =
              j.front ∙ sym (take-take (length (prefix_of st.snapshot)) p xs from)
              ∙ sym (take-append-le (length (prefix_of st.snapshot)) (take p xs) es (omega (arith, cut_size)));
          log = ap (λ l. l ++ es) cut_log ∙ sym (drop-append-le (first_place st) (take p xs) es (omega (arith, cut_size, j.low)));
          low = j.low;
          high = let s = length-append (take p xs) es in omega (arith, cut_size);
        }

  pub joined_removed : (id : LogId ℕ) → first_place st ≤ id.index + 1 → id.index + 1 ≤ length (prefix_of st.snapshot) → Joined (after_storing (RemoveUpTo id) st) xs
  joined_removed id from to =
      let e : first_place st + (id.index + 1 - first_place st) ≡ id.index + 1 = omega arith in
      record {
        front = j.front;
        log = ap (drop (id.index + 1 - first_place st)) j.log ∙ drop-drop (id.index + 1 - first_place st) (first_place st) xs ∙ ap (λ k. drop k xs) e;
        low = to;
        high = j.high;
      }

  pub joined_snapshot : (x : Snapshot) → x.«prefix» ≡ take (length x.«prefix») xs → first_place st ≤ length x.«prefix» → length x.«prefix» ≤ length xs → Joined (after_storing (SetSnapshot x) st) xs
  joined_snapshot x front low high = record { front = front; log = j.log; low = low; high = high }
