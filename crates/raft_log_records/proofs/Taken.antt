-- What is read was spelled so.
use Rattle.std.proofs.Common.{◌≡◌, ◌≢◌, ◌⊎◌, inl, inr, ℕ, zero, suc, ◌+◌, ◌-◌, ◌^◌, ◌<◌, ◌≤◌, Bool, true, false, not, cond, ltb, eqb, List, [], ◌∷◌, ◌++◌, length, Result, Ok, Err, refl, sym, ap, subst, ◌∙◌, arith}
use Rattle.std.specs.List.{flat_map, AllByRecursion}
use Rattle.std.specs.Int.{w32, w64, to_be_bytes}
use Rattle.std.proofs.lemmas.Bool.{ltb-false, eqb-true, eqb-false, not-false}
use Rattle.std.proofs.lemmas.List.{append-nil, nil_from_length}
use Rattle.std.proofs.lemmas.List.Concat.{flat_map-cons}
use Rattle.raft_log_records.specs.declared.error.RecordFault.{RecordFault}
use Rattle.raft_log_records.specs.declared.error.RecordFault.TheVariants as fault
use Rattle.raft_log_records.specs.declared.item.EntryIndex.{EntryIndex}
use Rattle.raft_log_records.specs.declared.item.AtomicGroupStatus.{AtomicGroupStatus}
use Rattle.raft_log_records.specs.declared.item.AtomicGroupStatus.TheVariants.{Begin, Middle, End}
use Rattle.raft_log_records.specs.Item.{Change, Item, place, change_map, item_map, with_lengths}
use Rattle.raft_log_records.specs.Item.Change.{entries, clean, compact, put, delete, mark}
use Rattle.raft_log_records.specs.Spelling.{spell_string, spell_entry, spell_change, spell_item, spell_items, status_byte, IsConsecutive, IsChange, IsItem, entries_of, first_index}
use Rattle.raft_log_records.specs.Batch.{IsRunLaid, IsLaid}
use Rattle.raft_log_records.specs.Reading.{◌>>=◌, number_at, string_at, key_at, status_at, entry_at, entries_at, run_at, change_behind, change_at, item_at, items_at, body_at}
use Rattle.raft_log_records.specs.Places.{indexed}
use Rattle.raft_log_records.proofs.Spelled.{heads, heads_of, count, run_spelled}
use Rattle.raft_bytes.specs.Bytes.{AreBytes}
use Rattle.raft_bytes.proofs.Bytes.{AreBytes-rest, bind_ok, guard_ok, guard_then, ok_is, Takes, Takes-then, Takes-behind}
use Rattle.raft_bytes.proofs.Numbers.{number_takes, wide32, wide64}
use Rattle.raft_log_records.proofs.Fields.{string_takes, key_takes}

chosen : {A : Type 0} (b : Bool) (x y z : A) → cond b x y ≡ z → ((b ≡ true) × (x ≡ z)) ⊎ ((b ≡ false) × (y ≡ z))
chosen true x y z e = inl (refl, e)
chosen false x y z e = inr (refl, e)

-- ---- the status of an atomic mark

status_takes : (bytes : List ℕ) (x : AtomicGroupStatus × List ℕ) → AreBytes bytes → status_at bytes ≡ Ok x → Takes bytes (status_byte x.0 ∷ []) x.1
unfolding status_at
status_takes [] x fits e = absurd cc
status_takes (zero ∷ bytes) x fits e = subst (λ (y : AtomicGroupStatus × List ℕ). Takes (0 ∷ bytes) (status_byte y.0 ∷ []) y.1) (ok_is (Begin, bytes) x e) (record { parts = refl; rest_fits = AreBytes-rest 0 bytes fits })
status_takes (suc zero ∷ bytes) x fits e = subst (λ (y : AtomicGroupStatus × List ℕ). Takes (1 ∷ bytes) (status_byte y.0 ∷ []) y.1) (ok_is (Middle, bytes) x e) (record { parts = refl; rest_fits = AreBytes-rest 1 bytes fits })
status_takes (suc (suc zero) ∷ bytes) x fits e = subst (λ (y : AtomicGroupStatus × List ℕ). Takes (2 ∷ bytes) (status_byte y.0 ∷ []) y.1) (ok_is (End, bytes) x e) (record { parts = refl; rest_fits = AreBytes-rest 2 bytes fits })
status_takes (suc (suc (suc b)) ∷ bytes) x fits e = absurd cc

-- ---- entries

pub record EntryTaken (next limit at : ℕ) (bytes : List ℕ) (e : EntryIndex) (rest : List ℕ) : Type 0 where
  pub takes : Takes bytes (spell_entry (e.index, e.entry_len)) rest
  pub index : e.index ≡ next
  pub index_fits : e.index < 2 ^ 64
  pub len_fits : e.entry_len < 2 ^ 32
  pub offset : e.entry_offset ≡ at
  pub within : e.entry_len ≤ limit - at

entry_takes : (next limit at : ℕ) (bytes : List ℕ) (x : EntryIndex × List ℕ) → AreBytes bytes → entry_at next limit at bytes ≡ Ok x → EntryTaken next limit at bytes x.0 x.1
unfolding entry_at
entry_takes next limit at bytes x fits e =
    let a = bind_ok (number_at w64 bytes) (λ index. number_at w32 index.1 >>= λ len. cond (not (eqb index.0 next)) (Err fault.NotConsecutive) (cond (ltb (limit - at) len.0) (Err fault.EntriesLength) (Ok (place index.0 at len.0, len.1)))) x e in
    let b = bind_ok (number_at w32 a.0.1) (λ len. cond (not (eqb a.0.0 next)) (Err fault.NotConsecutive) (cond (ltb (limit - at) len.0) (Err fault.EntriesLength) (Ok (place a.0.0 at len.0, len.1)))) x a.2 in
    let g = guard_then (not (eqb a.0.0 next)) fault.NotConsecutive (cond (ltb (limit - at) b.0.0) (Err fault.EntriesLength) (Ok (place a.0.0 at b.0.0, b.0.1))) x b.2 in
    let h = guard_ok (ltb (limit - at) b.0.0) fault.EntriesLength (place a.0.0 at b.0.0, b.0.1) x g.1 in
    let t = number_takes fault.ItemsCutShort w64 (2 ^ 64) wide64 bytes a.0.0 a.0.1 fits a.1 in
    let u = number_takes fault.ItemsCutShort w32 (2 ^ 32) wide32 a.0.1 b.0.0 b.0.1 t.0.rest_fits b.1 in
    subst (λ (y : EntryIndex × List ℕ). EntryTaken next limit at bytes y.0 y.1) h.1 (record {
      takes = Takes-then bytes (to_be_bytes w64 a.0.0) a.0.1 (to_be_bytes w32 b.0.0) b.0.1 t.0 u.0;
      index = eqb-true _ _ (not-false _ g.0);
      index_fits = t.1;
      len_fits = u.1;
      offset = refl;
      within = ltb-false _ _ h.0;
    })

pub record RunTaken (next limit at : ℕ) (bytes : List ℕ) (count : ℕ) (es : List EntryIndex) (end : ℕ) (rest : List ℕ) : Type 0 where
  pub takes : Takes bytes (flat_map spell_entry (heads_of es)) rest
  pub counted : length es ≡ count
  pub laid : IsRunLaid at es end
  pub within : end ≤ limit
  pub consecutive : IsConsecutive next (heads_of es)

entries_take : (count next limit at : ℕ) (bytes : List ℕ) (x : List EntryIndex × ℕ × List ℕ) → AreBytes bytes → at ≤ limit → entries_at count next limit at bytes ≡ Ok x → RunTaken next limit at bytes count x.0 x.1 x.2
unfolding entries_at
entries_take zero next limit at bytes x fits le e =
    subst (λ (y : List EntryIndex × ℕ × List ℕ). RunTaken next limit at bytes 0 y.0 y.1 y.2) (ok_is ([], at, bytes) x e) (record { takes = record { parts = refl; rest_fits = fits }; counted = refl; laid = refl; within = le; consecutive = tt })
entries_take (suc count) next limit at bytes x fits le e =
    let a = bind_ok (entry_at next limit at bytes) (λ first. entries_at count (next + 1) limit (at + first.0.entry_len) first.1 >>= λ others. Ok (first.0 ∷ others.0, others.1, others.2)) x e in
    let b = bind_ok (entries_at count (next + 1) limit (at + a.0.0.entry_len) a.0.1) (λ others. Ok (a.0.0 ∷ others.0, others.1, others.2)) x a.2 in
    let first = entry_takes next limit at bytes a.0 fits a.1 in
    let second = entries_take count (next + 1) limit (at + a.0.0.entry_len) a.0.1 b.0 first.takes.rest_fits (omega (arith, first.within)) b.1 in
    let both = Takes-then bytes (spell_entry (a.0.0.index, a.0.0.entry_len)) a.0.1 (flat_map spell_entry (heads_of b.0.0)) b.0.2 first.takes second.takes in
    let made : List EntryIndex × ℕ × List ℕ = (a.0.0 ∷ b.0.0, b.0.1, b.0.2) in
    subst (λ (y : List EntryIndex × ℕ × List ℕ). RunTaken next limit at bytes (suc count) y.0 y.1 y.2) (ok_is made x b.2) (record {
      takes = rw flat_map-cons both;
      counted = ap suc second.counted;
      laid = (first.offset, second.laid);
      within = second.within;
      consecutive = (first.index, first.index_fits, first.len_fits, second.consecutive);
    })

pub unindexed : (es : List EntryIndex) → entries_of (entries (indexed es)) ≡ es
unindexed [] = refl
unindexed (e ∷ es) = ap (λ (l : List EntryIndex). e ∷ l) (unindexed es)

lens : EntryIndex → ℕ
lens e = e.entry_len

pub record ChangeTaken (limit at : ℕ) (bytes : List ℕ) (c : Change EntryIndex) (end : ℕ) (rest : List ℕ) : Type 0 where
  pub takes : Takes bytes (spell_change (change_map (λ e. e.entry_len) c)) rest
  pub is_change : IsChange (change_map (λ e. e.entry_len) c)
  pub laid : IsRunLaid at (entries_of c) end
  pub within : end ≤ limit

first_consecutive : (next : ℕ) (es : List (ℕ × ℕ)) → 0 < length es → IsConsecutive next es → IsConsecutive (first_index es) es
first_consecutive next [] some h = absurd (omega arith)
first_consecutive next (e ∷ es) some h = subst (λ (n : ℕ). IsConsecutive n (e ∷ es)) (sym h.0) h

run_takes : (limit at : ℕ) (bytes : List ℕ) (x : List EntryIndex × ℕ × List ℕ) → AreBytes bytes → at ≤ limit → run_at limit at bytes ≡ Ok x → ChangeTaken limit at (1 ∷ bytes) (entries (indexed x.0)) x.1 x.2
unfolding run_at
run_takes limit at bytes x fits le e =
    let a = bind_ok (number_at w32 bytes) (λ count. cond (eqb count.0 0) (Err fault.NotConsecutive) (number_at w64 count.1 >>= λ first. entries_at count.0 first.0 limit at count.1)) x e in
    let g = guard_then (eqb a.0.0 0) fault.NotConsecutive (number_at w64 a.0.1 >>= λ first. entries_at a.0.0 first.0 limit at a.0.1) x a.2 in
    let b = bind_ok (number_at w64 a.0.1) (λ first. entries_at a.0.0 first.0 limit at a.0.1) x g.1 in
    let t = number_takes fault.ItemsCutShort w32 (2 ^ 32) wide32 bytes a.0.0 a.0.1 fits a.1 in
    let r = entries_take a.0.0 b.0.0 limit at a.0.1 x t.0.rest_fits le b.2 in
    let some : a.0.0 ≢ 0 = eqb-false _ _ g.0 in
    let both = Takes-then bytes (to_be_bytes w32 a.0.0) a.0.1 (flat_map spell_entry (heads_of x.0)) x.2 t.0 r.takes in
    let counted : Takes bytes (to_be_bytes w32 (length x.0) ++ flat_map spell_entry (heads_of x.0)) x.2 = subst (λ (n : ℕ). Takes bytes (to_be_bytes w32 n ++ flat_map spell_entry (heads_of x.0)) x.2) (sym r.counted) both in
    let len : length (heads_of x.0) ≡ length x.0 = count x.0 in
    let in_heads : IsChange (entries (heads_of x.0)) = (omega (arith, r.counted), omega (arith, r.counted, t.1), first_consecutive b.0.0 (heads_of x.0) (omega (arith, r.counted)) r.consecutive) in
    record {
      takes = subst (λ (l : List ℕ). Takes (1 ∷ bytes) l x.2) (sym (run_spelled x.0)) (Takes-behind 1 bytes (to_be_bytes w32 (length x.0) ++ flat_map spell_entry (heads_of x.0)) x.2 counted);
      is_change = subst (λ (hs : List (ℕ × ℕ)). IsChange (entries hs)) (sym (heads x.0)) in_heads;
      laid = subst (λ (es : List EntryIndex). IsRunLaid at es x.1) (sym (unindexed x.0)) r.laid;
      within = r.within;
    }

abbrev Read : Type 0
Read = Change EntryIndex × ℕ × List ℕ

abbrev answered : Read → Result Read RecordFault
answered x = Ok x

abbrev failed : RecordFault → Result Read RecordFault
failed f = Err f

TakesAt : ℕ → ℕ → List ℕ → Read → Type 0
TakesAt limit at bytes x = ChangeTaken limit at bytes x.0 x.1 x.2

-- what is behind each tag
taken_entries : (limit at : ℕ) (bytes : List ℕ) (x : Read) → AreBytes bytes → at ≤ limit → (run_at limit at bytes >>= λ es. Ok (entries (indexed es.0), es.1, es.2)) ≡ Ok x → TakesAt limit at (1 ∷ bytes) x
unfolding TakesAt
taken_entries limit at bytes x fits le e =
    let a = bind_ok (run_at limit at bytes) (λ es. Ok (entries (indexed es.0), es.1, es.2)) x e in
    let made : Read = (entries (indexed a.0.0), a.0.1, a.0.2) in
    subst (λ (y : Read). ChangeTaken limit at (1 ∷ bytes) y.0 y.1 y.2) (ok_is made x a.2) (run_takes limit at bytes a.0 fits le a.1)

taken_clean : (limit at : ℕ) (bytes : List ℕ) (x : Read) → AreBytes bytes → at ≤ limit → answered (clean, at, bytes) ≡ answered x → TakesAt limit at (2 ∷ bytes) x
unfolding TakesAt
taken_clean limit at bytes x fits le e =
    let made : Read = (clean, at, bytes) in
    subst (λ (y : Read). ChangeTaken limit at (2 ∷ bytes) y.0 y.1 y.2) (ok_is made x e) (record { takes = record { parts = refl; rest_fits = fits }; is_change = tt; laid = refl; within = le })

taken_compact : (limit at : ℕ) (bytes : List ℕ) (x : Read) → AreBytes bytes → at ≤ limit → (number_at w64 bytes >>= λ index. Ok (compact index.0, at, index.1)) ≡ Ok x → TakesAt limit at (3 ∷ bytes) x
unfolding TakesAt
taken_compact limit at bytes x fits le e =
    let a = bind_ok (number_at w64 bytes) (λ index. Ok (compact index.0, at, index.1)) x e in
    let t = number_takes fault.ItemsCutShort w64 (2 ^ 64) wide64 bytes a.0.0 a.0.1 fits a.1 in
    let made : Read = (compact a.0.0, at, a.0.1) in
    subst (λ (y : Read). ChangeTaken limit at (3 ∷ bytes) y.0 y.1 y.2) (ok_is made x a.2) (record { takes = Takes-behind 3 bytes (to_be_bytes w64 a.0.0) a.0.1 t.0; is_change = t.1; laid = refl; within = le })

taken_put : (limit at : ℕ) (bytes : List ℕ) (x : Read) → AreBytes bytes → at ≤ limit → (key_at bytes >>= λ key. string_at key.1 >>= λ value. Ok (put key.0 value.0, at, value.1)) ≡ Ok x → TakesAt limit at (4 ∷ bytes) x
unfolding TakesAt
taken_put limit at bytes x fits le e =
    let a = bind_ok (key_at bytes) (λ key. string_at key.1 >>= λ value. Ok (put key.0 value.0, at, value.1)) x e in
    let b = bind_ok (string_at a.0.1) (λ value. Ok (put a.0.0 value.0, at, value.1)) x a.2 in
    let t = key_takes bytes a.0.0 a.0.1 fits a.1 in
    let u = string_takes a.0.1 b.0.0 b.0.1 t.0.rest_fits b.1 in
    let made : Read = (put a.0.0 b.0.0, at, b.0.1) in
    subst (λ (y : Read). ChangeTaken limit at (4 ∷ bytes) y.0 y.1 y.2) (ok_is made x b.2)
    (record { takes = Takes-behind 4 bytes (spell_string a.0.0 ++ spell_string b.0.0) b.0.1 (Takes-then bytes (spell_string a.0.0) a.0.1 (spell_string b.0.0) b.0.1 t.0 u.0); is_change = (t.1, u.1); laid = refl; within = le })

taken_delete : (limit at : ℕ) (bytes : List ℕ) (x : Read) → AreBytes bytes → at ≤ limit → (key_at bytes >>= λ key. Ok (delete key.0, at, key.1)) ≡ Ok x → TakesAt limit at (5 ∷ bytes) x
unfolding TakesAt
taken_delete limit at bytes x fits le e =
    let a = bind_ok (key_at bytes) (λ key. Ok (delete key.0, at, key.1)) x e in
    let t = key_takes bytes a.0.0 a.0.1 fits a.1 in
    let made : Read = (delete a.0.0, at, a.0.1) in
    subst (λ (y : Read). ChangeTaken limit at (5 ∷ bytes) y.0 y.1 y.2) (ok_is made x a.2) (record { takes = Takes-behind 5 bytes (spell_string a.0.0) a.0.1 t.0; is_change = t.1; laid = refl; within = le })

taken_mark : (limit at : ℕ) (bytes : List ℕ) (x : Read) → AreBytes bytes → at ≤ limit → (number_at w64 bytes >>= λ id. status_at id.1 >>= λ status. Ok (mark id.0 status.0, at, status.1)) ≡ Ok x → TakesAt limit at (6 ∷ bytes) x
unfolding TakesAt
taken_mark limit at bytes x fits le e =
    let a = bind_ok (number_at w64 bytes) (λ id. status_at id.1 >>= λ status. Ok (mark id.0 status.0, at, status.1)) x e in
    let b = bind_ok (status_at a.0.1) (λ status. Ok (mark a.0.0 status.0, at, status.1)) x a.2 in
    let t = number_takes fault.ItemsCutShort w64 (2 ^ 64) wide64 bytes a.0.0 a.0.1 fits a.1 in
    let u = status_takes a.0.1 b.0 t.0.rest_fits b.1 in
    let made : Read = (mark a.0.0 b.0.0, at, b.0.1) in
    subst (λ (y : Read). ChangeTaken limit at (6 ∷ bytes) y.0 y.1 y.2) (ok_is made x b.2)
    (record { takes = Takes-behind 6 bytes (to_be_bytes w64 a.0.0 ++ status_byte b.0.0 ∷ []) b.0.1 (Takes-then bytes (to_be_bytes w64 a.0.0) a.0.1 (status_byte b.0.0 ∷ []) b.0.1 t.0 u); is_change = t.1; laid = refl; within = le })

-- the read of a tag, where it is this one
tagged : (tag k : ℕ) (limit at : ℕ) (bytes : List ℕ) (x : Read) → eqb tag k ≡ true → TakesAt limit at (k ∷ bytes) x → TakesAt limit at (tag ∷ bytes) x
tagged tag k limit at bytes x e t = subst (λ (n : ℕ). TakesAt limit at (n ∷ bytes) x) (sym (eqb-true tag k e)) t

behind_takes : (tag limit at : ℕ) (bytes : List ℕ) (x : Read) → AreBytes bytes → at ≤ limit → change_behind tag limit at bytes ≡ Ok x → TakesAt limit at (tag ∷ bytes) x
unfolding change_behind
behind_takes tag limit at bytes x fits le e =
    elim (chosen (eqb tag 1) _ _ (Ok x) e) [
      | inl a ↦ tagged tag 1 limit at bytes x a.0 (taken_entries limit at bytes x fits le a.1)
      | inr a ↦ elim (chosen (eqb tag 2) _ _ (Ok x) a.1) [
        | inl b ↦ tagged tag 2 limit at bytes x b.0 (taken_clean limit at bytes x fits le b.1)
        | inr b ↦ elim (chosen (eqb tag 3) _ _ (Ok x) b.1) [
          | inl c ↦ tagged tag 3 limit at bytes x c.0 (taken_compact limit at bytes x fits le c.1)
          | inr c ↦ elim (chosen (eqb tag 4) _ _ (Ok x) c.1) [
            | inl d ↦ tagged tag 4 limit at bytes x d.0 (taken_put limit at bytes x fits le d.1)
            | inr d ↦ elim (chosen (eqb tag 5) _ _ (Ok x) d.1) [
              | inl f ↦ tagged tag 5 limit at bytes x f.0 (taken_delete limit at bytes x fits le f.1)
              | inr f ↦ elim (chosen (eqb tag 6) _ _ (Ok x) f.1) [
                | inl g ↦ tagged tag 6 limit at bytes x g.0 (taken_mark limit at bytes x fits le g.1)
                | inr g ↦ absurd (err_is_not_ok x g.1)
              ]
            ]
          ]
        ]
      ]
    ]
  where
    err_is_not_ok : (x : Read) → failed fault.BadTag ≡ answered x → ⊥
    err_is_not_ok x e = cc

change_takes : (limit at : ℕ) (bytes : List ℕ) (x : Read) → AreBytes bytes → at ≤ limit → change_at limit at bytes ≡ Ok x → TakesAt limit at bytes x
unfolding change_at
change_takes limit at [] x fits le e = absurd cc
change_takes limit at (tag ∷ bytes) x fits le e = behind_takes tag limit at bytes x (AreBytes-rest tag bytes fits) le e

-- ---- items

abbrev lens_of : Item EntryIndex → Item ℕ
lens_of item = item_map (λ e. e.entry_len) item

pub record ItemTaken (limit at : ℕ) (bytes : List ℕ) (item : Item EntryIndex) (end : ℕ) (rest : List ℕ) : Type 0 where
  pub takes : Takes bytes (spell_item (item_map (λ e. e.entry_len) item)) rest
  pub is_item : IsItem (item_map (λ e. e.entry_len) item)
  pub laid : IsRunLaid at (entries_of item.change) end
  pub within : end ≤ limit

abbrev ReadItem : Type 0
ReadItem = Item EntryIndex × ℕ × List ℕ

item_takes : (limit at : ℕ) (bytes : List ℕ) (x : ReadItem) → AreBytes bytes → at ≤ limit → item_at limit at bytes ≡ Ok x → ItemTaken limit at bytes x.0 x.1 x.2
unfolding item_at TakesAt
item_takes limit at bytes x fits le e =
    let a = bind_ok (number_at w64 bytes) (λ group. change_at limit at group.1 >>= λ change. Ok (record { group = group.0; change = change.0 }, change.1, change.2)) x e in
    let b = bind_ok (change_at limit at a.0.1) (λ change. Ok (record { group = a.0.0; change = change.0 }, change.1, change.2)) x a.2 in
    let t = number_takes fault.ItemsCutShort w64 (2 ^ 64) wide64 bytes a.0.0 a.0.1 fits a.1 in
    let u = change_takes limit at a.0.1 b.0 t.0.rest_fits le b.1 in
    let made : ReadItem = (record { group = a.0.0; change = b.0.0 }, b.0.1, b.0.2) in
    subst (λ (y : ReadItem). ItemTaken limit at bytes y.0 y.1 y.2) (ok_is made x b.2) (record {
      takes = Takes-then bytes (to_be_bytes w64 a.0.0) a.0.1 (spell_change (change_map (λ e. e.entry_len) b.0.0)) b.0.2 t.0 u.takes;
      is_item = record { group = t.1; change = u.is_change };
      laid = u.laid;
      within = u.within;
    })

pub record ItemsTaken (limit at : ℕ) (bytes : List ℕ) (count : ℕ) (items : List (Item EntryIndex)) (end : ℕ) (rest : List ℕ) : Type 0 where
  pub takes : Takes bytes (flat_map spell_item (with_lengths items)) rest
  pub counted : length (with_lengths items) ≡ count
  pub each : AllByRecursion IsItem (with_lengths items)
  pub laid : IsLaid at items end
  pub within : end ≤ limit

abbrev ReadItems : Type 0
ReadItems = List (Item EntryIndex) × ℕ × List ℕ

items_take : (count limit at : ℕ) (bytes : List ℕ) (x : ReadItems) → AreBytes bytes → at ≤ limit → items_at count limit at bytes ≡ Ok x → ItemsTaken limit at bytes count x.0 x.1 x.2
unfolding items_at
items_take zero limit at bytes x fits le e =
    let made : ReadItems = ([], at, bytes) in
    subst (λ (y : ReadItems). ItemsTaken limit at bytes 0 y.0 y.1 y.2) (ok_is made x e) (record { takes = record { parts = refl; rest_fits = fits }; counted = refl; each = tt; laid = refl; within = le })
items_take (suc n) limit at bytes x fits le e =
    let a = bind_ok (item_at limit at bytes) (λ first. items_at n limit first.1 first.2 >>= λ others. Ok (first.0 ∷ others.0, others.1, others.2)) x e in
    let b = bind_ok (items_at n limit a.0.1 a.0.2) (λ others. Ok (a.0.0 ∷ others.0, others.1, others.2)) x a.2 in
    let first = item_takes limit at bytes a.0 fits le a.1 in
    let second = items_take n limit a.0.1 a.0.2 b.0 first.takes.rest_fits first.within b.1 in
    let both = Takes-then bytes (spell_item (lens_of a.0.0)) a.0.2 (flat_map spell_item (with_lengths b.0.0)) b.0.2 first.takes second.takes in
    let made : ReadItems = (a.0.0 ∷ b.0.0, b.0.1, b.0.2) in
    subst (λ (y : ReadItems). ItemsTaken limit at bytes (suc n) y.0 y.1 y.2) (ok_is made x b.2) (record {
      takes = rw flat_map-cons both;
      counted = ap suc second.counted;
      each = (first.is_item, second.each);
      laid = (a.0.1, first.laid, second.laid);
      within = second.within;
    })

-- what a body is
pub record BodyTaken (limit : ℕ) (bytes : List ℕ) (items : List (Item EntryIndex)) : Type 0 where
  pub spelled : bytes ≡ spell_items (with_lengths items)
  pub each : AllByRecursion IsItem (with_lengths items)
  pub laid : IsLaid 0 items limit

pub body_takes : (limit : ℕ) (bytes : List ℕ) (items : List (Item EntryIndex)) → AreBytes bytes → body_at limit bytes ≡ Ok items → BodyTaken limit bytes items
unfolding body_at
body_takes limit bytes items fits e =
    let a = bind_ok (number_at w32 bytes) (λ count. items_at count.0 limit 0 count.1 >>= λ items. cond (not (eqb (length items.2) 0)) (Err fault.TrailingBytes) (cond (not (eqb items.1 limit)) (Err fault.EntriesLength) (Ok items.0))) items e in
    let b = bind_ok (items_at a.0.0 limit 0 a.0.1) (λ items. cond (not (eqb (length items.2) 0)) (Err fault.TrailingBytes) (cond (not (eqb items.1 limit)) (Err fault.EntriesLength) (Ok items.0))) items a.2 in
    let g = guard_then (not (eqb (length b.0.2) 0)) fault.TrailingBytes (cond (not (eqb b.0.1 limit)) (Err fault.EntriesLength) (Ok b.0.0)) items b.2 in
    let h = guard_ok (not (eqb b.0.1 limit)) fault.EntriesLength b.0.0 items g.1 in
    let t = number_takes fault.ItemsCutShort w32 (2 ^ 32) wide32 bytes a.0.0 a.0.1 fits a.1 in
    let u = items_take a.0.0 limit 0 a.0.1 b.0 t.0.rest_fits (omega arith) b.1 in
    let nothing : b.0.2 ≡ [] = nil_from_length b.0.2 (eqb-true _ _ (not-false _ g.0)) in
    let end : b.0.1 ≡ limit = eqb-true _ _ (not-false _ h.0) in
    let both = (Takes-then bytes (to_be_bytes w32 a.0.0) a.0.1 (flat_map spell_item (with_lengths b.0.0)) b.0.2 t.0 u.takes).parts in
    let whole : bytes ≡ spell_items (with_lengths b.0.0) = both
    ∙ ap (λ (r : List ℕ). (to_be_bytes w32 a.0.0 ++ flat_map spell_item (with_lengths b.0.0)) ++ r) nothing
    ∙ append-nil (to_be_bytes w32 a.0.0 ++ flat_map spell_item (with_lengths b.0.0))
    ∙ ap (λ (k : ℕ). to_be_bytes w32 k ++ flat_map spell_item (with_lengths b.0.0)) (sym u.counted) in
    subst (λ (v : List (Item EntryIndex)). BodyTaken limit bytes v) h.1 (record { spelled = whole; each = u.each; laid = subst (λ (n : ℕ). IsLaid 0 b.0.0 n) end u.laid })
