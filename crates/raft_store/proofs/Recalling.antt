-- The entries that were put last are the end of their group's log, and are read as it.
use Rattle.std.proofs.Common.{◌≡◌, ◌<◌, ◌≤◌, ◌+◌, ◌-◌, inl, inr, ℕ, zero, suc, List, [], ◌∷◌, ◌++◌, length, map, take, drop, max, get_or, Option, Some, None, Vec, Global, refl, ap, sym, subst, ◌∙◌, arith}
use Rattle.std.specs.Prelude.{slice_get, IsErrAnd, MatchResult, Result, Ok, Err}
use Rattle.std.specs.Int.{w64, from_be_bytes}
use Rattle.std.proofs.lemmas.Bool.{cases_lt}
use Rattle.std.proofs.lemmas.List.{drop-map, length-drop, length-map, length-take, take-map}
use Rattle.std.proofs.lemmas.Nat.{from_be_bytes-to_be_bytes_8}
use Rattle.std.proofs.lemmas.Option.{slice_get-get_or}
use Rattle.raft_group_step.proofs.EntryPlaces.{slice_drop}
use Rattle.raft_group_step.specs.Values.{Entry}
use Rattle.raft_group_step.specs.StoredGroup.{PutEntries, StoredGroup, after_storing, end_place, first_place, log_below}
use Rattle.raft_log_memtables.specs.Content.{GroupContent}
use Rattle.raft_log_records.specs.Batch.{payloads}
use Rattle.raft_machines.specs.Machine.{MachineRules}
use Rattle.raft_wire.specs.Entries.{spelled_entry}
use Rattle.raft_store.specs.Keys.{end_key}
use Rattle.raft_store.specs.Reading.{Holds, HoldsEnd, HoldsLog, IsTail, Recalls}
use Rattle.raft_store.specs.declared.fault.StoreRefusal.{StoreRefusal}
use Rattle.raft_store.specs.declared.fault.StoreRefusal.TheVariants as refusal
use Rattle.raft_store.specs.declared.recent.Recent.{Recent}
use Rattle.raft_store.proofs.Carrying.{below_len, put_end}
use Rattle.raft_store.proofs.Found.{found_at}
use Rattle.raft_store.proofs.Logs.{Cells, log_at}

-- a value holds one end alone
same_end : (value : Option (List ℕ)) (a b : ℕ) → HoldsEnd value a → HoldsEnd value b → a ≡ b
same_end None a b ha hb = ha ∙ sym hb
same_end (Some bytes) a b ha hb =
    sym (from_be_bytes-to_be_bytes_8 a ha.1) ∙ ap (λ (l : List ℕ). from_be_bytes w64 l) (sym ha.0 ∙ hb.0) ∙ from_be_bytes-to_be_bytes_8 b hb.1

log_behind : (entry : Cells) (place : ℕ) (xs ys : List Entry) → HoldsLog entry place (xs ++ ys) → HoldsLog entry (place + length xs) ys
log_behind entry place [] ys h = log_at entry place (place + length {A = Entry} []) ys (omega arith) h
log_behind entry place (x ∷ xs) ys h = log_at entry (place + 1 + length xs) (place + length (x ∷ xs)) ys (omega arith) (log_behind entry (place + 1) xs ys h.2)

log_each : (entry : Cells) (place : ℕ) (es : List Entry) → HoldsLog entry place es → (i : ℕ) → i < length (map spelled_entry es) → slice_get (map spelled_entry es) i ≡ entry (place + i)
log_each entry place [] h i lt = absurd (omega arith)
log_each entry place (e ∷ es) h zero lt = let here : place ≡ place + zero = omega arith in sym h.0 ∙ ap entry here
log_each entry place (e ∷ es) h (suc i) lt = let next : place + 1 + i ≡ place + suc i = omega arith in log_each entry (place + 1) es h.2 i (omega arith) ∙ ap entry next

taken_at : (n : ℕ) (xs : List (List ℕ)) (i : ℕ) → i < n → slice_get (take n xs) i ≡ slice_get xs i
taken_at zero xs i lt = absurd (omega arith)
taken_at (suc n) [] i lt = refl
taken_at (suc n) (x ∷ xs) zero lt = refl
taken_at (suc n) (x ∷ xs) (suc i) lt = taken_at n xs i (omega arith)

module _ (rules : MachineRules) (g : GroupContent (List ℕ)) where
  -- entries that were put are the log's last ones
  tail_put : (s : StoredGroup) (place : ℕ) (es : List Entry) → first_place s ≤ place → place ≤ end_place s → Holds rules g (after_storing (PutEntries place es) s) → IsTail place (map spelled_entry es) g
  tail_put s place es low high held =
      let below = below_len rules s place low high in
      record {
        end = subst (λ (n : ℕ). HoldsEnd (g.value end_key) n) (put_end rules s place low high es ∙ ap (λ (n : ℕ). place + n) (sym (length-map es spelled_entry))) held.end;
        each = log_each g.entry place es (log_at g.entry (first_place s + length (log_below s place)) place es (omega arith) (log_behind g.entry (first_place s) (log_below s place) es held.log));
      }

  pub recalls_put : (s : StoredGroup) (place : ℕ) (es : List Entry) → first_place s ≤ place → place ≤ end_place s → Holds rules g (after_storing (PutEntries place es) s)
      → (r : Recent) (group : ℕ) → r.place ≡ place → payloads r.entries.items ≡ map spelled_entry es → Recalls (Some r) group g
  recalls_put s place es low high held r group at bytes same =
      subst (λ (n : ℕ). IsTail n (payloads r.entries.items) g) (sym at) (subst (λ (l : List (List ℕ)). IsTail place l g) (sym bytes) (tail_put s place es low high held))

  -- the bytes at places of the end are those of the log's entries there
  module _ (s : StoredGroup) (held : Holds rules g s) (place : ℕ) (bytes : List (List ℕ)) (tail : IsTail place bytes g) (begin end : ℕ) (low : place ≤ begin) (some : begin < end) (high : end ≤ place + length bytes) where
    there : (i : ℕ) → i < end - begin → slice_get (take (end - begin) (drop (begin - place) bytes)) i ≡ g.entry (begin + i)
    there i lt =
        let at : place + (begin - place + i) ≡ begin + i = omega arith in
        taken_at (end - begin) (drop (begin - place) bytes) i lt ∙ slice_drop (begin - place) bytes i ∙ tail.each (begin - place + i) (omega arith) ∙ ap g.entry at

    first_before : first_place s ≤ begin
    first_before = elim (cases_lt begin (first_place s)) [
      | inl before ↦
          let none : g.entry begin ≡ None = held.reach.none_before begin before in
          let at : place + (begin - place) ≡ begin = omega arith in
          let some_here : Some (get_or bytes (begin - place) []) ≡ g.entry begin = sym (slice_get-get_or bytes (begin - place) [] (omega arith)) ∙ tail.each (begin - place) (omega arith) ∙ ap g.entry at in
          absurd cc
      | inr behind ↦ behind
    ]

    end_before : end ≤ max (end_place s) begin
    end_before = let same = same_end (g.value end_key) (end_place s) (place + length bytes) held.end tail.end in omega arith

    count : length (take (end - begin) (drop (begin - place) bytes)) ≡ end - begin
    count = length-take (end - begin) (drop (begin - place) bytes) ∙ (let len = length-drop (begin - place) bytes in omega arith)

    pub tail_found : take (end - begin) (drop (begin - place) bytes) ≡ map spelled_entry (take (end - begin) (drop (begin - first_place s) s.log))
    tail_found = found_at rules g s held begin end first_before end_before (take (end - begin) (drop (begin - place) bytes)) (record { len = count; each = there })

-- the bytes of some of the vectors are some of their bytes
pub payloads_within : (vs : List (Vec ℕ Global)) (n k : ℕ) → payloads (take n (drop k vs)) ≡ take n (drop k (payloads vs))
payloads_within vs n k =
    sym (take-map (λ (v : Vec ℕ Global). v.items) n (drop k vs)) ∙ ap (λ (l : List (List ℕ)). take n l) (sym (drop-map (λ (v : Vec ℕ Global). v.items) k vs))

-- remembered bytes are read as the log's entries at their places
pub remembered : (rules : MachineRules) (g : GroupContent (List ℕ)) (s : StoredGroup) → Holds rules g s → (r : Recent) → IsTail r.place (payloads r.entries.items) g
    → (begin end : ℕ) → r.place ≤ begin → begin < end → end ≤ r.place + length r.entries.items
    → (found : List (Vec ℕ Global)) → found ≡ take (end - begin) (drop (begin - r.place) r.entries.items) → payloads found ≡ map spelled_entry (take (end - begin) (drop (begin - first_place s) s.log))
remembered rules g s held r tail begin end low some high found is =
    let len = length-map r.entries.items (λ (v : Vec ℕ Global). v.items) in
    ap (λ (l : List (Vec ℕ Global)). payloads l) is
    ∙ payloads_within r.entries.items (end - begin) (begin - r.place)
    ∙ tail_found rules g s held r.place (payloads r.entries.items) tail begin end low some (omega (arith, len))

-- want of memory stays want of memory
pub still_memory : {A : Type 0} (result : Result A StoreRefusal) (P : A → Type 0) (e : StoreRefusal) → IsErrAnd result (λ refused. refused ≡ e) → e ≡ refusal.Memory
    → MatchResult result P (λ refused. refused ≡ refusal.Memory)
still_memory (Ok found) P e is memory = absurd is
still_memory (Err refused) P e is memory = is ∙ memory
