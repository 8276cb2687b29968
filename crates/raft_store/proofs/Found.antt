-- What the bytes of a value read as.
use Rattle.std.proofs.Common.{◌≡◌, ◌<◌, ◌≤◌, ◌+◌, ◌-◌, max, ℕ, zero, suc, List, [], ◌∷◌, ◌++◌, length, map, take, drop, get_or, Vec, Global, refl, ap, sym, subst, ◌∙◌, arith}
use Rattle.std.specs.Prelude.{IsErrAnd, MatchResult, Result, Ok, Err}
use Rattle.std.specs.List.{AllByRecursion}
use Rattle.std.proofs.lemmas.List.{length-drop, length-take}
use Rattle.raft_group_step.specs.Values.{Entry}
use Rattle.raft_group_step.specs.StoredGroup.{StoredGroup, end_place, first_place}
use Rattle.raft_content_log.specs.Leaving.{AreEntries}
use Rattle.raft_log_memtables.specs.Content.{GroupContent}
use Rattle.raft_log_records.specs.Batch.{payloads}
use Rattle.raft_wire.specs.Entries.{FitsEntry, spelled_entry}
use Rattle.raft_wire.specs.Reader.{Fails}
use Rattle.raft_wire.specs.declared.error.FrameError.{FrameError}
use Rattle.raft_wire.specs.declared.error.FrameError.TheVariants as errors
use Rattle.raft_machines.specs.Machine.{MachineRules}
use Rattle.raft_store.specs.Faults.{IsLogOrMemory, refusal_of}
use Rattle.raft_store.specs.Reading.{Holds}
use Rattle.raft_store.specs.declared.fault.StoreFault.{StoreFault}
use Rattle.raft_store.specs.declared.fault.StoreFault.TheVariants.{Refused}
use Rattle.raft_store.specs.declared.fault.StoreRefusal.{StoreRefusal}
use Rattle.raft_store.specs.declared.fault.StoreRefusal.TheVariants as refusal
use Rattle.raft_store.proofs.Logs.{log_at, log_dropped, log_fits, log_found, log_taken}

-- where a value is spelled, nothing but want of memory refuses it
pub only_memory : {Y : Type 0} (e : FrameError) (value : Y) → Fails e (Ok value) → refusal_of e ≡ refusal.Memory
only_memory (errors.Fault fault) value fails = cc
only_memory errors.StreamFailed value fails = absurd fails
only_memory errors.Memory value fails = refl

pub refused_for_memory : {A Y : Type 0} (result : Result A StoreRefusal) (P : A → Type 0) (e : FrameError) (value : Y) → IsErrAnd result (λ refused. refused ≡ refusal_of e) → Fails e (Ok value)
    → MatchResult result P (λ refused. refused ≡ refusal.Memory)
refused_for_memory (Ok found) P e value is fails = absurd is
refused_for_memory (Err refused) P e value is fails = is ∙ only_memory e value fails

pub failed_for_memory : {A F : Type 0} (misuse : F → Type 0) (result : Result A (StoreFault F)) (P : A → Type 0) (e : StoreRefusal) → IsErrAnd result (λ fault. fault ≡ Refused e) → e ≡ refusal.Memory
    → MatchResult result P (IsLogOrMemory misuse)
failed_for_memory misuse (Ok found) P e is memory = absurd is
failed_for_memory misuse (Err fault) P e is memory = subst (IsLogOrMemory misuse) (sym is) memory

-- the entry that the bytes at an index are
pub record IsAt (all : List (Vec ℕ Global)) (es : List Entry) (i : ℕ) (v : Vec ℕ Global) : Type 0 where
  pub entry : Entry
  pub fits : FitsEntry entry
  pub bytes : v.items ≡ spelled_entry entry
  pub next : take (suc i) es ≡ take i es ++ entry ∷ []

behind_one : (b : Vec ℕ Global) (bs : List (Vec ℕ Global)) (e : Entry) (es : List Entry) (i : ℕ) (v : Vec ℕ Global) → IsAt bs es i v → IsAt (b ∷ bs) (e ∷ es) (suc i) v
behind_one b bs e es i v at = record { entry = at.entry; fits = at.fits; bytes = at.bytes; next = ap (λ (l : List Entry). e ∷ l) at.next }

pub entry_is_at : (all : List (Vec ℕ Global)) (es : List Entry) (i : ℕ) (v : Vec ℕ Global) → AllByRecursion FitsEntry es → payloads all ≡ map spelled_entry es
    → i < length all → v ≡ get_or all i v → IsAt all es i v
entry_is_at [] es i v fits same inside is = absurd (omega arith)
entry_is_at (b ∷ bs) [] i v fits same inside is = absurd cc
entry_is_at (b ∷ bs) (e ∷ es) zero v fits same inside is = record { entry = e; fits = fits.0; bytes = cc; next = refl }
entry_is_at (b ∷ bs) (e ∷ es) (suc i) v fits same inside is =
    let rest : payloads bs ≡ map spelled_entry es = cc in
    behind_one b bs e es i v (entry_is_at bs es i v fits.1 rest (omega arith) is)

-- ---- a log's entries

-- what is found at these places are the bytes of the log's entries there
pub found_at : (rules : MachineRules) (g : GroupContent (List ℕ)) (s : StoredGroup) → Holds rules g s → (begin end : ℕ) → first_place s ≤ begin → end ≤ max (end_place s) begin
    → (found : List (List ℕ)) → AreEntries g.entry begin end found → found ≡ map spelled_entry (take (end - begin) (drop (begin - first_place s) s.log))
found_at rules g s held begin end low high found are =
    let behind : List Entry = drop (begin - first_place s) s.log in
    let count : length (take (end - begin) behind) ≡ end - begin = length-take (end - begin) behind ∙ (let len = length-drop (begin - first_place s) s.log in omega arith) in
    log_found g.entry begin (take (end - begin) behind) found
    (log_taken g.entry begin (end - begin) behind
    (log_at g.entry (first_place s + (begin - first_place s)) begin behind (omega arith) (log_dropped g.entry (first_place s) (begin - first_place s) s.log held.log)))
    (are.len ∙ sym count)
    (λ i lt. are.each i (omega (arith, count)))

pub fits_at : (rules : MachineRules) (g : GroupContent (List ℕ)) (s : StoredGroup) → Holds rules g s → (k n : ℕ) → AllByRecursion FitsEntry (take n (drop k s.log))
fits_at rules g s held k n =
    log_fits g.entry (first_place s + k) (take n (drop k s.log))
    (log_taken g.entry (first_place s + k) n (drop k s.log) (log_dropped g.entry (first_place s) k s.log held.log))
