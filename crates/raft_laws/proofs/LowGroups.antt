-- Stored groups with low places: what keeps them so, one storing command at a time.
use Rattle.std.specs.Prelude.{◌≡◌, ℕ, ◌+◌, ◌-◌, ◌≤◌, ◌<◌, ◌^◌, cond, nat_lt, Bool, true, false, List, [], ◌∷◌, ◌++◌, length, take, slice_get, Option, Some, None, refl}
use Rattle.std.proofs.Common.{sym, ap, ◌∙◌, subst, arith, length-drop, length-append}
use Rattle.std.proofs.lemmas.List.{length-take}
use Rattle.raft_values.specs.declared.log_id.LogId.{LogId}
use Rattle.raft_group_step.specs.Values.{Entry}
use Rattle.raft_group_step.specs.StoredGroup.{StoredGroup, Snapshot, StoringCommand, MakeGroup, SetVote, PutEntries, CutFrom, RemoveUpTo, SetSnapshot, StartAfter, after_storing, after_storing_all, end_place, entry_at, first_place, id_of}
use Rattle.raft_group_step.specs.GroupState.{no_group}
use Rattle.raft_group_step.specs.StepResult.{StepResult, store}
use Rattle.raft_laws.proofs.BallotAgreement.{same_some}
use Rattle.raft_laws.proofs.StepEntries.{Each, each_append, each_at, each_drop, each_take}
use Rattle.raft_laws.proofs.StepWords.{all-append}

-- the entry's place is below the limit of all numbers
abbrev pub IsLowEntry : Entry → Type 0
IsLowEntry e = e.log_id.index < 2 ^ 62

-- the log ends low. Its entries and the snapshot's last one are low too, since a purge, a new snapshot and an opening
-- take their places from these
pub record Low (st : StoredGroup) : Type 0 where
  pub reaches : end_place st ≤ 2 ^ 62
  pub log : Each IsLowEntry st.log
  pub snapshot : (x : Snapshot) → st.snapshot ≡ Some x → x.last.index < 2 ^ 62

pub low_none : Low no_group
low_none = record { reaches = omega arith; log = tt; snapshot = λ x e. absurd (let f : None ≡ Some x = e in cc) }

-- what each command needs. Entries that are put begin at their place, or at the first place where that is higher
abbrev pub KeepsLow : StoredGroup → StoringCommand → Type 0
KeepsLow st MakeGroup = Unit {0}
KeepsLow st (SetVote vote) = Unit {0}
KeepsLow st (PutEntries place entries) =
    (first_place st + (place - first_place st) + length entries ≤ 2 ^ 62) × Each IsLowEntry entries
KeepsLow st (CutFrom place) = Unit {0}
KeepsLow st (RemoveUpTo id) = id.index < 2 ^ 62
KeepsLow st (SetSnapshot x) = x.last.index < 2 ^ 62
KeepsLow st (StartAfter id) = id.index < 2 ^ 62

-- the log ends no higher than its place and the entries that are put there give
pub put_end : (place : ℕ) (entries : List Entry) (st : StoredGroup) → end_place (after_storing (PutEntries place entries) st) ≤ first_place st + (place - first_place st) + length entries
put_end place entries st =
    let kept = take (place - first_place st) st.log in
    let size = length-append kept entries in
    let short = length-take (place - first_place st) st.log in
    omega arith

pub low_after : (c : StoringCommand) (st : StoredGroup) → Low st → KeepsLow st c → Low (after_storing c st)
low_after MakeGroup st h k = record { reaches = h.reaches; log = h.log; snapshot = h.snapshot }
low_after (SetVote vote) st h k = record { reaches = h.reaches; log = h.log; snapshot = h.snapshot }
low_after (PutEntries place entries) st h k =
    let kept = take (place - first_place st) st.log in
    let ends = put_end place entries st in
    record {
      reaches = omega (arith, k.0);
      log = each_append IsLowEntry kept entries (each_take IsLowEntry (place - first_place st) st.log h.log) k.1;
      snapshot = h.snapshot;
    }
low_after (CutFrom place) st h k =
    let short = length-take (place - first_place st) st.log in
    record {
      reaches = omega (arith, h.reaches);
      log = each_take IsLowEntry (place - first_place st) st.log h.log;
      snapshot = h.snapshot;
    }
low_after (RemoveUpTo id) st h k =
    let short = length-drop (id.index + 1 - first_place st) st.log in
    record {
      reaches = omega (arith, h.reaches);
      log = each_drop IsLowEntry (id.index + 1 - first_place st) st.log h.log;
      snapshot = h.snapshot;
    }
low_after (SetSnapshot x) st h k =
    record {
      reaches = h.reaches;
      log = h.log;
      snapshot = λ y e. subst (λ (z : Snapshot). z.last.index < 2 ^ 62) (same_some e) k;
    }
low_after (StartAfter id) st h k = record { reaches = omega arith; log = tt; snapshot = h.snapshot }

-- an entry in the log has a low place
pub low_entry : (st : StoredGroup) → Low st → (i : ℕ) (e : Entry) → entry_at st i ≡ Some e → IsLowEntry e
low_entry st h i e = go (nat_lt i (first_place st))
  where
    go : (b : Bool) → cond b None (slice_get st.log (i - first_place st)) ≡ Some e → IsLowEntry e
    go true q = absurd (let f : None ≡ Some e = q in cc)
    go false q = each_at IsLowEntry st.log (i - first_place st) e h.log q

pub low_id : (st : StoredGroup) → Low st → (i : ℕ) (id : LogId ℕ) → id_of (entry_at st i) ≡ Some id → id.index < 2 ^ 62
low_id st h i id e = go (entry_at st i) refl e
  where
    go : (o : Option Entry) → entry_at st i ≡ o → id_of o ≡ Some id → id.index < 2 ^ 62
    go None is q = absurd (let f : None ≡ Some id = q in cc)
    go (Some x) is q = subst (λ (y : LogId ℕ). y.index < 2 ^ 62) (same_some q) (low_entry st h i x is)

-- places are low at the start, and after each of these commands
abbrev pub AllLow : StoredGroup → List StoringCommand → Type 0
AllLow st [] = Low st
AllLow st (c ∷ cs) = Low st × AllLow (after_storing c st) cs

all_low_next : (cs : List StoringCommand) (c : StoringCommand) (st : StoredGroup) → AllLow st cs → Low (after_storing c (after_storing_all cs st)) → AllLow st (cs ++ c ∷ [])
all_low_next [] c st h k = (h, k)
all_low_next (x ∷ cs) c st h k = (h.0, all_low_next cs c (after_storing x st) h.1 k)

-- what is stored is what the commands made of it, with low places throughout
pub record StaysLow (start : StoredGroup) (r : StepResult) : Type 0 where
  pub stored : r.state.stored ≡ after_storing_all r.commands start
  pub all : AllLow start r.commands
  pub now : Low r.state.stored

pub store_low : (start : StoredGroup) (c : StoringCommand) (r : StepResult) → StaysLow start r → KeepsLow r.state.stored c → StaysLow start (store c r)
store_low start c r h k =
    let next = low_after c r.state.stored h.now k in
    record {
      stored = ap (after_storing c) h.stored ∙ sym (all-append r.commands c start);
      all = all_low_next r.commands c start h.all (subst (λ x. Low (after_storing c x)) h.stored next);
      now = next;
    }

-- what stores nothing
pub same_low : (start : StoredGroup) (r q : StepResult) → q.state.stored ≡ r.state.stored → q.commands ≡ r.commands → StaysLow start r → StaysLow start q
same_low start r q e c h =
    record {
      stored = e ∙ h.stored ∙ ap (λ cs. after_storing_all cs start) (sym c);
      all = subst (AllLow start) (sym c) h.all;
      now = subst Low (sym e) h.now;
    }
