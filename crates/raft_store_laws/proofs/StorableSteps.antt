-- A step's commands are storable, since they fit and have low numbers.
use Rattle.std.specs.Prelude.{◌≡◌, ◌+◌, ◌≤◌, ◌<◌, ℕ, suc, List, [], ◌∷◌, length, take, Option, Some, None, All, refl}
use Rattle.std.proofs.Common.{ap, arith}
use Rattle.raft_values.specs.declared.log_id.LogId.{LogId}
use Rattle.raft_group_step.specs.Limits.{number_limit}
use Rattle.raft_group_step.specs.Values.{Entry}
use Rattle.raft_group_step.specs.StoredGroup.{StoredGroup, StoringCommand, after_storing, after_storing_all, end_place, first_place}
use Rattle.raft_group_step.specs.StoredGroup.{CutFrom, MakeGroup, PutEntries, RemoveUpTo, SetSnapshot, SetVote, StartAfter}
use Rattle.raft_group_step.specs.GroupState.{GroupState, state_of}
use Rattle.raft_group_step.specs.GroupEvent.{GroupEvent, AddGroup, Call, Receive, Open}
use Rattle.raft_group_step.specs.GroupStep.{group_step}
use Rattle.raft_group_step.specs.Refusal.{numbers_of_id}
use Rattle.raft_laws.specs.GroupWorld.{GroupWorld, Recorded}
use Rattle.raft_laws.specs.OneList.{IsGroupHistory}
use Rattle.raft_laws.specs.VotesRise.{stored_of}
use Rattle.raft_step_laws.specs.Fitting.{AllFit, ArePlacedFrom, ComesWithin, FitsEvent, FitsStored, FitsStoring, IsCommittedWithin, StepFits}
use Rattle.raft_step_laws.specs.Numbers.{AreLow, BringsLowPrefix, EachPeer, HasLowId, IsLowPeer, IsLowStored, StepIsLow}
use Rattle.raft_step_laws.proofs.FitSteps.{steps_fit}
use Rattle.raft_step_laws.proofs.LowSteps.{steps_send_low}
use Rattle.raft_history_laws.specs.Limits.{WasSent}
use Rattle.raft_history_laws.proofs.FittingWorlds.{committed_within, messages_fit, stored_parts_fit}
use Rattle.raft_history_laws.proofs.LowWorlds.{next_numbers_low, sent_low, stored_numbers_low}
use Rattle.raft_machines.specs.Machine.{MachineRules}
use Rattle.raft_store.specs.Storable.{IsStorable}
use Rattle.raft_store_laws.specs.Storable.{AllStorable, CommandsAreStorable, HasShortSnapshots, OpeningsAreStorable}

-- ---- places have numbers

place_of : (id : LogId ℕ) → AreLow (numbers_of_id (Some id)) → id.index < number_limit
place_of id low = low 1 0 (omega arith)

-- placed entries with low log ids end at the limit at most
ends_low : (start : ℕ) (es : List Entry) → start ≤ number_limit → ArePlacedFrom start es → All HasLowId es → start + length es ≤ number_limit
ends_low start [] low placed ids = omega (arith, low)
ends_low start (e ∷ es) low placed ids =
    let at : e.log_id.index ≡ start + 0 = placed 0 e refl in
    let first = place_of e.log_id (ids 0 e (omega arith)) in
    let rest = ends_low (start + 1) es (omega (arith, at, first)) (λ i x is. let later = placed (suc i) x is in omega (arith, later)) (λ i d l. ids (suc i) d (omega (arith, l))) in
    omega (arith, rest)

first_low : (purged : Option (LogId ℕ)) (s : StoredGroup) → s.purged ≡ purged → AreLow (numbers_of_id purged) → first_place s ≤ number_limit
first_low None s is low = rw is omega arith
first_low (Some id) s is low = let place = place_of id low in rw is omega (arith, place)

end_low : (s : StoredGroup) → FitsStored s → IsLowStored s → end_place s ≤ number_limit
end_low s fits low = ends_low (first_place s) s.log (first_low s.purged s refl low.purged) fits.placed low.log

-- ---- what comes to a node

pub what_comes : (ids : List ℕ) (rs : List Recorded) (end : GroupWorld) → IsGroupHistory ids rs end → (s : GroupState) (e : GroupEvent) → IsCommittedWithin s → WasSent end.messages e
    → ComesWithin s e × FitsEvent e × BringsLowPrefix e
what_comes ids rs end h s AddGroup within was = (tt, tt, tt)
what_comes ids rs end h s (Call call now) within was = (tt, tt, tt)
what_comes ids rs end h s (Receive peer m now) within was = (within, messages_fit ids rs end h m was, (sent_low ids rs end h m was).«prefix»)
what_comes ids rs end h s Open within was = (tt, tt, tt)

-- ---- each command

module _ (rules : MachineRules) (short : HasShortSnapshots rules) where
  -- it fits, and what is stored before it and behind it has low numbers
  storable : (c : StoringCommand) (s : StoredGroup) → FitsStoring s c → FitsStored s → IsLowStored s → IsLowStored (after_storing c s) → IsStorable rules s c
  storable MakeGroup s fits before low behind = tt
  storable (SetVote vote) s fits before low behind = tt
  storable (PutEntries place es) s fits before low behind =
      let end = end_low s before low in
      let at = fits.at_end in
      let count = fits.count in
      record {
        low = omega (arith, at);
        high = omega (arith, at);
        places = omega (arith, at, end, count);
        count = fits.count;
        entries = fits.entries;
      }
  storable (CutFrom place) s fits before low behind = tt
  storable (RemoveUpTo id) s fits before low behind = let place = place_of id behind.purged in record { low = fits; place = omega (arith, place) }
  storable (SetSnapshot y) s fits before low behind = record { membership = fits.membership; bytes = short y.«prefix» }
  storable (StartAfter id) s fits before low behind =
      let place = place_of id behind.purged in
      let on = fits.goes_on in
      record { low = omega (arith, on); place = omega (arith, place) }

  all_storable : (cs : List StoringCommand) (s : StoredGroup) → AllFit s cs → ((k : ℕ) → FitsStored (after_storing_all (take k cs) s)) → ((k : ℕ) → IsLowStored (after_storing_all (take k cs) s))
      → AllStorable rules s cs
  all_storable [] s fit fits low = tt
  all_storable (c ∷ cs) s fit fits low =
      (storable c s fit.0 (fits 0) (low 0) (low 1), all_storable cs (after_storing c s) fit.1 (λ k. fits (suc k)) (λ k. low (suc k)))

  -- ---- each step

  step_storable : (own : ℕ) (s : GroupState) (e : GroupEvent) → FitsStored s.stored → ComesWithin s e → FitsEvent e → IsLowStored s.stored → EachPeer IsLowPeer s.role → BringsLowPrefix e
      → AllStorable rules s.stored (group_step own s e).commands
  step_storable own s e stored within comes low peers brings =
      let fit : StepFits s (group_step own s e) = steps_fit own s e stored within comes in
      let is_low : StepIsLow s (group_step own s e) = steps_send_low own s e low peers brings in
      all_storable (group_step own s e).commands s.stored fit.commands fit.stops is_low.stops

  pub commands_are_storable : CommandsAreStorable rules
  commands_are_storable ids rs end h n s e up was =
      let comes = what_comes ids rs end h s e (committed_within ids rs end h n s up) was in
      step_storable n s e (stored_parts_fit ids rs end h n s.stored (ap stored_of up)) comes.0 comes.1 (stored_numbers_low ids rs end h n s.stored (ap stored_of up))
      (next_numbers_low ids rs end h n s up) comes.2

  pub openings_are_storable : OpeningsAreStorable rules
  openings_are_storable ids rs end h n stored down =
      step_storable n (state_of stored) Open (stored_parts_fit ids rs end h n stored (ap stored_of down)) tt tt (stored_numbers_low ids rs end h n stored (ap stored_of down)) tt tt
