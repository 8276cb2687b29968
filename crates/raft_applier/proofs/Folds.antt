-- A machine that runs the rest of a list, and what it answers on the way.
use Rattle.std.specs.Prelude.{◌≡◌, ℕ, ◌+◌, ◌≤◌, cond, List, [], ◌∷◌, length, take, drop, slice_get, Option, Some, None, option_map, refl}
use Rattle.std.proofs.Common.{sym, ap, subst, ◌∙◌, arith, le-ltb, length-take-le, take-take}
use Rattle.std.proofs.lemmas.Option.{slice_get_within}
use Rattle.raft_values.specs.declared.log_id.LogId.{LogId}
use Rattle.raft_values.specs.LogId.{next_place}
use Rattle.raft_group_step.specs.Values.{Entry}
use Rattle.raft_group_step.specs.GroupState.{Untold}
use Rattle.raft_machines.specs.declared.telling.Told.{Told}
use Rattle.raft_machines.specs.Machine.{MachineRules}
use Rattle.raft_machines.specs.Fold.{answer_to_payload, fold_of, state_from}
use Rattle.raft_machines.proofs.FoldLemmas.{run_on_fold}
use Rattle.raft_machines.specs.Telling.{AreToldAs, Standing, WaitFrom, answer_on, run_on}
use Rattle.raft_applier.specs.Applied.{answers_of}
use Rattle.raft_applier.specs.Running.{HasRun}

module _ (rules : MachineRules) (machine : List ℕ) (last : Option (LogId ℕ)) (list : List Entry) (h : HasRun rules machine last list) where
  abbrev at : Standing
  at = record { state = machine; count = next_place last }

  -- with the rest it has run the list
  pub rest_folds : state_from rules machine (next_place last) (drop (next_place last) list) ≡ fold_of rules list
  rest_folds = run_on_fold rules list at h.folded h.within

  answer_from : (place : ℕ) → next_place last ≤ place → (o : Option Entry) → slice_get list place ≡ o
      → option_map (λ (e : Entry). answer_to_payload rules (run_on rules at (take place list)) place e.payload) o ≡ option_map (λ (e : Entry). answer_to_payload rules (fold_of rules (take place list)) place e.payload) o
  answer_from place from None there = refl
  answer_from place from (Some e) there =
      let within = slice_get_within list place e there in
      let long = length-take-le place list (omega (arith, within)) in
      let front = take-take (next_place last) place list from in
      let run : run_on rules at (take place list) ≡ fold_of rules (take place list) =
      run_on_fold rules (take place list) at (h.folded ∙ ap (fold_of rules) (sym front)) (omega (arith, long, from)) in
      ap (λ st. Some (answer_to_payload rules st place e.payload)) run

  -- its answers on the way are the fold's
  pub answers_fold : (place : ℕ) → next_place last ≤ place → answer_on rules at list place ≡ answers_of rules list place
  answers_fold place from =
      ap (λ b. cond b None (option_map (λ (e : Entry). answer_to_payload rules (run_on rules at (take place list)) place e.payload) (slice_get list place))) (le-ltb place (next_place last) from)
      ∙ answer_from place from (slice_get list place) refl
      ∙ sym (ap (λ b. cond b None (option_map (λ (e : Entry). answer_to_payload rules (fold_of rules (take place list)) place e.payload) (slice_get list place))) (le-ltb place 0 (omega arith)))

-- who was told these answers was told others that are the same from there on
pub told_same : (f g : ℕ → Option (List ℕ)) (from end : ℕ) (told : List Told) (xs : List Untold) → ((place : ℕ) → from ≤ place → f place ≡ g place) → WaitFrom from end xs → AreToldAs f told xs → AreToldAs g told xs
told_same f g from end [] [] same wait h = tt
told_same f g from end [] (x ∷ xs) same wait h = absurd h
told_same f g from end (t ∷ ts) [] same wait h = absurd h
told_same f g from end (t ∷ ts) (x ∷ xs) same wait h =
    let here : from ≤ x.place = wait.0 in (
      record { token = h.0.token; place = h.0.place; answer = sym (same x.place here) ∙ h.0.answer },
      told_same f g (x.place + 1) end ts xs (λ place le. same place (omega (arith, here, le))) wait.2 h.1,
    )

-- to nobody nothing is told
pub told_none : (f : ℕ → Option (List ℕ)) (told : List Told) → AreToldAs f told [] → told ≡ []
told_none f [] h = refl
told_none f (t ∷ ts) h = absurd h

pub told_nobody : (f : ℕ → Option (List ℕ)) (told : List Told) (xs : List Untold) → told ≡ [] → xs ≡ [] → AreToldAs f told xs
told_nobody f told xs none nobody = subst (λ ts. AreToldAs f ts xs) (sym none) (subst (λ ys. AreToldAs f [] ys) (sym nobody) tt)
