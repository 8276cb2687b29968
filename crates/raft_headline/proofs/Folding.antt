-- What a machine that runs on answers is the fold's.
use Rattle.std.specs.Prelude.{◌≡◌, ℕ, ◌<◌, ◌≤◌, nat_lt, List, take, length, slice_get, Option, Some, None, option_map, cond, Bool, true, false, refl}
use Rattle.std.proofs.Common.{sym, ap, ◌∙◌, arith, ltb-false, length-take-le, take-take}
use Rattle.std.proofs.lemmas.Option.{slice_get_within}
use Rattle.raft_group_step.specs.Values.{Entry}
use Rattle.raft_machines.specs.Machine.{MachineRules}
use Rattle.raft_machines.specs.Fold.{answer_in, answer_to_payload, fold_of, answer_at}
use Rattle.raft_laws.specs.BallotLists.{AgreeBelow}
use Rattle.raft_laws.proofs.BallotAgreement.{agree_less}
use Rattle.raft_laws.proofs.Committed.{same_front}
use Rattle.raft_laws.proofs.Shapes.{slice_take}
use Rattle.raft_machines.specs.Telling.{Standing, answer_on, run_on}
use Rattle.raft_machines.proofs.FoldLemmas.{run_on_fold}

-- the fold's answer goes by what stands up to the place
pub answer_front : (rules : MachineRules) (k : ℕ) (xs ys : List Entry) → AgreeBelow k xs ys → (place : ℕ) → place < k → answer_at rules xs place ≡ answer_at rules ys place
answer_front rules k xs ys agree place l =
    let fronts : take place xs ≡ take place ys = same_front place xs ys (agree_less place (omega arith) agree) in
    ap (λ zs. answer_in rules (fold_of rules zs) place (slice_get xs place)) fronts
    ∙ ap (answer_in rules (fold_of rules (take place ys)) place) (agree.same place l)

pub agree_take : {A : Type 0} (k : ℕ) (xs : List A) → k ≤ length xs → AgreeBelow k (take k xs) xs
agree_take k xs le =
    let size = length-take-le k xs le in record { left = omega (arith, size); right = le; same = λ j l. slice_take k xs j l }

-- what a machine answers as it runs an entry is the fold's answer there
pub record AnswersFold (rules : MachineRules) (es : List Entry) (place : ℕ) (answer : List ℕ) : Type 0 where
  pub within : place < length es
  pub same : answer ≡ answer_at rules es place

none_answers : {P : Type 0} (answer : List ℕ) → None ≡ Some answer → P
none_answers answer e = absurd (let f : None ≡ Some answer = e in cc)

module _ (rules : MachineRules) (es : List Entry) (at : Standing) (is : at.state ≡ fold_of rules (take at.count es)) (le : at.count ≤ length es) (place : ℕ) (answer : List ℕ) where
  abbrev found : Option Entry → Option (List ℕ)
  found o = option_map (λ (x : Entry). answer_to_payload rules (run_on rules at (take place es)) place x.payload) o

  by_entry : at.count ≤ place → (o : Option Entry) → slice_get es place ≡ o → found o ≡ Some answer → AnswersFold rules es place answer
  by_entry from None there f = none_answers answer f
  by_entry from (Some x) there f =
      let within : place < length es = slice_get_within es place x there in
      let long : length (take place es) ≡ place = length-take-le place es (omega arith) in
      let front : take at.count (take place es) ≡ take at.count es = take-take at.count place es from in
      let run : run_on rules at (take place es) ≡ fold_of rules (take place es) = run_on_fold rules (take place es) at (is ∙ ap (fold_of rules) (sym front)) (omega (arith, long)) in
      let given : answer ≡ answer_to_payload rules (run_on rules at (take place es)) place x.payload =
      (let g : Some (answer_to_payload rules (run_on rules at (take place es)) place x.payload) ≡ Some answer = f in cc)
      in
      record {
        within = within;
        same =
            given
            ∙ ap (λ st. answer_to_payload rules st place x.payload) run
            ∙ ap (answer_in rules (fold_of rules (take place es)) place) (sym there);
      }

  by_test : answer_on rules at es place ≡ Some answer → (b : Bool) → nat_lt place at.count ≡ b → AnswersFold rules es place answer
  by_test e true t = none_answers answer (sym (ap (λ c. cond c None (found (slice_get es place))) t) ∙ e)
  by_test e false t =
      by_entry (ltb-false place at.count t) (slice_get es place) refl
      (sym (ap (λ c. cond c None (found (slice_get es place))) t) ∙ e)

  pub answers_fold : answer_on rules at es place ≡ Some answer → AnswersFold rules es place answer
  answers_fold e = by_test e (nat_lt place at.count) refl
