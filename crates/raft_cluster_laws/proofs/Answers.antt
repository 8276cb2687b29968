-- A machine that runs on answers as one that runs from the beginning, and outcomes say so.
use Rattle.std.specs.Prelude.{◌≡◌, ◌≤◌, ℕ, Bool, true, false, List, [], ◌∷◌, length, take, slice_get, Option, None, option_map, cond, refl}
use Rattle.std.proofs.Common.{sym, ap, ◌∙◌, arith, inl, inr, length-take, take-take}
use Rattle.std.proofs.lemmas.Bool.{le-ltb}
use Rattle.raft_group_step.specs.Message.{Message}
use Rattle.raft_group_step.specs.Values.{Entry}
use Rattle.raft_group_step.specs.GroupState.{Untold}
use Rattle.raft_laws.specs.GroupWorld.{Outcome, Skipped}
use Rattle.raft_laws.specs.GroupWorld.{Done as Ended, Refused as Declined, Stopped as Broken}
use Rattle.raft_laws.proofs.BallotSafe.{Among}
use Rattle.raft_machines.specs.Machine.{MachineRules}
use Rattle.raft_machines.specs.Fold.{answer_to_payload, fold_of}
use Rattle.raft_machines.specs.Telling.{AreToldAs, Standing, answer_on, run_on}
use Rattle.raft_machines.specs.declared.telling.Told.{Told}
use Rattle.raft_headline.specs.ClusterEvent.{ClusterOutcome, Done, Opened, Said, said_of}
use Rattle.raft_headline.specs.Replaying.{IsSaid, Says}
use Rattle.raft_machines.proofs.FoldLemmas.{run_on_fold}

abbrev pub start_of : MachineRules → Standing
start_of rules = record { state = rules.first; count = 0 }

-- at a place that it has not run yet
pub answers_alike : (rules : MachineRules) (es : List Entry) (at : Standing) → at.state ≡ fold_of rules (take at.count es) → at.count ≤ length es → (place : ℕ) → at.count ≤ place → answer_on rules (start_of rules) es place ≡ answer_on rules at es place
answers_alike rules es at is le place from =
    let front = take place es in
    let long = length-take place es in
    let fold : run_on rules at front ≡ fold_of rules front =
    run_on_fold rules front at (is ∙ ap (fold_of rules) (sym (take-take at.count place es from))) (omega (arith, long))
    in
    let whole : run_on rules (start_of rules) front ≡ fold_of rules front = run_on_fold rules front (start_of rules) refl (omega arith) in
    let answered : List ℕ → Option (List ℕ) = λ st. option_map (λ (e : Entry). answer_to_payload rules st place e.payload) (slice_get es place) in
    ap (λ b. cond b None (answered (run_on rules (start_of rules) front))) (le-ltb place 0 (omega arith))
    ∙ ap answered (whole ∙ sym fold)
    ∙ sym (ap (λ b. cond b None (answered (run_on rules at front))) (le-ltb place at.count from))

told_alike : (f g : ℕ → Option (List ℕ)) (ts : List Told) (xs : List Untold) → ((x : Untold) → Among x xs → f x.place ≡ g x.place) → AreToldAs f ts xs → AreToldAs g ts xs
told_alike f g [] [] same h = tt
told_alike f g [] (x ∷ xs) same h = absurd h
told_alike f g (t ∷ ts) [] same h = absurd h
told_alike f g (t ∷ ts) (x ∷ xs) same h = (
  record { token = (h.0).token; place = (h.0).place; answer = sym (same x (inl refl)) ∙ (h.0).answer },
  told_alike f g ts xs (λ y a. same y (inr a)) h.1,
)

said_alike : (f g : ℕ → Option (List ℕ)) (said : Said) (sent : List Message) (told : List Untold) (lost : List ℕ) → ((x : Untold) → Among x told → f x.place ≡ g x.place) → IsSaid f said sent told lost → IsSaid g said sent told lost
said_alike f g said sent told lost same s =
    record { sent = s.sent; told = told_alike f g said.told told same s.told; unknown = s.unknown }

-- an outcome says the same where the answers at the told places are the same
pub says_alike : (h : ℕ) (b : Bool) (f g : ℕ → Option (List ℕ)) (o : ClusterOutcome) (what : Outcome)
    → ((sent : List Message) (told : List Untold) (lost : List ℕ) → what ≡ Ended sent told lost → (x : Untold) → Among x told → f x.place ≡ g x.place)
    → Says h b f o what → Says h b g o what
says_alike h true f g (Opened parts) (Ended sent told lost) same s =
    said_alike f g (said_of h parts) sent told lost (same sent told lost refl) s
says_alike h true f g o (Ended sent told lost) same s = absurd s
says_alike h false f g (Done said) (Ended sent told lost) same s = said_alike f g said sent told lost (same sent told lost refl) s
says_alike h false f g o (Ended sent told lost) same s = absurd s
says_alike h b f g o (Declined why) same s = s
says_alike h b f g o (Broken lost) same s = s
says_alike h b f g o Skipped same s = s
