-- The fold of a list in two parts, and over one that got one entry more.
use Rattle.std.proofs.Common.{◌≡◌, ◌≤◌, ℕ, ◌+◌, List, [], ◌∷◌, ◌++◌, take, drop, length, sym, ap, ◌∙◌, arith, length-take-le, take-append-drop}
use Rattle.raft_machines.specs.Machine.{MachineRules}
use Rattle.raft_group_step.specs.Values.{Entry}
use Rattle.raft_machines.specs.Fold.{after_payload, state_from, fold_of}
use Rattle.raft_machines.specs.Telling.{Standing, run_on}

-- the second part is run on the state after the first
pub state_from_both : (rules : MachineRules) (state : List ℕ) (place : ℕ) (xs ys : List Entry)
    → state_from rules state place (xs ++ ys) ≡ state_from rules (state_from rules state place xs) (place + length xs) ys
state_from_both rules state place [] ys =
    let same : place ≡ place + length {A = Entry} [] = omega arith in
    ap (λ p. state_from rules state p ys) same
state_from_both rules state place (x ∷ xs) ys =
    let same : place + 1 + length xs ≡ place + length (x ∷ xs) = omega arith in
    let next : List ℕ = after_payload rules state place x.payload in
    state_from_both rules next (place + 1) xs ys
    ∙ ap (λ p. state_from rules (state_from rules next (place + 1) xs) p ys) same

-- one entry more is one step more
pub state_from-append : (rules : MachineRules) (state : List ℕ) (place : ℕ) (xs : List Entry) (e : Entry)
    → state_from rules state place (xs ++ e ∷ []) ≡ after_payload rules (state_from rules state place xs) (place + length xs) e.payload
state_from-append rules state place xs e = state_from_both rules state place xs (e ∷ [])

pub fold_of-append : (rules : MachineRules) (xs : List Entry) (e : Entry)
    → fold_of rules (xs ++ e ∷ []) ≡ after_payload rules (fold_of rules xs) (length xs) e.payload
fold_of-append rules xs e =
    let same : 0 + length xs ≡ length xs = omega arith in
    state_from-append rules rules.first 0 xs e
    ∙ ap (λ (p : ℕ). after_payload rules (fold_of rules xs) p e.payload) same

-- a machine that has run the list's front runs the rest
pub run_on_fold : (rules : MachineRules) (es : List Entry) (at : Standing)
    → at.state ≡ fold_of rules (take at.count es) → at.count ≤ length es → run_on rules at es ≡ fold_of rules es
run_on_fold rules es at is le =
    let front = take at.count es in
    let rest = drop at.count es in
    let size : 0 + length front ≡ at.count = (let f = length-take-le at.count es le in omega (arith, f)) in
    ap (λ st. state_from rules st at.count rest) is
    ∙ ap (λ k. state_from rules (fold_of rules front) k rest) (sym size)
    ∙ sym (state_from_both rules rules.first 0 front rest)
    ∙ ap (fold_of rules) (take-append-drop at.count es)
