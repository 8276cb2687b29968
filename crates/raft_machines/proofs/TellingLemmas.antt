-- Tokens are told as their places are run.
use Rattle.std.proofs.Common.{Bor, ◌≡◌, ◌==◌, ◌+◌, ◌<◌, ◌≤◌, ◌++◌, ℕ, List, [], ◌∷◌, Option, Some, None, option_map, Bool, true, false, cond, nat_lt, take, drop, length, slice_get, ap, sym, subst, ◌∙◌, refl, arith}
use Rattle.std.specs.Prelude.{IfSome, is_some}
use Rattle.std.specs.List.{slice_index_or as get_or}
use Rattle.std.specs.Option.{option_copied}
use Rattle.std.proofs.lemmas.Bool.Decides.{nat_tests}
use Rattle.std.proofs.lemmas.Bool.{eqb-true, eqb-false, le-ltb, ltb-false, ltb-true}
use Rattle.std.proofs.lemmas.List.{append-nil, append_assoc, drop-take, length-take-le, take_more}
use Rattle.std.proofs.lemmas.Option.{get_or_from_slice_get, slice_get-map, slice_get_past, slice_get_read, slice_get_within}
use Rattle.raft_group_step.specs.Values.{Entry}
use Rattle.raft_group_step.specs.GroupState.{Untold}
use Rattle.raft_group_step.proofs.EntryPlaces.{slice_drop}
use Rattle.raft_machines.specs.declared.telling.Told.{Told}
use Rattle.raft_machines.specs.declared.telling.Untold.{Untold as AnUntold}
use Rattle.raft_machines.specs.Machine.{MachineRules}
use Rattle.raft_machines.specs.Fold.{after_payload, answer_to_payload, state_from}
use Rattle.raft_machines.proofs.FoldLemmas.{state_from-append}
use Rattle.raft_machines.specs.Telling.{AreToldAs, IsToldAs, Standing, WaitFrom, answer_on, run_on, told_at, untold_of}

-- those that waited for places below this one are told, and the others wait for it or for later ones
pub record AreToldUpTo (answers : ℕ → Option (List ℕ)) (waiting : List Untold) (place end : ℕ) (told : List Told) : Type 0 where
  pub first : List Untold
  pub rest : List Untold
  pub cut : waiting ≡ first ++ rest
  pub are_told : AreToldAs answers told first
  pub wait : WaitFrom place end rest

-- ---- what an entry is answered by

-- one entry more is one step more
pub one_run : (rules : MachineRules) (state : List ℕ) (place : ℕ) (entries : List Entry) (index : ℕ) (e : Entry) → slice_get entries index ≡ Some e
    → state_from rules state place (take (index + 1) entries) ≡ after_payload rules (state_from rules state place (take index entries)) (place + index) e.payload
one_run rules state place entries index e there =
    let within : index < length entries = slice_get_within entries index e there in
    let more : take (index + 1) entries ≡ take index entries ++ e ∷ [] =
    take_more entries index e within ∙ ap (λ (y : Entry). take index entries ++ y ∷ []) (get_or_from_slice_get entries index e e there) in
    let long : length (take index entries) ≡ index = length-take-le index entries (omega (arith, within)) in
    ap (state_from rules state place) more ∙ state_from-append rules state place (take index entries) e
    ∙ ap (λ k. after_payload rules (state_from rules state place (take index entries)) (place + k) e.payload) long

-- the machine answers the entry at a place as it runs it
pub answered_here : (rules : MachineRules) (at : Standing) (list entries : List Entry) (index : ℕ) (e : Entry) (state : List ℕ)
    → entries ≡ drop at.count list → slice_get entries index ≡ Some e → state ≡ state_from rules at.state at.count (take index entries)
    → answer_on rules at list (at.count + index) ≡ Some (answer_to_payload rules state (at.count + index) e.payload)
answered_here rules at list entries index e state are there run =
    let place = at.count + index in
    let from : nat_lt place at.count ≡ false = le-ltb place at.count (omega arith) in
    let stands : slice_get list place ≡ Some e =
    sym (slice_drop at.count list index) ∙ ap (λ es. slice_get es index) (sym are) ∙ there in
    let before : run_on rules at (take place list) ≡ state =
    ap (state_from rules at.state at.count) (drop-take at.count index list ∙ ap (take index) (sym are)) ∙ sym run in
    ap (λ b. cond b None (option_map (λ (x : Entry). answer_to_payload rules (run_on rules at (take place list)) place x.payload) (slice_get list place))) from
    ∙ ap (option_map (λ (x : Entry). answer_to_payload rules (run_on rules at (take place list)) place x.payload)) stands
    ∙ ap (λ st. Some (answer_to_payload rules st place e.payload)) before

-- ---- what is looked up

-- an item, or none past the end
pub looked_up : {X : Type 0} (xs : List X) (i : ℕ) (found : Option (Bor X)) → is_some found ≡ nat_lt i (length xs) → IfSome found (λ x. x.now ≡ get_or xs i x.now) → option_copied found ≡ slice_get xs i
looked_up xs i None e f = let past : length xs ≤ i = grind (arith, nat_tests, e) in sym (slice_get_past xs i past)
looked_up xs i (Some x) e f = let low : i < length xs = grind (arith, nat_tests, e) in sym (slice_get_read xs (length xs) i x.now refl low f)

-- ---- one more is told

told_one_more : (answers : ℕ → Option (List ℕ)) (told : List Told) (first : List Untold) (t : Told) (x : Untold)
    → AreToldAs answers told first → IsToldAs answers t x → AreToldAs answers (told ++ t ∷ []) (first ++ x ∷ [])
told_one_more answers [] [] t x all one = (one, tt)
told_one_more answers [] (y ∷ first) t x all one = absurd all
told_one_more answers (s ∷ told) [] t x all one = absurd all
told_one_more answers (s ∷ told) (y ∷ first) t x all one = (all.0, told_one_more answers told first t x all.1 one)

-- the one behind those that are told waits next
next_waits : (answers : ℕ → Option (List ℕ)) (told : List Told) (first rest : List Untold) → AreToldAs answers told first
    → slice_get (first ++ rest) (length told) ≡ slice_get rest 0
next_waits answers [] [] rest all = refl
next_waits answers [] (y ∷ first) rest all = absurd all
next_waits answers (s ∷ told) [] rest all = absurd all
next_waits answers (s ∷ told) (y ∷ first) rest all = next_waits answers told first rest all.1

lt_of : (a b : ℕ) → a ≤ b → (b ≡ a → ⊥) → a + 1 ≤ b
lt_of a b le ne = by_test (nat_lt a b) refl where
  by_test : (t : Bool) → nat_lt a b ≡ t → a + 1 ≤ b
  by_test true e = let l = ltb-true a b e in omega (arith, l)
  by_test false e = absurd (ne (let l = ltb-false a b e in omega (arith, l, le)))

abbrev untold : AnUntold → Untold
untold x = record { token = x.token; place = x.place }

module _ (answers : ℕ → Option (List ℕ)) (waiting : List AnUntold) (end place : ℕ) (answer : List ℕ) (here : answers place ≡ Some answer) (told : List Told) where
  abbrev Next : List Told → Type 0
  Next more = AreToldUpTo answers (untold_of waiting) (place + 1) end (told ++ more)

  none_waits : (first : List Untold) → untold_of waiting ≡ first ++ [] → AreToldAs answers told first → Next []
  none_waits first cut all =
      record { first = first; rest = []; cut = cut; are_told = subst (λ ts. AreToldAs answers ts first) (sym (append-nil told)) all; wait = tt }

  module _ (first : List Untold) (x : AnUntold) (xs : List Untold) (cut : untold_of waiting ≡ first ++ untold x ∷ xs) (all : AreToldAs answers told first) (wait : WaitFrom place end (untold x ∷ xs)) where
    abbrev told_if : Bool → List Told
    told_if b = cond b (record { token = x.token; place = place; answer = answer } ∷ []) []

    by_place : (b : Bool) → (x.place == place) ≡ b → Next (told_if b)
    by_place true same =
        let is : x.place ≡ place = eqb-true x.place place same in
        record {
          first = first ++ untold x ∷ [];
          rest = xs;
          cut = cut ∙ sym (append_assoc first (untold x ∷ []) xs);
          are_told = told_one_more answers told first _ (untold x) all (record { token = refl; place = sym is; answer = ap answers is ∙ here });
          wait = subst (λ k. WaitFrom (k + 1) end xs) is wait.2;
        }
    by_place false differ =
        let later : place + 1 ≤ x.place = lt_of place x.place wait.0 (eqb-false x.place place differ) in
        record {
          first = first;
          rest = untold x ∷ xs;
          cut = cut;
          are_told = subst (λ ts. AreToldAs answers ts first) (sym (append-nil told)) all;
          wait = (later, wait.1, wait.2);
        }

  by_rest : (first rest : List Untold) → untold_of waiting ≡ first ++ rest → AreToldAs answers told first → WaitFrom place end rest
      → (next : Option AnUntold) → option_map untold next ≡ slice_get rest 0 → Next (told_at next place answer)
  by_rest first [] cut all wait None is = none_waits first cut all
  by_rest first [] cut all wait (Some y) is = absurd (let f : Some (untold y) ≡ None = is in cc)
  by_rest first (x ∷ xs) cut all wait None is = absurd (let f : None ≡ Some x = is in cc)
  by_rest first (x ∷ xs) cut all wait (Some y) is =
      let same : untold y ≡ x = (let f : Some (untold y) ≡ Some x = is in cc) in
      by_place first y xs (cut ∙ ap (λ z. first ++ z ∷ xs) (sym same)) all (subst (λ z. WaitFrom place end (z ∷ xs)) (sym same) wait) (y.place == place) refl

  -- the answer at a place is told to the one that waits for it
  pub told_here : AreToldUpTo answers (untold_of waiting) place end told → Next (told_at (slice_get waiting (length told)) place answer)
  told_here so =
      by_rest so.first so.rest so.cut so.are_told so.wait (slice_get waiting (length told))
      (sym (slice_get-map untold waiting (length told)) ∙ ap (λ ws. slice_get ws (length told)) so.cut ∙ next_waits answers told so.first so.rest so.are_told)

-- ---- all are told

-- past the last place no one waits
pub all_told : (answers : ℕ → Option (List ℕ)) (waiting : List Untold) (place end : ℕ) (told : List Told) → end ≤ place
    → AreToldUpTo answers waiting place end told → AreToldAs answers told waiting
all_told answers waiting place end told past so = by_rest so.rest so.cut so.wait where
  by_rest : (rest : List Untold) → waiting ≡ so.first ++ rest → WaitFrom place end rest → AreToldAs answers told waiting
  by_rest [] cut wait = subst (AreToldAs answers told) (sym (cut ∙ append-nil so.first)) so.are_told
  by_rest (x ∷ xs) cut wait = absurd (let a : place ≤ x.place = wait.0 in let b : x.place + 1 ≤ end = wait.1 in omega (arith, past, a, b))
