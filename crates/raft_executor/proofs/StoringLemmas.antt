-- Commands that are stored one after the other.
use Rattle.std.proofs.Common.{◌≡◌, ℕ, zero, suc, ◌+◌, ◌-◌, Bool, true, false, List, [], ◌∷◌, ◌++◌}
use Rattle.std.proofs.Common.{length, drop, take, arith, Option, Some, None, append_assoc, refl, sym, ap, subst, ◌∙◌}
use Rattle.std.specs.Prelude.{◌||◌}
use Rattle.std.proofs.lemmas.List.{append-nil, take_all}
use Rattle.raft_group_step.specs.StoredGroup.{StoredGroup, StoringCommand, Snapshot, after_storing, after_storing_all}
use Rattle.raft_engine.specs.Commands.{Command, storing_of, stored_by}
use Rattle.raft_group_storage.specs.Keeping.{Fails, FailsAnyhow, KeepsFails, Shows}
use Rattle.raft_executor.specs.Stored.{FailsAmong, FailsAtOne, FailsFirst, IsGiven, MayStoreAll, StoresAll, first_of, has_snapshot, queue_has_snapshot, room_after}

-- the first ones are stored, and then the others
pub after_both : (a b : List StoringCommand) (s : StoredGroup) → after_storing_all (a ++ b) s ≡ after_storing_all b (after_storing_all a s)
after_both [] b s = refl
after_both (c ∷ cs) b s = after_both cs b (after_storing c s)

-- the first of two lists gives the first elements, and the second one the others
take_both : (n : ℕ) (a b : List StoringCommand) → take n (a ++ b) ≡ take n a ++ take (n - length a) b
take_both zero a b = let e : 0 - length a ≡ 0 = omega arith in ap (λ (k : ℕ). take k b) (sym e)
take_both (suc n) [] b = let e : suc n - 0 ≡ suc n = omega arith in ap (λ (k : ℕ). take k b) (sym e)
take_both (suc n) (c ∷ cs) b =
    let e : suc n - length (c ∷ cs) ≡ n - length cs = omega arith in
    ap (λ (l : List StoringCommand). c ∷ l) (take_both n cs b) ∙ ap (λ (k : ℕ). (c ∷ take n cs) ++ take k b) (sym e)

-- so many elements are the first list, and one more has the next one too
take_front : (done others : List StoringCommand) → take (length done) (done ++ others) ≡ done
take_front [] others = refl
take_front (c ∷ cs) others = ap (λ (l : List StoringCommand). c ∷ l) (take_front cs others)

drop_front : (done others : List StoringCommand) → drop (length done) (done ++ others) ≡ others
drop_front [] others = refl
drop_front (c ∷ cs) others = drop_front cs others

take_one_more : (done others : List StoringCommand) (c : StoringCommand) → take (length done + 1) (done ++ (c ∷ others)) ≡ done ++ (c ∷ [])
take_one_more [] others c = refl
take_one_more (d ∷ ds) others c =
    let e : length (d ∷ ds) + 1 ≡ suc (length ds + 1) = omega arith in
    ap (λ (k : ℕ). take k (d ∷ (ds ++ (c ∷ others)))) e ∙ ap (λ (l : List StoringCommand). d ∷ l) (take_one_more ds others c)

-- the first ones take room from the others
first_of_both : (room : Option ℕ) (a b : List StoringCommand) → first_of room (a ++ b) ≡ first_of room a ++ first_of (room_after room (length a)) b
first_of_both None a b = refl
first_of_both (Some count) a b = take_both count a b

-- what is stored so far, and what is left for the room, are the first commands
pub record IsStoredSoFar (first : List StoringCommand) (room : Option ℕ) (left : List StoringCommand) (old now : Shows) (group : ℕ) : Type 0 where
  pub done : List StoringCommand
  pub listed : first ≡ done ++ first_of room left
  pub stored : StoresAll old now group done

-- at the start nothing is stored
pub nothing_yet : (room : Option ℕ) (left : List StoringCommand) (shows : Shows) (group : ℕ) → IsStoredSoFar (first_of room left) room left shows shows group
nothing_yet room left shows group = record { done = []; listed = refl; stored = λ s shown. shown }

-- what one command stores is stored too
one_more : (first : List StoringCommand) (room rest : Option ℕ) (a b : List StoringCommand) (old now new : Shows) (group : ℕ)
    → IsStoredSoFar first room (a ++ b) old now group → rest ≡ room_after room (length a) → StoresAll now new group (first_of room a) → IsStoredSoFar first rest b old new group
one_more first room rest a b old now new group h r next = record {
  done = h.done ++ first_of room a;
  listed =
      h.listed
      ∙ (ap (λ (l : List StoringCommand). h.done ++ l) (first_of_both room a b)
      ∙ (sym (append_assoc h.done (first_of room a) (first_of (room_after room (length a)) b))
      ∙ ap (λ (k : Option ℕ). (h.done ++ first_of room a) ++ first_of k b) (sym r)));
  stored = λ s shown.
      subst (λ (u : StoredGroup). new group (u ∷ [])) (sym (after_both h.done (first_of room a) s))
      (next (after_storing_all h.done s) (h.stored s shown));
}

-- where no command was refused, the first of these may have failed
pub fails_first : (fails : Fails) (cs : List StoringCommand) (s : StoredGroup) → FailsAnyhow fails → FailsFirst fails cs s
fails_first fails [] s anyhow = anyhow
fails_first fails (c ∷ cs) s anyhow = anyhow c s

-- what may have failed may still have
pub fails_still : (old new : Fails) (cs : List StoringCommand) (s : StoredGroup) → KeepsFails old new → FailsFirst old cs s → FailsFirst new cs s
fails_still old new [] s keeps h = λ c t. keeps c t (h c t)
fails_still old new (c ∷ cs) s keeps h = keeps c s h

-- where one command fails, those before it are stored
fails_here : (first : List StoringCommand) (room : Option ℕ) (a b : List StoringCommand) (old now new : Shows) (at : Fails) (group : ℕ)
    → IsStoredSoFar first room (a ++ b) old now group → FailsAtOne now new at group (first_of room a) → FailsAmong old new at group first
fails_here first room a b old now new at group h fails = λ s shown.
    let rest : List StoringCommand = first_of (room_after room (length a)) b in
    let next : List StoringCommand = fails.command ∷ rest in
    let listed : first ≡ h.done ++ next =
    h.listed ∙ ap (λ (l : List StoringCommand). h.done ++ l) (first_of_both room a b ∙ ap (λ (l : List StoringCommand). l ++ rest) fails.is) in
    let before : take (length h.done) first ≡ h.done = ap (λ (l : List StoringCommand). take (length h.done) l) listed ∙ take_front h.done next in
    let behind : take (length h.done + 1) first ≡ h.done ++ (fails.command ∷ []) =
    ap (λ (l : List StoringCommand). take (length h.done + 1) l) listed ∙ take_one_more h.done rest fails.command in
    let left : drop (length h.done) first ≡ next = ap (λ (l : List StoringCommand). drop (length h.done) l) listed ∙ drop_front h.done next in
    let one : after_storing_all (take (length h.done) first) s ≡ after_storing_all h.done s = ap (λ (l : List StoringCommand). after_storing_all l s) before in
    let other : after_storing_all (take (length h.done + 1) first) s ≡ after_storing fails.command (after_storing_all h.done s) =
    ap (λ (l : List StoringCommand). after_storing_all l s) behind ∙ after_both h.done (fails.command ∷ []) s in
    let may = fails.may_store (after_storing_all h.done s) (h.stored s shown) in (
      length h.done,
      subst (λ (u : StoredGroup). new group (u ∷ after_storing_all (take (length h.done + 1) first) s ∷ [])) (sym one)
          (subst (λ (u : StoredGroup). new group (after_storing_all h.done s ∷ u ∷ [])) (sym other) may.0),
      subst (λ (l : List StoringCommand). FailsFirst at l (after_storing_all (take (length h.done) first) s)) (sym left)
          (subst (λ (u : StoredGroup). at fails.command u) (sym one) may.1),
    )

module _ {X : Type 0} (stands : X → Snapshot → Type 0) where
  -- the snapshot is given for the first one
  pub first_given : (a b : Bool) (given : Option X) (x : Snapshot) → IsGiven stands (a || b) given x → IsGiven stands a given x
  first_given true b given x h = h
  first_given false b given x h = λ e. absurd (let no : false ≡ true = e in cc)

  -- the snapshot is given for the others
  others_given : (a b : Bool) (given : Option X) (x : Snapshot) → IsGiven stands (a || b) given x → IsGiven stands b given x
  others_given true b given x h = λ e. h refl
  others_given false b given x h = h

  -- the snapshot is given for the next command of those that are left, and for those behind it
  pub next_given : {C R : Type 0} (given : Option X) (x : Snapshot) (c : Command C R) (left others : List (Command C R)) → left ≡ c ∷ others
      → IsGiven stands (queue_has_snapshot left) given x → (IsGiven stands (has_snapshot c) given x) × (IsGiven stands (queue_has_snapshot others) given x)
  next_given {C} {R} given x c left others e h =
      let now : IsGiven stands (queue_has_snapshot (c ∷ others)) given x = subst (λ (l : List (Command C R)). IsGiven stands (queue_has_snapshot l) given x) e h in
      (first_given (has_snapshot c) (queue_has_snapshot others) given x now, others_given (has_snapshot c) (queue_has_snapshot others) given x now)

-- one command is stored where there is room, and what is left goes on from there
pub one_is_stored : {C R : Type 0} (x : Snapshot) (first : List StoringCommand) (room rest : Option ℕ)
    (c : Command C R) (left others : List (Command C R)) (old now new : Shows) (group : ℕ)
    → left ≡ c ∷ others → IsStoredSoFar first room (stored_by x left) old now group
    → rest ≡ room_after room (length (storing_of x c)) → StoresAll now new group (first_of room (storing_of x c))
    → IsStoredSoFar first rest (stored_by x others) old new group
one_is_stored {C} {R} x first room rest c left others old now new group e before r next =
    one_more first room rest (storing_of x c) (stored_by x others) old now new group
    (subst (λ (l : List (Command C R)). IsStoredSoFar first room (stored_by x l) old now group) e before) r next

-- one command fails
pub one_fails : {C R : Type 0} (x : Snapshot) (first : List StoringCommand) (room : Option ℕ)
    (c : Command C R) (left others : List (Command C R)) (old now new : Shows) (at : Fails) (group : ℕ)
    → left ≡ c ∷ others → IsStoredSoFar first room (stored_by x left) old now group
    → FailsAtOne now new at group (first_of room (storing_of x c)) → FailsAmong old new at group first
one_fails {C} {R} x first room c left others old now new at group e before fails =
    fails_here first room (storing_of x c) (stored_by x others) old now new at group
    (subst (λ (l : List (Command C R)). IsStoredSoFar first room (stored_by x l) old now group) e before) fails

-- of nothing there is no first one
none_first : (room : Option ℕ) → first_of room [] ≡ []
none_first None = refl
none_first (Some zero) = refl
none_first (Some (suc n)) = refl

-- where no command is left, all is stored
pub all_are_stored : {C R : Type 0} (x : Snapshot) (first : List StoringCommand) (room : Option ℕ) (left : List (Command C R)) (old now : Shows) (group : ℕ)
    → left ≡ [] → IsStoredSoFar first room (stored_by x left) old now group → StoresAll old now group first
all_are_stored {C} {R} x first room left old now group e before =
    let h : IsStoredSoFar first room [] old now group = subst (λ (l : List (Command C R)). IsStoredSoFar first room (stored_by x l) old now group) e before in
    let all : first ≡ h.done = h.listed ∙ (ap (λ (l : List StoringCommand). h.done ++ l) (none_first room) ∙ append-nil h.done) in
    λ s shown. subst (λ (l : List StoringCommand). now group (after_storing_all l s ∷ [])) (sym all) (h.stored s shown)

-- ---- a command that stores one thing

one_of_one : (a : List StoringCommand) → length a ≡ 1 → (c : StoringCommand) × (a ≡ c ∷ [])
one_of_one [] e = absurd (let no : 0 ≡ 1 = e in omega arith)
one_of_one (c ∷ []) e = (c, refl)
one_of_one (c ∷ d ∷ cs) e = absurd (let no : suc (suc (length cs)) ≡ 1 = e in omega arith)

-- it fails, and is stored or not
pub fails_at_one : (a : List StoringCommand) (old new : Shows) (at : Fails) (group : ℕ) → length a ≡ 1 → MayStoreAll old new at group a → FailsAtOne old new at group a
fails_at_one a old new at group e may =
    let one = one_of_one a e in
    record {
      command = one.0;
      is = one.1;
      may_store = λ s shown. subst (λ (l : List StoringCommand). new group (s ∷ after_storing_all l s ∷ []) × FailsFirst at l s) one.1 (may s shown);
    }

-- where there is room for one, it is the first one
pub room_for_one : (count : ℕ) (a : List StoringCommand) → length a ≡ 1 → (count ≡ 0 → ⊥) → first_of (Some count) a ≡ a
room_for_one zero a e some = absurd (some refl)
room_for_one (suc n) a e some =
    let one = one_of_one a e in ap (λ (l : List StoringCommand). take (suc n) l) one.1 ∙ take_all (suc n) (one.0 ∷ []) (omega arith) ∙ sym one.1
