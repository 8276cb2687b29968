-- Nodes that have nothing: those that couldn't be opened are as nodes that crash at first.
use Rattle.std.proofs.Common.{◌≡◌, ◌<◌, ◌^◌, ◌⊎◌, ℕ, eqb, Bool, true, false, cond, not, ◌||◌, List, [], ◌∷◌, ◌++◌, Some, filter, inl, inr, refl, sym, ap, ◌∙◌, subst, append_assoc, append-nil, eqb-true}
use Rattle.std.proofs.lemmas.Bool.{eq-eqb}
use Rattle.std.specs.List.{AllByRecursion, AllZip}
use Rattle.std.specs.Prelude.{IsTrue}
use Rattle.raft_group_step.specs.Values.{has_id}
use Rattle.raft_group_step.specs.GroupState.{no_group, state_of}
use Rattle.raft_laws.specs.BallotLists.{with_value}
use Rattle.raft_laws.specs.GroupWorld.{NodeState, Absent, Down, Up, state_or}
use Rattle.raft_laws.specs.OneList.{AreNodeIds}
use Rattle.raft_machines.specs.Machine.{MachineRules}
use Rattle.raft_headline.specs.ClusterEvent.{Crash, Done, Recorded, silent}
use Rattle.raft_cluster_laws.specs.Acts.{EventLeads}
use Rattle.raft_cluster_laws.specs.Kept.{Candidates, IsKept, new_candidates}
use Rattle.raft_cluster_laws.proofs.EventKept.{kept_by_all, new_is_kept}
use Rattle.raft_cluster_laws.proofs.NodesActing.{others_act}
use Rattle.raft_cluster_events.specs.Node.{NodeActs}
use Rattle.raft_cluster_events.specs.States.{NodeStates}
use Rattle.raft_node_laws.specs.Law.{KeepsLaw, first_state}
use Rattle.raft_node_laws.specs.Reporting.{IsSentAs, crashes_of}
use Rattle.raft_cluster.specs.Cluster.{IsNew, nothing_sent}
use Rattle.raft_cluster.specs.Facts.{node_in}
use Rattle.raft_cluster.specs.Joined.{IsToldOf, downs_of, ids_of, is_down}
use Rattle.raft_cluster.proofs.PlainLemmas.{SetUpsAgree, agree_at_first, crashes_send_nothing}

abbrev pub down : List NodeState
down = Down no_group ∷ []

abbrev pub up : List NodeState
up = Up (state_of no_group) ∷ []

-- these nodes crash, one after another
abbrev pub crashed : List ℕ → Candidates → Candidates
crashed [] c = c
crashed (n ∷ ns) c = crashed ns (with_value c n down)

-- ---- who crashes

stays_down : (ns : List ℕ) (c : Candidates) (m : ℕ) → c m ≡ down → crashed ns c m ≡ down
stays_down [] c m is = is
stays_down (n ∷ ns) c m is = stays_down ns (with_value c n down) m (go (eqb m n))
  where
    go : (b : Bool) → cond b down (c m) ≡ down
    go true = refl
    go false = is

-- who passes the test is down behind the crashes of all that do
goes_down : (p : ℕ → Bool) (ns : List ℕ) (c : Candidates) (m : ℕ) → has_id ns m ≡ true → p m ≡ true → crashed (filter p ns) c m ≡ down
goes_down p [] c m has passes = absurd (cc)
goes_down p (n ∷ ns) c m has passes = go (eqb n m) refl (λ d more. goes_down p ns d m more passes) has
  where
    either : (b : Bool) → ((d : Candidates) → crashed (filter p ns) d m ≡ down) → crashed (cond b (n ∷ filter p ns) (filter p ns)) c m ≡ down
    either true rest = rest (with_value c n down)
    either false rest = rest c

    go : (b : Bool) → eqb n m ≡ b → ((d : Candidates) → has_id ns m ≡ true → crashed (filter p ns) d m ≡ down) → (b || has_id ns m) ≡ true → crashed (cond (p n) (n ∷ filter p ns) (filter p ns)) c m ≡ down
    go true is rest there =
        let same : n ≡ m = eqb-true n m is in
        let there : with_value c n down m ≡ down = ap (λ b. cond b down (c m)) (eq-eqb m n (sym same)) in
        ap (λ b. crashed (cond b (n ∷ filter p ns) (filter p ns)) c m) (ap p same ∙ passes) ∙ stays_down (filter p ns) (with_value c n down) m there
    go false is rest there = either (p n) (λ d. rest d there)

other_by_test : (p : ℕ → Bool) (m n : ℕ) → p m ≡ false → p n ≡ true → eqb m n ≡ false
other_by_test p m n fails passes = go (eqb m n) refl
  where
    go : (b : Bool) → eqb m n ≡ b → b ≡ false
    go true is = let no : true ≡ false = sym passes ∙ ap p (sym (eqb-true m n is)) ∙ fails in absurd (cc)
    go false is = refl

-- and who doesn't is as before
stays_up : (p : ℕ → Bool) (ns : List ℕ) (c : Candidates) (m : ℕ) → p m ≡ false → crashed (filter p ns) c m ≡ c m
stays_up p [] c m fails = refl
stays_up p (n ∷ ns) c m fails = go (p n) refl (λ d. stays_up p ns d m fails)
  where
    go : (b : Bool) → p n ≡ b → ((d : Candidates) → crashed (filter p ns) d m ≡ d m) → crashed (cond b (n ∷ filter p ns) (filter p ns)) c m ≡ c m
    go true is rest = rest (with_value c n down) ∙ ap (λ b. cond b down (c m)) (other_by_test p m n fails is)
    go false is rest = rest c

-- ---- their history is kept

abbrev pub IsFirst : List NodeState → Type 0
IsFirst olds = (olds ≡ up) ⊎ (olds ≡ down)

abbrev pub crash_of : ℕ → Recorded
crash_of n = record { event = Crash n; node = n; outcome = Done silent }

module _ (rules : MachineRules) (ids : List ℕ) where
  crash_leads : (history : List Recorded) (h n : ℕ) (olds : List NodeState) → IsFirst olds → EventLeads rules h n (crash_of n) history olds down
  crash_leads history h n olds (inl is) =
      let others = others_act rules h n (crash_of n) in
      subst (λ l. EventLeads rules h n (crash_of n) history l down) (sym is)
      (others.to_one history (Up (state_of no_group)) (Down no_group) (refl, others.crashes (state_of no_group) refl))
  crash_leads history h n olds (inr is) =
      let others = others_act rules h n (crash_of n) in
      subst (λ l. EventLeads rules h n (crash_of n) history l down) (sym is)
      (others.to_one history (Down no_group) (Down no_group) (refl, others.stays_down no_group (inl refl)))

  crashes_kept : (ns : List ℕ) (c : Candidates) (history : List Recorded) → IsKept rules ids (λ h. c) history → ((n : ℕ) → has_id ids n ≡ true → IsFirst (c n))
      → AllByRecursion (λ n. has_id ids n ≡ true) ns → IsKept rules ids (λ h. crashed ns c) (history ++ crashes_of ns)
  crashes_kept [] c history kept first among = subst (λ l. IsKept rules ids (λ h. c) l) (sym (append-nil history)) kept
  crashes_kept (n ∷ ns) c history kept first among =
      let one = kept_by_all rules ids (λ h. c) history kept (crash_of n) n (λ h. down) (λ h. crash_leads history h n (c n) (first n among.0)) in
      subst (λ l. IsKept rules ids (λ h. crashed ns (with_value c n down)) l) (append_assoc history (crash_of n ∷ []) (crashes_of ns))
      (crashes_kept ns (with_value c n down) (history ++ crash_of n ∷ []) one (λ m has. either m (eqb m n) has) among.1)
    where
      either : (m : ℕ) (b : Bool) → has_id ids m ≡ true → IsFirst (cond b down (c m))
      either m true has = inr refl
      either m false has = first m has

-- ---- ids

filter_all : (P : ℕ → Type 0) (p : ℕ → Bool) (ns : List ℕ) → AllByRecursion P ns → AllByRecursion P (filter p ns)
filter_all P p [] all = tt
filter_all P p (n ∷ ns) all = go (p n) (filter_all P p ns all.1)
  where
    go : (b : Bool) → AllByRecursion P (filter p ns) → AllByRecursion P (cond b (n ∷ filter p ns) (filter p ns))
    go true rest = (all.0, rest)
    go false rest = rest

all_among : (ids ns : List ℕ) → ((n : ℕ) → has_id ns n ≡ true → has_id ids n ≡ true) → AllByRecursion (λ n. has_id ids n ≡ true) ns
all_among ids [] wider = tt
all_among ids (x ∷ xs) wider = (wider x (ap (λ b. b || has_id xs x) (eq-eqb x x refl)), all_among ids xs (λ n has. wider n (go n (eqb x n) has)))
  where
    go : (n : ℕ) (b : Bool) → has_id xs n ≡ true → (b || has_id xs n) ≡ true
    go n true has = refl
    go n false has = has

module _ {N : Type 0} (acts : NodeActs N) where
  fits : (nodes : List N) → AllByRecursion (IsNew acts) nodes → AreNodeIds (ids_of acts nodes)
  fits [] new n has = let no : false ≡ true = has in absurd (cc)
  fits (x ∷ xs) new n has = go (eqb (acts.id x) n) refl (fits xs new.1 n) has
    where
      go : (b : Bool) → eqb (acts.id x) n ≡ b → (IsTrue (has_id (ids_of acts xs) n) → n < 2 ^ 64) → IsTrue (b || has_id (ids_of acts xs) n) → n < 2 ^ 64
      go true is more there = subst (λ i. i < 2 ^ 64) (eqb-true (acts.id x) n is) new.0.id
      go false is more there = more there

  found_among : (nodes : List N) (n : ℕ) (node : N) → node_in acts nodes n ≡ Some node → has_id (ids_of acts nodes) n ≡ true
  found_among [] n node there = absurd (cc)
  found_among (x ∷ xs) n node there = go (eqb (acts.id x) n) (found_among xs n node) there
    where
      go : (b : Bool) → (node_in acts xs n ≡ Some node → has_id (ids_of acts xs) n ≡ true) → cond b (Some x) (node_in acts xs n) ≡ Some node → (b || has_id (ids_of acts xs) n) ≡ true
      go true more at = refl
      go false more at = more at

  found_new_one : (nodes : List N) → AllByRecursion (IsNew acts) nodes → (n : ℕ) (node : N) → node_in acts nodes n ≡ Some node → IsNew acts node
  found_new_one [] new n node there = absurd (cc)
  found_new_one (x ∷ xs) new n node there = go (eqb (acts.id x) n) (found_new_one xs new.1 n node) there
    where
      go : (b : Bool) → (node_in acts xs n ≡ Some node → IsNew acts node) → cond b (Some x) (node_in acts xs n) ≡ Some node → IsNew acts node
      go true more at = let same : x ≡ node = cc in subst (λ y. IsNew acts y) same new.0
      go false more at = more at

-- ---- new nodes

module _ {N : Type 0} (rules : MachineRules) (acts : NodeActs N) (states : NodeStates N) (law : KeepsLaw rules acts states) (first : List N) (new : AllByRecursion (IsNew acts) first) where
  abbrev ids : List ℕ
  ids = ids_of acts first

  abbrev downs : List ℕ
  downs = downs_of acts first

  is_up_first : (n : ℕ) → has_id ids n ≡ true → new_candidates ids n ≡ up
  is_up_first n has = ap (λ b. state_or b (Up (state_of no_group)) Absent ∷ []) has

  stands_first : (n : ℕ) (node : N) → node_in acts first n ≡ Some node → crashed downs (new_candidates ids) n ≡ first_state (acts.is_up node) ∷ []
  stands_first n node there = go (acts.is_up node) refl
    where
      go : (b : Bool) → acts.is_up node ≡ b → crashed downs (new_candidates ids) n ≡ first_state b ∷ []
      go true is =
          stays_up (λ m. is_down acts (node_in acts first m)) ids (new_candidates ids) n (ap (is_down acts) there ∙ ap not is)
          ∙ is_up_first n (found_among acts first n node there)
      go false is = goes_down (λ m. is_down acts (node_in acts first m)) ids (new_candidates ids) n (found_among acts first n node there) (ap (is_down acts) there ∙ ap not is)

  pub told_first : IsToldOf rules acts states ids downs first nothing_sent []
  told_first = record {
    plain = crashes_of downs;
    report = record { rest = []; begins = sym (append-nil (crashes_of downs)); same = tt };
    stand = record {
      candidates = λ h. crashed downs (new_candidates ids);
      kept =
          crashes_kept rules ids downs (new_candidates ids) [] (new_is_kept rules ids (fits acts first new))
          (λ n has. inl (is_up_first n has))
          (filter_all (λ n. has_id ids n ≡ true) (λ m. is_down acts (node_in acts first m)) ids (all_among ids ids (λ n has. has)));
      may_be = λ n node there h.
          let known = found_new_one acts first new n node there in
          subst (λ l. states.may_be node h l) (sym (stands_first n node there)) (law.begins (acts.id node) node known.begins h);
      frames = λ h. subst (λ ms. AllZip (IsSentAs states.spells h) [] ms) (sym (crashes_send_nothing h downs)) tt;
    };
    same_ids = refl;
  }

  pub agree_first : SetUpsAgree [] told_first.plain
  unfolding told_first
  agree_first = agree_at_first downs
