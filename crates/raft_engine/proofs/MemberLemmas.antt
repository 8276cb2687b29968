-- Who is a member of a membership: each node is a voter, or a learner.
use Rattle.std.specs.Prelude.{◌≡◌, ℕ, Bool, true, false, not, ◌&&◌, ◌||◌, nat_eq, if◌then◌else◌, map, List, [], ◌∷◌, ◌++◌, Option, Some, None, unwrap_or, refl}
use Rattle.std.specs.List.{list_any, fold}
use Rattle.std.specs.Ordering.{nat_cmp}
use Rattle.std.specs.BTreeSet.{insert_key}
use Rattle.std.specs.declared.cmp.Ordering.{Ordering}
use Rattle.std.specs.declared.cmp.Ordering.TheVariants.{Less, Equal, Greater}
use Rattle.std.specs.Cmp.{nat_cmp_total, unsigned_ties, ranked}
use Rattle.std.proofs.Common.{sym, ap, ◌∙◌}
use Rattle.std.proofs.lemmas.Bool.{eqb-true}
use Rattle.std.proofs.lemmas.List.Folds.{list_any-append}
use Rattle.std.proofs.lemmas.Map.Views.{any-filter_same}
use Rattle.raft_quorums.specs.Nodes.{has_id, has_node}
use Rattle.raft_quorums.specs.Rising.{IsRising}
use Rattle.raft_quorums.specs.RisingLaws.{below_is_absent}
use Rattle.raft_membership.specs.Membership.{is_voter, voter_ids, learner_ids}
use Rattle.raft_group_step.specs.Values.{Membership}
use Rattle.raft_progress.specs.Values.{are_distinct, value_at}
use Rattle.raft_progress.specs.Parts.{Parts, IsUpgraded, has_value, value_of}
use Rattle.std.specs.Option.{option_or}
use Rattle.raft_leaders.proofs.PeerLemmas.{somebody_has}
use Rattle.std.proofs.Math.Bool.{or_self_left}
use Rattle.raft_membership.proofs.FaultLemmas.{or_swap}

-- rising ids are distinct
pub rising_distinct : (ids : List ℕ) → IsRising nat_cmp ids → are_distinct nat_eq ids ≡ true
rising_distinct [] h = refl
rising_distinct (x ∷ xs) h =
    ap (λ b. not b && are_distinct nat_eq xs) (below_is_absent nat_cmp_total unsigned_ties x xs h.0) ∙ rising_distinct xs h.1

or_turn : (a b c : Bool) → (a || (b || c)) ≡ ((b || a) || c)
or_turn true true c = refl
or_turn true false c = refl
or_turn false true c = refl
or_turn false false c = refl

or_false : (a : Bool) → (a || false) ≡ a
or_false true = refl
or_false false = refl

has_inserted : (xs : List ℕ) (k n : ℕ) → has_id nat_eq (insert_key nat_cmp xs k) n ≡ (nat_eq k n || has_id nat_eq xs n)
has_inserted [] k n = refl
has_inserted (x ∷ xs) k n = by_rank (has_inserted xs k n) (nat_cmp k x) refl
  where
    by_rank : has_id nat_eq (insert_key nat_cmp xs k) n ≡ (nat_eq k n || has_id nat_eq xs n) → (o : Ordering) → nat_cmp k x ≡ o
        → has_id nat_eq (insert_key nat_cmp (x ∷ xs) k) n ≡ (nat_eq k n || (nat_eq x n || has_id nat_eq xs n))
    by_rank more Less e = rw e refl
    by_rank more Equal e = let same : k ≡ x = ranked k x Equal (sym e) in rw e (sym (or_self_left (nat_eq x n) (has_id nat_eq xs n)) ∙ ap (λ y. nat_eq y n || (nat_eq x n || has_id nat_eq xs n)) (sym same))
    by_rank more Greater e = rw e (ap (λ b. nat_eq x n || b) more ∙ or_swap (nat_eq k n) (nat_eq x n) (has_id nat_eq xs n))

has_folded : (ids xs : List ℕ) (n : ℕ) → has_id nat_eq (fold (insert_key nat_cmp) xs ids) n ≡ (has_id nat_eq ids n || has_id nat_eq xs n)
has_folded [] xs n = refl
has_folded (k ∷ ids) xs n =
    has_folded ids (insert_key nat_cmp xs k) n ∙ ap (λ b. has_id nat_eq ids n || b) (has_inserted xs k n) ∙ or_turn (has_id nat_eq ids n) (nat_eq k n) (has_id nat_eq xs n)

has_joined : (configs : List (List ℕ)) (ids : List ℕ) (n : ℕ) → has_id nat_eq (fold (λ xs group. fold (insert_key nat_cmp) xs group) ids configs) n ≡ (is_voter nat_eq configs n || has_id nat_eq ids n)
has_joined [] ids n = refl
has_joined (group ∷ configs) ids n =
    has_joined configs (fold (insert_key nat_cmp) ids group) n ∙ ap (λ b. is_voter nat_eq configs n || b) (has_folded group ids n)
    ∙ or_turn (is_voter nat_eq configs n) (has_id nat_eq group n) (has_id nat_eq ids n)

-- the voters are those of the groups
pub has_voter : (configs : List (List ℕ)) (n : ℕ) → has_id nat_eq (voter_ids nat_cmp configs) n ≡ is_voter nat_eq configs n
has_voter configs n = has_joined configs [] n ∙ or_false (is_voter nat_eq configs n)

-- no learner is a voter
pub no_voters : (configs : List (List ℕ)) (nodes : List (ℕ × List ℕ)) → list_any (has_id nat_eq (voter_ids nat_cmp configs)) (learner_ids nat_eq configs nodes) ≡ false
no_voters configs nodes =
    any-filter_same (has_id nat_eq (voter_ids nat_cmp configs)) (λ id. not (is_voter nat_eq configs id)) false
    (λ k h. ap not (sym (has_voter configs k) ∙ h)) (map (λ (x : ℕ × List ℕ). x.0) nodes)

-- each node is a voter or a learner
pub voter_or_learner : (configs : List (List ℕ)) (nodes : List (ℕ × List ℕ)) (n : ℕ) → has_id nat_eq (map (λ (x : ℕ × List ℕ). x.0) nodes) n ≡ true
    → (has_id nat_eq (voter_ids nat_cmp configs) n || has_id nat_eq (learner_ids nat_eq configs nodes) n) ≡ true
voter_or_learner configs nodes n h = ap (λ b. b || has_id nat_eq (learner_ids nat_eq configs nodes) n) (has_voter configs n) ∙ by_vote (is_voter nat_eq configs n) refl
  where
    by_vote : (b : Bool) → is_voter nat_eq configs n ≡ b → (b || has_id nat_eq (learner_ids nat_eq configs nodes) n) ≡ true
    by_vote true e = refl
    by_vote false e =
        any-filter_same (λ x. nat_eq x n) (λ id. not (is_voter nat_eq configs id)) true
        (λ k g. ap (λ m. not (is_voter nat_eq configs m)) (eqb-true k n g) ∙ ap not e) (map (λ (x : ℕ × List ℕ). x.0) nodes) ∙ h

-- the same of a copy
pub has_copy : (m copy : Membership) (learners : List ℕ) → copy ≡ m → learners ≡ learner_ids nat_eq m.configs m.nodes → (n : ℕ) → has_id nat_eq (map (λ (x : ℕ × List ℕ). x.0) m.nodes) n ≡ true
    → (has_id nat_eq (voter_ids nat_cmp copy.configs) n || has_id nat_eq learners n) ≡ true
has_copy m copy learners same are n h =
    ap (λ (y : Membership). has_id nat_eq (voter_ids nat_cmp y.configs) n || has_id nat_eq learners n) same
    ∙ ap (λ ids. has_id nat_eq (voter_ids nat_cmp m.configs) n || has_id nat_eq ids n) are ∙ voter_or_learner m.configs m.nodes n h

module _ {V : Type 0} (value : V) where
  -- the ids that have this value
  abbrev pub all_with : List ℕ → List (ℕ × V)
  all_with ids = map (λ id. (id, value)) ids

  pub has_with : (ids : List ℕ) (n : ℕ) → has_node nat_eq (all_with ids) n ≡ has_id nat_eq ids n
  has_with [] n = refl
  has_with (x ∷ xs) n = ap (λ b. nat_eq x n || b) (has_with xs n)

  value_with : (ids : List ℕ) (n : ℕ) → unwrap_or (value_at nat_eq (all_with ids) n) value ≡ value
  value_with [] n = refl
  value_with (x ∷ xs) n =
      elim (nat_eq x n) as (λ b. nat_eq x n ≡ b → unwrap_or (value_at nat_eq (all_with (x ∷ xs)) n) value ≡ value) [
        | true ↦ λ e. rw e refl
        | false ↦ λ e. rw e (value_with xs n)
      ] refl

  either : (a b : Option V) → unwrap_or a value ≡ value → unwrap_or b value ≡ value → unwrap_or (option_or a b) value ≡ value
  either None b h k = k
  either (Some v) b h k = h

  module _ {P Q : Type 0} (p : Parts ℕ V P Q) (members learners : List ℕ) (voters_are : p.voters ≡ all_with members) (learners_are : p.learners ≡ all_with learners) where
    -- all have this value
    pub all_alike : (n : ℕ) → unwrap_or (value_of nat_eq p n) value ≡ value
    all_alike n =
        ap (λ xs. unwrap_or (option_or (value_at nat_eq xs n) (value_at nat_eq p.learners n)) value) voters_are
        ∙ ap (λ xs. unwrap_or (option_or (value_at nat_eq (all_with members) n) (value_at nat_eq xs n)) value) learners_are
        ∙ either (value_at nat_eq (all_with members) n) (value_at nat_eq (all_with learners) n) (value_with members n) (value_with learners n)

    -- and who is in one of the lists has it
    pub has_each : (n : ℕ) → (has_id nat_eq members n || has_id nat_eq learners n) ≡ true → has_value nat_eq p n ≡ true
    has_each n h =
        ap (λ xs. has_node nat_eq xs n || has_node nat_eq p.learners n) voters_are
        ∙ ap (λ xs. has_node nat_eq (all_with members) n || has_node nat_eq xs n) learners_are
        ∙ ap (λ b. b || has_node nat_eq (all_with learners) n) (has_with members n)
        ∙ ap (λ b. has_id nat_eq members n || b) (has_with learners n) ∙ h

-- who is in one of the lists has a value after a change
pub has_upgraded : {V P Q : Type 0} (old new : Parts ℕ V P Q) (counts : Q) (members learners left : List ℕ) (default : V) → IsUpgraded nat_eq old new counts members (learners ++ left) default
    → (n : ℕ) → (has_id nat_eq members n || has_id nat_eq learners n) ≡ true → has_value nat_eq new n ≡ true
has_upgraded old new counts members learners left default upgraded n h =
    let there : (has_id nat_eq members n || has_id nat_eq (learners ++ left) n) ≡ true =
    ap (λ b. has_id nat_eq members n || b) (list_any-append (λ x. nat_eq x n) learners left)
    ∙ more (has_id nat_eq members n) (has_id nat_eq learners n) (has_id nat_eq left n) h in
    somebody_has nat_eq new n (unwrap_or (value_of nat_eq old n) default)
    (upgraded.values n ∙ ap (λ b. if b then Some (unwrap_or (value_of nat_eq old n) default) else None) there)
  where
    more : (a b c : Bool) → (a || b) ≡ true → (a || (b || c)) ≡ true
    more true b c k = refl
    more false b c k = ap (λ d. d || c) k
