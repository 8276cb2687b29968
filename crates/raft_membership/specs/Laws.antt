-- What the laws of memberships say.
use Rattle.std.specs.Prelude.{◌≡◌, Bool, None, List, [], ◌∷◌, IsTrue}
use Rattle.std.specs.declared.cmp.Ordering.{Ordering}
use Rattle.raft_membership.specs.declared.membership.Membership.{Membership}
use Rattle.raft_membership.specs.declared.change_members.ChangeMembers.TheVariants.{ReplaceAllVoters}
use Rattle.raft_membership.specs.Membership.{is_voter}
use Rattle.raft_membership.specs.MembershipChange.{changed}
use Rattle.raft_membership.specs.Validity.{validity_fault}

-- a voter passes both tests
abbrev pub ShareAVoter : {K : Type 0} → (K → K → Bool) → List (List K) → (K → Bool) → (K → Bool) → Type 0
ShareAVoter {K} eq configs p r = (id : K) × IsTrue (is_voter eq configs id) × IsTrue (p id) × IsTrue (r id)

module _ {K N : Type 0} (eq : K → K → Bool) (cmp : K → K → Ordering) where
  -- the membership is valid
  abbrev pub IsValid : Membership K N → Type 0
  IsValid m = validity_fault eq cmp m.configs m.nodes ≡ None

  -- replacing all voters by the goal, twice, is accepted each time and leaves the goal alone
  abbrev pub IsReplacedInTwo : Membership K N → List K → Bool → Type 0
  IsReplacedInTwo m goal retain =
      let once : Membership K N = changed eq cmp m (ReplaceAllVoters goal) retain in
      let twice : Membership K N = changed eq cmp once (ReplaceAllVoters goal) retain in
      IsValid once × IsValid twice × (twice.configs ≡ goal ∷ [])
