-- What still fits, so that no memory is taken.
use Rattle.std.specs.Prelude.{◌≡◌, ℕ, suc, ◌+◌, ◌≤◌, List, [], length, slice_get, Some, Vec, vec_len, vec_capacity}
use Rattle.std.specs.declared.alloc.Global.{Global}
use Rattle.raft_group_lists.specs.declared.notes.Lead.{Lead}
use Rattle.raft_group_lists.specs.declared.notes.Noted.{Noted}
use Rattle.raft_group_lists.specs.declared.notes.Reached.{Reached}
use Rattle.raft_group_lists.specs.Notes.{IsWithin, Notes, SameLeads, notes_of}

-- so many items more fit
abbrev pub HasSpace : {X : Type 0} → Vec X Global → ℕ → Type 0
HasSpace v n = vec_len v + n ≤ vec_capacity v

-- under each vote so many nodes more fit
abbrev pub EachHasSpace : List Lead → ℕ → Type 0
EachHasSpace leads n = (i : ℕ) (lead : Lead) → slice_get leads i ≡ Some lead → HasSpace lead.reached n

-- kept for new votes: nothing is in them
abbrev pub AreSpares : List (Vec Reached Global) → Type 0
AreSpares spares = (i : ℕ) (v : Vec Reached Global) → slice_get spares i ≡ Some v → v.items ≡ []

-- so many nodes fit in each of them
abbrev pub EachHolds : List (Vec Reached Global) → ℕ → Type 0
EachHolds spares n = (i : ℕ) (v : Vec Reached Global) → slice_get spares i ≡ Some v → n ≤ vec_capacity v

-- so many times more, what a node accepted under a vote fits, also where both are new
pub record CanLearn (leads : List Lead) (capacity : ℕ) (spares : List (Vec Reached Global)) (n : ℕ) : Type 0 where
  pub votes : length leads + n ≤ capacity
  pub nodes : EachHasSpace leads n
  pub spares_left : n ≤ length spares
  pub spare_nodes : EachHolds spares n

-- once the vote has its place: so many votes more fit, and under each vote one node more than that
pub record HasPlace (leads : List Lead) (capacity : ℕ) (spares : List (Vec Reached Global)) (n : ℕ) : Type 0 where
  pub votes : length leads + n ≤ capacity
  pub nodes : EachHasSpace leads (suc n)
  pub spares_left : n ≤ length spares
  pub spare_nodes : EachHolds spares n

-- the same is noted, and no less fits
pub record AreWider (some other : List Lead) : Type 0 where
  pub same : SameLeads some other
  pub size : length other ≡ length some
  pub lasts : (noted : List Noted) → ((i : ℕ) (lead : Lead) → slice_get some i ≡ Some lead → IsWithin noted lead.last)
      → (i : ℕ) (lead : Lead) → slice_get other i ≡ Some lead → IsWithin noted lead.last
  pub space : (n : ℕ) → EachHasSpace some n → EachHasSpace other n

-- how many entries, places of the list, and votes fit in all, and the vectors that are kept for new votes
pub record Capacities : Type 0 where
  pub noted : ℕ
  pub listed : ℕ
  pub leads : ℕ
  pub spares : List (Vec Reached Global)

-- what is noted, and what fits
pub record Kept : Type 0 where
  pub notes : Notes
  pub fits : Capacities

abbrev pub kept_of : List (List ℕ) → Vec Noted Global → Vec Lead Global → Vec ℕ Global → Vec (Vec Reached Global) Global → Kept
kept_of voters noted leads listed spares =
    record {
      notes = notes_of voters noted.items leads.items listed.items;
      fits = record { noted = vec_capacity noted; listed = vec_capacity listed; leads = vec_capacity leads; spares = spares.items };
    }

-- so many entries more can be written, and so many notes and acceptances taken
pub record HasRoom (k : Kept) (writes learns : ℕ) : Type 0 where
  pub noted : length k.notes.noted + writes ≤ k.fits.noted
  -- each entry that is noted can be one of the list
  pub listed : length k.notes.noted + writes ≤ k.fits.listed
  pub learned : CanLearn k.notes.leads k.fits.leads k.fits.spares learns
