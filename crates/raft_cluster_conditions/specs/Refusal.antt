-- Why a cluster refuses an event: the first reason that holds.
use Rattle.std.specs.Prelude.{ℕ, Bool, true, false, not, List, [], ◌∷◌, Option, Some, None}
use Rattle.raft_cluster_conditions.specs.declared.reasons.Asked.{Asked}
use Rattle.raft_cluster_conditions.specs.declared.reasons.Asked.TheVariants.{SetUp, Delivery, Fuse, Reopen}
use Rattle.raft_cluster_conditions.specs.declared.reasons.ClusterRefusal.{ClusterRefusal}
use Rattle.raft_cluster_conditions.specs.declared.reasons.ClusterRefusal.TheVariants.{NoNode, NodeDown, NodeUp, NoFrame, SetupDiffers, ByChance, NotAnImage, BadCut}
use Rattle.raft_cluster_conditions.specs.declared.reasons.NodeStanding.{NodeStanding}
use Rattle.raft_cluster_conditions.specs.declared.reasons.NodeStanding.TheVariants.{Missing, Down, Up}
use Rattle.raft_cluster_conditions.specs.Cuts.{are_cuts}

-- the first reason whose test holds
abbrev pub first_of : List (Bool × ClusterRefusal) → Option ClusterRefusal
first_of [] = None
first_of ((true, why) ∷ others) = Some why
first_of ((false, why) ∷ others) = first_of others

-- ---- the reasons

-- no frame has this number
abbrev pub lacks_frame : Asked → Bool
lacks_frame (Delivery None) = true
lacks_frame _ = false

abbrev pub is_missing : NodeStanding → Bool
is_missing Missing = true
is_missing Down = false
is_missing Up = false

abbrev pub is_reopening : Asked → Bool
is_reopening Reopen = true
is_reopening _ = false

-- it can be asked of a node that is down
abbrev pub may_be_down : Asked → Bool
may_be_down Fuse = true
may_be_down Reopen = true
may_be_down _ = false

-- it is down, where it has to be up
abbrev pub is_wrongly_down : NodeStanding → Asked → Bool
is_wrongly_down Down asked = not (may_be_down asked)
is_wrongly_down _ asked = false

-- it is up, where it has to be down
abbrev pub is_wrongly_up : NodeStanding → Asked → Bool
is_wrongly_up Up asked = is_reopening asked
is_wrongly_up _ asked = false

abbrev pub has_bad_cut : Asked → List ℕ → Bool
has_bad_cut (Delivery (Some length)) cuts = not (are_cuts 0 length cuts)
has_bad_cut _ cuts = false

abbrev pub sets_up_otherwise : Asked → Bool
sets_up_otherwise (SetUp differs) = differs
sets_up_otherwise _ = false

-- ---- in their order

abbrev pub refusal_of : NodeStanding → Asked → List ℕ → Option ClusterRefusal
refusal_of node asked cuts =
    first_of
    ((lacks_frame asked, NoFrame)
    ∷ (is_missing node, NoNode)
    ∷ (is_wrongly_down node asked, NodeDown)
    ∷ (is_wrongly_up node asked, NodeUp)
    ∷ (has_bad_cut asked cuts, BadCut)
    ∷ (sets_up_otherwise asked, SetupDiffers)
    ∷ [])

-- ---- behind all of these

-- only the node of a crash can tell it, by its files
abbrev pub is_of_crash : ClusterRefusal → Bool
is_of_crash NoNode = false
is_of_crash NodeDown = false
is_of_crash NodeUp = false
is_of_crash NoFrame = false
is_of_crash SetupDiffers = false
is_of_crash ByChance = true
is_of_crash NotAnImage = true
is_of_crash BadCut = false
