-- What an entry asks for.
use Rattle.std.specs.Prelude.{Bool, true, false, Option, Some, None}
use Rattle.raft_membership.specs.declared.membership.Membership.{Membership as Members}
use Rattle.raft_state.specs.declared.entry.EntryPayload.{EntryPayload}
use Rattle.raft_state.specs.declared.entry.EntryPayload.TheVariants.{Blank, Normal, Membership}

module _ {K N D : Type 0} where
  -- the entry asks for nothing
  abbrev pub is_blank : EntryPayload K N D → Bool
  is_blank Blank = true
  is_blank (Normal command) = false
  is_blank (Membership m) = false

  -- the membership that the entry asks for
  abbrev pub membership_of : EntryPayload K N D → Option (Members K N)
  membership_of Blank = None
  membership_of (Normal command) = None
  membership_of (Membership m) = Some m
