-- What is lent to a way of recovery may be sent to a thread.
use mathlib.Core.Bool.{Bool, true, false}
use denote.Exit.{Last, if_kept, left, unseen}
use base.Shift.{Keyless}

-- nothing is said of what is let go, kept or not
pub lets_go : {D : Type 0} (kept : Bool) (x : D) (w : Last (if_kept kept (unseen {D = D}) (unseen {D = D})) x) → Keyless (left (if_kept kept (unseen {D = D}) (unseen {D = D})) x w)
lets_go true x w = tt
lets_go false x w = tt
