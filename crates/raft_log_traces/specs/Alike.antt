-- Traces that say the same: only the order of the deleted keys may differ.
use Rattle.std.specs.Prelude.{◌≡◌, ℕ, List}
use Rattle.raft_log_covers.specs.Marks.{is_in}
use Rattle.raft_log_covers.specs.Trace.{Trace}
use Rattle.raft_log_covers.specs.Kept.{Traces}

pub record IsAlike (t u : Trace) : Type 0 where
  pub low : t.low ≡ u.low
  pub next : t.next ≡ u.next
  pub top : t.top ≡ u.top
  pub since : t.since ≡ u.since
  pub tail : t.tail ≡ u.tail
  pub entry_file : (i : ℕ) → t.entry_file i ≡ u.entry_file i
  pub key_file : (k : List ℕ) → t.key_file k ≡ u.key_file k
  pub cleaned : t.cleaned ≡ u.cleaned
  pub deleted : (k : List ℕ) → is_in k t.deleted ≡ is_in k u.deleted

-- the same of every group
abbrev pub AreAlike : Traces → Traces → Type 0
AreAlike ts us = (group : ℕ) → IsAlike (ts group) (us group)
