-- Laws of every history, event by event.
use Rattle.std.specs.Prelude.{◌≡◌, ℕ, List, [], ◌∷◌, ◌++◌, refl}
use Rattle.std.proofs.Common.{sym, subst}
use Rattle.raft_laws.specs.GroupWorld.{GroupWorld, Recorded, is_stop, new_world}
use Rattle.raft_laws.specs.GroupRun.{Replays, happens, outcome_of}
use Rattle.raft_laws.proofs.Histories.{histories-join}

-- a history with one more event
pub one_more : (rs : List Recorded) (w middle : GroupWorld) → Replays w rs middle → (r : Recorded) (k : ℕ) → r.outcome ≡ outcome_of middle r.event (is_stop r.outcome) → Replays w (rs ++ r ∷ []) (happens middle r.event r.outcome k)
one_more rs w middle run r k is = histories-join rs (r ∷ []) w middle (happens middle r.event r.outcome k) run (is, (k, refl))

-- what each event of a history keeps
abbrev pub EventsKeep : List ℕ → (GroupWorld → Type 0) → Type 0
EventsKeep ids P =
    (rs : List Recorded) (w : GroupWorld) → Replays (new_world ids) rs w
    → (r : Recorded) (k : ℕ) → r.outcome ≡ outcome_of w r.event (is_stop r.outcome)
    → P w → P (happens w r.event r.outcome k)

module _ (ids : List ℕ) (P : GroupWorld → Type 0) (keep : EventsKeep ids P) where
  -- holds at the end of a history, if it holds at some place in it
  pub from_there : (early rs : List Recorded) (w end : GroupWorld) → Replays (new_world ids) early w → Replays w rs end → P w → P end
  from_there early [] w end run more p = subst P (sym more) p
  from_there early (r ∷ rs) w end run more p =
      let next = happens w r.event r.outcome more.1.0 in
      from_there (early ++ r ∷ []) rs next end (one_more early (new_world ids) w run r more.1.0 more.0) more.1.1
      (keep early w run r more.1.0 more.0 p)

  pub along : P (new_world ids) → (rs : List Recorded) (end : GroupWorld) → Replays (new_world ids) rs end → P end
  along first rs end run = from_there [] rs (new_world ids) end refl run first
