-- Who has accepted all up to a place has accepted all up to a lower one, and so has a quorum.
use Rattle.std.proofs.Common.{◌≡◌, ℕ, suc, ◌+◌, ◌<◌, ◌≤◌, refl, sym, ◌∙◌, arith, inl, inr}
use Rattle.std.specs.Prelude.{Bool, true, false, ◌==◌, nat_eq, nat_lt, if◌then◌else◌, Option, Some, None}
use Rattle.std.proofs.Math.Bool.{true≢false}
use Rattle.std.proofs.lemmas.Bool.Decides.{leb_tells}
use Rattle.std.proofs.lemmas.Bool.{leb-true, le-leb}
use borrow.Author.Tests.{ltb-true, lt-ltb}
use Rattle.raft_values.specs.declared.log_id.LogId.{LogId}
use Rattle.raft_values.specs.LogId.{reaches}
use Rattle.raft_quorums.specs.QuorumLaws.{IsWithin}
use Rattle.raft_leaders.specs.Leader.{LeaderValue, peer_at}
use Rattle.raft_leaders.specs.Accepted.{IsAcceptedEnd, has_accepted}

reaches_lower : (m : Option (LogId ℕ)) (place at : ℕ) → place ≤ at → reaches m at ≡ true → reaches m place ≡ true
reaches_lower None place at h k = k
reaches_lower (Some id) place at h k = le-leb place id.index (let l : at ≤ id.index = leb-true at id.index k in omega arith)

module _ {Q : Type 0} (own : ℕ) (leader : LeaderValue ℕ Q) (accepts : (ℕ → Bool) → Bool) (end : ℕ) where
  -- a quorum has accepted all places from the one on and below the other
  abbrev pub IsReached : ℕ → ℕ → Type 0
  IsReached from reached = (place : ℕ) → from ≤ place → place < reached → accepts (has_accepted own leader end place) ≡ true

  -- none has accepted a place from this one on
  abbrev pub IsRefused : ℕ → Type 0
  IsRefused refused = (place : ℕ) → refused ≤ place → place < end → accepts (has_accepted own leader end place) ≡ false

module _ {Q : Type 0} (own : ℕ) (leader : LeaderValue ℕ Q) (accepts : (ℕ → Bool) → Bool)
    (superset : (p r : ℕ → Bool) → IsWithin p r → accepts p ≡ true → accepts r ≡ true) (from end : ℕ) where
  abbrev accepted : ℕ → Bool
  accepted place = accepts (has_accepted own leader end place)

  lower : (place at : ℕ) → place ≤ at → IsWithin (has_accepted own leader end at) (has_accepted own leader end place)
  lower place at h n k =
      elim (n == own) as (λ b. (if b then nat_lt at end else reaches (peer_at nat_eq leader n).matching at) ≡ true
      → (if b then nat_lt place end else reaches (peer_at nat_eq leader n).matching place) ≡ true) [
        | true ↦ λ l. lt-ltb place end (let m : at < end = ltb-true at end l in omega arith)
        | false ↦ λ l. reaches_lower (peer_at nat_eq leader n).matching place at h l
      ] k

  -- what a quorum has accepted is reached, with all below it
  pub reached_behind : (at : ℕ) → accepted at ≡ true → IsReached own leader accepts end from (at + 1)
  reached_behind at h place above below = superset (has_accepted own leader end at) (has_accepted own leader end place) (lower place at (omega (arith, below))) h

  -- where none has accepted a place, none has one above it
  pub refused_from : (at : ℕ) → accepted at ≡ false → IsRefused own leader accepts end at
  refused_from at h place above below =
      elim (accepted place) as (λ a. accepted place ≡ a → a ≡ false) [
        | true ↦ λ a. absurd (true≢false (sym (superset (has_accepted own leader end place) (has_accepted own leader end at) (lower at place above) a) ∙ h))
        | false ↦ λ a. refl
      ] refl

  -- where what is reached and what is refused meet, that is the end
  pub ends_between : (reached refused : ℕ) → refused ≤ reached → IsReached own leader accepts end from reached → IsRefused own leader accepts end refused
      → IsAcceptedEnd own leader accepts from end reached
  ends_between reached refused meet low high place above below =
      elim (leb_tells (suc place) reached) [
        | inl w ↦ low place above (omega (arith, w.1)) ∙ sym (lt-ltb place reached (omega (arith, w.1)))
        | inr w ↦ high place (omega (arith, w.1, meet)) below ∙ sym w.0
      ]
