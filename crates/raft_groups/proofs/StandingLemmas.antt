-- What a node is in a group after an event of another one, or of its own.
use Rattle.std.proofs.Common.{◌≡◌, ℕ, List, [], ◌∷◌, Option, Some, refl, sym, ap, subst, ◌∙◌}
use Rattle.raft_group_step.specs.StoredGroup.{StoredGroup}
use Rattle.raft_group_storage.specs.Keeping.{KeepsOthers}
use Rattle.raft_laws.specs.GroupWorld.{NodeState, Absent, Up, Down}
use Rattle.raft_laws.proofs.BallotAgreement.{same_some}
use Rattle.raft_member.specs.declared.member.Member.{Member}
use Rattle.raft_groups.specs.Standing.{HasMember, StandsAs}

-- where a member and what is shown of its group stay, the node stands as before
pub stays_at : (own now : ℕ) (old new : ℕ → Option Member) (well_old well_new : Type 0) (shows_old shows_new : ℕ → List StoredGroup → Type 0) (group : ℕ) (x : NodeState) → now ≡ own → new group ≡ old group → (well_old → well_new)
    → ((parts : List StoredGroup) → shows_old group parts → shows_new group parts) → StandsAs own old well_old shows_old group x → StandsAs now new well_new shows_new group x
stays_at own now old new well_old well_new shows_old shows_new group Absent is same well keeps h = (same ∙ h.0, well h.1, keeps _ h.2)
stays_at own now old new well_old well_new shows_old shows_new group (Up s) is same well keeps h =
    let u = h.holds in
    record {
      member = h.member;
      has = same ∙ h.has;
      owned = h.owned ∙ sym is;
      holds = record {
        engine = u.engine;
        has_engine = u.has_engine;
        idle = u.idle;
        well = well u.well;
        stored = keeps (s.stored ∷ []) u.stored;
        present = u.present;
        moment = u.moment;
      };
    }
stays_at own now old new well_old well_new shows_old shows_new group (Down kept) is same well keeps h =
    let d = h.holds in
    record {
      member = h.member;
      has = same ∙ h.has;
      owned = h.owned ∙ sym is;
      holds = record { no_engine = d.no_engine; well = well d.well; stored = keeps (kept ∷ []) d.stored; present = d.present };
    }

-- another group's event leaves it
pub stays : (own : ℕ) (old new : ℕ → Option Member) (well_old well_new : Type 0) (shows_old shows_new : ℕ → List StoredGroup → Type 0) (group other : ℕ) (x : NodeState) → new other ≡ old other → (well_old → well_new)
    → KeepsOthers shows_old shows_new group → (other ≡ group → ⊥) → StandsAs own old well_old shows_old other x → StandsAs own new well_new shows_new other x
stays own old new well_old well_new shows_old shows_new group other x same well keeps apart h =
    stays_at own own old new well_old well_new shows_old shows_new other x refl same well (λ parts. keeps other parts apart) h

-- what a member's call promises is promised of its group
pub of_group : (own group : ℕ) (old new : ℕ → Option Member) (m after : Member) (P : Member → Type 0) (Q : ℕ → Member → Type 0) → HasMember own old group P → old group ≡ Some m → new group ≡ Some after → after.id ≡ m.id
    → (m.id ≡ own → P m → Q m.id after) → HasMember own new group (Q own)
of_group own group old new m after P Q h was now id call =
    let same : h.member ≡ m = same_some (sym h.has ∙ was) in
    let owned : m.id ≡ own = ap (λ (x : Member). x.id) (sym same) ∙ h.owned in
    record { member = after; has = now; owned = id ∙ owned; holds = subst (λ n. Q n after) owned (call owned (subst P same h.holds)) }
