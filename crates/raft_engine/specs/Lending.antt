-- What an engine ends as, where a `&mut` to its candidate is returned, or a handler that leads.
use Rattle.std.specs.Prelude.{◌≡◌, Option, Some, Result}
use Rattle.std.specs.Borrow.{Fml, LendsIf, MutBor, RattleType, RestsIfErr}
use Rattle.std.specs.declared.clone.Clone.{Ghosts as ClonesBy}
use Rattle.std.specs.declared.cmp.Ord.{Ghosts as OrdersBy}
use Rattle.std.specs.declared.cmp.PartialEq.{Ghosts as EqualsBy}
use Rattle.std.specs.declared.cmp.PartialOrd.{Ghosts as ComparesBy}
use Rattle.std.specs.declared.default.Default.{Ghosts as DefaultsBy}
use Rattle.std.specs.declared.fmt.Debug.{Ghosts as DebugsBy}
use Rattle.std.specs.declared.fmt.Display.{Ghosts as DisplaysBy}
use Rattle.raft_values.specs.declared.node.NodeEssential.{Ghosts as NodeBy}
use Rattle.raft_values.specs.declared.node.NodeIdEssential.{Ghosts as NodeIdBy}
use Rattle.raft_quorums.specs.Quorum.{is_quorum}
use Rattle.raft_membership.specs.Membership.{voter_ids}
use Rattle.raft_membership.specs.contracts.effective_membership.EffectiveMembership.{the_row as membership_row}
use Rattle.raft_leaders.specs.contracts.candidate.Candidate.{the_row as candidate_row}
use Rattle.raft_engine.specs.contracts.engine.Engine.{the_row}
use Rattle.raft_engine.specs.declared.leader_handler.LeaderHandler.{LeaderHandler}

-- the types of a group, with what their traits say of them
module _ (C D R K N : RattleType) (c-debug : DebugsBy C.Denot) (d-debug : DebugsBy D.Denot) (r-debug : DebugsBy R.Denot)
    (id : NodeIdBy K.Denot) (id-clone : ClonesBy K.Denot) (id-order : OrdersBy K.Denot) (id-equal : EqualsBy K.Denot) (id-compare : ComparesBy K.Denot)
    (id-debug : DebugsBy K.Denot) (id-display : DisplaysBy K.Denot) (id-default : DefaultsBy K.Denot)
    (node : NodeBy N.Denot) (node-clone : ClonesBy N.Denot) (node-equal : EqualsBy N.Denot) (node-debug : DebugsBy N.Denot) where
  abbrev pub engine_row : RattleType
  engine_row =
      the_row C D R K N c-debug d-debug r-debug (record {}) id id-clone id-order (record {}) id-equal id-compare id-debug id-display id-default
      (record {}) node node-clone (record {}) node-equal node-debug

  abbrev pub counts_row : RattleType
  counts_row = membership_row K N id id-order id-equal id-compare id-debug id-display id-default node node-clone node-equal node-debug

  abbrev pub lent_row : RattleType
  lent_row =
      candidate_row K counts_row id id-order id-equal id-compare id-debug id-display id-default
      (record { accepts = λ m p. is_quorum m.membership.configs p; members = λ m. voter_ids id-order.cmp m.membership.configs })

  -- the engine ends with the candidate last written through r, or as it was
  abbrev pub LendsCandidate : MutBor engine_row.Denot → Option (MutBor lent_row.Denot) → Fml
  LendsCandidate e r = LendsIf engine_row lent_row e r (λ w. record e.now { candidate = Some w }) e.now

  -- the engine ends as the handler in r leaves it, or as it was where r has none
  abbrev pub LendsToLeader : {T E : Type 0} → MutBor engine_row.Denot → Result (LeaderHandler C.Denot D.Denot R.Denot K.Denot N.Denot × T) E → Fml
  LendsToLeader e r = RestsIfErr engine_row e (λ taken. taken.0.engine.ghost_name) r (λ last. last ≡ e.now)
