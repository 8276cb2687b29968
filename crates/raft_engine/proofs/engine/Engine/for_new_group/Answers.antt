-- What was loaded is the new group, and the engine begins with it.
use Rattle.std.proofs.Common.{◌∙◌, ap, sym, subst, refl}
use Rattle.raft_known_state.specs.KnownState.{KnownState, Knows}
use Rattle.raft_engine.proofs.NewGroupLemmas.{new_group, ready, stands}
use Rattle.raft_engine.proofs.engine.Engine.for_new_group.Goals as goal

pub returns : goal.returns
returns g c = λ event accepted.
    let e = c.of_node.result in
    let is = c.of_node.ensures.begins in
    let known : Knows c.in_ok-known.known new_group =
    c.in_ok-known.ensures.known new_group (sym c.new.ensures) refl c.default-meta.ensures refl tt in
    let fresh = c.in_ok-known.ensures.fresh in
    record {
      stands = stands c.args.id e c.of_node.ensures.config (subst (λ k. Knows k new_group) (sym is.state) known)
          (ap (λ (k : KnownState). k.state.vote.utime) is.state ∙ fresh.0)
          (ap (λ (k : KnownState). k.state.committed) is.state ∙ fresh.1)
          (ap (λ (k : KnownState). k.wish) is.state ∙ fresh.2)
          is.leader is.candidate;
      empty = ap (λ o. o.queue) is.output;
      ready = ready c.args.id;
      accepted = accepted;
    }
