-- Laws of the worlds to which histories lead: what leaders hold, and what a log id stands for.
use Rattle.std.specs.Prelude.{ℕ, List}
use Rattle.std.proofs.Common.{⊎_elim, ap, ◌∙◌}
use Rattle.raft_group_step.specs.Values.{vote_lt}
use Rattle.raft_laws.specs.GroupWorld.{GroupWorld, Recorded, Up}
use Rattle.raft_laws.specs.OneList.{IsGroupHistory, LeadersHold, LogIdsAgree}
use Rattle.raft_laws.proofs.BallotSafe.{among_at}
use Rattle.raft_laws.proofs.Counts.{contains_at}
use Rattle.raft_laws.proofs.HeldLists.{at_node, leader_holds, machine, node_holds, one_id}
use Rattle.raft_laws.proofs.WorldStart.{founded}

pub leaders_hold : (ids : List ℕ) (rs : List Recorded) (end : GroupWorld) → IsGroupHistory ids rs end → LeadersHold end
leaders_hold ids rs end h vote e settled n s leading above =
    let f = founded ids h.node_ids rs end h.replays in
    let l = settled.0 in
    let at = contains_at end.led l settled.2 in
    let among = among_at end.led at.0 l at.1 in
    let place = contains_at _ e settled.3 in
    let fits = at_node f.membership (machine f.membership f.some end f.is) end f.is.matches.fits n (Up s) leading.is_up in
    ⊎_elim
    (λ is. leader_holds f.membership f.some end f.is is l among place.0 e place.1 n s fits.1 leading.leads (ap (vote_lt s.stored.vote) settled.1 ∙ above))
    (λ no. absurd (no l among))
    f.is.setup

pub log_ids_agree : (ids : List ℕ) (rs : List Recorded) (end : GroupWorld) → IsGroupHistory ids rs end → LogIdsAgree end
log_ids_agree ids rs end h one other a b is also =
    let f = founded ids h.node_ids rs end h.replays in
    let m = f.membership in
    let w = machine m f.some end f.is in
    let fits = f.is.matches.fits in
    one_id m f.some end f.is one other a b
    (node_holds m w one (end.nodes one) a (fits.nodes one) is)
    (node_holds m w other (end.nodes other) b (fits.nodes other) also)
