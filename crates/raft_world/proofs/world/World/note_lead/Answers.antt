use Rattle.std.specs.Prelude.{◌∷◌, [], ◌++◌, map}
use Rattle.std.proofs.Common.{sym, ap, ◌∙◌}
use Rattle.std.proofs.lemmas.List.{append-nil, map-append}
use Rattle.raft_world.specs.Settled.{led_of}
use Rattle.raft_laws.specs.GroupWorld.{Led}
use Rattle.raft_world.proofs.PlaceLemmas.{named_there, node_there}
use Rattle.raft_world.proofs.EndingLemmas.{lead_noted, no_lead}
use Rattle.raft_world.proofs.world.World.note_lead.Goals as goal

pub returns-then-not-is_leading-clause-ok : goal.returns-then-not-is_leading-clause-ok
returns-then-not-is_leading-clause-ok c = λ n nodes there are.
    let m = c.index-member.result.now in
    let led = map led_of c.args.self.now.led.items in
    sym (append-nil led)
    ∙ ap (λ (l : _). led ++ l) (sym (no_lead n m (nodes n) c.is_leading.result (node_there _ nodes n c.args.place m there are c.index-member.ensures) c.is_leading.ensures.up c.if-not-is_leading.true))

pub returns-clause-ok : goal.returns-clause-ok
returns-clause-ok c = λ n nodes there are.
    let m = c.index-member.result.now in
    let led = map led_of c.args.self.now.led.items in
    ap (map led_of) c.in_ok-push.ensures.items
    ∙ map-append led_of c.args.self.now.led.items (c.in_ok-led.led ∷ [])
    ∙ ap (λ (l : Led). led ++ (l ∷ [])) c.in_ok-led.ensures
    ∙ ap (λ (l : _). led ++ l) (lead_noted n m (nodes n) c.is_leading.result (node_there _ nodes n c.args.place m there are c.index-member.ensures) (named_there _ n c.args.place m there c.index-member.ensures) c.is_leading.ensures.up c.is_leading.ensures.down c.if-not-is_leading.false)
