use Rattle.std.proofs.Common.{◌≡◌, ◌++◌, ◌∷◌, [], ap, ◌∙◌, ℕ}
use Rattle.raft_wire.specs.Frames.{byte_of_kind, kind_of, spelled_parties, spelled_body}
use Rattle.raft_wire.proofs.Joins.{three_parts}
use Rattle.raft_wire.proofs.writing.put_rest.Goals as goal

pub returns-clause-items : goal.returns-clause-items
returns-clause-items c =
    let f = c.args.frame.now in
    let byte : c.byte_of_kind.result ≡ byte_of_kind (kind_of f.message.body) = c.byte_of_kind.ensures ∙ ap byte_of_kind c.kind.ensures in
    let first : c.push.new.self.items ≡ c.args.out.now.items ++ byte_of_kind (kind_of f.message.body) ∷ [] = c.in_ok-push.ensures.items ∙ ap (λ (b : ℕ). c.args.out.now.items ++ b ∷ []) byte in
    let whole = three_parts c.args.out.now.items c.push.new.self.items c.put_parties.new.out.items (byte_of_kind (kind_of f.message.body)) (spelled_parties f) (spelled_body f.message.body) first c.in_ok-put_parties.ensures.items in
    rw whole c.put_body.ensures.items
