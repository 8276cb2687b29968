use Rattle.std.proofs.Common.{◌∙◌, Some, ap, sym}
use Rattle.std.specs.Option.{option_map}
use Rattle.std.specs.FinMap as finite
use Rattle.raft_kv.specs.Map.{Map}
use Rattle.raft_kv.proofs.Maps.{bytes_of, get_of}
use Rattle.raft_kv.proofs.machine.KvMachine.get.Goals as goal

pub returns-in-Some : goal.returns-in-Some
returns-in-Some c =
    ap (λ bytes. Some bytes) c.as_slice.ensures.value ∙ ap (option_map bytes_of) c.in-Some.ensures.value
    ∙ sym (get_of c.self.inside.pairs c.args.key.now) ∙ ap (λ (m : Map). finite.get m c.args.key.now) c.self.view_is

pub returns-in-None : goal.returns-in-None
returns-in-None c =
    ap (option_map bytes_of) c.in-None.ensures.value
    ∙ sym (get_of c.self.inside.pairs c.args.key.now) ∙ ap (λ (m : Map). finite.get m c.args.key.now) c.self.view_is
