use Rattle.std.proofs.Common.{map, ap, ◌∙◌}
use Rattle.std.proofs.lemmas.List.{map-append}
use Rattle.raft_log_items.specs.Found.{found_of}
use Rattle.raft_log_items.proofs.found.files_in.Goals as goal

pub returns-clause-ok : goal.returns-clause-ok
returns-clause-ok g c = (
  map found_of c.in_ok-found.found.items,
  map found_of c.in_ok-behind.behind.items,
  ap (map found_of) c.in_ok-append.ensures.items ∙ map-append found_of c.in_ok-found.found.items c.in_ok-behind.behind.items,
  c.in_ok-found.ensures.ok,
  c.in_ok-behind.ensures.ok,
)
