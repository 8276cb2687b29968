-- How scripts name why a storage isn't opened.
use Rattle.std.specs.Prelude.{ℕ, List, codes}
use Rattle.raft_node_script.specs.declared.home.HomeRefusal.{HomeRefusal}
use Rattle.raft_node_script.specs.declared.home.HomeRefusal.TheVariants.{Damaged, InUse, Memory, OtherNode, System}

abbrev pub label_of : HomeRefusal → List ℕ
label_of System = codes "S1 System"
label_of InUse = codes "S2 InUse"
label_of OtherNode = codes "S3 OtherNode"
label_of Damaged = codes "S4 Damaged"
label_of Memory = codes "S5 Memory"
