-- The first of several faults.
use Rattle.std.specs.Prelude.{Bool, if◌then◌else◌, Option, Some}

-- the fault if it is there, else what else there is
abbrev pub or_fault : {E : Type 0} → Bool → E → Option E → Option E
or_fault there fault others = if there then Some fault else others
