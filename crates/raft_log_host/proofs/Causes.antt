-- Why memory refused a call is why the files did.
use Rattle.std.proofs.Common.{◌≡◌, refl, sym, subst}
use Rattle.std.specs.Prelude.{Err}
use Rattle.raft_log_disk.specs.declared.fault.IoFault.{IoFault}
use Rattle.raft_log_disk.specs.Cause.{HasCause, Meter, counted}

pub passed_on : (absent cramped : Type 0) (before after old new : Meter) (fault told : IoFault) → HasCause {T = Unit {0}} absent cramped before after (Err fault) → told ≡ fault
    → new.refusals ≡ counted {T = Unit {0}} (Err fault) old.refusals → new.lacks ≡ old.lacks → new.unreadable ≡ old.unreadable → HasCause {T = Unit {0}} absent cramped old new (Err told)
passed_on absent cramped before after old new fault told m is counts lacks reads =
    subst (λ f. HasCause {T = Unit {0}} absent cramped old new (Err f)) (sym is) (record {
      refused = counts;
      lacks = lacks;
      missing = λ x. refl;
      lacking = λ x. refl;
      not_found = m.not_found;
      no_space = m.no_space;
      reads = reads;
    })
