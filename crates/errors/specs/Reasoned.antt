-- An answer whose refusal is a reason, before it has places, as the definition's.
use Rattle.std.specs.Prelude as Std
use Rattle.std.specs.Prelude.{Ok, Err}
use Rattle.definition.specs.Basics.{Result, ok, refused, refusal_of}
use Rattle.errors.specs.declared.reasons.Reason.{Reason}
use Rattle.errors.specs.Reasons.{number}

abbrev pub reasoned : {A : Type 0} → Std.Result A Reason → Result A
reasoned (Ok a) = ok a
reasoned (Err r) = refused (refusal_of (number r) 0 0)
