-- What an answer that failed leaves.
use Rattle.layout.specs.declared.Failure.{Failure}
use Rattle.layout.specs.declared.Failure.TheVariants.{Input, Output}

-- P where the input could not be read; nothing is said where the listing could not be written
abbrev pub IfUnread : Failure → Type 0 → Type 0
IfUnread (Input e) P = P
IfUnread (Output e) P = Unit {0}
