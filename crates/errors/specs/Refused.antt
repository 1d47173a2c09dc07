-- An answer in code as the definition's: what it holds, or document 01's number of the refusal and its two places.
use Rattle.std.specs.Prelude as Std
use Rattle.std.specs.Prelude.{Ok, Err}
use Rattle.definition.specs.Prelude.{ℕ}
use Rattle.definition.specs.Basics.{Result, ok, refused, refusal_of}
use Rattle.errors.specs.declared.Refusal.{Refusal}

abbrev pub refused_as : {A : Type 0} → Refusal → Result A
refused_as r = refused (refusal_of r.number r.concatenation r.component)

abbrev pub result_of : {A : Type 0} → Std.Result A Refusal → Result A
result_of (Ok a) = ok a
result_of (Err q) = refused_as q

-- an answer as one number: 0 where nothing is refused, else document 01's number of the refusal
abbrev pub number_in : {A : Type 0} → Result A → ℕ
number_in (ok a) = 0
number_in (refused q) = q.number
