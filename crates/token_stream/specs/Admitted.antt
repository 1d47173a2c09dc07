-- What is refused, and what is known of a list that is not.
use Rattle.std.specs.Prelude.{◌≡◌}
use Rattle.std.specs.Prelude as Std
use Rattle.std.specs.Prelude.{Ok, Err}
use Rattle.definition.specs.Prelude.{ℕ, List}
use Rattle.definition.specs.Basics.{ok, refused, refusal_of}
use Rattle.definition.specs.Tree.{image_of}
use Rattle.definition.specs.Tokens.{token_image}
use Rattle.errors.specs.Reasons.{token_number}
use Rattle.errors.specs.declared.reasons.TokenReason.{TokenReason}
use Rattle.image.specs.declared.token_tree.Counts.{Counts}
use Rattle.token_stream.specs.write.Written.{tree_for, Fitting}

abbrev pub AdmittedIs : List ℕ → List ℕ → ℕ → Std.Result Counts TokenReason → Type 0
AdmittedIs list text area (Ok h) = (token_image list text area ≡ ok (image_of (tree_for list text))) × Fitting list text area h
AdmittedIs list text area (Err r) = token_image list text area ≡ refused (refusal_of (token_number r) 0 0)
