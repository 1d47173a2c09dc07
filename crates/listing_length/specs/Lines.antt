-- What a listing's length is told by: the bytes of text and of literals of an answer. The lengths themselves stand in proofs/.
use Rattle.std.specs.Prelude.{◌+◌}
use Rattle.definition.specs.Prelude.{ℕ, map, length}
use Rattle.definition.specs.Basics.{sum}
use Rattle.definition.specs.Answer.{Field, Read}
use Rattle.listing_length.specs.Words.{end_text}

-- a component's bytes of text
abbrev pub text_of : Field → ℕ
text_of f = length f.text + length f.start.text + end_text f.«end»

abbrev pub texts : Read → ℕ
texts r = length r.init + sum (map text_of r.fields)

abbrev pub literals : Read → ℕ
literals r = sum (map (λ f. length f.literal) r.fields)
