-- The lengths of the words that show a text: a bound and an end.
use Rattle.std.specs.Prelude.{◌≤◌, ◌+◌, ◌*◌}
use Rattle.std.proofs.Common.{arith, length-append}
use Rattle.definition.specs.Prelude.{Option, none, some, length}
use Rattle.definition.specs.Basics.{ascii}
use Rattle.definition.specs.Answer.{Bound}
use Rattle.definition.specs.Listing.{shown, signed, bound_word, end_word}
use Rattle.listing_length.specs.Words.{signed_most, shown_most, end_text}

pub bound_most : (b : Bound) → length (bound_word b) ≤ 3 * length b.text + 40
bound_most b = omega (arith, length-append (shown b.text) (signed b.x), shown_most b.text, signed_most b.x)

pub end_most : (e : Option Bound) → length (end_word e) ≤ 3 * end_text e + 40
unfolding ascii
end_most none = omega arith
end_most (some b) = bound_most b
