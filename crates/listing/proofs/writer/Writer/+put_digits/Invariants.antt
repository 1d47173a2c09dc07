-- The measure is the number of steps.
use Rattle.listing.proofs.writer.Writer.+put_digits.Given as goal

abbrev pub decreases-put_digits : goal.decreases-put_digits
decreases-put_digits l = l.steps
