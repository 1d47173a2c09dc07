-- `output::listed` meets its contract: the listing of what the run left in an area as long as the program's.
use Rattle.std.specs.Prelude.{replicate}
use Rattle.std.proofs.lemmas.List.{length-replicate}
use Rattle.definition.specs.Prelude.{ℕ}
use Rattle.definition.specs.Listing.{program_area}
use Rattle.definition.specs.Run.{under}
use Rattle.output.proofs.Listing.{listed}
use Rattle.output.proofs.listed.Goals as goal

pub returns : goal.returns
returns c =
    let e = listed c.args.image.now (replicate program_area 0) c.run-ran.new.area _ (under c.args.mode) c.run-ran.result.outcome c.run-ran.ensures.0 in
    rw (e, length-replicate {A = ℕ} program_area) at c.write_listing.ensures
