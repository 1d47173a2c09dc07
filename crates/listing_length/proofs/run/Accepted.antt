-- The listing of an accepted run, from its answer.
use Rattle.std.specs.Prelude.{◌≡◌, ◌≤◌, ◌<◌, ◌+◌, ◌*◌, ◌^◌}
use Rattle.std.proofs.Common.{arith}
use Rattle.definition.specs.Prelude.{ℕ, List, length}
use Rattle.definition.specs.Basics.{ok, joined}
use Rattle.definition.specs.Limits.{limits}
use Rattle.definition.specs.Image.{counts, tree_of}
use Rattle.definition.specs.Check.{check_image}
use Rattle.definition.specs.Answer.{Answer, components, answer_bytes}
use Rattle.definition.specs.Listing.{listing}
use Rattle.definition.specs.Run.{Choices, stages}
use Rattle.laws.specs.Tests.{tested}
use Rattle.prepared.specs.back.Every.{all_tested}
use Rattle.answer_facts.specs.fits.Statement.{Fits}
use Rattle.answer_facts.specs.fits.Proved.{answer_fits}
use Rattle.answer_facts.specs.read.Facts.{the_given}
use Rattle.answer_facts.specs.read.Trees.{total}
use Rattle.listing_length.specs.run.Listing.{longest_listing}
use Rattle.listing_length.specs.run.Stages.{twice, texts_of, init_text}
use Rattle.listing_length.specs.run.Records.{tree_text}
use Rattle.listing_length.specs.run.Reading.{ReadLess, read_lengths}
use Rattle.listing_length.proofs.Lines.{accepted_most}
use Rattle.listing_length.proofs.run.Stages.{stages_text}

-- the counts of an image that passes the check
record Counted (image : List ℕ) : Type 0 where
  concatenations : (counts image).c ≤ limits.concatenations
  components_most : (counts image).n ≤ limits.components
  text_most : (counts image).t ≤ limits.text
  literals_most : (counts image).b ≤ limits.literal_bytes

counted : (image : List ℕ) → check_image image ≡ ok tt → Counted image
counted image h =
    let q = simp tested at (all_tested image h).counted in
    record { concatenations = q.0.0.0.0.1; components_most = q.0.0.0.1.1; text_most = q.0.1.1; literals_most = q.1 }

-- ---- an accepted run

pub answer_listing : (image : List ℕ) (how : Choices) (a : Answer) → check_image image ≡ ok tt → stages how (tree_of image) ≡ ok a
    → length (listing image (ok (answer_bytes a))) ≤ longest_listing
answer_listing image how a h e = go (counted image h) (answer_fits image h how a e) (the_given (rw e at (stages_text how (tree_of image))))
  where
    go : Counted image → Fits image a → init_text a.init + total texts_of (components a) ≤ total twice (joined (tree_of image))
        → length (listing image (ok (answer_bytes a))) ≤ longest_listing
    go k f t =
        let few : length a.cc < 2 ^ 32 = omega (arith, f.concatenations, k.concatenations) in
        let small : length (components a) < 2 ^ 32 = omega (arith, f.merged, k.components_most) in
        let r : ReadLess image a few small = read_lengths image a few small in
        accepted_most image (answer_bytes a) (2 * limits.text) limits.literal_bytes (
          omega (arith, r.concats, f.concatenations, k.concatenations),
          omega (arith, r.fields, f.merged, k.components_most),
          omega (arith, r.text, t, tree_text image h, k.text_most),
          omega (arith, r.literal_bytes_lem, f.literals, k.literals_most),
        )
