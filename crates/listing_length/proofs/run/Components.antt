-- The bytes of text of a component that stage 1 reads: with its starting value, at most twice the bytes of its records.
use Rattle.std.specs.Prelude.{◌≤◌, ◌+◌, ◌*◌}
use Rattle.std.proofs.Common.{arith}
use Rattle.definition.specs.Prelude.{ℕ, Bool, true, false, length}
use Rattle.definition.specs.Image.{Unparsed}
use Rattle.definition.specs.Tree.{text_of}
use Rattle.definition.specs.Text.{items}
use Rattle.definition.specs.Component.{split_of, prefix_of, middle, stage1_component}
use Rattle.answer_facts.specs.read.Facts.{Yields, Every, every_split}
use Rattle.answer_facts.specs.read.Components.{before_range, colon_at}
use Rattle.listing_length.specs.run.Items.{size, items_size, Holding, items_hold}
use Rattle.listing_length.specs.run.Ranges.{yields_map}
use Rattle.listing_length.specs.run.Components.{component_text, TextWithin, range_size, parsed_within, split_size, in_bracket, init_size, colon_within}

mid_holds : (u : Unparsed) → Every Holding (split_of u).mid
mid_holds u =
    let (last, e) = before_range (items 0 u.recs) in
    (every_split {P = Holding} (split_of u).mid {l = last} (rw e at (items_hold 0 u.recs))).0

middle_within : (scanned : Bool) (u : Unparsed) → Every Holding (middle scanned u) × (init_size scanned u + size (middle scanned u) ≤ size (split_of u).mid)
middle_within false u = (mid_holds u, omega arith)
middle_within true u = colon_within (split_of u).mid (mid_holds u) (prefix_of u) (colon_at (split_of u).mid)

pub stage1_text : (scanned : Bool) (u : Unparsed)
    → Yields (λ c. init_size scanned u + component_text c ≤ 2 * length (text_of u.recs)) (stage1_component scanned u)
stage1_text scanned u =
    weaker
    (parsed_within (middle scanned u) (split_of u).range u.bits (middle_within scanned u).0 (in_bracket (items 0 u.recs)))
  where
    n : ℕ
    n = size (middle scanned u) + 2 * range_size (split_of u).range

    least : init_size scanned u + n ≤ 2 * length (text_of u.recs)
    least =
        omega (arith, (middle_within scanned u).1, split_size (items 0 u.recs) (items_hold 0 u.recs), items_size 0 u.recs)

    weaker : Yields (TextWithin n) (stage1_component scanned u)
        → Yields (λ c. init_size scanned u + component_text c ≤ 2 * length (text_of u.recs)) (stage1_component scanned u)
    weaker h = yields_map (λ c k. omega (arith, k, least)) h
