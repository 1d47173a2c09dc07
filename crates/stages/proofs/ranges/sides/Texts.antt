-- Texts of the text table: what number one is, and that it lies within the image.
use Rattle.std.specs.Prelude.{◌+◌, ◌-◌}
use Rattle.std.proofs.Common.{◌≡◌, ◌<◌, sym, ap, ◌∙◌, arith, ne_eqb}
use Rattle.definition.specs.Prelude.{ℕ, some, List, drop, pos}
use Rattle.definition.specs.Numbers.{try_parse}
use Rattle.definition.specs.Image.{bytes_at}
use Rattle.definition.specs.Ranges.{number_in}
use Rattle.stages.specs.token_tree.Parts.{part_by, PartFits}
use Rattle.stages.specs.ranges.Sides.{text_in, Between}
use Rattle.stages.specs.declared.token_tree.types.Tree.{Tree}
use Rattle.stages.proofs.token_tree.Written as Written
use Rattle.stages.proofs.token_tree.Written.{text_none, text_some}
use Rattle.stages.proofs.ranges.Bounds.{empty_is}

module _ (image : List ℕ) (t : Tree) (base : ℕ) where
  pub number_empty : (s e : ℕ) → s ≡ e → some (pos 0) ≡ number_in (text_in image t base s e)
  number_empty s e q = ap number_in (sym (text_none image t base s e q))

  pub number_text : (s e : ℕ) → s < e → try_parse (bytes_at image (t.text + s) (e - s)) ≡ number_in (text_in image t base s e)
  number_text s e l =
      sym (ap number_in (text_some image t base s e l)
      ∙ rw (empty_is (e - s) (drop (t.text + s) image), ne_eqb (e - s) 0 (λ q. let z : ◌≡◌ {A = ℕ} (e - s) 0 = q in omega (arith, l, z))))

  pub part_fits : (s e : ℕ) → Between image t base s e → PartFits image t base (part_by s e)
  part_fits s e b = Written.part_fits image t base s e (λ l. b.above) b.order b.room
