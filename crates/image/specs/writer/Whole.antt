-- A header, and the tables filled with the rows of a tree: the tree's image.
use Rattle.std.specs.Prelude.{◌≡◌, refl, ◌+◌, ◌*◌, ◌++◌}
use Rattle.std.proofs.Common.{sym, ap, ◌∙◌, zero-add, arith}
use Rattle.std.proofs.Math.ListN.{length-append}
use Rattle.std.proofs.lemmas.List.Edits.{sets}
use Rattle.definition.specs.Prelude.{ℕ, List, length}
use Rattle.definition.specs.Basics.{joined}
use Rattle.definition.specs.Image.{tables_for}
use Rattle.definition.specs.Tree.{u32, Tree, Node, recs_of, all_recs, image_of}
use Rattle.laws.specs.Rows.{length_rows, length_record_bytes}
use Rattle.laws.specs.Sets.{sets_front}
use Rattle.laws.specs.Writing.{six_blocks}
use Rattle.image.specs.writer.Written.{Apart, ImageWritten, header_bytes, counts_for, places_for, tree_rows, component_row}

-- six parts back to back, each written at its place
six : (l : List ℕ) (n₁ n₂ n₃ n₄ n₅ : ℕ) (a b c d e f : List ℕ) → length a ≡ n₁ → n₁ + length b ≡ n₂ → n₂ + length c ≡ n₃
    → n₃ + length d ≡ n₄ → n₄ + length e ≡ n₅
    → sets (sets (sets (sets (sets (sets l 0 a) n₁ b) n₂ c) n₃ d) n₄ e) n₅ f ≡ sets l 0 (a ++ b ++ c ++ d ++ e ++ f)
six l n₁ n₂ n₃ n₄ n₅ a b c d e f q₁ q₂ q₃ q₄ q₅ =
    let m₁ = sets l 0 a in
    let m₂ = sets m₁ n₁ b in
    let m₃ = sets m₂ n₂ c in
    let m₄ = sets m₃ n₃ d in
    let m₅ = sets m₄ n₄ e in
    six_blocks l 0 n₁ n₂ n₃ n₄ n₅ a b c d e f
    refl q₁ (at m₁ n₁ b) q₂ (at m₂ n₂ c) q₃ (at m₃ n₃ d) q₄ (at m₄ n₄ e) q₅ (at m₅ n₅ f)
  where
    at : (m : List ℕ) (n : ℕ) (x : List ℕ) → sets m n x ≡ sets m (0 + n) x
    at m n x = ap (λ (k : ℕ). sets m k x) (sym (zero-add n))

module _ (t : Tree) where
  concatenations_long : length (tree_rows 0 t).concatenations ≡ 4 * length t
  concatenations_long = length_rows 4 (λ (c : List Node). u32 (length c)) (λ c. refl) t

  components_long : length (tree_rows 0 t).components ≡ 8 * length (joined t)
  components_long = length_rows 8 (λ (n : Node). component_row (length (recs_of n)) (length n.bits)) (λ n. refl) (joined t)

  records_long : length (tree_rows 0 t).records ≡ 12 * length (all_recs (joined t))
  records_long = length_record_bytes 0 (all_recs (joined t))

  -- the rows of each table end where the next begins, and the image where the last table ends
  pub rows_apart : Apart (places_for (counts_for t)) (tree_rows 0 t)
  rows_apart =
      let c = concatenations_long in
      let n = components_long in
      let r = records_long in
      record { concatenations = omega arith; components = omega arith; records = omega arith; text = omega arith }

  pub image_size : let h = counts_for t in length (image_of t) ≡ (tables_for h.c h.n h.r h.t h.b).stop
  unfolding image_of joined
  image_size =
      let c = concatenations_long in
      let n = components_long in
      let r = records_long in
      simp length-append (omega arith)

pub image_written : ImageWritten
unfolding image_of joined
image_written t area h =
    let p = places_for (counts_for t) in
    let w = tree_rows 0 t in
    six area 40 p.components p.records p.text p.literals (header_bytes (counts_for t)) w.concatenations w.components
    w.records w.text w.literals refl (rw (concatenations_long t)) (rw (components_long t)) (rw (records_long t)) refl
    ∙ sets_front area (image_of t) h
