-- The blocks of concatenations, one after the other, and how many components they have after merging.
use Rattle.std.specs.Prelude.{◌+◌, ◌*◌, ◌∷◌}
use Rattle.std.proofs.Common.{◌≡◌, ◌<◌, get_or, drop, sym, refl, ap, ◌∙◌, add-zero, arith, length-append}
use Rattle.std.proofs.lemmas.List.{drop_more}
use Rattle.std.proofs.lemmas.List.Edits.{sets}
use Rattle.definition.specs.Prelude.{ℕ, List, [], map, length}
use Rattle.definition.specs.Basics.{joined, sum}
use Rattle.definition.specs.Concatenation.{Concatenation, merge, merged}
use Rattle.definition.specs.Answer.{concatenation_bytes}
use Rattle.laws.specs.Sets.{sets_append}
use Rattle.stages.specs.answer.Sizes.{length_concatenation}
use Rattle.stages.specs.concatenation.Heads.{HeadIs, HeadsAre}
use Rattle.stages.specs.declared.component.types.Component.{Component}
use Rattle.stages.specs.declared.concatenation.stage3.Concatenation.{Concatenation as Head}

abbrev pub blocks : List Concatenation → List ℕ
blocks l = joined (map concatenation_bytes (map merged l))

pub length_heads : (l : List Concatenation) → length (blocks l) ≡ 20 * length l
unfolding joined
length_heads [] = refl
length_heads (c ∷ l) =
    let a = length_heads l in
    let b = length_concatenation (merged c) in
    rw (length-append (concatenation_bytes (merged c)) (blocks l)) (omega arith)

abbrev pub size_of : Concatenation → ℕ
size_of d = length (merge d.comps)

module _ (image : List ℕ) (kept : List Component) where
  -- the first concatenation, and the others
  pub record First (x : Head) (xs : List Head) (ds : List Concatenation) : Type 0 where
    pub d : Concatenation
    pub rest : List Concatenation
    pub parts : ds ≡ d ∷ rest
    pub is : HeadIs image kept x d
    pub others : HeadsAre image kept xs rest

  first_of : (x : Head) (xs : List Head) (ds : List Concatenation) → HeadsAre image kept (x ∷ xs) ds → First x xs ds
  first_of x xs [] h = absurd h
  first_of x xs (d ∷ rest) h = record { d = d; rest = rest; parts = refl; is = h.0; others = h.1 }

  pub first_at : (heads : List Head) (i : ℕ) (x : Head) (ds : List Concatenation) → i < length heads → HeadsAre image kept (drop i heads) ds
      → First (get_or heads i x) (drop (i + 1) heads) ds
  first_at heads i x ds l h = first_of (get_or heads i x) (drop (i + 1) heads) ds (rw (drop_more heads i x l) at h)

  -- these are left: their blocks written from here on give the whole
  pub record Blocks (heads : List Head) (i : ℕ) (whole area : List ℕ) : Type 0 where
    pub left : List Concatenation
    pub are : HeadsAre image kept (drop i heads) left
    pub bytes : sets area (32 + 20 * i) (blocks left) ≡ whole

  pub blocks_next : (heads : List Head) (i : ℕ) (x : Head) (whole area after : List ℕ) → i < length heads
      → ((d : Concatenation) → HeadIs image kept (get_or heads i x) d → after ≡ sets area (32 + 20 * i) (concatenation_bytes (merged d)))
      → Blocks heads i whole area → Blocks heads (i + 1) whole after
  unfolding joined
  blocks_next heads i x whole area after l put b = go (first_at heads i x b.left l b.are)
    where
      go : First (get_or heads i x) (drop (i + 1) heads) b.left → Blocks heads (i + 1) whole after
      go f =
          let z : 32 + 20 * (i + 1) ≡ 32 + 20 * i + 20 = omega arith in
          record {
            left = f.rest;
            are = f.others;
            bytes = ap (λ (l : List ℕ). sets l (32 + 20 * (i + 1)) (blocks f.rest)) (put f.d f.is)
                ∙ ap (λ n. sets (sets area (32 + 20 * i) (concatenation_bytes (merged f.d))) n (blocks f.rest)) z
                ∙ sets_append area (32 + 20 * i) (concatenation_bytes (merged f.d)) (blocks f.rest)
                ∙ ap (λ (l : List Concatenation). sets area (32 + 20 * i) (blocks l)) (sym f.parts)
                ∙ b.bytes;
          }

  pub blocks_end : (heads : List Head) (i : ℕ) (whole area : List ℕ) → drop i heads ≡ [] → Blocks heads i whole area → area ≡ whole
  unfolding joined
  blocks_end heads i whole area e b = go b.left (rw e at b.are) b.bytes
    where
      go : (left : List Concatenation) → HeadsAre image kept [] left → sets area (32 + 20 * i) (blocks left) ≡ whole → area ≡ whole
      go [] h q = q
      go (d ∷ rest) h q = absurd h

  -- and their sizes
  pub record Sizes (heads : List Head) (i total m : ℕ) : Type 0 where
    pub left : List Concatenation
    pub are : HeadsAre image kept (drop i heads) left
    pub sum_is : m + sum (map size_of left) ≡ total

  pub sizes_next : (heads : List Head) (i : ℕ) (x : Head) (total m : ℕ) → i < length heads → Sizes heads i total m
      → Sizes heads (i + 1) total (m + (get_or heads i x).merged)
  unfolding sum
  sizes_next heads i x total m l b = go (first_at heads i x b.left l b.are)
    where
      go : First (get_or heads i x) (drop (i + 1) heads) b.left → Sizes heads (i + 1) total (m + (get_or heads i x).merged)
      go f =
          let e = f.is.merged_is in
          let z : sum (map size_of b.left) ≡ size_of f.d + sum (map size_of f.rest) = ap (λ (l : List Concatenation). sum (map size_of l)) f.parts in
          let s = b.sum_is in
          record { left = f.rest; are = f.others; sum_is = omega arith }

  pub sizes_end : (heads : List Head) (i total m : ℕ) → drop i heads ≡ [] → Sizes heads i total m → m ≡ total
  unfolding sum
  sizes_end heads i total m e b = go b.left (rw e at b.are) b.sum_is
    where
      go : (left : List Concatenation) → HeadsAre image kept [] left → m + sum (map size_of left) ≡ total → m ≡ total
      go [] h q = sym (add-zero m) ∙ q
      go (d ∷ rest) h q = absurd h
