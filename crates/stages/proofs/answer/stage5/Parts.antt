-- The whole answer: its four parts one after the other, and its numbers as the code keeps them.
use Rattle.std.specs.Prelude as Std
use Rattle.std.specs.Prelude.{Some, None, ◌+◌, ◌*◌, ◌^◌, ◌∷◌, ◌++◌}
use Rattle.std.proofs.Common.{◌≡◌, ◌<◌, ◌≤◌, sym, refl, ap, ◌∙◌, add-zero, zero-add, arith}
use Rattle.std.proofs.lemmas.List.Edits.{sets}
use mathlib.Core.List.{map-map}
use lib.Seq.{length-sets}
use Rattle.definition.specs.Prelude.{ℕ, suc, Option, none, some, List, [], map, length}
use Rattle.definition.specs.Basics.{sum, joined}
use Rattle.definition.specs.Image.{Placed}
use Rattle.definition.specs.Tree.{u32}
use Rattle.definition.specs.Text as Text
use Rattle.definition.specs.Component as Def
use Rattle.definition.specs.Concatenation.{Concatenation, align_number, merge, merged}
use Rattle.definition.specs.Answer.{Answer, flag, components, width_bytes, text_bytes, head_bytes, concatenation_bytes, components_bytes, answer_bytes}
use Rattle.laws.specs.Lists.{length_joined}
use Rattle.laws.specs.Writing.{four_blocks}
use Rattle.numbers.specs.Value.{option_usize}
use Rattle.answer_facts.specs.fits.Statement.{literals_of}
use Rattle.answer_facts.specs.read.Trees.{merged_comps}
use Rattle.stages.specs.token_tree.Table.{tree_in}
use Rattle.stages.specs.component.Start.{start_of, is_given, TextFits}
use Rattle.stages.specs.concatenation.alignment.Align.{align_of}
use Rattle.stages.specs.concatenation.Heads.{HeadsAre}
use Rattle.stages.specs.answer.Blocks.{word_bytes, text_block, width_number, start_part, head_of}
use Rattle.stages.specs.answer.Sizes.{length_head}
use Rattle.stages.specs.answer.merging.Blocks.{length_blocks}
use Rattle.stages.specs.answer.merging.Put.{Room}
use Rattle.stages.specs.answer.Stage5.{merged_all, comps_of, PutHeadsIs, PutAllIs, PutFits, answer_from, Answers}
use Rattle.stages.specs.declared.answer.merging.Writing.{Writing}
use Rattle.stages.specs.declared.component.types.Component.{Component}
use Rattle.stages.specs.declared.component.start.Start.{Start}
use Rattle.stages.specs.declared.concatenation.overall.Overall.{Overall}
use Rattle.stages.specs.declared.concatenation.stage3.Concatenation.{Concatenation as Head}
use Rattle.stages.proofs.answer.blocks.Words.{text_is}
use Rattle.stages.proofs.answer.heads.Headed.{width_is}
use Rattle.stages.proofs.answer.heads.Listed.{blocks, length_heads, size_of}

-- where the components begin, and their literal bytes
abbrev pub from : ℕ → ℕ → Writing
from c m = record { at = 32 + 20 * c; literals = 32 + 20 * c + 72 * m; offset = 0 }

-- ---- the head

abbrev init_number : Option (Placed Text.Part) → ℕ
init_number p = elim p [ none ↦ 0 | some q ↦ 4 ]

abbrev init_bytes : Option (Placed Text.Part) → List ℕ
init_bytes p = elim p [ none ↦ u32 0 ++ u32 0 | some q ↦ text_bytes q.base q.value ]

module _ (image : List ℕ) (base : ℕ) where
  flag_is : (s : Std.Option Start) → flag (is_given s) 4 ≡ init_number (start_of image (tree_in image) base s)
  flag_is None = refl
  flag_is (Some s) = refl

  -- the starting value's text
  init_is : (s : Std.Option Start) → TextFits image (tree_in image) base s
      → text_block (start_part s) ≡ init_bytes (start_of image (tree_in image) base s)
  init_is None h = refl
  init_is (Some s) h = text_is image (tree_in image) base s.s h

  pub head_is : (s : Std.Option Start) → TextFits image (tree_in image) base s → (o : Overall) (ds : List Concatenation) (c m : ℕ) → length (map merged ds) ≡ c
      → length (components (answer_from image base s o ds)) ≡ m
      → head_of c m (width_number o.width) (flag o.deterministic 1 + flag o.nonzero 2 + flag (is_given s) 4) (align_number (align_of o.align)) (start_part s)
      ≡ head_bytes (answer_from image base s o ds)
  head_is s h o ds c m p q =
      let f : ℕ = flag o.deterministic 1 + flag o.nonzero 2 in
      let k = u32 (align_number (align_of o.align)) in
      let a = answer_from image base s o ds in
      let w = word_bytes (width_number o.width) in
      ap (λ x. u32 x ++ u32 m ++ w ++ u32 (f + flag (is_given s) 4) ++ k ++ text_block (start_part s)) (sym p)
      ∙ ap (λ x. u32 (length (map merged ds)) ++ u32 x ++ w ++ u32 (f + flag (is_given s) 4) ++ k ++ text_block (start_part s)) (sym q)
      ∙ ap (λ x. u32 (length (map merged ds)) ++ u32 (length (components a)) ++ x ++ u32 (f + flag (is_given s) 4) ++ k ++ text_block (start_part s)) (width_is o.width)
      ∙ ap (λ x. u32 (length (map merged ds)) ++ u32 (length (components a)) ++ width_bytes (option_usize o.width) ++ u32 (f + x) ++ k ++ text_block (start_part s))
      (flag_is s)
      ∙ ap (λ x. u32 (length (map merged ds)) ++ u32 (length (components a)) ++ width_bytes (option_usize o.width)
      ++ u32 (f + init_number (start_of image (tree_in image) base s)) ++ k ++ x) (init_is s h)

-- ---- the four parts

count_merged : (ds : List Concatenation) → sum (map size_of ds) ≡ length (joined (map (λ (d : Concatenation). d.comps) (map merged ds)))
count_merged ds = sym (length_joined (map (λ (d : Concatenation). d.comps) (map merged ds)) ∙ ap sum (simp map-map))

answer_parts : (a : Answer) (ms : List (Placed Def.Component)) → components a ≡ ms
    → answer_bytes a ≡ head_bytes a ++ joined (map concatenation_bytes a.cc) ++ components_bytes 0 ms ++ literals_of ms
unfolding answer_bytes
answer_parts a ms e = ap (λ x. head_bytes a ++ joined (map concatenation_bytes a.cc) ++ components_bytes 0 x ++ literals_of x) e

-- from the front
parts : (before m₁ m₂ m₃ after h b c l : List ℕ) (count total : ℕ) → length h ≡ 32 → length b ≡ 20 * count → length c ≡ 72 * total
    → m₁ ≡ sets before 0 h → m₂ ≡ sets m₁ 32 b → m₃ ≡ sets m₂ (32 + 20 * count) c → after ≡ sets m₃ (32 + 20 * count + 72 * total) l
    → after ≡ sets before 0 (h ++ b ++ c ++ l)
parts before m₁ m₂ m₃ after h b c l count total lh lb lc p₁ p₂ p₃ p₄ =
    four_blocks before 0 32 (32 + 20 * count) (32 + 20 * count + 72 * total) h b c l p₁ lh p₂ (ap (λ x. 32 + x) lb)
    (p₃ ∙ ap (λ x. sets m₂ x c) (sym (zero-add (32 + 20 * count)))) (ap (λ x. 32 + 20 * count + x) lc)
    (p₄ ∙ ap (λ x. sets m₃ x l) (sym (zero-add (32 + 20 * count + 72 * total))))

heads_long : (image : List ℕ) (kept : List Component) (heads : List Head) (ds : List Concatenation) → HeadsAre image kept heads ds → length ds ≡ length heads
heads_long image kept [] [] h = refl
heads_long image kept [] (d ∷ ds) h = absurd h
heads_long image kept (x ∷ xs) [] h = absurd h
heads_long image kept (x ∷ xs) (d ∷ ds) h = ap suc (heads_long image kept xs ds h.1)

module _ (image : List ℕ) (kept : List Component) (heads : List Head) (base : ℕ) (o : Overall) (s : Std.Option Start) (area : ℕ) (ds : List Concatenation)
    (h : Answers image kept heads base o s area ds) (m : ℕ)
    (m_is : (image : List ℕ) (kept : List Component) (ds : List Concatenation) → HeadsAre image kept heads ds
    → m ≡ sum (map (λ (d : Concatenation). length (merge d.comps)) ds))
  where
    abbrev c : ℕ
    c = length heads

    abbrev a : Answer
    a = answer_from image base s o ds

    abbrev ms : List (Placed Def.Component)
    ms = merged_all (comps_of ds)

    are_merged : components a ≡ ms
    are_merged = ap joined (merged_comps ds)

    total_is : length (components a) ≡ m
    total_is = sym (m_is image kept ds h.are ∙ count_merged ds)

    pub total_few : m ≤ 256
    total_few = let e = total_is in let f = h.fitting.merged_few in omega arith

    lits : length (literals_of ms) ≤ 8192
    lits = rw are_merged at h.fitting.literals

    long_merged : length ms ≡ m
    long_merged = ap length (sym are_merged) ∙ total_is

    sized : length (answer_bytes a) ≡ 32 + 20 * c + 72 * m + length (literals_of ms)
    sized =
        h.fitting.size ∙ ap (λ x. 32 + 20 * x + 72 * length (components a) + length (literals_of (components a))) h.fitting.concatenations
        ∙ ap (λ x. 32 + 20 * c + 72 * x + length (literals_of (components a))) total_is
        ∙ ap (λ x. 32 + 20 * c + 72 * m + length (literals_of x)) are_merged

    -- room for the head and for the concatenations
    pub head_fits : 32 + 20 * c ≤ area
    head_fits = let z = sized in let r = h.fitting.room in omega arith

    room : (l : List ℕ) → length l ≡ area → Room l (from c m) ms
    room l same =
        let long = long_merged in
        let few = lits in
        let size = sized in
        let r = h.fitting.room in
        let t = total_few in
        let u = h.few in
        record { blocks = omega arith; literal_block = omega arith; offsets = omega arith }

    pub put_fits : (l : List ℕ) → length l ≡ area → PutFits image kept heads (from c m) l
    put_fits l same = record { ds = ds; are = h.are; fixed = h.fixed; room = room l same }

    -- the place behind everything
    ends : (l after : List ℕ) (w : Writing) → length l ≡ area → PutAllIs image kept heads (from c m) w l after
        → (w.literals ≡ 32 + 20 * c + 72 * m) × (w.offset ≡ 0 + length (literals_of ms))
    ends l after w same put =
        let (_, y) = put ds h.are h.fixed (room l same) in
        (ap (λ v. v.literals) y, ap (λ v. v.offset) y)

    pub result_small : (l after : List ℕ) (w : Writing) → length l ≡ area → PutAllIs image kept heads (from c m) w l after → w.literals + w.offset < 2 ^ 32
    result_small l after w same put =
        let (p, q) = ends l after w same put in
        let few = lits in
        let t = total_few in
        let u = h.few in
        omega arith

    pub written : (before m₁ m₂ after : List ℕ) (w : Writing) → length before ≡ area
        → m₁ ≡ sets before 0 (head_of c m (width_number o.width) (flag o.deterministic 1 + flag o.nonzero 2 + flag (is_given s) 4)
        (align_number (align_of o.align)) (start_part s))
        → PutHeadsIs heads m₁ m₂ → PutAllIs image kept heads (from c m) w m₂ after
        → (after ≡ sets before 0 (answer_bytes a)) × (w.literals + w.offset ≡ length (answer_bytes a))
    written before m₁ m₂ after w len put heads_put comps =
        go (put ∙ ap (sets before 0) (head_is image base s h.start o ds c m h.fitting.concatenations total_is))
        (heads_put image kept ds h.are)
      where
        blocks_long : length (blocks ds) ≡ 20 * c
        blocks_long = length_heads ds ∙ ap (λ x. 20 * x) (heads_long image kept heads ds h.are)

        comps_long : length (components_bytes 0 ms) ≡ 72 * m
        comps_long = length_blocks 0 ms ∙ ap (λ x. 72 * x) long_merged

        go : m₁ ≡ sets before 0 (head_bytes a) → m₂ ≡ sets m₁ 32 (blocks ds)
            → (after ≡ sets before 0 (answer_bytes a)) × (w.literals + w.offset ≡ length (answer_bytes a))
        go p₁ p₂ =
            let same : length m₂ ≡ area = ap length p₂ ∙ length-sets m₁ 32 (blocks ds) ∙ ap length p₁ ∙ length-sets before 0 (head_bytes a) ∙ len in
            let (x, y) = comps ds h.are h.fixed (room m₂ same) in
            let (p, q) = ends m₂ after w same comps in
            let z = sized in (
              parts before m₁ m₂ (sets m₂ (32 + 20 * c) (components_bytes 0 ms)) after (head_bytes a) (blocks ds) (components_bytes 0 ms) (literals_of ms) c m
                  (length_head a) blocks_long comps_long p₁ p₂ refl
                  (x ∙ ap (λ i. sets (sets m₂ (32 + 20 * c) (components_bytes 0 ms)) i (literals_of ms)) (add-zero (32 + 20 * c + 72 * m)))
                  ∙ ap (sets before 0) (sym (answer_parts a ms are_merged)),
              omega arith,
            )
