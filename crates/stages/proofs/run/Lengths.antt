-- Stages 1 and 2 keep the sizes of a tree, and leave every component fixed.
use Rattle.std.specs.Prelude.{◌+◌, ◌&&◌, ◌∷◌}
use Rattle.std.proofs.Common.{◌≡◌, ◌≤◌, sym, refl, ap, ◌∙◌, arith}
use lib.ListN.{length-map}
use Rattle.definition.specs.Prelude.{ℕ, suc, Bool, List, [], map, length}
use Rattle.definition.specs.Basics.{Result, ok, refused, ◌>>=◌, is_empty, sum, joined}
use Rattle.definition.specs.Image.{Unparsed, Placed, counts, tree_of}
use Rattle.definition.specs.Check.{check_image}
use Rattle.definition.specs.Tree.{Tree, Node, recs_of, text_of}
use Rattle.definition.specs.Component.{Component, keep_base, each, stage1_component, simplify}
use Rattle.laws.specs.Results.{bind_ok}
use Rattle.laws.specs.Lists.{length_joined}
use Rattle.prepared.specs.Statement.{placed_from, placed_tree}
use Rattle.prepared.specs.back.Tables.{length_parts}
use Rattle.answer_facts.specs.stages.Each.{Read, ReadTree, ◌after◌, each_read, read_each, tree_after}
use Rattle.answer_facts.specs.stages.Statement.{both}
use Rattle.answer_facts.specs.fits.Fixed.{AllFixed}
use Rattle.answer_facts.specs.fits.Proved.{read_fixed}
use Rattle.stages.specs.token_tree.Rows.{Sizes}
use Rattle.stages.specs.token_tree.Grown.{Grown}
use Rattle.stages.specs.component.Kept.{KeptFrom}
use Rattle.stages.specs.component.Read.{first_stage, second_stage, two_stages}
use Rattle.stages.specs.concatenation.Heads.{CountsFit}
use Rattle.stages.specs.declared.component.types.Component.{Component as Now}
use Rattle.stages.proofs.token_tree.Trees.{counts_fit}

-- ---- what is read has as many parts

module _ {A B : Type 0} (f : Bool → A → Result B) where
  read_length : (s : Bool) {l : List A} {m : List B} → Read f s l m → length m ≡ length l
  read_length s Read.done = refl
  read_length s (Read.more p r) = ap suc (read_length s r)

  read_lengths : (i : ℕ) {t : List (List A)} {u : List (List B)} → ReadTree f i t u → map length u ≡ map length t
  read_lengths i ReadTree.done = refl
  read_lengths i (ReadTree.more p r) = rw (read_length _ p, read_lengths (suc i) r)

two_lengths : (t : List (List (Placed Unparsed))) (cc : List (List (Placed Component))) → two_stages t ≡ ok cc → map length cc ≡ map length t
two_lengths t cc h =
    let (bs, p, q) = bind_ok (each first_stage 0 t) (each second_stage 0) h in
    read_lengths second_stage 0 (each_read second_stage 0 bs q) ∙ read_lengths first_stage 0 (each_read first_stage 0 t p)

length_placed : (base : ℕ) (ns : List Node) → length (placed_from base ns) ≡ length ns
unfolding placed_from
length_placed base [] = refl
length_placed base (n ∷ ns) = ap suc (length_placed (base + length (text_of (recs_of n))) ns)

placed_lengths : (t : Tree) → map length (placed_tree t) ≡ map length t
unfolding placed_tree
placed_lengths t = length_parts (map length t) (placed_from 0 (joined t)) (sym (length_placed 0 (joined t) ∙ length_joined t))

sizes_same : {A B : Type 0} (image : List ℕ) (i : ℕ) (t : List (List A)) (u : List (List B)) → map length u ≡ map length t → Sizes image i t → Sizes image i u
unfolding Sizes
sizes_same image i [] [] e h = tt
sizes_same image i [] (d ∷ u) e h = let z : ◌≡◌ {A = ℕ} 0 1 = cc in absurd (omega arith)
sizes_same image i (c ∷ t) [] e h = let z : ◌≡◌ {A = ℕ} 0 1 = cc in absurd (omega arith)
sizes_same image i (c ∷ t) (d ∷ u) e h =
    let p : length d ≡ length c = cc in
    let q : map length u ≡ map length t = cc in
    (h.0 ∙ sym p, rw p h.1, sizes_same image (suc i) t u q h.2)

-- ---- the components that stages 1 and 2 leave, of an image that passed the check

module _ (image : List ℕ) (g : Grown image) (cc : List (List (Placed Component))) (h : two_stages (tree_of image) ≡ ok cc) where
  lengths : map length cc ≡ map length g.tree
  lengths = two_lengths (tree_of image) cc h ∙ ap (λ (t : List (List (Placed Unparsed))). map length t) g.reads ∙ placed_lengths g.tree

  pub counts_right_lem : (c : ℕ) (kept : List Now) (heads : ℕ) → c ≡ (counts image).c → (counts image).n ≤ length kept → c ≤ heads → KeptFrom image kept 0 (joined cc)
      → CountsFit image cc c kept heads
  counts_right_lem c kept heads e w l a =
      let n : length cc ≡ length g.tree = sym (length-map cc length) ∙ ap length lengths ∙ length-map g.tree length in
      let m : length (joined cc) ≡ length (joined g.tree) = length_joined cc ∙ ap sum lengths ∙ sym (length_joined g.tree) in
      let counted = g.count in
      let b = g.nodes in
      let s = g.some_concatenation in
      let f = g.few_concatenations in
      let k = g.few_components in
      let t = (counts_fit image g).0 in
      record {
        count = omega (arith, n, counted, e);
        few = omega (arith, counted, e, f);
        sizes = sizes_same image 0 g.tree cc lengths g.sizes;
        some = omega (arith, counted, e, s);
        table = omega (arith, e, t);
        are = a;
        kept_fit = omega (arith, m, b, w);
        heads_fit = l;
        few_components = omega (arith, m, k);
      }

-- ---- stages 1 and 2 in one go

read_as : {A B : Type 0} (f h : Bool → A → Result B) → ((s : Bool) (a : A) → f s a ≡ h s a) → (s : Bool) {l : List A} {m : List B} → Read f s l m → Read h s l m
read_as f h e s Read.done = Read.done
read_as f h e s (Read.more {a} {l = l} p r) = Read.more (sym (e (s && is_empty l) a) ∙ p) (read_as f h e s r)

tree_as : {A B : Type 0} (f h : Bool → A → Result B) → ((s : Bool) (a : A) → f s a ≡ h s a) → (i : ℕ) {t : List (List A)} {u : List (List B)}
    → ReadTree f i t u → ReadTree h i t u
tree_as f h e i ReadTree.done = ReadTree.done
tree_as f h e i (ReadTree.more p r) = ReadTree.more (read_as f h e _ p) (tree_as f h e (suc i) r)

one_go : (s : Bool) (p : Placed Unparsed) → (first_stage s p >>= second_stage s) ≡ keep_base both s p
one_go s p = go (stage1_component s p.value)
  where
    go : (m : Result Component)
        → (m >>= (λ b. ok (record { base = p.base; value = b })) >>= second_stage s) ≡ (m >>= simplify >>= λ b. ok (record { base = p.base; value = b }))
    go (ok c) = refl
    go (refused q) = refl

pub all_fixed : (image : List ℕ) → check_image image ≡ ok tt → (cc : List (List (Placed Component))) → two_stages (tree_of image) ≡ ok cc → AllFixed (joined cc)
all_fixed image k cc h =
    let (bs, p, q) = bind_ok (each first_stage 0 (tree_of image)) (each second_stage 0) h in
    let r = tree_after first_stage second_stage 0 (each_read first_stage 0 (tree_of image) p) (each_read second_stage 0 bs q) in
    read_fixed image k cc (read_each (keep_base both) 0 (tree_as (second_stage after first_stage) (keep_base both) one_go 0 r))
