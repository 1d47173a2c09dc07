-- Which component the record behind a starting value's colon stands in, and the starting value of the whole tree.
use Rattle.std.specs.Prelude as Std
use Rattle.std.specs.Prelude.{Ok, Err}
use Rattle.std.specs.Prelude.{◌+◌, ◌-◌, ◌∷◌, ◌++◌}
use Rattle.std.proofs.Common.{◌≡◌, ◌≤◌, ◌⊎◌, sym, refl, ap, ◌∙◌, subst, inl, inr, add-zero, zero-add, arith, length-append, ne_eqb}
use Rattle.definition.specs.Prelude.{ℕ, zero, suc, true, false, not, Option, none, some, List, [], length, take}
use Rattle.definition.specs.Basics.{Result, ok, ◌>>=◌, with_places, is_empty, joined}
use Rattle.definition.specs.Refusals.{need, empty_after_colon}
use Rattle.definition.specs.Image.{Placed, parts, tree_of, component_count}
use Rattle.definition.specs.Tree as Tree
use Rattle.definition.specs.Tree.{Node, recs_of, all_recs, text_of}
use Rattle.definition.specs.Text as Text
use Rattle.definition.specs.Text.{Item, items}
use Rattle.definition.specs.Component.{Prefix, split_range, prefix_of, starting_value, source}
use Rattle.prepared.specs.Statement.{placed_from, placed_tree}
use Rattle.prepared.specs.Groups.{text_of_append}
use Rattle.stages.specs.token_tree.Table.{start_in, skip_in, tree_in, tables_in}
use Rattle.stages.specs.token_tree.Laid.{Laid, place_of}
use Rattle.stages.specs.token_tree.Rows.{node_of}
use Rattle.stages.specs.token_tree.Grown.{Grown}
use Rattle.stages.specs.component.Start.{records_before, prefix_value, start_result, after_of, after_place, TextFits, PrefixReads, AfterIs, AfterIn, AfterTree, scanned_base, StartReads}
use Rattle.stages.specs.declared.token_tree.types.Tree.{Tree as Table}
use Rattle.stages.specs.declared.token_tree.types.Tables.{Tables}
use Rattle.stages.specs.declared.token_tree.types.Run.{Run}
use Rattle.errors.specs.declared.Refusal.{Refusal}
use Rattle.stages.specs.declared.component.start.Start.{Start}
use Rattle.stages.proofs.component.parse.Splits.{mid_length}
use Rattle.stages.proofs.token_tree.Places.{place_above, laid_order}
use Rattle.stages.proofs.component.parse.Splits.{colon_parts}
use Rattle.stages.proofs.component.start.Sources.{Source, Ran}

-- ---- the components that do not hold it

module _ (image : List ℕ) (t : Table) (after : ℕ) where
  late_in : (i r : ℕ) (ns : List Node) → 1 ≤ i → after ≤ r → AfterIn image t after i r ns
  unfolding AfterIn
  late_in i r [] l h = tt
  late_in i r (n ∷ ns) l h =
      (rw (ne_eqb i 0 (λ q. let z : ◌≡◌ {A = ℕ} i 0 = q in omega (arith, z, l))) (inl h), late_in i (r + length (recs_of n)) ns l (omega (arith, h)))

  late_tree : (i r : ℕ) (cs : List (List Node)) → 1 ≤ i → after ≤ r → AfterTree image t after i r cs
  unfolding AfterTree
  late_tree i r [] l h = tt
  late_tree i r (c ∷ cs) l h =
      (late_in i r c l h, late_tree (suc i) (r + length (Tree.all_recs c)) cs (omega arith) (omega (arith, h)))

  not_last : (pre : List Node) (node : Node) → is_empty (pre ++ (node ∷ [])) ≡ false
  not_last [] node = refl
  not_last (n ∷ pre) node = refl

  early_in : (r : ℕ) (pre : List Node) (node : Node) → (after ≡ 0) ⊎ (r + length (all_recs pre) ≤ after)
      → AfterIs image t after (r + length (all_recs pre)) true node → AfterIn image t after 0 r (pre ++ (node ∷ []))
  unfolding AfterIn joined
  early_in r [] node h k = (subst (λ x. AfterIs image t after x true node) (add-zero r) k, tt)
  early_in r (n ∷ pre) node h k =
      let e : r + length (recs_of n ++ all_recs pre) ≡ r + length (recs_of n) + length (all_recs pre) = (let a = length-append (recs_of n) (all_recs pre) in omega (arith, a)) in (
        rw (not_last pre node) (before (length (recs_of n)) (length (all_recs pre)) (length (recs_of n ++ all_recs pre)) (length-append (recs_of n) (all_recs pre)) h),
        early_in (r + length (recs_of n)) pre node (subst (λ x. (after ≡ 0) ⊎ (x ≤ after)) e h) (subst (λ x. AfterIs image t after x true node) e k),
      )
    where
      before : (a b c : ℕ) → c ≡ a + b → (after ≡ 0) ⊎ (r + c ≤ after) → (after ≤ r) ⊎ (r + a ≤ after)
      before a b c e (inl z) = inl (omega (arith, z))
      before a b c e (inr l) = inr (omega (arith, l, e))

-- ---- the one that does

place_within : (image : List ℕ) (t : Table) (base stop tail r s n : ℕ) (is : List Item) → n ≤ length is → Laid image t base stop tail r s is → place_of image t r n ≤ stop
unfolding Laid place_of
place_within image t base stop tail r s zero is l h = (laid_order image t base stop tail r s is h).0
place_within image t base stop tail r s (suc n) [] l h = absurd (omega (arith, l))
place_within image t base stop tail r s (suc n) (i ∷ is) l h =
    place_within image t base stop tail (r + skip_in image t r) (s + length i.part.bytes) n is (let k = l in omega (arith, k)) h.1

some_after : {A : Type 0} (k : ℕ) (a : A) (b : Result A) (l : List Item) → ok a ≡ (with_places 0 k (need (not (is_empty l)) empty_after_colon) >>= λ _. b) → 1 ≤ length l
some_after k a b [] e = let z : ◌≡◌ {A = ℕ} 0 1 = cc in absurd (omega (arith, z))
some_after k a b (i ∷ l) e = omega arith

module _ (image : List ℕ) (t : Table) (after base stop tail r s k : ℕ) (node : Node) (h : Laid image t base stop tail r s (items 0 (recs_of node))) where
  record Held : Type 0 where
    pub side : (after ≡ 0) ⊎ (r ≤ after)
    pub within : after ≤ stop
    pub is : AfterIs image t after r true node

  abbrev Says : Option Prefix → Type 0
  Says o = elim o [ none ↦ after ≡ 0 | some p ↦ (after ≡ place_of image t r (suc (length p.before))) × (1 ≤ length p.after) ]

  held_by : (a : Option (Placed Text.Part)) → after ≡ after_place image t r (prefix_of (node_of node)) → ok a ≡ prefix_value base k (prefix_of (node_of node)) → Held
  held_by a e f = go (prefix_of (node_of node)) refl e f
    where
      go : (o : Option Prefix) → prefix_of (node_of node) ≡ o → after ≡ after_place image t r o → ok a ≡ prefix_value base k o → Held
      go none q z y =
          record {
            side = inl z;
            within = omega (arith, z);
            is = subst Says (sym q) z;
          }
      go (some p) q z y =
          let c = colon_parts (split_range (items 0 (recs_of node))).mid p q in
          let n = ap {A = List Item} length c.parts ∙ length-append p.before (c.sign ∷ p.after) in
          let m = mid_length (items 0 (recs_of node)) in
          let w = place_within image t base stop tail r s (suc (length p.before)) (items 0 (recs_of node)) (omega (arith, n, m)) h in
          let v = place_above image t r (suc (length p.before)) in
          record {
            side = inr (omega (arith, z, v));
            within = omega (arith, z, w);
            is = subst Says (sym q)
                (z, some_after k a _ p.after y);
          }

-- ---- the definition's

value_is : (base k : ℕ) (o : Option Prefix)
    → elim o [
      | none ↦ ok none
      | some p ↦ (with_places 0 k (need (not (is_empty p.after)) empty_after_colon) >>= λ _. ok (some (record { base = base; value = Text.part_of p.before })))
    ]
    ≡ prefix_value base k o
value_is base k none = refl
value_is base k (some p) = refl

starting_last : (k base : ℕ) (pre : List Node) (node : Node)
    → starting_value k (placed_from base (pre ++ (node ∷ []))) ≡ prefix_value (base + length (text_of (all_recs pre))) (k + length pre) (prefix_of (node_of node))
unfolding starting_value placed_from joined text_of
starting_last k base [] node = value_is base k (prefix_of (node_of node)) ∙ sym (ap (λ x. prefix_value x (k + 0) (prefix_of (node_of node))) (add-zero base) ∙ ap (λ x. prefix_value base x (prefix_of (node_of node))) (add-zero k))
starting_last k base (n ∷ pre) node =
    step pre
    ∙ starting_last (suc k) (base + length (text_of (recs_of n))) pre node
    ∙ ap (λ x. prefix_value x (suc k + length pre) (prefix_of (node_of node))) e
    ∙ ap (λ x. prefix_value (base + length (text_of (recs_of n ++ all_recs pre))) x (prefix_of (node_of node))) f
  where
    step : (pre : List Node) → starting_value k (placed_from base (n ∷ (pre ++ (node ∷ [])))) ≡ starting_value (suc k) (placed_from (base + length (text_of (recs_of n))) (pre ++ (node ∷ [])))
    step [] = refl
    step (m ∷ pre) = refl

    e : base + length (text_of (recs_of n)) + length (text_of (all_recs pre)) ≡ base + length (text_of (recs_of n ++ all_recs pre))
    e = let m = ap {A = List ℕ} length (text_of_append (recs_of n) (all_recs pre)) ∙ length-append (text_of (recs_of n)) (text_of (all_recs pre)) in omega (arith, m)

    f : suc k + length pre ≡ k + suc (length pre)
    f = omega arith

take_placed : (base : ℕ) (ns ms : List Node) → take (length ns) (placed_from base (ns ++ ms)) ≡ placed_from base ns
unfolding placed_from
take_placed base [] ms = refl
take_placed base (n ∷ ns) ms = ap (λ l. record { base = base; value = node_of n } ∷ l) (take_placed (base + length (text_of (recs_of n))) ns ms)

source_placed : (c : List Node) (cs : List (List Node)) → source (placed_tree (c ∷ cs)) ≡ placed_from 0 c
unfolding placed_tree parts joined
source_placed c cs = take_placed 0 c (joined cs)

module _ (image : List ℕ) (g : Grown image) (o : Source image g.tree) where
  starting_is : starting_value 0 (source (tree_of image)) ≡ prefix_value (length (text_of (all_recs o.pre))) (length o.pre) (prefix_of (node_of o.node))
  starting_is =
      ap (λ x. starting_value 0 (source x)) (g.reads ∙ ap placed_tree o.parts)
      ∙ ap (starting_value 0) (source_placed (o.pre ++ (o.node ∷ [])) o.more)
      ∙ starting_last 0 0 o.pre o.node
      ∙ ap (λ x. prefix_value x (0 + length o.pre) (prefix_of (node_of o.node))) (zero-add (length (text_of (all_recs o.pre))))
      ∙ ap (λ x. prefix_value (length (text_of (all_recs o.pre))) x (prefix_of (node_of o.node))) (zero-add (length o.pre))

  module _ (base : ℕ) (eb : base ≡ length (text_of (all_recs o.pre))) (k : ℕ) (ek : k ≡ length o.pre) (r stop tail : ℕ) (er : r ≡ length (all_recs o.pre))
      (es : stop ≡ length (all_recs o.pre) + length (recs_of o.node))
      (h : Laid image (tree_in image) base stop tail r base (items 0 (recs_of o.node))) (first : start_in image (tree_in image) r ≡ base) where
    base_is : scanned_base image ≡ base
    base_is =
        let s = o.size in
        let n : component_count image 0 - 1 ≡ length o.pre = omega (arith, s) in
        ap (λ x. start_in image (tree_in image) (records_before image (tables_in image) x)) n ∙ ap (start_in image (tree_in image)) (o.before ∙ sym er) ∙ first

    value : prefix_value base k (prefix_of (node_of o.node)) ≡ starting_value 0 (source (tree_of image))
    value =
        ap (λ x. prefix_value x k (prefix_of (node_of o.node))) eb
        ∙ ap (λ x. prefix_value (length (text_of (all_recs o.pre))) x (prefix_of (node_of o.node))) ek ∙ sym starting_is

    tree_is : (after : ℕ) → Held image (tree_in image) after base stop tail r base k o.node h → AfterTree image (tree_in image) after 0 0 g.tree
    unfolding AfterTree joined
    tree_is after d =
        subst (AfterTree image (tree_in image) after 0 0) (sym o.parts) (
          early_in image (tree_in image) after 0 o.pre o.node (subst (λ x. (after ≡ 0) ⊎ (x ≤ after)) z d.side)
              (subst (λ x. AfterIs image (tree_in image) after x true o.node) z d.is),
          late_tree image (tree_in image) after 1 (0 + length (all_recs (o.pre ++ (o.node ∷ [])))) o.more (omega arith)
              (let w = d.within in let y = all o.pre o.node in omega (arith, w, es, y)),
        )
      where
        z : r ≡ 0 + length (all_recs o.pre)
        z = er ∙ sym (zero-add (length (all_recs o.pre)))

        all : (pre : List Node) (node : Node) → length (all_recs (pre ++ (node ∷ []))) ≡ length (all_recs pre) + length (recs_of node)
        all [] node = length-append (recs_of node) [] ∙ omega arith
        all (n ∷ pre) node =
            let i = all pre node in
            let a = length-append (recs_of n) (all_recs (pre ++ (node ∷ []))) in
            let b = length-append (recs_of n) (all_recs pre) in
            omega (arith, i, a, b)

    pub start_reads : (q : Std.Result (Std.Option Start) Refusal) → PrefixReads image (tree_in image) base k r (prefix_of (node_of o.node)) q → StartReads image g.tree q
    start_reads (Ok s) p =
        record {
          is = ap (λ b. start_result image (tree_in image) b (Ok s)) base_is ∙ p.is ∙ value;
          held = (
            tree_is (after_of s) (held_by image (tree_in image) (after_of s) base stop tail r base k o.node h _ p.held.0 p.is),
            subst (λ b. TextFits image (tree_in image) b s) (sym base_is) p.held.1,
          );
        }
    start_reads (Err n) p = record { is = ap (λ b. start_result image (tree_in image) b (Err n)) base_is ∙ p.is ∙ value; held = tt }

  -- of the run that the code makes
  pub start_by : (t : Tables) → t ≡ tables_in image → (k : ℕ) → k ≡ length o.pre → (run : Run) → Ran image g o t (length (text_of (all_recs o.pre))) run
      → (q : Std.Result (Std.Option Start) Refusal) → PrefixReads image t.tree (length (text_of (all_recs o.pre))) k run.r.0 (prefix_of (node_of o.node)) q → StartReads image g.tree q
  start_by t et k ek run d q p =
      let d' : Ran image g o (tables_in image) (length (text_of (all_recs o.pre))) run = subst (λ x. Ran image g o x (length (text_of (all_recs o.pre))) run) et d in
      start_reads (length (text_of (all_recs o.pre))) refl k ek run.r.0 run.stop.0 run.«end».0 d'.first d'.last d'.laid d'.begins q
      (subst (λ (x : Tables). PrefixReads image x.tree (length (text_of (all_recs o.pre))) k run.r.0 (prefix_of (node_of o.node)) q) et p)
