-- The starting value of a tree: of the last component of its concatenation 0.
use Rattle.std.specs.Prelude.{◌+◌, ◌*◌, ◌-◌, ◌^◌, ◌∷◌, ◌++◌}
use Rattle.std.proofs.Common.{◌≡◌, ◌<◌, ◌≤◌, sym, refl, ap, ◌∙◌, subst, append_assoc, add-zero, zero-add, add-one, arith, length-append}
use Rattle.definition.specs.Prelude.{ℕ, zero, suc, List, [], length}
use Rattle.definition.specs.Basics.{sum, tab, joined}
use Rattle.definition.specs.Image.{u32_at, component_count}
use Rattle.definition.specs.Tree.{Node, recs_of, all_recs, literals_of, text_of}
use Rattle.definition.specs.Text.{items}
use Rattle.laws.specs.Lists.{sum_tab_add}
use Rattle.stages.specs.token_tree.Table.{start_in, tables_in, RunFits, run_in}
use Rattle.stages.specs.token_tree.Laid.{Laid, Runs}
use Rattle.stages.specs.token_tree.Rows.{Rooted, Rows, TablesFit, Sizes}
use Rattle.stages.specs.token_tree.Grown.{Grown}
use Rattle.stages.specs.component.Start.{records_before, RecordsFit}
use Rattle.stages.specs.declared.token_tree.types.Tables.{Tables}
use Rattle.stages.specs.declared.token_tree.types.Run.{Run}
use Rattle.stages.proofs.Lists.{ends}
use Rattle.stages.proofs.token_tree.Places.{laid_first}
use Rattle.stages.proofs.token_tree.Roots.{rows_cons, rows_order, rows_behind, root_laid, run_fits, runs_of, run_is}
use Rattle.stages.proofs.token_tree.Trees.{tables_fit}

-- ---- the records of the components before one

module _ (image : List ℕ) (t : Tables) where
  pub records_none : records_before image t 0 ≡ 0
  unfolding records_before sum tab
  records_none = refl

  records_suc : (j : ℕ) → records_before image t (j + 1) ≡ records_before image t j + u32_at image (t.components + 8 * j)
  unfolding records_before sum tab
  records_suc j = sum_tab_add (λ i. u32_at image (t.components + 8 * i)) 0 j 1 ∙ rw (zero-add j, add-zero) refl

  pub records_more : (j r n : ℕ) → r ≡ records_before image t j → n ≡ u32_at image (t.components + 8 * j) → r + n ≡ records_before image t (j + 1)
  records_more j r n a b = sym (records_suc j ∙ ap (λ x. x + u32_at image (t.components + 8 * j)) (sym a) ∙ ap (λ x. r + x) (sym b))

  pub records_small : (k j : ℕ) → RecordsFit image t k → j < k → (r n : ℕ) → r ≡ records_before image t j → n ≡ u32_at image (t.components + 8 * j) → r + n < 2 ^ 32
  records_small k j h l r n a b = let f = h.few (j + 1) (omega (arith, l)) in let e = records_more j r n a b in omega (arith, e, f)

  -- as the rows of a tree say
  records_of_rows : (k r s l : ℕ) (pre ms : List Node) → Rows image t k r s l (pre ++ ms)
      → records_before image t (k + length pre) ≡ records_before image t k + length (all_recs pre)
  unfolding joined
  records_of_rows k r s l [] ms h = ap (records_before image t) (add-zero k) ∙ sym (add-zero (records_before image t k))
  records_of_rows k r s l (n ∷ pre) ms h =
      let c = rows_cons image t k r s l n (pre ++ ms) h in
      let i = records_of_rows (suc k) _ _ _ pre ms c.1 in
      let z = ap (records_before image t) (sym (add-one k)) ∙ records_suc k in
      let w = c.0.size in
      let e : k + suc (length pre) ≡ suc k + length pre = omega arith in
      let a = length-append (recs_of n) (all_recs pre) in
      ap (records_before image t) e ∙ go _ _ _ _ _ _ i z w _ a
    where
      go : (x y v u b c : ℕ) → x ≡ y + b → y ≡ v + u → u ≡ c → (d : ℕ) → d ≡ c + b → x ≡ v + d
      go x y v u b c p q r d w = omega (arith, p, q, r, w)

  before_order : (j m : ℕ) → records_before image t j ≤ records_before image t (j + m)
  before_order j zero = rw add-zero (omega arith)
  before_order j (suc m) =
      let i = before_order j m in
      let z = records_suc (j + m) in
      let e : j + suc m ≡ j + m + 1 = omega arith in
      rw e (omega (arith, i, z))

-- ---- the last component of concatenation 0

pub record Source (image : List ℕ) (tree : List (List Node)) : Type 0 where
  pub pre : List Node
  pub node : Node
  pub more : List (List Node)
  pub parts : tree ≡ (pre ++ (node ∷ [])) ∷ more
  pub l : ℕ
  pub size : component_count image 0 ≡ length pre + 1
  pub before : records_before image (tables_in image) (length pre) ≡ length (all_recs pre)
  pub rows : Rows image (tables_in image) (length pre) (length (all_recs pre)) (length (text_of (all_recs pre))) l (node ∷ joined more)

source_of : (image : List ℕ) (tree : List (List Node)) → 1 ≤ length tree → Sizes image 0 tree → Rows image (tables_in image) 0 0 0 0 (joined tree) → Source image tree
unfolding Sizes joined
source_of image [] l z h = absurd (omega (arith, l))
source_of image ([] ∷ cs) l z h = let k = z.1 in absurd (omega (arith, k))
source_of image ((x ∷ xs) ∷ cs) l z h = let e = ends x xs in go e.mid e.item e.parts
  where
    go : (pre : List Node) (node : Node) → x ∷ xs ≡ pre ++ (node ∷ []) → Source image ((x ∷ xs) ∷ cs)
    go pre node p =
        let q : (x ∷ xs) ++ joined cs ≡ pre ++ (node ∷ joined cs) = ap (λ a. a ++ joined cs) p ∙ append_assoc pre (node ∷ []) (joined cs) in
        let rs : Rows image (tables_in image) 0 0 0 0 (pre ++ (node ∷ joined cs)) = subst (Rows image (tables_in image) 0 0 0 0) q h in
        let b = records_of_rows image (tables_in image) 0 0 0 0 pre (node ∷ joined cs) rs in
        let n = records_none image (tables_in image) in
        record {
          pre = pre;
          node = node;
          more = cs;
          parts = ap (λ a. a ∷ cs) p;
          l = 0 + length (literals_of pre);
          size = z.0 ∙ ap {A = List Node} length p ∙ length-append pre (node ∷ []);
          before = ap (records_before image (tables_in image)) (sym (zero-add (length pre))) ∙ b ∙ ap (λ v. v + length (all_recs pre)) n ∙ zero-add (length (all_recs pre));
          rows = rw (← zero-add (length pre), ← zero-add (length (all_recs pre)), ← zero-add (length (text_of (all_recs pre))))
              (rows_behind image (tables_in image) 0 0 0 0 pre (node ∷ joined cs) rs);
        }

module _ (image : List ℕ) (g : Grown image) where
  pub the_source : Source image g.tree
  the_source = source_of image g.tree g.some_concatenation g.sizes g.rows

  module _ (o : Source image g.tree) where
    fit : TablesFit image (tables_in image) 0 0 (length (joined g.tree))
    fit = tables_fit image g (length (joined g.tree)) refl

    room : length o.pre + 1 ≤ length (joined g.tree)
    unfolding joined
    room =
        let e = ap {A = List Node} length (ap joined o.parts) ∙ length-append (o.pre ++ (o.node ∷ [])) (joined o.more) in
        let f = length-append o.pre (o.node ∷ []) in
        omega (arith, e, f)

    root : Rooted image (tables_in image) (length o.pre) (length (all_recs o.pre)) (length (text_of (all_recs o.pre))) o.l o.node
    root = (rows_cons image (tables_in image) (length o.pre) (length (all_recs o.pre)) (length (text_of (all_recs o.pre))) o.l o.node (joined o.more) o.rows).0

    -- its run, whose text begins at `base`
    pub record Ran (t : Tables) (base : ℕ) (run : Run) : Type 0 where
      pub some : run.r.0 < run.stop.0
      pub runs : Runs image t.tree run.stop.0 run.«end».0 run.r.0 base
      pub laid : Laid image t.tree base run.stop.0 run.«end».0 run.r.0 base (items 0 (recs_of o.node))
      pub first : run.r.0 ≡ length (all_recs o.pre)
      pub last : run.stop.0 ≡ length (all_recs o.pre) + length (recs_of o.node)
      pub begins : start_in image t.tree run.r.0 ≡ base

    ran : Ran (tables_in image) (length (text_of (all_recs o.pre))) (record {
      r = record { 0 = length (all_recs o.pre) };
      stop = record { 0 = length (all_recs o.pre) + length (recs_of o.node) };
      «end» = record { 0 = length (text_of (all_recs o.pre)) + length (text_of (recs_of o.node)) };
    })
    ran =
        let m = root.some in
        let h = root_laid image (tables_in image) _ _ _ _ o.node root in
        let l : length (all_recs o.pre) < length (all_recs o.pre) + length (recs_of o.node) = omega (arith, m) in
        record {
          some = l;
          runs = runs_of image (tables_in image) _ _ _ _ _ _ _ o.node (joined o.more) o.rows fit;
          laid = h;
          first = refl;
          last = refl;
          begins = (laid_first image (tables_in image).tree _ _ _ _ _ (items 0 (recs_of o.node)) l h).stands.start;
        }

    module _ (t : Tables) (et : t ≡ tables_in image) (n : ℕ) (en : n ≡ component_count image 0) where
      pub size_some : 1 ≤ n
      size_some = let s = o.size in omega (arith, en, s)

      pub last_is : n - 1 ≡ length o.pre
      last_is = let s = o.size in omega (arith, en, s)

      pub size_room : t.components + 8 * (n - 1) + 8 ≤ length image
      size_room =
          rw (et, last_is) (let a = fit.rows_fit in let b = fit.records_fit in let c = fit.text_fits in let d = room in omega (arith, a, b, c, d))

      pub before_fits : RecordsFit image t (n - 1)
      before_fits =
          rw (et, last_is) (record {
            rows = (let a = fit.rows_fit in let b = fit.records_fit in let c = fit.text_fits in let d = room in omega (arith, a, b, c, d));
            few = few;
            small = g.small;
          })
        where
          few : (j : ℕ) → j ≤ length o.pre → records_before image (tables_in image) j < 2 ^ 31
          few j l =
              let q : j + (length o.pre - j) ≡ length o.pre = omega (arith, l) in
              let u = ap (records_before image (tables_in image)) q in
              let v = before_order image (tables_in image) j (length o.pre - j) in
              let w = o.before in
              let x = (rows_order image (tables_in image) _ _ _ _ _ o.rows).0 in
              let b = fit.records_fit in
              let c = fit.text_fits in
              let s = g.small in
              omega (arith, u, v, w, x, b, c, s)

      module _ (r m : ℕ) (er : r ≡ records_before image t (n - 1)) (em : m ≡ u32_at image (t.components + 8 * (n - 1))) where
        first_is : r ≡ length (all_recs o.pre)
        first_is = er ∙ ap (λ x. records_before image x (n - 1)) et ∙ ap (records_before image (tables_in image)) last_is ∙ o.before

        size_is : m ≡ length (recs_of o.node)
        size_is = em ∙ ap (λ (x : Tables). u32_at image (x.components + 8 * (n - 1))) et ∙ ap (λ x. u32_at image ((tables_in image).components + 8 * x)) last_is ∙ root.size

        pub run_room : RunFits image t r m
        run_room = rw (et, first_is, size_is) (run_fits image (tables_in image) _ _ _ _ _ _ _ o.node (joined o.more) o.rows fit)

        pub ran_is : (run : Run) → run ≡ run_in image t r m → Ran t (length (text_of (all_recs o.pre))) run
        ran_is run e =
            let f = e ∙ ap (λ x. run_in image x r m) et ∙ ap (λ x. run_in image (tables_in image) x m) first_is
            ∙ ap (run_in image (tables_in image) (length (all_recs o.pre))) size_is
            ∙ run_is image (tables_in image) _ _ _ _ o.node (joined o.more) o.rows in
            subst (λ x. Ran x (length (text_of (all_recs o.pre))) run) (sym et) (subst (Ran (tables_in image) (length (text_of (all_recs o.pre)))) (sym f) ran)
