-- An image whose tables are right is the image of a tree that fits: the parts, put together.
use Rattle.std.specs.Prelude.{◌≡◌, ◌≤◌, ◌<◌, ◌+◌, ◌*◌, ◌∷◌, ◌++◌, if◌then◌else◌}
use Rattle.std.proofs.Math.Path.{sym}
use Rattle.std.proofs.Common.{ap, ◌∙◌, zero-add, add-zero, arith, length-take, take_all, take-add, get_or-take, get_or-drop, ne_eqb}
use Rattle.std.proofs.lemmas.Simd.{map-map}
use Rattle.std.proofs.lemmas.List.{length-map}
use Rattle.definition.specs.Prelude.{ℕ, suc, true, List, [], map, length, get_or, take, drop, leb, ltb, eqb}
use Rattle.definition.specs.Basics.{sum, all, joined, tab}
use Rattle.definition.specs.Limits.{limits}
use Rattle.definition.specs.Image.{Entry, u32_at, tables_for, bytes_for, parts}
use Rattle.definition.specs.Tree.{Tree, u32, recs_of, all_recs, text_of, record_bytes, literals_of, image_of, sound_node, fits}
use Rattle.prepared.specs.Statement.{Bytes}
use Rattle.laws.specs.Tests.{by_test, leb_iff, eqb_iff, tested}
use Rattle.laws.specs.Lists.{length_tab, all_map}
use Rattle.laws.specs.Lists.{all_take, all_drop}
use Rattle.prepared.specs.back.Cuts.{cut, length_cut}
use Rattle.prepared.specs.back.Groups.{rec_of}
use Rattle.prepared.specs.back.Nodes.{AllPassed, Nodes, nodes_of_lem}
use Rattle.prepared.specs.back.Tables.{singles, pairs, triples, map_tab, joined_parts, length_parts}
use Rattle.prepared.specs.back.Texts.{entry, Chained, chained}

-- the header of an image with these counts
abbrev pub header : (c n r t b : ℕ) → List ℕ
header c n r t b =
    let at = tables_for c n r t b in
    joined (map u32 (c ∷ n ∷ r ∷ t ∷ b ∷ at.concatenations ∷ at.components ∷ at.records ∷ at.text ∷ at.literals ∷ []))

-- a byte of a part is the whole's
byte_right_lem : (s : List ℕ) (base t at : ℕ)
    → (if ltb at (length (cut s base t)) then eqb (get_or s (base + at) 0) (get_or (cut s base t) at 0) else true) ≡ true
byte_right_lem s base t at =
    by_test (ltb at (length (cut s base t)))
    (λ h.
    let l : at < length (cut s base t) = (leb_iff (suc at) (length (cut s base t))).0 h in
    let m : at < t = omega (arith, length-take t (drop base s)) in
    rw h ((eqb_iff (get_or s (base + at) 0) (get_or (cut s base t) at 0)).1 (sym (get_or-take t (drop base s) at 0 m ∙ get_or-drop base s at 0))))
    (λ h. rw h)

-- a byte string, read as an image with these counts
module _ (image : List ℕ) (c n r t b : ℕ) where
  -- where its tables stand
  abbrev pub components_at : ℕ
  components_at = 40 + 4 * c

  abbrev pub records_at : ℕ
  records_at = components_at + 8 * n

  abbrev pub text_at : ℕ
  text_at = records_at + 12 * r

  abbrev pub literals_at : ℕ
  literals_at = text_at + t

  -- the tables
  abbrev pub size : ℕ → ℕ
  size i = u32_at image (40 + 4 * i)

  abbrev pub count : ℕ → ℕ
  count k = u32_at image (components_at + 8 * k)

  abbrev pub width : ℕ → ℕ
  width k = u32_at image (components_at + 8 * k + 4)

  abbrev pub kind : ℕ → ℕ
  kind i = u32_at image (records_at + 12 * i)

  abbrev pub start : ℕ → ℕ
  start i = u32_at image (records_at + 12 * i + 4)

  abbrev pub skip : ℕ → ℕ
  skip i = u32_at image (records_at + 12 * i + 8)

  abbrev pub byte : ℕ → ℕ
  byte i = get_or image (text_at + start i) 0

  abbrev pub entries : ℕ → Entry
  entries = entry kind start skip byte r t

  abbrev pub text : List ℕ
  text = cut image text_at t

  -- its six parts
  in_parts : length image ≡ (tables_for c n r t b).stop
      → image ≡ take 40 image ++ cut image 40 (4 * c) ++ cut image components_at (8 * n) ++ cut image records_at (12 * r) ++ text ++ cut image literals_at b
  in_parts h = simp take-add at (sym (take_all (tables_for c n r t b).stop image (omega arith)))

  pub text_size_lem : length image ≡ (tables_for c n r t b).stop → length text ≡ t
  text_size_lem e = length_cut image text_at t (omega arith)

  -- what the check says of them
  pub record Checked : Type 0 where
    pub stop : length image ≡ (tables_for c n r t b).stop
    pub head : header c n r t b ≡ take 40 image
    pub concatenations : (1 ≤ c) × (c ≤ limits.concatenations)
    pub components : n ≤ limits.components
    pub records : (1 ≤ r) × (r ≤ limits.records)
    pub text_bytes : t ≤ limits.text
    pub literal_bytes : b ≤ limits.literal_bytes
    pub sizes : all (leb 1) (tab size 0 c) ≡ true
    pub all_components : sum (tab size 0 c) ≡ n
    pub all_records : sum (tab count 0 n) ≡ r
    pub all_literals : sum (map bytes_for (tab width 0 n)) ≡ b
    pub first : start 0 ≡ 0
    pub passed : AllPassed image text literals_at count width entries 0 0 0 n

  -- the tables of a tree that are those of the image
  record Written (tree : Tree) : Type 0 where
    c_is : length tree ≡ c
    n_is : length (joined tree) ≡ n
    r_is : length (all_recs (joined tree)) ≡ r
    t_is : length (text_of (all_recs (joined tree))) ≡ t
    b_is : length (literals_of (joined tree)) ≡ b
    concatenations : joined (map (λ c. u32 (length c)) tree) ≡ cut image 40 (4 * c)
    components : joined (map (λ n. u32 (length (recs_of n)) ++ u32 (length n.bits)) (joined tree)) ≡ cut image components_at (8 * n)
    records : record_bytes 0 (all_recs (joined tree)) ≡ cut image records_at (12 * r)
    text_is : text_of (all_recs (joined tree)) ≡ text
    literals : literals_of (joined tree) ≡ cut image literals_at b

  written : Checked → (tree : Tree) → Written tree → image ≡ image_of tree
  unfolding image_of
  written k tree w =
      in_parts k.stop
      ∙ sym (rw (w.c_is, w.n_is, w.r_is, w.t_is, w.b_is, k.head, w.concatenations, w.components, w.records, w.text_is, w.literals))

  fitting : Checked → (tree : Tree) → Written tree → all (λ c. leb 1 (length c)) tree ≡ true → all sound_node (joined tree) ≡ true
      → fits tree ≡ true
  unfolding fits
  fitting k tree w some sound =
      rw (w.c_is, w.n_is, w.r_is, w.t_is, w.b_is)
      (simp tested ((((((k.concatenations, some), k.components), k.records.1), k.text_bytes), k.literal_bytes), sound))

  module _ (bytes : Bytes image) (k : Checked) where
    text_right_lem : Bytes text
    text_right_lem =
        all_take (λ b. ltb b 256) t (drop text_at image) (all_drop (λ b. ltb b 256) text_at image bytes)

    nodes : Nodes image text literals_at count width entries 0 0 0 n
    nodes =
        nodes_of_lem image text literals_at count width entries bytes text_right_lem
        (λ i. byte_right_lem image text_at t (start i)) n 0 0 0 (rw (k.all_literals, k.stop) (omega arith)) k.passed

    chain : Chained kind start skip byte r t text 0 r
    chain = chained kind start skip byte r t text (text_size_lem k.stop) r 0 (zero-add r) (rw (text_size_lem k.stop, k.all_records) at nodes.texts)

    tree : Tree
    tree = parts (tab size 0 c) nodes.nodes

    all_nodes : joined tree ≡ nodes.nodes
    unfolding tree
    all_nodes = joined_parts (tab size 0 c) nodes.nodes (k.all_components ∙ sym nodes.number)

    all_sizes : map length tree ≡ tab size 0 c
    unfolding tree
    all_sizes = length_parts (tab size 0 c) nodes.nodes (k.all_components ∙ sym nodes.number)

    all_recs_lem : all_recs (joined tree) ≡ map (rec_of text) (tab entries 0 r)
    all_recs_lem = rw all_nodes (rw k.all_records at nodes.recs)

    at_zero : (if eqb 0 r then t else start 0) ≡ 0
    at_zero = rw (ne_eqb 0 r (λ e. let l = k.records.0 in omega arith)) k.first

    text_written : text_of (all_recs (joined tree)) ≡ text
    text_written = rw all_recs_lem (rw at_zero at chain.texts)

    literals_written : literals_of (joined tree) ≡ cut image literals_at b
    literals_written = rw all_nodes (rw (add-zero, k.all_literals) at nodes.literals)

    tables_written : Written tree
    tables_written =
        record {
          c_is = sym (length-map tree length) ∙ ap length all_sizes ∙ length_tab size 0 c;
          n_is = ap length all_nodes ∙ nodes.number;
          r_is = ap length all_recs_lem ∙ length-map (tab entries 0 r) (rec_of text) ∙ length_tab entries 0 r;
          t_is = ap length text_written ∙ text_size_lem k.stop;
          b_is = ap length literals_written ∙ length_cut image literals_at b (let e = k.stop in omega arith);
          concatenations =
              ap joined (sym (map-map u32 length tree) ∙ ap (map u32) all_sizes ∙ map_tab u32 size 0 c)
              ∙ singles image bytes 40 c (let e = k.stop in omega arith);
          components = rw all_nodes nodes.table ∙ pairs image bytes components_at n (let e = k.stop in omega arith);
          records = rw all_recs_lem (rw at_zero at chain.table) ∙ triples image bytes records_at r (let e = k.stop in omega arith);
          text_is = text_written;
          literals = literals_written;
        }

    pub built_tree : (tree : Tree) × (fits tree ≡ true) × (image ≡ image_of tree)
    built_tree = (
      tree,
      fitting k tree tables_written (sym (all_map (leb 1) length tree) ∙ ap (all (leb 1)) all_sizes ∙ k.sizes) (rw all_nodes nodes.sound),
      written k tree tables_written,
    )
