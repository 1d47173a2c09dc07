-- 52: what a walk over all tokens adds up to, and the deepest nesting that it finds, are the counts and the depth of the stream's tree.
use Rattle.std.specs.Prelude.{◌≡◌, ◌≤◌, ◌+◌, ◌&&◌, ◌∷◌, ◌++◌, if◌then◌else◌}
use Rattle.std.proofs.Math.Path.{refl}
use Rattle.std.proofs.Common.{sym, ap, ◌∙◌, zero-add, arith, length-append, leb-true, leb-false, le-leb}
use mathlib.Core.List.{append_assoc, append-nil, map-map}
use Rattle.std.proofs.lemmas.List.{length-map}
use Rattle.definition.specs.Prelude.{ℕ, suc, max, Bool, true, false, List, [], map, reverse, length, leb, eqb}
use Rattle.definition.specs.Basics.{sum, all, joined}
use Rattle.definition.specs.Characters.{char}
use Rattle.definition.specs.Limits.{limits}
use Rattle.definition.specs.Tree.{Forest, Node, text_of, recs_of, depth}
use Rattle.definition.specs.TokenStream.{Leaf, ident, punct, literal, leaf_text, is_punct, Stream, done, leaf, delimited, forest_of, divided, turned, stream_tree}
use Rattle.definition.specs.Tokens.{Token, single, closer}
use Rattle.std.proofs.Math.Dec.{leb-zero}
use Rattle.std.proofs.lemmas.Bool.{lt-leb}
use Rattle.laws.specs.Tests.{by_test, and_iff, leb_iff, eqb_iff}
use Rattle.laws.specs.Lists.{all_append, all_map}
use Rattle.token_facts.specs.Flat.{flat_tokens, sound_leaf, sound_stream, divides_at, is_component, comma, semicolon, between, starts_ident, joins, deepest, weigh, semicolons, dividers, records, bytes}
use Rattle.token_facts.specs.Records.{sound_leaf_lem, sound_group, deepest_flat}
use Rattle.token_facts.specs.Dividing.{between_one, between_two, tokens_of, list_of, Free, component_free, either_not, parted_flat}
use Rattle.token_facts.specs.Turning.{and_true, and_assoc, sum_reverse, all_reverse, sum_map_append, sum_same, sum_none, sum_ones, length_recs, length_texts}
use Rattle.token_facts.specs.Weights.{weigh_none, weigh_single, weigh_closer, records_in, bytes_in_lem, nothing_in}
use Rattle.token_facts.specs.Statement.{Totals, TotalsFlat, FewTokens, Parted}

-- ---- the weight of all, by components: x for each component, z for each concatenation, w for what a component holds

abbrev total : ℕ → ℕ → (Stream → ℕ) → List (List Stream) → ℕ
total z x w d = sum (map (λ (c : List Stream). z + sum (map (λ (s : Stream). x + w s) c)) d)

module _ (f : ℕ → Token → List Token → ℕ) (z x : ℕ) (w : Stream → ℕ)
    (over : (c : Stream) (l : List Token) → Free 0 c → starts_ident l ≡ false → weigh f 0 (flat_tokens c ++ l) ≡ w c + weigh f 0 l)
    (on_comma : (l : List Token) → f 0 comma l ≡ x) (on_semicolon : (l : List Token) → f 0 semicolon l ≡ x + z) where
  weigh_components : (c : Stream) (cs : List Stream) (l : List Token) → all is_component (c ∷ cs) ≡ true → starts_ident l ≡ false
      → x + weigh f 0 (tokens_of (c ∷ cs) ++ l) ≡ sum (map (λ (s : Stream). x + w s) (c ∷ cs)) + weigh f 0 l
  unfolding all sum
  weigh_components c [] l h e =
      let mine = component_free c ((and_iff (is_component c) true).0 h).0 in
      rw (between_one comma (flat_tokens c), over c l mine e) (omega arith)
  weigh_components c (b ∷ cs) l h e =
      let (p, q) = (and_iff (is_component c) (all is_component (b ∷ cs))).0 h in
      let follows = tokens_of (b ∷ cs) in
      let ih = weigh_components b cs l q e in
      rw (
        between_two comma (flat_tokens c) (flat_tokens b) (map flat_tokens cs),
        append_assoc (flat_tokens c) (comma ∷ follows) l,
        over c (comma ∷ (follows ++ l)) (component_free c p) refl,
        weigh_single f 0 (punct (char.comma ∷ [])) (follows ++ l),
        on_comma (follows ++ l),
      )
      (omega arith)

  weigh_all : (d : List (List Stream)) → 1 ≤ length d → all (all is_component) d ≡ true
      → all (λ (c : List Stream). leb 1 (length c)) d ≡ true → (x + z) + weigh f 0 (list_of d) ≡ total z x w d
  unfolding all sum
  weigh_all [] n h e = absurd (omega arith)
  weigh_all ([] ∷ ds) n h e = cc
  weigh_all ((c ∷ cs) ∷ []) n h e =
      let mine = ((and_iff (all is_component (c ∷ cs)) true).0 h).0 in
      let it = rw (append-nil (tokens_of (c ∷ cs)), weigh_none f) at (weigh_components c cs [] mine refl) in
      rw (between_one semicolon (tokens_of (c ∷ cs))) (omega arith)
  weigh_all ((c ∷ cs) ∷ b ∷ ds) n h e =
      let (p, q) = (and_iff (all is_component (c ∷ cs)) (all (all is_component) (b ∷ ds))).0 h in
      let (_, r) = (and_iff (leb 1 (length (c ∷ cs))) (all (λ (c : List Stream). leb 1 (length c)) (b ∷ ds))).0 e in
      let follows = list_of (b ∷ ds) in
      let it = weigh_components c cs (semicolon ∷ follows) p refl in
      let step = weigh_single f 0 (punct (char.semicolon ∷ [])) follows in
      let ih = weigh_all (b ∷ ds) (omega arith) q r in
      let y = on_semicolon follows in
      rw (between_two semicolon (tokens_of (c ∷ cs)) (tokens_of b) (map tokens_of ds)) (omega arith)

-- ---- sums over the nodes of the tree

-- a stream's component as a node
abbrev node_of : Stream → Node
node_of s = record { forest = forest_of s; bits = [] }

turned_sum : (g : Node → ℕ) (v : Stream → ℕ) → ((s : Stream) → g (node_of s) ≡ v s) → (c : List Stream)
    → sum (map g (turned (map forest_of c))) ≡ sum (map v c)
turned_sum g v h c =
    let node : Forest → Node = λ f. record { forest = f; bits = [] } in
    let plain : Forest → ℕ = λ f. g (node f) in
    rw (map-map g node (reverse (map forest_of c)), sum_reverse plain (map forest_of c), map-map plain forest_of c)
    (sum_same (λ s. g (node_of s)) v c h)

tree_sum : (g : Node → ℕ) (x : ℕ) (w : Stream → ℕ) → ((s : Stream) → g (node_of s) ≡ x + w s) → (d : List (List Stream))
    → sum (map g (joined (map turned (map (map forest_of) d)))) ≡ total 0 x w d
unfolding joined sum
tree_sum g x w h [] = refl
tree_sum g x w h (c ∷ d) =
    rw (
      sum_map_append g (turned (map forest_of c)) (joined (map turned (map (map forest_of) d))),
      tree_sum g x w h d,
      turned_sum g (λ s. x + w s) h c,
    )
    (omega arith)

counted : (d : List (List Stream)) → total 1 0 (λ _. 0) d ≡ length d
unfolding sum
counted [] = refl
counted (c ∷ d) = rw (sum_none c, counted d) (omega arith)

-- ---- the depth

leb_max : (a b n : ℕ) → leb (max a b) n ≡ (leb a n && leb b n)
leb_max a b n = by_test (leb a n)
    (λ p. by_test (leb b n)
    (λ q. let h = leb-true a n p in let k = leb-true b n q in rw (p, q) (le-leb (max a b) n (omega arith)))
    (λ q. let k = leb-false b n q in rw (p, q) (lt-leb (max a b) n (omega arith))))
    (λ p. let h = leb-false a n p in rw p (lt-leb (max a b) n (omega arith)))

deepest_single : (a : Leaf) (l : List Token) → deepest 0 (single a ∷ l) ≡ deepest 0 l
unfolding deepest
deepest_single a l = omega arith

module _ (n : ℕ) where
  abbrev shallow : Stream → Bool
  shallow c = leb (depth (forest_of c)) n

  one_deep : (c : Stream) (l : List Token) → leb (deepest 0 (flat_tokens c ++ l)) n ≡ (shallow c && leb (deepest 0 l) n)
  one_deep c l = rw (deepest_flat c 0 l, zero-add (depth (forest_of c)), leb_max (depth (forest_of c)) (deepest 0 l) n)

  deepest_components : (cs : List Stream) (l : List Token) → leb (deepest 0 (tokens_of cs ++ l)) n ≡ (all shallow cs && leb (deepest 0 l) n)
  unfolding all between
  deepest_components [] l = refl
  deepest_components (c ∷ []) l = rw (and_true (shallow c)) (one_deep c l)
  deepest_components (c ∷ b ∷ cs) l =
      let follows = tokens_of (b ∷ cs) in
      rw (
        between_two comma (flat_tokens c) (flat_tokens b) (map flat_tokens cs),
        append_assoc (flat_tokens c) (comma ∷ follows) l,
        one_deep c (comma ∷ (follows ++ l)),
        deepest_single (punct (char.comma ∷ [])) (follows ++ l),
        deepest_components (b ∷ cs) l,
        and_assoc (shallow c) (all shallow (b ∷ cs)) (leb (deepest 0 l) n),
      )

  deepest_all : (d : List (List Stream)) → leb (deepest 0 (list_of d)) n ≡ all (all shallow) d
  unfolding all between deepest
  deepest_all [] = leb-zero n
  deepest_all (c ∷ []) = rw (append-nil (tokens_of c), leb-zero n) at (deepest_components c [])
  deepest_all (c ∷ b ∷ d) =
      let follows = list_of (b ∷ d) in
      rw (
        between_two semicolon (tokens_of c) (tokens_of b) (map tokens_of d),
        deepest_components c (semicolon ∷ follows),
        deepest_single (punct (char.semicolon ∷ [])) follows,
        deepest_all (b ∷ d),
      )

turned_all : (p : Node → Bool) (c : List Stream) → all p (turned (map forest_of c)) ≡ all (λ s. p (node_of s)) c
turned_all p c =
    let node : Forest → Node = λ f. record { forest = f; bits = [] } in
    all_map p node (reverse (map forest_of c)) ∙ all_reverse (λ f. p (node f)) (map forest_of c) ∙ all_map (λ f. p (node f)) forest_of c

tree_all : (p : Node → Bool) (d : List (List Stream)) → all p (joined (map turned (map (map forest_of) d))) ≡ all (all (λ s. p (node_of s))) d
unfolding joined all
tree_all p [] = refl
tree_all p (c ∷ d) = rw (all_append p (turned (map forest_of c)) (joined (map turned (map (map forest_of) d))), turned_all p c, tree_all p d)

-- ---- the totals

semicolons_in : (c : Stream) (l : List Token) → Free 0 c → weigh semicolons 0 (flat_tokens c ++ l) ≡ 0 + weigh semicolons 0 l
semicolons_in c l h =
    nothing_in semicolons (λ d a l e. rw (either_not (eqb d 0) (is_punct char.comma a) (is_punct char.semicolon a) e).1)
    (λ d k l. refl) (λ d l. refl) c 0 l h

dividers_in : (c : Stream) (l : List Token) → Free 0 c → weigh dividers 0 (flat_tokens c ++ l) ≡ 0 + weigh dividers 0 l
dividers_in c l h = nothing_in dividers (λ d a l e. rw e) (λ d k l. refl) (λ d l. refl) c 0 l h

module _ (s : Stream) (p : Parted s) where
  weighed : (f : ℕ → Token → List Token → ℕ) (z x : ℕ) (w : Stream → ℕ)
      → ((c : Stream) (l : List Token) → Free 0 c → starts_ident l ≡ false → weigh f 0 (flat_tokens c ++ l) ≡ w c + weigh f 0 l)
      → ((l : List Token) → f 0 comma l ≡ x) → ((l : List Token) → f 0 semicolon l ≡ x + z)
      → (x + z) + weigh f 0 (flat_tokens s) ≡ total z x w (divided s)
  weighed f z x w over c d = rw p.list_is (weigh_all f z x w over c d (divided s) p.one p.parts p.some)

  -- of what dividers do not weigh, and g counts of a node
  summed : (f : ℕ → Token → List Token → ℕ) (g : Node → ℕ)
      → ((c : Stream) (l : List Token) → Free 0 c → starts_ident l ≡ false → weigh f 0 (flat_tokens c ++ l) ≡ g (node_of c) + weigh f 0 l)
      → ((l : List Token) → f 0 comma l ≡ 0) → ((l : List Token) → f 0 semicolon l ≡ 0)
      → weigh f 0 (flat_tokens s) ≡ sum (map g (joined (stream_tree s)))
  summed f g over c d =
      sym (zero-add (weigh f 0 (flat_tokens s))) ∙ weighed f 0 0 (λ s. g (node_of s)) over c d
      ∙ sym (tree_sum g 0 (λ s. g (node_of s)) (λ s. sym (zero-add (g (node_of s)))) (divided s))

  totals : Totals s
  totals =
      let d = divided s in
      let ns = joined (stream_tree s) in
      record {
        concatenations = weighed semicolons 1 0 (λ _. 0) (λ c l h e. semicolons_in c l h) (λ l. refl) (λ l. refl)
            ∙ counted d ∙ sym (length-map (map (map forest_of) d) turned ∙ length-map d (map forest_of));
        components = weighed dividers 0 1 (λ _. 0) (λ c l h e. dividers_in c l h) (λ l. refl) (λ l. refl)
            ∙ sym (tree_sum (λ _. 1) 1 (λ _. 0) (λ s. refl) d) ∙ sum_ones ns;
        records_are = summed records (λ n. length (recs_of n)) (λ c l. records_in c 0 l) (λ l. refl) (λ l. refl) ∙ sym (length_recs ns);
        bytes_are = summed bytes (λ n. length (text_of (recs_of n))) (λ c l. bytes_in_lem c 0 l) (λ l. refl) (λ l. refl) ∙ sym (length_texts ns);
        depths = ap (λ l. leb (deepest 0 l) limits.depth) p.list_is ∙ deepest_all limits.depth d
            ∙ sym (tree_all (λ n. leb (depth n.forest) limits.depth) d);
      }

pub totals_flat : TotalsFlat
totals_flat s t = totals s (parted_flat s t)

-- ---- every token weighs something, or divides

leaf_text_lem : (a : Leaf) → sound_leaf a ≡ true → 1 ≤ length (leaf_text a)
leaf_text_lem (ident s) h = (leb_iff 1 (length s)).0 h
leaf_text_lem (punct s) h = let e = (eqb_iff (length s) 1).0 h in omega arith
leaf_text_lem (literal s) h = (leb_iff 1 (length s)).0 h

leaf_weighs : (d : ℕ) (a : Leaf) (l : List Token) → sound_leaf a ≡ true → 1 ≤ bytes d (single a) l + dividers d (single a) l
leaf_weighs d a l h = go (divides_at d a) (length (leaf_text a)) (if joins a l then 1 else 0) (leaf_text_lem a h)
  where
    go : (x : Bool) (n m : ℕ) → 1 ≤ n → 1 ≤ (if x then 0 else n + m) + (if x then 1 else 0)
    go true n m k = omega arith
    go false n m k = omega arith

few_in : (s : Stream) (d : ℕ) (l : List Token) → sound_stream s ≡ true
    → length (flat_tokens s) + (weigh bytes d l + weigh dividers d l)
    ≤ weigh bytes d (flat_tokens s ++ l) + weigh dividers d (flat_tokens s ++ l)
unfolding flat_tokens weigh
few_in done d l h = omega arith
few_in (leaf a rest) d l h =
    let (mine, sound) = sound_leaf_lem a rest h in
    omega (arith, leaf_weighs d a (flat_tokens rest ++ l) mine, few_in rest d l sound)
few_in (delimited k inside rest) d l h =
    let (_, in_sound, sound) = sound_group k inside rest h in
    let after = flat_tokens rest ++ l in
    rw (append_assoc (flat_tokens inside) (closer ∷ flat_tokens rest) l, length-append)
    (omega (
      arith,
      few_in inside (suc d) (closer ∷ after) in_sound,
      weigh_closer bytes d after,
      weigh_closer dividers d after,
      few_in rest d l sound,
    ))

pub few_tokens : FewTokens
unfolding weigh
few_tokens s h = omega (arith, rw append-nil at (few_in s 0 [] h))
