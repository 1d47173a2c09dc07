-- Stages 1 and 2 of the tree with the pieces: they differ from those of the tree with the literal in the literal's place only.
use Rattle.std.specs.Prelude.{◌≡◌, refl, ◌≤◌, ◌<◌, ◌&&◌, ◌∷◌, ◌++◌}
use Rattle.std.proofs.Math.Path.{sym, ap}
use Rattle.std.proofs.Common.{ap₂, ◌∙◌, arith, ltb-true}
use mathlib.Core.List.{map-append, head-eq_of_cons-eq, tail-eq_of_cons-eq}
use Rattle.std.proofs.lemmas.List.{length-map}
use Rattle.definition.specs.Prelude.{ℕ, Bool, true, false, Option, some, List, [], map, length, ltb}
use Rattle.definition.specs.Basics.{Result, ok, ◌>>=◌, is_empty}
use Rattle.definition.specs.Image.{Unparsed, Placed}
use Rattle.definition.specs.Tree.{Forest, end, Node, sound_forest}
use Rattle.definition.specs.Text.{Part}
use Rattle.definition.specs.Component.{Component, Parsed, stage1_component, simplify, keep_base, each, starting_value, source, stage1, stage2}
use Rattle.cutting.specs.Statement.{Given, unparsed, fixed_literal, reads_as, rising, pieces_of, prefix_part, piece, pieces, tree_with, scanned}
use Rattle.cutting_proof.specs.component.Statement.{LiteralReads, PieceReads, PrefixKept, ReadAs, bare}
use Rattle.answer_facts.specs.stages.Statement.{early}
use Rattle.cutting_proof.specs.stages.Statement.{bare_tree, bits_between, piece_components, Cuttable, CutParsed, CutEarly}
use Rattle.cutting_proof.specs.stages.Cuts.{both, rising_below}
use Rattle.answer_facts.specs.stages.Each.{Read, ReadTree, and_true, and_false, done, more, ◌after◌, each_read, read_each, tree_after, tree_apart, Between, between, BetweenLists, between_lists}
use Rattle.laws.specs.Results.{bind_ok}
use Rattle.cutting_proof.specs.stages.Keeping.{Keeps}
use Rattle.cutting_proof.specs.stages.Starting.{tree_starts}

-- stages 1 and 2 of one component
abbrev component : Bool → Placed Unparsed → Result (Placed Component)
component = keep_base (λ last. simplify) after keep_base stage1_component

stage1_apart : (t : List (List (Placed Unparsed))) (p : Parsed) → stage1 t ≡ ok p → (starting_value 0 (source t) ≡ ok p.init) × ReadTree (keep_base stage1_component) 0 t p.cc
unfolding stage1
stage1_apart t p h =
    let (init, q₁, g₁) = bind_ok (starting_value 0 (source t)) (λ init. each (keep_base stage1_component) 0 t >>= made init) h in
    let (cs, q₂, g₂) = bind_ok (each (keep_base stage1_component) 0 t) (made init) g₁ in
    go init cs q₁ (each_read (keep_base stage1_component) 0 t q₂) g₂
  where
    made : Option (Placed Part) → List (List (Placed Component)) → Result Parsed
    made init cs = ok (record { init = init; cc = cs })

    go : (init : Option (Placed Part)) (cs : List (List (Placed Component))) → starting_value 0 (source t) ≡ ok init → ReadTree (keep_base stage1_component) 0 t cs → made init cs ≡ ok p
        → (starting_value 0 (source t) ≡ ok p.init) × ReadTree (keep_base stage1_component) 0 t p.cc
    go init cs s r e = let q : p ≡ record { init = init; cc = cs } = cc in rw q (s, r)

stage2_apart : (p p' : Parsed) → stage2 p ≡ ok p' → (p.init ≡ p'.init) × ReadTree (keep_base (λ last. simplify)) 0 p.cc p'.cc
unfolding stage2
stage2_apart p p' h =
    let (cs, q, g) = bind_ok (each (keep_base (λ last. simplify)) 0 p.cc) (λ cs. ok (record { init = p.init; cc = cs })) h in
    go cs (each_read (keep_base (λ last. simplify)) 0 p.cc q) g
  where
    made : List (List (Placed Component)) → Parsed
    made cs = record { init = p.init; cc = cs }

    go : (cs : List (List (Placed Component))) → ReadTree (keep_base (λ last. simplify)) 0 p.cc cs → ok (made cs) ≡ ok p'
        → (p.init ≡ p'.init) × ReadTree (keep_base (λ last. simplify)) 0 p.cc p'.cc
    go cs r e = let q : p' ≡ made cs = cc in rw q (refl, r)

early_apart : (t : List (List (Placed Unparsed))) (p : Parsed) → early t ≡ ok p → (starting_value 0 (source t) ≡ ok p.init) × ReadTree component 0 t p.cc
early_apart t p h =
    let (p₁, q, g) = bind_ok (stage1 t) stage2 h in
    let (s, r₁) = stage1_apart t p₁ q in
    let (e, r₂) = stage2_apart p₁ p g in
    (s ∙ ap ok e, tree_after (keep_base stage1_component) (keep_base (λ last. simplify)) 0 r₁ r₂)

early_of : (t : List (List (Placed Unparsed))) (init : Option (Placed Part)) (cc : List (List (Placed Component))) → starting_value 0 (source t) ≡ ok init → ReadTree component 0 t cc
    → early t ≡ ok (record { init = init; cc = cc })
unfolding stage1 stage2
early_of t init cc s r =
    let (cc₁, r₁, r₂) = tree_apart (keep_base stage1_component) (keep_base (λ last. simplify)) 0 r in
    rw (s, read_each (keep_base stage1_component) 0 r₁, read_each (keep_base (λ last. simplify)) 0 r₂)

-- ── The literal and its pieces ──

-- a component that is read as bits c to d
piece_component : (s : Bool) (m : Node) (bits : List ℕ) (c d : ℕ) → ReadAs s m bits c d → component s (bare m) ≡ ok (bits_between bits c d)
piece_component s m bits c d (x, p, q) = rw (p, q)

literal_component : LiteralReads → (s : Bool) (n : Node) (a b : ℕ) → fixed_literal s n ≡ some (a, b) → (c : Placed Component) → component s (bare n) ≡ ok c
    → (c ≡ bits_between n.bits a b) × (b ≤ length n.bits)
literal_component lit s n a b e c h =
    let (x, q₁, g₁) = bind_ok (keep_base stage1_component s (bare n)) (keep_base (λ last. simplify) s) h in
    let (y, q₂, g₂) = bind_ok (stage1_component s (unparsed n)) (λ y. ok (at0 y)) q₁ in
    simplified x y q₂ g₂ g₁
  where
    at0 : Component → Placed Component
    at0 y = record { base = 0; value = y }

    read : (y z : Component) → stage1_component s (unparsed n) ≡ ok y → simplify y ≡ ok z → ok (at0 z) ≡ ok c → (c ≡ bits_between n.bits a b) × (b ≤ length n.bits)
    read y z p q g = let (is, a<b, within) = lit s n a b e y z p q in let w : c ≡ at0 z = cc in (w ∙ ap at0 is, within)

    simplified : (x : Placed Component) (y : Component) → stage1_component s (unparsed n) ≡ ok y → ok (at0 y) ≡ ok x → keep_base (λ last. simplify) s x ≡ ok c
        → (c ≡ bits_between n.bits a b) × (b ≤ length n.bits)
    simplified x y p g h =
        let w : x ≡ at0 y = cc in
        let (z, q, g') = bind_ok (simplify y) (λ z. ok (at0 z)) (rw w at h) in
        read y z p q g'

never : {A : Type 0} {G : Type 0} {a : A} {l : List A} → [] ≡ a ∷ l → G
never e = let z : ◌≡◌ {A = ℕ} 0 1 = cc in absurd (omega arith)

-- bounds of pieces within a width
data Inside (w : ℕ) : List (ℕ × ℕ) → Type 0 where
  nothing : Inside w []
  bounds : {c d : ℕ} {rest : List (ℕ × ℕ)} → c < d → d ≤ w → Inside w rest → Inside w ((c, d) ∷ rest)

inside : (w a : ℕ) (places : List ℕ) (b : ℕ) → rising a places b ≡ true → b ≤ w → Inside w (pieces_of a places b)
unfolding rising pieces_of
inside w a [] b r h = bounds (ltb-true a b r) h nothing
inside w a (p ∷ ps) b r h =
    let (a<p, r') = both (ltb a p) (rising p ps b) r in
    let p<b : p < b = rising_below p ps b r' in
    bounds (ltb-true a p a<p) (omega arith) (inside w p ps b r' h)

some_piece : (s : Bool) (n : Node) (fs : List Forest) → is_empty fs ≡ false → is_empty (map bare (pieces s n fs)) ≡ false
unfolding pieces
some_piece s n [] h = h
some_piece s n (f ∷ []) h = refl
some_piece s n (f ∷ f' ∷ fs) h = refl

-- the piece of the first bracket: a lower one, or the highest
module _ (pcs : PieceReads) (s : Bool) (n : Node) (a b : ℕ) (sound : sound_forest n.forest ≡ true) (e : fixed_literal s n ≡ some (a, b)) where
  lower : (f f' : Forest) (fs : List Forest) (c d : ℕ) → c < d → d ≤ length n.bits → reads_as (length n.bits) f ≡ some (c, d)
      → component (s && is_empty (map bare (pieces s n (f' ∷ fs)))) (bare (piece s n end f)) ≡ ok (bits_between n.bits c d)
  lower f f' fs c d x y h = rw (some_piece s n (f' ∷ fs) refl, and_false) (piece_component false (piece s n end f) n.bits c d (pcs s n a b sound e f c d h x y).0)

  highest : (f : Forest) (c d : ℕ) → c < d → d ≤ length n.bits → reads_as (length n.bits) f ≡ some (c, d)
      → component (s && true) (bare (piece s n (prefix_part s n.forest) f)) ≡ ok (bits_between n.bits c d)
  highest f c d x y h = rw and_true (piece_component s (piece s n (prefix_part s n.forest) f) n.bits c d (pcs s n a b sound e f c d h x y).1)

  pieces_read : (fs : List Forest) {cds : List (ℕ × ℕ)} → Inside (length n.bits) cds → map (reads_as (length n.bits)) fs ≡ map some cds
      → Read component s (map bare (pieces s n fs)) (map (λ (cd : ℕ × ℕ). bits_between n.bits cd.0 cd.1) cds)
  unfolding pieces
  pieces_read [] nothing h = done
  pieces_read [] (bounds x y k) h = never h
  pieces_read (f ∷ []) nothing h = never (sym h)
  pieces_read (f ∷ []) (bounds {c} {d} x y nothing) h = more (highest f c d x y (head-eq_of_cons-eq h)) done
  pieces_read (f ∷ []) (bounds x y (bounds x' y' k)) h = never (tail-eq_of_cons-eq h)
  pieces_read (f ∷ f' ∷ fs) nothing h = never (sym h)
  pieces_read (f ∷ f' ∷ fs) (bounds x y nothing) h = never (sym (tail-eq_of_cons-eq h))
  pieces_read (f ∷ f' ∷ fs) (bounds {c} {d} x y (bounds x' y' k)) h = more (lower f f' fs c d x y (head-eq_of_cons-eq h)) (pieces_read (f' ∷ fs) (bounds x' y' k) (tail-eq_of_cons-eq h))

-- the last bracket's piece is the highest
highest_piece : (s : Bool) (n : Node) (fs : List Forest) → is_empty fs ≡ false → (low : List Node) × (f : Forest) × (pieces s n fs ≡ low ++ (piece s n (prefix_part s n.forest) f ∷ []))
unfolding pieces
highest_piece s n [] h = let z : ◌≡◌ {A = ℕ} 0 1 = cc in absurd (omega arith)
highest_piece s n (f ∷ []) h = ([], f, refl)
highest_piece s n (f ∷ f' ∷ fs) h = let (low, g, e) = highest_piece s n (f' ∷ fs) refl in (piece s n end f ∷ low, g, ap (λ (x : List Node). piece s n end f ∷ x) e)

prefix_kept : PrefixKept → (s : Bool) (n : Node) → sound_forest n.forest ≡ true → (f : Forest) → s ≡ true
    → starting_value 0 (bare (piece s n (prefix_part s n.forest) f) ∷ []) ≡ starting_value 0 (bare n ∷ [])
prefix_kept pre s n sound f e = rw e (pre n sound f 0)

-- ── The tree ──

empty_map : {A B : Type 0} (f : A → B) (l : List A) → is_empty (map f l) ≡ is_empty l
empty_map f [] = refl
empty_map f (a ∷ l) = refl

-- the literal's place in the tree at text start 0, and the flag that its highest component is read with
abbrev around : Given → List (Placed Unparsed) → List (List (Placed Unparsed))
around g m = bare_tree g.concatenations_below ++ (map bare g.below ++ m ++ map bare g.above) ∷ bare_tree g.concatenations_above

abbrev told : Given → Bool
told g = is_empty (bare_tree g.concatenations_below) && is_empty (map bare g.above)

abbrev new_pieces : Given → List Node
new_pieces g = pieces (scanned g) g.node g.brackets

bare_around : (g : Given) (ns : List Node) → bare_tree (tree_with g ns) ≡ around g (map bare ns)
bare_around g ns = simp map-append

told_scanned : (g : Given) → told g ≡ scanned g
told_scanned g = ap₂ ◌&&◌ (empty_map (map bare) g.concatenations_below) (empty_map bare g.above)

module _ (g : Given) (can : Cuttable g) where
  new_read : PieceReads → g.b ≤ length g.node.bits → Read component (told g) (map bare (new_pieces g)) (piece_components g.node.bits g.a (g.place ∷ g.places) g.b)
  new_read pcs within =
      rw (told_scanned g)
      (pieces_read pcs (scanned g) g.node g.a g.b can.sound can.bounds g.brackets
      (inside (length g.node.bits) g.a (g.place ∷ g.places) g.b can.rises within) can.brackets_read)

  some_bracket : is_empty g.brackets ≡ false
  unfolding pieces_of
  some_bracket = sym (empty_map (reads_as (length g.node.bits)) g.brackets) ∙ ap is_empty can.brackets_read

  some_new : is_empty (map bare (new_pieces g)) ≡ false
  some_new = some_piece (scanned g) g.node g.brackets some_bracket

  new_starts : PrefixKept → Keeps (starting_value 0 (source (around g (bare g.node ∷ [])))) (starting_value 0 (source (around g (map bare (new_pieces g)))))
  new_starts pre v h = let (low, f, e) = highest_piece (scanned g) g.node g.brackets some_bracket in go low f e
    where
      go : (low : List Node) (f : Forest) → new_pieces g ≡ low ++ (piece (scanned g) g.node (prefix_part (scanned g) g.node.forest) f ∷ [])
          → starting_value 0 (source (around g (map bare (new_pieces g)))) ≡ ok v
      go low f e =
          rw (e, map-append bare low (piece (scanned g) g.node (prefix_part (scanned g) g.node.forest) f ∷ []))
          (tree_starts (bare_tree g.concatenations_below) (map bare g.below) (bare g.node) (map bare low) (bare (piece (scanned g) g.node (prefix_part (scanned g) g.node.forest) f))
          (map bare g.above) (bare_tree g.concatenations_above)
          (λ x y. prefix_kept pre (scanned g) g.node can.sound f (sym (told_scanned g) ∙ ap₂ ◌&&◌ x y)) v h)

  cut_parsed : LiteralReads → PieceReads → PrefixKept → (p : Parsed) → starting_value 0 (source (around g (bare g.node ∷ []))) ≡ ok p.init
      → (t : BetweenLists component 0 (bare_tree g.concatenations_below) (map bare g.below ++ (bare g.node ∷ []) ++ map bare g.above) (bare_tree g.concatenations_above) p.cc)
      → Between component (is_empty (bare_tree g.concatenations_below)) (map bare g.below) (bare g.node) (map bare g.above) t.read → CutParsed g p
  cut_parsed lit pcs pre p start t b =
      let (is, within) = literal_component lit (scanned g) g.node g.a g.b can.bounds b.read (ap (λ (s : Bool). component s (bare g.node)) (sym (told_scanned g)) ∙ b.reads) in
      record {
        concatenations_below = t.lower;
        below = b.lower;
        above = b.upper;
        concatenations_above = t.upper;
        same_concatenations = t.same_length ∙ length-map g.concatenations_below (map bare);
        same_components = b.same_length ∙ length-map g.below bare;
        old = t.out_is ∙ ap (λ (x : List (Placed Component)). t.lower ++ x ∷ t.upper) (b.out_is ∙ ap (λ (c : Placed Component). b.lower ++ (c ∷ []) ++ b.upper) is);
        new = rw (bare_around g (new_pieces g)) (early_of (around g (map bare (new_pieces g))) p.init _ (new_starts pre p.init start) (t.instead _ _ (b.instead _ _ some_new (new_read pcs within))));
        within_width = within;
      }

pub cut_early_from : LiteralReads → PieceReads → PrefixKept → CutEarly
cut_early_from lit pcs pre g can p accepted =
    let (start, tree) = early_apart (around g (bare g.node ∷ [])) p (rw (bare_around g (g.node ∷ [])) at accepted) in
    let t = between_lists component 0 (bare_tree g.concatenations_below) _ (bare_tree g.concatenations_above) tree in
    cut_parsed g can lit pcs pre p start t (between component (is_empty (bare_tree g.concatenations_below)) (map bare g.below) (bare g.node) (map bare g.above) t.reads)
