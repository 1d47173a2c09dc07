-- The components of a tree, placed: each one's text stands at its text start, and all of them are small.
use Rattle.std.specs.Prelude.{◌≡◌, refl, ℕ, suc, ◌+◌, ◌*◌, ◌≤◌, ◌∷◌, ◌++◌}
use Rattle.std.proofs.Common.{ap, ◌∙◌, le_trans, arith, length-drop, take-append-drop}
use Rattle.std.proofs.lemmas.List.{length-map}
use Rattle.definition.specs.Prelude.{true, List, [], map, length, drop}
use Rattle.definition.specs.Basics.{ok, sum, all, joined}
use Rattle.definition.specs.Limits.{limits}
use Rattle.definition.specs.Image.{parts}
use Rattle.definition.specs.Tree.{Tree, Node, recs_of, all_recs, text_of, sound_node, fits}
use Rattle.definition.specs.Answer.{Answer}
use Rattle.definition.specs.Run.{Choices, stages}
use Rattle.prepared.specs.Statement.{placed_from, placed_tree}
use Rattle.laws.specs.Lists.{length_joined}
use Rattle.prepared.specs.Bytes.{Holds, holds_whole, holds_left, holds_right}
use Rattle.prepared.specs.Groups.{text_of_append}
use Rattle.prepared.specs.Components.{sound_cons}
use Rattle.prepared.specs.Layout.{fits_parts}
use Rattle.answer_facts.specs.read.Facts.{Every, every_nil, every_cons, the_given}
use Rattle.answer_facts.specs.read.Trees.{total, size_before, Begins, Fitting, stages_fitting}

-- ---- parts, joined again

pub joined_parts : {A : Type 0} (ns : List ℕ) (l : List A) → length l ≤ sum ns → joined (parts ns l) ≡ l
unfolding joined parts sum
joined_parts [] [] h = refl
joined_parts [] (a ∷ l) h = absurd (omega arith)
joined_parts (n ∷ ns) l h =
    let e = length-drop n l in
    rw (joined_parts ns (drop n l) (omega arith)) (take-append-drop n l)

pub length_parts : {A : Type 0} (ns : List ℕ) (l : List A) → length (parts ns l) ≡ length ns
unfolding parts
length_parts [] l = refl
length_parts (n ∷ ns) l = ap suc (length_parts ns (drop n l))

-- ---- the placed components

length_placed : (base : ℕ) (ns : List Node) → length (placed_from base ns) ≡ length ns
unfolding placed_from
length_placed base [] = refl
length_placed base (n ∷ ns) = ap suc (length_placed (base + length (text_of (recs_of n))) ns)

placed_begin : (txt : List ℕ) (base : ℕ) (ns : List Node) → Holds txt base (text_of (all_recs ns)) → Every (Begins txt) (placed_from base ns)
unfolding placed_from joined
placed_begin txt base [] h = every_nil
placed_begin txt base (n ∷ ns) h =
    let h' : Holds txt base (text_of (recs_of n) ++ text_of (all_recs ns)) = rw (← text_of_append (recs_of n) (all_recs ns)) h in
    every_cons (holds_left txt base (text_of (recs_of n)) (text_of (all_recs ns)) h')
    (placed_begin txt (base + length (text_of (recs_of n))) ns (holds_right txt base (text_of (recs_of n)) (text_of (all_recs ns)) h'))

placed_small : (base : ℕ) (ns : List Node) → all sound_node ns ≡ true → total size_before (placed_from base ns) ≤ suc limits.width * length ns
unfolding placed_from sum
placed_small base [] h = omega arith
placed_small base (n ∷ ns) h =
    let (s, h') = sound_cons n ns h in
    let w = s.width in
    let l = placed_small (base + length (text_of (recs_of n))) ns h' in
    omega arith

joined_tree : (t : Tree) → joined (placed_tree t) ≡ placed_from 0 (joined t)
unfolding placed_tree
joined_tree t =
    let e = length_placed 0 (joined t) in
    let q = length_joined t in
    joined_parts (map length t) (placed_from 0 (joined t)) (omega arith)

length_tree : (t : Tree) → length (placed_tree t) ≡ length t
unfolding placed_tree
length_tree t = length_parts (map length t) (placed_from 0 (joined t)) ∙ length-map t length

-- ---- the answer's texts stand in the tree's text, and there are few of them

pub answer_fits : (t : Tree) → fits t ≡ true → (how : Choices) (a : Answer) → stages how (placed_tree t) ≡ ok a
    → Fitting (text_of (all_recs (joined t))) (length t) (suc limits.width * limits.components) a.init (map (λ c. c.comps) a.cc)
answer_fits t h how a e = go (the_given (rw e at (stages_fitting txt how (placed_tree t) (rw joined_tree (placed_begin txt 0 (joined t) (holds_whole txt))))))
  where
    txt : List ℕ
    txt = text_of (all_recs (joined t))

    size : total size_before (joined (placed_tree t)) ≤ suc limits.width * limits.components
    size =
        let f = fits_parts t h in
        let n = f.components in
        rw joined_tree (le_trans (placed_small 0 (joined t) f.sound) (omega arith))

    go : Fitting txt (length (placed_tree t)) (total size_before (joined (placed_tree t))) a.init (map (λ c. c.comps) a.cc)
        → Fitting txt (length t) (suc limits.width * limits.components) a.init (map (λ c. c.comps) a.cc)
    go f = record { concats = f.concats ∙ length_tree t; init_stands = f.init_stands; texts = f.texts; small = le_trans f.small size }
