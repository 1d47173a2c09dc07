-- Rows one after the other: written so, and as the rows of a tree's parts.
use Rattle.std.specs.Prelude.{◌≡◌, refl, ◌≤◌, ◌+◌, ◌∷◌, ◌++◌}
use Rattle.std.proofs.Common.{sym, ap, ◌∙◌, arith, length-append}
use Rattle.std.proofs.lemmas.List.{map-append}
use Rattle.std.proofs.lemmas.List.Edits.{sets}
use Rattle.definition.specs.Prelude.{ℕ, List, [], map, length}
use Rattle.definition.specs.Basics.{joined}
use Rattle.definition.specs.Tree.{u32, Tree, Node, recs_of, all_recs, text_of, literals_of, packed, record_bytes}
use Rattle.laws.specs.Lists.{joined_append}
use Rattle.laws.specs.Rows.{text_of_append, record_bytes_append}
use Rattle.laws.specs.Sets.{sets_append, sets_apart}
use Rattle.image.specs.writer.Written.{Rows, and_rows, WroteAppend, component_row, node_rows, tree_rows, NodeRowsAppend}

-- ---- writing: several tables in order, each with what is written first and what is written next to it

record Table : Type 0 where
  at : ℕ
  first : List ℕ
  next : List ℕ

abbrev firsts : List ℕ → List Table → List ℕ
firsts l [] = l
firsts l (b ∷ bs) = firsts (sets l b.at b.first) bs

abbrev nexts : List ℕ → List Table → List ℕ
nexts l [] = l
nexts l (b ∷ bs) = nexts (sets l (b.at + length b.first) b.next) bs

abbrev boths : List ℕ → List Table → List ℕ
boths l [] = l
boths l (b ∷ bs) = boths (sets l b.at (b.first ++ b.next)) bs

-- the first begins at e or later, and each ends before the next begins
data InOrder : ℕ → List Table → Type 0 where
  none : {e : ℕ} → InOrder e []
  some : {e : ℕ} {b : Table} {bs : List Table} → e ≤ b.at → InOrder (b.at + length (b.first ++ b.next)) bs → InOrder e (b ∷ bs)

-- what is written before all of them may as well be written first
before_all : (l : List ℕ) (i : ℕ) (a : List ℕ) (e : ℕ) (bs : List Table) → i + length a ≤ e → InOrder e bs
    → sets (firsts l bs) i a ≡ firsts (sets l i a) bs
before_all l i a e [] h none = refl
before_all l i a e (b ∷ bs) h (some g o) =
    before_all (sets l b.at b.first) i a (b.at + length (b.first ++ b.next)) bs (omega arith) o
    ∙ ap (λ (x : List ℕ). firsts x bs) (sym (sets_apart l i a b.at b.first (omega arith)))

in_turn : (l : List ℕ) (e : ℕ) (bs : List Table) → InOrder e bs → nexts (firsts l bs) bs ≡ boths l bs
in_turn l e [] none = refl
in_turn l e (b ∷ bs) (some g o) =
    let n = length-append b.first b.next in
    ap (λ (x : List ℕ). nexts x bs)
    (before_all (sets l b.at b.first) (b.at + length b.first) b.next _ bs (omega arith) o
    ∙ ap (λ (x : List ℕ). firsts x bs) (sets_append l b.at b.first b.next))
    ∙ in_turn (sets l b.at (b.first ++ b.next)) (b.at + length (b.first ++ b.next)) bs o

pub wrote_append : WroteAppend
wrote_append area p v w h =
    in_turn area 0
    (record { at = p.concatenations; first = v.concatenations; next = w.concatenations }
    ∷ record { at = p.components; first = v.components; next = w.components }
    ∷ record { at = p.records; first = v.records; next = w.records }
    ∷ record { at = p.text; first = v.text; next = w.text }
    ∷ record { at = p.literals; first = v.literals; next = w.literals }
    ∷ [])
    (some (omega arith) (some h.concatenations (some h.components (some h.records (some h.text none)))))

-- ---- the rows of components, and of concatenations

joined_map : {A B : Type 0} (f : A → List B) (k l : List A) → joined (map f (k ++ l)) ≡ joined (map f k) ++ joined (map f l)
joined_map f k l = ap joined (map-append f k l) ∙ joined_append (map f k) (map f l)

pub recs_append : (ms ns : List Node) → all_recs (ms ++ ns) ≡ all_recs ms ++ all_recs ns
recs_append ms ns = joined_map recs_of ms ns

pub literals_append : (ms ns : List Node) → literals_of (ms ++ ns) ≡ literals_of ms ++ literals_of ns
literals_append ms ns = joined_map (λ (n : Node). packed n.bits) ms ns

pub node_rows_append : NodeRowsAppend
node_rows_append start ms ns =
    let components = joined_map (λ (n : Node). component_row (length (recs_of n)) (length n.bits)) ms ns in
    let records = ap (record_bytes start) (recs_append ms ns) ∙ record_bytes_append start (all_recs ms) (all_recs ns) in
    let text = ap text_of (recs_append ms ns) ∙ text_of_append (all_recs ms) (all_recs ns) in
    let literals = literals_append ms ns in
    λ i. record { concatenations = []; components = components i; records = records i; text = text i; literals = literals i }

-- the rows of one concatenation whose texts start at `start`
abbrev pub concatenation_rows : ℕ → List Node → Rows
concatenation_rows start c =
    let rows = node_rows start c in
    record {
      concatenations = u32 (length c);
      components = rows.components;
      records = rows.records;
      text = rows.text;
      literals = rows.literals;
    }

pub tree_rows_cons : (start : ℕ) (c : List Node) (t : Tree)
    → tree_rows start (c ∷ t) ≡ and_rows (concatenation_rows start c) (tree_rows (start + length (text_of (all_recs c))) t)
unfolding joined
tree_rows_cons start c t =
    let rows = node_rows_append start c (joined t) in
    λ i.
    record {
      concatenations = u32 (length c) ++ joined (map (λ (c : List Node). u32 (length c)) t);
      components = (rows i).components;
      records = (rows i).records;
      text = (rows i).text;
      literals = (rows i).literals;
    }
