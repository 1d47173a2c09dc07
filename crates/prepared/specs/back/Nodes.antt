-- The components of an image that passes the check are the nodes of a tree.
use Rattle.std.specs.Prelude.{◌≡◌, ◌≤◌, ◌<◌, ◌+◌, ◌/◌, ◌%◌, ◌^◌, ◌∷◌, ◌++◌}
use Rattle.std.proofs.Math.Path.{refl, ap}
use Rattle.std.proofs.Common.{◌∙◌, arith}
use Rattle.std.proofs.Math.Nat.{add_assoc}
use Rattle.std.proofs.Math.ListN.{length-map}
use Rattle.definition.specs.Prelude.{ℕ, zero, suc, true, List, [], map, length, get_or}
use Rattle.definition.specs.Basics.{ok, sum, all, joined, tab}
use Rattle.definition.specs.Limits.{limits}
use Rattle.definition.specs.Image.{Entry, bytes_for, bits_at}
use Rattle.definition.specs.Check.{check_in, text_right}
use Rattle.definition.specs.Tree.{Node, recs_of, all_recs, literals_of, u32, sound_forest, depth, sound_node}
use Rattle.prepared.specs.Statement.{Bytes}
use Rattle.laws.specs.Tests.{and_iff, tested}
use mathlib.Core.List.{map-append}
use Rattle.laws.specs.Lists.{length_tab, tab_add, all_append}
use Rattle.prepared.specs.Bits.{Bits}
use Rattle.laws.specs.Lists.{all_tab}
use Rattle.prepared.specs.back.Cuts.{cut, cut_add}
use Rattle.prepared.specs.back.Groups.{rec_of, byte_right, Built, built}
use Rattle.prepared.specs.back.Literals.{packed_bits_at, bits_at_bits}

sound_node_lem : (n : Node) → 1 ≤ length (recs_of n) → sound_forest n.forest ≡ true → depth n.forest ≤ limits.depth
    → length n.bits ≤ limits.width → Bits n.bits → sound_node n ≡ true
sound_node_lem n c f d w b = simp tested ((((c, f), d), w), b)

-- components: the number of records and the literal width of each, the record table's entries, and where the literals begin
module _ (image text : List ℕ) (lit : ℕ) (count width : ℕ → ℕ) (entry : ℕ → Entry) where
  -- what the check says of component k, its first record being r and its first literal byte l
  pub record Passed (k r l : ℕ) : Type 0 where
    pub some_records : 1 ≤ count k
    pub records : check_in (length text) (count k) (tab entry r (count k)) 0 ≡ ok tt
    pub narrow : width k ≤ limits.width
    pub spare : 0 < width k % 8 → get_or image (lit + l + width k / 8) 0 < 2 ^ (width k % 8)

  -- and of n components from k
  abbrev pub AllPassed : (k r l n : ℕ) → Type 0
  AllPassed k r l zero = Unit
  AllPassed k r l (suc n) = Passed k r l × AllPassed (suc k) (r + count k) (l + bytes_for (width k)) n

  abbrev pub row : ℕ → List ℕ
  row k = u32 (count k) ++ u32 (width k)

  -- the nodes of n components from k: their tables are the image's
  pub record Nodes (k r l n : ℕ) : Type 0 where
    pub nodes : List Node
    pub number : length nodes ≡ n
    pub table : joined (map (λ n. u32 (length (recs_of n)) ++ u32 (length n.bits)) nodes) ≡ joined (tab row k n)
    pub recs : all_recs nodes ≡ map (rec_of text) (tab entry r (sum (tab count k n)))
    pub texts : all (text_right (length text)) (tab entry r (sum (tab count k n))) ≡ true
    pub literals : literals_of nodes ≡ cut image (lit + l) (sum (map bytes_for (tab width k n)))
    pub sound : all sound_node nodes ≡ true

  module _ (bytes : Bytes image) (text_bytes_lem : Bytes text) (right : (i : ℕ) → byte_right text (entry i) ≡ true) where
    one : (k r l n : ℕ) → lit + l + bytes_for (width k) ≤ length image → Passed k r l
        → Nodes (suc k) (r + count k) (l + bytes_for (width k)) n → Nodes k r l (suc n)
    unfolding joined tab sum all
    one k r l n fits p rest =
        go
        (built text text_bytes_lem (count k) (tab entry r (count k)) 0 (rw length_tab (omega arith)) (all_tab (byte_right text) entry right r (count k))
        (omega arith) p.records)
      where
        go : Built text 0 (tab entry r (count k)) → Nodes k r l (suc n)
        go b =
            let node : Node = record { forest = b.forest; bits = bits_at image (lit + l) (width k) } in
            let c : length (recs_of node) ≡ count k =
            ap length b.flat_is ∙ length-map (tab entry r (count k)) (rec_of text) ∙ length_tab entry r (count k) in
            let w : length node.bits ≡ width k = length_tab _ 0 (width k) in
            record {
              nodes = node ∷ rest.nodes;
              number = ap suc rest.number;
              table = rw (c, w) (ap (λ l. row k ++ l) rest.table);
              recs = rw (tab_add, map-append, b.flat_is, rest.recs);
              texts = rw (tab_add, all_append) (simp and_iff (b.texts, rest.texts));
              literals =
                  rw (packed_bits_at image (lit + l) (width k) bytes fits p.spare, rest.literals, cut_add, add_assoc lit l (bytes_for (width k)));
              sound =
                  (and_iff (sound_node node) (all sound_node rest.nodes)).1 (
                    sound_node_lem node (rw c p.some_records) b.sound (omega arith) (rw w p.narrow) (bits_at_bits image (lit + l) (width k)),
                    rest.sound,
                  );
            }

    pub nodes_of_lem : (n k r l : ℕ) → lit + l + sum (map bytes_for (tab width k n)) ≤ length image → AllPassed k r l n → Nodes k r l n
    unfolding joined tab sum all
    nodes_of_lem zero k r l fits p = record { nodes = []; number = refl; table = refl; recs = refl; texts = refl; literals = refl; sound = refl }
    nodes_of_lem (suc n) k r l fits (p, ps) =
        one k r l n (omega arith) p (nodes_of_lem n (suc k) (r + count k) (l + bytes_for (width k)) (omega arith) ps)
