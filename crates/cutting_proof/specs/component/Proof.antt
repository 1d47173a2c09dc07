-- Stages 1 and 2 of a literal with fixed bounds, and of its pieces.
use Rattle.std.specs.Prelude.{◌≡◌, ◌≤◌, ◌<◌, ◌∷◌}
use Rattle.std.proofs.Math.Path.{refl, ap}
use Rattle.std.proofs.Common.{sym, ◌∙◌, subst}
use Rattle.std.proofs.Math.Option.{none-ne-some}
use Rattle.definition.specs.Prelude.{ℕ, Bool, true, false, not, Option, none, some, List, [], length}
use Rattle.definition.specs.Basics.{Result, ok, refused, ◌>>=◌, with_places, is_empty}
use Rattle.definition.specs.Refusals.{need, empty_after_colon}
use Rattle.definition.specs.Image.{Rec, Unparsed, Placed}
use Rattle.definition.specs.Tree.{Forest, end, Node, flat}
use Rattle.definition.specs.Text.{Part, Item, items_of, items, part_of}
use Rattle.definition.specs.Component.{Component, literal, Split, split_range, Prefix, split_colon, split_of, middle, is_literal, parse_component, stage1_component, starting_value, simplify}
use Rattle.cutting.specs.Statement.{◌⊕◌, unranged, Colon, at_colon, prefix_part, middle_part, unparsed, fixed_range, fixed_literal, reads_as, piece}
use Rattle.cutting_proof.specs.component.Statement.{cut_to, LiteralReads, ReadAs, PieceReads, PrefixKept}
use Rattle.cutting_proof.specs.component.Forests.{chunks_of, Opened, bracket, sound_opened, unranged_opened, mid_items, bracket_items, opened_after, ⊕_assoc}
use Rattle.laws.specs.Results.{ok_same}
use Rattle.cutting_proof.specs.component.Colons.{Agrees, neither, both, colon_agrees}
use Rattle.cutting_proof.specs.component.Fixed.{fixed_cut, fixed_bounds}
use Rattle.cutting_proof.specs.component.Literals.{fixed_of, LiteralRead, literal_read, bracket_read}

-- ── The literal ──

record FixedRead (s : Bool) (n : Node) (a b : ℕ) : Type 0 where
  component : Component
  read : stage1_component s (unparsed n) ≡ ok component
  bounds : fixed_of component ≡ some (a, b)
  as_literal : LiteralRead (middle s (unparsed n)) n.bits component

fixed_read : (s : Bool) (n : Node) (a b : ℕ) → fixed_literal s n ≡ some (a, b) → FixedRead s n a b
fixed_read s n a b h = go (stage1_component s (unparsed n)) refl h
  where
    go : (m : Result Component) → stage1_component s (unparsed n) ≡ m → ◌≡◌ {A = Option (ℕ × ℕ)} (elim m [ refused q ↦ none | ok c ↦ fixed_of c ]) (some (a, b)) → FixedRead s n a b
    go (refused q) e h = absurd (none-ne-some (a, b) h)
    go (ok c) e h = record { component = c; read = e; bounds = h; as_literal = literal_read (middle s (unparsed n)) (split_of (unparsed n)).range n.bits c e h }

pub literal_reads : LiteralReads
literal_reads s n a b h c c' p q = go (fixed_read s n a b h)
  where
    go : FixedRead s n a b → (c' ≡ cut_to n.bits a b) × (a < b) × (b ≤ length n.bits)
    go f =
        let l = f.as_literal in
        let x : Component = record { c_type = literal n.bits; range = l.range } in
        let fixed : fixed_range (length n.bits) l.range ≡ some (a, b) = ap fixed_of l.is ∙ f.bounds in
        let passes : simplify x ≡ ok c' = ap simplify (l.is ∙ ok_same f.read p) ∙ q in
        let (lt, le) = fixed_bounds n.bits l.range a b l.fits fixed passes in
        (ok_same passes (fixed_cut n.bits l.range a b fixed lt le), lt, le)

-- ── The parts of a component ──

-- what is left of the items before a range once a starting value is taken off
abbrev middle_as : Bool → List Item → List Item
middle_as false mid = mid
middle_as true mid = elim (split_colon mid) [ none ↦ mid | some p ↦ p.after ]

middle_as_lem : (s : Bool) (u : Unparsed) → middle s u ≡ middle_as s (split_of u).mid
middle_as_lem false u = refl
middle_as_lem true u = refl

-- a forest's part after the colon, and its items
abbrev prefix_in : Option Colon → Forest
prefix_in o = elim o [ none ↦ end | some c ↦ c.prefix ]

abbrev after_in : Forest → Option Colon → Forest
after_in g o = elim o [ none ↦ g | some c ↦ c.after ]

colon_joins : (g : Forest) {o : Option Colon} {q : Option Prefix} → Agrees g o q → prefix_in o ⊕ after_in g o ≡ g
unfolding ◌⊕◌
colon_joins g neither = refl
colon_joins g (both at e e') = e

colon_items : (at : ℕ) (g : Forest) {o : Option Colon} {q : Option Prefix} → Agrees g o q →
    (at' : ℕ) × (◌≡◌ {A = List Item} (elim q [ none ↦ items_of at (chunks_of g) | some p ↦ p.after ]) (items_of at' (chunks_of (after_in g o))))
colon_items at g neither = (at, refl)
colon_items at g (both at' e e') = (at', e')

module _ (n : Node) (o : Opened n.forest) where
  before : Forest
  before = unranged n.forest

  agrees : Agrees before (at_colon before) (split_colon (items_of 0 (chunks_of before)))
  unfolding before
  agrees = colon_agrees 0 before (unranged_opened n.forest o)

  parts_join : (s : Bool) → prefix_part s n.forest ⊕ middle_part s n.forest ≡ unranged n.forest
  unfolding before ◌⊕◌
  parts_join false = refl
  parts_join true = colon_joins before agrees

  middle_opened : (s : Bool) → Opened (middle_part s n.forest)
  middle_opened s = opened_after (prefix_part s n.forest) (middle_part s n.forest) (subst Opened (sym (parts_join s)) (unranged_opened n.forest o))

  middle_items : (s : Bool) → (at : ℕ) × (middle s (unparsed n) ≡ items_of at (chunks_of (middle_part s n.forest)))
  unfolding before
  middle_items false = (0, mid_items n.forest o)
  middle_items true =
      let (at, e) = colon_items 0 before agrees in (at, ap (middle_as true) (mid_items n.forest o) ∙ e)

  -- the highest piece has the literal's items before its range
  highest_split : (s : Bool) (f : Forest) →
      (inner : ℕ) × (split_of (unparsed (piece s n (prefix_part s n.forest) f)) ≡ record { mid = (split_of (unparsed n)).mid; range = some (items inner (flat f)) })
  highest_split s f =
      let prefix = prefix_part s n.forest in
      let (inner, q) = bracket_items (unranged n.forest) f (unranged_opened n.forest o) in
      let joined : prefix ⊕ middle_part s n.forest ⊕ bracket f ≡ unranged n.forest ⊕ bracket f =
      ⊕_assoc prefix (middle_part s n.forest) (bracket f) ∙ ap (λ g. g ⊕ bracket f) (parts_join s) in (
        inner,
        ap (λ g. split_range (items 0 (flat g))) joined ∙ q ∙ ap {B = Split} (λ is. record { mid = is; range = some (items inner (flat f)) }) (sym (mid_items n.forest o)),
      )

  -- a lower piece has the items of the literal's middle
  lower_split : (s : Bool) (f : Forest) →
      (inner : ℕ) × (split_of (unparsed (piece s n end f)) ≡ record { mid = items_of 0 (chunks_of (middle_part s n.forest)); range = some (items inner (flat f)) })
  unfolding ◌⊕◌
  lower_split s f = bracket_items (middle_part s n.forest) f (middle_opened s)

-- ── The pieces ──

begins_anywhere : (at at' : ℕ) (cs : List (List Rec)) → is_literal (items_of at cs) ≡ is_literal (items_of at' cs)
unfolding items_of
begins_anywhere at at' [] = refl
begins_anywhere at at' ([] ∷ cs) = refl
begins_anywhere at at' ((r ∷ rs) ∷ cs) = refl

stage1_split : (s : Bool) (u : Unparsed) {parts : Split} → split_of u ≡ parts → stage1_component s u ≡ parse_component (middle_as s parts.mid) parts.range u.bits
stage1_split s u e =
    ap (λ mid. parse_component mid (split_of u).range u.bits) (middle_as_lem s u)
    ∙ ap (λ parts. parse_component (middle_as s parts.mid) parts.range u.bits) e

-- a component whose items before the range begin like a literal
read_as : (s : Bool) (m : Node) (mid : List Item) (inner : ℕ) (f : Forest) (c d : ℕ) →
    split_of (unparsed m) ≡ record { mid = mid; range = some (items inner (flat f)) } → is_literal (middle_as s mid) ≡ true → is_empty m.bits ≡ false →
    reads_as (length m.bits) f ≡ some (c, d) → c < d → d ≤ length m.bits → ReadAs s m m.bits c d
read_as s m mid inner f c d e l w r h k =
    let (x, p, q) = bracket_read (middle_as s mid) m.bits inner f c d l w r h k in (x, stage1_split s (unparsed m) e ∙ p, q)

pub piece_reads : PieceReads
piece_reads s n a b sound h f c d r lt le = (lower (lower_split n o s f) (middle_items n o s), highest (highest_split n o s f))
  where
    o : Opened n.forest
    o = sound_opened n.forest sound

    l : LiteralRead (middle s (unparsed n)) n.bits (fixed_read s n a b h).component
    l = (fixed_read s n a b h).as_literal

    middle_chunks : List (List Rec)
    middle_chunks = chunks_of (middle_part s n.forest)

    lower : (inner : ℕ) × (split_of (unparsed (piece s n end f)) ≡ record { mid = items_of 0 middle_chunks; range = some (items inner (flat f)) }) →
        (at : ℕ) × (middle s (unparsed n) ≡ items_of at middle_chunks) → ReadAs false (piece s n end f) n.bits c d
    lower (inner, e) (at, m) =
        read_as false (piece s n end f) (items_of 0 middle_chunks) inner f c d e (begins_anywhere 0 at middle_chunks ∙ ap is_literal (sym m) ∙ l.begins) l.wide r lt le

    highest : (inner : ℕ) × (split_of (unparsed (piece s n (prefix_part s n.forest) f)) ≡ record { mid = (split_of (unparsed n)).mid; range = some (items inner (flat f)) }) →
        ReadAs s (piece s n (prefix_part s n.forest) f) n.bits c d
    highest (inner, e) =
        read_as s (piece s n (prefix_part s n.forest) f) (split_of (unparsed n)).mid inner f c d e (ap is_literal (sym (middle_as_lem s (unparsed n))) ∙ l.begins) l.wide r lt le

-- ── The starting value ──

value_of : (k : ℕ) (u v : Unparsed) → (split_of u).mid ≡ (split_of v).mid →
    starting_value k (record { base = 0; value = u } ∷ []) ≡ starting_value k (record { base = 0; value = v } ∷ [])
unfolding starting_value
value_of k u v e = ap value e
  where
    value : List Item → Result (Option (Placed Part))
    value mid =
        elim (split_colon mid) [
          | none ↦ ok none
          | some p ↦ with_places 0 k (need (not (is_empty p.after)) empty_after_colon) >>= λ _. ok (some (record { base = 0; value = part_of p.before }))
        ]

pub prefix_kept : PrefixKept
prefix_kept n sound f k =
    value_of k (unparsed (piece true n (prefix_part true n.forest) f)) (unparsed n)
    (ap (λ parts. parts.mid) (highest_split n (sound_opened n.forest sound) true f).1)
