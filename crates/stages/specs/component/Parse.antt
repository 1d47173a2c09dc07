-- Stage 1 of a component over the items of its run.
use Rattle.std.specs.Prelude.{◌≡◌, ◌≤◌, ◌+◌, ◌∷◌, ◌++◌}
use Rattle.definition.specs.Prelude.{ℕ, Bool, true, false, none, some, List, [], length, drop}
use Rattle.definition.specs.Basics.{Result}
use Rattle.definition.specs.Image.{Unparsed, kinds}
use Rattle.definition.specs.Text.{Item, items}
use Rattle.definition.specs.Component.{Component, split_range, prefix_of, parse_component, stage1_component}
use Rattle.stages.specs.token_tree.Laid.{Laid, place_of}
use Rattle.stages.specs.declared.token_tree.types.Tree.{Tree}
use Rattle.stages.specs.declared.token_tree.types.Run.{Run}

-- of items without a starting value, or behind one
abbrev pub parse_items : List Item → List ℕ → Result Component
parse_items is bits = parse_component (split_range is).mid (split_range is).range bits

-- the items that stage 1 reads: all, or of the component that is scanned those behind its colon
abbrev pub items_read : Bool → Unparsed → List Item
items_read false u = items 0 u.recs
items_read true u = elim (prefix_of u) [ none ↦ items 0 u.recs | some p ↦ drop (length p.before + 1) (items 0 u.recs) ]

-- so stage 1 of a component is parse_items of those (to be proved: part 5)
abbrev pub StageItems : Type 0
StageItems = (scanned : Bool) (u : Unparsed) → stage1_component scanned u ≡ parse_items (items_read scanned u) u.bits

-- a run whose last item, at record `last`, is a `[` group, with items before it
pub record Ended (image : List ℕ) (t : Tree) (run : Run) (last base s : ℕ) (mid : List Item) (i : Item) : Type 0 where
  pub laid : Laid image t base run.stop.0 run.«end».0 run.r.0 s (mid ++ (i ∷ []))
  pub place : last ≡ place_of image t run.r.0 (length mid)
  pub bracket : i.kind ≡ kinds.bracket
  pub some : 1 ≤ length mid
