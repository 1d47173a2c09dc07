-- A walk over the items of a run: what it asks, and what one step gives.
use Rattle.std.specs.Prelude as Std
use Rattle.std.specs.Prelude.{Some, None, ◌≡◌, ◌<◌, ◌≤◌, ◌+◌, ◌-◌}
use Rattle.stages.specs.token_tree.Laid.{Runs}
use Rattle.stages.specs.token_tree.Table.{skip_in, start_or, single_of}
use Rattle.stages.specs.declared.token_tree.items.Items.{Items}
use Rattle.stages.specs.declared.token_tree.items.Seen.{Seen}

-- what is left is a run, whose text starts at s
abbrev pub Walks : Items → Type 0
Walks i = Runs i.image.now i.tree i.stop.0 i.«end».0 i.at.0 i.s.0

-- an item, and what is left behind it
pub record Step (i : Items) (x : Seen) (j : Items) : Type 0 where
  pub below : i.at.0 < i.stop.0
  pub at : x.at ≡ i.at
  pub next : x.next.0 ≡ i.at.0 + skip_in i.image.now i.tree i.at.0
  pub byte : x.byte ≡ single_of i.image.now (i.tree.text + i.s.0) (j.s.0 - i.s.0)
  pub left : j ≡ record i { at = x.next; s = j.s }
  pub text : j.s.0 ≡ start_or i.image.now i.tree x.next.0 i.stop.0 i.«end».0

abbrev pub Steps : Items → Std.Option Seen → Items → Type 0
Steps i None j = i.stop.0 ≤ i.at.0
Steps i (Some x) j = Step i x j
