-- Stages 1 and 2 of one component after the other in one loop: what each function of the loop gives.
use Rattle.std.specs.Prelude as Std
use Rattle.std.specs.Prelude.{Ok, Err, set, ◌≡◌, ◌≤◌, ◌+◌, if◌then◌else◌}
use Rattle.definition.specs.Prelude.{ℕ, Bool, List, length, take, leb}
use Rattle.definition.specs.Basics as Basics
use Rattle.definition.specs.Basics.{Result, ok, refused, refusal_of, ◌>>=◌, with_places, joined}
use Rattle.definition.specs.Image.{Unparsed, Placed, bytes_for, tree_of}
use Rattle.definition.specs.Tree.{Node, recs_of, all_recs, literals_of}
use Rattle.definition.specs.Component as Def
use Rattle.definition.specs.Component.{keep_base, each_in, each, stage1_component, simplify}
use Rattle.prepared.specs.Statement.{placed_from}
use Rattle.errors.specs.Reasons.{number}
use Rattle.errors.specs.Refused.{refused_as, result_of}
use Rattle.errors.specs.declared.Refusal.{Refusal}
use Rattle.stages.specs.token_tree.Rows.{node_of, TablesFit}
use Rattle.stages.specs.ranges.Values.{Tree}
use Rattle.stages.specs.component.Values.{component_of, ComponentStaged}
use Rattle.stages.specs.component.Start.{after_of}
use Rattle.stages.specs.component.Kept.{EndGiven, Is, KeptIn, KeptFrom}
use Rattle.stages.specs.declared.token_tree.types.Run.{Run}
use Rattle.stages.specs.declared.token_tree.types.Tables.{Tables}
use Rattle.stages.specs.declared.component.types.Component.{Component}
use Rattle.stages.specs.declared.component.start.Start.{Start}
use Rattle.stages.specs.declared.component.read.Unread.{Unread}
use Rattle.stages.specs.declared.component.read.Unread.TheVariants as U
use Rattle.stages.specs.declared.component.walk.Walk.{Walk}

-- whether a stage refuses
abbrev pub verdict : {A : Type 0} → Result A → Result Unit
verdict m = m >>= λ _. ok tt

-- ---- one component

-- m is what stage 1 gives of it
abbrev pub ReadIs : List ℕ → Tree → ℕ → Std.Result Component Unread → Result Def.Component → Type 0
ReadIs image t base (Ok c) m =
    ((m >>= simplify) ≡ ok (component_of image t base c)) × ComponentStaged image t base c × EndGiven image t base c
ReadIs image t base (Err (U.First r)) m = m ≡ refused (refusal_of (number r) 0 0)
ReadIs image t base (Err (U.Second r)) m = (d : Def.Component) × (m ≡ ok d) × (simplify d ≡ refused (refusal_of (number r) 0 0))

-- a run without its starting value, behind which record `after` stands
abbrev pub without_after : Run → ℕ → Run
without_after run after =
    if leb after run.r.0 then run
    else if leb run.stop.0 after then run else record { r = record { 0 = after }; stop = run.stop; «end» = run.«end» }

abbrev pub without_by : Run → Std.Option Start → Run
without_by run start = without_after run (after_of start)

-- ---- the loop: `each f >>= each g` in one, so the first refusal of f, else the first of g

abbrev pub walk_from : Walk
walk_from = record { k = record { 0 = 0 }; r = record { 0 = 0 }; l = 0; second = Ok tt }

-- room for n components from the walk's on
pub record WalkFits (image : List ℕ) (t : Tables) (w : Walk) (n room : ℕ) : Type 0 where
  pub tables : TablesFit image t w.k.0 w.l n
  pub literals : t.literals + w.l ≤ length image
  pub room_fits : w.k.0 + n ≤ room

-- whether stage 1 refuses
abbrev pub first_in : Std.Result Walk Refusal → Result Unit
first_in (Ok r) = ok tt
first_in (Err q) = refused_as q

-- component j of concatenation i, whose text begins at s
pub record TurnIs (image : List ℕ) (t : Tables) (i j : ℕ) (scanned : Bool) (s : ℕ) (n : Node) (w : Walk) (q : Std.Result Walk Refusal) (kept kept' : List Component) : Type 0 where
  pub long : length kept' ≡ length kept
  pub before : take w.k.0 kept' ≡ take w.k.0 kept
  pub first : first_in q ≡ with_places i j (verdict (stage1_component scanned (node_of n)))
  pub turned : (r : Walk) → q ≡ Ok r → (r.k.0 ≡ w.k.0 + 1) × (r.r.0 ≡ w.r.0 + length (recs_of n)) × (r.l ≡ w.l + bytes_for (length n.bits))
  pub second : (r : Walk) (d : Def.Component) → q ≡ Ok r → stage1_component scanned (node_of n) ≡ ok d
      → result_of r.second ≡ (result_of w.second >>= λ _. with_places i j (verdict (simplify d)))
  pub one : (d : Def.Component) → (stage1_component scanned (node_of n) >>= simplify) ≡ ok d
      → (c : Component) × Is image t.tree c (record { base = s; value = d }) × (kept' ≡ set kept w.k.0 c)
  -- one that is refused is not kept
  pub refused_one : (x : Basics.Refusal) → (stage1_component scanned (node_of n) >>= simplify) ≡ refused x → kept' ≡ kept

-- stages 1 and 2 of placed components
abbrev pub first_stage : Bool → Placed Unparsed → Result (Placed Def.Component)
first_stage = keep_base stage1_component

abbrev pub second_stage : Bool → Placed Def.Component → Result (Placed Def.Component)
second_stage = keep_base (λ last. simplify)

-- the components of concatenation i, of these nodes
pub record TurnsAre (image : List ℕ) (t : Tables) (i s : ℕ) (ns : List Node) (w : Walk) (q : Std.Result Walk Refusal) (kept kept' : List Component) : Type 0 where
  pub long : length kept' ≡ length kept
  pub before : take w.k.0 kept' ≡ take w.k.0 kept
  pub first : first_in q ≡ verdict (each_in first_stage i 0 (placed_from s ns))
  -- where stage 1 refuses none, the walk stands behind them
  pub turned : (r : Walk) → q ≡ Ok r
      → (r.k.0 ≡ w.k.0 + length ns) × (r.r.0 ≡ w.r.0 + length (all_recs ns)) × (r.l ≡ w.l + length (literals_of ns))
  pub second : (r : Walk) (bs : List (Placed Def.Component)) → q ≡ Ok r → each_in first_stage i 0 (placed_from s ns) ≡ ok bs
      → result_of r.second ≡ (result_of w.second >>= λ _. verdict (each_in second_stage i 0 bs))
  pub are : (bs ds : List (Placed Def.Component)) → each_in first_stage i 0 (placed_from s ns) ≡ ok bs → each_in second_stage i 0 bs ≡ ok ds
      → KeptIn image t.tree kept' w.k.0 ds

-- both stages of the whole tree, "each over the whole tree before the next"
abbrev pub two_stages : List (List (Placed Unparsed)) → Result (List (List (Placed Def.Component)))
two_stages t = each first_stage 0 t >>= each second_stage 0

pub record StagesAre (image : List ℕ) (q : Std.Result Unit Refusal) (kept : List Component) : Type 0 where
  pub answer : result_of q ≡ verdict (two_stages (tree_of image))
  pub are : (cc : List (List (Placed Def.Component))) → two_stages (tree_of image) ≡ ok cc → KeptFrom image kept 0 (joined cc)
