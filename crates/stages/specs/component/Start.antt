-- The starting value in code, and the record behind its colon.
use Rattle.std.specs.Prelude as Std
use Rattle.std.specs.Prelude.{Some, None, Ok, Err, ◌≡◌, ◌<◌, ◌≤◌, ◌⊎◌, ◌+◌, ◌*◌, ◌-◌, ◌^◌, ◌&&◌, ◌∷◌, if◌then◌else◌}
use Rattle.definition.specs.Prelude.{ℕ, suc, Bool, true, false, not, Option, none, some, List, [], length, eqb}
use Rattle.definition.specs.Basics.{Result, ok, ◌>>=◌, with_places, is_empty, sum, tab}
use Rattle.definition.specs.Refusals.{need, empty_after_colon}
use Rattle.definition.specs.Image.{Placed, u32_at, tree_of, component_count}
use Rattle.definition.specs.Tree as Tree
use Rattle.definition.specs.Tree.{Node, recs_of}
use Rattle.definition.specs.Text as Text
use Rattle.definition.specs.Component.{Prefix, prefix_of, starting_value, source}
use Rattle.errors.specs.Refused.{refused_as}
use Rattle.errors.specs.declared.Refusal.{Refusal}
use Rattle.stages.specs.token_tree.Table.{RecordFits, kind_in, start_in, tree_in, tables_in}
use Rattle.stages.specs.token_tree.Laid.{place_of}
use Rattle.stages.specs.token_tree.Parts.{part_of, PartFits}
use Rattle.stages.specs.token_tree.Rows.{node_of}
use Rattle.stages.specs.declared.token_tree.types.Tree.{Tree as Table}
use Rattle.stages.specs.declared.token_tree.types.Tables.{Tables}
use Rattle.stages.specs.declared.token_tree.types.Run.{Run}
use Rattle.stages.specs.declared.component.start.Start.{Start}
use Rattle.stages.specs.declared.token_tree.types.PBind.{PBind}

-- the records of the k components before component k
unfoldable pub records_before : List ℕ → Tables → ℕ → ℕ
records_before image t k = sum (tab (λ j. u32_at image (t.components + 8 * j)) 0 k)

pub record RecordsFit (image : List ℕ) (t : Tables) (k : ℕ) : Type 0 where
  pub rows : t.components + 8 * k ≤ length image
  pub few : (j : ℕ) → j ≤ k → records_before image t j < 2 ^ 31
  pub small : length image < 2 ^ 31

-- ---- a run without its last item, where that is in brackets

abbrev pub before_by : List ℕ → Table → Run → ℕ → Run
before_by image t run last =
    if eqb (kind_in image t last) 3 then record { r = run.r; stop = record { 0 = last }; «end» = record { 0 = start_in image t last } }
    else run

-- ---- the colon: its record

abbrev pub colon_by : Std.Option PBind → PBind → Std.Option PBind
colon_by (Some c) at = None
colon_by None at = Some at

abbrev pub colon_place : List ℕ → Table → ℕ → Option Prefix → Std.Option PBind
colon_place image t r none = None
colon_place image t r (some p) = Some (record { 0 = place_of image t r (length p.before) })

-- a colon within a run whose text is read
pub record ColonFits (image : List ℕ) (t : Table) (r colon to : ℕ) : Type 0 where
  pub order : r ≤ colon
  pub last : colon < to
  pub first : RecordFits image t r
  pub sign : RecordFits image t colon
  pub texts : start_in image t r ≤ start_in image t colon
  pub fits : t.text + start_in image t colon ≤ length image
  pub few : to < 2 ^ 31

abbrev pub ColonAt : List ℕ → Table → ℕ → Std.Option PBind → ℕ → Type 0
ColonAt image t r (Some c) to = ColonFits image t r c.0 to
ColonAt image t r None to = Unit

-- ---- the starting value

-- of component k, by its items before the range
abbrev pub prefix_value : ℕ → ℕ → Option Prefix → Result (Option (Placed Text.Part))
prefix_value base k none = ok none
prefix_value base k (some p) = do
  _ ← with_places 0 k (need (not (is_empty p.after)) empty_after_colon)
  ok (some (record { base = base; value = Text.part_of p.before }))

abbrev pub start_of : List ℕ → Table → ℕ → Std.Option Start → Option (Placed Text.Part)
start_of image t base None = none
start_of image t base (Some s) = some (record { base = base; value = part_of image t base s.s })

abbrev pub start_result : List ℕ → Table → ℕ → Std.Result (Std.Option Start) Refusal → Result (Option (Placed Text.Part))
start_result image t base (Ok s) = ok (start_of image t base s)
start_result image t base (Err q) = refused_as q

abbrev pub is_given : Std.Option Start → Bool
is_given None = false
is_given (Some s) = true

-- the record behind the colon, 0 for none
abbrev pub after_of : Std.Option Start → ℕ
after_of None = 0
after_of (Some s) = s.after.0

abbrev pub after_place : List ℕ → Table → ℕ → Option Prefix → ℕ
after_place image t r none = 0
after_place image t r (some p) = place_of image t r (suc (length p.before))

-- its text lies within the image
abbrev pub TextFits : List ℕ → Table → ℕ → Std.Option Start → Type 0
TextFits image t base None = Unit
TextFits image t base (Some s) = PartFits image t base s.s

abbrev AfterHeld : List ℕ → Table → ℕ → ℕ → Option Prefix → Std.Result (Std.Option Start) Refusal → Type 0
AfterHeld image t base r p (Ok s) = (after_of s ≡ after_place image t r p) × TextFits image t base s
AfterHeld image t base r p (Err q) = Unit

-- of a component whose items stand from record r on
pub record PrefixReads (image : List ℕ) (t : Table) (base k r : ℕ) (p : Option Prefix) (q : Std.Result (Std.Option Start) Refusal) : Type 0 where
  pub is : start_result image t base q ≡ prefix_value base k p
  pub held : AfterHeld image t base r p q

-- ---- what the record `after` says of the component of node n at record r, that is scanned for a starting value or not

abbrev pub AfterIs : List ℕ → Table → ℕ → ℕ → Bool → Node → Type 0
AfterIs image t after r false n = (after ≤ r) ⊎ (r + length (recs_of n) ≤ after)
AfterIs image t after r true n =
    elim (prefix_of (node_of n)) [ none ↦ after ≡ 0 | some p ↦ (after ≡ place_of image t r (suc (length p.before))) × (1 ≤ length p.after) ]

-- of the components of concatenation i from record r on, and of all
unfoldable pub AfterIn : List ℕ → Table → ℕ → ℕ → ℕ → List Node → Type 0
AfterIn image t after i r [] = Unit
AfterIn image t after i r (n ∷ ns) = AfterIs image t after r (eqb i 0 && is_empty ns) n × AfterIn image t after i (r + length (recs_of n)) ns

unfoldable pub AfterTree : List ℕ → Table → ℕ → ℕ → ℕ → List (List Node) → Type 0
AfterTree image t after i r [] = Unit
AfterTree image t after i r (c ∷ cs) = AfterIn image t after i r c × AfterTree image t after (suc i) (r + length (Tree.all_recs c)) cs

-- where the text of the component that is scanned begins: the last of concatenation 0
abbrev pub scanned_record : List ℕ → ℕ
scanned_record image = records_before image (tables_in image) (component_count image 0 - 1)

abbrev pub scanned_base : List ℕ → ℕ
scanned_base image = start_in image (tree_in image) (scanned_record image)

abbrev StartHeld : List ℕ → List (List Node) → Std.Result (Std.Option Start) Refusal → Type 0
StartHeld image t (Ok s) = AfterTree image (tree_in image) (after_of s) 0 0 t × TextFits image (tree_in image) (scanned_base image) s
StartHeld image t (Err q) = Unit

-- the definition's starting value, and the record behind it
pub record StartReads (image : List ℕ) (t : List (List Node)) (q : Std.Result (Std.Option Start) Refusal) : Type 0 where
  pub is : start_result image (tree_in image) (scanned_base image) q ≡ starting_value 0 (source (tree_of image))
  pub held : StartHeld image t q
