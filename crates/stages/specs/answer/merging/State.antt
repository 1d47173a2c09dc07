-- What the code holds between two components: where the next block stands, and an open run whose bits stand in the literal block.
use Rattle.std.specs.Prelude as Std
use Rattle.std.specs.Prelude.{Some, None, ◌≡◌, ◌<◌, ◌≤◌, ◌+◌, ◌^◌, ◌∷◌}
use Rattle.std.proofs.lemmas.List.Edits.{sets}
use Rattle.definition.specs.Prelude.{ℕ, true, false, none, some, List, length}
use Rattle.definition.specs.Image.{Placed, bytes_for}
use Rattle.definition.specs.Tree.{packed}
use Rattle.definition.specs.Component.{Component}
use Rattle.definition.specs.Concatenation.{bits_of, is_static_literal}
use Rattle.prepared.specs.Bits as Prepared
use Rattle.answer_facts.specs.merge.Runs.{Run, run_bits, longer, closed, merge_from}
use Rattle.stages.specs.ranges.Values.{Tree}
use Rattle.stages.specs.component.Values as Values
use Rattle.stages.specs.answer.merging.Put.{Room}
use Rattle.stages.specs.answer.merging.Blocks.{put_one, written_one, Same}
use Rattle.stages.specs.declared.component.types.Bits.{Bits}
use Rattle.stages.specs.declared.component.types.ComponentType.TheVariants as T
use Rattle.stages.specs.declared.component.types.Component.{Component as Now}
use Rattle.stages.specs.declared.answer.merging.Writing.{Writing}
use Rattle.stages.specs.declared.answer.merging.Merging.{Merging}

-- how many bits an open run has
abbrev pub run_by : Run → Std.Option ℕ
run_by none = None
run_by (some b) = Some (length (run_bits (some b)))

-- `base` is the area without the open run's bits
pub record Holds (base area : List ℕ) (s : Merging) (o : Run) : Type 0 where
  pub run_is : s.run ≡ run_by o
  pub are_bits : Prepared.Bits (run_bits o)
  pub written : area ≡ sets base (s.w.literals + s.w.offset) (packed (run_bits o))

-- no run is open at w
abbrev pub closed_at : Writing → Merging
closed_at w = record { w = w; run = None }

-- the image's bits b are a component's: they are the open run's last
abbrev pub LongerIs : List ℕ → Bits → Merging → Merging → List ℕ → List ℕ → Type 0
LongerIs image b s r before after =
    (base : List ℕ) (o : Run) (d : Placed Component) → Holds base before s o → Prepared.Bits (bits_of d.value)
    → bits_of d.value ≡ Values.bits_of image b
    → s.w.literals + s.w.offset + length (packed (longer o d).value) ≤ length base
    → length (packed (longer o d).value) < 2 ^ 32
    → Holds base after r (some (longer o d)) × (r.w ≡ s.w)

-- a component whose bits stand in the literal block gets its own block
abbrev pub BlockIs : Placed Component → Writing → Writing → List ℕ → List ℕ → Type 0
BlockIs m w r before after =
    (base : List ℕ) (ms : List (Placed Component)) → before ≡ sets base (w.literals + w.offset) (packed (bits_of m.value))
    → Room base w (m ∷ ms) → (after ≡ put_one base w m) × (r ≡ written_one w m)

-- an open run becomes a literal
pub record Closes (base : List ℕ) (w : Writing) (os ms : List (Placed Component)) (after : List ℕ) (r : Writing) : Type 0 where
  pub area : List ℕ
  pub holds : Holds area after (closed_at r) none
  pub same : Same base w os area r ms

abbrev pub CloseIs : Merging → Writing → List ℕ → List ℕ → Type 0
CloseIs s r before after =
    (base : List ℕ) (o : Run) (ms : List (Placed Component)) → Holds base before s o → Room base s.w (closed o ms)
    → Closes base s.w (closed o ms) ms after r

-- what the functions below ask: there is room for what is to be written
pub record Writable (area : List ℕ) (s : Merging) (ms : List (Placed Component)) : Type 0 where
  pub base : List ℕ
  pub run : Run
  pub holds : Holds base area s run
  pub room : Room base s.w (merge_from run ms)

-- or an open run to be closed before others
pub record Closable (area : List ℕ) (s : Merging) (ms : List (Placed Component)) : Type 0 where
  pub base : List ℕ
  pub run : Run
  pub holds : Holds base area s run
  pub room : Room base s.w (closed run ms)

-- a static literal's bits, and none of another component
abbrev pub StaticBits : Now → Std.Option Bits → Type 0
StaticBits c (Some b) = (c.c_type ≡ T.Literal b) × ((image : List ℕ) (t : Tree) (base : ℕ) → is_static_literal (Values.component_of image t base c) ≡ true)
StaticBits c None = (image : List ℕ) (t : Tree) (base : ℕ) → is_static_literal (Values.component_of image t base c) ≡ false

-- a component that is no static literal, where no run is open
abbrev pub OtherIs : Placed Component → Writing → Writing → List ℕ → List ℕ → Type 0
OtherIs d w r before after =
    (base : List ℕ) (ms : List (Placed Component)) → Holds base before (closed_at w) none → Prepared.Bits (bits_of d.value)
    → Room base w (d ∷ ms) → Closes base w (d ∷ ms) ms after r

-- what is to be written of ms from one place is what is to be written of cs, behind a run, from the place that is reached
pub record Goes (base : List ℕ) (w : Writing) (ms cs : List (Placed Component)) (after : List ℕ) (r : Merging) : Type 0 where
  pub area : List ℕ
  pub run : Run
  pub holds : Holds area after r run
  pub same : Same base w ms area r.w (merge_from run cs)

abbrev pub StepIs : Placed Component → Merging → Merging → List ℕ → List ℕ → Type 0
StepIs d s r before after =
    (base : List ℕ) (o : Run) (cs : List (Placed Component)) → Holds base before s o → Prepared.Bits (bits_of d.value)
    → Room base s.w (merge_from o (d ∷ cs)) → Goes base s.w (merge_from o (d ∷ cs)) cs after r

-- behind a block whose literal has so many bits
abbrev pub behind_by : Writing → ℕ → Writing
behind_by w bits = record { at = w.at + 72; literals = w.literals; offset = w.offset + bytes_for bits }
