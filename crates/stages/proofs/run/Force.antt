-- The run tells the starting value in force: where an accepted answer's head says that it stands, its bytes are the definition's.
use Rattle.std.specs.Prelude.{◌+◌, ◌∷◌, if◌then◌else◌}
use Rattle.std.proofs.Common.{◌≡◌, ◌≤◌, sym, refl, ap, ◌∙◌, append-nil, arith, length-drop, ne_eqb}
use Rattle.definition.specs.Prelude.{ℕ, zero, suc, Bool, true, false, not, List, [], length, take, drop, eqb}
use Rattle.definition.specs.Basics.{Result, ok, refused, ◌>>=◌, is_empty, area_after}
use Rattle.definition.specs.Limits.{sizes}
use Rattle.definition.specs.Image.{u32_at, padded, bytes_at, tables}
use Rattle.definition.specs.Answer.{is_set, read_answer}
use Rattle.definition.specs.Run.{Choices, run, in_force, ran_on}
use Rattle.laws.specs.Tests.{leb_iff}
use Rattle.prepared.specs.Statement.{Bytes}
use Rattle.prepared.specs.back.Largest.{image_most}
use Rattle.answer_facts.specs.read.Start.{answered, head_alone, start_lies}
use Rattle.stages.specs.run.Run.{came_to}
use Rattle.stages.specs.in_force.InForce.{part_at, part_in, Lies, told_in, told_by, place_in}
use Rattle.stages.specs.declared.in_force.InForce.{InForce}
use Rattle.stages.specs.declared.in_force.InForce.TheVariants.{Image, Default}

-- a default that is not empty, by its length
pub not_empty : (d : List ℕ) → not (is_empty d) ≡ not (eqb (length d) 0)
not_empty [] = refl
not_empty (b ∷ d) = rw (ne_eqb (length (b ∷ d)) 0 (λ e. omega (arith, e))) refl

-- bytes that are all there
padded_take : (n : ℕ) (s : List ℕ) → n ≤ length s → padded n s ≡ take n s
unfolding padded
padded_take zero s l = refl
padded_take (suc n) [] l = absurd (omega arith)
padded_take (suc n) (b ∷ s) l = ap (λ (r : List ℕ). b ∷ r) (padded_take n s (omega arith))

part_bytes : (image : List ℕ) (at n : ℕ) → at + n ≤ length image → part_at image at n ≡ bytes_at image at n
part_bytes image at n l =
    let d = length-drop at image in
    rw ((leb_iff (at + n) (length image)).1 l) (sym (padded_take n (drop at image) (omega (arith, d))))

module _ (image : List ℕ) (bytes : Bytes image) (how : Choices) where
  -- of a run that accepts, over an area of some length
  module _ (area : ℕ) (answer : List ℕ) (ran : run image how area ≡ ok answer) where
    abbrev place : Bool → InForce
    place b = if b then Image ((tables image).text + u32_at answer 24) (u32_at answer 28) else Default

    told : (b : Bool) → (part_in image how.default (place b) ≡ (if b then (read_answer image answer).init else how.default)) × Lies image (place b)
    unfolding read_answer
    told true =
        let lies : (tables image).text + u32_at answer 24 + u32_at answer 28 ≤ length image = rw append-nil at (start_lies image bytes how area answer ran []) in
        let most = image_most image (answered image bytes how area answer ran).checked in
        (part_bytes image ((tables image).text + u32_at answer 24) (u32_at answer 28) lies, (lies, omega (arith, lies, most)))
    told false = (refl, tt)

    accepted_place : (part_in image how.default (told_in image answer) ≡ in_force image how (ok answer)) × Lies image (told_in image answer)
    unfolding read_answer
    accepted_place = told (is_set (u32_at answer 16) 4)

  -- what stands where it is told are the definition's bytes, and it lies in the image
  pub placed : (area : ℕ) (r : Result (List ℕ)) → run image how area ≡ r
      → (part_in image how.default (place_in image r) ≡ in_force image how r) × Lies image (place_in image r)
  placed area (ok answer) ran = accepted_place area answer ran
  placed area (refused q) ran = (refl, tt)

  -- of a run on a lent area, whose head is the answer's
  module _ (area : List ℕ) where
    same_head : (answer : List ℕ) → run image how (length area) ≡ ok answer → told_in image (area_after area (ok answer)) ≡ told_in image answer
    same_head answer ran = rw (alone 16 (omega arith), alone 24 (omega arith), alone 28 (omega arith)) refl
      where
        alone : (j : ℕ) → j + 4 ≤ sizes.head → u32_at (area_after area (ok answer)) j ≡ u32_at answer j
        alone = head_alone image bytes how (length area) answer ran (drop (length answer) area)

    told_place : (r : Result (List ℕ)) → run image how (length area) ≡ r → told_by image (area_after area r) (r >>= λ bytes. ok (length bytes)) ≡ place_in image r
    told_place (ok answer) ran = same_head answer ran
    told_place (refused q) ran = refl

    pub in_force_lem : (o : Result ℕ) (after : List ℕ) → (o, after) ≡ came_to area (run image how (length area)) → (f : InForce) → f ≡ told_by image after o
        → ((o, after, part_in image how.default f) ≡ ran_on image how area) × (f ≡ place_in image (run image how (length area)))
    in_force_lem o after e f is =
        let r = run image how (length area) in
        let place : f ≡ place_in image r = is ∙ ap (λ (p : Result ℕ × List ℕ). told_by image p.1 p.0) e ∙ told_place r refl in
        let part : part_in image how.default f ≡ in_force image how r = ap (part_in image how.default) place ∙ (placed (length area) r refl).0 in
        (λ i. ((e i).0, (e i).1, part i), place)
