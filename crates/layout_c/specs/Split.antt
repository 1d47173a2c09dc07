-- The number that a caller in C gets says all of the outcome: below 2^32 it is the answer's length, and from 2^32 on it is a refusal,
-- whose parts the header takes out again (include/layout.h).
use Rattle.std.specs.Prelude.{◌≡◌, ◌<◌, ◌≤◌, refl, ◌+◌, ◌*◌, ◌/◌, ◌%◌, ◌^◌, ◌∷◌}
use Rattle.std.proofs.Common.{ap, ◌∙◌, arith}
use Rattle.definition.specs.Prelude.{ℕ, true, false, List, [], length, take, drop, eqb}
use Rattle.definition.specs.Basics.{Refusal, Result, ok, refused, ◌>>=◌, ascii}
use Rattle.definition.specs.Image.{tree_of}
use Rattle.definition.specs.Check.{check_image}
use Rattle.definition.specs.Tree.{Node, image_of}
use Rattle.definition.specs.Readings.{tokens}
use Rattle.definition.specs.Answer.{Answer, answer_bytes}
use Rattle.definition.specs.Listing.{program_area}
use Rattle.definition.specs.Run.{Choices, with_default, under, run, stages, in_force}
use Rattle.definition.specs.Compute.{computed}
use Rattle.laws.specs.Tests.{tested, by_test, leb_iff, eqb_iff, eqb_false}
use Rattle.prepared.specs.Statement.{Bytes}
use Rattle.prepared.specs.back.Every.{all_tested}
use Rattle.answer_facts.specs.fits.Accepts.{run_accepts}
use Rattle.answer_facts.specs.fits.Proved.{answer_fits}
use Rattle.refusal_places.specs.Run.{refusal_places}
use Rattle.refusal_places.specs.Witness.{variable, literal}
use Rattle.stages.specs.in_force.InForce.{part_at, part_in, Lies, place_in}
use Rattle.stages.specs.declared.in_force.InForce.{InForce}
use Rattle.stages.specs.declared.in_force.InForce.TheVariants.{Nothing, Image, Default}
use Rattle.stages.proofs.run.Force.{placed}
use Rattle.layout_c.specs.outcome.Code.{code_of}
use Rattle.layout_c.specs.start.Told.{number_at, told_part}

-- the header's macros
abbrev pub number_in : ℕ → ℕ
number_in code = code / 2 ^ 32

abbrev pub concatenation_in : ℕ → ℕ
concatenation_in code = code / 2 ^ 16 % 2 ^ 16

abbrev pub component_in : ℕ → ℕ
component_in code = code % 2 ^ 16

-- what a run comes to, as one number
abbrev pub code_on : List ℕ → Choices → ℕ → ℕ
code_on image how area = code_of (run image how area >>= λ bytes. ok (length bytes))

-- ---- accepted

-- no answer is longer than the greatest area that number 8 asks for
answer_short : (image : List ℕ) (how : Choices) (a : Answer) → check_image image ≡ ok tt → stages how (tree_of image) ≡ ok a
    → length (answer_bytes a) ≤ program_area
answer_short image how a h e =
    let f = answer_fits image h how a e in
    let q = simp tested at (all_tested image h).counted in
    omega (arith, f.room, q.0.0.0.0.1, q.0.0.0.1.1, q.1)

pub accepted_length : (image : List ℕ) (how : Choices) (area : ℕ) (bytes : List ℕ) → run image how area ≡ ok bytes → length bytes ≤ program_area
accepted_length image how area bytes e =
    let h = run_accepts image how area bytes e in
    rw h.bytes at (answer_short image how h.said h.checked h.staged)

pub accepted_split : (image : List ℕ) (how : Choices) (area : ℕ) (bytes : List ℕ) → run image how area ≡ ok bytes
    → (code_on image how area ≡ length bytes) × (code_on image how area < 2 ^ 32)
accepted_split image how area bytes e =
    let short = accepted_length image how area bytes e in
    let code : code_on image how area ≡ length bytes = ap (λ (r : Result (List ℕ)). code_of (r >>= λ b. ok (length b))) e in
    (code, omega (arith, short, code))

-- ---- refused

pub split : (n i k : ℕ) → i < 2 ^ 16 → k < 2 ^ 16 → (code : ℕ) → code ≡ n * 2 ^ 32 + i * 2 ^ 16 + k
    → (number_in code ≡ n) × (concatenation_in code ≡ i) × (component_in code ≡ k)
split n i k p q code e = (omega arith, omega arith, omega arith)

pub refused_split : (image : List ℕ) (how : Choices) (area : ℕ) (q : Refusal) → run image how area ≡ refused q
    → (2 ^ 32 ≤ code_on image how area) × (number_in (code_on image how area) ≡ q.number)
    × (concatenation_in (code_on image how area) ≡ q.concatenation) × (component_in (code_on image how area) ≡ q.component)
refused_split image how area q e =
    let (most, least, concatenation, component) = refusal_places image how area q e in
    let code : code_on image how area ≡ code_of (refused q) = ap (λ (r : Result (List ℕ)). code_of (r >>= λ b. ok (length b))) e in
    let (a, b, c) = split q.number q.concatenation q.component (omega arith) (omega arith) (code_on image how area) code in
    (omega (arith, code, least), a, b, c)

-- the number fits 64 bits
pub code_small : (image : List ℕ) (how : Choices) (area : ℕ) → code_on image how area < 2 ^ 64
code_small image how area = go (run image how area) refl
  where
    go : (r : Result (List ℕ)) → run image how area ≡ r → code_on image how area < 2 ^ 64
    go (ok bytes) e = let s = accepted_split image how area bytes e in omega (arith, s.1)
    go (refused q) e =
        let (most, least, concatenation, component) = refusal_places image how area q e in
        let code : code_on image how area ≡ code_of (refused q) = ap (λ (r : Result (List ℕ)). code_of (r >>= λ b. ok (length b))) e in
        omega (arith, code)

-- ---- where the starting value in force stands

-- the number for a run, which layout_run_with leaves
abbrev pub told_on : List ℕ → Choices → ℕ → ℕ
told_on image how area = number_at (place_in image (run image how area))

-- a number that names a part of the image lies in it
pub data Names (image : List ℕ) (n : ℕ) : Type 0 where
  names_nothing : n ≡ 0 → Names image n
  names_default : n ≡ 2 ^ 63 → Names image n
  names_part : n / 2 ^ 32 + n % 2 ^ 32 ≤ length image → n < 2 ^ 63 → Names image n

-- of any place that lies in the image
place_split : (image default : List ℕ) (f : InForce) → Lies image f → (told_part image default (number_at f) ≡ part_in image default f) × Names image (number_at f)
place_split image default Nothing l = (refl, names_nothing refl)
place_split image default Default l = (refl, names_default refl)
place_split image default (Image at n) (inside, small) = go (at * 2 ^ 32 + n) refl
  where
    go : (t : ℕ) → t ≡ at * 2 ^ 32 + n → (told_part image default t ≡ part_at image at n) × Names image t
    go t is =
        let low : t % 2 ^ 32 ≡ n = omega (arith, is, small) in
        let high : t / 2 ^ 32 ≡ at = omega (arith, is, small) in
        (rw ((leb_iff (at + n) (length image)).1 inside) (by_test (eqb t 0) (none low) (some low high)), names_part (rw (low, high) inside) (omega (arith, is, small)))
      where
        none : t % 2 ^ 32 ≡ n → eqb t 0 ≡ true → told_part image default t ≡ take n (drop at image)
        none low z = let e = (eqb_iff t 0).0 z in let l : n ≡ 0 = omega (arith, e, low) in rw (z, l) refl

        some : t % 2 ^ 32 ≡ n → t / 2 ^ 32 ≡ at → eqb t 0 ≡ false → told_part image default t ≡ take n (drop at image)
        some low high z =
            let other : eqb t (2 ^ 63) ≡ false = eqb_false t (2 ^ 63) (λ e. omega (arith, e, is, small)) in
            rw (z, other, low, high) refl

-- the header finds the starting value in force, within the image or as the default
pub told_split : (image : List ℕ) → Bytes image → (how : Choices) (area : ℕ)
    → (told_part image how.default (told_on image how area) ≡ in_force image how (run image how area)) × Names image (told_on image how area)
told_split image bytes how area =
    let (part, lies) = placed image bytes how area (run image how area) refl in
    let (same, names) = place_split image how.default (place_in image (run image how area)) lies in
    (same ∙ part, names)

-- ---- closed examples of all three

pub codes :
    code_on [] (under 0) 0 ∷ code_on (image_of ((variable ∷ []) ∷ (variable ∷ literal ∷ []) ∷ [])) (under 0) 1000 ∷ code_on (image_of ((variable ∷ []) ∷ [])) (under 0) 1000 ∷ []
    ≡ 8589934592 ∷ 128849084417 ∷ 124 ∷ []
unfolding computed
codes = refl

-- a line with a prefix, a line without one, and no image at all, under a default
abbrev prefixed : Node
prefixed = record { forest = tokens ("z" ∷ ":" ∷ "a" ∷ []); bits = [] }

abbrev told : List ℕ → ℕ
told image = told_on image (with_default 0 (ascii "umax")) 1000

pub tolds :
    told (image_of ((prefixed ∷ []) ∷ [])) ∷ told (image_of ((variable ∷ []) ∷ [])) ∷ told [] ∷ [] ≡ (88 * 2 ^ 32 + 1) ∷ (2 ^ 63) ∷ 0 ∷ []
unfolding computed tokens
tolds = refl

told_met : Bytes (image_of ((prefixed ∷ []) ∷ []))
unfolding computed tokens
told_met = refl
