-- The run's outcome as one number, which is small enough for it, and that of tokens. Assumes nothing.
use Rattle.std.specs.Prelude as Std
use Rattle.std.specs.Prelude.{◌%◌, ◌^◌}
use Rattle.std.proofs.Common.{◌≡◌, ◌<◌, ap, ◌∙◌, arith}
use Rattle.definition.specs.Prelude.{ℕ, List, length}
use Rattle.definition.specs.Basics.{Result}
use Rattle.errors.specs.Refused.{result_of}
use Rattle.errors.specs.declared.Refusal.{Refusal}
use Rattle.definition.specs.Run.{Choices, run, ran_on}
use Rattle.definition.specs.Tokens.{tokens_on}
use Rattle.layout_c.specs.outcome.Code.{code_of}
use Rattle.layout_c.specs.Code.{coded_on, coded_with, tokens_coded}
use Rattle.stages.specs.in_force.InForce.{place_in}
use Rattle.stages.specs.declared.in_force.InForce.{InForce}
use Rattle.layout_c.specs.start.Told.{number_at}
use Rattle.layout_c.specs.Split.{code_on, code_small}
use Rattle.layout_c.specs.Tokens.{tokens_code, tokens_small}

pub run_coded : (image area after start : List ℕ) (how : Choices) (o : Std.Result ℕ Refusal) → (result_of o, after, start) ≡ ran_on image how area
    → (n : ℕ) → n ≡ code_of (result_of o) % 2 ^ 64 → ◌≡◌ {A = ℕ × List ℕ} (n, after) (coded_on image how area)
run_coded image area after start how o e n is =
    let code : code_of (result_of o) ≡ code_on image how (length area) = ap (λ (p : Result ℕ × List ℕ × List ℕ). code_of p.0) e in
    let small = code_small image how (length area) in
    let same : n ≡ code_of (result_of o) = omega (arith, is, code, small) in
    ap (λ (m : ℕ). (m, after)) same ∙ ap (λ (p : Result ℕ × List ℕ × List ℕ). (code_of p.0, p.1)) e

-- the same of tokens
pub tokens_coded_lem : (list text area after : List ℕ) (o : Std.Result ℕ Refusal) → length area < 2 ^ 64 → (result_of o, after) ≡ tokens_on list text area
    → (n : ℕ) → n ≡ code_of (result_of o) % 2 ^ 64 → ◌≡◌ {A = ℕ × List ℕ} (n, after) (tokens_coded list text area)
tokens_coded_lem list text area after o h e n is =
    let code : code_of (result_of o) ≡ tokens_code list text (length area) = ap (λ (p : Result ℕ × List ℕ). code_of p.0) e in
    let small = tokens_small list text (length area) h in
    let same : n ≡ code_of (result_of o) = omega (arith, is, code, small) in
    ap (λ (m : ℕ). (m, after)) same ∙ ap (λ (p : Result ℕ × List ℕ). (code_of p.0, p.1)) e

-- with where the starting value in force stands
pub run_told : (image area after start : List ℕ) (how : Choices) (o : Std.Result ℕ Refusal) → (result_of o, after, start) ≡ ran_on image how area
    → (n : ℕ) → n ≡ code_of (result_of o) % 2 ^ 64 → (f : InForce) → f ≡ place_in image (run image how (length area)) → (t : ℕ) → t ≡ number_at f
    → ◌≡◌ {A = ℕ × List ℕ × ℕ} (n, after, t) (coded_with image how area)
run_told image area after start how o e n is f at t told =
    let coded = run_coded image area after start how o e n is in
    λ i. ((coded i).0, (coded i).1, (told ∙ ap number_at at) i)
