-- Stages 1 and 2 over a tree of short literals: each component after them is normal, and nothing weighs more than before.
use Rattle.std.specs.Prelude.{◌≡◌, ◌≤◌}
use Rattle.std.proofs.Common.{◌∙◌}
use Rattle.std.proofs.Math.Nat.{le_trans}
use Rattle.definition.specs.Prelude.{ℕ, Bool, List, length}
use Rattle.definition.specs.Basics.{joined}
use Rattle.definition.specs.Image.{Unparsed, Placed}
use Rattle.definition.specs.Component.{Component, Parsed, starting_value, source, keep_base, stage1_component, stage1, stage2, simplify}
use Rattle.definition.specs.Concatenation.{bits_of}
use Rattle.answer_facts.specs.read.Facts.{Yields, given, Every, after, bound}
use Rattle.answer_facts.specs.read.Trees.{total, each_kept}
use Rattle.answer_facts.specs.fits.Kept.{Short, stage1_kept}
use Rattle.answer_facts.specs.fits.Normal.{Normal, simplify_normal}

abbrev pub ShortBefore : Placed Unparsed → Type 0
ShortBefore u = Short u.value.bits

abbrev pub ShortAt : Placed Component → Type 0
ShortAt c = Short (bits_of c.value)

abbrev pub NormalAt : Placed Component → Type 0
NormalAt c = Normal c.value × ShortAt c

-- a weight of so many bits
module _ (g : ℕ → ℕ) where
  abbrev pub weight_before : Placed Unparsed → ℕ
  weight_before u = g (length u.value.bits)

  abbrev pub weight : Placed Component → ℕ
  weight c = g (length (bits_of c.value))

-- that does not fall as they grow more
module _ (g : ℕ → ℕ) (grows : (m n : ℕ) → m ≤ n → g m ≤ g n) where
  first_step : (last : Bool) (u : Placed Unparsed) → ShortBefore u
      → Yields (λ c. ShortAt c × (weight g c ≤ weight_before g u)) (keep_base stage1_component last u)
  first_step last u h = bound (stage1_kept last u.value h) λ c k. given (k.0, grows _ _ k.1)

  second_step : (last : Bool) (c : Placed Component) → ShortAt c
      → Yields (λ d. NormalAt d × (weight g d ≤ weight g c)) (keep_base (λ last. simplify) last c)
  second_step last c h = bound (simplify_normal c.value h) λ d k. given ((k.0, k.1.0), grows _ _ k.1.1)

  -- as many concatenations as the tree, of no greater weight, with components of which P holds
  pub record Staged (P : Placed Component → Type 0) (t : List (List (Placed Unparsed))) (cc : List (List (Placed Component))) : Type 0 where
    pub concats : length cc ≡ length t
    pub every : Every P (joined cc)
    pub light : total (weight g) (joined cc) ≤ total (weight_before g) (joined t)

  pub stage1_all : (t : List (List (Placed Unparsed))) → Every ShortBefore (joined t) → Yields (λ p. Staged ShortAt t p.cc) (stage1 t)
  unfolding stage1
  stage1_all t h =
      after (starting_value 0 (source t)) λ init.
      bound (each_kept (keep_base stage1_component) ShortBefore ShortAt (weight_before g) (weight g) first_step 0 t h) λ cc k.
      given (record { concats = k.0; every = k.1; light = k.2 })

  pub stage2_all : (t : List (List (Placed Unparsed))) (p : Parsed) → Staged ShortAt t p.cc → Yields (λ q. Staged NormalAt t q.cc) (stage2 p)
  unfolding stage2
  stage2_all t p s =
      bound (each_kept (keep_base (λ last. simplify)) ShortAt NormalAt (weight g) (weight g) second_step 0 p.cc s.every) λ cc k.
      given (record { concats = k.0 ∙ s.concats; every = k.1; light = le_trans k.2 s.light })
