-- An accepted run's answer tells its starting value whatever follows it in the area, and the text that it names lies in the image.
use Rattle.std.specs.Prelude.{◌≡◌, refl, ◌≤◌, ◌<◌, ◌+◌, ◌^◌, ◌∷◌, ◌++◌}
use Rattle.std.proofs.Common.{sym, ap, ◌∙◌, arith, append-nil}
use Rattle.definition.specs.Prelude.{ℕ, true, Option, none, some, List, [], length}
use Rattle.definition.specs.Basics.{ok, joined, ascii}
use Rattle.definition.specs.Limits.{sizes}
use Rattle.definition.specs.Image.{Placed, u32_at, counts, tables, tree_of}
use Rattle.definition.specs.Check.{check_image}
use Rattle.definition.specs.Tree.{Tree, image_of, all_recs, text_of, fits}
use Rattle.definition.specs.Readings.{tokens}
use Rattle.definition.specs.Text.{Part, no_text}
use Rattle.definition.specs.Answer.{Answer, head_bytes, answer_bytes, read_answer}
use Rattle.definition.specs.Run.{Choices, with_default, run, stages}
use Rattle.definition.specs.Compute.{computed}
use Rattle.prepared.specs.Statement.{Bytes, placed_tree}
use Rattle.prepared.specs.Bytes.{Holds}
use Rattle.prepared.specs.Layout.{fits_parts}
use Rattle.prepared.specs.Prepared.{read_back}
use Rattle.prepared.specs.back.Every.{every_image}
use Rattle.prepared.specs.back.Largest.{image_ends}
use Rattle.answer_facts.specs.fits.Accepts.{run_accepts}
use Rattle.answer_facts.specs.read.Blocks.{holds_next, text_lies}
use Rattle.answer_facts.specs.read.Facts.{Found, found, missing}
use Rattle.answer_facts.specs.read.Placement.{answer_fits}
use Rattle.answer_facts.specs.read.ReadAnswer.{reads_answer, init_bytes, front_bytes, placed_parts, word}
use Rattle.answer_facts.specs.read.Statement.{erase_answer, shown}
use Rattle.answer_facts.specs.read.Trees.{PartWithin}

-- the tree of an accepted image, and its stages' answer
pub record Answered (image : List ℕ) (how : Choices) (bytes : List ℕ) : Type 0 where
  pub tree : Tree
  pub a_tree : fits tree ≡ true
  pub its_image : image ≡ image_of tree
  pub checked : check_image image ≡ ok tt
  pub said : Answer
  pub staged : stages how (placed_tree tree) ≡ ok said
  pub its_bytes : bytes ≡ answer_bytes said

pub answered : (image : List ℕ) → Bytes image → (how : Choices) (area : ℕ) (bytes : List ℕ) → run image how area ≡ ok bytes → Answered image how bytes
answered image b how area bytes h =
    let g = run_accepts image how area bytes h in
    let (t, f, e) = every_image image b g.checked in
    record {
      tree = t;
      a_tree = f;
      its_image = e;
      checked = g.checked;
      said = g.said;
      staged = sym (ap (λ x. stages how (tree_of x)) e ∙ ap (stages how) (read_back t f).tree) ∙ g.staged;
      its_bytes = sym g.bytes;
    }

-- the two numbers of the starting value, 0 and 0 where there is none, name a part of the tree's text
start_in_text : (t : Tree) → fits t ≡ true → (how : Choices) (a : Answer) → stages how (placed_tree t) ≡ ok a → (rest : List ℕ)
    → u32_at (answer_bytes a ++ rest) 24 + u32_at (answer_bytes a ++ rest) 28 ≤ length (text_of (all_recs (joined t)))
start_in_text t f how a e rest =
    lies a.init (answer_fits t f how a e).init_stands
    (holds_next s 0 (front_bytes a) (init_bytes a.init) 24 (placed_parts a s (rest, refl)).0 refl)
  where
    s : List ℕ
    s = answer_bytes a ++ rest

    txt : List ℕ
    txt = text_of (all_recs (joined t))

    short : length txt < 2 ^ 32
    short = let n = (fits_parts t f).text in omega (arith, n)

    lies : (x : Option (Placed Part)) → Found (PartWithin txt) x → Holds s 24 (init_bytes x) → u32_at s 24 + u32_at s 28 ≤ length txt
    lies none missing h = text_lies txt short s 24 0 no_text (txt, refl) h
    lies (some p) (found st) h = text_lies txt short s 24 p.base p.value st h

module _ (image : List ℕ) (b : Bytes image) (how : Choices) (area : ℕ) (bytes : List ℕ) (h : run image how area ≡ ok bytes) where
  abbrev it : Answered image how bytes
  it = answered image b how area bytes h

  -- what follows an answer changes nothing of what it says
  pub read_alone : (rest : List ℕ) → read_answer image (bytes ++ rest) ≡ read_answer image bytes
  read_alone rest = said rest ∙ sym (said []) ∙ ap (read_answer image) (append-nil bytes)
    where
      said : (rest : List ℕ) → read_answer image (bytes ++ rest) ≡ shown (erase_answer it.said)
      said rest =
          ap (λ x. read_answer x (bytes ++ rest)) it.its_image ∙ ap (λ s. read_answer (image_of it.tree) (s ++ rest)) it.its_bytes
          ∙ reads_answer it.tree it.a_tree how it.said it.staged rest

  -- nor of any number of its head
  pub head_alone : (rest : List ℕ) (j : ℕ) → j + 4 ≤ sizes.head → u32_at (bytes ++ rest) j ≡ u32_at bytes j
  head_alone rest j l = said rest ∙ sym (said []) ∙ ap (λ s. u32_at s j) (append-nil bytes)
    where
      said : (rest : List ℕ) → u32_at (bytes ++ rest) j ≡ u32_at (head_bytes it.said) j
      said rest = ap (λ s. u32_at (s ++ rest) j) it.its_bytes ∙ word it.said (answer_bytes it.said ++ rest) (rest, refl) j l

  -- the starting value's text lies in the image
  pub start_lies : (rest : List ℕ) → (tables image).text + u32_at (bytes ++ rest) 24 + u32_at (bytes ++ rest) 28 ≤ length image
  start_lies rest =
      let in_text = start_in_text it.tree it.a_tree how it.said it.staged rest in
      let told : u32_at (bytes ++ rest) 24 + u32_at (bytes ++ rest) 28 ≡ u32_at (answer_bytes it.said ++ rest) 24 + u32_at (answer_bytes it.said ++ rest) 28 =
      ap (λ s. u32_at (s ++ rest) 24 + u32_at (s ++ rest) 28) it.its_bytes in
      let size : (counts image).t ≡ length (text_of (all_recs (joined it.tree))) =
      ap (λ x. (counts x).t) it.its_image ∙ (read_back it.tree it.a_tree).text_bytes in
      ends (tables image).text _ _ _ (counts image).t (counts image).b _ (image_ends image it.checked) in_text told size
    where
      ends : (at i k n t b m : ℕ) → length image ≡ at + t + b → m ≤ n → i + k ≡ m → t ≡ n → at + i + k ≤ length image
      ends at i k n t b m e l p q = omega arith

-- ---- a run that meets the premises: `z:a` under a default

abbrev example : List ℕ
example = image_of ((record { forest = tokens ("z" ∷ ":" ∷ "a" ∷ []); bits = [] } ∷ []) ∷ [])

example_accepted : (bytes : List ℕ) × Bytes example × (run example (with_default 1 (ascii "umax")) 1000 ≡ ok bytes)
unfolding computed tokens
example_accepted = (_, refl, refl)

-- its prefix stands at the first byte of the text, which begins at 88
example_start : ((tables example).text + u32_at example_accepted.0 24) ∷ u32_at example_accepted.0 28 ∷ [] ≡ 88 ∷ 1 ∷ []
unfolding computed tokens example_accepted
example_start = refl
