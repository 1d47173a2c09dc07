-- The two claims, by induction over what stage 1 reads.
use Rattle.std.specs.Prelude.{◌≡◌, ◌&&◌, ◌∷◌}
use Rattle.std.proofs.Math.Path.{refl}
use Rattle.std.proofs.Common.{sym, ◌∙◌}
use Rattle.definition.specs.Prelude.{ℕ, suc, Bool, Option, List, [], eqb}
use Rattle.definition.specs.Basics.{Result, ok, refused, ◌>>=◌, is_empty, same_bytes}
use Rattle.definition.specs.Image.{Unparsed, Placed}
use Rattle.definition.specs.Tree.{text_of}
use Rattle.definition.specs.Text.{Part, chunks, items_of, bytes_of}
use Rattle.definition.specs.Ranges.{unbounded, scan_from, parse_range}
use Rattle.definition.specs.Component.{Component, variable, split_range, split_colon, keep_base, each_in, each, parse_component, stage1_component, simplify_usb, simplify_range, simplify, starting_value, source, stage1, stage2}
use Rattle.definition.specs.Run.{Choices, stages}
use Rattle.laws.specs.Results.{bind_ok, bind_assoc}
use Rattle.answer_facts.specs.stages.Each.{Read, ReadTree, each_read, read_each}
use Rattle.answer_facts.specs.stages.Statement.{later, InTurn, both, StagesRead, ReadFirst}

-- h is g after f
module _ {A B C : Type 0} (f : Bool → A → Result B) (g : Bool → B → Result C) (h : Bool → A → Result C)
    (same : (s : Bool) (a : A) → h s a ≡ (f s a >>= g s)) where
  same_empty : (s : Bool) {l : List A} {m : List B} → Read f s l m → is_empty l ≡ is_empty m
  same_empty s Read.done = refl
  same_empty s (Read.more p r) = refl

  -- where f refuses none, h says what g says of f's answers, refusals with their places
  second_in : (i k : ℕ) {l : List A} {m : List B} → Read f (eqb i 0) l m → each_in g i k m ≡ each_in h i k l
  unfolding each_in
  second_in i k Read.done = refl
  second_in i k (Read.more {a} {l = l} p r) = rw (same (eqb i 0 && is_empty l) a, p, same_empty (eqb i 0) r, second_in i (suc k) r)

  second : (i : ℕ) {t : List (List A)} {u : List (List B)} → ReadTree f i t u → each g i u ≡ each h i t
  unfolding each
  second i ReadTree.done = refl
  second i (ReadTree.more p r) = rw (second_in i 0 p, second (suc i) r)

  -- where h refuses none, f refuses none
  first_in : (s : Bool) {l : List A} {n : List C} → Read h s l n → (m : List B) × Read f s l m
  first_in s Read.done = ([], Read.done)
  first_in s (Read.more {a} {l = l} p r) =
      let (b, q, _) = bind_ok (f (s && is_empty l) a) (g (s && is_empty l)) (sym (same (s && is_empty l) a) ∙ p) in
      let (m, rest) = first_in s r in
      (b ∷ m, Read.more q rest)

  first : (i : ℕ) {t : List (List A)} {v : List (List C)} → ReadTree h i t v → (u : List (List B)) × ReadTree f i t u
  first i ReadTree.done = ([], ReadTree.done)
  first i (ReadTree.more p r) =
      let (m, q) = first_in (eqb i 0) p in
      let (u, rest) = first (suc i) r in
      (m ∷ u, ReadTree.more q rest)

-- stages 1 and 2 of a component, its text start kept
kept : (s : Bool) (p : Placed Unparsed) → keep_base both s p ≡ (keep_base stage1_component s p >>= keep_base (λ last. simplify) s)
kept s p = go (stage1_component s p.value)
  where
    go : (m : Result Component)
        → (m >>= simplify >>= λ b. ok (record { base = p.base; value = b }))
        ≡ (m >>= (λ b. ok (record { base = p.base; value = b })) >>= keep_base (λ last. simplify) s)
    go (ok c) = refl
    go (refused q) = refl

-- by what the starting value and stage 1 answer
in_order : (how : Choices) (t : List (List (Placed Unparsed))) (start : Result (Option (Placed Part))) (m : Result (List (List (Placed Component))))
    → each (keep_base stage1_component) 0 t ≡ m
    → (start >>= (λ init. m >>= λ cc. ok (record { init = init; cc = cc })) >>= stage2 >>= later how)
    ≡ (start >>= λ init. m >>= λ _. each (keep_base both) 0 t >>= λ u. later how (record { init = init; cc = u }))
unfolding stage2
in_order how t (refused q) m e = refl
in_order how t (ok init) (refused q) e = refl
in_order how t (ok init) (ok v) e =
    rw (second (keep_base stage1_component) (keep_base (λ last. simplify)) (keep_base both) kept 0 (each_read (keep_base stage1_component) 0 t e))
    (sym (bind_assoc (each (keep_base both) 0 t) (λ cc. ok (record { init = init; cc = cc })) (later how)))

pub in_turn : InTurn
unfolding stages
in_turn how t = bind_assoc (stage1 t) stage2 (later how)

pub stages_read : StagesRead
unfolding stage1
stages_read how t = in_turn how t ∙ in_order how t (starting_value 0 (source t)) (each (keep_base stage1_component) 0 t) refl

pub read_first : ReadFirst
read_first t u e =
    let (v, r) = first (keep_base stage1_component) (keep_base (λ last. simplify)) (keep_base both) kept 0 (each_read (keep_base both) 0 t e) in
    (v, read_each (keep_base stage1_component) 0 r)

-- a tree that stages 1 and 2 read: one component, the character `a`
abbrev pub example : List (List (Placed Unparsed))
example = (record { base = 0; value = record { recs = record { kind = 0; text = 97 ∷ []; skip = 1 } ∷ []; bits = [] } } ∷ []) ∷ []

abbrev pub example_read : List (List (Placed Component))
example_read = (record { base = 0; value = record { c_type = variable (record { at = 0; bytes = 97 ∷ [] }); range = unbounded } } ∷ []) ∷ []

pub example_reads : each (keep_base both) 0 example ≡ ok example_read
unfolding each_in each split_range split_colon chunks items_of parse_component scan_from parse_range simplify simplify_range simplify_usb same_bytes text_of bytes_of
example_reads = refl
