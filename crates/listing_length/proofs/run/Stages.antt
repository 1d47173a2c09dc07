-- The bytes of text of an answer: at most twice those of the tree's records.
use Rattle.std.specs.Prelude.{◌≡◌, ◌≤◌, ◌+◌, ◌&&◌, ◌∷◌, ◌++◌, if◌then◌else◌}
use Rattle.std.proofs.Common.{zero-le, le_refl, arith}
use Rattle.definition.specs.Prelude.{ℕ, suc, Bool, true, false, not, Option, none, some, List, [], map}
use Rattle.definition.specs.Basics.{ok, ◌>>=◌, with_places, is_empty, sum, joined}
use Rattle.definition.specs.Refusals.{need, empty_after_colon}
use Rattle.definition.specs.Image.{Unparsed, Placed}
use Rattle.definition.specs.Text.{Part, part_of}
use Rattle.definition.specs.Component.{Component, Prefix, Parsed, prefix_of, starting_value, each_in, each, keep_base, stage1_component, simplify, stage1, stage2}
use Rattle.definition.specs.Concatenation.{Concatenation, is_static_literal, whole_literal, bits_of, merge_onto, merge, merged}
use Rattle.definition.specs.Overall.{stage4}
use Rattle.definition.specs.Answer.{components}
use Rattle.definition.specs.Run.{Choices, has_start, stages}
use Rattle.answer_facts.specs.read.Facts.{Yields, given, Every, every_nil, every_cons, after, bound, yields_placed}
use Rattle.answer_facts.specs.read.Trees.{total, total_append, each_kept, stage3_comps, merged_comps}
use Rattle.listing_length.specs.run.Items.{size, part_size}
use Rattle.listing_length.specs.run.Ranges.{yields_map}
use Rattle.listing_length.specs.run.Components.{init_size, simplify_text}
use Rattle.listing_length.specs.run.Stages.{twice, texts_of, init_text}
use Rattle.listing_length.proofs.run.Components.{stage1_text}

-- ---- stage 1

reads : (last : Bool) (u : Placed Unparsed) → Yields (λ c. init_size last u.value + texts_of c ≤ twice u) (keep_base stage1_component last u)
reads last u = bound (stage1_text last u.value) λ c h. given h

-- the starting value, and concatenation 0
first_text : (k k' : ℕ) (us : List (Placed Unparsed))
    → Yields (λ init. Yields (λ cs. init_text init + total texts_of cs ≤ total twice us) (each_in (keep_base stage1_component) 0 k' us)) (starting_value k us)
unfolding starting_value each_in sum
first_text k k' [] = given (given zero-le)
first_text k k' (u ∷ []) = go (prefix_of u.value) (reads true u)
  where
    go : (x : Option Prefix)
        → Yields (λ c. elim x [ none ↦ 0 | some p ↦ size p.before ] + texts_of c ≤ twice u) (keep_base stage1_component true u)
        → Yields (λ init. Yields (λ cs. init_text init + total texts_of cs ≤ twice u + 0)
        (with_places 0 k' (keep_base stage1_component true u) >>= λ b. ok (b ∷ [])))
        (elim x [
          | none ↦ ok none
          | some p ↦ do
            _ ← with_places 0 k (need (not (is_empty p.after)) empty_after_colon)
            ok (some (record { base = u.base; value = part_of p.before }))
        ])
    go none h = given {a = none} (bound (yields_placed 0 k' h) λ c l. given {a = c ∷ []} (omega (arith, l)))
    go (some p) h =
        after (with_places 0 k (need (not (is_empty p.after)) empty_after_colon)) λ _.
        given {a = some (record { base = u.base; value = part_of p.before })} (bound (yields_placed 0 k' h) λ c l. given {a = c ∷ []} (omega (arith, l, part_size p.before)))
first_text k k' (u ∷ v ∷ us) =
    yields_map (λ init h. bound (yields_placed 0 k' (reads false u)) λ c l. bound h λ cs ls. given {a = c ∷ cs} (omega (arith, l, ls))) (first_text (suc k) (suc k') (v ∷ us))

every_any : {A : Type 0} (l : List A) → Every (λ a. Unit) l
every_any [] = every_nil
every_any (a ∷ l) = every_cons tt (every_any l)

abbrev Short : ℕ → Parsed → Type 0
Short n t = init_text t.init + total texts_of (joined t.cc) ≤ n

stage1_short : (t : List (List (Placed Unparsed))) → Yields (Short (total twice (joined t))) (stage1 t)
unfolding stage1 starting_value each joined sum
stage1_short [] = given zero-le
stage1_short (c ∷ t) =
    bound (first_text 0 0 c) λ init h.
    bound (bound h λ bs l. bound (rest 1 t) λ bss ls. given (both init bs bss l ls)) λ cc l. given l
  where
    rest : (i : ℕ) (t : List (List (Placed Unparsed))) → Yields (λ bss. total texts_of (joined bss) ≤ total twice (joined t)) (each (keep_base stage1_component) i t)
    rest i t =
        yields_map (λ bss h. h.2)
        (each_kept (keep_base stage1_component) (λ u. Unit) (λ c. Unit) twice texts_of
        (λ last u p. yields_map (λ c h. (tt, omega (arith, h))) (reads last u)) i t (every_any (joined t)))

    both : (init : Option (Placed Part)) (bs : List (Placed Component)) (bss : List (List (Placed Component)))
        → init_text init + total texts_of bs ≤ total twice c → total texts_of (joined bss) ≤ total twice (joined t)
        → init_text init + total texts_of (bs ++ joined bss) ≤ total twice (c ++ joined t)
    both init bs bss l ls = omega (arith, l, ls, total_append texts_of bs (joined bss), total_append twice c (joined t))

-- ---- stage 2

stage2_short : (n : ℕ) (t : Parsed) → Short n t → Yields (Short n) (stage2 t)
unfolding stage2
stage2_short n t h =
    bound
    (each_kept (keep_base (λ last. simplify)) (λ u. Unit) (λ c. Unit) texts_of texts_of
    (λ last c p. bound (simplify_text c.value) λ d k. given (tt, k)) 0 t.cc (every_any (joined t.cc)))
    λ cc f.
    let l : Short n (record { init = t.init; cc = cc }) = omega (arith, h, f.2) in given l

-- ---- merging: merged literals have no text

onto_short : (c : Placed Component) (l : List (Placed Component)) → total texts_of (merge_onto c l) ≤ texts_of c + total texts_of l
unfolding sum
onto_short c [] = omega arith
onto_short c (d ∷ l) = go (is_static_literal c.value && is_static_literal d.value)
  where
    both : Placed Component
    both = record { base = c.base; value = whole_literal (bits_of c.value ++ bits_of d.value) }

    go : (b : Bool) → total texts_of (if b then both ∷ l else c ∷ d ∷ l) ≤ texts_of c + total texts_of (d ∷ l)
    go true = omega arith
    go false = omega arith

merge_short : (cs : List (Placed Component)) → total texts_of (merge cs) ≤ total texts_of cs
unfolding merge sum
merge_short [] = omega arith
merge_short (c ∷ cs) = omega (arith, merge_short cs, onto_short c (merge cs))

rows_short : (t : List (List (Placed Component))) → total texts_of (joined (map merge t)) ≤ total texts_of (joined t)
unfolding joined
rows_short [] = le_refl (total texts_of (joined []))
rows_short (c ∷ t) =
    omega (arith, merge_short c, rows_short t, total_append texts_of (merge c) (joined (map merge t)), total_append texts_of c (joined t))

-- ---- the whole

pub stages_text : (how : Choices) (t : List (List (Placed Unparsed)))
    → Yields (λ a. init_text a.init + total texts_of (components a) ≤ total twice (joined t)) (stages how t)
unfolding stages
stages_text how t =
    bound (stage1_short t) λ t₁ h₁. bound (stage2_short (total twice (joined t)) t₁ h₁) λ t₂ h₂.
    bound (stage3_comps 0 t₂.cc) λ cc e. after (stage4 how.mode (has_start how t₂.init) cc) λ o. given (go t₂ cc e h₂)
  where
    go : (t₂ : Parsed) (cc : List Concatenation) → map (λ c. c.comps) cc ≡ t₂.cc → Short (total twice (joined t)) t₂
        → init_text t₂.init + total texts_of (joined (map (λ c. c.comps) (map merged cc))) ≤ total twice (joined t)
    go t₂ cc e h = rw (merged_comps cc, e) (omega (arith, h, rows_short t₂.cc))
