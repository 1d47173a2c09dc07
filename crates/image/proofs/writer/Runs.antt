-- Runs of bytes written into a list: at a place that is past the end; and numbers one next to the other.
use Rattle.std.specs.Prelude.{◌≡◌, refl, ◌+◌, ◌*◌, ◌≤◌, ◌<◌, ◌∷◌, ◌++◌, min}
use Rattle.std.proofs.Common.{sym, ap, ◌∙◌, arith, length-take}
use Rattle.std.proofs.lemmas.List.{take_more, map-append}
use Rattle.std.proofs.lemmas.List.Edits.{sets}
use borrow.Author.Tests.{leb-true, leb-false}
use Rattle.definition.specs.Prelude.{ℕ, zero, suc, List, [], length, get_or, take, map, leb}
use Rattle.definition.specs.Basics.{joined}
use Rattle.definition.specs.Image.{padded}
use Rattle.definition.specs.Tree.{u32}
use Rattle.laws.specs.Lists.{joined_append}
use Rattle.laws.specs.Rows.{length_rows}
use Rattle.laws.specs.Sets.{sets_past}
use Rattle.laws.specs.Tests.{by_test}
use Rattle.laws.specs.Writing.{and_then}

-- a sum that stops at `top`, from where on nothing stands
pub run_far : (l : List ℕ) (i k top : ℕ) (vs : List ℕ) → k ≡ min i top → length l ≤ top → sets l k vs ≡ sets l i vs
run_far l i k top vs e h =
    by_test (leb i top)
    (λ t. let below : i ≤ top = leb-true i top t in ap (λ (j : ℕ). sets l j vs) (omega arith))
    (λ t. let above : top < i = leb-false i top t in sets_past l k vs (omega arith) ∙ sym (sets_past l i vs (omega arith)))

pub numbers_next : (l : List ℕ) (at : ℕ) (ns : List ℕ) (i : ℕ) {m e : List ℕ} → i < length ns → m ≡ sets l at (joined (map u32 (take i ns)))
    → e ≡ sets m (at + 4 * i) (u32 (get_or ns i 0)) → e ≡ sets l at (joined (map u32 (take (i + 1) ns)))
unfolding joined
numbers_next l at ns i h p q =
    let long : length (joined (map u32 (take i ns))) ≡ 4 * i = length_rows 4 u32 (λ n. refl) (take i ns) ∙ simp length-take (omega arith) in
    let n : ℕ = get_or ns i 0 in
    let more : joined (map u32 (take (i + 1) ns)) ≡ joined (map u32 (take i ns)) ++ u32 n =
    rw (take_more ns i 0 h, map-append u32 (take i ns) (n ∷ [])) (joined_append (map u32 (take i ns)) (u32 n ∷ [])) in
    and_then l at (4 * i) (joined (map u32 (take i ns))) (u32 (get_or ns i 0)) p long q
    ∙ ap (sets l at) (sym more)

-- bytes that are all there
pub padded_take : (n : ℕ) (s : List ℕ) → n ≤ length s → padded n s ≡ take n s
unfolding padded
padded_take zero s h = refl
padded_take (suc n) [] h = absurd (omega arith)
padded_take (suc n) (b ∷ s) h = rw (padded_take n s (omega arith))
