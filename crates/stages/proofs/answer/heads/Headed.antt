-- The block of a concatenation, and the head's six parts.
use Rattle.std.specs.Prelude as Std
use Rattle.std.specs.Prelude.{Some, None, ◌+◌, ◌++◌}
use Rattle.std.specs.Option.{is_some, unwrap_or}
use Rattle.std.proofs.Common.{◌≡◌, refl, ap, ◌∙◌}
use Rattle.std.proofs.lemmas.List.Edits.{sets}
use Rattle.definition.specs.Prelude.{ℕ, Bool, List, length}
use Rattle.definition.specs.Tree.{u32}
use Rattle.definition.specs.Concatenation.{Concatenation, align_number, merge, merged}
use Rattle.definition.specs.Answer.{flag, width_bytes, concatenation_bytes}
use Rattle.laws.specs.Writing.{four_blocks, six_blocks}
use Rattle.numbers.specs.Value.{option_usize}
use Rattle.stages.specs.answer.Blocks.{word_bytes, text_block, width_number, head_of}
use Rattle.stages.specs.concatenation.alignment.Align.{align_of}
use Rattle.stages.specs.concatenation.Heads.{HeadIs}
use Rattle.stages.specs.component.Start.{is_given}
use Rattle.stages.specs.declared.component.start.Start.{Start}
use Rattle.stages.specs.declared.component.types.Component.{Component}
use Rattle.stages.specs.declared.concatenation.stage3.Concatenation.{Concatenation as Head}
use Rattle.stages.specs.declared.token_tree.types.Part.{Part}

pub number_is : (w : Std.Option ℕ) (n : ℕ) → n ≡ unwrap_or w 0 → n ≡ width_number w
number_is (Some w) n e = e
number_is None n e = e

pub width_is : (w : Std.Option ℕ) → word_bytes (width_number w) ≡ width_bytes (option_usize w)
width_is (Some n) = refl
width_is None = refl

abbrev four : ℕ → ℕ → ℕ → List ℕ → List ℕ
four size align flags width = u32 size ++ u32 align ++ u32 flags ++ width

pub concatenation_put : (image : List ℕ) (kept : List Component) (l : List ℕ) (at : ℕ) (x : Head) (d : Concatenation) (align f g w : ℕ) {l₁ l₂ l₃ l₄ : List ℕ}
    → align ≡ align_number (align_of x.running.align) → f ≡ flag x.running.deterministic 1 → g ≡ flag x.running.nonzero 2 → w ≡ width_number x.running.width
    → l₁ ≡ sets l at (u32 x.merged) → l₂ ≡ sets l₁ (at + 4) (u32 align) → l₃ ≡ sets l₂ (at + 8) (u32 (f + g)) → l₄ ≡ sets l₃ (at + 12) (word_bytes w)
    → HeadIs image kept x d → l₄ ≡ sets l at (concatenation_bytes (merged d))
concatenation_put image kept l at x d align f g w e₁ e₂ e₃ e₄ p₁ p₂ p₃ p₄ h =
    let s = h.summary in
    four_blocks l at 4 8 12 (u32 x.merged) (u32 align) (u32 (f + g)) (word_bytes w) p₁ refl p₂ refl p₃ refl p₄
    ∙ ap (sets l at)
    (ap (λ n. four n align (f + g) (word_bytes w)) h.merged_is
    ∙ ap (λ n. four (length (merge d.comps)) n (f + g) (word_bytes w)) (e₁ ∙ ap align_number s.align_is)
    ∙ ap (λ n. four (length (merge d.comps)) (align_number d.align) (n + g) (word_bytes w)) (e₂ ∙ ap (λ b. flag b 1) s.deterministic_is)
    ∙ ap (λ n. four (length (merge d.comps)) (align_number d.align) (flag d.deterministic 1 + n) (word_bytes w)) (e₃ ∙ ap (λ b. flag b 2) s.nonzero_is)
    ∙ ap (four (length (merge d.comps)) (align_number d.align) (flag d.deterministic 1 + flag d.nonzero 2))
    (ap word_bytes e₄ ∙ width_is x.running.width ∙ ap width_bytes s.width_is))

pub head_put : (l : List ℕ) (c m width flags align w f k : ℕ) (text t : Part) {l₁ l₂ l₃ l₄ l₅ l₆ : List ℕ} → w ≡ width → f ≡ flags → k ≡ align → t ≡ text
    → l₁ ≡ sets l 0 (u32 c) → l₂ ≡ sets l₁ 4 (u32 m) → l₃ ≡ sets l₂ 8 (word_bytes w) → l₄ ≡ sets l₃ 16 (u32 f) → l₅ ≡ sets l₄ 20 (u32 k)
    → l₆ ≡ sets l₅ 24 (text_block t) → l₆ ≡ sets l 0 (head_of c m width flags align text)
head_put l c m width flags align w f k text t e₁ e₂ e₃ e₄ p₁ p₂ p₃ p₄ p₅ p₆ =
    rw (← e₁, ← e₂, ← e₃, ← e₄)
    (six_blocks l 0 4 8 16 20 24 (u32 c) (u32 m) (word_bytes w) (u32 f) (u32 k) (text_block t) p₁ refl p₂ refl p₃ refl p₄ refl p₅ refl p₆)

pub given_is : (s : Std.Option Start) (b : Bool) → b ≡ is_some s → b ≡ is_given s
given_is (Some s) b e = e
given_is None b e = e
