-- The run's bits, a component's block, and the end of a run.
use Rattle.std.specs.Prelude as Std
use Rattle.std.specs.Prelude.{Some, None, ◌+◌, ◌-◌, ◌/◌, ◌%◌, ◌^◌, ◌∷◌, ◌++◌}
use Rattle.std.specs.Option.{unwrap_or}
use Rattle.std.proofs.Common.{◌≡◌, ◌<◌, ◌≤◌, sym, refl, ap, ◌∙◌, subst, arith, length-append, length-drop, take_all}
use lib.Seq.{sets, length-sets}
use Rattle.definition.specs.Prelude.{ℕ, none, some, List, [], length, take, drop}
use Rattle.definition.specs.Basics.{all, tab}
use Rattle.definition.specs.Image.{Placed, bytes_for}
use Rattle.definition.specs.Tree.{packed}
use Rattle.definition.specs.Component as Def
use Rattle.definition.specs.Concatenation.{bits_of}
use Rattle.definition.specs.Answer.{component_bytes}
use Rattle.laws.specs.Lists.{length_tab}
use Rattle.prepared.specs.Bits as Prepared
use Rattle.prepared.specs.Bits.{length_packed}
use Rattle.answer_facts.specs.merge.Runs.{Run, run_bits, literal_of, longer, closed}
use Rattle.stages.specs.component.Values.{BitsFit}
use Rattle.stages.specs.answer.Blocks.{fixed_block}
use Rattle.stages.specs.answer.literal_bits.Put.{bit_of, bits_from}
use Rattle.stages.specs.answer.literal_bits.Packing.{bits_append}
use Rattle.stages.specs.answer.merging.Blocks.{put_one, written_one, same_one, length_literals}
use Rattle.stages.specs.answer.merging.Literals.{AppendIs}
use Rattle.stages.specs.answer.merging.Put.{Room}
use Rattle.stages.specs.answer.merging.State.{Holds, run_by, closed_at, LongerIs, BlockIs, Closes, CloseIs, Closable, behind_by}
use Rattle.stages.specs.declared.component.types.Bits.{Bits}
use Rattle.stages.specs.declared.answer.merging.Writing.{Writing}
use Rattle.stages.specs.declared.answer.merging.Merging.{Merging}
use Rattle.stages.proofs.answer.blocks.Components.{fixed_block_lem}

packed_none : packed [] ≡ []
unfolding packed tab
packed_none = refl

no_bits : Prepared.Bits []
unfolding all
no_bits = refl

pub holds_none : (area : List ℕ) (w : Writing) → Holds area area (closed_at w) none
holds_none area w = record { run_is = refl; are_bits = no_bits; written = ap (sets area (w.literals + w.offset)) (sym packed_none) }

pub written_none : (base area : List ℕ) (w : Writing) → Holds base area (closed_at w) none → area ≡ base
written_none base area w h = h.written ∙ ap (sets base (w.literals + w.offset)) packed_none

pub same_area : (base area : List ℕ) (s : Merging) (o : Run) → Holds base area s o → length area ≡ length base
same_area base area s o h = ap length h.written ∙ length-sets base (s.w.literals + s.w.offset) (packed (run_bits o))

-- ---- the bits of an open run

none_some : {G : Type 0} {n : ℕ} → None ≡ Some n → G
none_some e = let z : ◌≡◌ {A = ℕ} 0 1 = cc in absurd (omega arith)

-- none without one
pub no_run : (o : Run) → None ≡ run_by o → o ≡ none
no_run none e = refl
no_run (some b) e = none_some e

pub had_is : (o : Run) (x : Std.Option ℕ) (n : ℕ) → x ≡ run_by o → n ≡ unwrap_or x 0 → n ≡ length (run_bits o)
had_is none x n e p = p ∙ ap (λ y. unwrap_or y 0) e
had_is (some b) x n e p = p ∙ ap (λ y. unwrap_or y 0) e

pub lengthened : (image entry after : List ℕ) (b : Bits) (s : Merging) (had at count : ℕ) → length entry < 2 ^ 64 → BitsFit image b
    → had ≡ unwrap_or s.run 0 → at ≡ (s.w.literals + s.w.offset) % 2 ^ 64
    → AppendIs at had (take (length image - b.at) (drop b.at image)) b.from (b.to - b.from) entry after → count ≡ (had + (b.to - b.from)) % 2 ^ 64
    → LongerIs image b s (record { w = s.w; run = Some count }) entry after
lengthened image entry after b s had at count long fit had_by at_is app count_is base o d h bits same fits reach =
    let n : ℕ = b.to - b.from in
    let inside = fit.inside in
    let order = fit.order in
    let short = fit.short in
    let part = take (length image - b.at) (drop b.at image) in
    let part_is : part ≡ drop b.at image = take_all (length image - b.at) (drop b.at image) (rw length-drop (omega arith)) in
    let new = bits_from part b.from n in
    let new_is : new ≡ bits_of d.value = ap (λ (l : List ℕ). bits_from l b.from n) part_is ∙ sym same in
    let l₁ : length (bits_of d.value) ≡ n = ap length same ∙ length_tab (bit_of (drop b.at image)) b.from n in
    let l₂ = length-append (run_bits o) (bits_of d.value) in
    let l₃ = length_packed (longer o d).value in
    let c : had ≡ length (run_bits o) = had_is o s.run had h.run_is had_by in
    let whole : length entry ≡ length base = same_area base entry s o h in
    let at₁ : at ≡ s.w.literals + s.w.offset = omega arith in
    let e : entry ≡ sets base at (packed (run_bits o)) = rw at₁ h.written in
    let f : after ≡ sets base at (packed (run_bits o ++ new)) =
    app base (run_bits o) h.are_bits (sym c) e (omega arith) (omega arith) (omega arith) in
    let k : count ≡ length (run_bits o ++ bits_of d.value) = omega arith in (
      record {
        run_is = ap (λ (m : ℕ). Some m) k;
        are_bits = bits_append (run_bits o) (bits_of d.value) h.are_bits bits;
        written = f ∙ ap (λ (x : List ℕ). sets base at (packed (run_bits o ++ x))) new_is
            ∙ ap (λ (x : ℕ). sets base x (packed (run_bits o ++ bits_of d.value))) at₁;
      },
      refl,
    )

-- ---- a block

-- the place behind it
abbrev pub Behind : Writing → ℕ → Writing → Type 0
Behind w bits r = w.at + 72 < 2 ^ 64 → w.offset + (bits + 7) / 8 < 2 ^ 64 → r ≡ behind_by w bits

pub block_put : (entry after block : List ℕ) (m : Placed Def.Component) (w : Writing) (bits : ℕ) (r : Writing) → length entry < 2 ^ 64
    → after ≡ sets entry w.at block
    → (w.offset < 2 ^ 32 → length (bits_of m.value) < 2 ^ 32 → block ≡ component_bytes w.offset m)
    → bits ≡ length (bits_of m.value) → Behind w bits r → BlockIs m w r entry after
block_put entry after block m w bits r long put is count behind area ms e room =
    let r₁ = room.blocks in
    let r₂ = room.offsets in
    let r₃ = room.literal_block in
    let whole : length entry ≡ length area = ap length e ∙ length-sets area (w.literals + w.offset) (packed (bits_of m.value)) in
    let l = length_literals m ms in
    let p = length_packed (bits_of m.value) in
    let b : bytes_for bits ≡ length (packed (bits_of m.value)) = omega arith in (
      put ∙ ap (sets entry w.at) (is (omega arith) (omega arith)) ∙ ap (λ (x : List ℕ). sets x w.at (component_bytes w.offset m)) e,
      behind (omega arith) (omega arith) ∙ ap (λ (n : ℕ). record { at = w.at + 72; literals = w.literals; offset = w.offset + n }) b,
    )

-- what is left behind a block
pub block_first : (base : List ℕ) (w : Writing) (m : Placed Def.Component) (ms : List (Placed Def.Component)) (after : List ℕ) (r : Writing)
    → Room base w (m ∷ ms) → after ≡ put_one base w m → r ≡ written_one w m → Closes base w (m ∷ ms) ms after r
block_first base w m ms after r room p q =
    subst (λ (x : List ℕ). Closes base w (m ∷ ms) ms x r) (sym p)
    (subst (λ (u : Writing). Closes base w (m ∷ ms) ms (put_one base w m) u) (sym q)
    (record { area = put_one base w m; holds = holds_none (put_one base w m) (written_one w m); same = same_one base w m ms room }))

-- ---- the end of a run

-- there is room for its block
pub close_room : (s : Merging) (area : List ℕ) (ms : List (Placed Def.Component)) (bits : ℕ) → s.run ≡ Some bits → Closable area s ms
    → s.w.at + 72 ≤ length area
close_room s area ms bits t c = go c.run c.holds c.room
  where
    go : (o : Run) → Holds c.base area s o → Room c.base s.w (closed o ms) → s.w.at + 72 ≤ length area
    go none h room = none_some (sym h.run_is ∙ t)
    go (some b) h room =
        let r₁ = room.blocks in
        let r₂ = room.literal_block in
        let e = same_area c.base area s (some b) h in
        omega arith

pub close_some : (s : Merging) (entry after : List ℕ) (r : Writing) (bits : ℕ) → length entry < 2 ^ 64 → s.run ≡ Some bits
    → after ≡ sets entry s.w.at (fixed_block (bits % 2 ^ 32) (s.w.offset % 2 ^ 32)) → Behind s.w bits r → CloseIs s r entry after
close_some s entry after r bits long t put behind base none ms h room = none_some (sym h.run_is ∙ t)
close_some s entry after r bits long t put behind base (some b) ms h room =
    let c : bits ≡ length b.value = same (sym t ∙ h.run_is) in
    let (p, q) = block_put entry after (fixed_block (bits % 2 ^ 32) (s.w.offset % 2 ^ 32)) (literal_of b) s.w bits r long put (block c) c behind
    base ms h.written room in
    block_first base s.w (literal_of b) ms after r room p q
  where
    same : {n k : ℕ} → Some n ≡ Some k → n ≡ k
    same e = cc

    block : bits ≡ length b.value → s.w.offset < 2 ^ 32 → length b.value < 2 ^ 32
        → fixed_block (bits % 2 ^ 32) (s.w.offset % 2 ^ 32) ≡ component_bytes s.w.offset (literal_of b)
    block c low few =
        let n : bits % 2 ^ 32 ≡ length b.value = omega arith in
        let o : s.w.offset % 2 ^ 32 ≡ s.w.offset = omega arith in
        rw (n, o) (fixed_block_lem b.base s.w.offset b.value (omega arith))
