-- A component that is no static literal, and a component of either kind.
use Rattle.std.specs.Prelude.{◌+◌, ◌%◌, ◌^◌, ◌∷◌, ◌++◌}
use Rattle.std.specs.Option.{unwrap_or}
use Rattle.std.proofs.Common.{◌≡◌, ◌<◌, ◌≤◌, sym, refl, ap, ◌∙◌, subst, arith, length-append}
use lib.Seq.{sets}
use Rattle.definition.specs.Prelude.{ℕ, true, false, none, some, List, [], length}
use Rattle.definition.specs.Image.{Placed, bytes_for}
use Rattle.definition.specs.Tree.{packed}
use Rattle.definition.specs.Component as Def
use Rattle.definition.specs.Concatenation.{bits_of, is_static_literal}
use Rattle.definition.specs.Answer.{component_bytes}
use Rattle.answer_facts.specs.fits.Statement.{literals_of}
use Rattle.answer_facts.specs.merge.Runs.{Run, run_bits, literal_of, longer, closed, merge_from, from_end, from_static, from_other}
use Rattle.laws.specs.Tests.{by_test}
use Rattle.prepared.specs.Bits.{length_packed}
use Rattle.stages.specs.ranges.Values.{Tree}
use Rattle.stages.specs.component.Kept.{Is}
use Rattle.stages.specs.component.Values as Values
use Rattle.stages.specs.answer.Blocks.{plain_block, open_block}
use Rattle.stages.specs.answer.merging.Put.{Room}
use Rattle.stages.specs.answer.merging.Blocks.{Same, same_then, length_literals}
use Rattle.stages.specs.answer.merging.State.{Holds, closed_at, LongerIs, Closes, CloseIs, OtherIs, Goes, StepIs, Writable, Closable}
use Rattle.stages.specs.declared.component.types.Bits.{Bits}
use Rattle.stages.specs.declared.component.types.ComponentType.TheVariants as T
use Rattle.stages.specs.declared.component.types.Component.{Component}
use Rattle.stages.specs.declared.answer.merging.Writing.{Writing}
use Rattle.stages.specs.declared.answer.merging.Merging.{Merging}
use Rattle.stages.proofs.answer.blocks.Components.{placed, Plain, plain_is, open_is}
use Rattle.stages.proofs.answer.merging.Stored.{NoLiteral, bits_are}
use Rattle.stages.proofs.answer.merging.Closing.{no_run, had_is, same_area, Behind, block_put, block_first}

-- the literal of an open run is among the literals to come
run_first : (o : Run) (cs : List (Placed Def.Component)) → length (packed (run_bits o)) ≤ length (literals_of (merge_from o cs))
run_first none cs = let e = length_packed [] in let z : bytes_for (length {A = ℕ} []) ≡ 0 = refl in omega arith
run_first (some b) [] = let l = length_literals (literal_of b) [] in rw (from_end (some b)) (omega arith)
run_first (some b) (c ∷ cs) =
    by_test (is_static_literal c.value)
    (λ t.
    let i = run_first (some (longer (some b) c)) cs in
    let p = length_packed b.value in
    let q = length_packed (b.value ++ bits_of c.value) in
    let a = length-append b.value (bits_of c.value) in
    rw (from_static (some b) c cs t) (omega arith))
    (λ t. let l = length_literals (literal_of b) (c ∷ merge_from none cs) in rw (from_other (some b) c cs t) (omega arith))

-- ---- room to go on

-- what a run that is closed leaves
pub closed_rests : (s : Merging) (w : Writing) (entry mid : List ℕ) (ms : List (Placed Def.Component)) → CloseIs s w entry mid → Closable entry s ms
    → Closable mid (closed_at w) ms
closed_rests s w entry mid ms close h = go (close h.base h.run ms h.holds h.room)
  where
    go : Closes h.base s.w (closed h.run ms) ms mid w → Closable mid (closed_at w) ms
    go cl = record { base = cl.area; run = none; holds = cl.holds; room = cl.same.room }

-- room for a component's block, where no run is open
pub rest_room : (d : Placed Def.Component) (ms : List (Placed Def.Component)) (w : Writing) (area : List ℕ) → Closable area (closed_at w) (d ∷ ms)
    → w.at + 72 ≤ length area
rest_room d ms w area h =
    let e : closed h.run (d ∷ ms) ≡ d ∷ ms = ap (λ (o : Run). closed o (d ∷ ms)) (no_run h.run h.holds.run_is) in
    let room : Room h.base w (d ∷ ms) = subst (λ (l : List (Placed Def.Component)). Room h.base w l) e h.room in
    let r₁ = room.blocks in
    let r₂ = room.literal_block in
    let l = same_area h.base area (closed_at w) h.run h.holds in
    omega arith

-- and behind a run that is to be closed before others
pub to_close : (area : List ℕ) (s : Merging) (d : Placed Def.Component) (cs : List (Placed Def.Component)) → is_static_literal d.value ≡ false
    → Writable area s (d ∷ cs) → Closable area s (d ∷ merge_from none cs)
to_close area s d cs t h =
    record {
      base = h.base;
      run = h.run;
      holds = h.holds;
      room = subst (λ (ms : List (Placed Def.Component)). Room h.base s.w ms) (from_other h.run d cs t) h.room;
    }

module _ (d : Placed Def.Component) where
  -- ---- its own block

  module _ (image : List ℕ) (t : Tree) (c : Component) (is : Is image t c d) where
    as_placed : placed image t d.base c ≡ d
    as_placed = ap (λ (v : Def.Component). record { base = d.base; value = v }) is.value

    pub plain_other : (w r : Writing) (mid after : List ℕ) → length mid < 2 ^ 64 → NoLiteral c → after ≡ sets mid w.at (plain_block c) → Behind w 0 r
        → OtherIs d w r mid after
    plain_other w r mid after long other put behind base ms h bits room =
        let p : Plain image t d.base c w.offset = plain_is image t d.base c w.offset is.staged other in
        let none_is : [] ≡ bits_of d.value = sym (ap bits_of (sym is.value) ∙ p.no_bits) in
        let block : plain_block c ≡ component_bytes w.offset d = p.block ∙ ap (component_bytes w.offset) as_placed in
        let (a, b) = block_put mid after (plain_block c) d w 0 r long put (λ _ _. block) (ap length none_is) behind base ms
        (h.written ∙ ap (λ (l : List ℕ). sets base (w.literals + w.offset) (packed l)) none_is) room in
        block_first base w d ms after r room a b

    pub open_other : (b : Bits) → c.c_type ≡ T.Literal b → (w r : Writing) (o : Merging) (bits : ℕ) (entry mid after : List ℕ) → length entry < 2 ^ 64
        → LongerIs image b (closed_at w) o entry mid → bits ≡ unwrap_or o.run 0
        → after ≡ sets mid w.at (open_block c.range (bits % 2 ^ 32) (w.offset % 2 ^ 32)) → Behind w bits r → OtherIs d w r entry after
    open_other b lit w r o bits entry mid after long more count put behind base ms h fit room =
        let n = length_literals d ms in
        let r₁ = room.literal_block in
        let r₂ = room.offsets in
        let (held, w_is) = more base none d h fit (bits_are image t c d is b lit) (omega arith) (omega arith) in
        go held w_is
      where
        same : bits_of d.value ≡ Values.bits_of image b
        same = bits_are image t c d is b lit

        block : bits ≡ length (bits_of d.value) → w.offset < 2 ^ 32 → length (bits_of d.value) < 2 ^ 32
            → open_block c.range (bits % 2 ^ 32) (w.offset % 2 ^ 32) ≡ component_bytes w.offset d
        block k low small =
            let n : bits % 2 ^ 32 ≡ length (bits_of d.value) = omega arith in
            let f : w.offset % 2 ^ 32 ≡ w.offset = omega arith in
            ap (open_block c.range (bits % 2 ^ 32)) f
            ∙ ap (λ (x : ℕ). open_block c.range x w.offset) (n ∙ ap length same)
            ∙ open_is image t d.base c b w.offset is.staged lit
            ∙ ap (component_bytes w.offset) as_placed

        go : Holds base mid o (some (longer none d)) → o.w ≡ w → Closes base w (d ∷ ms) ms after r
        go held w_is =
            let l₁ = same_area base entry (closed_at w) none h in
            let l₂ = same_area base mid o (some (longer none d)) held in
            let k : bits ≡ length (bits_of d.value) = had_is (some (longer none d)) o.run bits held.run_is count in
            let z = ap (λ (u : Writing). sets base (u.literals + u.offset) (packed (bits_of d.value))) w_is in
            let (p, q) = block_put mid after (open_block c.range (bits % 2 ^ 32) (w.offset % 2 ^ 32)) d w bits r (omega arith) put
            (block k) k behind base ms (held.written ∙ z) room in
            block_first base w d ms after r room p q

  -- ---- one of either kind

  module _ (entry : List ℕ) (s : Merging) where
    -- close, and then its own block
    pub other_step : (w r : Writing) (mid after : List ℕ) → is_static_literal d.value ≡ false → CloseIs s w entry mid → OtherIs d w r mid after
        → StepIs d s (closed_at r) entry after
    other_step w r mid after t close other base o cs h bits room =
        let e : merge_from o (d ∷ cs) ≡ closed o (d ∷ merge_from none cs) = from_other o d cs t in
        let ms = merge_from none cs in
        let cl = close base o (d ∷ ms) h (subst (λ (l : List (Placed Def.Component)). Room base s.w l) e room) in
        let ot = other cl.area ms cl.holds bits cl.same.room in
        record {
          area = ot.area;
          run = none;
          holds = ot.holds;
          same = subst (λ (l : List (Placed Def.Component)). Same base s.w l ot.area r ms) (sym e)
              (same_then base cl.area ot.area s.w w r (closed o (d ∷ ms)) (d ∷ ms) ms cl.same ot.same);
        }

    pub static_step : (image : List ℕ) (b : Bits) (r : Merging) (after : List ℕ) → is_static_literal d.value ≡ true
        → bits_of d.value ≡ Values.bits_of image b → LongerIs image b s r entry after → StepIs d s r entry after
    static_step image b r after t same more base o cs h bits room =
        let e : merge_from o (d ∷ cs) ≡ merge_from (some (longer o d)) cs = from_static o d cs t in
        let room₁ : Room base s.w (merge_from (some (longer o d)) cs) = subst (λ (ms : List (Placed Def.Component)). Room base s.w ms) e room in
        let f = room₁.literal_block in
        let g = room₁.offsets in
        let l = run_first (some (longer o d)) cs in
        let (held, w_is) = more base o d h bits same (omega arith) (omega arith) in
        go e room₁ held w_is
      where
        go : merge_from o (d ∷ cs) ≡ merge_from (some (longer o d)) cs → Room base s.w (merge_from (some (longer o d)) cs)
            → Holds base after r (some (longer o d)) → r.w ≡ s.w → Goes base s.w (merge_from o (d ∷ cs)) cs after r
        go e room₁ held w_is =
            record {
              area = base;
              run = some (longer o d);
              holds = held;
              same = subst (λ (ms : List (Placed Def.Component)). Same base s.w ms base r.w (merge_from (some (longer o d)) cs)) (sym e)
                  (subst (λ (u : Writing). Same base s.w (merge_from (some (longer o d)) cs) base u (merge_from (some (longer o d)) cs)) (sym w_is)
                  (record { bytes = refl; place = refl; room = room₁ }));
            }
