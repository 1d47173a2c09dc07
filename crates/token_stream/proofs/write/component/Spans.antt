-- The tokens s to e of a list: the loop that writes them.
use Rattle.std.specs.Prelude.{◌+◌, ◌∷◌}
use mathlib.Core.Path.{◌≡◌}
use Prim.Native.Nat.{◌<◌}
use native.Mathlib.Omega.{arith}
use lib.Seq.{slice, slice_empty}
use borrow.Author.Tests.{ltb-true, ltb-false}
use Rattle.definition.specs.Prelude.{ℕ, true, List, ltb, eqb}
use Rattle.definition.specs.Tokens.{kind_at, token_at, tokens, count, tokens_right}
use Rattle.laws.specs.Tests.{by_test, eqb_iff, eqb_apart}
use Rattle.token_stream.specs.list.Tokens.{tokens_slice, leaf_token, opener_token, closer_token, kind_most}
use Rattle.token_stream.specs.write.Steps.{StepFits, StepIs, span_recs, SpanFits, SpanIs}
use Rattle.token_stream.specs.declared.write.component.Mark.{Mark}
use Rattle.token_stream.specs.declared.write.component.Pen.{Pen}
use Rattle.token_stream.proofs.write.component.Going.{Going, Room, stays, opens_group, groups_fit, next, first, last}

-- openers are of the four kinds
token_opens : (list text : List ℕ) (k : ℕ) → tokens_right list text ≡ true → k < count list → opens_group (token_at list text k)
token_opens list text k r h =
    let most = kind_most list text k r h in
    by_test (ltb 2 (kind_at list k))
    (λ u.
    let high = ltb-true 2 (kind_at list k) u in
    by_test (eqb (kind_at list k) 7) (λ t. rw (closer_token list text k ((eqb_iff (kind_at list k) 7).0 t)) tt) λ t.
    let apart = eqb_apart (kind_at list k) 7 t in
    rw (opener_token list text k high apart) (omega arith))
    (λ u.
    let low = ltb-false 2 (kind_at list k) u in
    rw (leaf_token list text k (omega arith)).1 tt)

module _ (list text : List ℕ) (base s e : ℕ) (pen : Pen) (f : SpanFits list text base s e pen) where
  room : Room (span_recs list text s e) base pen.records pen.text
  room = record { low = f.low; rows = f.records_fit; begins = f.begun; text = f.text_fits }

  -- before token k
  abbrev pub At : List ℕ → List ℕ → Mark → ℕ → Type 0
  At area₀ area m k = Going (span_recs list text s e) base pen.records pen.text area₀ area m (slice k e (tokens list text))

  pub at_first : (area : List ℕ) → At area area (record { «record» = pen.records; text = pen.text; start = pen.text; groups = 0 }) s
  at_first area = first (slice s e (tokens list text)) base pen.records pen.text area f.nests

  module _ (area₀ area : List ℕ) (m : Mark) (k : ℕ) (g : At area₀ area m k) where
    module _ (h : k < e) where
      more : Going (span_recs list text s e) base pen.records pen.text area₀ area m
          (token_at list text k ∷ slice (k + 1) e (tokens list text))
      more = rw (tokens_slice list text k e h f.stops) at g

      opening : opens_group (token_at list text k)
      opening = token_opens list text k f.right (omega (arith, f.stops))

      pub at_fits : StepFits list text base k e m
      at_fits =
          let (a, b, c, d) = stays g room in
          let low = f.low in
          let ts = slice (k + 1) e (tokens list text) in
          record {
            right = f.right;
            order = h;
            stops = f.stops;
            few = f.few;
            record_low = omega arith;
            text_low = omega arith;
            begun = c;
            start_low = omega arith;
            nests = groups_fit m.groups more.groups (token_at list text k) ts opening more.deep more.low;
          }

      pub at_next : (area' : List ℕ) (m' : Mark) → StepIs base (token_at list text k) (slice (k + 1) e (tokens list text)) area area' m m'
          → At area₀ area' m' (k + 1)
      at_next area' m' q = next (token_at list text k) (slice (k + 1) e (tokens list text)) room more q opening

    pub at_last : k ≡ e → SpanIs base (span_recs list text s e) pen area₀ area m
    at_last q =
        let (a, b, c) = last (rw (q, slice_empty e (tokens list text)) at g) in
        record { area_is = a; record_is = b; text_is = c }
