-- 50 to 53, each way out: what the walks found is what the definition asks of the list's stream.
use Rattle.std.specs.Prelude.{◌+◌, ◌*◌, ◌&&◌, Ok}
use mathlib.Core.Path.{◌≡◌, refl, sym, ap, ◌∙◌}
use Prim.Native.Nat.{◌≤◌, ◌<◌}
use native.Mathlib.Nat.{add-zero}
use native.Mathlib.Omega.{arith}
use borrow.Author.Tests.{le-leb, lt-leb}
use Rattle.definition.specs.Prelude.{ℕ, suc, Bool, true, false, List, [], length, leb, ltb}
use Rattle.definition.specs.Basics.{Result, ok, refused, refusal_of, ◌>>=◌, joined}
use Rattle.definition.specs.Limits.{limits}
use Rattle.definition.specs.Refusals.{needs, token_number, bad_token, empty_component, over_limits, short_image_area}
use Rattle.definition.specs.Tree.{Tree, literals_of, image_of}
use Rattle.definition.specs.TokenStream.{Stream, divided, stream_tree}
use Rattle.definition.specs.Tokens.{tokens, tokens_right, stream_of, none_empty, within_limits, token_image}
use Rattle.image.specs.token_tree.Tables.{counts_of}
use Rattle.image.specs.declared.token_tree.Counts.{Counts}
use Rattle.image.specs.writer.Written.{counts_for}
use Rattle.image.specs.writer.Whole.{image_size}
use Rattle.token_facts.specs.Flat.{flat_tokens, sound_stream, none_empty_in, weigh, semicolons, dividers, records, bytes, deepest}
use Rattle.token_facts.specs.Streams.{every_list}
use Rattle.token_facts.specs.Dividing.{empty_flat}
use Rattle.token_facts.specs.Totals.{totals_flat}
use Rattle.token_stream.specs.counts.Counting.{within_in, counts_in, CountedIs}
use Rattle.token_stream.specs.write.Written.{tree_for, Fitting}
use Rattle.token_stream.proofs.write.Joining.{no_tree_literals}
use Rattle.token_stream.proofs.write.Whole.{tree_is}

-- ---- 52: the counts and the limits

within_same : (s v r b d : ℕ) {c n r' b' : ℕ} {deep : Bool} → 1 + s ≡ c → 1 + v ≡ n → r ≡ r' → b ≡ b' → leb d limits.depth ≡ deep
    → (ltb s limits.concatenations && ltb v limits.components && (leb r limits.records && leb b limits.text)
    && leb d limits.depth)
    ≡ (leb c limits.concatenations && leb n limits.components && leb r' limits.records && leb b' limits.text && deep)
within_same s v r b d {c} {n} {r'} {b'} {deep} p q f g e =
    let sp : ltb s limits.concatenations ≡ leb c limits.concatenations = rw (← p) (one_more s limits.concatenations) in
    let sq : ltb v limits.components ≡ leb n limits.components = rw (← q) (one_more v limits.components) in
    rw (sp, sq, f, g, e)
    (grouped (leb c limits.concatenations && leb n limits.components) (leb r' limits.records) (leb b' limits.text))
  where
    one_more : (m k : ℕ) → ltb m k ≡ leb (1 + m) k
    one_more m k = let e : 1 + m ≡ suc m = omega arith in rw e

    grouped : (x y z : Bool) → (x && (y && z) && deep) ≡ (x && y && z && deep)
    grouped true y z = refl
    grouped false y z = refl

no_literal : (s : Stream) → literals_of (joined (stream_tree s)) ≡ []
no_literal s = rw (tree_is s) (no_tree_literals (divided s))

module _ (s : Stream) (h : sound_stream s ≡ true) where
  limits_same : within_in (flat_tokens s) ≡ within_limits (stream_tree s)
  limits_same =
      let w = totals_flat s h in
      within_same (weigh semicolons 0 (flat_tokens s)) (weigh dividers 0 (flat_tokens s))
      (weigh records 0 (flat_tokens s)) (weigh bytes 0 (flat_tokens s))
      (deepest 0 (flat_tokens s)) w.concatenations w.components w.records_are w.bytes_are w.depths

  counts_same : counts_in (flat_tokens s) ≡ counts_for (stream_tree s)
  counts_same =
      let w = totals_flat s h in
      go w.concatenations w.components w.records_are w.bytes_are (ap length (no_literal s))
    where
      go : {c n r t b : ℕ} → 1 + weigh semicolons 0 (flat_tokens s) ≡ c → 1 + weigh dividers 0 (flat_tokens s) ≡ n
          → weigh records 0 (flat_tokens s) ≡ r → weigh bytes 0 (flat_tokens s) ≡ t → b ≡ 0
          → counts_in (flat_tokens s) ≡ record { c = c; n = n; r = r; t = t; b = b }
      go {c} {n} {r} {t} {b} p q f g e =
          let p' : weigh semicolons 0 (flat_tokens s) + 1 ≡ c = omega arith in
          let q' : weigh dividers 0 (flat_tokens s) + 1 ≡ n = omega arith in
          rw (p', q', f, g, e)

-- ---- the ways out

abbrev answer : Bool → Bool → Bool → Bool → List ℕ → Result (List ℕ)
answer a b c d image = do
  _ ← needs a (token_number bad_token)
  _ ← needs b (token_number empty_component)
  _ ← needs c (token_number over_limits)
  _ ← needs d (token_number short_image_area)
  ok image

abbrev Numbers : Type 0
Numbers = record { c : ℕ; n : ℕ; r : ℕ; t : ℕ; b : ℕ }

module _ (list text : List ℕ) (area : ℕ) where
  abbrev tree : Tree
  tree = stream_tree (stream_of list text)

  asked : token_image list text area
      ≡ answer (tokens_right list text) (none_empty (stream_of list text)) (within_limits tree) (leb (length (image_of tree)) area) (image_of tree)
  unfolding token_image
  asked = refl

  -- 50
  pub is_bad : tokens_right list text ≡ false → token_image list text area ≡ refused (refusal_of 50 0 0)
  is_bad h = asked ∙ rw h

  module _ (right : tokens_right list text ≡ true) where
    same : tokens list text ≡ flat_tokens (stream_of list text)
    same = (every_list list text right).1.same

    filled_is : {b : Bool} → none_empty_in 0 false (tokens list text) ≡ b → none_empty (stream_of list text) ≡ b
    filled_is h = sym (ap (none_empty_in 0 false) same ∙ empty_flat (stream_of list text)) ∙ h

    within_is : {b : Bool} → within_in (tokens list text) ≡ b → within_limits tree ≡ b
    within_is h = sym (ap within_in same ∙ limits_same (stream_of list text) (every_list list text right).0) ∙ h

    -- 51
    pub is_empty : none_empty_in 0 false (tokens list text) ≡ false → token_image list text area ≡ refused (refusal_of 51 0 0)
    is_empty h = asked ∙ rw (right, filled_is h)

    module _ (filled : none_empty_in 0 false (tokens list text) ≡ true) where
      -- 52
      pub is_over : within_in (tokens list text) ≡ false → token_image list text area ≡ refused (refusal_of 52 0 0)
      is_over h = asked ∙ rw (right, filled_is filled, within_is h)

      module _ (h : Counts) (counted : CountedIs (tokens list text) (Ok h)) where
        counts_is : counts_of h ≡ counts_for tree
        counts_is = counted.1 ∙ ap counts_in same ∙ counts_same (stream_of list text) (every_list list text right).0

        size_is : length (image_of tree) ≡ 40 + 4 * h.c + 8 * h.n + 12 * h.r + h.t
        size_is =
            image_size tree ∙ ap (λ (x : Numbers). 40 + 4 * x.c + 8 * x.n + 12 * x.r + x.t + x.b) (sym counts_is)
            ∙ ap (λ (b : ℕ). 40 + 4 * h.c + 8 * h.n + 12 * h.r + h.t + b) (ap (λ (x : Numbers). x.b) counted.1)
            ∙ add-zero (40 + 4 * h.c + 8 * h.n + 12 * h.r + h.t)

        passed : {b : Bool} → leb (length (image_of tree)) area ≡ b
            → token_image list text area ≡ answer true true true b (image_of tree)
        passed e = asked ∙ rw (right, filled_is filled, within_is counted.0, e)

        module _ {size : ℕ} (sized : size ≡ 40 + 4 * h.c + 8 * h.n + 12 * h.r + h.t) where
          long : length (image_of tree) ≡ size
          long = size_is ∙ sym sized

          -- 53
          pub is_short : area < size → token_image list text area ≡ refused (refusal_of 53 0 0)
          is_short l = passed (let e = long in lt-leb (length (image_of tree)) area (omega arith))

          pub is_admitted : size ≤ area → (token_image list text area ≡ ok (image_of (tree_for list text))) × Fitting list text area h
          is_admitted l =
              let e = long in
              let fits : length (image_of tree) ≤ area = omega arith in (
                passed (le-leb (length (image_of tree)) area fits),
                record { right = right; within = within_is counted.0; counts = counts_is; fits = fits },
              )
