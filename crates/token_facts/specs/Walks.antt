-- Bounds that a walk keeps: a group's records are among all that come, and so is the text of a record that was begun.
use Rattle.std.specs.Prelude.{◌≡◌, ◌≤◌, ◌∷◌, ◌++◌}
use Rattle.std.proofs.Common.{sym, true≢false, arith, length-append}
use Rattle.definition.specs.Prelude.{ℕ, zero, suc, true, List, [], length}
use Rattle.definition.specs.Characters.{char}
use Rattle.definition.specs.Tree.{text_of}
use Rattle.definition.specs.TokenStream.{Leaf, leaf_text, is_ident}
use Rattle.definition.specs.Tokens.{Token, single, opener, closer}
use Rattle.laws.specs.Tests.{by_test, and_iff}
use Rattle.token_facts.specs.Flat.{starts_ident, joins, inner, pushed, popped, emit}

-- records up to a closer are at most all records, whatever was begun
pub inner_within : (d o : ℕ) (p : List ℕ) (ts : List Token) → inner d ts ≤ length (emit o p ts)
unfolding inner emit
inner_within d o p [] = omega arith
inner_within d o p (single a ∷ ts) =
    by_test (joins a ts)
    (λ q. rw q (omega (arith, inner_within d o (p ++ leaf_text a ++ char.space ∷ []) ts)))
    (λ q. rw q (omega (arith, inner_within d o [] ts)))
inner_within d o p (opener k ∷ ts) = omega (arith, inner_within (suc d) (pushed o k) [] ts)
inner_within zero o p (closer ∷ ts) = omega arith
inner_within (suc d) o p (closer ∷ ts) = omega (arith, inner_within d (popped o) [] ts)

pub inner_emit : (o : ℕ) (p : List ℕ) (k : ℕ) (ts : List Token) → inner 0 ts ≤ length (emit o [] ts)
inner_emit o p k ts = inner_within 0 o [] ts

-- text that an identifier follows is part of what comes
pub emit_begun : (o : ℕ) (p : List ℕ) (ts : List Token) → starts_ident ts ≡ true → length p ≤ length (text_of (emit o p ts))
unfolding emit text_of
emit_begun o p [] h = absurd (true≢false (sym h))
emit_begun o p (single a ∷ ts) h =
    by_test (joins a ts)
    (λ q. let begun = p ++ leaf_text a ++ char.space ∷ [] in
    rw q (omega (arith, simp length-append at (emit_begun o begun ts ((and_iff (is_ident a) (starts_ident ts)).0 q).1))))
    (λ q. rw q (simp length-append (omega arith)))
emit_begun o p (opener k ∷ ts) h = absurd (true≢false (sym h))
emit_begun o p (closer ∷ ts) h = absurd (true≢false (sym h))

pub emit_starts : (o : ℕ) (p : List ℕ) (a : Leaf) (ts : List Token) → joins a ts ≡ true
    → length (p ++ leaf_text a ++ char.space ∷ []) ≤ length (text_of (emit o (p ++ leaf_text a ++ char.space ∷ []) ts))
emit_starts o p a ts h = emit_begun o (p ++ leaf_text a ++ char.space ∷ []) ts ((and_iff (is_ident a) (starts_ident ts)).0 h).1
