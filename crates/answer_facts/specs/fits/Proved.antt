-- An answer of a checked image fits the area, and stages 1 and 2 leave every component of one fixed.
use Rattle.std.specs.Prelude.{◌≡◌, refl, ◌≤◌, ◌+◌, ◌*◌, ◌∷◌}
use Rattle.std.proofs.Common.{ap, ◌∙◌, le_refl, arith, length-append}
use Rattle.std.proofs.lemmas.Bool.{false≢true}
use Rattle.std.proofs.lemmas.Simd.{map-map}
use Rattle.definition.specs.Prelude.{ℕ, Bool, true, List, [], map, length}
use Rattle.definition.specs.Basics.{◌>>=◌, sum, joined}
use Rattle.definition.specs.Limits.{sizes}
use Rattle.definition.specs.Image.{Unparsed, Placed, bytes_for, counts, tree_of}
use Rattle.definition.specs.Ranges.{Usbr}
use Rattle.definition.specs.Component.{Component, ComponentType, literal, variable, filler, keep_base, stage1_component, simplify}
use Rattle.definition.specs.Concatenation.{is_static_literal, bits_of, whole_literal}
use Rattle.definition.specs.Answer.{Answer, components, concatenation_bytes, literal_bytes, answer_bytes}
use Rattle.laws.specs.Lists.{length_joined}
use Rattle.prepared.specs.Bits.{length_packed}
use Rattle.prepared.specs.Tables.{length_rows}
use Rattle.answer_facts.specs.read.Facts.{Yields, given, Every, every_nil, every_cons, bound, the_given, yields_of}
use Rattle.answer_facts.specs.read.Fields.{length_components}
use Rattle.answer_facts.specs.read.ReadAnswer.{length_head}
use Rattle.answer_facts.specs.read.Trees.{total, each_kept}
use Rattle.answer_facts.specs.fits.Fixed.{Fixed, AllFixed, none_left, one_more}
use Rattle.answer_facts.specs.fits.Statement.{literals_of, Fits, AnswerFits, ReadFixed}
use Rattle.answer_facts.specs.fits.Kept.{Short, stage1_kept}
use Rattle.answer_facts.specs.fits.Normal.{Normal, up_to, simplify_normal}
use Rattle.answer_facts.specs.fits.Staged.{ShortBefore, weight}
use Rattle.answer_facts.specs.fits.Merged.{stages_light}
use Rattle.answer_facts.specs.fits.Trees.{Counted, tree_counted}

-- ---- the answer's length

pub answer_length : (a : Answer) → length (answer_bytes a)
    ≡ sizes.head + sizes.concatenation * length a.cc + sizes.component * length (components a) + length (literals_of (components a))
unfolding answer_bytes
answer_length a =
    let h = length_head a in
    let c = length_rows sizes.concatenation concatenation_bytes (λ c. refl) a.cc in
    let k = length_components 0 (components a) in
    simp length-append (omega arith)

-- the literal bytes that components have in all
pub literals_length : (cs : List (Placed Component)) → length (literals_of cs) ≡ total (weight bytes_for) cs
literals_length cs = length_joined (map literal_bytes cs) ∙ simp (map-map, length_packed)

ones : {A : Type 0} (l : List A) → total (λ _. 1) l ≡ length l
unfolding sum
ones [] = refl
ones (a ∷ l) = let e = ones l in omega arith

-- ---- an answer of a checked image

pub answer_fits : AnswerFits
answer_fits image h how a e = go (tree_counted image h)
  where
    go : Counted image (tree_of image) → Fits image a
    go t =
        let (concats, few) = the_given (rw e at (stages_light (λ _. 1) (λ m n l. le_refl 1) (λ m n. omega arith) how (tree_of image) t.short)) in
        let (_, light) = the_given (rw e at (stages_light bytes_for (λ m n l. omega arith) (λ m n. omega arith) how (tree_of image) t.short)) in
        let size = answer_length a in
        let c : length a.cc ≡ (counts image).c = concats ∙ t.concatenations in
        let m : length (components a) ≤ (counts image).n = rw (ones (components a), ones (joined (tree_of image)), t.components) at few in
        let l : length (literals_of (components a)) ≤ (counts image).b = rw (← literals_length (components a), t.literals) at light in
        record { concatenations = c; merged = m; literals = l; size = size; room = omega arith }

-- ---- the components that stages 1 and 2 leave

normal_fixed : (b : ℕ) (c : Component) → Normal c → Short (bits_of c) → Fixed (record { base = b; value = c })
normal_fixed b c n s = record { fixed = λ t. go c.c_type c.range t (n t); bits = s.1 }
  where
    go : (t : ComponentType) (r : Usbr) → let c : Component = record { c_type = t; range = r } in
        is_static_literal c ≡ true → r ≡ up_to (length (bits_of c)) → c ≡ whole_literal (bits_of c)
    go (literal bits) r s e = ap (λ (r : Usbr). record { c_type = literal bits; range = r }) e
    go (variable p) r s e = absurd (false≢true s)
    go filler r s e = absurd (false≢true s)

all_fixed : {cs : List (Placed Component)} → Every Fixed cs → AllFixed cs
all_fixed every_nil = none_left
all_fixed (every_cons f fs) = one_more f (all_fixed fs)

both_fixed : (last : Bool) (u : Placed Unparsed) → ShortBefore u
    → Yields (λ c. Fixed c × (0 ≤ 0)) (keep_base (λ s x. stage1_component s x >>= simplify) last u)
both_fixed last u h =
    bound {Q = λ d. Normal d × Short (bits_of d)} (bound (stage1_kept last u.value h) λ c k. yields_of (λ d n. (n.0, n.1.0)) (simplify_normal c k.0)) λ d n.
    given (normal_fixed u.base d n.0 n.1, le_refl 0)

pub read_fixed : ReadFixed
read_fixed image h u e =
    all_fixed (the_given (rw e at (each_kept (keep_base (λ s x. stage1_component s x >>= simplify)) ShortBefore Fixed (λ _. 0) (λ _. 0) both_fixed 0 (tree_of image)
    (tree_counted image h).short))).1
