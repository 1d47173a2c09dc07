-- The lengths of a listing's lines, and of the whole listing: a fixed part for each line, three bytes for each byte of text and two
-- for each byte of a literal.
use Rattle.std.specs.Prelude.{◌≡◌, ◌≤◌, ◌+◌, ◌*◌, ◌∷◌, ◌++◌, if◌then◌else◌}
use Rattle.std.proofs.Math.Path.{refl}
use Rattle.std.proofs.Common.{◌∙◌, mul-suc, le_trans, lit≤, length-append}
use native.Mathlib.Omega.{arith}
use Rattle.definition.specs.Prelude.{ℕ, zero, suc, Bool, true, false, List, [], map, reverse, length, take, drop, eqb}
use Rattle.definition.specs.Basics.{ok, Refusal, refused, joined, sum, tab, ascii}
use Rattle.definition.specs.Image.{padded}
use Rattle.definition.specs.Answer.{Field, Concat, Read, read_answer, is_set}
use Rattle.definition.specs.Listing.{decimal, hex, shown, bound_word, end_word, flag_word, summary_words, line, field_line, concat_lines, answer_lines, listing}
use Rattle.listing_length.specs.Words.{decimal_most, shown_most, hex_most, width_most, flag_most, align_most, reverse_length}
use Rattle.listing_length.specs.Lines.{text_of, texts, literals}
use Rattle.listing_length.proofs.Words.{bound_most, end_most}

-- each word has a space or the newline after it
line_length : (w : List ℕ) (ws : List (List ℕ)) → length (line (w ∷ ws)) ≡ sum (map (λ v. length v + 1) (w ∷ ws))
unfolding line sum
line_length w [] = length-append w (10 ∷ []) ∙ (omega arith)
line_length w (v ∷ ws) = let h = line_length v ws in omega (arith, length-append w (32 ∷ line (v ∷ ws)))

-- ---- a component

pub field_most : (f : Field) → length (field_line f) ≤ 92 + 3 * text_of f + 2 * length f.literal
unfolding sum ascii
field_most f = go (eqb f.kind 1) (eqb f.kind 2)
  where
    bounds : List (List ℕ)
    bounds = bound_word f.start ∷ end_word f.«end» ∷ []

    go : (t u : Bool) →
        length (if t then line (ascii "literal" ∷ (bounds ++ (joined (map hex (reverse f.literal)) ∷ [])))
        else if u then line (ascii "variable" ∷ (bounds ++ (shown f.text ∷ []))) else line (ascii "filler" ∷ bounds))
        ≤ 92 + 3 * text_of f + 2 * length f.literal
    go true u =
        let e = line_length (ascii "literal") (bound_word f.start ∷ end_word f.«end» ∷ joined (map hex (reverse f.literal)) ∷ []) in
        omega (arith, e, bound_most f.start, end_most f.«end», hex_most (reverse f.literal), reverse_length f.literal)
    go false true =
        let e = line_length (ascii "variable") (bound_word f.start ∷ end_word f.«end» ∷ shown f.text ∷ []) in
        omega (arith, e, bound_most f.start, end_most f.«end», shown_most f.text)
    go false false =
        let e = line_length (ascii "filler") (bound_word f.start ∷ end_word f.«end» ∷ []) in
        omega (arith, e, bound_most f.start, end_most f.«end»)

-- ---- the concatenations

group_most : (i : ℕ) (g : Concat) → length (line (ascii "c" ∷ decimal i ∷ decimal g.size ∷ summary_words g.width g.align g.flags)) ≤ 137
unfolding sum ascii
group_most i g =
    let e = line_length (ascii "c") (decimal i ∷ decimal g.size ∷ summary_words g.width g.align g.flags) in
    omega (
      arith,
      e,
      decimal_most i,
      decimal_most g.size,
      width_most g.width,
      align_most g.align,
      flag_most (is_set g.flags 1) (ascii "D"),
      flag_most (is_set g.flags 2) (ascii "Z"),
    )

-- a number for each element, and its sum over a list in two parts
module _ {A : Type 0} (m : A → ℕ) where
  sum_parts : (n : ℕ) (l : List A) → sum (map m (take n l)) + sum (map m (drop n l)) ≡ sum (map m l)
  unfolding sum
  sum_parts zero l = omega arith
  sum_parts (suc n) [] = refl
  sum_parts (suc n) (a ∷ l) = let h = sum_parts n l in omega arith

fields_most : (fs : List Field) → length (joined (map field_line fs)) ≤ 92 * length fs + 3 * sum (map text_of fs) + 2 * sum (map (λ f. length f.literal) fs)
unfolding joined sum
fields_most [] = omega arith
fields_most (f ∷ fs) =
    let h = fields_most fs in
    omega (arith, length-append (field_line f) (joined (map field_line fs)), field_most f, mul-suc 92 (length fs))

take_drop_length : {A : Type 0} (n : ℕ) (l : List A) → length (take n l) + length (drop n l) ≡ length l
take_drop_length zero l = omega arith
take_drop_length (suc n) [] = refl
take_drop_length (suc n) (a ∷ l) = let h = take_drop_length n l in omega arith

three : (x y z : List ℕ) (a b c : ℕ) → length x ≤ a → length y ≤ b → length z ≤ c → length (x ++ y ++ z) ≤ a + (b + c)
three x y z a b c p q r = omega (arith, length-append (x ++ y) z, length-append x y)

groups_most : (i : ℕ) (gs : List Concat) (fs : List Field) →
    length (concat_lines i gs fs) ≤ 137 * length gs + (92 * length fs + 3 * sum (map text_of fs) + 2 * sum (map (λ f. length f.literal) fs))
unfolding concat_lines
groups_most i [] fs = omega arith
groups_most i (g ∷ gs) fs =
    le_trans
    (three (line (ascii "c" ∷ decimal i ∷ decimal g.size ∷ summary_words g.width g.align g.flags)) (joined (map field_line (take g.size fs))) (concat_lines (suc i) gs (drop g.size fs)) _ _ _
    (group_most i g) (fields_most (take g.size fs)) (groups_most (suc i) gs (drop g.size fs)))
    (omega (arith, mul-suc 137 (length gs), take_drop_length g.size fs, sum_parts text_of g.size fs, sum_parts (λ f. length f.literal) g.size fs))

-- ---- the whole

pub answer_most : (r : Read) → length (answer_lines r) ≤ 145 + 137 * length r.concats + 92 * length r.fields + 3 * texts r + 2 * literals r
unfolding sum ascii
answer_most r =
    let init = flag_word (is_set r.flags 4) (61 ∷ shown r.init) in
    let words = decimal (length r.concats) ∷ decimal r.size ∷ (summary_words r.width r.align r.flags ++ (init ∷ [])) in
    let e = line_length (ascii "layout") words in
    omega (
      arith,
      e,
      length-append (line (ascii "layout" ∷ words)) (concat_lines 0 r.concats r.fields),
      groups_most 0 r.concats r.fields,
      decimal_most (length r.concats),
      decimal_most r.size,
      width_most r.width,
      align_most r.align,
      flag_most (is_set r.flags 1) (ascii "D"),
      flag_most (is_set r.flags 2) (ascii "Z"),
      flag_most (is_set r.flags 4) (61 ∷ shown r.init),
      shown_most r.init,
    )

-- A listing of at most 16 concatenations and 256 components: its length from its bytes of text and of literals.
pub accepted_most : (image bytes : List ℕ) (t b : ℕ) → (let r = read_answer image bytes in (length r.concats ≤ 16) × (length r.fields ≤ 256) × (texts r ≤ t) × (literals r ≤ b))
    → length (listing image (ok bytes)) ≤ 25889 + 3 * t + 2 * b
unfolding listing
accepted_most image bytes t b h = let r = read_answer image bytes in omega (arith, h.0, h.1, h.2, h.3, answer_most r)

pub refused_most : (image : List ℕ) (q : Refusal) → length (listing image (refused q)) ≤ 128
unfolding listing sum ascii
refused_most image q =
    omega (
      arith,
      line_length (ascii "refused") (decimal q.number ∷ decimal q.concatenation ∷ decimal q.component ∷ []),
      decimal_most q.number,
      decimal_most q.concatenation,
      decimal_most q.component,
    )

-- a closed answer that meets the premises: one concatenation of one filler, whose start has a text of 2 bytes
one : List ℕ
one = tab (λ i. if eqb i 0 then 1 else if eqb i 4 then 1 else if eqb i 80 then 2 else 0) 0 124

witness : (length (listing [] (ok one)) ≤ 25889 + 3 * 2 + 2 * 0) × (texts (read_answer [] one) ≡ 2)
unfolding read_answer tab sum padded one
witness = (accepted_most [] one 2 0 (lit≤ tt, lit≤ tt, lit≤ tt, lit≤ tt), refl)
