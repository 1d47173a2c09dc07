-- A bound is one item: a token, or a group in parentheses.
use Rattle.std.specs.Prelude as Std
use Rattle.std.specs.Prelude.{Ok, Err, ◌+◌, ◌-◌, ◌∷◌, if◌then◌else◌}
use Rattle.errors.specs.declared.reasons.Reason.TheVariants as Reasons
use Rattle.errors.specs.declared.reasons.Reason.{Reason}
use Rattle.std.proofs.Common.{◌≡◌, ◌<◌, ◌≤◌, ◌⊎◌, sym, refl, ap, ◌∙◌, subst, inl, inr, arith, eq-eqb, ne_eqb}
use Rattle.definition.specs.Prelude.{ℕ, Bool, true, false, none, some, List, [], length, eqb, pos}
use Rattle.definition.specs.Basics.{ok, refused, refusal_of}
use Rattle.definition.specs.Numbers.{half128}
use Rattle.definition.specs.Text as Text
use Rattle.definition.specs.Text.{Item, is_group, is_token, items}
use Rattle.definition.specs.Ranges as Ranges
use Rattle.definition.specs.Ranges.{Cut, cut_last, cut_pair, cut_bound, join_sides, read_bound, parse_usb}
use Rattle.laws.specs.Tests.{by_test}
use Rattle.stages.specs.token_tree.Laid.{Stands, Laid, Runs}
use Rattle.stages.specs.token_tree.Parts.{part_by}
use Rattle.stages.specs.token_tree.Table.{kind_in, start_in, skip_in, single_of}
use Rattle.stages.specs.ranges.Values.{zero_by, new_by, UsbReads}
use Rattle.stages.specs.ranges.Sides.{text_in}
use Rattle.stages.specs.declared.token_tree.types.Part.{Part}
use Rattle.stages.specs.declared.token_tree.types.Tree.{Tree}
use Rattle.stages.specs.declared.ranges.types.Usb.{Usb}
use Rattle.stages.proofs.token_tree.Insides.{last_inside}
use Rattle.stages.proofs.token_tree.Places.{laid_first, laid_order, laid_some, token_by}
use Rattle.stages.proofs.token_tree.Walks.{runs_within}
use Rattle.stages.proofs.token_tree.Written.{no_text_is, none_fits, laid_part}
use Rattle.stages.proofs.ranges.sides.Texts.{part_fits}
use Rattle.stages.proofs.ranges.sides.Ways.{made_new}
use Rattle.stages.proofs.ranges.bound.AtSign.{read_none, read_some}

-- ---- over a list

usb_many : (i j : Item) (is : List Item) → parse_usb (i ∷ j ∷ is) ≡ refused (refusal_of 15 0 0)
unfolding parse_usb
usb_many i j is = refl

usb_token : (i : Item) → is_group i ≡ false → parse_usb (i ∷ []) ≡ read_bound (i ∷ [])
unfolding parse_usb
usb_token i h = rw (h, parse_usb)

usb_other : (i : Item) → is_group i ≡ true → (i.kind ≡ 2 → ⊥) → parse_usb (i ∷ []) ≡ refused (refusal_of 15 0 0)
unfolding parse_usb
usb_other i h k = rw (h, parse_usb, ne_eqb i.kind 2 k)

usb_group : (i : Item) → is_group i ≡ true → i.kind ≡ 2 → parse_usb (i ∷ []) ≡ read_bound (items i.inside_at i.inside)
unfolding parse_usb
usb_group i h k = rw (h, parse_usb, eq-eqb i.kind 2 k)

-- a sign alone is 0, any other token its text
abbrev here : Item → Cut
here i = record { before = []; sign = i; after = [] }

cut_plus : (i : Item) → is_token 43 i ≡ true → cut_bound (i ∷ []) ≡ some (here i)
unfolding cut_last
cut_plus i p = rw p

cut_minus : (i : Item) → is_token 43 i ≡ false → is_token 45 i ≡ true → cut_bound (i ∷ []) ≡ some (here i)
unfolding cut_last cut_pair
cut_minus i p q = rw (p, q) refl

cut_none : (i : Item) → is_token 43 i ≡ false → is_token 45 i ≡ false → cut_bound (i ∷ []) ≡ none
unfolding cut_last cut_pair
cut_none i p q = rw (p, q) refl

join_nothing : (o : Ranges.Usb) (i : Item) (b : Bool) → is_token 45 i ≡ b → join_sides o (here i) ≡ ok (Ranges.val (pos 0))
unfolding half128
join_nothing o i true q = rw q refl
join_nothing o i false q = rw q refl

lone_by : (i : Item) (a b : Bool) → is_token 43 i ≡ a → is_token 45 i ≡ b
    → read_bound (i ∷ []) ≡ (if a then ok (Ranges.val (pos 0)) else if b then ok (Ranges.val (pos 0)) else ok (Ranges.text (Text.part_of (i ∷ [])) (pos 0)))
lone_by i true b p q = read_some (i ∷ []) (here i) (cut_plus i p) ∙ join_nothing (Ranges.text (Text.part_of (i ∷ [])) (pos 0)) i b q
lone_by i false true p q = read_some (i ∷ []) (here i) (cut_minus i p q) ∙ join_nothing (Ranges.text (Text.part_of (i ∷ [])) (pos 0)) i true q
lone_by i false false p q = read_none (i ∷ []) (cut_none i p q)

-- ---- a lone token

module _ (image : List ℕ) (t : Tree) (base stop e r s : ℕ) (i : Item) (h : Laid image t base stop e r s (i ∷ [])) (b : ℕ)
    (eb : b ≡ single_of image (t.text + s) (e - s)) where
  test_is : (c : ℕ) → 0 < c → is_token c i ≡ eqb b c
  unfolding Laid
  test_is c l = token_by image t base c r s stop e i l h.0 (sym h.1.1) ∙ ap (λ x. eqb x c) (sym eb)

  read_by : read_bound (i ∷ [])
      ≡ (if eqb b 43 then ok (Ranges.val (pos 0)) else if eqb b 45 then ok (Ranges.val (pos 0)) else ok (Ranges.text (text_in image t base s e) (pos 0)))
  read_by = lone_by i (eqb b 43) (eqb b 45) (test_is 43 (omega arith)) (test_is 45 (omega arith)) ∙ rw (← laid_part image t base stop e r s (i ∷ []) h) refl

  pub lone_sign : (u : Usb) → u ≡ zero_by → t.text ≤ length image → (b ≡ 43) ⊎ (b ≡ 45) → UsbReads image t base (Ok u) (read_bound (i ∷ []))
  lone_sign u q l k =
      made_new image t base _ u q (none_fits image t base l)
      (ap (λ p. ok (Ranges.text p (pos 0))) (no_text_is image t base) ∙ sym (read_by ∙ told k))
    where
      told : (b ≡ 43) ⊎ (b ≡ 45)
          → (if eqb b 43 then ok (Ranges.val (pos 0)) else if eqb b 45 then ok (Ranges.val (pos 0)) else ok (Ranges.text (text_in image t base s e) (pos 0)))
          ≡ ok (Ranges.val (pos 0))
      told (inl z) = rw (eq-eqb b 43 z)
      told (inr z) = rw z refl

  pub lone_text : (part : Part) (u : Usb) → part ≡ part_by s e → u ≡ new_by part → s < e → t.text + e ≤ length image → (b ≡ 43 → ⊥) → (b ≡ 45 → ⊥)
      → UsbReads image t base (Ok u) (read_bound (i ∷ []))
  unfolding Laid
  lone_text part u q w l f n m =
      let a = h.0.at in
      made_new image t base part u w (rw q (part_fits image t base s e record { above = omega (arith, a); order = omega (arith, l); room = f }))
      (rw q (sym (read_by ∙ rw (ne_eqb b 43 n, ne_eqb b 45 m) refl)))

-- ---- the items of a run

module _ (image : List ℕ) (t : Tree) (base stop tail r s : ℕ) where
  ended : Laid image t base stop tail r s [] → r ≡ stop
  unfolding Laid
  ended h = h.0

  text_ended : Laid image t base stop tail r s [] → s ≡ tail
  unfolding Laid
  text_ended h = h.1

refused_as : (image : List ℕ) (t : Tree) (base : ℕ) (is : List Item) → parse_usb is ≡ refused (refusal_of 15 0 0) → UsbReads image t base (Err Reasons.NotOneToken) (parse_usb is)
refused_as image t base is e = record { is = sym e; held = tt }

module _ (image : List ℕ) (t : Tree) (base stop tail r s : ℕ) (is : List Item) (l : r < stop) (h : Laid image t base stop tail r s is) where
  -- the item that is the whole run
  pub record One : Type 0 where
    pub item : Item
    pub parts : is ≡ item ∷ []
    pub laid : Laid image t base stop tail r s (item ∷ [])
    pub stands : Stands image t base stop r s item
    pub ends : s + length item.part.bytes ≡ tail

  pub first_start : start_in image t r ≡ s
  first_start = (laid_first image t base stop tail r s is l h).stands.start

  pub first_ends : r + skip_in image t r ≤ stop
  first_ends = let f = laid_first image t base stop tail r s is l h in (laid_order image t base stop tail _ _ f.rest f.laid).0

  -- items behind it
  pub many_refused : (r + skip_in image t r ≡ stop → ⊥) → UsbReads image t base (Err Reasons.NotOneToken) (parse_usb is)
  many_refused n = let f = laid_first image t base stop tail r s is l h in go f.item f.rest f.parts f.laid
    where
      go : (i : Item) (rest : List Item) → is ≡ i ∷ rest → Laid image t base stop tail (r + skip_in image t r) (s + length i.part.bytes) rest
          → UsbReads image t base (Err Reasons.NotOneToken) (parse_usb is)
      go i [] e k = absurd (n (ended image t base stop tail (r + skip_in image t r) (s + length i.part.bytes) k))
      go i (j ∷ rest) e k = refused_as image t base is (ap parse_usb e ∙ usb_many i j rest)

  pub the_one : r + skip_in image t r ≡ stop → One
  the_one z = let f = laid_first image t base stop tail r s is l h in go f.item f.rest f.parts f.stands f.laid
    where
      go : (i : Item) (rest : List Item) → is ≡ i ∷ rest → Stands image t base stop r s i
          → Laid image t base stop tail (r + skip_in image t r) (s + length i.part.bytes) rest → One
      go i [] e st k =
          record {
            item = i;
            parts = e;
            laid = subst (λ y. Laid image t base stop tail r s y) e h;
            stands = st;
            ends = text_ended image t base stop tail (r + skip_in image t r) (s + length i.part.bytes) k;
          }
      go i (j ∷ rest) e st k =
          absurd (let m = (laid_some image t base stop tail (r + skip_in image t r) (s + length i.part.bytes) (j ∷ rest) (omega arith) k).1 in omega (arith, m, z))

-- ---- the ways of parse_usb, by what the first record holds

module _ (image : List ℕ) (t : Tree) (base stop tail r s : ℕ) (is : List Item) (l : r < stop) (h : Laid image t base stop tail r s is)
    (kind start skip : ℕ) (ek : kind ≡ kind_in image t r) (es : start ≡ start_in image t r) (ep : skip ≡ skip_in image t r) where
  skipped : r + skip ≡ stop → r + skip_in image t r ≡ stop
  skipped z = ap (λ (x : ℕ). r + x) (sym ep) ∙ z

  begins : s ≡ start
  begins = sym (es ∙ first_start image t base stop tail r s is l h)

  pub parse_many : (r + skip ≡ stop → ⊥) → UsbReads image t base (Err Reasons.NotOneToken) (parse_usb is)
  parse_many n = many_refused image t base stop tail r s is l h (λ z. n (ap (λ (x : ℕ). r + x) ep ∙ z))

  module _ (z : r + skip ≡ stop) where
    -- the item that stands there
    pub lone : One image t base stop tail r s is l h
    lone = the_one image t base stop tail r s is l h (skipped z)

    kind_is : lone.item.kind ≡ kind
    kind_is = sym (ek ∙ lone.stands.kind)

    in_parentheses : kind ≡ 2 → is_group lone.item ≡ true
    in_parentheses k = rw (kind_is ∙ k) refl

    pub parse_token : kind ≡ 0 → (q : Std.Result Usb Reason)
        → ((base stop r : ℕ) (i : Item) → Laid image t base stop tail r start (i ∷ []) → UsbReads image t base q (read_bound (i ∷ [])))
        → UsbReads image t base q (parse_usb is)
    parse_token k q f =
        let word : is_group lone.item ≡ false = rw (kind_is ∙ k) refl in
        subst (λ m. UsbReads image t base q m) (sym (ap parse_usb lone.parts ∙ usb_token lone.item word))
        (f base stop r lone.item (subst (λ x. Laid image t base stop tail r x (lone.item ∷ [])) begins lone.laid))

    pub parse_other : (kind ≡ 0 → ⊥) → (kind ≡ 2 → ⊥) → UsbReads image t base (Err Reasons.NotOneToken) (parse_usb is)
    parse_other n m =
        let g : is_group lone.item ≡ true = by_test (is_group lone.item) (λ q. q) (λ q. absurd (n (sym kind_is ∙ lone.stands.word q))) in
        refused_as image t base is (ap parse_usb lone.parts ∙ usb_other lone.item g (λ k. m (sym kind_is ∙ k)))

    pub token_order : start < tail
    token_order = let e = lone.ends in let n = lone.stands.some in let b = begins in omega (arith, e, n, b)

    module _ (k : kind ≡ 2) where
      pub group_order : start + 2 ≤ tail
      group_order = let e = lone.ends in let n = (lone.stands.group (in_parentheses k)).long in let b = begins in omega (arith, e, n, b)

      abbrev pub inner : List Item
      inner = items lone.item.inside_at lone.item.inside

      pub inner_laid : Laid image t base (stop - 1) (tail - 1) (r + 1) (start + 1) inner
      inner_laid =
          subst (λ x. Laid image t base (stop - 1) (tail - 1) (r + 1) (x + 1) inner) begins
          (last_inside image t base stop tail r s lone.item lone.stands (in_parentheses k) (skipped z) lone.ends)

      pub parse_group : (q : Std.Result Usb Reason)
          → ((base : ℕ) (is : List Item) → base ≤ start + 1 → Laid image t base (stop - 1) (tail - 1) (r + 1) (start + 1) is
          → UsbReads image t base q (read_bound is))
          → UsbReads image t base q (parse_usb is)
      parse_group q f =
          let a = lone.stands.at in
          let b = begins in
          subst (λ m. UsbReads image t base q m) (sym (ap parse_usb lone.parts ∙ usb_group lone.item (in_parentheses k) (kind_is ∙ k)))
          (f base inner (omega (arith, a, b)) inner_laid)

-- the run inside the group
pub inner_runs : (image : List ℕ) (t : Tree) (stop tail r s : ℕ) (l : r < stop) (w : Runs image t stop tail r s)
    (kind start skip : ℕ) → kind ≡ kind_in image t r → start ≡ start_in image t r → skip ≡ skip_in image t r → r + skip ≡ stop → kind ≡ 2
    → Runs image t (stop - 1) (tail - 1) (r + 1) (start + 1)
inner_runs image t stop tail r s l w kind start skip ek es ep z k =
    runs_within w.base (inner image t w.base stop tail r s w.items l w.laid kind start skip ek es ep z k) w (omega arith) (omega arith)
    (inner_laid image t w.base stop tail r s w.items l w.laid kind start skip ek es ep z k)
