-- A run of items read as a bound: kept as written where it has no sign, else cut at the sign's record.
use Rattle.std.specs.Prelude as Std
use Rattle.std.specs.Prelude.{Some, None, Ok, ◌+◌, ◌-◌, ◌∷◌, ◌++◌, if◌then◌else◌}
use Rattle.errors.specs.declared.reasons.Reason.{Reason}
use Rattle.std.proofs.Common.{◌≡◌, ◌<◌, ◌≤◌, ◌⊎◌, sym, refl, ap, ◌∙◌, subst, inl, inr, arith}
use Rattle.definition.specs.Prelude.{ℕ, Bool, true, false, not, Option, none, some, List, [], length, eqb, get_or, pos}
use Rattle.definition.specs.Basics.{ok, same_bytes}
use Rattle.definition.specs.Text as Text
use Rattle.definition.specs.Text.{Item, is_group, is_token}
use Rattle.definition.specs.Ranges as Ranges
use Rattle.definition.specs.Ranges.{Cut, cut_bound, read_bound, join_sides}
use Rattle.laws.specs.Tests.{and_iff}
use Rattle.stages.specs.token_tree.Laid.{Stands, Laid, place_of}
use Rattle.stages.specs.token_tree.Table.{start_in, skip_in, single_of}
use Rattle.stages.specs.token_tree.Parts.{part_by, part_of}
use Rattle.stages.specs.ranges.Values.{new_by, UsbReads}
use Rattle.stages.specs.ranges.Signs.{record_at, cut_place}
use Rattle.stages.specs.ranges.Sides.{join_parts, join_is, text_in, sides_in}
use Rattle.stages.specs.declared.token_tree.types.PBind.{PBind}
use Rattle.stages.specs.declared.token_tree.types.Part.{Part}
use Rattle.stages.specs.declared.token_tree.types.Tree.{Tree}
use Rattle.stages.specs.declared.ranges.types.Usb.{Usb}
use Rattle.stages.proofs.token_tree.Places.{laid_order, laid_split, Split, token_by}
use Rattle.stages.proofs.ranges.sides.Texts.{part_fits}
use Rattle.stages.proofs.ranges.sides.Ways.{made_new}
use Rattle.stages.proofs.ranges.signs.CutParts.{Parts, bound_parts}
use Rattle.stages.proofs.token_tree.Written.{laid_part}

-- a token's one byte
one_long : (l : List ℕ) (c : ℕ) → same_bytes l (c ∷ []) ≡ true → length l ≡ 1
unfolding same_bytes
one_long [] c h = let z : ◌≡◌ {A = ℕ} 0 1 = cc h in absurd (omega (arith, z))
one_long (b ∷ []) c h = refl
one_long (b ∷ x ∷ l) c h =
    let (p, q) = (and_iff (eqb b c) false).0 h in
    let z : ◌≡◌ {A = ℕ} 0 1 = cc q in absurd (omega (arith, z))

token_long : (c : ℕ) (i : Item) → is_token c i ≡ true → length i.part.bytes ≡ 1
token_long c i h = one_long i.part.bytes c ((and_iff (not (is_group i)) (same_bytes i.part.bytes (c ∷ []))).0 h).1

sign_long : (is : List Item) (c : Cut) → Parts (is_token 43) is c ⊎ Parts (is_token 45) is c → length c.sign.part.bytes ≡ 1
sign_long is c (inl h) = token_long 43 c.sign h.sign
sign_long is c (inr h) = token_long 45 c.sign h.sign

sign_parts : (is : List Item) (c : Cut) → Parts (is_token 43) is c ⊎ Parts (is_token 45) is c → is ≡ c.before ++ (c.sign ∷ c.after)
sign_parts is c (inl h) = h.parts
sign_parts is c (inr h) = h.parts

pub read_none : (is : List Item) → cut_bound is ≡ none → read_bound is ≡ ok (Ranges.text (Text.part_of is) (pos 0))
unfolding read_bound
read_none is e = rw (e, read_bound)

pub read_some : (is : List Item) (c : Cut) → cut_bound is ≡ some c → read_bound is ≡ join_sides (Ranges.text (Text.part_of is) (pos 0)) c
unfolding read_bound
read_some is c e = rw (e, read_bound)

join_same : {o p b c a d k l : Text.Part} {n m : Bool} → o ≡ p → b ≡ c → a ≡ d → k ≡ l → n ≡ m → join_parts o b a k n ≡ join_parts p c d l m
join_same e f g h i = rw (e, f, g, h, i)

module _ (image : List ℕ) (t : Tree) (base stop tail r s : ℕ) (is : List Item) (h : Laid image t base stop tail r s is) where
  -- no sign: kept as written
  pub bound_whole : None ≡ cut_place image t r (cut_bound is) → ok (Ranges.text (text_in image t base s tail) (pos 0)) ≡ read_bound is
  bound_whole e = go (cut_bound is) refl e
    where
      go : (o : Option Cut) → cut_bound is ≡ o → None ≡ cut_place image t r o → ok (Ranges.text (text_in image t base s tail) (pos 0)) ≡ read_bound is
      go none q k = ap (λ p. ok (Ranges.text p (pos 0))) (laid_part image t base stop tail r s is h) ∙ sym (read_none is q)
      go (some c) q k = cc

  -- the sign at record `at`
  pub record AtSign (at : ℕ) : Type 0 where
    pub room : at + 1 ≤ stop
    pub behind : s ≤ start_in image t at
    pub before : start_in image t at < tail
    pub reads : sides_in image t base (start_in image t at) s tail ≡ read_bound is

  -- what stands before the sign, the sign at text place p, and what stands behind it
  module _ (c : Cut) (q : cut_bound is ≡ some c) (at p : ℕ) (one : length c.sign.part.bytes ≡ 1)
      (front : Laid image t base at p r s c.before) (sign : Stands image t base stop at p c.sign)
      (rear : Laid image t base stop tail (at + skip_in image t at) (p + 1) c.after)
      (both : Laid image t base stop tail at p (c.sign ∷ c.after)) where
    minus_is : eqb (get_or image (t.text + p) 0) 45 ≡ is_token 45 c.sign
    minus_is =
        let d : p + 1 - p ≡ 1 = omega arith in
        sym (token_by image t base 45 at p stop (p + 1) c.sign (omega arith) sign (omega (arith, one)) ∙ ap (λ n. eqb (single_of image (t.text + p) n) 45) d)

    kept_is : (n : Bool) → (if n then text_in image t base p tail else text_in image t base (p + 1) tail)
        ≡ (if n then Text.part_of (c.sign ∷ c.after) else Text.part_of c.after)
    kept_is true = laid_part image t base stop tail at p (c.sign ∷ c.after) both
    kept_is false = laid_part image t base stop tail (at + skip_in image t at) (p + 1) c.after rear

    cut_reads : sides_in image t base p s tail ≡ read_bound is
    cut_reads =
        join_same (laid_part image t base stop tail r s is h) (laid_part image t base at p r s c.before front)
        (laid_part image t base stop tail (at + skip_in image t at) (p + 1) c.after rear)
        (kept_is (eqb (get_or image (t.text + p) 0) 45) ∙ ap (λ n. if n then Text.part_of (c.sign ∷ c.after) else Text.part_of c.after) minus_is) minus_is
        ∙ sym (join_is (Text.part_of is) c) ∙ sym (read_some is c q)

  split_sign : (at : ℕ) (c : Cut) → cut_bound is ≡ some c → at ≡ place_of image t r (length c.before) → length c.sign.part.bytes ≡ 1
      → Split image t base stop tail r s c.before (c.sign ∷ c.after) → AtSign at
  unfolding Laid
  split_sign at c q k one x =
      let p : ℕ = x.from in
      let both : Laid image t base stop tail at p (c.sign ∷ c.after) = subst (λ y. Laid image t base stop tail y p (c.sign ∷ c.after)) (sym k) x.after in
      let front : Laid image t base at p r s c.before = subst (λ y. Laid image t base y p r s c.before) (sym k) x.before in
      let sign : Stands image t base stop at p c.sign = both.0 in
      let rear : Laid image t base stop tail (at + skip_in image t at) (p + 1) c.after =
      subst (λ y. Laid image t base stop tail (at + skip_in image t at) (p + y) c.after) one both.1 in
      let o = (laid_order image t base stop tail (at + skip_in image t at) (p + 1) c.after rear).1 in
      let f = (laid_order image t base at p r s c.before front).1 in
      let st = sign.start in
      record {
        room = sign.room;
        behind = omega (arith, f, st);
        before = omega (arith, o, st);
        reads = rw st (cut_reads c q at p one front sign rear both);
      }

  pub at_sign : (at : PBind) → Some at ≡ cut_place image t r (cut_bound is) → AtSign at.0
  at_sign at e = go (cut_bound is) refl e
    where
      go : (o : Option Cut) → cut_bound is ≡ o → Some at ≡ cut_place image t r o → AtSign at.0
      go none q k = let z : ◌≡◌ {A = ℕ} 0 1 = cc in absurd (omega arith)
      go (some c) q k =
          let b = bound_parts is c q in
          let cut = subst (λ l. Laid image t base stop tail r s l) (sign_parts is c b) h in
          let same : at ≡ record_at (place_of image t r (length c.before)) = cc in
          split_sign at.0 c q (ap (λ (x : PBind). x.0) same) (sign_long is c b) (laid_split image t base stop tail r s c.before (c.sign ∷ c.after) cut)

-- ---- group: what it answers

module _ (image : List ℕ) (t : Tree) (base stop tail r s : ℕ) (is : List Item) (h : Laid image t base stop tail r s is) where
  pub group_whole : base ≤ s → t.text + tail ≤ length image → None ≡ cut_place image t r (cut_bound is)
      → (part : Part) (u : Usb) → part ≡ part_by s tail → u ≡ new_by part → UsbReads image t base (Ok u) (read_bound is)
  group_whole above room e part u q w =
      let o = (laid_order image t base stop tail r s is h).1 in
      made_new image t base part u w (rw q (part_fits image t base s tail record { above = above; order = o; room = room }))
      (ap (λ y. ok (Ranges.text (part_of image t base y) (pos 0))) q ∙ bound_whole image t base stop tail r s is h e)

  pub group_sign : (at : PBind) → Some at ≡ cut_place image t r (cut_bound is) → (p : ℕ) → p ≡ start_in image t at.0
      → (q : Std.Result Usb Reason) → UsbReads image t base q (sides_in image t base p s tail) → UsbReads image t base q (read_bound is)
  group_sign at e p k q u =
      let x = at_sign image t base stop tail r s is h at e in
      subst (λ m. UsbReads image t base q m) (ap (λ y. sides_in image t base y s tail) k ∙ x.reads) u
