-- The text before a starting value's colon, and what stands behind it.
use Rattle.std.specs.Prelude as Std
use Rattle.std.specs.Prelude.{Some, None, Ok, Err, ◌+◌, ◌*◌, ◌^◌, ◌&&◌, ◌∷◌}
use Rattle.std.proofs.Common.{◌≡◌, ◌<◌, ◌≤◌, sym, refl, ap, ◌∙◌, subst, arith, eqb-true}
use borrow.Author.Tests.{eqb-false}
use Rattle.definition.specs.Prelude.{ℕ, suc, Bool, true, false, not, Option, none, some, List, [], length, eqb}
use Rattle.definition.specs.Basics.{same_bytes}
use Rattle.definition.specs.Text as Text
use Rattle.definition.specs.Text.{Item, is_group}
use Rattle.definition.specs.Component.{Prefix, Split, split_range, split_colon}
use Rattle.errors.specs.declared.Refusal.{Refusal}
use Rattle.laws.specs.Tests.{by_test, and_iff}
use Rattle.stages.specs.token_tree.Table.{kind_in, start_in, skip_in}
use Rattle.stages.specs.token_tree.Laid.{Laid, Runs, place_of}
use Rattle.stages.specs.token_tree.Parts.{part_by, part_of}
use Rattle.stages.specs.component.Start.{before_by, colon_place, ColonFits, ColonAt, prefix_value, start_result, PrefixReads}
use Rattle.stages.specs.declared.token_tree.types.Tree.{Tree}
use Rattle.stages.specs.declared.token_tree.types.Part.{Part}
use Rattle.stages.specs.declared.token_tree.types.Run.{Run}
use Rattle.stages.specs.declared.token_tree.types.PBind.{PBind}
use Rattle.stages.specs.declared.component.start.Start.{Start}
use Rattle.stages.proofs.token_tree.Places.{place_above, place_suc, laid_order, laid_first, laid_none, laid_split}
use Rattle.stages.proofs.component.parse.Splits.{colon_parts}
use Rattle.stages.proofs.token_tree.Walks.{runs_within}
use Rattle.stages.proofs.token_tree.Written.{laid_part, laid_fits}
use Rattle.stages.proofs.component.parse.Endings.{range_last, range_none, LastAt}

pub below : (a b : ℕ) → a ≤ b → (a ≡ b → ⊥) → a < b
below a b l n = omega (arith, l, n)

not_group : (a b : Bool) → (not a && b) ≡ true → a ≡ false
not_group false b h = refl
not_group true b h = sym h

one_byte : (l : List ℕ) → same_bytes l (58 ∷ []) ≡ true → length l ≡ 1
unfolding same_bytes
one_byte [] e = let z : ◌≡◌ {A = ℕ} 0 1 = cc in absurd (omega (arith, z))
one_byte (x ∷ []) e = refl
one_byte (x ∷ y ∷ l) e =
    let f : false ≡ true = ((and_iff (eqb x 58) false).0 e).1 in
    let z : ◌≡◌ {A = ℕ} 0 1 = cc in absurd (omega (arith, z))

some_value : (image : List ℕ) (t : Tree) (base k colon : ℕ) (p : Prefix) (i : Item) (l : List Item) (u : Part) → p.after ≡ i ∷ l
    → Text.part_of p.before ≡ part_of image t base u
    → start_result image t base (Ok (Some (record { after = record { 0 = colon + 1 }; s = u }))) ≡ prefix_value base k (some p)
some_value image t base k colon p i l u a b = rw (a, b) refl

module _ (image : List ℕ) (t : Tree) (base stop tail r s colon : ℕ) (mid : List Item) (h : Laid image t base stop tail r s mid) where
  -- a colon that is found
  pub record Found (p : Prefix) : Type 0 where
    pub from : ℕ
    pub before : Laid image t base colon from r s p.before
    pub start_is : start_in image t colon ≡ from
    pub first_is : start_in image t r ≡ s
    pub room : colon + 1 ≤ stop
    pub texts : s ≤ from
    pub text_room : from ≤ tail
    pub place : colon + 1 ≡ place_of image t r (suc (length p.before))
    pub behind : Laid image t base stop tail (colon + 1) (from + 1) p.after

  pub found : (p : Prefix) → split_colon mid ≡ some p → colon ≡ place_of image t r (length p.before) → Found p
  unfolding Laid
  found p e q =
      let c = colon_parts mid p e in
      let sp = laid_split image t base stop tail r s p.before (c.sign ∷ p.after) (subst (Laid image t base stop tail r s) c.parts h) in
      let a : Laid image t base stop tail colon sp.from (c.sign ∷ p.after) =
      subst (λ x. Laid image t base stop tail x sp.from (c.sign ∷ p.after)) (sym q) sp.after in
      let b : Laid image t base colon sp.from r s p.before = subst (λ x. Laid image t base x sp.from r s p.before) (sym q) sp.before in
      let o = laid_order image t base colon sp.from r s p.before b in
      let m = laid_order image t base stop tail colon sp.from (c.sign ∷ p.after) a in
      let g : is_group c.sign ≡ false = not_group (is_group c.sign) _ c.token in
      let k : skip_in image t colon ≡ 1 = a.0.single g in
      let n : length c.sign.part.bytes ≡ 1 = one_byte c.sign.part.bytes ((and_iff (not (is_group c.sign)) _).0 c.token).1 in
      let rm = a.0.room in
      let f = laid_first image t base stop tail r s mid (omega (arith, o.0, rm)) h in
      record {
        from = sp.from;
        before = b;
        start_is = a.0.start;
        first_is = f.stands.start;
        room = rm;
        texts = o.1;
        text_room = m.1;
        place = sym (place_suc image t r (length p.before) ∙ ap (λ x. x + skip_in image t x) (sym q) ∙ ap (λ x. colon + x) k);
        behind = subst (λ x. Laid image t base stop tail (colon + x) (sp.from + 1) p.after) k
            (subst (λ x. Laid image t base stop tail (colon + skip_in image t colon) (sp.from + x) p.after) n a.1);
      }

  -- what is asked to read it, where the run lies within the image
  pub colon_fits : (p : Prefix) → split_colon mid ≡ some p → colon ≡ place_of image t r (length p.before)
      → t.records + 12 * stop ≤ length image → t.text + tail ≤ length image → length image < 2 ^ 31 → ColonFits image t r colon stop
  colon_fits p q z f tf sm =
      let d = found p q z in
      let rm = d.room in
      let a = place_above image t r (length p.before) in
      let si = d.start_is in
      let fi = d.first_is in
      let tx = d.texts in
      let tr = d.text_room in
      record {
        order = omega (arith, z, a);
        last = omega (arith, rm);
        first = record { room = omega (arith, rm, f, a, z); small = sm };
        sign = record { room = omega (arith, rm, f); small = sm };
        texts = omega (arith, si, fi, tx);
        fits = omega (arith, si, tr, tf);
        few = omega (arith, f, sm);
      }

-- the place of a colon that is found
place_some : (image : List ℕ) (t : Tree) (r colon : ℕ) (p : Option Prefix) → Some (record { 0 = colon }) ≡ colon_place image t r p
    → (q : Prefix) × (p ≡ some q) × (colon ≡ place_of image t r (length q.before))
place_some image t r colon none e = let z : ◌≡◌ {A = ℕ} 0 1 = cc in absurd (omega (arith, z))
place_some image t r colon (some q) e = (q, refl, ap at e)
  where
    at : Std.Option PBind → ℕ
    at None = 0
    at (Some c) = c.0

module _ (image : List ℕ) (t : Tree) (base stop tail r s : ℕ) (mid : List Item) (h : Laid image t base stop tail r s mid) where
  pub colon_at : (colon : Std.Option PBind) → colon ≡ colon_place image t r (split_colon mid)
      → t.records + 12 * stop ≤ length image → t.text + tail ≤ length image → length image < 2 ^ 31 → ColonAt image t r colon stop
  colon_at None e f tf sm = tt
  colon_at (Some c) e f tf sm =
      let (p, q, z) = place_some image t r c.0 (split_colon mid) e in
      colon_fits image t base stop tail r s c.0 mid h p q z f tf sm

  module _ (k : ℕ) where
    abbrev Reads : Std.Result (Std.Option Start) Refusal → Type 0
    Reads q = PrefixReads image t base k r (split_colon mid) q

    module _ (colon : ℕ) (e : Some (record { 0 = colon }) ≡ colon_place image t r (split_colon mid)) where
      pub value_refused : colon + 1 ≡ stop → (n : Refusal) → n ≡ record { number = 10; concatenation = 0; component = k } → Reads (Err n)
      value_refused z n en =
          let (p, q, w) = place_some image t r colon (split_colon mid) e in
          let d = found image t base stop tail r s colon mid h p q w in
          let a = (laid_none image t base stop tail (colon + 1) (d.from + 1) p.after (omega (arith, z)) d.behind).0 in
          subst (λ o. PrefixReads image t base k r o (Err n)) (sym q) (rw en (record { is = rw a refl; held = tt }))

      pub value_some : ColonFits image t r colon stop → (colon + 1 ≡ stop → ⊥) → (x y : ℕ) (u : Part) → x ≡ start_in image t r → y ≡ start_in image t colon
          → u ≡ part_by x y → Reads (Ok (Some (record { after = record { 0 = colon + 1 }; s = u })))
      value_some at z x y u ex ey eu =
          let (p, q, w) = place_some image t r colon (split_colon mid) e in
          let d = found image t base stop tail r s colon mid h p q w in
          let rm = d.room in
          let l = laid_first image t base stop tail (colon + 1) (d.from + 1) p.after (below (colon + 1) stop rm z) d.behind in
          let ux : u ≡ part_by s d.from = eu ∙ ap (λ v. part_by v y) (ex ∙ d.first_is) ∙ ap (part_by s) (ey ∙ d.start_is) in
          let fit = at.fits in
          let si = d.start_is in
          subst (λ o. PrefixReads image t base k r o (Ok (Some (record { after = record { 0 = colon + 1 }; s = u })))) (sym q)
          (rw ux (record {
            is = some_value image t base k colon p l.item l.rest (part_by s d.from) l.parts
                (sym (laid_part image t base colon d.from r s p.before d.before));
            held = (d.place, laid_fits image t base colon d.from r s p.before d.before (omega (arith, fit, si)));
          }))

-- ---- a run: its items before a range in brackets

module _ (image : List ℕ) (t : Tree) (run : Run) (last : ℕ) (before : Run) (b : before ≡ before_by image t run last) where
  bracket : eqb (kind_in image t last) 3 ≡ true → before ≡ record { r = run.r; stop = record { 0 = last }; «end» = record { 0 = start_in image t last } }
  bracket e = b ∙ rw e refl

  plain : eqb (kind_in image t last) 3 ≡ false → before ≡ run
  plain e = b ∙ rw e refl

  -- it begins where the run does
  pub begins : before.r.0 ≡ run.r.0
  begins = by_test (eqb (kind_in image t last) 3) (λ e. rw (bracket e) refl) (λ e. rw (plain e) refl)

  pub mid_laid : (base s : ℕ) (is : List Item) → LastAt image t run.stop.0 run.«end».0 run.r.0 last base s is
      → Laid image t base run.stop.0 run.«end».0 run.r.0 s is → Laid image t base before.stop.0 before.«end».0 before.r.0 s (split_range is).mid
  mid_laid base s is a h =
      by_test (eqb (kind_in image t last) 3)
      (λ e.
      let n : a.item.kind ≡ 3 = sym a.stands.kind ∙ eqb-true _ _ e in
      let m : a.mid ≡ (split_range is).mid = sym (ap (λ l. (split_range l).mid) a.parts ∙ ap (λ (x : Split). x.mid) (range_last a.mid a.item n)) in
      rw (bracket e) (subst (λ x. Laid image t base last x run.r.0 s (split_range is).mid) (sym a.stands.start) (subst (Laid image t base last a.from run.r.0 s) m a.before)))
      (λ e.
      let n : a.item.kind ≡ 3 → ⊥ = λ z. eqb-false _ _ e (a.stands.kind ∙ z) in
      let m : is ≡ (split_range is).mid =
      sym (ap (λ l. (split_range l).mid) a.parts ∙ ap (λ (x : Split). x.mid) (range_none a.mid a.item n) ∙ sym a.parts) in
      rw (plain e) (subst (Laid image t base run.stop.0 run.«end».0 run.r.0 s) m h))

  -- which lies within the image, too
  pub mid_runs : (s : ℕ) (w : Runs image t run.stop.0 run.«end».0 run.r.0 s) → LastAt image t run.stop.0 run.«end».0 run.r.0 last w.base s w.items
      → Runs image t before.stop.0 before.«end».0 before.r.0 s
  mid_runs s w a =
      let (x, y) = within in
      runs_within w.base (split_range w.items).mid w x y (mid_laid w.base s w.items a w.laid)
    where
      within : (before.stop.0 ≤ run.stop.0) × (before.«end».0 ≤ run.«end».0)
      within =
          let si = a.stands.start in
          let ti = a.tail_is in
          let rm = a.stands.room in
          by_test (eqb (kind_in image t last) 3) (λ e. rw (bracket e) (omega (arith, rm), omega (arith, si, ti))) (λ e. rw (plain e) (omega arith, omega arith))
