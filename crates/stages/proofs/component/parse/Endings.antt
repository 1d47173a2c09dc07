-- The last item of a run: a range in brackets, or none.
use Rattle.std.specs.Prelude as Std
use Rattle.std.specs.Prelude.{None, Ok, ◌+◌, ◌-◌, ◌^◌, ◌∷◌, ◌++◌}
use Rattle.std.proofs.Common.{◌≡◌, ◌<◌, ◌≤◌, sym, refl, ap, ◌∙◌, subst, arith, eq-eqb, ne_eqb}
use Rattle.definition.specs.Prelude.{ℕ, true, none, some, List, [], length}
use Rattle.definition.specs.Image.{opens}
use Rattle.definition.specs.Text.{Item, items, is_group}
use Rattle.definition.specs.Ranges.{parse_range}
use Rattle.definition.specs.Component.{split_range}
use Rattle.stages.specs.token_tree.Table.{kind_in, start_in, skip_in, RecordFits}
use Rattle.stages.specs.token_tree.Laid.{Stands, Laid, Runs, place_of}
use Rattle.stages.specs.ranges.Values.{RangeReads}
use Rattle.stages.specs.component.Parse.{Ended}
use Rattle.stages.specs.declared.token_tree.types.Tree.{Tree}
use Rattle.stages.specs.declared.token_tree.types.Run.{Run}
use Rattle.stages.specs.declared.ranges.types.Usbr.{Usbr}
use Rattle.errors.specs.declared.reasons.Reason.{Reason}
use Rattle.stages.proofs.Lists.{ends}
use Rattle.stages.proofs.token_tree.Places.{place_above, laid_order, laid_first, laid_split}
use Rattle.stages.proofs.token_tree.Insides.{last_inside}
use Rattle.stages.proofs.token_tree.Walks.{runs_within}

-- ---- the definition by the last item

pub range_last : (l : List Item) (i : Item) → i.kind ≡ 3 → split_range (l ++ (i ∷ [])) ≡ record { mid = l; range = some (items i.inside_at i.inside) }
unfolding split_range
range_last [] i h = rw (eq-eqb i.kind 3 h) refl
range_last (j ∷ []) i h = rw (eq-eqb i.kind 3 h) refl
range_last (j ∷ k ∷ l) i h = ap (λ s. record { mid = j ∷ s.mid; range = s.range }) (range_last (k ∷ l) i h)

pub range_none : (l : List Item) (i : Item) → (i.kind ≡ 3 → ⊥) → split_range (l ++ (i ∷ [])) ≡ record { mid = l ++ (i ∷ []); range = none }
unfolding split_range
range_none [] i h = rw (ne_eqb i.kind 3 h) refl
range_none (j ∷ []) i h = rw (ne_eqb i.kind 3 h) refl
range_none (j ∷ k ∷ l) i h = ap (λ s. record { mid = j ∷ s.mid; range = s.range }) (range_none (k ∷ l) i h)

-- ---- the last item of a run

module _ (image : List ℕ) (t : Tree) (stop tail r last : ℕ) where
  pub record LastAt (base s : ℕ) (is : List Item) : Type 0 where
    pub mid : List Item
    pub item : Item
    pub from : ℕ
    pub parts : is ≡ mid ++ (item ∷ [])
    pub place : last ≡ place_of image t r (length mid)
    pub before : Laid image t base last from r s mid
    pub stands : Stands image t base stop last from item
    pub stop_is : last + skip_in image t last ≡ stop
    pub tail_is : from + length item.part.bytes ≡ tail

  last_of : (base s : ℕ) (is mid : List Item) (item : Item) → is ≡ mid ++ (item ∷ []) → last ≡ place_of image t r (length mid)
      → Laid image t base stop tail r s (mid ++ (item ∷ [])) → LastAt base s is
  unfolding Laid
  last_of base s is mid item e p h =
      let sp = laid_split image t base stop tail r s mid (item ∷ []) h in
      let a : Laid image t base stop tail last sp.from (item ∷ []) = subst (λ x. Laid image t base stop tail x sp.from (item ∷ [])) (sym p) sp.after in
      record {
        mid = mid;
        item = item;
        from = sp.from;
        parts = e;
        place = p;
        before = subst (λ x. Laid image t base x sp.from r s mid) (sym p) sp.before;
        stands = a.0;
        stop_is = a.1.0;
        tail_is = a.1.1;
      }

  pub last_at : r < stop → ((base s : ℕ) (i : Item) (is : List Item) → Laid image t base stop tail r s (i ∷ is) → last ≡ place_of image t r (length is))
      → (base s : ℕ) (is : List Item) → Laid image t base stop tail r s is → LastAt base s is
  last_at l f base s is h =
      let g = laid_first image t base stop tail r s is l h in
      let e = ends g.item g.rest in
      let a : is ≡ e.mid ++ (e.item ∷ []) = g.parts ∙ e.parts in
      let p : last ≡ place_of image t r (length e.mid) =
      f base s g.item g.rest (subst (Laid image t base stop tail r s) g.parts h) ∙ ap (place_of image t r) e.long in
      last_of base s is e.mid e.item a p (subst (Laid image t base stop tail r s) a h)

  -- its record can be read
  pub last_fits : (s : ℕ) (h : Runs image t stop tail r s) → LastAt h.base s h.items → RecordFits image t last
  last_fits s h a = let k = a.stands.room in let f = h.fits in record { room = omega (arith, k, f); small = h.small }

  module _ (base s : ℕ) (is : List Item) (a : LastAt base s is) where
    pub last_kind : (k : ℕ) → k ≡ kind_in image t last → k ≡ a.item.kind
    last_kind k e = e ∙ a.stands.kind

    -- nothing stands before it
    pub last_first : last ≡ r → a.mid ≡ []
    unfolding Laid place_of
    last_first e = go a.mid a.place a.before
      where
        go : (mid : List Item) → last ≡ place_of image t r (length mid) → Laid image t base last a.from r s mid → mid ≡ []
        go [] p h = refl
        go (i ∷ mid) p h =
            let k = h.0.skip in
            let o = place_above image t (r + skip_in image t r) (length mid) in
            absurd (omega (arith, k, o, p, e))

    pub last_some : (last ≡ r → ⊥) → 1 ≤ length a.mid
    unfolding place_of
    last_some e = go a.mid a.place
      where
        go : (mid : List Item) → last ≡ place_of image t r (length mid) → 1 ≤ length mid
        go [] p = absurd (e p)
        go (i ∷ mid) p = omega arith

-- ---- a range in brackets, with items before it

module _ (image : List ℕ) (t : Tree) (run : Run) (last : ℕ) where
  pub ended_by : (base s : ℕ) (is : List Item) → Laid image t base run.stop.0 run.«end».0 run.r.0 s is
      → (a : LastAt image t run.stop.0 run.«end».0 run.r.0 last base s is) → a.item.kind ≡ 3 → 1 ≤ length a.mid
      → Ended image t run last base s a.mid a.item
  ended_by base s is h a k l =
      record { laid = subst (Laid image t base run.stop.0 run.«end».0 run.r.0 s) a.parts h; place = a.place; bracket = k; some = l }

  pub record Bracket (base s : ℕ) (mid : List Item) (i : Item) : Type 0 where
    pub from : ℕ
    pub before : Laid image t base last from run.r.0 s mid
    pub start_is : start_in image t last ≡ from
    pub first_is : start_in image t run.r.0 ≡ s
    pub order : run.r.0 < last
    pub text_order : s < from
    pub two : last + 2 ≤ run.stop.0
    pub text_two : from + 2 ≤ run.«end».0
    pub inside : Laid image t base (run.stop.0 - 1) (run.«end».0 - 1) (last + 1) (from + 1) (items i.inside_at i.inside)

  pub bracket_of : (base s : ℕ) (mid : List Item) (i : Item) → Ended image t run last base s mid i → Bracket base s mid i
  unfolding Laid last_of
  bracket_of base s mid i e =
      let a = last_of image t run.stop.0 run.«end».0 run.r.0 last base s (mid ++ (i ∷ [])) mid i refl e.place e.laid in
      let g : is_group i ≡ true = ap opens e.bracket in
      let n = a.stands.group g in
      let f = first mid e.some a.from a.before in
      let si = a.stop_is in
      let ti = a.tail_is in
      let two = n.two in
      let long = n.long in
      record {
        from = a.from;
        before = a.before;
        start_is = a.stands.start;
        first_is = f.0;
        order = f.1.0;
        text_order = f.1.1;
        two = omega (arith, si, two);
        text_two = omega (arith, ti, long);
        inside = last_inside image t base run.stop.0 run.«end».0 last a.from i a.stands g si ti;
      }
    where
      first : (mid : List Item) → 1 ≤ length mid → (from : ℕ) → Laid image t base last from run.r.0 s mid
          → (start_in image t run.r.0 ≡ s) × ((run.r.0 < last) × (s < from))
      first [] l from h = absurd (omega (arith, l))
      first (j ∷ mid) l from h =
          let o = laid_order image t base last from (run.r.0 + skip_in image t run.r.0) (s + length j.part.bytes) mid h.1 in
          let k = h.0.skip in
          let m = h.0.some in
          (h.0.start, (omega (arith, k, o.0), omega (arith, m, o.1)))

  -- what is asked where the run lies within the image
  module _ (u : ℕ) (w : Runs image t run.stop.0 run.«end».0 run.r.0 u) (base s : ℕ) (mid : List Item) (i : Item) (b : Bracket base s mid i) where
    pub first_fits : RecordFits image t run.r.0
    first_fits = let o = b.order in let k = b.two in let f = w.fits in record { room = omega (arith, o, k, f); small = w.small }

    pub bracket_fits : RecordFits image t last
    bracket_fits = let k = b.two in let f = w.fits in record { room = omega (arith, k, f); small = w.small }

    pub last_small : last + 1 < 2 ^ 32
    last_small = let k = b.two in let f = w.fits in let m = w.small in omega (arith, k, f, m)

    pub inside_runs : Runs image t (run.stop.0 - 1) (run.«end».0 - 1) (last + 1) (b.from + 1)
    inside_runs = runs_within base (items i.inside_at i.inside) w (omega arith) (omega arith) b.inside

    -- a range without dots is not empty
    pub single_fits : (q : Std.Result (Std.Option Usbr) Reason) → ((base s : ℕ) (is : List Item) → Laid image t base (run.stop.0 - 1) (run.«end».0 - 1) (last + 1) s is → RangeReads image t base q (parse_range is))
        → q ≡ Ok None → last + 1 < run.stop.0 - 1
    unfolding Laid parse_range
    single_fits q f e = go (items i.inside_at i.inside) b.inside (f base (b.from + 1) (items i.inside_at i.inside) b.inside)
      where
        go : (is : List Item) → Laid image t base (run.stop.0 - 1) (run.«end».0 - 1) (last + 1) (b.from + 1) is → RangeReads image t base q (parse_range is)
            → last + 1 < run.stop.0 - 1
        go [] h k = let k' : RangeReads image t base (Ok None) (parse_range []) = rw e at k in
            let z : ◌≡◌ {A = ℕ} 0 1 = (let x = k'.is in cc) in absurd (omega (arith, z))
        go (j ∷ is) h k = let m = h.0.room in omega (arith, m)

    -- the text before it
    pub typed_fits : (x y : ℕ) → x ≡ start_in image t run.r.0 → y ≡ start_in image t last → (x < y) × (t.text + y ≤ length image)
    typed_fits x y ex ey =
        let a = b.first_is in
        let c = b.start_is in
        let o = b.text_order in
        let k = b.text_two in
        let f = w.text_fits in
        (omega (arith, ex, ey, a, c, o), omega (arith, ey, c, k, f))

  pub typed_laid : (base s : ℕ) (mid : List Item) (i : Item) (b : Bracket base s mid i) (x y : ℕ) → x ≡ start_in image t run.r.0 → y ≡ start_in image t last
      → Laid image t base last y run.r.0 x mid
  typed_laid base s mid i b x y ex ey =
      subst (λ z. Laid image t base last y run.r.0 z mid) (sym (ex ∙ b.first_is))
      (subst (λ z. Laid image t base last z run.r.0 s mid) (sym (ey ∙ b.start_is)) b.before)
