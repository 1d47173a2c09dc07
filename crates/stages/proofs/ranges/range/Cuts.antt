-- Both sides of a range's dots stand in the table, and give the range.
use Rattle.std.specs.Prelude as Std
use Rattle.std.specs.Prelude.{Some, None, Ok, Err, ◌∷◌}
use Rattle.errors.specs.declared.reasons.Reason.TheVariants as Reasons
use Rattle.errors.specs.declared.reasons.Reason.{Reason}
use Rattle.std.proofs.Common.{◌≡◌, ◌<◌, ◌≤◌, sym, refl, ap, ◌∙◌, subst, arith, length-drop, take-append-drop, length-take-le}
use Rattle.definition.specs.Prelude.{ℕ, Bool, Option, some, List, [], take, drop, length}
use Rattle.definition.specs.Basics.{Result, ok, ◌>>=◌}
use Rattle.definition.specs.Text.{Item}
use Rattle.definition.specs.Ranges as Ranges
use Rattle.definition.specs.Ranges.{parse_start, parse_end, parse_range}
use Rattle.stages.specs.token_tree.Laid.{Laid, Runs, place_of}
use Rattle.stages.specs.token_tree.Table.{start_in}
use Rattle.stages.specs.ranges.Values.{usb_of, UsbReads, EndReads, RangeReads}
use Rattle.stages.specs.ranges.Dots.{dots_in, ended_range, ranged_by, RangedIs, Found}
use Rattle.stages.specs.declared.token_tree.types.Tree.{Tree}
use Rattle.stages.specs.declared.token_tree.types.Run.{Run}
use Rattle.stages.specs.declared.ranges.scan.Cut.{Cut}
use Rattle.stages.specs.declared.ranges.types.Usb.{Usb}
use Rattle.stages.specs.declared.ranges.types.Usbr.{Usbr}
use Rattle.errors.specs.Reasoned.{reasoned}
use Rattle.stages.proofs.token_tree.Places.{laid_split, laid_order, laid_none, laid_some}
use Rattle.stages.proofs.token_tree.Walks.{runs_within}
use Rattle.stages.proofs.ranges.range.Dotted.{RangeCut, dots_refused, dots_none, dots_cut}

module _ (image : List ℕ) (t : Tree) (base stop tail : ℕ) where
  laid_length : (r s : ℕ) (l : List Item) → (r ≡ stop → ⊥) → Laid image t base stop tail r s l → 1 ≤ length l
  unfolding Laid
  laid_length r s [] z h = absurd (z h.0)
  laid_length r s (x ∷ l) z h = omega arith

  module _ (r s : ℕ) (is : List Item) (h : Laid image t base stop tail r s is) where
    -- cut at item n, which stands at a record
    pub record CutAt (n place : ℕ) : Type 0 where
      pub from : ℕ
      pub before : Laid image t base place from r s (take n is)
      pub after : Laid image t base stop tail place from (drop n is)

    pub cut_at : (n place : ℕ) → place ≡ place_of image t r n → n ≤ length is → CutAt n place
    cut_at n place e l =
        let p = laid_split image t base stop tail r s (take n is) (drop n is) (subst (Laid image t base stop tail r s) (sym (take-append-drop n is)) h) in
        let q : place_of image t r (length (take n is)) ≡ place = ap (place_of image t r) (length-take-le n is l) ∙ sym e in
        record {
          from = p.from;
          before = subst (λ x. Laid image t base x p.from r s (take n is)) q p.before;
          after = subst (λ x. Laid image t base stop tail x p.from (drop n is)) q p.after;
        }

    -- the item there
    pub cut_start : (n place : ℕ) → n < length is → (c : CutAt n place) → (start_in image t place ≡ c.from) × (place < stop)
    cut_start n place l c =
        let k = length-drop n is in
        laid_some image t base stop tail place c.from (drop n is) (omega (arith, k, l)) c.after

    cut_before : (n place : ℕ) → place ≡ place_of image t r n → n < length is → Laid image t base place (start_in image t place) r s (take n is)
    cut_before n place e l =
        let c = cut_at n place e (omega (arith, l)) in
        subst (λ x. Laid image t base place x r s (take n is)) (sym (cut_start n place l c).0) c.before

    module _ (lo hi plo phi : ℕ) (inc : Bool) (el : plo ≡ place_of image t r lo) (eh : phi ≡ place_of image t r hi) (most : hi ≤ length is)
        (below : lo < length is) where
      -- the start's answer, of the items before the dots, and the end's, of those behind
      abbrev Started : Std.Result Usb Reason → Type 0
      Started q = (base s : ℕ) (l : List Item) → Laid image t base plo (start_in image t plo) r s l → UsbReads image t base q (parse_start l)

      abbrev Ended : Std.Result (Std.Option Usb) Reason → Type 0
      Ended q = (base s : ℕ) (l : List Item) → Laid image t base stop tail phi s l → EndReads image t base q (parse_end inc l)

      first : (q : Std.Result Usb Reason) → Started q → UsbReads image t base q (parse_start (take lo is))
      first q f = f base s (take lo is) (cut_before lo plo el below)

      second : (q : Std.Result (Std.Option Usb) Reason) → Ended q → EndReads image t base q (parse_end inc (drop hi is))
      second q f = let c = cut_at hi phi eh most in f base c.from (drop hi is) c.after

      pub start_refused : (n : Reason) → Started (Err n) → RangeReads image t base (Err n) (ranged_by lo hi inc is)
      start_refused n f =
          record { is = ap (λ (m : Result Ranges.Usb). m >>= λ x. ended_range inc x (drop hi is)) (first (Err n) f).is; held = tt }

      module _ (u : Usb) (f : Started (Ok u)) where
        ended : ended_range inc (usb_of image t base u) (drop hi is) ≡ ranged_by lo hi inc is
        ended = ap (λ (m : Result Ranges.Usb). m >>= λ x. ended_range inc x (drop hi is)) (first (Ok u) f).is

        abbrev finished : Result (Option Ranges.Usb) → Result (Option Ranges.Usbr)
        finished m = m >>= λ e. ok (some (record { start = usb_of image t base u; «end» = e }))

        pub end_refused : (n : Reason) → Ended (Err n) → RangeReads image t base (Err n) (ranged_by lo hi inc is)
        end_refused n g = record { is = ap finished (second (Err n) g).is ∙ ended; held = tt }

        pub ranged_ok : (e : Std.Option Usb) → Ended (Ok e)
            → RangeReads image t base (Ok (Some (record { start = u; «end» = e }))) (ranged_by lo hi inc is)
        ranged_ok e g =
            record {
              is = ap finished (second (Ok e) g).is ∙ ended;
              held = record { start = (first (Ok u) f).held; «end» = (second (Ok e) g).held };
            }

    -- ---- the ways through parse_range

    pub range_empty : r ≡ stop → RangeReads image t base (Err Reasons.EmptyRange) (parse_range is)
    unfolding parse_range
    range_empty e =
        let n = (laid_none image t base stop tail r s is (omega (arith, e)) h).0 in
        let g : RangeReads image t base (Err Reasons.EmptyRange) (parse_range []) = record { is = refl; held = tt } in
        rw n g

    module _ (more : r ≡ stop → ⊥) where
      pub range_refused : (n : Reason) → reasoned {A = Std.Option Cut} (Err n) ≡ dots_in image t r is → RangeReads image t base (Err n) (parse_range is)
      range_refused n e = record { is = dots_refused image t r is (laid_length r s is more h) n e; held = tt }

      pub range_none : ok None ≡ dots_in image t r is → RangeReads image t base (Ok None) (parse_range is)
      range_none e = record { is = dots_none image t r is (laid_length r s is more h) e; held = tt }

      range_cut : (d : Cut) → ok (Some d) ≡ dots_in image t r is → RangeCut image t r is (laid_length r s is more h) d
      range_cut d e = dots_cut image t r is (laid_length r s is more h) d e

module _ (image : List ℕ) (t : Tree) (run : Run) (d : Cut) (more : run.r.0 ≡ run.stop.0 → ⊥) where
  pub range_ranged : (base s : ℕ) (is : List Item) (q : Std.Result (Std.Option Usbr) Reason) → Laid image t base run.stop.0 run.«end».0 run.r.0 s is
      → ok (Some d) ≡ dots_in image t run.r.0 is → RangedIs image t run d q → RangeReads image t base q (parse_range is)
  range_ranged base s is q h eq f =
      let c = range_cut image t base run.stop.0 run.«end».0 run.r.0 s is h more d eq in
      let b = c.between in
      subst (λ m. RangeReads image t base q m) (sym c.result)
      (f base s c.places.0 c.places.1 is h c.lo c.hi b.order b.most b.below)

  -- what `ranged` asks
  pub range_found : (s : ℕ) (h : Runs image t run.stop.0 run.«end».0 run.r.0 s) → ok (Some d) ≡ dots_in image t run.r.0 h.items → Found image t run d
  range_found s h eq =
      let c = range_cut image t h.base run.stop.0 run.«end».0 run.r.0 s h.items h.laid more d eq in
      let b = c.between in
      let x = cut_at image t h.base run.stop.0 run.«end».0 run.r.0 s h.items h.laid c.places.0 d.lo.0 c.lo
      (let z = b.below in omega (arith, z)) in
      let y = cut_at image t h.base run.stop.0 run.«end».0 run.r.0 s h.items h.laid c.places.1 d.hi.0 c.hi b.most in
      let f = cut_start image t h.base run.stop.0 run.«end».0 run.r.0 s h.items h.laid c.places.0 d.lo.0 b.below x in
      let o = laid_order image t h.base run.stop.0 run.«end».0 d.lo.0 x.from (drop c.places.0 h.items) x.after in
      let e = f.0 in
      record {
        at_lo = record { room = omega (arith, f.1, h.fits); small = h.small };
        s_before = s;
        before =
            runs_within h.base (take c.places.0 h.items) h (omega (arith, f.1)) (omega (arith, e, o.1))
            (subst (λ v. Laid image t h.base d.lo.0 v run.r.0 s (take c.places.0 h.items)) (sym e) x.before);
        s_after = y.from;
        after = runs_within h.base (drop c.places.1 h.items) h (omega arith) (omega arith) y.after;
      }
