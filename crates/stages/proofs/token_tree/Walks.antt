-- A run that is walked item by item stays within the image.
use Rattle.std.specs.Prelude.{◌+◌, ◌^◌}
use Rattle.std.proofs.Common.{◌≡◌, ◌<◌, ◌≤◌, sym, refl, ◌∙◌, subst, arith}
use Rattle.definition.specs.Prelude.{ℕ, List}
use Rattle.definition.specs.Text.{Item}
use Rattle.stages.specs.token_tree.Laid.{Laid, Runs}
use Rattle.stages.specs.declared.token_tree.types.Tree.{Tree}
use Rattle.stages.specs.token_tree.Table.{skip_in, start_or, RecordFits}
use Rattle.stages.proofs.token_tree.Places.{laid_order, laid_start, laid_next}

-- a run whose end is no further is within the image, too
pub runs_within : {image : List ℕ} {t : Tree} {stop tail r s stop' tail' r' s' : ℕ} (base : ℕ) (is : List Item) → Runs image t stop tail r s
    → stop' ≤ stop → tail' ≤ tail → Laid image t base stop' tail' r' s' is → Runs image t stop' tail' r' s'
runs_within base is h a b l =
    let f = h.fits in
    let g = h.text_fits in
    let k = h.text_small in
    record {
      base = base;
      items = is;
      laid = l;
      fits = omega (arith, f, a);
      text_fits = omega (arith, g, b);
      small = h.small;
      text_small = omega (arith, k, b);
    }

module _ (image : List ℕ) (t : Tree) (stop tail : ℕ) where
  pub runs_start : (e s u : ℕ) → Runs image t stop tail e s → u ≡ start_or image t e stop tail → Runs image t stop tail e u
  runs_start e s u r q =
      let k : s ≡ u = laid_start image t r.base stop tail e s r.items r.laid ∙ sym q in
      subst (λ x. Runs image t stop tail e x) k r

  pub runs_order : (e s : ℕ) → Runs image t stop tail e s → (e ≤ stop) × (s ≤ tail)
  runs_order e s r = laid_order image t r.base stop tail e s r.items r.laid

  -- the facts of the next item
  pub record Next (e s next u : ℕ) : Type 0 where
    pub runs : Runs image t stop tail next u
    pub order : e < next
    pub stop_order : next ≤ stop
    pub text_order : s ≤ u
    pub text_fits : u ≤ tail

  pub runs_next : (e s next u : ℕ) → Runs image t stop tail e s → e < stop → next ≡ e + skip_in image t e → u ≡ start_or image t next stop tail → Next e s next u
  runs_next e s next u r l en et =
      let f = laid_next image t r.base stop tail e s next u r.items l en et r.laid in
      let o = laid_order image t r.base stop tail next u f.rest f.laid in
      let sk = f.stands.skip in
      let ts = f.ends in
      record {
        runs = runs_within r.base f.rest r (omega arith) (omega arith) f.laid;
        order = omega (arith, en, sk);
        stop_order = o.0;
        text_order = omega (arith, ts);
        text_fits = o.1;
      }

  -- what is asked to read an item's record, and to step behind it
  pub record_fits : (r s : ℕ) → Runs image t stop tail r s → r < stop → RecordFits image t r × (r + skip_in image t r < 2 ^ 32)
  record_fits r s h l =
      let n = runs_next r s (r + skip_in image t r) (start_or image t (r + skip_in image t r) stop tail) h l refl refl in
      let o = n.stop_order in
      let f = h.fits in
      let b = h.small in
      (record { room = omega (arith, l, f); small = b }, omega (arith, o, f, b))

  pub runs_some : (e s : ℕ) → (e ≡ stop → ⊥) → Runs image t stop tail e s → e < stop
  runs_some e s z h = let o = (runs_order e s h).0 in omega (arith, o, z)
