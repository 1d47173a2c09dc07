-- The last item of a run, found by stepping from item to item.
use Rattle.std.specs.Ordering.{is_lt, nat_cmp}
use Rattle.std.specs.Prelude.{◌+◌, ◌∷◌}
use Rattle.std.proofs.Common.{◌≡◌, ◌<◌, ◌≤◌, sym, refl, ap, ◌∙◌, subst, arith}
use Rattle.definition.specs.Prelude.{ℕ, true, List, length}
use Rattle.definition.specs.Text.{Item}
use Rattle.stages.specs.token_tree.Laid.{Laid, Runs, place_of}
use Rattle.stages.specs.token_tree.Table.{skip_in, start_or}
use Rattle.stages.specs.declared.token_tree.types.Tree.{Tree}
use Rattle.stages.proofs.token_tree.Places.{laid_first, laid_none}
use Rattle.stages.proofs.token_tree.Walks.{runs_next}

-- what `<` of two records says
pub before : (x y : ℕ) → true ≡ is_lt (nat_cmp x y) → x < y
before x y e = grind (arith, e)

module _ (image : List ℕ) (t : Tree) (stop : ℕ) where
  -- item p of a run, counted from a place within it
  pub record Found (base tail at p : ℕ) : Type 0 where
    pub s : ℕ
    pub item : Item
    pub rest : List Item
    pub laid : Laid image t base stop tail at s (item ∷ rest)
    pub place : p ≡ place_of image t at (length rest)

  -- `next` is behind the item at `at`, and the last item is that one or stands behind it
  pub record Last (r at next : ℕ) : Type 0 where
    pub tail : ℕ
    pub s : ℕ
    pub runs : Runs image t stop tail next s
    pub step : next ≡ at + skip_in image t at
    pub found : (base tail s : ℕ) (i : Item) (is : List Item) → Laid image t base stop tail r s (i ∷ is) → Found base tail at (place_of image t r (length is))

  pub last_first : (tail r s next : ℕ) → Runs image t stop tail r s → r < stop → next ≡ r + skip_in image t r → Last r r next
  last_first tail r s next h l e =
      let n = runs_next image t stop tail r s next (start_or image t next stop tail) h l e refl in
      record {
        tail = tail;
        s = start_or image t next stop tail;
        runs = n.runs;
        step = e;
        found = λ base tail s i is h. record { s = s; item = i; rest = is; laid = h; place = refl };
      }

  found_next : (base tail at next p : ℕ) → next ≡ at + skip_in image t at → next < stop → Found base tail at p → Found base tail next p
  unfolding Laid place_of
  found_next base tail at next p e l f =
      let u : ℕ = f.s + length f.item.part.bytes in
      let h : Laid image t base stop tail next u f.rest = subst (λ x. Laid image t base stop tail x u f.rest) (sym e) f.laid.1 in
      let g = laid_first image t base stop tail next u f.rest l h in
      record {
        s = u;
        item = g.item;
        rest = g.rest;
        laid = subst (λ is. Laid image t base stop tail next u is) g.parts h;
        place = f.place ∙ ap (λ is. place_of image t at (length is)) g.parts ∙ ap (λ x. place_of image t x (length g.rest)) (sym e);
      }

  pub last_again : (r at next after : ℕ) → Last r at next → next < stop → after ≡ next + skip_in image t next → Last r next after × (next < after)
  last_again r at next after h l e =
      let n = runs_next image t stop h.tail next h.s after (start_or image t after stop h.tail) h.runs l e refl in (
        record {
          tail = h.tail;
          s = start_or image t after stop h.tail;
          runs = n.runs;
          step = e;
          found = λ base tail s i is g. found_next base tail at next (place_of image t r (length is)) h.step l (h.found base tail s i is g);
        },
        n.order,
      )

  found_last : (base tail at next p : ℕ) → next ≡ at + skip_in image t at → stop ≤ next → Found base tail at p → at ≡ p
  unfolding Laid place_of
  found_last base tail at next p e l f =
      let u : ℕ = f.s + length f.item.part.bytes in
      let h : Laid image t base stop tail next u f.rest = subst (λ x. Laid image t base stop tail x u f.rest) (sym e) f.laid.1 in
      sym (f.place ∙ ap (λ (is : List Item). place_of image t at (length is)) (laid_none image t base stop tail next u f.rest l h).0)

  pub last_place : (r at next : ℕ) → Last r at next → stop ≤ next → (base tail s : ℕ) (i : Item) (is : List Item)
      → Laid image t base stop tail r s (i ∷ is) → at ≡ place_of image t r (length is)
  last_place r at next h l base tail s i is g =
      found_last base tail at next (place_of image t r (length is)) h.step l (h.found base tail s i is g)
