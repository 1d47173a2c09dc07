-- Places of items, and a run cut at one.
use Rattle.std.specs.Prelude.{◌+◌, ◌-◌, ◌&&◌, ◌∷◌, ◌++◌}
use mathlib.Core.Bool.{and-true, and-false}
use Rattle.std.proofs.Common.{◌≡◌, ◌<◌, ◌≤◌, sym, refl, ap, ◌∙◌, subst, add-zero, arith, get_or-drop, eq-eqb, ne_eqb}
use Rattle.definition.specs.Prelude.{ℕ, zero, suc, Bool, true, false, not, List, [], length, get_or, drop, eqb}
use Rattle.definition.specs.Basics.{same_bytes}
use Rattle.definition.specs.Image.{bytes_at, padded}
use Rattle.definition.specs.Text.{Item, is_group, is_token}
use Rattle.stages.specs.token_tree.Laid.{Stands, Laid, place_of}
use Rattle.stages.specs.declared.token_tree.types.Tree.{Tree}
use Rattle.stages.specs.token_tree.Table.{start_in, skip_in, single_of, start_or}

pub place_above : (image : List ℕ) (t : Tree) (e n : ℕ) → e ≤ place_of image t e n
unfolding place_of
place_above image t e zero = omega arith
place_above image t e (suc n) = let h = place_above image t (e + skip_in image t e) n in omega arith

pub place_first : (image : List ℕ) (t : Tree) (e : ℕ) → place_of image t e 0 ≡ e
unfolding place_of
place_first image t e = refl

pub place_suc : (image : List ℕ) (t : Tree) (e n : ℕ) → place_of image t e (suc n) ≡ place_of image t e n + skip_in image t (place_of image t e n)
unfolding place_of
place_suc image t e zero = refl
place_suc image t e (suc n) = place_suc image t (e + skip_in image t e) n

first_byte : (l : List ℕ) (b : ℕ) → padded 1 l ≡ b ∷ [] → get_or l 0 0 ≡ b
unfolding padded
first_byte [] b e = cc e
first_byte (x ∷ l) b e = cc e

long_byte : (image : List ℕ) (at n c : ℕ) → 0 < c → eqb (single_of image at (suc (suc n))) c ≡ false
long_byte image at n c pos =
    rw (ne_eqb (suc (suc n)) 1 (λ q. let z : ◌≡◌ {A = ℕ} (suc (suc n)) 1 = q in omega (arith, z)))
    (ne_eqb 0 c (λ q. let z : ◌≡◌ {A = ℕ} 0 c = q in omega (arith, z, pos)))

one_byte : (image : List ℕ) (at : ℕ) (bs : List ℕ) (g : Bool) (c : ℕ) → 0 < c → 1 ≤ length bs → bytes_at image at (length bs) ≡ bs → (g ≡ true → 2 ≤ length bs)
    → (not g && same_bytes bs (c ∷ [])) ≡ eqb (single_of image at (length bs)) c
unfolding same_bytes
one_byte image at [] g c pos l e two = absurd (omega (arith, l))
one_byte image at (b ∷ []) true c pos l e two = absurd (let k = two refl in omega (arith, k))
one_byte image at (b ∷ []) false c pos l e two =
    let f : get_or image at 0 ≡ b = rw (← add-zero at) (sym (get_or-drop at image 0 0) ∙ first_byte (drop at image) b e) in
    rw (f, and-true (eqb b c))
one_byte image at (b ∷ x ∷ bs) true c pos l e two = sym (long_byte image at (length bs) c pos)
one_byte image at (b ∷ x ∷ bs) false c pos l e two = rw (and-false (eqb b c)) (sym (long_byte image at (length bs) c pos))

module _ (image : List ℕ) (t : Tree) (base : ℕ) where
  -- a run ends behind its beginning
  pub laid_order : (stop tail e s : ℕ) (is : List Item) → Laid image t base stop tail e s is → (e ≤ stop) × (s ≤ tail)
  unfolding Laid
  laid_order stop tail e s [] h = (omega (arith, h.0), omega (arith, h.1))
  laid_order stop tail e s (i ∷ is) h =
      let o = laid_order stop tail (e + skip_in image t e) (s + length i.part.bytes) is h.1 in
      (omega (arith, o.0), omega (arith, o.1))

  pub record Split (stop tail e s : ℕ) (xs ys : List Item) : Type 0 where
    pub from : ℕ
    pub before : Laid image t base (place_of image t e (length xs)) from e s xs
    pub after : Laid image t base stop tail (place_of image t e (length xs)) from ys

  stands_before : (stop stop' e s : ℕ) (i : Item) → e + skip_in image t e ≤ stop' → Stands image t base stop e s i → Stands image t base stop' e s i
  stands_before stop stop' e s i l h =
      record {
        room = (let k = h.skip in omega (arith, k, l));
        kind = h.kind;
        start = h.start;
        skip = h.skip;
        at = h.at;
        some = h.some;
        bytes = h.bytes;
        word = h.word;
        single = h.single;
        group = h.group;
      }

  pub laid_split : (stop tail e s : ℕ) (xs ys : List Item) → Laid image t base stop tail e s (xs ++ ys) → Split stop tail e s xs ys
  unfolding Laid place_of
  laid_split stop tail e s [] ys h = record { from = s; before = (refl, refl); after = h }
  laid_split stop tail e s (i ∷ xs) ys h =
      let p = laid_split stop tail (e + skip_in image t e) (s + length i.part.bytes) xs ys h.1 in
      record {
        from = p.from;
        before = (stands_before stop (place_of image t (e + skip_in image t e) (length xs)) e s i (place_above image t (e + skip_in image t e) (length xs)) h.0, p.before);
        after = p.after;
      }

  -- a run with its place before `stop` has a first item, one at `stop` none
  pub record First (stop tail e s : ℕ) (is : List Item) : Type 0 where
    pub item : Item
    pub rest : List Item
    pub parts : is ≡ item ∷ rest
    pub stands : Stands image t base stop e s item
    pub laid : Laid image t base stop tail (e + skip_in image t e) (s + length item.part.bytes) rest

  pub laid_first : (stop tail e s : ℕ) (is : List Item) → e < stop → Laid image t base stop tail e s is → First stop tail e s is
  unfolding Laid
  laid_first stop tail e s [] l h = absurd (omega (arith, l, h.0))
  laid_first stop tail e s (i ∷ is) l h = record { item = i; rest = is; parts = refl; stands = h.0; laid = h.1 }

  pub laid_none : (stop tail e s : ℕ) (is : List Item) → stop ≤ e → Laid image t base stop tail e s is → (is ≡ []) × (e ≡ stop)
  unfolding Laid
  laid_none stop tail e s [] l h = (refl, h.0)
  laid_none stop tail e s (i ∷ is) l h = absurd (omega (arith, l, h.0.room))

  -- items need records
  pub laid_some : (stop tail e s : ℕ) (is : List Item) → 1 ≤ length is → Laid image t base stop tail e s is → (start_in image t e ≡ s) × (e < stop)
  unfolding Laid
  laid_some stop tail e s [] l h = absurd (omega (arith, l))
  laid_some stop tail e s (i ∷ is) l h = let m = h.0.room in (h.0.start, omega (arith, m))

  -- where a run's text starts
  pub laid_start : (stop tail e s : ℕ) (is : List Item) → Laid image t base stop tail e s is → s ≡ start_or image t e stop tail
  unfolding Laid
  laid_start stop tail e s [] h = rw (eq-eqb e stop h.0) h.1
  laid_start stop tail e s (i ∷ is) h = rw (ne_eqb e stop (λ q. let z : ◌≡◌ {A = ℕ} e stop = q in omega (arith, z, h.0.room))) (sym h.0.start)

  -- a token, by its one byte
  pub token_by : (c e s stop u : ℕ) (i : Item) → 0 < c → Stands image t base stop e s i → u ≡ s + length i.part.bytes
      → is_token c i ≡ eqb (single_of image (t.text + s) (u - s)) c
  token_by c e s stop u i pos h q =
      let d : u - s ≡ length i.part.bytes = omega (arith, q) in
      rw d (one_byte image (t.text + s) i.part.bytes (is_group i) c pos h.some h.bytes (λ g. (h.group g).long))

  -- the item at `at`, and the run behind it
  pub record Step (stop tail at s next u : ℕ) (is : List Item) : Type 0 where
    pub item : Item
    pub rest : List Item
    pub parts : is ≡ item ∷ rest
    pub stands : Stands image t base stop at s item
    pub laid : Laid image t base stop tail next u rest
    pub ends : u ≡ s + length item.part.bytes
    pub token : (c b : ℕ) → 0 < c → b ≡ single_of image (t.text + s) (u - s) → is_token c item ≡ eqb b c

  pub laid_next : (stop tail at s next u : ℕ) (is : List Item) → at < stop → next ≡ at + skip_in image t at → u ≡ start_or image t next stop tail
      → Laid image t base stop tail at s is → Step stop tail at s next u is
  laid_next stop tail at s next u is l en et h =
      let f = laid_first stop tail at s is l h in
      let v : ℕ = s + length f.item.part.bytes in
      let ld : Laid image t base stop tail next v f.rest = subst (λ x. Laid image t base stop tail x v f.rest) (sym en) f.laid in
      let ts : u ≡ v = et ∙ sym (laid_start stop tail next v f.rest ld) in
      record {
        item = f.item;
        rest = f.rest;
        parts = f.parts;
        stands = f.stands;
        laid = subst (λ x. Laid image t base stop tail next x f.rest) (sym ts) ld;
        ends = ts;
        token = λ c b pos eb. token_by c at s stop u f.item pos f.stands ts ∙ ap (λ x. eqb x c) (sym eb);
      }

  pub laid_from : (stop tail e s u : ℕ) (is : List Item) → u ≡ start_or image t e stop tail → Laid image t base stop tail e s is
      → Laid image t base stop tail e u is
  laid_from stop tail e s u is q h = subst (λ x. Laid image t base stop tail e x is) (laid_start stop tail e s is h ∙ sym q) h
