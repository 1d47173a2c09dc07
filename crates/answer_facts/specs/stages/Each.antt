-- Stages 1 and 2 over lists and trees, by what they accept: each component is read for itself, told only whether it is the most
-- significant of concatenation 0. So a component can be put in another's place.
use Rattle.std.specs.Prelude.{◌≡◌, ◌&&◌, ◌∷◌, ◌++◌}
use Rattle.std.proofs.Math.Path.{refl}
use Rattle.std.proofs.Common.{sym, ap, ◌∙◌}
use Rattle.std.proofs.Math.Dec.{eqb-suc-zero}
use Rattle.definition.specs.Prelude.{ℕ, suc, Bool, true, false, List, [], length, eqb}
use Rattle.definition.specs.Basics.{Result, ok, ◌>>=◌, is_empty}
use Rattle.definition.specs.Component.{each_in, each}
use Rattle.laws.specs.Results.{bind_ok, placed_ok}

-- every element of a list is read, the last with the flag s and the others with false
pub data Read {A B : Type 0} (f : Bool → A → Result B) (s : Bool) : List A → List B → Type 0 where
  done : Read f s [] []
  more : {a : A} {b : B} {l : List A} {m : List B} → f (s && is_empty l) a ≡ ok b → Read f s l m → Read f s (a ∷ l) (b ∷ m)

-- every list of a tree, the highest element of list 0 with the flag true
pub data ReadTree {A B : Type 0} (f : Bool → A → Result B) : ℕ → List (List A) → List (List B) → Type 0 where
  done : {i : ℕ} → ReadTree f i [] []
  more : {i : ℕ} {l : List A} {m : List B} {t : List (List A)} {u : List (List B)} → Read f (eqb i 0) l m → ReadTree f (suc i) t u → ReadTree f i (l ∷ t) (m ∷ u)

-- an operation after another
infixl 30 ◌after◌
abbrev pub ◌after◌ : {A B C : Type 0} → (Bool → B → Result C) → (Bool → A → Result B) → Bool → A → Result C
◌after◌ g f s a = f s a >>= g s

pub and_true : (s : Bool) → (s && true) ≡ s
and_true true = refl
and_true false = refl

pub and_false : (s : Bool) → (s && false) ≡ false
and_false true = refl
and_false false = refl

-- the highest of two lists one after the other
both_empty : {A : Type 0} (s : Bool) (l m : List A) → (s && is_empty m && is_empty l) ≡ (s && is_empty (l ++ m))
both_empty s [] m = and_true (s && is_empty m)
both_empty s (a ∷ l) m = and_false (s && is_empty m) ∙ sym (and_false s)

module _ {A B : Type 0} (f : Bool → A → Result B) where
  pub each_in_read : (i k : ℕ) (l : List A) {m : List B} → each_in f i k l ≡ ok m → Read f (eqb i 0) l m
  unfolding each_in
  each_in_read i k [] {m} h = let e : m ≡ [] = cc in rw e done
  each_in_read i k (a ∷ l) {m} h =
      let (b, q₁, g₁) = bind_ok _ _ h in
      let (bs, q₂, g₂) = bind_ok _ _ g₁ in
      go b bs (placed_ok i k _ q₁) (each_in_read i (suc k) l q₂) g₂
    where
      go : (b : B) (bs : List B) → f (eqb i 0 && is_empty l) a ≡ ok b → Read f (eqb i 0) l bs → ok (b ∷ bs) ≡ ok m → Read f (eqb i 0) (a ∷ l) m
      go b bs p r e = let q : m ≡ b ∷ bs = cc in rw q (more p r)

  pub read_each_in : (i k : ℕ) {l : List A} {m : List B} → Read f (eqb i 0) l m → each_in f i k l ≡ ok m
  unfolding each_in
  read_each_in i k done = refl
  read_each_in i k (more p r) = rw (p, read_each_in i (suc k) r)

  pub each_read : (i : ℕ) (t : List (List A)) {u : List (List B)} → each f i t ≡ ok u → ReadTree f i t u
  unfolding each
  each_read i [] {u} h = let e : u ≡ [] = cc in rw e done
  each_read i (l ∷ t) {u} h =
      let (m, q₁, g₁) = bind_ok _ _ h in
      let (v, q₂, g₂) = bind_ok _ _ g₁ in
      go m v (each_in_read i 0 l q₁) (each_read (suc i) t q₂) g₂
    where
      go : (m : List B) (v : List (List B)) → Read f (eqb i 0) l m → ReadTree f (suc i) t v → ok (m ∷ v) ≡ ok u → ReadTree f i (l ∷ t) u
      go m v p r e = let q : u ≡ m ∷ v = cc in rw q (more p r)

  pub read_each : (i : ℕ) {t : List (List A)} {u : List (List B)} → ReadTree f i t u → each f i t ≡ ok u
  unfolding each
  read_each i done = refl
  read_each i (more p r) = rw (read_each_in i 0 p, read_each (suc i) r)

  -- ── Lists one after the other ──

  -- `join`, with m before what the recursion is on
  joined_to : (s : Bool) (m : List A) {l : List A} {l' m' : List B} → Read f (s && is_empty m) l l' → Read f s m m' → Read f s (l ++ m) (l' ++ m')
  joined_to s m done r = r
  joined_to s m (more {l = l} p q) r = more (rw (both_empty s l m) at p) (joined_to s m q r)

  pub join : (s : Bool) {l : List A} {l' : List B} (m : List A) {m' : List B} → Read f (s && is_empty m) l l' → Read f s m m' → Read f s (l ++ m) (l' ++ m')
  join s m p r = joined_to s m p r

  record Parts (s : Bool) (l m : List A) (out : List B) : Type 0 where
    lower : List B
    upper : List B
    out_is : out ≡ lower ++ upper
    same_length : length lower ≡ length l
    read_lower : Read f (s && is_empty m) l lower
    read_upper : Read f s m upper

  part : (s : Bool) (l m : List A) {out : List B} → Read f s (l ++ m) out → Parts s l m out
  part s [] m r = record { lower = []; upper = _; out_is = refl; same_length = refl; read_lower = done; read_upper = r }
  part s (a ∷ l) m (more {b} {m = bs} p r) = go (part s l m r)
    where
      go : Parts s l m bs → Parts s (a ∷ l) m (b ∷ bs)
      go t =
          record {
            lower = b ∷ t.lower;
            upper = t.upper;
            out_is = ap (λ (x : List B). b ∷ x) t.out_is;
            same_length = ap suc t.same_length;
            read_lower = more (rw (← both_empty s l m) at p) t.read_lower;
            read_upper = t.read_upper;
          }

  single : (s : Bool) (a : A) {out : List B} → Read f s (a ∷ []) out → (b : B) × (out ≡ b ∷ []) × (f s a ≡ ok b)
  single s a (more {b} p done) = (b, refl, rw and_true at p)

  -- an element between others: what it is read as, and that others can stand in its place
  pub record Between (s : Bool) (l : List A) (u : A) (h : List A) (out : List B) : Type 0 where
    pub lower : List B
    pub read : B
    pub upper : List B
    pub out_is : out ≡ lower ++ (read ∷ []) ++ upper
    pub same_length : length lower ≡ length l
    pub reads : f (s && is_empty h) u ≡ ok read
    pub instead : (m : List A) (m' : List B) → is_empty m ≡ false → Read f (s && is_empty h) m m' → Read f s (l ++ m ++ h) (lower ++ m' ++ upper)

  pub between : (s : Bool) (l : List A) (u : A) (h : List A) {out : List B} → Read f s (l ++ (u ∷ []) ++ h) out → Between s l u h out
  between s l u h {out} r = let p = part s (l ++ (u ∷ [])) h r in go p (part (s && is_empty h) l (u ∷ []) p.read_lower)
    where
      go : (p : Parts s (l ++ (u ∷ [])) h out) → Parts (s && is_empty h) l (u ∷ []) p.lower → Between s l u h out
      go p q =
          let (b, e, fb) = single (s && is_empty h) u q.read_upper in
          record {
            lower = q.lower;
            read = b;
            upper = p.upper;
            out_is = p.out_is ∙ ap (λ (x : List B). x ++ p.upper) (q.out_is ∙ ap (λ (x : List B). q.lower ++ x) e);
            same_length = q.same_length;
            reads = fb;
            instead = λ m m' n rm. join s h (join (s && is_empty h) {l = l} {l' = q.lower} m (rw n q.read_lower) rm) p.read_upper;
          }

  -- a list between others
  pub record BetweenLists (i : ℕ) (cb : List (List A)) (c : List A) (ca : List (List A)) (out : List (List B)) : Type 0 where
    pub lower : List (List B)
    pub read : List B
    pub upper : List (List B)
    pub out_is : out ≡ lower ++ read ∷ upper
    pub same_length : length lower ≡ length cb
    pub reads : Read f (eqb i 0 && is_empty cb) c read
    pub instead : (m : List A) (m' : List B) → Read f (eqb i 0 && is_empty cb) m m' → ReadTree f i (cb ++ m ∷ ca) (lower ++ m' ∷ upper)

  pub between_lists : (i : ℕ) (cb : List (List A)) (c : List A) (ca : List (List A)) {out : List (List B)} → ReadTree f i (cb ++ c ∷ ca) out → BetweenLists i cb c ca out
  between_lists i [] c ca (more {m} {u} p r) =
      record { lower = []; read = m; upper = u; out_is = refl; same_length = refl; reads = rw and_true p; instead = λ m m' q. more (rw and_true at q) r }
  between_lists i (l ∷ cb) c ca (more {m} {u} p r) = go (between_lists (suc i) cb c ca r)
    where
      -- above concatenation 0 no element has the flag
      low : (eqb (suc i) 0 && is_empty cb) ≡ (eqb i 0 && false)
      low = rw (eqb-suc-zero i) (sym (and_false (eqb i 0)))

      go : BetweenLists (suc i) cb c ca u → BetweenLists i (l ∷ cb) c ca (m ∷ u)
      go t =
          record {
            lower = m ∷ t.lower;
            read = t.read;
            upper = t.upper;
            out_is = ap (λ (x : List (List B)). m ∷ x) t.out_is;
            same_length = ap suc t.same_length;
            reads = rw (← low) t.reads;
            instead = λ n n' q. more p (t.instead n n' (rw low q));
          }

-- ── One operation after another ──

module _ {A B C : Type 0} (f : Bool → A → Result B) (g : Bool → B → Result C) where
  same_empty : (s : Bool) {l : List A} {m : List B} → Read f s l m → is_empty l ≡ is_empty m
  same_empty s done = refl
  same_empty s (more p r) = refl

  read_after : (s : Bool) {l : List A} {m : List B} {n : List C} → Read f s l m → Read g s m n → Read (g after f) s l n
  read_after s done done = done
  read_after s (more {a} {l = l} p r) (more {b = c} q t) = more {a = a} {b = c} {l = l} (rw (p, same_empty s r) q) (read_after s r t)

  read_apart : (s : Bool) {l : List A} {n : List C} → Read (g after f) s l n → (m : List B) × Read f s l m × Read g s m n
  read_apart s done = ([], done, done)
  read_apart s (more {a} {b = c} {l = l} {m = n} p r) = let (b, q₁, q₂) = bind_ok _ _ p in go b q₁ q₂ (read_apart s r)
    where
      go : (b : B) → f (s && is_empty l) a ≡ ok b → g (s && is_empty l) b ≡ ok c → (m : List B) × Read f s l m × Read g s m n → (m : List B) × Read f s (a ∷ l) m × Read g s m (c ∷ n)
      go b q₁ q₂ (m, rf, rg) = (b ∷ m, more q₁ rf, more (rw (same_empty s rf) at q₂) rg)

  pub tree_after : (i : ℕ) {t : List (List A)} {u : List (List B)} {v : List (List C)} → ReadTree f i t u → ReadTree g i u v → ReadTree (g after f) i t v
  tree_after i done done = done
  tree_after i (more p r) (more q t) = more (read_after (eqb i 0) p q) (tree_after (suc i) r t)

  pub tree_apart : (i : ℕ) {t : List (List A)} {v : List (List C)} → ReadTree (g after f) i t v → (u : List (List B)) × ReadTree f i t u × ReadTree g i u v
  tree_apart i done = ([], done, done)
  tree_apart i (more p r) =
      let (m, pf, pg) = read_apart (eqb i 0) p in
      let (u, rf, rg) = tree_apart (suc i) r in
      (m ∷ u, more pf rf, more pg rg)
