-- A stage over a list of placed components and over a tree: what it says, one more in front.
use Rattle.std.specs.Prelude as Std
use Rattle.std.specs.Prelude.{Ok, Err, ◌&&◌, ◌∷◌}
use Rattle.std.proofs.Common.{◌≡◌, sym, refl, ap, ◌∙◌, arith}
use Rattle.definition.specs.Prelude.{ℕ, suc, Bool, List, [], length, eqb}
use Rattle.definition.specs.Basics.{Result, ok, refused, ◌>>=◌, with_places, is_empty}
use Rattle.definition.specs.Image.{Placed}
use Rattle.definition.specs.Component.{keep_base, each_in, each}
use Rattle.stages.specs.component.Read.{verdict}
use Rattle.stages.proofs.Cases.{never}

pub bind_on : {A B : Type 0} (x : Result A) (y : Result A) (z : Result B) → ((x >>= λ _. y) >>= λ _. z) ≡ (x >>= λ _. y >>= λ _. z)
bind_on (ok a) y z = refl
bind_on (refused q) y z = refl

pub same_verdict : (x : Result Unit) → x ≡ (x >>= λ _. ok tt)
same_verdict (ok tt) = refl
same_verdict (refused q) = refl

pub ok_is : {A : Type 0} (a b : A) → ok a ≡ ok b → a ≡ b
ok_is a b h = cc

-- the same of std's
pub same_ok : {A E : Type 0} (a b : A) → ◌≡◌ {A = Std.Result A E} (Ok a) (Ok b) → a ≡ b
same_ok a b h = cc

pub err_ok : {G A E : Type 0} {q : E} {a : A} → ◌≡◌ {A = Std.Result A E} (Err q) (Ok a) → G
err_ok h = let z : ◌≡◌ {A = ℕ} 0 1 = cc in absurd (omega arith)

-- a stage whose verdict is `ok`
pub verdict_ok : {A : Type 0} (m : Result A) → verdict m ≡ ok tt → (a : A) × (m ≡ ok a)
verdict_ok (ok a) h = (a, refl)
verdict_ok (refused q) h = never h

module _ {A B : Type 0} (g : Bool → A → Result B) (i : ℕ) where
  -- one more in front
  pub each_verdict : (j : ℕ) (p : Placed A) (l : List (Placed A))
      → verdict (each_in (keep_base g) i j (p ∷ l)) ≡ (with_places i j (verdict (g (eqb i 0 && is_empty l) p.value)) >>= λ _. verdict (each_in (keep_base g) i (suc j) l))
  unfolding each_in
  each_verdict j p l = go (g (eqb i 0 && is_empty l) p.value) (each_in (keep_base g) i (suc j) l)
    where
      go : (a : Result B) (m : Result (List (Placed B)))
          → verdict (with_places i j (a >>= λ b. ok (record { base = p.base; value = b })) >>= λ b. m >>= λ bs. ok (b ∷ bs))
          ≡ (with_places i j (verdict a) >>= λ _. verdict m)
      go (ok a) (ok m) = refl
      go (ok a) (refused q) = refl
      go (refused q) m = refl

  pub record Parts (j : ℕ) (p : Placed A) (l : List (Placed A)) (m : List (Placed B)) : Type 0 where
    pub one : B
    pub rest : List (Placed B)
    pub reads : g (eqb i 0 && is_empty l) p.value ≡ ok one
    pub others : each_in (keep_base g) i (suc j) l ≡ ok rest
    pub all : m ≡ record { base = p.base; value = one } ∷ rest

  pub each_parts : (j : ℕ) (p : Placed A) (l : List (Placed A)) (m : List (Placed B)) → each_in (keep_base g) i j (p ∷ l) ≡ ok m → Parts j p l m
  unfolding each_in
  each_parts j p l m h = go (g (eqb i 0 && is_empty l) p.value) (each_in (keep_base g) i (suc j) l) refl refl h
    where
      go : (a : Result B) (n : Result (List (Placed B))) → g (eqb i 0 && is_empty l) p.value ≡ a → each_in (keep_base g) i (suc j) l ≡ n
          → (with_places i j (a >>= λ b. ok (record { base = p.base; value = b })) >>= λ b. n >>= λ bs. ok (b ∷ bs)) ≡ ok m → Parts j p l m
      go (ok a) (ok n) e f h = record { one = a; rest = n; reads = e; others = f; all = ok_is _ _ (sym h) }
      go (ok a) (refused q) e f h = never h
      go (refused q) n e f h = never h

  pub each_none : (j : ℕ) (m : List (Placed B)) → each_in (keep_base g) i j [] ≡ ok m → m ≡ []
  unfolding each_in
  each_none j m h = ok_is _ _ (sym h)

  pub each_length : (j : ℕ) (l : List (Placed A)) (m : List (Placed B)) → each_in (keep_base g) i j l ≡ ok m → length m ≡ length l
  each_length j [] m h = ap {A = List (Placed B)} length (each_none j m h)
  each_length j (p ∷ l) m h =
      let q = each_parts j p l m h in
      ap {A = List (Placed B)} length q.all ∙ ap suc (each_length (suc j) l q.rest q.others)

-- ---- a tree

module _ {A B : Type 0} (g : Bool → A → Result B) where
  pub tree_verdict : (i : ℕ) (c : List (Placed A)) (t : List (List (Placed A)))
      → verdict (each (keep_base g) i (c ∷ t)) ≡ (verdict (each_in (keep_base g) i 0 c) >>= λ _. verdict (each (keep_base g) (suc i) t))
  unfolding each
  tree_verdict i c t = go (each_in (keep_base g) i 0 c) (each (keep_base g) (suc i) t)
    where
      go : (a : Result (List (Placed B))) (m : Result (List (List (Placed B))))
          → verdict (a >>= λ b. m >>= λ bs. ok (b ∷ bs)) ≡ (verdict a >>= λ _. verdict m)
      go (ok a) (ok m) = refl
      go (ok a) (refused q) = refl
      go (refused q) m = refl

  pub record TreeParts (i : ℕ) (c : List (Placed A)) (t : List (List (Placed A))) (m : List (List (Placed B))) : Type 0 where
    pub one : List (Placed B)
    pub rest : List (List (Placed B))
    pub reads : each_in (keep_base g) i 0 c ≡ ok one
    pub others : each (keep_base g) (suc i) t ≡ ok rest
    pub all : m ≡ one ∷ rest

  pub tree_parts : (i : ℕ) (c : List (Placed A)) (t : List (List (Placed A))) (m : List (List (Placed B))) → each (keep_base g) i (c ∷ t) ≡ ok m → TreeParts i c t m
  unfolding each
  tree_parts i c t m h = go (each_in (keep_base g) i 0 c) (each (keep_base g) (suc i) t) refl refl h
    where
      go : (a : Result (List (Placed B))) (n : Result (List (List (Placed B)))) → each_in (keep_base g) i 0 c ≡ a → each (keep_base g) (suc i) t ≡ n
          → (a >>= λ b. n >>= λ bs. ok (b ∷ bs)) ≡ ok m → TreeParts i c t m
      go (ok a) (ok n) e f h = record { one = a; rest = n; reads = e; others = f; all = ok_is _ _ (sym h) }
      go (ok a) (refused q) e f h = never h
      go (refused q) n e f h = never h

  pub tree_none : (i : ℕ) (m : List (List (Placed B))) → each (keep_base g) i [] ≡ ok m → m ≡ []
  unfolding each
  tree_none i m h = ok_is _ _ (sym h)
