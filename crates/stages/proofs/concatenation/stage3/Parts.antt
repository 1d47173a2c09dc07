-- The components of the concatenations one after the other: those of the i-th, and where they stand.
use Rattle.std.specs.Prelude.{◌+◌, ◌-◌, ◌*◌, ◌∷◌, ◌++◌}
use Rattle.std.proofs.Common.{◌≡◌, ◌<◌, ◌≤◌, refl, ap, ◌∙◌, add-one, arith, length-append, length-take}
use Rattle.definition.specs.Prelude.{ℕ, zero, suc, List, [], length, take, drop}
use Rattle.definition.specs.Component as Def
use Rattle.definition.specs.Basics.{joined}
use Rattle.definition.specs.Image.{Placed, u32_at}
use Rattle.stages.specs.token_tree.Rows.{Sizes}
use Rattle.stages.specs.token_tree.Table.{tree_in}
use Rattle.stages.specs.concatenation.Heads.{CountsFit}
use Rattle.stages.specs.component.Kept.{Are, KeptFrom}
use Rattle.stages.specs.declared.component.types.Component.{Component}
use Rattle.stages.proofs.concatenation.Kept.{kept_first, kept_then}

pub record Part {A : Type 0} (image : List ℕ) (i : ℕ) (cc : List (List A)) : Type 0 where
  pub here : List A
  pub rest : drop i cc ≡ here ∷ drop (i + 1) cc
  pub size : u32_at image (40 + 4 * i) ≡ length here

part_from : {A : Type 0} (image : List ℕ) (b i : ℕ) (cc : List (List A)) → Sizes image b cc → i < length cc
    → (cs : List A) × (drop i cc ≡ cs ∷ drop (i + 1) cc) × (u32_at image (40 + 4 * (b + i)) ≡ length cs)
unfolding Sizes
part_from image b i [] h l = absurd (omega arith)
part_from image b zero (cs ∷ cc) h l = let z : b + 0 ≡ b = omega arith in (cs, refl, rw z h.0)
part_from image b (suc i) (cs ∷ cc) h l =
    let t = part_from image (suc b) i cc h.2 (omega arith) in
    let z : b + suc i ≡ suc b + i = omega arith in
    let n : drop (i + 1) cc ≡ drop (suc i + 1) (cs ∷ cc) = rw (add-one i, add-one (suc i)) in
    (t.0, t.1 ∙ ap (λ l. t.0 ∷ l) n, rw z t.2)

module _ {A : Type 0} (image : List ℕ) (i : ℕ) (cc : List (List A)) where
  pub part_at : Sizes image 0 cc → i < length cc → Part image i cc
  part_at h l =
      let t = part_from image 0 i cc h l in
      let z : 0 + i ≡ i = omega arith in
      record { here = t.0; rest = t.1; size = rw z at t.2 }

  -- what is left is longer by what is taken
  pub part_joined : (p : Part image i cc) → joined (drop i cc) ≡ p.here ++ joined (drop (i + 1) cc)
  unfolding joined
  part_joined p = rw p.rest

  part_length : (p : Part image i cc) → length (joined (drop i cc)) ≡ length p.here + length (joined (drop (i + 1) cc))
  part_length p = ap length (part_joined p) ∙ length-append p.here (joined (drop (i + 1) cc))

module _ (image : List ℕ) (kept : List Component) (k i : ℕ) (cc : List (List (Placed Def.Component))) (p : Part image i cc)
    (h : KeptFrom image kept k (joined (drop i cc))) where
  pub part_kept : KeptFrom image kept k p.here
  part_kept = kept_first image (tree_in image) kept k p.here (joined (drop (i + 1) cc)) (rw (part_joined image i cc p) at h)

  pub rest_kept : KeptFrom image kept (k + length p.here) (joined (drop (i + 1) cc))
  rest_kept = kept_then image (tree_in image) kept k p.here (joined (drop (i + 1) cc)) (rw (part_joined image i cc p) at h)

  -- as `kept[k..k + n]` says it
  pub part_are : (n : ℕ) → n ≡ length p.here → Are image (tree_in image) (take (k + n - k) (drop k kept)) p.here
  part_are n e = let z : k + n - k ≡ length p.here = omega (arith, e) in rw z part_kept

-- what is left after the i-th
pub left_on : {A : Type 0} (image : List ℕ) (cc : List (List A)) (k i n : ℕ) → Part image i cc → n ≡ u32_at image (40 + 4 * i)
    → k + length (joined (drop i cc)) ≡ length (joined cc) → k + n + length (joined (drop (i + 1) cc)) ≡ length (joined cc)
left_on image cc k i n p e h =
    let a = part_length image i cc p in
    let s = p.size in
    omega (arith, h, a, s, e)

-- room for the i-th, by how much is left
pub record Room (k n room : ℕ) : Type 0 where
  pub inside : k + n ≤ room
  pub few : k + n ≤ 256

pub room_for : (image : List ℕ) (c : ℕ) (kept : List Component) (heads : ℕ) → ((cc : List (List (Placed Def.Component))) × CountsFit image cc c kept heads)
    → (k i n : ℕ)
    → ((cc : List (List (Placed Def.Component))) → length cc ≡ c → Sizes image 0 cc → k + length (joined (drop i cc)) ≡ length (joined cc))
    → i < c → n ≡ u32_at image (40 + 4 * i) → Room k n (length kept)
room_for image c kept heads (cc, f) k i n left l e =
    let p = part_at image i cc f.sizes (rw f.count l) in
    let a = left_on image cc k i n p e (left cc f.count f.sizes) in
    let b = f.few_components in
    let d = f.kept_fit in
    record { inside = omega (arith, a, d); few = omega (arith, a, b) }

pub slice_few : {A : Type 0} (l : List A) (k n : ℕ) {room : ℕ} → Room k n room → length (take (k + n - k) (drop k l)) ≤ 256
slice_few l k n h =
    let t = length-take (k + n - k) (drop k l) in
    let few = h.few in
    omega arith
