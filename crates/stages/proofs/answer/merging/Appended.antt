-- Bits behind others: zeros for the new bytes, and then the bits.
use Rattle.std.specs.Prelude.{◌+◌, ◌*◌, ◌-◌, ◌^◌, ◌&&◌, ◌∷◌, ◌++◌}
use Rattle.std.proofs.Common.{◌≡◌, ◌<◌, ◌≤◌, replicate, sym, refl, ap, ◌∙◌, true≢false, append-nil, add-zero, zero-add, arith, length-append, length-drop, take-append-drop, drop_of_length-le, take_all, ltb-true, lt-ltb}
use lib.Seq.{sets, length-sets}
use Rattle.definition.specs.Prelude.{ℕ, zero, suc, Bool, true, false, not, List, [], length, take, drop, ltb}
use Rattle.definition.specs.Image.{padded, bytes_at, bytes_for}
use Rattle.definition.specs.Tree.{packed}
use Rattle.laws.specs.Tests.{and_iff}
use Rattle.laws.specs.Lists.{length_tab}
use Rattle.laws.specs.Padded.{length_padded}
use Rattle.laws.specs.Sets.{sets_append, take_sets, drop_sets, sets_over}
use Rattle.prepared.specs.Bits.{length_packed}
use Rattle.stages.specs.answer.literal_bits.Put.{bit_of, bits_from, with_bits, put_bits}
use Rattle.stages.specs.answer.literal_bits.Places.{Small, put_fits}
use Rattle.stages.specs.answer.literal_bits.Packing.{held_more, region_full}
use Rattle.stages.specs.answer.literal_bits.Runs.{bytes_at_sets}
use Rattle.stages.specs.answer.merging.Literals.{AppendIs}

-- ---- the test of the numbers

abbrev pub is_near : ℕ → ℕ → Bool
is_near k n = ltb k (2 ^ 36) && ltb n (2 ^ 36)

near_second : (k n : ℕ) → k < 2 ^ 36 → ltb n (2 ^ 36) ≡ is_near k n
near_second k n h = rw (lt-ltb k (2 ^ 36) h)

pub record Near (k n : ℕ) : Type 0 where
  pub had : k < 2 ^ 36
  pub new : n < 2 ^ 36

pub near_is : (k n : ℕ) (b : Bool) → b ≡ is_near k n → not b ≡ false → Near k n
near_is k n true e t =
    let p = (and_iff (ltb k (2 ^ 36)) (ltb n (2 ^ 36))).0 (sym e) in
    record { had = ltb-true k (2 ^ 36) p.0; new = ltb-true n (2 ^ 36) p.1 }
near_is k n false e t = absurd (true≢false t)

-- where there is room the numbers are near
pub far_off : (at k : ℕ) (s : List ℕ) (from n : ℕ) (b : Bool) (area : List ℕ) → b ≡ is_near k n → not b ≡ true → AppendIs at k s from n area area
far_off at k s from n b area e t base bits _ _ _ _ reach _ =
    let q : k < 2 ^ 36 = omega arith in
    let r : n < 2 ^ 36 = omega arith in
    let f : b ≡ true = e ∙ sym (near_second k n q) ∙ lt-ltb n (2 ^ 36) r in
    let z : ◌≡◌ {A = Bool} false true = ap not (sym f) ∙ t in
    cc

-- ---- zeros, and bits

padded_zeros : (m : ℕ) (s : List ℕ) → length s ≤ m → s ++ replicate (m - length s) 0 ≡ padded m s
unfolding padded
padded_zeros zero [] h = refl
padded_zeros zero (b ∷ s) h = absurd (omega arith)
padded_zeros (suc m) [] h =
    let e : suc m - 0 ≡ suc (m - 0) = omega arith in
    rw e (ap (λ (x : List ℕ). 0 ∷ x) (padded_zeros m [] (omega arith)))
padded_zeros (suc m) (b ∷ s) h =
    let e : suc m - suc (length s) ≡ m - length s = omega arith in
    rw e (ap (λ (x : List ℕ). b ∷ x) (padded_zeros m s (omega arith)))

zeros_behind : (base : List ℕ) (at m : ℕ) (bits : List ℕ) → bytes_for (length bits) ≤ m
    → sets (sets base at (packed bits)) (at + bytes_for (length bits)) (replicate (m - bytes_for (length bits)) 0) ≡ sets base at (padded m (packed bits))
zeros_behind base at m bits h =
    let l = length_packed bits in
    ap (λ (k : ℕ). sets (sets base at (packed bits)) (at + k) (replicate (m - k) 0)) (sym l)
    ∙ sets_append base at (packed bits) (replicate (m - length (packed bits)) 0)
    ∙ ap (sets base at) (padded_zeros m (packed bits) (omega arith))

module _ (entry mid after : List ℕ) (at k : ℕ) (low : at < 2 ^ 32) (s : List ℕ) (from n had has : ℕ) (had_is : had ≡ bytes_for k) (has_is : has ≡ bytes_for (k + n))
    (zeroed : mid ≡ sets entry (at + had) (replicate (has - had) 0)) (put : after ≡ put_bits mid (8 * at + k) s from n) (small : Small mid)
  where
    module _ (base bits : List ℕ) (len : length bits ≡ k) (e : entry ≡ sets base at (packed bits)) where
      mid_is : mid ≡ sets base at (padded has (packed bits))
      mid_is =
          let h : had ≡ bytes_for (length bits) = omega arith in
          zeroed ∙ rw (e, h) (zeros_behind base at has bits (omega arith))

      mid_long : length mid ≡ length base
      mid_long = ap length mid_is ∙ length-sets base at (padded has (packed bits))

      held : at + has ≤ length base → bytes_at mid at has ≡ padded has (packed bits)
      held fits =
          let l = length_padded has (packed bits) in
          ap (λ (m : List ℕ). bytes_at m at has) mid_is
          ∙ ap (bytes_at (sets base at (padded has (packed bits))) at) (sym l)
          ∙ bytes_at_sets base at (padded has (packed bits)) (omega arith)

      all_long : length (bits ++ bits_from s from n) ≡ k + n
      all_long = let l = length_tab (bit_of s) from n in length-append bits (bits_from s from n) ∙ (omega arith)

      over : sets mid at (padded has (packed (bits ++ bits_from s from n))) ≡ sets base at (packed (bits ++ bits_from s from n))
      over =
          let all = bits ++ bits_from s from n in
          let l : length (padded has (packed bits)) ≡ has = length_padded has (packed bits) in
          let m : length (padded has (packed all)) ≡ has = length_padded has (packed all) in
          let a = all_long in
          let h : has ≡ bytes_for (length all) = omega arith in
          ap (λ (x : List ℕ). sets x at (padded has (packed all))) mid_is
          ∙ sets_over base at (padded has (packed bits)) (padded has (packed all)) (omega arith)
          ∙ ap (λ (x : ℕ). sets base at (padded x (packed all))) h
          ∙ ap (sets base at) (region_full all)

    appended : AppendIs at k s from n entry after
    appended base bits b len e fits reach within =
        let ml = mid_long base bits len e in
        put
        ∙ put_fits mid (8 * at + k) s from n (omega arith) within
        ∙ ap (λ (x : ℕ). with_bits mid (8 * at + x) s from n) (sym len)
        ∙ held_more mid at has bits s from n small b (omega arith) (omega arith) (held base bits len e (omega arith))
        ∙ over base bits len e

-- at the front of an area
pub front : (entry mid after : List ℕ) (k : ℕ) (s : List ℕ) (from n had has : ℕ) → had ≡ bytes_for k → has ≡ bytes_for (k + n)
    → mid ≡ sets entry had (replicate (has - had) 0) → after ≡ put_bits mid k s from n → Small mid → AppendIs 0 k s from n entry after
front entry mid after k s from n had has had_is has_is zeroed put small =
    appended entry mid after 0 k (omega arith) s from n had has had_is has_is
    (zeroed ∙ ap (λ (x : ℕ). sets entry x (replicate (has - had) 0)) (sym (zero-add had)))
    (put ∙ ap (λ (x : ℕ). put_bits mid x s from n) (sym (zero-add k))) small

-- ---- at a place of an area, by the part from there on

pub out_of_area : (area : List ℕ) (at k : ℕ) (s : List ℕ) (from n : ℕ) → length area < at → AppendIs at k s from n area area
out_of_area area at k s from n h base bits _ _ e fits _ _ =
    let l : length area ≡ length base = ap length e ∙ length-sets base at (packed bits) in
    absurd (omega arith)

pub from_place : (area part : List ℕ) (at k : ℕ) (s : List ℕ) (from n : ℕ) → at ≤ length area
    → AppendIs 0 k s from n (take (length area - at) (drop at area)) part
    → AppendIs at k s from n area (take at area ++ (part ++ drop (length area - at) (drop at area)))
from_place area part at k s from n h app base bits b len e fits reach within =
    let l : length area ≡ length base = ap length e ∙ length-sets base at (packed bits) in
    let d : length (drop at area) ≡ length area - at = length-drop at area in
    let d₁ : length (drop at base) ≡ length base - at = length-drop at base in
    let all = packed (bits ++ bits_from s from n) in
    let here : take (length area - at) (drop at area) ≡ sets (drop at base) 0 (packed bits) =
    take_all (length area - at) (drop at area) (omega arith) ∙ ap (drop at) e ∙ behind (packed bits) in
    let new : part ≡ drop at (sets base at all) = app (drop at base) bits b len here (omega arith) reach within ∙ sym (behind all) in
    let ended : length (drop at area) ≤ length area - at = omega arith in
    let none : drop (length area - at) (drop at area) ≡ [] = drop_of_length-le (drop at area) ended in
    let before : take at area ≡ take at (sets base at all) =
    ap (take at) e ∙ take_sets base at (packed bits) at (omega arith) ∙ sym (take_sets base at all at (omega arith)) in
    ap (λ (x : List ℕ). take at area ++ (part ++ x)) none
    ∙ ap (λ (x : List ℕ). take at area ++ x) (append-nil part ∙ new)
    ∙ ap (λ (x : List ℕ). x ++ drop at (sets base at all)) before
    ∙ take-append-drop at (sets base at all)
  where
    behind : (vs : List ℕ) → drop at (sets base at vs) ≡ sets (drop at base) 0 vs
    behind vs = ap (λ (x : ℕ). drop at (sets base x vs)) (sym (add-zero at)) ∙ drop_sets base at 0 vs
