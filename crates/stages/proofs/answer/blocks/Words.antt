-- Numbers written as bytes, and a bound's parts as the definition's bytes of it.
use Rattle.std.specs.Prelude.{◌+◌, ◌-◌, ◌*◌, ◌/◌, ◌%◌, ◌^◌, ◌∷◌, ◌++◌, if◌then◌else◌}
use Rattle.std.proofs.Common.{◌≡◌, ◌<◌, ◌≤◌, take, drop, sym, refl, ap, ◌∙◌, ap₂, append_assoc, div-one, add-mul, one-mul, arith, shr-shr}
use Rattle.std.proofs.lemmas.List.Edits.{sets, sets-eq}
use borrow.Rule.Slice.PartMut.{put_mid}
use lib.Pow.{field, mod-mod-pow, high, low}
use lib.Seq.{drop-drop}
use Rattle.definition.specs.Prelude.{ℕ, suc, Bool, true, false, List, [], length, ltb, pos, negsuc}
use Rattle.definition.specs.Basics.{is_empty, tab}
use Rattle.definition.specs.Tree.{u32}
use Rattle.definition.specs.Answer.{text_bytes, twos, usb_bytes}
use Rattle.laws.specs.Padded.{length_padded}
use Rattle.numbers.specs.Value.{bits, value_of}
use Rattle.numbers.specs.declared.I128.{I128}
use Rattle.stages.specs.token_tree.Parts.{part_of, bytes_in, PartFits}
use Rattle.stages.specs.ranges.Values.{Tree, usb_of, UsbFits}
use Rattle.stages.specs.answer.Blocks.{word_bytes, text_block, usb_block}
use Rattle.stages.specs.declared.token_tree.types.Part.{Part}
use Rattle.stages.specs.declared.ranges.types.Usb.{Usb}

-- n bytes written over the part from i on
pub put_run : (l : List ℕ) (i n : ℕ) (vs : List ℕ) {m s : List ℕ} → m ≡ s → s ≡ vs → length vs ≡ n → i + n ≤ length l
    → put_mid i (i + n - i) l m ≡ sets l i vs
put_run l i n vs p q e h =
    let d : i + n - i ≡ length vs = omega arith in
    let f : i + length vs ≤ length l = omega arith in
    rw (p, q, d, drop-drop (length vs) i l) (sym (sets-eq vs l i f ∙ append_assoc (take i l) vs (drop (i + length vs) l)))

-- a byte of a number, and of the number modulo a higher power
byte : (n m k : ℕ) → n % 2 ^ (m + 8 + k) / 2 ^ k % 2 ^ 8 ≡ n / 2 ^ k % 2 ^ 8
byte n m k = rw (field n (m + 8) k) (mod-mod-pow (n / 2 ^ k) m 8)

-- four bytes hold a number modulo 2^32
pub u32_mod : (n : ℕ) → u32 (n % 2 ^ 32) ≡ u32 n
u32_mod n =
    let a : n % 2 ^ 32 % 256 ≡ n % 256 = mod-mod-pow n 24 8 in
    let b : n % 2 ^ 32 / 256 % 256 ≡ n / 256 % 256 = byte n 16 8 in
    let c : n % 2 ^ 32 / 65536 % 256 ≡ n / 65536 % 256 = byte n 8 16 in
    let d : n % 2 ^ 32 / 16777216 % 256 ≡ n / 16777216 % 256 = byte n 0 24 in
    cc

-- eight bytes are two numbers of 32 bits
pub eight_bytes : (n : ℕ)
    → n % 256 ∷ n / 256 % 256 ∷ n / 65536 % 256 ∷ n / 16777216 % 256 ∷ n / 2 ^ 32 % 256 ∷ n / 2 ^ 40 % 256 ∷ n / 2 ^ 48 % 256 ∷ n / 2 ^ 56 % 256 ∷ []
    ≡ word_bytes n
eight_bytes n =
    let b : n / 2 ^ 32 / 256 ≡ n / 2 ^ 40 = shr-shr n 32 8 in
    let c : n / 2 ^ 32 / 65536 ≡ n / 2 ^ 48 = shr-shr n 32 16 in
    let d : n / 2 ^ 32 / 16777216 ≡ n / 2 ^ 56 = shr-shr n 32 24 in
    rw (← b, ← c, ← d) (ap (λ (l : List ℕ). l ++ u32 (n / 2 ^ 32)) (sym (u32_mod n)))

-- 16 bytes are four numbers of 32 bits
quarters : (n : ℕ) → tab (λ i. n / 256 ^ i % 256) 0 16 ≡ u32 n ++ u32 (n / 2 ^ 32) ++ u32 (n / 2 ^ 64) ++ u32 (n / 2 ^ 96)
unfolding tab
quarters n =
    let a : n / 1 ≡ n = div-one n in
    let b : n / 2 ^ 32 / 256 ≡ n / 2 ^ 40 = shr-shr n 32 8 in
    let c : n / 2 ^ 32 / 65536 ≡ n / 2 ^ 48 = shr-shr n 32 16 in
    let d : n / 2 ^ 32 / 16777216 ≡ n / 2 ^ 56 = shr-shr n 32 24 in
    let e : n / 2 ^ 64 / 256 ≡ n / 2 ^ 72 = shr-shr n 64 8 in
    let f : n / 2 ^ 64 / 65536 ≡ n / 2 ^ 80 = shr-shr n 64 16 in
    let g : n / 2 ^ 64 / 16777216 ≡ n / 2 ^ 88 = shr-shr n 64 24 in
    let h : n / 2 ^ 96 / 256 ≡ n / 2 ^ 104 = shr-shr n 96 8 in
    let i : n / 2 ^ 96 / 65536 ≡ n / 2 ^ 112 = shr-shr n 96 16 in
    let j : n / 2 ^ 96 / 16777216 ≡ n / 2 ^ 120 = shr-shr n 96 24 in
    cc

abbrev join : List ℕ → List ℕ → List ℕ
join a b = a ++ b

-- the bytes of two halves
halves : (h l : ℕ) → l < 2 ^ 64 → word_bytes l ++ word_bytes h ≡ tab (λ i. (h * 2 ^ 64 + l) / 256 ^ i % 256) 0 16
halves h l k = go (h * 2 ^ 64 + l) (high h 64 k) (low h 64 k)
  where
    go : (n : ℕ) → n / 2 ^ 64 ≡ h → n % 2 ^ 64 ≡ l → word_bytes l ++ word_bytes h ≡ tab (λ i. n / 256 ^ i % 256) 0 16
    go n p q =
        let a : u32 (l % 2 ^ 32) ≡ u32 n = ap u32 (rw (← q) (mod-mod-pow n 32 32)) ∙ u32_mod n in
        let b : u32 (l / 2 ^ 32) ≡ u32 (n / 2 ^ 32) = ap u32 (rw (← q) (field n 32 32)) ∙ u32_mod (n / 2 ^ 32) in
        let c : u32 (h % 2 ^ 32) ≡ u32 (n / 2 ^ 64) = u32_mod h ∙ ap u32 (sym p) in
        let d : u32 (h / 2 ^ 32) ≡ u32 (n / 2 ^ 96) = ap u32 (rw (← p) (shr-shr n 64 32)) in
        ap₂ join a (ap₂ join b (ap₂ join c d)) ∙ sym (quarters n)

pub x_small : (n : ℕ) → n < 2 ^ 64 → word_bytes n ++ word_bytes 0 ≡ tab (λ i. n / 256 ^ i % 256) 0 16
x_small n h = halves 0 n h ∙ ap (λ (m : ℕ). tab (λ i. m / 256 ^ i % 256) 0 16) (let z : 0 * 2 ^ 64 + n ≡ n = omega arith in z)

-- a number's two halves are its two's complement
turned : (B h l : ℕ) → h < B → l < B → B * B - suc ((B - 1 - h) * B + (B - 1 - l)) ≡ h * B + l
turned B h l p q = go (B - 1 - h) (omega arith)
  where
    go : (k : ℕ) → B ≡ h + k + 1 → B * B - suc (k * B + (B - 1 - l)) ≡ h * B + l
    go k e =
        let m : B * B ≡ (h + k + 1) * B = ap (λ (x : ℕ). x * B) e in
        let n : (h + k + 1) * B ≡ h * B + k * B + B = simp (add-mul, one-mul) in
        omega arith

twos_bits : (w : I128) → w.high < 2 ^ 64 → w.low < 2 ^ 64 → twos (value_of w) ≡ bits w
unfolding value_of
twos_bits w h l = go (ltb w.high (2 ^ 63))
  where
    go : (t : Bool) → twos (if t then pos (bits w) else negsuc ((2 ^ 64 - 1 - w.high) * 2 ^ 64 + (2 ^ 64 - 1 - w.low))) ≡ bits w
    go true = refl
    go false = turned (2 ^ 64) w.high w.low h l

module _ (image : List ℕ) (t : Tree) (base : ℕ) where
  -- a text
  pub text_is : (p : Part) → PartFits image t base p → text_block p ≡ text_bytes base (part_of image t base p)
  text_is p h = go (bytes_in image t p) (length_padded p.len (drop (t.text + p.at.0) image))
    where
      go : (bs : List ℕ) → length bs ≡ p.len
          → text_block p ≡ (if is_empty bs then u32 0 ++ u32 0 else u32 (base + (p.at.0 - base)) ++ u32 (length bs))
      go [] e = let z = h.none (sym e) in rw (z, ← e) refl
      go (x ∷ bs) e =
          let z = h.some (omega arith) in
          let at_is : base + (p.at.0 - base) ≡ p.at.0 = omega arith in
          rw (at_is, e) refl

  -- a bound
  pub usb_is : (u : Usb) → UsbFits image t base u → usb_block u ≡ usb_bytes base (usb_of image t base u)
  usb_is u h =
      append_assoc (text_block u.s) (word_bytes u.x.low) (word_bytes u.x.high)
      ∙ ap₂ join (text_is u.s h.part)
      (halves u.x.high u.x.low h.low ∙ ap (λ (n : ℕ). tab (λ i. n / 256 ^ i % 256) 0 16) (sym (twos_bits u.x h.high h.low)))
