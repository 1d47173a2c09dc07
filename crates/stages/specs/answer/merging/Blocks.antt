-- One merged component written before the others.
use Rattle.std.specs.Prelude.{◌≡◌, ◌≤◌, refl, ◌+◌, ◌*◌, ◌∷◌, ◌++◌}
use Rattle.std.proofs.Math.Path.{sym, ap}
use Rattle.std.proofs.Common.{◌∙◌, add_assoc, arith, length-append}
use Rattle.std.proofs.Math.Seq.{sets, length-sets}
use Rattle.definition.specs.Prelude.{ℕ, suc, List, [], length}
use Rattle.definition.specs.Basics.{joined}
use Rattle.definition.specs.Limits.{sizes}
use Rattle.definition.specs.Image.{Placed}
use Rattle.definition.specs.Component.{Component}
use Rattle.definition.specs.Answer.{component_bytes, components_bytes, literal_bytes}
use Rattle.answer_facts.specs.fits.Statement.{literals_of}
use Rattle.laws.specs.Sets.{sets_append, sets_apart}
use Rattle.stages.specs.answer.Sizes.{length_component}
use Rattle.stages.specs.declared.answer.merging.Writing.{Writing}
use Rattle.stages.specs.answer.merging.Put.{put_all, written_to, Room}

-- ---- one component, and then the others

-- its literal bytes, and its block
abbrev pub put_one : List ℕ → Writing → Placed Component → List ℕ
put_one area w m = sets (sets area (w.literals + w.offset) (literal_bytes m)) w.at (component_bytes w.offset m)

abbrev pub written_one : Writing → Placed Component → Writing
written_one w m = record { at = w.at + sizes.component; literals = w.literals; offset = w.offset + length (literal_bytes m) }

-- what is to be written from one place is what is to be written from another
pub record Same (area : List ℕ) (w : Writing) (ms : List (Placed Component)) (area₁ : List ℕ) (w₁ : Writing) (ms₁ : List (Placed Component)) : Type 0 where
  pub bytes : put_all area w ms ≡ put_all area₁ w₁ ms₁
  pub place : written_to w ms ≡ written_to w₁ ms₁
  pub room : Room area₁ w₁ ms₁

pub same_then : (a b c : List ℕ) (v w x : Writing) (ls ms ns : List (Placed Component)) → Same a v ls b w ms → Same b w ms c x ns → Same a v ls c x ns
same_then a b c v w x ls ms ns p q = record { bytes = p.bytes ∙ q.bytes; place = p.place ∙ q.place; room = q.room }

pub length_blocks : (at : ℕ) (ms : List (Placed Component)) → length (components_bytes at ms) ≡ sizes.component * length ms
unfolding components_bytes
length_blocks at [] = refl
length_blocks at (m ∷ ms) =
    let a = length_component at m in
    let b = length_blocks (at + length (literal_bytes m)) ms in
    let e = length-append (component_bytes at m) (components_bytes (at + length (literal_bytes m)) ms) in
    omega arith

pub length_literals : (m : Placed Component) (ms : List (Placed Component)) → length (literals_of (m ∷ ms)) ≡ length (literal_bytes m) + length (literals_of ms)
unfolding joined
length_literals m ms = length-append (literal_bytes m) (literals_of ms)

module _ (area : List ℕ) (w : Writing) (m : Placed Component) (ms : List (Placed Component)) (room : Room area w (m ∷ ms)) where
  abbrev L : List ℕ
  L = literal_bytes m

  abbrev B : List ℕ
  B = component_bytes w.offset m

  abbrev CB : List ℕ
  CB = components_bytes (w.offset + length L) ms

  abbrev p : ℕ
  p = w.literals + w.offset

  longs : length (B ++ CB) ≡ sizes.component * suc (length ms)
  longs =
      let a = length_component w.offset m in
      let b = length_blocks (w.offset + length L) ms in
      let e = length-append B CB in
      omega arith

  apart : w.at + length (B ++ CB) ≤ p
  apart = let e = longs in let r = room.blocks in omega arith

  moved : sets (sets area w.at (B ++ CB)) p L ≡ sets (put_one area w m) (w.at + sizes.component) CB
  moved =
      sets_apart area w.at (B ++ CB) p L apart
      ∙ sym (sets_append (sets area p L) w.at B CB)
      ∙ ap (λ (n : ℕ). sets (put_one area w m) (w.at + n) CB) (length_component w.offset m)

  bytes_one : put_all area w (m ∷ ms) ≡ put_all (put_one area w m) (written_one w m) ms
  unfolding components_bytes joined
  bytes_one =
      sym (sets_append (sets area w.at (B ++ CB)) p L (literals_of ms))
      ∙ ap (λ (a : List ℕ). sets a (p + length L) (literals_of ms)) moved
      ∙ ap (λ (n : ℕ). sets (sets (put_one area w m) (w.at + sizes.component) CB) n (literals_of ms)) (add_assoc w.literals w.offset (length L))

  place_one : written_to w (m ∷ ms) ≡ written_to (written_one w m) ms
  place_one =
      let l = length_literals m ms in
      let a : w.at + sizes.component * suc (length ms) ≡ w.at + sizes.component + sizes.component * length ms = omega arith in
      let b : w.offset + length (literals_of (m ∷ ms)) ≡ w.offset + length L + length (literals_of ms) = omega arith in
      cc (a, b)

  room_one : Room (put_one area w m) (written_one w m) ms
  room_one =
      let l = length_literals m ms in
      let r = room.blocks in
      let s = room.literal_block in
      let t = room.offsets in
      let e : length (put_one area w m) ≡ length area = length-sets (sets area p L) w.at B ∙ length-sets area p L in
      record { blocks = omega arith; literal_block = omega arith; offsets = omega arith }

  pub same_one : Same area w (m ∷ ms) (put_one area w m) (written_one w m) ms
  same_one = record { bytes = bytes_one; place = place_one; room = room_one }
