-- Stage 1 keeps a literal's bits or drops them, and stage 2 takes a part of them.
use Rattle.std.specs.Prelude.{refl, ℕ, suc, ◌+◌, ◌≤◌, ◌<◌, ◌-ℤ◌}
use Rattle.std.proofs.Common.{zero-le, le_refl, arith, length-take, length-drop, get_or-take, get_or-drop}
use Rattle.definition.specs.Prelude.{Bool, not, Option, none, some, List, [], length, get_or, take, drop, ltb, ℤ, pos, nat_abs}
use Rattle.definition.specs.Basics.{ok, ◌>>=◌, is_empty, all}
use Rattle.definition.specs.Refusals.{need, nothing_before_range, no_literal}
use Rattle.definition.specs.Image.{Unparsed}
use Rattle.definition.specs.Text.{Item}
use Rattle.definition.specs.Ranges.{Usbr, val, static_val, unbounded, parse_range, single_bit}
use Rattle.definition.specs.Component.{Component, literal, filler, typed, is_literal, parse_component, middle, split_of, stage1_component, the_end, with_end, cut_literal}
use Rattle.definition.specs.Concatenation.{bits_of}
use Rattle.laws.specs.Tests.{leb_iff}
use Rattle.laws.specs.Lists.{all_by}
use Rattle.prepared.specs.Bits.{Bits, bit_bound}
use Rattle.answer_facts.specs.read.Facts.{Yields, given, after, yields_if}

-- bits, no more than the greatest width
abbrev pub Short : List ℕ → Type 0
Short bits = (length bits ≤ 4096) × Bits bits

short_slice : (bits : List ℕ) (n m : ℕ) → Short bits → Short (drop n (take m bits))
short_slice bits n m (l, b) = (
  simp (length-drop, length-take) (omega arith),
  all_by (λ x. ltb x 2) (drop n (take m bits)) 0 λ i h.
      let h' = simp (length-drop, length-take) at h in
      let k : n + i < m = omega arith in
      rw (get_or-drop n (take m bits) i 0, get_or-take m bits (n + i) 0 k) ((leb_iff (suc (get_or bits (n + i) 0)) 2).1 (bit_bound bits (n + i) b)),
)

-- a component made of these bits: its own are short, and no more
abbrev pub Kept : List ℕ → Component → Type 0
Kept bits c = Short (bits_of c) × (length (bits_of c) ≤ length bits)

-- no bits
pub nil_kept : (bits : List ℕ) → Short [] × (0 ≤ length bits)
unfolding all
nil_kept bits = ((zero-le, refl), zero-le)

-- ---- stage 1

typed_kept : (mid : List Item) (bits : List ℕ) (r : Usbr) → Short bits → Yields (Kept bits) (typed mid bits r)
typed_kept mid bits r h = yields_if (is_literal mid) (after (need (not (is_empty bits)) no_literal) λ _. given (h, le_refl (length bits))) (given (nil_kept bits))

parsed_kept : (mid : List Item) (range : Option (List Item)) (bits : List ℕ) → Short bits → Yields (Kept bits) (parse_component mid range bits)
unfolding parse_component
parsed_kept mid range bits h = after (need (not (is_empty mid)) nothing_before_range) λ _. go range
  where
    bare : (x : Option Usbr)
        → Yields (Kept bits) (elim x [ none ↦ typed mid bits unbounded | some r' ↦ ok (record { c_type = filler; range = r' }) ])
    bare none = typed_kept mid bits unbounded h
    bare (some r) = given (nil_kept bits)

    go : (range : Option (List Item))
        → Yields (Kept bits) (elim range [
          | some is ↦ (parse_range is >>= λ r. typed mid bits (elim r [ none ↦ single_bit is | some r' ↦ r' ]))
          | none ↦ (parse_range mid >>= λ r. elim r [ none ↦ typed mid bits unbounded | some r' ↦ ok (record { c_type = filler; range = r' }) ])
        ])
    go (some is) = after (parse_range is) λ r. typed_kept mid bits (elim r [ none ↦ single_bit is | some r' ↦ r' ]) h
    go none = after (parse_range mid) bare

pub stage1_kept : (scanned : Bool) (u : Unparsed) → Short u.bits → Yields (Kept u.bits) (stage1_component scanned u)
stage1_kept scanned u h = parsed_kept (middle scanned u) (split_of u).range u.bits h

-- ---- stage 2

pub cut_kept : (bits : List ℕ) (r : Usbr) → Short bits → Kept bits (cut_literal bits r)
cut_kept bits r h = go (static_val (the_end (length bits) r)) (static_val r.start)
  where
    go : (x y : Option ℤ)
        → Kept bits (elim x [
          | none ↦ record { c_type = literal bits; range = with_end (length bits) r }
          | some x ↦ elim y [
            | none ↦ record { c_type = literal (take (nat_abs x) bits); range = with_end (length bits) r }
            | some a ↦ record {
              c_type = literal (drop (nat_abs a) (take (nat_abs x) bits));
              range = record { start = val (pos 0); «end» = some (val (x -ℤ a)) };
            }
          ]
        ])
    go none y = (h, le_refl (length bits))
    go (some x) none = (short_slice bits 0 (nat_abs x) h, simp length-take (omega arith))
    go (some x) (some a) = (short_slice bits (nat_abs a) (nat_abs x) h, simp (length-drop, length-take) (omega arith))
