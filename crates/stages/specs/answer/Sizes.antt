-- How many bytes each block of the answer area has.
use Rattle.std.specs.Prelude.{◌≡◌, ℕ, ◌/◌, ◌%◌, ◌^◌, List, [], ◌∷◌, length, ℤ, refl}
use Rattle.std.proofs.Common.{arith, length-append}
use Rattle.std.proofs.Math.Option.{Option, none, some}
use Rattle.definition.specs.Limits.{sizes}
use Rattle.definition.specs.Image.{Placed}
use Rattle.definition.specs.Text.{Part}
use Rattle.definition.specs.Ranges.{Usb}
use Rattle.definition.specs.Component.{Component, ComponentType, literal, variable, filler}
use Rattle.definition.specs.Concatenation.{Concatenation}
use Rattle.definition.specs.Answer.{Answer, twos, text_bytes, x_bytes, usb_bytes, type_bytes, component_bytes, concatenation_bytes, head_bytes}
use Rattle.laws.specs.Lists.{length_tab}

pub length_text : (base : ℕ) (d : Part) → length (text_bytes base d) ≡ 8
length_text base d = go d.bytes
  where
    go : (s : List ℕ) → length (text_bytes base (record { at = d.at; bytes = s })) ≡ 8
    go [] = refl
    go (b ∷ s) = refl

pub length_x : (z : ℤ) → length (x_bytes z) ≡ 16
length_x z = length_tab (λ i. twos z / 256 ^ i % 256) 0 16

pub length_usb : (base : ℕ) (u : Usb) → length (usb_bytes base u) ≡ 24
length_usb base u =
    let a = length_text base u.s in
    let b = length_x u.x in
    simp length-append (omega arith)

pub length_concatenation : (c : Concatenation) → length (concatenation_bytes c) ≡ sizes.concatenation
length_concatenation c = refl

pub length_head : (a : Answer) → length (head_bytes a) ≡ sizes.head
length_head a = go a.init
  where
    go : (i : Option (Placed Part)) → length (head_bytes (record { init = i; overall = a.overall; cc = a.cc })) ≡ 32
    go none = refl
    go (some p) = let e = length_text p.base p.value in simp length-append (omega arith)

length_type : (base at : ℕ) (t : ComponentType) → length (type_bytes base at t) ≡ 20
length_type base at (literal bits) = refl
length_type base at (variable p) = let e = length_text base p in simp length-append (omega arith)
length_type base at filler = refl

pub length_component : (at : ℕ) (c : Placed Component) → length (component_bytes at c) ≡ sizes.component
length_component at c =
    let front = length_type c.base at c.value.c_type in
    let text = length_text c.base c.value.range.start.s in
    let x = length_x c.value.range.start.x in
    go c.value.range.«end» front text x
  where
    placed : Option Usb → Placed Component
    placed e = record { base = c.base; value = record { c_type = c.value.c_type; range = record { start = c.value.range.start; «end» = e } } }

    go : (e : Option Usb) → length (type_bytes c.base at c.value.c_type) ≡ 20 → length (text_bytes c.base c.value.range.start.s) ≡ 8
        → length (x_bytes c.value.range.start.x) ≡ 16 → length (component_bytes at (placed e)) ≡ 72
    go none front text x = let l = length_tab {A = ℕ} (λ i. 0) 0 24 in simp length-append (omega arith)
    go (some e) front text x =
        let t = length_text c.base e.s in
        let y = length_x e.x in
        simp length-append (omega arith)
