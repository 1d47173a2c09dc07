-- Document 01, "Edge readings": the twelve starred ones as one table, which one theorem covers.
use Rattle.std.specs.Prelude.{◌≡◌, refl, ◌∷◌}
use Rattle.definition.specs.Prelude.{ℕ, false, Option, none, some, List, [], map, String, ℤ, pos, negsuc}
use Rattle.definition.specs.Basics.{Result, ok, refused, refusal_of, ◌>>=◌, same_bytes, sum, all, joined, tab, ascii}
use Rattle.definition.specs.Numbers.{try_parse, half128, digit_worth, digits_from, inner, unsigned_parse}
use Rattle.definition.specs.Image.{kinds}
use Rattle.definition.specs.Tree.{Forest, end, word, group, flat, text_of}
use Rattle.definition.specs.Text.{items, chunks, items_of, bytes_of}
use Rattle.definition.specs.Ranges.{Usb, Usbr, parse_usb, parse_range, cut_last, cut_pair, read_bound, scan_from}
use Rattle.definition.specs.Component.{Component, stage1_component, simplify, simplify_usb, simplify_range, simplify_literal, split_range, split_colon, parse_component}

-- a text's bound or range as a reader would say it: a text and a number
pub record Said : Type 0 where
  pub text : List ℕ
  pub x : ℤ

pub data Reading : Type 0 where
  no_number : Reading
  number : ℤ → Reading
  reads_bound : Said → Reading
  reads_range : Said → Option Said → Reading
  is_refused : ℕ → Reading

-- what is read: a number; a bound or a range, from its records; a literal of 8 bits with a bracket
pub data Sample : Type 0 where
  as_number : String → Sample
  as_bound : Forest → Sample
  as_range : Forest → Sample
  on_literal : Forest → Sample

abbrev pub said_bound : Usb → Said
said_bound u = record { text = u.s.bytes; x = u.x }

abbrev pub said_range : Usbr → Reading
said_range r = reads_range (said_bound r.start) (elim r.«end» [ none ↦ none | some e ↦ some (said_bound e) ])

abbrev pub reading_of : {A : Type 0} → (A → Reading) → Result A → Reading
reading_of f (ok a) = f a
reading_of f (refused q) = is_refused q.number

abbrev pub simplified : Option Usbr → Result Usbr
simplified none = refused (refusal_of 0 0 0)
simplified (some r) = simplify_range r

-- both stages of the literal `0u8` with a bracket
abbrev pub literal_with : Forest → Result Component
literal_with f =
    stage1_component false (record { recs = flat (word (ascii "0u8") (group kinds.bracket f end)); bits = tab (λ i. 0) 0 8 }) >>= simplify

unfoldable pub reading_for : Sample → Reading
unfolding try_parse half128 digit_worth digits_from inner unsigned_parse same_bytes sum all joined tab ascii flat text_of chunks items_of bytes_of parse_usb parse_range cut_last cut_pair read_bound scan_from simplify simplify_usb simplify_range simplify_literal split_range split_colon parse_component
reading_for (as_number s) = elim (try_parse (ascii s)) [ none ↦ no_number | some z ↦ number z ]
reading_for (as_bound f) = reading_of (λ u. reads_bound (said_bound u)) (parse_usb (items 0 (flat f)))
reading_for (as_range f) = reading_of said_range (parse_range (items 0 (flat f)) >>= simplified)
reading_for (on_literal f) = reading_of (λ c. said_range c.range) (literal_with f)

-- records of one text each
unfoldable pub tokens : List String → Forest
tokens [] = end
tokens (s ∷ ss) = word (ascii s) (tokens ss)

abbrev pub parenthesised : List String → Forest
parenthesised ss = group kinds.parenthesis (tokens ss) end

abbrev pub sum_of : String → ℤ → Said
sum_of s x = record { text = ascii s; x = x }

unfoldable pub table : List (Sample × Reading)
table =
    (as_number "07", number (pos 7))
    ∷ (as_number "007", no_number)
    ∷ (as_number "--5", number (pos 5))
    ∷ (as_number "0x-5", number (negsuc 4))
    ∷ (as_number "0x", no_number)
    ∷ (as_number "-170141183460469231731687303715884105728", no_number)
    ∷ (as_bound (parenthesised []), reads_bound (sum_of "" (pos 0)))
    ∷ (as_bound (parenthesised ("a" ∷ "-" ∷ [])), reads_bound (sum_of "a" (pos 0)))
    ∷ (as_bound (parenthesised ("10" ∷ "-" ∷ "n" ∷ [])), reads_bound (sum_of "-n" (pos 10)))
    ∷ (as_range (tokens ("5" ∷ "." ∷ "." ∷ "=" ∷ [])), reads_range (sum_of "" (pos 5)) none)
    ∷ (as_range (tokens ("1" ∷ "." ∷ "." ∷ "2" ∷ "." ∷ "." ∷ "3" ∷ [])), is_refused 13)
    ∷ (on_literal (tokens ("a" ∷ "." ∷ "." ∷ "0" ∷ [])), is_refused 27)
    ∷ []

-- the twelve readings
pub readings : map (λ (e : Sample × Reading). reading_for e.0) table ≡ map (λ (e : Sample × Reading). e.1) table
unfolding reading_for table tokens
readings = refl
