-- What one token adds to the image, and what the tokens of a component do.
use Rattle.std.specs.Prelude.{◌≡◌, ◌≤◌, ◌<◌, ◌+◌, ◌*◌, ◌-◌, ◌^◌, ◌∷◌, ◌++◌, if◌then◌else◌}
use Rattle.std.proofs.lemmas.List.Edits.{sets}
use Rattle.std.proofs.Math.Seq.{slice}
use Rattle.definition.specs.Prelude.{ℕ, true, List, [], length}
use Rattle.definition.specs.Characters.{char}
use Rattle.definition.specs.Limits.{limits}
use Rattle.definition.specs.Image.{Rec, kinds, delimiter}
use Rattle.definition.specs.Tree.{text_of, record_bytes}
use Rattle.definition.specs.TokenStream.{leaf_text}
use Rattle.definition.specs.Tokens.{Token, single, opener, closer, kind_at, token_at, tokens, count, tokens_right}
use Rattle.image.specs.writer.Written.{record_row}
use Rattle.token_facts.specs.Flat.{joins, inner, pushed, innermost, popped, emit, deepest}
use Rattle.token_stream.specs.list.Tokens.{goes_on}
use Rattle.token_stream.specs.declared.write.component.Mark.{Mark}
use Rattle.token_stream.specs.declared.write.component.Pen.{Pen}

-- ---- one token

-- its text, `o` being the open groups' kinds and ts the tokens after it
abbrev pub token_bytes : ℕ → Token → List Token → List ℕ
token_bytes o (single a) ts = if joins a ts then leaf_text a ++ char.space ∷ [] else leaf_text a
token_bytes o (opener k) ts = (delimiter k).opening ∷ []
token_bytes o closer ts = (delimiter (innermost o)).closing ∷ []

-- the row of the record that ends with it, if one does; the record's text starts at `start` of the image's text
abbrev pub token_row : Token → List Token → ℕ → List ℕ
token_row (single a) ts start = if joins a ts then [] else record_row kinds.chars start 1
token_row (opener k) ts start = record_row k start (2 + inner 0 ts)
token_row closer ts start = record_row kinds.closer start 1

abbrev pub open_after : ℕ → Token → ℕ
open_after o (single a) = o
open_after o (opener k) = pushed o k
open_after o closer = popped o

-- what token t leaves, the text table standing at `base`
pub record StepIs (base : ℕ) (t : Token) (ts : List Token) (area area' : List ℕ) (m m' : Mark) : Type 0 where
  pub area_is : area' ≡ sets (sets area m.text (token_bytes m.groups t ts)) m.record (token_row t ts (m.start - base))
  pub record_is : m'.record ≡ m.record + length (token_row t ts (m.start - base))
  pub text_is : m'.text ≡ m.text + length (token_bytes m.groups t ts)
  pub start_is : m'.start ≡ (if goes_on t ts then m.start else m.text + length (token_bytes m.groups t ts))
  pub groups_is : m'.groups ≡ open_after m.groups t

-- what it asks for: no sum wraps
pub record StepFits (list text : List ℕ) (base k e : ℕ) (m : Mark) : Type 0 where
  pub right : tokens_right list text ≡ true
  pub order : k < e
  pub stops : e ≤ count list
  pub few : e < 2 ^ 31
  pub record_low : m.record < 2 ^ 40
  pub text_low : m.text < 2 ^ 40
  pub begun : base ≤ m.start
  pub start_low : m.start < base + 2 ^ 32
  pub nests : open_after m.groups (token_at list text k) < 2 ^ 64

-- a token that is no group's
pub record LeafFits (list text : List ℕ) (base k e : ℕ) (m : Mark) : Type 0 where
  pub step : StepFits list text base k e m
  pub leaf : kind_at list k < 3

-- a record ends at place `at` of the text
pub record EndFits (base : ℕ) (m : Mark) : Type 0 where
  pub record_low : m.record < 2 ^ 40
  pub text_low : m.text < 2 ^ 40
  pub begun : base ≤ m.start
  pub start_low : m.start < base + 2 ^ 32

pub record EndIs (base kind skip at groups' : ℕ) (area area' : List ℕ) (m m' : Mark) : Type 0 where
  pub area_is : area' ≡ sets area m.record (record_row kind (m.start - base) skip)
  pub record_is : m'.record ≡ m.record + 12
  pub text_is : m'.text ≡ at
  pub start_is : m'.start ≡ at
  pub groups_is : m'.groups ≡ groups'

-- an opener's or a closer's byte b, and its record
abbrev pub DelimiterIs : ℕ → ℕ → ℕ → ℕ → ℕ → List ℕ → List ℕ → Mark → Mark → Type 0
DelimiterIs base b kind skip groups' area area' m m' = EndIs base kind skip (m.text + 1) groups' (sets area m.text (b ∷ [])) area' m m'

-- ---- the tokens s to e

abbrev pub span_recs : List ℕ → List ℕ → ℕ → ℕ → List Rec
span_recs list text s e = emit 0 [] (slice s e (tokens list text))

pub record SpanFits (list text : List ℕ) (base s e : ℕ) (pen : Pen) : Type 0 where
  pub right : tokens_right list text ≡ true
  pub order : s ≤ e
  pub stops : e ≤ count list
  pub few : e < 2 ^ 31
  pub low : base < 2 ^ 32
  pub records_fit : pen.records + 12 * length (span_recs list text s e) ≤ base
  pub begun : base ≤ pen.text
  pub text_fits : pen.text + length (text_of (span_recs list text s e)) ≤ base + limits.text
  pub nests : deepest 0 (slice s e (tokens list text)) ≤ limits.depth

pub record SpanIs (base : ℕ) (rs : List Rec) (pen : Pen) (area area' : List ℕ) (m : Mark) : Type 0 where
  pub area_is : area' ≡ sets (sets area pen.text (text_of rs)) pen.records (record_bytes (pen.text - base) rs)
  pub record_is : m.record ≡ pen.records + 12 * length rs
  pub text_is : m.text ≡ pen.text + length (text_of rs)
