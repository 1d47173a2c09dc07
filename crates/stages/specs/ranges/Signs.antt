-- The signs of a bound in code, and the definition's cuts: a cut by the record of its sign.
use Rattle.std.specs.Prelude as Std
use Rattle.std.specs.Prelude.{Some, None, ◌<◌, ◌+◌, ◌^◌, if◌then◌else◌}
use Rattle.std.specs.Option.{option_or}
use Rattle.definition.specs.Prelude.{ℕ, Option, none, some, List, length, eqb}
use Rattle.definition.specs.Characters.{char}
use Rattle.definition.specs.Text.{Item, is_token}
use Rattle.definition.specs.Ranges.{Cut, cut_last, cut_pair}
use Rattle.stages.specs.token_tree.Laid.{place_of}
use Rattle.stages.specs.declared.token_tree.types.Tree.{Tree}
use Rattle.stages.specs.declared.token_tree.types.PBind.{PBind}
use Rattle.stages.specs.declared.ranges.signs.Signs.{Signs}

abbrev pub record_at : ℕ → PBind
record_at n = record { 0 = n }

-- a record that another can follow
abbrev pub Early : Std.Option PBind → Type 0
Early None = Unit
Early (Some r) = r.0 < 2 ^ 31

abbrev paired_with : Std.Option PBind → ℕ → Std.Option PBind
paired_with None at = None
paired_with (Some m) at = if eqb (m.0 + 1) at then Some m else None

abbrev pub paired_by : Std.Option PBind → Std.Option PBind → ℕ → Std.Option PBind
paired_by (Some p) minus at = Some p
paired_by None minus at = paired_with minus at

abbrev pub signed_by : Signs → ℕ → ℕ → Signs
signed_by g at b =
    if eqb b 43 then record { plus = Some (record_at at); pair = g.pair; minus = g.minus }
    else if eqb b 45 then record { plus = g.plus; pair = paired_by g.pair g.minus at; minus = Some (record_at at) }
    else g

-- the one to cut at
abbrev pub cut_of : Signs → Std.Option PBind
cut_of g = option_or (option_or g.plus g.pair) g.minus

abbrev pub cut_place : List ℕ → Tree → ℕ → Option Cut → Std.Option PBind
cut_place image t r none = None
cut_place image t r (some c) = Some (record_at (place_of image t r (length c.before)))

-- what `signs_in` gives
abbrev pub signs_in : List ℕ → Tree → ℕ → List Item → Signs
signs_in image t r is =
    record {
      plus = cut_place image t r (cut_last (is_token char.plus) is);
      pair = cut_place image t r (cut_pair is);
      minus = cut_place image t r (cut_last (is_token char.minus) is);
    }
