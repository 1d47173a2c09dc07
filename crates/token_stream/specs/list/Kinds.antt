-- What the walks ask of a token, by the numbers of its entry.
use Rattle.std.specs.Prelude.{◌≡◌, ◌≢◌, ◌<◌, ◌+◌, ◌-◌, ◌&&◌, if◌then◌else◌}
use Rattle.definition.specs.Prelude.{ℕ, suc, Bool, List, get_or, ltb, eqb}
use Rattle.definition.specs.Tokens.{kind_at, text_start}
use Rattle.token_stream.specs.declared.list.Kind.{Kind}
use Rattle.token_stream.specs.declared.list.Kind.TheVariants.{Identifier, Punctuation, Literal, Opener, Closer}

-- the kind of this number; an opener's is document 01's of its group
abbrev pub KindIs : Kind → ℕ → Type 0
KindIs Identifier n = n ≡ 0
KindIs Punctuation n = n ≡ 1
KindIs Literal n = n ≡ 2
KindIs (Opener k) n = (2 < n) × (n ≢ 7) × (k + 2 ≡ n)
KindIs Closer n = n ≡ 7

-- how many groups are open after a token, or, backwards, before it
abbrev pub after_kind : ℕ → ℕ → ℕ
after_kind d kind = if eqb kind 7 then d - 1 else if ltb 2 kind then suc d else d

abbrev pub before_kind : ℕ → ℕ → ℕ
before_kind d kind = if eqb kind 7 then suc d else if ltb 2 kind then d - 1 else d

-- token k is this punctuation, and no group is open
abbrev pub divides_by : List ℕ → List ℕ → ℕ → ℕ → ℕ → Bool
divides_by list text k d b = eqb d 0 && eqb (kind_at list k) 1 && eqb (get_or text (text_start list k) 0) b

-- tokens k and k + 1, both before e, are identifiers
abbrev pub joined_by : List ℕ → ℕ → ℕ → Bool
joined_by list k e = ltb (k + 1) e && eqb (kind_at list k) 0 && eqb (kind_at list (k + 1)) 0
