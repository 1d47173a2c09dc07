-- The image of a tree, laid out: its six parts, where each stands, and the numbers of the header.
use Rattle.std.specs.Prelude.{◌≡◌, refl, ℕ, suc, ◌+◌, ◌*◌, ◌^◌, ◌≤◌, ◌∷◌, ◌++◌}
use Rattle.std.proofs.Common.{◌∙◌, zero-add, arith}
use Rattle.std.proofs.Math.ListN.{length-append}
use Rattle.definition.specs.Prelude.{true, List, [], map, length, leb, ltb}
use Rattle.definition.specs.Basics.{all, joined, tab}
use Rattle.definition.specs.Limits.{limits}
use Rattle.definition.specs.Image.{u32_at, tables_for}
use Rattle.definition.specs.Tree.{Tree, Node, recs_of, all_recs, text_of, literals_of, u32, record_bytes, image_of, fits, sound_node}
use Rattle.laws.specs.Rows.{length_rows, length_record_bytes}
use Rattle.laws.specs.Tests.{leb_iff, tested}
use Rattle.prepared.specs.Bytes.{Holds, holds_whole, holds_left, holds_right, u32_at_holds}
use Rattle.prepared.specs.Tables.{rows_read}

-- a tree within the limits, limit by limit
pub record Fits (t : Tree) : Type 0 where
  pub some_concatenation : 1 ≤ length t
  pub concatenations : length t ≤ limits.concatenations
  pub some_component : all (λ c. leb 1 (length c)) t ≡ true
  pub components : length (joined t) ≤ limits.components
  pub records : length (all_recs (joined t)) ≤ limits.records
  pub text : length (text_of (all_recs (joined t))) ≤ limits.text
  pub literals : length (literals_of (joined t)) ≤ limits.literal_bytes
  pub sound : all sound_node (joined t) ≡ true

pub fits_parts : (t : Tree) → fits t ≡ true → Fits t
unfolding fits
fits_parts t h =
    let h' = simp tested at h in
    record {
      some_concatenation = h'.0.0.0.0.0.0.0;
      concatenations = h'.0.0.0.0.0.0.1;
      some_component = h'.0.0.0.0.0.1;
      components = h'.0.0.0.0.1;
      records = h'.0.0.0.1;
      text = h'.0.0.1;
      literals = h'.0.1;
      sound = h'.1;
    }

-- the rows of the tables of concatenations and components
abbrev pub concatenation_row : List Node → List ℕ
concatenation_row c = u32 (length c)

abbrev pub component_row : Node → List ℕ
component_row n = u32 (length (recs_of n)) ++ u32 (length n.bits)

-- where the tables of a tree's image stand
abbrev pub tables_of : Tree → record { concatenations : ℕ; components : ℕ; records : ℕ; text : ℕ; literals : ℕ; stop : ℕ }
tables_of t =
    tables_for (length t) (length (joined t)) (length (all_recs (joined t))) (length (text_of (all_recs (joined t)))) (length (literals_of (joined t)))

-- "counts, then the offsets of five tables"
abbrev pub header : Tree → List ℕ
header t =
    let at = tables_of t in
    length t ∷ length (joined t) ∷ length (all_recs (joined t)) ∷ length (text_of (all_recs (joined t))) ∷ length (literals_of (joined t))
    ∷ at.concatenations ∷ at.components ∷ at.records ∷ at.text ∷ at.literals ∷ []

-- s is laid out as the image of t: the header's ten numbers, and the five tables
pub record Layout (t : Tree) (s : List ℕ) : Type 0 where
  pub header_read : tab (λ k. u32_at s (0 + 4 * k)) 0 10 ≡ header t
  pub concatenations : Holds s (tables_of t).concatenations (joined (map concatenation_row t))
  pub components : Holds s (tables_of t).components (joined (map component_row (joined t)))
  pub records : Holds s (tables_of t).records (record_bytes 0 (all_recs (joined t)))
  pub text : Holds s (tables_of t).text (text_of (all_recs (joined t)))
  pub literals : Holds s (tables_of t).literals (literals_of (joined t))
  pub size : length s ≡ (tables_of t).stop

-- a list in six parts, each at its place
module _ (a b c d e f : List ℕ) (i j k l m : ℕ) where
  six : List ℕ
  six = a ++ b ++ c ++ d ++ e ++ f

  six_parts : length a ≡ i → i + length b ≡ j → j + length c ≡ k → k + length d ≡ l → l + length e ≡ m
      → Holds six 0 a × Holds six i b × Holds six j c × Holds six k d × Holds six l e × Holds six m f × (length six ≡ m + length f)
  unfolding six
  six_parts pi pj pk pl pm =
      let pj : length (a ++ b) ≡ j = length-append a b ∙ rw pi pj in
      let pk : length (a ++ b ++ c) ≡ k = length-append (a ++ b) c ∙ rw pj pk in
      let pl : length (a ++ b ++ c ++ d) ≡ l = length-append (a ++ b ++ c) d ∙ rw pk pl in
      let pm : length (a ++ b ++ c ++ d ++ e) ≡ m = length-append (a ++ b ++ c ++ d) e ∙ rw pl pm in
      let h₅ = holds_left six 0 (a ++ b ++ c ++ d ++ e) f (holds_whole six) in
      let h₄ = holds_left six 0 (a ++ b ++ c ++ d) e h₅ in
      let h₃ = holds_left six 0 (a ++ b ++ c) d h₄ in
      let h₂ = holds_left six 0 (a ++ b) c h₃ in (
        holds_left six 0 a b h₂,
        second a b h₂ pi,
        second (a ++ b) c h₃ pj,
        second (a ++ b ++ c) d h₄ pk,
        second (a ++ b ++ c ++ d) e h₅ pl,
        second (a ++ b ++ c ++ d ++ e) f (holds_whole six) pm,
        rw (← pm) (length-append (a ++ b ++ c ++ d ++ e) f),
      )
    where
      second : (x y : List ℕ) {i : ℕ} → Holds six 0 (x ++ y) → length x ≡ i → Holds six i y
      second x y h e = rw (zero-add, e) at (holds_right six 0 x y h)

-- the header's ten numbers, read back
header_holds : (t : Tree) (s : List ℕ) → Fits t → Holds s 0 (joined (map u32 (header t))) → tab (λ k. u32_at s (0 + 4 * k)) 0 10 ≡ header t
unfolding all
header_holds t s fits h =
    rows_read 4 u32 (λ a. refl) (λ a. ltb a (2 ^ 32)) s 0 (u32_at s) (λ a. a)
    (λ i a g p. u32_at_holds s i a p ((leb_iff (suc a) (2 ^ 32)).0 g)) 0 (header t)
    (simp tested
    (omega arith, (omega arith, (omega arith, (omega arith, (omega arith, (omega arith, (omega arith, (omega arith, (omega arith, (omega arith, refl)))))))))))
    h

pub layout : (t : Tree) → Fits t → Layout t (image_of t)
unfolding image_of six
layout t fits =
    let ns = joined t in
    let rs = all_recs ns in
    let at = tables_of t in
    let p = six_parts (joined (map u32 (header t))) (joined (map concatenation_row t)) (joined (map component_row ns)) (record_bytes 0 rs) (text_of rs)
    (literals_of ns) 40 at.components at.records at.text at.literals (length_rows 4 u32 (λ a. refl) (header t))
    (rw (length_rows 4 concatenation_row (λ a. refl) t)) (rw (length_rows 8 component_row (λ a. refl) ns)) (rw length_record_bytes) refl in
    record {
      header_read = header_holds t (image_of t) fits p.0;
      concatenations = p.1;
      components = p.2;
      records = p.3;
      text = p.4;
      literals = p.5;
      size = p.6;
    }
