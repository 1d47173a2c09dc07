-- Stage 1 of a whole run, with and without a range in brackets.
use Rattle.std.specs.Prelude as Std
use Rattle.std.specs.Prelude.{Err, ◌+◌}
use Rattle.std.proofs.Common.{◌≡◌, ◌<◌, ◌≤◌, sym, ap, ◌∙◌, subst, arith}
use Rattle.definition.specs.Prelude.{ℕ, none, some, List, [], length}
use Rattle.definition.specs.Text.{Item, items}
use Rattle.definition.specs.Component.{Split, split_range, parse_component}
use Rattle.stages.specs.token_tree.Table.{kind_in, start_in, skip_in}
use Rattle.stages.specs.token_tree.Laid.{Laid, Runs}
use Rattle.stages.specs.component.Parse.{parse_items}
use Rattle.stages.specs.component.Values.{ComponentReads}
use Rattle.stages.specs.declared.token_tree.types.Tree.{Tree}
use Rattle.stages.specs.declared.component.types.Component.{Component}
use Rattle.errors.specs.declared.reasons.Reason.{Reason}
use Rattle.errors.specs.declared.reasons.Reason.TheVariants as Reasons
use Rattle.stages.proofs.token_tree.Places.{laid_order, laid_first}
use Rattle.stages.proofs.component.parse.Endings.{range_last, range_none, LastAt, last_kind, last_first}
use Rattle.stages.proofs.component.parse.Types.{parse_empty}

module _ (image : List ℕ) (t : Tree) (stop tail r : ℕ) (l : r < stop) where
  -- a run's text from its first record's start on
  pub plain_laid : (base s : ℕ) (is : List Item) (x : ℕ) → Laid image t base stop tail r s is → x ≡ start_in image t r
      → (1 ≤ length is) × Laid image t base stop tail r x is
  plain_laid base s is x h e =
      let f = laid_first image t base stop tail r s is l h in
      let n = ap {A = List Item} length f.parts in
      (omega (arith, n), subst (λ y. Laid image t base stop tail r y is) (sym (e ∙ f.stands.start)) h)

  pub plain_fits : (s x : ℕ) → Runs image t stop tail r s → x ≡ start_in image t r → (x < tail) × (t.text + tail ≤ length image)
  plain_fits s x w e =
      let f = laid_first image t w.base stop tail r s w.items l w.laid in
      let o = laid_order image t w.base stop tail (r + skip_in image t r) (s + length f.item.part.bytes) f.rest f.laid in
      let a = f.stands.start in
      let k = f.stands.some in
      (omega (arith, a, e, o.1, k), w.text_fits)

module _ (image : List ℕ) (t : Tree) (stop tail r last base s : ℕ) (is : List Item) (a : LastAt image t stop tail r last base s is) (k : ℕ)
    (e : k ≡ kind_in image t last) (bits : List ℕ) (q : Std.Result Component Reason) where
  by_split : (x : Split) → split_range is ≡ x → ComponentReads image t base q (parse_component x.mid x.range bits)
      → ComponentReads image t base q (parse_items is bits)
  by_split x p h = subst (ComponentReads image t base q) (ap (λ (y : Split). parse_component y.mid y.range bits) (sym p)) h

  kind_is : k ≡ a.item.kind
  kind_is = last_kind image t stop tail r last base s is a k e

  pub items_plain : (k ≡ 3 → ⊥) → ComponentReads image t base q (parse_component is none bits) → ComponentReads image t base q (parse_items is bits)
  items_plain n h =
      by_split (record { mid = is; range = none })
      (ap split_range a.parts ∙ range_none a.mid a.item (λ z. n (kind_is ∙ z)) ∙ ap (λ m. record { mid = m; range = none }) (sym a.parts)) h

  bracket_split : k ≡ 3 → split_range is ≡ record { mid = a.mid; range = some (items a.item.inside_at a.item.inside) }
  bracket_split n = ap split_range a.parts ∙ range_last a.mid a.item (sym kind_is ∙ n)

  pub items_lone : k ≡ 3 → last ≡ r → q ≡ Err Reasons.NothingBeforeRange → ComponentReads image t base q (parse_items is bits)
  items_lone n z f =
      let m = last_first image t stop tail r last base s is a z in
      let rest = some (items a.item.inside_at a.item.inside) in
      by_split (record { mid = []; range = rest }) (bracket_split n ∙ ap (λ x. record { mid = x; range = rest }) m)
      (rw f (record { is = parse_empty rest bits; held = tt }))

  pub items_bracket : k ≡ 3 → ComponentReads image t base q (parse_component a.mid (some (items a.item.inside_at a.item.inside)) bits)
      → ComponentReads image t base q (parse_items is bits)
  items_bracket n h = by_split (record { mid = a.mid; range = some (items a.item.inside_at a.item.inside) }) (bracket_split n) h
