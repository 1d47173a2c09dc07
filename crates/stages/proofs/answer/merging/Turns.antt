-- The walk over a concatenation: as it begins, component after component, and as it ends.
use Rattle.std.specs.Prelude.{◌+◌, ◌∷◌}
use Rattle.std.proofs.Common.{◌≡◌, ◌<◌, get_or, drop, length, sym, refl, ◌∙◌, subst, ap₂, add-zero}
use Rattle.std.proofs.lemmas.List.{drop_more}
use Rattle.definition.specs.Prelude.{ℕ, none, List, []}
use Rattle.definition.specs.Basics.{joined}
use Rattle.definition.specs.Image.{Placed}
use Rattle.definition.specs.Component as Def
use Rattle.definition.specs.Concatenation.{merge}
use Rattle.definition.specs.Answer.{components_bytes}
use Rattle.answer_facts.specs.fits.Fixed.{Fixed, AllFixed, one_more}
use Rattle.answer_facts.specs.merge.Runs.{closed, merge_from, from_end}
use Rattle.answer_facts.proofs.merge.Runs.{merge_from_lem}
use Rattle.stages.specs.ranges.Values.{Tree}
use Rattle.stages.specs.component.Kept.{Is, Are}
use Rattle.stages.specs.answer.merging.Put.{put_all, written_to, Room}
use Rattle.stages.specs.answer.merging.Blocks.{Same, same_then}
use Rattle.stages.specs.answer.merging.State.{closed_at, CloseIs, Goes, StepIs, Writable, Closable}
use Rattle.stages.specs.declared.component.types.Component.{Component}
use Rattle.stages.specs.declared.answer.merging.Writing.{Writing}
use Rattle.stages.specs.declared.answer.merging.Merging.{Merging}
use Rattle.stages.proofs.answer.merging.Closing.{holds_none, written_none}

-- these components are left: what is to be written of them gives the whole
pub record Midway (image : List ℕ) (t : Tree) (comps : List Component) (base : List ℕ) (w : Writing) (ms : List (Placed Def.Component)) (after : List ℕ) (r : Merging) : Type 0 where
  pub left : List (Placed Def.Component)
  pub are : Are image t comps left
  pub fixed : AllFixed left
  pub goes : Goes base w ms left after r

pub nothing_put : (area : List ℕ) (w : Writing) → put_all area w [] ≡ area
unfolding components_bytes joined
nothing_put area w = refl

pub nothing_written : (w : Writing) → written_to w [] ≡ w
unfolding joined
nothing_written w = ap₂ (λ (x y : ℕ). record { at = x; literals = w.literals; offset = y }) (add-zero w.at) (add-zero w.offset)

module _ (image : List ℕ) (t : Tree) where
  pub walk_starts : (comps : List Component) (w : Writing) (area : List ℕ) (cs : List (Placed Def.Component)) → Are image t comps cs → AllFixed cs
      → Room area w (merge cs) → Midway image t comps area w (merge cs) area (closed_at w)
  walk_starts comps w area cs are f room =
      let m : merge_from none cs ≡ merge cs = merge_from_lem none cs f in
      record {
        left = cs;
        are = are;
        fixed = f;
        goes = record {
          area = area;
          run = none;
          holds = holds_none area w;
          same = subst (λ (ms : List (Placed Def.Component)). Same area w (merge cs) area w ms) (sym m) (record { bytes = refl; place = refl; room = room });
        };
      }

  module _ (base : List ℕ) (w : Writing) (ms : List (Placed Def.Component)) (area : List ℕ) (s : Merging) where
    -- the first of those that are left, and the others
    record First (c : Component) (comps : List Component) : Type 0 where
      d : Placed Def.Component
      rest : List (Placed Def.Component)
      one : Is image t c d
      others : Are image t comps rest
      fixed : Fixed d
      all_fixed : AllFixed rest
      goes : Goes base w ms (d ∷ rest) area s

    first_of : (c : Component) (comps : List Component) → Midway image t (c ∷ comps) base w ms area s → First c comps
    first_of c comps mid = go mid.left mid.are mid.fixed mid.goes
      where
        go : (left : List (Placed Def.Component)) → Are image t (c ∷ comps) left → AllFixed left → Goes base w ms left area s → First c comps
        go [] a f goes = absurd a
        go (d ∷ rest) (one, others) (one_more f fs) goes =
            record { d = d; rest = rest; one = one; others = others; fixed = f; all_fixed = fs; goes = goes }

    to_put : (c : Component) (comps : List Component) → Midway image t (c ∷ comps) base w ms area s
        → (t : Tree) × (d : Placed Def.Component) × (cs : List (Placed Def.Component)) × Is image t c d × Fixed d × Writable area s (d ∷ cs)
    to_put c comps mid =
        let f = first_of c comps mid in
        (t, f.d, f.rest, f.one, f.fixed, record { base = f.goes.area; run = f.goes.run; holds = f.goes.holds; room = f.goes.same.room })

    pub put_at : (comps : List Component) (i : ℕ) (x : Component) → i < length comps → Midway image t (drop i comps) base w ms area s
        → (t : Tree) × (d : Placed Def.Component) × (cs : List (Placed Def.Component)) × Is image t (get_or comps i x) d × Fixed d × Writable area s (d ∷ cs)
    put_at comps i x h mid = to_put (get_or comps i x) (drop (i + 1) comps) (rw (drop_more comps i x h) at mid)

    walk_goes : (c : Component) (comps : List Component) (after : List ℕ) (r : Merging)
        → ((t : Tree) (d : Placed Def.Component) → Is image t c d → Fixed d → StepIs d s r area after) → Midway image t (c ∷ comps) base w ms area s
        → Midway image t comps base w ms after r
    walk_goes c comps after r step mid = go (first_of c comps mid)
      where
        go : First c comps → Midway image t comps base w ms after r
        go f =
            let on = step t f.d f.one f.fixed f.goes.area f.goes.run f.rest f.goes.holds f.fixed.bits f.goes.same.room in
            record {
              left = f.rest;
              are = f.others;
              fixed = f.all_fixed;
              goes = record {
                area = on.area;
                run = on.run;
                holds = on.holds;
                same = same_then base f.goes.area on.area w s.w r.w ms (merge_from f.goes.run (f.d ∷ f.rest)) (merge_from on.run f.rest)
                    f.goes.same on.same;
              };
            }

    pub goes_at : (comps : List Component) (i : ℕ) (x : Component) (after : List ℕ) (r : Merging) → i < length comps
        → ((t : Tree) (d : Placed Def.Component) → Is image t (get_or comps i x) d → Fixed d → StepIs d s r area after)
        → Midway image t (drop i comps) base w ms area s → Midway image t (drop (i + 1) comps) base w ms after r
    goes_at comps i x after r h step mid =
        walk_goes (get_or comps i x) (drop (i + 1) comps) after r step (rw (drop_more comps i x h) at mid)

    none_left : (comps : List Component) → comps ≡ [] → Midway image t comps base w ms area s → Goes base w ms [] area s
    none_left comps e mid = go mid.left (rw e at mid.are) mid.goes
      where
        go : (left : List (Placed Def.Component)) → Are image t [] left → Goes base w ms left area s → Goes base w ms [] area s
        go [] a goes = goes
        go (d ∷ rest) a goes = absurd a

    at_end : (goes : Goes base w ms [] area s) → Same base w ms goes.area s.w (closed goes.run [])
    at_end goes = subst (λ (l : List (Placed Def.Component)). Same base w ms goes.area s.w l) (from_end goes.run) goes.same

    pub to_end : (comps : List Component) → comps ≡ [] → Midway image t comps base w ms area s → (ms : List (Placed Def.Component)) × Closable area s ms
    to_end comps e mid =
        let goes = none_left comps e mid in
        ([], record { base = goes.area; run = goes.run; holds = goes.holds; room = (at_end goes).room })

    pub walk_ends : (comps : List Component) (after : List ℕ) (r : Writing) → comps ≡ [] → CloseIs s r area after → Midway image t comps base w ms area s
        → (after ≡ put_all base w ms) × (r ≡ written_to w ms)
    walk_ends comps after r e close mid =
        let goes = none_left comps e mid in
        let same = at_end goes in
        let cl = close goes.area goes.run [] goes.holds same.room in (
          written_none cl.area after r cl.holds ∙ sym (nothing_put cl.area r) ∙ sym cl.same.bytes ∙ sym same.bytes,
          sym (nothing_written r) ∙ sym cl.same.place ∙ sym same.place,
        )
