-- The merged components of every concatenation, one concatenation after the other.
use Rattle.std.specs.Prelude.{◌+◌, ◌∷◌, ◌++◌}
use Rattle.std.proofs.Common.{◌≡◌, ◌<◌, get_or, take, drop, sym, refl, ap, ◌∙◌, arith, length-append}
use Rattle.std.proofs.lemmas.List.{map-append}
use Rattle.definition.specs.Prelude.{ℕ, List, [], map, length}
use Rattle.definition.specs.Basics.{joined}
use Rattle.definition.specs.Image.{Placed}
use Rattle.definition.specs.Component as Def
use Rattle.definition.specs.Concatenation.{Concatenation, merge}
use Rattle.definition.specs.Answer.{literal_bytes}
use Rattle.laws.specs.Lists.{joined_append}
use Rattle.answer_facts.specs.fits.Fixed.{AllFixed, none_left, one_more}
use Rattle.answer_facts.specs.fits.Statement.{literals_of}
use Rattle.stages.specs.ranges.Values.{Tree}
use Rattle.stages.specs.token_tree.Table.{tree_in}
use Rattle.stages.specs.component.Kept.{Are}
use Rattle.stages.specs.concatenation.Heads.{HeadIs, HeadsAre, Lies}
use Rattle.stages.specs.answer.merging.Put.{put_all, written_to, Room, PutIs}
use Rattle.stages.specs.answer.merging.Blocks.{put_one, written_one, Same, same_then, same_one}
use Rattle.stages.specs.answer.Stage5.{merged_all, comps_of}
use Rattle.stages.specs.declared.component.types.Component.{Component}
use Rattle.stages.specs.declared.concatenation.stage3.Concatenation.{Concatenation as Head}
use Rattle.stages.specs.declared.answer.merging.Writing.{Writing}
use Rattle.stages.proofs.answer.heads.Listed.{First, first_at}
use Rattle.stages.proofs.answer.merging.Turns.{nothing_put, nothing_written}

literals_append : (a b : List (Placed Def.Component)) → literals_of (a ++ b) ≡ literals_of a ++ literals_of b
literals_append a b = ap joined (map-append literal_bytes a b) ∙ joined_append (map literal_bytes a) (map literal_bytes b)

-- room for some, and for the first of them
room_first : (area : List ℕ) (w : Writing) (a b : List (Placed Def.Component)) → Room area w (a ++ b) → Room area w a
room_first area w a b r =
    let n = length-append a b in
    let l : length (literals_of (a ++ b)) ≡ length (literals_of a) + length (literals_of b) = ap length (literals_append a b) ∙ length-append (literals_of a) (literals_of b) in
    let p = r.blocks in
    let q = r.literal_block in
    let s = r.offsets in
    record { blocks = omega arith; literal_block = omega arith; offsets = omega arith }

-- some, and then the others
same_many : (area : List ℕ) (w : Writing) (a b : List (Placed Def.Component)) → Room area w (a ++ b)
    → Same area w (a ++ b) (put_all area w a) (written_to w a) b
same_many area w [] b r = rw (nothing_put area w, nothing_written w) (record { bytes = refl; place = refl; room = r })
same_many area w (m ∷ a) b r =
    let one = same_one area w m (a ++ b) r in
    let same = same_one area w m a (room_first area w (m ∷ a) b r) in
    rw (same.bytes, same.place)
    (same_then area (put_one area w m) (put_all (put_one area w m) (written_one w m) a) w (written_one w m) (written_to (written_one w m) a) (m ∷ a ++ b) (a ++ b) b one
    (same_many (put_one area w m) (written_one w m) a b one.room))

fixed_split : (a : List (Placed Def.Component)) {b : List (Placed Def.Component)} → AllFixed (a ++ b) → AllFixed a × AllFixed b
fixed_split [] f = (none_left, f)
fixed_split (m ∷ a) (one_more g f) = let (p, q) = fixed_split a f in (one_more g p, q)

module _ (image : List ℕ) (kept : List Component) (before : List ℕ) (w : Writing) (ms : List (Placed Def.Component)) where
  -- what is to be written before turn i: the concatenations from i on
  pub record Placing (heads : List Head) (i : ℕ) (area : List ℕ) (at : Writing) : Type 0 where
    pub left : List Concatenation
    pub are : HeadsAre image kept (drop i heads) left
    pub fixed : AllFixed (joined (comps_of left))
    pub same : Same before w ms area at (merged_all (comps_of left))

  pub placing_start : (heads : List Head) (ds : List Concatenation) → HeadsAre image kept heads ds → AllFixed (joined (comps_of ds))
      → Room before w (merged_all (comps_of ds)) → ms ≡ merged_all (comps_of ds) → Placing heads 0 before w
  placing_start heads ds are fixed room e = record { left = ds; are = are; fixed = fixed; same = rw e (record { bytes = refl; place = refl; room = room }) }

  module _ (heads : List Head) (i : ℕ) (x : Head) (area : List ℕ) (at : Writing) (l : i < length heads) where
    -- this turn's concatenation and the later ones
    record Turn : Type 0 where
      d : Concatenation
      rest : List Concatenation
      is : HeadIs image kept (get_or heads i x) d
      others : HeadsAre image kept (drop (i + 1) heads) rest
      fixed : AllFixed d.comps
      fixed_later : AllFixed (joined (comps_of rest))
      same : Same before w ms area at (merge d.comps ++ merged_all (comps_of rest))

    turn : Placing heads i area at → Turn
    unfolding joined
    turn p = go (first_at image kept heads i x p.left l p.are)
      where
        go : First image kept (get_or heads i x) (drop (i + 1) heads) p.left → Turn
        go f =
            let (a, b) = fixed_split f.d.comps (rw f.parts at p.fixed) in
            record { d = f.d; rest = f.rest; is = f.is; others = f.others; fixed = a; fixed_later = b; same = rw f.parts at p.same }

    pub turn_lies : Placing heads i area at → Lies (get_or heads i x) (length kept)
    turn_lies p = (turn p).is.lies

    -- its components
    comps_are : (d : Concatenation) → HeadIs image kept (get_or heads i x) d → (comps : List Component)
        → comps ≡ take (get_or heads i x).len (drop (get_or heads i x).first.0 kept) → Are image (tree_in image) comps d.comps
    comps_are d is comps e = rw (e, is.len_is) is.comps

    pub turn_fits : (comps : List Component) → comps ≡ take (get_or heads i x).len (drop (get_or heads i x).first.0 kept) → Placing heads i area at
        → (t : Tree) × (cs : List (Placed Def.Component)) × Are image t comps cs × AllFixed cs × Room area at (merge cs)
    turn_fits comps e p = go (turn p)
      where
        go : Turn → (t : Tree) × (cs : List (Placed Def.Component)) × Are image t comps cs × AllFixed cs × Room area at (merge cs)
        go t =
            (tree_in image, t.d.comps, comps_are t.d t.is comps e, t.fixed, room_first area at (merge t.d.comps) (merged_all (comps_of t.rest)) t.same.room)

    pub placing_next : (comps : List Component) (r : Writing) (after : List ℕ)
        → comps ≡ take (get_or heads i x).len (drop (get_or heads i x).first.0 kept) → PutIs image comps at r area after → Placing heads i area at
        → Placing heads (i + 1) after r
    placing_next comps r after e put p = go (turn p)
      where
        next : (t : Turn) → (after ≡ put_all area at (merge t.d.comps)) × (r ≡ written_to at (merge t.d.comps)) → Placing heads (i + 1) after r
        next t (a, b) =
            let later = merged_all (comps_of t.rest) in
            record {
              left = t.rest;
              are = t.others;
              fixed = t.fixed_later;
              same = rw (a, b)
                  (same_then before area (put_all area at (merge t.d.comps)) w at (written_to at (merge t.d.comps)) ms (merge t.d.comps ++ later) later t.same
                  (same_many area at (merge t.d.comps) later t.same.room));
            }

        go : Turn → Placing heads (i + 1) after r
        go t =
            next t (put (tree_in image) t.d.comps (comps_are t.d t.is comps e) t.fixed
            (room_first area at (merge t.d.comps) (merged_all (comps_of t.rest)) t.same.room))

  pub placing_end : (heads : List Head) (i : ℕ) (area : List ℕ) (at : Writing) → drop i heads ≡ [] → Placing heads i area at
      → (area ≡ put_all before w ms) × (at ≡ written_to w ms)
  unfolding joined
  placing_end heads i area at e p = go p.left (rw e at p.are) p.same
    where
      go : (left : List Concatenation) → HeadsAre image kept [] left → Same before w ms area at (merged_all (comps_of left))
          → (area ≡ put_all before w ms) × (at ≡ written_to w ms)
      go [] h same = (sym (same.bytes ∙ nothing_put area at), sym (same.place ∙ nothing_written at))
      go (d ∷ rest) h same = absurd h
