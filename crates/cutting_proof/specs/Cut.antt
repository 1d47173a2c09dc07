-- Cutting a literal changes nothing: the claim of crate `cutting`, proved.
use Rattle.std.specs.Prelude.{◌≡◌, refl, ◌≤◌, ◌<◌, ◌+◌, ◌-◌, ◌∷◌, ◌++◌, if◌then◌else◌}
use Rattle.std.proofs.Common.{sym, ◌∙◌, ap, arith, append-nil}
use Rattle.definition.specs.Prelude.{ℕ, Bool, true, some, List, [], length, drop, get_or, leb}
use Rattle.definition.specs.Basics.{Result, ok, refused, ◌>>=◌, joined, all}
use Rattle.definition.specs.Limits.{area_needed}
use Rattle.definition.specs.Image.{Placed}
use Rattle.definition.specs.Tree.{Node, Tree, image_of, fits, literals_of, sound_node}
use Rattle.definition.specs.Component.{Component, Parsed}
use Rattle.definition.specs.Answer.{Answer, answer_bytes, read_answer, Read, is_set}
use Rattle.definition.specs.Run.{Choices, run, stages, in_force}
use Rattle.laws.specs.Results.{bind_ok}
use Rattle.laws.specs.Tests.{leb_iff, and_iff}
use Rattle.laws.specs.Lists.{all_append, all_joined}
use Rattle.prepared.specs.Components.{Sound, sound_parts}
use Rattle.prepared.specs.Layout.{fits_parts}
use Rattle.prepared.specs.Prepared.{passes_check, read_back}
use Rattle.prepared.specs.Statement.{ReadsBack, placed_tree}
use Rattle.answer_facts.specs.read.Statement.{erase_tree, erase_answer, on_ok, shown}
use Rattle.answer_facts.specs.read.Erase.{erase_parsed, erase_stages, erase_early}
use Rattle.answer_facts.specs.read.ReadAnswer.{reads_answer}
use Rattle.cutting.specs.Statement.{Given, Premises, BitKept, Cutting, tree_with, new_tree, image, new_image, place_of, piece_at, components_of, bit_in}
use Rattle.answer_facts.specs.stages.Statement.{early, later, InTurn}
use Rattle.cutting_proof.specs.stages.Statement.{bare_tree, CutEarly, CutLater, CutParsed, Cuttable, bits_between, piece_components}
use Rattle.cutting_proof.specs.bits.Places.{same_place}
use Rattle.cutting_proof.specs.bits.Holding.{holds_bit}
use Rattle.answer_facts.specs.fits.Accepts.{Accepts, run_accepts, accepts_run}
use Rattle.cutting_proof.specs.Assemble.{on_ok_lem}
use Rattle.cutting_proof.specs.Bare.{erase_placed, erase_place}

-- a node of a tree passes what all of them pass
node_passes : (p : Node → Bool) (cb : Tree) (l : List Node) (n : Node) (h : List Node) (ca : Tree)
    → all p (joined (cb ++ (l ++ (n ∷ []) ++ h) ∷ ca)) ≡ true → p n ≡ true
unfolding all
node_passes p cb l n h ca t =
    (simp (all_joined, all_append, and_iff) at t).1.0.0.1.0

-- the stages of trees with a literal and with its pieces
module _ (in_turn : InTurn) (cut_early : CutEarly) (cut_later : CutLater) where
  -- the stages of a tree's image, without the text starts
  record Staged (t : Tree) (how : Choices) (a : Answer) : Type 0 where
    parsed : Parsed
    bare_early : early (bare_tree t) ≡ ok parsed
    bare_later : later how parsed ≡ ok (erase_answer a)

  staged : (t : Tree) (how : Choices) (a : Answer) → stages how (placed_tree t) ≡ ok a → Staged t how a
  staged t how a h =
      let all_bare : (early (bare_tree t) >>= later how) ≡ ok (erase_answer a) =
      sym (in_turn how (bare_tree t)) ∙ ap (stages how) (sym (erase_placed t)) ∙ erase_stages how (placed_tree t) ∙ ap (on_ok erase_answer) h in
      let inv = bind_ok (early (bare_tree t)) (later how) all_bare in
      record { parsed = inv.0; bare_early = inv.1; bare_later = inv.2 }

  unstaged : (t : Tree) (how : Choices) (p : Parsed) (a : Answer) → early (bare_tree t) ≡ ok p → later how p ≡ ok a
      → (b : Answer) × (stages how (placed_tree t) ≡ ok b) × (erase_answer b ≡ a)
  unstaged t how p a e l =
      on_ok_lem erase_answer (stages how (placed_tree t)) a
      (sym (erase_stages how (placed_tree t)) ∙ ap (stages how) (erase_placed t) ∙ in_turn how (bare_tree t) ∙ rw (e, l))

  -- a tree that fits is accepted where its stages are
  run_of : (t : Tree) → fits t ≡ true → (how : Choices) (area : ℕ) (b : Answer) → leb how.mode 2 ≡ true → stages how (placed_tree t) ≡ ok b
      → area_needed (length t) (length (joined t)) (length (literals_of (joined t))) ≤ area
      → run (image_of t) how area ≡ ok (answer_bytes b)
  run_of t f how area b m s room =
      let r : ReadsBack t = read_back t f in
      accepts_run (image_of t) how area (answer_bytes b)
      (record {
        mode_right = m;
        checked = passes_check t f;
        area_right = rw (r.concatenations, r.components, r.literal_bytes) ((leb_iff (area_needed (length t) (length (joined t)) (length (literals_of (joined t)))) area).1 room);
        said = b;
        staged = rw r.tree s;
        bytes = refl;
      })

  -- the components of an image after stage 2, without the text starts
  components_bare : (t : Tree) → fits t ≡ true → (p : Parsed) → early (bare_tree t) ≡ ok p → (j k above : ℕ)
      → place_of (components_of (image_of t)) j k above ≡ place_of p.cc j k above
  components_bare t f p e j k above =
      let found = on_ok_lem erase_parsed (early (placed_tree t)) p (sym (erase_early (placed_tree t)) ∙ ap early (erase_placed t) ∙ e) in
      let same : place_of (erase_tree found.0.cc) j k above ≡ place_of p.cc j k above = ap (λ (q : Parsed). place_of q.cc j k above) found.2 in
      ap (λ x. place_of (cc_of (early x)) j k above) (read_back t f).tree ∙ ap (λ r. place_of (cc_of r) j k above) found.1
      ∙ sym (erase_place found.0.cc j k above) ∙ same
    where
      cc_of : Result Parsed → List (List (Placed Component))
      cc_of r = elim r [ refused q ↦ [] | ok p ↦ p.cc ]

  module _ (g : Given) (pr : Premises g) where
    abbrev old : Tree
    old = tree_with g (g.node ∷ [])

    accepts : Accepts (image g) g.how (length g.area) g.answer
    accepts = run_accepts (image g) g.how (length g.area) g.answer pr.accepted

    old_placed : stages g.how (placed_tree old) ≡ ok accepts.said
    old_placed = sym (ap (stages g.how) (read_back old pr.a_tree).tree) ∙ accepts.staged

    old_stages : Staged old g.how accepts.said
    old_stages = staged old g.how accepts.said old_placed

    sound : Sound g.node
    sound = sound_parts g.node (node_passes sound_node g.concatenations_below g.below g.node g.above g.concatenations_above (fits_parts old pr.a_tree).sound)

    cuttable : Cuttable g
    cuttable = record { sound = sound.forest; small = sound.width; bounds = pr.bounds; rises = pr.rises; brackets_read = pr.brackets_read }

    cut : CutParsed g old_stages.parsed
    cut = cut_early g cuttable old_stages.parsed old_stages.bare_early

    abbrev places : List ℕ
    places = g.place ∷ g.places

    abbrev old_components : List (List (Placed Component))
    old_components = cut.concatenations_below ++ (cut.below ++ (bits_between g.node.bits g.a g.b ∷ []) ++ cut.above) ∷ cut.concatenations_above

    abbrev new_components : List (List (Placed Component))
    new_components = cut.concatenations_below ++ (cut.below ++ piece_components g.node.bits g.a places g.b ++ cut.above) ∷ cut.concatenations_above

    -- the new tree's stages give the same answer, but for text starts
    new_later : later g.how (record { init = old_stages.parsed.init; cc = new_components }) ≡ ok (erase_answer accepts.said)
    new_later =
        cut_later g.how old_stages.parsed.init cut.concatenations_below cut.below cut.above cut.concatenations_above
        g.node.bits g.a places g.b pr.rises cut.within_width sound.width (erase_answer accepts.said)
        (sym (ap (λ cc. later g.how (record { init = old_stages.parsed.init; cc = cc })) cut.old) ∙ old_stages.bare_later)

    new : (b : Answer) × (stages g.how (placed_tree (new_tree g)) ≡ ok b) × (erase_answer b ≡ erase_answer accepts.said)
    new = unstaged (new_tree g) g.how (record { init = old_stages.parsed.init; cc = new_components }) (erase_answer accepts.said) cut.new new_later

    abbrev new_answer : List ℕ
    new_answer = answer_bytes new.0

    new_run : run (new_image g) g.how (length g.new_area) ≡ ok new_answer
    new_run = run_of (new_tree g) pr.within_limits g.how (length g.new_area) new.0 accepts.mode_right new.1 pr.long_enough

    -- whatever follows them, the two answers say the same
    old_read : (rest : List ℕ) → read_answer (image g) (g.answer ++ rest) ≡ shown (erase_answer accepts.said)
    old_read rest =
        ap (λ s. read_answer (image g) (s ++ rest)) (sym accepts.bytes)
        ∙ reads_answer old pr.a_tree g.how accepts.said old_placed rest

    new_read : (rest : List ℕ) → read_answer (new_image g) (new_answer ++ rest) ≡ shown (erase_answer accepts.said)
    new_read rest = reads_answer (new_tree g) pr.within_limits g.how new.0 new.1 rest ∙ ap shown new.2

    abbrev old_rest : List ℕ
    old_rest = drop (length g.answer) g.area

    abbrev new_rest : List ℕ
    new_rest = drop (length new_answer) g.new_area

    -- so do the answers alone
    start_kept : in_force (new_image g) g.how (ok new_answer) ≡ in_force (image g) g.how (ok g.answer)
    start_kept =
        let same : read_answer (new_image g) new_answer ≡ read_answer (image g) g.answer =
        ap (read_answer (new_image g)) (sym (append-nil new_answer)) ∙ new_read [] ∙ sym (old_read []) ∙ ap (read_answer (image g)) (append-nil g.answer) in
        ap (λ (r : Read). if is_set r.flags 4 then r.init else g.how.default) same

    bit_kept : (i : ℕ) → g.a ≤ i → i < g.b → BitKept g new_answer i
    bit_kept i lo hi =
        let here = place_of old_components (length cut.concatenations_below) (length cut.below) (i - g.a) in
        let value : bit_in (shown (erase_answer accepts.said)) here ≡ some (get_or g.node.bits i 0) =
        ap (λ cc. bit_in (shown (erase_answer accepts.said)) (place_of cc (length cut.concatenations_below) (length cut.below) (i - g.a))) (sym cut.old)
        ∙ holds_bit old pr.a_tree old_stages.parsed old_stages.bare_early g.how (erase_answer accepts.said) old_stages.bare_later
        cut.concatenations_below cut.below cut.above cut.concatenations_above g.node.bits g.a g.b
        (omega arith) cut.within_width sound.bits cut.old i lo hi in
        record {
          at = here;
          old_place =
              components_bare old pr.a_tree old_stages.parsed old_stages.bare_early (length g.concatenations_below) (length g.below) (i - g.a)
              ∙ λ x. place_of (cut.old x) ((sym cut.same_concatenations) x) ((sym cut.same_components) x) (i - g.a);
          new_place =
              components_bare (new_tree g) pr.within_limits (record { init = old_stages.parsed.init; cc = new_components }) cut.new
              (length g.concatenations_below) (length g.below + (piece_at g.a places i).index) (i - (piece_at g.a places i).start)
              ∙ (λ x. let p = piece_at g.a places i in place_of new_components ((sym cut.same_concatenations) x) ((sym cut.same_components) x + p.index) (i - p.start))
              ∙ same_place cut.concatenations_below cut.below cut.above cut.concatenations_above g.node.bits g.a places g.b
              pr.rises cut.within_width sound.width i lo hi;
          old_value = ap (λ r. bit_in r here) (old_read old_rest) ∙ value;
          new_value = ap (λ r. bit_in r here) (new_read new_rest) ∙ value;
        }

  pub cutting : Cutting
  cutting g pr =
      record {
        new_answer = new_answer g pr;
        new_accepted = new_run g pr;
        fields_equal = new_read g pr (new_rest g pr) ∙ sym (old_read g pr (old_rest g pr));
        start_kept = start_kept g pr;
        bits_kept = bit_kept g pr;
      }
