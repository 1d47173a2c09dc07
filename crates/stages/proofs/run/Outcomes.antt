-- What the stages come to, way by way.
use Rattle.std.specs.Prelude as Std
use Rattle.std.specs.Prelude.{Some, None, Ok, Err, is_some, ◌&&◌, ◌||◌, ◌∷◌}
use Rattle.std.proofs.Common.{◌≡◌, ◌≤◌, sym, refl, ap, ◌∙◌, ap₂, arith}
use lib.Seq.{sets}
use Rattle.definition.specs.Prelude.{ℕ, Bool, true, false, not, Option, none, some, List, [], map, length, take, leb}
use Rattle.definition.specs.Basics.{Result, ok, refused, ◌>>=◌, is_empty, within}
use Rattle.definition.specs.Refusals.{short_image, bad_count}
use Rattle.definition.specs.Image.{Placed, counts, tree_of}
use Rattle.definition.specs.Check.{counts_right, check_image}
use Rattle.definition.specs.Text.{Part}
use Rattle.definition.specs.Component.{Component, starting_value, source}
use Rattle.definition.specs.Concatenation.{Concatenation, stage3, merged}
use Rattle.definition.specs.Overall.{stage4}
use Rattle.definition.specs.Answer.{Answer, answer_bytes}
use Rattle.definition.specs.Run.{Choices, stages}
use Rattle.laws.specs.Results.{bind_ok, need_then, ok_same}
use Rattle.laws.specs.Sets.{sets_front}
use Rattle.laws.specs.Tests.{tested}
use Rattle.answer_facts.specs.fits.Proved.{answer_fits}
use Rattle.errors.specs.Refused.{refused_as, result_of}
use Rattle.errors.specs.declared.Refusal.{Refusal}
use Rattle.stages.specs.token_tree.Table.{tree_in}
use Rattle.stages.specs.component.Start.{is_given, TextFits, scanned_base}
use Rattle.answer_facts.specs.stages.Statement.{later}
use Rattle.stages.specs.component.Read.{verdict, two_stages, StagesAre}
use Rattle.stages.specs.concatenation.Heads.{HeadsAre, HeadsFit, CountsFit, Stage3Is}
use Rattle.stages.specs.concatenation.Overall.{answer_of}
use Rattle.stages.specs.answer.Stage5.{comps_of, answer_from, Fitting, Answers, Stage5Is}
use Rattle.stages.specs.run.Run.{StandsFor, came_to, bytes_of, RunFits, init_of, later_of, ReadFits, ReadAs, JudgedFits, JudgedAs}
use Rattle.stages.specs.declared.component.types.Component.{Component as Now}
use Rattle.stages.specs.declared.component.start.Start.{Start}
use Rattle.stages.specs.declared.run.Choices.{Choices as Told}
use Rattle.stages.specs.declared.concatenation.overall.Overall.{Overall}
use Rattle.stages.specs.declared.concatenation.stage3.Concatenation.{Concatenation as Head}
use Rattle.stages.proofs.run.Judging.{stage3_comps, stage3_length, heads_length}
use Rattle.stages.proofs.run.Lengths.{counts_right_lem, all_fixed}
use Rattle.stages.proofs.run.Ordered.{stages_two}
use Rattle.stages.proofs.run.Starting.{base_small}

-- ---- answers

-- a refusal is the outcome, and leaves the area
came_refused : (before : List ℕ) (m : Result Answer) (q : Refusal) → m ≡ refused_as q → (refused_as q, before) ≡ came_to before (bytes_of m)
came_refused before m q e = rw e

-- an answer that is written from the front
came_accepted : (before after : List ℕ) (m : Result Answer) (a : Answer) (n : ℕ) → m ≡ ok a → length (answer_bytes a) ≤ length before
    → after ≡ sets before 0 (answer_bytes a) → n ≡ length (answer_bytes a) → (ok n, after) ≡ came_to before (bytes_of m)
came_accepted before after m a n e r x y = rw e (ap₂ (λ (i : ℕ) (l : List ℕ). (ok i, l)) y (x ∙ sets_front before (answer_bytes a) r))

-- a stage in code that says whether the definition's refuses
module _ {A : Type 0} (m : Result A) (q : Std.Result Unit Refusal) (said : result_of q ≡ verdict m) where
  passed_ok : q ≡ Ok tt → (a : A) × (m ≡ ok a)
  passed_ok p = let (a, e, _) = bind_ok m (λ _. ok tt) (sym said ∙ ap result_of p) in (a, e)

  refused_too : (e : Refusal) → q ≡ Err e → m ≡ refused_as e
  refused_too e p = go m (sym (ap result_of p) ∙ said)
    where
      go : (m : Result A) → refused_as {A = Unit} e ≡ verdict m → m ≡ refused_as e
      go (ok a) h = let z : ◌≡◌ {A = ℕ} 0 1 = cc in absurd (omega arith)
      go (refused q) h = cc

-- ---- the starting value

module _ (image : List ℕ) (how : Choices) (before : List ℕ) where
  pub unstarted : {e : Refusal} → starting_value 0 (source (tree_of image)) ≡ refused_as e
      → (refused_as e, before) ≡ came_to before (bytes_of (stages how (tree_of image)))
  unstarted {e} h = came_refused before (stages how (tree_of image)) e (stages_two how (tree_of image) ∙ rw h)

-- ---- stages 1 and 2

-- the stages, by their starting value and their components
module _ {A B C : Type 0} (f : A → B → Result C) (m : Result A) (n : Result B) (a : A) (p : m ≡ ok a) where
  in_turn_ok : (b : B) → n ≡ ok b → (m >>= λ x. n >>= λ y. f x y) ≡ f a b
  in_turn_ok b q = rw (p, q)

  in_turn_refused : (e : Refusal) → n ≡ refused_as e → (m >>= λ x. n >>= λ y. f x y) ≡ refused_as e
  in_turn_refused e q = rw (p, q)

module _ {image : List ℕ} {q : Std.Result Unit Refusal} {kept : List Now} (said : StagesAre image q kept) (s : Std.Option Start)
    (is : starting_value 0 (source (tree_of image)) ≡ ok (init_of image s)) where
  abbrev later_with : Choices → Option (Placed Part) → List (List (Placed Component)) → Result Answer
  later_with how init cc = later how (record { init = init; cc = cc })

  module _ (p : q ≡ Ok tt) where
    pub read_fits : {c : ℕ} → c ≡ (counts image).c → TextFits image (tree_in image) (scanned_base image) s → (counts image).n ≤ length kept → ReadFits image c s kept
    read_fits e t l =
        let (cc, r) = passed_ok (two_stages (tree_of image)) q said.answer p in
        record { count = e; text = t; is = is; cc = cc; read = r; are = said.are cc r; long = l }

    pub staged_on : (how : Choices) (before : List ℕ) {r : Result ℕ × List ℕ}
        → ((cc : List (List (Placed Component))) → two_stages (tree_of image) ≡ ok cc → r ≡ came_to before (bytes_of (later_of image how s cc)))
        → r ≡ came_to before (bytes_of (stages how (tree_of image)))
    staged_on how before h =
        let (cc, r) = passed_ok (two_stages (tree_of image)) q said.answer p in
        let e : stages how (tree_of image) ≡ later_of image how s cc =
        stages_two how (tree_of image)
        ∙ in_turn_ok (later_with how) (starting_value 0 (source (tree_of image))) (two_stages (tree_of image)) (init_of image s) is cc r in
        h cc r ∙ ap (λ m. came_to before (bytes_of m)) (sym e)

  pub staged_off : (how : Choices) (before : List ℕ) {e : Refusal} → q ≡ Err e → (refused_as e, before) ≡ came_to before (bytes_of (stages how (tree_of image)))
  staged_off how before {e} p =
      came_refused before (stages how (tree_of image)) e
      (stages_two how (tree_of image)
      ∙ in_turn_refused (later_with how) (starting_value 0 (source (tree_of image))) (two_stages (tree_of image)) (init_of image s) is e
      (refused_too (two_stages (tree_of image)) q said.answer e p))

-- ---- stage 3

module _ {image : List ℕ} {area : ℕ} (fits : RunFits image area) {c : ℕ} {s : Std.Option Start} {kept : List Now} (f : ReadFits image c s kept) where
  pub read_counts : (heads : ℕ) → c ≤ heads → CountsFit image f.cc c kept heads
  read_counts heads l = counts_right_lem image fits.grown f.cc f.read c kept heads f.count f.long l f.are

  pub few_heads : c ≤ 16
  few_heads = let k = fits.grown.few_concatenations in let n = fits.grown.count in let e = f.count in omega (arith, k, n, e)

  module _ (heads : List Head) (q : Std.Result Unit Refusal) (said : Stage3Is image kept c q heads) where
    told : (result_of q ≡ verdict (stage3 0 f.cc)) × ((ds : List Concatenation) → stage3 0 f.cc ≡ ok ds → HeadsAre image kept (take c heads) ds)
    told = let k = read_counts 16 few_heads in said f.cc k.count k.sizes f.are

    pub judged_fits : q ≡ Ok tt → JudgedFits image s (take c heads) kept
    judged_fits p =
        let (ds, r) = passed_ok (stage3 0 f.cc) q told.0 p in
        record { c = c; read = f; ds = ds; checked = r; are = told.1 ds r }

    pub later_on : (how : Told) (before : List ℕ) → q ≡ Ok tt → (o : Std.Result ℕ Refusal) (after : List ℕ) → JudgedAs image how s (take c heads) kept o before after
        → ReadAs image how s kept o before after
    later_on how before p o after h call st cc e =
        let (ds, r) = passed_ok (stage3 0 f.cc) q told.0 p in
        let same : f.cc ≡ cc = ok_same f.read e in
        h call st cc ds e (rw (← same) r)

    pub later_off : (how : Choices) (before : List ℕ) {e : Refusal} → q ≡ Err e → (cc : List (List (Placed Component))) → two_stages (tree_of image) ≡ ok cc
        → (refused_as e, before) ≡ came_to before (bytes_of (later_of image how s cc))
    later_off how before {e} p cc r =
        let same : f.cc ≡ cc = ok_same f.read r in
        came_refused before (later_of image how s cc) e (rw (← same, refused_too (stage3 0 f.cc) q told.0 e p))

-- ---- stages 4 and 5

few : (c n r t b : ℕ) → (within 1 16 c && within 1 256 n && within 1 2048 r && within 1 16384 t && leb b 8192) ≡ true → b ≤ 8192
few c n r t b h = let q = simp tested at h in omega arith

few_bytes : (image : List ℕ) → check_image image ≡ ok tt → (counts image).b ≤ 8192
unfolding check_image
few_bytes image h =
    let (_, h₁) = need_then (leb 40 (length image)) short_image _ h in
    let (e, _) = need_then (counts_right image) bad_count _ h₁ in
    let k = counts image in
    few k.c k.n k.r k.t k.b e

given_is : (image : List ℕ) (s : Std.Option Start) → (elim (init_of image s) [ none ↦ false | some q ↦ true ]) ≡ is_given s
given_is image None = refl
given_is image (Some s) = refl

-- whether a starting value is given, or held
pub given : (s : Std.Option Start) (held b : Bool) → b ≡ is_some s → (b || held) ≡ (is_given s || held)
given None held b e = rw e
given (Some s) held b e = rw e

-- the stages' own choices stand for those of some call
some_choices : (told : Told) → (how : Choices) × StandsFor told how
some_choices told = (record { mode = told.mode; default = bytes told.held }, record { mode = refl; held = is told.held })
  where
    bytes : Bool → List ℕ
    bytes true = 0 ∷ []
    bytes false = []

    is : (b : Bool) → not (is_empty (bytes b)) ≡ b
    is true = refl
    is false = refl

module _ {image : List ℕ} (before : List ℕ) (fits : RunFits image (length before)) {s : Std.Option Start} {heads : List Head} {kept : List Now}
    (f : JudgedFits image s heads kept) where
  counted : CountsFit image f.read.cc f.c kept 16
  counted = read_counts fits f.read 16 (few_heads fits f.read)

  comps : comps_of f.ds ≡ f.read.cc
  comps = stage3_comps 0 f.read.cc f.ds f.checked

  long : length heads ≡ f.c
  long = let e = heads_length image kept heads f.ds f.are in let n = stage3_length 0 f.read.cc f.ds f.checked in let k = counted.count in omega (arith, e, n, k)

  pub judged_heads : HeadsFit kept heads
  judged_heads =
      let k = counted in
      let l = long in
      record { image = image; ds = f.ds; are = f.are; some = omega (arith, l, k.some); few = omega (arith, l, k.few) }

  module _ (told : Told) (start : Bool) (has : start ≡ (is_given s || told.held)) (q : Std.Result Overall Refusal)
      (said : (image : List ℕ) (ds : List Concatenation) → HeadsAre image kept heads ds → answer_of q ≡ stage4 told.mode start ds) where
    judged_later : (how : Choices) → StandsFor told how → later_of image how s f.read.cc
        ≡ (answer_of q >>= λ o. ok (record { init = init_of image s; overall = o; cc = map merged f.ds }))
    judged_later how st = rw (f.checked, given_is image s, st.held, st.mode, ← has, said image f.ds f.are)

    pub judged_off : {e : Refusal} → q ≡ Err e → (how : Choices) → StandsFor told how
        → (cc : List (List (Placed Component))) (ds : List Concatenation) → two_stages (tree_of image) ≡ ok cc → stage3 0 cc ≡ ok ds
        → (refused_as e, before) ≡ came_to before (bytes_of (later_of image how s cc))
    judged_off {e} p how st cc ds r t =
        let same : f.read.cc ≡ cc = ok_same f.read.read r in
        came_refused before (later_of image how s cc) e (rw (← same) (judged_later how st ∙ rw p))

    module _ {o : Overall} (is : q ≡ Ok o) where
      abbrev a : Answer
      a = answer_from image (scanned_base image) s o f.ds

      accepted : (how : Choices) → StandsFor told how → later_of image how s f.read.cc ≡ ok a
      accepted how st = judged_later how st ∙ rw is

      fitting : Fitting (length heads) (length before) a
      fitting =
          let (how, st) = some_choices told in
          let g = answer_fits image fits.checked how a (stages_two how (tree_of image) ∙ rw (f.read.is, f.read.read) (accepted how st)) in
          let n = g.merged in
          let l = g.literals in
          let r = g.room in
          let w = fits.room in
          let b = few_bytes image fits.checked in
          let k = fits.grown.nodes in
          let x = fits.grown.few_components in
          record {
            concatenations = g.concatenations ∙ sym f.read.count ∙ sym long;
            merged_few = omega (arith, n, k, x);
            literals = omega (arith, l, b);
            size = g.size;
            room = omega (arith, r, w);
          }

      pub answers : Answers image kept heads (scanned_base image) o s (length before) f.ds
      answers =
          record {
            are = f.are;
            fixed = rw comps (all_fixed image fits.checked f.read.cc f.read.read);
            start = f.read.text;
            small = base_small image fits.grown;
            few = judged_heads.few;
            few_components = rw comps counted.few_components;
            fitting = fitting;
          }

      pub judged_on : (r : ℕ) (after : List ℕ) → Stage5Is image kept heads o s r before after → (how : Choices) → StandsFor told how
          → (cc : List (List (Placed Component))) (ds : List Concatenation) → two_stages (tree_of image) ≡ ok cc → stage3 0 cc ≡ ok ds
          → (ok r, after) ≡ came_to before (bytes_of (later_of image how s cc))
      judged_on r after h how st cc ds e t =
          let same : f.read.cc ≡ cc = ok_same f.read.read e in
          let (x, y) = h (scanned_base image) f.ds answers in
          came_accepted before after (later_of image how s cc) a r (rw (← same) (accepted how st)) fitting.room x y
