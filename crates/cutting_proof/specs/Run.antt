-- Demand 3 of the run itself: of any outcomes and areas that meet the promise of `run` (layout_run). "acceptance and the answers compared are the
-- run's own, and are what demand 2's definition gives."
use Rattle.std.specs.Prelude as Std
use Rattle.std.specs.Prelude.{Ok, ◌≡◌, refl, ◌≤◌, ◌<◌, ◌+◌, ◌-◌, ◌∷◌}
use Rattle.std.proofs.Common.{sym, ap, ◌∙◌, arith}
use Rattle.definition.specs.Prelude.{ℕ, true, some, List, length, get_or}
use Rattle.definition.specs.Basics.{Result, ok, refused, ◌>>=◌, area_after}
use Rattle.definition.specs.Tree.{Tree, image_of, fits}
use Rattle.definition.specs.Answer.{read_answer}
use Rattle.definition.specs.Run.{Choices, run, in_force, ran_on}
use Rattle.prepared.specs.Statement.{Bytes}
use Rattle.errors.specs.Refused.{result_of}
use Rattle.errors.specs.declared.Refusal.{Refusal}
use Rattle.cutting.specs.Statement.{Given, Premises, BitPlace, image, new_image, place_of, components_of, piece_at, bit_in}
use Rattle.cutting.specs.Witnesses.{two}
use Rattle.cutting.specs.Further.{defaulted}
use Rattle.cutting.proofs.Witnesses.{met}
use Rattle.cutting.proofs.Further.{met as more_met}
use Rattle.cutting_proof.specs.Proved.{cutting, every_accepted}

-- what `run` promises of one call: its outcome, the area at entry and at exit, and the starting value in force
abbrev pub Ran : List ℕ → Choices → List ℕ → Std.Result ℕ Refusal → List ℕ → List ℕ → Type 0
Ran im how before o after start = (result_of o, after, start) ≡ ran_on im how before

pub record BitSame (g : Given) (after new_after : List ℕ) (i : ℕ) : Type 0 where
  pub at : BitPlace
  pub old_place : place_of (components_of (image g)) (length g.concatenations_below) (length g.below) (i - g.a) ≡ at
  pub new_place :
      let p = piece_at g.a (g.place ∷ g.places) i in
      place_of (components_of (new_image g)) (length g.concatenations_below) (length g.below + p.index) (i - p.start) ≡ at
  pub old_value : bit_in (read_answer (image g) after) at ≡ some (get_or g.node.bits i 0)
  pub new_value : bit_in (read_answer (new_image g) new_after) at ≡ some (get_or g.node.bits i 0)

-- the second call accepts, the two areas say the same, and the starting value in force is the same
pub record SameRun (g : Given) (after start : List ℕ) (o : Std.Result ℕ Refusal) (new_after new_start : List ℕ) : Type 0 where
  pub size : ℕ
  pub accepted : result_of o ≡ ok size
  pub fields_equal : read_answer (new_image g) new_after ≡ read_answer (image g) after
  pub start_kept : new_start ≡ start
  pub bits_kept : (i : ℕ) → g.a ≤ i → i < g.b → BitSame g after new_after i

abbrev Came : Type 0
Came = Result ℕ × List ℕ × List ℕ

-- any two calls of the run, the first on the image, the second on the cut one
pub cut_run : (g : Given) → Premises g → (o o' : Std.Result ℕ Refusal) (after start after' start' : List ℕ) → Ran (image g) g.how g.area o after start
    → Ran (new_image g) g.how g.new_area o' after' start' → SameRun g after start o' after' start'
cut_run g pr o o' after start after' start' e e' =
    let s = cutting g pr in
    let left : after ≡ area_after g.area (ok g.answer) = ap (λ (p : Came). p.1) e ∙ ap (area_after g.area) pr.accepted in
    let left' : after' ≡ area_after g.new_area (ok s.new_answer) = ap (λ (p : Came). p.1) e' ∙ ap (area_after g.new_area) s.new_accepted in
    let told : start ≡ in_force (image g) g.how (ok g.answer) = ap (λ (p : Came). p.2) e ∙ ap (in_force (image g) g.how) pr.accepted in
    let told' : start' ≡ in_force (new_image g) g.how (ok s.new_answer) =
    ap (λ (p : Came). p.2) e' ∙ ap (in_force (new_image g) g.how) s.new_accepted in
    record {
      size = length s.new_answer;
      accepted =
          ap (λ (p : Came). p.0) e'
          ∙ ap (λ (r : Result (List ℕ)). r >>= λ bytes. ok (length bytes)) s.new_accepted;
      fields_equal = ap (read_answer (new_image g)) left' ∙ s.fields_equal ∙ ap (read_answer (image g)) (sym left);
      start_kept = told' ∙ s.start_kept ∙ sym told;
      bits_kept = λ i lo hi.
          let b = s.bits_kept i lo hi in
          record {
            at = b.at;
            old_place = b.old_place;
            new_place = b.new_place;
            old_value = ap (λ a. bit_in (read_answer (image g) a) b.at) left ∙ b.old_value;
            new_value = ap (λ a. bit_in (read_answer (new_image g) a) b.at) left' ∙ b.new_value;
          };
    }

-- "every accepted image": what a call accepts is the image of a tree that fits, and the definition accepts it
pub accepted_tree : (im : List ℕ) → Bytes im → (how : Choices) (n : ℕ) (before after start : List ℕ) → Ran im how before (Ok n) after start
    → (t : Tree) × (fits t ≡ true) × (im ≡ image_of t)
accepted_tree im b how n before after start e = go (run im how (length before)) refl (ap (λ (p : Came). p.0) e)
  where
    go : (r : Result (List ℕ)) → run im how (length before) ≡ r → ok n ≡ (r >>= λ bytes. ok (length bytes))
        → (t : Tree) × (fits t ≡ true) × (im ≡ image_of t)
    go (ok bytes) q h = every_accepted im b how (length before) bytes q
    go (refused e) q h = let z : ◌≡◌ {A = ℕ} 0 1 = cc in absurd (omega arith)

-- ── Witnesses: calls that meet the premises ──

-- a call on which the definition's run accepts
ran_accepted : (im : List ℕ) (how : Choices) (before bytes : List ℕ) → run im how (length before) ≡ ok bytes
    → Ran im how before (Ok (length bytes)) (area_after before (ok bytes)) (in_force im how (ok bytes))
ran_accepted im how before bytes q = rw q refl

-- what is claimed of the two calls, where both accept
abbrev BothAccepted : (g : Given) → Premises g → Type 0
BothAccepted g pr =
    let s = cutting g pr in
    SameRun g (area_after g.area (ok g.answer)) (in_force (image g) g.how (ok g.answer))
    (Ok (length s.new_answer)) (area_after g.new_area (ok s.new_answer)) (in_force (new_image g) g.how (ok s.new_answer))

both_accepted : (g : Given) (pr : Premises g) → BothAccepted g pr
both_accepted g pr =
    let s = cutting g pr in
    cut_run g pr (Ok (length g.answer)) (Ok (length s.new_answer)) _ _ _ _
    (ran_accepted (image g) g.how g.area g.answer pr.accepted)
    (ran_accepted (new_image g) g.how g.new_area s.new_answer s.new_accepted)

-- of the worked literal in two pieces, and under a default
cut_in_two : BothAccepted two met.0
cut_in_two = both_accepted two met.0

cut_under_default : BothAccepted defaulted more_met.3
cut_under_default = both_accepted defaulted more_met.3
