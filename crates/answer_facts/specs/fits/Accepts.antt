-- What an accepted run says: its mode, its image and its area are right, and the stages accept.
use Rattle.std.specs.Prelude.{◌≡◌, refl}
use Rattle.definition.specs.Prelude.{ℕ, true, List, leb}
use Rattle.definition.specs.Basics.{ok}
use Rattle.definition.specs.Limits.{area_needed}
use Rattle.definition.specs.Refusals.{need, mode_above_2, short_area}
use Rattle.definition.specs.Image.{counts, tree_of}
use Rattle.definition.specs.Check.{check_image}
use Rattle.definition.specs.Answer.{Answer, answer_bytes}
use Rattle.definition.specs.Run.{Choices, run, stages}
use Rattle.laws.specs.Results.{bind_ok, need_ok, ok_same}

pub record Accepts (image : List ℕ) (how : Choices) (area : ℕ) (answer : List ℕ) : Type 0 where
  pub mode_right : leb how.mode 2 ≡ true
  pub checked : check_image image ≡ ok tt
  pub area_right : leb (area_needed (counts image).c (counts image).n (counts image).b) area ≡ true
  pub said : Answer
  pub staged : stages how (tree_of image) ≡ ok said
  pub bytes : answer_bytes said ≡ answer

pub run_accepts : (image : List ℕ) (how : Choices) (area : ℕ) (answer : List ℕ) → run image how area ≡ ok answer → Accepts image how area answer
unfolding run
run_accepts image how area answer h =
    let first = bind_ok (need (leb how.mode 2) mode_above_2) _ h in
    let second = bind_ok (check_image image) _ first.2 in
    let third = bind_ok (need (leb (area_needed (counts image).c (counts image).n (counts image).b) area) short_area) _ second.2 in
    let fourth = bind_ok (stages how (tree_of image)) (λ a. ok (answer_bytes a)) third.2 in
    record {
      mode_right = need_ok (leb how.mode 2) mode_above_2 first.1;
      checked = second.1;
      area_right = need_ok _ short_area third.1;
      said = fourth.0;
      staged = fourth.1;
      bytes = ok_same refl fourth.2;
    }

pub accepts_run : (image : List ℕ) (how : Choices) (area : ℕ) (answer : List ℕ) → Accepts image how area answer → run image how area ≡ ok answer
unfolding run
accepts_run image how area answer h = rw (h.mode_right, h.checked, h.area_right, h.staged, h.bytes)
