-- The image check refuses with a number of the table and places 0, 0; what it accepts is within the limits.
use Rattle.std.specs.Prelude.{ℕ, zero, suc, ◌+◌, ◌≤◌, ◌∷◌}
use Rattle.definition.specs.Prelude.{List, [], length, leb, ltb, eqb}
use Rattle.definition.specs.Basics.{tab}
use Rattle.definition.specs.Limits.{limits}
use Rattle.definition.specs.Refusals.{short_image, bad_count, bad_offset, bad_entry, bad_record, too_deep}
use Rattle.definition.specs.Image.{Entry, counts, record_count, start_at, entry_at, opens}
use Rattle.definition.specs.Check.{counts_right, offsets_right, entries_right, word_right, inside_of, closer_of, after_of, open_right, close_right, check_in, check_components, check_image}
use Rattle.laws.specs.Tests.{tested}
use Rattle.refusal_places.specs.Ends.{Ends, Fine, fine, refuse_fine, known, need_ends, bind_ends, next_ends, test_ends}

check_in_fine : (t fuel : ℕ) (es : List Entry) (depth : ℕ) → Fine (check_in t fuel es depth)
unfolding check_in
check_in_fine t zero [] depth = fine tt
check_in_fine t zero (e ∷ rest) depth = refuse_fine Unit bad_record
check_in_fine t (suc fuel) [] depth = fine tt
check_in_fine t (suc fuel) (e ∷ rest) depth =
    test_ends (opens e.kind)
    (next_ends (need_ends (open_right t e rest) bad_record) λ _.
    next_ends (need_ends (ltb depth limits.depth) too_deep) λ _.
    next_ends (check_in_fine t fuel (inside_of e rest) (suc depth)) λ _.
    next_ends (need_ends (close_right t e (closer_of e rest)) bad_record) λ _.
    check_in_fine t fuel (after_of e rest) depth)
    (next_ends (need_ends (word_right t e) bad_record) λ _. check_in_fine t fuel rest depth)

check_components_fine : (image : List ℕ) (r : ℕ) (ns : List ℕ) → Fine (check_components image r ns)
unfolding check_components
check_components_fine image r [] = fine tt
check_components_fine image r (n ∷ ns) =
    next_ends (check_in_fine (counts image).t n (tab (entry_at image) r n) 0) λ _. check_components_fine image (r + n) ns

pub check_image_ends : (image : List ℕ)
    → Ends (λ _. ((counts image).c ≤ limits.concatenations) × ((counts image).n ≤ limits.components)) (check_image image)
unfolding check_image
check_image_ends image =
    next_ends (need_ends (leb 40 (length image)) short_image) λ _.
    bind_ends (need_ends (counts_right image) bad_count) λ _ h.
    next_ends (need_ends (offsets_right image) bad_offset) λ _.
    next_ends (need_ends (entries_right image) bad_entry) λ _.
    next_ends (need_ends (eqb (start_at image 0) 0) bad_record) λ _.
    let k = simp tested at h in
    known (k.0.0.0.0.1, k.0.0.0.1.1) (check_components_fine image 0 (tab (record_count image) 0 (counts image).n))
