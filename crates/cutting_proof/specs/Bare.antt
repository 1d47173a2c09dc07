-- A tree's image without its text starts, and bit places, which do not depend on text starts.
use Rattle.std.specs.Prelude.{◌≡◌, ◌+◌, ◌&&◌, ◌∷◌, if◌then◌else◌}
use Rattle.std.proofs.Math.Path.{refl}
use Rattle.std.proofs.Common.{◌∙◌, ap}
use Rattle.std.proofs.lemmas.List.{map-append, length-map}
use Rattle.std.proofs.Math.Seq.{take_at, drop_at}
use Rattle.definition.specs.Prelude.{ℕ, zero, suc, Bool, true, false, List, [], map, length, take, drop, get_or}
use Rattle.definition.specs.Basics.{joined, is_empty}
use Rattle.definition.specs.Image.{Placed, parts}
use Rattle.definition.specs.Tree.{Node, Tree, recs_of, text_of}
use Rattle.definition.specs.Component.{Component}
use Rattle.definition.specs.Concatenation.{merge, is_static_literal}
use Rattle.prepared.specs.Statement.{placed_from, placed_tree}
use Rattle.answer_facts.specs.read.Statement.{erase, erase_tree}
use Rattle.answer_facts.specs.read.Erase.{erase_merge}
use Rattle.cutting.specs.Statement.{place_of, run_end, Below, width_of}
use Rattle.cutting_proof.specs.component.Statement.{bare}
use Rattle.cutting_proof.specs.stages.Statement.{bare_tree}

erase_from : (base : ℕ) (ns : List Node) → map erase (placed_from base ns) ≡ map bare ns
unfolding placed_from
erase_from base [] = refl
erase_from base (n ∷ ns) = ap (λ l. bare n ∷ l) (erase_from (base + length (text_of (recs_of n))) ns)

module _ {A B : Type 0} (f : A → B) where
  map_take : (n : ℕ) (l : List A) → map f (take n l) ≡ take n (map f l)
  map_take zero l = refl
  map_take (suc n) [] = refl
  map_take (suc n) (x ∷ l) = ap (λ m. f x ∷ m) (map_take n l)

  map_drop : (n : ℕ) (l : List A) → map f (drop n l) ≡ drop n (map f l)
  map_drop zero l = refl
  map_drop (suc n) [] = refl
  map_drop (suc n) (x ∷ l) = map_drop n l

  map_empty : (l : List A) → is_empty (map f l) ≡ is_empty l
  map_empty [] = refl
  map_empty (x ∷ l) = refl

  map_parts : (ns : List ℕ) (l : List A) → map (map f) (parts ns l) ≡ parts ns (map f l)
  unfolding parts
  map_parts [] l = refl
  map_parts (n ∷ ns) l = rw (map_take n l, map_parts ns (drop n l), map_drop n l)

  map_get_or : (n : ℕ) (l : List (List A)) → get_or (map (map f) l) n [] ≡ map f (get_or l n [])
  map_get_or n [] = refl
  map_get_or zero (x ∷ l) = refl
  map_get_or (suc n) (x ∷ l) = map_get_or n l

  -- a list cut where its lists were joined
  parts_joined : (l : List (List A)) → parts (map length l) (map f (joined l)) ≡ map (map f) l
  unfolding parts joined
  parts_joined [] = refl
  parts_joined (x ∷ l) =
      rw (map-append f x (joined l), take_at (map f x) (map f (joined l)) (length x) (length-map x f), drop_at (map f x) (map f (joined l)) (length x) (length-map x f), parts_joined l)

pub erase_placed : (t : Tree) → erase_tree (placed_tree t) ≡ bare_tree t
unfolding placed_tree
erase_placed t = map_parts erase (map length t) (placed_from 0 (joined t)) ∙ ap (parts (map length t)) (erase_from 0 (joined t)) ∙ parts_joined bare t

erase_run : (cs : List (Placed Component)) → run_end (map erase cs) ≡ record { rest = map erase (run_end cs).rest; in_run = map erase (run_end cs).in_run }
unfolding run_end
erase_run [] = refl
erase_run (c ∷ cs) = rw (erase_run cs, map_empty erase (run_end cs).rest) (go (is_empty (run_end cs).rest && is_static_literal c.value))
  where
    both : Below → Below
    both b = record { rest = map erase b.rest; in_run = map erase b.in_run }

    go : (t : Bool)
        → ◌≡◌ {A = Below} (if t then record { rest = []; in_run = erase c ∷ map erase (run_end cs).in_run } else record { rest = erase c ∷ map erase (run_end cs).rest; in_run = map erase (run_end cs).in_run })
        (both (if t then record { rest = []; in_run = c ∷ (run_end cs).in_run } else record { rest = c ∷ (run_end cs).rest; in_run = (run_end cs).in_run }))
    go true = refl
    go false = refl

erase_widths : (cs : List (Placed Component)) → map width_of (map erase cs) ≡ map width_of cs
erase_widths [] = refl
erase_widths (c ∷ cs) = ap (λ l. width_of c ∷ l) (erase_widths cs)

-- where a bit lies does not depend on text starts
merged_length : (cs : List (Placed Component)) → length (merge (map erase cs)) ≡ length (merge cs)
merged_length cs = ap length (erase_merge cs) ∙ length-map (merge cs) erase

merged_lengths : (t : List (List (Placed Component))) → map (λ c. length (merge c)) (erase_tree t) ≡ map (λ c. length (merge c)) t
merged_lengths [] = refl
merged_lengths (c ∷ t) = λ i. merged_length c i ∷ merged_lengths t i

pub erase_place : (cc : List (List (Placed Component))) (j k above : ℕ) → place_of (erase_tree cc) j k above ≡ place_of cc j k above
erase_place cc j k above =
    rw (map_get_or erase j cc, ← (map_take erase k (get_or cc j [])), ← (map_take (map erase) j cc), erase_run (take k (get_or cc j [])), erase_widths (run_end (take k (get_or cc j []))).in_run, merged_length (run_end (take k (get_or cc j []))).rest, merged_lengths (take j cc))
