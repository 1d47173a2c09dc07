-- Component by component: what is read of an image that holds the nodes' records, texts and literals, and that it passes the check.
use Rattle.std.specs.Prelude.{◌≡◌, ◌∷◌, ◌++◌, if◌then◌else◌}
use Rattle.std.proofs.Math.Path.{refl, ap}
use Rattle.std.proofs.Common.{sym, ◌∙◌, arith, length-append}
use Prim.Native.Nat.{ℕ, suc, ◌+◌, ◌/◌, ◌%◌, ◌^◌, ◌≤◌, ◌<◌}
use Rattle.std.proofs.Math.Nat.{add_assoc}
use Rattle.definition.specs.Prelude.{true, List, [], map, length, get_or, ltb, eqb}
use Rattle.definition.specs.Basics.{ok, all, joined, tab}
use Rattle.definition.specs.Limits.{limits}
use Rattle.definition.specs.Image.{Rec, Entry, counts, tables, bytes_for, bits_at, start_at, entry_at, record_count, literal_width, recs_from, components_from}
use Rattle.definition.specs.Check.{spares_zero, check_in, check_components}
use Rattle.definition.specs.Tree.{Node, recs_of, all_recs, text_of, literals_of, packed, sound_forest, depth, sound_node}
use Rattle.prepared.specs.Statement.{entries_from, placed_from}
use Rattle.laws.specs.Tests.{by_test, and_iff, leb_iff, eqb_apart, tested}
use Rattle.laws.specs.Lists.{length_tab, tab_add, append_split, all_append}
use Rattle.prepared.specs.Bytes.{Holds, holds_left, holds_right, holds_get_or}
use Rattle.prepared.specs.Bits.{Bits, length_packed, packed_spare, bits_at_holds}
use Rattle.prepared.specs.Groups.{text_of_append, entries_append, length_entries, check_forest}
use Rattle.prepared.specs.Records.{good_rec, recs_read, flat_good}

-- the numbers of records, and the literal widths
abbrev pub lengths : List Node → List ℕ
lengths = map (λ n. length (recs_of n))

abbrev pub widths : List Node → List ℕ
widths = map (λ n. length n.bits)

-- a sound node, part by part
pub record Sound (n : Node) : Type 0 where
  pub some_record : 1 ≤ length (recs_of n)
  pub forest : sound_forest n.forest ≡ true
  pub depth : depth n.forest ≤ limits.depth
  pub width : length n.bits ≤ limits.width
  pub bits : Bits n.bits

pub sound_parts : (n : Node) → sound_node n ≡ true → Sound n
sound_parts n h =
    let h' = simp tested at h in
    record { some_record = h'.0.0.0.0; forest = h'.0.0.0.1; depth = h'.0.0.1; width = h'.0.1; bits = h'.1 }

-- the first node of several, and the others
pub sound_cons : (n : Node) (ns : List Node) → all sound_node (n ∷ ns) ≡ true → Sound n × (all sound_node ns ≡ true)
unfolding all
sound_cons n ns h =
    let (a, b) = (and_iff (sound_node n) (all sound_node ns)).0 h in
    (sound_parts n a, b)

-- the records of sound nodes, m of them at most, are good
pub recs_good : (m : ℕ) (ns : List Node) → all sound_node ns ≡ true → length (all_recs ns) ≤ m → all (good_rec m) (all_recs ns) ≡ true
unfolding joined all
recs_good m [] g l = refl
recs_good m (n ∷ ns) g l =
    let (g₁, g₂) = sound_cons n ns g in
    let e = length-append (recs_of n) (all_recs ns) in
    rw (all_append, flat_good n.forest m g₁.forest (omega arith), recs_good m ns g₂ (omega arith))

-- the entries of a first part, and of the rest
pub entries_split : (f : ℕ → Entry) (r base : ℕ) (a b : List Rec) → tab f r (length (a ++ b)) ≡ entries_from base (a ++ b)
    → (tab f r (length a) ≡ entries_from base a) × (tab f (r + length a) (length b) ≡ entries_from (base + length (text_of a)) b)
entries_split f r base a b h =
    append_split (tab f r (length a)) (entries_from base a) (tab f (r + length a) (length b)) (entries_from (base + length (text_of a)) b)
    (length_tab f r (length a) ∙ sym (length_entries base a))
    (sym (tab_add f r (length a) (length b)) ∙ ap (tab f r) (sym (length-append a b)) ∙ h ∙ entries_append base a b)

-- records that begin at text start `base`
pub start_read : (s : List ℕ) (r base : ℕ) (rs : List Rec) → 1 ≤ length rs → tab (entry_at s) r (length rs) ≡ entries_from base rs → start_at s r ≡ base
unfolding tab entries_from
start_read s r base [] l h = absurd (omega arith)
start_read s r base (x ∷ rs) l h = ap (λ (es : List Entry). (get_or es 0 (entry_at s r)).start) h

-- the test of one literal's spare bits
spare_right : (s : List ℕ) (at : ℕ) (bits : List ℕ) → Bits bits → Holds s at (packed bits)
    → (if eqb (length bits % 8) 0 then true else ltb (get_or s (at + length bits / 8) 0) (2 ^ (length bits % 8))) ≡ true
spare_right s at bits g h =
    by_test (eqb (length bits % 8) 0) (λ t. rw t) λ t.
    let apart = eqb_apart (length bits % 8) 0 t in
    let q : length bits / 8 < length (packed bits) = rw length_packed (omega arith) in
    rw (t, holds_get_or s at (packed bits) (length bits / 8) 0 h q)
    ((leb_iff (suc (get_or (packed bits) (length bits / 8) 0)) (2 ^ (length bits % 8))).1 (packed_spare bits g (omega arith)))

-- an image with its text and literals at the given places
module _ (s : List ℕ) (text literals : ℕ) (text_at : (tables s).text ≡ text) (literals_at : (tables s).literals ≡ literals) where
  pub components_read : (k r l base : ℕ) (ns : List Node) → all sound_node ns ≡ true
      → tab (entry_at s) r (length (all_recs ns)) ≡ entries_from base (all_recs ns) → tab (record_count s) k (length ns) ≡ lengths ns
      → tab (literal_width s) k (length ns) ≡ widths ns → Holds s (text + base) (text_of (all_recs ns)) → Holds s (literals + l) (literals_of ns)
      → components_from s k r l (length ns) ≡ placed_from base ns
  unfolding components_from placed_from joined tab
  components_read k r l base [] g es ls ws t p = refl
  components_read k r l base (n ∷ ns) g es ls ws t p =
      let (g₁, g₂) = sound_cons n ns g in
      let (es₁, es₂) = entries_split (entry_at s) r base (recs_of n) (all_recs ns) es in
      let len : record_count s k ≡ length (recs_of n) = ap (λ (x : List ℕ). get_or x 0 0) ls in
      let width : literal_width s k ≡ length n.bits = ap (λ (x : List ℕ). get_or x 0 0) ws in
      let start : start_at s r ≡ base = start_read s r base (recs_of n) g₁.some_record es₁ in
      let t' = rw (text_of_append (recs_of n) (all_recs ns)) at t in
      let recs : recs_from s (text + base) r (length (recs_of n)) ≡ recs_of n =
      recs_read s (text + base) r base (recs_of n) es₁ (holds_left s (text + base) (text_of (recs_of n)) (text_of (all_recs ns)) t') in
      let bits : bits_at s (literals + l) (length n.bits) ≡ n.bits =
      bits_at_holds s (literals + l) n.bits g₁.bits (holds_left s (literals + l) (packed n.bits) (literals_of ns) p) in
      let rest = components_read (suc k) (r + length (recs_of n)) (l + bytes_for (length n.bits)) (base + length (text_of (recs_of n))) ns g₂ es₂ (cc) (cc)
      (rw (← add_assoc text base (length (text_of (recs_of n)))) (holds_right s (text + base) (text_of (recs_of n)) (text_of (all_recs ns)) t'))
      (rw (← add_assoc literals l (bytes_for (length n.bits)), ← length_packed n.bits) (holds_right s (literals + l) (packed n.bits) (literals_of ns) p)) in
      rw (len, width, start, literals_at, text_at, recs, bits, rest)

  -- "spare high bits zero"
  pub spares_zero_lem : (l : ℕ) (ns : List Node) → all sound_node ns ≡ true → Holds s (literals + l) (literals_of ns) → spares_zero s l (widths ns) ≡ true
  unfolding spares_zero joined
  spares_zero_lem l [] g p = refl
  spares_zero_lem l (n ∷ ns) g p =
      let (g₁, g₂) = sound_cons n ns g in
      let w : ℕ = length n.bits in
      let first = spare_right s (literals + l) n.bits g₁.bits (holds_left s (literals + l) (packed n.bits) (literals_of ns) p) in
      let rest = spares_zero_lem (l + bytes_for w) ns g₂
      (rw (← add_assoc literals l (bytes_for w), ← length_packed n.bits) (holds_right s (literals + l) (packed n.bits) (literals_of ns) p)) in
      rw (literals_at, first, rest)

-- every component's records pass
pub components_pass : (s : List ℕ) (t : ℕ) → (counts s).t ≡ t → (r base : ℕ) (ns : List Node) → all sound_node ns ≡ true
    → tab (entry_at s) r (length (all_recs ns)) ≡ entries_from base (all_recs ns) → base + length (text_of (all_recs ns)) ≤ t
    → check_components s r (lengths ns) ≡ ok tt
unfolding check_components joined
components_pass s t t_is r base [] g es b = refl
components_pass s t t_is r base (n ∷ ns) g es b =
    let (g₁, g₂) = sound_cons n ns g in
    let (es₁, es₂) = entries_split (entry_at s) r base (recs_of n) (all_recs ns) es in
    let len : length (text_of (recs_of n ++ all_recs ns)) ≡ length (text_of (recs_of n)) + length (text_of (all_recs ns)) =
    rw (text_of_append (recs_of n) (all_recs ns)) (length-append (text_of (recs_of n)) (text_of (all_recs ns))) in
    let deep = g₁.depth in
    let first : check_in t (length (recs_of n)) (entries_from base (recs_of n)) 0 ≡ ok tt =
    check_forest t n.forest (length (recs_of n)) base 0 g₁.forest (omega arith) (omega arith) (omega arith) in
    rw (t_is, es₁, first) (components_pass s t t_is (r + length (recs_of n)) (base + length (text_of (recs_of n))) ns g₂ es₂ (omega arith))
