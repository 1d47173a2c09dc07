-- Where a text stands does not matter for what is read from it: reading keeps what offsets are taken from.
use Rattle.std.specs.Prelude.{◌≡◌, refl, ◌+◌, ◌&&◌, ◌∷◌, ◌++◌, ◌+ℤ◌, ◌-ℤ◌, if◌then◌else◌}
use Rattle.std.proofs.Common.{sym, ap, ap₂, ◌∙◌}
use Rattle.std.proofs.Math.Path.{fun_ext}
use Rattle.definition.specs.Prelude.{ℕ, zero, suc, Bool, true, false, Option, none, some, List, [], map, length, take, drop, eqb, ℤ, pos}
use Rattle.definition.specs.Basics.{Result, ok, refused, ◌>>=◌}
use Rattle.definition.specs.Characters.{char}
use Rattle.definition.specs.Numbers.{narrow}
use Rattle.definition.specs.Refusals.{Reason, need, refuse, not_one_token, bound_overflow}
use Rattle.definition.specs.Image.{Rec, kinds}
use Rattle.definition.specs.Tree.{text_of}
use Rattle.definition.specs.Text.{Part, no_text, Item, chunks, item_of, items_of, items, is_group, is_token, bytes_of, part_of}
use Rattle.definition.specs.Ranges.{Usb, Usbr, val, text, with_x, Cut, behind, cut_last, begins_with, cut_pair, or_else, cut_bound, number_in, join_sides, read_bound, parse_usb, Scan, scan_step, scan_from, scan_dots, parse_start, parse_end, parse_range, single_bit}

-- ── Offsets taken from each thing ──

abbrev pub no_place : Part → Part
no_place p = record { at = 0; bytes = p.bytes }

abbrev pub bare_item : Item → Item
bare_item i = record { kind = i.kind; part = no_place i.part; inside = i.inside; inside_at = 0 }

abbrev pub bare_items : List Item → List Item
bare_items = map bare_item

abbrev pub bare_usb : Usb → Usb
bare_usb u = record { s = no_place u.s; x = u.x }

abbrev pub in_option : {A B : Type 0} → (A → B) → Option A → Option B
in_option f none = none
in_option f (some a) = some (f a)

abbrev pub in_result : {A B : Type 0} → (A → B) → Result A → Result B
in_result f (ok a) = ok (f a)
in_result f (refused q) = refused q

abbrev pub bare_range : Usbr → Usbr
bare_range r = record { start = bare_usb r.start; «end» = in_option bare_usb r.«end» }

abbrev bare_cut : Cut → Cut
bare_cut c = record { before = bare_items c.before; sign = bare_item c.sign; after = bare_items c.after }

-- the items of the same records at two offsets
same_items : (at at' : ℕ) (cs : List (List Rec)) → bare_items (items_of at cs) ≡ bare_items (items_of at' cs)
unfolding items_of
same_items at at' [] = refl
same_items at at' ([] ∷ cs) = ap (λ is. item_of 0 [] ∷ is) (same_items (at + length (text_of [])) (at' + length (text_of [])) cs)
same_items at at' ((r ∷ rs) ∷ cs) =
    ap (λ is. bare_item (item_of 0 (r ∷ rs)) ∷ is) (same_items (at + length (text_of (r ∷ rs))) (at' + length (text_of (r ∷ rs))) cs)

-- ── Bounds ──

bare_part : (is : List Item) → part_of (bare_items is) ≡ no_place (part_of is)
unfolding bytes_of
bare_part [] = refl
bare_part (i ∷ is) = ap {B = Part} (λ bs. record { at = 0; bytes = i.part.bytes ++ bs }) (go is)
  where
    go : (is : List Item) → bytes_of (bare_items is) ≡ bytes_of is
    go [] = refl
    go (j ∷ js) = ap (λ bs. j.part.bytes ++ bs) (go js)

bare_behind : (i : Item) (o : Option Cut) → behind (bare_item i) (in_option bare_cut o) ≡ in_option bare_cut (behind i o)
bare_behind i none = refl
bare_behind i (some c) = refl

bare_last : (b : ℕ) (is : List Item) → cut_last (is_token b) (bare_items is) ≡ in_option bare_cut (cut_last (is_token b) is)
unfolding cut_last
bare_last b [] = refl
bare_last b (i ∷ is) = rw (bare_last b is) (go (cut_last (is_token b) is) (is_token b i))
  where
    go : (o : Option Cut) (t : Bool) →
        ◌≡◌ {A = Option Cut}
        (elim (in_option bare_cut o) [
          | some c ↦ behind (bare_item i) (some c)
          | none ↦ if t then some (record { before = []; sign = bare_item i; after = bare_items is }) else none
        ])
        (in_option bare_cut (elim o [ some c ↦ behind i (some c) | none ↦ if t then some (record { before = []; sign = i; after = is }) else none ]))
    go none true = refl
    go none false = refl
    go (some c) t = refl

bare_begins : (b : ℕ) (is : List Item) → begins_with (is_token b) (bare_items is) ≡ begins_with (is_token b) is
bare_begins b [] = refl
bare_begins b (i ∷ is) = refl

bare_pair : (is : List Item) → cut_pair (bare_items is) ≡ in_option bare_cut (cut_pair is)
unfolding cut_pair
bare_pair [] = refl
bare_pair (i ∷ is) =
    rw (bare_pair is, bare_begins char.minus is, bare_behind i (cut_pair is)) (go (is_token char.minus i && begins_with (is_token char.minus) is) (behind i (cut_pair is)))
  where
    go : (t : Bool) (o : Option Cut) →
        ◌≡◌ {A = Option Cut}
        (if t then some (record { before = []; sign = bare_item i; after = bare_items is }) else in_option bare_cut o)
        (in_option bare_cut (if t then some (record { before = []; sign = i; after = is }) else o))
    go true o = refl
    go false o = refl

bare_or_else : (a b : Option Cut) → or_else (in_option bare_cut a) (in_option bare_cut b) ≡ in_option bare_cut (or_else a b)
bare_or_else none b = refl
bare_or_else (some c) b = refl

bare_cut_lem : (is : List Item) → cut_bound (bare_items is) ≡ in_option bare_cut (cut_bound is)
bare_cut_lem is =
    let plus = cut_last (is_token char.plus) is in
    let minus = cut_last (is_token char.minus) is in
    rw (bare_last char.plus is, bare_pair is, bare_last char.minus is, bare_or_else (cut_pair is) minus, bare_or_else plus (or_else (cut_pair is) minus))

bare_with_x : (r : Reason) (p : Part) (z : ℤ) → with_x r (no_place p) z ≡ in_result bare_usb (with_x r p z)
bare_with_x r p z = go (narrow z)
  where
    go : (o : Option ℤ) → ◌≡◌ {A = Result Usb} (elim o [ none ↦ refuse r | some x ↦ ok (text (no_place p) x) ]) (in_result bare_usb (elim o [ none ↦ refuse r | some x ↦ ok (text p x) ]))
    go none = refl
    go (some x) = refl

-- join_sides, by the parts and numbers that it goes by: the text itself, left, right, and right with its sign
abbrev side_as : Part → Option ℤ → Usb
side_as p o = elim o [ some v ↦ val v | none ↦ text p (pos 0) ]

abbrev join_as : Usb → Part → Part → Part → Bool → Option ℤ → Option ℤ → Result Usb
join_as u l r signed negative left right =
    elim right [
      | some v ↦ with_x bound_overflow (side_as l left).s (if negative then (side_as l left).x -ℤ v else (side_as l left).x +ℤ v)
      | none ↦ elim left [ some z ↦ ok (text (if negative then signed else r) z) | none ↦ ok u ]
    ]

bare_join_as : (u : Usb) (l r signed : Part) (negative : Bool) (left right : Option ℤ) →
    join_as (bare_usb u) (no_place l) (no_place r) (no_place signed) negative left right ≡ in_result bare_usb (join_as u l r signed negative left right)
bare_join_as u l r signed negative none (some v) = bare_with_x bound_overflow l (if negative then pos 0 -ℤ v else pos 0 +ℤ v)
bare_join_as u l r signed negative (some z) (some v) = bare_with_x bound_overflow no_text (if negative then z -ℤ v else z +ℤ v)
bare_join_as u l r signed true (some z) none = refl
bare_join_as u l r signed false (some z) none = refl
bare_join_as u l r signed negative none none = refl

abbrev join_on : Usb → Bool → Part → Part → Part → Result Usb
join_on u negative l r signed = join_as u l r signed negative (number_in l) (number_in r)

bare_join : (u : Usb) (c : Cut) → join_sides (bare_usb u) (bare_cut c) ≡ in_result bare_usb (join_sides u c)
bare_join u c =
    let negative = is_token char.minus c.sign in
    let l = part_of c.before in
    let r = part_of c.after in
    let signed = part_of (c.sign ∷ c.after) in
    let kept : join_sides (bare_usb u) (bare_cut c) ≡ join_on (bare_usb u) negative (no_place l) (no_place r) (no_place signed) =
    λ i. join_on (bare_usb u) negative (bare_part c.before i) (bare_part c.after i) (bare_part (c.sign ∷ c.after) i) in
    kept ∙ bare_join_as u l r signed negative (number_in l) (number_in r)

abbrev bound_as : Part → Option Cut → Result Usb
bound_as p o = elim o [ none ↦ ok (text p (pos 0)) | some c ↦ join_sides (text p (pos 0)) c ]

bare_bound_as : (p : Part) (o : Option Cut) → bound_as (no_place p) (in_option bare_cut o) ≡ in_result bare_usb (bound_as p o)
bare_bound_as p none = refl
bare_bound_as p (some c) = bare_join (text p (pos 0)) c

bare_bound : (is : List Item) → read_bound (bare_items is) ≡ in_result bare_usb (read_bound is)
unfolding read_bound
bare_bound is =
    let kept : read_bound (bare_items is) ≡ bound_as (no_place (part_of is)) (in_option bare_cut (cut_bound is)) = λ i. bound_as (bare_part is i) (bare_cut_lem is i) in
    kept ∙ bare_bound_as (part_of is) (cut_bound is)

-- ── Ranges ──

bind_alike : {A B C D : Type 0} (f : A → C) (g : B → D) (m m' : Result A) (k k' : A → Result B) →
    in_result f m ≡ in_result f m' → ((a a' : A) → f a ≡ f a' → in_result g (k a) ≡ in_result g (k' a')) → in_result g (m >>= k) ≡ in_result g (m' >>= k')
bind_alike f g (ok a) (ok a') k k' e h = h a a' cc
bind_alike f g (ok a) (refused q) k k' e h = cc
bind_alike f g (refused q) (ok a') k k' e h = cc
bind_alike f g (refused q) (refused q') k k' e h = cc

bound_alike : (is is' : List Item) → bare_items is ≡ bare_items is' → in_result bare_usb (read_bound is) ≡ in_result bare_usb (read_bound is')
bound_alike is is' e = sym (bare_bound is) ∙ ap read_bound e ∙ bare_bound is'

usb_alike : (is : List Item) → in_result bare_usb (parse_usb (bare_items is)) ≡ in_result bare_usb (parse_usb is)
unfolding parse_usb
usb_alike [] = refl
usb_alike (i ∷ j ∷ is) = refl
usb_alike (i ∷ []) = go (is_group i) (eqb i.kind kinds.parenthesis)
  where
    read : Bool → Bool → Item → Result Usb
    read t u i = elim t [ true ↦ need u not_one_token >>= (λ _. read_bound (items i.inside_at i.inside)) | false ↦ read_bound (i ∷ []) ]

    go : (t u : Bool) → in_result bare_usb (read t u (bare_item i)) ≡ in_result bare_usb (read t u i)
    go false u = bound_alike (bare_item i ∷ []) (i ∷ []) refl
    go true false = refl
    go true true = bound_alike (items 0 i.inside) (items i.inside_at i.inside) (same_items 0 i.inside_at (chunks 0 i.inside).1)

start_alike : (is : List Item) → in_result bare_usb (parse_start (bare_items is)) ≡ in_result bare_usb (parse_start is)
start_alike [] = refl
start_alike (i ∷ is) = usb_alike (i ∷ is)

with_x_alike : (r : Reason) (z : ℤ) (u u' : Usb) → bare_usb u ≡ bare_usb u' → in_result bare_usb (with_x r u.s (u.x +ℤ z)) ≡ in_result bare_usb (with_x r u'.s (u'.x +ℤ z))
with_x_alike r z u u' e = sym (bare_with_x r u.s (u.x +ℤ z)) ∙ ap (λ v. with_x r v.s (v.x +ℤ z)) e ∙ bare_with_x r u'.s (u'.x +ℤ z)

-- an end of `..=`, or another
abbrev end_as : Bool → Usb → Result Usb
end_as inclusive e = if inclusive then with_x bound_overflow e.s (e.x +ℤ pos 1) else ok e

present : Usb → Result (Option Usb)
present e = ok (some e)

end_as_alike : (inclusive : Bool) (e e' : Usb) → bare_usb e ≡ bare_usb e' → in_result bare_usb (end_as inclusive e) ≡ in_result bare_usb (end_as inclusive e')
end_as_alike true e e' q = with_x_alike bound_overflow (pos 1) e e' q
end_as_alike false e e' q = ap {B = Result Usb} ok q

end_alike : (inclusive : Bool) (is : List Item) → in_result (in_option bare_usb) (parse_end inclusive (bare_items is)) ≡ in_result (in_option bare_usb) (parse_end inclusive is)
unfolding present
end_alike inclusive [] = refl
end_alike inclusive (i ∷ is) =
    let k : Usb → Result (Option Usb) = λ e. end_as inclusive e >>= present in
    bind_alike bare_usb (in_option bare_usb) (parse_usb (bare_items (i ∷ is))) (parse_usb (i ∷ is)) k k (usb_alike (i ∷ is))
    (λ e e' q. bind_alike bare_usb (in_option bare_usb) (end_as inclusive e) (end_as inclusive e') present present (end_as_alike inclusive e e' q)
    (λ a a' h. ap {B = Result (Option Usb)} (λ u. ok (some u)) h))

bare_scan : (n : ℕ) (is : List Item) (st : Scan) → scan_from n (bare_items is) st ≡ scan_from n is st
unfolding scan_from
bare_scan n [] st = refl
bare_scan n (i ∷ is) st = ap (λ k. scan_step n i st >>= k) (fun_ext (bare_scan (suc n) is))

bare_take : (n : ℕ) (is : List Item) → take n (bare_items is) ≡ bare_items (take n is)
bare_take zero is = refl
bare_take (suc n) [] = refl
bare_take (suc n) (i ∷ is) = ap (λ js. bare_item i ∷ js) (bare_take n is)

bare_drop : (n : ℕ) (is : List Item) → drop n (bare_items is) ≡ bare_items (drop n is)
bare_drop zero is = refl
bare_drop (suc n) [] = refl
bare_drop (suc n) (i ∷ is) = bare_drop n is

-- parse_range after the scan, and where dots were found
abbrev range_on : Bool → List Item → List Item → Result (Option Usbr)
range_on inclusive before after = parse_start before >>= λ s. parse_end inclusive after >>= λ e. ok (some (record { start = s; «end» = e }))

abbrev range_after : List Item → Scan → Result (Option Usbr)
range_after is st = elim st.found [ none ↦ ok none | some f ↦ range_on st.inclusive (take f.0 is) (drop f.1 is) ]

abbrev bare_option : Option Usbr → Option Usbr
bare_option = in_option bare_range

on_alike : (inclusive : Bool) (before after : List Item) →
    in_result bare_option (range_on inclusive (bare_items before) (bare_items after)) ≡ in_result bare_option (range_on inclusive before after)
on_alike inclusive before after =
    bind_alike bare_usb bare_option (parse_start (bare_items before)) (parse_start before) _ _ (start_alike before)
    (λ s s' q. bind_alike (in_option bare_usb) bare_option (parse_end inclusive (bare_items after)) (parse_end inclusive after)
    (λ e. ok (some (record { start = s; «end» = e })))
    (λ e. ok (some (record { start = s'; «end» = e })))
    (end_alike inclusive after)
    (λ e e' r i. ok (some (record { start = q i; «end» = r i }))))

after_alike : (is : List Item) (st : Scan) → in_result bare_option (range_after (bare_items is) st) ≡ in_result bare_option (range_after is st)
after_alike is st = go st.inclusive st.found
  where
    after : Bool → Option (ℕ × ℕ) → List Item → Result (Option Usbr)
    after inclusive o is = elim o [ none ↦ ok none | some f ↦ range_on inclusive (take f.0 is) (drop f.1 is) ]

    go : (inclusive : Bool) (o : Option (ℕ × ℕ)) → in_result bare_option (after inclusive o (bare_items is)) ≡ in_result bare_option (after inclusive o is)
    go inclusive none = refl
    go inclusive (some f) =
        ap₂ (λ before rest. in_result bare_option (range_on inclusive before rest)) (bare_take f.0 is) (bare_drop f.1 is)
        ∙ on_alike inclusive (take f.0 is) (drop f.1 is)

parse_alike : (is : List Item) → in_result bare_option (parse_range (bare_items is)) ≡ in_result bare_option (parse_range is)
unfolding parse_range
parse_alike [] = refl
parse_alike (i ∷ is) =
    let js = i ∷ is in
    bind_alike {A = Scan} (λ st. st) bare_option (scan_dots (bare_items js)) (scan_dots js) (range_after (bare_items js)) (range_after js)
    (ap (in_result (λ st. st)) (bare_scan 0 js (record { dots = 0; found = none; inclusive = false })))
    (λ st st' q. ap (λ st. in_result bare_option (range_after (bare_items js) st)) q ∙ after_alike js st')

-- ── What a bracket is read as ──

abbrev pub range_in : List Item → Option Usbr → Usbr
range_in is r = elim r [ none ↦ single_bit is | some r' ↦ r' ]

-- the range in a bracket around some items
abbrev pub read_range : List Item → Result Usbr
read_range is = parse_range is >>= λ r. ok (range_in is r)

in_alike : (is : List Item) (r r' : Option Usbr) → bare_option r ≡ bare_option r' → bare_range (range_in (bare_items is) r) ≡ bare_range (range_in is r')
in_alike is none none q = ap {B = Usbr} (λ p. record { start = text (no_place p) (pos 0); «end» = some (text (no_place p) (pos 1)) }) (bare_part is)
in_alike is none (some r') q = cc
in_alike is (some r) none q = cc
in_alike is (some r) (some r') q = cc

range_alike : (is : List Item) → in_result bare_range (read_range (bare_items is)) ≡ in_result bare_range (read_range is)
range_alike is =
    bind_alike bare_option bare_range (parse_range (bare_items is)) (parse_range is) (λ r. ok (range_in (bare_items is) r)) (λ r. ok (range_in is r)) (parse_alike is)
    (λ r r' q. ap {B = Result Usbr} ok (in_alike is r r' q))

-- the same records are read as the same range wherever they stand
pub reads_anywhere : (at at' : ℕ) (rs : List Rec) → in_result bare_range (read_range (items at rs)) ≡ in_result bare_range (read_range (items at' rs))
reads_anywhere at at' rs =
    sym (range_alike (items at rs)) ∙ ap (λ is. in_result bare_range (read_range is)) (same_items at at' (chunks 0 rs).1) ∙ range_alike (items at' rs)
