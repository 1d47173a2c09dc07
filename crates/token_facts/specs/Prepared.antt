-- The written image: the tree of a list that is not refused fits, so its image passes the check and reads back as that tree; of a
-- Rust token stream it is token_stream_to_ast's, its components turned round.
use Rattle.std.specs.Prelude.{◌≡◌, refl, ◌≤◌, ◌+◌, ◌-◌, ◌&&◌, ◌∷◌, if◌then◌else◌}
use Rattle.std.proofs.Common.{◌∙◌, arith}
use Rattle.std.proofs.lemmas.List.{length-map, length-reverse}
use Rattle.definition.specs.Prelude.{ℕ, zero, suc, Bool, true, false, not, List, [], map, reverse, length, drop, leb, ltb, eqb}
use Rattle.definition.specs.Basics.{is_empty, all, joined, tab}
use Rattle.definition.specs.Limits.{limits}
use Rattle.definition.specs.Image.{padded}
use Rattle.definition.specs.Tree.{Forest, Node, Tree, flat, packed, recs_of, literals_of, sound_forest, depth, sound_node, fits, image_of}
use Rattle.definition.specs.TokenStream.{ident, punct, literal, Stream, forest_of, divided, ast, turned, stream_tree}
use Rattle.definition.specs.Tokens.{single, opener, closer, kind_at, text_start, text_length, text_at, token_of, token_at, count, tokens, tokens_right, stream_of, is_done, none_empty, within_limits, token_image}
use Rattle.laws.specs.Tests.{and_iff, leb_iff, tested}
use Rattle.laws.specs.Lists.{all_drop, all_joined, all_map, all_of}
use Rattle.laws.specs.Results.{needs_then}
use Rattle.prepared.specs.Statement.{Bytes}
use Rattle.prepared.specs.Prepared.{passes_check, read_back}
use Rattle.token_facts.specs.Flat.{flat_tokens}
use Rattle.token_facts.specs.Statement.{TokensPrepared, TokensRust}
use Rattle.token_facts.specs.Lists.{all_tab_by, all_both}
use Rattle.token_facts.specs.Kinds.{sound_token}
use Rattle.token_facts.specs.Streams.{sound_tokens, tokens_read, every_list}
use Rattle.token_facts.specs.Forests.{byte_token, fine_token, fine_forest, forest_some, divided_all}
use Rattle.token_facts.specs.Dividing.{divided_some, divided_one}
use Rattle.token_facts.specs.Turning.{all_reverse}

-- ---- a tree within the limits

-- a component that has records and no literal
abbrev plain_node : Node → Bool
plain_node n = leb 1 (length (recs_of n)) && sound_forest n.forest && is_empty n.bits

no_bits : (bits : List ℕ) → is_empty bits ≡ true → bits ≡ []
no_bits [] h = refl
no_bits (b ∷ bits) h = let z : ◌≡◌ {A = ℕ} 0 1 = cc in absurd (omega arith)

node_sound : (n : Node) → plain_node n ≡ true → leb (depth n.forest) limits.depth ≡ true → sound_node n ≡ true
unfolding all
node_sound n h d =
    let (p, e) = (and_iff (leb 1 (length (recs_of n)) && sound_forest n.forest) (is_empty n.bits)).0 h in
    rw (p, d, no_bits n.bits e)

literals_none : (ns : List Node) → all plain_node ns ≡ true → length (literals_of ns) ≡ 0
unfolding joined all packed tab
literals_none [] h = refl
literals_none (n ∷ ns) h =
    let (p, r) = (and_iff (plain_node n) (all plain_node ns)).0 h in
    let (_, e) = (and_iff (leb 1 (length (recs_of n)) && sound_forest n.forest) (is_empty n.bits)).0 p in
    rw (no_bits n.bits e) (literals_none ns r)

tree_fits : (t : Tree) → 1 ≤ length t → all (λ c. leb 1 (length c)) t ≡ true → all plain_node (joined t) ≡ true → within_limits t ≡ true
    → fits t ≡ true
unfolding fits
tree_fits t one some plain l =
    let ((((concatenations, components), records), text), depths) = simp tested at l in
    let none = literals_none (joined t) plain in
    let literals : length (literals_of (joined t)) ≤ limits.literal_bytes = omega arith in
    let sound = all_both plain_node (λ n. leb (depth n.forest) limits.depth) sound_node (joined t) node_sound plain depths in
    simp tested (((((((one, concatenations), some), components), records), text), literals), sound)

-- ---- the tree of a stream

abbrev node_of : Forest → Node
node_of f = record { forest = f; bits = [] }

-- a test of all nodes, from one of all components
tree_all : (p : Node → Bool) (q : Stream → Bool) (s : Stream) → ((c : Stream) → q c ≡ true → p (node_of (forest_of c)) ≡ true)
    → all (all q) (divided s) ≡ true → all p (joined (stream_tree s)) ≡ true
tree_all p q s g h =
    rw (all_joined p (stream_tree s), all_map (all p) turned (ast s))
    (rw (all_map (λ (c : List Forest). all p (turned c)) (map forest_of) (divided s))
    (all_of (all q) (λ (c : List Stream). all p (turned (map forest_of c))) (divided s) each h))
  where
    each : (c : List Stream) → all q c ≡ true → all p (turned (map forest_of c)) ≡ true
    each c t =
        rw (all_map p node_of (reverse (map forest_of c)))
        (all_reverse (λ f. p (node_of f)) (map forest_of c)
        ∙ (rw (all_map (λ f. p (node_of f)) forest_of c) (all_of q (λ c. p (node_of (forest_of c))) c g t)))

tree_some : (s : Stream) → all (λ c. leb 1 (length c)) (stream_tree s) ≡ true
tree_some s = simp (all_map, length-map, length-reverse) (divided_some s)

tree_one : (s : Stream) → 1 ≤ length (stream_tree s)
tree_one s = simp length-map (divided_one s)

-- a component that is not empty, and whose tokens are fine
abbrev fine_component : Stream → Bool
fine_component c = not (is_done c) && all fine_token (flat_tokens c)

fine_node : (c : Stream) → fine_component c ≡ true → plain_node (node_of (forest_of c)) ≡ true
fine_node c h =
    let (d, f) = (and_iff (not (is_done c)) (all fine_token (flat_tokens c))).0 h in
    rw ((leb_iff 1 (length (flat (forest_of c)))).1 (forest_some c d), fine_forest c f)

pub stream_fits : (s : Stream) → all fine_token (flat_tokens s) ≡ true → none_empty s ≡ true → within_limits (stream_tree s) ≡ true
    → fits (stream_tree s) ≡ true
stream_fits s h e l =
    let both = all_both (all (λ c. not (is_done c))) (all (λ c. all fine_token (flat_tokens c))) (all fine_component) (divided s)
    (λ cs p q. all_both (λ c. not (is_done c)) (λ c. all fine_token (flat_tokens c)) fine_component cs
    (λ c a b. (and_iff (not (is_done c)) (all fine_token (flat_tokens c))).1 (a, b)) p q) e (divided_all fine_token s h) in
    tree_fits (stream_tree s) (tree_one s) (tree_some s) (tree_all plain_node fine_component s fine_node both) l

-- ---- the tree of a list

all_padded : (p : ℕ → Bool) → p 0 ≡ true → (n : ℕ) (s : List ℕ) → all p s ≡ true → all p (padded n s) ≡ true
unfolding all padded
all_padded p z zero s h = refl
all_padded p z (suc n) [] h = rw z (all_padded p z n [] h)
all_padded p z (suc n) (b ∷ s) h =
    let (q, r) = (and_iff (p b) (all p s)).0 h in
    rw q (all_padded p z n s r)

text_bytes_lem : (list text : List ℕ) (k : ℕ) → Bytes text → Bytes (text_at list text k)
text_bytes_lem list text k b =
    all_padded (λ b. ltb b 256) refl (if ltb 2 (kind_at list k) then 0 else text_length list k) (drop (text_start list k) text)
    (all_drop (λ b. ltb b 256) (text_start list k) text b)

byte_token_lem : (k : ℕ) (s : List ℕ) → Bytes s → byte_token (token_of k s) ≡ true
byte_token_lem k s h = go (eqb k 0) (eqb k 1) (eqb k 2) (eqb k 7)
  where
    go : (a b c d : Bool) → byte_token (
        if a then single (ident s)
        else if b then single (punct s)
        else if c then single (literal s)
        else if d then closer
        else opener (k - 2)) ≡ true
    go true b c d = h
    go false true c d = h
    go false false true d = h
    go false false false true = refl
    go false false false false = refl

pub right_fits : (list text : List ℕ) → Bytes text → tokens_right list text ≡ true → none_empty (stream_of list text) ≡ true
    → within_limits (stream_tree (stream_of list text)) ≡ true → fits (stream_tree (stream_of list text)) ≡ true
right_fits list text b h e l =
    let (sound, is) = every_list list text h in
    let s = stream_of list text in
    let bytes : all byte_token (tokens list text) ≡ true =
    all_tab_by byte_token (token_at list text) 0 (count list) λ k l.
    byte_token_lem (kind_at list (0 + k)) (text_at list text (0 + k)) (text_bytes_lem list text (0 + k) b) in
    let fine =
    all_both sound_token byte_token fine_token (flat_tokens s) (λ t p q. (and_iff (sound_token t) (byte_token t)).1 (p, q))
    (sound_tokens s sound) (rw is.same at bytes) in
    stream_fits s fine e l

pub tokens_prepared : TokensPrepared
unfolding token_image
tokens_prepared list text area image b h =
    let s = stream_of list text in
    let (right, h₁) = needs_then (tokens_right list text) _ _ h in
    let (some, h₂) = needs_then (none_empty s) _ _ h₁ in
    let (within, h₃) = needs_then (within_limits (stream_tree s)) _ _ h₂ in
    let (_, h₄) = needs_then (leb (length (image_of (stream_tree s))) area) _ _ h₃ in
    let image_is : image_of (stream_tree s) ≡ image = cc h₄ in
    let f = right_fits list text b right some within in
    (rw (← image_is) (passes_check (stream_tree s) f), rw (← image_is) (read_back (stream_tree s) f).tree)

pub tokens_rust : TokensRust
tokens_rust list text area image s b h i e =
    rw (tokens_read list text s h i).1 at (tokens_prepared list text area image b e).1
