-- What a writer has written: bytes from its place on, as far as they fit, in the same lent buffer. (A place is a usize, and so as it is
-- when capped; written capped, a proof need not know that it is one.)
use Rattle.std.specs.Prelude.{◌≡◌, refl, ◌<◌, ◌+◌, ◌^◌, ◌∷◌, ◌++◌}
use Rattle.std.proofs.Common.{sym, ◌∙◌, append_assoc, append-nil, arith, add-one, take-suc}
use Rattle.definition.specs.Prelude.{ℕ, List, [], length, get_or, take}
use Rattle.listing.specs.writer.Put.{capped, Put, put_nothing, put_length, ◌⨾◌ as ◌⨾ᵇ◌}
use Rattle.listing.specs.declared.writer.Writer.{Writer}

pub record Writes (w : Writer) (bs : List ℕ) (v : Writer) : Type 0 where
  pub same : v.out.ghost_name ≡ w.out.ghost_name
  pub put : Put w.out.now (capped w.at) bs v.out.now (capped v.at)

pub writes_none : (w : Writer) → length w.out.now < 2 ^ 63 → Writes w [] w
writes_none w h = record { same = refl; put = put_nothing w.out.now (capped w.at) h (omega arith) }

-- one thing and then another
infixr 20 ◌⨾◌
pub ◌⨾◌ : {u v w : Writer} {a b : List ℕ} → Writes u a v → Writes v b w → Writes u (a ++ b) w
◌⨾◌ x y = record { same = y.same ∙ x.same; put = x.put ⨾ᵇ y.put }

pub read_as : {w v : Writer} {a b : List ℕ} → a ≡ b → Writes w a v → Writes w b v
read_as e x = rw e at x

-- the bytes of a list, one by one
pub writes_next : {u v w : Writer} (s : List ℕ) (i : ℕ) → i < length s → Writes u (take i s) v → Writes v (get_or s i 0 ∷ []) w → Writes u (take (i + 1) s) w
writes_next s i h x y = read_as (rw (add-one, take-suc s i 0)) (x ⨾ y)

-- ---- on the way to a whole of which `rest` is still to come

pub record Toward (w : Writer) (whole rest : List ℕ) (v : Writer) : Type 0 where
  pub done : List ℕ
  pub split : done ++ rest ≡ whole
  pub writes : Writes w done v

pub toward_start : (w : Writer) (whole : List ℕ) → length w.out.now < 2 ^ 63 → Toward w whole whole w
toward_start w whole h = record { done = []; split = refl; writes = writes_none w h }

-- the next part of the rest is written
pub toward : {u v w : Writer} {whole rest : List ℕ} (a next : List ℕ) → rest ≡ a ++ next → Toward u whole rest v → Writes v a w → Toward u whole next w
toward a next e x y =
    record { done = x.done ++ a; split = rw (append_assoc, ← e) x.split; writes = x.writes ⨾ y }

pub toward_end : {w v : Writer} {whole rest : List ℕ} → rest ≡ [] → Toward w whole rest v → Writes w whole v
toward_end {w} {v} {whole} {rest} e x = read_as (let f : x.done ++ rest ≡ x.done = rw e (append-nil x.done) in sym f ∙ x.split) x.writes

pub toward_length : {w v : Writer} {whole rest : List ℕ} → Toward w whole rest v → length v.out.now ≡ length w.out.now
toward_length x = put_length x.writes.put
