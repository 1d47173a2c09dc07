-- A walk by `Items` over one run: where it begins, what stays, and what a step says of the run.
use Rattle.std.specs.Prelude.{◌+◌, ◌-◌}
use Rattle.std.proofs.Common.{Bor, ◌≡◌, ◌<◌, sym, ap, ◌∙◌}
use Rattle.definition.specs.Prelude.{ℕ, List}
use Rattle.stages.specs.token_tree.Items.{Walks, Step}
use Rattle.stages.specs.token_tree.Table.{skip_in, start_or, single_of}
use Rattle.stages.specs.declared.token_tree.types.Tree.{Tree}
use Rattle.stages.specs.declared.token_tree.types.PBind.{PBind}
use Rattle.stages.specs.declared.token_tree.types.PText.{PText}
use Rattle.stages.specs.declared.token_tree.items.Items.{Items}
use Rattle.stages.specs.declared.token_tree.items.Seen.{Seen}

-- what a walk has of its run
pub record Over (image : List ℕ) (t : Tree) (stop tail : ℕ) (i : Items) : Type 0 where
  pub image_is : i.image.now ≡ image
  pub tree_is : i.tree ≡ t
  pub stop_is : i.stop.0 ≡ stop
  pub end_is : i.«end».0 ≡ tail
  pub walks : Walks i

pub record Begun (image : List ℕ) (t : Tree) (stop tail e : ℕ) (i : Items) : Type 0 where
  pub over : Over image t stop tail i
  pub at : i.at.0 ≡ e
  pub text : i.s.0 ≡ start_or image t e stop tail

pub begun : (image : Bor (List ℕ)) (t : Tree) (r stop : PBind) (tail : PText) (i k : Items) → i ≡ k
    → k ≡ record { image = image; tree = t; at = r; s = k.s; stop = stop; «end» = tail } → Walks k → k.s.0 ≡ start_or image.now t r.0 stop.0 tail.0
    → Begun image.now t stop.0 tail.0 r.0 i
begun image t r stop tail i k p q w x =
    rw p (record {
      over = record {
        image_is = ap (λ (y : Items). y.image.now) q;
        tree_is = ap (λ (y : Items). y.tree) q;
        stop_is = ap (λ (y : Items). y.stop.0) q;
        end_is = ap (λ (y : Items). y.«end».0) q;
        walks = w;
      };
      at = ap (λ (y : Items). y.at.0) q;
      text = x;
    })

module _ (image : List ℕ) (t : Tree) (stop tail : ℕ) (i : Items) (w : Over image t stop tail i) where
  pub record Went (x : Seen) (j : Items) : Type 0 where
    pub below : i.at.0 < stop
    pub here : x.at.0 ≡ i.at.0
    pub behind : x.next.0 ≡ j.at.0
    pub next : j.at.0 ≡ i.at.0 + skip_in image t i.at.0
    pub text : j.s.0 ≡ start_or image t j.at.0 stop tail
    pub byte : x.byte ≡ single_of image (t.text + i.s.0) (j.s.0 - i.s.0)
    pub over : Over image t stop tail j

  pub went : (x : Seen) (j : Items) → Step i x j → Walks j → Went x j
  went x j h r =
      let later : j.at.0 ≡ x.next.0 = ap (λ (y : Items). y.at.0) h.left in
      record {
        below = rw (← w.stop_is) h.below;
        here = ap (λ p. p.0) h.at;
        behind = sym later;
        next = later ∙ rw (← w.image_is, ← w.tree_is) h.next;
        text = rw (later, ← w.image_is, ← w.tree_is, ← w.stop_is, ← w.end_is) h.text;
        byte = rw (← w.image_is, ← w.tree_is) h.byte;
        over = record {
          image_is = ap (λ (y : Items). y.image.now) h.left ∙ w.image_is;
          tree_is = ap (λ (y : Items). y.tree) h.left ∙ w.tree_is;
          stop_is = ap (λ (y : Items). y.stop.0) h.left ∙ w.stop_is;
          end_is = ap (λ (y : Items). y.«end».0) h.left ∙ w.end_is;
          walks = r;
        };
      }
