use Rattle.std.proofs.Common.{rules, ◌≡◌, length, take, ◌∙◌, zero-add, arith, Err}
use Rattle.definition.specs.Basics.{joined, refusal_of}
use Rattle.definition.specs.Concatenation.{stage3}
use Rattle.stages.specs.token_tree.Table.{tree_in}
use Rattle.stages.specs.concatenation.Check.{concatenation_with}
use Rattle.stages.specs.concatenation.running_check.Running.{running_of}
use Rattle.stages.proofs.Lists.{end_at}
use Rattle.stages.proofs.concatenation.stage3.Done.{done_none, head_is, done_more, done_off, done_end, refused_is, ok_is}
use Rattle.stages.proofs.concatenation.stage3.Parts.{part_at, part_kept, rest_kept, part_are, left_on, room_for, slice_few}
use Rattle.stages.proofs.concatenation.stage3.stage3.Goals as goal

pub loop-i-init : goal.loop-i-init
loop-i-init c =
    let s = c.args in
    record {
      left = λ cc e z. zero-add (length (joined cc));
      done = λ cc e z h. (h, done_none s.image.now s.kept.now s.heads.now cc);
    }

pub slice_bounds-comps-end : goal.slice_bounds-comps-end
slice_bounds-comps-end c =
    let v = c.loop-i in
    let n = c.components_of-len in
    let room = room_for _ _ _ _ c.requires v.k.0 v.i n.result v.invariant.left c.loop-i-test.true n.ensures in
    let a = room.inside in
    search rules

pub merged-requires : goal.merged-requires
merged-requires c =
    let v = c.loop-i in
    let n = c.components_of-len in
    let room = room_for _ _ _ _ c.requires v.k.0 v.i n.result v.invariant.left c.loop-i-test.true n.ensures in
    rw c.room-first.ensures (slice_few c.args.kept.now v.k.0 n.result room)

pub check-requires : goal.check-requires
check-requires c =
    let s = c.args in
    let (cc, f) = c.requires in
    let v = c.loop-i in
    let n = c.components_of-len in
    let p = part_at s.image.now v.i cc f.sizes (rw f.count c.loop-i-test.true) in
    let room = room_for _ _ _ _ c.requires v.k.0 v.i n.result v.invariant.left c.loop-i-test.true n.ensures in
    let h = (v.invariant.done cc f.count f.sizes f.are).0 in (
      s.image.now,
      tree_in s.image.now,
      p.here,
      rw c.room-first.ensures (part_are s.image.now s.kept.now v.k.0 v.i cc p h n.result (n.ensures ∙ p.size)),
      rw c.room-first.ensures (slice_few s.kept.now v.k.0 n.result room),
    )

pub overflow_add-k : goal.overflow_add-k
overflow_add-k c =
    let v = c.loop-i in
    let n = c.components_of-len in
    let room = room_for _ _ _ _ c.requires v.k.0 v.i n.result v.invariant.left c.loop-i-test.true n.ensures in
    let few = room.few in
    omega (arith, few)

pub returns-in_err-running : goal.returns-in_err-running
returns-in_err-running c cc e z h =
    let s = c.args in
    let v = c.loop-i in
    let n = c.components_of-len in
    let w = v.invariant.done cc e z h in
    let p = part_at s.image.now v.i cc z (rw e c.loop-i-test.true) in
    let q = c.in_err-running.field-0.0 in
    let same : c.from_residual.result ≡ Err q = grind arith in
    rw same
    (refused_is s.image.now s.kept.now (take s.c v.heads) (stage3 0 cc) (refusal_of q.number q.concatenation q.component)
    (done_off s.image.now s.kept.now v.heads v.i cc w.1 p.here p.rest _ (c.in_err-running.ensures s.image.now (tree_in s.image.now) p.here
    (rw c.room-first.ensures (part_are s.image.now s.kept.now v.k.0 v.i cc p w.0 n.result (n.ensures ∙ p.size))))))

pub loop-i-preserved : goal.loop-i-preserved
loop-i-preserved c =
    let s = c.args in
    let v = c.loop-i in
    let l = c.loop-i-test.true in
    let n = c.components_of-len in
    let r = c.in_ok-running.running in
    let room = room_for _ _ _ _ c.requires v.k.0 v.i n.result v.invariant.left c.loop-i-test.true n.ensures in
    let fit = c.requires.1.heads_fit in
    let long = v.auto.heads in
    record {
      left = λ cc e z. left_on s.image.now cc v.k.0 v.i n.result (part_at s.image.now v.i cc z (rw e l)) n.ensures (v.invariant.left cc e z);
      done = λ cc e z h.
          let w = v.invariant.done cc e z h in
          let p = part_at s.image.now v.i cc z (rw e l) in
          let y : n.result ≡ length p.here = n.ensures ∙ p.size in
          let a = part_are s.image.now s.kept.now v.k.0 v.i cc p w.0 n.result y in
          let k = part_kept s.image.now s.kept.now v.k.0 v.i cc p w.0 in
          let m = c.merged.ensures.1 s.image.now (tree_in s.image.now) p.here (rw c.room-first.ensures a) in (
            rw y (rest_kept s.image.now s.kept.now v.k.0 v.i cc p w.0),
            done_more s.image.now s.kept.now v.heads v.i cc w.1 p.here p.rest _ (concatenation_with p.here (running_of r))
                (head_is s.image.now s.kept.now v.k n.result c.merged.result r p.here m y room k)
                (c.in_ok-running.ensures s.image.now (tree_in s.image.now) p.here (rw c.room-first.ensures a)) (omega (arith, fit, long, l)),
          );
    }

pub returns : goal.returns
returns c cc e z h =
    let s = c.args in
    let v = c.loop-i in
    let w = (v.invariant.done cc e z h).1 in
    let i : v.i ≡ s.c = omega (arith, c.loop-i-test.false, v.auto.i-end) in
    ok_is s.image.now s.kept.now (take s.c v.heads) (stage3 0 cc) w.done
    (done_end s.image.now s.kept.now v.heads v.i cc w (end_at cc v.i s.c e c.loop-i-test.false)) (rw i at w.heads_are)
