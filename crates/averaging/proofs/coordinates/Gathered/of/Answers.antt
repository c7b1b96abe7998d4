-- One corner more: its own coordinates, and those of the corners before it, which are unchanged.
use Rattle.std.proofs.Common.{◌≡◌, ℕ, ◌<◌, ◌≢◌, ◌^◌, length, [], set, arith, get_or-set_same, get_or-set_other, length-set, below_more}
use Rattle.averaging.specs.Pass.{gathered_at, corner_coordinate}
use Rattle.averaging.proofs.coordinates.Gathered.of.Goals as goal

pub loop-u-preserved : goal.loop-u-preserved
unfolding corner_coordinate
loop-u-preserved g c =
    let l = c.loop-u in
    let inside : l.u < length l.corners = omega arith in
    record {
      whole = simp length-set l.invariant.whole;
      passed = λ v a h k.
          below_more
          (λ (v : ℕ). (gathered_at (set l.corners l.u c.biased_vertex.result) a v ≡ corner_coordinate c.args.vertices.now c.args.cell.now a v) × (gathered_at (set l.corners l.u c.biased_vertex.result) a v < 2 ^ 30)) l.u
          (λ v j. let ne : v ≢ l.u = omega arith in rw (get_or-set_other l.corners l.u v c.biased_vertex.result [] ne) (l.invariant.passed v a j k))
          (rw (get_or-set_same l.corners l.u c.biased_vertex.result [] inside) (c.biased_vertex.ensures a k)) v h;
    }
