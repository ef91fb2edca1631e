use Rattle.std.proofs.Common.{length, ◌∙◌, arith}
use Rattle.std.proofs.lemmas.List.{drop-set-lt}
use Rattle.plan.proofs.Playing.{more, ended}
use Rattle.plan.proofs.run.play.Goals as goal

pub loop-k-preserved : goal.loop-k-preserved
loop-k-preserved g c =
    let n = length c.args.calls.now in (
      drop-set-lt n c.loop-k.answers c.loop-k.k c.turn-next.result.1 (omega arith) ∙ c.loop-k.invariant.0,
      λ at st.
          more g.S.Space.far g.S.Space.ratio g.R.CoordsIter.coords (length c.args.table.now)
          (length c.args.cells.now) c.args.calls.now at c.loop-k.k c.loop-k.table
          c.loop-k.cells c.loop-k.state c.loop-k.answers c.index-calls-k.result
          c.turn-next.new.table c.turn-next.new.cells c.turn-next.result.0
          c.turn-next.result.1 c.loop-k.auto.table c.loop-k.auto.cells (omega arith)
          (omega (arith, c.requires, c.loop-k.auto.answers)) c.index-calls-k.is c.turn-next.ensures
          (c.loop-k.invariant.1 at st),
    )

pub returns : goal.returns
returns g c = record {
  rest = c.loop-k.invariant.0;
  book = λ at st.
      ended g.S.Space.far g.S.Space.ratio g.R.CoordsIter.coords (length c.args.table.now)
      (length c.args.cells.now) c.args.calls.now at c.loop-k.k c.loop-k.table
      c.loop-k.cells c.loop-k.state c.loop-k.answers (omega arith) (c.loop-k.invariant.1 at st);
}
