use Rattle.std.proofs.Common.{◌≡◌, ◌-◌}
use Rattle.measures.specs.Pieces.{told, cut_from}
use Rattle.measures.proofs.pairs.Densify.ask_along.Given as goal

abbrev pub invariant-loop-k : goal.invariant-loop-k
invariant-loop-k g l =
    let at = g.S.Space.between l.self.space.now l.pair in
    told (cut_from at l.pieces (l.pieces - l.k) l.k) ≡ told (cut_from at l.pieces (l.pieces - 1) 1)
