use Rattle.std.proofs.Common.{◌-◌, length, rules, subst}
use Rattle.std.specs.Io.KnownBytes.{Consumes}
use Rattle.std.proofs.KnownBytes.{Consumes-trans}
use Rattle.text.proofs.Filled.{filled_on}
use Rattle.text.proofs.input.fill.Goals as goal

pub loop-count-preserved : goal.loop-count-preserved
loop-count-preserved g c =
    let from = c.loop-count.count in
    let room = length c.loop-count.buffer - from in
    let read = c.in_ok-more.ensures in (
      search rules,
      search rules,
      subst (Consumes _ _) (filled_on from room c.in_ok-more.more c.loop-count.buffer c.read.new.buf c.loop-count.invariant.1 read.bound.0)
          (Consumes-trans _ _ _ _ _ c.loop-count.invariant.2 read.bytes.0),
    )
