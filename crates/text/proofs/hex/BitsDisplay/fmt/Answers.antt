use Rattle.std.proofs.Common.{arith}
use Rattle.text.proofs.Padded.{padded_capitals}
use Rattle.text.proofs.hex.BitsDisplay.fmt.Goals as goal

pub returns-clause-writes : goal.returns-clause-writes
returns-clause-writes g c =
    let text = padded_capitals c.args.self.now.0 (omega arith) in
    let h = rw (c.laid_out.ensures, c.in_radix.ensures, text) at c.write.ensures.writes in
    h
