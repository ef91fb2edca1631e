use Rattle.std.proofs.Common.{sym}
use Rattle.text.proofs.Runs.{front_run}
use Rattle.text.proofs.line.Line.split_front.Goals as goal

pub returns-clause-front : goal.returns-clause-front
returns-clause-front c =
    let f = c.count_before-count.ensures in
    sym (front_run c.args.self.bytes.now c.count_before-count.result
    (record { within = f.within; before = f.before; found = f.found }))
