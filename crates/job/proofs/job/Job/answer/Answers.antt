use Rattle.std.proofs.Common.{string_bytes}
use Rattle.std.proofs.lemmas.Result.{MatchResult-weaker}
use Rattle.job.proofs.Answering.{answers_command}
use Rattle.job.proofs.job.Job.answer.Goals as goal

pub returns-in-Ok : goal.returns-in-Ok
returns-in-Ok c =
    MatchResult-weaker c.reply.result c.reply.ensures
    (λ s r. answers_command c.args.line c.args.number c.args.self.now (string_bytes s)
    c.reply.new.self c.in-Ok.command c.in-Ok.ensures r)
    (λ _ same. same)
