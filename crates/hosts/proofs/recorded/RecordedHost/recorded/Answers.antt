-- The first record that is asked for answers.
use Rattle.std.proofs.Common.{◌≡◌, ◌∙◌, ap, refl, Option, Some, None, option_map, rules, tests, to_bits}
use denote.Ref.{Bor}
use lib.Ieee.{binary64, of_bits}
use Rattle.std.proofs.lemmas.Iterator.{YieldsList-from_slice}
use Rattle.std.proofs.lemmas.Iterator.Search.{find_from_yields_List}
use Rattle.hosts.specs.declared.recorded.Recorded.{Recorded}
use Rattle.hosts.specs.Recorded.{is_for, function_number}
use Rattle.hosts.proofs.recorded.RecordedHost.recorded.Goals as goal

behind : (o : Option (Bor Recorded)) → option_map (λ (r : Bor Recorded). of_bits binary64 r.now.answer) o
    ≡ option_map (λ (r : Recorded). of_bits binary64 r.answer) (option_map (λ (r : Bor Recorded). r.now) o)
behind None = refl
behind (Some r) = refl

pub returns : goal.returns
returns c =
    let asked = λ (r : Recorded). is_for r (function_number c.args.function) (to_bits binary64 c.args.x) (to_bits binary64 c.args.y) in
    let rs = c.args.self.now.records.now in
    let read : c.map.result ≡ option_map (λ (r : Bor Recorded). of_bits binary64 r.now.answer) c.find.result = search rules in
    let found = find_from_yields_List asked _ _ c.find.result c.find.ensures.ran (YieldsList-from_slice rs cc) (λ x b q k. search (rules, tests)) in
    let e = read ∙ behind c.find.result ∙ ap (option_map (λ (r : Recorded). of_bits binary64 r.answer)) found in
    search rules
