use Rattle.std.proofs.Common.{◌≡◌, ◌*◌, ◌/◌, length, map, ap, ◌∙◌, arith}
use Rattle.questions.specs.Spelling.{coordinates, pair_point}
use Rattle.questions.proofs.Held.{length_coordinates, coordinates_pairs}
use Rattle.questions.proofs.arguments.points_of.Goals as goal

pub returns-in_default : goal.returns-in_default
returns-in_default c ps e = omega (arith, length_coordinates ps, e, c.as_chunks.ensures.back_len)

pub returns : goal.returns
returns c =
    let xs = c.args.numbers.now in
    let even : length c.args.numbers.now ≡ 2 * (length c.args.numbers.now / 2) = omega (arith, c.as_chunks.ensures.back_len) in
    ap coordinates (c.in_ok-each_point.ensures ∙ ap (map pair_point) c.as_chunks.ensures.front)
    ∙ coordinates_pairs (length xs / 2) xs even
